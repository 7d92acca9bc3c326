-- A leaf that a text spells under a simple type fits it: its canonical text breaks no more rules than the text.
use Rattle.std.proofs.Common.{◌≡◌, ◌≢◌, ◌⊎◌, ℕ, inl, inr, List, Option, Some, None, refl, ap, subst, ◌∙◌}
use Rattle.lexical_core.specs.declared.rule.Rule.{Rule}
use Rattle.lexical_core.specs.declared.rule.Rule.TheVariants.{BadText, BadLength, PatternFails, NotACode, Digits, OutOfRange}
use Rattle.data_types.specs.WhiteSpace.{IsCollapsed}
use Rattle.data_types.specs.Leaf.{Leaf, Bytes, Number, Code, IsDateLeaf, IsLeaf, length_of}
use Rattle.data_types.specs.Canonical.{IsCanonicalLeaf}
use Rattle.data_types.specs.declared.kind.Kind.{Kind}
use Rattle.data_types.specs.declared.kind.Kind.TheVariants as kind
use Rattle.data_types.proofs.CollapseLaw.{one_collapsed}
use Rattle.data_types.proofs.LeafLaws.{one_leaf}
use Rattle.data_types.proofs.CanonicalLemmas.{has_canonical, canonical_spells}
use Rattle.facets.specs.declared.simple.Simple.{Simple}
use Rattle.facets.specs.Facets.{HasLength}
use Rattle.facets.specs.Rules.{IsAsked, BreaksLeafRule}
use Rattle.facets.specs.LeafUnder.{IsLeafBy, GivesLeaf, IsCanonicalBy, Fits}
use Rattle.facets.proofs.RuleLemmas.{has_form}

pub is_text : (k : Kind) → (k ≡ kind.Text) ⊎ (k ≢ kind.Text)
is_text kind.Text = inl refl
is_text k = inr (λ e. absurd cc)

-- of a kind other than texts a leaf and its canonical text are those of the kind
leaf_of_kind : (k : Kind) (codes : Option (List (List ℕ))) (text : List ℕ) (leaf : Leaf) → k ≢ kind.Text → IsLeafBy k codes text leaf → IsLeaf k text leaf
leaf_of_kind kind.Text codes text leaf other h = absurd (other refl)
leaf_of_kind k codes text leaf other h = h

leaf_by_kind : (k : Kind) (codes : Option (List (List ℕ))) (text : List ℕ) (leaf : Leaf) → k ≢ kind.Text → IsLeaf k text leaf → IsLeafBy k codes text leaf
leaf_by_kind kind.Text codes text leaf other h = absurd (other refl)
leaf_by_kind k codes text leaf other h = h

canonical_by_kind : (k : Kind) (codes : Option (List (List ℕ))) (leaf : Leaf) (text : List ℕ) → k ≢ kind.Text → IsCanonicalLeaf k leaf text → IsCanonicalBy k codes leaf text
canonical_by_kind kind.Text codes leaf text other h = absurd (other refl)
canonical_by_kind k codes leaf text other h = h

-- a text is its own canonical text
canonical_text : (k : Kind) (codes : Option (List (List ℕ))) (leaf : Leaf) (text : List ℕ) → k ≡ kind.Text → IsLeafBy k codes text leaf → IsCanonicalBy k codes leaf text
canonical_text kind.Text None leaf text e h = h
canonical_text kind.Text (Some codes) (Code place) text e h = h
canonical_text kind.Text (Some codes) leaf text e h = absurd h
canonical_text k codes leaf text e h = absurd cc

-- lengths are those of the leaf
same_length : (k : Kind) (leaf : Leaf) (own text : List ℕ) → k ≢ kind.Text → length_of k own leaf ≡ length_of k text leaf
same_length kind.Text leaf own text other = absurd (other refl)
same_length k leaf own text other = refl

-- what collapses to a date is all that its own text collapses to
asked_date : (k : Kind) (leaf : Leaf) (text own asked : List ℕ) → IsDateLeaf k text leaf → IsDateLeaf k own leaf → IsCollapsed own asked → IsCollapsed text asked
asked_date k (Bytes date) text own asked h g ask = subst (IsCollapsed text) (one_collapsed own date asked g.0 ask) h.0
asked_date k leaf text own asked h g ask = absurd h

same_asked : (k : Kind) (codes : Option (List (List ℕ))) (leaf : Leaf) (text own asked : List ℕ) → k ≢ kind.Text → IsLeaf k text leaf → IsLeaf k own leaf
    → IsAsked k codes own asked → IsAsked k codes text asked
same_asked kind.Text codes leaf text own asked other h g ask = absurd (other refl)
same_asked kind.Decimal codes leaf text own asked other h g ask = absurd ask
same_asked kind.Boolean codes leaf text own asked other h g ask = absurd ask
same_asked kind.Binary codes leaf text own asked other h g ask = absurd ask
same_asked kind.Envelope codes leaf text own asked other h g ask = absurd ask
same_asked k codes leaf text own asked other h g ask = asked_date k leaf text own asked h g ask

-- a rule that one text of a leaf breaks, all its texts break
same_breaks : (simple : Simple) (leaf : Leaf) (text own : List ℕ) → simple.kind ≢ kind.Text → IsLeaf simple.kind text leaf → IsLeaf simple.kind own leaf
    → (rule : Rule) → BreaksLeafRule simple own rule → BreaksLeafRule simple text rule
same_breaks simple leaf text own other h g BadText b = absurd (b (has_form simple.kind own leaf g))
same_breaks simple leaf text own other h g BadLength (has, spelled, is, none) =
    let same : spelled ≡ leaf = one_leaf simple.kind own spelled leaf is g in (
      has,
      leaf,
      h,
      subst (λ (n : ℕ). HasLength simple n → ⊥) (ap (length_of simple.kind own) same ∙ same_length simple.kind leaf own text other) none,
    )
same_breaks simple leaf text own other h g PatternFails (pattern, asked, is, ask, none) =
    (pattern, asked, is, same_asked simple.kind simple.codes leaf text own asked other h g ask, none)
same_breaks simple leaf text own other h g NotACode b = absurd (other b.0)
same_breaks simple leaf text own other h g Digits (e, form, none) =
    let there : IsLeaf kind.Decimal text leaf = subst (λ (k : Kind). IsLeaf k text leaf) e h in
    let here : IsLeaf kind.Decimal own leaf = subst (λ (k : Kind). IsLeaf k own leaf) e g in (
      e,
      has_form kind.Decimal text leaf there,
      λ n is. none n (subst (IsLeaf kind.Decimal own) (one_leaf kind.Decimal text leaf (Number n) there is) here),
    )
same_breaks simple leaf text own other h g OutOfRange (e, n, is, none) =
    let there : IsLeaf kind.Decimal text leaf = subst (λ (k : Kind). IsLeaf k text leaf) e h in
    let here : IsLeaf kind.Decimal own leaf = subst (λ (k : Kind). IsLeaf k own leaf) e g in
    (e, n, subst (IsLeaf kind.Decimal text) (one_leaf kind.Decimal own leaf (Number n) here is) there, none)
same_breaks simple leaf text own other h g rule b = absurd b

-- a leaf that a text gives is given by its canonical text
pub given_fits : (simple : Simple) (text : List ℕ) (leaf : Leaf) → GivesLeaf simple text leaf → Fits simple leaf
given_fits simple text leaf given = elim (is_text simple.kind) [
  | inl e ↦ (text, canonical_text simple.kind simple.codes leaf text e given.spelled, given)
  | inr other ↦
      let h = leaf_of_kind simple.kind simple.codes text leaf other given.spelled in
      let own = has_canonical simple.kind leaf (text, h) in
      let g = canonical_spells simple.kind leaf own.0 (text, h) own.1 in (
        own.0,
        canonical_by_kind simple.kind simple.codes leaf own.0 other own.1,
        record {
          spelled = leaf_by_kind simple.kind simple.codes own.0 leaf other g;
          sound = λ rule b. given.sound rule (same_breaks simple leaf text own.0 other h g rule b);
        },
      )
]
