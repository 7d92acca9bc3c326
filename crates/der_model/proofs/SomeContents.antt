-- No contents octets neither are those that a value holds nor break a rule.
use Rattle.std.proofs.Common.{◌≡◌, ◌≢◌, ◌⊎◌, inl, inr, ℕ, List, Option, Some, None, refl}
use Rattle.std.specs.Prelude.{Result, Ok, Err}
use Rattle.lexical_core.specs.Tree.{Tree}
use Rattle.lexical_core.specs.declared.rule.Rule.{Rule}
use Rattle.lexical_core.specs.declared.rule.Rule.TheVariants as rule
use Rattle.data_types.specs.Leaf.{Leaf, Bytes, Number, Flag, IsLeaf, IsLeafOf}
use Rattle.data_types.specs.Canonical.{IsCanonicalLeaf}
use Rattle.data_types.specs.declared.kind.Kind.{Kind}
use Rattle.data_types.specs.declared.kind.Kind.TheVariants as kind
use Rattle.data_types.proofs.CanonicalLemmas.{has_canonical, canonical_spells}
use Rattle.data_types.proofs.LeavesByKind.{text_leaves, decimal_leaves, flag_leaves, binary_leaves, date_leaves}
use Rattle.facets.specs.declared.simple.Simple.{Simple}
use Rattle.facets.specs.LeafUnder.{Fits, LeafUnder, IsCanonicalBy, IsLeafBy}
use Rattle.facets.specs.Rules.{BreaksFirst}
use Rattle.facets.proofs.RuleLemmas.{has_form}
use Rattle.facets.proofs.SomeAnswer.{some_answer}
use Rattle.fragments.specs.Plain.{IsPlain}
use Rattle.der_model.specs.DerMessage.{DerMessage}
use Rattle.der_model.specs.LeafContents.{IsTextContents, IsDecimalContents, IsBooleanContents, IsBinaryContents, IsDateContents, IsContents, HasContentsForm, HasCodes, ContentsUnder}
use Rattle.der_model.specs.OpenParts.{IsPrimitive}
use Rattle.der_model.specs.Structures.{LeafOf, Fragment, Structure, Holds, Fields, OneOf, Items, Empty}
use Rattle.der_model.specs.Faults.{IsHeldIn, BreaksIn}
use Rattle.der_model.specs.SomeAnswers.{SomeContents}
use Rattle.der_model.proofs.EitherWay.{Told, either}

-- ---- the leaf of contents has a canonical text

text_leaf : (octets : List ℕ) (leaf : Leaf) → IsTextContents octets leaf → IsLeafOf kind.Text leaf
text_leaf octets (Bytes bytes) (xml, is) = (text_leaves bytes).1 (rw is xml)
text_leaf octets leaf h = absurd h

decimal_leaf : (octets : List ℕ) (leaf : Leaf) → IsDecimalContents octets leaf → IsLeafOf kind.Decimal leaf
decimal_leaf octets (Number n) h = (decimal_leaves n).1 h.0
decimal_leaf octets leaf h = absurd h

boolean_leaf : (octets : List ℕ) (leaf : Leaf) → IsBooleanContents octets leaf → IsLeafOf kind.Boolean leaf
boolean_leaf octets (Flag flag) h = flag_leaves flag
boolean_leaf octets leaf h = absurd h

binary_leaf : (octets : List ℕ) (leaf : Leaf) → IsBinaryContents octets leaf → IsLeafOf kind.Binary leaf
binary_leaf octets (Bytes bytes) (are, is) = (binary_leaves bytes).1 (rw is are)
binary_leaf octets leaf h = absurd h

date_leaf : (k : Kind) (octets : List ℕ) (leaf : Leaf) → k ≢ kind.Text → k ≢ kind.Binary → IsDateContents k octets leaf → IsLeafOf k leaf
date_leaf k octets (Bytes bytes) no_text no_binary (date, is) = (date_leaves k bytes no_text no_binary).1 (rw is date)
date_leaf k octets leaf no_text no_binary h = absurd h

leaf_of_contents : (k : Kind) (codes : Option (List (List ℕ))) (octets : List ℕ) (leaf : Leaf) → (HasCodes k codes → ⊥) → IsContents k codes octets leaf → IsLeafOf k leaf
leaf_of_contents kind.Text None octets leaf bare h = text_leaf octets leaf h
leaf_of_contents kind.Text (Some codes) octets leaf bare h = absurd (bare tt)
leaf_of_contents kind.Decimal codes octets leaf bare h = decimal_leaf octets leaf h
leaf_of_contents kind.Boolean codes octets leaf bare h = boolean_leaf octets leaf h
leaf_of_contents kind.Binary codes octets leaf bare h = binary_leaf octets leaf h
leaf_of_contents kind.Envelope codes octets leaf bare h = absurd h
leaf_of_contents k codes octets leaf bare h = date_leaf k octets leaf (λ e. absurd cc) (λ e. absurd cc) h

canonical_by : (k : Kind) (codes : Option (List (List ℕ))) (leaf : Leaf) (text : List ℕ) → (HasCodes k codes → ⊥) → IsCanonicalLeaf k leaf text → IsCanonicalBy k codes leaf text
canonical_by kind.Text None leaf text bare h = h
canonical_by kind.Text (Some codes) leaf text bare h = absurd (bare tt)
canonical_by k codes leaf text bare h = h

leaf_by : (k : Kind) (codes : Option (List (List ℕ))) (text : List ℕ) (leaf : Leaf) → (HasCodes k codes → ⊥) → IsLeaf k text leaf → IsLeafBy k codes text leaf
leaf_by kind.Text None text leaf bare h = h
leaf_by kind.Text (Some codes) text leaf bare h = absurd (bare tt)
leaf_by k codes text leaf bare h = h

has_codes : (k : Kind) (codes : Option (List (List ℕ))) (texts : List (List ℕ)) → k ≡ kind.Text → codes ≡ Some texts → HasCodes k codes
has_codes k codes texts is has = rw (is, has) tt

module _ (simple : Simple) (octets : List ℕ) where
  abbrev Answers : Type 0
  Answers = (one : Result Leaf Rule) × ContentsUnder simple octets one

  module _ (form : HasContentsForm simple.kind simple.codes octets) where
    -- there are codes: the number is that of one, or of none
    of_codes : HasCodes simple.kind simple.codes → Told Answers
    of_codes has lacks = either ((leaf : Leaf) × IsContents simple.kind simple.codes octets leaf × Fits simple leaf) by
      where
        by : ((leaf : Leaf) × IsContents simple.kind simple.codes octets leaf × Fits simple leaf) ⊎ (((leaf : Leaf) × IsContents simple.kind simple.codes octets leaf × Fits simple leaf) → ⊥) → ⊥
        by (inl (leaf, is, fits)) = lacks (Ok leaf, (is, fits))
        by (inr none) = lacks (Err rule.NotACode, (form, has, λ leaf is fits. none (leaf, is, fits)))

    -- there are none: the leaf fits, or its canonical text breaks a rule
    of_leaf : (HasCodes simple.kind simple.codes → ⊥) → (leaf : Leaf) → IsContents simple.kind simple.codes octets leaf → Told Answers
    of_leaf bare leaf is lacks = some_answer simple text by
      where
        of : IsLeafOf simple.kind leaf
        of = leaf_of_contents simple.kind simple.codes octets leaf bare is

        text : List ℕ
        text = (has_canonical simple.kind leaf of).0

        canonical : IsCanonicalLeaf simple.kind leaf text
        canonical = (has_canonical simple.kind leaf of).1

        spelled : IsLeaf simple.kind text leaf
        spelled = canonical_spells simple.kind leaf text of canonical

        breaks : (r : Rule) → BreaksFirst simple text r → ⊥
        breaks rule.BadText f = f.broken (has_form simple.kind text leaf spelled)
        breaks rule.NotACode f = bare (has_codes simple.kind simple.codes f.broken.1 f.broken.0 f.broken.2)
        breaks rule.BadLength f = lacks (Err rule.BadLength, (bare, leaf, is, inl (text, canonical_by simple.kind simple.codes leaf text bare canonical, f)))
        breaks rule.PatternFails f = lacks (Err rule.PatternFails, (bare, leaf, is, inl (text, canonical_by simple.kind simple.codes leaf text bare canonical, f)))
        breaks rule.Digits f = lacks (Err rule.Digits, (bare, leaf, is, inl (text, canonical_by simple.kind simple.codes leaf text bare canonical, f)))
        breaks rule.OutOfRange f = lacks (Err rule.OutOfRange, (bare, leaf, is, inl (text, canonical_by simple.kind simple.codes leaf text bare canonical, f)))
        breaks r f = f.broken

        by : ((one : Result Leaf Rule) × LeafUnder simple text one) → ⊥
        by (Ok other, given) =
            lacks (Ok leaf, (is, (text, canonical_by simple.kind simple.codes leaf text bare canonical, record { spelled = leaf_by simple.kind simple.codes text leaf bare spelled; sound = given.sound })))
        by (Err r, f) = breaks r f

    of_bare : (HasCodes simple.kind simple.codes → ⊥) → Told Answers
    of_bare bare lacks = either ((leaf : Leaf) × IsContents simple.kind simple.codes octets leaf) by
      where
        by : ((leaf : Leaf) × IsContents simple.kind simple.codes octets leaf) ⊎ (((leaf : Leaf) × IsContents simple.kind simple.codes octets leaf) → ⊥) → ⊥
        by (inl (leaf, is)) = of_leaf bare leaf is lacks
        by (inr none) = lacks (Err rule.BadText, (form, bare, λ leaf is. none (leaf, is)))

  -- they have not the form, or have it
  some_answers : Told Answers
  some_answers lacks = either (HasContentsForm simple.kind simple.codes octets) by
    where
      coded : HasContentsForm simple.kind simple.codes octets → HasCodes simple.kind simple.codes ⊎ (HasCodes simple.kind simple.codes → ⊥) → ⊥
      coded form (inl has) = of_codes form has lacks
      coded form (inr bare) = of_bare form bare lacks

      by : HasContentsForm simple.kind simple.codes octets ⊎ (HasContentsForm simple.kind simple.codes octets → ⊥) → ⊥
      by (inl form) = either (HasCodes simple.kind simple.codes) (coded form)
      by (inr none) = lacks (Err rule.BadContents, none)

pub some_contents : SomeContents
some_contents simple octets = some_answers simple octets

-- contents octets that stand in a primitive value are held or break a rule
pub some_held : {P : Type 0} (m : DerMessage P) (sh : Structure P) → IsPrimitive sh → (octets : List ℕ) → Told (IsHeldIn m sh octets ⊎ ((r : Rule) × BreaksIn m sh octets r))
some_held m (Holds (LeafOf simple)) primitive octets lacks = some_contents simple octets by
  where
    by : ((one : Result Leaf Rule) × ContentsUnder simple octets one) → ⊥
    by (Ok leaf, h) = lacks (inl (leaf, h))
    by (Err r, h) = lacks (inr (r, h))
some_held m (Holds Fragment) primitive octets lacks = either ((tree : Tree) × IsPlain tree × (octets ≡ m.fragment tree)) by
  where
    by : ((tree : Tree) × IsPlain tree × (octets ≡ m.fragment tree)) ⊎ (((tree : Tree) × IsPlain tree × (octets ≡ m.fragment tree)) → ⊥) → ⊥
    by (inl held) = lacks (inl held)
    by (inr none) = lacks (inr (rule.BadContents, (refl, λ tree plain is. none (tree, plain, is))))
some_held m (Fields cs) primitive octets lacks = absurd primitive
some_held m (OneOf cs) primitive octets lacks = absurd primitive
some_held m (Items s cs) primitive octets lacks = absurd primitive
some_held m Empty primitive octets lacks = absurd primitive
