-- A leaf has one verdict; and the places of codes, and truth values, fit.
use Rattle.std.proofs.Common.{◌≡◌, ◌<◌, ℕ, zero, suc, inl, inr, Bool, List, [], ◌∷◌, length, get_or, Option, Some, MatchOption, Result, Ok, Err, refl, sym, ap, subst, ◌∙◌, arith}
use Rattle.std.specs.Prelude.{slice_get, encode_utf8_all}
use Rattle.std.specs.List.{AllByRecursion}
use Rattle.std.proofs.lemmas.Option.{slice_get-get_or, slice_get_within}
use Rattle.lexical_core.specs.Characters.{IsXmlText}
use Rattle.lexical_core.specs.declared.rule.Rule.{Rule}
use Rattle.data_types.specs.Leaf.{Leaf, Bytes, Flag, Code, IsLeaf}
use Rattle.data_types.specs.declared.kind.Kind.{Kind}
use Rattle.data_types.specs.declared.kind.Kind.TheVariants as kind
use Rattle.data_types.specs.declared.leaf.LeafRef.TheVariants as held
use Rattle.data_types.specs.LeafSteps.{IsShortKind}
use Rattle.data_types.proofs.CanonicalLemmas.{one_canonical}
use Rattle.data_types.proofs.LeavesByKind.{flag_leaves}
use Rattle.facets.specs.declared.simple.Simple.{Simple}
use Rattle.facets.specs.Checks.{place_count, place_count_by}
use Rattle.facets.specs.Rules.{IsAsked, BreaksLeafRule, BreaksFirst, BreaksPattern}
use Rattle.facets.specs.LeafUnder.{HasXmlCodes, IsCodeAt, IsCanonicalBy, IsNoCode, Fits, BreaksAs, Judges}
use Rattle.facets.proofs.FitLemmas.{given_fits}
use Rattle.facets.proofs.OneAnswer.{one_first}
use Rattle.facets.proofs.TextRules.{coded_answer, short_given}

-- ---- one verdict

-- the number of no code has no canonical text
no_canonical : (k : Kind) (codes : Option (List (List ℕ))) (leaf : Leaf) (text : List ℕ) → IsNoCode k codes leaf → IsCanonicalBy k codes leaf text → ⊥
no_canonical kind.Text (Some codes) (Code place) text none at = let within = slice_get_within codes place (encode_utf8_all text) at.1 in omega (arith, none, within)
no_canonical kind.Text (Some codes) leaf text none at = none
no_canonical k codes (Code place) text none at = at
no_canonical k codes leaf text none at = none

-- a code has one text
one_code_text : (codes : List (List ℕ)) (place : ℕ) (a b : List ℕ) → IsCodeAt codes a (Code place) → IsCodeAt codes b (Code place) → a ≡ b
one_code_text codes place a b h g =
    let same : encode_utf8_all a ≡ encode_utf8_all b = let both : Some (encode_utf8_all a) ≡ Some (encode_utf8_all b) = sym h.1 ∙ g.1 in cc in
    one_canonical kind.Text (Bytes (encode_utf8_all a)) a b (h.0, refl) (g.0, same)

-- a leaf has one canonical text under a simple type
pub one_canonical_by : (k : Kind) (codes : Option (List (List ℕ))) (leaf : Leaf) (a b : List ℕ) → IsCanonicalBy k codes leaf a → IsCanonicalBy k codes leaf b → a ≡ b
one_canonical_by kind.Text (Some codes) (Code place) a b h g = one_code_text codes place a b h g
one_canonical_by k codes leaf a b h g = one_canonical k leaf a b h g

fits_or_breaks : (simple : Simple) (leaf : Leaf) (rule : Rule) → Fits simple leaf → BreaksAs simple leaf rule → ⊥
fits_or_breaks simple leaf rule (text, own, given) (inl (other, canonical, broken)) =
    given.sound rule (subst (λ t. BreaksLeafRule simple t rule) (one_canonical_by simple.kind simple.codes leaf other text canonical own) broken.broken)
fits_or_breaks simple leaf rule (text, own, given) (inr (none, is)) = no_canonical simple.kind simple.codes leaf text none own

one_broken : (simple : Simple) (leaf : Leaf) (one two : Rule) → BreaksAs simple leaf one → BreaksAs simple leaf two → one ≡ two
one_broken simple leaf one two (inl (a, h, first)) (inl (b, g, other)) =
    one_first simple a one two first (subst (λ t. BreaksFirst simple t two) (one_canonical_by simple.kind simple.codes leaf b a g h) other)
one_broken simple leaf one two (inl (a, h, first)) (inr (none, is)) = absurd (no_canonical simple.kind simple.codes leaf a none h)
one_broken simple leaf one two (inr (none, is)) (inl (b, g, other)) = absurd (no_canonical simple.kind simple.codes leaf b none g)
one_broken simple leaf one two (inr (none, is)) (inr (other, same)) = is ∙ sym same

pub one_verdict : (simple : Simple) (leaf : Leaf) (one two : Result (Unit {0}) Rule) → Judges simple leaf one → Judges simple leaf two → one ≡ two
one_verdict simple leaf (Ok a) (Ok b) h g = refl
one_verdict simple leaf (Ok a) (Err b) h g = absurd (fits_or_breaks simple leaf b h g)
one_verdict simple leaf (Err a) (Ok b) h g = absurd (fits_or_breaks simple leaf a g h)
one_verdict simple leaf (Err a) (Err b) h g = ap Err (one_broken simple leaf a b h g)

-- ---- the places of codes

code_text : (codes : List (List ℕ)) (place : ℕ) → AllByRecursion IsXmlText codes → place < length codes → IsXmlText (get_or codes place [])
code_text [] place all lt = absurd (omega (arith, lt))
code_text (code ∷ codes) zero all lt = all.0
code_text (code ∷ codes) (suc place) all lt = code_text codes place all.1 (omega (arith, lt))

code_at : (simple : Simple) (place : ℕ) (codes : List (List ℕ)) (code : List ℕ) → simple.kind ≡ kind.Text → simple.codes ≡ Some codes → IsXmlText code → slice_get codes place ≡ Some code
    → Fits simple (Code place)
code_at simple place codes code e some (text, characters, same) there =
    let at : IsCodeAt codes text (Code place) = (characters, there ∙ ap Some (sym same)) in
    given_fits simple text (Code place) (coded_answer simple text codes (Ok (held.Code place)) e some characters at)

coded_fits : (simple : Simple) (place : ℕ) (codes : List (List ℕ)) → simple.kind ≡ kind.Text → simple.codes ≡ Some codes → AllByRecursion IsXmlText codes → place < length codes
    → Fits simple (Code place)
coded_fits simple place codes e some all lt = code_at simple place codes (get_or codes place []) e some (code_text codes place all lt) (slice_get-get_or codes place [] lt)

code_fits_by : (simple : Simple) (place : ℕ) (k : Kind) (codes : Option (List (List ℕ))) → simple.kind ≡ k → simple.codes ≡ codes
    → MatchOption codes (Unit {0}) (λ codes. AllByRecursion IsXmlText codes) → place < place_count_by k codes → Fits simple (Code place)
code_fits_by simple place kind.Text (Some codes) e some all lt = coded_fits simple place codes e some all lt
code_fits_by simple place k codes e some all lt = absurd (omega (arith, lt))

pub code_fits : (simple : Simple) (place : ℕ) → HasXmlCodes simple → place < place_count simple → Fits simple (Code place)
code_fits simple place all lt = code_fits_by simple place simple.kind simple.codes refl refl all lt

-- ---- truth values

pub flag_fits : (simple : Simple) (flag : Bool) → simple.kind ≡ kind.Boolean → Fits simple (Flag flag)
flag_fits simple flag e =
    let own = flag_leaves flag in
    let short : IsShortKind kind.Boolean = record { no_text = λ is. cc; no_decimal = λ is. cc; no_binary = λ is. cc } in
    given_fits simple own.0 (Flag flag)
    (short_given simple own.0 (Flag flag) (subst (λ (k : Kind). IsShortKind k) (sym e) short) (subst (λ (k : Kind). IsLeaf k own.0 (Flag flag)) (sym e) own.1)
    (λ b. no_pattern b))
  where
    no_pattern : BreaksPattern simple (flag_leaves flag).0 → ⊥
    no_pattern (pattern, asked, is, ask, none) = subst (λ (k : Kind). IsAsked k simple.codes (flag_leaves flag).0 asked) e ask
