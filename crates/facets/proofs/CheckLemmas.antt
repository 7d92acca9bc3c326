-- The answers of the check of a text, from what was kept and asked of it.
use Rattle.std.proofs.Common.{◌≡◌, ℕ, ◌<◌, List, length, Option, Some, None, Err, refl, sym, ap, subst, ◌∙◌, arith}
use Rattle.std.specs.Prelude.{Contains, encode_utf8_all}
use Rattle.std.specs.List.{AllByRecursion}
use Rattle.std.proofs.lemmas.Option.{slice_get_read}
use Rattle.lexical_core.specs.Characters.{IsXmlChar}
use Rattle.lexical_core.specs.declared.rule.Rule.{Rule}
use Rattle.lexical_core.specs.declared.rule.Rule.TheVariants.{BadText, BadLength, Digits}
use Rattle.data_types.specs.Leaf.{Leaf, Bytes, Code, IsLeaf}
use Rattle.data_types.specs.LeafAnswers.{IsLeafAnswer}
use Rattle.data_types.specs.LeafSteps.{HasTakenLeaf, IsShortKind}
use Rattle.data_types.specs.declared.kind.Kind.{Kind}
use Rattle.data_types.specs.declared.kind.Kind.TheVariants as kind
use Rattle.facets.specs.declared.progress.Progress.{Progress}
use Rattle.facets.specs.declared.simple.Simple.{Simple}
use Rattle.facets.specs.CodeLists.{char_count, longest_of}
use Rattle.facets.specs.LeafUnder.{IsCodeAt}
use Rattle.facets.specs.LeafChecks.{IsByteCode, HasSeen, keep_limit, limit_by, text_limit}
use Rattle.facets.proofs.CharCounts.{count_encoded}
use Rattle.facets.proofs.CodeLemmas.{no_longer}
use Rattle.facets.proofs.TextRules.{short_limit}

-- bytes that are a code are its text
pub code_at : (codes : List (List ℕ)) (text : List ℕ) (leaf : Leaf) (at : ℕ) → IsLeaf kind.Text text leaf → IsByteCode codes at leaf → IsCodeAt codes text (Code at)
code_at codes text (Bytes bytes) at (characters, is) there = (characters, there ∙ ap (λ b. Some b) is)
code_at codes text leaf at spelled there = absurd there

-- bytes that are no code are the text of none
pub no_code_at : (codes : List (List ℕ)) (text : List ℕ) (leaf : Leaf) → IsLeaf kind.Text text leaf → ((at : ℕ) → IsByteCode codes at leaf → ⊥) → Contains codes (encode_utf8_all text) → ⊥
no_code_at codes text (Bytes bytes) (characters, is) nowhere (k, lt, here) =
    nowhere k (slice_get_read codes (length codes) k (encode_utf8_all text) refl lt (sym here) ∙ ap (λ b. Some b) (sym is))
no_code_at codes text leaf spelled nowhere contains = absurd spelled

-- a text of more characters than the longest code is no code
pub too_long : (codes : List (List ℕ)) (text : List ℕ) → longest_of codes < length text → Contains codes (encode_utf8_all text) → ⊥
too_long codes text more (k, lt, here) =
    let code = no_longer codes k (encode_utf8_all text) lt in
    let same = ap (λ (b : List ℕ). char_count b) here in
    omega (arith, more, code, same, count_encoded text)

-- where the reader gives no leaf of a text, it is longer than the longest code
pub not_kept : (codes : List (List ℕ)) (text : List ℕ) (rule : Rule) → AllByRecursion IsXmlChar text → IsLeafAnswer kind.Text (Some (longest_of codes)) text (Err rule)
    → Contains codes (encode_utf8_all text) → ⊥
not_kept codes text BadLength characters (leaf, spelled, more) contains = too_long codes text more contains
not_kept codes text BadText characters none contains = none (Bytes (encode_utf8_all text), (characters, refl))
not_kept codes text Digits characters (decimal, form, none) contains = absurd cc
not_kept codes text rule characters none contains = absurd none

-- ---- what the reader of a leaf was given, by the simple type

pub coded_step : (check : Progress) (simple : Simple) (text : List ℕ) (codes : List (List ℕ)) → simple.kind ≡ kind.Text → simple.codes ≡ Some codes → HasSeen check (keep_limit simple) simple text
    → HasTakenLeaf check.step kind.Text (Some (longest_of codes)) text
coded_step check simple text codes e some taken =
    let limit : keep_limit simple ≡ Some (longest_of codes) = ap (λ (k : Kind). limit_by k simple.max simple.codes) e ∙ ap (λ (o : Option (List (List ℕ))). text_limit simple.max o) some in
    subst (λ (k : Kind). HasTakenLeaf check.step k (Some (longest_of codes)) text) e (subst (λ (o : Option ℕ). HasTakenLeaf check.step simple.kind o text) limit taken.step)

pub text_step : (check : Progress) (simple : Simple) (text : List ℕ) → simple.kind ≡ kind.Text → simple.codes ≡ None → HasSeen check (keep_limit simple) simple text
    → HasTakenLeaf check.step kind.Text simple.max text
text_step check simple text e none taken =
    let limit : keep_limit simple ≡ simple.max = ap (λ (k : Kind). limit_by k simple.max simple.codes) e ∙ ap (λ (o : Option (List (List ℕ))). text_limit simple.max o) none in
    subst (λ (k : Kind). HasTakenLeaf check.step k simple.max text) e (subst (λ (o : Option ℕ). HasTakenLeaf check.step simple.kind o text) limit taken.step)

pub short_step : (check : Progress) (simple : Simple) (text : List ℕ) → IsShortKind simple.kind → HasSeen check (keep_limit simple) simple text → HasTakenLeaf check.step simple.kind None text
short_step check simple text short taken =
    subst (λ (o : Option ℕ). HasTakenLeaf check.step simple.kind o text) (short_limit simple.kind simple.max simple.codes short) taken.step
