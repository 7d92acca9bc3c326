-- The name of a node fits its type.
use Rattle.std.proofs.Common.{◌≡◌, ℕ, ◌+◌, ◌<◌, ◌≤◌, ◌^◌, ◌%◌, List, length, inl, sym, arith, refl}
use Rattle.std.specs.Prelude.{encode_utf8_all}
use Rattle.std.specs.List.{AllByRecursion}
use Rattle.std.specs.Fmt.{decimal}
use Rattle.std.proofs.lemmas.Fmt.{decimal_by_steps, length-decimal-le}
use Rattle.lexical_core.specs.Characters.{IsXmlChar}
use Rattle.lexical_core.specs.XmlRuns.{IsPlainXmlByte}
use Rattle.lexical_core.proofs.XmlRuns.{plain_encoded}
use Rattle.data_types.specs.Leaf.{Bytes}
use Rattle.data_types.proofs.CollapseLemmas.{all_push}
use Rattle.facets.specs.LeafUnder.{Fits}
use Rattle.facets.specs.Rules.{BreaksPattern}
use Rattle.facets.specs.Facets.{HasLength}
use Rattle.facets.proofs.TextRules.{text_given}
use Rattle.facets.proofs.FitLemmas.{given_fits}
use Rattle.drill.specs.BuiltIn.{drill_text_type}
use Rattle.drill.specs.Growing.{node_name}

plain : (c : ℕ) → 32 ≤ c → c < 127 → IsPlainXmlByte c
plain c low high = record { ascii = omega (arith, high); xml = inl (low, omega (arith, high)) }

digits_plain : (number : ℕ) → number < 2 ^ 64 → AllByRecursion IsPlainXmlByte (decimal number)
digits_plain = decimal_by_steps (λ n ds. AllByRecursion IsPlainXmlByte ds)
    (λ n low. (plain (48 + n) (omega arith) (omega arith), tt))
    (λ n ds high h. all_push IsPlainXmlByte ds (48 + n % 10) h (plain (48 + n % 10) (omega arith) (omega arith)))

shown : (number : ℕ) → number < 2 ^ 64 → (encode_utf8_all (node_name number) ≡ node_name number) × AllByRecursion IsXmlChar (node_name number)
shown number small = plain_encoded (node_name number) (plain 110 (omega arith) (omega arith), digits_plain number small)

has_length : (number : ℕ) → number < 2 ^ 64 → HasLength drill_text_type (length (node_name number))
has_length number small =
    let most = length-decimal-le 20 number (omega arith) (omega (arith, small)) small in
    record { least = omega arith; most = omega (arith, most) }

no_pattern : (text : List ℕ) → BreaksPattern drill_text_type text → ⊥
no_pattern text b = let is = b.2 in absurd cc

pub name_fits : (number : ℕ) → number < 2 ^ 64 → Fits drill_text_type (Bytes (node_name number))
name_fits number small =
    let name = node_name number in
    let chars = shown number small in
    given_fits drill_text_type name (Bytes name) (text_given drill_text_type name (Bytes name) refl refl chars.1 (has_length number small) (no_pattern name) (chars.1, sym chars.0))
