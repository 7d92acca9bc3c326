-- Characters spell a leaf under a simple type, or break a rule first.
use Rattle.std.proofs.Common.{◌≡◌, ◌<◌, ℕ, zero, suc, List, length, Option, Some, Result, Ok, Err, refl, sym, arith}
use Rattle.std.specs.Prelude.{encode_utf8_all}
use Rattle.std.specs.List.{AllByRecursion}
use Rattle.std.proofs.lemmas.Option.{slice_get_read}
use Rattle.lexical_core.specs.Characters.{IsXmlChar}
use Rattle.lexical_core.specs.Rules.{number_of}
use Rattle.lexical_core.specs.declared.rule.Rule.{Rule}
use Rattle.lexical_core.specs.declared.rule.Rule.TheVariants.{BadText, NotACode, Digits}
use Rattle.data_types.specs.Leaf.{Leaf, Bytes, Number, Code, IsTextLeaf, HasLeafForm}
use Rattle.data_types.specs.declared.kind.Kind.{Kind}
use Rattle.data_types.specs.declared.kind.Kind.TheVariants as kind
use Rattle.facets.specs.declared.simple.Simple.{Simple}
use Rattle.facets.specs.Rules.{BreaksLeafRule, BreaksFirst}
use Rattle.facets.specs.LeafUnder.{IsLeafBy, LeafUnder}

text_characters : (text : List ℕ) (leaf : Leaf) → IsTextLeaf text leaf → AllByRecursion IsXmlChar text
text_characters text (Bytes bytes) h = h.0
text_characters text leaf h = absurd h

module _ (simple : Simple) (text : List ℕ) where
  -- where no rule is the first that is broken, none is broken
  none_below : ((rule : Rule) → BreaksFirst simple text rule → ⊥) → (n : ℕ) (rule : Rule) → number_of rule < n → BreaksLeafRule simple text rule → ⊥
  none_below lacks zero rule lt b = omega arith
  none_below lacks (suc n) rule lt b = lacks rule (record { broken = b; first = λ other less c. none_below lacks n other (omega arith) c })

  -- where no rule is broken, what has the form of the kind spells a leaf
  spells : (k : Kind) (codes : Option (List (List ℕ))) → simple.kind ≡ k → simple.codes ≡ codes → ((rule : Rule) → BreaksLeafRule simple text rule → ⊥) → ((leaf : Leaf) → IsLeafBy k codes text leaf → ⊥)
      → HasLeafForm k text → ⊥
  spells kind.Decimal codes is has none lacks form = none Digits (is, form, λ number spelled digits. lacks (Number number) spelled)
  spells kind.Text (Some codes) is has none lacks (leaf, spelled) =
      none NotACode (is, codes, has, λ (place, within, there). lacks (Code place) (text_characters text leaf spelled, slice_get_read codes (length codes) place (encode_utf8_all text) refl within (sym there)))
  spells k codes is has none lacks (leaf, spelled) = lacks leaf spelled

pub some_answer : (simple : Simple) (text : List ℕ) → ¬ (¬ ((one : Result Leaf Rule) × LeafUnder simple text one))
some_answer simple text lacks =
    let none : (rule : Rule) → BreaksLeafRule simple text rule → ⊥ = λ rule b. none_below simple text (λ first f. lacks (Err first, f)) (suc (number_of rule)) rule (omega arith) b in
    none BadText (λ form. spells simple text simple.kind simple.codes refl refl none (λ leaf spelled. lacks (Ok leaf, record { spelled = spelled; sound = none })) form)
