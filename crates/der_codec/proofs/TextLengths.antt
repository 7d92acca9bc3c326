-- A text without codes and without a pattern is told by its length.
use Rattle.std.proofs.Common.{◌≡◌, ℕ, List, length, Option, None, Some, Ok, Err, false, refl, sym, ◌∙◌, encode_utf8_all}
use Rattle.std.specs.Option.{is_some}
use Rattle.std.specs.List.{AllByRecursion}
use Rattle.lexical_core.specs.Characters.{IsXmlChar}
use Rattle.lexical_core.specs.declared.rule.Rule.{Rule}
use Rattle.lexical_core.specs.declared.rule.Rule.TheVariants.{BadLength}
use Rattle.data_types.specs.Dates.{IsDateText}
use Rattle.data_types.specs.Leaf.{Leaf, Bytes}
use Rattle.data_types.specs.declared.kind.Kind.TheVariants as kind
use Rattle.facets.specs.Checks.{IsLengthAnswer}
use Rattle.facets.specs.Facets.{HasLength}
use Rattle.facets.specs.LeafUnder.{GivesLeaf}
use Rattle.facets.specs.Rules.{BreaksFirst, BreaksPattern}
use Rattle.facets.specs.declared.simple.Simple.{Simple}
use Rattle.facets.specs.PatternChecks.{IsDateKind}
use Rattle.facets.proofs.TextRules.{length_broken, text_given, short_given}
use Rattle.facets.proofs.PatternLemmas.{date_is_short}
use Rattle.der_model.specs.LeafContents.{ContentsUnder}
use Rattle.der_codec.proofs.LeavesJudged.{date_fits, date_leaf}

pub none_there : {A : Type 0} (o : Option A) → is_some o ≡ false → o ≡ None
none_there None e = refl
none_there (Some x) e = absurd cc

no_pattern : (simple : Simple) (text : List ℕ) → simple.pattern ≡ None → BreaksPattern simple text → ⊥
no_pattern simple text none (pattern, asked, some, is, other) = absurd (let both : None ≡ Some pattern = sym none ∙ some in cc)

pub length_fits : (simple : Simple) (text : List ℕ) → simple.kind ≡ kind.Text → simple.codes ≡ None → simple.pattern ≡ None → AllByRecursion IsXmlChar text → HasLength simple (length text) → (leaf : Leaf) × GivesLeaf simple text leaf
length_fits simple text e n none characters fits = (Bytes (encode_utf8_all text), text_given simple text (Bytes (encode_utf8_all text)) e n characters fits (no_pattern simple text none) (characters, refl))

pub length_refused : (simple : Simple) (text : List ℕ) (rule : Rule) → simple.kind ≡ kind.Text → simple.codes ≡ None → AllByRecursion IsXmlChar text → IsLengthAnswer {T = Unit {0}} simple (length text) (Err rule) → BreaksFirst simple text rule
length_refused simple text BadLength e n characters short = length_broken simple text e n characters short
length_refused simple text rule e n characters other = absurd other

-- a date or a time of a type without a pattern breaks no rule
pub date_alone : (simple : Simple) (octets : List ℕ) → IsDateKind simple.kind → IsDateText simple.kind octets → simple.pattern ≡ None → ContentsUnder simple octets (Ok (Bytes octets))
date_alone simple octets d is none =
    date_fits simple octets (Bytes octets) d is (short_given simple octets (Bytes octets) (date_is_short simple.kind d) (date_leaf simple.kind octets d is) (no_pattern simple octets none))
