-- The rules are asked in their order: the first that is broken is the lowest.
use Rattle.std.proofs.Common.{ℕ, ◌<◌, List, None, arith}
use Rattle.repo_objects.specs.Repository.{Contents}
use Rattle.reference_check.specs.declared.reached.ReadyError.{ReadyError}
use Rattle.reference_check.specs.declared.reached.ReadyError.TheVariants.{Broken, Memory}
use Rattle.reference_check.specs.inner.First.{TellsFirst}
use Rattle.reference_check.specs.Reached.{TellsBroken}
use Rattle.reference_check.specs.Rules.{Rule, BadCodes, LeftOutKind, NameTwice, TooMany, object_rule_number, IsTailRule, IsSound}
use Rattle.reference_check.specs.inner.Told.{TellsRule}

-- no rule of the tail below a number is broken
abbrev pub NoneBelow : Contents → List ℕ → ℕ → Type 0
NoneBelow R m n = (r : Rule) → IsTailRule r → object_rule_number r < n → TellsFirst R m r None

module _ (R : Contents) (m : List ℕ) where
  pub below_codes : NoneBelow R m 14
  below_codes r asked less = absurd (omega (arith, asked, less))

  pub below_kinds : TellsFirst R m BadCodes None → NoneBelow R m 15
  below_kinds fine BadCodes asked less = fine
  below_kinds fine _ asked less = absurd (omega (arith, asked, less))

  pub below_names : TellsFirst R m BadCodes None → TellsFirst R m LeftOutKind None → NoneBelow R m 16
  below_names codes kinds BadCodes asked less = codes
  below_names codes kinds LeftOutKind asked less = kinds
  below_names codes kinds _ asked less = absurd (omega (arith, asked, less))

  pub below_counts : TellsFirst R m BadCodes None → TellsFirst R m LeftOutKind None → TellsFirst R m NameTwice None → NoneBelow R m 17
  below_counts codes kinds names BadCodes asked less = codes
  below_counts codes kinds names LeftOutKind asked less = kinds
  below_counts codes kinds names NameTwice asked less = names
  below_counts codes kinds names _ asked less = absurd (omega (arith, asked, less))

  pub sound_tail : TellsFirst R m BadCodes None → TellsFirst R m LeftOutKind None → TellsFirst R m NameTwice None → TellsFirst R m TooMany None → IsSound R m IsTailRule
  sound_tail codes kinds names counts BadCodes p asked = codes p
  sound_tail codes kinds names counts LeftOutKind p asked = kinds p
  sound_tail codes kinds names counts NameTwice p asked = names p
  sound_tail codes kinds names counts TooMany p asked = counts p
  sound_tail codes kinds names counts _ p asked = absurd (omega (arith, asked))

  -- what is told of a rule where the lower ones are not broken
  pub told : (r : Rule) (e : ReadyError) → IsTailRule r → NoneBelow R m (object_rule_number r) → TellsRule R m r e → TellsBroken R m IsTailRule e
  told r (Broken number object) asked none (p, first, number_is, object_is) =
      (r, p, record { asked = asked; reached = first.reached; broken = first.broken; lowest = λ q place tail less. none q tail less place; first = first.first }, number_is, object_is)
  told r Memory asked none h = tt
