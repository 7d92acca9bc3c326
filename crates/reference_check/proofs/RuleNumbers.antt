-- The rules in the order of their numbers.
use Rattle.std.proofs.Common.{◌≡◌, ℕ, ◌+◌, ◌≤◌, List, Option, Some, None, refl, sym, ap, subst, ◌∙◌, arith, inl, inr}
use Rattle.std.specs.Prelude.{◌==◌, if◌then◌else◌}
use Rattle.std.proofs.lemmas.Bool.{cases_lt}
use Rattle.repo_objects.specs.Repository.{Contents}
use Rattle.reference_check.specs.declared.reached.ReadyError.{ReadyError}
use Rattle.reference_check.specs.declared.reached.ReadyError.TheVariants.{Broken, Memory}
use Rattle.reference_check.specs.declared.structure.StructureRule.{StructureRule}
use Rattle.reference_check.specs.declared.structure.StructureRule.TheVariants as asked
use Rattle.reference_check.specs.inner.First.{TellsFirst}
use Rattle.reference_check.specs.Reached.{TellsBroken}
use Rattle.reference_check.specs.Rules.{Rule, NoMessage, TwoMessages, Dangling, BadCurrency, NotOneReference, BadName, TagTwice, BadBounds, OptionalAlternative, NoAlternatives, Endless, BadCodes, LeftOutKind, NameTwice, TooMany, object_rule_number, IsStructure, Breaks}
use Rattle.reference_check.specs.inner.Subjects.{asked_rule}
use Rattle.reference_check.specs.inner.Told.{IsSoundBelow, TellsRule}

-- the number of the rule that is asked next; behind the last, 11
abbrev pub next_number : Option StructureRule → ℕ
next_number None = 11
next_number (Some rule) = object_rule_number (asked_rule rule)

-- the rule of a number
abbrev rule_at : ℕ → Rule
rule_at n =
    if n == 1 then NoMessage else (if n == 2 then TwoMessages else (if n == 3 then Dangling else (if n == 4 then BadCurrency else (if n == 5 then NotOneReference
    else (if n == 6 then BadName else (if n == 7 then TagTwice else (if n == 8 then BadBounds else (if n == 9 then OptionalAlternative else (if n == 10 then NoAlternatives
    else (if n == 11 then Endless else (if n == 14 then BadCodes else (if n == 15 then LeftOutKind else (if n == 16 then NameTwice else TooMany)))))))))))))

at_number : (r : Rule) → rule_at (object_rule_number r) ≡ r
at_number NoMessage = refl
at_number TwoMessages = refl
at_number Dangling = refl
at_number BadCurrency = refl
at_number NotOneReference = refl
at_number BadName = refl
at_number TagTwice = refl
at_number BadBounds = refl
at_number OptionalAlternative = refl
at_number NoAlternatives = refl
at_number Endless = refl
at_number BadCodes = refl
at_number LeftOutKind = refl
at_number NameTwice = refl
at_number TooMany = refl

-- two rules of one number are one
pub one_rule : (r s : Rule) → object_rule_number r ≡ object_rule_number s → r ≡ s
one_rule r s same = sym (at_number r) ∙ ap rule_at same ∙ at_number s

-- where a rule is not broken, and none below it is, none is up to it
pub sound_more : (R : Contents) (m : List ℕ) (rule : Rule) (n : ℕ) → n ≡ object_rule_number rule + 1 → IsSoundBelow R m (object_rule_number rule) → TellsFirst R m rule None → IsSoundBelow R m n
sound_more R m rule n is below none r p less reach broken = elim (cases_lt (object_rule_number r) (object_rule_number rule)) [
  | inl lt ↦ below r p lt reach broken
  | inr past ↦
      (let same : r ≡ rule = one_rule r rule (omega arith) in
      none p reach (subst (λ s. Breaks R m s p) same broken))
]

-- the lowest rule that is broken is told
pub tells_lowest : (R : Contents) (m : List ℕ) (rule : Rule) (e : ReadyError) → object_rule_number rule ≤ 11 → IsSoundBelow R m (object_rule_number rule) → TellsRule R m rule e → TellsBroken R m IsStructure e
tells_lowest R m rule (Broken n object) asked below (p, first, number, id) = (
  rule,
  p,
  record {
    asked = asked;
    reached = first.reached;
    broken = first.broken;
    lowest = λ r q is less reach broken. below r q less reach broken;
    first = first.first;
  },
  number,
  id,
)
tells_lowest R m rule Memory asked below told = tt

-- numbers begin at 1
pub not_zero : (r : Rule) → object_rule_number r ≡ 0 → ⊥
not_zero NoMessage e = omega arith
not_zero TwoMessages e = omega arith
not_zero Dangling e = omega arith
not_zero BadCurrency e = omega arith
not_zero NotOneReference e = omega arith
not_zero BadName e = omega arith
not_zero TagTwice e = omega arith
not_zero BadBounds e = omega arith
not_zero OptionalAlternative e = omega arith
not_zero NoAlternatives e = omega arith
not_zero Endless e = omega arith
not_zero BadCodes e = omega arith
not_zero LeftOutKind e = omega arith
not_zero NameTwice e = omega arith
not_zero TooMany e = omega arith

pub at_most_ten : (rule : StructureRule) → object_rule_number (asked_rule rule) ≤ 10
at_most_ten asked.Dangling = omega arith
at_most_ten asked.BadCurrency = omega arith
at_most_ten asked.NotOneReference = omega arith
at_most_ten asked.BadName = omega arith
at_most_ten asked.TagTwice = omega arith
at_most_ten asked.BadBounds = omega arith
at_most_ten asked.OptionalAlternative = omega arith
at_most_ten asked.NoAlternatives = omega arith
