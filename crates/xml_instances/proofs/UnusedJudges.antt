-- Judges that are kept for the leaves to come: they hold nothing.
use Rattle.std.proofs.Common.{◌≡◌, ℕ, arith, List, [], refl, length}
use Rattle.std.specs.Prelude.{Option}
use Rattle.data_types.specs.LeafSteps.{HasTakenLeaf, HasBody, HasValue, kept_by_step, memory_of, value_memory}
use Rattle.data_types.specs.declared.kind.Kind.{Kind}
use Rattle.data_types.specs.declared.leaf_step.LeafStep.{LeafStep}
use Rattle.data_types.specs.declared.leaf_step.Body.{Body}
use Rattle.data_types.specs.declared.leaf_step.Body.TheVariants.{Text, Collapsed}
use Rattle.data_types.specs.declared.collapsed_step.Value.{Value}
use Rattle.data_types.specs.declared.collapsed_step.Value.TheVariants.{Decimal, Short, Octets}
use Rattle.facets.specs.LeafChecks.{keep_limit}
use Rattle.facets.specs.LeafVerdicts.{verdict_limit}
use Rattle.facets.specs.declared.simple.Simple.{Simple}
use Rattle.reference_check.specs.Forms.{Graph}
use Rattle.xml_instances.specs.Judges.{HasJudgeTaken, IsUnused, kept_by_judge}
use Rattle.xml_instances.specs.Open.{AreMade, IsUnusedAt}
use Rattle.xml_instances.specs.Scratch.{HoldsNoEndedLeaf}
use Rattle.xml_instances.specs.declared.judge.Judge.{Judge}
use Rattle.xml_instances.specs.declared.judge.Judge.TheVariants.{Check, Verdict}
use Rattle.xml_instances.specs.declared.checker.XmlChecker.{XmlChecker}

-- a value of no characters keeps no byte in memory
value_none : (k : Kind) (v : Value) (most : Option ℕ) (collapsed : List ℕ) → HasValue k v most [] collapsed → length (value_memory v).held ≡ 0
value_none k (Decimal step) most collapsed h = refl
value_none k (Short kept) most collapsed h = refl
value_none k (Octets step) most collapsed (is, decoded, few) = omega (arith, few)

body_none : (k : Kind) (b : Body) (most : Option ℕ) → HasBody k b most [] → length (memory_of b).held ≡ 0
body_none k (Text text) most (is, (chars, holds)) = let bound = holds.bound in let few = holds.few in omega (arith, bound, few)
body_none k (Collapsed step) most (collapsed, spaces, value) = value_none k step.value most collapsed value

step_none : (s : LeafStep) (k : Kind) (most : Option ℕ) → HasTakenLeaf s k most [] → kept_by_step s ≡ 0
step_none s k most h = body_none k s.body most h.1

kept_none : (judge : Judge) (simple : Simple) → HasJudgeTaken judge simple [] → kept_by_judge judge ≡ 0
kept_none (Check check) simple h = step_none check.progress.step simple.kind (keep_limit simple) h.seen.step
kept_none (Verdict verdict) simple h = step_none verdict.progress.step simple.kind (verdict_limit simple) h.seen.step

unused : (types : Graph ℕ Simple) (n : ℕ) (judge : Judge) → IsUnusedAt types n judge → IsUnused judge
unused types n judge (simple, is, taken) = record { taken = (simple, taken); kept = kept_none judge simple taken }

-- what was made for the types of a message holds nothing of leaves that have ended
pub none_ended : (types : Graph ℕ Simple) (checker : XmlChecker) → AreMade types checker.content → HoldsNoEndedLeaf checker
none_ended types checker made = record { text = made.innermost; judges = λ n judge found. unused types n judge.value (made.kept n judge found) }
