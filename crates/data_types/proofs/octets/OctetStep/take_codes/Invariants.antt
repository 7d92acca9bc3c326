use Rattle.std.proofs.Common.{ℕ, ◌+◌, ◌≤◌, List, ◌++◌, length, take, Option}
use Rattle.data_types.specs.Kept.{kept_room}
use Rattle.data_types.specs.OctetSteps.{HasDecoded}
use Rattle.data_types.specs.declared.octets.OctetStep.{OctetStep}
use Rattle.data_types.proofs.octets.OctetStep.take_codes.Given as goal

-- so many codes were taken
pub record HasGoneOn (old now : OctetStep) (codes : List ℕ) (at : ℕ) : Type 0 where
  pub text : (most : Option ℕ) (text : List ℕ) → HasDecoded old most text → HasDecoded now most (text ++ take at codes)
  pub room : kept_room old.kept ≤ kept_room now.kept
  pub count : length now.kept.bytes.held + now.count ≤ length old.kept.bytes.held + old.count + at

abbrev pub invariant-loop-code : goal.invariant-loop-code
invariant-loop-code l = HasGoneOn l.initial.self l.self l.codes l.code-index
