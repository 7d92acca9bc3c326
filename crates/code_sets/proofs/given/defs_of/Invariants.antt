-- The codes of the texts so far.
use Rattle.std.proofs.Common.{◌≡◌, map, take}
use Rattle.code_sets.specs.Codes.{code_of}
use Rattle.code_sets.specs.inner.Given.{key_texts}
use Rattle.code_sets.proofs.given.defs_of.Given as goal

abbrev pub invariant-loop-text : goal.invariant-loop-text
invariant-loop-text l = l.defs ≡ map code_of (key_texts (take l.text-index l.text-items))
