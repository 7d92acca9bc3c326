-- No code before has the name.
use Rattle.std.proofs.Common.{◌≡◌, drop}
use Rattle.reference_check.specs.CodeTexts.{find_code}
use Rattle.reference_check.proofs.code_texts.code_named.Given as goal

abbrev pub invariant-loop-code : goal.invariant-loop-code
invariant-loop-code l = find_code l.name (drop l.code-index l.fn.set.codes) ≡ find_code l.name l.fn.set.codes
