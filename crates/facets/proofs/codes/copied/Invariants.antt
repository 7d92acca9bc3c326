use Rattle.std.proofs.Common.{◌≡◌, take}
use Rattle.facets.proofs.codes.copied.Given as goal

-- the texts before
abbrev pub invariant-loop-text : goal.invariant-loop-text
invariant-loop-text l = l.copy.items ≡ take l.text-index l.texts
