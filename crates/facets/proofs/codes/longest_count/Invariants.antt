use Rattle.std.proofs.Common.{◌≡◌, take}
use Rattle.facets.specs.CodeLists.{longest_of}
use Rattle.facets.proofs.codes.longest_count.Given as goal

-- the longest of the texts before
abbrev pub invariant-loop-text : goal.invariant-loop-text
invariant-loop-text l = l.longest ≡ longest_of (take l.text-index l.texts)
