-- The name so far, and what the bytes to come add to it, are the whole.
use Rattle.std.proofs.Common.{◌≡◌, false, ◌++◌, drop}
use Rattle.asn1_model.specs.Names.{without_gap, with_hyphens}
use Rattle.asn1_model.specs.inner.Joined.{to_come}
use Rattle.asn1_model.proofs.names.hyphenated.Given as goal

abbrev pub invariant-loop-byte : goal.invariant-loop-byte
invariant-loop-byte l = with_hyphens false (without_gap l.text) ≡ l.name.items ++ to_come l.name.items l.gap (drop l.byte-index l.text)
