-- The reader has taken as many bytes as are counted.
use Rattle.std.proofs.Common.{◌≡◌}
use Rattle.markup.specs.Reading.{bytes_taken}
use Rattle.tests.proofs.markup_tests.take_all.Given as goal

abbrev pub invariant-loop-byte : goal.invariant-loop-byte
invariant-loop-byte l = bytes_taken l.reader ≡ l.given
