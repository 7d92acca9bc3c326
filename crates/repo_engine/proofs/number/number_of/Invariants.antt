-- The digits so far say the value, which the rest makes no greater than 18 digits may.
use Rattle.std.proofs.Common.{◌≡◌, ◌+◌, ◌*◌, ◌^◌, ◌≤◌, ◌<◌, length}
use Rattle.std.specs.Str.{all_ascii_digits}
use Rattle.std.specs.Str.Parse.{digits_value, digits_value_after}
use Rattle.repo_engine.proofs.number.number_of.Given as goal

abbrev pub invariant-loop-first : goal.invariant-loop-first
invariant-loop-first l = record {
  bound : (l.value + 1) * 10 ^ length l.rest ≤ 10 ^ 18;
  value : digits_value_after 10 l.value l.rest ≡ digits_value 10 l.fn.word;
  digits : all_ascii_digits l.rest ≡ all_ascii_digits l.fn.word;
  some : 0 < length l.fn.word;
  few : length l.fn.word ≤ 18;
}

abbrev pub decreases-loop-first : goal.decreases-loop-first
decreases-loop-first l = length l.rest
