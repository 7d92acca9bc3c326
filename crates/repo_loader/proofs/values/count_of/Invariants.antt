-- The digits so far say the value, which the rest makes no greater than ten digits may.
use Rattle.std.proofs.Common.{◌≡◌, ◌+◌, ◌*◌, ◌^◌, ◌≤◌, ◌<◌, length}
use Rattle.std.specs.Str.{all_ascii_digits}
use Rattle.std.specs.Str.Parse.{digits_value, digits_value_after}
use Rattle.repo_loader.proofs.values.count_of.Given as goal

abbrev pub invariant-loop-first : goal.invariant-loop-first
invariant-loop-first l = record {
  bound : (l.value + 1) * 10 ^ length l.rest ≤ 10 ^ 10;
  value : digits_value_after 10 l.value l.rest ≡ digits_value 10 l.fn.text;
  digits : all_ascii_digits l.rest ≡ all_ascii_digits l.fn.text;
  some : 0 < length l.fn.text;
  few : length l.fn.text ≤ 10;
}

abbrev pub decreases-loop-first : goal.decreases-loop-first
decreases-loop-first l = length l.rest
