use Rattle.std.proofs.Common.{◌≡◌, ◌+◌, ◌≤◌, ◌<◌, drop, length}
use Rattle.pattern_match.specs.inner.Counting.{counted_tokens, counted_open, nothing_counted}
use Rattle.pattern_match.proofs.counter.count.Given as goal

-- what is counted, and what the tokens that are left count
abbrev pub invariant-loop-token : goal.invariant-loop-token
invariant-loop-token l = record {
  counted : counted_tokens (drop l.token-index l.tokens) l.counter.counted ≡ counted_tokens l.tokens (counted_open nothing_counted);
  depth : length l.counter.counted.outer ≤ l.token-index + 1;
  room : length l.tokens + 1 < l.counter.room;
}
