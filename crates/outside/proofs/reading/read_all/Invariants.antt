use Rattle.std.proofs.Common.{◌≡◌, ◌<◌, ◌≤◌, ◌-◌, length, IsTrue}
use Rattle.std.specs.Io.KnownBytes.{Consumes}
use Rattle.outside.proofs.reading.read_all.Given as goal

-- no count rose, and the bytes so far are the front of those that were left
abbrev pub invariant-loop-count : goal.invariant-loop-count
invariant-loop-count g l = record {
  same : g.S.Source.faults l.source ≡ g.S.Source.faults l.fn.source;
  some_room : 0 < length l.buffer.items;
  limit : length l.bytes.items ≤ l.fn.limit;
  unended : IsTrue (g.S.Source.may_be_pulled l.source);
  front : Consumes (g.S.Source.left l.fn.source) (g.S.Source.left l.source) l.bytes.items;
}

-- the bytes that may still come
abbrev pub decreases-loop-count : goal.decreases-loop-count
decreases-loop-count g l = l.fn.limit - length l.bytes.items
