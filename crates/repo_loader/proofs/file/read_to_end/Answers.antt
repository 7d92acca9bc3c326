-- Pieces are read to the end, to the fault, or past the limit.
use Rattle.std.proofs.Common.{rules, take, [], sym, subst, arith, ◌∙◌}
use Rattle.std.specs.Prelude.{ℕ, List, IfSome, Some, None}
use Rattle.repo_loader.specs.declared.fault.LoadFault.{LoadFault}
use Rattle.repo_loader.specs.Loaded.{HasLoadFault}
use Rattle.repo_loader.specs.inner.ProgressSteps.{FileEndsAs}
use Rattle.repo_loader.proofs.FileVerdicts.{front_taken, room_whole, fault_found, fault_placed, long_found, long_placed, room_left, last_piece, none_shown, end_found, end_placed, end_whole}
use Rattle.repo_loader.proofs.file.read_to_end.Goals as goal

pub loop-count-init : goal.loop-count-init
loop-count-init g c = record {
  same = search rules;
  some = search rules;
  few = search rules;
  unended = c.requires.unended;
  so_far = room_whole (g.R.Source.left c.args.source.now) c.args.progress.now c.requires.read;
}

pub take_all-requires-clause-read : goal.take_all-requires-clause-read
take_all-requires-clause-read g c = (c.loop-count.invariant.so_far.taken_are, c.loop-count.invariant.so_far.read)

-- ---- a failed pull

pub returns-in_default-clause-pulled : goal.returns-in_default-clause-pulled
returns-in_default-clause-pulled g c =
    none_shown (g.R.Source.left c.args.source.now) (g.R.Source.left c.loop-count.source) c.loop-count.room c.loop-count.progress c.loop-count.invariant.so_far c.no_fault_taken.ensures (g.R.Source.left c.pull.new.self)
    c.in_default.ensures.bytes

-- ---- the end

pub returns-in-Some-clause-err : goal.returns-in-Some-clause-err
returns-in-Some-clause-err g c =
    let h = c.loop-count.invariant.so_far in
    end_found (g.R.Source.left c.args.source.now) (g.R.Source.left c.loop-count.source) c.loop-count.room c.loop-count.progress h (g.R.Source.left c.pull.new.self) (search rules) (search rules) c.in-Some.fault
    (subst (FileEndsAs c.finish.new.self h.taken_are) c.in-Some.is (c.in_ok-fault.ensures h.taken_are h.read))

pub returns-in-Some-clause-placed : goal.returns-in-Some-clause-placed
returns-in-Some-clause-placed g c =
    let h = c.loop-count.invariant.so_far in
    end_placed (g.R.Source.left c.args.source.now) (g.R.Source.left c.loop-count.source) c.loop-count.room c.loop-count.progress h c.in-Some.fault
    (subst (FileEndsAs c.finish.new.self h.taken_are) c.in-Some.is (c.in_ok-fault.ensures h.taken_are h.read))

pub returns-in-Some-clause-pulled : goal.returns-in-Some-clause-pulled
returns-in-Some-clause-pulled g c =
    last_piece (g.R.Source.left c.args.source.now) (g.R.Source.left c.loop-count.source) c.loop-count.room c.loop-count.progress c.loop-count.invariant.so_far (g.R.Source.left c.pull.new.self) [] (search rules)
    c.no_fault_taken.ensures (omega arith)

pub returns-in-None-clause-ok : goal.returns-in-None-clause-ok
returns-in-None-clause-ok g c =
    let h = c.loop-count.invariant.so_far in
    end_whole (g.R.Source.left c.args.source.now) (g.R.Source.left c.loop-count.source) c.loop-count.room c.loop-count.progress h (g.R.Source.left c.pull.new.self) (search rules) (search rules) c.finish.new.self
    (subst (FileEndsAs c.finish.new.self h.taken_are) c.in-None.is (c.in_ok-fault.ensures h.taken_are h.read))

-- ---- a fault in the piece

pub returns-in-Some-2-clause-err : goal.returns-in-Some-2-clause-err
returns-in-Some-2-clause-err g c =
    let h = c.loop-count.invariant.so_far in
    let xs = take c.in-Ok.count c.pull.new.buf in
    let k = front_taken c.take_all.new.self h.taken_are c.split_at.result.0.now (take c.min.result xs) c.in_ok-fault-2.field-0 (Some c.in-Some-2.fault) c.split_at.ensures.front c.in-Some-2.is (c.in_ok-fault-2.ensures.read h.taken_are h.read) in
    fault_found (g.R.Source.left c.args.source.now) (g.R.Source.left c.loop-count.source) c.loop-count.room c.loop-count.progress h (g.R.Source.left c.pull.new.self) xs c.in-Ok.ensures.bytes.0 c.min.result c.in-Some-2.fault (search rules)
    k

pub returns-in-Some-2-clause-placed : goal.returns-in-Some-2-clause-placed
returns-in-Some-2-clause-placed g c =
    let h = c.loop-count.invariant.so_far in
    let xs = take c.in-Ok.count c.pull.new.buf in
    let k = front_taken c.take_all.new.self h.taken_are c.split_at.result.0.now (take c.min.result xs) c.in_ok-fault-2.field-0 (Some c.in-Some-2.fault) c.split_at.ensures.front c.in-Some-2.is (c.in_ok-fault-2.ensures.read h.taken_are h.read) in
    fault_placed (g.R.Source.left c.args.source.now) (g.R.Source.left c.loop-count.source) c.loop-count.room c.loop-count.progress h (g.R.Source.left c.pull.new.self) xs c.in-Ok.ensures.bytes.0 c.min.result c.in-Some-2.fault (search rules)
    k

pub returns-in-Some-2-clause-pulled : goal.returns-in-Some-2-clause-pulled
returns-in-Some-2-clause-pulled g c =
    last_piece (g.R.Source.left c.args.source.now) (g.R.Source.left c.loop-count.source) c.loop-count.room c.loop-count.progress c.loop-count.invariant.so_far (g.R.Source.left c.pull.new.self) (take c.in-Ok.count c.pull.new.buf) c.in-Ok.ensures.bytes.0
    c.no_fault_taken.ensures (omega (arith, c.loop-count.invariant.few, c.in-Ok.ensures.bound.1, c.in-Ok.ensures.bound.0))

-- ---- more bytes than the limit

pub returns-then-count-room-clause-err : goal.returns-then-count-room-clause-err
returns-then-count-room-clause-err g c =
    let h = c.loop-count.invariant.so_far in
    let xs = take c.in-Ok.count c.pull.new.buf in
    let k = front_taken c.take_all.new.self h.taken_are c.split_at.result.0.now (take c.min.result xs) c.in_ok-fault-2.field-0 None c.split_at.ensures.front c.in_default-2.is (c.in_ok-fault-2.ensures.read h.taken_are h.read) in
    subst (λ (f : LoadFault). IfSome (g.R.Source.left c.args.source.now) (λ bytes. HasLoadFault bytes f)) (sym c.too_long-fault.ensures)
    (long_found (g.R.Source.left c.args.source.now) (g.R.Source.left c.loop-count.source) c.loop-count.room c.loop-count.progress h (g.R.Source.left c.pull.new.self) xs c.in-Ok.ensures.bytes.0 c.no_fault_taken.ensures c.min.result c.take_all.new.self
    (search rules) (search rules)
    k)

pub returns-then-count-room-clause-placed : goal.returns-then-count-room-clause-placed
returns-then-count-room-clause-placed g c =
    let h = c.loop-count.invariant.so_far in
    let xs = take c.in-Ok.count c.pull.new.buf in
    let k = front_taken c.take_all.new.self h.taken_are c.split_at.result.0.now (take c.min.result xs) c.in_ok-fault-2.field-0 None c.split_at.ensures.front c.in_default-2.is (c.in_ok-fault-2.ensures.read h.taken_are h.read) in
    subst (λ (f : LoadFault). (bytes : List ℕ) × HasLoadFault bytes f) (sym c.too_long-fault.ensures)
    (long_placed (g.R.Source.left c.args.source.now) (g.R.Source.left c.loop-count.source) c.loop-count.room c.loop-count.progress h (g.R.Source.left c.pull.new.self) xs c.in-Ok.ensures.bytes.0 c.no_fault_taken.ensures c.min.result c.take_all.new.self
    (search rules) (search rules)
    k)

pub returns-then-count-room-clause-pulled : goal.returns-then-count-room-clause-pulled
returns-then-count-room-clause-pulled g c =
    last_piece (g.R.Source.left c.args.source.now) (g.R.Source.left c.loop-count.source) c.loop-count.room c.loop-count.progress c.loop-count.invariant.so_far (g.R.Source.left c.pull.new.self) (take c.in-Ok.count c.pull.new.buf) c.in-Ok.ensures.bytes.0
    c.no_fault_taken.ensures (omega (arith, c.loop-count.invariant.few, c.in-Ok.ensures.bound.1, c.in-Ok.ensures.bound.0))

-- ---- the next piece

pub loop-count-preserved : goal.loop-count-preserved
loop-count-preserved g c =
    let h = c.loop-count.invariant.so_far in
    let xs = take c.in-Ok.count c.pull.new.buf in
    let k = front_taken c.take_all.new.self h.taken_are c.split_at.result.0.now (take c.min.result xs) c.in_ok-fault-2.field-0 None c.split_at.ensures.front c.in_default-2.is (c.in_ok-fault-2.ensures.read h.taken_are h.read) in
    record {
      same = c.in-Ok.ensures.cause.same ∙ c.loop-count.invariant.same;
      some = omega arith;
      few = omega arith;
      unended = search rules;
      so_far = room_left (g.R.Source.left c.args.source.now) (g.R.Source.left c.loop-count.source) c.loop-count.room c.loop-count.progress h (g.R.Source.left c.pull.new.self) xs c.in-Ok.ensures.bytes.0 c.min.result c.in-Ok.count c.take_all.new.self
          (sym c.in-Ok.ensures.bound.1) (search rules) (omega arith)
          k;
    }
