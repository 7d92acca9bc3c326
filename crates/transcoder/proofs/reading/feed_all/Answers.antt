use Rattle.std.proofs.Common.{rules, ◌++◌, take, sym, subst, arith}
use Rattle.transcoder.specs.Limited.{IsLimited}
use Rattle.transcoder.specs.inner.Reading.{StopsAt, SaysError, GivesSome}
use Rattle.transcoder.proofs.Readings.{last_piece, no_piece, fed_before, read_more, read_beyond, refused_fed}
use Rattle.transcoder.proofs.reading.feed_all.Goals as goal

pub returns-in-Err-clause-read : goal.returns-in-Err-clause-read
returns-in-Err-clause-read g c =
    let T = c.args.model.now in
    let h = c.loop-count.invariant.so_far in
    let xs = take c.in-Ok.count c.pull.new.buf in
    let k : SaysError (IsLimited (g.X.Intake.is_faulty T) (GivesSome (g.X.Intake.gives T)) g.X.Intake.cut_rule) (g.I.Source.left c.args.source.now) _ =
    refused_fed (λ x. g.X.Intake.has_fed x T) (λ x. g.X.Intake.is_made_for x T) (g.I.Source.left c.args.source.now) (g.I.Source.left c.loop-count.source) (g.I.Source.left c.pull.new.self) xs c.min.result c.loop-count.room c.loop-count.reader h
    c.in-Ok.ensures.bytes.0 (g.X.Intake.is_faulty T) (GivesSome (g.X.Intake.gives T)) g.X.Intake.cut_rule c.in-Err.error (search rules)
    (subst (λ v. StopsAt (g.X.Intake.is_faulty T) g.X.Intake.cut_rule (h.taken_are ++ v) c.in-Err.error) c.split_at.ensures.front (c.in-Err.ensures.err h.taken_are h.fed_are)) in
    subst (SaysError (IsLimited (g.X.Intake.is_faulty T) (GivesSome (g.X.Intake.gives T)) g.X.Intake.cut_rule) (g.I.Source.left c.args.source.now)) (sym c.from.ensures) k

pub returns-then-count-room-clause-read : goal.returns-then-count-room-clause-read
returns-then-count-room-clause-read g c =
    let T = c.args.model.now in
    let h = c.loop-count.invariant.so_far in
    let xs = take c.in-Ok.count c.pull.new.buf in
    read_beyond (λ x. g.X.Intake.has_fed x T) (λ x. g.X.Intake.is_made_for x T) (g.I.Source.left c.args.source.now) (g.I.Source.left c.loop-count.source) (g.I.Source.left c.pull.new.self) xs c.min.result c.loop-count.room c.loop-count.reader h
    c.in-Ok.ensures.bytes.0 c.feed.new.self (search rules) (search rules) (subst (λ v. g.X.Intake.has_fed c.feed.new.self T (h.taken_are ++ v)) c.split_at.ensures.front (c.in_default-feed.ensures.ok h.taken_are h.fed_are))

-- ---- the last piece

pub returns-in_default-clause-pulled : goal.returns-in_default-clause-pulled
returns-in_default-clause-pulled g c =
    let T = c.args.model.now in
    no_piece (λ x. g.X.Intake.has_fed x T) (λ x. g.X.Intake.is_made_for x T) (g.I.Source.left c.args.source.now) (g.I.Source.left c.loop-count.source) (g.I.Source.left c.pull.new.self) c.loop-count.room c.loop-count.reader
    c.loop-count.invariant.so_far c.in_default.ensures.bytes

pub returns-in_default-clause-failed : goal.returns-in_default-clause-failed
returns-in_default-clause-failed g c _ =
    let T = c.args.model.now in
    fed_before (λ x. g.X.Intake.has_fed x T) (λ x. g.X.Intake.is_made_for x T) (g.I.Source.left c.args.source.now) (g.I.Source.left c.loop-count.source) (g.I.Source.left c.pull.new.self) c.loop-count.room c.loop-count.reader
    c.loop-count.invariant.so_far c.in_default.ensures.bytes

pub returns-in-Err-clause-pulled : goal.returns-in-Err-clause-pulled
returns-in-Err-clause-pulled g c =
    let T = c.args.model.now in
    last_piece (λ x. g.X.Intake.has_fed x T) (λ x. g.X.Intake.is_made_for x T) (g.I.Source.left c.args.source.now) (g.I.Source.left c.loop-count.source) (g.I.Source.left c.pull.new.self) (take c.in-Ok.count c.pull.new.buf) c.loop-count.room
    c.loop-count.reader c.loop-count.invariant.so_far c.in-Ok.ensures.bytes.0 (omega (arith, c.loop-count.invariant.few, c.in-Ok.ensures.bound.1, c.in-Ok.ensures.bound.0))

pub returns-then-count-room-clause-pulled : goal.returns-then-count-room-clause-pulled
returns-then-count-room-clause-pulled g c =
    let T = c.args.model.now in
    last_piece (λ x. g.X.Intake.has_fed x T) (λ x. g.X.Intake.is_made_for x T) (g.I.Source.left c.args.source.now) (g.I.Source.left c.loop-count.source) (g.I.Source.left c.pull.new.self) (take c.in-Ok.count c.pull.new.buf) c.loop-count.room
    c.loop-count.reader c.loop-count.invariant.so_far c.in-Ok.ensures.bytes.0 (omega (arith, c.loop-count.invariant.few, c.in-Ok.ensures.bound.1, c.in-Ok.ensures.bound.0))

-- ---- the next piece

pub loop-count-preserved : goal.loop-count-preserved
loop-count-preserved g c =
    let T = c.args.model.now in
    let h = c.loop-count.invariant.so_far in
    let xs = take c.in-Ok.count c.pull.new.buf in
    record {
      steady = search rules;
      some_room = omega arith;
      few = omega arith;
      unended = search rules;
      so_far = read_more (λ x. g.X.Intake.has_fed x T) (λ x. g.X.Intake.is_made_for x T) (g.I.Source.left c.args.source.now) (g.I.Source.left c.loop-count.source) (g.I.Source.left c.pull.new.self) xs c.min.result c.loop-count.room
          c.loop-count.reader h c.in-Ok.ensures.bytes.0 c.in-Ok.count c.feed.new.self (sym c.in-Ok.ensures.bound.1) (search rules) (omega arith) c.feed.ensures.made
          (subst (λ v. g.X.Intake.has_fed c.feed.new.self T (h.taken_are ++ v)) c.split_at.ensures.front (c.in_default-feed.ensures.ok h.taken_are h.fed_are));
    }
