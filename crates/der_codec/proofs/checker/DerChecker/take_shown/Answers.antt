use Rattle.std.proofs.Common.{◌++◌, take, drop, refl, ◌∙◌}
use Rattle.der_codec.proofs.Fed.{taken_front, stopped_front, joined}
use Rattle.der_codec.proofs.Keeping.{enough_less, enough_then, behind_is, err_as, not_ok}
use Rattle.der_codec.proofs.KeptRuns.{keeps_begin}
use Rattle.der_codec.proofs.Runs.{run_some}
use Rattle.der_codec.proofs.UsualFed.{some_taken}
use Rattle.der_codec.proofs.checker.DerChecker.take_shown.Goals as goal

pub run_kept-requires-clause-given : goal.run_kept-requires-clause-given
run_kept-requires-clause-given c =
    let h = c.in-Some.ensures in
    let g = c.requires.given in
    let s = c.args.self.now in
    let run = c.in-Some.begun in
    (g.0, keeps_begin c.args.model.now s run g.0 (run_some s.decoder.levels.items run.level h.level) h.fresh h.level h.place g.1.reading.read g.1.reading.shows)

pub returns-in-Err-clause-memory : goal.returns-in-Err-clause-memory
returns-in-Err-clause-memory c = λ bytes f e is.
    let h = c.in-Some.ensures in
    let s = c.args.self.now in
    let run = c.in-Some.begun in
    not_ok (c.in-Err.ensures.memory bytes (keeps_begin c.args.model.now s run bytes (run_some s.decoder.levels.items run.level h.level) h.fresh h.level h.place f.reading.read f.reading.shows) e)

pub end_here-requires-clause-given : goal.end_here-requires-clause-given
end_here-requires-clause-given c =
    let h = c.in-Some.ensures in
    let s = c.args.self.now in
    let run = c.in-Some.begun in
    let g = c.requires.given in
    let both = c.in-Ok.ensures.ok g.0 (keeps_begin c.args.model.now s run g.0 (run_some s.decoder.levels.items run.level h.level) h.fresh h.level h.place g.1.reading.read g.1.reading.shows) (some_taken c.in-Ok.taken c.if-taken-eq0.false) in
    (g.0 ++ take c.in-Ok.taken c.args.piece.now, both.0, both.1)

pub returns-in-Ok-end_here-clause-front : goal.returns-in-Ok-end_here-clause-front
returns-in-Ok-end_here-clause-front c =
    let T = c.args.model.now in
    let h = c.in-Some.ensures in
    let s = c.args.self.now in
    let run = c.in-Some.begun in
    let piece = c.args.piece.now in
    let n = c.in-Ok.taken in
    taken_front T s c.end_here.new.self piece (take n piece) n refl c.in-Ok.ensures.within c.requires.room (c.in-Ok-end_here.ensures.sound ∙ c.in-Ok.ensures.stays.sound) (λ bytes f.
    let both = c.in-Ok.ensures.ok bytes (keeps_begin T s run bytes (run_some s.decoder.levels.items run.level h.level) h.fresh h.level h.place f.reading.read f.reading.shows) (some_taken n c.if-taken-eq0.false) in
    c.in-Ok-end_here.ensures.ok (bytes ++ take n piece) both.0 both.1)

pub returns-in-Err-end_here-clause-front : goal.returns-in-Err-end_here-clause-front
returns-in-Err-end_here-clause-front c =
    let T = c.args.model.now in
    let h = c.in-Some.ensures in
    let s = c.args.self.now in
    let run = c.in-Some.begun in
    let piece = c.args.piece.now in
    let n = c.in-Ok.taken in
    stopped_front T s c.end_here.new.self piece (take n piece) (drop n piece) c.in-Err-end_here.stop (joined n piece) (λ bytes f.
    let both = c.in-Ok.ensures.ok bytes (keeps_begin T s run bytes (run_some s.decoder.levels.items run.level h.level) h.fresh h.level h.place f.reading.read f.reading.shows) (some_taken n c.if-taken-eq0.false) in
    c.in-Err-end_here.ensures.err (bytes ++ take n piece) both.0)

pub returns-in-Err-end_here-clause-memory : goal.returns-in-Err-end_here-clause-memory
returns-in-Err-end_here-clause-memory c = λ bytes f e is.
    let T = c.args.model.now in
    let h = c.in-Some.ensures in
    let s = c.args.self.now in
    let run = c.in-Some.begun in
    let piece = c.args.piece.now in
    let n = c.in-Ok.taken in
    let front = bytes ++ take n piece in
    let stays = c.in-Ok.ensures.stays in
    let both = c.in-Ok.ensures.ok bytes (keeps_begin T s run bytes (run_some s.decoder.levels.items run.level h.level) h.fresh h.level h.place f.reading.read f.reading.shows) (some_taken n c.if-taken-eq0.false) in
    c.in-Err-end_here.ensures.memory front both.0 both.1
    (enough_then T s c.run_kept.new.self front front refl stays.keeps stays.room (enough_less T s front (drop n piece) (bytes ++ piece) (behind_is bytes piece (take n piece) (drop n piece) (joined n piece)) e)) (err_as _ _ is)
