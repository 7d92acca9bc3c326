use Rattle.std.proofs.Common.{◌≡◌, arith, ◌++◌, refl, ap, drop}
use Rattle.std.specs.Prelude.{Err}
use Rattle.der_codec.proofs.Fed.{come_short, all_kept, last_has, last_ends, refused_within}
use Rattle.der_codec.proofs.Keeping.{keeping_as, levels_same, grows_same, enough_then}
use Rattle.der_codec.proofs.RoomSteps.{whole_enough, refused_memory}
use Rattle.der_codec.specs.declared.decoder.Stop.TheVariants as stop
use Rattle.der_codec.specs.declared.checker.DerChecker.{DerChecker}
use Rattle.der_codec.proofs.checker.DerChecker.take_last.Goals as goal

pub judge_whole-requires-clause-given : goal.judge_whole-requires-clause-given
judge_whole-requires-clause-given c =
    let g = c.requires.given in
    let T = c.args.model.now in
    let s = c.args.self.now in
    (drop s.decoder.start g.0, come_short T s.decoder g.0 c.args.spot c.args.left c.requires.due g.1.0, all_kept T s.decoder s.kept s.pieces g.0 c.args.spot c.args.left c.requires.due g.1)

pub end_leaf-requires-clause-given : goal.end_leaf-requires-clause-given
end_leaf-requires-clause-given c =
    let s = c.args.self.now in
    let j = c.judge_whole.new.self in
    let g = c.requires.given in
    let front = c.args.front.now in
    let h = c.in-Ok.ensures in
    let e = c.end_contents.ensures in
    let all = all_kept c.args.model.now s.decoder s.kept s.pieces g.0 c.args.spot c.args.left c.requires.due g.1 in (
      g.0 ++ front,
      last_ends c.args.model.now s.decoder j.decoder c.end_contents.new.self s.pieces j.pieces g.0 front c.args.spot c.args.left h.decoder c.requires.due g.1.0 g.2 c.requires.last (h.judged (drop s.decoder.start g.0) all) (h.shown (drop s.decoder.start g.0) all) e.fresh e.levels e.read,
    )

pub returns-in-Ok-clause-ok : goal.returns-in-Ok-clause-ok
returns-in-Ok-clause-ok c = λ bytes r shows.
    let s = c.args.self.now in
    let j = c.judge_whole.new.self in
    let front = c.args.front.now in
    let h = c.in-Ok.ensures in
    let e = c.end_contents.ensures in
    let all = all_kept c.args.model.now s.decoder s.kept s.pieces bytes c.args.spot c.args.left c.requires.due r in
    c.end_leaf.ensures.ok (bytes ++ front)
    (last_ends c.args.model.now s.decoder j.decoder c.end_contents.new.self s.pieces j.pieces bytes front c.args.spot c.args.left h.decoder c.requires.due r.0 shows c.requires.last (h.judged (drop s.decoder.start bytes) all) (h.shown (drop s.decoder.start bytes) all) e.fresh e.levels e.read)

pub returns-in-Ok-clause-err : goal.returns-in-Ok-clause-err
returns-in-Ok-clause-err c = λ bytes r.
    let s = c.args.self.now in
    let j = c.judge_whole.new.self in
    let front = c.args.front.now in
    let h = c.in-Ok.ensures in
    let all = all_kept c.args.model.now s.decoder s.kept s.pieces bytes c.args.spot c.args.left c.requires.due r in
    c.end_leaf.ensures.err (bytes ++ front) (last_has c.args.model.now s.decoder j.decoder c.end_contents.new.self bytes front c.args.spot c.args.left h.decoder r.0 c.requires.last (h.judged (drop s.decoder.start bytes) all) c.end_contents.ensures.read)

pub returns-in-Err-clause-err : goal.returns-in-Err-clause-err
returns-in-Err-clause-err c = λ bytes h.
    let s = c.args.self.now in
    let all = all_kept c.args.model.now s.decoder s.kept s.pieces bytes c.args.spot c.args.left c.requires.due h in
    refused_within c.args.model.now s.decoder c.judge_whole.new.self.decoder bytes c.args.front.now c.args.spot c.args.left c.in-Err.refusal c.refused.result c.in-Err.ensures.decoder c.requires.due h.0 c.requires.last (c.in-Err.ensures.judged (drop s.decoder.start bytes) all) c.refused.ensures

pub returns-in-Ok-clause-keeps : goal.returns-in-Ok-clause-keeps
returns-in-Ok-clause-keeps c = λ k. c.end_leaf.ensures.keeps (keeping_as c.args.model.now c.judge_whole.new.self _ refl (levels_same c.judge_whole.new.self.decoder c.judge_whole.new.self.decoder c.end_contents.new.self refl c.end_contents.ensures.levels) (omega arith) (λ bytes h. h) (grows_same c.judge_whole.new.self.pieces) (c.in-Ok.ensures.keeps k))

pub returns-in-Ok-clause-memory : goal.returns-in-Ok-clause-memory
returns-in-Ok-clause-memory c = λ bytes r shows e is.
    let s = c.args.self.now in
    let j = c.judge_whole.new.self in
    let front = c.args.front.now in
    let h = c.in-Ok.ensures in
    let d = c.end_contents.ensures in
    let mid : DerChecker = record j { decoder = c.end_contents.new.self } in
    let all = all_kept c.args.model.now s.decoder s.kept s.pieces bytes c.args.spot c.args.left c.requires.due r in
    c.end_leaf.ensures.memory (bytes ++ front)
    (last_ends c.args.model.now s.decoder j.decoder c.end_contents.new.self s.pieces j.pieces bytes front c.args.spot c.args.left h.decoder c.requires.due r.0 shows c.requires.last (h.judged (drop s.decoder.start bytes) all) (h.shown (drop s.decoder.start bytes) all) d.fresh d.levels d.read)
    (enough_then c.args.model.now s mid (bytes ++ front) (bytes ++ front) refl (λ k. keeping_as c.args.model.now j mid refl (levels_same c.judge_whole.new.self.decoder c.judge_whole.new.self.decoder c.end_contents.new.self refl c.end_contents.ensures.levels) (omega arith) (λ bytes h. h) (grows_same c.judge_whole.new.self.pieces) (h.keeps k)) h.same e) is

pub returns-in-Err-clause-memory : goal.returns-in-Err-clause-memory
returns-in-Err-clause-memory c = λ bytes r shows e is.
    let s = c.args.self.now in
    let stops : c.refused.result ≡ stop.Memory = cc in
    c.in-Err.ensures.within (whole_enough c.args.model.now s c.args.spot c.args.left bytes c.args.front.now c.requires.due c.requires.last r shows e) (ap Err (refused_memory _ c.in-Err.refusal c.refused.result c.refused.ensures stops))
