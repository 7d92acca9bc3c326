use Rattle.std.proofs.Common.{◌+◌, ◌++◌, ◌∙◌, length, take, drop, refl, sym, ap, subst, arith, append-nil, append_assoc}
use Rattle.std.proofs.lemmas.List.{length-drop}
use Rattle.message_model.specs.Tables.{types_of}
use Rattle.der_codec.specs.Checked.{CheckTypes}
use Rattle.der_codec.specs.Decoding.{IsFresh}
use Rattle.der_codec.specs.inner.KeptRuns.{RunKeeps}
use Rattle.der_codec.proofs.Fed.{joined}
use Rattle.der_codec.proofs.Keeping.{enough_then, enough_less, behind_is}
use Rattle.der_codec.proofs.KeptRuns.{keeps_as, stays_same, stays_then, run_kept_left}
use Rattle.der_codec.proofs.UsualSteps.{run_more, drop_then}
use Rattle.der_codec.proofs.checker.DerChecker.run_kept.Goals as goal

pub loop-count-init : goal.loop-count-init
loop-count-init c = (
  0,
  refl,
  omega arith,
  c.requires.checks,
  λ bytes k. subst (RunKeeps c.args.model.now c.args.self.now c.args.run) (sym (append-nil bytes)) k,
  c.requires.low,
  λ none. refl,
  λ none. refl,
  omega arith,
  c.requires.some,
  stays_same c.args.model.now c.args.self.now,
)

pub keep_next-requires-clause-room : goal.keep_next-requires-clause-room
keep_next-requires-clause-room c =
    let i = c.loop-count.invariant in
    let place = i.8 in
    let behind = ap length i.1 ∙ length-drop i.0 c.args.piece.now in
    let within = i.2 in
    let room = c.requires.room in
    omega (arith, place, behind, within, room)

pub keep_next-requires-clause-fresh : goal.keep_next-requires-clause-fresh
keep_next-requires-clause-fresh c = subst IsFresh (sym c.loop-count.invariant.10.due) c.requires.fresh

pub keep_next-requires-clause-given : goal.keep_next-requires-clause-given
keep_next-requires-clause-given c = (let g = c.requires.given in let i = c.loop-count.invariant in (g.0 ++ take i.0 c.args.piece.now, i.4 g.0 g.1))

pub returns-in-Err-clause-stays : goal.returns-in-Err-clause-stays
returns-in-Err-clause-stays c = stays_then c.args.model.now c.args.self.now c.loop-count.self c.keep_next.new.self c.loop-count.invariant.10 c.in-Err.ensures.stays

pub returns-in-Err-clause-memory : goal.returns-in-Err-clause-memory
returns-in-Err-clause-memory c = λ bytes k e.
    let i = c.loop-count.invariant in
    let piece = c.args.piece.now in
    let taken = i.0 in
    let all = ap (λ z. bytes ++ z) (joined taken piece) ∙ (sym (append_assoc bytes (take taken piece) (drop taken piece)) ∙ ap (λ z. (bytes ++ take taken piece) ++ z) (sym i.1)) in
    c.in-Err.ensures.memory (bytes ++ take taken piece) (i.4 bytes k) (enough_then c.args.model.now c.args.self.now c.loop-count.self ((bytes ++ take taken piece) ++ c.loop-count.rest.now) (bytes ++ piece) all i.10.keeps i.10.room e)

pub end_kept-requires-clause-fresh : goal.end_kept-requires-clause-fresh
end_kept-requires-clause-fresh c = subst IsFresh (sym (c.in-Ok.ensures.stays.due ∙ c.loop-count.invariant.10.due)) c.requires.fresh

pub end_kept-requires-clause-given : goal.end_kept-requires-clause-given
end_kept-requires-clause-given c =
    let g = c.requires.given in
    let i = c.loop-count.invariant in
    let piece = c.args.piece.now in
    let some = c.if-count-eq0.false in
    let front = g.0 ++ take i.0 piece in
    (front ++ take c.in-Ok.count c.loop-count.rest.now, c.in-Ok.ensures.ok front (i.4 g.0 g.1) (omega (arith, some)))

pub returns-then-count-eq0-clause-ok : goal.returns-then-count-eq0-clause-ok
returns-then-count-eq0-clause-ok c = λ bytes k some.
    let T = c.args.model.now in
    let i = c.loop-count.invariant in
    let taken = i.0 in
    let piece = c.args.piece.now in
    let h = c.in-Ok.ensures in
    let none = c.if-count-eq0.true in
    let mid = c.keep_next.new.self in
    let run = c.keep_next.new.run in
    let l = c.leave.ensures in
    let front = ap length i.1 ∙ length-drop taken piece in
    let left = l.taken in
    let few = i.2 in
    let kept = keeps_as T c.loop-count.self mid c.loop-count.run run (bytes ++ take taken piece) (h.unchanged none) (h.same none) (h.run none) (i.4 bytes k) in
    run_kept_left T mid run c.leave.new.self bytes piece c.leave.result taken (omega (arith, left, front, few)) h.open (l.levels (omega (arith, some, left))) (l.place (omega (arith, some, left))) (l.start (omega (arith, some, left))) l.due kept

pub returns-in-Err-end_kept-clause-memory : goal.returns-in-Err-end_kept-clause-memory
returns-in-Err-end_kept-clause-memory c = λ bytes k e.
    let T = c.args.model.now in
    let i = c.loop-count.invariant in
    let piece = c.args.piece.now in
    let rest = c.loop-count.rest.now in
    let taken = i.0 in
    let count = c.in-Ok.count in
    let some = c.if-count-eq0.false in
    let mid = c.keep_next.new.self in
    let stays = stays_then T c.args.self.now c.loop-count.self mid i.10 c.in-Ok.ensures.stays in
    let front = (bytes ++ take taken piece) ++ take count rest in
    let whole = bytes ++ take (taken + count) piece in
    let less = enough_less T c.args.self.now whole (drop (taken + count) piece) (bytes ++ piece) (behind_is bytes piece (take (taken + count) piece) (drop (taken + count) piece) (joined (taken + count) piece)) e in
    c.in-Err-end_kept.ensures.memory front (c.in-Ok.ensures.ok (bytes ++ take taken piece) (i.4 bytes k) (omega (arith, some)))
    (enough_then T c.args.self.now mid front whole (sym (run_more bytes piece rest taken count i.1)) stays.keeps stays.room less)

pub returns-then-not-awaited-clause-ok : goal.returns-then-not-awaited-clause-ok
returns-then-not-awaited-clause-ok c = λ bytes k some.
    let T = c.args.model.now in
    let i = c.loop-count.invariant in
    let taken = i.0 in
    let piece = c.args.piece.now in
    let rest = c.loop-count.rest.now in
    let count = c.in-Ok.count in
    let more = c.if-count-eq0.false in
    let mid = c.end_kept.new.self in
    let run = c.end_kept.new.run in
    let h = c.in-Ok-end_kept.ensures in
    let l = c.leave-then-not-awaited.ensures in
    let front = ap length i.1 ∙ length-drop taken piece in
    let behind = ap length c.split_at.ensures.back ∙ length-drop count rest in
    let within = c.in-Ok.ensures.within in
    let left = l.taken in
    let few = i.2 in
    let read = subst (RunKeeps T mid run) (run_more bytes piece rest taken count i.1) (h.ok ((bytes ++ take taken piece) ++ take count rest) (c.in-Ok.ensures.ok (bytes ++ take taken piece) (i.4 bytes k) (omega (arith, more)))) in
    run_kept_left T mid run c.leave-then-not-awaited.new.self bytes piece c.leave-then-not-awaited.result (taken + count) (omega (arith, left, front, behind, within, few)) h.open (l.levels (omega (arith, some, left))) (l.place (omega (arith, some, left))) (l.start (omega (arith, some, left))) l.due read

pub loop-count-preserved : goal.loop-count-preserved
loop-count-preserved c =
    let T = c.args.model.now in
    let s = c.args.self.now in
    let piece = c.args.piece.now in
    let i = c.loop-count.invariant in
    let taken = i.0 in
    let count = c.in-Ok.count in
    let rest = c.loop-count.rest.now in
    let h = c.in-Ok.ensures in
    let e = c.in-Ok-end_kept.ensures in
    let some = c.if-count-eq0.false in
    let within = h.within in
    let front = ap length i.1 ∙ length-drop taken piece in
    let few = i.2 in
    let at = i.8 in
    let on = h.place in
    let there = e.place in (
      taken + count,
      c.split_at.ensures.back ∙ (ap (drop count) i.1 ∙ drop_then taken count piece),
      omega (arith, within, front, few),
      subst (λ z. CheckTypes (types_of T) z) (sym e.checks) h.checks,
      λ bytes k. subst (RunKeeps T c.end_kept.new.self c.end_kept.new.run) (run_more bytes piece rest taken count i.1) (e.ok ((bytes ++ take taken piece) ++ take count rest) (h.ok (bytes ++ take taken piece) (i.4 bytes k) (omega (arith, some)))),
      e.low (let a = c.if-not-awaited.false in cc),
      λ none. absurd (omega (arith, none, some)),
      λ none. absurd (omega (arith, none, some)),
      omega (arith, at, on, there),
      e.open,
      stays_then T s c.keep_next.new.self c.end_kept.new.self (stays_then T s c.loop-count.self c.keep_next.new.self i.10 h.stays) e.stays,
    )
