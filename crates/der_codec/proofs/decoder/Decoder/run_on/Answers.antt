use Rattle.std.proofs.Common.{ℕ, List, ◌+◌, ◌++◌, ◌∙◌, length, take, drop, refl, sym, ap, subst, arith, append-nil}
use Rattle.std.proofs.lemmas.List.{length-drop}
use Rattle.der_model.specs.DerMessage.{der_message}
use Rattle.der_codec.specs.Decoding.{IsFresh}
use Rattle.der_codec.specs.inner.Runs.{RunReads}
use Rattle.der_codec.proofs.UsualSteps.{run_more, drop_then}
use Rattle.der_codec.proofs.Runs.{run_left}
use Rattle.der_codec.proofs.decoder.Decoder.run_on.Goals as goal

pub loop-count-init : goal.loop-count-init
loop-count-init c = (
  0,
  refl,
  omega arith,
  c.requires.checks,
  λ bytes r. subst (RunReads (der_message c.args.model.now) c.args.self.now c.args.run) (sym (append-nil bytes)) r,
  c.requires.low,
  c.requires.fresh,
  λ none. refl,
  omega arith,
  c.requires.some,
)

pub take_next-requires-clause-room : goal.take_next-requires-clause-room
take_next-requires-clause-room c =
    let i = c.loop-count.invariant in
    let place = i.8 in
    let behind = ap length i.1 ∙ length-drop i.0 c.args.piece.now in
    let within = i.2 in
    let room = c.requires.room in
    omega (arith, place, behind, within, room)

pub take_next-requires-clause-read : goal.take_next-requires-clause-read
take_next-requires-clause-read c = (let g = c.requires.read in let i = c.loop-count.invariant in (g.0 ++ take i.0 c.args.piece.now, i.4 g.0 g.1))

pub returns-then-not-end_usual-clause-ok : goal.returns-then-not-end_usual-clause-ok
returns-then-not-end_usual-clause-ok c = λ some bytes r.
    let m = der_message c.args.model.now in
    let piece = c.args.piece.now in
    let i = c.loop-count.invariant in
    let taken = i.0 in
    let count = c.in-Some.count in
    let rest = c.loop-count.rest.now in
    let front = ap length i.1 ∙ length-drop taken piece in
    let behind = ap length c.split_at.ensures.back ∙ length-drop count rest in
    let within = c.in-Some.ensures.within in
    let few = i.2 in
    let left = c.leave-then-not-end_usual.ensures.taken in
    let read = subst (RunReads m c.take_next.new.self c.take_next.new.run) (run_more bytes piece rest taken count i.1) (c.in-Some.ensures.ok (bytes ++ take taken piece) (i.4 bytes r)) in
    let ended = c.if-not-end_usual.ensures.ok (bytes ++ take (taken + count) piece) read in
    run_left m c.end_usual.new.self c.end_usual.new.self c.leave-then-not-end_usual.new.self c.end_usual.new.run c.end_usual.new.run bytes piece (taken + count) c.leave-then-not-end_usual.result refl refl (omega (arith, left, behind, front, within, few)) some ended
    (λ more octets r. c.leave-then-not-end_usual.ensures.read (omega (arith, left, behind, front, within, few, more)) octets c.args.model.now r)

pub loop-count-preserved : goal.loop-count-preserved
loop-count-preserved c =
    let m = der_message c.args.model.now in
    let piece = c.args.piece.now in
    let i = c.loop-count.invariant in
    let taken = i.0 in
    let count = c.in-Some.count in
    let rest = c.loop-count.rest.now in
    let h = c.in-Some.ensures in
    let e = c.if-not-end_usual.ensures in
    let some = h.some in
    let within = h.within in
    let front = ap length i.1 ∙ length-drop taken piece in
    let few = i.2 in
    let at = i.8 in
    let on = h.place in
    let there = e.place in
    let g = c.requires.read in
    let read = λ (bytes : List ℕ) (r : RunReads m c.args.self.now c.args.run bytes). subst (RunReads m c.take_next.new.self c.take_next.new.run) (run_more bytes piece rest taken count i.1) (h.ok (bytes ++ take taken piece) (i.4 bytes r)) in (
      taken + count,
      c.split_at.ensures.back ∙ (ap (drop count) i.1 ∙ drop_then taken count piece),
      omega (arith, within, front, few),
      h.checks,
      λ bytes r. e.ok (bytes ++ take (taken + count) piece) (read bytes r),
      e.low refl (g.0 ++ take (taken + count) piece) (read g.0 g.1),
      subst IsFresh (sym (e.due ∙ h.due)) i.6,
      λ none. absurd (omega (arith, none, some)),
      omega (arith, at, on, there),
      e.open,
    )
