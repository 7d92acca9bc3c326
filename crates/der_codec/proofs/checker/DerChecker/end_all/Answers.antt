use Rattle.std.proofs.Common.{refl, sym, subst, ◌∙◌}
use Rattle.der_codec.specs.OpenLeaves.{HoldsNothing}
use Rattle.der_codec.specs.Decoding.{end_of_levels}
use Rattle.der_codec.proofs.Fed.{ready_reading, over_ready}
use Rattle.der_codec.proofs.Keeping.{enough_then, err_as}
use Rattle.der_codec.proofs.checker.DerChecker.end_all.Goals as goal

pub loop-ended-init : goal.loop-ended-init
loop-ended-init c = (c.requires.fresh, refl, refl, refl, λ bytes r. r, λ bytes r shows. shows, λ k. k, refl, λ none. none)

pub end_one-requires-clause-fresh : goal.end_one-requires-clause-fresh
end_one-requires-clause-fresh c = c.loop-ended.invariant.0

pub end_one-requires-clause-given : goal.end_one-requires-clause-given
end_one-requires-clause-given c =
    let g = c.requires.given in
    let i = c.loop-ended.invariant in
    (g.0, i.4 g.0 g.1, i.5 g.0 g.1 g.2)

pub returns-in-Err-clause-err : goal.returns-in-Err-clause-err
returns-in-Err-clause-err c = λ bytes r. c.in-Err.ensures.err bytes (c.loop-ended.invariant.4 bytes r)

pub returns-then-not-ended-clause-ok : goal.returns-then-not-ended-clause-ok
returns-then-not-ended-clause-ok c = λ bytes r shows.
    let new = c.end_one.new.self in
    let i = c.loop-ended.invariant in
    let h = c.in-Ok.ensures in
    let read = i.4 bytes r in
    ready_reading c.args.model.now new.decoder new.kept new.pieces bytes (h.ok bytes read) (h.shown bytes read (i.5 bytes r shows)) (h.open bytes read (let e = c.if-not-ended.true in cc)) (subst HoldsNothing (sym (h.kept ∙ i.1)) c.requires.kept)

pub returns-then-is_over-clause-ok : goal.returns-then-is_over-clause-ok
returns-then-is_over-clause-ok c = λ bytes r shows.
    let new = c.end_one.new.self in
    let d = new.decoder in
    let i = c.loop-ended.invariant in
    let h = c.in-Ok.ensures in
    let read = i.4 bytes r in
    ready_reading c.args.model.now d new.kept new.pieces bytes (h.ok bytes read) (h.shown bytes read (i.5 bytes r shows)) (over_ready d.due d.place (end_of_levels d.levels.items) (c.if-is_over.ensures.yes refl)) (subst HoldsNothing (sym (h.kept ∙ i.1)) c.requires.kept)

pub loop-ended-smaller : goal.loop-ended-smaller
loop-ended-smaller c = c.in-Ok.ensures.less (let e = c.if-not-ended.false in cc)

pub loop-ended-preserved : goal.loop-ended-preserved
loop-ended-preserved c =
    let i = c.loop-ended.invariant in
    let h = c.in-Ok.ensures in (
      c.if-is_over.ensures.no refl (h.ended (let e = c.if-not-ended.false in cc)),
      h.kept ∙ i.1,
      h.checks ∙ i.2,
      h.sound ∙ i.3,
      λ bytes r. h.ok bytes (i.4 bytes r),
      λ bytes r shows. h.shown bytes (i.4 bytes r) (i.5 bytes r shows),
      λ k. h.keeps (i.6 k),
      h.same ∙ i.7,
      λ none. h.alone (i.8 none),
    )

pub returns-in-Err-clause-keeps : goal.returns-in-Err-clause-keeps
returns-in-Err-clause-keeps c = λ k. c.in-Err.ensures.keeps (c.loop-ended.invariant.6 k)

pub returns-in-Err-clause-same : goal.returns-in-Err-clause-same
returns-in-Err-clause-same c = c.in-Err.ensures.same ∙ c.loop-ended.invariant.7

pub returns-then-not-ended-clause-keeps : goal.returns-then-not-ended-clause-keeps
returns-then-not-ended-clause-keeps c = λ k. c.in-Ok.ensures.keeps (c.loop-ended.invariant.6 k)

pub returns-then-not-ended-clause-same : goal.returns-then-not-ended-clause-same
returns-then-not-ended-clause-same c = c.in-Ok.ensures.same ∙ c.loop-ended.invariant.7

pub returns-then-is_over-clause-keeps : goal.returns-then-is_over-clause-keeps
returns-then-is_over-clause-keeps c = λ k. c.in-Ok.ensures.keeps (c.loop-ended.invariant.6 k)

pub returns-then-is_over-clause-same : goal.returns-then-is_over-clause-same
returns-then-is_over-clause-same c = c.in-Ok.ensures.same ∙ c.loop-ended.invariant.7

pub returns-in-Err-clause-memory : goal.returns-in-Err-clause-memory
returns-in-Err-clause-memory c = λ bytes r shows e is.
    let i = c.loop-ended.invariant in
    c.in-Err.ensures.memory bytes (i.4 bytes r) (i.5 bytes r shows) (enough_then c.args.model.now c.args.self.now c.loop-ended.self bytes bytes refl i.6 i.7 e) (err_as _ _ is)
