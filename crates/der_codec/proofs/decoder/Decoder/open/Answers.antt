use Rattle.std.proofs.Common.{◌∷◌, ◌++◌, [], ◌+◌, sym, subst, refl}
use Rattle.der_codec.specs.Levels.{inwards}
use Rattle.der_codec.specs.Decoding.{IsStopped, level_at}
use Rattle.der_codec.specs.declared.decoder.Due.TheVariants as due
use Rattle.der_codec.proofs.StepTies.{open_past, open_primitive, open_constructed, reads_as, ok_both, ok_when}
use Rattle.der_codec.proofs.decoder.Decoder.open.Goals as goal

pub returns-then-ends_before-clause-err : goal.returns-then-ends_before-clause-err
returns-then-ends_before-clause-err c = λ m bytes r has.
    let s = c.args.self.now in
    let e = c.if-ends_before.ensures.yes refl in
    subst (λ z. IsStopped m s (bytes ++ c.args.octet ∷ []) z) (sym c.fault.ensures)
    (open_past m (inwards s.levels.items) s.due c.args.constructed c.args.spot s.start s.place c.args.n bytes c.args.octet r has c.requires.low e.0 e.1 e.2)

pub returns-then-constructed-clause-ok : goal.returns-then-constructed-clause-ok
returns-then-constructed-clause-ok c = λ m bytes r has.
    let s = c.args.self.now in
    let new = c.push.new.self in
    let all = ok_both c.push.result _ _ (ok_both c.push.result _ _ c.push.ensures.levels c.push.ensures.place) (ok_both c.push.result _ _ c.push.ensures.start c.push.ensures.due) in
    ok_when c.push.result _ _ all (λ h.
    reads_as m (inwards new.levels.items) (level_at c.args.spot (s.place + 1 + c.args.n) ∷ inwards s.levels.items) new.due (due.Tag h.1.1.0) new.start (s.place + 1) new.place (s.place + 1) (bytes ++ c.args.octet ∷ []) h.0.0 h.1.1.1 h.1.0 h.0.1
    (open_constructed m (level_at c.args.spot (s.place + 1 + c.args.n)) (inwards s.levels.items) s.due c.args.spot h.1.1.0 s.start s.place c.args.n bytes c.args.octet r c.args.constructed c.if-constructed.true has (c.if-ends_before.ensures.no refl) refl refl refl refl h.1.1.2))

pub returns-clause-ok : goal.returns-clause-ok
returns-clause-ok c = λ m bytes r has.
    let s = c.args.self.now in
    open_primitive m (inwards s.levels.items) s.due c.args.spot s.start s.place c.args.n bytes c.args.octet r c.args.constructed c.if-constructed.false has (c.if-ends_before.ensures.no refl)
