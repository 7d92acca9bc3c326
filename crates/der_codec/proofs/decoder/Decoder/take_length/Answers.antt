use Rattle.std.proofs.Common.{◌∷◌, ◌++◌, [], ◌+◌, sym, subst, refl, ap}
use Rattle.lexical_core.specs.declared.rule.Rule.TheVariants.{Overrun, BadLengthOctets}
use Rattle.der_octets.specs.LengthSteps as lengths
use Rattle.der_codec.specs.Levels.{inwards}
use Rattle.der_codec.specs.Decoding.{IsStopped, IsBegun, HasLengthOctets}
use Rattle.der_codec.specs.declared.decoder.Due.TheVariants as due
use Rattle.der_codec.proofs.Steps.{bad_length, more_length, overrun_length}
use Rattle.der_codec.proofs.StepTies.{reads_as, fails_as, ok_always, err_when}
use Rattle.der_codec.proofs.decoder.Decoder.take_length.Goals as goal

pub returns-in-Bad-clause-err : goal.returns-in-Bad-clause-err
returns-in-Bad-clause-err c = λ m bytes r.
    let s = c.args.self.now in
    let d = due.Length c.args.constructed c.args.spot c.args.step in
    let r1 = reads_as m (inwards s.levels.items) (inwards s.levels.items) d s.due s.start s.start s.place s.place bytes refl (sym c.requires.due) refl refl r in
    subst (λ z. IsStopped m s (bytes ++ c.args.octet ∷ []) z) (sym c.fault.ensures)
    (fails_as m (inwards s.levels.items) (inwards s.levels.items) s.due d (bytes ++ c.args.octet ∷ []) BadLengthOctets s.start s.start [] refl c.requires.due refl
    (bad_length m (inwards s.levels.items) c.args.constructed c.args.spot c.args.step s.start s.place bytes c.args.octet r1 c.requires.low (c.in-Bad.ensures r1.rest r1.is_begun)))

pub returns-in-More-clause-ok : goal.returns-in-More-clause-ok
returns-in-More-clause-ok c = λ m bytes r.
    let s = c.args.self.now in
    let new = c.go_on.new.self in
    let d = due.Length c.args.constructed c.args.spot c.args.step in
    let e = due.Length c.args.constructed c.args.spot c.take.new.self in
    let r1 = reads_as m (inwards s.levels.items) (inwards s.levels.items) d s.due s.start s.start s.place s.place bytes refl (sym c.requires.due) refl refl r in
    ok_always c.go_on.result _ (reads_as m (inwards new.levels.items) (inwards s.levels.items) new.due e new.start s.start new.place (s.place + 1) (bytes ++ c.args.octet ∷ [])
    (ap (λ v. inwards v.items) c.go_on.ensures.levels) c.go_on.ensures.due c.go_on.ensures.start c.go_on.ensures.place
    (more_length m (inwards s.levels.items) c.args.constructed c.args.spot c.args.step c.take.new.self s.start s.place bytes c.args.octet r1 (c.in-More.ensures r1.rest r1.is_begun)))

pub returns-in-More-clause-err : goal.returns-in-More-clause-err
returns-in-More-clause-err c = λ m bytes r.
    let s = c.args.self.now in
    let new = c.go_on.new.self in
    let d = due.Length c.args.constructed c.args.spot c.args.step in
    let e = due.Length c.args.constructed c.args.spot c.take.new.self in
    let r1 = reads_as m (inwards s.levels.items) (inwards s.levels.items) d s.due s.start s.start s.place s.place bytes refl (sym c.requires.due) refl refl r in
    let read = more_length m (inwards s.levels.items) c.args.constructed c.args.spot c.args.step c.take.new.self s.start s.place bytes c.args.octet r1 (c.in-More.ensures r1.rest r1.is_begun) in
    err_when c.go_on.result _ _ c.go_on.ensures.err (λ x h.
    subst (λ z. IsStopped m new (bytes ++ c.args.octet ∷ []) z) (sym h.0)
    (fails_as m (inwards new.levels.items) (inwards s.levels.items) new.due e (bytes ++ c.args.octet ∷ []) Overrun s.start s.start [] (ap (λ v. inwards v.items) c.go_on.ensures.levels) c.go_on.ensures.due refl
    (overrun_length m (inwards s.levels.items) c.args.constructed c.args.spot c.take.new.self s.start s.place (bytes ++ c.args.octet ∷ []) read h.1 c.requires.low)))

pub returns-in-Done-clause-ok : goal.returns-in-Done-clause-ok
returns-in-Done-clause-ok c = λ m bytes r.
    let s = c.args.self.now in
    let begun : lengths.HasTakenLength c.args.step r.rest = subst (λ z. IsBegun z r.state r.rest) c.requires.due r.is_begun in
    let done = c.in-Done.ensures r.rest begun in
    let has : HasLengthOctets s.due c.args.constructed c.args.spot r.rest c.args.octet c.in-Done.n = subst (λ z. HasLengthOctets z c.args.constructed c.args.spot r.rest c.args.octet c.in-Done.n) (sym c.requires.due) (refl, refl, done.0, done.1) in
    c.open.ensures.ok m bytes r has

pub returns-in-Done-clause-err : goal.returns-in-Done-clause-err
returns-in-Done-clause-err c = λ m bytes r.
    let s = c.args.self.now in
    let begun : lengths.HasTakenLength c.args.step r.rest = subst (λ z. IsBegun z r.state r.rest) c.requires.due r.is_begun in
    let done = c.in-Done.ensures r.rest begun in
    let has : HasLengthOctets s.due c.args.constructed c.args.spot r.rest c.args.octet c.in-Done.n = subst (λ z. HasLengthOctets z c.args.constructed c.args.spot r.rest c.args.octet c.in-Done.n) (sym c.requires.due) (refl, refl, done.0, done.1) in
    c.open.ensures.err m bytes r has
