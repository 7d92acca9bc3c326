use Rattle.std.proofs.Common.{◌∷◌, ◌++◌, [], ◌+◌, sym, subst, refl, arith, ap}
use Rattle.lexical_core.specs.declared.rule.Rule.TheVariants.{Overrun, BadTagOctets}
use Rattle.der_octets.specs.TagSteps as tags
use Rattle.message_model.specs.Tables.{message_of}
use Rattle.der_model.specs.DerMessage.{in_der}
use Rattle.der_codec.specs.Levels.{inwards}
use Rattle.der_codec.specs.Decoding.{IsStopped, IsBegun, HasIdentifier}
use Rattle.der_codec.specs.declared.decoder.Due.TheVariants as due
use Rattle.der_codec.proofs.Steps.{bad_tag, more_tag, overrun_tag}
use Rattle.der_codec.proofs.StepTies.{reads_as, fails_as, ok_always, err_when}
use Rattle.der_codec.proofs.decoder.Decoder.take_tag.Goals as goal

pub returns-in-Bad-clause-err : goal.returns-in-Bad-clause-err
returns-in-Bad-clause-err c = λ fragment bytes r.
    let m = in_der fragment (message_of c.args.model.now) in
    let s = c.args.self.now in
    let d = due.Tag c.args.step in
    let r1 = reads_as m (inwards s.levels.items) (inwards s.levels.items) d s.due s.start s.start s.place s.place bytes refl (sym c.requires.due) refl refl r in
    subst (λ z. IsStopped m s (bytes ++ c.args.octet ∷ []) z) (sym c.fault.ensures)
    (fails_as m (inwards s.levels.items) (inwards s.levels.items) s.due d (bytes ++ c.args.octet ∷ []) BadTagOctets s.start s.start [] refl c.requires.due refl
    (bad_tag m (inwards s.levels.items) c.args.step s.start s.place bytes c.args.octet r1 c.requires.low (c.in-Bad.ensures r1.rest r1.is_begun)))

pub returns-in-More-clause-ok : goal.returns-in-More-clause-ok
returns-in-More-clause-ok c = λ fragment bytes r.
    let m = in_der fragment (message_of c.args.model.now) in
    let s = c.args.self.now in
    let new = c.go_on.new.self in
    let d = due.Tag c.args.step in
    let e = due.Tag c.take.new.self in
    let r1 = reads_as m (inwards s.levels.items) (inwards s.levels.items) d s.due s.start s.start s.place s.place bytes refl (sym c.requires.due) refl refl r in
    ok_always c.go_on.result _ (reads_as m (inwards new.levels.items) (inwards s.levels.items) new.due e new.start s.start new.place (s.place + 1) (bytes ++ c.args.octet ∷ [])
    (ap (λ v. inwards v.items) c.go_on.ensures.levels) c.go_on.ensures.due c.go_on.ensures.start c.go_on.ensures.place
    (more_tag m (inwards s.levels.items) c.args.step c.take.new.self s.start s.place bytes c.args.octet r1 (c.in-More.ensures r1.rest r1.is_begun)))

pub returns-in-More-clause-err : goal.returns-in-More-clause-err
returns-in-More-clause-err c = λ fragment bytes r.
    let m = in_der fragment (message_of c.args.model.now) in
    let s = c.args.self.now in
    let new = c.go_on.new.self in
    let d = due.Tag c.args.step in
    let e = due.Tag c.take.new.self in
    let r1 = reads_as m (inwards s.levels.items) (inwards s.levels.items) d s.due s.start s.start s.place s.place bytes refl (sym c.requires.due) refl refl r in
    let read = more_tag m (inwards s.levels.items) c.args.step c.take.new.self s.start s.place bytes c.args.octet r1 (c.in-More.ensures r1.rest r1.is_begun) in
    err_when c.go_on.result _ _ c.go_on.ensures.err (λ x h.
    subst (λ z. IsStopped m new (bytes ++ c.args.octet ∷ []) z) (sym h.0)
    (fails_as m (inwards new.levels.items) (inwards s.levels.items) new.due e (bytes ++ c.args.octet ∷ []) Overrun s.start s.start [] (ap (λ v. inwards v.items) c.go_on.ensures.levels) c.go_on.ensures.due refl
    (overrun_tag m (inwards s.levels.items) c.take.new.self s.start s.place (bytes ++ c.args.octet ∷ []) read (let a = r.start_is in let b = r.place_is in omega arith) h.1 c.requires.low)))

pub returns-in-Done-clause-ok : goal.returns-in-Done-clause-ok
returns-in-Done-clause-ok c = λ fragment bytes r.
    let s = c.args.self.now in
    let begun : tags.HasTakenTag c.args.step r.rest = subst (λ z. IsBegun z r.state r.rest) c.requires.due r.is_begun in
    let done = c.in-Done.ensures r.rest begun in
    let has : HasIdentifier s.due r.rest c.args.octet c.in-Done.id = subst (λ z. HasIdentifier z r.rest c.args.octet c.in-Done.id) (sym c.requires.due) done in
    c.begin.ensures.ok fragment bytes r has

pub returns-in-Done-clause-err : goal.returns-in-Done-clause-err
returns-in-Done-clause-err c = λ fragment bytes r.
    let s = c.args.self.now in
    let begun : tags.HasTakenTag c.args.step r.rest = subst (λ z. IsBegun z r.state r.rest) c.requires.due r.is_begun in
    let done = c.in-Done.ensures r.rest begun in
    let has : HasIdentifier s.due r.rest c.args.octet c.in-Done.id = subst (λ z. HasIdentifier z r.rest c.args.octet c.in-Done.id) (sym c.requires.due) done in
    c.begin.ensures.err fragment bytes r has
