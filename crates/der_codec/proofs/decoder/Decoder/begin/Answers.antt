use Rattle.std.proofs.Common.{◌≡◌, ◌∷◌, ◌++◌, [], ◌+◌, sym, subst, refl, arith, ap, ◌∙◌, Some, None}
use Rattle.lexical_core.specs.declared.rule.Rule.TheVariants.{Overrun, UnexpectedTag}
use Rattle.der_octets.specs.TagSteps.{tag_view}
use Rattle.message_model.specs.Tables.{message_of}
use Rattle.der_model.specs.DerMessage.{in_der}
use Rattle.der_codec.specs.Levels.{inwards, first_of, rest_of}
use Rattle.der_codec.specs.Decoding.{IsStopped, IsPastEnd, end_of_first}
use Rattle.der_codec.specs.declared.decoder.Due.TheVariants as due
use Rattle.der_codec.specs.declared.decoder.Stop.TheVariants as stop
use Rattle.der_codec.specs.declared.components.Added.TheVariants as added
use Rattle.der_codec.proofs.Counted.{count_below}
use Rattle.der_codec.proofs.NoCuts.{identifier_stays}
use Rattle.der_codec.proofs.StepTies.{begin_breaks, begin_read, begin_past, outer_read, outer_breaks, reads_as, fails_as, ok_always, ok_when, err_when}
use Rattle.der_codec.proofs.decoder.Decoder.begin.Goals as goal

pub returns-in-None-clause-ok : goal.returns-in-None-clause-ok
returns-in-None-clause-ok c = λ fragment bytes r has.
    let m = in_der fragment (message_of c.args.model.now) in
    let s = c.args.self.now in
    let new = c.begin_outermost.new.self in
    let none : None ≡ first_of (inwards s.levels.items) = c.in-None.ensures in
    ok_when c.begin_outermost.result _ _ c.begin_outermost.ensures.ok (λ h.
    reads_as m (inwards new.levels.items) (inwards s.levels.items) new.due new.due new.start (s.place + 1) new.place (s.place + 1) (bytes ++ c.args.octet ∷ []) (ap (λ v. inwards v.items) c.begin_outermost.ensures.levels) refl h.2 h.1
    (outer_read m (inwards s.levels.items) s.due new.due s.start s.place bytes c.args.octet c.args.id r none has h.0 h.3))

pub returns-in-None-clause-err : goal.returns-in-None-clause-err
returns-in-None-clause-err c = λ fragment bytes r has.
    let m = in_der fragment (message_of c.args.model.now) in
    let s = c.args.self.now in
    let new = c.begin_outermost.new.self in
    let none : None ≡ first_of (inwards s.levels.items) = c.in-None.ensures in
    err_when c.begin_outermost.result _ _ c.begin_outermost.ensures.err (λ x h.
    subst (λ z. IsStopped m new (bytes ++ c.args.octet ∷ []) z) (sym h.0)
    (fails_as m (inwards new.levels.items) (inwards s.levels.items) new.due s.due (bytes ++ c.args.octet ∷ []) UnexpectedTag s.start s.start [] (ap (λ v. inwards v.items) c.begin_outermost.ensures.levels) h.2 refl
    (outer_breaks m (inwards s.levels.items) s.due s.start s.place bytes c.args.octet c.args.id r none has h.1)))

pub returns-in-Breaks-clause-err : goal.returns-in-Breaks-clause-err
returns-in-Breaks-clause-err c = λ fragment bytes r has.
    let m = in_der fragment (message_of c.args.model.now) in
    let s = c.args.self.now in
    let first : Some c.in-Some.level ≡ first_of (inwards s.levels.items) = c.in-Some.ensures in
    begin_breaks m (inwards s.levels.items) c.in-Some.level s.due s.start s.place bytes c.args.octet c.args.id c.in-Breaks.rule c.in-Breaks.added r first has c.requires.low (c.in-Breaks.ensures fragment)

pub returns-in-Begins-clause-ok : goal.returns-in-Begins-clause-ok
returns-in-Begins-clause-ok c = λ fragment bytes r has.
    let m = in_der fragment (message_of c.args.model.now) in
    let s = c.args.self.now in
    let new = c.await_length.new.self in
    let level = c.advanced.result in
    let first : Some c.in-Some.level ≡ first_of (inwards s.levels.items) = c.in-Some.ensures in
    let d = c.await_length.ensures.due in
    let place = c.set_innermost.ensures.place in
    let placed = c.await_length.ensures.place in
    let started = c.await_length.ensures.start in
    ok_always c.await_length.result _ (
    reads_as m (inwards new.levels.items) (level ∷ rest_of (inwards s.levels.items)) new.due (due.Length c.args.id.constructed c.in-Begins.spot d.0) new.start (s.place + 1) new.place (s.place + 1) (bytes ++ c.args.octet ∷ [])
    (ap (λ v. inwards v.items) c.await_length.ensures.levels ∙ c.set_innermost.ensures.levels) d.1 (omega (arith, place, started)) (omega (arith, place, placed))
    (begin_read m (inwards s.levels.items) c.in-Some.level level s.due s.start s.place bytes c.args.octet c.args.id c.in-Begins.number c.in-Begins.spot d.0 r first has c.requires.low (c.in-Begins.ensures fragment) c.advanced.ensures d.2))

pub returns-in-Begins-clause-err : goal.returns-in-Begins-clause-err
returns-in-Begins-clause-err c = λ fragment bytes r has.
    let m = in_der fragment (message_of c.args.model.now) in
    let s = c.args.self.now in
    let new = c.await_length.new.self in
    let level = c.advanced.result in
    let first : Some c.in-Some.level ≡ first_of (inwards s.levels.items) = c.in-Some.ensures in
    let d = c.await_length.ensures.due in
    let place : c.set_innermost.new.self.place + 1 ≡ s.place + 1 = ap (λ z. z + 1) c.set_innermost.ensures.place in
    err_when c.await_length.result _ _ c.await_length.ensures.err (λ x h.
    let past : IsPastEnd (s.place + 1) (end_of_first (level ∷ rest_of (inwards s.levels.items))) = subst (λ z. IsPastEnd z (end_of_first (level ∷ rest_of (inwards s.levels.items)))) place (subst (λ z. IsPastEnd (c.set_innermost.new.self.place + 1) (end_of_first z)) c.set_innermost.ensures.levels h.1) in
    subst (λ z. IsStopped m new (bytes ++ c.args.octet ∷ []) z) (sym (h.0 ∙ ap (λ z. stop.Fault Overrun z added.Nothing) place))
    (fails_as m (inwards new.levels.items) (level ∷ rest_of (inwards s.levels.items)) new.due (due.Length c.args.id.constructed c.in-Begins.spot d.0) (bytes ++ c.args.octet ∷ []) Overrun (s.place + 1) (s.place + 1) []
    (ap (λ v. inwards v.items) c.await_length.ensures.levels ∙ c.set_innermost.ensures.levels) d.1 refl
    (begin_past m (inwards s.levels.items) c.in-Some.level level s.due s.start s.place bytes c.args.octet c.args.id c.in-Begins.number c.in-Begins.spot d.0 r first has c.requires.low (c.in-Begins.ensures fragment) c.advanced.ensures d.2 past)))

pub advanced-requires : goal.advanced-requires
advanced-requires c =
    let s = c.args.self.now in
    let r = c.requires.read in
    let room = c.requires.room in
    let low = count_below (in_der r.0 (message_of c.args.model.now)) (inwards s.levels.items) c.in-Some.level s.due s.start s.place r.1 r.2 c.in-Some.ensures in
    omega arith

pub returns-in-Breaks-clause-stays : goal.returns-in-Breaks-clause-stays
returns-in-Breaks-clause-stays c = λ fragment bytes r.
    let s = c.args.self.now in
    let xs = inwards s.levels.items in
    let first : Some c.in-Some.level ≡ first_of xs = c.in-Some.ensures in
    identifier_stays (in_der fragment (message_of c.args.model.now)) xs c.in-Some.level s.due s.start s.place bytes c.args.id.constructed (tag_view c.args.id) c.in-Breaks.rule c.in-Breaks.added r first (c.in-Breaks.ensures fragment)
