use Rattle.std.proofs.Common.{◌≡◌, ℕ, Some, None, IfSome, IfNone, length, sym, subst, arith}
use Rattle.std.specs.Prelude.{slice_get}
use Rattle.reference_check.specs.Forms.{Form, form_slots}
use Rattle.facets.specs.declared.simple.Simple.{Simple}
use Rattle.message_model.specs.Options.{IsFirmAt, AreOptions}
use Rattle.message_model.proofs.Due.{sound_at, form_found, form_none, get_some, get_none}
use Rattle.message_model.proofs.model.Model.first_firm.Goals as goal

pub layout_firm-requires : goal.layout_firm-requires
layout_firm-requires c =
    let e : slice_get c.self.inside.types.items c.args.number ≡ Some c.in-Some.entry.now = get_some c.self.inside.types.items c.deref.result.now c.args.number c.in-Some.entry.now c.deref.ensures.value c.in-Some.ensures.lookup.3.0 c.in-Some.ensures.lookup.1 in
    sound_at c.self.inside.id c.self.inside.types.items c.args.number c.in-Some.entry.now c.self.invariant.0 e

pub returns-in-None-clause-none : goal.returns-in-None-clause-none
returns-in-None-clause-none c =
    let e : slice_get c.self.inside.types.items c.args.number ≡ None = get_none c.self.inside.types.items c.deref.result.now c.args.number c.deref.ensures.value c.in-None.ensures.lookup.3 in
    subst (λ (f : Form ℕ Simple). AreOptions (form_slots f) c.args.from (length (form_slots f))) (sym (form_none c.self.inside.id c.self.inside.types.items c.args.number c.args.self.now c.self.view_is e))
    (λ i s above below there. absurd (omega (arith, below)))

pub returns-in-Some-clause-some : goal.returns-in-Some-clause-some
returns-in-Some-clause-some c =
    let e : slice_get c.self.inside.types.items c.args.number ≡ Some c.in-Some.entry.now = get_some c.self.inside.types.items c.deref.result.now c.args.number c.in-Some.entry.now c.deref.ensures.value c.in-Some.ensures.lookup.3.0 c.in-Some.ensures.lookup.1 in
    subst (λ (f : Form ℕ Simple). IfSome c.layout_firm.result (λ at. IsFirmAt (form_slots f) c.args.from at))
    (sym (form_found c.self.inside.id c.self.inside.types.items c.args.number c.in-Some.entry.now c.args.self.now c.self.view_is e)) c.layout_firm.ensures.some

pub returns-in-Some-clause-none : goal.returns-in-Some-clause-none
returns-in-Some-clause-none c =
    let e : slice_get c.self.inside.types.items c.args.number ≡ Some c.in-Some.entry.now = get_some c.self.inside.types.items c.deref.result.now c.args.number c.in-Some.entry.now c.deref.ensures.value c.in-Some.ensures.lookup.3.0 c.in-Some.ensures.lookup.1 in
    subst (λ (f : Form ℕ Simple). IfNone c.layout_firm.result (AreOptions (form_slots f) c.args.from (length (form_slots f))))
    (sym (form_found c.self.inside.id c.self.inside.types.items c.args.number c.in-Some.entry.now c.args.self.now c.self.view_is e)) c.layout_firm.ensures.none
