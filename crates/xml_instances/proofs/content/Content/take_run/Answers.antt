use Rattle.std.proofs.Common.{◌≡◌, Option, rules, ap, Some, None, refl, sym, subst}
use Rattle.std.specs.Prelude.{Result, Ok, Err, OnOk}
use Rattle.std.proofs.lemmas.Result.{on_ok_weaker}
use Rattle.message_model.specs.Tables.{message_of}
use Rattle.xml_instances.specs.declared.opened.Opened.{Opened}
use Rattle.xml_instances.specs.declared.opened.Opened.TheVariants as opened
use Rattle.xml_instances.proofs.QuickRuns.{run_text_all, run_other}
use Rattle.xml_instances.proofs.GoingOn.{IsNoForeign, run_goes_on, run_kept}
use Rattle.xml_instances.proofs.content.Content.take_run.Goals as goal

any_ok : {T E P : Type 0} (r : Result T E) → P → OnOk r P
any_ok (Ok x) p = p
any_ok (Err e) p = tt

no_foreign : (o e : Option Opened) → o ≡ e → IsNoForeign e → IsNoForeign o
no_foreign o e is h = subst IsNoForeign (sym is) h

pub returns-in-Some-Text-clause-taken : goal.returns-in-Some-Text-clause-taken
returns-in-Some-Text-clause-taken c =
    run_text_all (message_of c.args.model.now) c.args.run.now c.args.count c.text_run.result c.text_run.new.self c.args.self.now.text c.args.self.now.innermost c.args.self.now.round.items (search rules) c.text_run.ensures.kept (ap (λ v. v.items) c.text_run.ensures.round)
    c.text_run.ensures.taken

pub returns-in-None-clause-taken : goal.returns-in-None-clause-taken
returns-in-None-clause-taken c r ls h = run_other (message_of c.args.model.now) ls c.args.run.now c.args.count r c.args.self.now None (search rules) tt c.requires.fits h

pub returns-in-Some-Foreign-clause-taken : goal.returns-in-Some-Foreign-clause-taken
returns-in-Some-Foreign-clause-taken c = any_ok c.inside_run.result (λ r ls h. run_other (message_of c.args.model.now) ls c.args.run.now c.args.count r c.args.self.now (Some opened.Foreign) (search rules) tt c.requires.fits h)

pub returns-in-Some-Envelope-clause-taken : goal.returns-in-Some-Envelope-clause-taken
returns-in-Some-Envelope-clause-taken c r ls h = run_other (message_of c.args.model.now) ls c.args.run.now c.args.count r c.args.self.now (Some (opened.Envelope c.in-Some-Envelope.field-0-0)) (search rules) tt c.requires.fits h

pub returns-in-Some-Parent-clause-taken : goal.returns-in-Some-Parent-clause-taken
returns-in-Some-Parent-clause-taken c r ls h =
    run_other (message_of c.args.model.now) ls c.args.run.now c.args.count r c.args.self.now (Some (opened.Parent c.in-Some-Parent.field-0-0 c.in-Some-Parent.field-0-1 c.in-Some-Parent.field-0-2)) (search rules) tt c.requires.fits h

pub returns-in-Some-Text-clause-shown : goal.returns-in-Some-Text-clause-shown
returns-in-Some-Text-clause-shown c r ls h = any_ok c.text_run.result (run_goes_on c.args.model.now ls r.characters c.args.self.now.innermost c.args.self.now.text c.args.self.now.round.items c.args.self.now.pieces c.text_run.new.self.pieces c.text_run.ensures.pieces h (no_foreign c.args.self.now.innermost (Some opened.Text) (search rules) tt))

pub returns-in-Some-Foreign-clause-shown : goal.returns-in-Some-Foreign-clause-shown
returns-in-Some-Foreign-clause-shown c r ls h =
    let is : c.args.self.now.innermost ≡ Some opened.Foreign = search rules in
    on_ok_weaker c.inside_run.result (λ go. run_kept c.args.model.now ls r.characters c.args.self.now.innermost c.args.self.now.text c.args.self.now.round.items c.args.self.now.pieces c.inside_run.new.pieces h is go) (c.inside_run.ensures.shown c.args.count r)

pub returns-in-None-clause-shown : goal.returns-in-None-clause-shown
returns-in-None-clause-shown c r ls h = run_goes_on c.args.model.now ls r.characters c.args.self.now.innermost c.args.self.now.text c.args.self.now.round.items c.args.self.now.pieces c.args.self.now.pieces refl h (no_foreign c.args.self.now.innermost None (search rules) tt)

pub returns-in-Some-Envelope-clause-shown : goal.returns-in-Some-Envelope-clause-shown
returns-in-Some-Envelope-clause-shown c r ls h = run_goes_on c.args.model.now ls r.characters c.args.self.now.innermost c.args.self.now.text c.args.self.now.round.items c.args.self.now.pieces c.args.self.now.pieces refl h (no_foreign c.args.self.now.innermost (Some (opened.Envelope c.in-Some-Envelope.field-0-0)) (search rules) tt)

pub returns-in-Some-Parent-clause-shown : goal.returns-in-Some-Parent-clause-shown
returns-in-Some-Parent-clause-shown c r ls h =
    run_goes_on c.args.model.now ls r.characters c.args.self.now.innermost c.args.self.now.text c.args.self.now.round.items c.args.self.now.pieces c.args.self.now.pieces refl h
    (no_foreign c.args.self.now.innermost (Some (opened.Parent c.in-Some-Parent.field-0-0 c.in-Some-Parent.field-0-1 c.in-Some-Parent.field-0-2)) (search rules) tt)
