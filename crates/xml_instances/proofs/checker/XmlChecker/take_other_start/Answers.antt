use Rattle.std.proofs.Common.{rules, ◌≡◌, [], map, Option, Some, None, refl, subst}
use Rattle.markup.specs.TagAttributes.{tag_entry}
use Rattle.message_model.specs.Tables.{message_of, types_of}
use Rattle.xml_instances.specs.Levels.{levels_over}
use Rattle.xml_instances.specs.Built.{Shown, EventsShow}
use Rattle.xml_instances.specs.Keeping.{PiecesKept, GoOn}
use Rattle.xml_instances.specs.XmlFaults.{items_told}
use Rattle.xml_instances.specs.Open.{AreMade}
use Rattle.xml_instances.specs.inner.Fronts.{told_items}
use Rattle.xml_instances.specs.Checking.{TakesXmlFront}
use Rattle.xml_instances.specs.declared.checker.XmlChecker.{XmlChecker}
use Rattle.xml_instances.specs.declared.content.Content.{Content}
use Rattle.xml_instances.proofs.QuickFed.{front_items}
use Rattle.xml_instances.proofs.checker.XmlChecker.take_other_start.Goals as goal

-- where no pieces are kept nothing is said of them
go_bare : (a b : Option PiecesKept) (Step : Shown → Shown → Type 0) → a ≡ None → b ≡ a → GoOn a b Step
go_bare None None Step e q = tt
go_bare None (Some kept) Step e q = absurd (cc)
go_bare (Some kept) b Step e q = absurd (cc)

pub returns-then-done-clause-front : goal.returns-then-done-clause-front
returns-then-done-clause-front c before piece r =
    let T = c.args.model.now in
    let t = c.args.tag.now in
    let old = c.args.self.now.content in
    front_items T (record c.args.self.now { reader = before }) _ piece t.bytes r.within r.room r.count c.saturating_add-self.ensures refl refl
    (λ bytes h.
    let ls = levels_over (message_of T) [] (items_told h.told) in (
      told_items t,
      r.told_are bytes h.told h.given,
      c.in-Ok.ensures.taken (message_of T) ls _ (map tag_entry t.attributes.items) h.open_are c.if-done.true,
      go_bare old.pieces c.pass_foreign.new.self.pieces (EventsShow T ls (told_items t)) (c.in-Ok.ensures.bare c.if-done.true) c.pass_foreign.ensures.pieces,
    ))

pub returns-then-done-clause-made : goal.returns-then-done-clause-made
returns-then-done-clause-made c =
    let h : AreMade (types_of c.args.model.now) c.args.self.now.content = search rules in
    c.pass_foreign.ensures.made (types_of c.args.model.now) h

pub returns-in-Err-clause-made : goal.returns-in-Err-clause-made
returns-in-Err-clause-made c =
    let h : AreMade (types_of c.args.model.now) c.args.self.now.content = search rules in
    c.pass_foreign.ensures.made (types_of c.args.model.now) h

pub returns-else-done-clause-front : goal.returns-else-done-clause-front
returns-else-done-clause-front c before piece r =
    let old : XmlChecker = record c.args.self.now { reader = before } in
    subst (λ (x : Content). TakesXmlFront c.args.model.now (record { alloc = old.alloc; reader = before; events = old.events; content = x; place = old.place; failed = old.failed }) c.take_any_start.new.self piece c.take_any_start.result)
    (c.in-Ok.ensures.kept c.if-done.false) (c.take_any_start.ensures.front before piece r)
