use Rattle.std.proofs.Common.{map}
use Rattle.markup.specs.EventItems.{entry_of}
use Rattle.respell.specs.Respelling.{nearest}
use Rattle.respell.proofs.KeptLemmas.{same_defaults, start_written}
use Rattle.respell.proofs.respell.Respell.start.Goals as goal

pub returns-clause-text : goal.returns-clause-text
returns-clause-text c defaults h sorted =
    start_written c.args.self.now.text c.extend.new.self c.name.new.self.text c.enter.new.self.text c.push_declarations.new.text c.push_attributes.new.text c.extend-2.new.self _
    (nearest defaults) (record { namespace = c.args.ns.now; local = c.args.local.now }) (map entry_of c.args.attrs.now)
    c.in_ok-extend.ensures.ok c.in_ok-name.ensures.text
    (c.in_ok-enter.ensures.text defaults c.args.local.now (same_defaults c.args.self.now c.name.new.self defaults c.name.ensures.rest.0 c.name.ensures.rest.1 h))
    c.in_ok-push_declarations.ensures (c.in_ok-push_attributes.ensures sorted) c.in_ok-extend-2.ensures.ok

pub returns-clause-kept : goal.returns-clause-kept
returns-clause-kept c defaults h =
    c.in_ok-enter.ensures.kept defaults c.args.local.now (same_defaults c.args.self.now c.name.new.self defaults c.name.ensures.rest.0 c.name.ensures.rest.1 h)
