-- The tag is a token that breaks no rule.
use Rattle.markup.specs.Events.{open_tags}
use Rattle.markup.proofs.OpenedTags.{takes_tag}
use Rattle.markup.proofs.context.Context.«open».Goals as goal

pub returns : goal.returns
returns c before t is says = takes_tag c.args.self.now before t is c.args.prefix.now c.args.name.now c.args.attributes.now.items c.args.is_empty says c.is_over-over.result (c.is_over-over.ensures before is) c.open.new.attributes.items c.open.new.self c.in_ok-opened.opened (c.in_ok-opened.ensures (open_tags before) is.scope)
