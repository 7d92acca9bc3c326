-- By what it stands in.
use Rattle.std.proofs.Common.{map}
use Rattle.markup.specs.TagAttributes.{tag_entry}
use Rattle.repo_loader.proofs.parts.part_in.Goals as goal

pub returns-in-Repository : goal.returns-in-Repository
returns-in-Repository c = rw c.in-Repository.is (c.part_in_repository.ensures (map tag_entry c.args.attributes.now))

pub returns-in-Message : goal.returns-in-Message
returns-in-Message c = rw c.in-Message.is (c.part_in_message.ensures (map tag_entry c.args.attributes.now))
