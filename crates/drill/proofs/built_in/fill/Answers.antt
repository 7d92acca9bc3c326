-- The texts of the message are texts of XML.
use Rattle.std.proofs.Common.{sym, subst}
use Rattle.repo_objects.specs.Objects.{HasMessageTexts}
use Rattle.drill.proofs.RepositoryTexts.{message_texts}
use Rattle.drill.proofs.built_in.fill.Goals as goal

pub add_message-requires : goal.add_message-requires
add_message-requires c = subst HasMessageTexts (sym c.in_ok-message.ensures) message_texts
