-- The built-in message breaks no rule, and is compiled to its tables.
use Rattle.drill.proofs.MessageTables.{is_compiled}
use Rattle.drill.proofs.ReachedPlaces.{reached_list}
use Rattle.drill.proofs.Ready.{is_ready}
use Rattle.drill.proofs.laws.the_message_is_compiled.Goals as goal

pub returns : goal.returns
returns c = record { ready = is_ready; reached = reached_list; compiles = is_compiled }
