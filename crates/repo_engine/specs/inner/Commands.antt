-- What a parsed command line stands for.
use Rattle.std.specs.Prelude.{ℕ, ◌≤◌, List}
use Rattle.drill.specs.Growing.{most_beside}
use Rattle.repo_engine.specs.declared.command.Command.{Command}
use Rattle.repo_engine.specs.declared.command.Command.TheVariants.{List as Listing, Message, Drill}
use Rattle.repo_engine.specs.Command as line
use Rattle.repo_engine.specs.Command.{HasCommandForm}

abbrev pub command_view : Command → line.Command
command_view (Listing codes_word) = line.list codes_word.now
command_view (Message verb codes_word id) = line.message verb codes_word.now id
command_view (Drill number size) = line.drill number size

-- a drill is on no more nodes than there may be
abbrev pub IsBoundedDrill : Command → Type 0
IsBoundedDrill (Drill number size) = size ≤ most_beside
IsBoundedDrill command = Unit {0}

-- the words have its form
abbrev pub AsksFor : List (List ℕ) → Command → Type 0
AsksFor ws command = HasCommandForm ws (command_view command)
