-- What is said of each message that breaks no rule of its repository.
use Rattle.std.specs.Prelude.{ℕ, List}
use Rattle.repo_objects.specs.Repository.{Contents}
use Rattle.message_model.specs.Tables.{Tables}
use Rattle.message_model.specs.Ready.{IsReady}
use Rattle.message_model.specs.Compiled.{Compiles, IsReachedList}

-- what is said of the tables of each of them
abbrev pub OfReady : (Tables → Type 0) → Type 0
OfReady Says = (R : Contents) (m : List ℕ) (ids : List (List ℕ)) (T : Tables) → IsReady R m → IsReachedList R m ids → Compiles R m ids T → Says T
