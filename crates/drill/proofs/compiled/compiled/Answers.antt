-- What the repository is compiled to are the tables, since a message that breaks no rule has one list of them.
use Rattle.std.proofs.Common.{◌≡◌, ℕ, List, subst}
use Rattle.repo_objects.specs.Repository.{Contents}
use Rattle.message_model.specs.Compiled.{Compiles, IsReachedList}
use Rattle.message_model.specs.Laws.{OneModel}
use Rattle.message_model.specs.Tables.{Tables}
use Rattle.drill.specs.BuiltIn.{contents, message_id, drill_tables}
use Rattle.drill.specs.Drilled.{IsTreeCompiled}
use Rattle.drill.proofs.compiled.compiled.Goals as goal

-- the repository and the identifier have one list of tables
abbrev HasTables : Contents → List ℕ → Tables → Type 0
HasTables R m T = (ids : List (List ℕ)) × IsReachedList R m ids × Compiles R m ids T

are_these : OneModel → IsTreeCompiled → (R : Contents) (m : List ℕ) (T : Tables) → R ≡ contents → m ≡ message_id → HasTables R m T → T ≡ drill_tables
are_these one built R m T contents_are id_is has =
    let here : HasTables contents message_id T = subst (λ x. HasTables contents x T) id_is (subst (λ S. HasTables S m T) contents_are has) in
    one contents message_id here.0 _ T drill_tables built.ready here.1 here.2 built.reached built.compiles

pub returns-in-Ok : goal.returns-in-Ok
returns-in-Ok c = are_these c.one_model.ensures c.the_message_is_compiled.ensures _ _ _ c.in_ok-repository.ensures c.identifier-id.ensures c.in-Ok.ensures.compiled
