-- What a sink in memory holds behind a whole push.
use Rattle.std.proofs.Common.{◌≡◌, ℕ, List, [], ◌++◌, Some, Result, Ok, Err, ap, ◌∙◌}
use Rattle.outside.specs.Pushes.{Pushes, as_push}
use Rattle.outside.specs.Steady.{SteadyHeld}
use Rattle.outside.specs.declared.errors.WriteError.{WriteError}

-- a sink that was empty holds the text
pub held_is : (old new : SteadyHeld) (push : Result (Unit {0}) WriteError) (done : Unit {0}) (text : List ℕ)
    → Pushes (λ (s : SteadyHeld). Some s.held) (λ (s : SteadyHeld). 0) (λ (s : SteadyHeld). s.room) old new (as_push push) text → push ≡ Ok done → old.held ≡ [] → new.held ≡ text
held_is old new (Ok d) done text p is empty = p.appends ∙ ap (λ l. l ++ text) empty
held_is old new (Err e) done text p is empty = absurd (cc)
