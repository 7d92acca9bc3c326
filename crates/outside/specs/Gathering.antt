-- A push by way of a buffer. Private functions alone cite this.
use Rattle.std.specs.Prelude.{◌≡◌, ℕ, List, ◌++◌, Option, Result, MatchResult}
use Rattle.outside.specs.Pushes.{Pushes}
use Rattle.outside.specs.declared.errors.SinkError.{SinkError}

-- What the buffer had and the bytes behind it went to the sink, but for what the buffer has now; at an error the first of them.
abbrev pub Gathers : {S T : Type 0} → (S → Option (List ℕ)) → (S → ℕ) → (S → ℕ) → S → S → List ℕ → List ℕ → Result T SinkError → List ℕ → Type 0
Gathers held faults room old new buffer left result bytes =
    MatchResult result (λ _. (front : List ℕ) × (buffer ++ bytes ≡ front ++ left) × Pushes held faults room old new result front)
    (λ _. Pushes held faults room old new result (buffer ++ bytes))
