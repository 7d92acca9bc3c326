-- A text of two parts, pushed one after the other.
use Rattle.std.proofs.Common.{◌≡◌, ℕ, List, ◌++◌, Option, Result, subst}
use Rattle.outside.specs.Pushes.{Pushes}
use Rattle.outside.specs.declared.errors.SinkError.{SinkError}
use Rattle.outside.proofs.Pushing.{done, stopped, then_push, fails_push}

module _ {S : Type 0} (held : S → Option (List ℕ)) (faults room : S → ℕ) (x y whole : List ℕ) (is : x ++ y ≡ whole) where
  -- the first does not go through
  pub pair_stops : (a b : S) (e : SinkError) → Pushes held faults room a b (stopped e) x → Pushes held faults room a b (stopped e) whole
  pair_stops a b e p = subst (λ t. Pushes held faults room a b (stopped e) t) is (fails_push held faults room a b e x y p)

  -- the first does, and the second ends it
  pub pair_ends : (a b c : S) (r : Result (Unit {0}) SinkError) → Pushes held faults room a b done x → Pushes held faults room b c r y → Pushes held faults room a c r whole
  pair_ends a b c r p q = subst (λ t. Pushes held faults room a c r t) is (then_push held faults room a b c r x y p q)

-- the same text, written in another way
pub same_text : {S : Type 0} (held : S → Option (List ℕ)) (faults room : S → ℕ) (x y : List ℕ) → x ≡ y → (a b : S) (r : Result (Unit {0}) SinkError) → Pushes held faults room a b r x → Pushes held faults room a b r y
same_text held faults room x y e a b r p = subst (λ t. Pushes held faults room a b r t) e p
