-- A text of three parts, pushed one after the other.
use Rattle.std.proofs.Common.{◌≡◌, ℕ, List, ◌++◌, Option, Result, subst}
use Rattle.outside.specs.Pushes.{Pushes}
use Rattle.outside.specs.declared.errors.SinkError.{SinkError}
use Rattle.outside.proofs.Pushing.{done, stopped, then_push, fails_push}

module _ {S : Type 0} (held : S → Option (List ℕ)) (faults room : S → ℕ) (x y z whole : List ℕ) (is : x ++ (y ++ z) ≡ whole) where
  -- the first does not go through
  pub first_stops : (a b : S) (e : SinkError) → Pushes held faults room a b (stopped e) x → Pushes held faults room a b (stopped e) whole
  first_stops a b e p = subst (λ t. Pushes held faults room a b (stopped e) t) is (fails_push held faults room a b e x (y ++ z) p)

  -- the second does not
  pub second_stops : (a b c : S) (e : SinkError) → Pushes held faults room a b done x → Pushes held faults room b c (stopped e) y → Pushes held faults room a c (stopped e) whole
  second_stops a b c e p q =
      subst (λ t. Pushes held faults room a c (stopped e) t) is (then_push held faults room a b c (stopped e) x (y ++ z) p (fails_push held faults room b c e y z q))

  -- the first two do, and the third ends it
  pub third_ends : (a b c d : S) (r : Result (Unit {0}) SinkError) → Pushes held faults room a b done x → Pushes held faults room b c done y → Pushes held faults room c d r z
      → Pushes held faults room a d r whole
  third_ends a b c d r p q t = subst (λ l. Pushes held faults room a d r l) is (then_push held faults room a b d r x (y ++ z) p (then_push held faults room b c d r y z q t))
