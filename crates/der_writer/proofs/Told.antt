-- A push that tells something besides.
use Rattle.std.proofs.Common.{◌≡◌, ℕ, List, ◌++◌, Option, Result, Ok, Err, ap}
use Rattle.std.specs.Prelude.{IsErrOf}
use Rattle.outside.specs.Pushes.{Pushes}
use Rattle.outside.specs.declared.errors.SinkError.{SinkError}
use Rattle.outside.proofs.Pushing.{done, stopped, then_push, fails_push}

abbrev pub went : {T : Type 0} → T → Result T SinkError
went x = Ok x

abbrev pub stops : {T : Type 0} → SinkError → Result T SinkError
stops e = Err e

no_error : {T : Type 0} (x : T) (e : SinkError) → IsErrOf (went x) e → ⊥
no_error x e h = absurd cc

same_error : {T U : Type 0} (e f : SinkError) → IsErrOf (stops {T = T} e) f → IsErrOf (stops {T = U} e) f
same_error e f h = (let is : e ≡ f = cc in ap (λ z. stops z) is)

module _ {S : Type 0} (held : S → Option (List ℕ)) (faults room : S → ℕ) where
  -- it goes through, whatever is told
  pub told_done : {T U : Type 0} (x : T) (y : U) (a b : S) (bytes : List ℕ) → Pushes held faults room a b (went x) bytes → Pushes held faults room a b (went y) bytes
  told_done x y a b bytes p = record {
    appends = p.appends;
    cause = record { later = p.cause.later; failed = λ f. absurd (no_error y _ f); same = λ _. p.cause.same (no_error x _) };
    takes = record { falls = p.takes.falls; memory = λ f. absurd (no_error y _ f) };
  }

  -- it does not
  pub told_stopped : {T U : Type 0} (e : SinkError) (a b : S) (bytes : List ℕ) → Pushes held faults room a b (stops {T = T} e) bytes → Pushes held faults room a b (stops {T = U} e) bytes
  told_stopped {T = T} {U = U} e a b bytes p = record {
    appends = p.appends;
    cause = record { later = p.cause.later; failed = λ f. p.cause.failed (same_error {T = U} {U = T} e _ f); same = λ none. p.cause.same (λ f. none (same_error {T = T} {U = U} e _ f)) };
    takes = record { falls = p.takes.falls; memory = λ f. p.takes.memory (same_error {T = U} {U = T} e _ f) };
  }

  -- what came before it
  pub then_told : {T : Type 0} (a b c : S) (r : Result T SinkError) (xs ys : List ℕ) → Pushes held faults room a b done xs → Pushes held faults room b c r ys → Pushes held faults room a c r (xs ++ ys)
  then_told a b c (Ok x) xs ys p q = told_done tt x a c (xs ++ ys) (then_push held faults room a b c done xs ys p (told_done x tt b c ys q))
  then_told {T = T} a b c (Err e) xs ys p q = told_stopped {T = Unit {0}} {U = T} e a c (xs ++ ys) (then_push held faults room a b c (stopped e) xs ys p (told_stopped {T = T} {U = Unit {0}} e b c ys q))

  -- it does not come to its second part
  pub first_told : {T : Type 0} (a b : S) (e : SinkError) (xs ys : List ℕ) → Pushes held faults room a b (stopped e) xs → Pushes held faults room a b (stops {T = T} e) (xs ++ ys)
  first_told {T = T} a b e xs ys p = told_stopped {T = Unit {0}} {U = T} e a b (xs ++ ys) (fails_push held faults room a b e xs ys p)
