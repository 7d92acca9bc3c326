-- Pushes one after another: what writers over a sink cite.
use Rattle.std.proofs.Common.{◌≡◌, ℕ, ◌+◌, List, [], ◌++◌, Option, Result, Ok, Err, length, take, refl, sym, ◌∙◌, subst, length-append, arith, inl, inr}
use Rattle.std.specs.Prelude.{IsErrOf}
use Rattle.std.proofs.lemmas.Bool.{cases_lt}
use Rattle.std.proofs.lemmas.List.{take-append-le, take_all}
use Rattle.std.proofs.Math.Seq.{take-append-add, take-append_seam}
use Rattle.std.specs.Io.KnownBytes.{Appends}
use Rattle.std.proofs.KnownBytes.{Appends-nil, Appends-trans}
use Rattle.outside.specs.Source.{Rose}
use Rattle.outside.specs.Sink.{AppendsFront, PushAppends}
use Rattle.outside.specs.Pushes.{Pushes}
use Rattle.outside.specs.declared.errors.SinkError.{SinkError}

-- a push that goes through and one that fails leave a front of both texts
pub append_then_front : (a b c : Option (List ℕ)) (xs ys : List ℕ) → Appends a b xs → AppendsFront b c ys → AppendsFront a c (xs ++ ys)
append_then_front a b c xs ys p q =
    (length xs + q.0, subst (Appends a c) (sym (take-append-add xs ys q.0)) (Appends-trans a b c xs (take q.0 ys) p q.1))

-- a front of a text is a front of that text with more behind it
pub front_of_front : (a b : Option (List ℕ)) (xs ys : List ℕ) → AppendsFront a b xs → AppendsFront a b (xs ++ ys)
front_of_front a b xs ys p =
    elim (cases_lt p.0 (length xs)) [
      | inl fits ↦ (p.0, subst (Appends a b) (sym (take-append-le p.0 xs ys (omega arith))) p.1)
      | inr past ↦ (length xs, subst (Appends a b) (take_all p.0 xs past ∙ sym (take-append_seam xs ys)) p.1)
    ]

-- ---- pushes as one fact

-- what came before a push is in front of what it brings
pub push_behind : {T E : Type 0} (r : Result T E) (a b c : Option (List ℕ)) (xs ys : List ℕ) → Appends a b xs → PushAppends b c r ys → PushAppends a c r (xs ++ ys)
push_behind (Ok x) a b c xs ys p q = Appends-trans a b c xs ys p q
push_behind (Err e) a b c xs ys p q = append_then_front a b c xs ys p q

-- a writer's answers: all of its text went through, or it stopped
abbrev pub done : Result (Unit {0}) SinkError
done = Ok tt

abbrev pub stopped : SinkError → Result (Unit {0}) SinkError
stopped e = Err e

no_error : (e : SinkError) → IsErrOf done e → ⊥
no_error e h = absurd (cc)

module _ {S : Type 0} (held : S → Option (List ℕ)) (faults room : S → ℕ) where
  -- nothing was pushed
  pub nothing : (s : S) → Pushes held faults room s s done []
  nothing s = record {
    appends = Appends-nil (held s);
    cause = record { later = omega arith; failed = λ f. absurd (no_error _ f); same = λ _. refl };
    takes = record { falls = omega arith; memory = λ f. absurd (no_error _ f) };
  }

  -- a push that goes through, and one behind it
  pub then_push : (a b c : S) (r : Result (Unit {0}) SinkError) (xs ys : List ℕ) → Pushes held faults room a b done xs → Pushes held faults room b c r ys
      → Pushes held faults room a c r (xs ++ ys)
  then_push a b c r xs ys p q =
      let same : faults b ≡ faults a = p.cause.same (no_error _) in
      let later = q.cause.later in
      let first = p.takes.falls in
      let second = q.takes.falls in
      record {
        appends = push_behind r (held a) (held b) (held c) xs ys p.appends q.appends;
        cause = record {
          later = omega (arith, same, later);
          failed = λ f. subst (λ n. Rose n (faults c)) same (q.cause.failed f);
          same = λ n. q.cause.same n ∙ same;
        };
        takes = record {
          falls = omega (arith, first, second, length-append xs ys);
          memory = λ m. (let lt = q.takes.memory m in omega (arith, first, lt, length-append xs ys));
        };
      }

  -- a push that fails is one of that text with more behind it
  pub fails_push : (a b : S) (e : SinkError) (xs ys : List ℕ) → Pushes held faults room a b (stopped e) xs → Pushes held faults room a b (stopped e) (xs ++ ys)
  fails_push a b e xs ys p =
      let falls = p.takes.falls in
      record {
        appends = front_of_front (held a) (held b) xs ys p.appends;
        cause = record { later = p.cause.later; failed = p.cause.failed; same = p.cause.same };
        takes = record {
          falls = omega (arith, falls, length-append xs ys);
          memory = λ m. (let lt = p.takes.memory m in omega (arith, lt, length-append xs ys));
        };
      }
