-- Characters taken one after another.
use Rattle.std.proofs.Common.{◌≡◌, ℕ, ◌+◌, ◌≤◌, List, [], ◌++◌, length, Option, sym, ap, subst, append_assoc, append-nil, arith}
use Rattle.data_types.specs.declared.kind.Kind.{Kind}
use Rattle.data_types.specs.declared.collapsed_step.CollapsedStep.{CollapsedStep}
use Rattle.data_types.specs.LeafSteps.{HasGiven, value_memory, begun_in}
use Rattle.data_types.specs.inner.Taking.{TakesChars}

pub takes_none : (s : CollapsedStep) → TakesChars s s [] 0
takes_none s = record {
  taken = λ kind most before h. subst (HasGiven s kind most) (sym (append-nil before)) h;
  room = omega arith;
  count = omega arith;
}

pub takes_then : (a b c : CollapsedStep) (xs ys : List ℕ) (m n : ℕ) → TakesChars a b xs m → TakesChars b c ys n → TakesChars a c (xs ++ ys) (m + n)
takes_then a b c xs ys m n first second =
    let room = first.room in
    let count = first.count in
    record {
      taken = λ kind most before h. subst (HasGiven c kind most) (append_assoc before xs ys) (second.taken kind most (before ++ xs) (first.taken kind most before h));
      room = omega (arith, room, second.room);
      count = omega (arith, count, second.count);
    }

-- a bound that is higher
pub takes_within : (a b : CollapsedStep) (xs : List ℕ) (m n : ℕ) → m ≤ n → TakesChars a b xs m → TakesChars a b xs n
takes_within a b xs m n le takes = let count = takes.count in record { taken = takes.taken; room = takes.room; count = omega (arith, le, count) }

-- white space, of which nothing is kept
pub takes_gap : (a b : CollapsedStep) (gap : List ℕ) → ((kind : Kind) (most : Option ℕ) (before : List ℕ) → HasGiven a kind most before → HasGiven b kind most (before ++ gap))
    → b.value ≡ a.value → TakesChars a b gap 0
takes_gap a b gap taken same = record {
  taken = taken;
  room = omega (arith, ap (λ v. (value_memory v).room) same);
  count = omega (arith, ap (λ v. length (value_memory v).held + begun_in v) same);
}
