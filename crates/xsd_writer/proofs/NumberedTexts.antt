-- Texts by number, pushed one after the other: those so far went through.
use Rattle.std.proofs.Common.{◌≡◌, ℕ, zero, suc, ◌+◌, ◌<◌, ◌≤◌, List, [], ◌++◌, Option, refl, sym, ap, ◌∙◌, subst, append_assoc, append-nil, arith, inl, inr}
use Rattle.std.proofs.lemmas.Bool.{cases_lt}
use Rattle.outside.specs.Pushes.{Pushes}
use Rattle.outside.specs.declared.errors.SinkError.{SinkError}
use Rattle.outside.proofs.Pushing.{done, stopped, then_push, fails_push}
use Rattle.xsd_writer.specs.inner.NumberedTexts.{texts_below}

below_more : (text : ℕ → List ℕ) (i : ℕ) → texts_below text (i + 1) ≡ texts_below text i ++ text i
below_more text i = ap (texts_below text) (let e : i + 1 ≡ suc i = omega arith in e)

-- the texts of fewer numbers are in front
below_front : (text : ℕ → List ℕ) (i n : ℕ) → i ≤ n → (behind : List ℕ) × (texts_below text n ≡ texts_below text i ++ behind)
below_front text zero zero le = ([], refl)
below_front text (suc i) zero le = absurd (omega (arith, le))
below_front text i (suc n) le =
    elim (cases_lt i (suc n)) [
      | inl lt ↦ (let front = below_front text i n (omega (arith, lt)) in (front.0 ++ text n, ap (λ t. t ++ text n) front.1 ∙ append_assoc (texts_below text i) front.0 (text n)))
      | inr ge ↦ (let same : suc n ≡ i = omega (arith, le, ge) in ([], ap (texts_below text) same ∙ sym (append-nil (texts_below text i))))
    ]

module _ {S : Type 0} (held : S → Option (List ℕ)) (faults room : S → ℕ) (text : ℕ → List ℕ) (i : ℕ) where
  -- one more goes through
  pub number_more : (a b c : S) → Pushes held faults room a b done (texts_below text i) → Pushes held faults room b c done (text i) → Pushes held faults room a c done (texts_below text (i + 1))
  number_more a b c p q = subst (λ t. Pushes held faults room a c done t) (sym (below_more text i)) (then_push held faults room a b c done (texts_below text i) (text i) p q)

  -- one of them does not
  pub number_stops : (n : ℕ) (a b c : S) (e : SinkError) → i < n → Pushes held faults room a b done (texts_below text i) → Pushes held faults room b c (stopped e) (text i)
      → Pushes held faults room a c (stopped e) (texts_below text n)
  number_stops n a b c e lt p q =
      let front = below_front text (i + 1) n (omega (arith, lt)) in
      subst (λ t. Pushes held faults room a c (stopped e) t) (sym (front.1 ∙ ap (λ t. t ++ front.0) (below_more text i)))
      (fails_push held faults room a c e (texts_below text i ++ text i) front.0 (then_push held faults room a b c (stopped e) (texts_below text i) (text i) p q))
