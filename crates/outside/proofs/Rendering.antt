-- Texts that are pushed one after the other: those so far went through.
use Rattle.std.proofs.Common.{◌≡◌, ℕ, zero, suc, ◌+◌, ◌<◌, ◌≤◌, List, [], ◌∷◌, ◌++◌, Option, flat_map, length, take, drop, get_or, refl, sym, ap, ◌∙◌, subst, append_assoc, append-nil, arith}
use Rattle.std.proofs.lemmas.List.{take_all}
use Rattle.outside.specs.Pushes.{Pushes}
use Rattle.outside.specs.declared.errors.SinkError.{SinkError}
use Rattle.outside.proofs.Pushing.{done, stopped, then_push, fails_push}

module _ {X : Type 0} (text : X → List ℕ) where
  text_more : (xs : List X) (i : ℕ) (d : X) → i < length xs → flat_map text (take (i + 1) xs) ≡ flat_map text (take i xs) ++ text (get_or xs i d)
  text_more [] i d lt = absurd (omega (arith, lt))
  text_more (x ∷ xs) zero d lt = append-nil (text x)
  text_more (x ∷ xs) (suc i) d lt =
      (let e : suc i + 1 ≡ suc (i + 1) = omega arith in ap (λ n. flat_map text (take n (x ∷ xs))) e)
      ∙ ap (λ t. text x ++ t) (text_more xs i d (omega (arith, lt))) ∙ sym (append_assoc (text x) (flat_map text (take i xs)) (text (get_or xs i d)))

  text_split : (xs : List X) (i : ℕ) → flat_map text xs ≡ flat_map text (take i xs) ++ flat_map text (drop i xs)
  text_split [] zero = refl
  text_split [] (suc i) = refl
  text_split (x ∷ xs) zero = refl
  text_split (x ∷ xs) (suc i) = ap (λ t. text x ++ t) (text_split xs i) ∙ sym (append_assoc (text x) (flat_map text (take i xs)) (flat_map text (drop i xs)))

module _ {S X : Type 0} (held : S → Option (List ℕ)) (faults room : S → ℕ) (text : X → List ℕ) (xs : List X) (i : ℕ) where
  -- one more goes through
  pub one_more : (d : X) (a b c : S) (one : List ℕ) → i < length xs → one ≡ text (get_or xs i d) → Pushes held faults room a b done (flat_map text (take i xs))
      → Pushes held faults room b c done one → Pushes held faults room a c done (flat_map text (take (i + 1) xs))
  one_more d a b c one lt e p q =
      subst (λ t. Pushes held faults room a c done t) (ap (λ t. flat_map text (take i xs) ++ t) e ∙ sym (text_more text xs i d lt))
      (then_push held faults room a b c done (flat_map text (take i xs)) one p q)

  -- one of them does not
  pub one_stops : (d : X) (a b c : S) (one : List ℕ) (e : SinkError) → i < length xs → one ≡ text (get_or xs i d) → Pushes held faults room a b done (flat_map text (take i xs))
      → Pushes held faults room b c (stopped e) one → Pushes held faults room a c (stopped e) (flat_map text xs)
  one_stops d a b c one e lt is p q =
      let whole : flat_map text xs ≡ (flat_map text (take i xs) ++ one) ++ flat_map text (drop (i + 1) xs) =
      text_split text xs (i + 1) ∙ ap (λ t. t ++ flat_map text (drop (i + 1) xs)) (text_more text xs i d lt ∙ ap (λ t. flat_map text (take i xs) ++ t) (sym is)) in
      subst (λ t. Pushes held faults room a c (stopped e) t) (sym whole)
      (fails_push held faults room a c e (flat_map text (take i xs) ++ one) (flat_map text (drop (i + 1) xs)) (then_push held faults room a b c (stopped e) (flat_map text (take i xs)) one p q))

  -- all of them went through
  pub all_went : (a b : S) → length xs ≤ i → Pushes held faults room a b done (flat_map text (take i xs)) → Pushes held faults room a b done (flat_map text xs)
  all_went a b le p = subst (λ t. Pushes held faults room a b done (flat_map text t)) (take_all i xs le) p
