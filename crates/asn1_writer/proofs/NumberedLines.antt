-- Lines one after the other, numbered.
use Rattle.std.proofs.Common.{◌≡◌, ℕ, zero, suc, ◌+◌, ◌<◌, ◌≤◌, List, [], ◌∷◌, ◌++◌, Option, length, take, drop, get_or, refl, sym, ap, ◌∙◌, subst, append_assoc, append-nil, arith}
use Rattle.std.proofs.lemmas.List.{take_all}
use Rattle.std.specs.List.{concat}
use Rattle.outside.specs.Pushes.{Pushes}
use Rattle.outside.specs.declared.errors.SinkError.{SinkError}
use Rattle.outside.proofs.Pushing.{done, stopped, then_push, fails_push}
use Rattle.asn1_model.specs.ModuleText.{lines_from, separator}

module _ {X : Type 0} (line : ℕ → X → List (List ℕ)) where
  -- the line of this number, with what stands before it
  abbrev pub line_text : ℕ → X → List ℕ
  line_text k x = concat (separator k ∷ line k x)

  lines_more : (s : ℕ) (xs : List X) (k : ℕ) (d : X) → k < length xs → lines_from line s (take (k + 1) xs) ≡ lines_from line s (take k xs) ++ line_text (s + k) (get_or xs k d)
  lines_more s [] k d lt = absurd (omega (arith, lt))
  lines_more s (x ∷ xs) zero d lt = (let n : s ≡ s + 0 = omega arith in append-nil (line_text s x) ∙ ap (λ j. line_text j x) n)
  lines_more s (x ∷ xs) (suc k) d lt =
      let m : suc k + 1 ≡ suc (k + 1) = omega arith in
      let n : suc s + k ≡ s + suc k = omega arith in
      ap (λ j. lines_from line s (take j (x ∷ xs))) m
      ∙ (ap (λ l. line_text s x ++ l) (lines_more (suc s) xs k d (omega (arith, lt)))
      ∙ (sym (append_assoc (line_text s x) (lines_from line (suc s) (take k xs)) (line_text (suc s + k) (get_or xs k d)))
      ∙ ap (λ j. (line_text s x ++ lines_from line (suc s) (take k xs)) ++ line_text j (get_or xs k d)) n))

  lines_split : (s : ℕ) (xs : List X) (k : ℕ) → lines_from line s xs ≡ lines_from line s (take k xs) ++ lines_from line (s + k) (drop k xs)
  lines_split s [] zero = refl
  lines_split s [] (suc k) = refl
  lines_split s (x ∷ xs) zero = (let n : s ≡ s + 0 = omega arith in ap (λ j. lines_from line j (x ∷ xs)) n)
  lines_split s (x ∷ xs) (suc k) =
      let n : suc s + k ≡ s + suc k = omega arith in
      ap (λ l. line_text s x ++ l) (lines_split (suc s) xs k)
      ∙ (sym (append_assoc (line_text s x) (lines_from line (suc s) (take k xs)) (lines_from line (suc s + k) (drop k xs)))
      ∙ ap (λ j. (line_text s x ++ lines_from line (suc s) (take k xs)) ++ lines_from line j (drop k xs)) n)

  -- the same from the first line on
  first_more : (xs : List X) (k : ℕ) (d : X) → k < length xs → lines_from line 0 (take (k + 1) xs) ≡ lines_from line 0 (take k xs) ++ line_text k (get_or xs k d)
  first_more xs k d lt = (let z : 0 + k ≡ k = omega arith in lines_more 0 xs k d lt ∙ ap (λ n. lines_from line 0 (take k xs) ++ line_text n (get_or xs k d)) z)

  first_split : (xs : List X) (k : ℕ) → lines_from line 0 xs ≡ lines_from line 0 (take k xs) ++ lines_from line k (drop k xs)
  first_split xs k = (let z : 0 + k ≡ k = omega arith in lines_split 0 xs k ∙ ap (λ n. lines_from line 0 (take k xs) ++ lines_from line n (drop k xs)) z)

module _ {S X : Type 0} (held : S → Option (List ℕ)) (faults room : S → ℕ) (line : ℕ → X → List (List ℕ)) (xs : List X) (k : ℕ) where
  -- one more line goes through
  pub line_more : (d : X) (a b c : S) (text : List ℕ) → k < length xs → text ≡ line_text line k (get_or xs k d) → Pushes held faults room a b done (lines_from line 0 (take k xs))
      → Pushes held faults room b c done text → Pushes held faults room a c done (lines_from line 0 (take (k + 1) xs))
  line_more d a b c text lt e p q =
      subst (λ t. Pushes held faults room a c done t) (ap (λ t. lines_from line 0 (take k xs) ++ t) e ∙ sym (first_more line xs k d lt))
      (then_push held faults room a b c done (lines_from line 0 (take k xs)) text p q)

  -- one line does not
  pub line_stops : (d : X) (a b c : S) (text : List ℕ) (error : SinkError) → k < length xs → text ≡ line_text line k (get_or xs k d)
      → Pushes held faults room a b done (lines_from line 0 (take k xs)) → Pushes held faults room b c (stopped error) text → Pushes held faults room a c (stopped error) (lines_from line 0 xs)
  line_stops d a b c text error lt e p q =
      let whole : lines_from line 0 xs ≡ (lines_from line 0 (take k xs) ++ text) ++ lines_from line (k + 1) (drop (k + 1) xs) =
      first_split line xs (k + 1) ∙ ap (λ t. t ++ lines_from line (k + 1) (drop (k + 1) xs)) (first_more line xs k d lt ∙ ap (λ t. lines_from line 0 (take k xs) ++ t) (sym e)) in
      subst (λ t. Pushes held faults room a c (stopped error) t) (sym whole)
      (fails_push held faults room a c error (lines_from line 0 (take k xs) ++ text) (lines_from line (k + 1) (drop (k + 1) xs))
      (then_push held faults room a b c (stopped error) (lines_from line 0 (take k xs)) text p q))

  -- all of them went through
  pub lines_went : (a b : S) → length xs ≤ k → Pushes held faults room a b done (lines_from line 0 (take k xs)) → Pushes held faults room a b done (lines_from line 0 xs)
  lines_went a b le p = subst (λ t. Pushes held faults room a b done (lines_from line 0 t)) (take_all k xs le) p
