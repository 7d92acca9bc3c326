-- The lines of types, by number.
use Rattle.std.proofs.Common.{◌≡◌, ℕ, zero, suc, ◌+◌, ◌<◌, List, [], ◌∷◌, ◌++◌, Option, Some, length, take, drop, refl, sym, ap, ◌∙◌, subst, append_assoc, append-nil, arith}
use Rattle.std.specs.Prelude.{slice_get}
use Rattle.outside.specs.Pushes.{Pushes}
use Rattle.outside.specs.declared.errors.SinkError.{SinkError}
use Rattle.outside.proofs.Pushing.{done, stopped, then_push, fails_push}
use Rattle.message_model.specs.Tables.{TypeEntry}
use Rattle.repo_engine.specs.Texts.{type_line, types_text}

-- there is a type below the count
pub type_at : (ts : List TypeEntry) (k : ℕ) → k < length ts → (t : TypeEntry) × (slice_get ts k ≡ Some t)
type_at [] k lt = absurd (omega (arith, lt))
type_at (t ∷ ts) zero lt = (t, refl)
type_at (t ∷ ts) (suc k) lt = type_at ts k (omega (arith, lt))

types_more : (s : ℕ) (ts : List TypeEntry) (k : ℕ) (t : TypeEntry) → slice_get ts k ≡ Some t → types_text s (take (k + 1) ts) ≡ types_text s (take k ts) ++ type_line (s + k) t
types_more s [] k t e = absurd (cc)
types_more s (x ∷ ts) zero t e =
    let same : x ≡ t = cc in
    let n : s ≡ s + 0 = omega arith in
    append-nil (type_line s x) ∙ (λ i. type_line (n i) (same i))
types_more s (x ∷ ts) (suc k) t e =
    let m : suc k + 1 ≡ suc (k + 1) = omega arith in
    let n : suc s + k ≡ s + suc k = omega arith in
    ap (λ j. types_text s (take j (x ∷ ts))) m
    ∙ (ap (λ l. type_line s x ++ l) (types_more (suc s) ts k t e)
    ∙ (sym (append_assoc (type_line s x) (types_text (suc s) (take k ts)) (type_line (suc s + k) t))
    ∙ ap (λ j. (type_line s x ++ types_text (suc s) (take k ts)) ++ type_line j t) n))

types_split : (s : ℕ) (ts : List TypeEntry) (k : ℕ) → types_text s ts ≡ types_text s (take k ts) ++ types_text (s + k) (drop k ts)
types_split s [] zero = refl
types_split s [] (suc k) = refl
types_split s (x ∷ ts) zero = (let n : s ≡ s + 0 = omega arith in ap (λ j. types_text j (x ∷ ts)) n)
types_split s (x ∷ ts) (suc k) =
    let n : suc s + k ≡ s + suc k = omega arith in
    ap (λ l. type_line s x ++ l) (types_split (suc s) ts k)
    ∙ (sym (append_assoc (type_line s x) (types_text (suc s) (take k ts)) (types_text (suc s + k) (drop k ts)))
    ∙ ap (λ j. (type_line s x ++ types_text (suc s) (take k ts)) ++ types_text j (drop k ts)) n)

-- the same from the first type on
first_more : (ts : List TypeEntry) (k : ℕ) (t : TypeEntry) → slice_get ts k ≡ Some t → types_text 0 (take (k + 1) ts) ≡ types_text 0 (take k ts) ++ type_line k t
first_more ts k t e = (let z : 0 + k ≡ k = omega arith in types_more 0 ts k t e ∙ ap (λ n. types_text 0 (take k ts) ++ type_line n t) z)

first_split : (ts : List TypeEntry) (k : ℕ) → types_text 0 ts ≡ types_text 0 (take k ts) ++ types_text k (drop k ts)
first_split ts k = (let z : 0 + k ≡ k = omega arith in types_split 0 ts k ∙ ap (λ n. types_text 0 (take k ts) ++ types_text n (drop k ts)) z)

module _ {S : Type 0} (held : S → Option (List ℕ)) (faults room : S → ℕ) (ts : List TypeEntry) (k : ℕ) (a b c : S) where
  -- one more line goes through
  pub line_more : (t : TypeEntry) → slice_get ts k ≡ Some t → Pushes held faults room a b done (types_text 0 (take k ts)) → Pushes held faults room b c done (type_line k t)
      → Pushes held faults room a c done (types_text 0 (take (k + 1) ts))
  line_more t e p q = subst (λ text. Pushes held faults room a c done text) (sym (first_more ts k t e)) (then_push held faults room a b c done (types_text 0 (take k ts)) (type_line k t) p q)

  -- one line does not
  pub line_stops : (t : TypeEntry) (error : SinkError) → slice_get ts k ≡ Some t → Pushes held faults room a b done (types_text 0 (take k ts))
      → Pushes held faults room b c (stopped error) (type_line k t) → Pushes held faults room a c (stopped error) (types_text 0 ts)
  line_stops t error e p q =
      let whole : types_text 0 ts ≡ (types_text 0 (take k ts) ++ type_line k t) ++ types_text (k + 1) (drop (k + 1) ts) =
      first_split ts (k + 1) ∙ ap (λ l. l ++ types_text (k + 1) (drop (k + 1) ts)) (first_more ts k t e) in
      subst (λ text. Pushes held faults room a c (stopped error) text) (sym whole)
      (fails_push held faults room a c error (types_text 0 (take k ts) ++ type_line k t) (types_text (k + 1) (drop (k + 1) ts)) (then_push held faults room a b c (stopped error) (types_text 0 (take k ts)) (type_line k t) p q))
