-- References: one reading of a reference exists.
use Rattle.std.proofs.Common.{◌≡◌, ℕ, Bool, true, false, not, ◌||◌, ◌==◌, List, [], ◌∷◌, ◌++◌, length, codes, if◌then◌else◌, refl, sym, ◌∙◌, ap, subst, append_assoc, inl, inr}
use Rattle.std.specs.List.{list_all}
use Rattle.std.specs.Char.{is_digit}
use Rattle.std.proofs.lemmas.Bool.{and_parts, and_from, or_cases, eqb-true, not_from_false}
use Rattle.markup.specs.Reference.{Entity, Ampersand, Less, Greater, Apostrophe, Quote, entity_name, Reference, Named, Numbered, is_reference, reference_text}
use Rattle.markup.proofs.CharLemmas.{digit_no_semicolon, digit_no_x}
use Rattle.markup.proofs.Spans.{tails, span_agree}

-- what stands between `&` and `;`
abbrev pub body : Reference → List ℕ
body (Named entity) = entity_name entity
body (Numbered radix digits) = codes "#" ++ (if radix == 16 then codes "x" else []) ++ digits

abbrev entity_of : ℕ → ℕ → Entity
entity_of c d = if c == 97 then (if d == 109 then Ampersand else Apostrophe) else (if c == 108 then Less else (if c == 103 then Greater else Quote))

-- the reference that a body is
abbrev reference_of : List ℕ → Reference
reference_of [] = Named Ampersand
reference_of (c ∷ []) = Named Ampersand
reference_of (c ∷ d ∷ w) = if c == 35 then (if d == 120 then Numbered 16 w else Numbered 10 (d ∷ w)) else Named (entity_of c d)

abbrev no_semicolon : ℕ → Bool
no_semicolon c = not (c == 59)

pub reference_then : (r : Reference) (x : List ℕ) → reference_text r ++ x ≡ 38 ∷ (body r ++ 59 ∷ x)
reference_then (Named entity) x = ap (λ v. 38 ∷ v) (append_assoc (entity_name entity) (59 ∷ []) x)
reference_then (Numbered radix digits) x = ap (λ v. 38 ∷ 35 ∷ v) (append_assoc ((if radix == 16 then codes "x" else []) ++ digits) (59 ∷ []) x)

digits_no_semicolon : (radix : ℕ) (ds : List ℕ) → (radix == 10 || radix == 16) ≡ true → list_all (λ d. is_digit d radix) ds ≡ true → list_all no_semicolon ds ≡ true
digits_no_semicolon radix [] r h = refl
digits_no_semicolon radix (d ∷ ds) r h = and_from _ _ (not_from_false _ (digit_no_semicolon radix d r (and_parts _ _ h).0)) (digits_no_semicolon radix ds r (and_parts _ _ h).1)

-- the facts on a numbered reference
pub record IsNumbered (radix : ℕ) (digits : List ℕ) : Type 0 where
  pub radix_is : (radix == 10 || radix == 16) ≡ true
  pub some : not (length digits == 0) ≡ true
  pub are : list_all (λ d. is_digit d radix) digits ≡ true

pub numbered_facts : (radix : ℕ) (digits : List ℕ) → is_reference (Numbered radix digits) ≡ true → IsNumbered radix digits
numbered_facts radix digits h =
    let a = and_parts _ _ h in let b = and_parts _ _ a.0 in let c = and_parts _ _ b.0 in
    record { radix_is = c.0; some = c.1; are = b.1 }

body_all : (r : Reference) → is_reference r ≡ true → list_all no_semicolon (body r) ≡ true
body_all (Named Ampersand) h = refl
body_all (Named Less) h = refl
body_all (Named Greater) h = refl
body_all (Named Apostrophe) h = refl
body_all (Named Quote) h = refl
body_all (Numbered radix digits) h = numbered_all radix digits (numbered_facts radix digits h) where
  numbered_all : (radix : ℕ) (digits : List ℕ) → IsNumbered radix digits → list_all no_semicolon (body (Numbered radix digits)) ≡ true
  numbered_all radix digits k = marked (radix == 16) digits (digits_no_semicolon radix digits k.radix_is k.are) where
    marked : (b : Bool) (digits : List ℕ) → list_all no_semicolon digits ≡ true → list_all no_semicolon (codes "#" ++ (if b then codes "x" else []) ++ digits) ≡ true
    marked true digits h = h
    marked false digits h = h

decimal_of : (digits : List ℕ) → not (length digits == 0) ≡ true → list_all (λ d. is_digit d 10) digits ≡ true → reference_of (35 ∷ digits) ≡ Numbered 10 digits
decimal_of [] h k = absurd (cc)
decimal_of (d ∷ ds) h k = rw (digit_no_x d (and_parts _ _ k).0) refl

reference_of-body : (r : Reference) → is_reference r ≡ true → reference_of (body r) ≡ r
reference_of-body (Named Ampersand) h = refl
reference_of-body (Named Less) h = refl
reference_of-body (Named Greater) h = refl
reference_of-body (Named Apostrophe) h = refl
reference_of-body (Named Quote) h = refl
reference_of-body (Numbered radix digits) h = by_radix radix digits (numbered_facts radix digits h) where
  by_radix : (radix : ℕ) (digits : List ℕ) → IsNumbered radix digits → reference_of (body (Numbered radix digits)) ≡ Numbered radix digits
  by_radix radix digits k = elim (or_cases _ _ k.radix_is) [
    | inl e ↦ ten radix digits (eqb-true radix 10 e) k.some k.are
    | inr e ↦ sixteen radix digits (eqb-true radix 16 e)
  ] where
    ten : (radix : ℕ) (digits : List ℕ) → radix ≡ 10 → not (length digits == 0) ≡ true → list_all (λ d. is_digit d radix) digits ≡ true → reference_of (body (Numbered radix digits)) ≡ Numbered radix digits
    ten radix digits e s h = subst (λ (r : ℕ). list_all (λ d. is_digit d r) digits ≡ true → reference_of (body (Numbered r digits)) ≡ Numbered r digits) (sym e) (λ k. decimal_of digits s k) h

    sixteen : (radix : ℕ) (digits : List ℕ) → radix ≡ 16 → reference_of (body (Numbered radix digits)) ≡ Numbered radix digits
    sixteen radix digits e = subst (λ (r : ℕ). reference_of (body (Numbered r digits)) ≡ Numbered r digits) (sym e) refl

-- two references at the front of one text are one
pub reference_agree : (r s : Reference) (x y : List ℕ) → is_reference r ≡ true → is_reference s ≡ true → reference_text r ++ x ≡ reference_text s ++ y → (r ≡ s) × (x ≡ y)
reference_agree r s x y a b e =
    let k = span_agree no_semicolon (body r) (body s) (59 ∷ x) (59 ∷ y) (body_all r a) (body_all s b) refl refl (tails 38 38 _ _ (sym (reference_then r x) ∙ (e ∙ reference_then s y))) in
    (sym (reference_of-body r a) ∙ (ap reference_of k.0 ∙ reference_of-body s b), tails 59 59 x y k.1)
