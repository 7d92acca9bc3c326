-- What completes a reference or a name behind one more character completes it with that character.
use Rattle.std.proofs.Common.{◌≡◌, ℕ, Bool, true, false, not, ◌==◌, ◌&&◌, ◌+◌, ◌*◌, ◌<◌, ◌⊎◌, inl, inr, List, [], ◌∷◌, ◌++◌, length, drop, Option, Some, None, if◌then◌else◌, nat_le, get_or, refl, sym, ◌∙◌, ap, subst, append_assoc, add-one, drop-cons, suc, arith}
use Rattle.std.specs.List.{list_all, slice_get}
use Rattle.std.specs.Char.{is_digit, digit_value}
use Rattle.std.proofs.lemmas.Bool.{and_from, cases_lt, eqb-true, ne_eqb, not_from_false}
use Rattle.std.proofs.Math.ListN.{drop_of_length-le}
use Rattle.std.proofs.lemmas.Option.{slice_get_within, get_or_from_slice_get, slice_get-get_or}
use Rattle.markup.specs.Chars.{is_xml_char, is_name_start, is_name_char}
use Rattle.markup.specs.Name.{Plain, Prefixed}
use Rattle.markup.specs.Reference.{Ampersand as AmpersandEntity, Less as LessEntity, Greater as GreaterEntity, Apostrophe as ApostropheEntity, Quote as QuoteEntity, Reference, Named, Numbered, is_reference}
use Rattle.markup.specs.inner.Words.{word_text, letter_of}
use Rattle.markup.specs.inner.ReferenceScans.{reference_step, digit_step, first_digit, more_digits, digits_step, numbered_char, gives, letter_step}
use Rattle.markup.specs.inner.Scans.{name_step}
use Rattle.markup.specs.declared.word.Word.{Word}
use Rattle.markup.specs.declared.reference.ReferenceScan.{ReferenceScan}
use Rattle.markup.specs.declared.reference.ReferenceScan.TheVariants.{Begun, LetterA, Name as NameOf, Hash, HashX, Decimal, Hexadecimal}
use Rattle.markup.specs.declared.reference.ReferenceTurn.TheVariants.{Breaks}
use Rattle.markup.specs.declared.scan.NameScan.{NameScan}
use Rattle.markup.specs.declared.scan.NameScan.TheVariants.{First, Colon, Second}
use Rattle.markup.specs.declared.scan.NameTurn.{NameTurn}
use Rattle.markup.specs.declared.scan.NameTurn.TheVariants.{Remains, Ends, Fails}
use Rattle.markup.proofs.ReferenceLemmas.{body}
use Rattle.markup.proofs.Residuals.{InDigits, IsReference, FirstDigit, ReferenceRest, ReferenceThen, ColonRest, FirstRest, NameRest, NameThen}

-- what a choice tells is told by one of its ways
pub on_if : {X R : Type 0} (P : X → Type 0) (b : Bool) (x y : X) → P (if b then x else y) → (b ≡ true → P x → R) → (b ≡ false → P y → R) → R
on_if P true x y h f g = f refl h
on_if P false x y h f g = g refl h

-- a character that is a known one
pub at_char : (P : ℕ → Type 0) (c k : ℕ) → (c == k) ≡ true → P k → P c
at_char P c k h p = subst P (sym (eqb-true c k h)) p

-- a list from a letter on
pub drop_letter : (xs : List ℕ) (at letter : ℕ) → slice_get xs at ≡ Some letter → drop at xs ≡ letter ∷ drop (at + 1) xs
drop_letter xs at letter h = let lt : at < length xs = slice_get_within xs at letter h in
    drop-cons xs at 0 lt ∙ (ap (λ v. v ∷ drop (suc at) xs) (get_or_from_slice_get xs at letter 0 h) ∙ ap (λ n. letter ∷ drop n xs) (sym (add-one at)))

pub drop_past : (xs : List ℕ) (at : ℕ) → slice_get xs at ≡ None → drop at xs ≡ []
drop_past xs at h = elim (cases_lt at (length xs)) [
  | inl k ↦ absurd (none_some (get_or xs at 0) (sym h ∙ slice_get-get_or xs at 0 k))
  | inr k ↦ drop_of_length-le xs k
] where
  none_some : (n : ℕ) → None ≡ Some n → ⊥
  none_some n e = cc

some_length : (c : ℕ) (ds : List ℕ) → not (length (c ∷ ds) == 0) ≡ true
some_length c ds = not_from_false _ (ne_eqb (length (c ∷ ds)) 0 (λ e. omega (arith, e)))

pub digit_part : (radix n c m : ℕ) → digit_step radix n c ≡ Some m → (is_digit c radix ≡ true) × (m ≡ n * radix + digit_value c)
digit_part radix n c m h = by (is_digit c radix) (nat_le (n * radix + digit_value c) 0x10_FFFF) h where
  by : (a b : Bool) → (if a && b then Some (n * radix + digit_value c) else None) ≡ Some m → (a ≡ true) × (m ≡ n * radix + digit_value c)
  by true true h = (refl, sym (some_same _ _ h)) where
    some_same : (a b : ℕ) → Some a ≡ Some b → a ≡ b
    some_same a b e = cc
  by true false h = absurd (cc)
  by false b h = absurd (cc)

numbered_part : (n g : ℕ) → numbered_char n ≡ Some g → is_xml_char n ≡ true
numbered_part n g h = by (is_xml_char n) h where
  by : (b : Bool) → (if b then Some n else None) ≡ Some g → b ≡ true
  by true h = refl
  by false h = absurd (cc)

digits_end : (radix n c : ℕ) (w v : List ℕ) → ReferenceThen w v (digits_step n c) → InDigits radix n (c ∷ w) v
digits_end radix n c w v h = on_if (ReferenceThen w v) (c == 59) (gives (numbered_char n)) Breaks h
    (λ e k. given (numbered_char n) refl e k)
    (λ e k. absurd k) where
      given : (o : Option ℕ) → numbered_char n ≡ o → (c == 59) ≡ true → ReferenceThen w v (gives o) → InDigits radix n (c ∷ w) v
      given None f e k = absurd k
      given (Some g) f e k = record { digits = []; text = cons_same c 59 w v (eqb-true c 59 e) k; are = refl; xml = numbered_part n g f } where
        cons_same : (c d : ℕ) (x y : List ℕ) → c ≡ d → x ≡ y → (c ∷ x) ≡ (d ∷ y)
        cons_same c d x y e f = cc

more_in_digits : (radix n c : ℕ) (w v : List ℕ) → is_digit c radix ≡ true → InDigits radix (n * radix + digit_value c) w v → InDigits radix n (c ∷ w) v
more_in_digits radix n c w v h r = record { digits = c ∷ r.digits; text = ap (λ u. c ∷ u) r.text; are = and_from _ _ h r.are; xml = r.xml }

digits_sound : (radix : ℕ) (at : ℕ → ReferenceScan) (rest : (n : ℕ) (w v : List ℕ) → ReferenceRest (at n) w v → InDigits radix n w v) (n c : ℕ) (w v : List ℕ) → ReferenceThen w v (more_digits at n c (digit_step radix n c)) → InDigits radix n (c ∷ w) v
digits_sound radix at rest n c w v h = by (digit_step radix n c) refl h where
  by : (o : Option ℕ) → digit_step radix n c ≡ o → ReferenceThen w v (more_digits at n c o) → InDigits radix n (c ∷ w) v
  by None e h = digits_end radix n c w v h
  by (Some m) e h = let k = digit_part radix n c m e in more_in_digits radix n c w v k.0 (subst (λ x. InDigits radix x w v) k.1 (rest m w v h))

first_decimal : (c : ℕ) (w v : List ℕ) → ReferenceThen w v (first_digit Decimal (digit_step 10 0 c)) → IsReference (35 ∷ c ∷ w) v
first_decimal c w v h = by (digit_step 10 0 c) refl h where
  by : (o : Option ℕ) → digit_step 10 0 c ≡ o → ReferenceThen w v (first_digit Decimal o) → IsReference (35 ∷ c ∷ w) v
  by None e h = absurd h
  by (Some m) e h =
      let k = digit_part 10 0 c m e in made k.0 (subst (λ x. InDigits 10 x w v) k.1 h) where
        made : is_digit c 10 ≡ true → InDigits 10 (0 * 10 + digit_value c) w v → IsReference (35 ∷ c ∷ w) v
        made k r = record { reference = Numbered 10 (c ∷ r.digits); is = and_from _ _ (and_from _ _ (some_length c r.digits) (and_from _ _ k r.are)) r.xml; text = ap (λ u. 35 ∷ c ∷ u) r.text }

first_hexadecimal : (c : ℕ) (w v : List ℕ) → ReferenceThen w v (first_digit Hexadecimal (digit_step 16 0 c)) → FirstDigit (c ∷ w) v
first_hexadecimal c w v h = by (digit_step 16 0 c) refl h where
  by : (o : Option ℕ) → digit_step 16 0 c ≡ o → ReferenceThen w v (first_digit Hexadecimal o) → FirstDigit (c ∷ w) v
  by None e h = absurd h
  by (Some m) e h =
      let k = digit_part 16 0 c m e in made k.0 (subst (λ x. InDigits 16 x w v) k.1 h) where
        made : is_digit c 16 ≡ true → InDigits 16 (0 * 16 + digit_value c) w v → FirstDigit (c ∷ w) v
        made k r = record { digit = c; more = r.digits; text = ap (λ u. c ∷ u) r.text; are = and_from _ _ k r.are; xml = r.xml }

named : (r : Reference) (w v : List ℕ) → is_reference r ≡ true → w ≡ body r ++ 59 ∷ v → IsReference w v
named r w v h e = record { reference = r; is = h; text = e }

letters_sound : (word : Word) (at c : ℕ) (w v : List ℕ) → ReferenceThen w v (letter_step word at c (letter_of word at)) → c ∷ w ≡ drop at (word_text word) ++ 59 ∷ v
letters_sound word at c w v h = by (letter_of word at) refl h where
  cons_same : (c d : ℕ) (x y : List ℕ) → c ≡ d → x ≡ y → (c ∷ x) ≡ (d ∷ y)
  cons_same c d x y e f = cc

  by : (o : Option ℕ) → letter_of word at ≡ o → ReferenceThen w v (letter_step word at c o) → c ∷ w ≡ drop at (word_text word) ++ 59 ∷ v
  by None e h = on_if (ReferenceThen w v) (c == 59) _ Breaks h
      (λ f k. cons_same c 59 w v (eqb-true c 59 f) k ∙ ap (λ u. u ++ 59 ∷ v) (sym (drop_past (word_text word) at e)))
      (λ f k. absurd k)
  by (Some letter) e h = on_if (ReferenceThen w v) (c == letter) _ Breaks h
      (λ f k. cons_same c letter w _ (eqb-true c letter f) k ∙ ap (λ u. u ++ 59 ∷ v) (sym (drop_letter (word_text word) at letter e)))
      (λ f k. absurd k)

-- references
pub reference_sound : (r : ReferenceScan) (c : ℕ) (w v : List ℕ) → ReferenceThen w v (reference_step r c) → ReferenceRest r (c ∷ w) v
reference_sound Begun c w v h =
    on_if (ReferenceThen w v) (c == 97) _ _ h (λ e k. at_char (λ x. IsReference (x ∷ w) v) c 97 e k)
    (λ _ h. on_if (ReferenceThen w v) (c == 108) _ _ h (λ e k. at_char (λ x. IsReference (x ∷ w) v) c 108 e (named (Named LessEntity) _ v refl (ap (λ u. 108 ∷ u) k)))
    (λ _ h. on_if (ReferenceThen w v) (c == 103) _ _ h (λ e k. at_char (λ x. IsReference (x ∷ w) v) c 103 e (named (Named GreaterEntity) _ v refl (ap (λ u. 103 ∷ u) k)))
    (λ _ h. on_if (ReferenceThen w v) (c == 113) _ _ h (λ e k. at_char (λ x. IsReference (x ∷ w) v) c 113 e (named (Named QuoteEntity) _ v refl (ap (λ u. 113 ∷ u) k)))
    (λ _ h. on_if (ReferenceThen w v) (c == 35) _ Breaks h (λ e k. at_char (λ x. IsReference (x ∷ w) v) c 35 e k) (λ _ k. absurd k)))))
reference_sound LetterA c w v h =
    on_if (ReferenceThen w v) (c == 109) _ _ h (λ e k. at_char (λ x. IsReference (97 ∷ x ∷ w) v) c 109 e (named (Named AmpersandEntity) _ v refl (ap (λ u. 97 ∷ 109 ∷ u) k)))
    (λ _ h. on_if (ReferenceThen w v) (c == 112) _ Breaks h (λ e k. at_char (λ x. IsReference (97 ∷ x ∷ w) v) c 112 e (named (Named ApostropheEntity) _ v refl (ap (λ u. 97 ∷ 112 ∷ u) k)))
    (λ _ k. absurd k))
reference_sound (NameOf word at) c w v h = letters_sound word at c w v h
reference_sound Hash c w v h =
    on_if (ReferenceThen w v) (c == 120) _ _ h
    (λ e k. at_char (λ x. IsReference (35 ∷ x ∷ w) v) c 120 e (named (Numbered 16 (k.digit ∷ k.more)) _ v (and_from _ _ (and_from _ _ (some_length k.digit k.more) k.are) k.xml) (ap (λ u. 35 ∷ 120 ∷ u) k.text)))
    (λ _ k. first_decimal c w v k)
reference_sound HashX c w v h = first_hexadecimal c w v h
reference_sound (Decimal n) c w v h = digits_sound 10 Decimal (λ n w v r. r) n c w v h
reference_sound (Hexadecimal n) c w v h = digits_sound 16 Hexadecimal (λ n w v r. r) n c w v h

-- names
abbrev pub NameTurnThen : (List ℕ → Type 0) → ℕ → List ℕ → NameTurn → Type 0
NameTurnThen K c w (Remains n) = NameRest K n w
NameTurnThen K c w Ends = K (c ∷ w)
NameTurnThen K c w Fails = ⊥

pub name_sound : (K : List ℕ → Type 0) (n : NameScan) (c : ℕ) (w : List ℕ) → NameTurnThen K c w (name_step n c) → NameRest K n (c ∷ w)
name_sound K First c w h =
    on_if (NameTurnThen K c w) (is_name_char c) _ _ h
    (λ e r. record { chars = c ∷ r.chars; after = r.after; text = ap (λ u. c ∷ u) r.text; are = and_from _ _ e r.are; next = r.next })
    (λ _ h. on_if (NameTurnThen K c w) (c == 58) _ _ h
    (λ e r. record { chars = []; after = c ∷ w; text = refl; are = refl; next = inr (w, ap (λ u. u ∷ w) (eqb-true c 58 e), r) })
    (λ _ r. record { chars = []; after = c ∷ w; text = refl; are = refl; next = inl r }))
name_sound K Colon c w h =
    on_if (NameTurnThen K c w) (is_name_start c) _ Fails h
    (λ e r. record { first = c; more = w; text = refl; starts = e; next = r })
    (λ _ k. absurd k)
name_sound K Second c w h =
    on_if (NameTurnThen K c w) (is_name_char c) _ _ h
    (λ e r. record { chars = c ∷ r.chars; after = r.after; text = ap (λ u. c ∷ u) r.text; are = and_from _ _ e r.are; next = r.next })
    (λ _ r. record { chars = []; after = c ∷ w; text = refl; are = refl; next = r })

-- a name from its first character on
pub name_begun : (K : List ℕ → Type 0) (c : ℕ) (w : List ℕ) → is_name_start c ≡ true → FirstRest K w → NameThen K (c ∷ w)
name_begun K c w h r = by r.chars r.after r.text r.are r.next where
  by : (cs after : List ℕ) → w ≡ cs ++ after → list_all is_name_char cs ≡ true → K after ⊎ ((more : List ℕ) × (after ≡ 58 ∷ more) × ColonRest K more) → NameThen K (c ∷ w)
  by cs after e a (inl k) = record { name = Plain (c ∷ cs); after = after; is = and_from _ _ h a; text = ap (λ u. c ∷ u) e; next = k }
  by cs after e a (inr k) = record {
    name = Prefixed (c ∷ cs) (k.2.first ∷ k.2.next.chars);
    after = k.2.next.after;
    is = and_from _ _ (and_from _ _ h a) (and_from _ _ k.2.starts k.2.next.are);
    text = ap (λ u. c ∷ u) (e ∙ (ap (λ u. cs ++ u) (k.1 ∙ ap (λ u. 58 ∷ u) (k.2.text ∙ ap (λ u. k.2.first ∷ u) k.2.next.text)) ∙ sym (append_assoc cs (58 ∷ k.2.first ∷ k.2.next.chars) k.2.next.after)));
    next = k.2.next.next;
  }
