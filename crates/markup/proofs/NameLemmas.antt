-- Names: where one ends, and that one reading of a name exists.
use Rattle.std.proofs.Common.{◌≡◌, ℕ, Bool, true, ◌||◌, ◌==◌, List, [], ◌∷◌, ◌++◌, refl, sym, ◌∙◌, append_assoc}
use Rattle.std.specs.List.{list_all}
use Rattle.std.proofs.lemmas.Bool.{and_parts, and_from, or_parts, or_right, not-true, not_from_false}
use Rattle.markup.specs.Chars.{is_name_start, is_name_char}
use Rattle.markup.specs.Name.{Name, Plain, Prefixed, is_part, is_name, name_text}
use Rattle.markup.proofs.CharLemmas.{start_is_name, colon_no_name}
use Rattle.markup.proofs.Spans.{tails, stops, stops_not, span_agree}

-- a character of a name or the colon in it
abbrev pub in_name : ℕ → Bool
in_name c = is_name_char c || c == 58

-- a part has characters of names alone
pub part_all : (xs : List ℕ) → is_part xs ≡ true → list_all is_name_char xs ≡ true
part_all [] h = refl
part_all (c ∷ xs) h = and_from _ _ (start_is_name c (and_parts _ _ h).0) (and_parts _ _ h).1

-- what ends a name ends a part of it
pub stops_name : (w : List ℕ) → stops in_name w ≡ true → stops is_name_char w ≡ true
stops_name [] h = refl
stops_name (c ∷ w) h = not_from_false _ (or_parts _ _ (not-true _ h)).0

-- a colon ends a part
pub stops_colon : (w : List ℕ) → stops is_name_char (58 ∷ w) ≡ true
stops_colon w = not_from_false _ colon_no_name

-- no name ends where a colon stands
pub no_colon : (w x : List ℕ) → stops in_name x ≡ true → x ≡ 58 ∷ w → ⊥
no_colon w x s e = stops_not in_name 58 w x (or_right (is_name_char 58) true refl) s e

plain_same : (l k : List ℕ) → l ≡ k → Plain l ≡ Plain k
plain_same l k e = cc

prefixed_same : (p q l k : List ℕ) → p ≡ q → l ≡ k → Prefixed p l ≡ Prefixed q k
prefixed_same p q l k e f = cc

colon_first : (p k y : List ℕ) → (p ++ 58 ∷ k) ++ y ≡ p ++ 58 ∷ (k ++ y)
colon_first p k y = append_assoc p (58 ∷ k) y

-- two names at the front of one text, behind each of which a name ends, are one
pub name_agree : (m n : Name) (x y : List ℕ) → is_name m ≡ true → is_name n ≡ true → stops in_name x ≡ true → stops in_name y ≡ true → name_text m ++ x ≡ name_text n ++ y → (m ≡ n) × (x ≡ y)
name_agree (Plain l) (Plain k) x y a b s t e =
    let r = span_agree is_name_char l k x y (part_all l a) (part_all k b) (stops_name x s) (stops_name y t) e in
    (plain_same l k r.0, r.1)
name_agree (Plain l) (Prefixed q k) x y a b s t e =
    absurd (no_colon (k ++ y) x s (span_agree is_name_char l q x (58 ∷ (k ++ y)) (part_all l a) (part_all q (and_parts _ _ b).0) (stops_name x s) (stops_colon (k ++ y)) (e ∙ colon_first q k y)).1)
name_agree (Prefixed p l) (Plain k) x y a b s t e =
    absurd (no_colon (l ++ x) y t (sym (span_agree is_name_char p k (58 ∷ (l ++ x)) y (part_all p (and_parts _ _ a).0) (part_all k b) (stops_colon (l ++ x)) (stops_name y t) (sym (colon_first p l x) ∙ e)).1))
name_agree (Prefixed p l) (Prefixed q k) x y a b s t e =
    let r = span_agree is_name_char p q (58 ∷ (l ++ x)) (58 ∷ (k ++ y)) (part_all p (and_parts _ _ a).0) (part_all q (and_parts _ _ b).0) (stops_colon (l ++ x)) (stops_colon (k ++ y)) (sym (colon_first p l x) ∙ (e ∙ colon_first q k y)) in
    let u = span_agree is_name_char l k x y (part_all l (and_parts _ _ a).1) (part_all k (and_parts _ _ b).1) (stops_name x s) (stops_name y t) (tails 58 58 (l ++ x) (k ++ y) r.1) in
    (prefixed_same p q l k r.0 u.0, u.1)

-- a name's text begins with a character that begins names
pub record BeginsName (text : List ℕ) : Type 0 where
  pub char : ℕ
  pub more : List ℕ
  pub text_is : text ≡ char ∷ more
  pub starts : is_name_start char ≡ true

pub name_begins : (n : Name) → is_name n ≡ true → BeginsName (name_text n)
name_begins (Plain []) h = absurd (cc)
name_begins (Plain (c ∷ l)) h = record { char = c; more = l; text_is = refl; starts = (and_parts _ _ h).0 }
name_begins (Prefixed [] l) h = absurd (cc)
name_begins (Prefixed (c ∷ p) l) h = record { char = c; more = p ++ 58 ∷ l; text_is = refl; starts = (and_parts _ _ (and_parts _ _ h).0).0 }
