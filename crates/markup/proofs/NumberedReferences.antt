-- A reference by number at the front of a piece, whose digits are counted one by one; a reference to an entity, by its name.
use Rattle.std.proofs.Common.{◌≡◌, ℕ, suc, Bool, true, false, not, ◌==◌, ◌||◌, ◌&&◌, ◌+◌, ◌-◌, ◌*◌, ◌≤◌, nat_le, List, [], ◌∷◌, ◌++◌, length, codes, None, Some, IsTrue, refl, sym, ◌∙◌, ap, subst, append_assoc, append-nil, length-append, arith, ◌⊎◌, inl, inr}
use Rattle.std.specs.Bool.{if◌then◌else◌}
use Rattle.std.specs.Char.{is_digit, digit_value}
use Rattle.std.specs.List.{list_all}
use Rattle.std.specs.Str.{encode_utf8_all}
use Rattle.std.proofs.lemmas.Bool.{and_parts, and_from, both_ways, or_cases, eqb-true}
use Rattle.std.proofs.lemmas.Bool.Decides.{nat_tests}
use Rattle.markup.specs.Chars.{is_xml_char}
use Rattle.markup.specs.Reference.{Entity, Ampersand, Less, Greater, Apostrophe, Quote, entity_name, Reference, Named, Numbered, is_reference, reference_text, number}
use Rattle.markup.specs.inner.ReferenceScans.{digit_step, numbered_char}
use Rattle.markup.specs.References.{IsReferenceAt}
use Rattle.markup.specs.inner.Numbers.{number_mark}
use Rattle.markup.proofs.CharLemmas.{digit_no_semicolon, digit_no_x}
use Rattle.markup.proofs.ReferenceLemmas.{body, reference_then, numbered_facts}
use Rattle.markup.proofs.ReferenceRuns.{digit_small, grows, xml_small}
use Rattle.markup.proofs.Spans.{heads, tails, cons}
use Rattle.markup.proofs.WholeReferences.{begins_so, entity_here}

-- ---- digits, one by one

-- the digits that have come spell the number
pub record IsCounting (radix : ℕ) (digits : List ℕ) (n : ℕ) (rest : List ℕ) : Type 0 where
  pub seen : List ℕ
  pub joined : digits ≡ seen ++ rest
  pub are : list_all (λ d. is_digit d radix) seen ≡ true
  pub goes_on : (w : List ℕ) → number radix 0 (seen ++ w) ≡ number radix n w

pub counting_none : (radix : ℕ) (digits : List ℕ) → IsCounting radix digits 0 digits
counting_none radix digits = record { seen = []; joined = refl; are = refl; goes_on = λ w. refl }

some_if : (b : Bool) (m n : ℕ) → Some n ≡ (if b then Some m else None) → (b ≡ true) × (m ≡ n)
some_if true m n e = (refl, cc)
some_if false m n e = absurd (cc)

all_more : (p : ℕ → Bool) (seen : List ℕ) (d : ℕ) → list_all p seen ≡ true → p d ≡ true → list_all p (seen ++ d ∷ []) ≡ true
all_more p [] d a h = and_from (p d) true h refl
all_more p (c ∷ seen) d a h = and_from (p c) (list_all p (seen ++ d ∷ [])) (and_parts _ _ a).0 (all_more p seen d (and_parts _ _ a).1 h)

pub counting_more : (radix : ℕ) (digits : List ℕ) (n byte next : ℕ) (rest after : List ℕ) → IsCounting radix digits n rest → rest ≡ byte ∷ after → Some next ≡ digit_step radix n byte → IsCounting radix digits next after
counting_more radix digits n byte next rest after i e s =
    let k = some_if (is_digit byte radix && nat_le (n * radix + digit_value byte) 0x10_FFFF) (n * radix + digit_value byte) next s in record {
      seen = i.seen ++ byte ∷ [];
      joined = i.joined ∙ (ap (λ v. i.seen ++ v) e ∙ sym (append_assoc i.seen (byte ∷ []) after));
      are = all_more (λ d. is_digit d radix) i.seen byte i.are (and_parts _ _ k.0).0;
      goes_on = λ w. ap (number radix 0) (append_assoc i.seen (byte ∷ []) w) ∙ (i.goes_on (byte ∷ w) ∙ ap (λ m. number radix m w) k.1);
    }

-- the number that has come is that of the digits that have come
counted : (radix : ℕ) (digits : List ℕ) (n : ℕ) (rest : List ℕ) (i : IsCounting radix digits n rest) → number radix 0 i.seen ≡ n
counted radix digits n rest i = ap (number radix 0) (sym (append-nil i.seen)) ∙ i.goes_on []

no_zero : is_xml_char 0 ≡ true → ⊥
unfolding is_xml_char
no_zero h = grind (arith, nat_tests)

some_digits : (radix : ℕ) (seen : List ℕ) → is_xml_char (number radix 0 seen) ≡ true → not (length seen == 0) ≡ true
some_digits radix [] h = absurd (no_zero h)
some_digits radix (d ∷ seen) h = grind (arith, nat_tests)

-- a semicolon behind the digits ends the reference
pub counting_gives : (radix : ℕ) (piece digits : List ℕ) (n bytes : ℕ) (after : List ℕ) → (radix == 10 || radix == 16) ≡ true → piece ≡ number_mark radix ++ digits → IsCounting radix digits n (59 ∷ after) → is_xml_char n ≡ true → bytes + length after ≡ length piece → IsReferenceAt piece n bytes
counting_gives radix piece digits n bytes after r m i x l =
    subst (λ v. IsReferenceAt piece v bytes) (counted radix digits n (59 ∷ after) i)
    (subst (λ v. IsReferenceAt piece (number radix 0 i.seen) v) size (entity_here (Numbered radix i.seen) piece (after, joined) is)) where
      xml : is_xml_char (number radix 0 i.seen) ≡ true
      xml = ap is_xml_char (counted radix digits n (59 ∷ after) i) ∙ x

      is : is_reference (Numbered radix i.seen) ≡ true
      is = and_from _ _ (and_from _ _ (and_from _ _ r (some_digits radix i.seen xml)) i.are) xml

      joined : piece ≡ reference_text (Numbered radix i.seen) ++ after
      joined = m ∙ (ap (λ v. number_mark radix ++ v) i.joined ∙ (sym (append_assoc (number_mark radix) i.seen (59 ∷ after)) ∙ sym (append_assoc (number_mark radix ++ i.seen) (59 ∷ []) after)))

      size : length (reference_text (Numbered radix i.seen)) ≡ bytes
      size = omega (arith, l, ap length joined, length-append (reference_text (Numbered radix i.seen)) after)

pub number_told : (radix : ℕ) (piece digits rest after : List ℕ) (n byte c : ℕ) → (radix == 10 || radix == 16) ≡ true → piece ≡ number_mark radix ++ digits → IsCounting radix digits n rest → rest ≡ byte ∷ after → byte ≡ 59 → Some c ≡ numbered_char n → IsReferenceAt piece c (length piece - length after)
number_told radix piece digits rest after n byte c r m i e b s =
    let k = some_if (is_xml_char n) n c s in
    let f : rest ≡ 59 ∷ after = e ∙ ap (λ v. v ∷ after) b in
    subst (λ v. IsReferenceAt piece v (length piece - length after)) k.1
    (counting_gives radix piece digits n (length piece - length after) after r m (subst (IsCounting radix digits n) f i) k.0 (size (ap length m) (ap length i.joined) (ap length f))) where
      size : length piece ≡ length (number_mark radix ++ digits) → length digits ≡ length (i.seen ++ rest) → length rest ≡ suc (length after) → length piece - length after + length after ≡ length piece
      size p q t = omega (arith, p, q, t, length-append (number_mark radix) digits, length-append i.seen rest)

-- ---- where a number stands it is read

-- digits that are known, of which some have come
pub record IsLeft (radix : ℕ) (spelled seen left : List ℕ) : Type 0 where
  pub split : spelled ≡ seen ++ left
  pub are : list_all (λ d. is_digit d radix) left ≡ true

module _ (radix : ℕ) (r : (radix == 10 || radix == 16) ≡ true) (rest more : List ℕ) where
  left_of : (seen spelled : List ℕ) → list_all (λ d. is_digit d radix) seen ≡ true → list_all (λ d. is_digit d radix) spelled ≡ true → seen ++ rest ≡ spelled ++ 59 ∷ more → (left : List ℕ) × (IsLeft radix spelled seen left × (rest ≡ left ++ 59 ∷ more))
  left_of [] spelled a b e = (spelled, (record { split = refl; are = b }, e))
  left_of (d ∷ seen) [] a b e = absurd (both_ways (d == 59) (digit_no_semicolon radix d r (and_parts _ _ a).0) (same d 59 (heads d 59 (seen ++ rest) more e))) where
    same : (c d : ℕ) → c ≡ d → (c == d) ≡ true
    same c d h = grind (arith, nat_tests, h)
  left_of (d ∷ seen) (s ∷ spelled) a b e =
      let (left, (k, f)) = left_of seen spelled (and_parts _ _ a).1 (and_parts _ _ b).1 (tails d s (seen ++ rest) (spelled ++ 59 ∷ more) e) in
      (left, (record { split = cons s d spelled (seen ++ left) (sym (heads d s (seen ++ rest) (spelled ++ 59 ∷ more) e)) k.split; are = k.are }, f))

-- the digits that are left, and the number that they make with those that have come
record IsRemaining (radix n : ℕ) (rest more : List ℕ) : Type 0 where
  left : List ℕ
  are : list_all (λ d. is_digit d radix) left ≡ true
  behind : rest ≡ left ++ 59 ∷ more
  xml : is_xml_char (number radix n left) ≡ true

remaining : (radix : ℕ) (digits : List ℕ) (n : ℕ) (rest : List ℕ) → IsCounting radix digits n rest → (spelled more : List ℕ) → is_reference (Numbered radix spelled) ≡ true → digits ≡ spelled ++ 59 ∷ more → IsRemaining radix n rest more
remaining radix digits n rest i spelled more h e =
    let k = numbered_facts radix spelled h in
    let (left, (l, f)) = left_of radix k.radix_is rest more i.seen spelled i.are k.are (sym i.joined ∙ e) in record {
      left = left;
      are = l.are;
      behind = f;
      xml = ap is_xml_char (sym (i.goes_on left) ∙ ap (number radix 0) (sym l.split)) ∙ (and_parts _ _ h).1;
    }

-- what is no digit behind it is its semicolon
pub number_ends : (radix : ℕ) (digits : List ℕ) (n byte : ℕ) (rest after : List ℕ) → (radix == 10 || radix == 16) ≡ true → IsCounting radix digits n rest → rest ≡ byte ∷ after → None ≡ digit_step radix n byte → (spelled more : List ℕ) → is_reference (Numbered radix spelled) ≡ true → digits ≡ spelled ++ 59 ∷ more → (byte ≡ 59) × (is_xml_char n ≡ true)
number_ends radix digits n byte rest after r i e s spelled more h b = by k.left k.are (sym e ∙ k.behind) k.xml where
  k : IsRemaining radix n rest more
  k = remaining radix digits n rest i spelled more h b

  positive : (radix : ℕ) → (radix == 10 || radix == 16) ≡ true → 1 ≤ radix
  positive radix r = grind (arith, nat_tests)

  below : (a b : ℕ) → a ≤ b → b ≤ 0x10_FFFF → a ≤ 0x10_FFFF
  below a b h k = omega (arith, h, k)

  differ : (m : ℕ) → None ≡ Some m → ⊥
  differ m e = cc

  by : (left : List ℕ) → list_all (λ d. is_digit d radix) left ≡ true → byte ∷ after ≡ left ++ 59 ∷ more → is_xml_char (number radix n left) ≡ true → (byte ≡ 59) × (is_xml_char n ≡ true)
  by [] a e x = (heads byte 59 after more e, x)
  by (d ∷ left) a e x =
      let same : byte ≡ d = heads byte d after (left ++ 59 ∷ more) e in
      let fits : n * radix + digit_value d ≤ 0x10_FFFF = below _ _ (grows radix (n * radix + digit_value d) left (positive radix r)) (xml_small (number radix n (d ∷ left)) x) in
      absurd (differ (n * radix + digit_value d) (s ∙ (ap (digit_step radix n) same ∙ digit_small radix n d (and_parts _ _ a).0 fits)))

-- a number of a character is told
pub is_numbered : (n : ℕ) → None ≡ numbered_char n → is_xml_char n ≡ true → ⊥
is_numbered n e h = differ (e ∙ ap (λ (b : Bool). if b then Some n else None) h) where
  differ : None ≡ Some n → ⊥
  differ e = cc

-- ---- references to entities

pub no_entity : (piece : List ℕ) (a l g q p : Bool)
    → ((rest : List ℕ) → piece ≡ codes "&amp;" ++ rest → IsTrue a) → ((rest : List ℕ) → piece ≡ codes "&lt;" ++ rest → IsTrue l) → ((rest : List ℕ) → piece ≡ codes "&gt;" ++ rest → IsTrue g)
    → ((rest : List ℕ) → piece ≡ codes "&quot;" ++ rest → IsTrue q) → ((rest : List ℕ) → piece ≡ codes "&apos;" ++ rest → IsTrue p)
    → a ≡ false → l ≡ false → g ≡ false → q ≡ false → p ≡ false → (entity : Entity) (rest : List ℕ) → piece ≡ reference_text (Named entity) ++ rest → ⊥
no_entity piece a l g q p ha hl hg hq hp na nl ng nq np Ampersand rest e = both_ways a na (ha rest e)
no_entity piece a l g q p ha hl hg hq hp na nl ng nq np Less rest e = both_ways l nl (hl rest e)
no_entity piece a l g q p ha hl hg hq hp na nl ng nq np Greater rest e = both_ways g ng (hg rest e)
no_entity piece a l g q p ha hl hg hq hp na nl ng nq np Quote rest e = both_ways q nq (hq rest e)
no_entity piece a l g q p ha hl hg hq hp na nl ng nq np Apostrophe rest e = both_ways p np (hp rest e)

-- ---- which of them a piece begins with

-- a reference has four bytes at least
text_long : (r : Reference) → is_reference r ≡ true → 2 ≤ length (body r)
text_long (Named Ampersand) h = omega arith
text_long (Named Less) h = omega arith
text_long (Named Greater) h = omega arith
text_long (Named Apostrophe) h = omega arith
text_long (Named Quote) h = omega arith
text_long (Numbered radix digits) h = marked (radix == 16) digits (numbered_facts radix digits h).some where
  marked : (b : Bool) (digits : List ℕ) → not (length digits == 0) ≡ true → 2 ≤ length (codes "#" ++ (if b then codes "x" else []) ++ digits)
  marked b [] s = absurd (both_ways false refl s)
  marked true (d ∷ digits) s = omega arith
  marked false (d ∷ digits) s = omega arith

module _ (piece : List ℕ) (r : Reference) (more : List ℕ) (h : is_reference r ≡ true) (b : piece ≡ encode_utf8_all (reference_text r) ++ more) where
  so : piece ≡ 38 ∷ (body r ++ 59 ∷ more)
  so = begins_so piece r more h b ∙ reference_then r more

  pub is_long : 4 ≤ length piece
  is_long = omega (arith, text_long r h, ap length so, length-append (body r) (59 ∷ more))

  behind_is : (first : ℕ) (behind : List ℕ) → piece ≡ first ∷ behind → behind ≡ body r ++ 59 ∷ more
  behind_is first behind e = tails first 38 behind (body r ++ 59 ∷ more) (sym e ∙ so)

no_name : (entity : Entity) (rest more : List ℕ) → 35 ∷ rest ≡ entity_name entity ++ 59 ∷ more → ⊥
no_name Ampersand rest more e = omega (arith, heads 35 97 _ _ e)
no_name Less rest more e = omega (arith, heads 35 108 _ _ e)
no_name Greater rest more e = omega (arith, heads 35 103 _ _ e)
no_name Apostrophe rest more e = omega (arith, heads 35 97 _ _ e)
no_name Quote rest more e = omega (arith, heads 35 113 _ _ e)

-- behind `&#` stand the digits of one radix
digits_here : (rest : List ℕ) (r : Reference) (more : List ℕ) → is_reference r ≡ true → 35 ∷ rest ≡ body r ++ 59 ∷ more
    → ((digits : List ℕ) × ((is_reference (Numbered 16 digits) ≡ true) × (rest ≡ 120 ∷ (digits ++ 59 ∷ more)))) ⊎ ((digits : List ℕ) × ((is_reference (Numbered 10 digits) ≡ true) × (rest ≡ digits ++ 59 ∷ more)))
digits_here rest (Named entity) more h e = absurd (no_name entity rest more e)
digits_here rest (Numbered radix digits) more h e = elim (or_cases (radix == 10) (radix == 16) (numbered_facts radix digits h).radix_is) [
  | inl k ↦ ten radix (eqb-true radix 10 k) h (tails 35 35 rest (((if radix == 16 then codes "x" else []) ++ digits) ++ 59 ∷ more) e)
  | inr k ↦ sixteen radix (eqb-true radix 16 k) h (tails 35 35 rest (((if radix == 16 then codes "x" else []) ++ digits) ++ 59 ∷ more) e)
] where
  ten : (radix : ℕ) → radix ≡ 10 → is_reference (Numbered radix digits) ≡ true → rest ≡ ((if radix == 16 then codes "x" else []) ++ digits) ++ 59 ∷ more
      → ((digits : List ℕ) × ((is_reference (Numbered 16 digits) ≡ true) × (rest ≡ 120 ∷ (digits ++ 59 ∷ more)))) ⊎ ((digits : List ℕ) × ((is_reference (Numbered 10 digits) ≡ true) × (rest ≡ digits ++ 59 ∷ more)))
  ten radix k h e = inr (digits, (subst (λ v. is_reference (Numbered v digits) ≡ true) k h, subst (λ (v : ℕ). rest ≡ ((if v == 16 then codes "x" else []) ++ digits) ++ 59 ∷ more) k e))

  sixteen : (radix : ℕ) → radix ≡ 16 → is_reference (Numbered radix digits) ≡ true → rest ≡ ((if radix == 16 then codes "x" else []) ++ digits) ++ 59 ∷ more
      → ((digits : List ℕ) × ((is_reference (Numbered 16 digits) ≡ true) × (rest ≡ 120 ∷ (digits ++ 59 ∷ more)))) ⊎ ((digits : List ℕ) × ((is_reference (Numbered 10 digits) ≡ true) × (rest ≡ digits ++ 59 ∷ more)))
  sixteen radix k h e = inl (digits, (subst (λ v. is_reference (Numbered v digits) ≡ true) k h, subst (λ (v : ℕ). rest ≡ ((if v == 16 then codes "x" else []) ++ digits) ++ 59 ∷ more) k e))

no_x : (third : ℕ) (digits spelled more : List ℕ) → third ≡ 120 → is_reference (Numbered 10 spelled) ≡ true → third ∷ digits ≡ spelled ++ 59 ∷ more → ⊥
no_x third digits [] more t h e = omega (arith, t, heads third 59 digits more e)
no_x third digits (d ∷ spelled) more t h e = both_ways (d == 120) (digit_no_x d (and_parts _ _ (numbered_facts 10 (d ∷ spelled) h).are).0) (same d 120 (sym (heads third d digits (spelled ++ 59 ∷ more) e) ∙ t)) where
  same : (c d : ℕ) → c ≡ d → (c == d) ≡ true
  same c d h = grind (arith, nat_tests, h)

module _ (P : Type 0) (piece rest digits : List ℕ) (first second third : ℕ) (e : piece ≡ first ∷ second ∷ rest) (hash : second ≡ 35) (m : rest ≡ third ∷ digits) where
  hashed : (r : Reference) (more : List ℕ) → is_reference r ≡ true → piece ≡ encode_utf8_all (reference_text r) ++ more → 35 ∷ rest ≡ body r ++ 59 ∷ more
  hashed r more h b = ap (λ v. v ∷ rest) (sym hash) ∙ behind_is piece r more h b first (second ∷ rest) e

  pub found_hexadecimal : third ≡ 120 → ((spelled behind : List ℕ) → is_reference (Numbered 16 spelled) ≡ true → digits ≡ spelled ++ 59 ∷ behind → P) → (r : Reference) (more : List ℕ) → is_reference r ≡ true → piece ≡ encode_utf8_all (reference_text r) ++ more → P
  found_hexadecimal x f r more h b = elim (digits_here rest r more h (hashed r more h b)) [
    | inl (ds, (k, g)) ↦ f ds more k (tails third 120 digits (ds ++ 59 ∷ more) (sym m ∙ g))
    | inr (ds, (k, g)) ↦ absurd (no_x third digits ds more x k (sym m ∙ g))
  ]

  pub found_decimal : (third ≡ 120 → ⊥) → ((spelled behind : List ℕ) → is_reference (Numbered 10 spelled) ≡ true → rest ≡ spelled ++ 59 ∷ behind → P) → (r : Reference) (more : List ℕ) → is_reference r ≡ true → piece ≡ encode_utf8_all (reference_text r) ++ more → P
  found_decimal n f r more h b = elim (digits_here rest r more h (hashed r more h b)) [
    | inl (ds, (k, g)) ↦ absurd (n (heads third 120 digits (ds ++ 59 ∷ more) (sym m ∙ g)))
    | inr (ds, (k, g)) ↦ f ds more k g
  ]
