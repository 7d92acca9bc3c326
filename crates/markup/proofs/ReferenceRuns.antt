-- Runs of the scan over references.
use Rattle.std.proofs.Common.{◌≡◌, ℕ, true, not, ◌==◌, ◌+◌, ◌*◌, ◌≤◌, List, [], ◌∷◌, ◌++◌, length, Option, Some, None, nat_le, refl, sym, ◌∙◌, ap, subst, arith, inl, inr}
use Rattle.std.specs.List.{list_all}
use Rattle.std.specs.Char.{is_digit, digit_value}
use Rattle.std.proofs.lemmas.Bool.{and_parts, and_from, or_cases, eqb-true, le-leb}
use Rattle.std.proofs.lemmas.Bool.Decides.{nat_tests}
use Rattle.markup.specs.Chars.{is_xml_char}
use Rattle.markup.specs.Reference.{Ampersand, Less, Greater, Apostrophe, Quote, Reference, Named, Numbered, is_reference, referred_character, number}
use Rattle.markup.specs.inner.Drafts.{note_character}
use Rattle.markup.specs.inner.ReferenceScans.{reference_step, digit_step, first_digit, more_digits}
use Rattle.markup.specs.inner.Scans.{step}
use Rattle.markup.specs.declared.draft.Draft.{Draft}
use Rattle.markup.specs.declared.word.Word.TheVariants.{Ampersand as AmpersandWord, Less as LessWord, Greater as GreaterWord, Apostrophe as ApostropheWord, Quote as QuoteWord}
use Rattle.markup.specs.declared.reference.ReferenceScan.{ReferenceScan}
use Rattle.markup.specs.declared.reference.ReferenceScan.TheVariants.{Begun, Name, Hash, HashX, Decimal, Hexadecimal}
use Rattle.markup.specs.declared.reference.ReferenceTurn.{ReferenceTurn}
use Rattle.markup.specs.declared.reference.ReferenceTurn.TheVariants.{Continues, Gives, Breaks}
use Rattle.markup.specs.declared.scan.Scan.{Scan}
use Rattle.markup.specs.declared.scan.Turn.TheVariants.{Goes}
use Rattle.markup.proofs.CharLemmas.{digit_no_x}
use Rattle.markup.proofs.ReferenceLemmas.{body, IsNumbered, numbered_facts}
use Rattle.markup.proofs.Runs.{goes}
use Rattle.markup.specs.inner.ScanRuns.{run}

-- how far a reference comes over these characters, where it does not end with them
abbrev onward : (ReferenceScan → Option ReferenceScan) → ReferenceTurn → Option ReferenceScan
onward go (Continues r) = go r
onward go (Gives c) = None
onward go Breaks = None

abbrev pub reference_run : ReferenceScan → List ℕ → Option ReferenceScan
reference_run r [] = Some r
reference_run r (c ∷ w) = onward (λ t. reference_run t w) (reference_step r c)

-- a number so far is no more than the number
pub grows : (radix n : ℕ) (ds : List ℕ) → 1 ≤ radix → n ≤ number radix n ds
grows radix n [] h = omega arith
grows radix n (d ∷ ds) h = less n radix (digit_value d) (number radix (n * radix + digit_value d) ds) h (grows radix (n * radix + digit_value d) ds h) where
  less : (n r d m : ℕ) → 1 ≤ r → n * r + d ≤ m → n ≤ m
  less n r d m h k = grind arith

pub xml_small : (c : ℕ) → is_xml_char c ≡ true → c ≤ 0x10_FFFF
unfolding is_xml_char
xml_small c h = grind (arith, nat_tests)

pub digit_small : (radix n d : ℕ) → is_digit d radix ≡ true → n * radix + digit_value d ≤ 0x10_FFFF → digit_step radix n d ≡ Some (n * radix + digit_value d)
digit_small radix n d h k = rw (and_from (is_digit d radix) (nat_le (n * radix + digit_value d) 0x10_FFFF) h (le-leb _ _ k)) refl

-- the digits of a number, by the scan of its radix
module _ (radix : ℕ) (at : ℕ → ReferenceScan) (positive : 1 ≤ radix) (digits_at : (n c : ℕ) → reference_step (at n) c ≡ more_digits at n c (digit_step radix n c)) where
  digits_run : (n : ℕ) (ds : List ℕ) → list_all (λ d. is_digit d radix) ds ≡ true → number radix n ds ≤ 0x10_FFFF → reference_run (at n) ds ≡ Some (at (number radix n ds))
  digits_run n [] a k = refl
  digits_run n (d ∷ ds) a k =
      ap (onward (λ t. reference_run t ds)) (digits_at n d ∙ ap (more_digits at n d) (digit_small radix n d (and_parts _ _ a).0 (below (n * radix + digit_value d) (number radix (n * radix + digit_value d) ds) (grows radix (n * radix + digit_value d) ds positive) k)))
      ∙ digits_run (n * radix + digit_value d) ds (and_parts _ _ a).1 k where
        below : (a b : ℕ) → a ≤ b → b ≤ 0x10_FFFF → a ≤ 0x10_FFFF
        below a b h k = omega arith

  first_run : (r : ReferenceScan) (d : ℕ) (ds : List ℕ) → reference_step r d ≡ first_digit at (digit_step radix 0 d) → list_all (λ d. is_digit d radix) (d ∷ ds) ≡ true → number radix 0 (d ∷ ds) ≤ 0x10_FFFF → reference_run r (d ∷ ds) ≡ Some (at (number radix 0 (d ∷ ds)))
  first_run r d ds h a k =
      ap (onward (λ t. reference_run t ds)) (h ∙ ap (first_digit at) (digit_small radix 0 d (and_parts _ _ a).0 (below (0 * radix + digit_value d) (number radix (0 * radix + digit_value d) ds) (grows radix (0 * radix + digit_value d) ds positive) k)))
      ∙ digits_run (0 * radix + digit_value d) ds (and_parts _ _ a).1 k where
        below : (a b : ℕ) → a ≤ b → b ≤ 0x10_FFFF → a ≤ 0x10_FFFF
        below a b h k = omega arith

-- a reference that is read up to its semicolon
pub record ReferenceEnd (r : Reference) : Type 0 where
  pub scan : ReferenceScan
  pub read : reference_run Begun (body r) ≡ Some scan
  pub gives_is : reference_step scan 59 ≡ Gives (referred_character r)

decimal_gives : (n : ℕ) → is_xml_char n ≡ true → reference_step (Decimal n) 59 ≡ Gives n
decimal_gives n h = rw h refl

hexadecimal_gives : (n : ℕ) → is_xml_char n ≡ true → reference_step (Hexadecimal n) 59 ≡ Gives n
hexadecimal_gives n h = rw h refl

hash_digit : (d : ℕ) → is_digit d 10 ≡ true → reference_step Hash d ≡ first_digit Decimal (digit_step 10 0 d)
hash_digit d h = rw (digit_no_x d h) refl

decimal_end : (digits : List ℕ) → not (length digits == 0) ≡ true → list_all (λ d. is_digit d 10) digits ≡ true → is_xml_char (number 10 0 digits) ≡ true → ReferenceEnd (Numbered 10 digits)
decimal_end [] s a h = absurd (cc)
decimal_end (d ∷ ds) s a h = record {
  scan = Decimal (number 10 0 (d ∷ ds));
  read = first_run 10 Decimal (omega arith) (λ n c. refl) Hash d ds (hash_digit d (and_parts _ _ a).0) a (xml_small (number 10 0 (d ∷ ds)) h);
  gives_is = decimal_gives (number 10 0 (d ∷ ds)) h;
}

hexadecimal_end : (digits : List ℕ) → not (length digits == 0) ≡ true → list_all (λ d. is_digit d 16) digits ≡ true → is_xml_char (number 16 0 digits) ≡ true → ReferenceEnd (Numbered 16 digits)
hexadecimal_end [] s a h = absurd (cc)
hexadecimal_end (d ∷ ds) s a h = record {
  scan = Hexadecimal (number 16 0 (d ∷ ds));
  read = first_run 16 Hexadecimal (omega arith) (λ n c. refl) HashX d ds refl a (xml_small (number 16 0 (d ∷ ds)) h);
  gives_is = hexadecimal_gives (number 16 0 (d ∷ ds)) h;
}

by_radix : (radix : ℕ) (digits : List ℕ) → IsNumbered radix digits → is_xml_char (number radix 0 digits) ≡ true → ReferenceEnd (Numbered radix digits)
by_radix radix digits k h = elim (or_cases (radix == 10) (radix == 16) k.radix_is) as (λ _. ReferenceEnd (Numbered radix digits)) [
  | inl e ↦ ten radix digits (eqb-true radix 10 e) k.some k.are h
  | inr e ↦ sixteen radix digits (eqb-true radix 16 e) k.some k.are h
] where
  ten : (radix : ℕ) (digits : List ℕ) → radix ≡ 10 → not (length digits == 0) ≡ true → list_all (λ d. is_digit d radix) digits ≡ true → is_xml_char (number radix 0 digits) ≡ true → ReferenceEnd (Numbered radix digits)
  ten radix digits e s a h = subst (λ (r : ℕ). list_all (λ d. is_digit d r) digits ≡ true → is_xml_char (number r 0 digits) ≡ true → ReferenceEnd (Numbered r digits)) (sym e) (decimal_end digits s) a h

  sixteen : (radix : ℕ) (digits : List ℕ) → radix ≡ 16 → not (length digits == 0) ≡ true → list_all (λ d. is_digit d radix) digits ≡ true → is_xml_char (number radix 0 digits) ≡ true → ReferenceEnd (Numbered radix digits)
  sixteen radix digits e s a h = subst (λ (r : ℕ). list_all (λ d. is_digit d r) digits ≡ true → is_xml_char (number r 0 digits) ≡ true → ReferenceEnd (Numbered r digits)) (sym e) (hexadecimal_end digits s) a h

pub reference_end : (r : Reference) → is_reference r ≡ true → ReferenceEnd r
reference_end (Named Ampersand) h = record { scan = Name AmpersandWord 3; read = refl; gives_is = refl }
reference_end (Named Less) h = record { scan = Name LessWord 2; read = refl; gives_is = refl }
reference_end (Named Greater) h = record { scan = Name GreaterWord 2; read = refl; gives_is = refl }
reference_end (Named Apostrophe) h = record { scan = Name ApostropheWord 4; read = refl; gives_is = refl }
reference_end (Named Quote) h = record { scan = Name QuoteWord 4; read = refl; gives_is = refl }
reference_end (Numbered radix digits) h = by_radix radix digits (numbered_facts radix digits h) (and_parts _ _ h).1

-- a token that holds a reference, by the scans at, comes as far as the reference does
module _ (at : ReferenceScan → Scan) (d : Draft)
    (goes_on : (r t : ReferenceScan) (c : ℕ) → reference_step r c ≡ Continues t → step (at r) c ≡ Goes (at t))
    (notes : (r t : ReferenceScan) (c : ℕ) → note_character (at r) (at t) c d ≡ d) where
  pub reference_goes : (r t : ReferenceScan) (cs w : List ℕ) → reference_run r cs ≡ Some t → run (at r) d (cs ++ w) ≡ run (at t) d w
  reference_goes r t [] w h = ap (λ u. run (at u) d w) (same r t h) where
    same : (r t : ReferenceScan) → Some r ≡ Some t → r ≡ t
    same r t h = cc
  reference_goes r t (c ∷ cs) w h = by_turn (λ n k. reference_goes n t cs w k) (reference_step r c) refl h where
    by_turn : ((n : ReferenceScan) → reference_run n cs ≡ Some t → run (at n) d (cs ++ w) ≡ run (at t) d w) → (u : ReferenceTurn) → reference_step r c ≡ u → onward (λ t. reference_run t cs) u ≡ Some t → run (at r) d (c ∷ (cs ++ w)) ≡ run (at t) d w
    by_turn f (Continues n) e k = goes (at r) (at n) c d d (cs ++ w) (goes_on r n c e) (notes r n c) ∙ f n k
    by_turn f (Gives g) e k = absurd (cc)
    by_turn f Breaks e k = absurd (cc)
