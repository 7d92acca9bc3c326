-- What the meaning of a character tells of it, and which meaning it has.
use Rattle.std.proofs.Common.{◌≡◌, ℕ, ◌-◌, ◌⊎◌, inl, inr, true, false, ◌&&◌, ◌==◌, nat_le, List, [], ◌∷◌, codes, refl, sym, subst, arith, eqb-true}
use Rattle.std.proofs.lemmas.Bool.{cond_both, eqb-false, ne_eqb}
use Rattle.std.proofs.lemmas.Bool.Decides.{nat_tests}
use Rattle.lexical_core.specs.Characters.{IsXmlChar}
use Rattle.pattern_match.specs.Valid.{is_among, IsOrdinary, IsEscapeLetter, IsDigit}
use Rattle.pattern_match.specs.Character.{is_xml_character, outside, within, in_number, is_escape_letter, behind_backslash}
use Rattle.pattern_match.specs.declared.character.Outside.{Outside}
use Rattle.pattern_match.specs.declared.character.Outside.TheVariants.{Ordinary, Dot, Backslash, OpenClass, OpenGroup, CloseGroup, Bar, Optional, AnyNumber, OneOrMore, OpenBounds, Stray}
use Rattle.pattern_match.specs.declared.character.Within.{Within}
use Rattle.pattern_match.specs.declared.character.Within.TheVariants.{Plain, Backslash as BackslashWithin, Hyphen, CloseClass, Stray as StrayWithin}
use Rattle.pattern_match.specs.declared.character.InNumber.{InNumber}
use Rattle.pattern_match.specs.declared.character.InNumber.TheVariants.{Digit, Comma, CloseBounds, Stray as StrayInNumber}
use Rattle.pattern_match.specs.declared.character.BehindBackslash.{BehindBackslash}
use Rattle.pattern_match.specs.declared.character.BehindBackslash.TheVariants.{Space, Letter, Stray as StrayBehind}

pub xml_true : (c : ℕ) → is_xml_character c ≡ true → IsXmlChar c
xml_true c h = grind (arith, nat_tests)

pub true_xml : (c : ℕ) → IsXmlChar c → is_xml_character c ≡ true
true_xml c h = grind (arith, nat_tests)

abbrev Differ : List ℕ → ℕ → Type 0
Differ [] c = Unit {0}
Differ (x ∷ xs) c = (c == x ≡ false) × Differ xs c

among_false : (xs : List ℕ) (c : ℕ) → Differ xs c → is_among xs c ≡ false
among_false [] c d = refl
among_false (x ∷ xs) c d =
    let n : x == c ≡ false = ne_eqb x c (λ e. eqb-false c x d.0 (sym e)) in
    rw n (among_false xs c d.1)

abbrev pub OutsideTells : ℕ → Outside → Type 0
OutsideTells c Ordinary = IsOrdinary c
OutsideTells c Dot = c ≡ 46
OutsideTells c Backslash = c ≡ 92
OutsideTells c OpenClass = c ≡ 91
OutsideTells c OpenGroup = c ≡ 40
OutsideTells c CloseGroup = c ≡ 41
OutsideTells c Bar = c ≡ 124
OutsideTells c Optional = c ≡ 63
OutsideTells c AnyNumber = c ≡ 42
OutsideTells c OneOrMore = c ≡ 43
OutsideTells c OpenBounds = c ≡ 123
OutsideTells c Stray = ((c ≡ 93) ⊎ (c ≡ 125)) ⊎ (is_xml_character c ≡ false)

pub outside_tells : (c : ℕ) → OutsideTells c (outside c)
outside_tells c =
    cond_both (c == 46) _ _ (OutsideTells c) (λ t. eqb-true c 46 t) (λ f1.
    cond_both (c == 92) _ _ (OutsideTells c) (λ t. eqb-true c 92 t) (λ f2.
    cond_both (c == 91) _ _ (OutsideTells c) (λ t. eqb-true c 91 t) (λ f3.
    cond_both (c == 40) _ _ (OutsideTells c) (λ t. eqb-true c 40 t) (λ f4.
    cond_both (c == 41) _ _ (OutsideTells c) (λ t. eqb-true c 41 t) (λ f5.
    cond_both (c == 124) _ _ (OutsideTells c) (λ t. eqb-true c 124 t) (λ f6.
    cond_both (c == 63) _ _ (OutsideTells c) (λ t. eqb-true c 63 t) (λ f7.
    cond_both (c == 42) _ _ (OutsideTells c) (λ t. eqb-true c 42 t) (λ f8.
    cond_both (c == 43) _ _ (OutsideTells c) (λ t. eqb-true c 43 t) (λ f9.
    cond_both (c == 123) _ _ (OutsideTells c) (λ t. eqb-true c 123 t) (λ f10.
    cond_both (c == 93) _ _ (OutsideTells c) (λ t. inl (inl (eqb-true c 93 t))) (λ f11.
    cond_both (c == 125) _ _ (OutsideTells c) (λ t. inl (inr (eqb-true c 125 t))) (λ f12.
    cond_both (is_xml_character c) _ _ (OutsideTells c)
    (λ t. (xml_true c t, among_false (codes ".\\?*+()|[]{}") c (f1, (f2, (f7, (f8, (f9, (f4, (f5, (f6, (f3, (f11, (f10, (f12, tt))))))))))))))
    (λ f. inr f)))))))))))))

outside_not : (c x : ℕ) → IsOrdinary c → c ≡ x → is_among (codes ".\\?*+()|[]{}") x ≡ true → ⊥
outside_not c x o e h = let k : is_among (codes ".\\?*+()|[]{}") x ≡ false = subst (λ y. is_among (codes ".\\?*+()|[]{}") y ≡ false) e o.1 in cc

pub outside_ordinary : (c : ℕ) → IsOrdinary c → outside c ≡ Ordinary
outside_ordinary c o = go (outside c) (outside_tells c)
  where
    go : (m : Outside) → OutsideTells c m → m ≡ Ordinary
    go Ordinary t = refl
    go Dot t = absurd (outside_not c 46 o t refl)
    go Backslash t = absurd (outside_not c 92 o t refl)
    go OpenClass t = absurd (outside_not c 91 o t refl)
    go OpenGroup t = absurd (outside_not c 40 o t refl)
    go CloseGroup t = absurd (outside_not c 41 o t refl)
    go Bar t = absurd (outside_not c 124 o t refl)
    go Optional t = absurd (outside_not c 63 o t refl)
    go AnyNumber t = absurd (outside_not c 42 o t refl)
    go OneOrMore t = absurd (outside_not c 43 o t refl)
    go OpenBounds t = absurd (outside_not c 123 o t refl)
    go Stray (inl (inl t)) = absurd (outside_not c 93 o t refl)
    go Stray (inl (inr t)) = absurd (outside_not c 125 o t refl)
    go Stray (inr t) = let k : is_xml_character c ≡ true = true_xml c o.0 in cc

abbrev pub WithinTells : ℕ → Within → Type 0
WithinTells c Plain = IsXmlChar c × (is_among (codes "\\[]-") c ≡ false)
WithinTells c BackslashWithin = c ≡ 92
WithinTells c Hyphen = c ≡ 45
WithinTells c CloseClass = c ≡ 93
WithinTells c StrayWithin = (c ≡ 91) ⊎ (is_xml_character c ≡ false)

pub within_tells : (c : ℕ) → WithinTells c (within c)
within_tells c =
    cond_both (c == 92) _ _ (WithinTells c) (λ t. eqb-true c 92 t) (λ f1.
    cond_both (c == 45) _ _ (WithinTells c) (λ t. eqb-true c 45 t) (λ f2.
    cond_both (c == 93) _ _ (WithinTells c) (λ t. eqb-true c 93 t) (λ f3.
    cond_both (c == 91) _ _ (WithinTells c) (λ t. inl (eqb-true c 91 t)) (λ f4.
    cond_both (is_xml_character c) _ _ (WithinTells c)
    (λ t. (xml_true c t, among_false (codes "\\[]-") c (f1, (f4, (f3, (f2, tt))))))
    (λ f. inr f)))))

within_not : (c x : ℕ) → is_among (codes "\\[]-") c ≡ false → c ≡ x → is_among (codes "\\[]-") x ≡ true → ⊥
within_not c x o e h = let k : is_among (codes "\\[]-") x ≡ false = subst (λ y. is_among (codes "\\[]-") y ≡ false) e o in cc

pub within_plain : (c : ℕ) → IsXmlChar c → is_among (codes "\\[]-") c ≡ false → within c ≡ Plain
within_plain c x o = go (within c) (within_tells c)
  where
    go : (m : Within) → WithinTells c m → m ≡ Plain
    go Plain t = refl
    go BackslashWithin t = absurd (within_not c 92 o t refl)
    go Hyphen t = absurd (within_not c 45 o t refl)
    go CloseClass t = absurd (within_not c 93 o t refl)
    go StrayWithin (inl t) = absurd (within_not c 91 o t refl)
    go StrayWithin (inr t) = let k : is_xml_character c ≡ true = true_xml c x in cc

abbrev pub NumberTells : ℕ → InNumber → Type 0
NumberTells c (Digit digit) = IsDigit c × (digit ≡ c - 48)
NumberTells c Comma = c ≡ 44
NumberTells c CloseBounds = c ≡ 125
NumberTells c StrayInNumber = Unit {0}

pub number_tells : (c : ℕ) → NumberTells c (in_number c)
number_tells c =
    cond_both (nat_le 48 c && nat_le c 57) _ _ (NumberTells c) (λ t. (digit t, refl)) (λ f1.
    cond_both (c == 44) _ _ (NumberTells c) (λ t. eqb-true c 44 t) (λ f2.
    cond_both (c == 125) _ _ (NumberTells c) (λ t. eqb-true c 125 t) (λ f3. tt)))
  where
    digit : nat_le 48 c && nat_le c 57 ≡ true → IsDigit c
    digit t = grind (arith, nat_tests)

pub number_digit : (c : ℕ) → IsDigit c → in_number c ≡ Digit (c - 48)
number_digit c d = let t : nat_le 48 c && nat_le c 57 ≡ true = both in rw t refl
  where
    both : nat_le 48 c && nat_le c 57 ≡ true
    both = grind (arith, nat_tests)

abbrev pub BackslashTells : ℕ → BehindBackslash → Type 0
BackslashTells c Space = c ≡ 115
BackslashTells c Letter = IsEscapeLetter c
BackslashTells c StrayBehind = Unit {0}

pub backslash_tells : (c : ℕ) → BackslashTells c (behind_backslash c)
backslash_tells c =
    cond_both (c == 115) _ _ (BackslashTells c) (λ t. eqb-true c 115 t) (λ f1.
    cond_both (is_escape_letter c) _ _ (BackslashTells c) (λ t. t) (λ f2. tt))

pub backslash_letter : (c : ℕ) → IsEscapeLetter c → behind_backslash c ≡ Letter
backslash_letter c l = rw (n, l) refl
  where
    n : c == 115 ≡ false
    n = ne_eqb c 115 (λ e. let h : is_escape_letter 115 ≡ true = subst (λ x. is_escape_letter x ≡ true) e l in cc)
