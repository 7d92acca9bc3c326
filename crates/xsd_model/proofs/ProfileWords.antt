-- What the words of the profiles' trees are: their first characters, and what stands behind these.
use Rattle.std.proofs.Common.{◌≡◌, ◌⊎◌, ℕ, zero, suc, ◌+◌, ◌-◌, ◌*◌, ◌<◌, ◌≤◌, inl, inr, List, [], ◌∷◌, ◌++◌, length, refl, sym, ap, subst, ◌∙◌, arith, append-nil, lit≤}
use Rattle.std.specs.Prelude.{codes}
use Rattle.std.specs.Char.{digit_value}
use Rattle.std.specs.Str.Parse.{AllDigits}
use Rattle.std.proofs.lemmas.Str.{digit_value_digit}
use Rattle.lexical_core.specs.Exponents.{NoDigit}
use Rattle.pattern_match.specs.Expression.{Atom, Character, Escape, Once, Optional, Between, Expression, Empty, Piece, Group}
use Rattle.pattern_match.specs.Valid.{digits_number}
use Rattle.pattern_match.specs.Language.{Lang, AtomHas, IsOneOf, Repeats}
use Rattle.xsd_model.proofs.ProfileTrees.{digit, digits, sign, hours, to_one, to_three, to_five, fraction_tree, time_tree, zoned, zone_tree}

-- ---- words of pieces

once : (P : List ℕ → Type 0) (k : ℕ) (u : List ℕ) → k ≡ 1 → Repeats P k u → P u
once P zero u e r = absurd (omega (arith, e))
once P (suc zero) u e (x, y, is, p, none) = subst P (sym (is ∙ (ap (λ t. x ++ t) none ∙ append-nil x))) p
once P (suc (suc k)) u e r = absurd (omega (arith, e))

at_most_once : (P : List ℕ → Type 0) (k : ℕ) (u : List ℕ) → k ≤ 1 → Repeats P k u → (u ≡ []) ⊎ P u
at_most_once P zero u most r = inl r
at_most_once P (suc zero) u most r = inr (once P 1 u refl r)
at_most_once P (suc (suc k)) u most r = absurd (omega (arith, most))

-- one character, and more
pub one_first : (atom : Atom) (rest : Expression) (w : List ℕ) → Lang (Piece atom Once rest) w → (c : ℕ) × (v : List ℕ) × (w ≡ c ∷ v) × AtomHas atom c × Lang rest v
one_first atom rest w (u, v, e, (k, one, r), l) =
    let c = once (IsOneOf atom) k u one r in
    (c.0, v, e ∙ ap (λ t. t ++ v) c.1, c.2, l)

-- one character that the pattern names, and more
pub character_first : (x : ℕ) (rest : Expression) (w : List ℕ) → Lang (Piece (Character x) Once rest) w → (v : List ℕ) × (w ≡ x ∷ v) × Lang rest v
character_first x rest w l =
    let r = one_first (Character x) rest w l in
    (r.1, r.2 ∙ ap (λ c. c ∷ r.1) r.3, r.4)

small : (p c : ℕ) → p + 48 ≡ c → c ≤ 57 → p < 10
small p c e most = omega (arith, e, most)

has_digit : (c : ℕ) → AtomHas digit c → digit_value c < 10
has_digit c (inl h) = small (digit_value c) c (digit_value_digit c h) h.1
has_digit c (inr none) = absurd none

repeated : (k : ℕ) (u : List ℕ) → Repeats (IsOneOf digit) k u → AllDigits 10 u × (length u ≡ k)
repeated zero u r = (subst (AllDigits 10) (sym r) tt, ap length r)
repeated (suc k) u (x, y, e, (c, is, has), more) =
    let r = repeated k y more in
    let whole : u ≡ c ∷ y = e ∙ ap (λ t. t ++ y) is in
    (subst (AllDigits 10) (sym whole) (has_digit c has, r.0), ap length whole ∙ ap suc r.1)

-- so many digits, and more
pub digits_first : (ds : List ℕ) (rest : Expression) (w : List ℕ) → Lang (digits ds rest) w → (u : List ℕ) × (v : List ℕ) × (w ≡ u ++ v) × AllDigits 10 u × (length u ≡ digits_number ds) × Lang rest v
digits_first ds rest w (u, v, e, (k, many, r), l) =
    let d = repeated k u r in
    (u, v, e, d.0, d.1 ∙ many, l)

option_first : (inner rest : Expression) (w : List ℕ) → Lang (Group inner Optional rest) w → Lang rest w ⊎ ((u : List ℕ) × (v : List ℕ) × (w ≡ u ++ v) × Lang inner u × Lang rest v)
option_first inner rest w (u, v, e, (k, most, r), l) = elim (at_most_once (Lang inner) k u most r) [
  | inl none ↦ inl (subst (Lang rest) (sym (e ∙ ap (λ t. t ++ v) none)) l)
  | inr i ↦ inr (u, v, e, i, l)
]

-- ---- zones

-- nothing, or `Z` or a sign and more
abbrev pub StartsZone : List ℕ → Type 0
StartsZone [] = Unit {0}
StartsZone (c ∷ text) = (c ≡ 90) ⊎ (c ≡ 43) ⊎ (c ≡ 45)

zoned_starts : (u v : List ℕ) → Lang zoned u → StartsZone (u ++ v)
zoned_starts u v (inl z) =
    let r = character_first 90 Empty u z in
    subst (λ t. StartsZone (t ++ v)) (sym r.1) (inl refl)
zoned_starts u v (inr o) =
    let r = one_first sign (digits (codes "2") (Piece (Character 58) Once (digits (codes "2") Empty))) u o in
    subst (λ t. StartsZone (t ++ v)) (sym r.2) (inr (signed r.0 r.3))
  where
    signed : (c : ℕ) → (c ≡ 43) ⊎ ((c ≡ 45) ⊎ ⊥) → (c ≡ 43) ⊎ (c ≡ 45)
    signed c (inl e) = inl e
    signed c (inr (inl e)) = inr e
    signed c (inr (inr none)) = absurd none

pub zone_starts : (w : List ℕ) → Lang zone_tree w → StartsZone w
zone_starts w l = elim (option_first zoned Empty w l) [
  | inl none ↦ subst StartsZone (sym none) tt
  | inr r ↦ subst StartsZone (sym r.2) (zoned_starts r.0 r.1 r.3)
]

pub starts_no_digit : (w : List ℕ) → StartsZone w → NoDigit w
starts_no_digit [] s = tt
starts_no_digit (c ∷ w) (inl e) = subst (λ x. 10 ≤ digit_value x) (sym e) (lit≤ tt)
starts_no_digit (c ∷ w) (inr (inl e)) = subst (λ x. 10 ≤ digit_value x) (sym e) (lit≤ tt)
starts_no_digit (c ∷ w) (inr (inr e)) = subst (λ x. 10 ≤ digit_value x) (sym e) (lit≤ tt)

-- ---- times

-- the characters of a time, and what the profile asks of its hours, its seconds and what stands behind
pub record TimeWord (w : List ℕ) : Type 0 where
  pub a : ℕ
  pub b : ℕ
  pub c : ℕ
  pub d : ℕ
  pub e : ℕ
  pub f : ℕ
  pub rest : List ℕ
  pub word_is : w ≡ a ∷ b ∷ 58 ∷ c ∷ d ∷ 58 ∷ e ∷ f ∷ rest
  pub hours : (a - 48) * 10 + (b - 48) < 24
  pub seconds : (e - 48) * 10 + (f - 48) < 60
  pub behind : Lang (Group fraction_tree Optional zone_tree) rest

hours_first : (u : List ℕ) → Lang hours u → (a : ℕ) × (b : ℕ) × (u ≡ a ∷ b ∷ []) × ((a - 48) * 10 + (b - 48) < 24)
hours_first u (inl low) =
    let r = one_first to_one (Piece digit Once Empty) u low in
    let s = one_first digit Empty r.1 r.4 in
    (r.0, s.0, r.2 ∙ ap (λ t. r.0 ∷ t) (s.2 ∙ ap (λ t. s.0 ∷ t) s.4), few r.0 s.0 r.3 s.3)
  where
    few : (a b : ℕ) → (a ≡ 48) ⊎ ((a ≡ 49) ⊎ ⊥) → ((48 ≤ b) × (b ≤ 57)) ⊎ ⊥ → (a - 48) * 10 + (b - 48) < 24
    few a b (inl e) (inl h) = (let most = h.1 in omega (arith, e, most))
    few a b (inr (inl e)) (inl h) = (let most = h.1 in omega (arith, e, most))
    few a b (inr (inr none)) (inl h) = absurd none
    few a b x (inr none) = absurd none
hours_first u (inr high) =
    let r = character_first 50 (Piece to_three Once Empty) u high in
    let s = one_first to_three Empty r.0 r.2 in
    (50, s.0, r.1 ∙ ap (λ t. 50 ∷ t) (s.2 ∙ ap (λ t. s.0 ∷ t) s.4), few s.0 s.3)
  where
    few : (b : ℕ) → ((48 ≤ b) × (b ≤ 51)) ⊎ ⊥ → (50 - 48) * 10 + (b - 48) < 24
    few b (inl h) = (let most = h.1 in omega (arith, most))
    few b (inr none) = absurd none

few_seconds : (e f : ℕ) → ((48 ≤ e) × (e ≤ 53)) ⊎ ⊥ → ((48 ≤ f) × (f ≤ 57)) ⊎ ⊥ → (e - 48) * 10 + (f - 48) < 60
few_seconds e f (inl h) (inl g) = (let most = h.1 in let top = g.1 in omega (arith, most, top))
few_seconds e f (inl h) (inr none) = absurd none
few_seconds e f (inr none) g = absurd none

-- a colon, a digit to five and a digit
record SixtyFirst (rest : Expression) (w : List ℕ) : Type 0 where
  tens : ℕ
  ones : ℕ
  more : List ℕ
  word_is : w ≡ 58 ∷ tens ∷ ones ∷ more
  few : (tens - 48) * 10 + (ones - 48) < 60
  behind : Lang rest more

sixty_first : (rest : Expression) (w : List ℕ) → Lang (Piece (Character 58) Once (Piece to_five Once (Piece digit Once rest))) w → SixtyFirst rest w
sixty_first rest w l =
    let p = character_first 58 (Piece to_five Once (Piece digit Once rest)) w l in
    let t = one_first to_five (Piece digit Once rest) p.0 p.2 in
    let o = one_first digit rest t.1 t.4 in
    record {
      tens = t.0;
      ones = o.0;
      more = o.1;
      word_is = p.1 ∙ ap (λ v. 58 ∷ v) (t.2 ∙ ap (λ v. t.0 ∷ v) o.2);
      few = few_seconds t.0 o.0 t.3 o.3;
      behind = o.4;
    }

pub time_word : (w : List ℕ) → Lang time_tree w → TimeWord w
time_word w (u, v, e, (k, one, r), l) =
    let h = hours_first u (once (Lang hours) k u one r) in
    let m = sixty_first (Piece (Character 58) Once (Piece to_five Once (Piece digit Once (Group fraction_tree Optional zone_tree)))) v l in
    let s = sixty_first (Group fraction_tree Optional zone_tree) m.more m.behind in
    record {
      a = h.0;
      b = h.1;
      c = m.tens;
      d = m.ones;
      e = s.tens;
      f = s.ones;
      rest = s.more;
      word_is = e ∙ (ap (λ t. t ++ v) h.2 ∙ ap (λ t. h.0 ∷ h.1 ∷ t) (m.word_is ∙ ap (λ t. 58 ∷ m.tens ∷ m.ones ∷ t) s.word_is));
      hours = h.3;
      seconds = s.few;
      behind = s.behind;
    }

-- what stands behind the seconds begins as a zone does, or is a point, one to nine digits and a zone
pub fraction_first : (w : List ℕ) → Lang (Group fraction_tree Optional zone_tree) w
    → StartsZone w ⊎ ((ds : List ℕ) × (v : List ℕ) × (w ≡ 46 ∷ (ds ++ v)) × AllDigits 10 ds × (length ds ≤ 9) × StartsZone v)
fraction_first w l = elim (option_first fraction_tree zone_tree w l) [
  | inl none ↦ inl (zone_starts w none)
  | inr r ↦ inr (some r.0 r.1 r.2 r.3 r.4)
]
  where
    some : (u v : List ℕ) → w ≡ u ++ v → Lang fraction_tree u → Lang zone_tree v → (ds : List ℕ) × (v : List ℕ) × (w ≡ 46 ∷ (ds ++ v)) × AllDigits 10 ds × (length ds ≤ 9) × StartsZone v
    some u v e f z =
        let p = one_first (Escape 46) (Piece digit (Between (codes "1") (codes "9")) Empty) u f in
        let k = p.4 in
        let d = repeated k.3.0 k.0 k.3.2 in
        let few : length k.0 ≤ 9 = subst (λ n. n ≤ 9) (sym d.1) k.3.1.1 in
        (k.0, v, e ∙ ap (λ t. t ++ v) (p.2 ∙ (ap (λ c. c ∷ p.1) p.3 ∙ ap (λ t. 46 ∷ t) (k.2 ∙ (ap (λ t. k.0 ++ t) k.4 ∙ append-nil k.0)))), d.0, few, zone_starts v z)
