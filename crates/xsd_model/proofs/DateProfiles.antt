-- The text of a date or a time is a word of its profile.
use Rattle.std.proofs.Common.{◌≡◌, ◌≢◌, ◌⊎◌, ℕ, zero, suc, ◌+◌, ◌-◌, ◌*◌, ◌<◌, ◌≤◌, inl, inr, true, List, [], ◌∷◌, ◌++◌, length, get_or, refl, sym, ap, ap₂, subst, ◌∙◌, arith, append-nil, append_assoc}
use Rattle.std.specs.Prelude.{codes, replicate}
use Rattle.std.specs.List.{AllByRecursion}
use Rattle.std.specs.Str.{chars}
use Rattle.std.specs.Char.{digit_value}
use Rattle.std.specs.Str.Parse.{AllDigits}
use Rattle.std.proofs.lemmas.List.{get_or-append_right}
use Rattle.lexical_core.proofs.Numerals.{digit_range}
use Rattle.pattern_match.specs.Expression.{Atom, Character, Escape, Once, Optional, Exactly, Between, Expression, Empty, Piece, Group}
use Rattle.pattern_match.specs.Valid.{digits_number}
use Rattle.pattern_match.specs.Language.{Lang, AtomHas, IsOneOf, Repeats}
use Rattle.pattern_match.specs.Reading.{Matches}
use Rattle.data_types.specs.Dates.{IsDateText, HasForm, FitsPlace, IsClock, IsFraction, IsZone, IsOffset, two_at}
use Rattle.data_types.specs.Kinds.{form_of}
use Rattle.data_types.specs.declared.kind.Kind.{Kind}
use Rattle.data_types.specs.declared.kind.Kind.TheVariants as kind
use Rattle.xsd_model.specs.StepsOf.{profile_pattern}
use Rattle.xsd_model.proofs.ProfileTrees.{digit, digits, sign, zoned, zone_tree, to_one, to_three, to_five, hours, fraction_tree, time_tree, month_tree, day_tree, tree_of, tree_is}

-- ---- words of pieces

one_word : (atom : Atom) (rest : Expression) (c : ℕ) (v : List ℕ) → AtomHas atom c → Lang rest v → Lang (Piece atom Once rest) (c ∷ v)
one_word atom rest c v has l = (c ∷ [], v, refl, (1, refl, (c ∷ [], [], refl, (c, refl, has), refl)), l)

repeats : (atom : Atom) (u : List ℕ) → AllByRecursion (AtomHas atom) u → Repeats (IsOneOf atom) (length u) u
repeats atom [] all = refl
repeats atom (c ∷ u) all = (c ∷ [], u, refl, (c, refl, all.0), repeats atom u all.1)

no_option : (inner rest : Expression) (v : List ℕ) → Lang rest v → Lang (Group inner Optional rest) v
no_option inner rest v l = ([], v, refl, (0, omega arith, refl), l)

one_option : (inner rest : Expression) (u v : List ℕ) → Lang inner u → Lang rest v → Lang (Group inner Optional rest) (u ++ v)
one_option inner rest u v i l = (u, v, refl, (1, omega arith, (u, [], sym (append-nil u), i, refl)), l)

one_group : (inner rest : Expression) (u v : List ℕ) → Lang inner u → Lang rest v → Lang (Group inner Once rest) (u ++ v)
one_group inner rest u v i l = (u, v, refl, (1, refl, (u, [], sym (append-nil u), i, refl)), l)

-- ---- forms by recursion

abbrev pub Forms : List ℕ → List ℕ → Type 0
Forms [] [] = Unit {0}
Forms [] (c ∷ text) = ⊥
Forms (p ∷ form) [] = ⊥
Forms (p ∷ form) (c ∷ text) = FitsPlace p c × Forms form text

pub forms : (form text : List ℕ) → HasForm form text → Forms form text
forms [] [] h = tt
forms [] (c ∷ text) h = (let e = h.same_length in omega (arith, e))
forms (p ∷ form) [] h = (let e = h.same_length in omega (arith, e))
forms (p ∷ form) (c ∷ text) h =
    (h.each 0 (omega arith), forms form text (record { same_length = (let e = h.same_length in omega (arith, e)); each = λ k lt. h.each (suc k) (omega (arith, lt)) }))

is_digit : (c : ℕ) → FitsPlace 100 c → (48 ≤ c) × (c ≤ 57)
is_digit c (inl d) = digit_range c d.1
is_digit c (inr n) = absurd (n.0 refl)

pub is_char : (p c : ℕ) → p ≢ 100 → FitsPlace p c → c ≡ p
is_char p c other (inl d) = absurd (other d.0)
is_char p c other (inr n) = n.1

digit_has : (c : ℕ) → (48 ≤ c) × (c ≤ 57) → AtomHas digit c
digit_has c h = inl h

char_word : (p : ℕ) (form : List ℕ) (rest : Expression) (text v : List ℕ) → p ≢ 100 → Forms (p ∷ form) text → ((more : List ℕ) → Forms form more → Lang rest (more ++ v))
    → Lang (Piece (Character p) Once rest) (text ++ v)
char_word p form rest [] v other f k = absurd f
char_word p form rest (c ∷ text) v other f k = one_word (Character p) rest c (text ++ v) (is_char p c other f.0) (k text f.1)

digit_fits : (c : ℕ) → FitsPlace 100 c → digit_value c < 10
digit_fits c (inl d) = d.1
digit_fits c (inr n) = absurd (n.0 refl)

-- so many digits, and then more
pub digits_front : (n : ℕ) (form text : List ℕ) → Forms (replicate n 100 ++ form) text
    → (u : List ℕ) × (more : List ℕ) × (text ≡ u ++ more) × (length u ≡ n) × AllDigits 10 u × Forms form more
digits_front zero form text f = ([], text, refl, refl, tt, f)
digits_front (suc n) form [] f = absurd f
digits_front (suc n) form (c ∷ text) f =
    let r = digits_front n form text f.1 in
    (c ∷ r.0, r.1, ap (λ t. c ∷ t) r.2, ap suc r.3, (digit_fits c f.0, r.4), r.5)

all_digits : (ds : List ℕ) → AllDigits 10 ds → AllByRecursion (AtomHas digit) ds
all_digits [] all = tt
all_digits (c ∷ ds) all = (digit_has c (digit_range c all.0), all_digits ds all.1)

digits_word : (n : ℕ) (ds form : List ℕ) (rest : Expression) (text v : List ℕ) → n ≡ digits_number ds → Forms (replicate n 100 ++ form) text
    → ((more : List ℕ) → Forms form more → Lang rest (more ++ v)) → Lang (Piece digit (Exactly ds) rest) (text ++ v)
digits_word n ds form rest text v e f k =
    let r = digits_front n form text f in
    (r.0, r.1 ++ v, ap (λ t. t ++ v) r.2 ∙ append_assoc r.0 r.1 v, (length r.0, r.3 ∙ e, repeats digit r.0 (all_digits r.0 r.4)), k r.1 r.5)

-- the end of a form
no_more : (rest : Expression) (more v : List ℕ) → Forms [] more → Lang rest v → Lang rest (more ++ v)
no_more rest [] v f l = l
no_more rest (c ∷ more) v f l = absurd f

-- ---- zones

hours_and_minutes : (text : List ℕ) → Forms (codes "dd:dd") text → Lang (digits (codes "2") (Piece (Character 58) Once (digits (codes "2") Empty))) (text ++ [])
hours_and_minutes text f =
    digits_word 2 (codes "2") (codes ":dd") (Piece (Character 58) Once (digits (codes "2") Empty)) text [] refl f
    (λ t g. char_word 58 (codes "dd") (digits (codes "2") Empty) t [] (λ x. absurd (omega (arith, x))) g
    (λ t g. digits_word 2 (codes "2") [] Empty t [] refl g (λ t g. no_more Empty t [] g refl)))

sign_has : (c : ℕ) → (c ≡ 43) ⊎ (c ≡ 45) → AtomHas sign c
sign_has c (inl e) = inl e
sign_has c (inr e) = inr (inl e)

offset_word : (text : List ℕ) → IsOffset text → Lang zoned text
offset_word [] o = (let s = o.sign in absurd (elim s [ inl e ↦ omega (arith, e) | inr e ↦ omega (arith, e) ]))
offset_word (c ∷ text) o =
    inr (one_word sign (digits (codes "2") (Piece (Character 58) Once (digits (codes "2") Empty))) c text (sign_has c o.sign)
    (subst (Lang (digits (codes "2") (Piece (Character 58) Once (digits (codes "2") Empty)))) (append-nil text) (hours_and_minutes text (forms (codes "dd:dd") text o.form))))

zone_word : (zone : List ℕ) → IsZone zone → Lang zone_tree zone
zone_word zone (inl none) = no_option zoned Empty zone none
zone_word zone (inr (inl z)) =
    subst (Lang zone_tree) (append-nil zone) (one_option zoned Empty zone [] (inl (subst (Lang (Piece (Character 90) Once Empty)) (sym z) (one_word (Character 90) Empty 90 [] refl refl))) refl)
zone_word zone (inr (inr o)) = subst (Lang zone_tree) (append-nil zone) (one_option zoned Empty zone [] (offset_word zone o) refl)

-- ---- fractions

fraction_word : (fraction zone : List ℕ) → IsFraction true fraction → IsZone zone → Lang (Group fraction_tree Optional zone_tree) (fraction ++ zone)
fraction_word fraction zone (inl none) z =
    subst (λ f. Lang (Group fraction_tree Optional zone_tree) (f ++ zone)) (sym none) (no_option fraction_tree zone_tree zone (zone_word zone z))
fraction_word fraction zone (inr (ds, all, least, most, e)) z =
    let word : Lang fraction_tree (46 ∷ ds) =
    one_word (Escape 46) (Piece digit (Between (codes "1") (codes "9")) Empty) 46 ds refl
    (ds, [], sym (append-nil ds), (length ds, (least, most), repeats digit ds (all_digits ds all)), refl) in
    subst (λ f. Lang (Group fraction_tree Optional zone_tree) (f ++ zone)) (sym e) (one_option fraction_tree zone_tree (46 ∷ ds) zone word (zone_word zone z))

-- ---- the time of a day

first_of_form : (p : ℕ) (form text : List ℕ) → Forms (p ∷ form) text → (c : ℕ) × (more : List ℕ) × (text ≡ c ∷ more) × FitsPlace p c × Forms form more
first_of_form p form [] f = absurd f
first_of_form p form (c ∷ text) f = (c, text, refl, f.0, f.1)

-- the eight characters of a time
record Clock (text : List ℕ) : Type 0 where
  a : ℕ
  b : ℕ
  c : ℕ
  d : ℕ
  e : ℕ
  f : ℕ
  text_is : text ≡ a ∷ b ∷ 58 ∷ c ∷ d ∷ 58 ∷ e ∷ f ∷ []
  is_a : (48 ≤ a) × (a ≤ 57)
  is_b : (48 ≤ b) × (b ≤ 57)
  is_c : (48 ≤ c) × (c ≤ 57)
  is_d : (48 ≤ d) × (d ≤ 57)
  is_e : (48 ≤ e) × (e ≤ 57)
  is_f : (48 ≤ f) × (f ≤ 57)

pub nothing_left : (text : List ℕ) → Forms [] text → text ≡ []
nothing_left [] f = refl
nothing_left (c ∷ text) f = absurd f

clock : (text : List ℕ) → Forms (codes "dd:dd:dd") text → Clock text
clock text f =
    let r0 = first_of_form 100 (codes "d:dd:dd") text f in
    let r1 = first_of_form 100 (codes ":dd:dd") r0.1 r0.4 in
    let r2 = first_of_form 58 (codes "dd:dd") r1.1 r1.4 in
    let r3 = first_of_form 100 (codes "d:dd") r2.1 r2.4 in
    let r4 = first_of_form 100 (codes ":dd") r3.1 r3.4 in
    let r5 = first_of_form 58 (codes "dd") r4.1 r4.4 in
    let r6 = first_of_form 100 (codes "d") r5.1 r5.4 in
    let r7 = first_of_form 100 [] r6.1 r6.4 in
    let other : 58 ≢ 100 = λ x. absurd (omega (arith, x)) in
    let s2 : r2.0 ≡ 58 = is_char 58 r2.0 other r2.3 in
    let s5 : r5.0 ≡ 58 = is_char 58 r5.0 other r5.3 in
    let t7 : r6.1 ≡ r7.0 ∷ [] = r7.2 ∙ ap (λ t. r7.0 ∷ t) (nothing_left r7.1 r7.4) in
    let t6 : r5.1 ≡ r6.0 ∷ r7.0 ∷ [] = r6.2 ∙ ap (λ t. r6.0 ∷ t) t7 in
    let t5 : r4.1 ≡ 58 ∷ r6.0 ∷ r7.0 ∷ [] = r5.2 ∙ ap₂ (λ x t. x ∷ t) s5 t6 in
    let t4 : r3.1 ≡ r4.0 ∷ 58 ∷ r6.0 ∷ r7.0 ∷ [] = r4.2 ∙ ap (λ t. r4.0 ∷ t) t5 in
    let t3 : r2.1 ≡ r3.0 ∷ r4.0 ∷ 58 ∷ r6.0 ∷ r7.0 ∷ [] = r3.2 ∙ ap (λ t. r3.0 ∷ t) t4 in
    let t2 : r1.1 ≡ 58 ∷ r3.0 ∷ r4.0 ∷ 58 ∷ r6.0 ∷ r7.0 ∷ [] = r2.2 ∙ ap₂ (λ x t. x ∷ t) s2 t3 in
    let t1 : r0.1 ≡ r1.0 ∷ 58 ∷ r3.0 ∷ r4.0 ∷ 58 ∷ r6.0 ∷ r7.0 ∷ [] = r1.2 ∙ ap (λ t. r1.0 ∷ t) t2 in
    record {
      a = r0.0;
      b = r1.0;
      c = r3.0;
      d = r4.0;
      e = r6.0;
      f = r7.0;
      text_is = r0.2 ∙ ap (λ t. r0.0 ∷ t) t1;
      is_a = is_digit r0.0 r0.3;
      is_b = is_digit r1.0 r1.3;
      is_c = is_digit r3.0 r3.3;
      is_d = is_digit r4.0 r4.3;
      is_e = is_digit r6.0 r6.3;
      is_f = is_digit r7.0 r7.3;
    }

hours_word : (a b : ℕ) → (48 ≤ a) × (a ≤ 57) → (48 ≤ b) × (b ≤ 57) → (a - 48) * 10 + (b - 48) < 24 → Lang hours (a ∷ b ∷ [])
hours_word a b is_a is_b lt = elim choose [
  | inl low ↦ inl (one_word to_one (Piece digit Once Empty) a (b ∷ []) (few low) (one_word digit Empty b [] (digit_has b is_b) refl))
  | inr high ↦ inr (one_word (Character 50) (Piece to_three Once Empty) a (b ∷ []) high.0 (one_word to_three Empty b [] (inl (is_b.0, high.1)) refl))
]
  where
    choose : (a ≤ 49) ⊎ ((a ≡ 50) × (b ≤ 51))
    choose = grind (arith, is_a, is_b, lt)

    few : a ≤ 49 → AtomHas to_one a
    few low = grind (arith, is_a, low)

five_has : (a b : ℕ) → (48 ≤ a) × (a ≤ 57) → (48 ≤ b) × (b ≤ 57) → (a - 48) * 10 + (b - 48) < 60 → AtomHas to_five a
five_has a b is_a is_b lt = inl (is_a.0, (let low = is_b.0 in let x = is_a.0 in omega (arith, lt, low, x)))

clock_word : (text v : List ℕ) → Forms (codes "dd:dd:dd") text → IsClock text 0 → Lang (Group fraction_tree Optional zone_tree) v → Lang time_tree (text ++ v)
clock_word text v f is l =
    let k = clock text f in
    let now : IsClock (k.a ∷ k.b ∷ 58 ∷ k.c ∷ k.d ∷ 58 ∷ k.e ∷ k.f ∷ []) 0 = subst (λ t. IsClock t 0) k.text_is is in
    let rest = Group fraction_tree Optional zone_tree in
    let s2 = one_word digit rest k.f v (digit_has k.f k.is_f) l in
    let s1 = one_word to_five (Piece digit Once rest) k.e (k.f ∷ v) (five_has k.e k.f k.is_e k.is_f now.2) s2 in
    let s0 = one_word (Character 58) (Piece to_five Once (Piece digit Once rest)) 58 (k.e ∷ k.f ∷ v) refl s1 in
    let m2 = one_word digit (Piece (Character 58) Once (Piece to_five Once (Piece digit Once rest))) k.d (58 ∷ k.e ∷ k.f ∷ v) (digit_has k.d k.is_d) s0 in
    let m1 = one_word to_five (Piece digit Once (Piece (Character 58) Once (Piece to_five Once (Piece digit Once rest)))) k.c (k.d ∷ 58 ∷ k.e ∷ k.f ∷ v) (five_has k.c k.d k.is_c k.is_d now.1) m2 in
    let m0 = one_word (Character 58) (Piece to_five Once (Piece digit Once (Piece (Character 58) Once (Piece to_five Once (Piece digit Once rest))))) 58 (k.c ∷ k.d ∷ 58 ∷ k.e ∷ k.f ∷ v) refl m1 in
    let whole : Lang time_tree (k.a ∷ k.b ∷ 58 ∷ k.c ∷ k.d ∷ 58 ∷ k.e ∷ k.f ∷ v) =
    one_group hours (Piece (Character 58) Once (Piece to_five Once (Piece digit Once (Piece (Character 58) Once (Piece to_five Once (Piece digit Once rest))))))
    (k.a ∷ k.b ∷ []) (58 ∷ k.c ∷ k.d ∷ 58 ∷ k.e ∷ k.f ∷ v) (hours_word k.a k.b k.is_a k.is_b now.0) m0 in
    subst (λ t. Lang time_tree (t ++ v)) (sym k.text_is) whole

-- ---- whole texts

day_word : (rest : Expression) (text v : List ℕ) (form : List ℕ) → Forms (codes "dddd-dd-dd" ++ form) text → ((more : List ℕ) → Forms form more → Lang rest (more ++ v)) → Lang (day_tree rest) (text ++ v)
day_word rest text v form f k =
    let hyphen : 45 ≢ 100 = λ x. absurd (omega (arith, x)) in
    digits_word 4 (codes "4") (codes "-dd-dd" ++ form) (Piece (Character 45) Once (digits (codes "2") (Piece (Character 45) Once (digits (codes "2") rest)))) text v refl f
    (λ t g. char_word 45 (codes "dd-dd" ++ form) (digits (codes "2") (Piece (Character 45) Once (digits (codes "2") rest))) t v hyphen g
    (λ t g. digits_word 2 (codes "2") (codes "-dd" ++ form) (Piece (Character 45) Once (digits (codes "2") rest)) t v refl g
    (λ t g. char_word 45 (codes "dd" ++ form) (digits (codes "2") rest) t v hyphen g
    (λ t g. digits_word 2 (codes "2") form rest t v refl g k))))

-- where a form goes on, its text does
pub forms_split : (form more text : List ℕ) → Forms (form ++ more) text → (a : List ℕ) × (b : List ℕ) × (text ≡ a ++ b) × (length a ≡ length form) × Forms form a × Forms more b
forms_split [] more text f = ([], text, refl, refl, tt, f)
forms_split (p ∷ form) more [] f = absurd f
forms_split (p ∷ form) more (c ∷ text) f =
    let r = forms_split form more text f.1 in
    (c ∷ r.0, r.1, ap (λ t. c ∷ t) r.2, ap suc r.3, (f.0, r.4), r.5)

-- two digits behind a date and its `T`
two_behind : (a b : List ℕ) (k i : ℕ) → length a ≡ 11 → 11 + k ≡ i → two_at (a ++ b) i ≡ two_at b k
two_behind a b k i len e =
    let at : (k i : ℕ) → 11 + k ≡ i → get_or (a ++ b) i 0 ≡ get_or b k 0 =
    λ k i e. get_or-append_right a b 11 i 0 len (omega (arith, e)) ∙ ap (λ j. get_or b j 0) (let z : i - 11 ≡ k = omega (arith, e) in z) in
    ap₂ (λ x y. (x - 48) * 10 + (y - 48)) (at k i e) (at (k + 1) (i + 1) (omega (arith, e)))

pub clock_behind : (a b : List ℕ) → length a ≡ 11 → IsClock (a ++ b) 11 → IsClock b 0
clock_behind a b len h =
    (subst (λ x. x < 24) (two_behind a b 0 11 len refl) h.0, subst (λ x. x < 60) (two_behind a b 3 14 len refl) h.1, subst (λ x. x < 60) (two_behind a b 6 17 len refl) h.2)

pub behind_clock : (a b : List ℕ) → length a ≡ 11 → IsClock b 0 → IsClock (a ++ b) 11
behind_clock a b len h =
    (subst (λ x. x < 24) (sym (two_behind a b 0 11 len refl)) h.0, subst (λ x. x < 60) (sym (two_behind a b 3 14 len refl)) h.1, subst (λ x. x < 60) (sym (two_behind a b 6 17 len refl)) h.2)

date_matches : (fixed zone : List ℕ) → HasForm (form_of kind.Date) fixed → IsZone zone → Lang (day_tree zone_tree) (fixed ++ zone)
date_matches fixed zone form z =
    day_word zone_tree fixed zone [] (forms (codes "dddd-dd-dd") fixed form) (λ t g. no_more zone_tree t zone g (zone_word zone z))

date_time_matches : (fixed more : List ℕ) → HasForm (form_of kind.DateTime) fixed → IsClock fixed 11 → Lang (Group fraction_tree Optional zone_tree) more
    → Lang (day_tree (Piece (Character 84) Once time_tree)) (fixed ++ more)
date_time_matches fixed more form is l =
    let f = forms (codes "dddd-dd-ddTdd:dd:dd") fixed form in
    let r = forms_split (codes "dddd-dd-ddT") (codes "dd:dd:dd") fixed f in
    let a = r.0 in
    let b = r.1 in
    let here : IsClock b 0 = clock_behind a b r.3 (subst (λ t. IsClock t 11) r.2 is) in
    let late : Lang time_tree (b ++ more) = clock_word b more r.5 here l in
    let whole : Lang (day_tree (Piece (Character 84) Once time_tree)) (a ++ (b ++ more)) =
    day_word (Piece (Character 84) Once time_tree) a (b ++ more) (codes "T") r.4
    (λ t g. char_word 84 [] time_tree t (b ++ more) (λ x. absurd (omega (arith, x))) g (λ t g. no_more time_tree t (b ++ more) g late)) in
    subst (Lang (day_tree (Piece (Character 84) Once time_tree))) (sym (append_assoc a b more) ∙ ap (λ t. t ++ more) (sym r.2)) whole

year_matches : (rest : Expression) (form fixed v : List ℕ) → Forms (codes "dddd" ++ form) fixed → ((more : List ℕ) → Forms form more → Lang rest (more ++ v)) → Lang (digits (codes "4") rest) (fixed ++ v)
year_matches rest form fixed v f k = digits_word 4 (codes "4") form rest fixed v refl f k

month_word : (rest : Expression) (form fixed v : List ℕ) → Forms (codes "-dd" ++ form) fixed → ((more : List ℕ) → Forms form more → Lang rest (more ++ v))
    → Lang (Piece (Character 45) Once (digits (codes "2") rest)) (fixed ++ v)
month_word rest form fixed v f k =
    char_word 45 (codes "dd" ++ form) (digits (codes "2") rest) fixed v (λ x. absurd (omega (arith, x))) f (λ t g. digits_word 2 (codes "2") form rest t v refl g k)

hyphen_word : (rest : Expression) (form fixed v : List ℕ) → Forms (45 ∷ form) fixed → ((more : List ℕ) → Forms form more → Lang rest (more ++ v)) → Lang (Piece (Character 45) Once rest) (fixed ++ v)
hyphen_word rest form fixed v f k = char_word 45 form rest fixed v (λ x. absurd (omega (arith, x))) f k

zone_end : (zone : List ℕ) → IsZone zone → (more : List ℕ) → Forms [] more → Lang zone_tree (more ++ zone)
zone_end zone z more f = no_more zone_tree more zone f (zone_word zone z)

-- of a kind without seconds the zone stands behind the fixed part
pub no_seconds : (text fixed fraction zone : List ℕ) → text ≡ fixed ++ (fraction ++ zone) → fraction ≡ [] → text ≡ fixed ++ zone
no_seconds text fixed fraction zone e none = e ∙ ap (λ f. fixed ++ (f ++ zone)) none

in_tree : (k : Kind) (text : List ℕ) → IsDateText k text → Lang (tree_of k) text
in_tree kind.Date text (fixed, fraction, zone, e, form, parts, f, z) =
    subst (Lang (day_tree zone_tree)) (sym (no_seconds text fixed fraction zone e f)) (date_matches fixed zone form z)
in_tree kind.DateTime text (fixed, fraction, zone, e, form, parts, f, z) =
    subst (Lang (day_tree (Piece (Character 84) Once time_tree))) (sym e) (date_time_matches fixed (fraction ++ zone) form parts.1 (fraction_word fraction zone f z))
in_tree kind.Time text (fixed, fraction, zone, e, form, parts, f, z) =
    subst (Lang time_tree) (sym e) (clock_word fixed (fraction ++ zone) (forms (codes "dd:dd:dd") fixed form) parts (fraction_word fraction zone f z))
in_tree kind.Year text (fixed, fraction, zone, e, form, parts, f, z) =
    subst (Lang (digits (codes "4") zone_tree)) (sym (no_seconds text fixed fraction zone e f)) (year_matches zone_tree [] fixed zone (forms (codes "dddd") fixed form) (zone_end zone z))
in_tree kind.YearMonth text (fixed, fraction, zone, e, form, parts, f, z) =
    let month = month_tree zone_tree in
    subst (Lang (digits (codes "4") month)) (sym (no_seconds text fixed fraction zone e f))
    (year_matches month (codes "-dd") fixed zone (forms (codes "dddd-dd") fixed form) (λ t g. month_word zone_tree [] t zone g (zone_end zone z)))
in_tree kind.MonthDay text (fixed, fraction, zone, e, form, parts, f, z) =
    let day = month_tree zone_tree in
    let month = month_tree day in
    subst (Lang (Piece (Character 45) Once month)) (sym (no_seconds text fixed fraction zone e f))
    (hyphen_word month (codes "-dd-dd") fixed zone (forms (codes "--dd-dd") fixed form)
    (λ t g. month_word day (codes "-dd") t zone g (λ t g. month_word zone_tree [] t zone g (zone_end zone z))))
in_tree kind.Month text (fixed, fraction, zone, e, form, parts, f, z) =
    let month = month_tree zone_tree in
    subst (Lang (Piece (Character 45) Once month)) (sym (no_seconds text fixed fraction zone e f))
    (hyphen_word month (codes "-dd") fixed zone (forms (codes "--dd") fixed form) (λ t g. month_word zone_tree [] t zone g (zone_end zone z)))
in_tree kind.Day text (fixed, fraction, zone, e, form, parts, f, z) =
    let day = month_tree zone_tree in
    let second = Piece (Character 45) Once day in
    subst (Lang (Piece (Character 45) Once second)) (sym (no_seconds text fixed fraction zone e f))
    (hyphen_word second (codes "--dd") fixed zone (forms (codes "---dd") fixed form)
    (λ t g. hyphen_word day (codes "-dd") t zone g (λ t g. month_word zone_tree [] t zone g (zone_end zone z))))
in_tree kind.Text text (fixed, fraction, zone, e, form, parts, f, z) = absurd parts
in_tree kind.Decimal text (fixed, fraction, zone, e, form, parts, f, z) = absurd parts
in_tree kind.Boolean text (fixed, fraction, zone, e, form, parts, f, z) = absurd parts
in_tree kind.Binary text (fixed, fraction, zone, e, form, parts, f, z) = absurd parts
in_tree kind.Envelope text (fixed, fraction, zone, e, form, parts, f, z) = absurd parts

pub in_profile : (k : Kind) (text : List ℕ) → IsDateText k text → Matches (chars (profile_pattern k)) text
in_profile k text h = (tree_of k, tree_is k, in_tree k text h)
