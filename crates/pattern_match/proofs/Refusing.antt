-- Where the reading of a text stops is where it is refused.
use Rattle.std.proofs.Common.{◌≡◌, ℕ, zero, suc, ◌+◌, ◌-◌, ◌*◌, ◌/◌, ◌≤◌, ◌<◌, ◌⊎◌, inl, inr, Bool, true, false, cond, ◌==◌, nat_le, nat_lt, Option, Some, None, List, [], ◌∷◌, ◌++◌, length, refl, sym, ap, ◌∙◌, subst, ⊎_elim, arith, le-leb, leb-true, lt-ltb, le-ltb, ltb-false, le_refl, mul-le-mul, mul_assoc, lit≤, ltb-true, append-nil, take, drop, take-append-drop, take_all, true≢false}
use Rattle.std.proofs.lemmas.Bool.{cond_both, cases_lt}
use Rattle.pattern_match.specs.Expression.{Plain, One}
use Rattle.pattern_match.specs.Spelling.{spelling}
use Rattle.pattern_match.specs.Valid.{escaped_letter}
use Rattle.pattern_match.specs.Character.{outside, within, in_number, behind_backslash}
use Rattle.pattern_match.specs.Control.{whole_weight, outside_next, atom_next, escape_next, least_next, most_next, class_first_next, class_item_next, class_single_next, class_dash_next, class_end_next, class_escape_next, range_escape_next, next_control, depth_after, reading, joined_reading, next_reading, step_from, run_reading, may_end}
use Rattle.pattern_match.specs.declared.character.Outside.{Outside}
use Rattle.pattern_match.specs.declared.character.Outside.TheVariants.{Ordinary, Dot as DotOutside, Backslash, OpenClass, OpenGroup, CloseGroup, Bar, Optional as OptionalOutside, AnyNumber as AnyNumberOutside, OneOrMore as OneOrMoreOutside, OpenBounds, Stray}
use Rattle.pattern_match.specs.declared.character.Within.{Within}
use Rattle.pattern_match.specs.declared.character.Within.TheVariants.{Plain as PlainWithin, Backslash as BackslashWithin, Hyphen as HyphenWithin, CloseClass, Stray as StrayWithin}
use Rattle.pattern_match.specs.declared.character.InNumber.{InNumber}
use Rattle.pattern_match.specs.declared.character.InNumber.TheVariants.{Digit, Comma, CloseBounds, Stray as StrayInNumber}
use Rattle.pattern_match.specs.declared.character.BehindBackslash.{BehindBackslash}
use Rattle.pattern_match.specs.declared.character.BehindBackslash.TheVariants.{Space as SpaceBehind, Letter, Stray as StrayBehind}
use Rattle.pattern_match.specs.declared.control.Control.{Control}
use Rattle.pattern_match.specs.declared.control.Control.TheVariants.{Start, Atom as InAtom, Escape as InEscape, Least, Most, ClassStart as InClassStart, ClassNegated, ClassItem, ClassSingle, ClassDash, ClassEscape, RangeEscape, ClassEnd}
use Rattle.pattern_match.specs.declared.control.Reading.{Reading}
use Rattle.pattern_match.specs.declared.token.Token.{Token}
use Rattle.pattern_match.specs.declared.token.Token.TheVariants.{Member, Times}
use Rattle.pattern_match.proofs.CharacterLemmas.{NumberTells, number_tells}
use Rattle.pattern_match.proofs.ControlLemmas.{room_digit}
use Rattle.pattern_match.proofs.Leading.{Leads, then, one, IsPlainAt, outside_one, items_lead, negated_lead, start_lead, letter_after, letter_outside, least_digits, exact_close, most_close, tree_lead}
use Rattle.pattern_match.proofs.Finding.{Accepted, none_run, found, room_full}
use Rattle.pattern_match.specs.Control.{HasRoomForDigits}
use Rattle.pattern_match.specs.Reading.{IsPattern, PatternGoesOn, IsRefusedAt}
use Rattle.pattern_match.specs.inner.Refusal.{start, refusal_place, refused_from}

-- a power of ten
abbrev IsTen : ℕ → ℕ → Type 0
IsTen zero weight = weight ≡ 1
IsTen (suc j) weight = (weight ≡ 10 * (weight / 10)) × IsTen j (weight / 10)

abbrev IsWeight : ℕ → Type 0
IsWeight weight = (j : ℕ) × IsTen j weight

full_is_weight : IsWeight whole_weight
full_is_weight = (9, (refl, (refl, (refl, (refl, (refl, (refl, (refl, (refl, (refl, refl))))))))))

ten_positive : (j weight : ℕ) → IsTen j weight → 1 ≤ weight
ten_positive zero weight h = omega arith
ten_positive (suc j) weight h = let x = ten_positive j (weight / 10) h.1 in let e = h.0 in omega arith

tenth : (weight : ℕ) → 10 ≤ weight → IsWeight weight → IsWeight (weight / 10) × (weight ≡ 10 * (weight / 10))
tenth weight l (zero, h) = absurd (omega arith)
tenth weight l (suc j, h) = ((j, h.1), h.0)

-- some characters lead on to where a pattern may end
abbrev Live : Control → Type 0
Live (Least weight value) = IsWeight weight × HasRoomForDigits weight value
Live (Most least weight value) = IsWeight weight × (least < (value + 1) * weight)
Live (RangeEscape low) = low ≤ 125
Live k = Unit {0}

abbrev LiveIf : Option Control → Type 0
LiveIf None = Unit {0}
LiveIf (Some k) = Live k

outside_live : (m : Outside) → LiveIf (outside_next m)
outside_live Ordinary = tt
outside_live DotOutside = tt
outside_live CloseGroup = tt
outside_live Backslash = tt
outside_live OpenClass = tt
outside_live OpenGroup = tt
outside_live Bar = tt
outside_live OptionalOutside = tt
outside_live AnyNumberOutside = tt
outside_live OneOrMoreOutside = tt
outside_live OpenBounds = tt
outside_live Stray = tt

full_live : Live (Least whole_weight 0)
full_live = (full_is_weight, lit≤ tt)

atom_live : (m : Outside) → LiveIf (atom_next m)
atom_live Ordinary = tt
atom_live DotOutside = tt
atom_live CloseGroup = tt
atom_live Backslash = tt
atom_live OpenClass = tt
atom_live OpenGroup = tt
atom_live Bar = tt
atom_live OptionalOutside = tt
atom_live AnyNumberOutside = tt
atom_live OneOrMoreOutside = tt
atom_live OpenBounds = full_live
atom_live Stray = tt

escape_live : (m : BehindBackslash) → LiveIf (escape_next m)
escape_live SpaceBehind = tt
escape_live Letter = tt
escape_live StrayBehind = tt

comma_live : (weight value : ℕ) → Live (Least weight value) → Live (Most value whole_weight 0)
comma_live weight value (w, h) = (
  full_is_weight,
  let p = ten_positive w.0 weight w.1 in
      let a : (value + 1) * 1 ≤ (value + 1) * weight = mul-le-mul (le_refl (value + 1)) p in
      omega arith,
)

least_live : (weight value c : ℕ) → Live (Least weight value) → (m : InNumber) → NumberTells c m → LiveIf (least_next weight value m)
least_live weight value c h (Digit digit) t =
    cond_both (nat_lt weight 10) None (Some (Least (weight / 10) (10 * value + digit))) LiveIf (λ b. tt)
    (λ b. let l = ltb-false weight 10 b in ((tenth weight l h.0).0, room_digit weight value digit (let z = t.0.1 in let u = t.1 in omega arith) l h.1))
least_live weight value c h CloseBounds t = cond_both (nat_lt weight whole_weight) (Some Start) None LiveIf (λ b. tt) (λ b. tt)
least_live weight value c h Comma t = cond_both (nat_lt weight whole_weight) (Some (Most value whole_weight 0)) None LiveIf (λ b. comma_live weight value h) (λ b. tt)
least_live weight value c h StrayInNumber t = tt

most_live : (least weight value : ℕ) → Live (Most least weight value) → (m : InNumber) → LiveIf (most_next least weight value m)
most_live least weight value h (Digit digit) =
    cond_both (nat_lt weight 10) None (cond (nat_lt least ((10 * value + digit + 1) * (weight / 10))) (Some (Most least (weight / 10) (10 * value + digit))) None) LiveIf (λ b. tt)
    (λ b. cond_both (nat_lt least ((10 * value + digit + 1) * (weight / 10))) (Some (Most least (weight / 10) (10 * value + digit))) None LiveIf
    (λ g. ((tenth weight (ltb-false weight 10 b) h.0).0, ltb-true least ((10 * value + digit + 1) * (weight / 10)) g)) (λ g. tt))
most_live least weight value h CloseBounds =
    cond_both (weight == whole_weight) (Some Start) (cond (nat_le least value) (Some Start) None) LiveIf (λ b. tt)
    (λ b. cond_both (nat_le least value) (Some Start) None LiveIf (λ g. tt) (λ g. tt))
most_live least weight value h Comma = tt
most_live least weight value h StrayInNumber = tt

first_live : (m : Within) (c : ℕ) → LiveIf (class_first_next m c)
first_live PlainWithin c = tt
first_live BackslashWithin c = tt
first_live HyphenWithin c = tt
first_live CloseClass c = tt
first_live StrayWithin c = tt

item_live : (m : Within) (c : ℕ) → LiveIf (class_item_next m c)
item_live PlainWithin c = tt
item_live BackslashWithin c = tt
item_live HyphenWithin c = tt
item_live CloseClass c = tt
item_live StrayWithin c = tt

single_live : (low : ℕ) (m : Within) (c : ℕ) → LiveIf (class_single_next low m c)
single_live low PlainWithin c = tt
single_live low BackslashWithin c = tt
single_live low HyphenWithin c = tt
single_live low CloseClass c = tt
single_live low StrayWithin c = tt

dash_live : (low : ℕ) (m : Within) (c : ℕ) → LiveIf (class_dash_next low m c)
dash_live low PlainWithin c = cond_both (nat_le low c) (Some ClassItem) None LiveIf (λ b. tt) (λ b. tt)
dash_live low BackslashWithin c = cond_both (nat_le low 125) (Some (RangeEscape low)) None LiveIf (λ b. leb-true low 125 b) (λ b. tt)
dash_live low HyphenWithin c = tt
dash_live low CloseClass c = tt
dash_live low StrayWithin c = tt

end_live : (m : Within) → LiveIf (class_end_next m)
end_live PlainWithin = tt
end_live BackslashWithin = tt
end_live HyphenWithin = tt
end_live CloseClass = tt
end_live StrayWithin = tt

class_escape_live : (m : BehindBackslash) (c : ℕ) → LiveIf (class_escape_next m c)
class_escape_live SpaceBehind c = tt
class_escape_live Letter c = tt
class_escape_live StrayBehind c = tt

range_escape_live : (low : ℕ) (m : BehindBackslash) (c : ℕ) → LiveIf (range_escape_next low m c)
range_escape_live low SpaceBehind c = tt
range_escape_live low Letter c = cond_both (nat_le low (escaped_letter c)) (Some ClassItem) None LiveIf (λ b. tt) (λ b. tt)
range_escape_live low StrayBehind c = tt

next_live : (k : Control) (c : ℕ) → Live k → LiveIf (next_control k c)
next_live Start c h = outside_live (outside c)
next_live InAtom c h = atom_live (outside c)
next_live InEscape c h = escape_live (behind_backslash c)
next_live (Least weight value) c h = least_live weight value c h (in_number c) (number_tells c)
next_live (Most least weight value) c h = most_live least weight value h (in_number c)
next_live InClassStart c h = cond_both (c == 94) (Some ClassNegated) (class_first_next (within c) c) LiveIf (λ b. tt) (λ b. first_live (within c) c)
next_live ClassNegated c h = first_live (within c) c
next_live ClassItem c h = item_live (within c) c
next_live (ClassSingle low) c h = single_live low (within c) c
next_live (ClassDash low) c h = dash_live low (within c) c
next_live ClassEscape c h = class_escape_live (behind_backslash c) c
next_live (RangeEscape low) c h = range_escape_live low (behind_backslash c) c
next_live ClassEnd c h = end_live (within c)

abbrev LiveAt : Option Reading → Type 0
LiveAt None = Unit {0}
LiveAt (Some r) = Live r.control

joined_live : (k : Option Control) (d : Option ℕ) → LiveIf k → LiveAt (joined_reading k d)
joined_live None d h = tt
joined_live (Some k) None h = tt
joined_live (Some k) (Some d) h = h

step_live : (o : Option Reading) (c : ℕ) → LiveAt o → LiveAt (step_from o c)
step_live None c h = tt
step_live (Some r) c h = joined_live (next_control r.control c) (depth_after r.control c r.depth) (next_live r.control c h)

run_live : (cs : List ℕ) (o : Option Reading) → LiveAt o → LiveAt (run_reading o cs)
run_live [] o h = h
run_live (c ∷ cs) o h = run_live cs (step_from o c) (step_live o c h)

-- how a reading is led to an end
by_lead : {r after : Reading} {cs more : List ℕ} {F : List Token → List Token} → Leads r cs F after more → Accepted (Some after) more → Accepted (Some r) cs
by_lead l (e, s, m) = (e, l.runs ∙ s, m)

closers : ℕ → List ℕ
closers zero = []
closers (suc d) = 41 ∷ closers d

closed : (d : ℕ) (k : Control) → IsPlainAt k → Accepted (Some (reading k d)) (closers d)
unfolding closers
closed zero k (inl p) = (reading k 0, refl, ap (λ x. may_end (reading x 0)) p)
closed zero k (inr p) = (reading k 0, refl, ap (λ x. may_end (reading x 0)) p)
closed (suc d) k p = by_lead (outside_one k InAtom (suc d) d 41 (closers d) CloseGroup p refl tt refl refl) (closed d InAtom (inr refl))

abbrev Completes : Control → ℕ → Type 0
Completes k d = (cs : List ℕ) × Accepted (Some (reading k d)) cs

by_atom : (k : Control) (d : ℕ) (cs : List ℕ) (F : List Token → List Token) → Leads (reading k d) cs F (reading InAtom d) (closers d) → Completes k d
by_atom k d cs F l = (cs, by_lead l (closed d InAtom (inr refl)))

by_start : (k : Control) (d : ℕ) (cs : List ℕ) (F : List Token → List Token) → Leads (reading k d) cs F (reading Start d) (closers d) → Completes k d
by_start k d cs F l = (cs, by_lead l (closed d Start (inl refl)))

-- nines complete a second bound
complete_most : (j least weight value d : ℕ) → IsTen j weight → least < (value + 1) * weight → Completes (Most least weight value) d
complete_most zero least weight value d w l =
    let e : (value + 1) * weight ≡ (value + 1) * 1 = ap (λ x. (value + 1) * x) w in
    by_start (Most least weight value) d (125 ∷ closers d) (λ x. Times least (Some value) ∷ x)
    (most_close least weight value d (closers d) (omega arith) (omega arith))
complete_most (suc j) least weight value d w l =
    let p = ten_positive j (weight / 10) w.1 in
    let e0 = w.0 in
    let b : nat_lt weight 10 ≡ false = le-ltb weight 10 (omega arith) in
    let a : (10 * value + 9 + 1) * (weight / 10) ≡ (value + 1) * 10 * (weight / 10) = ap (λ x. x * (weight / 10)) (let z : 10 * value + 9 + 1 ≡ (value + 1) * 10 = omega arith in z) in
    let m : (value + 1) * 10 * (weight / 10) ≡ (value + 1) * weight = mul_assoc (value + 1) 10 (weight / 10) ∙ ap (λ x. (value + 1) * x) (sym e0) in
    let q : least < (10 * value + 9 + 1) * (weight / 10) = subst (λ x. least < x) (sym (a ∙ m)) l in
    let g : nat_lt least ((10 * value + 9 + 1) * (weight / 10)) ≡ true = lt-ltb least ((10 * value + 9 + 1) * (weight / 10)) q in
    let more = complete_most j least (weight / 10) (10 * value + 9) d w.1 q in (
      57 ∷ more.0,
      by_lead (one (reading (Most least weight value) d) (reading (Most least (weight / 10) (10 * value + 9)) d) 57 more.0 []
          (ap (λ z. joined_reading (cond z None (cond (nat_lt least ((10 * value + 9 + 1) * (weight / 10))) (Some (Most least (weight / 10) (10 * value + 9))) None)) (Some d)) b
          ∙ ap (λ z. joined_reading (cond z (Some (Most least (weight / 10) (10 * value + 9))) None) (Some d)) g)
          (ap (λ z. cond z None (cond (nat_lt least ((10 * value + 9 + 1) * (weight / 10))) (Some (Most least (weight / 10) (10 * value + 9))) None)) b
          ∙ ap (λ z. cond z (Some (Most least (weight / 10) (10 * value + 9))) None) g)
          refl) more.1,
    )

complete_least : (weight value d : ℕ) → Live (Least weight value) → Completes (Least weight value) d
complete_least weight value d h = choose (cases_lt weight 10)
  where
    f : weight ≤ whole_weight
    f = room_full weight value h.1

    choose : (weight < 10) ⊎ (10 ≤ weight) → Completes (Least weight value) d
    choose (inl l) = by_start (Least weight value) d (125 ∷ closers d) (λ x. Times value (Some value) ∷ x) (exact_close weight value d (closers d) (omega arith))
    choose (inr l) =
        by_start (Least weight value) d (48 ∷ 125 ∷ closers d) (λ x. Times (10 * value + (48 - 48)) (Some (10 * value + (48 - 48))) ∷ x)
        (then (least_digits (48 ∷ []) weight value d (125 ∷ closers d) ((lit≤ tt, lit≤ tt), tt) (l, omega arith))
        (exact_close (weight / 10) (10 * value + (48 - 48)) d (closers d) (omega arith)))

complete : (k : Control) (d : ℕ) → Live k → Completes k d
complete Start d h = (closers d, closed d Start (inl refl))
complete InAtom d h = (closers d, closed d InAtom (inr refl))
complete InEscape d h = by_atom InEscape d (110 ∷ closers d) _ (letter_outside d 110 (closers d) refl)
complete (Least weight value) d h = complete_least weight value d h
complete (Most least weight value) d h = complete_most h.0.0 least weight value d h.0.1 h.1
complete InClassStart d h = by_atom InClassStart d (97 ∷ 93 ∷ closers d) _ (start_lead d (One (Plain 97) ∷ []) (closers d) ((inl (lit≤ tt, lit≤ tt), refl), (λ x. refl), tt))
complete ClassNegated d h = by_atom ClassNegated d (97 ∷ 93 ∷ closers d) _ (negated_lead true d (One (Plain 97) ∷ []) (closers d) ((inl (lit≤ tt, lit≤ tt), refl), (λ x. refl), tt))
complete ClassItem d h = by_atom ClassItem d (93 ∷ closers d) _ (items_lead [] ClassItem d (closers d) tt tt)
complete (ClassSingle low) d h = by_atom (ClassSingle low) d (93 ∷ closers d) _ (items_lead [] (ClassSingle low) d (closers d) tt tt)
complete (ClassDash low) d h =
    by_atom (ClassDash low) d (93 ∷ closers d) (λ x. Member 45 45 ∷ x) (one (reading (ClassDash low) d) (reading InAtom d) 93 (closers d) (Member 45 45 ∷ []) refl refl refl)
complete ClassEscape d h =
    by_atom ClassEscape d (110 ∷ 93 ∷ closers d) _ (then (letter_after d 110 (93 ∷ closers d) refl) (items_lead [] (ClassSingle 10) d (closers d) tt tt))
complete (RangeEscape low) d h =
    let t : nat_le low 125 ≡ true = le-leb low 125 h in
    by_atom (RangeEscape low) d (125 ∷ 93 ∷ closers d) _
    (then (one (reading (RangeEscape low) d) (reading ClassItem d) 125 (93 ∷ closers d) (Member low 125 ∷ [])
    (ap (λ z. joined_reading (cond z (Some ClassItem) None) (Some d)) t) (ap (λ z. cond z (Some ClassItem) None) t) refl)
    (items_lead [] ClassItem d (closers d) tt tt))
complete ClassEnd d h = by_atom ClassEnd d (93 ∷ closers d) (λ x. x) (one (reading ClassEnd d) (reading InAtom d) 93 (closers d) [] refl refl refl)

pub run_append : (xs ys : List ℕ) (o : Option Reading) → run_reading o (xs ++ ys) ≡ run_reading (run_reading o xs) ys
run_append [] ys o = refl
run_append (x ∷ xs) ys o = run_append xs ys (step_from o x)

-- what is accepted from the start is a pattern, and a pattern is accepted
pub accepted_pattern : (text : List ℕ) → Accepted (Some start) text → IsPattern text
accepted_pattern text a = let f = found text Start 0 tt a in (f.0, record { valid = f.1; spelled = sym f.2 })

pub pattern_run : (text : List ℕ) → IsPattern text → (k : Control) × IsPlainAt k × (run_reading (Some start) text ≡ Some (reading k 0))
pattern_run text (t, h) =
    let l = tree_lead t Start 0 [] (inl refl) h.valid in
    let e : spelling t ++ [] ≡ text = append-nil (spelling t) ∙ h.spelled in
    (l.0, l.1, subst (λ x. run_reading (Some start) x ≡ Some (reading l.0 0)) e l.2.runs)

plain_end : (k : Control) → IsPlainAt k → may_end (reading k 0) ≡ true
plain_end k (inl p) = ap (λ x. may_end (reading x 0)) p
plain_end k (inr p) = ap (λ x. may_end (reading x 0)) p

-- a front that is read goes on, and one that is not does not
live_goes : (front : List ℕ) (r : Reading) → run_reading (Some start) front ≡ Some r → PatternGoesOn front
live_goes front r e =
    let l : Live r.control = subst LiveAt e (run_live front (Some start) tt) in
    let c = complete r.control r.depth l in
    (c.0, accepted_pattern (front ++ c.0) (c.1.0, (run_append front c.0 (Some start) ∙ ap (λ o. run_reading o c.0) e ∙ c.1.1), c.1.2))

dead_stops : (front : List ℕ) → run_reading (Some start) front ≡ None → PatternGoesOn front → ⊥
dead_stops front e (rest, p) =
    let r = pattern_run (front ++ rest) p in
    let n : run_reading (Some start) (front ++ rest) ≡ None = run_append front rest (Some start) ∙ ap (λ o. run_reading o rest) e ∙ none_run rest in
    cc

-- where the reading of what is left stops
record Stopped (r : Reading) (cs : List ℕ) (k : ℕ) : Type 0 where
  within : k ≤ length cs
  at_place : (r2 : Reading) × (run_reading (Some r) (take k cs) ≡ Some r2) × (k ≡ length cs → may_end r2 ≡ false)
  behind : k < length cs → run_reading (Some r) (take (k + 1) cs) ≡ None

refused_accepts : (cs : List ℕ) (r : Reading) (n : ℕ) → refusal_place (Some r) n cs ≡ None → Accepted (Some r) cs
refused_accepts [] r n e = choose (may_end r) refl e
  where
    choose : (b : Bool) → may_end r ≡ b → cond b None (Some n) ≡ None → Accepted (Some r) []
    choose true m h = (r, refl, m)
    choose false m h = absurd (cc)
refused_accepts (c ∷ cs) r n e = choose (next_reading r c) refl e (λ r2. refused_accepts cs r2 (n + 1))
  where
    choose : (o : Option Reading) → next_reading r c ≡ o → refusal_place o (n + 1) cs ≡ None → ((r2 : Reading) → refusal_place (Some r2) (n + 1) cs ≡ None → Accepted (Some r2) cs)
        → Accepted (Some r) (c ∷ cs)
    choose None s h ih = absurd (cc)
    choose (Some r2) s h ih = let a = ih r2 h in (a.0, (ap (λ o. run_reading o cs) s ∙ a.1), a.2)

refused_stops : (cs : List ℕ) (r : Reading) (n p : ℕ) → refusal_place (Some r) n cs ≡ Some p → (k : ℕ) × (p ≡ n + k) × Stopped r cs k
refused_stops [] r n p e = choose (may_end r) refl e
  where
    choose : (b : Bool) → may_end r ≡ b → cond b None (Some n) ≡ Some p → (k : ℕ) × (p ≡ n + k) × Stopped r [] k
    choose true m h = absurd (cc)
    choose false m h =
        let e2 : n ≡ p = cc in
        (0, omega arith, record { within = omega arith; at_place = (r, refl, λ x. m); behind = λ x. absurd (omega arith) })
refused_stops (c ∷ cs) r n p e = choose (next_reading r c) refl e (λ r2. refused_stops cs r2 (n + 1) p)
  where
    choose : (o : Option Reading) → next_reading r c ≡ o → refusal_place o (n + 1) cs ≡ Some p → ((r2 : Reading) → refusal_place (Some r2) (n + 1) cs ≡ Some p → (k : ℕ) × (p ≡ n + 1 + k) × Stopped r2 cs k)
        → (k : ℕ) × (p ≡ n + k) × Stopped r (c ∷ cs) k
    choose None s h ih =
        let e2 : n + 1 - 1 ≡ p = cc in
        (0, omega arith, record { within = omega arith; at_place = (r, refl, λ x. absurd (omega arith)); behind = λ x. s })
    choose (Some r2) s h ih =
        let i = ih r2 h in
        let j = i.1 in
        let q : (r3 : Reading) × (run_reading (Some r2) (take i.0 cs) ≡ Some r3) × (i.0 ≡ length cs → may_end r3 ≡ false) = i.2.at_place in (
          suc i.0,
          omega arith,
          record {
            within = let w = i.2.within in omega arith;
            at_place = (q.0, (ap (λ o. run_reading o (take i.0 cs)) s ∙ q.1), λ x. q.2 (omega arith));
            behind = λ x.
                ap (λ m. run_reading (Some r) (take m (c ∷ cs))) (let z : suc i.0 + 1 ≡ suc (i.0 + 1) = omega arith in z)
                ∙ ap (λ o. run_reading o (take (i.0 + 1) cs)) s ∙ i.2.behind (omega arith);
          },
        )

-- where the whole is refused
pub refused_at : (text : List ℕ) (p : ℕ) → refused_from start 0 text ≡ Some p → IsRefusedAt text p
refused_at text p e =
    let s = refused_stops text start 0 p e in
    let z : s.0 ≡ p = let j = s.1 in omega arith in
    subst (IsRefusedAt text) z (record {
      none = λ q. none (pattern_run text q);
      within = s.2.within;
      before = live_goes (take s.0 text) s.2.at_place.0 s.2.at_place.1;
      after = λ l. dead_stops (take (s.0 + 1) text) (s.2.behind l);
    })
  where
    s : (k : ℕ) × (p ≡ 0 + k) × Stopped start text k
    s = refused_stops text start 0 p e

    none : (k : Control) × IsPlainAt k × (run_reading (Some start) text ≡ Some (reading k 0)) → ⊥
    none (k, pl, r) = ⊎_elim inside whole (cases_lt s.0 (length text))
      where
        inside : s.0 < length text → ⊥
        inside l =
            let t : text ≡ take (s.0 + 1) text ++ drop (s.0 + 1) text = sym (take-append-drop (s.0 + 1) text) in
            let n : run_reading (Some start) text ≡ None = ap (λ x. run_reading (Some start) x) t ∙ run_append (take (s.0 + 1) text) (drop (s.0 + 1) text) (Some start)
            ∙ ap (λ o. run_reading o (drop (s.0 + 1) text)) (s.2.behind l) ∙ none_run (drop (s.0 + 1) text) in
            cc

        whole : length text ≤ s.0 → ⊥
        whole l =
            let w = s.2.within in
            let k2 : s.0 ≡ length text = omega arith in
            let t : take s.0 text ≡ text = take_all s.0 text l in
            let q = s.2.at_place in
            let e2 : Some q.0 ≡ Some (reading k 0) = sym q.1 ∙ ap (λ x. run_reading (Some start) x) t ∙ r in
            let e3 : q.0 ≡ reading k 0 = cc in
            let f : may_end q.0 ≡ false = q.2 k2 in
            let g : may_end q.0 ≡ true = ap may_end e3 ∙ plain_end k pl in
            true≢false (sym g ∙ f)

pub not_refused : (text : List ℕ) → refused_from start 0 text ≡ None → IsPattern text
not_refused text e = accepted_pattern text (refused_accepts text start 0 e)
