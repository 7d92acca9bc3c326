-- What a step of the reading keeps.
use Rattle.std.proofs.Common.{◌≡◌, ℕ, zero, suc, ◌+◌, ◌-◌, ◌*◌, ◌/◌, ◌≤◌, cond, ◌==◌, nat_le, nat_lt, Option, Some, None, sym, subst, arith, le_trans, mul-le-mul, mul_assoc, le_refl, ltb-false}
use Rattle.std.proofs.lemmas.Bool.{cond_both}
use Rattle.pattern_match.specs.Valid.{IsDigit, escaped_letter}
use Rattle.pattern_match.specs.Character.{outside, within, in_number, behind_backslash}
use Rattle.pattern_match.specs.Control.{whole_weight, outside_next, atom_next, escape_next, least_next, most_next, class_first_next, class_item_next, class_single_next, class_dash_next, class_end_next, class_escape_next, range_escape_next, next_control, depth_outside, depth_after, joined_reading, next_reading, HasRoomForDigits, IsSoundControl}
use Rattle.pattern_match.specs.declared.character.Outside.{Outside}
use Rattle.pattern_match.specs.declared.character.Outside.TheVariants.{Ordinary, Dot, Backslash, OpenClass, OpenGroup, CloseGroup, Bar, Optional, AnyNumber, OneOrMore, OpenBounds, Stray}
use Rattle.pattern_match.specs.declared.character.Within.{Within}
use Rattle.pattern_match.specs.declared.character.Within.TheVariants.{Plain, Backslash as BackslashWithin, Hyphen, CloseClass, Stray as StrayWithin}
use Rattle.pattern_match.specs.declared.character.InNumber.{InNumber}
use Rattle.pattern_match.specs.declared.character.InNumber.TheVariants.{Digit, Comma, CloseBounds, Stray as StrayInNumber}
use Rattle.pattern_match.specs.declared.character.BehindBackslash.{BehindBackslash}
use Rattle.pattern_match.specs.declared.character.BehindBackslash.TheVariants.{Space, Letter, Stray as StrayBehind}
use Rattle.pattern_match.specs.declared.control.Control.{Control}
use Rattle.pattern_match.specs.declared.control.Control.TheVariants.{Start, Atom, Escape, Least, Most, ClassStart, ClassNegated, ClassItem, ClassSingle, ClassDash, ClassEscape, RangeEscape, ClassEnd}
use Rattle.pattern_match.specs.declared.control.Reading.{Reading}
use Rattle.pattern_match.proofs.CharacterLemmas.{NumberTells, number_tells}

-- a control that there may be is sound
abbrev pub SoundIf : Option Control → Type 0
SoundIf None = Unit {0}
SoundIf (Some k) = IsSoundControl k

-- one more digit
pub room_digit : (weight value digit : ℕ) → digit ≤ 9 → 10 ≤ weight → HasRoomForDigits weight value → HasRoomForDigits (weight / 10) (10 * value + digit)
room_digit weight value digit d w h =
    let a : 10 * value + digit + 1 ≤ (value + 1) * 10 = omega arith in
    let b : (10 * value + digit + 1) * (weight / 10) ≤ (value + 1) * 10 * (weight / 10) = mul-le-mul a (le_refl (weight / 10)) in
    let c : 10 * (weight / 10) ≤ weight = omega arith in
    let e : (value + 1) * (10 * (weight / 10)) ≤ (value + 1) * weight = mul-le-mul (le_refl (value + 1)) c in
    let f : (value + 1) * 10 * (weight / 10) ≡ (value + 1) * (10 * (weight / 10)) = mul_assoc (value + 1) 10 (weight / 10) in
    le_trans b (le_trans (subst (λ x. x ≤ (value + 1) * weight) (sym f) e) h)

full_room : HasRoomForDigits whole_weight 0
full_room = omega arith

outside_sound : (m : Outside) → SoundIf (outside_next m)
outside_sound Ordinary = tt
outside_sound Dot = tt
outside_sound CloseGroup = tt
outside_sound Backslash = tt
outside_sound OpenClass = tt
outside_sound OpenGroup = tt
outside_sound Bar = tt
outside_sound Optional = tt
outside_sound AnyNumber = tt
outside_sound OneOrMore = tt
outside_sound OpenBounds = tt
outside_sound Stray = tt

atom_sound : (m : Outside) → SoundIf (atom_next m)
atom_sound Ordinary = tt
atom_sound Dot = tt
atom_sound CloseGroup = tt
atom_sound Backslash = tt
atom_sound OpenClass = tt
atom_sound OpenGroup = tt
atom_sound Bar = tt
atom_sound Optional = tt
atom_sound AnyNumber = tt
atom_sound OneOrMore = tt
atom_sound OpenBounds = full_room
atom_sound Stray = tt

escape_sound : (m : BehindBackslash) → SoundIf (escape_next m)
escape_sound Space = tt
escape_sound Letter = tt
escape_sound StrayBehind = tt

digit_small : (c digit : ℕ) → IsDigit c → digit ≡ c - 48 → digit ≤ 9
digit_small c digit d e = omega arith

least_sound : (weight value c : ℕ) → HasRoomForDigits weight value → (m : InNumber) → NumberTells c m → SoundIf (least_next weight value m)
least_sound weight value c h (Digit digit) t =
    cond_both (nat_lt weight 10) None (Some (Least (weight / 10) (10 * value + digit))) SoundIf (λ b. tt)
    (λ b. room_digit weight value digit (digit_small c digit t.0 t.1) (ltb-false weight 10 b) h)
least_sound weight value c h CloseBounds t = cond_both (nat_lt weight whole_weight) (Some Start) None SoundIf (λ b. tt) (λ b. tt)
least_sound weight value c h Comma t = cond_both (nat_lt weight whole_weight) (Some (Most value whole_weight 0)) None SoundIf (λ b. full_room) (λ b. tt)
least_sound weight value c h StrayInNumber t = tt

most_sound : (least weight value c : ℕ) → HasRoomForDigits weight value → (m : InNumber) → NumberTells c m → SoundIf (most_next least weight value m)
most_sound least weight value c h (Digit digit) t =
    cond_both (nat_lt weight 10) None (cond (nat_lt least ((10 * value + digit + 1) * (weight / 10))) (Some (Most least (weight / 10) (10 * value + digit))) None) SoundIf (λ b. tt)
    (λ b. cond_both (nat_lt least ((10 * value + digit + 1) * (weight / 10))) (Some (Most least (weight / 10) (10 * value + digit))) None SoundIf
    (λ g. room_digit weight value digit (digit_small c digit t.0 t.1) (ltb-false weight 10 b) h) (λ g. tt))
most_sound least weight value c h CloseBounds t =
    cond_both (weight == whole_weight) (Some Start) (cond (nat_le least value) (Some Start) None) SoundIf (λ b. tt)
    (λ b. cond_both (nat_le least value) (Some Start) None SoundIf (λ g. tt) (λ g. tt))
most_sound least weight value c h Comma t = tt
most_sound least weight value c h StrayInNumber t = tt

first_sound : (m : Within) (c : ℕ) → SoundIf (class_first_next m c)
first_sound Plain c = tt
first_sound BackslashWithin c = tt
first_sound Hyphen c = tt
first_sound CloseClass c = tt
first_sound StrayWithin c = tt

item_sound : (m : Within) (c : ℕ) → SoundIf (class_item_next m c)
item_sound Plain c = tt
item_sound BackslashWithin c = tt
item_sound Hyphen c = tt
item_sound CloseClass c = tt
item_sound StrayWithin c = tt

single_sound : (low : ℕ) (m : Within) (c : ℕ) → SoundIf (class_single_next low m c)
single_sound low Plain c = tt
single_sound low BackslashWithin c = tt
single_sound low Hyphen c = tt
single_sound low CloseClass c = tt
single_sound low StrayWithin c = tt

dash_sound : (low : ℕ) (m : Within) (c : ℕ) → SoundIf (class_dash_next low m c)
dash_sound low Plain c = cond_both (nat_le low c) (Some ClassItem) None SoundIf (λ b. tt) (λ b. tt)
dash_sound low BackslashWithin c = cond_both (nat_le low 125) (Some (RangeEscape low)) None SoundIf (λ b. tt) (λ b. tt)
dash_sound low Hyphen c = tt
dash_sound low CloseClass c = tt
dash_sound low StrayWithin c = tt

end_sound : (m : Within) → SoundIf (class_end_next m)
end_sound Plain = tt
end_sound BackslashWithin = tt
end_sound Hyphen = tt
end_sound CloseClass = tt
end_sound StrayWithin = tt

class_escape_sound : (m : BehindBackslash) (c : ℕ) → SoundIf (class_escape_next m c)
class_escape_sound Space c = tt
class_escape_sound Letter c = tt
class_escape_sound StrayBehind c = tt

range_escape_sound : (low : ℕ) (m : BehindBackslash) (c : ℕ) → SoundIf (range_escape_next low m c)
range_escape_sound low Space c = tt
range_escape_sound low Letter c = cond_both (nat_le low (escaped_letter c)) (Some ClassItem) None SoundIf (λ b. tt) (λ b. tt)
range_escape_sound low StrayBehind c = tt

pub next_sound : (k : Control) (c : ℕ) → IsSoundControl k → SoundIf (next_control k c)
next_sound Start c h = outside_sound (outside c)
next_sound Atom c h = atom_sound (outside c)
next_sound Escape c h = escape_sound (behind_backslash c)
next_sound (Least weight value) c h = least_sound weight value c h (in_number c) (number_tells c)
next_sound (Most least weight value) c h = most_sound least weight value c h (in_number c) (number_tells c)
next_sound ClassStart c h = cond_both (c == 94) (Some ClassNegated) (class_first_next (within c) c) SoundIf (λ b. tt) (λ b. first_sound (within c) c)
next_sound ClassNegated c h = first_sound (within c) c
next_sound ClassItem c h = item_sound (within c) c
next_sound (ClassSingle low) c h = single_sound low (within c) c
next_sound (ClassDash low) c h = dash_sound low (within c) c
next_sound ClassEscape c h = class_escape_sound (behind_backslash c) c
next_sound (RangeEscape low) c h = range_escape_sound low (behind_backslash c) c
next_sound ClassEnd c h = end_sound (within c)

-- what a reading keeps that there may be
abbrev Keeps : ℕ → Option Reading → Type 0
Keeps depth None = Unit {0}
Keeps depth (Some r) = IsSoundControl r.control × (r.depth ≤ depth + 1)

depth_small : (m : Outside) (depth : ℕ) (k : Option Control) → SoundIf k → Keeps depth (joined_reading k (depth_outside m depth))
depth_small m depth None s = tt
depth_small OpenGroup depth (Some k) s = (s, omega arith)
depth_small CloseGroup zero (Some k) s = tt
depth_small CloseGroup (suc depth) (Some k) s = (s, omega arith)
depth_small m depth (Some k) s = (s, omega arith)

depth_same : (depth : ℕ) (k : Option Control) → SoundIf k → Keeps depth (joined_reading k (Some depth))
depth_same depth None s = tt
depth_same depth (Some k) s = (s, omega arith)

keeps : (k : Control) (depth c : ℕ) → IsSoundControl k → Keeps depth (joined_reading (next_control k c) (depth_after k c depth))
keeps Start depth c h = depth_small (outside c) depth (next_control Start c) (next_sound Start c h)
keeps Atom depth c h = depth_small (outside c) depth (next_control Atom c) (next_sound Atom c h)
keeps Escape depth c h = depth_same depth (next_control Escape c) (next_sound Escape c h)
keeps (Least weight value) depth c h = depth_same depth (next_control (Least weight value) c) (next_sound (Least weight value) c h)
keeps (Most least weight value) depth c h = depth_same depth (next_control (Most least weight value) c) (next_sound (Most least weight value) c h)
keeps ClassStart depth c h = depth_same depth (next_control ClassStart c) (next_sound ClassStart c h)
keeps ClassNegated depth c h = depth_same depth (next_control ClassNegated c) (next_sound ClassNegated c h)
keeps ClassItem depth c h = depth_same depth (next_control ClassItem c) (next_sound ClassItem c h)
keeps (ClassSingle low) depth c h = depth_same depth (next_control (ClassSingle low) c) (next_sound (ClassSingle low) c h)
keeps (ClassDash low) depth c h = depth_same depth (next_control (ClassDash low) c) (next_sound (ClassDash low) c h)
keeps ClassEscape depth c h = depth_same depth (next_control ClassEscape c) (next_sound ClassEscape c h)
keeps (RangeEscape low) depth c h = depth_same depth (next_control (RangeEscape low) c) (next_sound (RangeEscape low) c h)
keeps ClassEnd depth c h = depth_same depth (next_control ClassEnd c) (next_sound ClassEnd c h)

-- a step keeps the reading sound, and opens at most one group
pub step_keeps : (r after : Reading) (c : ℕ) → IsSoundControl r.control → next_reading r c ≡ Some after → IsSoundControl after.control × (after.depth ≤ r.depth + 1)
step_keeps r after c h e = subst (Keeps r.depth) e (keeps r.control r.depth c h)
