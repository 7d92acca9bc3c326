-- What is kept after some more bytes.
use Rattle.std.proofs.Common.{◌≡◌, ℕ, zero, suc, ◌+◌, ◌-◌, ◌*◌, ◌≤◌, false, List, ◌++◌, length, Option, Some, None, refl, sym, ap, subst, ◌∙◌, arith, length-append}
use Rattle.data_types.specs.declared.kept.Kept.{Kept}
use Rattle.data_types.specs.Limits.{IsWithin, IsCount, left_of}
use Rattle.data_types.specs.Kept.{Holds, room_under}

-- no length is within any limit
pub none_within : (most : Option ℕ) → IsWithin most 0
none_within None = tt
none_within (Some m) = omega arith

none_left : (most left : Option ℕ) (used : ℕ) → left ≡ left_of most used → left ≡ None → most ≡ None
none_left None left used e n = refl
none_left (Some m) left used e n = absurd (let same : Some (m - used) ≡ None = sym e ∙ n in cc)

-- more bytes, within what is left
pub held_more : (old new : Kept) (left size : ℕ) (bytes : List ℕ) → old.left ≡ Some left → size ≤ left → old.longer ≡ false → length bytes ≤ 4 * size
    → new.bytes.held ≡ old.bytes.held ++ bytes → new.most ≡ old.most → new.left ≡ Some (left - size) → new.longer ≡ false
    → (most : Option ℕ) (before : ℕ) (all : List ℕ) → Holds old most before all → Holds new most (before + size) (all ++ bytes)
held_more old new left size bytes is room short few held limit less longer None before all h = absurd (let same : Some left ≡ None = sym is ∙ h.left in cc)
held_more old new left size bytes is room short few held limit less longer (Some m) before all h =
    let same : Some left ≡ Some (m - h.used) = sym is ∙ h.left in
    let at : left ≡ m - h.used = cc in
    let whole = h.whole short in
    let within = h.within in
    let bound = h.bound in
    let fewer = h.few in
    let next : left - size ≡ m - (h.used + size) = omega (arith, at, room, within) in
    record {
      used = h.used + size;
      limit = limit ∙ h.limit;
      left = less ∙ ap Some next;
      within = omega (arith, at, room, within);
      bound = omega (arith, ap length held, length-append old.bytes.held bytes, bound, few);
      few = omega (arith, fewer);
      whole = λ e. (ap (λ n. n + size) whole.0, held ∙ ap (λ l. l ++ bytes) whole.1);
      past = λ e. absurd (let both = sym longer ∙ e in cc);
    }

-- the size of octets joined to others
pub joined_size : (kept : Kept) (most : Option ℕ) (octets found : List ℕ) (count : ℕ) → length found ≡ count → Holds kept most (length octets + count) (octets ++ found)
    → Holds kept most (length (octets ++ found)) (octets ++ found)
joined_size kept most octets found count size h =
    let same : length octets + count ≡ length (octets ++ found) = omega (arith, size, length-append octets found) in
    subst (λ n. Holds kept most n (octets ++ found)) same h

-- the count of octets joined to others
pub joined_count : (total : Option ℕ) (octets found : List ℕ) (count : ℕ) → length found ≡ count → IsCount total (length octets + count) → IsCount total (length (octets ++ found))
joined_count total octets found count size h =
    let same : length octets + count ≡ length (octets ++ found) = omega (arith, size, length-append octets found) in
    subst (IsCount total) same h

-- what fits into the room can be kept: under a limit of none there is nothing to keep
pub room_enough : (most now : Option ℕ) (room held count left size : ℕ) (Can : Type 0) → (most ≡ Some 0 → now ≡ Some 0) → now ≡ Some left → size ≤ left → count ≤ 4 * size
    → (held + count ≤ room → Can) → (count ≡ 0 → Can) → held + count ≤ room_under most room → Can
room_enough None now room held count left size Can none is short few fits empty enough = fits enough
room_enough (Some zero) now room held count left size Can none is short few fits empty enough =
    let same : Some left ≡ Some 0 = sym is ∙ none refl in
    let at : left ≡ 0 = cc in
    empty (omega (arith, at, short, few))
room_enough (Some (suc k)) now room held count left size Can none is short few fits empty enough = fits enough
