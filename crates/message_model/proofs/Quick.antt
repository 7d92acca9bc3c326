-- What came step by step is the front of a word, and a word where it may end.
use Rattle.std.proofs.Common.{◌≡◌, ℕ, zero, suc, ◌+◌, ◌-◌, ◌<◌, ◌≤◌, Bool, true, false, List, [], ◌∷◌, ◌++◌, length, replicate, Option, Some, None, refl, sym, ap, ◌∙◌, arith, append_assoc, append-nil, eqb, ◌⊎◌, inl, inr, ◌≢◌}
use Rattle.std.specs.Prelude.{slice_get, ◌==◌, if◌then◌else◌, nat_lt}
use Rattle.std.proofs.lemmas.Bool.Decides.{nat_tests, eqb_tells}
use Rattle.std.proofs.lemmas.Option.{slice_get_within}
use Rattle.facets.specs.declared.simple.Simple.{Simple}
use Rattle.reference_check.specs.Forms.{Slot, Form}
use Rattle.reference_check.specs.Forms as form
use Rattle.reference_check.specs.Words.{times, UpTo, MayComeTimes, IsOrderedFrom, IsSequence, IsChoice}
use Rattle.reference_check.specs.Steps.{NextSlot, Slotted, Fine, Lacks, end_after, choice_end, end_of_slots, choice_next, Second, TooMany, has_room, first_lacking, CameAfter, Came}
use Rattle.reference_check.proofs.Words.{none_lacking, lacks_none, ordered-fill, times-fill, times-replicate, has_room_of, fill, completes, goes_on, IsProper, times-append}
use Rattle.message_model.specs.Sound.{IsSoundForm, Agrees}

abbrev pub Completed : {P : Type 0} → List (Slot P) → List ℕ → Type 0
Completed fs d = (e : List ℕ) × IsSequence fs (d ++ e)

ordered_front : (low top : ℕ) (d e : List ℕ) → IsOrderedFrom low top (d ++ e) → IsOrderedFrom low top d
ordered_front low top [] e o = tt
ordered_front low top (k ∷ d) e o = (o.0, o.1, ordered_front k top d e o.2)

up_to_front : (n m : ℕ) (max : Option ℕ) → UpTo (n + m) max → UpTo n max
up_to_front n m None u = tt
up_to_front n m (Some top) u = omega arith

pub came_completes : {P : Type 0} (L : Type 0) (fs : List (Slot P)) (before d : List ℕ) → IsProper fs → Completed fs before → CameAfter {L = L} (form.Sequence fs) before d → Completed fs (before ++ d)
came_completes L fs before [] proper (e, w) came = (e, rw append_assoc w)
came_completes {P} L fs before (k ∷ d) proper (e, w) ((s, found, fine), came) =
    rw (append_assoc before (k ∷ []) d) at (came_completes L fs (before ++ k ∷ []) d proper (fill 0 fs (before ++ k ∷ []), next_word) came)
  where
    next_word : IsSequence fs ((before ++ k ∷ []) ++ fill 0 fs (before ++ k ∷ []))
    next_word = completes fs before k s proper (ordered_front 0 (length fs) before e w.ordered) (λ i f h. up_to_front _ _ f.max (rw (times-append i before e) at (w.within i f h).1)) found fine

lacks_nothing : (o : Option ℕ) → end_of_slots o ≡ Fine → o ≡ None
lacks_nothing None e = refl
lacks_nothing (Some k) e = cc

-- what came and may end is a word
whole_sequence : {P : Type 0} (L : Type 0) (fs : List (Slot P)) (d : List ℕ) → IsProper fs → Completed fs [] → Came {L = L} (form.Sequence fs) d → end_after {L = L} (form.Sequence fs) d ≡ Fine → IsSequence fs d
whole_sequence {P} L fs d proper start came fine = go (came_completes L fs [] d proper start came)
  where
    lacks : first_lacking 0 (length fs) fs d ≡ None
    lacks = lacks_nothing (first_lacking 0 (length fs) fs d) fine

    go : Completed fs d → IsSequence fs d
    go (e, w) = record {
      ordered = ordered_front 0 (length fs) d e w.ordered;
      within = λ k s h. (none_lacking 0 k k (length fs) fs d s lacks (omega arith) h (slice_get_within fs k s h), up_to_front _ _ s.max (rw (times-append k d e) at (w.within k s h).1));
    }

pub same_parts : (d e : List ℕ) (n i k : ℕ) → d ++ k ∷ e ≡ replicate n i → (k ≡ i) × (d ≡ replicate (length d) i) × (length d < n)
same_parts [] e zero i k w = cc
same_parts [] e (suc n) i k w = (cc, refl, omega arith)
same_parts (j ∷ d) e zero i k w = cc
same_parts (j ∷ d) e (suc n) i k w =
    let tail : d ++ k ∷ e ≡ replicate n i = cc in
    let head : j ≡ i = cc in
    let r : (k ≡ i) × (d ≡ replicate (length d) i) × (length d < n) = same_parts d e n i k tail in
    (r.0, (let q : d ≡ replicate (length d) i = r.1 in cc), omega (arith, r.2))

choice_room : (j k count : ℕ) (max : Option ℕ) → j ≡ k → has_room count max ≡ true → (if j == k then (if has_room count max then Slotted k else TooMany) else Second) ≡ Slotted k
choice_room j k count max e h = (let t : (j == k) ≡ true = tested j k e in rw (t, h) refl)
  where
    tested : (j k : ℕ) → j ≡ k → (j == k) ≡ true
    tested j k e = grind (arith, nat_tests)

-- a choice goes on with its alternative alone
choice_goes_on : {P : Type 0} (d e : List ℕ) (k : ℕ) (s : Slot P) (fs : List (Slot P)) → slice_get fs k ≡ Some s → IsChoice fs (d ++ k ∷ e) → choice_next d k s ≡ Slotted k
choice_goes_on [] e k s fs found word = refl
choice_goes_on {P} (j ∷ d) e k s fs found (i, n, t, at, within, w) =
    let r : (k ≡ i) × (j ∷ d ≡ replicate (length (j ∷ d)) i) × (length (j ∷ d) < n) = same_parts (j ∷ d) e n i k w in
    let heads : j ≡ i = (let q : j ∷ d ≡ replicate (length (j ∷ d)) i = r.1 in cc) in
    let same : t ≡ s = (let here : slice_get fs k ≡ Some t = rw r.0 at in cc) in
    let counted : times k (j ∷ d) ≡ length (j ∷ d) = ap (λ x. times x (j ∷ d)) r.0 ∙ (ap (times i) r.1 ∙ times-replicate i (length (j ∷ d))) in
    let room : has_room (times k (j ∷ d)) s.max ≡ true = rw counted (has_room_of (length (j ∷ d)) n s.max r.2 (rw same at within.1)) in
    choice_room j k (times k (j ∷ d)) s.max (heads ∙ sym r.0) room

-- a word of a sequence may end
sequence_ends : {P : Type 0} (fs : List (Slot P)) (d : List ℕ) → IsSequence fs d → end_of_slots (first_lacking 0 (length fs) fs d) ≡ Fine
sequence_ends fs d w = rw (lacks_none 0 (length fs) fs d (λ i j s e g l. (w.within j s (let same : i ≡ j = omega arith in rw same at g)).0)) refl

end_at : {P : Type 0} (n k : ℕ) (s : Slot P) → s.min ≤ n → choice_end n k (Some s) ≡ Fine
end_at n k s h = (let e : nat_lt n s.min ≡ false = not_less n s.min h in rw e refl)
  where
    not_less : (n m : ℕ) → m ≤ n → nat_lt n m ≡ false
    not_less n m h = grind (arith, nat_tests)

choice_ends : {P : Type 0} (L : Type 0) (fs : List (Slot P)) (d : List ℕ) → ((k : ℕ) (s : Slot P) → slice_get fs k ≡ Some s → 0 < s.min) → IsChoice fs d → end_after {L = L} (form.Choice fs) d ≡ Fine
choice_ends L fs [] some (i, zero, s, at, within, e) = (let h : 0 < s.min = some i s at in absurd (omega (arith, within.0)))
choice_ends L fs [] some (i, suc n, s, at, within, e) = cc
choice_ends L fs (k ∷ d) some (i, zero, s, at, within, e) = cc
choice_ends L fs (k ∷ d) some (i, suc n, s, at, within, e) =
    let head : k ≡ i = cc in
    let counted : times k (k ∷ d) ≡ suc n = ap (λ x. times x (k ∷ d)) head ∙ (ap (times i) e ∙ times-replicate i (suc n)) in
    let found : slice_get fs k ≡ Some s = rw head at in
    rw found (end_at (times k (k ∷ d)) k s (rw counted within.0))

-- in a choice only the first alternative comes again, as long as it has room
pub all_same : {P : Type 0} (L : Type 0) (fs : List (Slot P)) (i : ℕ) (s : Slot P) (n : ℕ) (d : List ℕ) → slice_get fs i ≡ Some s → UpTo (suc n) s.max → CameAfter {L = L} (form.Choice fs) (replicate (suc n) i) d
    → (m : ℕ) × (replicate (suc n) i ++ d ≡ replicate (suc m) i) × UpTo (suc m) s.max
all_same L fs i s n [] at room came = (n, append-nil _, room)
all_same {P} L fs i s n (k ∷ d) at room ((t, found, next), came) = go (λ room came. all_same L fs i s (suc n) d at room came) (eqb_tells i k)
  where
    room_in : (b : Bool) → (if b then Slotted k else TooMany) ≡ Slotted k → b ≡ true
    room_in true e = refl
    room_in false e = cc

    second : (b : Bool) (x : NextSlot) → b ≡ false → (if b then x else Second) ≡ Slotted k → ⊥
    second true x e h = cc
    second false x e h = cc

    first : (b : Bool) (x : NextSlot) → b ≡ true → (if b then x else Second) ≡ Slotted k → x ≡ Slotted k
    first true x e h = h
    first false x e h = cc

    more : (max : Option ℕ) (c : ℕ) → has_room c max ≡ true → UpTo (suc c) max
    more None c h = tt
    more (Some top) c h = less c top h
      where
        less : (c top : ℕ) → nat_lt c top ≡ true → suc c ≤ top
        less c top h = grind (arith, nat_tests)

    snoc : (n i : ℕ) → replicate n i ++ i ∷ [] ≡ i ∷ replicate n i
    snoc zero i = refl
    snoc (suc n) i = ap (λ x. i ∷ x) (snoc n i)

    go : (UpTo (suc (suc n)) s.max → CameAfter {L = L} (form.Choice fs) (replicate (suc (suc n)) i) d → (m : ℕ) × (replicate (suc (suc n)) i ++ d ≡ replicate (suc m) i) × UpTo (suc m) s.max)
        → ((eqb i k ≡ true) × (i ≡ k)) ⊎ ((eqb i k ≡ false) × (i ≢ k)) → (m : ℕ) × (replicate (suc n) i ++ k ∷ d ≡ replicate (suc m) i) × UpTo (suc m) s.max
    go later (inr t) = absurd (second (i == k) _ t.0 next)
    go later (inl (b, e)) =
        let has : has_room (times k (replicate (suc n) i)) t.max ≡ true = room_in _ (first (i == k) _ b next) in
        let same : s ≡ t = (let here : slice_get fs k ≡ Some s = rw (← e) at in cc) in
        let counted : times k (replicate (suc n) i) ≡ suc n = ap (λ x. times x (replicate (suc n) i)) (sym e) ∙ times-replicate i (suc n) in
        let room' : UpTo (suc (suc n)) s.max = more s.max (suc n) (rw (same, ← counted) has) in
        let here : replicate (suc n) i ++ k ∷ [] ≡ replicate (suc (suc n)) i = ap (λ x. replicate (suc n) i ++ x ∷ []) (sym e) ∙ snoc (suc n) i in
        let r : (m : ℕ) × (replicate (suc (suc n)) i ++ d ≡ replicate (suc m) i) × UpTo (suc m) s.max = later room' (rw here at came) in
        (r.0, sym (append_assoc (replicate (suc n) i) (k ∷ []) d) ∙ (ap (λ x. x ++ d) here ∙ r.1), r.2)

end_in : {P : Type 0} (n k : ℕ) (s : Slot P) → choice_end n k (Some s) ≡ Fine → s.min ≤ n
end_in n k s e = go (nat_lt n s.min) refl e
  where
    go : (b : Bool) → nat_lt n s.min ≡ b → (if b then Lacks k else Fine) ≡ Fine → s.min ≤ n
    go true h e = cc
    go false h e = grind (arith, nat_tests)

whole_choice : {P : Type 0} (L : Type 0) (fs : List (Slot P)) (d : List ℕ) → IsProper fs → ((k : ℕ) (s : Slot P) → slice_get fs k ≡ Some s → 0 < s.min) → Came {L = L} (form.Choice fs) d → end_after {L = L} (form.Choice fs) d ≡ Fine → IsChoice fs d
whole_choice L fs [] proper some came fine = cc
whole_choice {P} L fs (k ∷ d) proper some ((s, found, next), came) fine = go (all_same L fs k s zero d found (one s.max (some k s found) (proper k s found)) came)
  where
    one : (max : Option ℕ) → 0 < s.min → UpTo s.min max → UpTo 1 max
    one None h u = tt
    one (Some top) h u = omega arith

    go : ((m : ℕ) × (replicate 1 k ++ d ≡ replicate (suc m) k) × UpTo (suc m) s.max) → IsChoice fs (k ∷ d)
    go (m, e, room) =
        let counted : times k (k ∷ d) ≡ suc m = ap (times k) e ∙ times-replicate k (suc m) in
        (k, suc m, s, found, (rw counted at (end_in (times k (k ∷ d)) k s (rw found at fine)), room), e)

-- where each slot's bounds allow something, there is a word
pub starts : {P : Type 0} (fs : List (Slot P)) → IsProper fs → Completed fs []
starts {P} fs proper = (fill 0 fs [], record { ordered = ordered-fill 0 (length fs) fs [] (omega arith); within = each })
  where
    each : (k : ℕ) (s : Slot P) → slice_get fs k ≡ Some s → MayComeTimes (times k (fill 0 fs [])) s
    each k s found =
        let counted : times k (fill 0 fs []) ≡ s.min = times-fill 0 k k fs [] s (omega arith) found ∙ minus s.min in
        (omega arith, rw counted (proper k s found))
      where
        minus : (n : ℕ) → n - 0 ≡ n
        minus n = omega arith

pub agrees : {P : Type 0} (f : Form P Simple) → IsSoundForm f → Agrees f
agrees (form.Sequence fs) sound = record { tagged = sound.tags; goes_on = λ d e k s found w. goes_on fs d e k s found w; ends = λ d w. sequence_ends fs d w; whole = λ d came fine. whole_sequence Simple fs d sound.bounds (starts fs sound.bounds) came fine }
agrees (form.Choice fs) sound = record { tagged = sound.tags; goes_on = λ d e k s found w. choice_goes_on d e k s fs found w; ends = λ d w. choice_ends Simple fs d sound.alternatives w; whole = λ d came fine. whole_choice Simple fs d sound.bounds sound.alternatives came fine }
agrees f sound = record { tagged = sound.tags; goes_on = λ d e k s found w. absurd w; ends = λ d w. absurd w; whole = λ d came fine. absurd cc }
