-- A pass over marks and the places that are listed of them.
use Rattle.std.proofs.Common.{◌≡◌, ℕ, zero, suc, ◌+◌, ◌-◌, ◌≤◌, ◌<◌, ◌==◌, Bool, true, false, ◌||◌, if◌then◌else◌, List, [], ◌∷◌, ◌++◌, length, take, drop, set, get_or, replicate, refl, sym, ap, ap₂, ◌∙◌, subst, arith, append_assoc, length-drop, length-set, drop_of_length-le, zero-add, add-one}
use Rattle.std.proofs.lemmas.Bool.{eqb-true}
use Rattle.std.proofs.lemmas.List.{length-take-le, length-replicate, replicate-append-replicate, take_at, drop-drop, take_more_set, take-set, drop-set-lt, take-append-drop}
use Rattle.std.proofs.Math.Seq.{take-add, take-length, drop-cons, take-suc}
use Rattle.pattern_match.specs.Marking.{first_pass, end_of_group, second_live, second_frames, second_pass}
use Rattle.pattern_match.specs.Marks.{Walk, IsGroupEnded, AreEnded, ListsPlaces, first_place_or, past, IsListed, IsDone, Skips, is_open, first_rest, second_rest}
use Rattle.pattern_match.specs.declared.instruction.Frame.{Frame}
use Rattle.pattern_match.specs.declared.instruction.Instruction.{Instruction}
use Rattle.pattern_match.specs.declared.instruction.Instruction.TheVariants.{Take, Open, Bar, Close}
use Rattle.pattern_match.proofs.Listing.{ended_take, lists_first, lists_longer, lists_skip, lists_part, lists_past, lists_forget, lists_none, lists_one}

-- no word is on its way, and none of these is marked: none is behind them
pub idle_first : (admits : ℕ → Bool) (n : ℕ) (code : List Instruction) (marks : List Bool) → n ≤ length code
    → first_pass admits code (replicate n false ++ marks) false [] ≡ replicate n false ++ first_pass admits (drop n code) marks false []
idle_first admits zero code marks l = refl
idle_first admits (suc n) [] marks l = absurd (omega arith)
idle_first admits (suc n) (Take at true r ∷ code) marks l = ap (λ x. false ∷ x) (idle_first admits n code marks (omega arith))
idle_first admits (suc n) (Take at false r ∷ code) marks l = ap (λ x. false ∷ x) (idle_first admits n code marks (omega arith))
idle_first admits (suc n) (Open k true r ∷ code) marks l = ap (λ x. false ∷ x) (idle_first admits n code marks (omega arith))
idle_first admits (suc n) (Open k false r ∷ code) marks l = ap (λ x. false ∷ x) (idle_first admits n code marks (omega arith))
idle_first admits (suc n) (Bar ∷ code) marks l = ap (λ x. false ∷ x) (idle_first admits n code marks (omega arith))
idle_first admits (suc n) (Close ∷ code) marks l = ap (λ x. false ∷ x) (idle_first admits n code marks (omega arith))

pub unset_at : (n k : ℕ) (marks : List Bool) → k < n → get_or (replicate n false ++ marks) k false ≡ false
unset_at zero k marks l = absurd (omega arith)
unset_at (suc n) zero marks l = refl
unset_at (suc n) (suc k) marks l = unset_at n k marks (omega arith)

pub idle_second : (n : ℕ) (code : List Instruction) (marks : List Bool) → n ≤ length code → AreEnded n code
    → second_pass code (replicate n false ++ marks) false [] ≡ replicate n false ++ second_pass (drop n code) marks false []
idle_second zero code marks l h = refl
idle_second (suc n) [] marks l h = absurd (omega arith)
idle_second (suc n) (Take at true true ∷ code) marks l h = ap (λ x. false ∷ x) (idle_second n code marks (omega arith) h.1)
idle_second (suc n) (Take at true false ∷ code) marks l h = ap (λ x. false ∷ x) (idle_second n code marks (omega arith) h.1)
idle_second (suc n) (Take at false true ∷ code) marks l h = ap (λ x. false ∷ x) (idle_second n code marks (omega arith) h.1)
idle_second (suc n) (Take at false false ∷ code) marks l h = ap (λ x. false ∷ x) (idle_second n code marks (omega arith) h.1)
idle_second (suc n) (Open k true true ∷ code) marks l h =
    ap (λ e. false ∷ second_pass code (replicate n false ++ marks) (second_live (Open k true true) false e false []) (second_frames (Open k true true) e false [])) (unset_at n k marks h.0)
    ∙ ap (λ x. false ∷ x) (idle_second n code marks (omega arith) h.1)
idle_second (suc n) (Open k false true ∷ code) marks l h =
    ap (λ e. false ∷ second_pass code (replicate n false ++ marks) (second_live (Open k false true) false e false []) (second_frames (Open k false true) e false [])) (unset_at n k marks h.0)
    ∙ ap (λ x. false ∷ x) (idle_second n code marks (omega arith) h.1)
idle_second (suc n) (Open k true false ∷ code) marks l h = ap (λ x. false ∷ x) (idle_second n code marks (omega arith) h.1)
idle_second (suc n) (Open k false false ∷ code) marks l h = ap (λ x. false ∷ x) (idle_second n code marks (omega arith) h.1)
idle_second (suc n) (Bar ∷ code) marks l h = ap (λ x. false ∷ x) (idle_second n code marks (omega arith) h.1)
idle_second (suc n) (Close ∷ code) marks l h = ap (λ x. false ∷ x) (idle_second n code marks (omega arith) h.1)

-- an instruction that begins no group
pub not_open : (i : Instruction) → is_open i ≡ false → IsGroupEnded i 0
not_open (Take at o r) e = tt
not_open (Open n o r) e = absurd (cc)
not_open Bar e = tt
not_open Close e = tt

-- the marks of a walk that skips
pub skip_take : (code : List Instruction) (old new : Walk) → Skips code old new → take new.at new.cells ≡ take old.at old.cells ++ replicate (new.at - old.at) false
skip_take code old new s =
    let n : old.at + (new.at - old.at) ≡ new.at = (let z = s.further in omega arith) in
    ap (λ x. take new.at x) s.cells ∙ ap (λ k. take k old.cells) (sym n) ∙ take-add old.at (new.at - old.at) old.cells
    ∙ ap (λ x. take old.at old.cells ++ x) (ap (λ x. take (new.at - old.at) x) s.unset
    ∙ take_at (replicate (new.at - old.at) false) (drop new.at old.cells) (new.at - old.at) (length-replicate (new.at - old.at) false))

pub skip_drop : (code : List Instruction) (old new : Walk) → Skips code old new → drop (new.at - old.at) (drop old.at code) ≡ drop new.at code
skip_drop code old new s = drop-drop (new.at - old.at) old.at code ∙ ap (λ k. drop k code) (let z = s.further in let y : old.at + (new.at - old.at) ≡ new.at = omega arith in y)

skip_room : (code : List Instruction) (old new : Walk) → Skips code old new → new.at - old.at ≤ length (drop old.at code)
skip_room code old new s = let z = s.listed.inside in let y = length-drop old.at code in omega arith

pub skipped_first : (admits : ℕ → Bool) (code : List Instruction) (old new : Walk) → Skips code old new → first_rest admits code new false [] ≡ first_rest admits code old false []
skipped_first admits code old new s =
    ap₂ (λ x y. x ++ first_pass admits (drop new.at code) y false []) (skip_take code old new s) (ap (λ x. drop new.at x) s.cells)
    ∙ append_assoc (take old.at old.cells) (replicate (new.at - old.at) false) (first_pass admits (drop new.at code) (drop new.at old.cells) false [])
    ∙ ap (λ x. take old.at old.cells ++ x) (
    ap (λ x. replicate (new.at - old.at) false ++ first_pass admits x (drop new.at old.cells) false []) (sym (skip_drop code old new s))
    ∙ sym (idle_first admits (new.at - old.at) (drop old.at code) (drop new.at old.cells) (skip_room code old new s))
    ∙ ap (λ x. first_pass admits (drop old.at code) x false []) (sym s.unset)
    )

pub skipped_second : (code : List Instruction) (old new : Walk) → Skips code old new → second_rest code new false [] ≡ second_rest code old false []
skipped_second code old new s =
    ap₂ (λ x y. x ++ second_pass (drop new.at code) y false []) (skip_take code old new s) (ap (λ x. drop new.at x) s.cells)
    ∙ append_assoc (take old.at old.cells) (replicate (new.at - old.at) false) (second_pass (drop new.at code) (drop new.at old.cells) false [])
    ∙ ap (λ x. take old.at old.cells ++ x) (
    ap (λ x. replicate (new.at - old.at) false ++ second_pass x (drop new.at old.cells) false []) (sym (skip_drop code old new s))
    ∙ sym (idle_second (new.at - old.at) (drop old.at code) (drop new.at old.cells) (skip_room code old new s) s.ended)
    ∙ ap (λ x. second_pass (drop old.at code) x false []) (sym s.unset)
    )

pub skipped_clear : (code : List Instruction) (old new : Walk) → Skips code old new → take old.at old.cells ≡ replicate old.at false → take new.at new.cells ≡ replicate new.at false
skipped_clear code old new s h =
    skip_take code old new s ∙ ap (λ x. x ++ replicate (new.at - old.at) false) h ∙ replicate-append-replicate old.at (new.at - old.at) false
    ∙ ap (λ k. replicate k false) (let z = s.further in let y : old.at + (new.at - old.at) ≡ new.at = omega arith in y)

-- a walk goes on, up to the first place that is listed
pub skips_to : (code : List Instruction) (old new : Walk) (to : ℕ) → IsListed code old → old.at ≤ to → to ≤ length code → to ≤ first_place_or old.ahead (length code)
    → AreEnded (to - old.at) (drop old.at code) → new ≡ record old { at = to } → Skips code old new
skips_to code old new to h from to_code near ended e = subst (λ w. Skips code old w) (sym e) (record {
  listed = record {
    long = h.long;
    inside = to_code;
    behind = subst (λ x. ListsPlaces 0 (take to code) x old.behind) (sym marks_are)
        (subst (λ x. ListsPlaces 0 x (take old.at old.cells ++ replicate n false) old.behind) (sym code_is)
        (subst (λ k. ListsPlaces 0 (take old.at code ++ take n (drop old.at code)) (take old.at old.cells ++ replicate k false) old.behind) long
        (lists_none 0 (take old.at code) (take n (drop old.at code)) (take old.at old.cells) old.behind same (subst (λ k. AreEnded k (take n (drop old.at code))) (sym long) ended_there) h.behind)));
    ahead = subst (λ k. ListsPlaces k (drop k code) (drop k old.cells) old.ahead) sum
        (subst (λ x. ListsPlaces (old.at + n) x (drop (old.at + n) old.cells) old.ahead) (drop-drop n old.at code)
        (subst (λ x. ListsPlaces (old.at + n) (drop n (drop old.at code)) x old.ahead) (drop-drop n old.at old.cells) s.1));
  };
  cells = refl;
  further = from;
  unset = s.0 ∙ ap (λ x. replicate n false ++ x) (drop-drop n old.at old.cells ∙ ap (λ k. drop k old.cells) sum);
  ended = ended;
})
  where
    end : old.at + length (drop old.at code) ≡ length code
    end = let z = length-drop old.at code in let y = h.inside in omega arith

    n : ℕ
    n = to - old.at

    sum : old.at + n ≡ to
    sum = omega (arith, from)

    s : (drop old.at old.cells ≡ replicate n false ++ drop n (drop old.at old.cells)) × ListsPlaces (old.at + n) (drop n (drop old.at code)) (drop n (drop old.at old.cells)) old.ahead
    s = lists_part old.at (drop old.at code) (drop old.at old.cells) old.ahead n
        (subst (λ k. k ≤ first_place_or old.ahead (old.at + length (drop old.at code))) (sym sum) (subst (λ k. to ≤ first_place_or old.ahead k) (sym end) near)) h.ahead

    room : n ≤ length (drop old.at code)
    room = omega (arith, from, to_code, end)

    long : length (take n (drop old.at code)) ≡ n
    long = length-take-le n (drop old.at code) room

    same : length (take old.at old.cells) ≡ length (take old.at code)
    same = length-take-le old.at old.cells (let z = h.long in let y = h.inside in omega arith) ∙ sym (length-take-le old.at code h.inside)

    code_is : take to code ≡ take old.at code ++ take n (drop old.at code)
    code_is = ap (λ k. take k code) (sym sum) ∙ take-add old.at n code

    marks_are : take to old.cells ≡ take old.at old.cells ++ replicate n false
    marks_are = ap (λ k. take k old.cells) (sym sum) ∙ take-add old.at n old.cells
        ∙ ap (λ x. take old.at old.cells ++ x) (ap (λ x. take n x) s.0 ∙ take_at (replicate n false) (drop n (drop old.at old.cells)) n (length-replicate n false))

    ended_there : AreEnded n (take n (drop old.at code))
    ended_there = ended_take n (drop old.at code) room ended

-- the first place that is listed
pub ahead_first : (code : List Instruction) (walk : Walk) → IsListed code walk
    → (walk.at ≤ first_place_or walk.ahead (length code)) × (first_place_or walk.ahead (length code) ≤ length code) × AreEnded (first_place_or walk.ahead (length code) - walk.at) (drop walk.at code)
ahead_first code walk h = (bounds.0, bounds.1, ended)
  where
    end : walk.at + length (drop walk.at code) ≡ length code
    end = let z = length-drop walk.at code in let y = h.inside in omega arith

    bounds : (walk.at ≤ first_place_or walk.ahead (length code)) × (first_place_or walk.ahead (length code) ≤ length code)
    bounds = subst (λ k. (walk.at ≤ first_place_or walk.ahead k) × (first_place_or walk.ahead k ≤ k)) end (lists_first walk.at (drop walk.at code) (drop walk.at walk.cells) walk.ahead h.ahead)

    sum : walk.at + (first_place_or walk.ahead (length code) - walk.at) ≡ first_place_or walk.ahead (length code)
    sum = omega (arith, bounds.0)

    ended : AreEnded (first_place_or walk.ahead (length code) - walk.at) (drop walk.at code)
    ended = (lists_skip walk.at (drop walk.at code) (drop walk.at walk.cells) walk.ahead (first_place_or walk.ahead (length code) - walk.at) (sum ∙ ap (λ k. first_place_or walk.ahead k) (sym end)) h.ahead).1

pub skips_on : (code : List Instruction) (old new : Walk) → IsListed code old → new ≡ record old { at = first_place_or old.ahead (length code) } → Skips code old new
skips_on code old new h e =
    let f = ahead_first code old h in
    let l : first_place_or old.ahead (length code) ≤ first_place_or old.ahead (length code) = omega arith in
    skips_to code old new (first_place_or old.ahead (length code)) h f.0 f.1 l f.2 e

-- a walk that stays where it is
stays : (code : List Instruction) (old new : Walk) → IsListed code new → new.cells ≡ old.cells → new.at ≡ old.at → Skips code old new
stays code old new h c a = record {
  listed = h;
  cells = c;
  further = omega arith;
  unset = subst (λ k. drop old.at old.cells ≡ replicate k false ++ drop new.at old.cells) (sym none) (ap (λ k. drop k old.cells) (sym a));
  ended = subst (λ k. AreEnded k (drop old.at code)) (sym none) tt;
}
  where
    none : new.at - old.at ≡ 0
    none = omega arith

ended_open : (i : Instruction) (n : ℕ) → is_open i ≡ true → end_of_group i < n → IsGroupEnded i n
ended_open (Take at o r) n e l = tt
ended_open (Open k o r) n e l = l
ended_open Bar n e l = tt
ended_open Close n e l = tt

forgets_place : (at : ℕ) (i : Instruction) (code : List Instruction) (marks : List Bool) (places : List ℕ) (n : ℕ) → ListsPlaces at (i ∷ code) (false ∷ marks) places
    → at + 1 + n ≡ first_place_or (drop 1 places) (at + 1 + length code) → IsGroupEnded i n → ListsPlaces at (i ∷ code) (false ∷ marks) (past at places)
forgets_place at i code marks [] n h f g = h
forgets_place at i code marks (place ∷ places) n h f g = choose (place == at) refl
  where
    choose : (b : Bool) → (place == at) ≡ b → ListsPlaces at (i ∷ code) (false ∷ marks) (if b then places else place ∷ places)
    choose true e = lists_forget at i code marks place places h (eqb-true place at e) n f g
    choose false e = h

-- a group that is listed no longer
pub forgets : (code : List Instruction) (old new : Walk) (d : Instruction) (next : ℕ) → IsListed code old → old.at < length code → is_open (get_or code old.at d) ≡ true
    → get_or old.cells old.at false ≡ false → next ≡ first_place_or (drop 1 old.ahead) (length code) → old.at < next → end_of_group (get_or code old.at d) < next - old.at - 1
    → new ≡ record old { ahead = past old.at old.ahead } → Skips code old new
forgets code old new d next h l o u f m g e =
    subst (λ w. Skips code old w) (sym e) (stays code old (record old { ahead = past old.at old.ahead }) (record {
      long = h.long;
      inside = h.inside;
      behind = h.behind;
      ahead = subst (λ x. ListsPlaces old.at x (drop old.at old.cells) (past old.at old.ahead)) (sym code_is)
          (subst (λ x. ListsPlaces old.at (i ∷ drop (suc old.at) code) x (past old.at old.ahead)) (sym marks_are)
          (forgets_place old.at i (drop (suc old.at) code) (drop (suc old.at) old.cells) old.ahead (next - old.at - 1) there first (ended_open i (next - old.at - 1) o g)));
    }) refl refl)
  where
    i : Instruction
    i = get_or code old.at d

    code_is : drop old.at code ≡ i ∷ drop (suc old.at) code
    code_is = drop-cons code old.at d l

    marks_are : drop old.at old.cells ≡ false ∷ drop (suc old.at) old.cells
    marks_are = drop-cons old.cells old.at false (let z = h.long in omega arith) ∙ ap (λ x. x ∷ drop (suc old.at) old.cells) u

    there : ListsPlaces old.at (i ∷ drop (suc old.at) code) (false ∷ drop (suc old.at) old.cells) old.ahead
    there = subst (λ x. ListsPlaces old.at (i ∷ drop (suc old.at) code) x old.ahead) marks_are (subst (λ x. ListsPlaces old.at x (drop old.at old.cells) old.ahead) code_is h.ahead)

    end : old.at + 1 + length (drop (suc old.at) code) ≡ length code
    end = let z = length-drop (suc old.at) code in omega arith

    first : old.at + 1 + (next - old.at - 1) ≡ first_place_or (drop 1 old.ahead) (old.at + 1 + length (drop (suc old.at) code))
    first = (let z : old.at + 1 + (next - old.at - 1) ≡ next = omega arith in z) ∙ f ∙ ap (λ k. first_place_or (drop 1 old.ahead) k) (sym end)

-- a pass goes over one mark
pub puts : (code : List Instruction) (old new : Walk) (d : Instruction) (mark listed : Bool) → IsListed code old → old.at < length code → listed ≡ is_open (get_or code old.at d)
    → new.cells ≡ set old.cells old.at mark → new.at ≡ old.at + 1 → new.behind ≡ (if mark || listed then old.behind ++ old.at ∷ [] else old.behind)
    → new.ahead ≡ past old.at old.ahead → IsListed code new
puts code old new d mark listed h l o c a b f = record {
  long = ap length c ∙ length-set old.cells old.at mark ∙ h.long;
  inside = omega arith;
  behind = subst (λ k. ListsPlaces 0 (take k code) (take k new.cells) new.behind) (sym a)
      (subst (λ x. ListsPlaces 0 (take (old.at + 1) code) (take (old.at + 1) x) new.behind) (sym c)
      (subst (λ x. ListsPlaces 0 x (take (old.at + 1) (set old.cells old.at mark)) new.behind) (sym front_code)
      (subst (λ x. ListsPlaces 0 (take old.at code ++ i ∷ []) x new.behind) (sym (take_more_set old.cells old.at mark room))
      (subst (λ x. ListsPlaces 0 (take old.at code ++ i ∷ []) (take old.at old.cells ++ mark ∷ []) x) (sym b) (more mark listed o)))));
  ahead = subst (λ k. ListsPlaces k (drop k code) (drop k new.cells) new.ahead) (sym a)
      (subst (λ x. ListsPlaces (old.at + 1) (drop (old.at + 1) code) (drop (old.at + 1) x) new.ahead) (sym c)
      (subst (λ x. ListsPlaces (old.at + 1) (drop (old.at + 1) code) x new.ahead) (sym (drop-set-lt (old.at + 1) old.cells old.at mark (omega arith)))
      (subst (λ x. ListsPlaces (old.at + 1) (drop (old.at + 1) code) (drop (old.at + 1) old.cells) x) (sym f)
      (lists_past old.at i (drop (old.at + 1) code) (get_or old.cells old.at false) (drop (old.at + 1) old.cells) old.ahead
      (subst (λ x. ListsPlaces old.at (i ∷ drop (old.at + 1) code) x old.ahead) marks_are (subst (λ x. ListsPlaces old.at x (drop old.at old.cells) old.ahead) code_is h.ahead))))));
}
  where
    i : Instruction
    i = get_or code old.at d

    room : old.at < length old.cells
    room = let z = h.long in omega arith

    code_is : drop old.at code ≡ i ∷ drop (old.at + 1) code
    code_is = drop-cons code old.at d l ∙ ap (λ k. i ∷ drop k code) (sym (add-one old.at))

    marks_are : drop old.at old.cells ≡ get_or old.cells old.at false ∷ drop (old.at + 1) old.cells
    marks_are = drop-cons old.cells old.at false room ∙ ap (λ k. get_or old.cells old.at false ∷ drop k old.cells) (sym (add-one old.at))

    front_code : take (old.at + 1) code ≡ take old.at code ++ i ∷ []
    front_code = ap (λ k. take k code) (add-one old.at) ∙ take-suc code old.at d l

    long_code : length (take old.at code) ≡ old.at
    long_code = length-take-le old.at code (omega arith)

    same : length (take old.at old.cells) ≡ length (take old.at code)
    same = length-take-le old.at old.cells (omega (arith, room)) ∙ sym long_code

    listed_one : (m : Bool) → ListsPlaces 0 (take old.at code ++ i ∷ []) (take old.at old.cells ++ m ∷ []) (old.behind ++ old.at ∷ [])
    listed_one m = subst (λ k. ListsPlaces 0 (take old.at code ++ i ∷ []) (take old.at old.cells ++ m ∷ []) (old.behind ++ k ∷ [])) (zero-add (length (take old.at code)) ∙ long_code)
        (lists_one 0 (take old.at code) i (take old.at old.cells) m old.behind same h.behind)

    more : (m x : Bool) → x ≡ is_open i → ListsPlaces 0 (take old.at code ++ i ∷ []) (take old.at old.cells ++ m ∷ []) (if m || x then old.behind ++ old.at ∷ [] else old.behind)
    more true x e = listed_one true
    more false true e = listed_one false
    more false false e = lists_none 0 (take old.at code) (i ∷ []) (take old.at old.cells) old.behind same (not_open i (sym e), tt) h.behind

-- a pass begins
pub begins : (code : List Instruction) (old new : Walk) → IsDone code old → new ≡ record { cells = old.cells; at = 0; behind = []; ahead = old.behind } → IsListed code new
begins code old new h e = subst (λ w. IsListed code w) (sym e) (record {
  long = h.listed.long;
  inside = omega arith;
  behind = ([], refl, tt);
  ahead = subst (λ x. ListsPlaces 0 code x old.behind) (take-append-drop old.at old.cells)
      (lists_longer 0 code (take old.at old.cells) (drop old.at old.cells) old.behind
      (subst (λ x. ListsPlaces 0 x (take old.at old.cells) old.behind) (ap (λ k. take k code) h.at ∙ take-length code) h.listed.behind));
})

-- a pass ends
pub ends : (code : List Instruction) (old new : Walk) (mark : Bool) → IsListed code old → length code ≤ old.at → new ≡ record old { cells = set old.cells old.at mark } → IsDone code new
ends code old new mark h l e = subst (λ w. IsDone code w) (sym e) (record {
  listed = record {
    long = length-set old.cells old.at mark ∙ h.long;
    inside = h.inside;
    behind = subst (λ x. ListsPlaces 0 (take old.at code) x old.behind) (sym (take-set old.cells old.at mark)) h.behind;
    ahead = none old.ahead (subst (λ x. ListsPlaces old.at x (drop old.at old.cells) old.ahead) (drop_of_length-le code l) h.ahead);
  };
  at = (let z = h.inside in omega arith);
})
  where
    none : (places : List ℕ) → ListsPlaces old.at [] (drop old.at old.cells) places → ListsPlaces old.at (drop old.at code) (drop old.at (set old.cells old.at mark)) places
    none [] x = subst (λ c. ListsPlaces old.at c (drop old.at (set old.cells old.at mark)) []) (sym (drop_of_length-le code l)) (drop old.at (set old.cells old.at mark), refl, tt)
    none (p ∷ ps) x = absurd (let z = x.4 in omega arith)

set_last : (xs : List Bool) (n : ℕ) (v : Bool) → length xs ≡ n + 1 → set xs n v ≡ take n xs ++ v ∷ []
set_last [] n v e = absurd (omega arith)
set_last (x ∷ []) zero v e = refl
set_last (x ∷ y ∷ xs) zero v e = absurd (omega arith)
set_last (x ∷ xs) (suc n) v e = ap (λ ys. x ∷ ys) (set_last xs n v (omega arith))

pub done_second : (code : List Instruction) (walk : Walk) (live : Bool) (frames : List Frame) → IsListed code walk → length code ≤ walk.at
    → set walk.cells walk.at live ≡ second_rest code walk live frames
done_second code walk live frames h l =
    set_last walk.cells walk.at live (let z = h.long in let y = h.inside in omega arith)
    ∙ ap (λ c. take walk.at walk.cells ++ second_pass c (drop walk.at walk.cells) live frames) (sym (drop_of_length-le code l))

pub done_clear : (code : List Instruction) (walk : Walk) → IsListed code walk → length code ≤ walk.at → take walk.at walk.cells ≡ replicate walk.at false
    → set walk.cells walk.at false ≡ replicate (length code + 1) false
done_clear code walk h l e =
    set_last walk.cells walk.at false (let z = h.long in let y = h.inside in omega arith)
    ∙ ap (λ x. x ++ false ∷ []) e ∙ replicate-append-replicate walk.at 1 false ∙ ap (λ k. replicate k false) (let y = h.inside in let z : walk.at + 1 ≡ length code + 1 = omega arith in z)

pub put_clear : (old new : Walk) → old.at < length old.cells → take old.at old.cells ≡ replicate old.at false → new.cells ≡ set old.cells old.at false → new.at ≡ old.at + 1
    → take new.at new.cells ≡ replicate new.at false
put_clear old new l e c a =
    ap₂ (λ k x. take k x) a c ∙ take_more_set old.cells old.at false l ∙ ap (λ x. x ++ false ∷ []) e ∙ replicate-append-replicate old.at 1 false ∙ ap (λ k. replicate k false) (sym a)

-- marks that are written one by one
pub put_row : (old new : Walk) (row : List Bool) (n : ℕ) → old.at ≡ n → n < length old.cells → n < length row → take n old.cells ≡ take n row → new.cells ≡ set old.cells old.at (get_or row n false)
    → take (n + 1) new.cells ≡ take (n + 1) row
put_row old new row n a l m e c =
    ap (λ x. take (n + 1) x) (c ∙ ap (λ k. set old.cells k (get_or row n false)) a) ∙ take_more_set old.cells n (get_or row n false) l ∙ ap (λ x. x ++ get_or row n false ∷ []) e
    ∙ sym (take-suc row n false m) ∙ ap (λ k. take k row) (sym (add-one n))

pub done_row : (old new : Walk) (row : List Bool) (n : ℕ) → old.at ≡ n → length old.cells ≡ n + 1 → length row ≡ n + 1 → take n old.cells ≡ take n row
    → new.cells ≡ set old.cells old.at (get_or row n false) → new.cells ≡ row
done_row old new row n a l m e c =
    sym (take-length new.cells) ∙ ap (λ k. take k new.cells) (ap length c ∙ length-set old.cells old.at (get_or row n false) ∙ l)
    ∙ put_row old new row n a (omega arith) (omega arith) e c ∙ ap (λ k. take k row) (sym m) ∙ take-length row
