-- Marks that are set as the first are, by the places that are listed of these; and marks that stay as they are.
use Rattle.std.proofs.Common.{◌≡◌, ℕ, suc, ◌+◌, ◌-◌, ◌≤◌, ◌<◌, Bool, false, ◌||◌, if◌then◌else◌, List, [], ◌∷◌, ◌++◌, length, take, drop, set, get_or, replicate, refl, sym, ap, ap₂, ◌∙◌, subst, arith, length-drop, add-one}
use Rattle.std.proofs.lemmas.List.{length-replicate, replicate-append-replicate, take_at, take_more_set, drop-drop}
use Rattle.std.proofs.Math.Seq.{take-add, take-suc, drop-cons}
use Rattle.pattern_match.specs.Marks.{Walk, ListsPlaces, AreEnded, first_place_or, past, is_open, IsListed, IsDone, Skips, Starts}
use Rattle.pattern_match.specs.declared.instruction.Instruction.{Instruction}
use Rattle.pattern_match.proofs.Listing.{lists_skip, lists_past}
use Rattle.pattern_match.proofs.Walking.{begins, skip_take, puts}

-- places that list marks list as many that are not set
lists_clear : (from : ℕ) (code : List Instruction) (marks : List Bool) (places : List ℕ) (n : ℕ) → length code ≤ n → ListsPlaces from code marks places → ListsPlaces from code (replicate n false) places
lists_clear from code marks [] n l (more, e, h) =
    (replicate (n - length code) false, ap (λ k. replicate k false) (let z : n ≡ length code + (n - length code) = omega arith in z) ∙ sym (replicate-append-replicate (length code) (n - length code) false), h)
lists_clear from code marks (place ∷ places) n l (unset, mark, later, p, m, e, h, r) = (
  unset,
  false,
  replicate (n - suc unset) false,
  p,
  m,
  ap (λ k. replicate k false) (let z : n ≡ unset + suc (n - suc unset) = omega arith in z) ∙ sym (replicate-append-replicate unset (suc (n - suc unset)) false),
  h,
  lists_clear (place + 1) (drop (suc unset) code) later places (n - suc unset) (let z = length-drop (suc unset) code in omega arith) r,
)

-- it begins with marks none of which is set
pub starts_begin : (code : List Instruction) (first old new : Walk) → IsDone code first → IsListed code old → old.cells ≡ replicate (length code + 1) false → old.at ≡ 0
    → new ≡ record old { ahead = first.behind } → Starts code first new
starts_begin code first old new d h c a e = subst (λ w. Starts code first w) (sym e) (record {
  listed = record {
    long = h.long;
    inside = h.inside;
    behind = h.behind;
    ahead = subst (λ k. ListsPlaces k (drop k code) (drop k old.cells) first.behind) (sym a)
        (subst (λ x. ListsPlaces 0 code x first.behind) (sym c) (lists_clear 0 code first.cells first.behind (length code + 1) (omega arith) g.ahead));
  };
  long = d.listed.long;
  ahead = subst (λ k. ListsPlaces k (drop k code) (drop k first.cells) first.behind) (sym a) g.ahead;
  same = ap₂ (λ j k. take j old.cells) a a ∙ sym (ap (λ k. take k first.cells) a);
})
  where
    g : IsListed code (record { cells = first.cells; at = 0; behind = []; ahead = first.behind })
    g = begins code first (record { cells = first.cells; at = 0; behind = []; ahead = first.behind }) d refl

-- it goes on to the next place that is listed
pub starts_skip : (code : List Instruction) (first old new : Walk) → Starts code first old → Skips code old new → new ≡ record old { at = first_place_or old.ahead (length code) } → Starts code first new
starts_skip code first old new h s e = record {
  listed = s.listed;
  long = h.long;
  ahead = subst (λ x. ListsPlaces new.at (drop new.at code) (drop new.at first.cells) x) (sym (ap (λ w. w.ahead) e))
      (subst (λ k. ListsPlaces k (drop k code) (drop k first.cells) old.ahead) sum
      (subst (λ x. ListsPlaces (old.at + n) x (drop (old.at + n) first.cells) old.ahead) (drop-drop n old.at code)
      (subst (λ x. ListsPlaces (old.at + n) (drop n (drop old.at code)) x old.ahead) (drop-drop n old.at first.cells) l.2)));
  same = skip_take code old new s ∙ ap (λ x. x ++ replicate n false) h.same ∙ sym front;
}
  where
    n : ℕ
    n = new.at - old.at

    sum : old.at + n ≡ new.at
    sum = let z = s.further in omega arith

    end : old.at + length (drop old.at code) ≡ length code
    end = let z = length-drop old.at code in let y = h.listed.inside in omega arith

    l : (drop old.at first.cells ≡ replicate n false ++ drop n (drop old.at first.cells)) × AreEnded n (drop old.at code)
        × ListsPlaces (old.at + n) (drop n (drop old.at code)) (drop n (drop old.at first.cells)) old.ahead
    l = lists_skip old.at (drop old.at code) (drop old.at first.cells) old.ahead n (sum ∙ ap (λ w. w.at) e ∙ ap (λ k. first_place_or old.ahead k) (sym end)) h.ahead

    front : take new.at first.cells ≡ take old.at first.cells ++ replicate n false
    front = ap (λ k. take k first.cells) (sym sum) ∙ take-add old.at n first.cells
        ∙ ap (λ x. take old.at first.cells ++ x) (ap (λ x. take n x) l.0 ∙ take_at (replicate n false) (drop n (drop old.at first.cells)) n (length-replicate n false))

-- one mark is set as the first has it
pub starts_put : (code : List Instruction) (first old new : Walk) (d : Instruction) (listed : Bool) → Starts code first old → old.at < length code → listed ≡ is_open (get_or code old.at d)
    → new.cells ≡ set old.cells old.at (get_or first.cells old.at false) → new.at ≡ old.at + 1
    → new.behind ≡ (if get_or first.cells old.at false || listed then old.behind ++ old.at ∷ [] else old.behind) → new.ahead ≡ past old.at old.ahead → Starts code first new
starts_put code first old new d listed h l o c a b f = record {
  listed = puts code old new d v listed h.listed l o c a b f;
  long = h.long;
  ahead = subst (λ k. ListsPlaces k (drop k code) (drop k first.cells) new.ahead) (sym a)
      (subst (λ x. ListsPlaces (old.at + 1) (drop (old.at + 1) code) (drop (old.at + 1) first.cells) x) (sym f)
      (lists_past old.at i (drop (old.at + 1) code) v (drop (old.at + 1) first.cells) old.ahead
      (subst (λ x. ListsPlaces old.at (i ∷ drop (old.at + 1) code) x old.ahead) marks_are (subst (λ x. ListsPlaces old.at x (drop old.at first.cells) old.ahead) code_is h.ahead))));
  same = ap₂ (λ k x. take k x) a c ∙ take_more_set old.cells old.at v (let z = h.listed.long in omega arith) ∙ ap (λ x. x ++ v ∷ []) h.same
      ∙ sym (ap (λ k. take k first.cells) (a ∙ add-one old.at) ∙ take-suc first.cells old.at false room);
}
  where
    i : Instruction
    i = get_or code old.at d

    v : Bool
    v = get_or first.cells old.at false

    room : old.at < length first.cells
    room = let z = h.long in omega arith

    code_is : drop old.at code ≡ i ∷ drop (old.at + 1) code
    code_is = drop-cons code old.at d l ∙ ap (λ k. i ∷ drop k code) (sym (add-one old.at))

    marks_are : drop old.at first.cells ≡ v ∷ drop (old.at + 1) first.cells
    marks_are = drop-cons first.cells old.at false room ∙ ap (λ k. v ∷ drop k first.cells) (sym (add-one old.at))
