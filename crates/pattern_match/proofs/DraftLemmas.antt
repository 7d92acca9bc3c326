-- Cells of which some are empty, and the code that they have.
use Rattle.std.proofs.Common.{◌≡◌, ℕ, ◌+◌, ◌-◌, ◌≤◌, ◌<◌, Bool, false, Option, Some, None, List, [], ◌∷◌, ◌++◌, length, take, drop, set, refl, sym, ap, ap₂, ◌∙◌, subst, arith, append_assoc, append-nil, length-append, drop-drop}
use Rattle.std.proofs.lemmas.List.{take-append-drop, length-take-le}
use Rattle.std.proofs.Math.Seq.{take-append_seam, drop-append_seam}
use Rattle.std.proofs.Math.ListN.{drop_of_length-le}
use Rattle.lexical_core.proofs.Lists.{same_parts}
use Rattle.pattern_match.specs.declared.instruction.Instruction.{Instruction}
use Rattle.pattern_match.specs.declared.instruction.Place.{Place}
use Rattle.pattern_match.specs.Building.{flagged_first}
use Rattle.pattern_match.specs.inner.Drafting.{live, full_cells, Leads, flagged_cells, lift_group, Loses, IsPlace, IsGroup, IsGroupBegun, KeepsFront}

pub live_append : (xs ys : List (Option Instruction)) → live (xs ++ ys) ≡ live xs ++ live ys
live_append [] ys = refl
live_append (None ∷ xs) ys = live_append xs ys
live_append (Some i ∷ xs) ys = ap (λ zs. i ∷ zs) (live_append xs ys)

pub live_full : (code : List Instruction) → live (full_cells code) ≡ code
live_full [] = refl
live_full (i ∷ code) = ap (λ zs. i ∷ zs) (live_full code)

pub full_append : (a b : List Instruction) → full_cells (a ++ b) ≡ full_cells a ++ full_cells b
full_append [] b = refl
full_append (i ∷ a) b = ap (λ zs. Some i ∷ zs) (full_append a b)

pub full_leads : (code : List Instruction) → Leads (full_cells code)
full_leads [] = tt
full_leads (i ∷ code) = tt

pub leads_append : (xs ys : List (Option Instruction)) → Leads xs → Leads ys → Leads (xs ++ ys)
leads_append [] ys h k = k
leads_append (None ∷ xs) ys h k = absurd h
leads_append (Some i ∷ xs) ys h k = tt

pub live_le : (cells : List (Option Instruction)) → length (live cells) ≤ length cells
live_le [] = omega arith
live_le (None ∷ cells) = let h = live_le cells in omega arith
live_le (Some i ∷ cells) = let h = live_le cells in omega arith

-- the cells before and from a place
pub live_split : (cells : List (Option Instruction)) (k : ℕ) → live cells ≡ live (take k cells) ++ live (drop k cells)
live_split cells k = ap live (sym (take-append-drop k cells)) ∙ live_append (take k cells) (drop k cells)

pub place_take : (cells : List (Option Instruction)) (p : Place) → IsPlace cells p → take p.count (live cells) ≡ live (take p.cell cells)
place_take cells p h =
    ap₂ (λ n xs. take n xs) h.count (live_split cells p.cell) ∙ take-append_seam (live (take p.cell cells)) (live (drop p.cell cells))

pub place_drop : (cells : List (Option Instruction)) (p : Place) → IsPlace cells p → drop p.count (live cells) ≡ live (drop p.cell cells)
place_drop cells p h =
    ap₂ (λ n xs. drop n xs) h.count (live_split cells p.cell) ∙ drop-append_seam (live (take p.cell cells)) (live (drop p.cell cells))

front_length : (cells : List (Option Instruction)) (p : Place) → IsPlace cells p → length (take p.cell cells) ≡ p.cell
front_length cells p h = length-take-le p.cell cells h.within

take_made : (cells rest : List (Option Instruction)) (p : Place) → IsPlace cells p → take p.cell (take p.cell cells ++ rest) ≡ take p.cell cells
take_made cells rest p h =
    subst (λ k. take k (take p.cell cells ++ rest) ≡ take p.cell cells) (front_length cells p h) (take-append_seam (take p.cell cells) rest)

drop_made : (cells rest : List (Option Instruction)) (p : Place) → IsPlace cells p → drop p.cell (take p.cell cells ++ rest) ≡ rest
drop_made cells rest p h =
    subst (λ k. drop k (take p.cell cells ++ rest) ≡ rest) (front_length cells p h) (drop-append_seam (take p.cell cells) rest)

-- what was made from a place on
pub made_keeps : (old new rest : List (Option Instruction)) (p : Place) → IsPlace old p → Leads rest → new ≡ take p.cell old ++ rest → KeepsFront old new p
made_keeps old new rest p h l e =
    let f : take p.cell new ≡ take p.cell old = ap (λ x. take p.cell x) e ∙ take_made old rest p h in record {
      front = f;
      place_is = record {
        within = let a = ap (λ x. length x) e in let b = length-append (take p.cell old) rest in let c = front_length old p h in omega arith;
        count = h.count ∙ ap (λ x. length (live x)) (sym f);
        leads = subst Leads (sym (ap (λ x. drop p.cell x) e ∙ drop_made old rest p h)) l;
      };
    }

pub made_live : (old new rest : List (Option Instruction)) (p : Place) → IsPlace old p → new ≡ take p.cell old ++ rest
    → live new ≡ take p.count (live old) ++ live rest
made_live old new rest p h e = ap live e ∙ live_append (take p.cell old) rest ∙ ap (λ x. x ++ live rest) (sym (place_take old p h))

pub truncated_keeps : (old new : List (Option Instruction)) (p : Place) → IsPlace old p → new ≡ take p.cell old → KeepsFront old new p
truncated_keeps old new p h e = made_keeps old new [] p h tt (e ∙ sym (append-nil (take p.cell old)))

pub truncated_live : (old new : List (Option Instruction)) (p : Place) → IsPlace old p → new ≡ take p.cell old → live new ≡ take p.count (live old)
truncated_live old new p h e = ap live e ∙ sym (place_take old p h)

pub same_keeps : (cells : List (Option Instruction)) (p : Place) → IsPlace cells p → KeepsFront cells cells p
same_keeps cells p h = record { front = refl; place_is = h }

-- flags on the first instruction
pub flagged_live : (o r : Bool) (cells : List (Option Instruction)) → Leads cells → live (flagged_cells o r cells) ≡ flagged_first o r (live cells)
flagged_live o r [] h = refl
flagged_live o r (None ∷ cells) h = absurd h
flagged_live o r (Some i ∷ cells) h = refl

pub flagged_leads : (o r : Bool) (cells : List (Option Instruction)) → Leads cells → Leads (flagged_cells o r cells)
flagged_leads o r [] h = tt
flagged_leads o r (None ∷ cells) h = absurd h
flagged_leads o r (Some i ∷ cells) h = tt

pub lifted_live : (empty : Bool) (cells : List (Option Instruction)) → Leads cells → live (lift_group empty cells) ≡ flagged_first empty false (live cells)
lifted_live empty [] h = refl
lifted_live empty (None ∷ cells) h = absurd h
lifted_live empty (Some i ∷ cells) h = refl

pub lifted_leads : (empty : Bool) (cells : List (Option Instruction)) → Leads cells → Leads (lift_group empty cells)
lifted_leads empty [] h = tt
lifted_leads empty (None ∷ cells) h = absurd h
lifted_leads empty (Some i ∷ cells) h = tt

-- what stands in a group
drop_one : (cells : List (Option Instruction)) → Leads cells → drop 1 (live cells) ≡ live (drop 1 cells)
drop_one [] h = refl
drop_one (None ∷ cells) h = absurd h
drop_one (Some i ∷ cells) h = refl

pub group_drop : (cells : List (Option Instruction)) (p : Place) → IsGroup cells p → drop (p.count + 1) (live cells) ≡ live (drop (p.cell + 1) cells)
group_drop cells p h =
    sym (drop-drop 1 p.count (live cells)) ∙ ap (λ x. drop 1 x) (place_drop cells p h.place_is) ∙ drop_one (drop p.cell cells) h.place_is.leads
    ∙ ap live (drop-drop 1 p.cell cells)

-- an instruction that is put where one stands
pub set_behind : {X : Type 0} (front rest : List X) (a : X) → set (front ++ rest) (length front) a ≡ front ++ set rest 0 a
set_behind [] rest a = refl
set_behind (x ∷ front) rest a = ap (λ zs. x ∷ zs) (set_behind front rest a)

pub set_live : (cells : List (Option Instruction)) (i : Instruction) → Leads cells → live (set cells 0 (Some i)) ≡ set (live cells) 0 i
set_live [] i h = refl
set_live (None ∷ cells) i h = absurd h
set_live (Some j ∷ cells) i h = refl

pub set_leads : (cells : List (Option Instruction)) (i : Instruction) → Leads cells → Leads (set cells 0 (Some i))
set_leads [] i h = tt
set_leads (None ∷ cells) i h = absurd h
set_leads (Some j ∷ cells) i h = tt

pub set_made : (cells : List (Option Instruction)) (p : Place) (i : Instruction) → IsPlace cells p
    → set cells p.cell (Some i) ≡ take p.cell cells ++ set (drop p.cell cells) 0 (Some i)
set_made cells p i h =
    ap₂ (λ xs k. set xs k (Some i)) (sym (take-append-drop p.cell cells)) (sym (front_length cells p h))
    ∙ set_behind (take p.cell cells) (drop p.cell cells) (Some i)

pub set_made_live : (cells : List (Option Instruction)) (p : Place) (i : Instruction) → IsPlace cells p
    → live (set cells p.cell (Some i)) ≡ set (live cells) p.count i
set_made_live cells p i h =
    ap live (set_made cells p i h) ∙ live_append (take p.cell cells) (set (drop p.cell cells) 0 (Some i))
    ∙ ap (λ x. live (take p.cell cells) ++ x) (set_live (drop p.cell cells) i h.leads)
    ∙ sym (set_behind (live (take p.cell cells)) (live (drop p.cell cells)) i)
    ∙ ap₂ (λ xs k. set xs k i) (sym (live_split cells p.cell)) (sym h.count)

-- the last instruction is gone
loses_code : (old new : List (Option Instruction)) → (l : Loses old new) → live old ≡ live new ++ l.last ∷ []
loses_code old new l = ap live l.old_is ∙ live_append new (Some l.last ∷ l.empty) ∙ ap (λ x. live new ++ l.last ∷ x) l.none

pub loses_length : (old new : List (Option Instruction)) → Loses old new → length (live old) ≡ length (live new) + 1
loses_length old new l = ap (λ x. length x) (loses_code old new l) ∙ length-append (live new) (l.last ∷ [])

pub loses_live : (old new : List (Option Instruction)) → Loses old new → live new ≡ take (length (live old) - 1) (live old)
loses_live old new l =
    let n : length (live new) ≡ length (live old) - 1 = let a = loses_length old new l in omega arith in
    sym (take-append_seam (live new) (l.last ∷ [])) ∙ ap₂ (λ k xs. take k xs) n (sym (loses_code old new l))

-- what stands before the last instruction
record Before (front rest mid : List (Option Instruction)) (x : Instruction) (empty : List (Option Instruction)) : Type 0 where
  more : List (Option Instruction)
  mid_is : mid ≡ front ++ more
  rest_is : rest ≡ more ++ Some x ∷ empty

no_live : (front : List (Option Instruction)) (i : Instruction) (inside empty : List (Option Instruction)) → front ++ Some i ∷ inside ≡ empty → live empty ≡ [] → ⊥
no_live front i inside empty e n =
    let a = ap (λ x. length x) (sym (live_append front (Some i ∷ inside)) ∙ ap live e ∙ n) in
    let b = length-append (live front) (i ∷ live inside) in
    absurd (omega arith)

before : (front : List (Option Instruction)) (i : Instruction) (inside mid : List (Option Instruction)) (x : Instruction) (empty : List (Option Instruction))
    → front ++ Some i ∷ inside ≡ mid ++ Some x ∷ empty → live empty ≡ [] → Before front (Some i ∷ inside) mid x empty
before [] i inside mid x empty e n = record { more = mid; mid_is = refl; rest_is = e }
before (c ∷ front) i inside [] x empty e n = absurd (no_live front i inside empty (same_parts c (Some x) (front ++ Some i ∷ inside) empty e).1 n)
before (c ∷ front) i inside (d ∷ mid) x empty e n =
    let t = same_parts c d (front ++ Some i ∷ inside) (mid ++ Some x ∷ empty) e in
    let b = before front i inside mid x empty t.1 n in
    record { more = b.more; mid_is = ap₂ (λ y ys. y ∷ ys) (sym t.0) b.mid_is; rest_is = b.rest_is }

-- the cells that stay
front_leads : (more behind : List (Option Instruction)) → Leads (more ++ behind) → Leads more
front_leads [] behind h = tt
front_leads (None ∷ more) behind h = absurd h
front_leads (Some i ∷ more) behind h = tt

tail_leads : (more behind rest : List (Option Instruction)) → rest ≡ more ++ behind → Leads (drop 1 rest) → Leads (drop 1 more)
tail_leads [] behind rest e h = tt
tail_leads (c ∷ more) behind rest e h = front_leads more behind (subst (λ x. Leads (drop 1 x)) e h)

pub record Kept (old new : List (Option Instruction)) (p : Place) : Type 0 where
  pub keeps : KeepsFront old new p
  pub inside : Leads (drop (p.cell + 1) new)

pub loses_keeps : (old new : List (Option Instruction)) (p : Place) → IsGroupBegun old p → Loses old new → Kept old new p
loses_keeps old new p h l = by (drop p.cell old) refl
  where
    place : IsPlace old p
    place = h.group.place_is

    whole : old ≡ take p.cell old ++ drop p.cell old
    whole = sym (take-append-drop p.cell old)

    inner : Leads (drop 1 (drop p.cell old))
    inner = subst Leads (sym (drop-drop 1 p.cell old)) h.group.inside

    kept : (rest : List (Option Instruction)) → drop p.cell old ≡ rest → Before (take p.cell old) rest new l.last l.empty → Kept old new p
    kept rest e b =
        let k : KeepsFront old new p = made_keeps old new b.more p place (front_leads b.more (Some l.last ∷ l.empty) (subst Leads (e ∙ b.rest_is) place.leads)) b.mid_is in record {
          keeps = k;
          inside = subst Leads (ap (λ x. drop 1 x) (sym (ap (λ x. drop p.cell x) b.mid_is ∙ drop_made old b.more p place)) ∙ drop-drop 1 p.cell new)
              (tail_leads b.more (Some l.last ∷ l.empty) rest b.rest_is (subst (λ x. Leads (drop 1 x)) e inner));
        }

    by : (rest : List (Option Instruction)) → drop p.cell old ≡ rest → Kept old new p
    by [] e =
        absurd (let a = ap (λ x. length x) whole in let b = length-append (take p.cell old) (drop p.cell old) in let c = front_length old p place in let d = ap (λ x. length x) e in let f = h.here in omega arith)
    by (None ∷ inside) e = absurd (subst Leads e place.leads)
    by (Some i ∷ inside) e =
        kept (Some i ∷ inside) e (before (take p.cell old) i inside new l.last l.empty (ap (λ x. take p.cell old ++ x) (sym e) ∙ sym whole ∙ l.old_is) l.none)

pub begun_some : (cells : List (Option Instruction)) (p : Place) → IsGroupBegun cells p → 0 < length (live cells)
begun_some cells p h = by (drop p.cell cells) refl
  where
    by : (rest : List (Option Instruction)) → drop p.cell cells ≡ rest → 0 < length (live cells)
    by [] e =
        absurd (let a = ap (λ x. length x) (take-append-drop p.cell cells) in let b = length-append (take p.cell cells) (drop p.cell cells) in let c = front_length cells p h.group.place_is in let d = ap (λ x. length x) e in let f = h.here in omega arith)
    by (None ∷ rest) e = absurd (subst Leads e h.group.place_is.leads)
    by (Some i ∷ rest) e =
        let a = ap (λ x. length x) (live_split cells p.cell) in
        let b = length-append (live (take p.cell cells)) (live (drop p.cell cells)) in
        let c = ap (λ x. length (live x)) e in
        omega arith

-- a group that is marked
pub marked_live : (old new : List (Option Instruction)) (p : Place) (i last : Instruction) → IsPlace old p → new ≡ set old p.cell (Some i) ++ Some last ∷ []
    → live new ≡ set (live old) p.count i ++ last ∷ []
marked_live old new p i last h e =
    ap live e ∙ live_append (set old p.cell (Some i)) (Some last ∷ []) ∙ ap (λ x. x ++ last ∷ []) (set_made_live old p i h)

pub marked_keeps : (old new : List (Option Instruction)) (p : Place) (i last : Instruction) → IsPlace old p → new ≡ set old p.cell (Some i) ++ Some last ∷ []
    → KeepsFront old new p
marked_keeps old new p i last h e =
    made_keeps old new (set (drop p.cell old) 0 (Some i) ++ Some last ∷ []) p h
    (leads_append (set (drop p.cell old) 0 (Some i)) (Some last ∷ []) (set_leads (drop p.cell old) i h.leads) tt)
    (e ∙ ap (λ x. x ++ Some last ∷ []) (set_made old p i h) ∙ append_assoc (take p.cell old) (set (drop p.cell old) 0 (Some i)) (Some last ∷ []))

-- a piece that is copied
pub copied_live : (old mid new : List (Option Instruction)) (p : Place) (code : List Instruction) → IsPlace old p → mid ≡ take p.cell old → new ≡ mid ++ full_cells code
    → live new ≡ take p.count (live old) ++ code
copied_live old mid new p code h m e =
    made_live old new (full_cells code) p h (e ∙ ap (λ x. x ++ full_cells code) m) ∙ ap (λ x. take p.count (live old) ++ x) (live_full code)

pub copied_keeps : (old mid new : List (Option Instruction)) (p : Place) (code : List Instruction) → IsPlace old p → mid ≡ take p.cell old → new ≡ mid ++ full_cells code
    → KeepsFront old new p
copied_keeps old mid new p code h m e = made_keeps old new (full_cells code) p h (full_leads code) (e ∙ ap (λ x. x ++ full_cells code) m)

-- flags on the first instruction of a piece
pub flags_live : (o r : Bool) (old new : List (Option Instruction)) (p : Place) → IsPlace old p → new ≡ take p.cell old ++ flagged_cells o r (drop p.cell old)
    → live new ≡ take p.count (live old) ++ flagged_first o r (drop p.count (live old))
flags_live o r old new p h e =
    made_live old new (flagged_cells o r (drop p.cell old)) p h e
    ∙ ap (λ x. take p.count (live old) ++ x) (flagged_live o r (drop p.cell old) h.leads ∙ ap (flagged_first o r) (sym (place_drop old p h)))

pub flags_keeps : (o r : Bool) (old new : List (Option Instruction)) (p : Place) → IsPlace old p → new ≡ take p.cell old ++ flagged_cells o r (drop p.cell old)
    → KeepsFront old new p
flags_keeps o r old new p h e = made_keeps old new (flagged_cells o r (drop p.cell old)) p h (flagged_leads o r (drop p.cell old) h.leads) e

-- there is nothing from the end on
pub ended_flags : (o r : Bool) (cells : List (Option Instruction)) (p : Place) → IsPlace cells p → length cells ≤ p.cell → live cells ≡ take p.count (live cells) ++ flagged_first o r (drop p.count (live cells))
ended_flags o r cells p h l =
    flags_live o r cells cells p h (sym (take-append-drop p.cell cells) ∙ ap (λ x. take p.cell cells ++ x) (nothing ∙ ap (flagged_cells o r) (sym nothing)))
  where
    nothing : drop p.cell cells ≡ []
    nothing = drop_of_length-le cells l

-- an item that takes the place of its group
pub lift_live : (empty : Bool) (old new : List (Option Instruction)) (p : Place) → IsGroup old p → new ≡ take p.cell old ++ lift_group empty (drop (p.cell + 1) old)
    → live new ≡ take p.count (live old) ++ flagged_first empty false (drop (p.count + 1) (live old))
lift_live empty old new p h e =
    made_live old new (lift_group empty (drop (p.cell + 1) old)) p h.place_is e
    ∙ ap (λ x. take p.count (live old) ++ x) (lifted_live empty (drop (p.cell + 1) old) h.inside ∙ ap (flagged_first empty false) (sym (group_drop old p h)))

pub lift_keeps : (empty : Bool) (old new : List (Option Instruction)) (p : Place) → IsGroup old p → new ≡ take p.cell old ++ lift_group empty (drop (p.cell + 1) old)
    → KeepsFront old new p
lift_keeps empty old new p h e =
    made_keeps old new (lift_group empty (drop (p.cell + 1) old)) p h.place_is (lifted_leads empty (drop (p.cell + 1) old) h.inside) e
