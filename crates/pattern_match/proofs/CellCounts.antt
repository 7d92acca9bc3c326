-- How many cells have an instruction, where one cell is written.
use Rattle.std.proofs.Common.{◌≡◌, ℕ, zero, suc, ◌+◌, ◌-◌, ◌<◌, Bool, false, Option, Some, None, List, [], ◌∷◌, ◌++◌, length, take, drop, set, get_or, refl, sym, ap, ap₂, ◌∙◌, subst, arith, length-append}
use Rattle.std.proofs.lemmas.List.{length-take-le, length-set}
use Rattle.std.proofs.Math.Seq.{drop-cons}
use Rattle.pattern_match.specs.declared.instruction.Instruction.{Instruction}
use Rattle.pattern_match.specs.declared.instruction.Place.{Place}
use Rattle.pattern_match.specs.Building.{is_item}
use Rattle.pattern_match.specs.inner.Drafting.{live, Leads, flagged_cell, flagged_cells, lift_group, IsPlace, IsGroup}
use Rattle.pattern_match.proofs.DraftLemmas.{live_append, live_le, live_split, set_made_live}

-- the cells that are empty and those that are not
abbrev pub Counts : ℕ → List (Option Instruction) → Type 0
Counts holes cells = holes + length (live cells) ≡ length cells

pub flagged_at : (o r : Bool) (cells : List (Option Instruction)) (k : ℕ) (d : Option Instruction) → k < length cells
    → set cells k (flagged_cell o r (get_or cells k d)) ≡ take k cells ++ flagged_cells o r (drop k cells)
flagged_at o r [] k d l = absurd (omega arith)
flagged_at o r (c ∷ cells) zero d l = refl
flagged_at o r (c ∷ cells) (suc k) d l = ap (λ xs. c ∷ xs) (flagged_at o r cells k d (omega arith))

flagged_live_length : (o r : Bool) (cells : List (Option Instruction)) (k : ℕ) (d : Option Instruction)
    → length (live (set cells k (flagged_cell o r (get_or cells k d)))) ≡ length (live cells)
flagged_live_length o r [] k d = refl
flagged_live_length o r (None ∷ cells) zero d = refl
flagged_live_length o r (Some i ∷ cells) zero d = refl
flagged_live_length o r (None ∷ cells) (suc k) d = flagged_live_length o r cells k d
flagged_live_length o r (Some i ∷ cells) (suc k) d = ap suc (flagged_live_length o r cells k d)

pub flagged_counts : (o r : Bool) (cells : List (Option Instruction)) (k : ℕ) (c d : Option Instruction) (holes : ℕ) → c ≡ flagged_cell o r (get_or cells k d)
    → Counts holes cells → Counts holes (set cells k c)
flagged_counts o r cells k c d holes e h =
    ap (λ x. holes + length (live (set cells k x))) e ∙ ap (λ n. holes + n) (flagged_live_length o r cells k d) ∙ h ∙ sym (length-set cells k c)

pub pushed_counts : (cells new : List (Option Instruction)) (i : Instruction) (holes : ℕ) → new ≡ cells ++ Some i ∷ [] → Counts holes cells → Counts holes new
pushed_counts cells new i holes e h =
    let a = length-append cells (Some i ∷ []) in
    let b : length (live new) ≡ length (live cells) + 1 =
    ap (λ x. length (live x)) e ∙ ap (λ x. length x) (live_append cells (Some i ∷ [])) ∙ length-append (live cells) (i ∷ []) in
    let c = ap (λ x. length x) e in
    omega arith

pub cut_counts : (cells new : List (Option Instruction)) (p : Place) → IsPlace cells p → new ≡ take p.cell cells → Counts (p.cell - p.count) new
cut_counts cells new p h e =
    let a : length new ≡ p.cell = ap (λ x. length x) e ∙ length-take-le p.cell cells h.within in
    let b : length (live new) ≡ p.count = ap (λ x. length (live x)) e ∙ sym h.count in
    let c = live_le new in
    omega arith

pub marked_counts : (cells : List (Option Instruction)) (p : Place) (i : Instruction) (holes : ℕ) → IsPlace cells p → Counts holes cells
    → Counts holes (set cells p.cell (Some i))
marked_counts cells p i holes h c =
    ap (λ x. holes + length x) (set_made_live cells p i h) ∙ ap (λ n. holes + n) (length-set (live cells) p.count i) ∙ c ∙ sym (length-set cells p.cell (Some i))

-- an item that is lifted
pub lifted_at : (e : Bool) (cells : List (Option Instruction)) (k : ℕ) (d : Option Instruction) → suc k < length cells
    → set (set cells k (flagged_cell e false (get_or cells (suc k) d))) (suc k) None ≡ take k cells ++ lift_group e (drop (suc k) cells)
lifted_at e [] k d l = absurd (omega arith)
lifted_at e (c ∷ []) k d l = absurd (omega arith)
lifted_at e (c ∷ x ∷ cells) zero d l = refl
lifted_at e (c ∷ x ∷ cells) (suc k) d l = ap (λ xs. c ∷ xs) (lifted_at e (x ∷ cells) k d (omega arith))

lifted_live_length : (e : Bool) (cells : List (Option Instruction)) (k : ℕ) (d : Option Instruction) → suc k < length cells → Leads (drop k cells) → Leads (drop (suc k) cells)
    → suc (length (live (set (set cells k (flagged_cell e false (get_or cells (suc k) d))) (suc k) None))) ≡ length (live cells)
lifted_live_length e [] k d l h n = absurd (omega arith)
lifted_live_length e (c ∷ []) k d l h n = absurd (omega arith)
lifted_live_length e (None ∷ x ∷ cells) zero d l h n = absurd h
lifted_live_length e (Some c ∷ None ∷ cells) zero d l h n = absurd n
lifted_live_length e (Some c ∷ Some x ∷ cells) zero d l h n = refl
lifted_live_length e (None ∷ x ∷ cells) (suc k) d l h n = lifted_live_length e (x ∷ cells) k d (omega arith) h n
lifted_live_length e (Some c ∷ x ∷ cells) (suc k) d l h n = ap suc (lifted_live_length e (x ∷ cells) k d (omega arith) h n)

abbrev pub Lifts : Bool → List (Option Instruction) → Place → Option Instruction → Type 0
Lifts e cells p c = (new : List (Option Instruction)) → new ≡ set (set cells p.cell c) (p.cell + 1) None
    → (new ≡ take p.cell cells ++ lift_group e (drop (p.cell + 1) cells)) × (length (live new) ≡ length (live cells) - 1)

pub lifts : (e : Bool) (cells : List (Option Instruction)) (p : Place) (c d : Option Instruction) → IsGroup cells p → p.cell + 1 < length cells
    → c ≡ flagged_cell e false (get_or cells (p.cell + 1) d) → Lifts e cells p c
lifts e cells p c d h l f new n =
    let s : p.cell + 1 ≡ suc p.cell = omega arith in
    let g : new ≡ set (set cells p.cell (flagged_cell e false (get_or cells (suc p.cell) d))) (suc p.cell) None =
    n ∙ ap (λ x. set (set cells p.cell x) (p.cell + 1) None) f
    ∙ ap (λ k. set (set cells p.cell (flagged_cell e false (get_or cells k d))) k None) s in
    let k : suc p.cell < length cells = omega arith in
    let m = lifted_live_length e cells p.cell d k h.place_is.leads (subst (λ x. Leads (drop x cells)) s h.inside) in
    let z = ap (λ x. length (live x)) g in
    (g ∙ lifted_at e cells p.cell d k ∙ ap (λ x. take p.cell cells ++ lift_group e (drop x cells)) (sym s), omega arith)

-- the item of a group
rest_count : (cells : List (Option Instruction)) (k : ℕ) → Leads (drop k cells) → k < length cells → length (live (drop k cells)) ≡ suc (length (live (drop (suc k) cells)))
rest_count [] k h l = absurd (omega arith)
rest_count (None ∷ cells) zero h l = absurd h
rest_count (Some i ∷ cells) zero h l = refl
rest_count (c ∷ cells) (suc k) h l = rest_count cells k h (omega arith)

pub item_behind : (cells : List (Option Instruction)) (p : Place) (first : Instruction) (d : Option Instruction) (n : ℕ) → IsGroup cells p → p.cell + 1 < length cells
    → Some first ≡ get_or cells (p.cell + 1) d → n ≡ length (live cells) - p.count - 2
    → (b : Bool) → ((code : List Instruction) → length code ≡ n → b ≡ is_item (first ∷ code)) → b ≡ is_item (live (drop (p.cell + 1) cells))
item_behind cells p first d n h l f e b k =
    k (live (drop (p.cell + 1 + 1) cells)) size ∙ ap is_item (sym code)
  where
    next : suc (p.cell + 1) ≡ p.cell + 1 + 1
    next = omega arith

    cons : drop (p.cell + 1) cells ≡ Some first ∷ drop (p.cell + 1 + 1) cells
    cons = drop-cons cells (p.cell + 1) d l ∙ ap₂ (λ x m. x ∷ drop m cells) (sym f) next

    code : live (drop (p.cell + 1) cells) ≡ first ∷ live (drop (p.cell + 1 + 1) cells)
    code = ap live cons

    one : suc p.cell ≡ p.cell + 1
    one = omega arith

    size : length (live (drop (p.cell + 1 + 1) cells)) ≡ n
    size =
        let a = ap (λ x. length x) (live_split cells p.cell) in
        let b = length-append (live (take p.cell cells)) (live (drop p.cell cells)) in
        let c = h.place_is.count in
        let r = rest_count cells p.cell h.place_is.leads (omega arith) in
        let s = ap (λ j. length (live (drop j cells))) one in
        let t = ap (λ x. length x) code in
        omega arith
