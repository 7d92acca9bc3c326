-- Rows of marks that stand one after another.
use Rattle.std.proofs.Common.{◌≡◌, Some, ℕ, zero, suc, ◌+◌, ◌*◌, ◌<◌, ◌≤◌, Bool, List, [], ◌∷◌, ◌++◌, length, take, drop, get_or, refl, sym, ap, ap₂, ◌∙◌, subst, arith, take_all, length-append}
use Rattle.std.proofs.Math.Nat.{suc-mul}
use Rattle.std.proofs.Math.Seq.{get_or-append_seam}
use Rattle.std.proofs.lemmas.List.{length-drop, take-append-le, drop-append-le, drop-drop}
use Rattle.pattern_match.specs.Recall.{rows_of}
use Rattle.pattern_match.proofs.Recalling.{here}

pub count_rows : (count width : ℕ) (cells : List Bool) → length (rows_of count width cells) ≡ count
count_rows zero width cells = refl
count_rows (suc n) width cells = ap (λ k. suc k) (count_rows n width (drop width cells))

pub row_at : (count width : ℕ) (cells : List Bool) (at : ℕ) → at < count → get_or (rows_of count width cells) at [] ≡ take width (drop (at * width) cells)
row_at zero width cells at lt = absurd (omega (arith, lt))
row_at (suc n) width cells zero lt = let none : 0 ≡ 0 * width = omega arith in ap (λ k. take width (drop k cells)) none
row_at (suc n) width cells (suc at) lt =
    let step = suc-mul at width in
    let next : width + at * width ≡ suc at * width = omega (arith, step) in
    row_at n width (drop width cells) at (omega (arith, lt))
    ∙ ap (take width) (drop-drop (at * width) width cells ∙ ap (λ k. drop k cells) next)

pub one_row_more : (count width : ℕ) (cells marks : List Bool) → length cells ≡ count * width → length marks ≡ width
    → rows_of (suc count) width (cells ++ marks) ≡ rows_of count width cells ++ marks ∷ []
one_row_more zero width [] marks long same = ap (λ r. r ∷ []) (subst (λ k. take k marks ≡ marks) same (take_all (length marks) marks (omega arith)))
one_row_more zero width (cell ∷ cells) marks long same = absurd (omega (arith, long))
one_row_more (suc n) width cells marks long same =
    let step = suc-mul n width in
    let fits : width ≤ length cells = omega (arith, step, long) in
    let rest : length (drop width cells) ≡ n * width = let left = length-drop width cells in omega (arith, step, long, left) in
    ap₂ (λ r rs. r ∷ rs) (take-append-le width cells marks fits)
    (ap (rows_of (suc n) width) (drop-append-le width cells marks fits) ∙ one_row_more n width (drop width cells) marks rest same)

-- one row more behind the rows that there are
pub one_kept : (count width : ℕ) (cells marks new : List Bool) → new ≡ cells ++ marks → length cells ≡ count * width → length marks ≡ width
    → rows_of (count + 1) width new ≡ rows_of count width cells ++ marks ∷ []
one_kept count width cells marks new grown long same =
    let next : count + 1 ≡ suc count = omega arith in
    ap₂ (λ n t. rows_of n width t) next grown ∙ one_row_more count width cells marks long same

-- it has the number of those before
pub kept_row : (new rows : List (List Bool)) (marks : List Bool) (count : ℕ) → new ≡ rows ++ marks ∷ [] → length rows ≡ count
    → (s : ℕ) → Some count ≡ Some s → (s < length new) × (get_or new s [] ≡ marks)
kept_row new rows marks count grown is =
    let size = length-append rows (marks ∷ []) in
    here (record { rows = new; table = [] }) count marks (subst (λ r. count < length r) (sym grown) (omega (arith, size, is)))
    (ap (λ r. get_or r count []) grown ∙ subst (λ n. get_or (rows ++ marks ∷ []) n [] ≡ marks) is (get_or-append_seam rows marks [] []))
