-- The bytes that a source in memory gives, and those that are left behind them.
use Rattle.std.proofs.Common.{◌≡◌, ℕ, ◌+◌, ◌<◌, List, [], ◌++◌, length, take, drop, sym, ap, ◌∙◌, take-append-drop}
use Rattle.std.proofs.Math.Seq.{drop-drop, drop-nil}

-- what is left is the front of the buffer and what is left then, of which nothing stands where the front is empty
pub left_by_parts : (left all rest buf : List ℕ) (given n : ℕ) → drop given all ≡ left → rest ≡ drop given all → take n buf ≡ take n rest
    → (n ≡ 0 → 0 < length buf → rest ≡ [])
    → (left ≡ take n buf ++ drop (given + n) all) × (n ≡ 0 → 0 < length buf → drop (given + n) all ≡ [])
left_by_parts left all rest buf given n is_left is_rest same ends =
    let behind : drop n rest ≡ drop (given + n) all = ap (drop n) is_rest ∙ drop-drop n given all in (
      sym is_left ∙ sym is_rest ∙ sym (take-append-drop n rest) ∙ (λ i. sym same i ++ behind i),
      λ none some. sym behind ∙ ap (drop n) (ends none some) ∙ drop-nil n,
    )
