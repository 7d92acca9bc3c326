-- Bytes that come, and a text that they are compared with.
use Rattle.std.proofs.Common.{◌≡◌, ℕ, ◌+◌, Bool, true, List, [], ◌++◌, length, take, drop, Some, Result, Ok, Err, sym, ap, ◌∙◌, append-nil, append_assoc}
use Rattle.std.specs.Bool.{Decides}
use Rattle.std.proofs.Math.Seq.{take-add, take-append_seam, drop-append_seam}
use Rattle.outside.specs.Sink.{PushAppends}
use Rattle.outside.specs.declared.errors.SinkError.{SinkError}

-- where no others came, the next bytes of the text join those that came before
pub next_taken : (text behind bytes others : List ℕ) (count : ℕ) → others ≡ [] → behind ≡ drop count text → behind ≡ bytes ++ drop (length bytes) behind
    → take (count + length bytes) text ++ others ≡ (take count text ++ others) ++ bytes
next_taken text behind bytes others count none is stands =
    let next : take (length bytes) (drop count text) ≡ bytes = ap (take (length bytes)) (sym is ∙ stands) ∙ take-append_seam bytes (drop (length bytes) behind) in
    let joined : take (count + length bytes) text ≡ take count text ++ bytes = take-add count (length bytes) text ∙ ap (λ l. take count text ++ l) next in
    let left : take (count + length bytes) text ++ others ≡ take count text ++ bytes = ap (λ l. take (count + length bytes) text ++ l) none ∙ append-nil (take (count + length bytes) text) ∙ joined in
    let right : take count text ++ others ≡ take count text = ap (λ l. take count text ++ l) none ∙ append-nil (take count text) in
    left ∙ sym (ap (λ l. l ++ bytes) right)

-- what is pushed behind a front is pushed behind both
pub pushed_behind : (front old new both bytes : List ℕ) (result : Result (Unit {0}) SinkError) → front ++ old ≡ both → PushAppends (Some old) (Some new) result bytes
    → PushAppends (Some both) (Some (front ++ new)) result bytes
pushed_behind front old new both bytes (Ok done) is appends = ap (λ l. front ++ l) appends ∙ sym (append_assoc front old bytes) ∙ ap (λ l. l ++ bytes) is
pushed_behind front old new both bytes (Err e) is (n, appends) = (n, ap (λ l. front ++ l) appends ∙ sym (append_assoc front old (take n bytes)) ∙ ap (λ l. l ++ take n bytes) is)

-- of two texts with the same front, the rests are compared
pub rests_compared : (text front rest behind : List ℕ) (same : Bool) → text ≡ front ++ rest → Decides same (rest ≡ behind)
    → (same ≡ true → front ++ behind ≡ text) × (front ++ behind ≡ text → same ≡ true)
rests_compared text front rest behind same is decides = (
  λ t. ap (λ l. front ++ l) (sym (decides.0 t)) ∙ sym is,
  λ e. decides.1 (sym (drop-append_seam front rest) ∙ ap (drop (length front)) (sym is ∙ sym e) ∙ drop-append_seam front behind),
)
