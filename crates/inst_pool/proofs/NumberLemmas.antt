-- A number that is set, where those at both ends are kept.
use Rattle.std.proofs.Common.{◌≡◌, ℕ, suc, ◌+◌, ◌-◌, ◌<◌, ◌≤◌, List, [], ◌∷◌, ◌++◌, length, replicate, reverse, take, drop, get_or, set, refl, sym, ap, ◌∙◌, arith, length-append, append_assoc}
use Rattle.std.proofs.Math.Seq.{drop-cons}
use Rattle.std.proofs.lemmas.List.{length-replicate, length-reverse, length-drop, length_push, set-append_left, set-append_right, set_at, set_split, take-append-drop, reverse-append, replicate-append-replicate, replicate_more}
use Rattle.inst_pool.specs.inner.Numbers.{numbers_kept_in}

-- the next one in front
pub set_next : (front : List ℕ) (behind : ℕ) (back wide : List ℕ) (at n : ℕ) → length front ≡ at → at < behind
    → set (numbers_kept_in front behind back wide) at n ≡ numbers_kept_in (front ++ n ∷ []) behind back wide
set_next front behind back wide at n here below =
    let left : ℕ = behind - length (front ++ n ∷ []) in
    let one : behind - length front ≡ suc left = omega (arith, length_push front n) in
    let rest : List ℕ = reverse back ++ wide in
    ap (λ (k : ℕ). set (front ++ (replicate k 0 ++ rest)) at n) one
    ∙ (set_at front 0 (replicate left 0 ++ rest) n at here
    ∙ sym (append_assoc front (n ∷ []) (replicate left 0 ++ rest)))

-- zeros of which the first are in front
joined : (front first second whole rest : List ℕ) → first ++ second ≡ whole → (front ++ first) ++ (second ++ rest) ≡ front ++ (whole ++ rest)
joined front first second whole rest e =
    append_assoc front first (second ++ rest)
    ∙ ap (λ (l : List ℕ). front ++ l) (sym (append_assoc first second rest) ∙ ap (λ (l : List ℕ). l ++ rest) e)

filled : (front : List ℕ) (behind : ℕ) (back wide : List ℕ) (count : ℕ) → length front ≤ count → count ≤ behind
    → numbers_kept_in (front ++ replicate (count - length front) 0) behind back wide ≡ numbers_kept_in front behind back wide
filled front behind back wide count h below =
    let first : List ℕ = replicate (count - length front) 0 in
    let left : behind - length (front ++ first) ≡ behind - count = omega (arith, length-append front first, length-replicate {A = ℕ} (count - length front) 0) in
    let whole : (count - length front) + (behind - count) ≡ behind - length front = omega arith in
    ap (λ (k : ℕ). (front ++ first) ++ (replicate k 0 ++ (reverse back ++ wide))) left
    ∙ joined front first (replicate (behind - count) 0) (replicate (behind - length front) 0) (reverse back ++ wide)
    (replicate-append-replicate (count - length front) (behind - count) 0 ∙ ap (λ (k : ℕ). replicate k 0) whole)

-- one further on in front, with zeros before it
pub set_between : (front : List ℕ) (behind : ℕ) (back wide : List ℕ) (at n : ℕ) → length front ≤ at → at < behind
    → set (numbers_kept_in front behind back wide) at n ≡ numbers_kept_in ((front ++ replicate (at - length front) 0) ++ n ∷ []) behind back wide
set_between front behind back wide at n h below =
    let zeros : List ℕ = replicate (at - length front) 0 in
    ap (λ (l : List ℕ). set l at n) (sym (filled front behind back wide at h (omega arith)))
    ∙ set_next (front ++ zeros) behind back wide at n (omega (arith, length-append front zeros, length-replicate {A = ℕ} (at - length front) 0)) below

-- one more behind
pub set_last : (front : List ℕ) (behind : ℕ) (back wide : List ℕ) (at n : ℕ) → length front ≤ at → at + 1 ≡ behind
    → set (numbers_kept_in front behind back wide) at n ≡ numbers_kept_in front at (back ++ n ∷ []) wide
set_last front behind back wide at n h next =
    let zeros : List ℕ = replicate (at - length front) 0 in
    let rest : List ℕ = reverse back ++ wide in
    let one : (at - length front) + 1 ≡ behind - length front = omega arith in
    ap (λ (l : List ℕ). set l at n) (sym (joined front zeros (0 ∷ []) (replicate (behind - length front) 0) rest (replicate_more (at - length front) 0 ∙ ap (λ (k : ℕ). replicate k 0) one)))
    ∙ (set_at (front ++ zeros) 0 rest n at (omega (arith, length-append front zeros, length-replicate {A = ℕ} (at - length front) 0))
    ∙ (append_assoc front zeros (n ∷ rest)
    ∙ ap (λ (l : List ℕ). front ++ (zeros ++ (l ++ wide))) (sym (reverse-append back (n ∷ [])))))

-- a list that is turned round at one place
turned_at : (l : List ℕ) (n : ℕ) (r : List ℕ) → reverse (l ++ n ∷ r) ≡ reverse r ++ n ∷ reverse l
turned_at l n r =
    reverse-append l (n ∷ r)
    ∙ (ap (λ (t : List ℕ). t ++ reverse l) (reverse-append (n ∷ []) r)
    ∙ append_assoc (reverse r) (n ∷ []) (reverse l))

set_turned : (l : List ℕ) (place at n : ℕ) → place + at + 1 ≡ length l → set (reverse l) at n ≡ reverse (set l place n)
set_turned l place at n e =
    let before : List ℕ = take place l in
    let after : List ℕ = drop (suc place) l in
    let below : place < length l = omega arith in
    let cut : before ++ get_or l place 0 ∷ after ≡ l = ap (λ (t : List ℕ). before ++ t) (sym (drop-cons l place 0 below)) ∙ take-append-drop place l in
    let here : length (reverse after) ≡ at = length-reverse after ∙ (length-drop (suc place) l ∙ omega arith) in
    ap (λ (t : List ℕ). set (reverse t) at n) (sym cut)
    ∙ (ap (λ (t : List ℕ). set t at n) (turned_at before (get_or l place 0) after)
    ∙ (set_at (reverse after) (get_or l place 0) (reverse before) n at here
    ∙ (sym (turned_at before n after)
    ∙ ap (λ (t : List ℕ). reverse t) (sym (set_split l place n below)))))

-- one that is behind already
pub set_back : (front : List ℕ) (behind : ℕ) (back wide : List ℕ) (place at n : ℕ) → length front ≤ behind → behind ≤ at → place + (at - behind) + 1 ≡ length back
    → set (numbers_kept_in front behind back wide) at n ≡ numbers_kept_in front behind (set back place n) wide
set_back front behind back wide place at n apart h e =
    let zeros : List ℕ = replicate (behind - length front) 0 in
    let rest : List ℕ = reverse back ++ wide in
    let k : (at - length front) - (behind - length front) ≡ at - behind = omega arith in
    set-append_right front (zeros ++ rest) (length front) at n refl (omega arith)
    ∙ ap (λ (l : List ℕ). front ++ l)
    (set-append_right zeros rest (behind - length front) (at - length front) n (length-replicate (behind - length front) 0) (omega arith)
    ∙ ap (λ (l : List ℕ). zeros ++ l)
    (ap (λ (i : ℕ). set rest i n) k
    ∙ (set-append_left (reverse back) wide (at - behind) n (omega (arith, length-reverse back))
    ∙ ap (λ (l : List ℕ). l ++ wide) (set_turned back place (at - behind) n e))))
