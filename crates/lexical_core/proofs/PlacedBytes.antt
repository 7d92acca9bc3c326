-- Bytes at places of one buffer, one behind the other.
use Rattle.std.proofs.Common.{◌≡◌, ℕ, ◌+◌, ◌-◌, ◌≤◌, List, ◌++◌, length, take, drop, ap, sym, ◌∙◌, arith, append_assoc, length-append, length-take-le, length-drop, take-add, take-take, take_at, drop_at, take_all, take-append-drop}
use Rattle.lexical_core.specs.Placed.{ArePlaced}

-- what is put second begins where the first ended
pub placed_then : {a b c xs ys : List ℕ} {i j k : ℕ} → ArePlaced a b i xs j → ArePlaced b c j ys k → ArePlaced a c i (xs ++ ys) k
placed_then {a} {b} {c} {xs} {ys} {i} p q = record {
  front = q.front ∙ ap (λ l. l ++ ys) p.front ∙ append_assoc (take i a) xs ys;
  moved = omega (arith, p.moved, q.moved, length-append xs ys);
  size = q.size ∙ p.size;
}

-- only the first bytes of what was put are kept
placed_less : {a b xs : List ℕ} {i j : ℕ} (n : ℕ) → i ≤ length a → n ≤ length xs → ArePlaced a b i xs j → ArePlaced a b i (take n xs) (i + n)
placed_less {a} {b} {xs} {i} {j} n within few p =
    let front = length-take-le i a within in
    record {
      front = sym (take-take (i + n) j b (omega (arith, p.moved))) ∙ ap (take (i + n)) p.front ∙ take-add i n (take i a ++ xs)
          ∙ (λ k. take_at (take i a) xs i front k ++ take n (drop_at (take i a) xs i front k));
      moved = omega (arith, length-take-le n xs few);
      size = p.size;
    }

-- the first and the last of the bytes, laid over each other, are the bytes
pub placed_ends : {a b c : List ℕ} {i j k : ℕ} (bytes : List ℕ) (half : ℕ) → i ≤ length a → half ≤ length bytes → length bytes ≤ half + half
    → ArePlaced a b i (take half bytes) j → ArePlaced b c (i + (length bytes - half)) (take half (drop (length bytes - half) bytes)) k → ArePlaced a c i bytes k
placed_ends {a} {b} {c} {i} {j} {k} bytes half within fits covers p q =
    let last = length bytes - half in
    let both = placed_then (placed_less last within (omega (arith, length-take-le half bytes fits)) p) q in
    let whole : take last (take half bytes) ++ take half (drop last bytes) ≡ bytes =
    (λ x. take-take last half bytes (omega arith) x ++ take_all half (drop last bytes) (omega (arith, length-drop last bytes)) x) ∙ take-append-drop last bytes in
    record { front = both.front ∙ ap (λ l. take i a ++ l) whole; moved = both.moved ∙ ap (λ l. i + length l) whole; size = both.size }
