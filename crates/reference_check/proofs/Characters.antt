-- Bytes have no more characters than they are.
use Rattle.std.proofs.Common.{ℕ, zero, suc, ◌≤◌, ◌+◌, ◌*◌, ◌-◌, List, [], ◌∷◌, length, arith}
use Rattle.std.specs.Str.{chars, chars_after, continuation_len, lead_bits}

fewer_after : (n c : ℕ) (bs : List ℕ) → length (chars_after n c bs) ≤ suc (length bs)
fewer_after zero c [] = omega arith
fewer_after zero c (b ∷ bs) = let rest = fewer_after (continuation_len b) (lead_bits b) bs in omega (arith, rest)
fewer_after (suc n) c [] = omega arith
fewer_after (suc n) c (b ∷ bs) = let rest = fewer_after n (c * 64 + (b - 128)) bs in omega (arith, rest)

pub fewer_characters : (bs : List ℕ) → length (chars bs) ≤ length bs
unfolding chars
fewer_characters [] = omega arith
fewer_characters (b ∷ bs) = fewer_after (continuation_len b) (lead_bits b) bs
