-- Bytes that stand for themselves.
use Rattle.std.specs.Prelude.{ℕ, Bool, not, nat_le, ◌==◌, ◌&&◌}

-- the byte stands for itself wherever it is, and is no control
abbrev pub is_plain_anywhere : ℕ → Bool
is_plain_anywhere byte = nat_le 32 byte && not (byte == 34) && not (byte == 38) && not (byte == 60) && not (byte == 62)
