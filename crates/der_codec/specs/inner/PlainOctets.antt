-- Octets that are characters by themselves.
use Rattle.std.specs.Prelude.{ℕ, Bool, ◌&&◌, nat_le}

-- an octet that is a character of XML by itself, from U+0020 to U+007F
abbrev pub is_plain_octet : ℕ → Bool
is_plain_octet octet = nat_le 32 octet && nat_le octet 127
