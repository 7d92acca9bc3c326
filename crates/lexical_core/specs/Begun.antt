-- The bytes that a step of UTF-8 keeps of a character that is begun (RFC 3629 §4).
use Rattle.std.specs.Prelude.{◌≡◌, ℕ, ◌≤◌, List, [], ◌∷◌, Option, Some, None}
use Rattle.lexical_core.specs.declared.utf8.Begun.{Begun}
use Rattle.lexical_core.specs.declared.utf8.Begun.TheVariants.{Nothing, One, Two, Three, Failed}

-- the bytes of the character that is begun, and None after a bad byte
abbrev pub begun_bytes : Begun → Option (List ℕ)
begun_bytes Nothing = Some []
begun_bytes (One a) = Some (a ∷ [])
begun_bytes (Two a b) = Some (a ∷ b ∷ [])
begun_bytes (Three a b c) = Some (a ∷ b ∷ c ∷ [])
begun_bytes Failed = None

-- a byte after the first two
abbrev pub IsTail : ℕ → Type 0
IsTail byte = (0x80 ≤ byte) × (byte ≤ 0xBF)

-- the second byte after this first one: no overlong form, no surrogate, nothing above U+10FFFF
pub record IsSecond (first byte : ℕ) : Type 0 where
  pub tail : IsTail byte
  pub no_overlong_3 : first ≡ 0xE0 → 0xA0 ≤ byte
  pub no_surrogate : first ≡ 0xED → byte ≤ 0x9F
  pub no_overlong_4 : first ≡ 0xF0 → 0x90 ≤ byte
  pub in_range : first ≡ 0xF4 → byte ≤ 0x8F

-- what is begun can go on: it is a front of some character's bytes
abbrev pub CanGoOn : Begun → Type 0
CanGoOn Nothing = Unit {0}
CanGoOn (One a) = (0xC2 ≤ a) × (a ≤ 0xF4)
CanGoOn (Two a b) = (0xE0 ≤ a) × (a ≤ 0xF4) × IsSecond a b
CanGoOn (Three a b c) = (0xF0 ≤ a) × (a ≤ 0xF4) × IsSecond a b × IsTail c
CanGoOn Failed = Unit {0}
