-- UTF-8 taken a byte at a time, said by the whole lists of bytes that spell characters (RFC 3629 §3).
use Rattle.std.specs.Prelude.{◌≡◌, ℕ, ◌<◌, List, [], ◌∷◌, ◌++◌, ◌⊎◌, length, Option, Some, None, encode_utf8}
use Rattle.std.specs.Char.{IsScalar}
use Rattle.lexical_core.specs.declared.utf8.Utf8.{Utf8}
use Rattle.lexical_core.specs.declared.utf8.Utf8.TheVariants.{More, Char, Bad}

-- the bytes are a front of some character's, and not all of them
pub record IsFront (bytes : List ℕ) : Type 0 where
  pub char : ℕ
  pub rest : List ℕ
  pub scalar : IsScalar char
  pub more : 0 < length rest
  pub spelled : encode_utf8 char ≡ bytes ++ rest

-- no character's bytes begin so
abbrev pub IsNoFront : List ℕ → Type 0
IsNoFront bytes = (c : ℕ) (rest : List ℕ) → IsScalar c → encode_utf8 c ≡ bytes ++ rest → ⊥

-- what one more byte gives: old and new are the bytes of the character that is begun, and None from the first bad byte on
abbrev pub Steps : Option (List ℕ) → ℕ → Utf8 → Option (List ℕ) → Type 0
Steps None byte result new = (result ≡ Bad) × (new ≡ None)
Steps (Some begun) byte (Char c) new = IsScalar c × (encode_utf8 c ≡ begun ++ byte ∷ []) × (new ≡ Some [])
Steps (Some begun) byte More new = IsFront (begun ++ byte ∷ []) × (new ≡ Some (begun ++ byte ∷ []))
Steps (Some begun) byte Bad new = IsNoFront (begun ++ byte ∷ []) × (new ≡ None)

-- one more byte goes on in a text of the characters that P has: it ends one of them, or goes on with one that is begun
abbrev pub Utf8GoesOn : (ℕ → Type 0) → Option (List ℕ) → ℕ → Option (List ℕ) → Type 0
Utf8GoesOn P None byte new = ⊥
Utf8GoesOn P (Some begun) byte new = (IsFront (begun ++ byte ∷ []) × (new ≡ Some (begun ++ byte ∷ [])))
    ⊎ ((c : ℕ) × P c × (encode_utf8 c ≡ begun ++ byte ∷ []) × (new ≡ Some []))

-- one more byte goes on in no such text: no character that P has begins so
abbrev pub Utf8Stops : (ℕ → Type 0) → Option (List ℕ) → ℕ → Type 0
Utf8Stops P None byte = Unit {0}
Utf8Stops P (Some begun) byte = (c : ℕ) (rest : List ℕ) → P c → encode_utf8 c ≡ begun ++ byte ∷ rest → ⊥
