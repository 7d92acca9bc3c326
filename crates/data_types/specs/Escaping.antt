-- How a writer spells the bytes of a text, which it does not take apart into characters.
use Rattle.std.specs.Prelude.{◌≡◌, ℕ, Bool, List, [], ◌∷◌, flat_map}
use Rattle.lexical_core.specs.Escapes.{reference_or}

-- the spelling of a byte in an element's content, and in the value of an attribute
abbrev pub escaped_byte : Bool → ℕ → List ℕ
escaped_byte attribute byte = reference_or attribute byte (byte ∷ [])

abbrev pub escaped_bytes : Bool → List ℕ → List ℕ
escaped_bytes attribute bytes = flat_map (escaped_byte attribute) bytes

-- the byte stands for itself
abbrev pub IsPlainByte : Bool → ℕ → Type 0
IsPlainByte attribute byte = escaped_byte attribute byte ≡ byte ∷ []
