-- Bytes that a source has told one after another.
use Rattle.std.proofs.Common.{◌≡◌, ℕ, List, ◌++◌, Option, Some, None, refl, sym, ◌∙◌}
use Rattle.std.specs.Io.KnownBytes.{Consumes}

-- known bytes are those taken and those left
pub known : (a b : Option (List ℕ)) (taken bytes : List ℕ) → Consumes a b taken → a ≡ Some bytes → (rest : List ℕ) × (b ≡ Some rest) × (bytes ≡ taken ++ rest)
known None b taken bytes p e = cc
known (Some x) None taken bytes p e = absurd p
known (Some x) (Some y) taken bytes p e = (y, refl, let same : x ≡ bytes = cc in sym same ∙ p)
