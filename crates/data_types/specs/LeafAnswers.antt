-- The leaf that a reference stands for, and what the reader of a leaf's characters answers.
use Rattle.std.specs.Prelude.{◌≡◌, ℕ, List, length, Option, Result, Ok, Err}
use Rattle.lexical_core.specs.declared.rule.Rule.{Rule}
use Rattle.lexical_core.specs.declared.rule.Rule.TheVariants.{BadText, BadLength, Digits}
use Rattle.data_types.specs.declared.kind.Kind.{Kind}
use Rattle.data_types.specs.declared.kind.Kind.TheVariants.{Decimal, Binary}
use Rattle.data_types.specs.declared.leaf.LeafRef.{LeafRef}
use Rattle.data_types.specs.declared.leaf.LeafRef.TheVariants as held
use Rattle.data_types.specs.Leaf.{Leaf, Bytes, Number, Flag, Code, IsLeaf, HasLeafForm, length_of}
use Rattle.data_types.specs.Limits.{IsWithin, IsPast, IsCount}

-- the leaf that a reference stands for
abbrev pub leaf_of : LeafRef → Leaf
leaf_of (held.Bytes bytes) = Bytes bytes.now
leaf_of (held.Number number) = Number number
leaf_of (held.Flag flag) = Flag flag
leaf_of (held.Code place) = Code place

-- the answer on all of the characters under a limit on the length: the leaf that they spell; BadLength where they spell one that is
-- longer; BadText where they have not the form of the kind's texts; Digits where they have, and yet spell no leaf, as a decimal of too
-- many digits
abbrev pub IsLeafAnswer : Kind → Option ℕ → List ℕ → Result LeafRef Rule → Type 0
IsLeafAnswer kind most chars (Ok leaf) = IsLeaf kind chars (leaf_of leaf) × IsWithin most (length_of kind chars (leaf_of leaf))
IsLeafAnswer kind most chars (Err BadLength) = (leaf : Leaf) × IsLeaf kind chars leaf × IsPast most (length_of kind chars leaf)
IsLeafAnswer kind most chars (Err BadText) = HasLeafForm kind chars → ⊥
IsLeafAnswer kind most chars (Err Digits) = (kind ≡ Decimal) × HasLeafForm kind chars × ((leaf : Leaf) → IsLeaf kind chars leaf → ⊥)
IsLeafAnswer kind most chars (Err rule) = ⊥

-- how many octets the characters spell as a binary value, whatever the limit; BadText where they spell none, and of every other kind
abbrev pub IsOctetCount : Kind → List ℕ → Result (Option ℕ) Rule → Type 0
IsOctetCount Binary chars (Ok count) = (octets : List ℕ) × IsLeaf Binary chars (Bytes octets) × IsCount count (length octets)
IsOctetCount Binary chars (Err BadText) = HasLeafForm Binary chars → ⊥
IsOctetCount Binary chars (Err rule) = ⊥
IsOctetCount kind chars result = result ≡ Err BadText
