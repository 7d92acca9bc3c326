-- Which values may stand in a value of the message's DER, whatever their lengths.
use Rattle.std.specs.Prelude.{◌≡◌, ℕ, true, false, List, [], ◌∷◌, length}
use Rattle.der_octets.specs.Octets.{Values, Nothing, Primitive, Constructed, octets, IsShortTag, IsShortLength}
use Rattle.der_model.specs.DerMessage.{DerMessage}
use Rattle.der_model.specs.Structures.{Instance, Component, Structure, structure}
use Rattle.der_model.specs.States.{Begins, Fine, identifier_answer, end_answer}
use Rattle.der_model.specs.Faults.{IsHeldIn}

-- the values may come in a value of this structure behind these components, up to its end
abbrev pub Conforms : {P : Type 0} → DerMessage P → Structure P → List ℕ → Values → Type 0
Conforms m layout came Nothing = end_answer layout came ≡ Fine
Conforms {P} m layout came (Primitive tag contents rest) =
    (k : ℕ) × (c : Component P) × (identifier_answer layout came false tag ≡ Begins k c) × IsHeldIn m (structure m c.spot) contents × Conforms m layout (k ∷ came) rest
Conforms {P} m layout came (Constructed tag inner rest) =
    (k : ℕ) × (c : Component P) × (identifier_answer layout came true tag ≡ Begins k c) × Conforms m (structure m c.spot) [] inner × Conforms m layout (k ∷ came) rest

-- tags and lengths are within their limits
abbrev pub AreShort : Values → Type 0
AreShort Nothing = Unit {0}
AreShort (Primitive tag contents rest) = IsShortTag tag × IsShortLength (length contents) × AreShort rest
AreShort (Constructed tag inner rest) = IsShortTag tag × IsShortLength (length (octets inner)) × AreShort inner × AreShort rest

-- the values of an instance
abbrev pub AreInstanceValues : {P : Type 0} → DerMessage P → Values → Type 0
AreInstanceValues m inner = Conforms m (structure m Instance) [] inner
