-- Whether parts of DER, their lengths left aside, can still go on to those of an instance, but for the contents that have not come.
use Rattle.std.specs.Prelude.{◌≡◌, ◌⊎◌, ℕ, suc, ◌+◌, ◌-◌, ◌<◌, ◌≤◌, true, false, List, [], ◌∷◌, ◌++◌, length, Some, slice_get}
use Rattle.der_octets.specs.Octets.{universal, Values, Nothing, Primitive, Constructed}
use Rattle.reference_check.specs.Words.{UpTo}
use Rattle.der_model.specs.DerMessage.{DerMessage}
use Rattle.der_model.specs.Structures.{Spot, Instance, Value, NumberOf, Component, Structure, Holds, Fields, OneOf, Items, is_constructed, number_structure, structure}
use Rattle.der_model.specs.States.{Part, Identifier, Length, End}
use Rattle.der_model.specs.States as states
use Rattle.der_model.specs.Faults.{IsHeldIn}

-- the parts of values, without their length octets
abbrev pub parts_of : Values → List Part
parts_of Nothing = []
parts_of (Primitive tag contents rest) = Identifier false tag ∷ states.Contents contents ∷ parts_of rest
parts_of (Constructed tag inner rest) = Identifier true tag ∷ parts_of inner ++ End ∷ parts_of rest

abbrev pub without_lengths : List Part → List Part
without_lengths [] = []
without_lengths (Identifier constructed tag ∷ ps) = Identifier constructed tag ∷ without_lengths ps
without_lengths (Length n ∷ ps) = without_lengths ps
without_lengths (states.Contents octets ∷ ps) = states.Contents octets ∷ without_lengths ps
without_lengths (End ∷ ps) = End ∷ without_lengths ps

-- The numbers of components in order, of which the first has number k: only those that do not have to come are left out.
abbrev pub AreInOrder : {P : Type 0} → ℕ → List (Component P) → List ℕ → Type 0
AreInOrder k [] d = d ≡ []
AreInOrder k (c ∷ cs) d = ((rest : List ℕ) × (d ≡ k ∷ rest) × AreInOrder (suc k) cs rest) ⊎ ((c.required ≡ false) × AreInOrder (suc k) cs d)

-- the components that a value of this structure may hold, by their numbers: a SEQUENCE, a CHOICE, a SEQUENCE OF within its size
abbrev pub MayHoldComponents : {P : Type 0} → Structure P → List ℕ → Type 0
MayHoldComponents (Fields cs) d = AreInOrder 0 cs d
MayHoldComponents (OneOf cs) d = (k : ℕ) × (d ≡ k ∷ [])
MayHoldComponents (Items s cs) d = (s.min ≤ length d) × UpTo (length d) s.max
MayHoldComponents _ d = d ≡ []

abbrev pub components_of : {P : Type 0} → Structure P → List (Component P)
components_of (Fields cs) = cs
components_of (OneOf cs) = cs
components_of (Items s cs) = cs
components_of _ = []

abbrev pub IsPrimitive : {P : Type 0} → Structure P → Type 0
IsPrimitive (Holds contents) = Unit {0}
IsPrimitive _ = ⊥

-- the spot of a primitive value: of a type that is not constructed, of which this is so; or of the number of an amount
abbrev pub IsPrimitiveSpot : {P : Type 0} → (P → Type 0) → DerMessage P → Spot P → Type 0
IsPrimitiveSpot Has m (Value p) = (is_constructed (m.forms p) ≡ false) × Has p
IsPrimitiveSpot Has m (NumberOf p) = IsPrimitive (number_structure (m.forms p))
IsPrimitiveSpot Has m spot = ⊥

-- The values are those of these components, each under its tag. Of their parts and the end behind them so many have come: contents that have come fit.
abbrev pub ValuesSoFar : {P : Type 0} → DerMessage P → ℕ → Structure P → List ℕ → Values → Type 0
ValuesSoFar m come layout [] Nothing = Unit {0}
ValuesSoFar {P} m come layout (k ∷ d) (Primitive tag contents rest) =
    ((c : Component P) × (slice_get (components_of layout) k ≡ Some c) × (c.constructed ≡ false) × (c.tag ≡ tag)
    × IsPrimitive (structure m c.spot) × (1 < come → IsHeldIn m (structure m c.spot) contents))
    × ValuesSoFar m (come - 2) layout d rest
ValuesSoFar {P} m come layout (k ∷ d) (Constructed tag inner rest) =
    ((c : Component P) × (slice_get (components_of layout) k ≡ Some c) × (c.constructed ≡ true) × (c.tag ≡ tag)
    × (held : List ℕ) × MayHoldComponents (structure m c.spot) held × ValuesSoFar m (come - 1) (structure m c.spot) held inner)
    × ValuesSoFar m (come - (length (parts_of inner) + 2)) layout d rest
ValuesSoFar m come layout _ _ = ⊥

-- The parts, without lengths, go on to those of an instance, in which they break nothing.
pub record ArePartsOpen {P : Type 0} (m : DerMessage P) (parts : List Part) : Type 0 where
  pub held : List ℕ
  pub may_hold : MayHoldComponents (structure m Instance) held
  pub inner : Values
  pub behind : List Part
  pub goes_on : parts ++ behind ≡ parts_of (Constructed (universal 16) inner Nothing)
  pub so_far : ValuesSoFar m (length parts - 1) (structure m Instance) held inner

-- a value of this structure can be filled, its contents left open
abbrev pub HasValues : {P : Type 0} → DerMessage P → Structure P → Type 0
HasValues m layout = (held : List ℕ) × (inner : Values) × MayHoldComponents layout held × ValuesSoFar m 0 layout held inner

abbrev pub IsFilled : {P : Type 0} → DerMessage P → Component P → Type 0
IsFilled m c = ((c.constructed ≡ false) × IsPrimitive (structure m c.spot)) ⊎ ((c.constructed ≡ true) × HasValues m (structure m c.spot))

-- the values that may stand in an instance
pub data Occurs {P : Type 0} (m : DerMessage P) : Spot P → Type 0 where
  outermost : Occurs m Instance
  within : (spot : Spot P) (k : ℕ) (c : Component P) → Occurs m spot → slice_get (components_of (structure m spot)) k ≡ Some c → Occurs m c.spot

-- Each value that may stand in an instance can be filled, and so can the instance.
pub record AreFilled {P : Type 0} (m : DerMessage P) : Type 0 where
  pub instance : HasValues m (structure m Instance)
  pub components : (spot : Spot P) (k : ℕ) (c : Component P) → Occurs m spot → slice_get (components_of (structure m spot)) k ≡ Some c → IsFilled m c
