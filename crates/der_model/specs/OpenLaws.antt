-- What the laws on the earliest fault say.
use Rattle.std.specs.Prelude.{◌↔◌, ℕ, List, [], ◌∷◌, ◌++◌}
use Rattle.lexical_core.specs.declared.rule.Rule.{Rule}
use Rattle.reference_check.specs.Words.{UpTo}
use Rattle.der_model.specs.DerMessage.{DerMessage}
use Rattle.der_model.specs.States.{Part, Length, State, Start, Stands, innermost_end, end_from}
use Rattle.der_model.specs.Faults.{IsCleanPart, BreaksRule, DerFront}
use Rattle.der_model.specs.OpenParts.{ArePartsOpen, without_lengths}

-- a length is within the value round it
abbrev pub KeepsLength : {P : Type 0} → State P → ℕ → Part → Type 0
KeepsLength state place (Length n) = UpTo (end_from place n) (innermost_end state)
KeepsLength state place part = Unit {0}

-- Behind parts that break no rule, one more that stands there, and is no length that is too long, breaks no rule exactly where the parts with it,
-- lengths left aside, go on to those of an instance.
abbrev pub PartIsOpen : {P : Type 0} → DerMessage P → Type 0
PartIsOpen {P} m = (bytes : List ℕ) (parts : List Part) (state : State P) (at : ℕ) (rest : List ℕ) (part : Part) → DerFront m Start 0 bytes parts state at rest → Stands state at part
    → KeepsLength state at part → IsCleanPart m state at part ↔ ArePartsOpen m (without_lengths (parts ++ part ∷ []))

-- A part that breaks a rule, and is no length that is too long, is told at once: with it the parts go on to no instance.
abbrev pub BrokenPartIsNotOpen : {P : Type 0} → DerMessage P → Type 0
BrokenPartIsNotOpen {P} m = (bytes : List ℕ) (parts : List Part) (state : State P) (at : ℕ) (rest : List ℕ) (part : Part) (rule : Rule) (added : List ℕ) → DerFront m Start 0 bytes parts state at rest
    → Stands state at part → KeepsLength state at part → BreaksRule m state at part rule added → ArePartsOpen m (without_lengths (parts ++ part ∷ [])) → ⊥

-- Parts at the front of bytes that break no rule go on to those of an instance.
abbrev pub FrontIsOpen : {P : Type 0} → DerMessage P → Type 0
FrontIsOpen {P} m = (bytes : List ℕ) (parts : List Part) (state : State P) (at : ℕ) (rest : List ℕ) → DerFront m Start 0 bytes parts state at rest → ArePartsOpen m (without_lengths parts)
