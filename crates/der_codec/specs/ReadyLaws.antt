-- What the laws on the earliest fault say of a message that breaks no rule of its repository.
use Rattle.std.specs.Prelude.{◌≡◌, ◌⊎◌, ℕ, ◌≤◌, List, [], ◌∷◌, ◌++◌}
use Rattle.lexical_core.specs.Rules.{number_of}
use Rattle.lexical_core.specs.declared.rule.Rule.{Rule}
use Rattle.message_model.specs.OfReady.{OfReady}
use Rattle.der_model.specs.DerMessage.{DerMessage, der_message}
use Rattle.der_model.specs.States.{Part, part_octets, State, Start, Stands}
use Rattle.der_model.specs.Faults.{FaultInDer, DerFault, DerFront}
use Rattle.der_model.specs.OpenParts.{ArePartsOpen, without_lengths}
use Rattle.der_model.specs.OpenLaws.{PartIsOpen}
use Rattle.der_codec.specs.Checking.{HasFedDer}
use Rattle.der_codec.specs.declared.checker.DerChecker.{DerChecker}

-- Behind parts that break no rule, one more that stands there, and is no length that is too long, breaks no rule exactly where the parts with it,
-- lengths left aside, go on to those of an instance.
abbrev pub ReadyDerTellsAtOnce : Type 0
ReadyDerTellsAtOnce = OfReady (λ T. PartIsOpen (der_message T))

-- The parts that a checker was given go on to those of an instance.
abbrev pub ReadyFedDerIsOpen : Type 0
ReadyFedDerIsOpen = OfReady (λ T. (checker : DerChecker) (bytes : List ℕ) (h : HasFedDer checker T bytes) → ArePartsOpen (der_message T) (without_lengths h.reading.read.parts))

-- a rule on leaves, or on which values stand where
abbrev pub IsOnValues : Rule → Type 0
IsOnValues rule = ((22 ≤ number_of rule) × (number_of rule ≤ 27)) ⊎ ((33 ≤ number_of rule) × (number_of rule ≤ 37))

-- The fault is told of a part at its place: those before it, lengths left aside, go on to those of an instance, and with it they go on to none.
pub record IsToldAtPart {P : Type 0} (m : DerMessage P) (bytes : List ℕ) (fault : FaultInDer) : Type 0 where
  pub before : List Part
  pub state : State P
  pub at : ℕ
  pub rest : List ℕ
  pub part : Part
  pub after : List ℕ
  pub front : DerFront m Start 0 bytes before state at rest
  pub rest_is : rest ≡ part_octets part ++ after
  pub stands : Stands state at part
  pub place : fault.place ≡ at
  pub goes_on : ArePartsOpen m (without_lengths before)
  pub goes_no_further : ArePartsOpen m (without_lengths (before ++ part ∷ [])) → ⊥

-- The first fault of bytes, where it is on values, is told so.
abbrev pub ReadyFaultIsAtPart : Type 0
ReadyFaultIsAtPart = OfReady (λ T. (bytes : List ℕ) (fault : FaultInDer) → DerFault (der_message T) bytes fault → IsOnValues fault.rule → IsToldAtPart (der_message T) bytes fault)
