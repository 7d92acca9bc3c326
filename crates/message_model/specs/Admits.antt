-- Which values the types of a message admit (ISO 20022-1). No element has too few or too many of a slot, each leaf fits its facets, and an envelope has a tree that XML can spell.
use Rattle.std.specs.Prelude.{◌≡◌, ℕ, List, [], ◌∷◌, Some, slice_get}
use Rattle.data_types.specs.Leaf as leaf
use Rattle.data_types.specs.Leaf.{Leaf}
use Rattle.data_types.specs.Value.{Value, Children, Nothing, Child}
use Rattle.data_types.specs.Value as value
use Rattle.facets.specs.LeafUnder.{Fits}
use Rattle.facets.specs.declared.simple.Simple.{Simple}
use Rattle.fragments.specs.Plain.{IsPlain}
use Rattle.reference_check.specs.Forms.{Graph, Form, Slot}
use Rattle.reference_check.specs.Forms as form
use Rattle.reference_check.specs.Words.{IsSequence, IsChoice}

-- the slots of the children, in order
abbrev pub numbers_of : Children → List ℕ
numbers_of Nothing = []
numbers_of (Child slot value rest) = slot ∷ numbers_of rest

-- the leaf fits the simple type of a code
abbrev pub FitsCode : {P : Type 0} → Form P Simple → Leaf → Type 0
FitsCode (form.Simple simple) l = Fits simple l
FitsCode _ l = ⊥

abbrev mutual
  -- a type of this form admits the value
  pub AdmitsAs : {P : Type 0} → Graph P Simple → Form P Simple → Value → Type 0
  AdmitsAs types (form.Sequence slots) (value.Component children) = IsSequence slots (numbers_of children) × AdmitsChildren types slots children
  AdmitsAs types (form.Choice slots) (value.Component children) = IsChoice slots (numbers_of children) × AdmitsChildren types slots children
  AdmitsAs types (form.Simple simple) (value.Simple l) = Fits simple l
  AdmitsAs types (form.Money code number) (value.Amount l n) = FitsCode (types code) l × Fits number (leaf.Number n)
  AdmitsAs types form.Envelope (value.External tree) = IsPlain tree
  AdmitsAs types _ _ = ⊥

  -- each child is admitted by the type that its slot leads to
  pub AdmitsChildren : {P : Type 0} → Graph P Simple → List (Slot P) → Children → Type 0
  AdmitsChildren types slots Nothing = Unit {0}
  AdmitsChildren {P} types slots (Child k v rest) =
      ((s : Slot P) × (slice_get slots k ≡ Some s) × AdmitsAs types (types s.target) v) × AdmitsChildren types slots rest
