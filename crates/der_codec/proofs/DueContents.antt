-- Contents are due at the spot of a primitive value alone, of a type that is there.
use Rattle.std.proofs.Common.{◌≡◌, ℕ, ◌+◌, ◌<◌, true, false, List, [], ◌∷◌, length, refl, sym, ap, subst}
use Rattle.facets.specs.declared.simple.Simple.{Simple}
use Rattle.reference_check.specs.Forms.{text_type}
use Rattle.reference_check.specs.Forms as form
use Rattle.message_model.specs.Sound.{AreLinked}
use Rattle.message_model.specs.Tables.{Tables, types_of}
use Rattle.der_model.specs.DerMessage.{DerMessage, der_message}
use Rattle.der_model.specs.Faults.{DerFront, IsCleanPart}
use Rattle.der_model.specs.OpenParts.{IsPrimitiveSpot}
use Rattle.der_model.specs.Sound.{IsSoundDer}
use Rattle.der_model.specs.States.{Part, Identifier, Length, End, part_octets, DerLevel, State, Start, AwaitsLength, AwaitsContents, Within, begun_state, state_after, Stands}
use Rattle.der_model.specs.States as states
use Rattle.der_model.proofs.PrimitiveSpots.{OfType, begun_of}
use Rattle.der_codec.proofs.KeptChecks.{text_there}

module _ (T : Tables) (sound : IsSoundDer (der_message T)) (linked : AreLinked T) where
  abbrev pub m : DerMessage ℕ
  m = der_message T

  -- a type of this number is there
  abbrev pub IsThere : ℕ → Type 0
  IsThere n = n < length T.types

  abbrev pub AreThere : List (DerLevel ℕ) → Type 0
  AreThere [] = Unit {0}
  AreThere (l ∷ ls) = OfType IsThere l.spot × AreThere ls

  -- Primitive values that have begun are of types that are there, and so are the items of lists that are open.
  abbrev pub IsOfThere : State ℕ → Type 0
  IsOfThere Start = Unit {0}
  IsOfThere (AwaitsLength b spot names around) = OfType IsThere spot × (b ≡ false → IsPrimitiveSpot IsThere m spot) × AreThere around
  IsOfThere (AwaitsContents spot names count around) = IsPrimitiveSpot IsThere m spot × AreThere around
  IsOfThere (Within levels) = AreThere levels

  simple_there : (n : ℕ) (simple : Simple) → types_of T n ≡ form.Simple simple → IsThere n
  simple_there n simple e = text_there T n simple (ap text_type e)

  part_keeps : (s : State ℕ) (place : ℕ) (p : Part) → Stands s place p → IsCleanPart m s place p → IsOfThere s → IsOfThere (state_after m s place p)
  part_keeps Start place (Identifier b t) st cl h = (tt, λ e. absurd cc, tt)
  part_keeps (Within (l ∷ ls)) place (Identifier b t) st (k, c, e) h =
      let good = begun_of m sound IsThere simple_there linked l.spot h.0 l.came b t k c e in
      subst (λ z. IsOfThere (begun_state m l ls b z)) (sym e) (good.0, good.1, h)
  part_keeps (AwaitsLength true spot names around) place (Length n) st cl h = (h.0, h.2)
  part_keeps (AwaitsLength false spot names around) place (Length n) st cl h = (h.1 refl, h.2)
  part_keeps (AwaitsContents spot names count around) place (states.Contents o) st cl h = h.1
  part_keeps (Within (l ∷ ls)) place End st cl h = h.1
  part_keeps s place p st cl h = absurd st

  front_keeps : (s : State ℕ) (place : ℕ) (bytes : List ℕ) (ps : List Part) (state : State ℕ) (at : ℕ) (rest : List ℕ) → DerFront m s place bytes ps state at rest → IsOfThere s → IsOfThere state
  front_keeps s place bytes [] state at rest (p, q, r) h = subst IsOfThere p h
  front_keeps s place bytes (p ∷ ps) state at rest (after, is, st, up, cl, f) h = front_keeps (state_after m s place p) (place + length (part_octets p)) after ps state at rest f (part_keeps s place p st cl h)

  pub due_primitive : (bytes : List ℕ) (ps : List Part) (state : State ℕ) (at : ℕ) (rest : List ℕ) → DerFront m Start 0 bytes ps state at rest → IsOfThere state
  due_primitive bytes ps state at rest f = front_keeps Start 0 bytes ps state at rest f tt
