-- In a message that breaks no rule of its repository a fault is told at its part.
use Rattle.std.proofs.Common.{◌≡◌, ◌⊎◌, ℕ, ◌≤◌, List, [], ◌∷◌, subst, arith, inl, inr}
use Rattle.lexical_core.specs.Rules.{number_of}
use Rattle.lexical_core.specs.declared.rule.Rule.{Rule}
use Rattle.lexical_core.specs.declared.rule.Rule.TheVariants.{BadTagOctets, BadLengthOctets, Overrun, Trailing, DerTruncated}
use Rattle.fragments.specs.Fragment.{fragment}
use Rattle.repo_objects.specs.Repository.{Contents}
use Rattle.reference_check.specs.Laws.{ReadyAreFinite}
use Rattle.reference_check.specs.Shapes.{AreFinite}
use Rattle.message_model.specs.Compiled.{Compiles, IsReachedList}
use Rattle.message_model.specs.Laws.{CompiledAreSound}
use Rattle.message_model.specs.Ready.{IsReady}
use Rattle.message_model.specs.Tables.{Tables, types_of}
use Rattle.message_model.proofs.CompiledFinite.{tables_finite}
use Rattle.der_model.specs.DerMessage.{DerMessage, der_message}
use Rattle.der_model.specs.Faults.{FaultInDer, DerFault, NextPart, broken, halts, overruns, cut, short, trailing, BreaksRule, header_rule}
use Rattle.der_model.specs.Laws.{TablesAreSound}
use Rattle.der_model.specs.OpenLaws.{PartIsOpen, BrokenPartIsNotOpen, FrontIsOpen, KeepsLength}
use Rattle.der_model.specs.Sound.{IsSoundDer, TellsApart}
use Rattle.der_model.specs.States as states
use Rattle.der_model.specs.States.{Part, Identifier, Length, End, State, Start, AwaitsLength, AwaitsContents, Within}
use Rattle.der_codec.specs.ReadyLaws.{IsOnValues, IsToldAtPart, ReadyDerTellsAtOnce, ReadyFedDerIsOpen, ReadyFaultIsAtPart}

-- ---- the rules that are not on values

off_values : (n : ℕ) → 28 ≤ n → (33 ≤ n → 38 ≤ n) → ((22 ≤ n) × (n ≤ 27)) ⊎ ((33 ≤ n) × (n ≤ 37)) → ⊥
off_values n low far (inl (a, b)) = omega (arith, low, b)
off_values n low far (inr (a, b)) = (let above = far a in omega (arith, above, b))

-- a rule that is this one, of octets of headers or of the ends of values
no_header : (rule other : Rule) → rule ≡ other → 28 ≤ number_of other → number_of other ≤ 32 → IsOnValues rule → ⊥
no_header rule other e low high on =
    off_values (number_of other) low (λ far. absurd (omega (arith, far, high))) (subst (λ x. ((22 ≤ number_of x) × (number_of x ≤ 27)) ⊎ ((33 ≤ number_of x) × (number_of x ≤ 37))) e on)

-- one on the end of all
no_end : (rule other : Rule) → rule ≡ other → 38 ≤ number_of other → IsOnValues rule → ⊥
no_end rule other e low on =
    off_values (number_of other) (omega (arith, low)) (λ far. low) (subst (λ x. ((22 ≤ number_of x) × (number_of x ≤ 27)) ⊎ ((33 ≤ number_of x) × (number_of x ≤ 37))) e on)

no_octets : {P : Type 0} (state : State P) (rule : Rule) → rule ≡ header_rule state → IsOnValues rule → ⊥
no_octets (AwaitsLength constructed spot names around) rule e on = no_header rule BadLengthOctets e (omega arith) (omega arith) on
no_octets Start rule e on = no_header rule BadTagOctets e (omega arith) (omega arith) on
no_octets (AwaitsContents spot names count around) rule e on = no_header rule BadTagOctets e (omega arith) (omega arith) on
no_octets (Within levels) rule e on = no_header rule BadTagOctets e (omega arith) (omega arith) on

-- ---- a fault of bytes

length_overruns : {P : Type 0} (m : DerMessage P) (state : State P) (at n : ℕ) (rule : Rule) (added : List ℕ) → BreaksRule m state at (Length n) rule added → rule ≡ Overrun
length_overruns m Start at n rule added breaks = breaks.1
length_overruns m (AwaitsLength constructed spot names around) at n rule added breaks = breaks.1
length_overruns m (AwaitsContents spot names count around) at n rule added breaks = breaks.1
length_overruns m (Within []) at n rule added breaks = breaks.1
length_overruns m (Within (l ∷ ls)) at n rule added breaks = breaks.1

-- a part that breaks a rule on values is no length that is too long
keeps_length : {P : Type 0} (m : DerMessage P) (state : State P) (at : ℕ) (part : Part) (rule : Rule) (added : List ℕ) → BreaksRule m state at part rule added → IsOnValues rule → KeepsLength state at part
keeps_length m state at (Identifier constructed tag) rule added breaks on = tt
keeps_length m state at (Length n) rule added breaks on = absurd (no_header rule Overrun (length_overruns m state at n rule added breaks) (omega arith) (omega arith) on)
keeps_length m state at (states.Contents octets) rule added breaks on = tt
keeps_length m state at End rule added breaks on = tt

told_at_part : (m : DerMessage ℕ) → FrontIsOpen m → BrokenPartIsNotOpen m → (bytes : List ℕ) (fault : FaultInDer) → DerFault m bytes fault → IsOnValues fault.rule → IsToldAtPart m bytes fault
told_at_part m open_are not_open bytes fault h on = of_next h.next
  where
    of_next : NextPart m h.state h.at h.rest fault.rule h.off h.added → IsToldAtPart m bytes fault
    of_next (broken part after is stands fits breaks none) = record {
      before = h.parts;
      state = h.state;
      at = h.at;
      rest = h.rest;
      part = part;
      after = after;
      front = h.front;
      rest_is = is;
      stands = stands;
      place = (let place = h.place in omega (arith, place, none));
      goes_on = open_are bytes h.parts h.state h.at h.rest h.front;
      goes_no_further = not_open bytes h.parts h.state h.at h.rest part fault.rule h.added h.front stands (keeps_length m h.state h.at part fault.rule h.added breaks on) breaks;
    }
    of_next (halts shown octet after is fits front stops rule none added) = absurd (no_octets h.state fault.rule rule on)
    of_next (overruns shown after is end front rule none added) = absurd (no_header fault.rule Overrun rule (omega arith) (omega arith) on)
    of_next (cut within front rule off added) = absurd (no_end fault.rule DerTruncated rule (omega arith) on)
    of_next (short spot names count around is few rule off added) = absurd (no_end fault.rule DerTruncated rule (omega arith) on)
    of_next (trailing is some rule none added) = absurd (no_end fault.rule Trailing rule (omega arith) on)

-- ---- of a message that breaks no rule

module _ (compiled : CompiledAreSound) (reached : ReadyAreFinite) (tables : TablesAreSound) (apart : TellsApart fragment) where
  sound_of : (R : Contents) (m : List ℕ) (ids : List (List ℕ)) (T : Tables) → IsReady R m → IsReachedList R m ids → Compiles R m ids T → IsSoundDer (der_message T)
  sound_of R m ids T ready list made = (let s = compiled R m ids T ready list made in tables T s.0 s.1 s.2 s.3 apart)

  finite_of : (R : Contents) (m : List ℕ) (ids : List (List ℕ)) (T : Tables) → IsReady R m → IsReachedList R m ids → Compiles R m ids T → AreFinite (types_of T) 0
  finite_of R m ids T ready list made = tables_finite reached R m ready ids list T made

  pub tells_at_once : ((m : DerMessage ℕ) → IsSoundDer m → AreFinite m.forms m.root → PartIsOpen m) → ReadyDerTellsAtOnce
  tells_at_once law R m ids T ready list made = law (der_message T) (sound_of R m ids T ready list made) (finite_of R m ids T ready list made)

  pub ready_fed_is_open : ((m : DerMessage ℕ) → IsSoundDer m → AreFinite m.forms m.root → FrontIsOpen m) → ReadyFedDerIsOpen
  ready_fed_is_open law R m ids T ready list made checker bytes h =
      let r = h.reading.read in
      law (der_message T) (sound_of R m ids T ready list made) (finite_of R m ids T ready list made) bytes r.parts r.state r.at r.rest r.front

  pub fault_is_at_part : ((m : DerMessage ℕ) → IsSoundDer m → AreFinite m.forms m.root → FrontIsOpen m) → ((m : DerMessage ℕ) → IsSoundDer m → AreFinite m.forms m.root → BrokenPartIsNotOpen m) → ReadyFaultIsAtPart
  fault_is_at_part front_law broken_law R m ids T ready list made bytes fault h on =
      let sound = sound_of R m ids T ready list made in
      let finite = finite_of R m ids T ready list made in
      told_at_part (der_message T) (front_law (der_message T) sound finite) (broken_law (der_message T) sound finite) bytes fault h on
