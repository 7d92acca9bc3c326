-- A fault stays whatever follows, but for one that the bytes end too early; and where parts wait for more there is no other.
use Rattle.std.proofs.Common.{◌≡◌, ◌≢◌, ℕ, ◌+◌, ◌<◌, List, [], ◌∷◌, ◌++◌, length, Some, refl, ap, ◌∙◌, arith, append_assoc, length-append, ◌⊎◌, inl, inr}
use Rattle.lexical_core.specs.declared.rule.Rule.{Rule}
use Rattle.lexical_core.specs.declared.rule.Rule.TheVariants.{DerTruncated}
use Rattle.der_model.specs.DerMessage.{DerMessage}
use Rattle.der_model.specs.Structures.{Spot}
use Rattle.der_model.specs.States.{Part, part_octets, DerLevel, State, Start, AwaitsContents, PathName, state_after, innermost_end}
use Rattle.der_model.specs.Paths.{path_of}
use Rattle.der_model.specs.Faults.{DerFront, IsHeaderFront, NextPart, broken, halts, overruns, cut, short, trailing, FaultInDer, DerFault}
use Rattle.der_model.proofs.SoundMessages.{IsSorted}
use Rattle.der_model.proofs.OneFault.{one_fault}

-- the same parts at the front of more bytes
pub front_more : {P : Type 0} (m : DerMessage P) (s : State P) (place : ℕ) (bytes : List ℕ) (ps : List Part) (last : State P) (at : ℕ) (rest more : List ℕ) → DerFront m s place bytes ps last at rest → DerFront m s place (bytes ++ more) ps last at (rest ++ more)
front_more m s place bytes [] last at rest more (p, q, r) = (p, q, ap (λ z. z ++ more) r)
front_more m s place bytes (p ∷ ps) last at rest more (after, is, h, u, c, f) =
    (after ++ more, ap (λ z. z ++ more) is ∙ append_assoc (part_octets p) after more, h, u, c, front_more m (state_after m s place p) (place + length (part_octets p)) after ps last at rest more f)

next_more : {P : Type 0} (m : DerMessage P) (s : State P) (place : ℕ) (bytes more : List ℕ) (rule : Rule) (off : ℕ) (added : List ℕ) → rule ≢ DerTruncated → NextPart m s place bytes rule off added → NextPart m s place (bytes ++ more) rule off added
next_more m s place bytes more rule off added other (broken p after is h u b o) = broken p (after ++ more) (ap (λ z. z ++ more) is ∙ append_assoc (part_octets p) after more) h u b o
next_more m s place bytes more rule off added other (halts shown octet after is u f none r o x) = halts shown octet (after ++ more) (ap (λ z. z ++ more) is ∙ append_assoc shown (octet ∷ after) more) u f none r o x
next_more m s place bytes more rule off added other (overruns shown after is l f r o x) = overruns shown (after ++ more) (ap (λ z. z ++ more) is ∙ append_assoc shown after more) l f r o x
next_more m s place bytes more rule off added other (trailing e some r o x) = trailing e (let sum = length-append bytes more in omega arith) r o x
next_more m s place bytes more rule off added other (cut l f r o x) = absurd (other r)
next_more m s place bytes more rule off added other (short spot names count around e low r o x) = absurd (other r)

-- a fault stays, whatever follows the bytes
pub fault_stays : {P : Type 0} (m : DerMessage P) (bytes more : List ℕ) (f : FaultInDer) → f.rule ≢ DerTruncated → DerFault m bytes f → DerFault m (bytes ++ more) f
fault_stays m bytes more f other d = record {
  parts = d.parts;
  state = d.state;
  at = d.at;
  rest = d.rest ++ more;
  off = d.off;
  added = d.added;
  front = front_more m Start 0 bytes d.parts d.state d.at d.rest more d.front;
  next = next_more m d.state d.at d.rest more f.rule d.off d.added other d.next;
  place = d.place;
  path = d.path;
}

-- the rest of the bytes waits for more: a header that goes on within the value, or contents that are not whole
abbrev pub Waits : {P : Type 0} → State P → ℕ → List ℕ → Type 0
Waits {P} s place rest =
    (((end : ℕ) → innermost_end s ≡ Some end → place + length rest < end) × IsHeaderFront s place rest)
    ⊎ ((spot : Spot P) × (names : List PathName) × (count : ℕ) × (around : List (DerLevel P)) × (s ≡ AwaitsContents spot names count around) × (length rest < count))

waiting : {P : Type 0} (m : DerMessage P) (s : State P) (place : ℕ) (rest : List ℕ) → Waits s place rest → NextPart m s place rest DerTruncated (length rest) []
waiting m s place rest (inl (l, f)) = cut l f refl refl refl
waiting m s place rest (inr (spot, names, count, around, e, low)) = short spot names count around e low refl refl refl

-- bytes whose rest waits end too early, and have no other fault
pub only_cut : {P : Type 0} (m : DerMessage P) → IsSorted m → (bytes : List ℕ) (ps : List Part) (s : State P) (at : ℕ) (rest : List ℕ) → DerFront m Start 0 bytes ps s at rest → Waits s at rest → (f : FaultInDer) → DerFault m bytes f → f.rule ≡ DerTruncated
only_cut m sorted bytes ps s at rest front waits f d =
    let g : FaultInDer = record { rule = DerTruncated; place = at + length rest; path = path_of s ++ [] } in
    let h : DerFault m bytes g = record { parts = ps; state = s; at = at; rest = rest; off = length rest; added = []; front = front; next = waiting m s at rest waits; place = refl; path = refl } in
    ap (λ (z : FaultInDer). z.rule) (one_fault m sorted bytes f g d h)
