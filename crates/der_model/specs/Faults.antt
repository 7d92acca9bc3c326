-- The first fault of DER: the parts at the front of the bytes that break no rule, and what is wrong behind them.
use Rattle.std.specs.Prelude.{◌≡◌, ℕ, ◌+◌, ◌<◌, true, false, List, [], ◌∷◌, ◌++◌, length, Some, Ok, Err, codes}
use Rattle.lexical_core.specs.Tree.{Tree}
use Rattle.lexical_core.specs.declared.rule.Rule.{Rule}
use Rattle.lexical_core.specs.declared.rule.Rule.TheVariants.{BadTagOctets, BadLengthOctets, Overrun, UnexpectedTag, BadContents, Trailing, DerTruncated}
use Rattle.data_types.specs.Leaf.{Leaf}
use Rattle.der_octets.specs.Octets.{universal}
use Rattle.fragments.specs.Plain.{IsPlain}
use Rattle.reference_check.specs.Words.{UpTo}
use Rattle.der_model.specs.DerMessage.{DerMessage}
use Rattle.der_model.specs.LeafContents.{ContentsUnder}
use Rattle.der_model.specs.Structures.{Spot, Instance, PrimitiveContents, LeafOf, Fragment, Structure, Holds, structure, Component}
use Rattle.der_model.specs.Structures as structures
use Rattle.der_model.specs.States.{Part, Identifier, Length, End, part_octets, DerLevel, State, Start, AwaitsLength, AwaitsContents, Within, Begins, Breaks, is_under, level_answer, Fine, EndBreaks, end_answer, end_from, state_after, innermost_end, IsHeader, Stands}
use Rattle.der_model.specs.States as states
use Rattle.der_model.specs.Paths.{path_of}

-- contents octets are some of the kind that a value holds, or break a rule
abbrev pub IsHeld : {P : Type 0} → DerMessage P → PrimitiveContents → List ℕ → Type 0
IsHeld m (LeafOf simple) octets = (leaf : Leaf) × ContentsUnder simple octets (Ok leaf)
IsHeld m Fragment octets = (tree : Tree) × IsPlain tree × (octets ≡ m.fragment tree)

abbrev pub BreaksContents : {P : Type 0} → DerMessage P → PrimitiveContents → List ℕ → Rule → Type 0
BreaksContents m (LeafOf simple) octets rule = ContentsUnder simple octets (Err rule)
BreaksContents m Fragment octets rule = (rule ≡ BadContents) × ((tree : Tree) → IsPlain tree → octets ≡ m.fragment tree → ⊥)

abbrev pub IsHeldIn : {P : Type 0} → DerMessage P → Structure P → List ℕ → Type 0
IsHeldIn m (Holds contents) octets = IsHeld m contents octets
IsHeldIn m _ octets = ⊥

abbrev pub BreaksIn : {P : Type 0} → DerMessage P → Structure P → List ℕ → Rule → Type 0
BreaksIn m (Holds contents) octets rule = BreaksContents m contents octets rule
BreaksIn m _ octets rule = ⊥

-- the outermost value is a sequence
abbrev pub outermost : {P : Type 0} → DerMessage P → Component P
outermost m = record { constructed = true; tag = universal 16; required = true; label = structures.Element (codes "Document"); spot = Instance }

-- the part, which stands at the place, breaks no rule
abbrev pub IsCleanPart : {P : Type 0} → DerMessage P → State P → ℕ → Part → Type 0
IsCleanPart m Start place (Identifier constructed tag) = is_under (outermost m) constructed tag ≡ true
IsCleanPart {P} m (Within (l ∷ ls)) place (Identifier constructed tag) = (k : ℕ) × (c : Component P) × (level_answer m l constructed tag ≡ Begins k c)
IsCleanPart m state place (Length n) = UpTo (end_from place n) (innermost_end state)
IsCleanPart m (AwaitsContents spot names count around) place (states.Contents octets) = IsHeldIn m (structure m spot) octets
IsCleanPart m (Within (l ∷ ls)) place End = end_answer (structure m l.spot) l.came ≡ Fine
IsCleanPart m state place part = ⊥

-- the part, which stands at the place, breaks this rule, and so much is added to the path
abbrev pub BreaksRule : {P : Type 0} → DerMessage P → State P → ℕ → Part → Rule → List ℕ → Type 0
BreaksRule m Start place (Identifier constructed tag) rule added = (is_under (outermost m) constructed tag ≡ false) × (rule ≡ UnexpectedTag) × (added ≡ [])
BreaksRule m (Within (l ∷ ls)) place (Identifier constructed tag) rule added = level_answer m l constructed tag ≡ Breaks rule added
BreaksRule m state place (Length n) rule added = (UpTo (end_from place n) (innermost_end state) → ⊥) × (rule ≡ Overrun) × (added ≡ [])
BreaksRule m (AwaitsContents spot names count around) place (states.Contents octets) rule added = BreaksIn m (structure m spot) octets rule × (added ≡ [])
BreaksRule m (Within (l ∷ ls)) place End rule added = end_answer (structure m l.spot) l.came ≡ EndBreaks rule added
BreaksRule m state place part rule added = ⊥

-- The bytes from a place on are these parts, which break no rule, and then the rest, which stands at another place in another state.
abbrev pub DerFront : {P : Type 0} → DerMessage P → State P → ℕ → List ℕ → List Part → State P → ℕ → List ℕ → Type 0
DerFront m state place bytes [] last at rest = (state ≡ last) × (place ≡ at) × (bytes ≡ rest)
DerFront m state place bytes (p ∷ ps) last at rest =
    (after : List ℕ) × (bytes ≡ part_octets p ++ after) × Stands state place p × UpTo (place + length (part_octets p)) (innermost_end state) × IsCleanPart m state place p
    × DerFront m (state_after m state place p) (place + length (part_octets p)) after ps last at rest

-- some header that may come next begins with these octets, and has more
pub record IsHeaderFront {P : Type 0} (state : State P) (place : ℕ) (octets : List ℕ) : Type 0 where
  pub more : List ℕ
  pub some : 0 < length more
  pub header : IsHeader state place (octets ++ more)

-- no header that may come next begins with these octets
abbrev pub IsNoHeader : {P : Type 0} → State P → ℕ → List ℕ → Type 0
IsNoHeader state place octets = (more : List ℕ) → IsHeader state place (octets ++ more) → ⊥

-- the rule of a header that no header goes on as
abbrev pub header_rule : {P : Type 0} → State P → Rule
header_rule (AwaitsLength constructed spot names around) = BadLengthOctets
header_rule state = BadTagOctets

-- Behind clean parts, at a place, what stands next breaks the rule; off is how far behind the place the fault stands.
-- broken: a part that breaks the rule. halts: the first octet, within the value, after which no header goes on. overruns: the value ends within a header.
-- cut: the bytes end within a header that goes on. short: the bytes end within the contents. trailing: bytes behind the instance.
pub data NextPart {P : Type 0} (m : DerMessage P) (state : State P) (place : ℕ) (bytes : List ℕ) (rule : Rule) (off : ℕ) (added : List ℕ) : Type 0 where
  broken : (p : Part) (after : List ℕ) → bytes ≡ part_octets p ++ after → Stands state place p → UpTo (place + length (part_octets p)) (innermost_end state) → BreaksRule m state place p rule added → off ≡ 0 → NextPart m state place bytes rule off added
  halts : (shown : List ℕ) (octet : ℕ) (after : List ℕ) → bytes ≡ shown ++ octet ∷ after → UpTo (place + length shown + 1) (innermost_end state) → IsHeaderFront state place shown → IsNoHeader state place (shown ++ octet ∷ []) → rule ≡ header_rule state → off ≡ 0 → added ≡ [] → NextPart m state place bytes rule off added
  overruns : (shown after : List ℕ) → bytes ≡ shown ++ after → innermost_end state ≡ Some (place + length shown) → IsHeaderFront state place shown → rule ≡ Overrun → off ≡ 0 → added ≡ [] → NextPart m state place bytes rule off added
  cut : ((end : ℕ) → innermost_end state ≡ Some end → place + length bytes < end) → IsHeaderFront state place bytes → rule ≡ DerTruncated → off ≡ length bytes → added ≡ [] → NextPart m state place bytes rule off added
  short : (spot : Spot P) (names : List states.PathName) (count : ℕ) (around : List (DerLevel P)) → state ≡ AwaitsContents spot names count around → length bytes < count → rule ≡ DerTruncated → off ≡ length bytes → added ≡ [] → NextPart m state place bytes rule off added
  trailing : state ≡ Within [] → 0 < length bytes → rule ≡ Trailing → off ≡ 0 → added ≡ [] → NextPart m state place bytes rule off added

-- a rule, the place where it is broken, in bytes from the start of the input, and the path there
pub record FaultInDer : Type 0 where
  pub rule : Rule
  pub place : ℕ
  pub path : List ℕ

-- The fault is the first of the bytes, of which the first stands at a place.
pub record DerFaultFrom {P : Type 0} (m : DerMessage P) (base : ℕ) (bytes : List ℕ) (fault : FaultInDer) : Type 0 where
  pub parts : List Part
  pub state : State P
  pub at : ℕ
  pub rest : List ℕ
  pub off : ℕ
  pub added : List ℕ
  pub front : DerFront m Start base bytes parts state at rest
  pub next : NextPart m state at rest fault.rule off added
  pub place : fault.place ≡ at + off
  pub path : fault.path ≡ path_of state ++ added

abbrev pub DerFault : {P : Type 0} → DerMessage P → List ℕ → FaultInDer → Type 0
DerFault m bytes fault = DerFaultFrom m 0 bytes fault

-- The bytes, of which the first stands at a place, are whole parts that break no rule, up to the end of the instance.
pub record IsWholeDerFrom {P : Type 0} (m : DerMessage P) (base : ℕ) (bytes : List ℕ) : Type 0 where
  pub parts : List Part
  pub at : ℕ
  pub front : DerFront m Start base bytes parts (Within []) at []

abbrev pub IsWholeDer : {P : Type 0} → DerMessage P → List ℕ → Type 0
IsWholeDer m bytes = IsWholeDerFrom m 0 bytes
