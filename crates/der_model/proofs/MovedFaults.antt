-- The laws on messages that begin at a place of their own: what their octets are, they are wherever they begin.
use Rattle.std.proofs.Common.{◌≡◌, ℕ, ◌+◌, ◌<◌, List, [], ◌∷◌, ◌++◌, length, Some, refl, sym, ap, ◌∙◌, subst, arith, length-append}
use Rattle.lexical_core.specs.declared.rule.Rule.{Rule}
use Rattle.der_model.specs.DerMessage.{DerMessage}
use Rattle.der_model.specs.States.{Part, part_octets, State, Start, Within, state_after, innermost_end}
use Rattle.der_model.specs.Paths.{path_of}
use Rattle.der_model.specs.Faults.{DerFront, NextPart, broken, halts, overruns, cut, short, trailing, FaultInDer, DerFault, DerFaultFrom, IsWholeDer, IsWholeDerFrom}
use Rattle.der_model.specs.MovedPlaces.{moved_levels, moved_state, moved_fault}
use Rattle.der_model.specs.MovedLaws.{FrontMoves, NextPartMoves, PlacesMove, NoFaultBefore, WholeMoves, WholeEnds}
use Rattle.der_model.proofs.OneFault.{next_as}
use Rattle.der_model.proofs.WholeValues.{front_from}
use Rattle.der_model.proofs.MovedPlaces.{path_stays, moved_end, end_moves, moved_from, within_moves, over_there, due_there, same_header_rule, header_front_moves, no_header_moves, stands_moves, clean_moves, breaks_moves, after_moves}

farther : (base place n : ℕ) → base + place + n ≡ base + (place + n)
farther base place n = omega arith

module _ {P : Type 0} (m : DerMessage P) where
  front_to : (base : ℕ) (s : State P) (place : ℕ) (bytes : List ℕ) (ps : List Part) (last : State P) (at : ℕ) (rest : List ℕ) → DerFront m s place bytes ps last at rest → DerFront m (moved_state base s) (base + place) bytes ps (moved_state base last) (base + at) rest
  front_to base s place bytes [] last at rest (p, q, r) = (ap (moved_state base) p, ap (λ z. base + z) q, r)
  front_to base s place bytes (p ∷ ps) last at rest (after, is, h, u, c, f) =
      let n = length (part_octets p) in (
        after,
        is,
        (stands_moves base place s p).0 h,
        (within_moves base (place + n) (base + place + n) s (farther base place n)).0 u,
        (clean_moves m base place s p h).0 c,
        front_from m (state_after m (moved_state base s) (base + place) p) (moved_state base (state_after m s place p)) (base + place + n) (base + (place + n)) after after ps (moved_state base last) (base + at) rest
            (after_moves m base place s p h) (farther base place n) refl (front_to base (state_after m s place p) (place + n) after ps last at rest f),
      )

  -- what a front leaves there is what a front leaves here, moved
  abbrev LeavesMoved : ℕ → State P → ℕ → List ℕ → List Part → State P → ℕ → List ℕ → Type 0
  LeavesMoved base s place bytes ps last at rest = (left : State P) × (end : ℕ) × (last ≡ moved_state base left) × (at ≡ base + end) × DerFront m s place bytes ps left end rest

  front_back : (base : ℕ) (s : State P) (place : ℕ) (bytes : List ℕ) (ps : List Part) (last : State P) (at : ℕ) (rest : List ℕ) → DerFront m (moved_state base s) (base + place) bytes ps last at rest → LeavesMoved base s place bytes ps last at rest
  front_back base s place bytes [] last at rest (p, q, r) = (s, place, sym p, sym q, (refl, refl, r))
  front_back base s place bytes (p ∷ ps) last at rest (after, is, h, u, c, f) =
      let n = length (part_octets p) in
      let here = (stands_moves base place s p).1 h in
      let (left, end, e, d, g) = front_back base (state_after m s place p) (place + n) after ps last at rest
      (front_from m (moved_state base (state_after m s place p)) (state_after m (moved_state base s) (base + place) p) (base + (place + n)) (base + place + n) after after ps last at rest
      (sym (after_moves m base place s p here)) (sym (farther base place n)) refl f) in
      (left, end, e, d, (after, is, here, (within_moves base (place + n) (base + place + n) s (farther base place n)).1 u, (clean_moves m base place s p here).1 c, g))

  pub front_moves : FrontMoves m
  front_moves base s place bytes ps last at rest =
      (front_back base s place bytes ps last at rest, there)
    where
      there : LeavesMoved base s place bytes ps last at rest → DerFront m (moved_state base s) (base + place) bytes ps last at rest
      there (left, end, e, d, f) = subst (λ z. DerFront m (moved_state base s) (base + place) bytes ps z at rest) (sym e) (subst (λ z. DerFront m (moved_state base s) (base + place) bytes ps (moved_state base left) z rest) (sym d) (front_to base s place bytes ps left end rest f))

  next_to : (base : ℕ) (s : State P) (place : ℕ) (bytes : List ℕ) (rule : Rule) (off : ℕ) (added : List ℕ) → NextPart m s place bytes rule off added → NextPart m (moved_state base s) (base + place) bytes rule off added
  next_to base s place bytes rule off added (broken p after is h u b o) =
      let n = length (part_octets p) in
      broken p after is ((stands_moves base place s p).0 h) ((within_moves base (place + n) (base + place + n) s (farther base place n)).0 u) ((breaks_moves m base place s p rule added h).0 b) o
  next_to base s place bytes rule off added (halts shown octet after is u f none r o x) =
      let n = length shown in
      halts shown octet after is ((within_moves base (place + n + 1) (base + place + n + 1) s (omega arith)).0 u) ((header_front_moves base place s shown).0 f) ((no_header_moves base place s (shown ++ octet ∷ [])).0 none) (r ∙ sym (same_header_rule base s)) o x
  next_to base s place bytes rule off added (overruns shown after is l f r o x) =
      overruns shown after is (end_moves base s ∙ (ap (moved_end base) l ∙ ap (λ z. Some z) (sym (farther base place (length shown))))) ((header_front_moves base place s shown).0 f) r o x
  next_to base s place bytes rule off added (cut l f r o x) = cut within ((header_front_moves base place s bytes).0 f) r o x
    where
      within : (end : ℕ) → innermost_end (moved_state base s) ≡ Some end → base + place + length bytes < end
      within end e =
          let (n, same, is) = moved_from base end (innermost_end s) (sym (end_moves base s) ∙ e) in
          let low = l n is in
          omega arith
  next_to base s place bytes rule off added (short spot names count around e low r o x) = short spot names count (moved_levels base around) (ap (moved_state base) e) low r o x
  next_to base s place bytes rule off added (trailing e some r o x) = trailing (ap (moved_state base) e) some r o x

  next_back : (base : ℕ) (s : State P) (place : ℕ) (bytes : List ℕ) (rule : Rule) (off : ℕ) (added : List ℕ) → NextPart m (moved_state base s) (base + place) bytes rule off added → NextPart m s place bytes rule off added
  next_back base s place bytes rule off added (broken p after is h u b o) =
      let n = length (part_octets p) in
      let here = (stands_moves base place s p).1 h in
      broken p after is here ((within_moves base (place + n) (base + place + n) s (farther base place n)).1 u) ((breaks_moves m base place s p rule added here).1 b) o
  next_back base s place bytes rule off added (halts shown octet after is u f none r o x) =
      let n = length shown in
      halts shown octet after is ((within_moves base (place + n + 1) (base + place + n + 1) s (omega arith)).1 u) ((header_front_moves base place s shown).1 f) ((no_header_moves base place s (shown ++ octet ∷ [])).1 none) (r ∙ same_header_rule base s) o x
  next_back base s place bytes rule off added (overruns shown after is l f r o x) =
      let (n, same, here) = moved_from base (base + place + length shown) (innermost_end s) (sym (end_moves base s) ∙ l) in
      overruns shown after is (here ∙ ap (λ z. Some z) (omega (arith, same))) ((header_front_moves base place s shown).1 f) r o x
  next_back base s place bytes rule off added (cut l f r o x) = cut within ((header_front_moves base place s bytes).1 f) r o x
    where
      within : (end : ℕ) → innermost_end s ≡ Some end → place + length bytes < end
      within end e =
          let low = l (base + end) (end_moves base s ∙ ap (moved_end base) e) in
          omega arith
  next_back base s place bytes rule off added (short spot names count around e low r o x) =
      let (outer, here) = due_there base s spot names count around e in
      short spot names count outer here low r o x
  next_back base s place bytes rule off added (trailing e some r o x) = trailing (over_there base s e) some r o x

  pub next_part_moves : NextPartMoves m
  next_part_moves base s place bytes rule off added = (next_to base s place bytes rule off added, next_back base s place bytes rule off added)

  -- a front from the first octet of a message
  start_to : (base : ℕ) (bytes : List ℕ) (ps : List Part) (last : State P) (at : ℕ) (rest : List ℕ) → DerFront m Start 0 bytes ps last at rest → DerFront m Start base bytes ps (moved_state base last) (base + at) rest
  start_to base bytes ps last at rest f = front_from m Start Start base (base + 0) bytes bytes ps (moved_state base last) (base + at) rest refl (omega arith) refl (front_to base Start 0 bytes ps last at rest f)

  start_back : (base : ℕ) (bytes : List ℕ) (ps : List Part) (last : State P) (at : ℕ) (rest : List ℕ) → DerFront m Start base bytes ps last at rest → LeavesMoved base Start 0 bytes ps last at rest
  start_back base bytes ps last at rest f = front_back base Start 0 bytes ps last at rest (front_from m Start Start (base + 0) base bytes bytes ps last at rest refl (omega arith) refl f)

  fault_to : (base : ℕ) (bytes : List ℕ) (f : FaultInDer) → DerFault m bytes f → DerFaultFrom m base bytes (moved_fault base f)
  fault_to base bytes f d = record {
    parts = d.parts;
    state = moved_state base d.state;
    at = base + d.at;
    rest = d.rest;
    off = d.off;
    added = d.added;
    front = start_to base bytes d.parts d.state d.at d.rest d.front;
    next = next_to base d.state d.at d.rest f.rule d.off d.added d.next;
    place = ap (λ z. base + z) d.place ∙ sym (farther base d.at d.off);
    path = d.path ∙ ap (λ z. z ++ d.added) (sym (path_stays base d.state));
  }

  fault_back : (base : ℕ) (bytes : List ℕ) (f : FaultInDer) → DerFaultFrom m base bytes (moved_fault base f) → DerFault m bytes f
  fault_back base bytes f d =
      let (state, at, e, same, front) = start_back base bytes d.parts d.state d.at d.rest d.front in
      let far : base + f.place ≡ d.at + d.off = d.place in
      record {
        parts = d.parts;
        state = state;
        at = at;
        rest = d.rest;
        off = d.off;
        added = d.added;
        front = front;
        next = next_back base state at d.rest f.rule d.off d.added (next_as m (moved_state base state) d.state (base + at) d.at d.rest d.rest f.rule d.off d.added (sym e) (sym same) refl d.next);
        place = omega arith;
        path = d.path ∙ ap (λ z. z ++ d.added) (ap path_of e ∙ path_stays base state);
      }

  pub places_move : PlacesMove m
  places_move base bytes f = (fault_to base bytes f, fault_back base bytes f)

  pub no_fault_before : NoFaultBefore m
  no_fault_before base bytes f d =
      let (state, at, e, same, front) = start_back base bytes d.parts d.state d.at d.rest d.front in
      let far = d.place in
      omega arith

  pub whole_moves : WholeMoves m
  whole_moves base bytes = (there, here)
    where
      there : IsWholeDer m bytes → IsWholeDerFrom m base bytes
      there w = record { parts = w.parts; at = base + w.at; front = start_to base bytes w.parts (Within []) w.at [] w.front }

      here : IsWholeDerFrom m base bytes → IsWholeDer m bytes
      here w =
          let (left, at, e, same, front) = start_back base bytes w.parts (Within []) w.at [] w.front in
          record { parts = w.parts; at = at; front = subst (λ z. DerFront m Start 0 bytes w.parts z at []) (over_there base left (sym e)) front }

  -- a front ends as far on as it has octets
  end_of_front : (s : State P) (place : ℕ) (bytes : List ℕ) (ps : List Part) (last : State P) (at : ℕ) (rest : List ℕ) → DerFront m s place bytes ps last at rest → at + length rest ≡ place + length bytes
  end_of_front s place bytes [] last at rest (p, q, r) = (let size = ap length r in omega arith)
  end_of_front s place bytes (p ∷ ps) last at rest (after, is, h, u, c, f) =
      let size = ap length is in
      let sum = length-append (part_octets p) after in
      let more = end_of_front (state_after m s place p) (place + length (part_octets p)) after ps last at rest f in
      omega arith

  pub whole_ends : WholeEnds m
  whole_ends base bytes w = (let size = end_of_front Start base bytes w.parts (Within []) w.at [] w.front in omega arith)
