-- What stands at a place stands as well so much further on, where each end of an open value is moved as far.
use Rattle.std.proofs.Common.{◌≡◌, ℕ, ◌+◌, Bool, true, false, List, [], ◌∷◌, ◌++◌, Option, Some, None, refl, ap, arith}
use Rattle.std.specs.Prelude.{◌↔◌}
use Rattle.lexical_core.specs.declared.rule.Rule.{Rule}
use Rattle.reference_check.specs.Words.{UpTo}
use Rattle.der_model.specs.DerMessage.{DerMessage}
use Rattle.der_model.specs.Structures.{Spot}
use Rattle.der_model.specs.States.{Part, Identifier, Length, End, PathName, DerLevel, State, Start, AwaitsLength, AwaitsContents, Within, IdentifierAnswer, Begins, Breaks, level_answer, begun_state, end_from, state_after, level_end, innermost_end, IsHeader, Stands}
use Rattle.der_model.specs.States as states
use Rattle.der_model.specs.Paths.{names_of, path_text, path_of}
use Rattle.der_model.specs.Faults.{IsCleanPart, BreaksRule, IsHeaderFront, IsNoHeader, header_rule}
use Rattle.der_model.specs.MovedPlaces.{moved_levels, moved_state}

-- the path is the same
names_stay : {P : Type 0} (base : ℕ) (ls : List (DerLevel P)) → names_of (moved_levels base ls) ≡ names_of ls
names_stay base [] = refl
names_stay base (l ∷ ls) = ap (λ x. x ++ l.names) (names_stay base ls)

pub path_stays : {P : Type 0} (base : ℕ) (s : State P) → path_of (moved_state base s) ≡ path_of s
path_stays base Start = refl
path_stays base (AwaitsLength b spot names around) = ap (λ x. path_text (x ++ names)) (names_stay base around)
path_stays base (AwaitsContents spot names count around) = ap (λ x. path_text (x ++ names)) (names_stay base around)
path_stays base (Within ls) = ap path_text (names_stay base ls)

-- the ends are moved
abbrev pub moved_end : ℕ → Option ℕ → Option ℕ
moved_end base None = None
moved_end base (Some end) = Some (base + end)

level_moves : {P : Type 0} (base : ℕ) (ls : List (DerLevel P)) → level_end (moved_levels base ls) ≡ moved_end base (level_end ls)
level_moves base [] = refl
level_moves base (l ∷ ls) = refl

pub end_moves : {P : Type 0} (base : ℕ) (s : State P) → innermost_end (moved_state base s) ≡ moved_end base (innermost_end s)
end_moves base Start = refl
end_moves base (AwaitsLength b spot names around) = level_moves base around
end_moves base (AwaitsContents spot names count around) = level_moves base around
end_moves base (Within ls) = level_moves base ls

pub moved_from : (base end : ℕ) (o : Option ℕ) → moved_end base o ≡ Some end → (n : ℕ) × (end ≡ base + n) × (o ≡ Some n)
moved_from base end None e = absurd cc
moved_from base end (Some n) e = (n, cc, refl)

level_within : {P : Type 0} (base n k : ℕ) (ls : List (DerLevel P)) → k ≡ base + n → UpTo n (level_end ls) ↔ UpTo k (level_end (moved_levels base ls))
level_within base n k [] e = (λ u. u, λ u. u)
level_within base n k (l ∷ ls) e = (λ u. omega arith, λ u. omega arith)

pub within_moves : {P : Type 0} (base n k : ℕ) (s : State P) → k ≡ base + n → UpTo n (innermost_end s) ↔ UpTo k (innermost_end (moved_state base s))
within_moves base n k Start e = (λ u. u, λ u. u)
within_moves base n k (AwaitsLength b spot names around) e = level_within base n k around e
within_moves base n k (AwaitsContents spot names count around) e = level_within base n k around e
within_moves base n k (Within ls) e = level_within base n k ls e

end_from_moves : (base place n : ℕ) → end_from (base + place) n ≡ base + end_from place n
end_from_moves base place n = omega arith

-- an instance that has ended, and contents that are due, are so where they are moved
pub over_there : {P : Type 0} (base : ℕ) (s : State P) → moved_state base s ≡ Within [] → s ≡ Within []
over_there base (Within []) e = refl
over_there base (Within (l ∷ ls)) e = absurd cc
over_there base Start e = absurd cc
over_there base (AwaitsLength b spot names around) e = absurd cc
over_there base (AwaitsContents spot names count around) e = absurd cc

pub due_there : {P : Type 0} (base : ℕ) (s : State P) (spot : Spot P) (names : List PathName) (count : ℕ) (around : List (DerLevel P)) → moved_state base s ≡ AwaitsContents spot names count around
    → (outer : List (DerLevel P)) × (s ≡ AwaitsContents spot names count outer)
due_there base (AwaitsContents spot2 names2 count2 outer) spot names count around e = (outer, cc)
due_there base Start spot names count around e = absurd cc
due_there base (AwaitsLength b spot2 names2 outer) spot names count around e = absurd cc
due_there base (Within ls) spot names count around e = absurd cc

header_moves : {P : Type 0} (base place : ℕ) (s : State P) (octets : List ℕ) → IsHeader s place octets ↔ IsHeader (moved_state base s) (base + place) octets
header_moves base place Start octets = (λ h. h, λ h. h)
header_moves base place (AwaitsLength b spot names around) octets = (λ h. h, λ h. h)
header_moves base place (AwaitsContents spot names count around) octets = (λ h. h, λ h. h)
header_moves base place (Within []) octets = (λ h. h, λ h. h)
header_moves base place (Within (l ∷ ls)) octets = (λ h. (omega (arith, h.0), h.1, h.2, h.3, h.4), λ h. (omega (arith, h.0), h.1, h.2, h.3, h.4))

pub same_header_rule : {P : Type 0} (base : ℕ) (s : State P) → header_rule (moved_state base s) ≡ header_rule s
same_header_rule base Start = refl
same_header_rule base (AwaitsLength b spot names around) = refl
same_header_rule base (AwaitsContents spot names count around) = refl
same_header_rule base (Within ls) = refl

pub header_front_moves : {P : Type 0} (base place : ℕ) (s : State P) (octets : List ℕ) → IsHeaderFront s place octets ↔ IsHeaderFront (moved_state base s) (base + place) octets
header_front_moves base place s octets =
    (λ f. record { more = f.more; some = f.some; header = (header_moves base place s (octets ++ f.more)).0 f.header }, λ f. record { more = f.more; some = f.some; header = (header_moves base place s (octets ++ f.more)).1 f.header })

pub no_header_moves : {P : Type 0} (base place : ℕ) (s : State P) (octets : List ℕ) → IsNoHeader s place octets ↔ IsNoHeader (moved_state base s) (base + place) octets
no_header_moves base place s octets = (λ n more h. n more ((header_moves base place s (octets ++ more)).1 h), λ n more h. n more ((header_moves base place s (octets ++ more)).0 h))

pub stands_moves : {P : Type 0} (base place : ℕ) (s : State P) (p : Part) → Stands s place p ↔ Stands (moved_state base s) (base + place) p
stands_moves base place Start (Identifier b t) = (λ h. h, λ h. h)
stands_moves base place (Within (l ∷ ls)) (Identifier b t) = (λ h. (omega (arith, h.0), h.1), λ h. (omega (arith, h.0), h.1))
stands_moves base place (AwaitsLength b spot names around) (Length n) = (λ h. h, λ h. h)
stands_moves base place (AwaitsContents spot names count around) (states.Contents octets) = (λ h. h, λ h. h)
stands_moves base place (Within (l ∷ ls)) End = (λ h. ap (λ z. base + z) h, λ h. omega (arith, h))
stands_moves base place s p = (λ h. absurd h, λ h. absurd h)

module _ {P : Type 0} (m : DerMessage P) where
  pub clean_moves : (base place : ℕ) (s : State P) (p : Part) → Stands s place p → IsCleanPart m s place p ↔ IsCleanPart m (moved_state base s) (base + place) p
  clean_moves base place Start (Identifier b t) h = (λ c. c, λ c. c)
  clean_moves base place (Within (l ∷ ls)) (Identifier b t) h = (λ c. c, λ c. c)
  clean_moves base place (AwaitsLength b spot names around) (Length n) h = level_within base (end_from place n) (end_from (base + place) n) around (end_from_moves base place n)
  clean_moves base place (AwaitsContents spot names count around) (states.Contents octets) h = (λ c. c, λ c. c)
  clean_moves base place (Within (l ∷ ls)) End h = (λ c. c, λ c. c)
  clean_moves base place s p h = absurd h

  pub breaks_moves : (base place : ℕ) (s : State P) (p : Part) (rule : Rule) (added : List ℕ) → Stands s place p → BreaksRule m s place p rule added ↔ BreaksRule m (moved_state base s) (base + place) p rule added
  breaks_moves base place Start (Identifier b t) rule added h = (λ c. c, λ c. c)
  breaks_moves base place (Within (l ∷ ls)) (Identifier b t) rule added h = (λ c. c, λ c. c)
  breaks_moves base place (AwaitsLength b spot names around) (Length n) rule added h =
      let fits = level_within base (end_from place n) (end_from (base + place) n) around (end_from_moves base place n) in
      (λ c. (λ u. c.0 (fits.1 u), c.1, c.2), λ c. (λ u. c.0 (fits.0 u), c.1, c.2))
  breaks_moves base place (AwaitsContents spot names count around) (states.Contents octets) rule added h = (λ c. c, λ c. c)
  breaks_moves base place (Within (l ∷ ls)) End rule added h = (λ c. c, λ c. c)
  breaks_moves base place s p rule added h = absurd h

  begun_moves : (base : ℕ) (l : DerLevel P) (ls : List (DerLevel P)) (b : Bool) (a : IdentifierAnswer P) → begun_state m (record l { end = base + l.end }) (moved_levels base ls) b a ≡ moved_state base (begun_state m l ls b a)
  begun_moves base l ls b (Begins k c) = refl
  begun_moves base l ls b (Breaks rule added) = refl

  -- a part leaves what it leaves, moved
  pub after_moves : (base place : ℕ) (s : State P) (p : Part) → Stands s place p → state_after m (moved_state base s) (base + place) p ≡ moved_state base (state_after m s place p)
  after_moves base place Start (Identifier b t) h = refl
  after_moves base place (Within (l ∷ ls)) (Identifier b t) h = begun_moves base l ls b (level_answer m l b t)
  after_moves base place (AwaitsLength true spot names around) (Length n) h = ap (λ z. Within (record { spot = spot; names = names; came = []; end = z } ∷ moved_levels base around)) (end_from_moves base place n)
  after_moves base place (AwaitsLength false spot names around) (Length n) h = refl
  after_moves base place (AwaitsContents spot names count around) (states.Contents octets) h = refl
  after_moves base place (Within (l ∷ ls)) End h = refl
  after_moves base place s p h = absurd h
