-- No more components have come in an open value than octets in all.
use Rattle.std.proofs.Common.{◌≡◌, ℕ, ◌+◌, ◌≤◌, true, false, List, [], ◌∷◌, length, Some, sym, ap, subst, arith}
use Rattle.der_octets.proofs.Headers.{some_identifier}
use Rattle.der_model.specs.DerMessage.{DerMessage}
use Rattle.der_model.specs.Structures.{structure}
use Rattle.der_model.specs.States as states
use Rattle.der_model.specs.States.{Part, Identifier, Length, End, part_octets, DerLevel, State, Start, AwaitsLength, AwaitsContents, Within, level_answer, begun_state, names_in, state_after, Stands}
use Rattle.der_model.specs.Faults.{DerFront, IsCleanPart}
use Rattle.der_codec.specs.Levels.{AreLevels, first_of}
use Rattle.der_codec.specs.Decoding.{IsOpenState, Reads}
use Rattle.der_codec.specs.declared.level.Level as levels
use Rattle.der_codec.specs.declared.decoder.Due.{Due}
use Rattle.der_codec.specs.declared.decoder.Due.TheVariants as due

abbrev pub AreCounted : {P : Type 0} → ℕ → List (DerLevel P) → Type 0
AreCounted place [] = Unit {0}
AreCounted place (l ∷ ls) = (length l.came ≤ place) × AreCounted place ls

abbrev pub IsCounted : {P : Type 0} → ℕ → State P → Type 0
IsCounted place Start = Unit {0}
IsCounted place (AwaitsLength constructed spot names around) = AreCounted place around
IsCounted place (AwaitsContents spot names count around) = AreCounted place around
IsCounted place (Within levels) = AreCounted place levels

counted_up : {P : Type 0} (place end : ℕ) (ls : List (DerLevel P)) → place ≤ end → AreCounted place ls → AreCounted end ls
counted_up place end [] u h = tt
counted_up place end (l ∷ ls) u (few, h) = (omega arith, counted_up place end ls u h)

step_counted : {P : Type 0} (m : DerMessage P) (s : State P) (place : ℕ) (p : Part) → IsCounted place s → Stands s place p → IsCleanPart m s place p → IsCounted (place + length (part_octets p)) (state_after m s place p)
step_counted m Start place (Identifier b t) h st c = tt
step_counted m (Within (l ∷ ls)) place (Identifier b t) (few, h) st (k, c, e) =
    let some = some_identifier b t in
    let after : AwaitsLength b c.spot (names_in (structure m l.spot) l.came c.label) (record l { came = k ∷ l.came } ∷ ls) ≡ begun_state m l ls b (level_answer m l b t) = ap (begun_state m l ls b) (sym e) in
    subst (IsCounted (place + length (part_octets (Identifier b t)))) after (omega arith, counted_up place (place + length (part_octets (Identifier b t))) ls (omega arith) h)
step_counted m (AwaitsLength true spot names around) place (Length n) h st c = (omega arith, counted_up place (place + length (part_octets (Length n))) around (omega arith) h)
step_counted m (AwaitsLength false spot names around) place (Length n) h st c = counted_up place (place + length (part_octets (Length n))) around (omega arith) h
step_counted m (AwaitsContents spot names count around) place (states.Contents octets) h st c = counted_up place (place + length octets) around (omega arith) h
step_counted m (Within (l ∷ ls)) place End (few, h) st c = counted_up place (place + length (part_octets End)) ls (omega arith) h
step_counted m s place p h st c = absurd st

pub front_counted : {P : Type 0} (m : DerMessage P) (s : State P) (place : ℕ) (bytes : List ℕ) (ps : List Part) (last : State P) (at : ℕ) (rest : List ℕ) → IsCounted place s → DerFront m s place bytes ps last at rest → IsCounted at last
front_counted m s place bytes [] last at rest h (p, q, r) = subst (λ z. IsCounted at z) p (subst (λ z. IsCounted z s) q h)
front_counted m s place bytes (p ∷ ps) last at rest h (after, is, st, u, c, f) = front_counted m (state_after m s place p) (place + length (part_octets p)) after ps last at rest (step_counted m s place p h st c) f

-- so the count of the innermost value is no greater than the place
pub count_below : (m : DerMessage ℕ) (xs : List levels.Level) (level : levels.Level) (d : Due) (start place : ℕ) (bytes : List ℕ) → Reads m xs d start place bytes → Some level ≡ first_of xs → level.count ≤ place
count_below m xs level d start place bytes r is = by xs is d r.state r.is_open (front_counted m Start 0 bytes r.parts r.state r.at r.rest tt r.front)
  where
    among : (xs : List levels.Level) → Some level ≡ first_of xs → (ls : List (DerLevel ℕ)) → AreLevels m.forms xs ls → AreCounted r.at ls → level.count ≤ place
    among [] e ls op h = absurd cc
    among (x ∷ xs) e [] op h = absurd op
    among (x ∷ xs) e (l ∷ ls) op h =
        let same : x ≡ level = cc in
        let counts = ap (λ (z : levels.Level). z.count) same in
        let come = op.0.count in
        let few = h.0 in
        let there = r.place_is in
        omega arith

    none : (xs : List levels.Level) → xs ≡ [] → Some level ≡ first_of xs → level.count ≤ place
    none [] q e = absurd cc
    none (x ∷ xs) q e = absurd cc

    by : (xs : List levels.Level) → Some level ≡ first_of xs → (d : Due) (s : State ℕ) → IsOpenState m xs d s → IsCounted r.at s → level.count ≤ place
    by xs e (due.Tag step) Start op h = none xs op e
    by xs e (due.Tag step) (Within (l ∷ ls)) op h = among xs e (l ∷ ls) op h
    by xs e (due.Length c spot step) (AwaitsLength b of names ls) op h = among xs e ls op.2 h
    by xs e (due.Contents spot left) (AwaitsContents of names n ls) op h = among xs e ls op.1 h
    by xs e due.Over (Within []) op h = none xs op e
    by xs e d s op h = absurd op
