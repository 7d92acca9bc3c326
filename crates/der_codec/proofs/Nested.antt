-- Behind clean parts open values lie within one another.
use Rattle.std.proofs.Common.{◌≡◌, ℕ, ◌+◌, ◌≤◌, ◌<◌, Bool, true, false, List, [], ◌∷◌, ◌++◌, length, Option, Some, None, refl, sym, ap, ◌∙◌, subst, arith, append_assoc, length-append}
use Rattle.der_octets.specs.declared.tag_step.TagStep.{TagStep}
use Rattle.der_octets.proofs.TagStepLemmas.{taken_none}
use Rattle.reference_check.specs.Words.{UpTo}
use Rattle.der_model.specs.DerMessage.{DerMessage}
use Rattle.der_model.specs.Structures.{structure}
use Rattle.der_model.specs.States as states
use Rattle.der_model.specs.States.{Part, Identifier, Length, End, part_octets, DerLevel, State, Start, AwaitsLength, AwaitsContents, Within, level_answer, begun_state, names_in, state_after, innermost_end, level_end, Stands, end_from}
use Rattle.der_model.specs.Faults.{DerFront, IsCleanPart}
use Rattle.der_codec.specs.inner.Nesting.{AreNested, IsNested}
use Rattle.der_codec.specs.Decoding.{IsOpenState, IsBegun, Reads, IsBelowEnd, IsFresh, IsOctetAwaited, IsWaiting, end_of_first}
use Rattle.der_codec.specs.declared.level.Level as levels
use Rattle.der_codec.specs.declared.decoder.Due.{Due}
use Rattle.der_codec.specs.declared.decoder.Due.TheVariants as due

nested_up : {P : Type 0} (place end : ℕ) (ls : List (DerLevel P)) → UpTo end (level_end ls) → AreNested place ls → AreNested end ls
nested_up place end [] u h = tt
nested_up place end (l ∷ ls) u h = (u, h.1)

step_nested : {P : Type 0} (m : DerMessage P) (s : State P) (place : ℕ) (p : Part) → IsNested place s → Stands s place p → UpTo (place + length (part_octets p)) (innermost_end s) → IsCleanPart m s place p → IsNested (place + length (part_octets p)) (state_after m s place p)
step_nested m Start place (Identifier b t) h st u c = tt
step_nested m (Within (l ∷ ls)) place (Identifier b t) h st u (k, c, e) =
    let after : AwaitsLength b c.spot (names_in (structure m l.spot) l.came c.label) (record l { came = k ∷ l.came } ∷ ls) ≡ begun_state m l ls b (level_answer m l b t) = ap (begun_state m l ls b) (sym e) in
    subst (IsNested (place + length (part_octets (Identifier b t)))) after (u, h.1)
step_nested m (AwaitsLength true spot names around) place (Length n) h st u c = (let z : place + length (part_octets (Length n)) ≤ end_from place n = omega arith in (z, nested_up place (end_from place n) around c h))
step_nested m (AwaitsLength false spot names around) place (Length n) h st u c = nested_up place (end_from place n) around c h
step_nested m (AwaitsContents spot names count around) place (states.Contents octets) h st u c = subst (λ z. AreNested (place + z) around) (sym st) h
step_nested m (Within (l ∷ ls)) place End h st u c = (let z : l.end ≡ place + length (part_octets End) = omega arith in subst (λ z. AreNested z ls) z h.1)
step_nested m s place p h st u c = absurd st

pub front_nested : {P : Type 0} (m : DerMessage P) (s : State P) (place : ℕ) (bytes : List ℕ) (ps : List Part) (last : State P) (at : ℕ) (rest : List ℕ) → IsNested place s → DerFront m s place bytes ps last at rest → IsNested at last
front_nested m s place bytes [] last at rest h (p, q, r) = subst (λ z. IsNested at z) p (subst (λ z. IsNested z s) q h)
front_nested m s place bytes (p ∷ ps) last at rest h (after, is, st, u, c, f) = front_nested m (state_after m s place p) (place + length (part_octets p)) after ps last at rest (step_nested m s place p h st u c) f

-- where no identifier octet has come, the place is within what is open
pub within_open : (m : DerMessage ℕ) (xs : List levels.Level) (d : Due) (step : TagStep) (start place : ℕ) (bytes : List ℕ) → d ≡ due.Tag step → step.come ≡ 0 → Reads m xs d start place bytes → UpTo place (end_of_first xs)
within_open m xs d step start place bytes is fresh r = by xs r.state (subst (λ z. IsOpenState m xs z r.state) is r.is_open) (front_nested m Start 0 bytes r.parts r.state r.at r.rest tt r.front)
  where
    place_at : place ≡ r.at
    place_at =
        let none = ap length (taken_none step.come step.first step.high r.rest fresh (subst (λ z. IsBegun z r.state r.rest) is r.is_begun)) in
        let p = r.place_is in omega arith

    by : (xs : List levels.Level) (s : State ℕ) → IsOpenState m xs (due.Tag step) s → IsNested r.at s → UpTo place (end_of_first xs)
    by [] Start op h = tt
    by (x ∷ xs) Start op h = absurd cc
    by (x ∷ xs) (Within (l ∷ ls)) op h = (let a = h.0 in let b = op.0.end in let c = place_at in omega arith)
    by [] (Within (l ∷ ls)) op h = absurd op
    by xs s op h = absurd op

pub not_at_end : (o : Option ℕ) (place end : ℕ) → o ≡ Some end → UpTo place o → (end ≡ place → ⊥) → IsBelowEnd place o
not_at_end None place end e u other = tt
not_at_end (Some a) place end e u other = (let same : a ≡ end = cc in lower a same u)
  where
    lower : (a : ℕ) → a ≡ end → place ≤ a → place < a
    lower a same l = less place a l (λ e. other (omega arith))
      where
        less : (p a : ℕ) → p ≤ a → (p ≡ a → ⊥) → p < a
        less p a l h = grind (arith)

pub fresh_within : (m : DerMessage ℕ) (xs : List levels.Level) (d : Due) (start place : ℕ) (bytes : List ℕ) → IsFresh d → Reads m xs d start place bytes → UpTo place (end_of_first xs)
fresh_within m xs (due.Tag step) start place bytes fresh r = within_open m xs (due.Tag step) step start place bytes refl fresh r
fresh_within m xs d start place bytes fresh r = absurd fresh

-- a primitive value stands within another
abbrev pub IsRooted : {P : Type 0} → State P → Type 0
IsRooted (AwaitsLength false spot names around) = 0 < length around
IsRooted (AwaitsContents spot names count around) = 0 < length around
IsRooted s = Unit {0}

step_rooted : {P : Type 0} (m : DerMessage P) (s : State P) (place : ℕ) (p : Part) → IsRooted s → Stands s place p → IsCleanPart m s place p → IsRooted (state_after m s place p)
step_rooted m Start place (Identifier b t) h st c = tt
step_rooted m (Within (l ∷ ls)) place (Identifier b t) h st (k, c, e) =
    subst IsRooted (ap (begun_state m l ls b) (sym e)) (begins b)
  where
    begins : (b : Bool) → IsRooted (AwaitsLength b c.spot (names_in (structure m l.spot) l.came c.label) (record l { came = k ∷ l.came } ∷ ls))
    begins true = tt
    begins false = omega arith
step_rooted m (AwaitsLength true spot names around) place (Length n) h st c = tt
step_rooted m (AwaitsLength false spot names around) place (Length n) h st c = h
step_rooted m (AwaitsContents spot names count around) place (states.Contents octets) h st c = tt
step_rooted m (Within (l ∷ ls)) place End h st c = tt
step_rooted m s place p h st c = absurd st

pub front_rooted : {P : Type 0} (m : DerMessage P) (s : State P) (place : ℕ) (bytes : List ℕ) (ps : List Part) (last : State P) (at : ℕ) (rest : List ℕ) → IsRooted s → DerFront m s place bytes ps last at rest → IsRooted last
front_rooted m s place bytes [] last at rest h (p, q, r) = subst IsRooted p h
front_rooted m s place bytes (p ∷ ps) last at rest h (after, is, st, u, c, f) = front_rooted m (state_after m s place p) (place + length (part_octets p)) after ps last at rest (step_rooted m s place p h st c) f

-- what has not been read is what follows the place
pub front_rest : {P : Type 0} (m : DerMessage P) (s : State P) (place : ℕ) (bytes : List ℕ) (ps : List Part) (last : State P) (at : ℕ) (rest : List ℕ) → DerFront m s place bytes ps last at rest → (taken : List ℕ) × (bytes ≡ taken ++ rest) × (at ≡ place + length taken)
front_rest m s place bytes [] last at rest (p, q, r) = ([], r, omega arith)
front_rest m s place bytes (p ∷ ps) last at rest (after, is, st, u, c, f) =
    let r = front_rest m (state_after m s place p) (place + length (part_octets p)) after ps last at rest f in
    (part_octets p ++ r.0, is ∙ (ap (λ z. part_octets p ++ z) r.1 ∙ sym (append_assoc (part_octets p) r.0 rest)), (let sum = length-append (part_octets p) r.0 in let q = r.2 in omega arith))

pub ready_below : (d : Due) (place : ℕ) (o : Option ℕ) → IsFresh d → IsBelowEnd place o → IsOctetAwaited d place o
ready_below (due.Tag step) place o fresh h = h
ready_below d place o fresh h = absurd fresh

pub ready_waits : (d : Due) (place : ℕ) (o : Option ℕ) → IsOctetAwaited d place o → IsWaiting d place o
ready_waits (due.Tag step) place o h = h
ready_waits (due.Length c spot step) place o h = h
ready_waits (due.Contents spot left) place o h = absurd h
ready_waits due.Over place o h = tt
