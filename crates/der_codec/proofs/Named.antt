-- Behind clean parts the names are those that what is open tells.
use Rattle.std.proofs.Common.{◌≡◌, ℕ, suc, ◌+◌, Bool, true, false, List, [], ◌∷◌, length, drop, Some, refl, sym, ap, ◌∙◌, subst, arith}
use Rattle.std.specs.Prelude.{if◌then◌else◌, slice_get}
use Rattle.der_octets.specs.Octets.{Tag}
use Rattle.reference_check.specs.Steps.{has_room}
use Rattle.der_model.specs.DerMessage.{DerMessage}
use Rattle.der_model.specs.Structures.{Component, Structure, Holds, Fields, OneOf, Items, Empty, structure}
use Rattle.der_model.specs.States as states
use Rattle.der_model.specs.States.{Part, Identifier, Length, End, part_octets, State, Start, AwaitsLength, AwaitsContents, Within, IdentifierAnswer, Begins, is_under, field_answer, any_answer, identifier_answer, next_number, skipping, begun_state, state_after, Stands}
use Rattle.der_model.specs.Faults.{DerFront, IsCleanPart}
use Rattle.der_model.specs.OpenParts.{components_of}
use Rattle.der_model.proofs.BegunSlots.{no_begin}
use Rattle.der_model.proofs.ShownSlots.{one_begun, item_begun}
use Rattle.message_model.proofs.Ahead.{drop_get}
use Rattle.der_codec.specs.inner.OpenNames.{names_of_part, IsNamed}

same_begin : {P : Type 0} (i k : ℕ) (d c : Component P) → Begins i d ≡ Begins k c → (k ≡ i) × (d ≡ c)
same_begin i k d c e = (cc, cc)

-- what begins is the component of its number
-- what a search finds, from a number on
abbrev Finds : {P : Type 0} → ℕ → List (Component P) → ℕ → Component P → Type 0
Finds i cs k c = (off : ℕ) × (k ≡ i + off) × (slice_get cs off ≡ Some c)

finds_more : {P : Type 0} (i k : ℕ) (d : Component P) (cs : List (Component P)) (c : Component P) → Finds (suc i) cs k c → Finds i (d ∷ cs) k c
finds_more i k d cs c (off, n, e) = (suc off, omega arith, e)

finds_here : {P : Type 0} (i k : ℕ) (d c : Component P) (cs : List (Component P)) → Begins i d ≡ Begins k c → Finds i (d ∷ cs) k c
finds_here i k d c cs e = (let s = same_begin i k d c e in let n = s.0 in (0, omega arith, ap Some s.1))

field_case : {P : Type 0} (i : ℕ) (d : Component P) (cs : List (Component P)) (k : ℕ) (c : Component P) (later : IdentifierAnswer P) (u r : Bool) → (later ≡ Begins k c → Finds (suc i) cs k c) → (if u then Begins i d else (if r then skipping d.label later else later)) ≡ Begins k c → Finds i (d ∷ cs) k c
field_case i d cs k c later true r again e = finds_here i k d c cs e
field_case i d cs k c later false true again e = absurd (no_begin d.label later k c e)
field_case i d cs k c later false false again e = finds_more i k d cs c (again e)

field_at : {P : Type 0} (i : ℕ) (cs : List (Component P)) (b : Bool) (t : Tag) (k : ℕ) (c : Component P) → field_answer i cs b t ≡ Begins k c → Finds i cs k c
field_at i [] b t k c e = absurd cc
field_at i (d ∷ cs) b t k c e = field_case i d cs k c (field_answer (suc i) cs b t) (is_under d b t) d.required (λ h. field_at (suc i) cs b t k c h) e

any_case : {P : Type 0} (i : ℕ) (d : Component P) (cs : List (Component P)) (k : ℕ) (c : Component P) (later : IdentifierAnswer P) (u : Bool) → (later ≡ Begins k c → Finds (suc i) cs k c) → (if u then Begins i d else later) ≡ Begins k c → Finds i (d ∷ cs) k c
any_case i d cs k c later true again e = finds_here i k d c cs e
any_case i d cs k c later false again e = finds_more i k d cs c (again e)

any_at : {P : Type 0} (i : ℕ) (cs : List (Component P)) (b : Bool) (t : Tag) (k : ℕ) (c : Component P) → any_answer i cs b t ≡ Begins k c → Finds i cs k c
any_at i [] b t k c e = absurd cc
any_at i (d ∷ cs) b t k c e = any_case i d cs k c (any_answer (suc i) cs b t) (is_under d b t) (λ h. any_at (suc i) cs b t k c h) e

from_start : {P : Type 0} (cs : List (Component P)) (k : ℕ) (c : Component P) → (off : ℕ) × (k ≡ 0 + off) × (slice_get cs off ≡ Some c) → slice_get cs k ≡ Some c
from_start cs k c (off, n, e) = (let same : k ≡ off = omega arith in ap (slice_get cs) same ∙ e)

pub begins_at : {P : Type 0} (s : Structure P) (came : List ℕ) (b : Bool) (t : Tag) (k : ℕ) (c : Component P) → identifier_answer s came b t ≡ Begins k c → slice_get (components_of s) k ≡ Some c
begins_at (Fields cs) came b t k c e =
    let r = field_at (next_number came) (drop (next_number came) cs) b t k c e in
    ap (slice_get cs) r.1 ∙ (sym (drop_get (next_number came) r.0 cs) ∙ r.2)
begins_at (OneOf cs) came b t k c e = from_start cs k c (any_at 0 cs b t k c (one_begun came (any_answer 0 cs b t) k c e))
begins_at (Items s cs) came b t k c e = from_start cs k c (any_at 0 cs b t k c (item_begun (has_room (length came) s.max) (any_answer 0 cs b t) k c e))
begins_at (Holds contents) came b t k c e = absurd cc
begins_at Empty came b t k c e = absurd cc

step_named : {P : Type 0} (m : DerMessage P) (s : State P) (place : ℕ) (p : Part) → IsNamed m s → Stands s place p → IsCleanPart m s place p → IsNamed m (state_after m s place p)
step_named m Start place (Identifier b t) h st c = (refl, tt)
step_named m (Within (l ∷ ls)) place (Identifier b t) h st (k, c, e) =
    subst (IsNamed m) (ap (begun_state m l ls b) (sym e)) (sym (ap (names_of_part (structure m l.spot) l.came) (begins_at (structure m l.spot) l.came b t k c e)), h)
step_named m (AwaitsLength true spot names around) place (Length n) h st c = h
step_named m (AwaitsLength false spot names around) place (Length n) h st c = h
step_named m (AwaitsContents spot names count around) place (states.Contents octets) h st c = h.1
step_named m (Within (l ∷ ls)) place End h st c = h.1
step_named m s place p h st c = absurd st

-- the names are told by the spots, and by the number that came last and the count of each level
pub front_named : {P : Type 0} (m : DerMessage P) (s : State P) (place : ℕ) (bytes : List ℕ) (ps : List Part) (last : State P) (at : ℕ) (rest : List ℕ) → IsNamed m s → DerFront m s place bytes ps last at rest → IsNamed m last
front_named m s place bytes [] last at rest h (p, q, r) = subst (IsNamed m) p h
front_named m s place bytes (p ∷ ps) last at rest h (after, is, st, u, c, f) = front_named m (state_after m s place p) (place + length (part_octets p)) after ps last at rest (step_named m s place p h st c) f
