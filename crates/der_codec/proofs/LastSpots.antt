-- Which element begins with the component that came last, where the value is known that comes in it.
use Rattle.std.proofs.Common.{◌≡◌, ℕ, zero, suc, ◌+◌, ◌-◌, Bool, true, false, List, [], ◌∷◌, length, Some, refl, sym, ap, ◌∙◌, subst, arith}
use Rattle.std.specs.Prelude.{slice_get, if◌then◌else◌}
use Rattle.data_types.specs.Value.{Edge}
use Rattle.facets.specs.declared.simple.Simple.{Simple}
use Rattle.reference_check.specs.Forms as graph
use Rattle.reference_check.specs.Forms.{Graph, form_slots}
use Rattle.der_octets.specs.declared.length_step.LengthStep.{LengthStep}
use Rattle.der_model.specs.DerMessage.{DerMessage}
use Rattle.der_model.specs.Structures as structures
use Rattle.der_model.specs.Structures.{Component, Value, ListOf, component, components, form_structure, structure, is_single}
use Rattle.der_model.specs.States as states
use Rattle.der_model.specs.States.{Part, Identifier, Length, End, part_octets, State, Start, AwaitsLength, AwaitsContents, Within, begun_state, next_number, state_after, Stands}
use Rattle.der_model.specs.Faults.{DerFront, IsCleanPart}
use Rattle.der_model.specs.OpenParts.{components_of}
use Rattle.der_model.specs.ShownPieces.{slot_elements, last_elements}
use Rattle.der_codec.specs.Decoding.{IsOpenState, IsFresh, Reads}
use Rattle.der_codec.specs.KeptPieces.{AreLast, IsLastOf, IsLastSpot}
use Rattle.der_codec.specs.Levels.{IsSpot}
use Rattle.der_codec.specs.inner.Elements.{has_slots}
use Rattle.der_codec.specs.declared.decoder.Due.{Due}
use Rattle.der_codec.specs.declared.decoder.Due.TheVariants as due
use Rattle.der_codec.specs.declared.level.Spot.{Spot}
use Rattle.der_codec.specs.declared.level.Spot.TheVariants as spots
use Rattle.der_codec.specs.declared.level.Level.{Level}
use Rattle.der_codec.proofs.Named.{begins_at}
use Rattle.der_codec.proofs.RoomSteps.{last_same}

-- ---- behind clean parts

-- the value at the spot is the component that came last in the innermost of these, and each of them so in the one round it
abbrev CameLast : DerMessage ℕ → structures.Spot ℕ → List (states.DerLevel ℕ) → Type 0
CameLast m spot [] = Unit {0}
CameLast m spot (l ∷ around) = IsLastOf (components_of (structure m l.spot)) l.came spot × CameLast m l.spot around

abbrev AreLastOpen : DerMessage ℕ → List (states.DerLevel ℕ) → Type 0
AreLastOpen m [] = Unit {0}
AreLastOpen m (l ∷ around) = CameLast m l.spot around

-- what has begun and not ended came last in what is round it
abbrev BeginsLast : DerMessage ℕ → State ℕ → Type 0
BeginsLast m Start = Unit {0}
BeginsLast m (AwaitsLength constructed spot names around) = CameLast m spot around
BeginsLast m (AwaitsContents spot names count around) = CameLast m spot around
BeginsLast m (Within levels) = AreLastOpen m levels

around_last : (m : DerMessage ℕ) (spot : structures.Spot ℕ) (ls : List (states.DerLevel ℕ)) → CameLast m spot ls → AreLastOpen m ls
around_last m spot [] h = tt
around_last m spot (l ∷ ls) h = h.1

step_last : (m : DerMessage ℕ) (s : State ℕ) (place : ℕ) (p : Part) → BeginsLast m s → Stands s place p → IsCleanPart m s place p → BeginsLast m (state_after m s place p)
step_last m Start place (Identifier b t) h st c = tt
step_last m (Within (l ∷ ls)) place (Identifier b t) h st (k, c, e) =
    subst (BeginsLast m) (ap (begun_state m l ls b) (sym e)) ((c, begins_at (structure m l.spot) l.came b t k c e, refl), h)
step_last m (AwaitsLength true spot names around) place (Length n) h st c = h
step_last m (AwaitsLength false spot names around) place (Length n) h st c = h
step_last m (AwaitsContents spot names count around) place (states.Contents octets) h st c = around_last m spot around h
step_last m (Within (l ∷ ls)) place End h st c = around_last m l.spot ls h
step_last m s place p h st c = absurd st

front_last : (m : DerMessage ℕ) (s : State ℕ) (place : ℕ) (bytes : List ℕ) (ps : List Part) (last : State ℕ) (at : ℕ) (rest : List ℕ) → BeginsLast m s → DerFront m s place bytes ps last at rest → BeginsLast m last
front_last m s place bytes [] last at rest h (p, q, r) = subst (BeginsLast m) p h
front_last m s place bytes (p ∷ ps) last at rest h (after, is, st, u, c, f) = front_last m (state_after m s place p) (place + length (part_octets p)) after ps last at rest (step_last m s place p h st c) f

-- the value that has begun is the component that came last in the value round it
pub last_begun_spot : (m : DerMessage ℕ) (x : Level) (xs : List Level) (constructed : Bool) (spot : Spot) (step : LengthStep) (start place : ℕ) (bytes : List ℕ) → Reads m (x ∷ xs) (due.Length constructed spot step) start place bytes → IsLastSpot m x spot
last_begun_spot m x xs constructed spot step start place bytes r = by r.state r.is_open (front_last m Start 0 bytes r.parts r.state r.at r.rest tt r.front)
  where
    by : (s : State ℕ) → IsOpenState m (x ∷ xs) (due.Length constructed spot step) s → BeginsLast m s → IsLastSpot m x spot
    by (AwaitsLength b of names (l ∷ ls)) op h = (l, op.2.0, of, op.1, h.0)
    by (AwaitsLength b of names []) op h = absurd op.2
    by s op h = absurd op

-- so is the innermost value that is open
pub last_open_spot : (m : DerMessage ℕ) (x y : Level) (xs : List Level) (d : Due) (start place : ℕ) (bytes : List ℕ) → IsFresh d → Reads m (x ∷ y ∷ xs) d start place bytes → IsLastSpot m y x.spot
last_open_spot m x y xs d start place bytes fresh r = by d fresh r.state r.is_open (front_last m Start 0 bytes r.parts r.state r.at r.rest tt r.front)
  where
    by : (d : Due) → IsFresh d → (s : State ℕ) → IsOpenState m (x ∷ y ∷ xs) d s → BeginsLast m s → IsLastSpot m y x.spot
    by (due.Tag step) f Start op h = absurd cc
    by (due.Tag step) f (Within (l ∷ k ∷ ls)) op h = (k, op.1.0, l.spot, op.0.spot, h.0)
    by (due.Tag step) f (Within (l ∷ [])) op h = absurd op.1
    by (due.Tag step) f s op h = absurd op
    by d f s op h = absurd f

-- ---- its element

slot_at : (types : Graph ℕ Simple) (p i k : ℕ) (slots : List (graph.Slot ℕ)) (c : Component ℕ) → slice_get (components types p i slots) k ≡ Some c → (s : graph.Slot ℕ) × (slice_get slots k ≡ Some s) × (c.spot ≡ (if is_single s then Value s.target else ListOf p (i + k) s))
slot_at types p i k [] c e = absurd cc
slot_at types p i zero (s ∷ slots) c e = (let same : component types p i s ≡ c = cc in (s, refl, sym (ap (λ (z : Component ℕ). z.spot) same) ∙ ap (λ n. if is_single s then Value s.target else ListOf p n s) (at_first i)))
  where
    at_first : (i : ℕ) → i ≡ i + 0
    at_first i = omega arith
slot_at types p i (suc k) (s ∷ slots) c e =
    let r = slot_at types p (suc i) k slots c e in
    let n : suc i + k ≡ i + suc k = omega arith in
    (r.0, r.1, r.2 ∙ ap (λ j. if is_single r.0 then Value r.0.target else ListOf p j r.0) n)

single_spot : (b : Bool) (p t k : ℕ) (s : graph.Slot ℕ) → (if b then Value s.target else ListOf p k s) ≡ Value t → (b ≡ true) × (s.target ≡ t)
single_spot true p t k s e = (refl, cc)
single_spot false p t k s e = absurd cc

-- the components of the type p, of this form
abbrev FormSlots : Graph ℕ Simple → ℕ → ℕ → graph.Form ℕ Simple → Component ℕ → Type 0
FormSlots types p k f c = slice_get (components_of (form_structure types p f)) k ≡ Some c

-- where nothing comes in slots, no component has an element
pub no_slots : (f : graph.Form ℕ Simple) → has_slots f ≡ false → form_slots f ≡ []
no_slots (graph.Sequence slots) e = absurd cc
no_slots (graph.Choice slots) e = absurd cc
no_slots (graph.Simple simple) e = refl
no_slots (graph.Money code base) e = refl
no_slots graph.Envelope e = refl
no_slots graph.LeftOut e = refl
no_slots graph.Missing e = refl

pub none_shown : (p k : ℕ) (f : graph.Form ℕ Simple) → has_slots f ≡ false → slot_elements p k (slice_get (form_slots f) k) ≡ []
none_shown p k f e = ap (λ (l : List (graph.Slot ℕ)). slot_elements p k (slice_get l k)) (no_slots f e)

abbrev edge_of_slot : ℕ → ℕ → ℕ → Edge
edge_of_slot p k t = record { slot = k; target = t; parent = p }

-- a value of the type t that comes in slot k of the type p has the element of that slot
pub slot_shown : (types : Graph ℕ Simple) (p t k : ℕ) (f : graph.Form ℕ Simple) (c : Component ℕ) → has_slots f ≡ true → FormSlots types p k f c → c.spot ≡ Value t → record { slot = k; target = t; parent = p } ∷ [] ≡ slot_elements p k (slice_get (form_slots f) k)
slot_shown types p t k f c has found is = by f has found
  where
    of_slots : (slots : List (graph.Slot ℕ)) → slice_get (components types p 0 slots) k ≡ Some c → edge_of_slot p k t ∷ [] ≡ slot_elements p k (slice_get slots k)
    of_slots slots e =
        let r = slot_at types p 0 k slots c e in
        let one = single_spot (is_single r.0) p t (0 + k) r.0 (sym r.2 ∙ is) in
        sym (ap (slot_elements p k) r.1
        ∙ (ap (λ (b : Bool). if b then edge_of_slot p k r.0.target ∷ [] else []) one.0
        ∙ ap (λ (n : ℕ). edge_of_slot p k n ∷ []) one.1))

    by : (f : graph.Form ℕ Simple) → has_slots f ≡ true → FormSlots types p k f c → edge_of_slot p k t ∷ [] ≡ slot_elements p k (slice_get (form_slots f) k)
    by (graph.Sequence slots) has e = of_slots slots e
    by (graph.Choice slots) has e = of_slots slots e
    by (graph.Simple simple) has e = absurd cc
    by (graph.Money code base) has e = absurd cc
    by graph.Envelope has e = absurd cc
    by graph.LeftOut has e = absurd cc
    by graph.Missing has e = absurd cc

-- what is no value of a type has none
list_shown : (types : Graph ℕ Simple) (p k : ℕ) (f : graph.Form ℕ Simple) (c : Component ℕ) → ((t : ℕ) → c.spot ≡ Value t → ⊥) → FormSlots types p k f c → [] ≡ slot_elements p k (slice_get (form_slots f) k)
list_shown types p k f c other found = by f found
  where
    of_slots : (slots : List (graph.Slot ℕ)) → slice_get (components types p 0 slots) k ≡ Some c → [] ≡ slot_elements p k (slice_get slots k)
    of_slots slots e =
        let r = slot_at types p 0 k slots c e in
        let many = not_single (is_single r.0) r.0 r.2 in
        sym (ap (slot_elements p k) r.1 ∙ ap (λ (b : Bool). if b then edge_of_slot p k r.0.target ∷ [] else []) many)
      where
        not_single : (b : Bool) (s : graph.Slot ℕ) → c.spot ≡ (if b then Value s.target else ListOf p (0 + k) s) → b ≡ false
        not_single true s is = absurd (other s.target is)
        not_single false s is = refl

    by : (f : graph.Form ℕ Simple) → FormSlots types p k f c → [] ≡ slot_elements p k (slice_get (form_slots f) k)
    by (graph.Sequence slots) e = of_slots slots e
    by (graph.Choice slots) e = of_slots slots e
    by (graph.Simple simple) e = refl
    by (graph.Money code base) e = refl
    by graph.Envelope e = refl
    by graph.LeftOut e = refl
    by graph.Missing e = refl

-- ---- of the component that came last

pub none_came : (m : DerMessage ℕ) (p : ℕ) (of : structures.Spot ℕ) (came : List ℕ) (n : ℕ) → n ≡ 0 → n ≡ next_number came → [] ≡ last_elements m (Value p) came
none_came m p of [] n none next = refl
none_came m p of (k ∷ came) n none next = absurd (omega (arith, next, none))

pub value_came : (m : DerMessage ℕ) (p t n : ℕ) (of : structures.Spot ℕ) (came : List ℕ) (r : List Edge) → ((c : Component ℕ) → slice_get (components_of (structure m (Value p))) (n - 1) ≡ Some c → c.spot ≡ Value t → r ≡ slot_elements p (n - 1) (slice_get (form_slots (m.forms p)) (n - 1)))
    → of ≡ Value t → n ≡ next_number came → IsLastOf (components_of (structure m (Value p))) came of → r ≡ last_elements m (Value p) came
value_came m p t n of [] r told is next h = absurd h
value_came m p t n of (k ∷ came) r told is next (c, found, spot) =
    let e : n - 1 ≡ k = omega (arith, next) in
    subst (λ j. ((c : Component ℕ) → slice_get (components_of (structure m (Value p))) j ≡ Some c → c.spot ≡ Value t → r ≡ slot_elements p j (slice_get (form_slots (m.forms p)) j))) e told c found (sym spot ∙ is)

pub other_came : (m : DerMessage ℕ) (p : ℕ) (of : structures.Spot ℕ) (came : List ℕ) → ((t : ℕ) → of ≡ Value t → ⊥) → IsLastOf (components_of (structure m (Value p))) came of → [] ≡ last_elements m (Value p) came
other_came m p of [] other h = absurd h
other_came m p of (k ∷ came) other (c, found, spot) = list_shown m.forms p k (m.forms p) c (λ t is. other t (spot ∙ is)) found

pub list_other : (types : Graph ℕ Simple) (p k t : ℕ) (of : structures.Spot ℕ) → IsSpot types (spots.List p k) of → of ≡ Value t → ⊥
list_other types p k t of (s, there, is) value = absurd (let both = sym is ∙ value in cc)

pub instance_other : (types : Graph ℕ Simple) (t : ℕ) (of : structures.Spot ℕ) → IsSpot types spots.Instance of → of ≡ Value t → ⊥
instance_other types t of is value = absurd (let both = sym is ∙ value in cc)

pub number_other : (types : Graph ℕ Simple) (p t : ℕ) (of : structures.Spot ℕ) → IsSpot types (spots.Number p) of → of ≡ Value t → ⊥
number_other types p t of is value = absurd (let both = sym is ∙ value in cc)

-- the elements of the last component of a value of the type p
pub value_last : (m : DerMessage ℕ) (x : Level) (spot : Spot) (p : ℕ) (edges : List Edge) → x.spot ≡ spots.Value p → IsLastSpot m x spot
    → ((of : structures.Spot ℕ) (came : List ℕ) → IsSpot m.forms spot of → x.next ≡ next_number came → IsLastOf (components_of (structure m (Value p))) came of → edges ≡ last_elements m (Value p) came) → AreLast m x edges
value_last m x spot p edges is (l0, at, of, of_is, last) told = λ l h.
    let first : l0.spot ≡ Value p = subst (λ z. IsSpot m.forms z l0.spot) is at.spot in
    let second : l.spot ≡ Value p = subst (λ z. IsSpot m.forms z l.spot) is h.spot in
    told of l0.came of_is at.next (subst (λ z. IsLastOf (components_of (structure m z)) l0.came of) first last)
    ∙ (last_same m (Value p) l0.came l.came (sym at.next ∙ h.next) ∙ ap (λ z. last_elements m z l.came) (sym second))
