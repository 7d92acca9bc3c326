-- What a sound message gives of each value of its DER.
use Rattle.std.proofs.Common.{◌≡◌, ℕ, ◌^◌, ◌<◌, Some, length, refl, arith}
use Rattle.std.specs.Prelude.{slice_get}
use Rattle.data_types.specs.declared.kind.Kind.TheVariants as kind
use Rattle.facets.specs.LeafUnder.{HasSortedCodes}
use Rattle.facets.specs.declared.simple.Simple.{Simple}
use Rattle.reference_check.specs.Forms.{Graph, Form, Slot, form_slots, text_type}
use Rattle.reference_check.specs.Forms as form
use Rattle.reference_check.specs.Words.{UpTo}
use Rattle.message_model.specs.Sound.{IsNoOption, HasNumber}
use Rattle.der_model.specs.DerMessage.{DerMessage}
use Rattle.der_model.specs.Structures.{Spot, Instance, Value, ListOf, NumberOf, Structure, Holds, LeafOf, structure, form_structure, number_structure}
use Rattle.der_model.specs.Sound.{IsSoundDer}
use Rattle.der_model.specs.Laws.{TablesAreSound}

-- the codes of what a primitive value holds are sorted
abbrev pub HasSorted : {P : Type 0} → Structure P → Type 0
HasSorted (Holds (LeafOf simple)) = HasSortedCodes simple
HasSorted other = Unit {0}

abbrev pub IsSorted : {P : Type 0} → DerMessage P → Type 0
IsSorted {P} m = (spot : Spot P) → HasSorted (structure m spot)

form_sorted : {P : Type 0} (g : Graph P Simple) (p : P) (f : Form P Simple) → ((simple : Simple) → text_type f ≡ Some simple → HasSortedCodes simple) → HasSorted (form_structure g p f)
form_sorted g p (form.Simple simple) h = h simple refl
form_sorted g p (form.Sequence slots) h = tt
form_sorted g p (form.Choice slots) h = tt
form_sorted g p (form.Money code number) h = tt
form_sorted g p form.Envelope h = tt
form_sorted g p form.LeftOut h = tt
form_sorted g p form.Missing h = tt

number_sorted : {P : Type 0} (f : Form P Simple) → ((simple : Simple) → text_type f ≡ Some simple → HasSortedCodes simple) → HasSorted (number_structure f)
number_sorted (form.Money code number) h = h number refl
number_sorted (form.Simple simple) h = tt
number_sorted (form.Sequence slots) h = tt
number_sorted (form.Choice slots) h = tt
number_sorted form.Envelope h = tt
number_sorted form.LeftOut h = tt
number_sorted form.Missing h = tt

pub are_sorted : {P : Type 0} (m : DerMessage P) → IsSoundDer m → IsSorted m
are_sorted m sound Instance = form_sorted m.forms m.root (m.forms m.root) (sound.sorted m.root)
are_sorted m sound (Value p) = form_sorted m.forms p (m.forms p) (sound.sorted p)
are_sorted m sound (ListOf p k s) = tt
are_sorted m sound (NumberOf p) = number_sorted (m.forms p) (sound.sorted p)

-- an alternative of a choice comes at least once
abbrev pub HaveNoOptions : {P : Type 0} → DerMessage P → Type 0
HaveNoOptions {P} m = (p : P) → IsNoOption (m.forms p)

pub no_options : {P : Type 0} (m : DerMessage P) → IsSoundDer m → HaveNoOptions m
no_options m sound p = (sound.forms p).alternatives

-- slots are few enough for the tags of two octets
pub few_slots : {P : Type 0} (m : DerMessage P) → IsSoundDer m → (p : P) → length (form_slots (m.forms p)) < 2 ^ 14
few_slots m sound p = (let short = (sound.forms p).short in omega arith)

-- a minimum is not above its maximum
abbrev pub HasBounds : {P L : Type 0} → Form P L → Type 0
HasBounds {P} f = (k : ℕ) (s : Slot P) → slice_get (form_slots f) k ≡ Some s → UpTo s.min s.max

pub bounds_of : {P : Type 0} (m : DerMessage P) → IsSoundDer m → (p : P) → HasBounds (m.forms p)
bounds_of m sound p = (sound.forms p).bounds

-- the code of an amount is of a simple type, and its number is a decimal
abbrev pub IsAmount : {P : Type 0} → Graph P Simple → Form P Simple → Type 0
IsAmount g (form.Money c s) = (s.kind ≡ kind.Decimal) × (x : Simple) × (g c ≡ form.Simple x)
IsAmount g f = Unit {0}

pub amounts_of : {P : Type 0} (m : DerMessage P) → IsSoundDer m → (p : P) → IsAmount m.forms (m.forms p)
amounts_of {P} m sound p = of (m.forms p) refl (sound.forms p).number
  where
    of : (f : Form P Simple) → m.forms p ≡ f → HasNumber f → IsAmount m.forms f
    of (form.Money c s) at number = (let code = sound.codes p c s at in (number, code.0, code.1))
    of (form.Simple simple) at h = tt
    of (form.Sequence slots) at h = tt
    of (form.Choice slots) at h = tt
    of form.Envelope at h = tt
    of form.LeftOut at h = tt
    of form.Missing at h = tt

pub tables_are_sound : TablesAreSound
tables_are_sound T forms codes sorted root apart = record { forms = forms; codes = codes; sorted = sorted; root = root; fragments = λ p is. apart }
