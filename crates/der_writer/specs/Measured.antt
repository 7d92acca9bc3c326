-- The numbers that are kept with an instance, so that its DER is written in one pass (X.690 §8.1.3, §10.1: a length stands before its contents).
use Rattle.std.specs.Prelude.{◌≡◌, ℕ, zero, suc, ◌-◌, ◌<◌, Bool, true, false, if◌then◌else◌, List, [], ◌∷◌, ◌++◌, length, Option, Some, None, slice_get, slice_index}
use Rattle.data_types.specs.Value.{Value, Children, Nothing, Child}
use Rattle.data_types.specs.Value as value
use Rattle.der_octets.specs.Octets.{octets}
use Rattle.fragments.specs.Fragment.{fragment}
use Rattle.inst_pool.specs.Pieces.{Held}
use Rattle.facets.specs.declared.simple.Simple.{Simple}
use Rattle.reference_check.specs.Forms.{Form, Slot, form_slots}
use Rattle.reference_check.specs.Forms as form
use Rattle.message_model.specs.Admits.{AdmitsAs}
use Rattle.message_model.specs.Tables.{Tables, types_of, edge_at, pieces_of}
use Rattle.der_model.specs.DerMessage.{DerMessage, der_message}
use Rattle.der_model.specs.Structures.{is_single}
use Rattle.der_model.specs.Der.{Body, Octets, Inner, body, values_at}

-- what belongs to a piece: no number; a length that its leaf tells; or two numbers, which are kept
pub data Beside : Type 0 where
  Free : Beside
  Sized : (len : ℕ) → Beside
  Counts : (len group : ℕ) → Beside

-- the contents of a value of the type are one leaf, under the tag of its slot
abbrev pub holds_leaf : Form ℕ Simple → Bool
holds_leaf (form.Simple simple) = true
holds_leaf form.Envelope = true
holds_leaf f = false

-- an element of such a type, in a slot that comes once
abbrev pub is_plain : Option (Slot ℕ) → Form ℕ Simple → Bool
is_plain None f = false
is_plain (Some s) f = if is_single s then holds_leaf f else false

-- the numbers of an element that begins
abbrev pub counts_of : Bool → ℕ → ℕ → Beside
counts_of true len group = Sized len
counts_of false len group = Counts len group

-- the contents octets of a value
abbrev pub contents_octets : Body → List ℕ
contents_octets (Octets contents) = contents
contents_octets (Inner inner) = octets inner

-- the octets of the children in slot k
abbrev pub slot_octets : DerMessage ℕ → ℕ → Option (Slot ℕ) → Children → List ℕ
slot_octets m k None children = []
slot_octets m k (Some s) children = octets (values_at m k s children)

abbrev mutual
  -- Where an element begins, the number of its contents octets, and that of the octets of its slot from the element on: of a list's first
  -- item the length of the list's contents. The second is not wanted of a plain element, and no number of leaves and ends.
  pub value_counts : DerMessage ℕ → ℕ → Value → List Beside
  value_counts m n (value.Component children) = child_counts m n children
  value_counts m n (value.Simple leaf) = Free ∷ []
  value_counts m n (value.Amount code number) = Free ∷ Free ∷ []
  value_counts m n (value.External tree) = Free ∷ []

  pub child_counts : DerMessage ℕ → ℕ → Children → List Beside
  child_counts m n Nothing = []
  child_counts m n (Child k v rest) =
      let slot = slice_get (form_slots (m.forms n)) k in
      let target = (edge_at n k slot).target in
      counts_of (is_plain slot (m.forms target)) (length (contents_octets (body m (m.forms target) v))) (length (slot_octets m k slot (Child k v rest))) ∷ (value_counts m target v ++ (Free ∷ child_counts m n rest))

-- So many pairs of numbers are kept, from place 0 on: those of the last element that begins stand first.
abbrev pub ArePairsKept : Held → ℕ → List Beside → Type 0
ArePairsKept held n (Free ∷ counts) = ArePairsKept held n counts
ArePairsKept held n (Sized len ∷ counts) = ArePairsKept held n counts
ArePairsKept held zero [] = Unit {0}
ArePairsKept held (suc n) [] = ⊥
ArePairsKept held zero (Counts len group ∷ counts) = ⊥
ArePairsKept held (suc n) (Counts len group ∷ counts) = (slice_index held.lens n ≡ len) × (slice_index held.groups n ≡ group) × ArePairsKept held n counts

-- These numbers are kept, and at the place of the last piece the number of the contents octets of the whole and how many pairs there are.
pub record HasCounts (m : DerMessage ℕ) (v : Value) (held : Held) : Type 0 where
  pub counts : 0 < length held.region.pieces → ArePairsKept held (slice_index held.groups (length held.region.pieces - 1)) (value_counts m m.root v)
  pub whole : 0 < length held.region.pieces → slice_index held.lens (length held.region.pieces - 1) ≡ length (contents_octets (body m (m.forms m.root) v))

-- The lengths of the instance that the pieces are have been filled in.
abbrev pub IsMeasured : Tables → Held → Type 0
IsMeasured T held = (v : Value) → AdmitsAs (types_of T) (types_of T 0) v → held.region.pieces ≡ pieces_of fragment T v → HasCounts (der_message T) v held
