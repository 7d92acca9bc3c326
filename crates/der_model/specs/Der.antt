-- The DER of a value.
use Rattle.std.specs.Prelude.{◌≡◌, ℕ, suc, ◌==◌, List, [], ◌∷◌, Option, Some, None, slice_get, if◌then◌else◌}
use Rattle.data_types.specs.Leaf.{Number}
use Rattle.data_types.specs.Value.{Value, Children}
use Rattle.data_types.specs.Value as value
use Rattle.facets.specs.declared.simple.Simple.{Simple}
use Rattle.der_octets.specs.Octets.{Tag, universal, context, Values, Nothing, Primitive, Constructed, then_values, octets}
use Rattle.reference_check.specs.Forms.{Graph, Form, Slot}
use Rattle.reference_check.specs.Forms as form
use Rattle.message_model.specs.Admits.{AdmitsAs, numbers_of}
use Rattle.der_model.specs.DerMessage.{DerMessage}
use Rattle.der_model.specs.LeafContents.{leaf_contents}
use Rattle.der_model.specs.Structures.{is_single, universal_tag}

-- what a value holds: octets or values
pub data Body : Type 0 where
  Octets : List ℕ → Body
  Inner : Values → Body

-- a value under a tag, and what follows
abbrev pub under : Tag → Body → Values → Values
under tag (Octets contents) rest = Primitive tag contents rest
under tag (Inner inner) rest = Constructed tag inner rest

-- the values of a body
abbrev pub inner_of : Body → Values
inner_of (Octets contents) = Nothing
inner_of (Inner inner) = inner

-- an item of a list, and what follows; of a choice it is the alternative
abbrev pub item : {P : Type 0} → Form P Simple → Body → Values → Values
item (form.Choice slots) body rest = then_values (inner_of body) rest
item form body rest = under (universal_tag form) body rest

-- a value of slot k: under its tag, or as an item of its list
abbrev pub placed_value : {P : Type 0} → Graph P Simple → ℕ → Slot P → Body → Values → Values
placed_value types k s body rest = if is_single s then under (context k) body rest else item (types s.target) body rest

-- slot k, of the values in it; a list stands there also where it is empty
abbrev pub slot_values : {P : Type 0} → ℕ → Slot P → Values → Values → Values
slot_values k s here rest = if is_single s then then_values here rest else Constructed (context k) here rest

-- each slot in order, the first with number k
abbrev pub all_slots : {P : Type 0} → ℕ → List (Slot P) → (ℕ → Slot P → Values) → Values
all_slots k [] at = Nothing
all_slots k (s ∷ slots) at = slot_values k s (at k s) (all_slots (suc k) slots at)

-- the slot of the alternative that has come
abbrev pub chosen_slot : {P : Type 0} → ℕ → Option (Slot P) → (ℕ → Slot P → Values) → Values
chosen_slot k None at = Nothing
chosen_slot k (Some s) at = slot_values k s (at k s) Nothing

abbrev pub alternative : {P : Type 0} → List (Slot P) → List ℕ → (ℕ → Slot P → Values) → Values
alternative slots [] at = Nothing
alternative slots (k ∷ more) at = chosen_slot k (slice_get slots k) at

-- the values of a component, or of the alternative of a choice, by what stands at each slot
abbrev pub form_values : {P : Type 0} → Form P Simple → List ℕ → (ℕ → Slot P → Values) → Values
form_values (form.Sequence slots) came at = all_slots 0 slots at
form_values (form.Choice slots) came at = alternative slots came at
form_values form came at = Nothing

abbrev mutual
  -- what a value of a form holds
  pub body : {P : Type 0} → DerMessage P → Form P Simple → Value → Body
  body m f (value.Component children) = Inner (form_values f (numbers_of children) (λ k s. values_at m k s children))
  body m f (value.Simple leaf) = Octets (leaf_contents leaf)
  body m f (value.Amount code number) = Inner (Primitive (context 0) (leaf_contents code) (Primitive (context 1) (leaf_contents (Number number)) Nothing))
  body m f (value.External tree) = Octets (m.fragment tree)

  -- the children in slot k
  pub values_at : {P : Type 0} → DerMessage P → ℕ → Slot P → Children → Values
  values_at m k s value.Nothing = Nothing
  values_at m k s (value.Child j v rest) =
      if j == k then placed_value m.forms k s (body m (m.forms s.target) v) (values_at m k s rest) else values_at m k s rest

-- the DER of an instance as values: one sequence
abbrev pub der_values : {P : Type 0} → DerMessage P → Value → Values
der_values m v = Constructed (universal 16) (inner_of (body m (m.forms m.root) v)) Nothing

abbrev pub der_of : {P : Type 0} → DerMessage P → Value → List ℕ
der_of m v = octets (der_values m v)

-- the bytes are the DER of this instance
abbrev pub SpellsDer : {P : Type 0} → DerMessage P → List ℕ → Value → Type 0
SpellsDer m bytes v = AdmitsAs m.forms (m.forms m.root) v × (bytes ≡ der_of m v)
