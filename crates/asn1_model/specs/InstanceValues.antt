-- The value of a message's module that an instance of the message is.
use Rattle.std.specs.Prelude.{ℕ, suc, Bool, true, false, List, [], ◌∷◌, Option, Some, None, slice_get, get_or, if◌then◌else◌, ◌==◌}
use Rattle.lexical_core.specs.Tree.{Tree}
use Rattle.data_types.specs.Leaf.{Leaf, Bytes, Number, Code}
use Rattle.data_types.specs.Value.{Value, Children}
use Rattle.data_types.specs.Value as value
use Rattle.data_types.specs.declared.kind.Kind.{Kind}
use Rattle.data_types.specs.declared.kind.Kind.TheVariants as kind
use Rattle.facets.specs.declared.simple.Simple.{Simple}
use Rattle.reference_check.specs.Forms.{Graph, Form, Slot}
use Rattle.reference_check.specs.Forms as form
use Rattle.message_model.specs.Admits.{numbers_of}
use Rattle.message_model.specs.Tables.{Tables, types_of, message_of}
use Rattle.der_model.specs.DerMessage.{DerMessage, in_der}
use Rattle.der_model.specs.Structures.{is_single}
use Rattle.asn1_model.specs.ModuleOf.{code_names}
use Rattle.asn1_model.specs.Values.{AsnValue, Components, Items, Sequence, Chosen, Listed, Enumerated, Primitive, NoComponent, Component, NoItem, Item}

-- a leaf: of a code its identifier
abbrev pub leaf_by : Kind → Option (List (List ℕ)) → Leaf → AsnValue
leaf_by kind.Text (Some texts) (Code place) = Enumerated (get_or (code_names texts) place [])
leaf_by k texts leaf = Primitive leaf

abbrev pub leaf_value : {P : Type 0} → Form P Simple → Leaf → AsnValue
leaf_value (form.Simple s) leaf = leaf_by s.kind s.codes leaf
leaf_value f leaf = Primitive leaf

abbrev pub amount_code : {P : Type 0} → Graph P Simple → Form P Simple → Leaf → AsnValue
amount_code types (form.Money c s) leaf = leaf_value (types c) leaf
amount_code types f leaf = Primitive leaf

-- what stands at slot k, before the components behind: its one value, if any, or the list of its values
abbrev pub with_single : ℕ → Items → Components → Components
with_single k NoItem after = after
with_single k (Item a items) after = Component k a after

abbrev pub with_values : Bool → ℕ → Items → Components → Components
with_values true k items after = with_single k items after
with_values false k items after = Component k (Listed items) after

abbrev pub components_by : {P : Type 0} → ℕ → List (Slot P) → (ℕ → Slot P → Items) → Components
components_by k [] at = NoComponent
components_by k (s ∷ fs) at = with_values (is_single s) k (at k s) (components_by (suc k) fs at)

abbrev pub single_value : Items → AsnValue
single_value NoItem = Listed NoItem
single_value (Item a items) = a

abbrev pub chosen_value : Bool → Items → AsnValue
chosen_value true items = single_value items
chosen_value false items = Listed items

abbrev pub chosen_by : {P : Type 0} → ℕ → Option (Slot P) → (ℕ → Slot P → Items) → AsnValue
chosen_by k None at = Sequence NoComponent
chosen_by k (Some s) at = Chosen k (chosen_value (is_single s) (at k s))

abbrev pub in_form : {P : Type 0} → Form P Simple → List ℕ → (ℕ → Slot P → Items) → AsnValue
in_form (form.Sequence fs) came at = Sequence (components_by 0 fs at)
in_form (form.Choice fs) (k ∷ came) at = chosen_by k (slice_get fs k) at
in_form f came at = Sequence NoComponent

abbrev mutual
  -- the value of the module that a value of a form is
  pub asn_value : {P : Type 0} → DerMessage P → Form P Simple → Value → AsnValue
  asn_value m f (value.Component children) = in_form f (numbers_of children) (λ k s. items_at m k s children)
  asn_value m f (value.Simple leaf) = leaf_value f leaf
  asn_value m f (value.Amount code number) = Sequence (Component 0 (amount_code m.forms f code) (Component 1 (Primitive (Number number)) NoComponent))
  asn_value m f (value.External tree) = Primitive (Bytes (m.fragment tree))

  -- the values of slot k
  pub items_at : {P : Type 0} → DerMessage P → ℕ → Slot P → Children → Items
  items_at m k s value.Nothing = NoItem
  items_at m k s (value.Child j v rest) = if j == k then Item (asn_value m (m.forms s.target) v) (items_at m k s rest) else items_at m k s rest

-- the value of `Document` that an instance is, where envelopes hold these fragments
abbrev pub instance_value : (Tree → List ℕ) → Tables → Value → AsnValue
instance_value fragment T v = asn_value (in_der fragment (message_of T)) (types_of T 0) v
