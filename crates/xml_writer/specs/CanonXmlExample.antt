-- A message with a text, an amount and an envelope, and a value of it.
use Rattle.std.specs.Prelude.{ℕ, zero, suc, List, [], ◌∷◌, codes, Option, Some, None, pos}
use Rattle.lexical_core.specs.Decimals.{Number}
use Rattle.lexical_core.specs.Tree.{Tree}
use Rattle.lexical_core.specs.Tree as tree
use Rattle.data_types.specs.Leaf as leaf
use Rattle.data_types.specs.Value.{Value, Component, Child, Nothing, Amount, External}
use Rattle.data_types.specs.Value as value
use Rattle.data_types.specs.declared.kind.Kind.{Kind}
use Rattle.data_types.specs.declared.kind.Kind.TheVariants as kind
use Rattle.facets.specs.declared.simple.Simple.{Simple}
use Rattle.reference_check.specs.Forms.{Graph, Form, Slot}
use Rattle.reference_check.specs.Forms as form
use Rattle.message_model.specs.Message.{Message}

-- a simple type with these codes, if any, and no other facets
abbrev simple_type : Kind → Option (List (List ℕ)) → Simple
simple_type kind codes = record { kind = kind; min = 0; max = None; total = 18; fraction = None; low = None; high = None; pattern = None; codes = codes }

abbrev pub example_text_type : Simple
example_text_type = simple_type kind.Text None

abbrev pub code_form : Form ℕ Simple
code_form = form.Simple (simple_type kind.Text (Some (codes "CHF" ∷ codes "EUR" ∷ [])))

abbrev pub number_type : Simple
number_type = simple_type kind.Decimal None

abbrev one_slot : List ℕ → ℕ → Slot ℕ
one_slot tag target = record { tag = tag; min = 1; max = Some 1; target = target }

abbrev example_forms : Graph ℕ Simple
example_forms zero = form.Sequence (one_slot (codes "Note") 1 ∷ [])
example_forms (suc zero) = form.Sequence (one_slot (codes "Nm") 2 ∷ one_slot (codes "Amt") 3 ∷ one_slot (codes "Any") 5 ∷ [])
example_forms (suc (suc zero)) = form.Simple example_text_type
example_forms (suc (suc (suc zero))) = form.Money 4 number_type
example_forms (suc (suc (suc (suc zero)))) = code_form
example_forms _ = form.Envelope

abbrev pub example_message : Message ℕ
example_message = record { namespace = codes "urn:a"; forms = example_forms; root = 0 }

-- an element in the namespace of the message
abbrev example_tree : Tree
example_tree = record { name = record { namespace = codes "urn:a"; local = codes "X" }; attributes = []; children = tree.Nothing }

-- the number 1.5
abbrev pub example_number : Number
example_number = record { whole = pos 15; scale = 1 }

-- the text `A>"B`, the amount of 1.5 in the second code, and the element
abbrev pub example_value : Value
example_value =
    Component (Child 0 (Component (
    Child 0 (value.Simple (leaf.Bytes (codes "A>\"B"))) (
    Child 1 (Amount (leaf.Code 1) example_number) (
    Child 2 (External example_tree) Nothing)))) Nothing)
