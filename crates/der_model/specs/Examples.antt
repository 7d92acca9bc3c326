-- A message for examples: `Document` with `Note`, whose elements are texts and an amount.
use Rattle.std.specs.Prelude.{ℕ, zero, suc, List, [], ◌∷◌, Option, Some, None, codes}
use Rattle.data_types.specs.Leaf.{Bytes}
use Rattle.data_types.specs.Value as value
use Rattle.data_types.specs.declared.kind.Kind.{Kind}
use Rattle.data_types.specs.declared.kind.Kind.TheVariants as kind
use Rattle.facets.specs.declared.simple.Simple.{Simple}
use Rattle.reference_check.specs.Forms.{Form, Slot}
use Rattle.reference_check.specs.Forms as form
use Rattle.der_model.specs.DerMessage.{DerMessage}

-- a simple type without facets
unfoldable pub plain : Kind → Simple
plain k = record { kind = k; min = 0; max = None; total = 18; fraction = None; low = None; high = None; pattern = None; codes = None }

-- a text that has to come, and comes at most so often
abbrev pub text_slot : Option ℕ → Slot ℕ
text_slot most = record { tag = codes "Id"; min = 1; max = most; target = 2 }

-- texts, and an amount that may be left out
abbrev pub list_slot : Slot ℕ
list_slot = record { tag = codes "Line"; min = 1; max = None; target = 2 }

abbrev pub amount_slot : Slot ℕ
amount_slot = record { tag = codes "Amt"; min = 0; max = Some 1; target = 3 }

-- the types: `Document`, `Note` with these elements, texts, amounts
unfoldable pub forms : List (Slot ℕ) → ℕ → Form ℕ Simple
forms slots zero = form.Sequence (record { tag = codes "Note"; min = 1; max = Some 1; target = 1 } ∷ [])
forms slots (suc zero) = form.Sequence slots
forms slots (suc (suc zero)) = form.Simple (plain kind.Text)
forms slots (suc (suc (suc zero))) = form.Money 2 (plain kind.Decimal)
forms slots (suc (suc (suc (suc n)))) = form.Missing

abbrev pub note : List (Slot ℕ) → DerMessage ℕ
note slots = record { forms = forms slots; root = 0; fragment = λ tree. [] }

-- an instance whose `Note` has these children
abbrev pub with_note : value.Children → value.Value
with_note children = value.Component (value.Child 0 (value.Component children) value.Nothing)

-- a text of one character
abbrev pub one_character : ℕ → value.Value
one_character char = value.Simple (Bytes (char ∷ []))
