-- A message for examples of pieces: `Document` with `Note`, which has a list of choices of an external schema or a list of such.
use Rattle.std.specs.Prelude.{ℕ, zero, suc, true, false, List, [], ◌∷◌, Some, None, codes}
use Rattle.data_types.specs.Leaf.{Bytes}
use Rattle.data_types.specs.Value.{Edge, Piece, Begins, Holds, Ends}
use Rattle.facets.specs.declared.simple.Simple.{Simple}
use Rattle.der_octets.specs.Octets.{universal, context}
use Rattle.reference_check.specs.Forms.{Form}
use Rattle.reference_check.specs.Forms as form
use Rattle.der_model.specs.DerMessage.{DerMessage}
use Rattle.der_model.specs.States.{Part, Identifier, Length, Contents, End}

-- the types: `Document`, `Note` with choices, a choice, an external schema
unfoldable pub choice_forms : ℕ → Form ℕ Simple
choice_forms zero = form.Sequence (record { tag = codes "Note"; min = 1; max = Some 1; target = 1 } ∷ [])
choice_forms (suc zero) = form.Sequence (record { tag = codes "Part"; min = 1; max = None; target = 2 } ∷ [])
choice_forms (suc (suc zero)) =
    form.Choice (record { tag = codes "One"; min = 1; max = Some 1; target = 3 } ∷ record { tag = codes "Some"; min = 1; max = None; target = 3 } ∷ [])
choice_forms (suc (suc (suc zero))) = form.Envelope
choice_forms (suc (suc (suc (suc n)))) = form.Missing

abbrev pub note_of_choices : DerMessage ℕ
note_of_choices = record { forms = choice_forms; root = 0; fragment = λ tree. [] }

-- 30 0C A0 0A A0 08 80 01 41 A1 03 0C 01 42
abbrev pub choice_parts : List Part
choice_parts =
    Identifier true (universal 16) ∷ Length 12 ∷ Identifier true (context 0) ∷ Length 10 ∷ Identifier true (context 0) ∷ Length 8
    ∷ Identifier false (context 0) ∷ Length 1 ∷ Contents (65 ∷ [])
    ∷ Identifier true (context 1) ∷ Length 3 ∷ Identifier false (universal 12) ∷ Length 1 ∷ Contents (66 ∷ []) ∷ End ∷ End ∷ End ∷ End ∷ []

-- the elements `Note`, `Part`, and in it `One` or `Some`
abbrev pub note_edge : Edge
note_edge = record { slot = 0; target = 1; parent = 0 }

abbrev pub part_edge : Edge
part_edge = record { slot = 0; target = 2; parent = 1 }

abbrev pub one_edge : Edge
one_edge = record { slot = 0; target = 3; parent = 2 }

abbrev pub some_edge : Edge
some_edge = record { slot = 1; target = 3; parent = 2 }

-- two elements `Part`, one with `One` and one with `Some`
abbrev pub choice_pieces : List Piece
choice_pieces =
    Begins note_edge ∷ Begins part_edge ∷ Begins one_edge ∷ Holds (Bytes (65 ∷ [])) ∷ Ends one_edge ∷ Ends part_edge
    ∷ Begins part_edge ∷ Begins some_edge ∷ Holds (Bytes (66 ∷ [])) ∷ Ends some_edge ∷ Ends part_edge ∷ Ends note_edge ∷ []
