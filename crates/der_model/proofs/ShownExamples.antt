-- Examples of the pieces that parts of DER show, computed.
use Rattle.std.proofs.Common.{[], ◌∷◌, refl}
use Rattle.data_types.specs.Leaf.{Bytes}
use Rattle.data_types.specs.Value.{Begins, Holds, Ends}
use Rattle.der_model.specs.States.{Start}
use Rattle.der_model.specs.ShownPieces.{PartsShow}
use Rattle.der_model.specs.ShownExamples.{choice_forms, note_of_choices, choice_parts, choice_pieces, note_edge, part_edge, one_edge, some_edge}

-- 30 0C A0 0A A0 08 80 01 41 A1 03 0C 01 42
pub row_choices : PartsShow note_of_choices Start 0 choice_parts choice_pieces
unfolding choice_forms
row_choices = ([], Begins note_edge ∷ Begins part_edge ∷ Begins one_edge ∷ Holds (Bytes (65 ∷ [])) ∷ Ends one_edge ∷ Ends part_edge ∷ Begins part_edge ∷ Begins some_edge ∷ Holds (Bytes (66 ∷ [])) ∷ Ends some_edge ∷ Ends part_edge ∷ Ends note_edge ∷ [], refl, ([], Begins note_edge ∷ Begins part_edge ∷ Begins one_edge ∷ Holds (Bytes (65 ∷ [])) ∷ Ends one_edge ∷ Ends part_edge ∷ Begins part_edge ∷ Begins some_edge ∷ Holds (Bytes (66 ∷ [])) ∷ Ends some_edge ∷ Ends part_edge ∷ Ends note_edge ∷ [], refl, (Begins note_edge ∷ [], Begins part_edge ∷ Begins one_edge ∷ Holds (Bytes (65 ∷ [])) ∷ Ends one_edge ∷ Ends part_edge ∷ Begins part_edge ∷ Begins some_edge ∷ Holds (Bytes (66 ∷ [])) ∷ Ends some_edge ∷ Ends part_edge ∷ Ends note_edge ∷ [], refl, ([], Begins part_edge ∷ Begins one_edge ∷ Holds (Bytes (65 ∷ [])) ∷ Ends one_edge ∷ Ends part_edge ∷ Begins part_edge ∷ Begins some_edge ∷ Holds (Bytes (66 ∷ [])) ∷ Ends some_edge ∷ Ends part_edge ∷ Ends note_edge ∷ [], refl, ([], Begins part_edge ∷ Begins one_edge ∷ Holds (Bytes (65 ∷ [])) ∷ Ends one_edge ∷ Ends part_edge ∷ Begins part_edge ∷ Begins some_edge ∷ Holds (Bytes (66 ∷ [])) ∷ Ends some_edge ∷ Ends part_edge ∷ Ends note_edge ∷ [], refl, ([], Begins part_edge ∷ Begins one_edge ∷ Holds (Bytes (65 ∷ [])) ∷ Ends one_edge ∷ Ends part_edge ∷ Begins part_edge ∷ Begins some_edge ∷ Holds (Bytes (66 ∷ [])) ∷ Ends some_edge ∷ Ends part_edge ∷ Ends note_edge ∷ [], refl, (Begins part_edge ∷ Begins one_edge ∷ [], Holds (Bytes (65 ∷ [])) ∷ Ends one_edge ∷ Ends part_edge ∷ Begins part_edge ∷ Begins some_edge ∷ Holds (Bytes (66 ∷ [])) ∷ Ends some_edge ∷ Ends part_edge ∷ Ends note_edge ∷ [], refl, ([], Holds (Bytes (65 ∷ [])) ∷ Ends one_edge ∷ Ends part_edge ∷ Begins part_edge ∷ Begins some_edge ∷ Holds (Bytes (66 ∷ [])) ∷ Ends some_edge ∷ Ends part_edge ∷ Ends note_edge ∷ [], refl, (Holds (Bytes (65 ∷ [])) ∷ Ends one_edge ∷ Ends part_edge ∷ [], Begins part_edge ∷ Begins some_edge ∷ Holds (Bytes (66 ∷ [])) ∷ Ends some_edge ∷ Ends part_edge ∷ Ends note_edge ∷ [], (Bytes (65 ∷ []), refl, refl), (Begins part_edge ∷ [], Begins some_edge ∷ Holds (Bytes (66 ∷ [])) ∷ Ends some_edge ∷ Ends part_edge ∷ Ends note_edge ∷ [], refl, ([], Begins some_edge ∷ Holds (Bytes (66 ∷ [])) ∷ Ends some_edge ∷ Ends part_edge ∷ Ends note_edge ∷ [], refl, (Begins some_edge ∷ [], Holds (Bytes (66 ∷ [])) ∷ Ends some_edge ∷ Ends part_edge ∷ Ends note_edge ∷ [], refl, ([], Holds (Bytes (66 ∷ [])) ∷ Ends some_edge ∷ Ends part_edge ∷ Ends note_edge ∷ [], refl, (Holds (Bytes (66 ∷ [])) ∷ Ends some_edge ∷ [], Ends part_edge ∷ Ends note_edge ∷ [], (Bytes (66 ∷ []), refl, refl), (Ends part_edge ∷ [], Ends note_edge ∷ [], refl, ([], Ends note_edge ∷ [], refl, (Ends note_edge ∷ [], [], refl, ([], [], refl, refl, refl), refl), refl), refl), refl), refl), refl), refl), refl), refl), refl), refl), refl), refl), refl), refl), refl), refl)
