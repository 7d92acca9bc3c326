-- Faults of small instances.
use Rattle.std.proofs.Common.{ℕ, zero, suc, List, [], ◌∷◌, Option, Some, None, refl, inl, inr}
use Rattle.std.specs.Prelude.{codes, ◌++◌}
use Rattle.std.specs.Fmt.{decimal}
use Rattle.lexical_core.specs.declared.rule.Rule.{Rule}
use Rattle.lexical_core.specs.declared.rule.Rule.TheVariants as rule
use Rattle.lexical_core.specs.Tree.{Item, Starts, Char, Ends, Skipped}
use Rattle.facets.specs.declared.simple.Simple.{Simple}
use Rattle.markup.specs.Chars.{is_space}
use Rattle.reference_check.specs.Forms.{Form, Slot, Sequence, Choice, Missing}
use Rattle.reference_check.specs.Forms as form
use Rattle.message_model.specs.Message.{Message}
use Rattle.message_model.specs.Writes.{name_in_namespace, schema_instance}
use Rattle.xml_instances.specs.EventFaults.{FirstFault, AreFine}

module _ (s : Simple) where
  slot : List ℕ → ℕ → Option ℕ → ℕ → Slot ℕ
  slot tag min max target = record { tag = tag; min = min; max = max; target = target }

  abbrev forms : ℕ → Form ℕ Simple
  unfolding slot
  forms zero = Sequence (slot (codes "Note") 1 (Some 1) 1 ∷ [])
  forms (suc zero) = Sequence (slot (codes "Id") 1 (Some 2) 2 ∷ slot (codes "Amt") 0 None 3 ∷ slot (codes "Ch") 0 (Some 1) 4 ∷ slot (codes "Em") 0 (Some 1) 5 ∷ slot (codes "Ev") 0 (Some 1) 6 ∷ [])
  forms (suc (suc zero)) = form.Simple s
  forms (suc (suc (suc zero))) = form.Money 2 s
  forms (suc (suc (suc (suc zero)))) = Choice (slot (codes "A") 2 (Some 3) 2 ∷ slot (codes "B") 1 (Some 1) 2 ∷ [])
  forms (suc (suc (suc (suc (suc zero))))) = Sequence []
  forms (suc (suc (suc (suc (suc (suc zero)))))) = form.Envelope
  forms n = Missing

  abbrev note : Message ℕ
  note = record { namespace = codes "u"; forms = forms; root = 0 }

  abbrev numbered_tag : List ℕ → List ℕ
  numbered_tag tag = tag ++ 91 ∷ decimal 1 ++ 93 ∷ []

  abbrev note_path : List ℕ
  note_path = codes "/Document[1]" ++ numbered_tag (codes "/Note")

  abbrev starts : List ℕ → Item
  starts tag = Starts (name_in_namespace (codes "u") tag) []

  abbrev ends : List ℕ → Item
  ends tag = Ends (name_in_namespace (codes "u") tag)

  abbrev Tells : List Item → Rule → List ℕ → Type 0
  Tells items r path = FirstFault note [] items (record { rule = r; path = path })

  -- a required element is not there
  missing_id : Tells (starts (codes "Document") ∷ starts (codes "Note") ∷ ends (codes "Note") ∷ []) rule.Missing (note_path ++ codes "/Id")
  unfolding slot forms
  missing_id = inr (refl, inr (refl, inl refl))

  wrong_root : Tells (starts (codes "Note") ∷ []) rule.WrongRoot (codes "/")
  unfolding slot forms
  wrong_root = inl refl

  unknown : Tells (starts (codes "Document") ∷ starts (codes "Note") ∷ starts (codes "X") ∷ []) rule.UnknownElement (note_path)
  unfolding slot forms
  unknown = inr (refl, inr (refl, inl refl))

  skips : Tells (starts (codes "Document") ∷ starts (codes "Note") ∷ starts (codes "Amt") ∷ []) rule.Missing (note_path ++ codes "/Id")
  unfolding slot forms
  skips = inr (refl, inr (refl, inl refl))

  text_in_note : Tells (starts (codes "Document") ∷ starts (codes "Note") ∷ Char 32 ∷ Char 97 ∷ []) rule.TextInComplex (note_path)
  unfolding slot forms is_space
  text_in_note = inr (refl, inr (refl, inr (refl, inl refl)))

  in_text : Tells (starts (codes "Document") ∷ starts (codes "Note") ∷ starts (codes "Id") ∷ Char 65 ∷ starts (codes "b") ∷ []) rule.ElementInSimple ((note_path ++ numbered_tag (codes "/Id")))
  unfolding slot forms
  in_text = inr (refl, inr (refl, inr (refl, inr (refl, inl refl))))

  bad_attribute : Tells (Starts (name_in_namespace (codes "u") (codes "Document")) (record { name = name_in_namespace [] (codes "a"); value = [] } ∷ []) ∷ []) rule.UnknownAttribute (codes "/Document[1]")
  unfolding slot forms
  bad_attribute = inl refl

  hint : AreFine note [] (Starts (name_in_namespace (codes "u") (codes "Document")) (record { name = name_in_namespace schema_instance (codes "schemaLocation"); value = [] } ∷ []) ∷ Skipped ∷ [])
  unfolding slot forms
  hint = (refl, (refl, tt))
