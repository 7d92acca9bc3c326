-- The types that the types of a message are, one by one.
use Rattle.std.proofs.Common.{◌≡◌, ℕ, ◌+◌, ◌<◌, inl, inr, List, [], ◌∷◌, ◌++◌, length, take, flat_map, Option, Some, sym, ap, subst, ◌∙◌, arith}
use Rattle.std.specs.Prelude.{slice_get}
use Rattle.std.proofs.lemmas.Grind.{flat_map-append}
use Rattle.std.proofs.lemmas.List.{append-nil}
use Rattle.std.proofs.lemmas.List.Concat.{flat_map-cons}
use Rattle.std.proofs.lemmas.Option.{slice_get_cases}
use Rattle.lexical_core.proofs.Lists.{take_item}
use Rattle.message_model.specs.Tables.{Tables, TypeEntry, types_of, form_or_missing}
use Rattle.xsd_model.specs.declared.schema.SchemaType.{SchemaType}
use Rattle.xsd_model.specs.SchemaOf.{schema_name_of, name_or_none, types_by, types_of_entry}

flat_map-take_item : {X Y : Type 0} (f : X → List Y) (xs : List X) (n : ℕ) (x : X) → slice_get xs n ≡ Some x → flat_map f (take (n + 1) xs) ≡ flat_map f (take n xs) ++ f x
flat_map-take_item f xs n x e = ap (flat_map f) (take_item xs n x e) ∙ (flat_map-append f (take n xs) (x ∷ []) ∙ ap (λ l. flat_map f (take n xs) ++ l) (flat_map-cons f x [] ∙ append-nil (f x)))

-- the types of one more type of the message
pub types_more : (tables : Tables) (n : ℕ) (old new : List SchemaType) → n < length tables.types → old ≡ flat_map (types_of_entry tables) (take n tables.types)
    → new ≡ old ++ types_by (schema_name_of tables) (schema_name_of tables n) (types_of tables n) → new ≡ flat_map (types_of_entry tables) (take (n + 1) tables.types)
types_more tables n old new lt before grown =
    grown ∙ (ap (λ l. l ++ types_by (schema_name_of tables) (schema_name_of tables n) (types_of tables n)) before ∙ elim (slice_get_cases tables.types n).1 [
      | inl h ↦ here h.0 h.2
      | inr h ↦ absurd (omega (arith, h.0))
    ])
  where
    here : (entry : TypeEntry) → slice_get tables.types n ≡ Some entry
        → flat_map (types_of_entry tables) (take n tables.types) ++ types_by (schema_name_of tables) (schema_name_of tables n) (types_of tables n) ≡ flat_map (types_of_entry tables) (take (n + 1) tables.types)
    here entry e =
        subst (λ (o : Option TypeEntry). flat_map (types_of_entry tables) (take n tables.types) ++ types_by (schema_name_of tables) (name_or_none o) (form_or_missing o) ≡ flat_map (types_of_entry tables) (take (n + 1) tables.types))
        (sym e) (sym (flat_map-take_item (types_of_entry tables) tables.types n entry e))
