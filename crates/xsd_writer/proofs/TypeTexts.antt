-- The text of a type is its first line, its contents, and its last line.
use Rattle.std.proofs.Common.{◌≡◌, ℕ, List, [], ◌∷◌, ◌++◌, true, codes, refl, ap₂, ◌∙◌}
use Rattle.data_types.specs.Escaping.{escaped_bytes}
use Rattle.xsd_model.specs.declared.schema.SchemaShape.{SchemaShape}
use Rattle.xsd_model.specs.declared.schema.SchemaShape.TheVariants as shape
use Rattle.xsd_model.specs.declared.schema.SchemaType.{SchemaType}
use Rattle.xsd_model.specs.SchemaText.{line, shape_text, type_text}
use Rattle.xsd_writer.specs.inner.TypeContents.{contents_text, type_word}

abbrev pub type_start : List ℕ → List ℕ → List ℕ
type_start word name = line 1 (codes "<xs:" ∷ word ∷ codes " name=\"" ∷ escaped_bytes true name ∷ codes "\">\n" ∷ [])

abbrev pub type_end : List ℕ → List ℕ
type_end word = line 1 (codes "</xs:" ∷ word ∷ codes ">\n" ∷ [])

shape_is : (name : List ℕ) (s : SchemaShape) → type_start (type_word s) name ++ (contents_text s ++ type_end (type_word s)) ≡ shape_text name s
shape_is name (shape.Sequence parts) = refl
shape_is name (shape.Choice parts) = refl
shape_is name (shape.Simple steps) = refl
shape_is name (shape.Money base code) = refl
shape_is name shape.Any = refl

pub type_is : (type : SchemaType) (word name : List ℕ) → word ≡ type_word type.shape → name ≡ type.name → type_start word name ++ (contents_text type.shape ++ type_end word) ≡ type_text type
type_is type word name same_word same_name =
    ap₂ (λ w n. type_start w n ++ (contents_text type.shape ++ type_end w)) same_word same_name ∙ shape_is type.name type.shape
