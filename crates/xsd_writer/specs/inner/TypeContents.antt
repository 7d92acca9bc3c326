-- What a type is between its first line and its last one.
use Rattle.std.specs.Prelude.{ℕ, List, codes}
use Rattle.xsd_model.specs.SchemaText.{amount_text, any_text, model_text, steps_text}
use Rattle.xsd_model.specs.declared.schema.SchemaShape.{SchemaShape}
use Rattle.xsd_model.specs.declared.schema.SchemaShape.TheVariants as shape

-- the name of its element
abbrev pub type_word : SchemaShape → List ℕ
type_word (shape.Sequence parts) = codes "complexType"
type_word (shape.Choice parts) = codes "complexType"
type_word (shape.Simple steps) = codes "simpleType"
type_word (shape.Money base code) = codes "complexType"
type_word shape.Any = codes "complexType"

-- what stands in its element
abbrev pub contents_text : SchemaShape → List ℕ
contents_text (shape.Sequence parts) = model_text (codes "sequence") parts
contents_text (shape.Choice parts) = model_text (codes "choice") parts
contents_text (shape.Simple steps) = steps_text steps
contents_text (shape.Money base code) = amount_text base code
contents_text shape.Any = any_text
