-- An instance in both forms.
use Rattle.std.specs.Prelude.{◌≡◌, ℕ, ◌≤◌, List, length}
use Rattle.data_types.specs.Value.{Value}
use Rattle.message_model.specs.Admits.{AdmitsAs}
use Rattle.message_model.specs.Tables.{Tables, message_of, types_of}
use Rattle.der_model.specs.Der.{der_of}
use Rattle.der_model.specs.DerMessage.{der_message}
use Rattle.xml_instances.specs.SpellsXml.{SpellsXml}
use Rattle.xml_writer.specs.CanonXml.{IsCanonXml}
use Rattle.transcoder.specs.Limited.{most_bytes}

-- the texts are those of the value, and both can be read
pub record AreForms (T : Tables) (v : Value) (xml der : List ℕ) : Type 0 where
  pub admitted : AdmitsAs (types_of T) (types_of T 0) v
  pub xml_is : IsCanonXml (message_of T) v xml
  pub xml_spells : SpellsXml (message_of T) xml v
  pub xml_within : length xml ≤ most_bytes
  pub der_is : der ≡ der_of (der_message T) v
  pub der_within : length der ≤ most_bytes
