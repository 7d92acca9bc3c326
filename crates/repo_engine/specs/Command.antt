-- The forms of a command line, and which sources each command pulls from.
use Rattle.std.specs.Prelude.{◌≡◌, ◌≤◌, ℕ, Bool, true, false, not, ◌&&◌, IsTrue, nat_le, List, [], ◌∷◌, length, map, codes, String, string_bytes}
use Rattle.std.specs.Global.{Global}
use Rattle.std.specs.Str.{bytes_eq, all_ascii_digits}
use Rattle.std.specs.Str.Parse.{digits_value}
use Rattle.repo_objects.specs.MessageId.{IsMessageId}
use Rattle.drill.specs.Growing.{most_beside}
use Rattle.repo_engine.specs.declared.command.Verb.{Verb}
use Rattle.repo_engine.specs.declared.command.Verb.TheVariants.{Types, Xsd, Asn1, CheckXml, CheckDer, CanonXml, XmlToDer, DerToXml}

-- the words, each by its bytes
abbrev pub texts : List (String Global) → List (List ℕ)
texts words = map string_bytes words

-- What a command line asks for: the list of a repository's messages, or something of one message, where a word for the external codes
-- hands in none by `-`; or a drill on two numbers.
pub data Command : Type 0 where
  list : (codes_word : List ℕ) → Command
  message : (verb : Verb) (codes_word id : List ℕ) → Command
  drill : (number size : ℕ) → Command

-- the first word of a command of one message
abbrev pub verb_word : Verb → List ℕ
verb_word Types = codes "types"
verb_word Xsd = codes "xsd"
verb_word Asn1 = codes "asn1"
verb_word CheckXml = codes "check-xml"
verb_word CheckDer = codes "check-der"
verb_word CanonXml = codes "canon-xml"
verb_word XmlToDer = codes "xml-to-der"
verb_word DerToXml = codes "der-to-xml"

-- whether it reads an instance
abbrev pub reads_instance : Verb → Bool
reads_instance Types = false
reads_instance Xsd = false
reads_instance Asn1 = false
reads_instance CheckXml = true
reads_instance CheckDer = true
reads_instance CanonXml = true
reads_instance XmlToDer = true
reads_instance DerToXml = true

-- 1 to 18 decimal digits
abbrev pub is_number_word : List ℕ → Bool
is_number_word word = nat_le 1 (length word) && nat_le (length word) 18 && all_ascii_digits word

-- the word is the number in decimal digits
abbrev pub IsNumberWord : List ℕ → ℕ → Type 0
IsNumberWord word n = IsTrue (is_number_word word) × (digits_value 10 word ≡ n)

-- the words have the form of the command, word for word
abbrev pub HasCommandForm : List (List ℕ) → Command → Type 0
HasCommandForm ws (list codes_word) = (repository : List ℕ) × (ws ≡ codes "list" ∷ (repository ∷ (codes_word ∷ [])))
HasCommandForm ws (message verb codes_word id) = (repository : List ℕ) × (ws ≡ verb_word verb ∷ (repository ∷ (codes_word ∷ (id ∷ [])))) × IsMessageId id
HasCommandForm ws (drill number size) = (one : List ℕ) × (other : List ℕ) × (ws ≡ codes "drill" ∷ (one ∷ (other ∷ []))) × IsNumberWord one number × IsNumberWord other size × (size ≤ most_beside)

-- the words have the form of no command
abbrev pub IsUnlisted : List (List ℕ) → Type 0
IsUnlisted ws = (command : Command) → HasCommandForm ws command → ⊥

-- the word for the codes hands some in
abbrev pub hands_in : List ℕ → Bool
hands_in codes_word = not (bytes_eq codes_word (codes "-"))

-- the sources that a command pulls from; none pulls from the others where it does not pull from the repository
pub record Pulled : Type 0 where
  pub repository : Bool
  pub codes : Bool
  pub instance : Bool

abbrev pub pulled_by : Command → Pulled
pulled_by (list codes_word) = record { repository = true; codes = hands_in codes_word; instance = false }
pulled_by (message verb codes_word id) = record { repository = true; codes = hands_in codes_word; instance = reads_instance verb }
pulled_by (drill number size) = record { repository = false; codes = false; instance = false }
