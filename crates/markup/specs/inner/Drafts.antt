-- What an open tag has said so far.
use Rattle.std.specs.Prelude.{ℕ, Bool, ◌==◌, ◌&&◌, ◌+◌, List, [], ◌∷◌, ◌++◌, length, if◌then◌else◌, encode_utf8}
use Rattle.markup.specs.Chars.{is_space}
use Rattle.markup.specs.inner.ReferenceScans.{reference_step}
use Rattle.markup.specs.declared.tag.Given.{Given}
use Rattle.markup.specs.declared.tag.Spelled.{Spelled}
use Rattle.markup.specs.declared.draft.Draft.{Draft}
use Rattle.markup.specs.declared.reference.ReferenceScan.{ReferenceScan}
use Rattle.markup.specs.declared.reference.ReferenceTurn.{ReferenceTurn}
use Rattle.markup.specs.declared.reference.ReferenceTurn.TheVariants.{Gives}
use Rattle.markup.specs.declared.scan.NameScan.{NameScan}
use Rattle.markup.specs.declared.scan.NameScan.TheVariants.{Colon}
use Rattle.markup.specs.declared.scan.Scan.{Scan}
use Rattle.markup.specs.declared.scan.Scan.TheVariants.{StartName, AttributeName, EndName, Value, ValueReference, AfterValue}

-- no name yet
abbrev pub no_name : Spelled
no_name = record { prefix = []; local = [] }

-- nothing yet
abbrev pub no_draft : Draft
no_draft = record { name = no_name; given = []; attribute = no_name; value = [] }

-- what came before the colon is the prefix
abbrev pub shift : Spelled → Spelled
shift n = record { prefix = n.local; local = [] }

-- one more character of a name
abbrev pub add : NameScan → ℕ → Spelled → Spelled
add Colon c n = shift n
add _ c n = record { prefix = n.prefix; local = n.local ++ encode_utf8 c }

-- what a literal adds to a value, behind a literal CR or not
abbrev pub literal_char : Bool → ℕ → List ℕ
literal_char after_return c = if c == 10 && after_return then [] else (if is_space c then encode_utf8 32 else encode_utf8 c)

-- what a reference adds to a value with its last character
abbrev pub given_by : ReferenceTurn → List ℕ
given_by (Gives c) = encode_utf8 c
given_by _ = []

abbrev pub given_char : ReferenceScan → ℕ → List ℕ
given_char r c = given_by (reference_step r c)

-- the value goes on
abbrev pub add_value : List ℕ → Draft → Draft
add_value bytes d = record { name = d.name; given = d.given; attribute = d.attribute; value = d.value ++ bytes }

-- the attribute has ended
abbrev pub end_value : Draft → Draft
end_value d = record { name = d.name; given = d.given ++ record { name = d.attribute; value = d.value } ∷ []; attribute = no_name; value = [] }

-- a character of a value, by the scan before it
abbrev pub value_noted : Scan → ℕ → Draft → Draft
value_noted (Value q after_return) c d = add_value (literal_char after_return c) d
value_noted (ValueReference q r) c d = add_value (given_char r c) d
value_noted _ c d = d

-- what a character says, by the scans before it and behind it
abbrev pub note_character : Scan → Scan → ℕ → Draft → Draft
note_character from (StartName part) c d = record { name = add part c d.name; given = d.given; attribute = d.attribute; value = d.value }
note_character from (EndName part) c d = record { name = add part c d.name; given = d.given; attribute = d.attribute; value = d.value }
note_character from (AttributeName part) c d = record { name = d.name; given = d.given; attribute = add part c d.attribute; value = d.value }
note_character from (Value q after_return) c d = value_noted from c d
note_character from AfterValue c d = end_value d
note_character from _ c d = d

-- how many bytes are held for a name, for attributes, and for an open tag
abbrev pub held_name : Spelled → ℕ
held_name n = length n.prefix + length n.local

abbrev pub held_all : List Given → ℕ
held_all [] = 0
held_all (g ∷ gs) = held_name g.name + length g.value + held_all gs

abbrev pub draft_size : Draft → ℕ
draft_size d = held_name d.name + held_name d.attribute + length d.value + held_all d.given
