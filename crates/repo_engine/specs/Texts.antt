-- What goes out for a list of messages, for the types of one, and for a drill.
use Rattle.std.specs.Prelude.{ℕ, suc, List, [], ◌∷◌, ◌++◌, codes, flat_map, if◌then◌else◌}
use Rattle.std.specs.Fmt.{decimal}
use Rattle.repo_objects.specs.declared.objects.MessageDef.{MessageDef}
use Rattle.repo_objects.specs.MessageId.{is_message_id}
use Rattle.message_model.specs.Tables.{TypeEntry}
use Rattle.drill.specs.declared.drilling.Drilled.{Drilled}

-- a message of a list: its identifier and its name; none where the identifier has not the form of one
abbrev pub message_line : MessageDef → List ℕ
message_line d = if is_message_id d.id then d.id ++ (codes " " ++ (d.name ++ codes "\n")) else []

-- the messages of a repository, in file order
abbrev pub list_text : List MessageDef → List ℕ
list_text messages = flat_map message_line messages

-- a type by its number: the word for its kind, and its name
abbrev pub type_entry_line : ℕ → List ℕ → List ℕ → List ℕ
type_entry_line number word name = decimal number ++ (codes " " ++ (word ++ (codes " " ++ (name ++ codes "\n"))))

abbrev pub type_line : ℕ → TypeEntry → List ℕ
type_line number t = type_entry_line number t.word t.name

-- the types, numbered from this number on
abbrev pub types_text : ℕ → List TypeEntry → List ℕ
types_text number [] = []
types_text number (t ∷ more) = type_line number t ++ types_text (suc number) more

-- as `nodes 2 depth 2 xml 173 der 20 agree`: lengths are in bytes, and both forms come back
abbrev pub drill_text : Drilled → List ℕ
drill_text d = codes "nodes " ++ (decimal d.nodes ++ (codes " depth " ++ (decimal d.depth ++ (codes " xml " ++ (decimal d.xml ++ (codes " der " ++ (decimal d.der ++ codes " agree\n")))))))
