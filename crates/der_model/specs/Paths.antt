-- Paths: the names of the open values, from the outermost one inwards.
use Rattle.std.specs.Prelude.{ℕ, List, [], ◌∷◌, ◌++◌, codes}
use Rattle.std.specs.Fmt.{decimal}
use Rattle.der_model.specs.States.{PathName, Numbered, ListName, AttributeName, DerLevel, State, Start, AwaitsLength, AwaitsContents, Within}

-- a name after its slash
abbrev pub path_name_text : PathName → List ℕ
path_name_text (Numbered tag number) = tag ++ (91 ∷ decimal number ++ 93 ∷ [])
path_name_text (ListName tag) = tag
path_name_text (AttributeName name) = 64 ∷ name

-- a list is named only where it is innermost: an item has the tag of its list itself
abbrev pub names_text : List PathName → List ℕ
names_text [] = []
names_text (n ∷ []) = 47 ∷ path_name_text n
names_text (ListName tag ∷ n ∷ ns) = names_text (n ∷ ns)
names_text (Numbered tag number ∷ n ∷ ns) = (47 ∷ path_name_text (Numbered tag number)) ++ names_text (n ∷ ns)
names_text (AttributeName name ∷ n ∷ ns) = (47 ∷ path_name_text (AttributeName name)) ++ names_text (n ∷ ns)

abbrev pub path_text : List PathName → List ℕ
path_text [] = codes "/"
path_text (n ∷ ns) = names_text (n ∷ ns)

-- the names of open values, given innermost first
abbrev pub names_of : {P : Type 0} → List (DerLevel P) → List PathName
names_of [] = []
names_of (l ∷ ls) = names_of ls ++ l.names

abbrev pub state_names : {P : Type 0} → State P → List PathName
state_names Start = []
state_names (AwaitsLength constructed spot names around) = names_of around ++ names
state_names (AwaitsContents spot names count around) = names_of around ++ names
state_names (Within levels) = names_of levels

-- the path of the innermost value that has begun and not ended
abbrev pub path_of : {P : Type 0} → State P → List ℕ
path_of state = path_text (state_names state)
