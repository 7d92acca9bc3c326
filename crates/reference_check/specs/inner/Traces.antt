-- Where a trace leads.
use Rattle.std.specs.Prelude.{ℕ, List, Option, Some, None}
use Rattle.repo_objects.specs.declared.objects.CodeDef.{CodeDef}
use Rattle.repo_objects.specs.declared.objects.Object.{Object}
use Rattle.repo_objects.specs.Repository.{DictionaryEntry}
use Rattle.reference_check.specs.Graph.{find_entry}
use Rattle.reference_check.specs.CodeTexts.{find_code}

-- a code with its object
abbrev pub with_object : Object → Option CodeDef → Option (Object × CodeDef)
with_object o None = None
with_object o (Some c) = Some (o, c)

-- the code of that name in an object, if there is one
abbrev pub code_in : List ℕ → Option Object → Option (Object × CodeDef)
code_in name None = None
code_in name (Some o) = with_object o (find_code name o.codes)

-- the code of that name in the object that a trace names
abbrev pub code_traced : List DictionaryEntry → List ℕ → Option (List ℕ) → Option (Object × CodeDef)
code_traced es name None = None
code_traced es name (Some id) = code_in name (find_entry id es)
