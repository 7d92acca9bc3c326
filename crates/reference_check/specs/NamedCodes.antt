-- How the codes of a set stand under their names. Private functions alone cite this.
use Rattle.std.specs.Prelude.{◌≡◌, ℕ, List, Some, nat_eq, slice_get}
use Rattle.std.specs.Borrow.{Bor}
use Rattle.std.specs.HashMap.{HashMap, get, get_by}
use Rattle.std.specs.Option.{option_copied}
use Rattle.std.specs.Str.{bytes_eq}
use Rattle.repo_objects.specs.declared.objects.CodeDef.{CodeDef}
use Rattle.repo_objects.specs.Repository.{DictionaryEntry, Contents}
use Rattle.reference_check.specs.CodeTexts.{find_code}

-- under each name stands the first code of that name
abbrev pub FindsCodes : {S : Type 0} → HashMap (Bor (List ℕ)) (Bor CodeDef) S → List CodeDef → Type 0
FindsCodes firsts cs = (name : List ℕ) → option_copied (get_by (λ k. bytes_eq name k.now) firsts) ≡ find_code name cs

-- the codes of an object stand under its place
abbrev pub HoldsSets : {S : Type 0} → Contents → HashMap ℕ (List CodeDef) S → Type 0
HoldsSets R sets = (place : ℕ) (cs : List CodeDef) → get nat_eq sets place ≡ Some cs → (e : DictionaryEntry) × (slice_get R.objects place ≡ Some e) × (cs ≡ e.object.codes)
