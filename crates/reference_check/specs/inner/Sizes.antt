-- What is too large or too long in an object.
use Rattle.std.specs.Prelude.{◌≡◌, ◌⊎◌, ◌<◌, [], length, Contains}
use Rattle.repo_objects.specs.declared.objects.CodeDef.{CodeDef}
use Rattle.repo_objects.specs.declared.objects.Object.{Object}
use Rattle.repo_objects.specs.Repository.{Contents}
use Rattle.reference_check.specs.CodeTexts.{text_of_code}
use Rattle.reference_check.specs.Reach.{kind_elements}
use Rattle.reference_check.specs.Rules.{HasPatterns, HasTooMuch, IsLongIfAny, set_codes}

-- a code of the set has a text that is too long
abbrev pub HasLongCode : Contents → Object → Type 0
HasLongCode R o = (c : CodeDef) × Contains (set_codes o) c × IsLongIfAny (text_of_code R.objects o c)

-- the set has no codes, and a pattern that is too long
abbrev pub HasLongPattern : Object → Type 0
HasLongPattern o = (set_codes o ≡ []) × HasPatterns o.kind × IsLongIfAny o.facets.pattern

-- too many elements, or too much else
abbrev pub IsTooLarge : Contents → Object → Type 0
IsTooLarge R o = (4096 < length (kind_elements o.kind o.elements)) ⊎ HasTooMuch R o

-- the same without the texts of its codes
abbrev pub IsTooLongObject : Object → Type 0
IsTooLongObject o = (4096 < length (kind_elements o.kind o.elements)) ⊎ (65536 < length (set_codes o)) ⊎ HasLongPattern o
