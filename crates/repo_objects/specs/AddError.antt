-- The texts of the errors of an addition.
use Rattle.std.specs.Prelude.{ℕ, List, codes}
use Rattle.repo_objects.specs.declared.repository.AddError.{AddError}
use Rattle.repo_objects.specs.declared.repository.AddError.TheVariants.{Twice, Memory}

-- what is printed
abbrev pub add_error_text : AddError → List ℕ
add_error_text Twice = codes "an object has that id already"
add_error_text Memory = codes "there is no memory for the object"
