-- The texts of a fault and of why an instance is not read, each one line without its end.
use Rattle.std.specs.Prelude.{ℕ, List, [], ◌++◌, codes, if◌then◌else◌}
use Rattle.std.specs.Str.{is_utf8}
use Rattle.std.specs.Fmt.{decimal}
use Rattle.lexical_core.specs.Rules.{name_of}
use Rattle.message_model.specs.declared.fault.Fault.{Fault}
use Rattle.message_model.specs.declared.fault.InstanceError.{InstanceError}
use Rattle.message_model.specs.declared.fault.InstanceError.TheVariants.{Refused, Memory}

-- a path, where it is UTF-8
abbrev pub in_path : List ℕ → List ℕ
in_path path = if is_utf8 path then codes " in " ++ path else []

-- the rule's name, the place in decimal digits, and the path
abbrev pub instance_fault_text : Fault → List ℕ
instance_fault_text f = name_of f.rule ++ codes " at " ++ decimal f.place ++ in_path f.path

abbrev pub instance_error_text : InstanceError → List ℕ
instance_error_text (Refused fault) = instance_fault_text fault
instance_error_text Memory = codes "out of memory"
