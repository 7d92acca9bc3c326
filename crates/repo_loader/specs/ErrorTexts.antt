-- The texts of faults and errors, each one line without its end.
use Rattle.std.specs.Prelude.{ℕ, List, ◌++◌, codes, Option, Some, None}
use Rattle.std.specs.Fmt.{decimal}
use Rattle.lexical_core.specs.Rules.{name_of}
use Rattle.lexical_core.specs.declared.rule.Rule.{Rule}
use Rattle.repo_loader.specs.declared.fault.LoadFault.{LoadFault}
use Rattle.repo_loader.specs.declared.fault.LoadError.{LoadError}
use Rattle.repo_loader.specs.declared.fault.LoadError.TheVariants.{Refused, ReadFault, Memory}

-- behind the number of the rule the name of markup's, where there is one; the place in decimal digits
abbrev pub fault_text_by : ℕ → ℕ → Option Rule → List ℕ
fault_text_by rule place (Some mark) = codes "L" ++ decimal rule ++ codes " " ++ name_of mark ++ codes " at " ++ decimal place
fault_text_by rule place None = codes "L" ++ decimal rule ++ codes " at " ++ decimal place

abbrev pub fault_text : LoadFault → List ℕ
fault_text f = fault_text_by f.rule f.place f.markup

abbrev pub load_error_text : LoadError → List ℕ
load_error_text (Refused fault) = fault_text fault
load_error_text ReadFault = codes "the source failed"
load_error_text Memory = codes "out of memory"
