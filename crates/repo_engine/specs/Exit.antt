-- The exit status of the program.
use Rattle.std.specs.Prelude.{ℕ}
use Rattle.repo_engine.specs.declared.status.Status.{Status}
use Rattle.repo_engine.specs.declared.status.Status.TheVariants.{Done, Words, Repository, Codes, Message, Instance, ReadFault, WriteFault, Memory}

-- the number that the program ends with
abbrev pub exit_code_of : Status → ℕ
exit_code_of Done = 0
exit_code_of Words = 1
exit_code_of Repository = 2
exit_code_of Codes = 3
exit_code_of Message = 4
exit_code_of Instance = 5
exit_code_of ReadFault = 6
exit_code_of WriteFault = 7
exit_code_of Memory = 8
