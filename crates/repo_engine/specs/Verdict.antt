-- What words and bytes come to, and the line of a refusal.
use Rattle.std.specs.Prelude.{ℕ, ◌==◌, List, [], ◌++◌, codes, Option, Some, None, if◌then◌else◌}
use Rattle.std.specs.Fmt.{decimal}
use Rattle.lexical_core.specs.Rules.{name_of}
use Rattle.lexical_core.specs.declared.rule.Rule.{Rule}
use Rattle.repo_loader.specs.declared.fault.LoadFault.{LoadFault}
use Rattle.message_model.specs.declared.fault.Fault.{Fault}
use Rattle.repo_engine.specs.declared.refusal.Refusal.{Refusal}
use Rattle.repo_engine.specs.declared.refusal.Refusal.TheVariants.{Words, Repository, Codes, Message, Instance}
use Rattle.repo_engine.specs.declared.refusal.Stop.{Stop}
use Rattle.repo_engine.specs.declared.refusal.Stop.TheVariants as stop
use Rattle.repo_engine.specs.declared.status.Status.{Status}
use Rattle.repo_engine.specs.declared.status.Status.TheVariants as status

-- accepted, with the text that goes out; or refused, with what goes out all the same, which is nothing of any command that there is
pub data Verdict : Type 0 where
  accepted : (text : List ℕ) → Verdict
  refused : (refusal : Refusal) (text : List ℕ) → Verdict

-- a rule of markup by its name, behind a space
abbrev pub markup_name : Option Rule → List ℕ
markup_name None = []
markup_name (Some rule) = codes " " ++ name_of rule

-- as `refused: repository L3 at 120`, or `refused: repository L1 BadMarkup at 77`
abbrev pub repository_line : LoadFault → List ℕ
repository_line f = codes "refused: repository L" ++ (decimal f.rule ++ (markup_name f.markup ++ (codes " at " ++ (decimal f.place ++ codes "\n"))))

abbrev pub line_end : List ℕ
line_end = codes "\n"

-- the number of a record ends the line
abbrev pub record_text : ℕ → List ℕ
record_text number = codes " at record " ++ (decimal number ++ line_end)

-- as `refused: codes C4 at record 2`, or `refused: codes C5`: too many bytes are of no record
abbrev pub codes_line : ℕ → ℕ → List ℕ
codes_line rule number = codes "refused: codes C" ++ (decimal rule ++ (if number == 0 then line_end else record_text number))

-- as `refused: message M11 at _n`: the id of an object, or the message's identifier
abbrev pub refused_message_line : ℕ → List ℕ → List ℕ
refused_message_line rule object = codes "refused: message M" ++ (decimal rule ++ (codes " at " ++ (object ++ codes "\n")))

-- a rule of instances by its name
abbrev pub rule_text : List ℕ → List ℕ
rule_text rule = codes "refused: instance " ++ (rule ++ codes " at ")

-- a place in bytes from 0, and the path of what is open there
abbrev pub place_text : ℕ → List ℕ → List ℕ
place_text place path = decimal place ++ (codes " in " ++ (path ++ codes "\n"))

-- as `refused: instance Missing at 71 in /Document[1]/Note[1]/Id`
abbrev pub instance_line : Fault → List ℕ
instance_line f = rule_text (name_of f.rule) ++ place_text f.place f.path

-- the line of a refusal
abbrev pub line_of : Refusal → List ℕ
line_of Words = codes "refused: words\n"
line_of (Repository fault) = repository_line fault
line_of (Codes rule number) = codes_line rule number
line_of (Message rule object) = refused_message_line rule object
line_of (Instance fault) = instance_line fault

-- and its status
abbrev pub refusal_status : Refusal → Status
refusal_status Words = status.Words
refusal_status (Repository fault) = status.Repository
refusal_status (Codes rule number) = status.Codes
refusal_status (Message rule object) = status.Message
refusal_status (Instance fault) = status.Instance

-- why a command stops: its line and its status
abbrev pub stop_line : Stop → List ℕ
stop_line (stop.Refused refusal) = line_of refusal
stop_line stop.ReadFault = codes "failed: read\n"
stop_line stop.WriteFault = codes "failed: write\n"
stop_line stop.Memory = codes "failed: memory\n"

abbrev pub stop_status : Stop → Status
stop_status (stop.Refused refusal) = refusal_status refusal
stop_status stop.ReadFault = status.ReadFault
stop_status stop.WriteFault = status.WriteFault
stop_status stop.Memory = status.Memory
