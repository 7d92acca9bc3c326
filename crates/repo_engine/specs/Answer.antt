-- The answer to words and bytes: the steps of each command, of which the first that refuses decides.
use Rattle.std.specs.Prelude.{◌≡◌, ◌⊎◌, ◌≤◌, ℕ, true, false, List, [], length, codes}
use Rattle.data_types.specs.Value.{Value}
use Rattle.repo_objects.specs.Repository.{Contents}
use Rattle.repo_loader.specs.declared.fault.LoadFault.{LoadFault}
use Rattle.repo_loader.specs.Loaded.{Spells, HasLoadFault}
use Rattle.code_sets.specs.Codes.{HasCodesFault, Joins}
use Rattle.code_sets.specs.Codes.{CodesFault}
use Rattle.reference_check.specs.Graph.{Place}
use Rattle.reference_check.specs.Reached.{place_id}
use Rattle.message_model.specs.Compiled.{Compiles, IsReachedList}
use Rattle.message_model.specs.Ready.{IsReady, IsRefused, MessageRule, message_rule_number}
use Rattle.message_model.specs.Tables.{Tables, message_of}
use Rattle.message_model.specs.declared.fault.Fault.{Fault}
use Rattle.der_model.specs.DerMessage.{der_message}
use Rattle.der_model.specs.Der.{SpellsDer, der_of}
use Rattle.xml_instances.specs.SpellsXml.{SpellsXml}
use Rattle.xml_writer.specs.CanonXml.{IsCanonXml}
use Rattle.xsd_model.specs.SchemaOf.{schema_of}
use Rattle.xsd_model.specs.SchemaText.{schema_text}
use Rattle.asn1_model.specs.ModuleOf.{module_of}
use Rattle.asn1_model.specs.ModuleText.{module_text}
use Rattle.transcoder.specs.Limited.{most_bytes}
use Rattle.transcoder.specs.Checked.{HasXmlFault, HasDerFault}
use Rattle.drill.specs.Drilled.{IsDrilled}
use Rattle.drill.specs.declared.drilling.Drilled.{Drilled}
use Rattle.repo_engine.specs.declared.command.Verb.{Verb}
use Rattle.repo_engine.specs.declared.command.Verb.TheVariants.{Types, Xsd, Asn1, CheckXml, CheckDer, CanonXml, XmlToDer, DerToXml}
use Rattle.repo_engine.specs.declared.refusal.Refusal.TheVariants.{Words, Repository, Codes, Message, Instance}
use Rattle.repo_engine.specs.Command.{Command, list, message, drill, HasCommandForm, IsUnlisted, hands_in}
use Rattle.repo_engine.specs.Steps.{Then}
use Rattle.repo_engine.specs.Verdict.{Verdict, accepted, refused}
use Rattle.repo_engine.specs.Texts.{list_text, types_text, drill_text}

-- ---- the repository and its external codes

-- the file has this first fault
abbrev pub TellsFileFault : List ℕ → Verdict → Type 0
TellsFileFault r v = (f : LoadFault) × HasLoadFault r f × (v ≡ refused (Repository f) [])

-- the codes have this first fault
abbrev pub IsCodesRefusal : Contents → List ℕ → Verdict → Type 0
IsCodesRefusal own c v = (f : CodesFault) × HasCodesFault own c f × (v ≡ refused (Codes f.rule f.number) [])

-- codes are handed in, and are refused
abbrev pub RefusesCodes : List ℕ → Contents → List ℕ → Verdict → Type 0
RefusesCodes codes_word own c v = (hands_in codes_word ≡ true) × IsCodesRefusal own c v

-- the repository with the codes that are handed in, if any
abbrev pub GivesJoined : List ℕ → Contents → List ℕ → Contents → Type 0
GivesJoined codes_word own c R = ((hands_in codes_word ≡ false) × (R ≡ own)) ⊎ ((hands_in codes_word ≡ true) × Joins own c R)

-- the repository that the bytes r give with the codes that are handed in, if any
abbrev pub GivesRepository : List ℕ → List ℕ → List ℕ → Contents → Type 0
GivesRepository codes_word r c R = (own : Contents) × Spells r own × GivesJoined codes_word own c R

-- the repository is read, then the codes are joined to it
abbrev pub FromRepository : List ℕ → List ℕ → List ℕ → (Contents → Verdict → Type 0) → Verdict → Type 0
FromRepository codes_word r c Next =
    Then Verdict Contents (TellsFileFault r) (Spells r)
    (λ own. Then Verdict Contents (RefusesCodes codes_word own c) (GivesJoined codes_word own c) Next)

-- ---- the compiled message

-- the message, or an object that it reaches, breaks this rule first
abbrev pub RefusesMessage : Contents → List ℕ → Verdict → Type 0
RefusesMessage R id v = (rule : MessageRule) × (p : Place) × IsRefused R id rule p × (v ≡ refused (Message (message_rule_number rule) (place_id id p)) [])

-- the tables of a message that breaks no rule
abbrev pub GivesTables : Contents → List ℕ → Tables → Type 0
GivesTables R id T = IsReady R id × ((ids : List (List ℕ)) × IsReachedList R id ids × Compiles R id ids T)

-- the message is compiled from the bytes of a repository and of codes
abbrev pub GivesMessage : List ℕ → List ℕ → List ℕ → List ℕ → Tables → Type 0
GivesMessage codes_word id r c T = (R : Contents) × GivesRepository codes_word r c R × GivesTables R id T

-- why there is no repository with its codes
abbrev pub RefusesRepository : List ℕ → List ℕ → List ℕ → Verdict → Type 0
RefusesRepository codes_word r c v = TellsFileFault r v ⊎ ((own : Contents) × Spells r own × RefusesCodes codes_word own c v)

-- why there is no compiled message
abbrev pub RefusesUpToMessage : List ℕ → List ℕ → List ℕ → List ℕ → Verdict → Type 0
RefusesUpToMessage codes_word id r c v = RefusesRepository codes_word r c v ⊎ ((R : Contents) × GivesRepository codes_word r c R × RefusesMessage R id v)

-- that of the command is
abbrev pub HasCompiledMessage : Command → List ℕ → List ℕ → Type 0
HasCompiledMessage (message verb codes_word id) r c = (T : Tables) × GivesMessage codes_word id r c T
HasCompiledMessage command r c = ⊥

-- the message is compiled behind the repository and its codes
abbrev pub FromMessage : List ℕ → List ℕ → List ℕ → List ℕ → (Tables → Verdict → Type 0) → Verdict → Type 0
FromMessage codes_word id r c Next = FromRepository codes_word r c (λ R. Then Verdict Tables (RefusesMessage R id) (GivesTables R id) Next)

-- ---- the commands

abbrev pub Lists : Contents → Verdict → Type 0
Lists R v = v ≡ accepted (list_text R.messages)

abbrev pub GivesTypes : Tables → Verdict → Type 0
GivesTypes T v = v ≡ accepted (types_text 0 T.types)

abbrev pub GivesSchema : Tables → Verdict → Type 0
GivesSchema T v = v ≡ accepted (schema_text (schema_of T))

abbrev pub GivesModule : Tables → Verdict → Type 0
GivesModule T v = v ≡ accepted (module_text (module_of T))

-- ---- the instance

-- the bytes have this first fault as XML of an instance
abbrev pub RefusesAsXml : Tables → List ℕ → Verdict → Type 0
RefusesAsXml T i v = (fault : Fault) × HasXmlFault T i fault × (v ≡ refused (Instance fault) [])

-- the bytes, no more than the limit, are XML of an instance with this value
abbrev pub GivesXmlValue : Tables → List ℕ → Value → Type 0
GivesXmlValue T i value = SpellsXml (message_of T) i value × (length i ≤ most_bytes)

-- an instance is read from XML
abbrev pub FromXml : Tables → List ℕ → (Value → Verdict → Type 0) → Verdict → Type 0
FromXml T i Next = Then Verdict Value (RefusesAsXml T i) (GivesXmlValue T i) Next

-- the bytes have this first fault as DER of an instance
abbrev pub RefusesAsDer : Tables → List ℕ → Verdict → Type 0
RefusesAsDer T i v = (fault : Fault) × HasDerFault T i fault × (v ≡ refused (Instance fault) [])

-- the bytes, no more than the limit, are the DER of an instance with this value
abbrev pub GivesDerValue : Tables → List ℕ → Value → Type 0
GivesDerValue T i value = SpellsDer (der_message T) i value × (length i ≤ most_bytes)

-- an instance is read from DER
abbrev pub FromDer : Tables → List ℕ → (Value → Verdict → Type 0) → Verdict → Type 0
FromDer T i Next = Then Verdict Value (RefusesAsDer T i) (GivesDerValue T i) Next

-- an instance is accepted
abbrev pub IsFine : Value → Verdict → Type 0
IsFine value v = v ≡ accepted (codes "accepted\n")

-- its canonical XML goes out
abbrev pub GivesXml : Tables → Value → Verdict → Type 0
GivesXml T value v = (text : List ℕ) × IsCanonXml (message_of T) value text × (v ≡ accepted text)

-- its DER goes out
abbrev pub GivesDer : Tables → Value → Verdict → Type 0
GivesDer T value v = v ≡ accepted (der_of (der_message T) value)

-- what a command of one message does with its tables
abbrev pub IsVerdictOfVerb : Verb → List ℕ → Tables → Verdict → Type 0
IsVerdictOfVerb Types i T = GivesTypes T
IsVerdictOfVerb Xsd i T = GivesSchema T
IsVerdictOfVerb Asn1 i T = GivesModule T
IsVerdictOfVerb CheckXml i T = FromXml T i IsFine
IsVerdictOfVerb CheckDer i T = FromDer T i IsFine
IsVerdictOfVerb CanonXml i T = FromXml T i (GivesXml T)
IsVerdictOfVerb XmlToDer i T = FromXml T i (GivesDer T)
IsVerdictOfVerb DerToXml i T = FromDer T i (GivesXml T)

-- ---- the drill

-- what it tells of its instance goes out
abbrev pub Drills : ℕ → ℕ → Verdict → Type 0
Drills number size v = (told : Drilled) × IsDrilled number size told × (v ≡ accepted (drill_text told))

-- ---- words and bytes

-- the verdict of a command on the bytes r, c and i of the repository, the codes and the instance
abbrev pub IsVerdictOf : Command → List ℕ → List ℕ → List ℕ → Verdict → Type 0
IsVerdictOf (list codes_word) r c i = FromRepository codes_word r c Lists
IsVerdictOf (message verb codes_word id) r c i = FromMessage codes_word id r c (IsVerdictOfVerb verb i)
IsVerdictOf (drill number size) r c i = Drills number size

-- the verdict on words and bytes
abbrev pub Answer : List (List ℕ) → List ℕ → List ℕ → List ℕ → Verdict → Type 0
Answer ws r c i v = (IsUnlisted ws × (v ≡ refused Words [])) ⊎ ((command : Command) × HasCommandForm ws command × IsVerdictOf command r c i v)
