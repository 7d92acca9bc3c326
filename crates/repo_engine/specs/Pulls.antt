-- How far the sources are pulled where a command refuses what they have, and which are left alone then.
use Rattle.std.specs.Prelude.{◌≡◌, ◌⊎◌, ◌<◌, ℕ, List}
use Rattle.std.specs.Io.KnownBytes.{Consumes}
use Rattle.lexical_core.specs.declared.rule.Rule.{Rule}
use Rattle.lexical_core.specs.declared.rule.Rule.TheVariants.{Truncated, DerTruncated}
use Rattle.outside.specs.Pulls.{StopsSoon}
use Rattle.repo_loader.specs.LoadErrors.{ShowsNoLoadFault}
use Rattle.code_sets.specs.CodesErrors.{AreCodesPulled, AreFewBytes}
use Rattle.repo_engine.specs.Sources.{Use, Untouched}
use Rattle.repo_engine.specs.Verdict.{Verdict, accepted, refused}
use Rattle.repo_engine.specs.declared.refusal.Refusal.TheVariants.{Repository, Codes, Message, Instance}
use Rattle.repo_engine.specs.declared.refusal.Stop.{Stop}
use Rattle.repo_engine.specs.declared.refusal.Stop.TheVariants.{Refused, ReadFault}

-- Where the source failed, what it gave before shows nothing that ends the reading.
abbrev pub HadShownNone : {S : Type 0} → (List ℕ → Type 0) → Use S → Type 0
HadShownNone ShowsNone u = u.faults u.old < u.faults u.new → (taken : List ℕ) × Consumes (u.left u.old) (u.left u.new) taken × ShowsNone taken

-- Where a repository is refused it was pulled no further than one pull behind bytes that show no fault yet, and what is read behind it is not touched. Where
-- its codes are refused, they were read to their end or to one byte beyond their limit, and the instance is not touched; nor is it where a message is
-- refused. A repository that failed showed no fault before, and codes that failed gave no more than their limit.
abbrev pub StopsFilesSoon : {R C I : Type 0} → Use R → Use C → Use I → Stop → Type 0
StopsFilesSoon repo codes inst (Refused (Repository fault)) = StopsSoon ShowsNoLoadFault (repo.left repo.old) (repo.left repo.new) × Untouched codes × Untouched inst
StopsFilesSoon repo codes inst (Refused (Codes rule number)) = AreCodesPulled (codes.left codes.old) (codes.left codes.new) × Untouched inst
StopsFilesSoon repo codes inst (Refused (Message rule object)) = Untouched inst
StopsFilesSoon repo codes inst ReadFault = HadShownNone ShowsNoLoadFault repo × HadShownNone AreFewBytes codes
StopsFilesSoon repo codes inst stop = Unit {0}

-- the rule of XML that ends too early, and that of DER
abbrev pub EndsTooEarly : Rule → Type 0
EndsTooEarly rule = (rule ≡ Truncated) ⊎ (rule ≡ DerTruncated)

-- an instance is accepted, or refused for nothing but that it ends too early
abbrev pub ShowsNoFault : Verdict → Type 0
ShowsNoFault (accepted text) = Unit {0}
ShowsNoFault (refused (Instance fault) text) = EndsTooEarly fault.rule
ShowsNoFault (refused refusal text) = ⊥

-- the bytes, taken for a whole instance, have no other verdict
abbrev pub HasNoFaultYet : (List ℕ → Verdict → Type 0) → List ℕ → Type 0
HasNoFaultYet Answers bytes = (v : Verdict) → Answers bytes v → ShowsNoFault v

-- Where an instance is refused it was pulled no further than one pull behind bytes that show no fault yet; one that failed showed none before.
abbrev pub StopsInstanceSoon : {I : Type 0} → (List ℕ → Verdict → Type 0) → Use I → Stop → Type 0
StopsInstanceSoon Answers inst (Refused (Instance fault)) = StopsSoon (HasNoFaultYet Answers) (inst.left inst.old) (inst.left inst.new)
StopsInstanceSoon Answers inst ReadFault = HadShownNone (HasNoFaultYet Answers) inst
StopsInstanceSoon Answers inst stop = Unit {0}
