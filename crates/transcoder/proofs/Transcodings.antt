-- What is written of an instance that was read.
use Rattle.std.proofs.Common.{◌≡◌, ℕ, ◌≤◌, List, length, Option, Some, None, IfSome, IfErr, Result, Ok, Err, sym, ap, ◌∙◌, subst}
use Rattle.std.specs.Io.KnownBytes.{IsAtEnd}
use Rattle.lexical_core.specs.declared.rule.Rule.{Rule}
use Rattle.outside.specs.declared.errors.WriteError.{WriteError}
use Rattle.outside.specs.declared.errors.WriteError.TheVariants as written
use Rattle.data_types.specs.Value.{Value, Piece}
use Rattle.fragments.specs.Fragment.{fragment}
use Rattle.message_model.specs.Admits.{AdmitsAs}
use Rattle.message_model.specs.Tables.{Tables, pieces_of, types_of}
use Rattle.message_model.specs.declared.fault.Fault.{Fault}
use Rattle.transcoder.specs.declared.check_error.CheckError.{CheckError}
use Rattle.transcoder.specs.declared.check_error.CheckError.TheVariants as check
use Rattle.transcoder.specs.declared.trans_error.TransError.{TransError}
use Rattle.transcoder.specs.declared.trans_error.TransError.TheVariants as trans
use Rattle.transcoder.specs.Checked.{HoldsAs}
use Rattle.transcoder.specs.Limited.{most_bytes}
use Rattle.transcoder.specs.Pulls.{PullsToFault, PullsToTransFault}
use Rattle.transcoder.specs.CheckErrors.{IsOfSome}
use Rattle.transcoder.specs.TransErrors.{IsTransFaultOfSome, trans_error, written_end}
use Rattle.transcoder.specs.Transcoding.{IsTranscoded, IsWrittenOut, pushed}

-- a failed source is told as such
abbrev stopped_by : TransError → Result (Unit {0}) TransError
stopped_by e = Err e

pub failed : {W : Type 0} (read : Result W CheckError) (e : CheckError) (told : TransError) → read ≡ Err e → told ≡ trans_error e → read ≡ Err check.ReadFault → stopped_by told ≡ stopped_by trans.ReadFault
failed read e told is is_told at = (let same : e ≡ check.ReadFault = cc in ap stopped_by (is_told ∙ ap trans_error same))

module _ (HasFault : List ℕ → Fault → Type 0) (cut_rule : Rule) (old new : Option (List ℕ)) where
  -- how far the source was pulled is as the reading's error tells it
  pub told_pulls : (e : CheckError) (told : TransError) → told ≡ trans_error e → PullsToFault HasFault cut_rule old new e → PullsToTransFault HasFault cut_rule old new told
  told_pulls e told is h = subst (PullsToTransFault HasFault cut_rule old new) (sym is) (by e h)
    where
      by : (e : CheckError) → PullsToFault HasFault cut_rule old new e → PullsToTransFault HasFault cut_rule old new (trans_error e)
      by (check.Refused fault) h = h
      by check.ReadFault h = h
      by check.Memory h = tt

-- the fault is one of some bytes as the reading's is
pub told_placed : (HasFault : List ℕ → Fault → Type 0) (e : CheckError) (told : TransError) → told ≡ trans_error e → IsOfSome HasFault e → IsTransFaultOfSome HasFault told
told_placed HasFault e told is h = subst (IsTransFaultOfSome HasFault) (sym is) (by e h)
  where
    by : (e : CheckError) → IsOfSome HasFault e → IsTransFaultOfSome HasFault (trans_error e)
    by (check.Refused fault) h = h
    by check.ReadFault h = tt
    by check.Memory h = tt

-- what is told is no failed source
pub no_source_failed : (r : Result (Unit {0}) TransError) → IfErr r (λ e. e ≡ trans.ReadFault → ⊥) → r ≡ Err trans.ReadFault → ⊥
no_source_failed (Ok x) h at = absurd (cc)
no_source_failed (Err e) h at = h (cc)

-- what a writer may tell
written_tells : (Tells : TransError → Type 0) → Tells trans.WriteFault → Tells trans.Memory → (push : Result (Unit {0}) WriteError) (r : Result (Unit {0}) TransError) → r ≡ written_end push → IfErr r Tells
written_tells Tells fault memory push r is = subst (λ (v : Result (Unit {0}) TransError). IfErr v Tells) (sym is) (by push)
  where
    by : (push : Result (Unit {0}) WriteError) → IfErr (written_end push) Tells
    by (Ok x) = tt
    by (Err written.WriteFault) = fault
    by (Err written.Memory) = memory

module _ (Spells : List ℕ → Value → Type 0) (T : Tables) (admits : (bytes : List ℕ) (v : Value) → Spells bytes v → AdmitsAs (types_of T) (types_of T 0) v) (pieces : List Piece) where
  -- an instance that was read may be written
  pub holds_admitted : ((bytes : List ℕ) × HoldsAs Spells T bytes pieces) → (v : Value) × AdmitsAs (types_of T) (types_of T 0) v × (pieces ≡ pieces_of fragment T v)
  holds_admitted (bytes, (v, s, is)) = (v, admits bytes v s, is)

  -- what is written of it is that of the value that the source's bytes are, where it tells them
  pub transcoded : {O : Type 0} (held : O → Option (List ℕ)) (faults room : O → ℕ) (HasFault : List ℕ → Fault → Type 0) (IsOut : Value → List ℕ → Type 0) (left left' : Option (List ℕ)) (old new : O)
      (result : Result (Unit {0}) TransError) → IfSome left (λ bytes. HoldsAs Spells T bytes pieces × (length bytes ≤ most_bytes)) → ((bytes : List ℕ) × HoldsAs Spells T bytes pieces) → IsAtEnd left'
      → ((v : Value) → AdmitsAs (types_of T) (types_of T 0) v → pieces ≡ pieces_of fragment T v → IsWrittenOut held faults room (IsOut v) old new result)
      → IsTranscoded held faults room (λ bytes text. (v : Value) × Spells bytes v × (length bytes ≤ most_bytes) × IsOut v text) HasFault left left' old new result
  transcoded held faults room HasFault IsOut None left' old new result ok (bytes, (v, s, is)) end writes =
      let w = writes v (admits bytes v s) is in pushed w.text w.push w.ends tt end w.pushes
  transcoded held faults room HasFault IsOut (Some bytes) left' old new result ((v, s, is), short) given end writes =
      let w = writes v (admits bytes v s) is in pushed w.text w.push w.ends (v, s, short, w.is_out) end w.pushes

  -- where an instance was read, nothing is told but what a writer may tell
  pub tells_whole : {O : Type 0} (held : O → Option (List ℕ)) (faults room : O → ℕ) (Tells : TransError → Type 0) → Tells trans.WriteFault → Tells trans.Memory → (IsOut : Value → List ℕ → Type 0) (old new : O)
      (result : Result (Unit {0}) TransError) → ((bytes : List ℕ) × HoldsAs Spells T bytes pieces)
      → ((v : Value) → AdmitsAs (types_of T) (types_of T 0) v → pieces ≡ pieces_of fragment T v → IsWrittenOut held faults room (IsOut v) old new result)
      → IfErr result Tells
  tells_whole held faults room Tells fault memory IsOut old new result (bytes, (v, s, is)) writes =
      let w = writes v (admits bytes v s) is in written_tells Tells fault memory w.push result w.ends
