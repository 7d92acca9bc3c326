-- A transcoding of an instance in memory ends well, or for want of memory.
use Rattle.std.proofs.Common.{◌≡◌, ℕ, List, Option, Some, Result, Ok, Err, refl, sym, ◌∙◌, arith}
use Rattle.std.specs.Io.KnownBytes.{Appends}
use Rattle.outside.specs.Source.{Rose}
use Rattle.outside.specs.declared.errors.WriteError.TheVariants as written
use Rattle.message_model.specs.declared.fault.Fault.{Fault}
use Rattle.transcoder.specs.Transcoding.{IsTranscoded, unread, pushed}
use Rattle.transcoder.specs.declared.check_error.CheckError.TheVariants as check
use Rattle.transcoder.specs.declared.trans_error.TransError.{TransError}
use Rattle.transcoder.specs.declared.trans_error.TransError.TheVariants.{ReadFault, Memory}

abbrev stopped : TransError → Result (Unit {0}) TransError
stopped error = Err error

same_error : (a b : TransError) → stopped a ≡ stopped b → a ≡ b
same_error a b e = cc

-- a count of faults that stays 0 did not rise
pub no_rise : Rose 0 0 → ⊥
no_rise h = omega (arith, h)

module _ {O : Type 0} (held : O → Option (List ℕ)) (faults room : O → ℕ) (IsText : List ℕ → List ℕ → Type 0) (HasFault : List ℕ → Fault → Type 0)
    (bytes : List ℕ) (left' : Option (List ℕ)) (old new : O) where
  -- bytes without a fault are refused for want of memory alone
  pub only_memory : (result : Result (Unit {0}) TransError) (error : TransError) → ((f : Fault) → HasFault bytes f → ⊥) → (result ≡ Err ReadFault → ⊥)
      → (Rose (faults old) (faults new) → ⊥) → IsTranscoded held faults room IsText HasFault (Some bytes) left' old new result → result ≡ Err error → error ≡ Memory
  only_memory result error fine read still (unread (check.Refused f) is same h) e = absurd (fine f h)
  only_memory result error fine read still (unread check.ReadFault is same h) e = absurd (read is)
  only_memory result error fine read still (unread check.Memory is same h) e = same_error error Memory (sym e ∙ is)
  only_memory result error fine read still (pushed text (Ok done) is fits at p) e = absurd (cc)
  only_memory result error fine read still (pushed text (Err written.WriteFault) is fits at p) e = absurd (still (p.cause.failed refl))
  only_memory result error fine read still (pushed text (Err written.Memory) is fits at p) e = same_error error Memory (sym e ∙ is)

  -- the text that was pushed
  pub pushed_text : (result : Result (Unit {0}) TransError) (done : Unit {0}) → result ≡ Ok done → IsTranscoded held faults room IsText HasFault (Some bytes) left' old new result
      → (text : List ℕ) × IsText bytes text × Appends (held old) (held new) text
  pushed_text result done e (unread error is same h) = absurd (cc)
  pushed_text result done e (pushed text (Ok d) is fits at p) = (text, fits, p.appends)
  pushed_text result done e (pushed text (Err written.WriteFault) is fits at p) = absurd (cc)
  pushed_text result done e (pushed text (Err written.Memory) is fits at p) = absurd (cc)
