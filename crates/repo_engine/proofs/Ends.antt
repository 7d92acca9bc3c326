-- How a push ends a command, and what an earlier step's stop is to the whole.
use Rattle.std.proofs.Common.{◌≡◌, inl, inr, ℕ, List, [], Option, Result, Ok, Err, refl, take, arith}
use Rattle.std.proofs.KnownBytes.{Appends-nil, Keeps-refl}
use Rattle.outside.specs.Pushes.{Pushes}
use Rattle.outside.specs.declared.errors.SinkError.{SinkError}
use Rattle.outside.specs.declared.errors.SinkError.TheVariants as sink
use Rattle.repo_engine.specs.declared.refusal.Stop.{Stop}
use Rattle.repo_engine.specs.declared.refusal.Stop.TheVariants.{Refused, ReadFault, WriteFault, Memory}
use Rattle.repo_engine.specs.inner.Arms.{IsOfInput, StopsBy, end_of}
use Rattle.repo_engine.specs.Run.{End, GoesOut, TellsVerdict}
use Rattle.repo_engine.specs.Verdict.{Verdict, accepted, refused}

-- the push of the text of an accepted command ends it
pub tells_pushed : {O : Type 0} (held : O → Option (List ℕ)) (faults room : O → ℕ) (old new : O) (Is : Verdict → Type 0) (text : List ℕ) (push : Result (Unit {0}) SinkError)
    → Is (accepted text) → Pushes held faults room old new push text → TellsVerdict Is (end_of push) (held old) (held new)
tells_pushed held faults room old new Is text (Ok done) is p = (text, is, p.appends)
tells_pushed held faults room old new Is text (Err sink.Failed) is p = (text, is, p.appends)
tells_pushed held faults room old new Is text (Err sink.Memory) is p = inr (text, is, p.appends)

pub goes_pushed : {O : Type 0} (held : O → Option (List ℕ)) (faults room : O → ℕ) (old new : O) (text : List ℕ) (push : Result (Unit {0}) SinkError)
    → Pushes held faults room old new push text → GoesOut held faults old new (end_of push)
goes_pushed held faults room old new text (Ok done) p = record {
  same = λ h. absurd h;
  grows = (text, p.appends);
  failed = λ e. absurd (cc);
  quiet = λ h. p.cause.same (λ e. absurd (cc));
  later = p.cause.later;
}
goes_pushed held faults room old new text (Err sink.Failed) p = record {
  same = λ h. absurd h;
  grows = (take p.appends.0 text, p.appends.1);
  failed = λ e. p.cause.failed refl;
  quiet = λ h. absurd (h refl);
  later = p.cause.later;
}
goes_pushed held faults room old new text (Err sink.Memory) p = record {
  same = λ h. absurd h;
  grows = (take p.appends.0 text, p.appends.1);
  failed = λ e. absurd (cc);
  quiet = λ h. p.cause.same (λ e. absurd (cc));
  later = p.cause.later;
}

-- a stop of an earlier step is told by the whole, and nothing went out
pub tells_stopped : (held : Option (List ℕ)) (Is Refuses : Verdict → Type 0) (stop : Stop) → ((v : Verdict) → Refuses v → Is v) → IsOfInput stop → StopsBy Refuses stop
    → TellsVerdict Is (Err stop) held held
tells_stopped held Is Refuses (Refused refusal) is input h = ([], is (refused refusal []) h, Appends-nil held)
tells_stopped held Is Refuses ReadFault is input h = tt
tells_stopped held Is Refuses WriteFault is input h = absurd input
tells_stopped held Is Refuses Memory is input h = inl (Keeps-refl held)

abbrev pub with_stop : Stop → End
with_stop stop = Err stop

no_write : (stop : Stop) → IsOfInput stop → with_stop stop ≡ with_stop WriteFault → ⊥
no_write (Refused refusal) input e = absurd (cc)
no_write ReadFault input e = absurd (cc)
no_write WriteFault input e = input
no_write Memory input e = absurd (cc)

pub goes_nowhere : {O : Type 0} (held : O → Option (List ℕ)) (faults : O → ℕ) (s : O) (stop : Stop) → IsOfInput stop → GoesOut held faults s s (Err stop)
goes_nowhere held faults s stop input = record {
  same = λ h. refl;
  grows = ([], Appends-nil (held s));
  failed = λ e. absurd (no_write stop input e);
  quiet = λ h. refl;
  later = omega arith;
}
