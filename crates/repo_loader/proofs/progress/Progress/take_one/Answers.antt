-- A byte is read, or it shows a fault.
use Rattle.std.proofs.Common.{rules, ◌≡◌, ◌∷◌, ◌++◌, [], take, sym, subst}
use Rattle.repo_loader.specs.inner.ProgressSteps.{ReadsOn, ShowsLoadFault}
use Rattle.repo_loader.proofs.ReadSteps.{front_broken}
use Rattle.repo_loader.proofs.progress.Progress.take_one.Goals as goal

pub returns-in-Some-2-clause-read : goal.returns-in-Some-2-clause-read
returns-in-Some-2-clause-read c bytes h =
    let e : c.args.piece.now ≡ c.in-Some.byte.now ∷ c.in-Some.field-0-1.now = search rules in
    front_broken c.take.new.self bytes c.args.piece.now 1 c.in-Some-2.fault
    (subst (λ p. ShowsLoadFault (bytes ++ take 1 p) c.in-Some-2.fault) (sym e) (subst (ReadsOn c.take.new.self (bytes ++ c.in-Some.byte.now ∷ [])) c.in-Some-2.is (c.in_ok-fault.ensures.read bytes h)))
