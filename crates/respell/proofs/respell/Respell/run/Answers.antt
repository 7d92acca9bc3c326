use Rattle.std.proofs.Common.{refl}
use Rattle.std.specs.Prelude.{Result, Ok, Err, OnOk}
use Rattle.respell.proofs.TakenRuns.{taken_run}
use Rattle.respell.proofs.respell.Respell.run.Goals as goal

if_ok : {T E P Q : Type 0} (r : Result T E) → (P → Q) → OnOk r P → OnOk r Q
if_ok (Ok x) f h = f h
if_ok (Err e) f h = tt

pub returns : goal.returns
returns c forgotten items count r h = if_ok c.push_run.result (λ text. taken_run c.args.self.now _ forgotten c.args.run.now items count r h text refl refl refl refl) c.push_run.ensures
