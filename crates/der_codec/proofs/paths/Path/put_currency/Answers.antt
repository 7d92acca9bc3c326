use Rattle.std.proofs.Common.{refl}
use Rattle.std.specs.Prelude.{codes}
use Rattle.std.proofs.lemmas.Result.{on_ok_weaker}
use Rattle.der_model.specs.States.{AttributeName}
use Rattle.der_codec.proofs.PathsWritten.{put_one}
use Rattle.der_codec.proofs.paths.Path.put_currency.Goals as goal

pub returns : goal.returns
returns c = λ types names h. on_ok_weaker c.extend.result (λ e. put_one types c.args.self.now _ names (AttributeName (codes "Ccy")) h e refl) c.extend.ensures.ok
