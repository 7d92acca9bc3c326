use Rattle.fragments.specs.Fragment.{fragment}
use Rattle.der_model.specs.DerMessage.{der_message}
use Rattle.der_codec.proofs.Runs.{run_goes_out}
use Rattle.der_codec.proofs.decoder.Decoder.end_inner.Goals as goal

pub returns-in-Fine-clause-ok : goal.returns-in-Fine-clause-ok
returns-in-Fine-clause-ok c = λ bytes r.
    let h = c.go_out.ensures in
    run_goes_out (der_message c.args.model.now) c.args.self.now c.go_out.new.self c.args.run.now c.go_out.new.run bytes r c.requires.fresh c.requires.here (c.in-Fine.ensures fragment) h.levels h.place h.due
