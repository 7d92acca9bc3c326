use Rattle.std.proofs.Common.{arith}
use Rattle.fragments.specs.Fragment.{fragment}
use Rattle.der_model.specs.DerMessage.{der_message}
use Rattle.der_codec.proofs.KeptRuns.{run_reads, begun_at}
use Rattle.der_codec.proofs.Runs.{few_in_run}
use Rattle.der_codec.proofs.decoder.Decoder.begun_as.Goals as goal

pub advanced-requires : goal.advanced-requires
advanced-requires c =
    let m = der_message c.args.model.now in
    let s = c.args.self.now in
    let run = c.args.run in
    let r = c.requires.read in
    let room = c.requires.room in
    few_in_run m s run r.0 (omega (arith, room)) (run_reads m s run r.0 c.requires.some r.1)

pub returns-else-level-end : goal.returns-else-level-end
returns-else-level-end c = record {
  begun = λ bytes r.
      let field = c.in-Some.field in
      let fits = c.if-level-end.false in
      begun_at (der_message c.args.model.now) c.args.self.now c.args.run c.advanced.result bytes c.args.first c.args.second field.number c.args.id field.spot c.requires.some c.requires.fresh c.requires.id c.requires.low c.requires.short (c.in-Some.ensures fragment) c.advanced.ensures (omega (arith, fits)) r;
}
