use Rattle.std.proofs.Common.{◌≡◌, ◌+◌, Bool, true, false, not, refl, subst, arith}
use Rattle.fragments.specs.Fragment.{fragment}
use Rattle.der_model.specs.DerMessage.{der_message}
use Rattle.der_codec.specs.inner.Entering.{HasBegunComponent}
use Rattle.der_codec.specs.inner.KeptRuns.{decoder_at}
use Rattle.der_codec.proofs.KeptRuns.{run_reads, begun_at}
use Rattle.der_codec.proofs.Runs.{few_in_run}
use Rattle.der_codec.proofs.decoder.Decoder.begun_wide.Goals as goal

pub advanced-requires : goal.advanced-requires
advanced-requires c =
    let m = der_message c.args.model.now in
    let s = c.args.self.now in
    let run = c.args.run in
    let r = c.requires.read in
    let room = c.requires.room in
    few_in_run m s run r.0 (omega (arith, room)) (run_reads m s run r.0 c.requires.some r.1)

pub returns-else-level-end-clause-begun : goal.returns-else-level-end-clause-begun
returns-else-level-end-clause-begun c = λ bytes r.
    let m = der_message c.args.model.now in
    let s = c.args.self.now in
    let run = c.args.run in
    let id = c.in-Some-one_octet.id in
    let field = c.in-Some-field_found.field in
    let around = c.advanced.result in
    let fits = c.if-level-end.false in
    let ends = c.advanced.ensures.end in
    let is : id.constructed ≡ true = whole id.constructed c.if-not-id.false in
    record {
      begun =
          subst (λ z. HasBegunComponent m (decoder_at s run) bytes c.args.first 0 (record { around = around; spot = field.spot; constructed = z; end = run.place + 2 + 0 })) is
          (begun_at m s run around bytes c.args.first 0 field.number id field.spot c.requires.some c.requires.fresh c.in-Some-one_octet.ensures c.requires.low (omega arith) (c.in-Some-field_found.ensures fragment) c.advanced.ensures (omega (arith, fits)) r);
      within = c.in-Some.ensures.within;
      count = c.in-Some.wide.length;
      octets = c.in-Some.ensures.length;
      end_is = refl;
      fits = omega (arith, fits, ends);
    }
  where
    whole : (b : Bool) → not b ≡ false → b ≡ true
    whole true e = refl
    whole false e = absurd cc
