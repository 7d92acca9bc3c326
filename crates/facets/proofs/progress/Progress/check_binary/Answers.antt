use Rattle.std.proofs.Common.{length, subst}
use Rattle.data_types.specs.LeafSteps.{HasTakenLeaf}
use Rattle.data_types.specs.declared.kind.Kind.{Kind}
use Rattle.data_types.specs.declared.kind.Kind.TheVariants as kind
use Rattle.facets.proofs.MeasureLemmas.{octets_verdict, uncounted_first}
use Rattle.facets.proofs.progress.Progress.check_binary.Goals as goal

pub returns-in-Ok : goal.returns-in-Ok
returns-in-Ok c = λ most text had.
    let simple = c.args.simple.now in
    let step = subst (λ (k : Kind). HasTakenLeaf c.args.self.now.step k most text) c.requires had.step in
    let (octets, spelled, counted) = c.in-Ok.ensures kind.Binary most text step in
    octets_verdict simple text octets c.check_count.result c.requires spelled (c.check_count.ensures (length octets) counted)

pub returns-in-Err : goal.returns-in-Err
returns-in-Err c = λ most text had.
    let step = subst (λ (k : Kind). HasTakenLeaf c.args.self.now.step k most text) c.requires had.step in
    uncounted_first c.args.simple.now text c.in-Err.rule c.requires (c.in-Err.ensures kind.Binary most text step)
