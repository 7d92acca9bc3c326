-- One more entry has its codes.
use Rattle.std.proofs.Common.{◌<◌, length, arith}
use Rattle.code_sets.specs.inner.Given.{codes_in, given_entry}
use Rattle.code_sets.proofs.JoinLemmas.{front_more}
use Rattle.code_sets.proofs.joining.join_all.Goals as goal

pub loop-at-preserved : goal.loop-at-preserved
loop-at-preserved c =
    let objects = c.args.repository.now.objects in
    let below : c.loop-at.at < length objects = omega (arith, c.object_count-at-end.ensures.count) in
    front_more (given_entry (codes_in c.args.given.now)) objects c.loop-at.at c.args.repository.now.messages c.loop-at.repository c.join_at.new.repository below c.loop-at.invariant c.in_ok-join_at.ensures
