use Rattle.std.proofs.Common.{◌≡◌, ◌+◌, ◌-◌, drop, sym, ap, ap₂, ◌∙◌, subst, arith}
use Rattle.inst_pool.specs.Pieces.{bytes_of}
use Rattle.message_model.specs.Tables.{types_of}
use Rattle.der_writer.specs.inner.Passes.{stage}
use Rattle.der_writer.specs.inner.Measuring.{Knows, before_place}
use Rattle.der_writer.proofs.KnownStages.{bytes_within}
use Rattle.der_writer.proofs.lengths.measure_pieces.Goals as goal

pub measure_next-reached-requires-clause-room : goal.measure_next-reached-requires-clause-room
measure_next-reached-requires-clause-room c =
    let bytes = bytes_within c.args.instance.now.region.pieces c.loop-reached.reached.at in
    let bounded = c.count-count.ensures.bounded in
    let nodes = bounded.nodes in
    let all = bounded.bytes in
    let node_limit = bounded.node_limit in
    let byte_limit = bounded.byte_limit in
    let most = c.loop-reached.invariant.most in
    omega (arith, bytes, nodes, all, node_limit, byte_limit, most)

pub measure_next-reached-requires-clause-known : goal.measure_next-reached-requires-clause-known
measure_next-reached-requires-clause-known c =
    let ps = c.args.instance.now.region.pieces in
    let g = types_of c.args.model.now in
    let at = c.loop-reached.reached.at in
    let some = c.loop-reached-test.true in
    let next : at ≡ at - 1 + 1 = omega (arith, some) in
    let same : ps ≡ c.loop-reached.instance.region.pieces = sym (ap (λ r. r.pieces) c.loop-reached.invariant.region) in
    subst (λ z. Knows c.loop-reached.instance (at - 1 + 1) c.loop-reached.reached.pass.kept c.loop-reached.reached.pass.ended c.loop-reached.reached.pass.sum (stage g (before_place z (at - 1 + 1)) (drop (at - 1 + 1) z))) same
    (subst (λ n. Knows c.loop-reached.instance n c.loop-reached.reached.pass.kept c.loop-reached.reached.pass.ended c.loop-reached.reached.pass.sum (stage g (before_place ps n) (drop n ps))) next c.loop-reached.invariant.known)

pub loop-reached-preserved : goal.loop-reached-preserved
loop-reached-preserved c =
    let ps = c.args.instance.now.region.pieces in
    let g = types_of c.args.model.now in
    let old = c.loop-reached.reached.at in
    let now = c.measure_next-reached.result in
    let same : c.loop-reached.instance.region.pieces ≡ ps = ap (λ r. r.pieces) c.loop-reached.invariant.region in
    let place = c.loop-reached.invariant.place in
    let some = c.loop-reached-test.true in
    let next : old - 1 + 1 ≡ old = omega (arith, some) in
    let back = c.measure_next-reached.ensures.back in
    let behind : bytes_of (drop (old - 1 + 1) c.loop-reached.instance.region.pieces) ≡ bytes_of (drop old ps) = ap₂ (λ n z. bytes_of (drop n z)) next same in
    let front : bytes_of (drop now.at c.loop-reached.instance.region.pieces) ≡ bytes_of (drop now.at ps) = ap (λ z. bytes_of (drop now.at z)) same in
    let sum = c.measure_next-reached.ensures.most in
    let before = c.loop-reached.invariant.most in
    record {
      region = c.measure_next-reached.ensures.region ∙ c.loop-reached.invariant.region;
      place = omega (arith, place, back);
      known = subst (λ z. Knows c.measure_next-reached.new.instance now.at now.pass.kept now.pass.ended now.pass.sum (stage g (before_place z now.at) (drop now.at z))) same c.measure_next-reached.ensures.known;
      most = omega (arith, sum, before, behind, front, place, some, back);
    }
