use Rattle.std.proofs.Common.{◌≡◌, ◌+◌, ◌-◌, drop, ap, subst, arith}
use Rattle.inst_pool.specs.Pieces.{bytes_of}
use Rattle.message_model.specs.Tables.{types_of}
use Rattle.der_writer.specs.inner.Passes.{stage}
use Rattle.der_writer.specs.inner.Measuring.{Knows, before_place}
use Rattle.der_writer.proofs.lengths.measure_next.Goals as goal

pub measure_element-requires-clause-place : goal.measure_element-requires-clause-place
measure_element-requires-clause-place c =
    let far = c.in-Some.ensures.place in
    let place = c.requires.place in
    omega (arith, far, place)

pub measure_element-requires-clause-known : goal.measure_element-requires-clause-known
measure_element-requires-clause-known c =
    let ps = c.args.instance.now.region.pieces in
    let g = types_of c.args.model.now in
    let far = c.in-Some.ensures.place in
    let third : c.args.at + 1 ≡ c.args.at - 2 + 3 = omega (arith, far) in
    subst (λ n. Knows c.args.instance.now n c.args.pass.kept c.args.pass.ended c.args.pass.sum (stage g (before_place ps n) (drop n ps))) third c.requires.known

pub returns-in-Some-clause-most : goal.returns-in-Some-clause-most
returns-in-Some-clause-most c =
    let ps = c.args.instance.now.region.pieces in
    let far = c.in-Some.ensures.place in
    let third : c.args.at - 2 + 3 ≡ c.args.at + 1 = omega (arith, far) in
    let behind = ap (λ n. bytes_of (drop n ps)) third in
    let most = c.measure_element.ensures.most in
    omega (arith, far, behind, most)
