use Rattle.std.proofs.Common.{◌≡◌, arith}
use Rattle.respell.proofs.FragmentSteps.{if_ok}
use Rattle.respell.proofs.FragmentParts.{reads_then}
use Rattle.respell.proofs.fragment_reader.FragmentReader.take_part.Goals as goal

pub returns-then-tag-gt0 : goal.returns-then-tag-gt0
returns-then-tag-gt0 c =
    let none : c.in_ok-run.run' ≡ 0 = (let h = c.if-run-gt0.false in omega (arith, h)) in
    reads_then c.args.self.now c.take_run.new.self c.take_tag.new.self c.args.bytes.now c.in_ok-run.run' c.in_ok-tag.tag none c.in_ok-run.ensures c.in_ok-tag.ensures

pub returns : goal.returns
returns c =
    let none : c.in_ok-run.run' ≡ 0 = (let h = c.if-run-gt0.false in omega (arith, h)) in
    let untagged : c.in_ok-tag.tag ≡ 0 = (let h = c.if-tag-gt0.false in omega (arith, h)) in
    if_ok _ _ c.take_inside.result c.take_inside.ensures (λ n k. reads_then c.args.self.now c.take_run.new.self _ c.args.bytes.now c.in_ok-run.run' n none c.in_ok-run.ensures
    (reads_then c.take_run.new.self c.take_tag.new.self _ c.args.bytes.now c.in_ok-tag.tag n untagged c.in_ok-tag.ensures k))
