use Rattle.std.proofs.Common.{◌≡◌, arith}
use Rattle.respell.proofs.FragmentSteps.{if_ok}
use Rattle.respell.proofs.FragmentParts.{advances_then}
use Rattle.respell.proofs.fragment_reader.FragmentReader.advance.Goals as goal

pub returns : goal.returns
returns c =
    let none : c.in_ok-count.count ≡ 0 = (let h = c.if-count-gt0.false in omega (arith, h)) in
    if_ok _ _ c.take_first.result c.take_first.ensures (λ a k. advances_then c.args.self.now c.take_part.new.self _ c.args.bytes.now c.in_ok-count.count a none c.in_ok-count.ensures k)
