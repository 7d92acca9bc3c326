use Rattle.std.proofs.Common.{◌≡◌, ◌+◌, inr, length, refl, sym, ap, subst, arith, ◌∙◌}
use Rattle.lexical_core.proofs.Lists.{none_left}
use Rattle.respell.specs.inner.FragmentReading.{ReadsBehind, ReadsSomeSo}
use Rattle.respell.proofs.FragmentPieces.{left_length, then_read, then_refused}
use Rattle.respell.proofs.fragment_reader.FragmentReader.read_waiting.Goals as goal

pub returns-in-NoFragment : goal.returns-in-NoFragment
returns-in-NoFragment c =
    let (count, is, so_far) = c.loop-left.invariant in
    then_refused c.args.self.now c.loop-left.self c.args.waiting.now.items c.loop-left.waiting.items c.args.piece.now c.loop-left.left.now count is so_far
    (subst (λ a. ReadsSomeSo c.loop-left.self c.read_some.new.self c.loop-left.waiting.items c.read_some.new.waiting.items c.loop-left.left.now a) c.in-NoFragment.is c.in_ok-count.ensures)

pub loop-left-preserved : goal.loop-left-preserved
loop-left-preserved c =
    let (count, is, so_far) = c.loop-left.invariant in
    let n = c.in-Taken.count in
    let more = subst (λ a. ReadsSomeSo c.loop-left.self c.read_some.new.self c.loop-left.waiting.items c.read_some.new.waiting.items c.loop-left.left.now a) c.in-Taken.is c.in_ok-count.ensures in
    let both = then_read c.args.self.now c.loop-left.self c.read_some.new.self c.args.waiting.now.items c.loop-left.waiting.items c.read_some.new.waiting.items c.args.piece.now c.loop-left.left.now c.split_at.result.1.now count n is so_far more.1 c.split_at.ensures.back in
    (count + n, both.0, both.1)

pub returns : goal.returns
returns c =
    let (count, is, so_far) = c.loop-left.invariant in
    let none : length c.loop-left.left.now ≡ 0 = ap length (none_left c.loop-left.left.now (sym c.is_empty.ensures ∙ c.loop-left-test.false)) in
    let left = left_length count c.args.piece.now c.loop-left.left.now is in
    let within = so_far.within in
    let all : count ≡ length c.args.piece.now = omega (arith, none, left, within) in
    (inr refl, subst (λ n. ReadsBehind c.args.self.now c.loop-left.self c.args.waiting.now.items c.loop-left.waiting.items c.args.piece.now n) all so_far)
