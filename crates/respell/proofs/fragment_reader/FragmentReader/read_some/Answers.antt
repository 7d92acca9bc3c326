use Rattle.std.proofs.Common.{subst}
use Rattle.respell.specs.inner.FragmentReading.{AdvancesSo}
use Rattle.respell.proofs.FragmentPieces.{refused_piece, some_read, some_refused}
use Rattle.respell.proofs.fragment_reader.FragmentReader.read_some.Goals as goal

pub returns-in-NoFragment : goal.returns-in-NoFragment
returns-in-NoFragment c =
    refused_piece c.args.self.now c.advance.new.self c.args.waiting.now.items c.args.piece.now (subst (λ a. AdvancesSo c.args.self.now c.advance.new.self c.args.piece.now a) c.in-NoFragment.is c.in_ok-count.ensures)

pub returns-then-compare_waiting : goal.returns-then-compare_waiting
returns-then-compare_waiting c =
    let met = c.if-compare_waiting.true in
    some_read c.args.self.now c.advance.new.self c.compare_waiting.new.self c.args.waiting.now.items c.split_at.result.0.now c.extend_from_slice.new.self.items c.compare_waiting.new.waiting.items c.args.piece.now c.in-Taken.count
    (subst (λ a. AdvancesSo c.args.self.now c.advance.new.self c.args.piece.now a) c.in-Taken.is c.in_ok-count.ensures) c.split_at.ensures.front c.in_ok-extend_from_slice.ensures.items (c.compare_waiting.ensures.some met)
    (λ front forgotten h. c.compare_waiting.ensures.written front forgotten h met) (c.compare_waiting.ensures.forgotten met) c.compare_waiting.ensures.count

pub returns-else-compare_waiting : goal.returns-else-compare_waiting
returns-else-compare_waiting c =
    some_refused c.args.self.now c.advance.new.self c.args.waiting.now.items c.split_at.result.0.now c.extend_from_slice.new.self.items c.args.piece.now c.in-Taken.count
    (subst (λ a. AdvancesSo c.args.self.now c.advance.new.self c.args.piece.now a) c.in-Taken.is c.in_ok-count.ensures) c.split_at.ensures.front c.in_ok-extend_from_slice.ensures.items (λ rest e. c.compare_waiting.ensures.none rest e c.if-compare_waiting.false)
