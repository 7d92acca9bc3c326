use Rattle.std.proofs.Common.{◌≡◌, ◌++◌, sym, refl, subst, arith, ◌∙◌, take, drop}
use Rattle.respell.specs.inner.FragmentReading.{IsFragment, AdvancesSo}
use Rattle.respell.proofs.FragmentSteps.{rest_uncompared}
use Rattle.respell.proofs.FragmentParts.{front_taken}
use Rattle.respell.proofs.FragmentPieces.{front_differs, cut_behind}
use Rattle.respell.proofs.fragment_reader.FragmentReader.read_ahead.Goals as goal

pub returns-in-NoFragment-clause-stops : goal.returns-in-NoFragment-clause-stops
returns-in-NoFragment-clause-stops c before behind h unmet f =
    let (front, e, forgotten, u, now, text) = c.loop-left.invariant.1 before h in
    let refused = subst (λ a. AdvancesSo c.loop-left.self c.advance.new.self c.loop-left.left.now a) c.in-NoFragment.is c.in_ok-count.ensures in
    refused front forgotten behind now (subst IsFragment (cut_behind front c.loop-left.left.now behind (before ++ c.args.piece.now) e) f)

pub returns-in_default-clause-stops : goal.returns-in_default-clause-stops
returns-in_default-clause-stops c before behind h unmet f =
    let (front, e, forgotten, u, now, text) = c.loop-left.invariant.1 before h in
    let n = c.in-Taken.count in
    let left = c.loop-left.left.now in
    let taken_are = subst (λ a. AdvancesSo c.loop-left.self c.advance.new.self left a) c.in-Taken.is c.in_ok-count.ensures in
    let all : (front ++ take n left) ++ drop n left ≡ before ++ c.args.piece.now = front_taken front (before ++ c.args.piece.now) left (drop n left) n e refl in
    front_differs c.advance.new.self (front ++ take n left) forgotten (drop n left ++ behind) (drop n left) c.loop-left.uncompared.now (taken_are.1.reads front forgotten now) (u ∙ sym all) c.in_default.ensures.none
    (subst IsFragment (cut_behind (front ++ take n left) (drop n left) behind (before ++ c.args.piece.now) all) f)

pub loop-left-preserved : goal.loop-left-preserved
loop-left-preserved c =
    let n = c.in-Taken.count in
    let left = c.loop-left.left.now in
    let taken_are = subst (λ a. AdvancesSo c.loop-left.self c.advance.new.self left a) c.in-Taken.is c.in_ok-count.ensures in (
      (let i = c.loop-left.invariant.0 in let m = taken_are.1.moved in let w = taken_are.1.within in let k = c.compare.ensures.count in let b = c.split_at.ensures.back_len in omega (arith, i, m, w, k, b)),
      λ before h. let (front, e, forgotten, u, now, text) = c.loop-left.invariant.1 before h in (
        front ++ take n left,
        front_taken front (before ++ c.args.piece.now) left c.split_at.result.1.now n e c.split_at.ensures.back,
        forgotten ++ c.advance.new.self.respell.text,
        rest_uncompared forgotten c.advance.new.self.respell.text c.in-Some.rest.now c.loop-left.uncompared.now (before ++ c.args.piece.now) c.in-Some.ensures.some u,
        c.in-Some.ensures.written (front ++ take n left) forgotten (taken_are.1.reads front forgotten now),
        c.in-Some.ensures.forgotten,
      ),
    )
