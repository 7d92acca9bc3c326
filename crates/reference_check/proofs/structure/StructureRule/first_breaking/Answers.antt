-- The objects are asked in file order, and then the message.
use Rattle.std.proofs.Common.{◌≡◌, ◌<◌, ◌∙◌, Some, length, get_or, sym, ap, subst, arith, true≢false}
use Rattle.std.specs.Prelude.{slice_get}
use Rattle.reference_check.proofs.Ranks.{first_object, first_message, none_breaks, none_more, entry_there}
use Rattle.reference_check.proofs.structure.StructureRule.first_breaking.Goals as goal

pub returns-then-branch : goal.returns-then-branch
returns-then-branch c = λ m has.
    let R = c.args.repository.now in
    let r = c.args.reach.now in
    let n = c.loop-at.at-index in
    let within : n < length r.objects = (let h = ap length c.as_slice-at-items.ensures in omega arith) in
    let there = entry_there R m r has c.args.self n within in
    let asked : slice_get R.objects (get_or c.as_slice-at-items.result.now n 0) ≡ Some there.0 = subst (λ l. slice_get R.objects (get_or l n 0) ≡ Some there.0) (sym c.as_slice-at-items.ensures) there.1 in
    let broken = (c.in_ok-is_broken_at.ensures.broken m there.0 asked).0 c.if-branch.true in
    rw c.as_slice-at-items.ensures (first_object R m r has c.args.self c.in_ok-is_broken_at.ensures.whole n there.0 within there.1 broken (c.loop-at.invariant m has))

pub loop-at-preserved : goal.loop-at-preserved
loop-at-preserved c = λ m has.
    let R = c.args.repository.now in
    let r = c.args.reach.now in
    let n = c.loop-at.at-index in
    none_more R m r has c.args.self n (c.loop-at.invariant m has)
    (λ e here broken. true≢false (sym ((c.in_ok-is_broken_at.ensures.broken m e (subst (λ l. slice_get R.objects (get_or l n 0) ≡ Some e) (sym c.as_slice-at-items.ensures) here)).1 broken) ∙ c.if-branch.false))

pub returns-then-branch-2 : goal.returns-then-branch-2
returns-then-branch-2 c = λ m has.
    let R = c.args.repository.now in
    let r = c.args.reach.now in
    first_message R m r has c.args.self
    ((c.in_ok-is_broken_by_message.ensures m has.definition has.message_is has.first).0 c.if-branch-2.true)
    (λ i e l. c.loop-at.invariant m has i e (let h = ap length c.as_slice-at-items.ensures in omega arith))

pub returns : goal.returns
returns c = λ m has.
    let R = c.args.repository.now in
    let r = c.args.reach.now in
    none_breaks R m r has c.args.self
    (λ broken. true≢false (sym ((c.in_ok-is_broken_by_message.ensures m has.definition has.message_is has.first).1 broken) ∙ c.if-branch-2.false))
    (λ i e l. c.loop-at.invariant m has i e (let h = ap length c.as_slice-at-items.ensures in omega arith))
