use Rattle.std.proofs.Common.{arith, ◌∙◌, length, ◌<◌}
use Rattle.std.proofs.lemmas.Option.{slice_get_within}
use Rattle.reference_check.proofs.SearchAnswers.{listed_one_more, read}
use Rattle.reference_check.proofs.users.add_targets.Goals as goal

pub loop-element-preserved : goal.loop-element-preserved
loop-element-preserved c = (
  c.in_ok-add_target.ensures.length ∙ c.loop-element.invariant.0,
  listed_one_more c.args.repository.now.objects c.loop-element.lists.items c.add_target.new.lists.items c.args.user c.loop-element.element-index c.args.elements.now c.element-item.result
      (read c.args.elements.now c.loop-element.element-index c.element-item.result (omega arith) c.element-item.is) c.in_ok-add_target.ensures.kept c.in_ok-add_target.ensures.listed c.loop-element.invariant.1,
  λ k u h. c.in_ok-add_target.ensures.kept k u (c.loop-element.invariant.2 k u h),
)

pub returns-clause-listed : goal.returns-clause-listed
returns-clause-listed c = λ i d at. c.loop-element.invariant.1 i d (let h : i < length c.args.elements.now = slice_get_within c.args.elements.now i d at in omega arith) at
