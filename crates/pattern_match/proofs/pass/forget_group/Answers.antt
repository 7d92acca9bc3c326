use Rattle.std.proofs.Common.{◌≡◌, ◌<◌, ◌-◌, true, false, length, get_or, sym, subst}
use Rattle.pattern_match.specs.Marking.{end_of_group}
use Rattle.pattern_match.specs.Marks.{is_open}
use Rattle.pattern_match.specs.declared.instruction.Instruction.TheVariants.{Take}
use Rattle.pattern_match.proofs.Walking.{forgets}
use Rattle.pattern_match.proofs.pass.forget_group.Goals as goal

pub returns-then-group_end-next : goal.returns-then-group_end-next
returns-then-group_end-next c =
    let a = c.at-i.ensures in
    let code = c.args.code.now in
    forgets code c.args.marks.now c.forget.new.self (Take 0 false false) c.second-next.result c.requires
    (subst (λ k. k < length code) a c.if-i-code.false)
    (subst (λ k. is_open (get_or code k (Take 0 false false)) ≡ true) a (sym c.if-not-is_open.ensures))
    (subst (λ k. get_or c.args.marks.now.cells k false ≡ false) a (sym c.if-is_set.ensures))
    c.second-next.ensures
    (subst (λ k. k < c.second-next.result) a c.if-next-i.true)
    (subst (λ k. end_of_group (get_or code k (Take 0 false false)) < c.second-next.result - k - 1) a
    (subst (λ k. k < c.second-next.result - c.at-i.result - 1) c.group_end.ensures c.if-group_end-next.true))
    c.forget.ensures
