use Rattle.std.proofs.Common.{◌≡◌, ◌<◌, false, length, get_or, subst}
use Rattle.pattern_match.specs.Marks.{is_open}
use Rattle.pattern_match.specs.declared.instruction.Instruction.TheVariants.{Take}
use Rattle.pattern_match.proofs.Walking.{puts}
use Rattle.pattern_match.proofs.pass.advance_first.Goals as goal

pub returns-clause-listed : goal.returns-clause-listed
returns-clause-listed c =
    let a = c.at-i.ensures in
    puts c.args.code.now c.skip_first.new.marks c.put.new.self (Take 0 false false) c.first_step-mark.result c.is_open.result c.skip_first.ensures.listed
    (subst (λ k. k < length c.args.code.now) a c.if-i-code.false)
    (subst (λ k. c.is_open.result ≡ is_open (get_or c.args.code.now k (Take 0 false false))) a c.is_open.ensures)
    c.put.ensures.cells c.put.ensures.at c.put.ensures.behind c.put.ensures.ahead
