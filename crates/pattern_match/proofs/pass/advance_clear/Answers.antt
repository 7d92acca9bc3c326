use Rattle.std.proofs.Common.{◌≡◌, ◌<◌, false, length, get_or, subst, arith}
use Rattle.pattern_match.specs.Marks.{is_open}
use Rattle.pattern_match.specs.declared.instruction.Instruction.TheVariants.{Take}
use Rattle.pattern_match.proofs.Walking.{puts, skipped_clear, put_clear}
use Rattle.pattern_match.proofs.pass.advance_clear.Goals as goal

pub returns-then-i-code-clause-listed : goal.returns-then-i-code-clause-listed
returns-then-i-code-clause-listed c =
    let a = c.at-i.ensures in
    puts c.args.code.now c.skip_unset.new.marks c.put.new.self (Take 0 false false) false c.is_open.result c.skip_unset.ensures.skips.listed
    (subst (λ k. k < length c.args.code.now) a c.if-i-code.true)
    (subst (λ k. c.is_open.result ≡ is_open (get_or c.args.code.now k (Take 0 false false))) a c.is_open.ensures)
    c.put.ensures.cells c.put.ensures.at c.put.ensures.behind c.put.ensures.ahead

pub returns-then-i-code-clause-clear : goal.returns-then-i-code-clause-clear
returns-then-i-code-clause-clear c =
    put_clear c.skip_unset.new.marks c.put.new.self (let l = c.skip_unset.ensures.skips.listed.long in let a = c.at-i.ensures in let t = c.if-i-code.true in omega arith)
    (skipped_clear c.args.code.now c.args.marks.now c.skip_unset.new.marks c.skip_unset.ensures.skips c.requires.clear) c.put.ensures.cells c.put.ensures.at

pub returns-else-i-code-clause-clear : goal.returns-else-i-code-clause-clear
returns-else-i-code-clause-clear c = skipped_clear c.args.code.now c.args.marks.now c.skip_unset.new.marks c.skip_unset.ensures.skips c.requires.clear
