use Rattle.std.proofs.Common.{◌≡◌, ◌∙◌, false, length, take, get_or, ap, sym, subst, arith}
use Rattle.pattern_match.specs.Marks.{is_open}
use Rattle.pattern_match.specs.declared.instruction.Instruction.TheVariants.{Take}
use Rattle.pattern_match.proofs.Walking.{puts, ends, put_row, done_row}
use Rattle.pattern_match.proofs.pass.pass_load.Goals as goal

pub loop-i-preserved : goal.loop-i-preserved
loop-i-preserved c =
    let a = c.loop-i.invariant.at in
    record {
      listed = puts c.args.code.now c.loop-i.marks c.put.new.self (Take 0 false false) (get_or c.args.row.now c.loop-i.i false) c.is_open.result c.loop-i.invariant.listed
          (let t = c.loop-i-test.true in omega arith)
          (subst (λ k. c.is_open.result ≡ is_open (get_or c.args.code.now k (Take 0 false false))) (sym a) c.is_open.ensures)
          c.put.ensures.cells c.put.ensures.at c.put.ensures.behind c.put.ensures.ahead;
      at = (let e = c.put.ensures.at in omega arith);
      row = put_row c.loop-i.marks c.put.new.self c.args.row.now c.loop-i.i a (let l = c.loop-i.invariant.listed.long in let t = c.loop-i-test.true in omega arith)
          (let l = c.requires.row in let t = c.loop-i-test.true in omega arith) c.loop-i.invariant.row c.put.ensures.cells;
    }

pub returns-clause-done : goal.returns-clause-done
returns-clause-done c =
    ends c.args.code.now c.loop-i.marks c.put_last.new.self (get_or c.args.row.now (length c.args.code.now) false) c.loop-i.invariant.listed
    (let a = c.loop-i.invariant.at in let t = c.loop-i-test.false in omega arith) c.put_last.ensures

pub returns-clause-marks : goal.returns-clause-marks
returns-clause-marks c =
    let n : c.loop-i.i ≡ length c.args.code.now = omega arith in
    done_row c.loop-i.marks c.put_last.new.self c.args.row.now (length c.args.code.now) (c.loop-i.invariant.at ∙ n) c.loop-i.invariant.listed.long c.requires.row
    (subst (λ k. take k c.loop-i.marks.cells ≡ take k c.args.row.now) n c.loop-i.invariant.row) (ap (λ w. w.cells) c.put_last.ensures)
