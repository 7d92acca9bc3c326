use Rattle.std.proofs.Common.{◌≡◌, ◌<◌, suc, ◌+◌, ◌*◌, ◌-◌, Some, take, take_all, slice_index, sym, ap, ◌∙◌, subst, arith}
use Rattle.std.specs.Prelude.{slice_index_or}
use Rattle.std.proofs.lemmas.List.{take_more}
use Rattle.std.proofs.lemmas.Bool.Decides.{nat_tests}
use Rattle.pattern_match.specs.Recall.{marks_behind, IsRow}
use Rattle.pattern_match.proofs.Recalling.{one_behind}
use Rattle.pattern_match.proofs.recall.Recall.reach.Goals as goal

pub loop-code-preserved : goal.loop-code-preserved
loop-code-preserved c =
    let met = c.cell_at-cell.result in
    let some : 0 < met = grind (arith, nat_tests) in
    let known = c.cell_at-cell.ensures some in
    let is : met ≡ suc (met - 1) = omega (arith, some) in
    record {
      few = omega arith;
      row = λ next marks table row.
          subst (λ w. IsRow c.args.self.now (Some (met - 1)) (marks_behind next marks w)) (sym (take_more c.args.codes.now c.loop-code.code-index 0 c.loop-code-test.true))
          (one_behind next c.args.self.now c.loop-code.here (met - 1) _ marks (take c.loop-code.code-index c.args.codes.now) table
          (c.loop-code.invariant.row next marks table row) known.0 (ap (λ t. slice_index_or t (128 * c.loop-code.here + slice_index c.args.codes.now c.loop-code.code-index) 0) (sym c.known_cells-table.ensures) ∙ (known.1 ∙ is)));
    }

pub returns : goal.returns
returns c next marks table row =
    subst (λ w. IsRow c.args.self.now (Some c.loop-code.here) (marks_behind next marks w))
    (take_all c.loop-code.code-index c.args.codes.now c.loop-code-test.false)
    (c.loop-code.invariant.row next marks table row)
