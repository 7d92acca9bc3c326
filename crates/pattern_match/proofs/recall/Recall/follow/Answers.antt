use Rattle.std.proofs.Common.{◌≡◌, ◌<◌, suc, ◌+◌, ◌*◌, ◌-◌, Some, length, take, take_all, slice_index, sym, ap, ◌∙◌, subst, arith}
use Rattle.std.specs.Prelude.{slice_index_or}
use Rattle.std.proofs.lemmas.List.{take_more}
use Rattle.std.proofs.lemmas.Bool.Decides.{nat_tests}
use Rattle.pattern_match.specs.Recall.{marks_behind, IsRow}
use Rattle.pattern_match.proofs.Recalling.{one_behind}
use Rattle.pattern_match.proofs.recall.Recall.follow.Goals as goal

pub loop-count-preserved : goal.loop-count-preserved
loop-count-preserved c =
    let met = c.cell_at-cell.result in
    let some : 0 < met = grind (arith, nat_tests) in
    let known = c.cell_at-cell.ensures some in
    let is : met ≡ suc (met - 1) = omega (arith, some) in
    record {
      few = omega arith;
      row = λ next marks table row.
          subst (λ w. IsRow c.args.self.now (Some (met - 1)) (marks_behind next marks w)) (sym (take_more c.args.codes.now c.loop-count.count 0 c.loop-count-test.true))
          (one_behind next c.args.self.now c.loop-count.here (met - 1) _ marks (take c.loop-count.count c.args.codes.now) table
          (c.loop-count.invariant.row next marks table row) known.0 (ap (λ t. slice_index_or t (128 * c.loop-count.here + slice_index c.args.codes.now c.loop-count.count) 0) (sym c.known_cells-table.ensures) ∙ (known.1 ∙ is)));
    }

pub returns-clause-row : goal.returns-clause-row
returns-clause-row c next marks table row =
    let codes = c.args.codes.now in
    subst (λ w. IsRow c.args.self.now (Some c.loop-count.here) (marks_behind next marks w))
    (take_all c.loop-count.count codes c.loop-count-test.false ∙ sym (take_all (length codes) codes (omega arith)))
    (c.loop-count.invariant.row next marks table row)
