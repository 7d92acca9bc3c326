use Rattle.std.proofs.Common.{◌≡◌, ◌==◌, ◌++◌, true, false, arith, subst}
use Rattle.std.proofs.lemmas.Bool.Decides.{nat_tests}
use Rattle.std.specs.Fmt.{decimal}
use Rattle.outside.specs.Pushes.{Pushes}
use Rattle.repo_engine.specs.Verdict.{line_end, record_text}
use Rattle.repo_engine.proofs.refusal.push_codes.Goals as goal

pub returns-then-number-eq0 : goal.returns-then-number-eq0
returns-then-number-eq0 g c = let none : (c.args.number == 0) ≡ true = grind (arith, nat_tests, c.if-number-eq0.true) in
    rw none (subst (λ front. Pushes g.O.Sink.held g.O.Sink.faults g.O.Sink.room c.args.sink.now c.push_codes_rule.new.sink c.push_codes_rule.result (front ++ (decimal c.args.rule ++ line_end))) c.as_slice-front.ensures c.push_codes_rule.ensures)

pub returns-else-number-eq0 : goal.returns-else-number-eq0
returns-else-number-eq0 g c = let some : (c.args.number == 0) ≡ false = grind (arith, nat_tests, c.if-number-eq0.false) in
    rw some (subst (λ front. Pushes g.O.Sink.held g.O.Sink.faults g.O.Sink.room c.args.sink.now c.push_codes_record.new.sink c.push_codes_record.result (front ++ (decimal c.args.rule ++ record_text c.args.number))) c.as_slice-front.ensures c.push_codes_record.ensures)
