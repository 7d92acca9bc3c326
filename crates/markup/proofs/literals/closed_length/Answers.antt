use Rattle.std.proofs.Common.{rules, ◌≡◌, ◌∷◌, ◌<◌, drop, true, sym, ◌∙◌, arith}
use Rattle.markup.specs.Literals.{is_literal}
use Rattle.markup.proofs.ClosedBrackets.{brackets_before, closed_run}
use Rattle.markup.proofs.literals.closed_length.Goals as goal

pub returns-then-is_literal_byte-clause-only : goal.returns-then-is_literal_byte-clause-only
returns-then-is_literal_byte-clause-only c s =
    let e : c.split_at.result.1.now ≡ c.in-Some.next.now ∷ c.in-Some.field-0-1.now = search rules in
    let some : 0 < c.bracket_length-count.result = (let k = c.if-count-eq0.false in omega (arith, k)) in
    let literal : is_literal c.in-Some.next.now ≡ true = sym c.is_literal_byte.ensures ∙ c.if-is_literal_byte.true in
    closed_run c.args.piece.now c.bracket_length-count.result c.in-Some.next.now (drop c.bracket_length-count.result c.args.piece.now) c.in-Some.field-0-1.now (brackets_before c.args.piece.now c.bracket_length-count.result c.bracket_length-count.ensures.only) some (sym c.split_at.ensures.back ∙ e) literal
