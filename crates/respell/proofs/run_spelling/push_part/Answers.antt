use Rattle.std.proofs.Common.{◌≡◌, ◌==◌, ◌++◌, false, length, drop, sym, ap, ◌∙◌}
use Rattle.respell.proofs.RunTexts.{part_pushed, closer_pushed}
use Rattle.respell.proofs.run_spelling.push_part.Goals as goal

pub returns-then-is_empty-clause-pushed : goal.returns-then-is_empty-clause-pushed
returns-then-is_empty-clause-pushed c =
    part_pushed c.args.text.now c.extend.new.self c.args.left.now c.run_length-plain.result (c.in_ok-extend.ensures.ok ∙ ap (λ l. c.args.text.now ++ l) c.split_at.ensures.front) c.run_length-plain.ensures.count

pub returns-clause-pushed : goal.returns-clause-pushed
returns-clause-pushed c =
    let some : (length (drop c.run_length-plain.result c.args.left.now) == 0) ≡ false = ap (λ l. length l == 0) (sym c.split_at.ensures.back) ∙ (sym c.is_empty.ensures ∙ c.if-is_empty.false) in
    closer_pushed c.args.text.now c.extend.new.self c.push_closer.new.text c.args.left.now c.run_length-plain.result (c.in_ok-extend.ensures.ok ∙ ap (λ l. c.args.text.now ++ l) c.split_at.ensures.front) c.in_ok-push_closer.ensures c.run_length-plain.ensures.count some
