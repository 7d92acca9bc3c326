use Rattle.std.proofs.Common.{rules, ◌≡◌, ◌∷◌, sym, ◌∙◌}
use Rattle.markup.proofs.LiteralRuns.{begun_whole}
use Rattle.markup.proofs.literals.size_at.Goals as goal

pub returns-then-is_allowed : goal.returns-then-is_allowed
returns-then-is_allowed c =
    let e : c.loop-byte.rest.now ≡ c.in-Some.byte.now ∷ c.in-Some.after.now = search rules in
    begun_whole c.args.piece.now c.loop-byte.utf8 c.take.new.self c.loop-byte.count c.in-Some.byte.now c.in-Char.c c.loop-byte.rest.now c.in-Some.after.now c.loop-byte.invariant e
    c.in-Char.ensures (sym c.is_allowed.ensures ∙ c.if-is_allowed.true)
