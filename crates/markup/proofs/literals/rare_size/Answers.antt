use Rattle.std.proofs.Common.{rules, ◌≡◌, ◌∷◌, nat_le, true}
use Rattle.std.proofs.lemmas.Option.{IfSome_then}
use Rattle.markup.proofs.LiteralRuns.{wide_at}
use Rattle.markup.proofs.literals.rare_size.Goals as goal

pub returns : goal.returns
returns c =
    let e : c.args.piece.now ≡ c.in-Some.first.now ∷ c.in-Some.field-0-1.now = search rules in
    let h : nat_le 128 c.in-Some.first.now ≡ true = search rules in
    IfSome_then c.size_at.result c.size_at.ensures (λ n a. wide_at c.in-Some.first.now n c.in-Some.field-0-1.now c.args.piece.now e h a)
