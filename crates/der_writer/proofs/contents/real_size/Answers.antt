use Rattle.std.proofs.Common.{◌≡◌, ℕ, zero, suc, ◌≤◌, List, [], ◌∷◌, length, take, refl, ap, ◌∙◌, arith}
use Rattle.der_model.proofs.RealWritten.{real_is}
use Rattle.der_writer.proofs.contents.real_size.Goals as goal

length-front : (n : ℕ) (xs : List ℕ) → n ≤ length xs → n ≡ length (take n xs)
length-front zero xs l = refl
length-front (suc n) [] l = absurd (omega arith)
length-front (suc n) (x ∷ xs) l = ap suc (length-front n xs (omega arith))

pub returns-clause-size : goal.returns-clause-size
returns-clause-size c =
    length-front c.nr3_into.result c.nr3_into.new.buf (omega (arith, c.nr3_into.ensures.bound, c.nr3_into.array_long)) ∙ ap length (real_is _ c.args.number c.scale-scale.ensures.decimal c.nr3_into.ensures.contents)
