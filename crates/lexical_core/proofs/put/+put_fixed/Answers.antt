use Rattle.std.proofs.Common.{◌≡◌, ℕ, suc, ◌+◌, ◌-◌, ◌/◌, ◌%◌, [], ◌∷◌, ◌++◌, take, ap, arith}
use Rattle.lexical_core.specs.FixedDigits.{fixed_digits}
use Rattle.lexical_core.proofs.Lists.{appended}
use Rattle.lexical_core.proofs.put.+put_fixed.Goals as goal

-- one digit more
fixed_step : (count value : ℕ) → (count ≡ 0 → ⊥) → fixed_digits count value ≡ fixed_digits (count - 1) (value / 10) ++ (48 + value % 10) ∷ []
fixed_step count value some =
    let more : count ≡ suc (count - 1) = omega arith in
    ap (λ n. fixed_digits n value) more

pub returns-clause-bytes : goal.returns-clause-bytes
returns-clause-bytes t c =
    appended (take c.args.at c.args.buf.now) (fixed_digits (c.args.count - 1) (c.args.value / 10)) ((48 + c.args.value % 10) ∷ [])
    c.put_byte.ensures.bytes c.put_fixed-last.ensures.bytes (fixed_step c.args.count c.args.value c.if-count-eq0.false)
