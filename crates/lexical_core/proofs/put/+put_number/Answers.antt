use Rattle.std.proofs.Common.{◌≡◌, ℕ, ◌+◌, ◌<◌, ◌≤◌, ◌^◌, ◌/◌, ◌%◌, [], ◌∷◌, ◌++◌, length, take, sym, ap, ◌∙◌, arith, length-append}
use Rattle.std.proofs.lemmas.Fmt.{decimal_digit, decimal_step}
use Rattle.std.specs.Fmt.{decimal}
use Rattle.lexical_core.proofs.Lists.{appended}
use Rattle.lexical_core.proofs.put.+put_number.Goals as goal

-- one digit more
grown : (value at room : ℕ) → 10 ≤ value → value < 2 ^ 64 → length (decimal value) ≡ length (decimal (value / 10)) + 1
grown value at room some fits = ap length (decimal_step value some fits) ∙ length-append (decimal (value / 10)) ((48 + value % 10) ∷ [])

pub put_byte-requires : goal.put_byte-requires
put_byte-requires t c = let room = c.requires in let one = ap length (decimal_digit c.args.value c.if-value-lt10.true) in omega arith

pub returns-then-value-lt10-clause-at : goal.returns-then-value-lt10-clause-at
returns-then-value-lt10-clause-at t c = let one = ap length (decimal_digit c.args.value c.if-value-lt10.true) in omega arith

pub returns-then-value-lt10-clause-bytes : goal.returns-then-value-lt10-clause-bytes
returns-then-value-lt10-clause-bytes t c =
    c.put_byte.ensures.bytes ∙ ap (λ x. take c.args.at c.args.buf.now ++ x) (sym (decimal_digit c.args.value c.if-value-lt10.true))

pub put_number-last-requires : goal.put_number-last-requires
put_number-last-requires t c =
    let room = c.requires in let one = grown c.args.value 0 0 c.if-value-lt10.false c.ranges.value.fits in (omega arith, omega arith)

pub put_byte-requires-2 : goal.put_byte-requires-2
put_byte-requires-2 t c =
    let room = c.requires in let one = grown c.args.value 0 0 c.if-value-lt10.false c.ranges.value.fits in omega arith

pub returns-clause-at : goal.returns-clause-at
returns-clause-at t c = let one = grown c.args.value 0 0 c.if-value-lt10.false c.ranges.value.fits in omega arith

pub returns-clause-bytes : goal.returns-clause-bytes
returns-clause-bytes t c =
    appended (take c.args.at c.args.buf.now) (decimal (c.args.value / 10)) ((48 + c.args.value % 10) ∷ []) c.put_byte-2.ensures.bytes c.put_number-last.ensures.bytes (decimal_step c.args.value c.if-value-lt10.false c.ranges.value.fits)
