use Rattle.std.proofs.Common.{◌≡◌, subst, arith, inl, inr}
use Rattle.std.proofs.lemmas.Bool.{cases_lt}
use Rattle.std.specs.Prelude.{Some}
use Rattle.reference_check.specs.Forms.{text_type}
use Rattle.message_model.specs.Tables.{types_of}
use Rattle.der_codec.specs.Reserved.{HasCheckAt}
use Rattle.der_codec.proofs.KeptChecks.{text_there}
use Rattle.der_codec.proofs.checks.Checks.reserve.Goals as goal

pub loop-number-init : goal.loop-number-init
loop-number-init c = (c.requires, λ less n h. h, λ n simple low. absurd (omega (arith, low)))

pub loop-number-preserved : goal.loop-number-preserved
loop-number-preserved c =
    let i = c.loop-number.invariant in
    let T = c.args.model.now in
    let number = c.loop-number.number in
    let new = c.reserve_at.new.self in
    let h = c.in_default.ensures in (
      c.reserve_at.ensures.made,
      λ less n k. c.reserve_at.ensures.room less n (i.1 less n k),
      λ n simple low is wants. elim (cases_lt n number) [
        | inl before ↦ c.reserve_at.ensures.room c.args.bytes n (i.2 n simple before is wants)
        | inr behind ↦ (let same : number ≡ n = omega (arith, low, behind) in subst (λ z. text_type (types_of T z) ≡ Some simple → HasCheckAt c.args.bytes new.entries.items z) same (λ is. h.ok simple is wants) is)
      ],
    )

pub returns-clause-ok : goal.returns-clause-ok
returns-clause-ok c = λ n simple is wants.
    let low = text_there c.args.model.now n simple is in
    let count = c.type_count-number-end.ensures.count in
    let over = c.loop-number-test.false in
    c.loop-number.invariant.2 n simple (omega (arith, low, count, over)) is wants

pub returns-clause-room : goal.returns-clause-room
returns-clause-room c = λ less h n simple is wants. c.loop-number.invariant.1 less n (h n simple is wants)

pub returns-in-Err-clause-room : goal.returns-in-Err-clause-room
returns-in-Err-clause-room c = λ less h n simple is wants. c.reserve_at.ensures.room less n (c.loop-number.invariant.1 less n (h n simple is wants))
