use Rattle.std.proofs.Common.{◌≡◌, ◌/◌, ◌^◌, length, ap, ◌∙◌, arith}
use Rattle.std.proofs.lemmas.Int.{to_z-of_z}
use mir.Syntax.{w64}
use Rattle.std.specs.Fmt.{decimal}
use Rattle.std.specs.Int.RustNames.{unsigned_abs}
use Rattle.lexical_core.proofs.Written.{whole_room}
use Rattle.lexical_core.proofs.canonical.split.Goals as goal

pub returns-clause-room : goal.returns-clause-room
returns-clause-room c =
    let d = c.whole.ensures.decimal in
    let small = d.small in let short = d.short in
    let size : c.unsigned_abs-size.result ≡ unsigned_abs c.args.number.now.whole =
    c.unsigned_abs-size.ensures.value
    ∙ (ap unsigned_abs (to_z-of_z w64 c.whole.result (record { sfits = c.whole.type_inv })) ∙ ap unsigned_abs c.whole.ensures.value) in
    let room = whole_room (unsigned_abs c.args.number.now.whole) c.args.number.now.scale small short in
    let power : c.power_of_ten-power.result ≡ 10 ^ c.args.number.now.scale = c.power_of_ten-power.ensures.value ∙ ap (λ k. 10 ^ k) c.scale.ensures.value in
    let digits = ap (λ n. length (decimal (n / c.power_of_ten-power.result))) size ∙ ap (λ p. length (decimal (unsigned_abs c.args.number.now.whole / p))) power in
    omega arith
