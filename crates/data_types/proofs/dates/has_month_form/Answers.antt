use Rattle.std.proofs.Common.{◌+◌, ◌-◌, ◌%◌, [], ◌∷◌, cond, ltb, codes, w8, refl, arith}
use Rattle.std.proofs.lemmas.Bool.Decides.{nat_tests}
use Rattle.std.proofs.lemmas.Simd.{chunk-fits}
use Rattle.data_types.proofs.DateForms.{form_told}
use Rattle.data_types.proofs.dates.has_month_form.Goals as goal

pub returns : goal.returns
returns c =
    let text = c.args.text.now in
    form_told (λ a b. cond (ltb a b) 255 0) (λ a b. (a + (256 - b)) % 256) (codes "dddd-dd-") (codes "0000-00-") (9 ∷ 9 ∷ 9 ∷ 9 ∷ 0 ∷ 9 ∷ 9 ∷ 0 ∷ []) text 8 refl (omega arith) refl
    (grind (arith, nat_tests)) (chunk-fits w8 0 8 text c.type_inv.text)
