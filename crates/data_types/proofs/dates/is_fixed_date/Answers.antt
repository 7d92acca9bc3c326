use Rattle.std.proofs.Common.{codes, refl, arith}
use Rattle.data_types.proofs.DateLemmas.{neither_by}
use Rattle.data_types.proofs.DateForms.{digits_there}
use Rattle.data_types.proofs.dates.is_fixed_date.Goals as goal

pub is_day_there-requires : goal.is_day_there-requires
is_day_there-requires c =
    let form = codes "dddd-dd-dd" in
    let text = c.args.text.now in
    let has = c.has_date_form.ensures.0 c.if-not-has_date_form.false in
    record {
      century = digits_there form text 0 has refl refl (omega arith);
      year = digits_there form text 2 has refl refl (omega arith);
      month = digits_there form text 5 has refl refl (omega arith);
      day = digits_there form text 8 has refl refl (omega arith);
    }

pub returns : goal.returns
returns c = (λ e. (c.has_date_form.ensures.0 c.if-not-has_date_form.false, c.is_day_there.ensures.0 e), λ h. c.is_day_there.ensures.1 h.1)

pub returns-then-not-has_date_form : goal.returns-then-not-has_date_form
returns-then-not-has_date_form c = neither_by c.has_date_form.ensures c.if-not-has_date_form.true (λ h. h.0)
