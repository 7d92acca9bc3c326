use Rattle.std.proofs.Common.{codes, refl, arith}
use Rattle.data_types.proofs.DateLemmas.{neither_as, neither_by}
use Rattle.data_types.proofs.DateForms.{digits_there}
use Rattle.data_types.proofs.dates.is_fixed_date_time.Goals as goal

pub is_day_there-requires : goal.is_day_there-requires
is_day_there-requires c =
    let form = codes "dddd-dd-ddTdd:dd:dd" in
    let text = c.args.text.now in
    let has = c.has_date_time_form.ensures.0 c.if-not-has_date_time_form.false in
    record {
      century = digits_there form text 0 has refl refl (omega arith);
      year = digits_there form text 2 has refl refl (omega arith);
      month = digits_there form text 5 has refl refl (omega arith);
      day = digits_there form text 8 has refl refl (omega arith);
    }

pub is_clock_there-requires : goal.is_clock_there-requires
is_clock_there-requires c =
    let form = codes "dddd-dd-ddTdd:dd:dd" in
    let text = c.args.text.now in
    let has = c.has_date_time_form.ensures.0 c.if-not-has_date_time_form.false in
    record {
      hours = digits_there form text 11 has refl refl (omega arith);
      minutes = digits_there form text 14 has refl refl (omega arith);
      seconds = digits_there form text 17 has refl refl (omega arith);
    }

pub returns-then-is_day_there : goal.returns-then-is_day_there
returns-then-is_day_there c = (
  λ e. (c.has_date_time_form.ensures.0 c.if-not-has_date_time_form.false, (c.is_day_there.ensures.0 c.if-is_day_there.true, c.is_clock_there.ensures.0 e)),
  λ h. c.is_clock_there.ensures.1 h.1.1,
)

pub returns-else-is_day_there : goal.returns-else-is_day_there
returns-else-is_day_there c = neither_as c.is_day_there.ensures c.if-is_day_there.false (λ h. h.1.0)

pub returns-then-not-has_date_time_form : goal.returns-then-not-has_date_time_form
returns-then-not-has_date_time_form c = neither_by c.has_date_time_form.ensures c.if-not-has_date_time_form.true (λ h. h.0)
