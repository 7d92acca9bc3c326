use Rattle.std.proofs.Common.{sym, subst}
use Rattle.std.specs.Prelude.{IsTrue, ◌↔◌}
use Rattle.data_types.specs.declared.kind.Kind.{Kind}
use Rattle.data_types.specs.Dates.{IsDateText}
use Rattle.data_types.proofs.dates.is_date_text.Goals as goal

pub returns-in-Date : goal.returns-in-Date
returns-in-Date c = subst (λ (k : Kind). IsTrue c.is_date.result ↔ IsDateText k c.args.text.now) (sym c.in-Date.is) c.is_date.ensures

pub returns-in-DateTime : goal.returns-in-DateTime
returns-in-DateTime c = subst (λ (k : Kind). IsTrue c.is_date_time.result ↔ IsDateText k c.args.text.now) (sym c.in-DateTime.is) c.is_date_time.ensures
