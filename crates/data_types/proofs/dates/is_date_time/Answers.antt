use Rattle.std.proofs.Common.{refl}
use Rattle.data_types.specs.declared.kind.Kind.TheVariants.{DateTime}
use Rattle.data_types.proofs.DateLemmas.{neither, neither_by, text_short, text_told, text_parted}
use Rattle.data_types.proofs.dates.is_date_time.Goals as goal

pub returns : goal.returns
returns c =
    let text = c.args.text.now in (
      λ e. text_told DateTime text _ _ 19 c.split_at.ensures.front c.split_at.ensures.back (c.is_fixed_date_time.ensures.0 c.if-not-is_fixed_date_time.false) (c.is_rest.ensures.0 e),
      λ h. c.is_rest.ensures.1 (text_parted DateTime text _ _ 19 refl c.split_at.ensures.front c.split_at.ensures.back h).1,
    )

pub returns-then-not-is_fixed_date_time : goal.returns-then-not-is_fixed_date_time
returns-then-not-is_fixed_date_time c =
    neither_by c.is_fixed_date_time.ensures c.if-not-is_fixed_date_time.true
    (λ h. (text_parted DateTime c.args.text.now _ _ 19 refl c.split_at.ensures.front c.split_at.ensures.back h).0)

pub returns-then-text-lt19 : goal.returns-then-text-lt19
returns-then-text-lt19 c = neither (text_short DateTime c.args.text.now 19 refl c.if-text-lt19.true)
