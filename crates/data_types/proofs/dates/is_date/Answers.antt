use Rattle.std.proofs.Common.{refl}
use Rattle.data_types.specs.declared.kind.Kind.TheVariants.{Date}
use Rattle.data_types.proofs.DateLemmas.{neither, neither_by, text_short, text_told, text_parted}
use Rattle.data_types.proofs.dates.is_date.Goals as goal

pub returns : goal.returns
returns c =
    let text = c.args.text.now in (
      λ e. text_told Date text _ _ 10 c.split_at.ensures.front c.split_at.ensures.back (c.is_fixed_date.ensures.0 c.if-not-is_fixed_date.false) (c.is_rest.ensures.0 e),
      λ h. c.is_rest.ensures.1 (text_parted Date text _ _ 10 refl c.split_at.ensures.front c.split_at.ensures.back h).1,
    )

pub returns-then-not-is_fixed_date : goal.returns-then-not-is_fixed_date
returns-then-not-is_fixed_date c =
    neither_by c.is_fixed_date.ensures c.if-not-is_fixed_date.true
    (λ h. (text_parted Date c.args.text.now _ _ 10 refl c.split_at.ensures.front c.split_at.ensures.back h).0)

pub returns-then-text-lt10 : goal.returns-then-text-lt10
returns-then-text-lt10 c = neither (text_short Date c.args.text.now 10 refl c.if-text-lt10.true)
