use Rattle.std.proofs.Common.{length, sym, ap, subst}
use Rattle.data_types.specs.inner.DateParts.{IsFractionAndZone}
use Rattle.data_types.proofs.DateLemmas.{neither, neither_by, text_short, text_told, text_parted}
use Rattle.data_types.proofs.dates.is_other_text.Goals as goal

pub returns : goal.returns
returns c =
    let text = c.args.text.now in
    let rest = c.split_at.result.1.now in
    let len = ap length (sym c.form_of-form.ensures) in (
      λ e. text_told c.args.kind text _ _ _ c.split_at.ensures.front c.split_at.ensures.back (c.is_other_fixed_part.ensures.0 c.if-not-is_other_fixed_part.false)
          (subst (λ b. IsFractionAndZone b rest) c.has_seconds.ensures (c.is_rest.ensures.0 e)),
      λ h. c.is_rest.ensures.1 (subst (λ b. IsFractionAndZone b rest) (sym c.has_seconds.ensures) (text_parted c.args.kind text _ _ _ len c.split_at.ensures.front c.split_at.ensures.back h).1),
    )

pub returns-then-not-is_other_fixed_part : goal.returns-then-not-is_other_fixed_part
returns-then-not-is_other_fixed_part c =
    let len = ap length (sym c.form_of-form.ensures) in
    neither_by c.is_other_fixed_part.ensures c.if-not-is_other_fixed_part.true
    (λ h. (text_parted c.args.kind c.args.text.now _ _ _ len c.split_at.ensures.front c.split_at.ensures.back h).0)

pub returns-then-text-form : goal.returns-then-text-form
returns-then-text-form c = neither (text_short c.args.kind c.args.text.now _ (ap length (sym c.form_of-form.ensures)) c.if-text-form.true)
