use Rattle.std.proofs.Common.{inl, inr, subst}
use Rattle.data_types.specs.declared.kind.Kind.{Kind}
use Rattle.data_types.specs.Dates.{HasParts}
use Rattle.data_types.proofs.DateLemmas.{neither}
use Rattle.data_types.proofs.dates.has_parts.Goals as goal

pub returns-in-Text : goal.returns-in-Text
returns-in-Text c = neither (λ h.
    elim c.in-Text.is [
      | inl e ↦ subst (λ (k : Kind). HasParts k c.args.text.now) e h
      | inr (inl e) ↦ subst (λ (k : Kind). HasParts k c.args.text.now) e h
      | inr (inr (inl e)) ↦ subst (λ (k : Kind). HasParts k c.args.text.now) e h
      | inr (inr (inr (inl e))) ↦ subst (λ (k : Kind). HasParts k c.args.text.now) e h
      | inr (inr (inr (inr e))) ↦ subst (λ (k : Kind). HasParts k c.args.text.now) e h
    ])
