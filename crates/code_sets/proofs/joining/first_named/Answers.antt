-- The record at hand names one.
use Rattle.std.proofs.Common.{Some, sym, ap, subst, ◌∙◌}
use Rattle.std.proofs.lemmas.Option.{slice_get-get_or}
use Rattle.std.specs.List.{list_any}
use Rattle.std.specs.Str.{bytes_eq}
use Rattle.code_sets.specs.Codes.{JoinFault}
use Rattle.code_sets.specs.inner.Given.{key_texts}
use Rattle.code_sets.proofs.JoinLemmas.{named_first}
use Rattle.code_sets.proofs.joining.first_named.Goals as goal

pub returns-then-has_text-clause-first : goal.returns-then-has_text-clause-first
returns-then-has_text-clause-first c entries own =
    let items = c.as_slice-record-items.result.now in
    let i = c.loop-record.record-index in
    let r = c.record-item.result in
    let names = key_texts c.args.names.now.keys in
    subst (λ rs. JoinFault rs entries r.number) c.as_slice-record-items.ensures
    (named_first names entries items i r own c.loop-record.invariant c.loop-record-test.true (slice_get-get_or items i r c.loop-record-test.true ∙ ap Some (sym c.record-item.is))
    (ap (λ n. list_any (bytes_eq n) names) (sym c.bytes.ensures) ∙ sym c.has_text.ensures ∙ c.if-has_text.true))
