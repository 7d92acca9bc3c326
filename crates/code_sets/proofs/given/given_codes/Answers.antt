-- The record's code is kept behind those of the records before.
use Rattle.std.proofs.Common.{[], ap, sym, subst, take, ◌∙◌}
use Rattle.code_sets.specs.Codes.{codes_for, once}
use Rattle.code_sets.specs.inner.Given.{codes_in, HasName}
use Rattle.code_sets.proofs.GivenLemmas.{record_added, item_taken}
use Rattle.code_sets.proofs.given.given_codes.Goals as goal

pub loop-record-preserved : goal.loop-record-preserved
loop-record-preserved c =
    let items = c.as_slice-record-items.result.now in
    let i = c.loop-record.record-index in
    let r = c.record-item.result in
    let there = subst (HasName c.add_set.new.given) (c.bytes.ensures ∙ sym c.bytes-in-loop-record.ensures) c.in_ok-add_set.ensures.there in
    let added = rw (c.bytes-in-loop-record.ensures, c.bytes-in-loop-record-2.ensures) at (c.in_ok-add_code.ensures there) in
    λ name. record_added (codes_in c.add_set.new.given) (codes_in c.add_code.new.given) (take i items) r (λ q. c.in_ok-add_set.ensures.same q ∙ c.loop-record.invariant q) added name
    ∙ ap (λ l. once [] (codes_for name l)) (sym (item_taken items i r c.loop-record-test.true c.record-item.is))
