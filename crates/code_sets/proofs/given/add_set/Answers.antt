-- The name is new, and no codes stand under it.
use Rattle.std.proofs.Common.{sym, ap, ◌∙◌, is_some}
use Rattle.std.specs.BTreeMap.{get_by}
use Rattle.std.specs.Cmp.Lexicographic.{slice_cmp}
use Rattle.std.specs.Ordering.{nat_cmp}
use Rattle.code_sets.proofs.GivenLemmas.{set_added}
use Rattle.code_sets.proofs.given.add_set.Goals as goal

pub returns-in_ok-insert-clause-same : goal.returns-in_ok-insert-clause-same
returns-in_ok-insert-clause-same c =
    set_added c.in_ok-key.key.items c.args.given.now c.insert.new.self c.new.result c.in_ok-insert.ensures.updates c.new.ensures.empty
    (ap (λ n. is_some (get_by (λ k. slice_cmp nat_cmp n k.items) c.args.given.now)) c.in_ok-key.ensures.items ∙ sym c.contains_key.ensures ∙ c.if-not-contains_key.true)
