-- Names that ascend are in order, and else the sort compares by names.
use Rattle.std.proofs.Common.{rules, map, sym, ap, ◌∙◌}
use Rattle.markup.specs.inner.TagParts.{bound_entry, are_ascending, has_twins}
use Rattle.markup.proofs.SortedAttributes.{ascending_sorted, ascending_apart}
use Rattle.markup.proofs.UniqueOrders.{unique_names}
use Rattle.markup.proofs.attributes.sort.Goals as goal

pub returns-then-are_ascending-clause-twins : goal.returns-then-are_ascending-clause-twins
returns-then-are_ascending-clause-twins c =
    let entries = map (bound_entry c.args.bindings.now) c.args.attributes.now.items in
    let up = ap (λ xs. are_ascending (map (bound_entry c.args.bindings.now) xs)) (sym c.as_slice.ensures.value) ∙ (sym c.are_ascending.ensures ∙ c.if-are_ascending.true) in
    sym (ascending_apart entries up) ∙ ap has_twins (ascending_sorted entries up)

pub returns-then-are_ascending-clause-sorted : goal.returns-then-are_ascending-clause-sorted
returns-then-are_ascending-clause-sorted c apart = ascending_sorted (map (bound_entry c.args.bindings.now) c.args.attributes.now.items) (ap (λ xs. are_ascending (map (bound_entry c.args.bindings.now) xs)) (sym c.as_slice.ensures.value) ∙ (sym c.are_ascending.ensures ∙ c.if-are_ascending.true))

pub returns-clause-twins : goal.returns-clause-twins
returns-clause-twins c =
    c.has_twins.ensures ∙ (ap (λ xs. has_twins (map (bound_entry c.args.bindings.now) xs)) c.as_slice-2.ensures.value
    ∙ (unique_names (bound_entry c.args.bindings.now) c.args.attributes.now.items c.sort_unstable_by.new.self.items c.sort_unstable_by.ensures.sorted c.sort_unstable_by.ensures.permutation (λ a r q k. search rules)).0)

pub returns-clause-sorted : goal.returns-clause-sorted
returns-clause-sorted c apart =
    (unique_names (bound_entry c.args.bindings.now) c.args.attributes.now.items c.sort_unstable_by.new.self.items c.sort_unstable_by.ensures.sorted c.sort_unstable_by.ensures.permutation (λ a r q k. search rules)).1
    (sym (c.has_twins.ensures ∙ ap (λ xs. has_twins (map (bound_entry c.args.bindings.now) xs)) c.as_slice-2.ensures.value) ∙ apart)
