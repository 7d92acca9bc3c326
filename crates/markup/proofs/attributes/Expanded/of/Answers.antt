-- What is left is sorted and named.
use Rattle.std.proofs.Common.{◌≡◌, map, length, nat_lt, sym, ap, ◌∙◌}
use Rattle.std.specs.List.{filter_map}
use Rattle.std.proofs.lemmas.List.{length-map}
use Rattle.markup.specs.inner.TagParts.{tag_given, bound_entry, attribute_under}
use Rattle.markup.proofs.ExpandedLemmas.{counted, left_unbound, expanded_is}
use Rattle.markup.proofs.WholeTags.{all_plain}
use Rattle.markup.proofs.attributes.Expanded.of.Goals as goal

pub returns : goal.returns
returns c tags is =
    let given = map tag_given c.args.attributes.now.items in
    let found = map (bound_entry c.args.bindings.now) c.bind_all.new.attributes.items in
    let found_is : found ≡ filter_map (attribute_under tags) given = c.bind_all.ensures tags is in
    expanded_is tags given c.name_all.new.attributes.items found (record { has_clash = c.sort-has_clash.result; is_unbound = nat_lt c.len.result c.saturating_sub.result }) found_is
    (λ apart. c.in_ok-name_all.ensures ∙ c.sort-has_clash.ensures.sorted apart) c.sort-has_clash.ensures.twins
    (ap (nat_lt c.len.result) c.saturating_sub.ensures ∙ left_unbound tags given c.len.result c.len-count.result c.args.declared (counted c.bind_all.new.attributes c.len.result c.len.ensures ∙ (sym (length-map c.bind_all.new.attributes.items (bound_entry c.args.bindings.now)) ∙ ap length found_is)) (counted c.args.attributes.now c.len-count.result c.len-count.ensures ∙ sym (length-map c.args.attributes.now.items tag_given)) c.requires)
    (all_plain given)
