-- What is left of each attribute is its entry.
use Rattle.std.proofs.Common.{rules}
use Rattle.markup.specs.inner.TagParts.{tag_given, bound_entry, attribute_under}
use Rattle.markup.proofs.ExpandedLemmas.{retained}
use Rattle.markup.proofs.attributes.bind_all.Goals as goal

pub returns : goal.returns
returns c tags is = retained _ tag_given (attribute_under tags) (bound_entry c.args.bindings.now) _ (λ x b t y k. search rules) c.args.attributes.now.items c.retain_mut.new.self.items c.retain_mut.ensures.filtered
