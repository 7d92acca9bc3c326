-- Behind the last attribute there is no neighbour.
use Rattle.std.proofs.Common.{◌-◌, false, refl, sym, ◌∙◌, arith}
use Rattle.markup.specs.inner.TagParts.{bound_entry, has_twins}
use Rattle.markup.proofs.SortedAttributes.{without_neighbours}
use Rattle.markup.proofs.attributes.has_twins.Goals as goal

pub returns : goal.returns
returns c = sym (without_neighbours (bound_entry c.args.bindings.now) has_twins false refl (λ e. refl) c.args.attributes.now (c.loop-next.next - 1) (omega (arith, c.loop-next.invariant.0, c.loop-next-test.false))) ∙ c.loop-next.invariant.1
