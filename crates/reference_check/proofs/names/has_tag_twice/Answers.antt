-- A tag is new where it is not among those before it.
use Rattle.std.proofs.Common.{List, ℕ, map, sym, refl, arith, Bor}
use Rattle.reference_check.proofs.Tags.{twice, one_more, was_among, was_new, among_kept, added_last}
use Rattle.reference_check.proofs.names.has_tag_twice.Goals as goal

pub returns-then-not-branch : goal.returns-then-not-branch
returns-then-not-branch c = (
  λ t. twice c.args.elements.now c.loop-element.element-index (map (λ (tag : Bor (List ℕ)). tag.now) c.loop-element.tags.keys) c.loop-element.invariant (omega arith)
      c.element-item.result (sym c.element-item.is) (among_kept _ c.bytes.result.now c.element-item.result.tag c.loop-element.tags.keys c.bytes.ensures (was_among _ _ c.in_ok-insert.ensures.added c.if-not-branch.true)),
  λ h. refl,
)

pub loop-element-preserved : goal.loop-element-preserved
loop-element-preserved c =
    let new = was_new _ _ c.in_ok-insert.ensures.added c.if-not-branch.false in
    one_more c.args.elements.now c.loop-element.element-index (map (λ (tag : Bor (List ℕ)). tag.now) c.loop-element.tags.keys) (map (λ (tag : Bor (List ℕ)). tag.now) c.insert.new.self.keys)
    c.loop-element.invariant (omega arith) c.element-item.result (sym c.element-item.is)
    (among_kept _ c.bytes.result.now c.element-item.result.tag c.loop-element.tags.keys c.bytes.ensures new)
    (added_last c.bytes.result c.element-item.result.tag c.loop-element.tags.keys c.insert.new.self.keys c.bytes.ensures c.in_ok-insert.ensures.keys new)
