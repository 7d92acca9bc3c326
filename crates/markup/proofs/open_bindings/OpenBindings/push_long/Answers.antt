-- A long namespace that was there, one that is put into the order, and one that is not.
use Rattle.std.proofs.Common.{Some, refl, ◌∙◌, rules}
use Rattle.markup.specs.declared.open_bindings.Kept.{Kept}
use Rattle.markup.proofs.RankLemmas.{ranked_again, ranked_itself, ranked_put}
use Rattle.markup.proofs.open_bindings.OpenBindings.push_long.Goals as goal

pub invariant_of-self-in-Some : goal.invariant_of-self-in-Some
invariant_of-self-in-Some c =
    let last : Kept = record { binding = c.args.binding; like = Some c.in-Some.like } in
    let found = rw c.deref-3.ensures.value at c.in-Some.ensures in
    ranked_again c.self.inside.kept.items c.push.new.self.items last c.self.inside.order.items c.in-Some.like c.self.invariant c.in_ok-push.ensures.items refl found.0 (found.1 ∙ c.bytes-2.ensures)

pub invariant_of-self-in-Continue-branch-3 : goal.invariant_of-self-in-Continue-branch-3
invariant_of-self-in-Continue-branch-3 c =
    let last : Kept = record { binding = c.args.binding; like = Some c.len-place.result } in
    ranked_put c.self.inside.kept.items c.push-2.new.self.items last c.self.inside.order.items c.put_at.new.order.items c.spot_of-spot.result c.len-place.result c.bytes-3.result.now c.self.invariant c.in_ok-push-2.ensures.items refl (search rules)
    (rw (c.deref-5.ensures.value, c.deref-6.ensures.value) at (c.fits-fits.ensures c.if-fits.true)) c.bytes-3.ensures c.in_ok-put_at.ensures.ok

pub invariant_of-self-in_err-put_at : goal.invariant_of-self-in_err-put_at
invariant_of-self-in_err-put_at c =
    let last : Kept = record { binding = c.args.binding; like = Some c.len-place.result } in
    rw c.in_err-put_at.ensures.err (ranked_itself c.self.inside.kept.items c.push-2.new.self.items last c.self.inside.order.items c.len-place.result c.self.invariant c.in_ok-push-2.ensures.items refl (search rules))

pub invariant_of-self-else-fits : goal.invariant_of-self-else-fits
invariant_of-self-else-fits c =
    let last : Kept = record { binding = c.args.binding; like = Some c.len-place.result } in
    ranked_itself c.self.inside.kept.items c.push-2.new.self.items last c.self.inside.order.items c.len-place.result c.self.invariant c.in_ok-push-2.ensures.items refl (search rules)
