-- Before any place is written all are behind; then one more is written.
use Rattle.std.proofs.Common.{◌≡◌, ℕ, suc, ◌-◌, ◌<◌, length, map, drop, sym, ap, subst, ◌∙◌, arith}
use Rattle.std.specs.Prelude.{replicate}
use Rattle.std.proofs.lemmas.Grind.{common_steps}
use Rattle.std.proofs.lemmas.List.{length-set, length-replicate}
use Rattle.asn1_model.specs.ModuleOf.{name_in}
use Rattle.asn1_model.specs.inner.Order.{numbered_type}
use Rattle.asn1_model.specs.inner.Places.{name_at}
use Rattle.asn1_model.proofs.PlaceLemmas.{place_more, place_none}
use Rattle.asn1_model.proofs.places.places.Goals as goal

pub loop-left-init : goal.loop-left-init
loop-left-init c =
    let types = c.args.types.now in
    let is : c.resize.new.self.items ≡ replicate c.args.count (length types) = grind (arith, common_steps, c.in_ok-resize.ensures.items, c.new-places.ensures.items, c.new-places.ensures.len) in
    record {
      within = omega arith;
      count = ap length is ∙ length-replicate c.args.count (length types);
      named = λ given same p inside. ap (λ ps. name_at ps given p) is ∙ place_none types given c.args.count p same inside;
    }

pub loop-left-preserved : goal.loop-left-preserved
loop-left-preserved c =
    let types = c.args.types.now in
    let places = c.loop-left.places.items in
    let i : ℕ = c.loop-left.left - 1 in
    let more : suc i ≡ c.loop-left.left = omega (arith, c.loop-left-test.true) in
    let lt : i < length types = omega (arith, c.loop-left-test.true, c.loop-left.invariant.within) in
    record {
      within = omega (arith, c.loop-left.invariant.within);
      count = ap length c.set_place.ensures ∙ length-set places _ i ∙ c.loop-left.invariant.count;
      named = λ given same p inside.
          ap (λ ps. name_at ps given p) c.set_place.ensures
          ∙ place_more types given places i p _ lt same (omega (arith, inside, c.loop-left.invariant.count))
          (subst (λ n. name_at places given p ≡ name_in (map numbered_type (drop n types)) (drop n given) p) (sym more) (c.loop-left.invariant.named given same p inside));
    }
