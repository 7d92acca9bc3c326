-- Three pieces, of which the first and the last are of one edge.
use Rattle.std.proofs.Common.{◌≡◌, ◌+◌, ◌-◌, ◌<◌, length, drop, refl, sym, ap, ◌∙◌, subst, arith}
use Rattle.std.proofs.lemmas.Option.{slice_get_within}
use Rattle.data_types.specs.LeafAnswers.{leaf_of}
use Rattle.data_types.specs.Value.{Ends}
use Rattle.inst_pool.specs.Pieces.{edge_of}
use Rattle.der_writer.specs.inner.PieceOctets.{empty_slots}
use Rattle.der_writer.proofs.simple.simple_before.Goals as goal

pub returns-clause-within : goal.returns-clause-within
returns-clause-within c =
    let ps = c.args.instance.now.region.pieces in
    let far = c.if-at-lt2.false in
    let third : c.args.at - 2 + 2 ≡ c.args.at = omega (arith, far) in
    subst (λ n. n < length ps) third (slice_get_within ps (c.args.at - 2 + 2) (Ends (edge_of c.in-Some.element.edge)) c.in-Some.ensures.ends)

pub returns-clause-simple : goal.returns-clause-simple
returns-clause-simple c =
    let leaf = leaf_of c.in-Some.element.leaf in
    record {
      leaf = leaf;
      there = c.in-Some.ensures;
      octets = c.leaf_size.ensures.size ∙ sym (ap length (c.if-not-is_simple.ensures.leaf refl leaf));
      few = c.leaf_size.ensures.most;
      none = ap (λ z. length (empty_slots 0 (drop 0 z))) (c.if-not-is_simple.ensures.slots refl);
    }
