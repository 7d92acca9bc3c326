use Rattle.std.proofs.Common.{subst}
use Rattle.outside.specs.Pushes.{Pushes}
use Rattle.data_types.specs.LeafAnswers.{leaf_of}
use Rattle.xml_writer.proofs.ValueTexts.{is_canonical, value_same}
use Rattle.xml_writer.proofs.leaves.push_text.Goals as goal

pub returns-in-None : goal.returns-in-None
returns-in-None g c = λ chars h.
    let simple = c.args.simple.now in
    let leaf = leaf_of c.args.leaf.now in
    let own = is_canonical simple leaf chars c.in-None.ensures.none h in
    subst (λ t. Pushes g.O.Sink.held g.O.Sink.faults g.O.Sink.room c.args.sink.now c.push_leaf.new.sink c.push_leaf.result t)
    (value_same simple leaf c.args.attribute chars c.in-None.ensures.none c.requires h)
    (record { appends = c.push_leaf.ensures.bytes chars own; cause = c.push_leaf.ensures.cause; takes = c.push_leaf.ensures.room chars own })
