use Rattle.std.proofs.Common.{◌++◌, sym, subst}
use Rattle.std.specs.Prelude.{IfOk}
use Rattle.data_types.specs.Leaf.{Bytes}
use Rattle.der_model.specs.DerMessage.{der_message}
use Rattle.der_codec.specs.Judging.{IsVerdictFor}
use Rattle.der_codec.specs.KeptPieces.{HoldsLeafAt}
use Rattle.der_codec.specs.OpenLeaves.{IsOpenAt}
use Rattle.der_codec.proofs.OpenSpots.{told_verdict, told_leaf}
use Rattle.der_codec.proofs.held.Held.finish.Goals as goal

pub returns-in-Value-clause-judged : goal.returns-in-Value-clause-judged
returns-in-Value-clause-judged c = λ leaf before is o size.
    let m = der_message c.args.model.now in
    let octets = before ++ c.args.octets.now in
    subst (λ z. IsVerdictFor m z octets c.finish_value.result) (sym c.in-Value.is)
    (told_verdict m c.in-Value.number octets c.finish_value.result (c.finish_value.ensures.told leaf before is (subst (λ z. IsOpenAt m z leaf c.args.self.now.octets.items before) c.in-Value.is o) size))

pub returns-in-Value-clause-leaf : goal.returns-in-Value-clause-leaf
returns-in-Value-clause-leaf c = λ leaf before is o size.
    let m = der_message c.args.model.now in
    let octets = before ++ c.args.octets.now in
    subst (λ z. IfOk c.finish_value.result (λ _. HoldsLeafAt m z octets (Bytes octets))) (sym c.in-Value.is)
    (told_leaf m c.in-Value.number octets c.finish_value.result (c.finish_value.ensures.told leaf before is (subst (λ z. IsOpenAt m z leaf c.args.self.now.octets.items before) c.in-Value.is o) size))
