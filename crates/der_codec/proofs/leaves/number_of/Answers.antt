use Rattle.std.proofs.Common.{arith, sym, ap, ◌∙◌}
use Rattle.der_model.specs.LeafContents.{integer_octets}
use Rattle.der_codec.proofs.CodeNumbers.{no_negative, no_longer, written, no_greater}
use Rattle.der_codec.proofs.leaves.number_of.Goals as goal

pub returns-then-first-ge128-clause-none : goal.returns-then-first-ge128-clause-none
returns-then-first-ge128-clause-none c = λ n small e. no_negative c.args.octets.now c.in-Some.first.now n c.in-Some.field-0-1.now c.in-Some.ensures.cases.0 c.if-first-ge128.true e

pub returns-then-octets-gt5-clause-none : goal.returns-then-octets-gt5-clause-none
returns-then-octets-gt5-clause-none c = λ n small e. no_longer c.args.octets.now n c.if-octets-gt5.true small e

pub returns-then-number-ge4294967296-clause-none : goal.returns-then-number-ge4294967296-clause-none
returns-then-number-ge4294967296-clause-none c = λ n small e.
    let low = c.if-first-ge128.false in
    no_greater c.args.octets.now c.in-Some.first.now n c.value_of-number.result c.in-Some.field-0-1.now c.requires c.are_octets.ensures c.in-Some.ensures.cases.0 (omega arith) c.value_of-number.ensures c.if-number-ge4294967296.true small e

pub returns-clause-some : goal.returns-clause-some
returns-clause-some c =
    let low = c.if-first-ge128.false in
    written c.args.octets.now c.in-Some.first.now c.in-Some.field-0-1.now c.requires c.are_octets.ensures c.in-Some.ensures.cases.0 (omega arith) ∙ ap integer_octets (sym c.value_of-number.ensures)
