use Rattle.std.proofs.Common.{ap, subst}
use Rattle.outside.specs.Sink.{PushAppends, HasRoom}
use Rattle.data_types.specs.LeafAnswers.{leaf_of}
use Rattle.data_types.proofs.CanonicalLemmas.{text_pushed, binary_pushed, date_pushed, number_pushed}
use Rattle.data_types.proofs.canonical.push_leaf.Goals as goal

pub returns-in-Text-clause-bytes : goal.returns-in-Text-clause-bytes
returns-in-Text-clause-bytes g c = λ chars h.
    subst (λ t. PushAppends (g.O.Sink.held c.args.sink.now) (g.O.Sink.held c.push_escaped.new.sink) c.push_escaped.result t)
    (text_pushed c.args.kind (leaf_of c.args.leaf.now) c.in-Bytes.bytes.now chars c.in-Text.is (ap leaf_of c.in-Bytes.is) h) c.push_escaped.ensures.bytes

pub returns-in-Text-clause-room : goal.returns-in-Text-clause-room
returns-in-Text-clause-room g c = λ chars h.
    subst (λ t. HasRoom (g.O.Sink.room c.args.sink.now) (g.O.Sink.room c.push_escaped.new.sink) c.push_escaped.result t)
    (text_pushed c.args.kind (leaf_of c.args.leaf.now) c.in-Bytes.bytes.now chars c.in-Text.is (ap leaf_of c.in-Bytes.is) h) c.push_escaped.ensures.room

pub returns-in-Binary-clause-bytes : goal.returns-in-Binary-clause-bytes
returns-in-Binary-clause-bytes g c = λ chars h.
    subst (λ t. PushAppends (g.O.Sink.held c.args.sink.now) (g.O.Sink.held c.push_octets.new.sink) c.push_octets.result t)
    (binary_pushed c.args.kind (leaf_of c.args.leaf.now) c.in-Bytes.bytes.now chars c.in-Binary.is (ap leaf_of c.in-Bytes.is) c.requires h) c.push_octets.ensures.bytes

pub returns-in-Binary-clause-room : goal.returns-in-Binary-clause-room
returns-in-Binary-clause-room g c = λ chars h.
    subst (λ t. HasRoom (g.O.Sink.room c.args.sink.now) (g.O.Sink.room c.push_octets.new.sink) c.push_octets.result t)
    (binary_pushed c.args.kind (leaf_of c.args.leaf.now) c.in-Bytes.bytes.now chars c.in-Binary.is (ap leaf_of c.in-Bytes.is) c.requires h) c.push_octets.ensures.room

pub returns-in_default-clause-bytes : goal.returns-in_default-clause-bytes
returns-in_default-clause-bytes g c = λ chars h.
    subst (λ t. PushAppends (g.O.Sink.held c.args.sink.now) (g.O.Sink.held c.push.new.self) c.push.result t)
    (date_pushed c.args.kind (leaf_of c.args.leaf.now) c.in-Bytes.bytes.now chars c.in_default.not-Text c.in_default.not-Binary (ap leaf_of c.in-Bytes.is) c.requires h) c.push.ensures.bytes

pub returns-in_default-clause-room : goal.returns-in_default-clause-room
returns-in_default-clause-room g c = λ chars h.
    subst (λ t. HasRoom (g.O.Sink.room c.args.sink.now) (g.O.Sink.room c.push.new.self) c.push.result t)
    (date_pushed c.args.kind (leaf_of c.args.leaf.now) c.in-Bytes.bytes.now chars c.in_default.not-Text c.in_default.not-Binary (ap leaf_of c.in-Bytes.is) c.requires h) c.push.ensures.room

pub returns-in-Number-clause-bytes : goal.returns-in-Number-clause-bytes
returns-in-Number-clause-bytes g c = λ chars h.
    let number = number_pushed c.args.kind (leaf_of c.args.leaf.now) c.in-Number.number chars (ap leaf_of c.in-Number.is) h in
    subst (λ t. PushAppends (g.O.Sink.held c.args.sink.now) (g.O.Sink.held c.push_number.new.sink) c.push_number.result t) number.2 (c.push_number.ensures.bytes chars number.0 number.1)

pub returns-in-Number-clause-room : goal.returns-in-Number-clause-room
returns-in-Number-clause-room g c = λ chars h.
    let number = number_pushed c.args.kind (leaf_of c.args.leaf.now) c.in-Number.number chars (ap leaf_of c.in-Number.is) h in
    subst (λ t. HasRoom (g.O.Sink.room c.args.sink.now) (g.O.Sink.room c.push_number.new.sink) c.push_number.result t) number.2 (c.push_number.ensures.room chars number.0 number.1)
