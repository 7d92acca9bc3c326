use Rattle.std.proofs.Common.{arith, length-append}
use Rattle.der_model.specs.DerMessage.{der_message}
use Rattle.der_codec.proofs.OpenSpots.{opened_of}
use Rattle.der_codec.proofs.checker.DerChecker.judge_open.Goals as goal

pub finish-requires-clause-opened : goal.finish-requires-clause-opened
finish-requires-clause-opened c =
    let s = c.args.self.now in
    let o = c.requires.opened in
    let g = c.requires.given in
    let few = g.1 in
    let room = c.requires.room in
    (o.0, g.0, o.1, (opened_of (der_message c.args.model.now) c.args.spot s.pieces s.kept.leaf o.0 s.kept.octets.items g.0 o.1 g.2.1).0, omega (arith, few, room))

pub returns-clause-judged : goal.returns-clause-judged
returns-clause-judged c = λ octets h.
    let s = c.args.self.now in
    let o = c.requires.opened in
    let sum = length-append octets c.args.front.now in
    let come = h.0 in
    c.finish.ensures.judged o.0 octets o.1 (opened_of (der_message c.args.model.now) c.args.spot s.pieces s.kept.leaf o.0 s.kept.octets.items octets o.1 h.1).0 (omega (arith, sum, come))

pub returns-clause-leaf : goal.returns-clause-leaf
returns-clause-leaf c = λ octets h.
    let s = c.args.self.now in
    let o = c.requires.opened in
    let sum = length-append octets c.args.front.now in
    let come = h.0 in
    c.finish.ensures.leaf o.0 octets o.1 (opened_of (der_message c.args.model.now) c.args.spot s.pieces s.kept.leaf o.0 s.kept.octets.items octets o.1 h.1).0 (omega (arith, sum, come))
