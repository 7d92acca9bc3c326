use Rattle.std.proofs.Common.{rules, ◌≡◌, None}
use Rattle.der_model.specs.DerMessage.{der_message}
use Rattle.der_codec.proofs.OpenSpots.{alone_kept}
use Rattle.der_codec.proofs.checker.DerChecker.hold_alone.Goals as goal

pub returns-clause-kept : goal.returns-clause-kept
returns-clause-kept c = λ octets h.
    let begun = c.begin_open.new.self.kept in
    let new = c.hold_octets.new.self.kept in
    let none : begun.leaf ≡ None = search rules in
    alone_kept (der_message c.args.model.now) c.args.spot begun.leaf new.leaf begun.octets.items octets c.args.front.now new.octets.items c.hold_octets.result none c.hold_octets.ensures.opened (c.in_default.ensures.kept octets h) c.hold_octets.ensures.kept
