use Rattle.std.proofs.Common.{rules, ◌≡◌, ◌++◌, Some}
use Rattle.der_model.specs.DerMessage.{der_message}
use Rattle.der_codec.specs.declared.open_leaf.OpenLeaf.{OpenLeaf}
use Rattle.der_codec.proofs.OpenSpots.{opened_of, opened_shown}
use Rattle.der_codec.proofs.checker.DerChecker.judge_whole.Goals as goal

pub returns-then-is_some-clause-shown : goal.returns-then-is_some-clause-shown
returns-then-is_some-clause-shown c = λ octets h.
    let m = der_message c.args.model.now in
    let s = c.args.self.now in
    let o : (leaf : OpenLeaf) × (s.kept.leaf ≡ Some leaf) = search rules in
    let none = (opened_of m c.args.spot s.pieces s.kept.leaf o.0 s.kept.octets.items octets o.1 h.1).1 in
    opened_shown m c.args.spot (octets ++ c.args.front.now) s.pieces c.judge_open.new.self.pieces c.judge_open.result none c.judge_open.ensures.pieces (c.judge_open.ensures.leaf octets h)
