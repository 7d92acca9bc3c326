use Rattle.std.proofs.Common.{◌∷◌, [], ◌∙◌, ap}
use Rattle.drill.specs.inner.PathPieces.{root_edge, message_edge}
use Rattle.drill.proofs.PathLemmas.{ended_open, some_open, one_open, all_appended}
use Rattle.drill.proofs.stem.Stem.finish.Goals as goal

pub close-requires : goal.close-requires
close-requires c =
    let one = one_open c.requires.0 c.args.self c.leave_some.new.self c.requires.1 (c.in_ok-leave_some.ensures c.requires.0 c.requires.1) in
    some_open c.leave_some.new.self.builder.pieces root_edge (message_edge ∷ []) one.3

pub close-requires-2 : goal.close-requires-2
close-requires-2 c =
    let one = one_open c.requires.0 c.args.self c.leave_some.new.self c.requires.1 (c.in_ok-leave_some.ensures c.requires.0 c.requires.1) in
    some_open c.close.new.self.pieces message_edge []
    (ended_open c.leave_some.new.self.builder.pieces c.close.new.self.pieces root_edge root_edge (message_edge ∷ []) (c.in_ok-close.ensures.ok root_edge (message_edge ∷ []) one.3) one.3)

pub finish-requires : goal.finish-requires
finish-requires c =
    let one = one_open c.requires.0 c.args.self c.leave_some.new.self c.requires.1 (c.in_ok-leave_some.ensures c.requires.0 c.requires.1) in
    let last = ended_open c.leave_some.new.self.builder.pieces c.close.new.self.pieces root_edge root_edge (message_edge ∷ []) (c.in_ok-close.ensures.ok root_edge (message_edge ∷ []) one.3) one.3 in
    ended_open c.close.new.self.pieces c.close-2.new.self.pieces message_edge message_edge [] (c.in_ok-close-2.ensures.ok message_edge [] last) last

pub returns : goal.returns
returns c = λ p h.
    let one = one_open p c.args.self c.leave_some.new.self h (c.in_ok-leave_some.ensures p h) in
    let first = c.in_ok-close.ensures.ok root_edge (message_edge ∷ []) one.3 in
    let last = ended_open c.leave_some.new.self.builder.pieces c.close.new.self.pieces root_edge root_edge (message_edge ∷ []) first one.3 in
    ap (λ r. r.pieces) c.finish.ensures.region
    ∙ all_appended p one.0 c.leave_some.new.self.builder.pieces c.close.new.self.pieces c.close-2.new.self.pieces one.1 one.2 first (c.in_ok-close-2.ensures.ok message_edge [] last)
