use Rattle.std.proofs.Common.{sym, subst, arith}
use Rattle.der_codec.specs.Levels.{inwards}
use Rattle.der_codec.specs.OpenLeaves.{IsHeldByCheck}
use Rattle.der_codec.proofs.OpenSpots.{free_held, binary_held, envelope_held, check_none}
use Rattle.der_codec.proofs.Fed.{open_short, scratch_is}
use Rattle.der_codec.proofs.checker.DerChecker.scratch.Goals as goal

pub returns-clause-bound : goal.returns-clause-bound
returns-clause-bound c = λ T bytes h.
    let s = c.args.self.now in
    let r = h.reading.read in
    scratch_is T s bytes c.count.result h c.count.ensures.count (λ leaf is taken. c.count.ensures.bound leaf r.rest is taken (open_short T s bytes leaf h is))

pub returns-clause-free : goal.returns-clause-free
returns-clause-free c = λ T bytes h alone free.
    let s = c.args.self.now in
    let d = s.decoder in
    let size = c.count.ensures.count in
    let few = free_held T (inwards d.levels.items) d.due d.start d.place bytes s.pieces s.kept h.reading.read h.reading.keeps alone free in
    omega (arith, size, few)

pub returns-clause-binary : goal.returns-clause-binary
returns-clause-binary c = λ T bytes h alone binary.
    let s = c.args.self.now in
    let d = s.decoder in
    let size = c.count.ensures.count in
    let few = binary_held T (inwards d.levels.items) d.due d.start d.place bytes s.pieces s.kept h.reading.read h.reading.keeps alone binary in
    omega (arith, size, few)

pub returns-clause-envelope : goal.returns-clause-envelope
returns-clause-envelope c = λ T bytes h alone is.
    let s = c.args.self.now in
    let d = s.decoder in
    subst (IsHeldByCheck s.kept.leaf h.reading.read.rest) (sym c.count.ensures.count)
    (envelope_held T (inwards d.levels.items) d.due d.start d.place bytes s.pieces s.kept h.reading.read h.reading.keeps alone is)

pub returns-clause-check : goal.returns-clause-check
returns-clause-check c = λ T bytes h other.
    let s = c.args.self.now in
    let d = s.decoder in
    check_none T (inwards d.levels.items) d.due d.start d.place bytes s.pieces s.kept h.reading.read h.reading.keeps other
