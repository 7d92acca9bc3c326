-- The reference is a token, whose character is told.
use Rattle.std.proofs.Common.{refl, arith}
use Rattle.markup.proofs.WholeReferences.{takes_reference, some_bytes}
use Rattle.markup.proofs.reader.Reader.take_reference.Goals as goal

pub pass-requires : goal.pass-requires
pass-requires c = omega (arith, c.requires (c.in-Some.ensures.sound refl), c.in-Some.ensures.only.within)

pub returns-clause-within : goal.returns-clause-within
returns-clause-within c = (some_bytes c.args.piece.now c.in-Some.found.character c.in-Some.found.bytes c.in-Some.ensures.only, c.in-Some.ensures.only.within)

pub returns-clause-taken : goal.returns-clause-taken
returns-clause-taken c limit bytes told h =
    rw (c.pass.ensures, c.pass_characters.ensures)
    (takes_reference c.args.self.now bytes c.args.piece.now told c.in-Some.found.character c.in-Some.found.bytes h (c.in-Some.ensures.ready refl) (c.in-Some.ensures.inside refl) c.in-Some.ensures.only)
