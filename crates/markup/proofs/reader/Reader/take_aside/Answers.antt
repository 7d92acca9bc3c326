-- The token is that of its place, and tells that something is skipped.
use Rattle.std.proofs.Common.{false, refl, arith}
use Rattle.std.proofs.lemmas.Bool.{both_ways}
use Rattle.markup.proofs.WholeAsides.{takes_aside, aside_within, aside_is}
use Rattle.markup.proofs.reader.Reader.take_aside.Goals as goal

pub pass_token-requires : goal.pass_token-requires
pass_token-requires c = omega (arith, c.requires (c.in-Some.ensures.sound refl), aside_within _ c.args.piece.now c.in-Some.aside.ended c.in-Some.aside.bytes c.in-Some.ensures.only)

pub returns-clause-within : goal.returns-clause-within
returns-clause-within c = aside_within _ c.args.piece.now c.in-Some.aside.ended c.in-Some.aside.bytes c.in-Some.ensures.only

pub returns-clause-taken : goal.returns-clause-taken
returns-clause-taken c limit bytes told h _ =
    rw (c.pass_token.ensures, c.pass_characters.ensures)
    (takes_aside c.args.self.now bytes c.args.piece.now told c.in-Some.aside.ended c.in-Some.aside.bytes h (c.in-Some.ensures.ready refl) c.in-Some.ensures.only)

pub returns-clause-all : goal.returns-clause-all
returns-clause-all c limit bytes told t rest m e = aside_is c.args.self.now bytes c.args.piece.now told t rest c.in-Some.aside.ended c.in-Some.aside.bytes m e c.in-Some.ensures.only

pub returns-in_default-clause-all : goal.returns-in_default-clause-all
returns-in_default-clause-all c limit bytes told t rest m e = absurd (both_ways false refl (c.in_default.ensures.all limit bytes told t rest m e))
