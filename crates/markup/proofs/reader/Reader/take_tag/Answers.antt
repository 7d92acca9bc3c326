-- The tag is a token, whose events are told.
use Rattle.std.proofs.Common.{arith, sym, ◌∙◌, refl}
use Rattle.markup.proofs.PlainTagLemmas.{takes_tag}
use Rattle.markup.proofs.ResultLemmas.{holds}
use Rattle.markup.proofs.reader.Reader.take_tag.Goals as goal

pub pass-requires : goal.pass-requires
pass-requires c = omega (arith, c.requires c.in_default.is, c.in-Some-next_tag.ensures.found.1.within)

pub returns-clause-taken : goal.returns-clause-taken
returns-clause-taken c limit bytes told h =
    let e = sym c.is_err.ensures.value ∙ c.if-is_err.false in
    let t = c.in-Some-next_tag.tag in
    rw (c.pass.ensures, holds c.take_plain.result _ e c.take_plain.ensures.rest)
    (takes_tag c.args.self.now c.take_plain.new.self.scope bytes c.args.piece.now told t.prefix.now t.kind t.name.now t.bytes h (c.in-Some-next_tag.ensures.ready refl) c.in-Some-next_tag.ensures.only
    (λ tags opened is i. holds c.take_plain.result _ e (c.take_plain.ensures.scope tags opened is i)))
