use Rattle.std.proofs.Common.{◌≡◌, ◌++◌, take, refl, sym, ap, ◌∙◌, subst, append_assoc}
use Rattle.std.specs.Prelude.{IfOk, IfErr}
use Rattle.der_codec.specs.OpenLeaves.{IsOpenText, BeginsNoTextAs}
use Rattle.der_codec.proofs.OpenTexts.{split_whole}
use Rattle.der_codec.proofs.open_text.take_text.Goals as goal

pub take_characters-requires-clause-opened : goal.take_characters-requires-clause-opened
take_characters-requires-clause-opened c = (c.requires.0 ++ take c.in-Ok.count c.args.octets.now, c.in-Ok.ensures.opened c.requires.0 c.requires.1)

pub returns-clause-opened : goal.returns-clause-opened
returns-clause-opened c = λ before t.
    let octets = c.args.octets.now in
    let front = take c.in-Ok.count octets in
    let behind = c.split_at.result.1.now in
    let whole : (before ++ front) ++ behind ≡ before ++ octets = append_assoc before front behind ∙ ap (λ z. before ++ z) (sym (split_whole c.in-Ok.count octets front behind refl c.split_at.ensures.back)) in
    subst (λ z. IfOk c.take_characters.result (λ _. IsOpenText c.take_characters.new.check c.args.simple.now c.take_characters.new.rest.items z)) whole (c.take_characters.ensures.opened (before ++ front) (c.in-Ok.ensures.opened before t))

pub returns-clause-none : goal.returns-clause-none
returns-clause-none c = λ before t.
    let octets = c.args.octets.now in
    let front = take c.in-Ok.count octets in
    let behind = c.split_at.result.1.now in
    let whole : (before ++ front) ++ behind ≡ before ++ octets = append_assoc before front behind ∙ ap (λ z. before ++ z) (sym (split_whole c.in-Ok.count octets front behind refl c.split_at.ensures.back)) in
    subst (λ z. IfErr c.take_characters.result (λ refusal. BeginsNoTextAs z refusal)) whole (c.take_characters.ensures.none (before ++ front) (c.in-Ok.ensures.opened before t))
