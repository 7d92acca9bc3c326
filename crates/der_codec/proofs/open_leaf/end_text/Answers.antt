use Rattle.std.proofs.Common.{rules, ◌≡◌, []}
use Rattle.std.proofs.lemmas.List.{nil_from_length}
use Rattle.der_codec.proofs.LeavesJudged.{no_text}
use Rattle.der_codec.proofs.OpenTexts.{cut_none, text_told}
use Rattle.der_codec.proofs.open_leaf.end_text.Goals as goal

pub returns-then-not-is_empty-clause-told : goal.returns-then-not-is_empty-clause-told
returns-then-not-is_empty-clause-told c = λ octets (free, t).
    let some : c.args.rest.now ≡ [] → ⊥ = search rules in
    no_text c.args.simple.now octets free.0 free.1 (cut_none c.args.check.value c.args.simple.now c.args.rest.now octets t some)

pub returns-clause-told : goal.returns-clause-told
returns-clause-told c = λ octets (free, t).
    let none : c.args.rest.now ≡ [] = nil_from_length c.args.rest.now (search rules) in
    text_told c.args.check.value c.args.simple.now c.args.rest.now octets c.end-result.result free t none (c.end-result.ensures.told t.chars t.taken)
