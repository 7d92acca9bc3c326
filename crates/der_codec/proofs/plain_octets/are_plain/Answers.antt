use Rattle.std.proofs.Common.{◌≡◌, rules, length, sym, ◌∙◌}
use Rattle.der_codec.proofs.PlainTexts.{plain_text}
use Rattle.der_codec.proofs.plain_octets.are_plain.Goals as goal

pub returns : goal.returns
returns c h =
    let all : c.run_length.result ≡ length c.args.octets.now = search rules in
    plain_text c.args.octets.now (sym c.run_length.ensures.count ∙ all)
