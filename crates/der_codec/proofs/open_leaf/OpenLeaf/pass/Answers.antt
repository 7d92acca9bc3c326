use Rattle.std.proofs.Common.{◌++◌, sym, subst}
use Rattle.std.specs.Prelude.{IfOk}
use Rattle.message_model.specs.Tables.{types_of}
use Rattle.der_codec.specs.OpenLeaves.{IsOpenUnder}
use Rattle.der_codec.proofs.OpenSpots.{none_passed, binary_passed, envelope_taken, envelope_passed, leaf_under}
use Rattle.der_codec.proofs.open_leaf.OpenLeaf.pass.Goals as goal

pub pass_text-requires : goal.pass_text-requires
pass_text-requires c =
    let f = types_of c.args.model.now c.args.number in
    let g = c.requires in
    (g.0, leaf_under f c.in-Some.simple.now c.args.self _ c.args.rest.now.items g.0 c.in-Some.ensures.typed c.in-Text.is g.1)

pub returns-in-Some : goal.returns-in-Some
returns-in-Some c = λ before h.
    let f = types_of c.args.model.now c.args.number in
    let simple = c.in-Some.simple.now in
    let typed = c.in-Some.ensures.typed in
    subst (λ z. IfOk c.pass_text.result (λ now. IsOpenUnder z now c.pass_text.new.rest.items (before ++ c.args.octets.now))) (sym typed)
    (c.pass_text.ensures before (leaf_under f simple c.args.self _ c.args.rest.now.items before typed c.in-Text.is h))

pub returns-in-NoText : goal.returns-in-NoText
returns-in-NoText c = λ before h.
    let f = types_of c.args.model.now c.args.number in
    none_passed f c.args.rest.now.items before c.args.octets.now (subst (λ z. IsOpenUnder f z c.args.rest.now.items before) c.in-NoText.is h)

pub returns-in-Binary : goal.returns-in-Binary
returns-in-Binary c = λ before h.
    let f = types_of c.args.model.now c.args.number in
    binary_passed f c.args.rest.now.items before c.args.octets.now c.are_octets.ensures (subst (λ z. IsOpenUnder f z c.args.rest.now.items before) c.in-Binary.is h)

pub pass_envelope-requires : goal.pass_envelope-requires
pass_envelope-requires c =
    let f = types_of c.args.model.now c.args.number in
    let g = c.requires in
    (g.0, envelope_taken f _ c.args.rest.now.items g.0 (subst (λ z. IsOpenUnder f z c.args.rest.now.items g.0) c.in-Envelope.is g.1), g.2)

pub returns-in-Envelope : goal.returns-in-Envelope
returns-in-Envelope c = λ before h.
    let f = types_of c.args.model.now c.args.number in
    let rest = c.args.rest.now.items in
    let opened = subst (λ z. IsOpenUnder f z rest before) c.in-Envelope.is h in
    envelope_passed f _ rest before (before ++ c.args.octets.now) c.pass_envelope.result opened (c.pass_envelope.ensures before (envelope_taken f _ rest before opened))
