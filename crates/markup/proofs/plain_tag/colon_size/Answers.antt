-- A prefix and a colon.
use Rattle.std.proofs.Common.{false, refl, sym, ◌∙◌, arith}
use Rattle.std.proofs.lemmas.Bool.{both_ways}
use Rattle.std.proofs.lemmas.Slice.Eq.{bytes_eq-Decides}
use Rattle.markup.proofs.TagScans.{prefix_there, colon_all, colon_found}
use Rattle.markup.proofs.plain_tag.colon_size.Goals as goal

pub returns-then-not-are_same-clause-all : goal.returns-then-not-are_same-clause-all
returns-then-not-are_same-clause-all c local e =
    absurd (both_ways false refl (sym c.if-not-are_same.true ∙ (c.are_same.ensures ∙ (bytes_eq-Decides c.split_at.result.0.now c.args.prefix.now).1 (prefix_there c.args.bytes.now c.args.prefix.now c.split_at.result.0.now c.split_at.result.1.now local c.requires c.split_at.ensures.front c.split_at.ensures.back e).0)))

pub returns-clause-found : goal.returns-clause-found
returns-clause-found c some =
    colon_found c.args.bytes.now c.args.prefix.now c.split_at.result.1.now _ c.requires (omega (arith, c.if-bytes-prefix.false)) c.split_at.ensures.back refl
    c.split_at.result.0.now c.in-Some.field-0-1.now c.in-Some.mark.now c.split_at.ensures.front ((bytes_eq-Decides c.split_at.result.0.now c.args.prefix.now).0 (sym c.are_same.ensures ∙ c.if-not-are_same.false)) c.in-Some.ensures.cases.0 c.if-mark-ne58.false

pub returns-clause-all : goal.returns-clause-all
returns-clause-all c local e = colon_all c.args.bytes.now c.args.prefix.now c.split_at.result.1.now _ c.requires (omega (arith, c.if-bytes-prefix.false)) c.split_at.ensures.back refl local e
