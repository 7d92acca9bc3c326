-- A value between two quotes of one kind.
use Rattle.std.proofs.Common.{◌≡◌, false, length, refl, sym, ◌∙◌, rules}
use Rattle.std.proofs.lemmas.Bool.{both_ways}
use Rattle.markup.proofs.StartScans.{value_found}
use Rattle.markup.proofs.StartsFound.{no_value, value_quoted, value_ends, quote_ends, behind_value}
use Rattle.markup.proofs.start_tag.value_at.Goals as goal

pub returns-in_default-clause-all : goal.returns-in_default-clause-all
returns-in_default-clause-all c value behind s = let z : length c.args.bytes.now ≡ 0 = search rules in no_value c.args.bytes.now value behind s z

pub returns-then-not-is_quote-clause-all : goal.returns-then-not-is_quote-clause-all
returns-then-not-is_quote-clause-all c value behind s =
    both_ways false refl (sym c.if-not-is_quote.true ∙ (c.is_quote.ensures ∙ value_quoted c.args.bytes.now c.in-Some.inside.now value behind c.in-Some.quote.now c.in-Some.ensures.cases.0 s))

pub returns-in_default-split_first-clause-all : goal.returns-in_default-split_first-clause-all
returns-in_default-split_first-clause-all c value behind s =
    let z : length c.split_at.result.1.now ≡ 0 = search rules in
    value_ends c.args.bytes.now c.in-Some.inside.now value behind c.in-Some.quote.now c.in-Some.ensures.cases.0 s c.split_at.result.1.now c.value_length.result (c.value_length.ensures.all (sym c.is_quote.ensures ∙ c.if-not-is_quote.false)) c.split_at.ensures.back z

pub returns-then-last-quote-clause-all : goal.returns-then-last-quote-clause-all
returns-then-last-quote-clause-all c value behind s =
    c.if-last-quote.true (quote_ends c.args.bytes.now c.in-Some.inside.now value behind c.in-Some.quote.now c.in-Some.ensures.cases.0 s c.split_at.result.1.now c.value_length.result (c.value_length.ensures.all (sym c.is_quote.ensures ∙ c.if-not-is_quote.false)) c.split_at.ensures.back
    c.in-Some-split_first.last.now c.in-Some-split_first.behind.now c.in-Some-split_first.ensures.cases.0)

pub returns-clause-found : goal.returns-clause-found
returns-clause-found c =
    value_found c.args.bytes.now c.in-Some.inside.now c.split_at.result.0.now c.split_at.result.1.now c.in-Some-split_first.behind.now c.in-Some.quote.now c.in-Some-split_first.last.now c.value_length.result
    c.in-Some.ensures.cases.0 (sym c.is_quote.ensures ∙ c.if-not-is_quote.false) c.value_length.ensures.count c.split_at.ensures.front c.split_at.ensures.back c.in-Some-split_first.ensures.cases.0 c.if-last-quote.false

pub returns-clause-all : goal.returns-clause-all
returns-clause-all c value behind s =
    behind_value c.args.bytes.now c.in-Some.inside.now value behind c.in-Some.quote.now c.in-Some.ensures.cases.0 s c.split_at.result.1.now c.value_length.result (c.value_length.ensures.all (sym c.is_quote.ensures ∙ c.if-not-is_quote.false)) c.split_at.ensures.back
    c.in-Some-split_first.last.now c.in-Some-split_first.behind.now c.in-Some-split_first.ensures.cases.0
