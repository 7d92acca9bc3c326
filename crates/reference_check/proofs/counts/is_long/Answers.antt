-- The characters of a text are those that `chars` gives.
use Rattle.std.proofs.Common.{◌≡◌, ◌∙◌, ◌<◌, length, ap, subst, true≢false, sym}
use Rattle.std.specs.Str.{chars}
use Rattle.std.proofs.lemmas.Bool.{lt-ltb, ltb-true}
use Rattle.lexical_core.proofs.CharacterLemmas.{xml_text_is_utf8}
use Rattle.reference_check.proofs.Sizes.{short_text}
use Rattle.reference_check.proofs.counts.is_long.Goals as goal

pub returns-then-text-le-MOST : goal.returns-then-text-le-MOST
returns-then-text-le-MOST c = (λ never. absurd (true≢false (sym never)), λ long. absurd (short_text _ c.if-text-le-MOST.true long))

pub unreachable-requires : goal.unreachable-requires
unreachable-requires c = c.in-Err.ensures.cases.0 (xml_text_is_utf8 _ c.requires)

pub returns : goal.returns
returns c =
    let count : c.character_count.result ≡ length (chars c.args.text.now) = c.character_count.ensures ∙ ap (λ t. length (chars t)) c.in-Ok.ensures.cases.0 in
    (λ more. subst (λ n. 65536 < n) count (ltb-true 65536 c.character_count.result more), λ long. lt-ltb 65536 c.character_count.result (subst (λ n. 65536 < n) (sym count) long))
