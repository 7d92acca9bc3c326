use Rattle.std.proofs.Common.{◌≡◌, max, get_or, take, sym, ap, ap₂, ◌∙◌, rules}
use Rattle.std.proofs.lemmas.List.{take_more}
use Rattle.facets.specs.CodeLists.{char_count, longest_of}
use Rattle.facets.proofs.CodeLemmas.{longest_push}
use Rattle.facets.proofs.codes.longest_count.Goals as goal

pub loop-text-preserved : goal.loop-text-preserved
loop-text-preserved c =
    let texts = c.args.texts.now in
    let at = c.loop-text.text-index in
    let own = c.text-item.result in
    let item : c.char_count.result ≡ char_count (get_or texts at own) = c.char_count.ensures ∙ ap char_count (c.bytes.ensures ∙ c.text-item.is) in
    let grown : c.max-longest.result ≡ max c.loop-text.longest c.char_count.result = search rules in
    grown ∙ ap₂ (λ m n. max m n) c.loop-text.invariant item
    ∙ sym (longest_push (take at texts) (get_or texts at own))
    ∙ ap longest_of (sym (take_more texts at own c.loop-text-test.true))
