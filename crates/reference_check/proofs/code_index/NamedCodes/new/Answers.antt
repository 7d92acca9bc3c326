-- One more code stands under its name.
use Rattle.std.proofs.Common.{◌∙◌, ap, ◌++◌, ◌∷◌, [], append_assoc}
use Rattle.reference_check.proofs.NamedCodes.{finds_one_more}
use Rattle.reference_check.proofs.code_index.NamedCodes.new.Goals as goal

pub loop-last-preserved : goal.loop-last-preserved
loop-last-preserved c =
    let (done, is, finds) = c.loop-last.invariant in (
      c.in-Some.last.now ∷ done,
      is ∙ ap (λ xs. xs ++ done) c.in-Some.ensures.cases.0 ∙ append_assoc c.in-Some.others.now (c.in-Some.last.now ∷ []) done,
      finds_one_more c.loop-last.firsts c.insert.new.self c.bytes.result c.in-Some.last done c.bytes.ensures c.in_ok-insert.ensures.updates.0 finds,
    )
