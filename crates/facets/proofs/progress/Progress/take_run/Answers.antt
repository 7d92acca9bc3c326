use Rattle.std.proofs.Common.{◌≡◌, ◌+◌, ◌++◌, length, sym, ap, subst, ◌∙◌, length-append}
use Rattle.lexical_core.specs.Characters.{IsXmlChar}
use Rattle.lexical_core.proofs.ReadSoFar.{AllByRecursion-append}
use Rattle.facets.specs.Counts.{HasCounted}
use Rattle.facets.proofs.progress.Progress.take_run.Goals as goal

pub follow_run-requires-clause-made : goal.follow_run-requires-clause-made
follow_run-requires-clause-made c = let (most, text, had) = c.requires.made in (text, had.asked)

pub returns-clause-ok : goal.returns-clause-ok
returns-clause-ok c = λ r most text had.
    let total : length text + c.args.count ≡ length (text ++ r.chars) = ap (λ n. length text + n) (sym r.count_is) ∙ sym (length-append text r.chars) in
    let counted = subst (HasCounted c.add.new.self) total (c.add.ensures (length text) had.counted) in
    record {
      step = c.in_ok-take_run.ensures.ok r c.args.simple.now.kind most text had.step;
      counted = counted;
      asked = c.follow_run.ensures r text had.asked counted;
      characters = AllByRecursion-append IsXmlChar text r.chars had.characters r.are;
      limits = had.limits;
    }
