use Rattle.std.proofs.Common.{◌∷◌, [], length, sym, subst, length-append}
use Rattle.lexical_core.specs.Characters.{IsXmlChar}
use Rattle.lexical_core.proofs.ReadSoFar.{AllByRecursion-append}
use Rattle.facets.specs.Counts.{HasCounted}
use Rattle.facets.proofs.progress.Progress.take.Goals as goal

pub follow-requires : goal.follow-requires
follow-requires c = let (most, text, had) = c.requires.made in (text, had.asked)

pub returns-clause-ok : goal.returns-clause-ok
returns-clause-ok c = λ most text had.
    let more = c.args.c ∷ [] in
    let counted = subst (HasCounted c.add.new.self) (sym (length-append text more)) (c.add.ensures (length text) had.counted) in
    record {
      step = c.in_ok-take.ensures.ok c.args.simple.now.kind most text had.step;
      counted = counted;
      asked = c.follow.ensures text had.asked counted;
      characters = AllByRecursion-append IsXmlChar text more had.characters (c.requires.char, tt);
      limits = had.limits;
    }
