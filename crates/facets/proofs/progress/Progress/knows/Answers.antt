use Rattle.std.proofs.Common.{sym, subst, refl}
use Rattle.facets.specs.Facets.{HasLength}
use Rattle.facets.specs.Rules.{BreaksPattern}
use Rattle.facets.proofs.PatternLemmas.{was_asked}
use Rattle.facets.proofs.progress.Progress.knows.Goals as goal

pub knows-requires : goal.knows-requires
knows-requires c = let (most, text, had) = c.requires.made in was_asked c.args.self.now.asked c.args.simple.now text had.asked

pub returns-in-Codes : goal.returns-in-Codes
returns-in-Codes c = λ r yes. (
  subst (HasLength c.args.simple.now) (sym r.count_is) (c.if-not-has_length.ensures.0 refl),
  subst (λ w. BreaksPattern c.args.simple.now w → ⊥) (c.in-Codes.ensures.chars r).0 (c.knows.ensures yes),
)
