use Rattle.std.proofs.Common.{Some, None, sym}
use Rattle.std.proofs.lemmas.Bool.{true≢false}
use Rattle.std.proofs.lemmas.Bool.Decides.{Decides-eqb}
use Rattle.std.proofs.lemmas.Slice.Eq.{slice_eq-Decides, strip_prefix_is}
use Rattle.drill.proofs.KnownTexts.{rests_compared}
use Rattle.drill.proofs.known_sink.are_parts.Goals as goal

pub returns-in-Some : goal.returns-in-Some
returns-in-Some c =
    rests_compared c.args.text.now c.args.front.now c.in-Some.rest.now c.args.behind.now c.eq.result (strip_prefix_is Decides-eqb c.args.text.now c.args.front.now (Some c.in-Some.rest) c.in-Some.ensures.cases)
    (slice_eq-Decides Decides-eqb _ _ _ c.eq.ensures)

pub returns-in-None : goal.returns-in-None
returns-in-None c = (λ t. absurd (true≢false (sym t)), λ e. absurd (strip_prefix_is Decides-eqb c.args.text.now c.args.front.now None c.in-None.ensures.cases c.args.behind.now (sym e)))
