use Rattle.std.proofs.Common.{◌++◌, ℕ, List, sym, ap, ◌∙◌}
use Rattle.std.proofs.lemmas.Bool.{true≢false}
use Rattle.respell.proofs.FragmentSteps.{begins_taken, joins_taken}
use Rattle.respell.proofs.fragment_reader.FragmentReader.compare.Goals as goal

pub returns-in_default-clause-none : goal.returns-in_default-clause-none
returns-in_default-clause-none c rest e =
    true≢false (sym (begins_taken c.args.bytes.now c.so_far.result.now rest (e ∙ ap (λ (t : List ℕ). t ++ rest) (sym c.so_far.ensures))) ∙ c.in_default.ensures.cases)

pub returns-clause-some : goal.returns-clause-some
returns-clause-some c =
    ap (λ (t : List ℕ). t ++ c.in-Some.rest.now) (sym c.so_far.ensures) ∙ joins_taken c.args.bytes.now c.so_far.result.now c.in-Some.rest.now c.in-Some.ensures.cases.0 c.in-Some.ensures.cases.1
