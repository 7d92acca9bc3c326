-- The code stands behind those that were there.
use Rattle.std.proofs.Common.{sym}
use Rattle.std.proofs.lemmas.Result.{on_ok_weaker}
use Rattle.code_sets.proofs.GivenLemmas.{code_added}
use Rattle.code_sets.proofs.given.add_code.Goals as goal

pub returns-in-Some : goal.returns-in-Some
returns-in-Some c has =
    on_ok_weaker c.add_text.result
    (λ more. code_added c.args.name.now c.args.given.now (c.get_mut.follows.lender c.add_text.new.texts) c.in-Some.texts.now c.add_text.new.texts c.args.code.now
    ((c.get_mut.follows.holds c.add_text.new.texts).3 has) (sym c.in-Some.ensures.value) more)
    c.add_text.ensures
