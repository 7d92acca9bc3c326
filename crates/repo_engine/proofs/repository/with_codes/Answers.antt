use Rattle.std.proofs.Common.{rules, ◌≡◌, true, inr}
use Rattle.repo_engine.proofs.Steps.{if_ok}
use Rattle.repo_engine.specs.Command.{hands_in}
use Rattle.repo_engine.proofs.repository.with_codes.Goals as goal

pub returns-clause-gives : goal.returns-clause-gives
returns-clause-gives g c bytes told =
    let asked : hands_in c.args.codes_word.now ≡ true = search rules in
    if_ok _ _ c.join_codes.result (λ joined h. inr (asked, h)) (c.join_codes.ensures.gives bytes (told asked))
