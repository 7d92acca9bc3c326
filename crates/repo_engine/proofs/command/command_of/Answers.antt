use Rattle.std.proofs.Common.{sym, ◌∙◌}
use Rattle.repo_engine.proofs.Lists.{texts_length, unlisted_by_length}
use Rattle.repo_engine.proofs.command.command_of.Goals as goal

pub returns-in_default-four_words-clause-none : goal.returns-in_default-four_words-clause-none
returns-in_default-four_words-clause-none c =
    unlisted_by_length _ (λ e. c.in_default.ensures.none (sym (texts_length c.args.words.now.items) ∙ e)) (λ e. c.in_default-four_words.ensures.none (sym (texts_length c.args.words.now.items) ∙ e))
