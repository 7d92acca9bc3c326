use Rattle.std.proofs.Common.{sym, ◌∙◌}
use Rattle.markup.proofs.PlainLemmas.{takes_plain}
use Rattle.markup.proofs.tokenizer.Tokenizer.take_plain.Goals as goal

pub returns-clause-taken : goal.returns-clause-taken
returns-clause-taken c _ = takes_plain c.args.self.now c.args.byte (sym c.starts_plain.ensures ∙ c.if-not-starts_plain.false)
