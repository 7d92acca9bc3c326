use Rattle.std.proofs.Common.{sym, ◌∙◌}
use Rattle.der_codec.proofs.Widened.{widened_fed, widened_made}
use Rattle.der_codec.proofs.reader.DerReader.reserve.Goals as goal

pub reserve-requires : goal.reserve-requires
reserve-requires c = c.requires.made.0.checks

pub returns-clause-made : goal.returns-clause-made
returns-clause-made c =
    let w = c.reserve.ensures.widened in
    (widened_made c.args.model.now c.args.self.now.checker c.reserve.new.self w c.reserve.ensures.checks c.requires.made.0, λ none. c.reserve.ensures.keeps (c.requires.made.1 (sym w.failed ∙ none)))

pub returns-clause-kept : goal.returns-clause-kept
returns-clause-kept c = λ bytes h. record { given = widened_fed c.args.model.now c.args.self.now.checker c.reserve.new.self c.reserve.ensures.widened bytes h.given }

pub returns-clause-count : goal.returns-clause-count
returns-clause-count c = c.reserve.ensures.widened.place

pub returns-clause-failed : goal.returns-clause-failed
returns-clause-failed c = c.reserve.ensures.widened.failed
