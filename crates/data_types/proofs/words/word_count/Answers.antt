use Rattle.std.proofs.Common.{arith}
use Rattle.data_types.proofs.WordRuns.{word_front, some_word}
use Rattle.data_types.proofs.words.word_count.Goals as goal

pub returns-clause-word : goal.returns-clause-word
returns-clause-word c = word_front c.args.codes.now c.run_length.result (omega (arith, c.run_length.ensures.count))

pub returns-clause-some : goal.returns-clause-some
returns-clause-some c some none = some_word c.args.codes.now c.run_length.result c.run_length.ensures.count some none
