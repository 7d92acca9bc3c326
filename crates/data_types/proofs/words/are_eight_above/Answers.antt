use Rattle.std.proofs.Common.{arith}
use Rattle.std.proofs.lemmas.Bool.{eqb-true}
use Rattle.std.proofs.lemmas.Simd.{length-chunk, chunk-fits}
use Rattle.std.proofs.Common.{w8}
use Rattle.data_types.proofs.WordRuns.{all_above}
use Rattle.data_types.proofs.words.are_eight_above.Goals as goal

pub returns : goal.returns
returns c none = all_above 8 _ (length-chunk c.args.at 8 c.args.codes.now c.requires) (omega arith) (chunk-fits w8 c.args.at 8 c.args.codes.now c.type_inv.codes) (eqb-true _ 0 none)
