use Rattle.std.proofs.Common.{sym, subst}
use Rattle.data_types.specs.Leaf.{Flag}
use Rattle.facets.proofs.CodeVerdicts.{flag_fits}
use Rattle.der_model.specs.LeafContents.{IsContents}
use Rattle.der_codec.proofs.leaves.judge_boolean.Goals as goal

pub returns-in-Some-clause-judged : goal.returns-in-Some-clause-judged
returns-in-Some-clause-judged c = (subst (λ z. IsContents z c.args.simple.now.codes c.args.octets.now (Flag c.in-Some.flag)) (sym c.requires) c.in-Some.ensures.some, flag_fits c.args.simple.now c.in-Some.flag c.requires)
