use Rattle.std.proofs.Common.{◌∙◌}
use Rattle.der_codec.proofs.Fed.{depth_is}
use Rattle.der_codec.proofs.checker.DerChecker.depth.Goals as goal

pub returns : goal.returns
returns c = λ T bytes h. c.depth.ensures ∙ depth_is T c.args.self.now bytes h
