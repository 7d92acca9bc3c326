use Rattle.std.proofs.Common.{chars}
use Rattle.pattern_match.specs.Compiled.{tokens_of_text}
use Rattle.pattern_match.proofs.Matching.{accepts_is}
use Rattle.pattern_match.proofs.matcher.last_mark.Goals as goal

pub returns : goal.returns
returns c w h = accepts_is c.args.pattern.now (tokens_of_text (chars c.args.pattern.now)) c.code.result.now c.args.marks.now w c.code.ensures.compiled h
