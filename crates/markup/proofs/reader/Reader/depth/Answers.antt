use Rattle.std.proofs.Common.{◌∙◌, reverse}
use Rattle.markup.proofs.OpenDepth.{depth_told}
use Rattle.markup.proofs.reader.Reader.depth.Goals as goal

pub returns : goal.returns
returns c limit bytes told h = c.depth.ensures (reverse h.0) h.1.context ∙ depth_told c.args.self.now bytes told h
