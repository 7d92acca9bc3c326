-- Where a CR LF may come, the reader is ready for it.
use Rattle.std.proofs.Common.{false, refl, sym, ◌∙◌}
use Rattle.std.proofs.lemmas.Bool.{both_ways}
use Rattle.markup.proofs.WholeReferences.{text_here}
use Rattle.markup.proofs.reader.Reader.is_line_end_next.Goals as goal

pub returns-then-not-is_in_text-clause-all : goal.returns-then-not-is_in_text-clause-all
returns-then-not-is_in_text-clause-all c limit bytes told rest m e =
    absurd (both_ways false refl (sym c.if-not-is_in_text.true ∙ (c.is_in_text.ensures ∙ text_here c.args.self.now bytes told m)))
