-- Where the tag may come, the reader is ready for it.
use Rattle.std.proofs.Common.{false, refl, sym, ◌∙◌}
use Rattle.std.proofs.lemmas.Bool.{both_ways}
use Rattle.markup.proofs.PlainTagLemmas.{start_here}
use Rattle.markup.proofs.reader.Reader.next_start.Goals as goal

pub returns-then-not-is_in_text-clause-all : goal.returns-then-not-is_in_text-clause-all
returns-then-not-is_in_text-clause-all c limit bytes told tag rest m e =
    both_ways false refl (sym c.if-not-is_in_text.true ∙ (c.is_in_text.ensures ∙ start_here c.args.self.now bytes told tag m))

pub returns-clause-all : goal.returns-clause-all
returns-clause-all c limit bytes told tag rest m e = c.start_at.ensures.all tag rest m.plain m.short e
