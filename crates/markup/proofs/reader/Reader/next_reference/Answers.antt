-- Where a reference may come, the reader is ready for it.
use Rattle.std.proofs.Common.{sym, ◌∙◌}
use Rattle.markup.proofs.WholeReferences.{text_here}
use Rattle.markup.proofs.reader.Reader.next_reference.Goals as goal

pub returns-then-not-is_in_text-clause-all : goal.returns-then-not-is_in_text-clause-all
returns-then-not-is_in_text-clause-all c limit bytes told reference rest m is e =
    sym c.if-not-is_in_text.true ∙ (c.is_in_text.ensures ∙ text_here c.args.self.now bytes told m)

pub returns-then-not-begins_reference-clause-all : goal.returns-then-not-begins_reference-clause-all
returns-then-not-begins_reference-clause-all c limit bytes told reference rest m is e = sym c.if-not-begins_reference.true ∙ c.begins_reference.ensures reference rest is e
