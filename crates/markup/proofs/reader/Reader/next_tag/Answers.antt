-- Where the tag may come, the reader is ready for it.
use Rattle.std.proofs.Common.{reverse, sym, ◌∙◌}
use Rattle.markup.specs.Events.{open_tags}
use Rattle.markup.proofs.PlainTagLemmas.{text_here, no_slash_here}
use Rattle.markup.proofs.reader.Reader.next_tag.Goals as goal

pub returns-then-not-is_in_text-clause-all : goal.returns-then-not-is_in_text-clause-all
returns-then-not-is_in_text-clause-all c limit bytes told kind prefix name rest m e =
    sym c.if-not-is_in_text.true ∙ (c.is_in_text.ensures ∙ text_here c.args.self.now bytes told kind prefix name m)

pub returns-clause-all : goal.returns-clause-all
returns-clause-all c limit bytes told kind prefix name rest m e =
    c.tag_at.ensures.all (open_tags (reverse m.before.tokens)) prefix m.opened kind name rest m.before.keeps.context.scope m.inside (no_slash_here c.args.self.now bytes told kind prefix name m) m.named e m.short
