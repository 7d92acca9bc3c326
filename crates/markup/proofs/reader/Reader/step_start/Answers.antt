-- The tag is a token: it is taken, or refused, or there is no memory for it.
use Rattle.std.proofs.Common.{◌≡◌, true, [], Err, length, reverse, refl, sym, ap, subst, ◌∙◌}
use Rattle.std.specs.Option.{IsSome}
use Rattle.markup.specs.PlainStarts.{plain_start_text}
use Rattle.markup.specs.inner.Tokenizers.{is_in_text}
use Rattle.markup.specs.inner.StartTags.{StartTaken}
use Rattle.markup.specs.inner.TagParts.{spelled_opening}
use Rattle.markup.specs.inner.WholeStarts.{IsStartAt}
use Rattle.markup.proofs.OpenedTags.{found_at, takes_told, same_told}
use Rattle.markup.proofs.StartsFound.{found_size, none_found}
use Rattle.markup.proofs.StartsTold.{named_start, refuses_start, stays_out}
use Rattle.markup.proofs.reader.Reader.step_start.Goals as goal

pub returns-in-Ok-None-clause-all : goal.returns-in-Ok-None-clause-all
returns-in-Ok-None-clause-all c limit bytes told tag rest m e = none_found c.in-Ok-None.field-0 (length (plain_start_text tag)) c.in-Ok-None.field-0-is (c.in-Ok-None.ensures.all limit bytes told tag rest m e)

pub returns-in-Ok-clause-all : goal.returns-in-Ok-clause-all
returns-in-Ok-clause-all c limit bytes told tag rest m e = found_size c.in-Ok-Some.field-0 c.in-Ok-Some.tag (length (plain_start_text tag)) c.in-Ok-Some.field-0-is (c.in-Ok-Some.ensures.all limit bytes told tag rest m e)

pub returns-in-Err-clause-err : goal.returns-in-Err-clause-err
returns-in-Err-clause-err c limit bytes told h = stays_out c.args.self.now bytes c.args.piece.now told h [] [] c.in-Err.ensures.begun refl

pub returns-in-Ok-clause-spelled : goal.returns-in-Ok-clause-spelled
returns-in-Ok-clause-spelled c =
    let t = c.in-Ok-Some.tag in
    named_start c.args.piece.now t.prefix.now t.name.now t.attributes.items t.is_empty t.bytes (found_at c.args.piece.now c.in-Ok-Some.field-0 t c.in-Ok-Some.field-0-is c.in-Ok-Some.ensures.found)

pub returns-in-Ok-clause-taken : goal.returns-in-Ok-clause-taken
returns-in-Ok-clause-taken c limit bytes told h =
    rw c.pass.ensures (takes_told c.args.self.now bytes c.args.piece.now told h c.in-Ok-Some.field-0 c.in-Ok-Some.tag c.in-Ok-Some.field-0-is c.in-Ok-Some.ensures.found c.in-Ok-Some.ensures.ready c.open.new.self c.open.new.attributes.items
    c.in-Ok.opened c.in-Ok.ensures)

pub returns-in-Ok-clause-same_ns : goal.returns-in-Ok-clause-same_ns
returns-in-Ok-clause-same_ns c limit bytes told h =
    same_told c.args.self.now bytes c.args.piece.now told h c.in-Ok-Some.field-0 c.in-Ok-Some.tag c.in-Ok-Some.field-0-is c.in-Ok-Some.ensures.found c.in-Ok-Some.ensures.ready c.open.new.self c.open.new.attributes.items c.in-Ok.opened c.in-Ok.ensures

pub returns-in-Err-Rule-clause-err : goal.returns-in-Err-Rule-clause-err
returns-in-Err-Rule-clause-err c limit bytes told h =
    let t = c.in-Ok-Some.tag in
    let tag = spelled_opening t.prefix.now t.name.now t.attributes.items t.is_empty in
    let at : IsStartAt c.args.piece.now tag t.bytes = found_at c.args.piece.now c.in-Ok-Some.field-0 t c.in-Ok-Some.field-0-is c.in-Ok-Some.ensures.found in
    let text : is_in_text c.args.self.now.tokenizer ≡ true = c.in-Ok-Some.ensures.ready (subst IsSome (sym c.in-Ok-Some.field-0-is) refl) in
    let k = subst (λ r. StartTaken (reverse h.0) at.start t.name.now c.open.new.attributes.items t.is_empty c.open.new.self r) (c.in-Err-Rule.is ∙ ap Err c.in-Err-Rule.field-0-is) (c.open.ensures (reverse h.0) at.start h.1.context at.says) in
    rw c.start-place.ensures (refuses_start c.args.self.now bytes c.args.piece.now told h [] [] tag t.bytes text at c.in-Err-Rule.rule k refl)

pub returns-clause-err : goal.returns-clause-err
returns-clause-err c limit bytes told h =
    let text : is_in_text c.args.self.now.tokenizer ≡ true = c.in-Ok-Some.ensures.ready (subst IsSome (sym c.in-Ok-Some.field-0-is) refl) in
    stays_out c.args.self.now bytes c.args.piece.now told h [] [] text refl
