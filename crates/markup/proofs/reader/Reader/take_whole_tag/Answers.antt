use Rattle.std.proofs.Common.{refl, sym, subst, ap, ◌∙◌, Err}
use Rattle.markup.specs.inner.Contexts.{TokenTaken}
use Rattle.markup.proofs.reader.Reader.take_whole_tag.Goals as goal

pub returns-in-Err-Rule-clause-token : goal.returns-in-Err-Rule-clause-token
returns-in-Err-Rule-clause-token c before t i e d k =
    let h = subst (λ r. TokenTaken before t c.args.place c.args.out.now c.take.new.out c.take.new.self r) (c.in-Err-Rule.is ∙ ap Err c.in-Err-Rule.field-0-is) (c.take.ensures before t i e (d ∙ sym c.take_draft-draft.ensures.value) k) in
    (h.0, refl, h.1)

pub returns-in-Err-Memory-clause-token : goal.returns-in-Err-Memory-clause-token
returns-in-Err-Memory-clause-token c before t i e d k = subst (λ r. TokenTaken before t c.args.place c.args.out.now c.take.new.out c.take.new.self r) (c.in-Err-Memory.is ∙ ap Err c.in-Err-Memory.field-0-is) (c.take.ensures before t i e (d ∙ sym c.take_draft-draft.ensures.value) k)
