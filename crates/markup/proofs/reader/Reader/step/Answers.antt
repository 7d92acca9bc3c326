use Rattle.std.proofs.Common.{refl, sym, ◌∙◌, subst}
use Rattle.markup.specs.inner.ReaderSteps.{TokenAnswered}
use Rattle.markup.specs.Reading.{HasTakenUnder}
use Rattle.markup.specs.inner.Tokenizers.{TakesPlain}
use Rattle.markup.proofs.PlainLemmas.{alone_ok, alone_err}
use Rattle.markup.proofs.reader.Reader.step.Goals as goal

pub returns-then-take_plain-clause-ok : goal.returns-then-take_plain-clause-ok
returns-then-take_plain-clause-ok c limit bytes told h = alone_ok c.args.self.now c.take_inner.new.self bytes told c.args.byte c.args.byte c.args.out.now c.take_inner.new.out c.take_inner.result h
    (subst (λ z. TakesPlain c.args.self.now.tokenizer z c.args.byte) (sym c.take_inner.ensures.rest.0) (c.if-take_plain.ensures.taken refl)) c.take_inner.ensures.rest.1
    (λ before t i e k. subst (λ v. TokenAnswered before t v c.args.out.now c.take_inner.new.out c.take_inner.new.self.context c.take_inner.result) c.start-place.ensures (c.take_inner.ensures.token before t i e (k ∙ sym c.in_cdata-cdata.ensures)))

pub returns-then-take_plain-clause-err : goal.returns-then-take_plain-clause-err
returns-then-take_plain-clause-err c limit bytes told h = alone_err c.args.self.now c.take_inner.new.self bytes told c.args.byte c.args.byte c.args.out.now c.take_inner.new.out c.take_inner.result h
    (subst (λ z. TakesPlain c.args.self.now.tokenizer z c.args.byte) (sym c.take_inner.ensures.rest.0) (c.if-take_plain.ensures.taken refl)) c.take_inner.ensures.rest.1
    (λ before t i e k. subst (λ v. TokenAnswered before t v c.args.out.now c.take_inner.new.out c.take_inner.new.self.context c.take_inner.result) c.start-place.ensures (c.take_inner.ensures.token before t i e (k ∙ sym c.in_cdata-cdata.ensures)))

pub returns-clause-err : goal.returns-clause-err
returns-clause-err c limit bytes told h = c.step_any.ensures.err limit bytes told
    (subst (λ z. HasTakenUnder limit (record { tokenizer = z; context = c.args.self.now.context; failed = c.args.self.now.failed }) bytes told) (sym (c.if-take_plain.ensures.same refl)) h)
