use Rattle.std.proofs.Common.{◌∷◌, ◌++◌, [], reverse, refl, sym, ◌∙◌, subst}
use Rattle.markup.specs.EventItems.{Tells}
use Rattle.markup.specs.inner.Inputs.{Any}
use Rattle.markup.specs.Reading.{StopsUnder, RefusesUnder}
use Rattle.markup.specs.inner.ReaderSteps.{return_items, TellsMore, TokenAnswered}
use Rattle.markup.specs.inner.Tokenizers.{AdvancesBy, outcome, without_draft}
use Rattle.markup.proofs.ResultLemmas.{on_ok_if, if_err_if, match_ok, match_err}
use Rattle.markup.proofs.ReaderLemmas.{advance_more, advance_refused, advance_out, answered, token_here, token_stopped, return_ok, return_draft, kept, handed}
use Rattle.markup.proofs.reader.Reader.advance.Goals as goal

pub returns-in-Ok-More-clause-ok : goal.returns-in-Ok-More-clause-ok
returns-in-Ok-More-clause-ok c limit bytes tokens told k w = on_ok_if c.tell_return.result _ _
    (λ t _. advance_more c.args.self.now bytes tokens told c.advance.new.self c.args.byte c.args.out.now c.tell_return.new.out k w (c.in-Ok-More.ensures).place t.0 t.1
    (subst (λ p. AdvancesBy c.args.self.now.tokenizer (outcome p c.advance.new.self).1 c.args.byte (outcome p c.advance.new.self).0) c.in-Ok-More.field-0-is (c.in-Ok-More.ensures).advances)
    (subst (λ v. Tells c.args.out.now c.tell_return.new.out (return_items t.0 v)) c.start-place.ensures t.2))
    c.tell_return.ensures.ok

pub returns-in-Ok-More-clause-err : goal.returns-in-Ok-More-clause-err
returns-in-Ok-More-clause-err c limit bytes tokens told k w = if_err_if c.tell_return.result _ _
    (λ e h. subst (StopsUnder limit (bytes ++ c.args.byte ∷ []) told c.args.out.now c.tell_return.new.out) (sym h.0) (advance_out c.args.self.now bytes tokens told c.args.byte c.args.out.now c.tell_return.new.out k w h.1))
    c.tell_return.ensures.err

pub returns-then-is_told-clause-ok : goal.returns-then-is_told-clause-ok
returns-then-is_told-clause-ok c limit bytes tokens told k w =
    let o = c.has_open_return-is_told.ensures in
    let z = c.advance.new.self in
    let a = subst (λ p. AdvancesBy c.args.self.now.tokenizer (outcome p z).1 c.args.byte (outcome p z).0) c.in-Ok-Token.field-0-is (c.in-Ok-Token.ensures).advances in
    let n = sym o.2 ∙ c.if-is_told.true in
    let p = (c.in-Ok-Token.ensures).place in
    let out = c.args.out.now in
    subst (λ v. TellsMore limit Any (record { tokenizer = v; context = c.pass_line_end.new.self; failed = c.args.self.now.failed }) (bytes ++ c.args.byte ∷ []) told out out)
    (kept z (return_draft c.args.self.now bytes tokens told (without_draft z) c.args.byte out out k w p c.in-Ok-Token.ended z.draft a o.0 o.1 n))
    (return_ok c.args.self.now bytes tokens told (without_draft z) c.args.byte out out k w p c.in-Ok-Token.ended z.draft a o.0 o.1 n c.pass_line_end.new.self c.pass_line_end.ensures refl)

pub returns-else-is_told-clause-ok : goal.returns-else-is_told-clause-ok
returns-else-is_told-clause-ok c limit bytes tokens told k w =
    let o = c.has_open_return-is_told.ensures in
    let z = c.advance.new.self in
    let a = subst (λ p. AdvancesBy c.args.self.now.tokenizer (outcome p z).1 c.args.byte (outcome p z).0) c.in-Ok-Token.field-0-is (c.in-Ok-Token.ensures).advances in
    let n = sym o.2 ∙ c.if-is_told.false in
    let p = (c.in-Ok-Token.ensures).place in
    match_ok c.take_token.result _ _ _
    (λ _ h. token_here c.args.self.now bytes tokens told (without_draft z) c.args.byte c.args.out.now c.take_token.new.out k w p c.in-Ok-Token.ended z.draft a o.0 o.1 n c.take_token.new.self
    (c.take_token.ensures.rest.0 ∙ handed c.in-Ok-Token.ended z (reverse tokens) (k.reads.bytes ++ c.args.byte ∷ []) (a limit (reverse tokens) k.reads.bytes k.reads.opens w)) c.take_token.ensures.rest.1 h)
    (answered c.args.self.now bytes tokens told (without_draft z) c.args.byte c.args.out.now c.take_token.new.out k w p c.in-Ok-Token.ended z.draft a o.0 o.1 n
    (λ before t i x y v. TokenAnswered before t c.args.self.now.tokenizer.start c.args.out.now c.take_token.new.out c.take_token.new.self.context c.take_token.result)
    (λ before t i x y v. subst (λ v. TokenAnswered before t v c.args.out.now c.take_token.new.out c.take_token.new.self.context c.take_token.result) c.start-place.ensures (c.take_token.ensures.token before t i x y (v ∙ sym c.in_cdata-cdata.ensures))))

pub returns-else-is_told-clause-err : goal.returns-else-is_told-clause-err
returns-else-is_told-clause-err c limit bytes tokens told k w =
    let o = c.has_open_return-is_told.ensures in
    let z = c.advance.new.self in
    let a = subst (λ p. AdvancesBy c.args.self.now.tokenizer (outcome p z).1 c.args.byte (outcome p z).0) c.in-Ok-Token.field-0-is (c.in-Ok-Token.ensures).advances in
    let n = sym o.2 ∙ c.if-is_told.false in
    let p = (c.in-Ok-Token.ensures).place in
    match_err c.take_token.result _ _ _
    (token_stopped c.args.self.now bytes tokens told (without_draft z) c.args.byte c.args.out.now c.take_token.new.out k w p c.in-Ok-Token.ended z.draft a o.0 o.1 n)
    (answered c.args.self.now bytes tokens told (without_draft z) c.args.byte c.args.out.now c.take_token.new.out k w p c.in-Ok-Token.ended z.draft a o.0 o.1 n
    (λ before t i x y v. TokenAnswered before t c.args.self.now.tokenizer.start c.args.out.now c.take_token.new.out c.take_token.new.self.context c.take_token.result)
    (λ before t i x y v. subst (λ v. TokenAnswered before t v c.args.out.now c.take_token.new.out c.take_token.new.self.context c.take_token.result) c.start-place.ensures (c.take_token.ensures.token before t i x y (v ∙ sym c.in_cdata-cdata.ensures))))

pub returns-in-Ok-Refused-clause-err : goal.returns-in-Ok-Refused-clause-err
returns-in-Ok-Refused-clause-err c limit bytes tokens told k w = subst (λ v. RefusesUnder limit (bytes ++ c.args.byte ∷ []) told c.args.out.now c.args.out.now (record { rule = c.in-Ok-Refused.rule; place = v })) (sym c.start-place.ensures)
    (advance_refused c.args.self.now bytes tokens told c.advance.new.self c.args.byte c.args.out.now c.args.out.now k w (c.in-Ok-Refused.ensures).place c.in-Ok-Refused.rule
    (subst (λ p. AdvancesBy c.args.self.now.tokenizer (outcome p c.advance.new.self).1 c.args.byte (outcome p c.advance.new.self).0) c.in-Ok-Refused.field-0-is (c.in-Ok-Refused.ensures).advances) refl)

pub returns-in-Err-clause-err : goal.returns-in-Err-clause-err
returns-in-Err-clause-err c limit bytes tokens told k w = advance_out c.args.self.now bytes tokens told c.args.byte c.args.out.now c.args.out.now k w refl
