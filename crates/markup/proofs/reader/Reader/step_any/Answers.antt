use Rattle.std.proofs.Common.{◌∷◌, ◌++◌, []}
use Rattle.markup.proofs.ResultLemmas.{at_ok, at_err, if_ok_if, if_err_if}
use Rattle.markup.proofs.ReaderLemmas.{step_ok, step_stops}
use Rattle.markup.proofs.reader.Reader.step_any.Goals as goal

pub returns-then-is_err-clause-err : goal.returns-then-is_err-clause-err
returns-then-is_err-clause-err c limit bytes told h = at_err c.settle.result _ _ (λ _ x. x) (c.settle.ensures.err limit bytes told h) (c.if-is_err.ensures).value

pub returns-clause-ok : goal.returns-clause-ok
returns-clause-ok c limit bytes told h = at_ok c.settle.result _ _
    (λ _ s. if_ok_if c.advance.result _ _ (λ _ a. step_ok c.settle.new.self c.advance.new.self bytes told c.args.byte c.args.out.now c.settle.new.out c.advance.new.out s a)
    (c.advance.ensures.ok limit bytes s.tells.tokens _ s.tells.keeps s.awaited))
    (c.settle.ensures.ok limit bytes told h) (c.if-is_err.ensures).value

pub returns-clause-err : goal.returns-clause-err
returns-clause-err c limit bytes told h = at_ok c.settle.result _ _
    (λ _ s. if_err_if c.advance.result _ _ (λ e a. step_stops limit (bytes ++ c.args.byte ∷ []) told s.tells.more c.args.out.now c.settle.new.out c.advance.new.out e s.tells.tells a)
    (c.advance.ensures.err limit bytes s.tells.tokens _ s.tells.keeps s.awaited))
    (c.settle.ensures.ok limit bytes told h) (c.if-is_err.ensures).value
