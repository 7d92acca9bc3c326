use Rattle.std.proofs.Common.{[], ◌∷◌, ◌++◌, codes, sym, subst, append-nil}
use Rattle.std.specs.List.{concat}
use Rattle.outside.specs.Pushes.{Pushes}
use Rattle.outside.proofs.Pushing.{then_push, fails_push}
use Rattle.asn1_model.specs.ModuleText.{number_texts}
use Rattle.asn1_writer.proofs.amount.push_money.Goals as goal

pub returns-in-Err : goal.returns-in-Err
returns-in-Err g c =
    fails_push g.O.Sink.held g.O.Sink.faults g.O.Sink.room _ _ c.in-Err.error (concat (codes "\n  ccy " ∷ c.args.code.now ∷ [])) (concat (codes ",\n  base " ∷ number_texts c.args.base.now) ++ []) c.in-Err.ensures

pub returns : goal.returns
returns g c =
    let base = concat (codes ",\n  base " ∷ number_texts c.args.base.now) in
    then_push g.O.Sink.held g.O.Sink.faults g.O.Sink.room _ _ _ c.push_real.result (concat (codes "\n  ccy " ∷ c.args.code.now ∷ [])) (base ++ []) c.in_default.ensures
    (subst (λ t. Pushes g.O.Sink.held g.O.Sink.faults g.O.Sink.room c.push_currency.new.sink c.push_real.new.sink c.push_real.result t) (sym (append-nil base)) c.push_real.ensures)
