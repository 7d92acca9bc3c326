-- All of the text was read.
use Rattle.std.proofs.Common.{◌≡◌, ◌++◌, sym, ap, ◌∙◌, subst, append-nil}
use Rattle.std.proofs.lemmas.List.{nil_from_length}
use Rattle.lexical_core.specs.DecimalSoFar.{HasRead}
use Rattle.repo_loader.proofs.Numbers.{TellsBound, tells_bound}
use Rattle.repo_loader.proofs.values.bound_of.Goals as goal

pub returns-in-Value-clause-some : goal.returns-in-Value-clause-some
returns-in-Value-clause-some c =
    let inv = c.loop-first.invariant in
    let all : c.args.text.now ≡ inv.0 = inv.1 ∙ ap (λ l. inv.0 ++ l) (nil_from_length c.loop-first.rest.now c.in_default.ensures.cases) ∙ append-nil inv.0 in
    let answer = c.finish.ensures c.args.text.now (subst (HasRead c.loop-first.step) (sym all) inv.2) in
    subst (TellsBound c.args.text.now) c.in-Value.is (tells_bound c.args.text.now c.finish.result answer)

pub returns-in-TooLong-clause-none : goal.returns-in-TooLong-clause-none
returns-in-TooLong-clause-none c =
    let inv = c.loop-first.invariant in
    let all : c.args.text.now ≡ inv.0 = inv.1 ∙ ap (λ l. inv.0 ++ l) (nil_from_length c.loop-first.rest.now c.in_default.ensures.cases) ∙ append-nil inv.0 in
    let answer = c.finish.ensures c.args.text.now (subst (HasRead c.loop-first.step) (sym all) inv.2) in
    subst (TellsBound c.args.text.now) c.in-TooLong.is (tells_bound c.args.text.now c.finish.result answer)
