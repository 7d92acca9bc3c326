-- The place of the prefix tells whether its declaration is one of the outermost.
use Rattle.std.proofs.Common.{leb, sym, ap, ◌∙◌}
use Rattle.markup.proofs.BindingLemmas.{is_behind, none_behind}
use Rattle.markup.proofs.bindings.Bindings.is_declared_behind.Goals as goal

pub returns-in-Some : goal.returns-in-Some
returns-in-Some c own before is same =
    ap (λ n. leb n c.in-Some.place.now) same ∙ is_behind own before c.args.prefix.now c.in-Some.place.now (sym (is.latest_are c.args.prefix.now) ∙ sym c.in-Some.ensures.value)

pub returns-in-None : goal.returns-in-None
returns-in-None c own before is same = none_behind own before c.args.prefix.now (sym (is.latest_are c.args.prefix.now) ∙ sym c.in-None.ensures.value)
