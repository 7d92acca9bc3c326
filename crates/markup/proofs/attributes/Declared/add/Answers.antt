-- A declaration and another attribute.
use Rattle.std.proofs.Common.{◌++◌, ◌+◌, ◌||◌, refl, sym, ap, ◌∙◌}
use Rattle.std.specs.Option.{option_copied}
use Rattle.markup.specs.Scopes.{declarations}
use Rattle.markup.specs.inner.TagParts.{tag_given}
use Rattle.markup.proofs.ResultLemmas.{on_ok}
use Rattle.markup.proofs.TagPartLemmas.{declared_first, declared_plain}
use Rattle.markup.proofs.attributes.Declared.add.Goals as goal

pub returns-in_default-clause-kept : goal.returns-in_default-clause-kept
returns-in_default-clause-kept c before given was same = declared_plain before (tag_given c.args.first.now) given c.args.self.now c.args.bindings.now (sym c.declared_prefix.ensures ∙ ap option_copied c.in_default.is) was

pub returns-clause-kept : goal.returns-clause-kept
returns-clause-kept c before given was same =
    let named = sym c.declared_prefix.ensures ∙ ap option_copied c.in-Some.is in
    on_ok c.declare.result _ _ (λ k. declared_first before (tag_given c.args.first.now) given c.in-Some.prefix.now c.args.self.now c.args.bindings.now c.declare.new.self (c.args.self.now.count + 1) c.is_declared_behind.result (c.args.self.now.is_bad || c.is_bad_declaration.result)
    named k (c.is_declared_behind.ensures (declarations given) before was.kept_are same) was) (c.declare.ensures (declarations given ++ before) (tag_given c.args.first.now) was.kept_are named refl)
