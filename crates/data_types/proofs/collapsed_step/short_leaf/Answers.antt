use Rattle.std.proofs.Common.{◌≡◌, ◌≢◌, sym, subst, rules}
use Rattle.data_types.specs.declared.kind.Kind.{Kind}
use Rattle.data_types.specs.declared.kind.Kind.TheVariants.{Boolean}
use Rattle.data_types.specs.Booleans.{IsBooleanText}
use Rattle.data_types.specs.Dates.{IsDateText}
use Rattle.data_types.specs.Leaf.{Bytes, IsLeaf, HasLeafForm}
use Rattle.data_types.proofs.ShortLeaves.{boolean_form, date_form, date_leaf, short_form, short_within}
use Rattle.data_types.proofs.collapsed_step.short_leaf.Goals as goal

pub returns-in_default : goal.returns-in_default
returns-in_default c = λ most chars text kind collapsed kept form. c.in_default.ensures.none text kept (short_form c.args.kind chars text kind collapsed form)

pub returns-in-None : goal.returns-in-None
returns-in-None c = λ most chars text kind collapsed kept form.
    let is : c.args.kind ≡ Boolean = search rules in
    let found = boolean_form chars text collapsed (subst (λ (k : Kind). HasLeafForm k chars) is form) in
    c.in-None.ensures.none found.0 (subst (IsBooleanText found.0) (sym (c.in-Some.ensures.some text kept)) found.1)

pub returns-then-is_date_text : goal.returns-then-is_date_text
returns-then-is_date_text c = λ most chars text kind collapsed kept.
    let other : c.args.kind ≢ Boolean = search rules in
    let same = c.in-Some.ensures.some text kept in
    let leaf = date_leaf c.args.kind chars text kind other collapsed (subst (IsDateText c.args.kind) same (c.is_date_text.ensures.0 c.if-is_date_text.true)) in
    (subst (λ t. IsLeaf c.args.kind chars (Bytes t)) (sym same) leaf, short_within c.args.kind most chars (Bytes c.in-Some.text.now) kind)

pub returns-else-is_date_text : goal.returns-else-is_date_text
returns-else-is_date_text c = λ most chars text kind collapsed kept form.
    let other : c.args.kind ≢ Boolean = search rules in
    let same = c.in-Some.ensures.some text kept in
    let yes = c.is_date_text.ensures.1 (subst (IsDateText c.args.kind) (sym same) (date_form c.args.kind chars text kind other collapsed form)) in
    absurd (let no = c.if-is_date_text.false in cc)
