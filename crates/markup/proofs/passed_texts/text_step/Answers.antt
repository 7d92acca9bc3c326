-- A character of the text leads on, and each in ASCII that may go on there does.
use Rattle.std.proofs.Common.{rules, ◌≡◌, ◌∷◌, drop, refl, sym, ◌∙◌, ap, subst}
use Rattle.std.proofs.lemmas.Bool.{both_ways}
use Rattle.markup.specs.inner.AsideTexts.{is_text_of, text_end, LeadsToEnd}
use Rattle.markup.specs.inner.Inside.{passed_end}
use Rattle.markup.proofs.AsideTexts.{one_mark, one_passed, wide_passed, mark_at, passed_at}
use Rattle.markup.proofs.passed_texts.text_step.Goals as goal

pub returns-then-is_behind_mark-clause-all : goal.returns-then-is_behind_mark-clause-all
returns-then-is_behind_mark-clause-all c x text after a e =
    let f : c.args.piece.now ≡ c.in-Some.first.now ∷ c.in-Some.behind.now = search rules in
    let o = c.if-is_behind_mark.ensures.found refl in
    absurd (mark_at c.args.kind x text after c.args.piece.now c.in-Some.behind.now o.0 a e (f ∙ ap (λ v. v ∷ c.in-Some.behind.now) (c.if-first-end.true ∙ c.end.ensures)) o.1)

pub returns-else-is_behind_mark-clause-leads : goal.returns-else-is_behind_mark-clause-leads
returns-else-is_behind_mark-clause-leads c s =
    let f : c.args.piece.now ≡ c.in-Some.first.now ∷ c.in-Some.behind.now = search rules in
    let g : c.args.piece.now ≡ passed_end c.args.kind ∷ c.in-Some.behind.now = f ∙ ap (λ v. v ∷ c.in-Some.behind.now) (c.if-first-end.true ∙ c.end.ensures) in
    subst (λ v. LeadsToEnd (is_text_of c.args.kind) (text_end c.args.kind) c.args.piece.now v) (sym (ap (drop 1) g))
    (one_mark c.args.kind c.args.piece.now c.in-Some.behind.now g (λ rest k. both_ways c.is_behind_mark.result c.if-is_behind_mark.false (c.is_behind_mark.ensures.all rest k)))

pub returns-then-has-clause-leads : goal.returns-then-has-clause-leads
returns-then-has-clause-leads c s =
    let f : c.args.piece.now ≡ c.in-Some.first.now ∷ c.in-Some.behind.now = search rules in
    subst (λ v. LeadsToEnd (is_text_of c.args.kind) (text_end c.args.kind) c.args.piece.now v) (sym (ap (drop 1) f))
    (one_passed c.args.kind c.in-Some.first.now c.args.piece.now c.in-Some.behind.now f (sym c.has.ensures ∙ c.if-has.true))

pub returns-else-has-clause-all : goal.returns-else-has-clause-all
returns-else-has-clause-all c x text after a e =
    let f : c.args.piece.now ≡ c.in-Some.first.now ∷ c.in-Some.behind.now = search rules in
    absurd (passed_at c.args.kind x c.in-Some.first.now text after c.args.piece.now c.in-Some.behind.now a e f (λ k. c.if-first-end.false (k ∙ sym c.end.ensures)) (sym c.has.ensures ∙ c.if-has.false))

pub returns-in-Some-wide_size-clause-leads : goal.returns-in-Some-wide_size-clause-leads
returns-in-Some-wide_size-clause-leads c s = wide_passed c.args.kind c.in-Some-wide_size.size c.args.piece.now c.in-Some-wide_size.ensures
