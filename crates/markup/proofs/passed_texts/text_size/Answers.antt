-- What is left leads on to the end of the text, and where it does not, no text in ASCII ends there.
use Rattle.std.proofs.Common.{◌<◌, sym, subst, arith}
use Rattle.markup.specs.inner.AsideTexts.{is_text_of, text_end, LeadsToEnd}
use Rattle.markup.proofs.AsideTexts.{leads_then, run_passed, text_found, goes_on}
use Rattle.markup.proofs.passed_texts.text_size.Goals as goal

pub returns-then-end-gt0-clause-only : goal.returns-then-end-gt0-clause-only
returns-then-end-gt0-clause-only c =
    let behind = c.split_at.result.1.now in
    let o = c.end_size-end.ensures.found c.if-end-gt0.true in
    text_found c.args.kind c.args.piece.now behind o.0 _
    (leads_then (is_text_of c.args.kind) (text_end c.args.kind) c.args.piece.now c.loop-kind.rest.now behind c.loop-kind.invariant.0
    (subst (λ v. LeadsToEnd (is_text_of c.args.kind) (text_end c.args.kind) c.loop-kind.rest.now v) (sym c.split_at.ensures.back) (run_passed c.args.kind c.loop-kind.rest.now c.run_length.result (omega (arith, c.run_length.ensures.count)))))
    o.1 (omega (arith, o.2, c.split_at.ensures.back_len, c.loop-kind.invariant.1))

pub returns-then-size-eq0-clause-all : goal.returns-then-size-eq0-clause-all
returns-then-size-eq0-clause-all c text after a e =
    let behind = c.split_at.result.1.now in
    absurd (goes_on c.args.kind c.args.piece.now behind c.text_step-size.result
    (leads_then (is_text_of c.args.kind) (text_end c.args.kind) c.args.piece.now c.loop-kind.rest.now behind c.loop-kind.invariant.0
    (subst (λ v. LeadsToEnd (is_text_of c.args.kind) (text_end c.args.kind) c.loop-kind.rest.now v) (sym c.split_at.ensures.back) (run_passed c.args.kind c.loop-kind.rest.now c.run_length.result (omega (arith, c.run_length.ensures.count)))))
    (λ rest k. omega (arith, c.end_size-end.ensures.all rest k, c.if-end-gt0.false))
    c.text_step-size.ensures.all c.if-size-eq0.true text after a e)

pub loop-kind-preserved : goal.loop-kind-preserved
loop-kind-preserved c =
    let behind = c.split_at.result.1.now in
    let some : 0 < c.text_step-size.result = (let k = c.if-size-eq0.false in omega (arith, k)) in (
      leads_then (is_text_of c.args.kind) (text_end c.args.kind) c.args.piece.now behind c.split_at-in-loop-kind.result.1.now
          (leads_then (is_text_of c.args.kind) (text_end c.args.kind) c.args.piece.now c.loop-kind.rest.now behind c.loop-kind.invariant.0
          (subst (λ v. LeadsToEnd (is_text_of c.args.kind) (text_end c.args.kind) c.loop-kind.rest.now v) (sym c.split_at.ensures.back) (run_passed c.args.kind c.loop-kind.rest.now c.run_length.result (omega (arith, c.run_length.ensures.count)))))
          (subst (λ v. LeadsToEnd (is_text_of c.args.kind) (text_end c.args.kind) behind v) (sym c.split_at-in-loop-kind.ensures.back) (c.text_step-size.ensures.leads some)),
      omega (arith, c.split_at.ensures.back_len, c.split_at-in-loop-kind.ensures.back_len, c.loop-kind.invariant.1),
    )
