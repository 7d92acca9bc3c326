-- An ending that was given is passed, and the first other is taken.
use Rattle.std.proofs.Common.{◌≡◌, ℕ, suc, ◌+◌, ◌-◌, true, false, List, below_more, sym, ap, ◌∙◌, arith}
use Rattle.asn1_model.specs.Names.{is_name_among, candidate, first_free}
use Rattle.asn1_model.specs.inner.Given.{HasGivenNames}
use Rattle.asn1_model.proofs.GivenLemmas.{passed, taken_free}
use Rattle.asn1_model.proofs.given.Given.first_free.Goals as goal

pub returns-then-not-is_given-clause-free : goal.returns-then-not-is_given-clause-free
returns-then-not-is_given-clause-free c taken kept low =
    let free : is_name_among taken (candidate c.args.name.now c.loop-ending.ending) ≡ false =
    ap (is_name_among taken) (sym c.in_ok-tried.ensures ∙ sym c.deref.ensures.value) ∙ sym (c.is_given.ensures taken kept) ∙ c.if-not-is_given.true in
    c.in_ok-tried.ensures ∙ sym (taken_free (c.args.to - c.loop-ending.ending) taken c.args.name.now c.loop-ending.ending free) ∙ sym (c.loop-ending.invariant.passed taken kept low)

pub loop-ending-preserved : goal.loop-ending-preserved
loop-ending-preserved c = record {
  passed = λ taken kept low.
      let left : ℕ = c.args.to - (c.loop-ending.ending + 1) in
      let more : c.args.to - c.loop-ending.ending ≡ suc left = omega (arith, c.loop-ending-test.true) in
      let next : suc c.loop-ending.ending ≡ c.loop-ending.ending + 1 = omega arith in
      c.loop-ending.invariant.passed taken kept low ∙ ap (λ n. first_free n taken c.args.name.now c.loop-ending.ending) more
      ∙ passed left taken c.args.name.now c.loop-ending.ending (here taken kept) ∙ ap (first_free left taken c.args.name.now) next;
  all = λ taken kept before. below_more (λ (j : ℕ). is_name_among taken (candidate c.args.name.now j) ≡ true) c.loop-ending.ending (c.loop-ending.invariant.all taken kept before) (here taken kept);
}
  where
    here : (taken : List (List ℕ)) → HasGivenNames c.args.self.now taken → is_name_among taken (candidate c.args.name.now c.loop-ending.ending) ≡ true
    here taken kept = ap (is_name_among taken) (sym c.in_ok-tried.ensures ∙ sym c.deref.ensures.value) ∙ sym (c.is_given.ensures taken kept) ∙ c.if-not-is_given.false
