use Rattle.std.proofs.Common.{◌≡◌, [], ◌++◌, take, refl, sym, ap, subst, ◌∙◌, append_assoc, append-nil, take-append-drop}
use Rattle.lexical_core.specs.DecimalSoFar.{HasRead}
use Rattle.lexical_core.proofs.Lists.{none_left}
use Rattle.lexical_core.proofs.decimal_text.DecimalStep.take_codes.Goals as goal

pub loop-rest-init : goal.loop-rest-init
loop-rest-init c = record {
  seen = [];
  joined = refl;
  read = λ text h. subst (HasRead c.args.self.now) (sym (append-nil text)) h;
}

pub loop-rest-preserved : goal.loop-rest-preserved
loop-rest-preserved c =
    let before = c.loop-rest.invariant in
    let rest = c.loop-rest.rest.now in
    let count = c.take_front-count.result in
    record {
      seen = before.seen ++ take count rest;
      joined = before.joined ∙ ap (λ t. before.seen ++ t) (sym (take-append-drop count rest) ∙ ap (λ t. take count rest ++ t) (sym c.split_at.ensures.back))
          ∙ sym (append_assoc before.seen (take count rest) _);
      read = λ text h. subst (HasRead c.take_front-count.new.self) (append_assoc text before.seen _) (c.take_front-count.ensures.read _ (before.read text h));
    }

pub returns : goal.returns
returns c = λ text h.
    let before = c.loop-rest.invariant in
    let none : c.loop-rest.rest.now ≡ [] = none_left c.loop-rest.rest.now (let test = c.loop-rest-test.false in let says = c.is_empty.ensures in cc) in
    let all : before.seen ≡ c.args.codes.now = sym (before.joined ∙ (ap (λ t. before.seen ++ t) none ∙ append-nil before.seen)) in
    subst (λ t. HasRead c.loop-rest.self (text ++ t)) all (before.read text h)
