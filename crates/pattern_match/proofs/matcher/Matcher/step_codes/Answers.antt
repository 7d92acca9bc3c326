use Rattle.std.proofs.Common.{◌≡◌, [], ◌++◌, take, refl, sym, ap, subst, ◌∙◌, append_assoc, append-nil, take-append-drop}
use Rattle.lexical_core.proofs.Lists.{none_left}
use Rattle.pattern_match.specs.Compiled.{HasReadWord}
use Rattle.pattern_match.proofs.matcher.Matcher.step_codes.Goals as goal

pub loop-rest-init : goal.loop-rest-init
loop-rest-init c = record {
  seen = [];
  joined = refl;
  made = c.requires;
  read = λ w h. subst (HasReadWord c.args.pattern.now c.args.self.now) (sym (append-nil w)) h;
}

pub loop-rest-preserved : goal.loop-rest-preserved
loop-rest-preserved c =
    let before = c.loop-rest.invariant in
    let rest = c.loop-rest.rest.now in
    let count = c.step_front-count.result in
    record {
      seen = before.seen ++ take count rest;
      joined = before.joined ∙ ap (λ t. before.seen ++ t) (sym (take-append-drop count rest) ∙ ap (λ t. take count rest ++ t) (sym c.split_at.ensures.back))
          ∙ sym (append_assoc before.seen (take count rest) _);
      made = c.step_front-count.ensures.made;
      read = λ w h. subst (HasReadWord c.args.pattern.now c.step_front-count.new.self) (append_assoc w before.seen _) (c.step_front-count.ensures.read _ (before.read w h));
    }

pub returns-clause-read : goal.returns-clause-read
returns-clause-read c w h =
    let before = c.loop-rest.invariant in
    let none : c.loop-rest.rest.now ≡ [] = none_left c.loop-rest.rest.now (let test = c.loop-rest-test.false in let says = c.is_empty.ensures in cc) in
    let all : before.seen ≡ c.args.codes.now = sym (before.joined ∙ (ap (λ t. before.seen ++ t) none ∙ append-nil before.seen)) in
    subst (λ t. HasReadWord c.args.pattern.now c.loop-rest.self (w ++ t)) all (before.read w h)
