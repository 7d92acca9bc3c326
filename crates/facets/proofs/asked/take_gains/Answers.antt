use Rattle.std.proofs.Common.{◌≡◌, [], ◌++◌, refl, sym, ap, subst, ◌∙◌, append_assoc, append-nil}
use Rattle.lexical_core.proofs.Lists.{none_left, two_parts}
use Rattle.data_types.specs.Collapsing.{HasCollapsed}
use Rattle.facets.proofs.asked.take_gains.Goals as goal

pub loop-rest-init : goal.loop-rest-init
loop-rest-init c = record {
  seen = [];
  joined = refl;
  made = c.requires;
  takes = λ text collapsed h r. (collapsed, subst (λ t. HasCollapsed c.args.collapse.now t collapsed) (sym (append-nil text)) h, r);
}

pub loop-rest-preserved : goal.loop-rest-preserved
loop-rest-preserved c =
    let before = c.loop-rest.invariant in
    let seen = before.seen in
    let gap = c.split_at.result.0.now in
    let behind = c.split_at.result.1.now in
    let word = c.split_at-in-loop-rest.result.0.now in
    let after = c.split_at-in-loop-rest.result.1.now in
    let first : gap ++ behind ≡ c.loop-rest.rest.now = two_parts c.space_count.result _ gap behind c.split_at.ensures.front c.split_at.ensures.back in
    let next : word ++ after ≡ behind = two_parts c.word_count.result _ word after c.split_at-in-loop-rest.ensures.front c.split_at-in-loop-rest.ensures.back in
    let rest : c.loop-rest.rest.now ≡ (gap ++ word) ++ after = sym first ∙ (ap (λ t. gap ++ t) (sym next) ∙ sym (append_assoc gap word after)) in
    record {
      seen = seen ++ (gap ++ word);
      joined = before.joined ∙ (ap (λ t. seen ++ t) rest ∙ sym (append_assoc seen (gap ++ word) after));
      made = c.take_word.ensures.made;
      takes = λ text collapsed h r.
          let own = before.takes text collapsed h r in
          let more = c.take_word.ensures.read _ own.0 (c.take_gap.ensures (text ++ seen) own.0 own.1) own.2 in (
            more.0,
            subst (λ t. HasCollapsed c.take_word.new.collapse t more.0) (append_assoc (text ++ seen) gap word ∙ append_assoc text seen (gap ++ word)) more.1,
            more.2,
          );
    }

pub returns : goal.returns
returns c = λ text collapsed h r.
    let before = c.loop-rest.invariant in
    let none : c.loop-rest.rest.now ≡ [] = none_left c.loop-rest.rest.now (let test = c.loop-rest-test.false in let says = c.is_empty.ensures in cc) in
    let all : before.seen ≡ c.args.codes.now = sym (before.joined ∙ (ap (λ t. before.seen ++ t) none ∙ append-nil before.seen)) in
    let own = before.takes text collapsed h r in
    (own.0, subst (λ t. HasCollapsed c.loop-rest.collapse t own.0) (ap (λ t. text ++ t) all) own.1, own.2)
