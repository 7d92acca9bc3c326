use Rattle.std.proofs.Common.{◌≡◌, ℕ, List, [], ◌∷◌, ◌++◌, length, take, drop, refl, sym, ap, subst, ◌∙◌, append_assoc, append-nil, length-append, take-append-drop, arith}
use Rattle.std.specs.List.{AllByRecursion}
use Rattle.lexical_core.proofs.Lists.{none_left}
use Rattle.data_types.specs.inner.Taking.{TakesChars}
use Rattle.data_types.proofs.TakingLemmas.{takes_none, takes_then, takes_within, takes_gap}
use Rattle.data_types.proofs.collapsed_step.CollapsedStep.take_pieces.Goals as goal

pub loop-rest-preserved : goal.loop-rest-preserved
loop-rest-preserved c =
    let before = c.loop-rest.invariant in
    let seen = before.seen in
    let gap = c.split_at.result.0.now in
    let behind = c.split_at.result.1.now in
    let word = c.split_at-in-loop-rest.result.0.now in
    let after = c.split_at-in-loop-rest.result.1.now in
    let first : gap ++ behind ≡ c.loop-rest.rest.now = two_parts c.space_count.result _ gap behind c.split_at.ensures.front c.split_at.ensures.back in
    let next : word ++ after ≡ behind = two_parts c.word_count.result _ word after c.split_at-in-loop-rest.ensures.front c.split_at-in-loop-rest.ensures.back in
    let rest : c.loop-rest.rest.now ≡ (gap ++ word) ++ after = sym first ∙ (ap (λ t. gap ++ t) (sym next) ∙ sym (append_assoc gap word after)) in
    let step = takes_then _ _ _ gap word 0 _ (takes_gap _ _ gap c.take_gap.ensures.taken c.take_gap.ensures.value) c.take_piece.ensures in
    record {
      seen = seen ++ (gap ++ word);
      joined = before.joined ∙ (ap (λ t. seen ++ t) rest ∙ sym (append_assoc seen (gap ++ word) after));
      ascii = all_behind _ (gap ++ word) after (subst (AllByRecursion _) rest before.ascii);
      takes = takes_within _ _ _ _ _ (omega (arith, length-append seen (gap ++ word), length-append gap word)) (takes_then _ _ _ seen (gap ++ word) _ _ before.takes step);
    }
  where
    two_parts : (n : ℕ) (all front back : List ℕ) → front ≡ take n all → back ≡ drop n all → front ++ back ≡ all
    two_parts n all front back f b = ap (λ t. t ++ back) f ∙ (ap (λ t. take n all ++ t) b ∙ take-append-drop n all)

    all_behind : (P : ℕ → Type 0) (xs ys : List ℕ) → AllByRecursion P (xs ++ ys) → AllByRecursion P ys
    all_behind P [] ys h = h
    all_behind P (x ∷ xs) ys h = all_behind P xs ys h.1

pub returns : goal.returns
returns c =
    let before = c.loop-rest.invariant in
    let none : c.loop-rest.rest.now ≡ [] = none_left c.loop-rest.rest.now (let test = c.loop-rest-test.false in let says = c.is_empty.ensures in cc) in
    let all : before.seen ≡ c.args.codes.now = sym (before.joined ∙ (ap (λ t. before.seen ++ t) none ∙ append-nil before.seen)) in
    subst (λ t. TakesChars c.args.self.now c.loop-rest.self t (length t)) all before.takes

pub loop-rest-init : goal.loop-rest-init
loop-rest-init c = record { seen = []; joined = refl; ascii = c.requires.ascii; takes = takes_none c.args.self.now }
