use Rattle.std.proofs.Common.{◌<◌, List, ℕ, length, sym, subst, arith}
use Rattle.std.proofs.lemmas.Result.{on_ok_weaker}
use Rattle.reference_check.specs.inner.FiniteSearch.{IsUser, KeepsUsers}
use Rattle.reference_check.proofs.SearchAnswers.{target_within, user_kept, user_added, listed_at}
use Rattle.reference_check.proofs.users.add_target.Goals as goal

pub returns-in-Some-clause-listed : goal.returns-in-Some-clause-listed
returns-in-Some-clause-listed c =
    let within : c.in-Some.at < length c.args.repository.now.objects = target_within c.args.repository.now.objects c.args.element.now c.in-Some.at c.in-Some.ensures in
    on_ok_weaker c.add_user.result (λ e. listed_at c.args.repository.now.objects c.add_user.new.lists.items c.args.user c.in-Some.at c.args.element.now c.in-Some.ensures
    (subst (λ (x : List (List ℕ)). IsUser x c.in-Some.at c.args.user) (sym e) (user_added c.args.lists.now.items c.in-Some.at c.args.user (omega arith)))) c.add_user.ensures.lists

pub returns-in-Some-clause-kept : goal.returns-in-Some-clause-kept
returns-in-Some-clause-kept c =
    on_ok_weaker c.add_user.result (λ e. subst (λ (x : List (List ℕ)). KeepsUsers c.args.lists.now.items x) (sym e) (user_kept c.args.lists.now.items c.in-Some.at c.args.user)) c.add_user.ensures.lists

pub returns-in-None-clause-listed : goal.returns-in-None-clause-listed
returns-in-None-clause-listed c = λ k must leads. absurd (c.in-None.ensures k leads)
