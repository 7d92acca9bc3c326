use Rattle.std.proofs.Common.{◌<◌, ◌≤◌, ℕ, length, Result, Ok, Err, rules, subst}
use Rattle.std.specs.Ordering.{nat_cmp}
use Rattle.std.specs.List.Sorted.{IsBinarySearchResult, IsSearchInRange}
use Rattle.std.proofs.lemmas.List.Sorted.{answers_always}
use Rattle.inst_pool.specs.declared.content.Content.TheVariants as long
use Rattle.inst_pool.specs.declared.others.Other.{Other}
use Rattle.inst_pool.proofs.OtherLemmas.{other_there, search_there, search_fails}
use Rattle.inst_pool.proofs.others.found_place.Goals as goal

pub unreachable-requires : goal.unreachable-requires
unreachable-requires c =
    let others = c.args.others.now in
    let facts = c.binary_search_by_key.ensures in
    let by_key = facts.position (λ other. other.at) (answers_always _ _ _ (λ f a r g called. search rules)) in
    let ends : IsBinarySearchResult (λ other. nat_cmp other.at c.args.at) others (Err c.in-Err.field-0) =
    subst (λ (r : Result ℕ ℕ). IsBinarySearchResult (λ other. nat_cmp other.at c.args.at) others r) c.in-Err.is by_key in
    let bound : c.in-Err.field-0 ≤ length others = subst (λ (r : Result ℕ ℕ). IsSearchInRange r (length others)) c.in-Err.is facts.bound in
    let any : Other = record { at = 0; content = long.Code 0 } in
    search_fails c.requires.order.0 others c.requires.order.1 c.args.at c.in-Err.field-0 any bound ends c.requires.there

pub returns-clause-content : goal.returns-clause-content
returns-clause-content c = λ d.
    let others = c.args.others.now in
    let facts = c.binary_search_by_key.ensures in
    let by_key = facts.position (λ other. other.at) (answers_always _ _ _ (λ f a r g called. search rules)) in
    let ends : IsBinarySearchResult (λ other. nat_cmp other.at c.args.at) others (Ok c.in-Ok.place) =
    subst (λ (r : Result ℕ ℕ). IsBinarySearchResult (λ other. nat_cmp other.at c.args.at) others r) c.in-Ok.is by_key in
    let bound : c.in-Ok.place < length others = subst (λ (r : Result ℕ ℕ). IsSearchInRange r (length others)) c.in-Ok.is facts.bound in
    let is = search_there c.requires.order.0 others c.requires.order.1 c.args.at c.in-Ok.place bound ends d in
    other_there 0 c.requires.order.0 others c.in-Ok.place c.args.at d c.requires.order.1 bound is
