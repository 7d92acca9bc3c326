use Rattle.std.proofs.Common.{rules, of_calls}
use Rattle.std.specs.Ordering.{nat_cmp}
use Rattle.std.specs.Cmp.Lexicographic.{slice_cmp}
use Rattle.std.proofs.lemmas.Fn.{always_returns_same}
use Rattle.facets.proofs.CodeLemmas.{found_at, found_nowhere}
use Rattle.facets.proofs.codes.Codes.place.Goals as goal

pub returns-in-Ok-clause-some : goal.returns-in-Ok-clause-some
returns-in-Ok-clause-some c =
    let facts = c.binary_search_by.ensures in
    let found = facts.position (λ text. slice_cmp nat_cmp text c.args.code.now) (always_returns_same _ _ _ (λ a r f k. search (rules, of_calls))) in
    rw (← c.self.view_is, ← c.deref.ensures.value) (found_at c.deref.result.now c.args.code.now c.binary_search_by.result c.in-Ok.at c.in-Ok.is facts.bound found)

pub returns-in-Err-clause-none : goal.returns-in-Err-clause-none
returns-in-Err-clause-none c =
    let facts = c.binary_search_by.ensures in
    let found = facts.position (λ text. slice_cmp nat_cmp text c.args.code.now) (always_returns_same _ _ _ (λ a r f k. search (rules, of_calls))) in
    rw (← c.self.view_is, ← c.deref.ensures.value) (found_nowhere c.deref.result.now c.args.code.now c.binary_search_by.result c.in-Err.field-0 c.in-Err.is (rw c.deref.ensures.value c.self.invariant.0) found)
