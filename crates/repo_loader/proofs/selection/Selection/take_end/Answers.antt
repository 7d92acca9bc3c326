-- An end closes the innermost element.
use Rattle.std.proofs.Common.{◌≡◌, ◌+◌, [], refl, sym, subst}
use Rattle.std.specs.Prelude.{MatchOption, Option, vec_len}
use Rattle.std.proofs.lemmas.List.{nil_from_length}
use Rattle.lexical_core.specs.Tree.{Ends}
use Rattle.markup.specs.Events.{Placed}
use Rattle.markup.proofs.ExpandedLemmas.{counted}
use Rattle.repo_loader.specs.declared.part.Part.{Part}
use Rattle.repo_loader.specs.Selected.{parts_open_after}
use Rattle.repo_loader.proofs.EventSteps.{close_one, quiet_event}
use Rattle.repo_loader.proofs.selection.Selection.take_end.Goals as goal

pub returns : goal.returns
returns c told place name h =
    let old = c.args.self.now in
    let shut = c.pop.new.self in
    let around = parts_open_after [] told in
    let ends : Placed = record { place = place; item = Ends name } in
    quiet_event old (record { alloc = old.alloc; open_parts = shut; loading = old.loading }) told ends h refl refl
    (close_one around old.open_parts.items shut.items c.pop.result h.open_are c.pop.ensures.items
    (λ n. nil_from_length shut.items (sym (counted shut 0 (sym (subst (λ (o : Option Part). MatchOption o ((vec_len old.open_parts ≡ 0) × (vec_len shut ≡ 0)) (λ _. vec_len shut + 1 ≡ vec_len old.open_parts)) n c.pop.ensures.cases).1)))))
