use Rattle.std.proofs.Common.{◌≡◌, ℕ, suc, ◌+◌, List, [], ◌∷◌, length, Some, None, sym, ap, ◌∙◌, subst, arith, length-append}
use Rattle.std.specs.Prelude.{slice_get, slice_set}
use Rattle.repo_objects.specs.Repository.{DictionaryEntry}
use Rattle.reference_check.specs.declared.finite.Mark.{Mark}
use Rattle.reference_check.specs.declared.finite.Mark.TheVariants.{Finite}
use Rattle.reference_check.specs.inner.FiniteSearch.{TellsHeld, IsSearch, free_of, open_marks}
use Rattle.reference_check.proofs.Freed.{count_open, count_found}
use Rattle.reference_check.proofs.SearchAnswers.{on_ok_two, open_is}
use Rattle.reference_check.proofs.SearchSteps.{moves_on, is_found}
use Rattle.reference_check.proofs.finite.Marking.visit.Goals as goal

pub returns-in-Some-held_at-clause-search : goal.returns-in-Some-held_at-clause-search
returns-in-Some-held_at-clause-search c m rest s =
    let e : DictionaryEntry = record { id = c.in-Some-object_at.field-0-0.now; object = c.in-Some-object_at.object.now } in
    subst (λ (x : List Mark). IsSearch c.args.repository.now m x c.args.self.now.untold.items rest) (sym c.set_mark.ensures)
    (moves_on s c.in-Some.free e (sym c.in-Some-object_at.ensures.entry) (open_is (slice_get c.args.self.now.marks.items c.args.place) c.in-Some.free (ap (λ (xs : List Mark). free_of (slice_get xs c.args.place)) (sym c.as_slice.ensures.value) ∙ (sym c.free_at.ensures ∙ c.in-Some.is))) c.in-Some-held_at.at
    (subst (λ (x : List Mark). TellsHeld c.args.repository.now.objects x e.object c.in-Some.free (Some c.in-Some-held_at.at)) c.as_slice-2.ensures.value c.in-Some-held_at.ensures))

pub returns-in-Some-held_at-clause-left : goal.returns-in-Some-held_at-clause-left
returns-in-Some-held_at-clause-left c =
    let e : open_marks c.set_mark.new.marks.items ≡ open_marks c.args.self.now.marks.items = ap open_marks c.set_mark.ensures ∙ count_open c.args.self.now.marks.items c.args.place c.in-Some.free c.in-Some-held_at.at (open_is (slice_get c.args.self.now.marks.items c.args.place) c.in-Some.free (ap (λ (xs : List Mark). free_of (slice_get xs c.args.place)) (sym c.as_slice.ensures.value) ∙ (sym c.free_at.ensures ∙ c.in-Some.is))) in
    omega arith

pub returns-in-None-clause-search : goal.returns-in-None-clause-search
returns-in-None-clause-search c m rest s =
    let e : DictionaryEntry = record { id = c.in-Some-object_at.field-0-0.now; object = c.in-Some-object_at.object.now } in
    on_ok_two c.find.result c.find.ensures.marks c.find.ensures.untold (λ a b.
    subst (λ (x : List Mark). IsSearch c.args.repository.now m x c.find.new.self.untold.items rest) (sym a)
    (subst (λ (y : List ℕ). IsSearch c.args.repository.now m (slice_set c.args.self.now.marks.items c.args.place Finite) y rest) (sym b)
    (is_found s c.in-Some.free e (sym c.in-Some-object_at.ensures.entry) (open_is (slice_get c.args.self.now.marks.items c.args.place) c.in-Some.free (ap (λ (xs : List Mark). free_of (slice_get xs c.args.place)) (sym c.as_slice.ensures.value) ∙ (sym c.free_at.ensures ∙ c.in-Some.is)))
    (subst (λ (x : List Mark). TellsHeld c.args.repository.now.objects x e.object c.in-Some.free None) c.as_slice-2.ensures.value c.in-None.ensures))))

pub returns-in-None-clause-left : goal.returns-in-None-clause-left
returns-in-None-clause-left c =
    on_ok_two c.find.result c.find.ensures.marks c.find.ensures.untold (λ a b.
    let fewer : suc (open_marks c.find.new.self.marks.items) ≡ open_marks c.args.self.now.marks.items = ap (λ (x : List Mark). suc (open_marks x)) a ∙ count_found c.args.self.now.marks.items c.args.place c.in-Some.free (open_is (slice_get c.args.self.now.marks.items c.args.place) c.in-Some.free (ap (λ (xs : List Mark). free_of (slice_get xs c.args.place)) (sym c.as_slice.ensures.value) ∙ (sym c.free_at.ensures ∙ c.in-Some.is))) in
    let more : length c.find.new.self.untold.items ≡ length c.args.self.now.untold.items + 1 = ap length b ∙ length-append c.args.self.now.untold.items (c.args.place ∷ []) in
    omega arith)
