-- The ids are distinct, so the object that the look-up finds is the one.
use Rattle.std.proofs.Common.{true≢false, sym}
use Rattle.reference_check.proofs.Lookups.{find_contained, no_text_found, none_found}
use Rattle.reference_check.proofs.references.is_no_text_object.Goals as goal

pub returns-in-Some : goal.returns-in-Some
returns-in-Some c =
    no_text_found c.args.repository.now.objects c.args.id.now c.in-Some.object.now c.is_text_kind.result
    (find_contained c.args.repository.now.objects c.args.id.now c.in-Some.object.now c.in-Some.ensures.whole.distinct c.in-Some.ensures.found)
    c.is_text_kind.ensures

pub returns-in-None : goal.returns-in-None
returns-in-None c = none_found c.args.repository.now.objects c.args.id.now (λ has. true≢false (sym (c.in-None.ensures.there.1 has)))
