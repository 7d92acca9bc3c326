use Rattle.std.proofs.Common.{List, Some, None, true, false, subst}
use Rattle.reference_check.specs.declared.finite.Mark.{Mark}
use Rattle.reference_check.specs.inner.FiniteSearch.{TellsFirstOpen, TellsMessage}
use Rattle.reference_check.proofs.SearchEnd.{tells_object, tells_none, tells_message}
use Rattle.reference_check.proofs.finite.first_endless.Goals as goal

pub returns-in-Some : goal.returns-in-Some
returns-in-Some c m has below =
    tells_object (c.in_ok-marks.ensures m has below) c.in-Some.place (subst (λ (x : List Mark). TellsFirstOpen x (Some c.in-Some.place)) c.as_slice.ensures.value c.in-Some.ensures)

pub returns-then-is_message_finite : goal.returns-then-is_message_finite
returns-then-is_message_finite c m has below =
    tells_none (c.in_ok-marks.ensures m has below) c.args.reach.now has (subst (λ (x : List Mark). TellsFirstOpen x None) c.as_slice.ensures.value c.in_default.ensures)
    (subst (λ (x : List Mark). TellsMessage c.args.repository.now x c.args.reach.now.message true) c.as_slice-2.ensures.value c.if-is_message_finite.ensures)

pub returns : goal.returns
returns c m has below =
    tells_message (c.in_ok-marks.ensures m has below) c.args.reach.now has (subst (λ (x : List Mark). TellsFirstOpen x None) c.as_slice.ensures.value c.in_default.ensures)
    (subst (λ (x : List Mark). TellsMessage c.args.repository.now x c.args.reach.now.message false) c.as_slice-2.ensures.value c.if-is_message_finite.ensures)
