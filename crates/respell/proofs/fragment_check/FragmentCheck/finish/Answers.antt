use Rattle.respell.proofs.CheckedFragments.{read_of, unread_of, refused_whole}
use Rattle.respell.proofs.FragmentSteps.{read_whole}
use Rattle.std.proofs.Common.{List, ℕ, subst, sym}
use Rattle.respell.specs.inner.FragmentReading.{HasReadAll}
use Rattle.respell.proofs.fragment_check.FragmentCheck.finish.Goals as goal

pub returns-in-Some : goal.returns-in-Some
returns-in-Some c bytes h =
    read_whole c.finish.result bytes h.short (c.finish.ensures bytes (subst (λ (l : List ℕ). HasReadAll c.in-Some.reader l bytes) (sym c.as_slice.ensures.value) (read_of c.args.self.now c.in-Some.reader bytes c.in-Some.is h)) h.short)

pub returns-in-None : goal.returns-in-None
returns-in-None c bytes h = refused_whole bytes h.short (unread_of c.args.self.now bytes c.in-None.is h).1
