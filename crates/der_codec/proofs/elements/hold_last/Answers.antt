use Rattle.der_codec.specs.inner.Elements.{edges_of}
use Rattle.der_codec.proofs.PiecesOpen.{on_ok_when}
use Rattle.der_codec.proofs.elements.hold_last.Goals as goal

pub returns-clause-held : goal.returns-clause-held
returns-clause-held c = on_ok_when c.hold_within.result _ _ c.hold_within.ensures.held (λ is. (edges_of c.begun_with-begun.result, c.begun_with-begun.ensures, is))

pub returns-clause-within : goal.returns-clause-within
returns-clause-within c = λ h. c.hold_within.ensures.within (h (edges_of c.begun_with-begun.result) c.begun_with-begun.ensures)
