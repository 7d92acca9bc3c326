use Rattle.der_codec.specs.inner.Elements.{edges_of}
use Rattle.der_codec.proofs.PiecesOpen.{on_ok_when}
use Rattle.der_codec.proofs.elements.begin_last.Goals as goal

pub returns-clause-begun : goal.returns-clause-begun
returns-clause-begun c = on_ok_when c.begin_elements.result _ _ c.begin_elements.ensures.begun (λ is. (edges_of c.begun_with-begun.result, c.begun_with-begun.ensures, is))

pub returns-clause-within : goal.returns-clause-within
returns-clause-within c = λ h. c.begin_elements.ensures.within (h (edges_of c.begun_with-begun.result) c.begun_with-begun.ensures)
