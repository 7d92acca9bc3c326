use Rattle.facets.proofs.CodeVerdicts.{code_fits}
use Rattle.facets.proofs.laws.a_code_fits.Goals as goal

pub returns : goal.returns
returns c = code_fits
