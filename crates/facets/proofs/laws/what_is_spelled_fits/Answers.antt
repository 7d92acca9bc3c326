use Rattle.facets.proofs.FitLemmas.{given_fits}
use Rattle.facets.proofs.laws.what_is_spelled_fits.Goals as goal

pub returns : goal.returns
returns c = given_fits
