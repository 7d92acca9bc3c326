use Rattle.facets.proofs.CodeVerdicts.{flag_fits}
use Rattle.facets.proofs.laws.a_truth_value_fits.Goals as goal

pub returns : goal.returns
returns c = flag_fits
