use Rattle.pattern_match.proofs.Matching.{decided}
use Rattle.pattern_match.proofs.laws.a_word_matches_or_not.Goals as goal

pub returns : goal.returns
returns c = decided
