-- What is kept of the records are texts.
use Rattle.code_sets.specs.inner.Given.{codes_in}
use Rattle.code_sets.proofs.JoinLemmas.{kept_texts}
use Rattle.code_sets.proofs.joining.join_into.Goals as goal

pub join_all-requires : goal.join_all-requires
join_all-requires c = kept_texts (codes_in c.in_ok-given.given) c.args.lists.now c.requires c.in_ok-given.ensures
