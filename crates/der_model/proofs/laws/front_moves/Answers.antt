use Rattle.der_model.proofs.laws.front_moves.Goals as goal
use Rattle.der_model.proofs.MovedFaults as moved

pub returns-clause-clean : goal.returns-clause-clean
returns-clause-clean c = moved.front_moves

pub returns-clause-next : goal.returns-clause-next
returns-clause-next c = moved.next_part_moves
