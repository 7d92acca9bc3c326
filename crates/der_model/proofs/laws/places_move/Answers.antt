use Rattle.der_model.proofs.laws.places_move.Goals as goal
use Rattle.der_model.proofs.MovedFaults as moved

pub returns-clause-fault : goal.returns-clause-fault
returns-clause-fault c = moved.places_move

pub returns-clause-before : goal.returns-clause-before
returns-clause-before c = moved.no_fault_before

pub returns-clause-whole : goal.returns-clause-whole
returns-clause-whole c = moved.whole_moves

pub returns-clause-end : goal.returns-clause-end
returns-clause-end c = moved.whole_ends
