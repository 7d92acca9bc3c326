use Rattle.lexical_core.proofs.put.+put_fixed.Given as goal

abbrev pub decreases-put_fixed : goal.decreases-put_fixed
decreases-put_fixed l = l.count
