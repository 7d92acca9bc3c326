use Rattle.std.proofs.Common.{length}
use Rattle.std.proofs.lemmas.Result.{on_ok_weaker}
use Rattle.pattern_match.proofs.BegunLemmas.{atom_depth, piece_leaves}
use Rattle.pattern_match.proofs.builder.Builder.take.Goals as goal

pub returns-in_default-clause-leaves : goal.returns-in_default-clause-leaves
returns-in_default-clause-leaves c =
    on_ok_weaker c.push_atom.result
    (λ r. piece_leaves c.args.token c.args.self.now c.push_atom.new.self
    (atom_depth c.args.token c.in_default.not-Open c.in_default.not-Close (length c.args.self.now.groups)) r c.push_atom.ensures.groups)
    c.push_atom.ensures.ready
