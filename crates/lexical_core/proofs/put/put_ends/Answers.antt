-- Two stores.
use Rattle.std.proofs.Common.{◌-◌, rules, length}
use Rattle.std.proofs.lemmas.List.{take_rest}
use Rattle.lexical_core.proofs.PlacedBytes.{placed_ends}
use Rattle.lexical_core.proofs.put.put_ends.Goals as goal

pub returns : goal.returns
returns g c =
    let bytes = c.args.bytes.now in
    placed_ends bytes g.row.N (search rules) c.requires.covers.0 c.requires.covers.1 c.put_front.ensures
    (rw (take_rest bytes (length bytes - g.row.N)) at c.put_front-2.ensures)
