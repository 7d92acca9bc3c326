-- The ids that the element names are those of its three references.
use Rattle.std.proofs.Common.{◌++◌, ◌||◌}
use Rattle.reference_check.specs.Graph.{given_id}
use Rattle.reference_check.proofs.Joined.{names_none-append}
use Rattle.reference_check.proofs.references.is_dangling.Goals as goal

pub returns : goal.returns
returns c =
    let e = c.args.element.now in
    names_none-append c.args.repository.now (given_id e.simple ++ given_id e.complex) (given_id e.plain) (c.names_none-simple.result || c.names_none-complex.result) c.names_none-plain.result
    (names_none-append c.args.repository.now (given_id e.simple) (given_id e.complex) c.names_none-simple.result c.names_none-complex.result c.names_none-simple.ensures c.names_none-complex.ensures)
    c.names_none-plain.ensures
