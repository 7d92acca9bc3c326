use Rattle.std.proofs.Common.{◌≡◌}
use Rattle.inst_pool.specs.Pieces.{open_in}
use Rattle.xml_instances.specs.Built.{type_at}
use Rattle.xml_instances.proofs.KeptPieces.{begun_ok, kept_as}
use Rattle.xml_instances.proofs.pieces.Pieces.begin.Goals as goal

pub returns : goal.returns
returns c =
    let parent : c.innermost-parent.result ≡ type_at (open_in c.self.inside.builder.pieces) = rw (← c.self.view_is) at c.innermost-parent.ensures in
    rw (← c.self.view_is) (λ s h. begun_ok (kept_as c.self.inside.builder.pieces c.self.inside.element) s c.args.slot c.args.target c.innermost-parent.result c.begin.new.self.pieces c.begin.result h parent c.begin.ensures.ok)
