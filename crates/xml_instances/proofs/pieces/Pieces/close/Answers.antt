use Rattle.std.proofs.Common.{◌<◌, length}
use Rattle.inst_pool.specs.Pieces.{open_in}
use Rattle.xml_instances.proofs.KeptPieces.{closed_ok, still_closed, one_open, kept_as}
use Rattle.xml_instances.proofs.pieces.Pieces.close.Goals as goal

pub close-requires : goal.close-requires
close-requires c = (let some : 0 < length (open_in c.self.inside.builder.pieces) = rw (← c.self.view_is) at (c.is_closed.ensures.open c.if-is_closed.false) in some)

pub returns-then-is_closed : goal.returns-then-is_closed
returns-then-is_closed c s h = still_closed c.args.self.now s h (c.is_closed.ensures.closed c.if-is_closed.true)

pub returns : goal.returns
returns c =
    let some : 0 < length (open_in c.self.inside.builder.pieces) = rw (← c.self.view_is) at (c.is_closed.ensures.open c.if-is_closed.false) in
    let o = one_open c.self.inside.builder.pieces some in
    rw (← c.self.view_is) (λ s h. closed_ok (kept_as c.self.inside.builder.pieces c.self.inside.element) s c.close.new.self.pieces o.0 o.1 c.close.result h o.2 (c.close.ensures.ok o.0 o.1 o.2))
