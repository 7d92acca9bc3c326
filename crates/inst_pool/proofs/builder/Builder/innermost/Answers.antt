use Rattle.std.proofs.Common.{◌-◌, ◌∙◌, length, ap}
use Rattle.std.specs.Prelude.{slice_get}
use Rattle.std.specs.Option.{option_map}
use Rattle.inst_pool.specs.Pieces.{edge_of}
use Rattle.inst_pool.proofs.BuildingLemmas.{innermost_last}
use Rattle.inst_pool.proofs.builder.Builder.innermost.Goals as goal

pub returns-in-Some : goal.returns-in-Some
returns-in-Some c =
    rw (← c.self.view_is) (ap (option_map edge_of) (c.in-Some.ensures.value ∙ ap (λ l. slice_get l (length l - 1)) c.deref.ensures.value) ∙ innermost_last c.self.inside.blocks c.self.invariant)

pub returns-in-None : goal.returns-in-None
returns-in-None c =
    rw (← c.self.view_is) (ap (option_map edge_of) (c.in-None.ensures.value ∙ ap (λ l. slice_get l (length l - 1)) c.deref.ensures.value) ∙ innermost_last c.self.inside.blocks c.self.invariant)
