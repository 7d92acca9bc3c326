use Rattle.drill.specs.Growing.{growth_of, generator_of}
use Rattle.drill.proofs.growing.grow.Goals as goal

pub finish-requires : goal.finish-requires
finish-requires c =
    let generator = generator_of c.args.number in
    (growth_of c.args.size generator, c.in_ok-grow_all.ensures generator c.in_ok-sprout.ensures)
