use Rattle.data_types.proofs.CollapseLemmas.{spaces_after}
use Rattle.data_types.proofs.collapse.Collapse.take_spaces.Goals as goal

pub returns : goal.returns
returns c = λ text collapsed spaces some are h.
    spaces_after c.args.self.now.place c.after_space-self.result text collapsed spaces some are c.after_space-self.ensures.text c.after_space-self.ensures.place h
