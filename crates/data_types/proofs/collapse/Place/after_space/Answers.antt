use Rattle.std.proofs.Common.{inl, inr}
use Rattle.data_types.specs.declared.collapse.Place.TheVariants.{Within, Behind}
use Rattle.data_types.proofs.CollapseLemmas.{space_within, space_behind, at_place}
use Rattle.data_types.proofs.collapse.Place.after_space.Goals as goal

pub returns-in-Within-clause-text : goal.returns-in-Within-clause-text
returns-in-Within-clause-text c = λ x text collapsed space h. elim c.in-Within.is [
  | inl e ↦ space_within x text collapsed space (at_place c.args.self Within text collapsed e h)
  | inr e ↦ space_behind x text collapsed space (at_place c.args.self Behind text collapsed e h)
]
