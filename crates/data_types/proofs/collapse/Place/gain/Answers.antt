use Rattle.std.proofs.Common.{inl, inr}
use Rattle.data_types.specs.declared.collapse.Place.TheVariants.{Before, Within, Behind}
use Rattle.data_types.proofs.CollapseLemmas.{char_before, char_within, char_behind, at_place}
use Rattle.data_types.proofs.collapse.Place.gain.Goals as goal

pub returns-in-Before : goal.returns-in-Before
returns-in-Before c = λ x text collapsed none h. elim c.in-Before.is [
  | inl e ↦ char_before x text collapsed none (at_place c.args.self Before text collapsed e h)
  | inr e ↦ char_within x text collapsed none (at_place c.args.self Within text collapsed e h)
]

pub returns-in-Behind : goal.returns-in-Behind
returns-in-Behind c = λ x text collapsed none h. char_behind x text collapsed none (at_place c.args.self Behind text collapsed c.in-Behind.is h)
