use Rattle.std.proofs.Common.{◌≡◌, inl, inr}
use Rattle.data_types.specs.declared.collapse.Place.TheVariants.{Before, Within, Behind}
use Rattle.data_types.proofs.CollapseLemmas.{word_at, word_behind, at_place}
use Rattle.data_types.proofs.collapse.Place.has_gap.Goals as goal

before_word : Before ≡ Behind → ⊥
before_word e = absurd cc

in_word : Within ≡ Behind → ⊥
in_word e = absurd cc

pub returns-in-Before : goal.returns-in-Before
returns-in-Before c = λ text collapsed word is h. elim c.in-Before.is [
  | inl e ↦ word_at Before text collapsed word before_word is (at_place c.args.self Before text collapsed e h)
  | inr e ↦ word_at Within text collapsed word in_word is (at_place c.args.self Within text collapsed e h)
]

pub returns-in-Behind : goal.returns-in-Behind
returns-in-Behind c = λ text collapsed word is h. word_behind text collapsed word is (at_place c.args.self Behind text collapsed c.in-Behind.is h)
