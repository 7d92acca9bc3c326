-- The built-in message breaks no rule.
use Rattle.reference_check.specs.Graph.{Place}
use Rattle.reference_check.specs.Rules as rules
use Rattle.message_model.specs.Ready.{MessageRule, OnObjects, BadFacets, BadPattern, BreaksMessageRule, IsReady}
use Rattle.drill.specs.BuiltIn.{contents, message_id}
use Rattle.drill.proofs.ReachedPlaces.{IsPlace, among}
use Rattle.drill.proofs.StructureRules.{is_there, is_one, entries_there, no_set, one_each, good_names, tags_differ, good_bounds, no_optional, no_alternatives, not_endless}
use Rattle.drill.proofs.OtherRules.{no_codes, not_left_out, good_facets, no_pattern, names_differ, not_many}

none_broken : (r : MessageRule) (p : Place) → IsPlace p → BreaksMessageRule contents message_id r p → ⊥
none_broken (OnObjects rules.NoMessage) p at = is_there p
none_broken (OnObjects rules.TwoMessages) p at = is_one p
none_broken (OnObjects rules.Dangling) p at = entries_there p at
none_broken (OnObjects rules.BadCurrency) p at = no_set p at
none_broken (OnObjects rules.NotOneReference) p at = one_each p at
none_broken (OnObjects rules.BadName) p at = good_names p at
none_broken (OnObjects rules.TagTwice) p at = tags_differ p at
none_broken (OnObjects rules.BadBounds) p at = good_bounds p at
none_broken (OnObjects rules.OptionalAlternative) p at = no_optional p at
none_broken (OnObjects rules.NoAlternatives) p at = no_alternatives p at
none_broken (OnObjects rules.Endless) p at = not_endless p at
none_broken (OnObjects rules.BadCodes) p at = no_codes p at
none_broken (OnObjects rules.LeftOutKind) p at = not_left_out p at
none_broken (OnObjects rules.NameTwice) p at = names_differ p at
none_broken (OnObjects rules.TooMany) p at = not_many p at
none_broken BadFacets p at = good_facets p at
none_broken BadPattern p at = no_pattern p at

pub is_ready : IsReady contents message_id
is_ready r p reach = none_broken r p (among p reach)
