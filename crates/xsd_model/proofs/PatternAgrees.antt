-- The pattern of a simple type is that of its facets.
use Rattle.std.proofs.Common.{◌≡◌, ◌⊎◌, ℕ, inl, inr, List, [], Option, Some, None, MatchOption, refl, subst}
use Rattle.std.specs.Option.{option_to_list}
use Rattle.std.specs.Str.{chars}
use Rattle.pattern_match.specs.Reading.{Matches, HasPositionsWithin}
use Rattle.facets.specs.declared.simple.Simple.{Simple}
use Rattle.facets.specs.Rules.{IsAsked, BreaksPattern}
use Rattle.xsd_model.specs.SimpleTexts.{MatchesOne}
use Rattle.xsd_model.specs.StepsOf.{IsSoundSimple}
use Rattle.xsd_model.proofs.Decided.{stable, matches_decided}

-- the pattern is asked of this text, and has it
pub matched : (simple : Simple) (text pattern asked : List ℕ) → IsSoundSimple simple → simple.pattern ≡ Some pattern → IsAsked simple.kind simple.codes text asked → (BreaksPattern simple text → ⊥)
    → Matches (chars pattern) asked
matched simple text pattern asked sound e ask holds =
    let small : HasPositionsWithin (chars pattern) 65536 =
    subst (λ (o : Option (List ℕ)). MatchOption o (Unit {0}) (λ p. HasPositionsWithin (chars p) 65536)) e sound.pattern in
    stable (matches_decided pattern asked small) (λ none. holds (pattern, asked, e, ask, none))

pub list_matches : (o : Option (List ℕ)) (shown : List ℕ) → ((pattern : List ℕ) → o ≡ Some pattern → Matches (chars pattern) shown) → (option_to_list o ≡ []) ⊎ MatchesOne (option_to_list o) shown
list_matches None shown h = inl refl
list_matches (Some pattern) shown h = inr (inl (h pattern refl))

pub matches_list : (o : Option (List ℕ)) (shown pattern : List ℕ) → (option_to_list o ≡ []) ⊎ MatchesOne (option_to_list o) shown → o ≡ Some pattern → Matches (chars pattern) shown
matches_list None shown pattern h e = absurd cc
matches_list (Some own) shown pattern (inl none) e = absurd cc
matches_list (Some own) shown pattern (inr (inl m)) e = let same : own ≡ pattern = cc in subst (λ p. Matches (chars p) shown) same m
matches_list (Some own) shown pattern (inr (inr none)) e = absurd none
