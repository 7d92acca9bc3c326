-- When the facets of an object are out of bounds (XML Schema part 2 §4.3).
use Rattle.std.specs.Prelude.{◌≡◌, ℕ, ◌<◌, ◌⊎◌, Bool, true, false, IsTrue, [], Option, Some, None}
use Rattle.lexical_core.specs.Decimals.{Number}
use Rattle.facets.specs.Facets.{IsLess}
use Rattle.repo_objects.specs.declared.objects.Object.{Object}
use Rattle.repo_objects.specs.declared.objects.RawFacets.{RawFacets}
use Rattle.reference_check.specs.Rules.{set_codes}

-- both are given, and the first is above the second
abbrev pub IsAboveIfAny : Option ℕ → Option ℕ → Type 0
IsAboveIfAny (Some low) (Some high) = high < low
IsAboveIfAny _ _ = ⊥

-- a least length above a greatest; `length` is both: §4.3.1 to §4.3.3
abbrev pub HasBadLengths : RawFacets → Type 0
HasBadLengths f = IsAboveIfAny f.min_length f.max_length ⊎ IsAboveIfAny f.min_length f.length ⊎ IsAboveIfAny f.length f.max_length

-- the number of digits; where it is absent, 18
abbrev pub total_of : Option ℕ → ℕ
total_of None = 18
total_of (Some n) = n

-- no digit, more than 18, or more after the point than there are in all: §4.3.11, §4.3.12
abbrev pub HasBadDigits : RawFacets → Type 0
HasBadDigits f = (total_of f.total ≡ 0) ⊎ (18 < total_of f.total) ⊎ IsAboveIfAny f.fraction (Some (total_of f.total))

-- both bounds of a side
abbrev pub AreBoth : Option Number → Option Number → Type 0
AreBoth (Some m) (Some n) = Unit {0}
AreBoth _ _ = ⊥

-- no number is between two bounds that are given: the upper is below the lower, or equal to it where one of them is strict
abbrev pub HoldNothing : Bool → Option Number → Option Number → Type 0
HoldNothing strict (Some low) (Some high) = IsLess high low ⊎ (IsTrue strict × (low ≡ high))
HoldNothing strict _ _ = ⊥

-- an inclusive and a strict bound on one side, or a lower and an upper one with no number between: §4.3.7 to §4.3.10
abbrev pub HasBadBounds : RawFacets → Type 0
HasBadBounds f = AreBoth f.min_in f.min_ex ⊎ AreBoth f.max_in f.max_ex
    ⊎ HoldNothing false f.min_in f.max_in ⊎ HoldNothing true f.min_in f.max_ex ⊎ HoldNothing true f.min_ex f.max_in ⊎ HoldNothing true f.min_ex f.max_ex

-- A facet that the kind does not have is none, so this asks all of them. A code set with codes has no facets.
abbrev pub HasBadFacets : Object → Type 0
HasBadFacets o = (set_codes o ≡ []) × (HasBadLengths o.facets ⊎ HasBadDigits o.facets ⊎ HasBadBounds o.facets)
