-- Long namespaces of open declarations in the order of their bytes.
use Rattle.std.specs.Prelude.{◌≡◌, ℕ, ◌+◌, ◌<◌, ◌≤◌, List, [], length, get_or, Option, Some, None}
use Rattle.std.specs.Cmp.Lexicographic.{slice_cmp}
use Rattle.std.specs.Ordering.{nat_cmp}
use Rattle.std.specs.declared.cmp.Ordering.TheVariants.{Less, Greater}
use Rattle.markup.specs.declared.open_bindings.Binding.{Binding}
use Rattle.markup.specs.declared.open_bindings.Kept.{Kept}

-- what stands for a declaration where there is none
abbrev pub no_binding : Binding
no_binding = record { prefix = []; namespace = []; former = None }

-- the same, of which nothing is said
abbrev pub no_kept : Kept
no_kept = record { binding = no_binding; like = None }

-- the namespace of the declaration at the place
abbrev pub kept_namespace : List Kept → ℕ → List ℕ
kept_namespace kept place = (get_or kept place no_kept).binding.namespace

-- the first place of that namespace, where it is said
abbrev pub like_at : List Kept → ℕ → Option ℕ
like_at kept place = (get_or kept place no_kept).like

-- the place that stands there in the order
abbrev pub ranked_at : List ℕ → ℕ → ℕ
ranked_at order rank = get_or order rank 0

-- The order has a place there, and it is this one.
pub record IsRankedAt (order : List ℕ) (rank place : ℕ) : Type 0 where
  pub within : rank < length order
  pub is : ranked_at order rank ≡ place

-- The place has the namespace of one that stands there in the order.
pub record HasRank (kept : List Kept) (order : List ℕ) (place rank : ℕ) : Type 0 where
  pub like : ℕ
  pub said : like_at kept place ≡ Some like
  pub stands : IsRankedAt order rank like

-- What a place is said to be like is not behind it and has its namespace; the order has places that are like themselves,
-- and their namespaces ascend.
pub record IsRanked (kept : List Kept) (order : List ℕ) : Type 0 where
  pub alike : (place like : ℕ) → like_at kept place ≡ Some like → (like ≤ place) × (kept_namespace kept like ≡ kept_namespace kept place)
  pub own : (rank : ℕ) → rank < length order → like_at kept (ranked_at order rank) ≡ Some (ranked_at order rank)
  pub ascend : (lower upper : ℕ) → lower < upper → upper < length order → slice_cmp nat_cmp (kept_namespace kept (ranked_at order lower)) (kept_namespace kept (ranked_at order upper)) ≡ Less

-- What stands before the spot is below the namespace.
pub record IsAboveLower (kept : List Kept) (order : List ℕ) (spot : ℕ) (namespace : List ℕ) : Type 0 where
  pub within : spot ≤ length order
  pub above : (rank : ℕ) → rank + 1 ≡ spot → slice_cmp nat_cmp (kept_namespace kept (ranked_at order rank)) namespace ≡ Less

-- What stands at the spot is above the namespace.
abbrev pub IsBelowUpper : List Kept → List ℕ → ℕ → List ℕ → Type 0
IsBelowUpper kept order spot namespace = spot < length order → slice_cmp nat_cmp (kept_namespace kept (ranked_at order spot)) namespace ≡ Greater

-- The namespace may be put there.
pub record FitsOrder (kept : List Kept) (order : List ℕ) (spot : ℕ) (namespace : List ℕ) : Type 0 where
  pub lower : IsAboveLower kept order spot namespace
  pub upper : IsBelowUpper kept order spot namespace

-- No place of the order is this one.
abbrev pub IsWithout : List ℕ → ℕ → Type 0
IsWithout order place = (rank : ℕ) → rank < length order → ranked_at order rank ≡ place → ⊥
