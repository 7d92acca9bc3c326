-- What a count of characters stands for.
use Rattle.std.specs.Prelude.{◌≡◌, ℕ, ◌^◌, ◌-◌, ◌<◌, ◌≤◌, Bool, true, false, Some}
use Rattle.data_types.specs.declared.kind.Kind.TheVariants as kind
use Rattle.facets.specs.declared.count.Count.{Count}
use Rattle.facets.specs.declared.simple.Simple.{Simple}

abbrev pub HasCountedIn : Bool → ℕ → ℕ → Type 0
HasCountedIn true number n = (number ≡ 2 ^ 64 - 1) × (2 ^ 64 ≤ n)
HasCountedIn false number n = number ≡ n

-- so many were counted
abbrev pub HasCounted : Count → ℕ → Type 0
HasCounted c n = HasCountedIn c.is_more c.number n

-- there are more characters than a text of the simple type may have
abbrev pub IsTooLong : Simple → ℕ → Type 0
IsTooLong simple n = (simple.kind ≡ kind.Text) × (most : ℕ) × (simple.max ≡ Some most) × (most < n)
