-- Steps of the derivation of a simple type (XML Schema part 2 §4.1.2).
use Rattle.std.specs.Prelude.{ℕ, zero, suc, [], Option, Some, None}
use Rattle.data_types.specs.declared.kind.Kind.{Kind}
use Rattle.facets.specs.declared.step.Step.{Step}

-- a step without facets
abbrev pub plain_step : Option Kind → Step
plain_step base = record { base = base; total = None; fraction = None; low = None; high = None; min = None; max = None; codes = []; patterns = [] }

-- a least length is written only above 0
abbrev pub least_written : ℕ → Option ℕ
least_written zero = None
least_written (suc n) = Some (suc n)
