-- Where the reading of a text stops: the state of a machine, which the contracts of private functions alone cite.
use Rattle.std.specs.Prelude.{ℕ, ◌+◌, ◌-◌, if◌then◌else◌, Option, Some, None, List, [], ◌∷◌}
use Rattle.pattern_match.specs.Control.{reading, next_reading, may_end}
use Rattle.pattern_match.specs.declared.control.Control.TheVariants.{Start}
use Rattle.pattern_match.specs.declared.control.Reading.{Reading}

-- before the first character
abbrev pub start : Reading
start = reading Start 0

-- from a reading, or none, at the n-th character: where it stopped, or where the text may not end
abbrev pub refusal_place : Option Reading → ℕ → List ℕ → Option ℕ
refusal_place None n cs = Some (n - 1)
refusal_place (Some r) n [] = if may_end r then None else Some n
refusal_place (Some r) n (c ∷ cs) = refusal_place (next_reading r c) (n + 1) cs

-- from a reading at the n-th character
abbrev pub refused_from : Reading → ℕ → List ℕ → Option ℕ
refused_from r n cs = refusal_place (Some r) n cs
