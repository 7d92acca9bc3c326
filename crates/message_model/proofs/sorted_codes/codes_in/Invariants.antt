use Rattle.std.proofs.Common.{◌≡◌, ℕ, map, Vec}
use Rattle.std.specs.declared.alloc.Global.{Global}
use Rattle.message_model.proofs.sorted_codes.codes_in.Given as goal

-- the texts that came
abbrev pub invariant-loop-text : goal.invariant-loop-text
invariant-loop-text l =
    (goal.iterator-loop-text).can_next l.text-iterator × (goal.iterator-loop-text).is_finite l.text-iterator
    × (l.codes ≡ map (λ (v : Vec ℕ Global). v.items) l.yielded)
