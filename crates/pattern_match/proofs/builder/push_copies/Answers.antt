use Rattle.std.proofs.Common.{◌≡◌, ℕ, suc, ◌+◌, ◌-◌, ◌<◌, Option, List, ◌++◌, ap, ◌∙◌, sym, append_assoc, arith}
use Rattle.pattern_match.specs.declared.instruction.Instruction.{Instruction}
use Rattle.pattern_match.specs.Building.{flagged_first, copies_code}
use Rattle.pattern_match.specs.inner.Drafting.{full_cells}
use Rattle.pattern_match.proofs.DraftLemmas.{full_append}
use Rattle.pattern_match.proofs.builder.push_copies.Goals as goal

one_copy : (f : List Instruction) (old new : List (Option Instruction)) (i n : ℕ) → i < n → new ≡ old ++ full_cells f
    → new ++ full_cells (copies_code (n - (i + 1)) f) ≡ old ++ full_cells (copies_code (n - i) f)
one_copy f old new i n l e =
    ap (λ x. x ++ full_cells (copies_code (n - (i + 1)) f)) e ∙ append_assoc old (full_cells f) (full_cells (copies_code (n - (i + 1)) f))
    ∙ ap (λ x. old ++ x) (sym (full_append f (copies_code (n - (i + 1)) f)))
    ∙ ap (λ k. old ++ full_cells (copies_code k f)) (let z : suc (n - (i + 1)) ≡ n - i = omega arith in z)

pub loop-i-preserved : goal.loop-i-preserved
loop-i-preserved c =
    one_copy (flagged_first c.args.optional c.args.repeated c.args.fragment.now) c.loop-i.code c.push_copy.new.code c.loop-i.i c.args.count
    c.loop-i-test.true c.in_ok-push_copy.ensures ∙ c.loop-i.invariant
