use Rattle.std.proofs.Common.{◌≡◌, ◌+◌, ◌-◌, ◌≤◌, ◌∷◌, ℕ, false, List, drop, take, get_or, length, sym, ap, ap₂, ◌∙◌, subst, add-one, length-drop, arith}
use Rattle.std.proofs.lemmas.List.{drop-set}
use Rattle.std.proofs.Math.Seq.{drop-cons, take-length}
use Rattle.pattern_match.specs.Gaps.{gap_of, gaps}
use Rattle.pattern_match.specs.declared.instruction.Instruction.TheVariants.{Take}
use Rattle.pattern_match.proofs.Quiet.{gaps_bound}
use Rattle.pattern_match.proofs.gaps.fill_gap.Goals as goal

all_behind : (xs : List ℕ) (n : ℕ) → take (length xs - n) (drop n xs) ≡ drop n xs
all_behind xs n = ap (λ k. take k (drop n xs)) (sym (length-drop n xs)) ∙ take-length (drop n xs)

pub gap_before-gap-requires : goal.gap_before-gap-requires
gap_before-gap-requires c =
    subst (λ ks. (k : ℕ) → k ≤ length ks → get_or ks k 0 + k ≤ length ks) (sym (all_behind c.args.gaps.now (c.args.i + 1) ∙ c.requires.later))
    (gaps_bound (drop (c.args.i + 1) c.args.code.now))

pub returns : goal.returns
returns c =
    let i = c.args.i in
    let code = c.args.code.now in
    drop-set c.args.gaps.now i c.gap_before-gap.result (omega arith)
    ∙ ap₂ (λ x ys. x ∷ ys) (c.gap_before-gap.ensures ∙ ap (λ ks. gap_of (get_or code i (Take 0 false false)) ks) (all_behind c.args.gaps.now (i + 1) ∙ c.requires.later)) c.requires.later
    ∙ ap (λ k. gap_of (get_or code i (Take 0 false false)) (gaps (drop k code)) ∷ gaps (drop k code)) (add-one i)
    ∙ ap gaps (sym (drop-cons code i (Take 0 false false) c.requires.inside))
