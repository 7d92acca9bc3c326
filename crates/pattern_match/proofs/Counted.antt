-- The positions that are counted are those that the code is built by.
use Rattle.std.proofs.Common.{◌≡◌, ℕ, ◌+◌, Bool, true, false, cond, List, [], ◌∷◌, ◌++◌, length, map, refl, sym, ap, ◌∙◌}
use Rattle.pattern_match.specs.Building.{Built, sum_of, is_branch_empty, after_bar, after_close_of, after_open, after, build_behind, built_whole, nothing_built}
use Rattle.pattern_match.specs.inner.Counting.{Counted, counted_bar, counted_close_of, counted_close, counted_after, counted_tokens, counted_whole}
use Rattle.pattern_match.specs.declared.instruction.Instruction.TheVariants.{Bar as BarCode}
use Rattle.pattern_match.specs.declared.instruction.Begun.{Begun}
use Rattle.pattern_match.specs.declared.token.Token.{Token}
use Rattle.pattern_match.specs.declared.token.Token.TheVariants.{Open, Close, Bar, Single, Dot, Spaces, ClassStart, Member, Times}

-- what is counted where this is built
abbrev count_of : Built → Counted
count_of b = record { outer = map (λ g. g.total) b.begun; total = b.total; last = b.last }

count_close : (begun : List Begun) (b : Built) → count_of (after_close_of begun b) ≡ counted_close_of (map (λ g. g.total) begun) (count_of b)
count_close [] b = refl
count_close (g ∷ begun) b = refl

count_bar : (b : Built) → count_of (after_bar b) ≡ counted_bar (count_of b)
count_bar b = choose (is_branch_empty b)
  where
    choose : (x : Bool) → count_of (
        cond x (record { code = b.code; begun = b.begun; total = sum_of b; last = 0; start = 0; branch = b.branch; empty = true })
        (record { code = b.code ++ BarCode ∷ []; begun = b.begun; total = sum_of b; last = 0; start = 0; branch = length b.code + 1; empty = b.empty })
        ) ≡ counted_bar (count_of b)
    choose true = refl
    choose false = refl

count_after : (token : Token) (at : ℕ) (b : Built) → count_of (after token at b) ≡ counted_after token (count_of b)
count_after Open at b = refl
count_after Close at b = count_close b.begun b
count_after Bar at b = count_bar b
count_after (Single c) at b = refl
count_after Dot at b = refl
count_after Spaces at b = refl
count_after (ClassStart negated) at b = refl
count_after (Member low high) at b = refl
count_after (Times least most) at b = refl

count_built : (tokens : List Token) (at : ℕ) (b : Built) → count_of (build_behind at tokens b) ≡ counted_tokens tokens (count_of b)
count_built [] at b = refl
count_built (token ∷ tokens) at b = count_built tokens (at + 1) (after token at b) ∙ ap (λ c. counted_tokens tokens c) (count_after token at b)

pub whole_counted : (tokens : List Token) → counted_whole tokens ≡ (built_whole tokens).last
whole_counted tokens =
    let b = build_behind 0 tokens (after_open nothing_built) in
    ap (λ c. (counted_close c).last) (sym (count_built tokens 0 (after_open nothing_built)))
    ∙ ap (λ c. c.last) (sym (count_close b.begun b))
