-- What the tokens of a text and their code tell of its trees.
use Rattle.std.proofs.Common.{◌≡◌, ℕ, ◌≤◌, ◌<◌, Some, List, [], refl, sym, ap, ◌∙◌, subst, arith, append-nil, inl}
use Rattle.pattern_match.specs.Expression.{Expression}
use Rattle.pattern_match.specs.Positions.{positions}
use Rattle.pattern_match.specs.Reading.{IsTreeOf, IsPattern, HasMorePositions, HasPositionsWithin, HasPositions}
use Rattle.pattern_match.specs.Spelling.{spelling}
use Rattle.pattern_match.specs.Tokens.{emit_tokens}
use Rattle.pattern_match.specs.Building.{cap_count, position_limit, built_whole}
use Rattle.pattern_match.specs.inner.Counting.{counted_whole}
use Rattle.pattern_match.specs.Compiled.{tokens_of_text, code_of_text}
use Rattle.pattern_match.specs.declared.control.Control.TheVariants.{Start}
use Rattle.pattern_match.proofs.Tokens.{tokens_then}
use Rattle.pattern_match.proofs.PlanOf.{whole}
use Rattle.pattern_match.proofs.Leading.{tree_lead}
use Rattle.pattern_match.proofs.PlanCode.{code}
use Rattle.pattern_match.proofs.CodeOf.{whole_built}
use Rattle.pattern_match.proofs.Counted.{whole_counted}

-- the tokens of a text are those of each of its trees
pub tree_tokens : (text : List ℕ) (t : Expression) → IsTreeOf text t → tokens_of_text text ≡ tokens_then t []
tree_tokens text t h =
    let l = tree_lead t Start 0 [] (inl refl) h.valid in
    ap (λ x. emit_tokens (Some Start) x) (sym (append-nil (spelling t) ∙ h.spelled)) ∙ l.2.tokens

-- so is their code
pub tree_code : (text : List ℕ) (t : Expression) → IsTreeOf text t → code_of_text text ≡ code (whole t)
tree_code text t h = ap (λ x. (built_whole x).code) (tree_tokens text t h) ∙ (whole_built t h.valid).0

pub tree_positions : (text : List ℕ) (t : Expression) → IsTreeOf text t → counted_whole (tokens_of_text text) ≡ cap_count (positions t)
tree_positions text t h = ap counted_whole (tree_tokens text t h) ∙ whole_counted (tokens_then t []) ∙ (whole_built t h.valid).1

pub too_large : (text : List ℕ) → IsPattern text → position_limit < counted_whole (tokens_of_text text) → HasMorePositions text position_limit
too_large text (t, h) l = (t, h, let e = tree_positions text t h in let x : position_limit < cap_count (positions t) = subst (λ y. position_limit < y) e l in omega arith)

pub small_enough : (text : List ℕ) → IsPattern text → counted_whole (tokens_of_text text) ≤ position_limit → HasPositionsWithin text position_limit
small_enough text (t, h) l = (t, h, let e = tree_positions text t h in let x : cap_count (positions t) ≤ position_limit = subst (λ y. y ≤ position_limit) e l in omega arith)

-- the positions that are counted are those of the pattern, as long as they are within the limit
pub measured_positions : (text : List ℕ) → IsPattern text → counted_whole (tokens_of_text text) ≤ position_limit → HasPositions text (counted_whole (tokens_of_text text))
measured_positions text (t, h) l = (t, h, let e = tree_positions text t h in omega arith)

-- and then they are within it
pub within_limit : (text : List ℕ) (n : ℕ) → HasPositions text n → n ≤ position_limit → HasPositionsWithin text position_limit
within_limit text n (t, h, e) l = (t, h, subst (λ m. m ≤ position_limit) (sym e) l)

-- all trees of a text are small enough where one is
pub all_small : (text : List ℕ) (t : Expression) → IsTreeOf text t → HasPositionsWithin text position_limit → positions t ≤ position_limit
all_small text t h (s, g, l) =
    let e : cap_count (positions t) ≡ cap_count (positions s) = sym (tree_positions text t h) ∙ tree_positions text s g in
    omega arith
