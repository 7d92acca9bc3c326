-- What a text either has or has not.
use Rattle.std.proofs.Common.{◌≡◌, ◌≤◌, ◌^◌, ◌*ℤ◌, ◌↔◌, pos, ℕ, inl, inr, Bool, true, false, IsTrue, List, length, Option, Some, None, MatchOption, get_or, refl, arith}
use Rattle.std.specs.Str.{chars}
use Rattle.std.specs.Int.RustNames.{unsigned_abs}
use Rattle.std.specs.Int.Signed.{<ℤ-≤ℤ_trans, <ℤ_irrefl}
use Rattle.std.proofs.Math.Decide.{dec_le, dec_lt}
use Rattle.std.proofs.lemmas.Bool.{cases_lt}
use Rattle.std.proofs.lemmas.Int.{by_lt_z}
use Rattle.lexical_core.specs.Decimals.{Number}
use Rattle.pattern_match.specs.Reading.{IsPattern, HasPositionsWithin, Matches}
use Rattle.pattern_match.specs.inner.Refusal.{start, refused_from}
use Rattle.pattern_match.specs.inner.Counting.{counted_whole}
use Rattle.pattern_match.specs.Compiled.{tokens_of_text, code_of_text, first_marks, marks_from}
use Rattle.pattern_match.proofs.Refusing.{refused_at, not_refused}
use Rattle.pattern_match.proofs.Judging.{too_large, small_enough, all_small}
use Rattle.pattern_match.proofs.Matching.{accepts_is}
use Rattle.facets.specs.declared.simple.Bound.{Bound}
use Rattle.facets.specs.declared.simple.Simple.{Simple}
use Rattle.facets.specs.Facets.{HasLength, HasDigits, IsInRange, IsLess, IsBounded, IsAbove, IsBelow}

told : (b : Bool) (P : Type 0) → (IsTrue b ↔ P) → Dec P
told true P h = yes (h.0 refl)
told false P h = no (λ p. let t = h.1 p in absurd cc)

-- a text is a word of a pattern or not
pub matches_decided : (pattern w : List ℕ) → HasPositionsWithin (chars pattern) 65536 → Dec (Matches (chars pattern) w)
matches_decided pattern w small =
    let tokens = tokens_of_text (chars pattern) in
    let code = code_of_text (chars pattern) in
    let marks = marks_from tokens code (first_marks code) w in
    told (get_or marks (length code) false) (Matches (chars pattern) w)
    (accepts_is pattern tokens code marks w (record { pattern = small; tokens_are = refl; code_is = refl }) (record { marks_are = refl }))

-- a text is a pattern of so many positions at most or not
pub positions_decided : (text : List ℕ) → Dec (HasPositionsWithin text 65536)
positions_decided text = by (refused_from start 0 text) refl
  where
    small : IsPattern text → Dec (HasPositionsWithin text 65536)
    small read = elim (cases_lt 65536 (counted_whole (tokens_of_text text))) [
      | inl above ↦ (let more = too_large text read above in no (λ few. let most = all_small text more.0 more.1 few in let least = more.2 in omega (arith, most, least)))
      | inr below ↦ yes (small_enough text read below)
    ]

    by : (o : Option ℕ) → refused_from start 0 text ≡ o → Dec (HasPositionsWithin text 65536)
    by None e = small (not_refused text e)
    by (Some place) e = no (λ few. (refused_at text place e).none (few.0, few.1))

-- what cannot fail to hold holds
pub stable : {P : Type 0} → Dec P → ((P → ⊥) → ⊥) → P
stable (yes p) h = p
stable (no n) h = absurd (h n)

both : {P Q R : Type 0} → Dec P → Dec Q → (P → Q → R) → (R → P) → (R → Q) → Dec R
both (yes p) (yes q) make left right = yes (make p q)
both (no n) q make left right = no (λ r. n (left r))
both p (no n) make left right = no (λ r. n (right r))

most_decided : (o : Option ℕ) (n : ℕ) → Dec (MatchOption o (Unit {0}) (λ most. n ≤ most))
most_decided None n = yes tt
most_decided (Some most) n = dec_le n most

pub length_decided : (simple : Simple) (n : ℕ) → Dec (HasLength simple n)
length_decided simple n =
    both (dec_le simple.min n) (most_decided simple.max n) (λ p q. record { least = p; most = q }) (λ r. r.least) (λ r. r.most)

pub digits_decided : (simple : Simple) (n : Number) → Dec (HasDigits simple n)
digits_decided simple n =
    let few : Dec ((n.scale ≤ simple.total) × MatchOption simple.fraction (Unit {0}) (λ fraction. n.scale ≤ fraction)) =
    both (dec_le n.scale simple.total) (most_decided simple.fraction n.scale) (λ p q. (p, q)) (λ r. r.0) (λ r. r.1) in
    both (dec_lt (unsigned_abs n.whole) (10 ^ simple.total)) few (λ p q. record { total = p; scale = q.0; fraction = q.1 }) (λ r. r.total) (λ r. (r.scale, r.fraction))

less_decided : (m n : Number) → Dec (IsLess m n)
less_decided m n =
    by_lt_z (m.whole *ℤ pos (10 ^ n.scale)) (n.whole *ℤ pos (10 ^ m.scale)) (λ lt. yes lt) (λ le. no (λ lt. <ℤ_irrefl (<ℤ-≤ℤ_trans lt le)))

not_decided : {P : Type 0} → Dec P → Dec (P → ⊥)
not_decided (yes p) = no (λ n. n p)
not_decided (no n) = yes n

bounded_decided : (strict : Bool) (m n : Number) → Dec (IsBounded strict m n)
bounded_decided true m n = less_decided m n
bounded_decided false m n = not_decided (less_decided n m)

low_decided : (o : Option Bound) (n : Number) → Dec (MatchOption o (Unit {0}) (λ bound. IsAbove bound n))
low_decided None n = yes tt
low_decided (Some bound) n = bounded_decided bound.strict bound.value n

high_decided : (o : Option Bound) (n : Number) → Dec (MatchOption o (Unit {0}) (λ bound. IsBelow bound n))
high_decided None n = yes tt
high_decided (Some bound) n = bounded_decided bound.strict n bound.value

pub range_decided : (simple : Simple) (n : Number) → Dec (IsInRange simple n)
range_decided simple n = both (low_decided simple.low n) (high_decided simple.high n) (λ p q. record { low = p; high = q }) (λ r. r.low) (λ r. r.high)
