-- A part that may be left out or repeated, of a part that may be: the flags of both.
use Rattle.std.proofs.Common.{◌≡◌, ℕ, zero, suc, ◌+◌, ◌≤◌, ◌↔◌, inl, inr, Bool, true, false, ◌||◌, List, [], ◌++◌, refl, sym, ap, ◌∙◌, subst, arith, append-nil}
use Rattle.pattern_match.specs.Language.{Repeats, IsBoth}
use Rattle.pattern_match.specs.inner.Plan.{Flagged}
use Rattle.pattern_match.proofs.Planning.{both_map, repeats_add, repeats_map}

-- how many parts flags allow
abbrev Counts : Bool → Bool → ℕ → Type 0
Counts o r k = (o ≡ false → 1 ≤ k) × (r ≡ false → k ≤ 1)

one_part : (L : List ℕ → Type 0) (w : List ℕ) → L w → Repeats L 1 w
one_part L w p = (w, [], sym (append-nil w), p, refl)

part_of_one : (L : List ℕ → Type 0) (w : List ℕ) → Repeats L 1 w → L w
part_of_one L w (u, v, e, p, n) = subst L (sym (e ∙ ap (λ y. u ++ y) n ∙ append-nil u)) p

flagged_counts : (o r : Bool) (L : List ℕ → Type 0) (w : List ℕ) → Flagged o r L w → (k : ℕ) × Counts o r k × Repeats L k w
flagged_counts false false L w p = (1, (λ e. omega arith, λ e. omega arith), one_part L w p)
flagged_counts true false L w (inl e) = (0, (λ z. absurd (cc), λ z. omega arith), e)
flagged_counts true false L w (inr p) = (1, (λ z. omega arith, λ z. omega arith), one_part L w p)
flagged_counts false true L w (k, r) = (suc k, (λ z. omega arith, λ z. absurd (cc)), r)
flagged_counts true true L w (k, r) = (k, (λ z. absurd (cc), λ z. absurd (cc)), r)

counts_flagged : (o r : Bool) (L : List ℕ → Type 0) (w : List ℕ) (k : ℕ) → Counts o r k → Repeats L k w → Flagged o r L w
counts_flagged false false L w zero c r = absurd (let z : 1 ≤ 0 = c.0 refl in omega arith)
counts_flagged false false L w (suc zero) c r = part_of_one L w r
counts_flagged false false L w (suc (suc k)) c r = absurd (let z : suc (suc k) ≤ 1 = c.1 refl in omega arith)
counts_flagged true false L w zero c r = inl r
counts_flagged true false L w (suc zero) c r = inr (part_of_one L w r)
counts_flagged true false L w (suc (suc k)) c r = absurd (let z : suc (suc k) ≤ 1 = c.1 refl in omega arith)
counts_flagged false true L w zero c r = absurd (let z : 1 ≤ 0 = c.0 refl in omega arith)
counts_flagged false true L w (suc k) c r = (k, r)
counts_flagged true true L w k c r = (k, r)

-- a part is one that flags allow
flagged_part : (e s : Bool) (L : List ℕ → Type 0) (w : List ℕ) → L w → Flagged e s L w
flagged_part e s L w p = counts_flagged e s L w 1 (λ z. omega arith, λ z. omega arith) (one_part L w p)

-- parts of parts
flatten : (e s : Bool) (L : List ℕ → Type 0) (n : ℕ) (w : List ℕ) → Repeats (Flagged e s L) n w → (m : ℕ) × ((e ≡ false → n ≤ m) × (s ≡ false → m ≤ n)) × Repeats L m w
flatten e s L zero w r = (0, (λ z. omega arith, λ z. omega arith), r)
flatten e s L (suc n) w (u, v, q, p, r) =
    join (flagged_counts e s L u p) (flatten e s L n v r)
  where
    join : ((k : ℕ) × Counts e s k × Repeats L k u) → ((m : ℕ) × ((e ≡ false → n ≤ m) × (s ≡ false → m ≤ n)) × Repeats L m v)
        → (m : ℕ) × ((e ≡ false → suc n ≤ m) × (s ≡ false → m ≤ suc n)) × Repeats L m w
    join (k, c, a) (m, d, b) = (
      k + m,
      (λ z. let x : 1 ≤ k = c.0 z in let y : n ≤ m = d.0 z in omega arith, λ z. let x : k ≤ 1 = c.1 z in let y : m ≤ n = d.1 z in omega arith),
      repeats_add L k m w (u, v, q, a, b),
    )

or_false_left : (a b : Bool) → (a || b) ≡ false → a ≡ false
or_false_left false b h = refl
or_false_left true b h = absurd (cc)

or_false_right : (a b : Bool) → (a || b) ≡ false → b ≡ false
or_false_right false b h = h
or_false_right true b h = absurd (cc)

compose_forth : (o r e s : Bool) (L : List ℕ → Type 0) (w : List ℕ) → Flagged o r (Flagged e s L) w → Flagged (o || e) (r || s) L w
compose_forth o r e s L w f = join (flagged_counts o r (Flagged e s L) w f)
  where
    join : ((n : ℕ) × Counts o r n × Repeats (Flagged e s L) n w) → Flagged (o || e) (r || s) L w
    join (n, c, p) = all (flatten e s L n w p)
      where
        all : ((m : ℕ) × ((e ≡ false → n ≤ m) × (s ≡ false → m ≤ n)) × Repeats L m w) → Flagged (o || e) (r || s) L w
        all (m, d, q) = counts_flagged (o || e) (r || s) L w m (
          λ z. let x : 1 ≤ n = c.0 (or_false_left o e z) in let y : n ≤ m = d.0 (or_false_right o e z) in omega arith,
          λ z. let x : n ≤ 1 = c.1 (or_false_left r s z) in let y : m ≤ n = d.1 (or_false_right r s z) in omega arith,
        ) q

compose_back : (o r e s : Bool) (L : List ℕ → Type 0) (w : List ℕ) → Flagged (o || e) (r || s) L w → Flagged o r (Flagged e s L) w
compose_back o r e s L w f = join (flagged_counts (o || e) (r || s) L w f)
  where
    -- so many parts of one part each
    apart : (k : ℕ) → Counts o r k → Repeats L k w → Flagged o r (Flagged e s L) w
    apart k c q = counts_flagged o r (Flagged e s L) w k c (repeats_map L (Flagged e s L) (λ u p. flagged_part e s L u p) k w q)

    -- one part of them all
    whole : (k : ℕ) → Counts e s k → Repeats L k w → Flagged o r (Flagged e s L) w
    whole k c q = flagged_part o r (Flagged e s L) w (counts_flagged e s L w k c q)

    none : (o2 : Bool) → o ≡ o2 → ((o || e) ≡ false → 1 ≤ 0) → Repeats L 0 w → Flagged o r (Flagged e s L) w
    none true h c q = apart 0 (λ z. absurd (cc), λ z. omega arith) q
    none false h c q = whole 0 (λ z. absurd (let x : 1 ≤ 0 = c (ap (λ y. y || e) h ∙ z) in omega arith), λ z. omega arith) q

    more : (r2 : Bool) → r ≡ r2 → (j : ℕ) → ((r || s) ≡ false → suc (suc j) ≤ 1) → Repeats L (suc (suc j)) w → Flagged o r (Flagged e s L) w
    more true h j c q = apart (suc (suc j)) (λ z. omega arith, λ z. absurd (cc)) q
    more false h j c q = whole (suc (suc j)) (λ z. omega arith, λ z. absurd (let x : suc (suc j) ≤ 1 = c (ap (λ y. y || s) h ∙ z) in omega arith)) q

    join : ((k : ℕ) × Counts (o || e) (r || s) k × Repeats L k w) → Flagged o r (Flagged e s L) w
    join (zero, c, q) = none o refl c.0 q
    join (suc zero, c, q) = apart 1 (λ z. omega arith, λ z. omega arith) q
    join (suc (suc j), c, q) = more r refl j c.1 q

-- flags of flags
pub compose : (o r e s : Bool) (L : List ℕ → Type 0) (w : List ℕ) → Flagged o r (Flagged e s L) w ↔ Flagged (o || e) (r || s) L w
compose o r e s L w = (λ f. compose_forth o r e s L w f, λ f. compose_back o r e s L w f)

pub flagged_map : (o r : Bool) (L M : List ℕ → Type 0) → ((u : List ℕ) → L u → M u) → (w : List ℕ) → Flagged o r L w → Flagged o r M w
flagged_map false false L M f w x = f w x
flagged_map true false L M f w (inl z) = inl z
flagged_map true false L M f w (inr x) = inr (f w x)
flagged_map false true L M f w (k, r) = (k, repeats_map L M f (suc k) w r)
flagged_map true true L M f w (k, r) = (k, repeats_map L M f k w r)

-- the same parts, and then the same
pub flagged_both : (o r : Bool) (L M Q : List ℕ → Type 0) → ((u : List ℕ) → L u ↔ M u) → (w : List ℕ) → IsBoth (Flagged o r L) Q w ↔ IsBoth (Flagged o r M) Q w
flagged_both o r L M Q f w = (
  λ x. both_map (Flagged o r L) Q (Flagged o r M) Q w (λ u y. flagged_map o r L M (λ z p. (f z).0 p) u y) (λ u y. y) x,
  λ x. both_map (Flagged o r M) Q (Flagged o r L) Q w (λ u y. flagged_map o r M L (λ z p. (f z).1 p) u y) (λ u y. y) x,
)

-- a part, and then nothing
pub both_nothing : (P : List ℕ → Type 0) (w : List ℕ) → IsBoth P (λ u. u ≡ []) w ↔ P w
both_nothing P w = (λ x. subst P (sym (x.2 ∙ ap (λ y. x.0 ++ y) x.4 ∙ append-nil x.0)) x.3, λ p. (w, [], sym (append-nil w), p, refl))
