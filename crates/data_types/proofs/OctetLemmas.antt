-- Base64 in groups of four characters.
use Rattle.std.proofs.Common.{◌≡◌, ℕ, zero, suc, Option, ◌<◌, ◌≤◌, ◌%◌, ◌↔◌, ◌⊎◌, inl, inr, List, [], ◌∷◌, ◌++◌, length, take, drop, set, slice_index, refl, sym, ap, subst, ◌∙◌, arith, append_assoc, length-append}
use Rattle.std.proofs.Math.Seq.{take-append_seam, drop-append_seam}
use Rattle.std.proofs.lemmas.List.{append-nil}
use Rattle.base64.specs.Engines.{standard}
use Rattle.base64.specs.GeneralPurpose.{IsBytes, encode_of}
use Rattle.base64.specs.Rfc4648.{encode_symbols}
use Rattle.base64.proofs.EngineFacts.{encode_of-append, encode_of-nil, front_bytes, IsAscii-encode_of}
use Rattle.data_types.specs.declared.octets.Stage.{Stage}
use Rattle.data_types.specs.declared.octets.Stage.TheVariants.{Open, Ended}
use Rattle.data_types.specs.declared.octets.OctetStep.{OctetStep}
use Rattle.data_types.specs.OctetSteps.{RestIn, HasDecoded, IsOctetStep}
use Rattle.data_types.proofs.LeafLaws.{one_encoded}

-- the back of bytes is bytes
pub back_bytes : (a b : List ℕ) → IsBytes (a ++ b) → IsBytes b
back_bytes [] b h = h
back_bytes (x ∷ a) b h = back_bytes a b (λ i. h (suc i))

pub join_bytes : (a b : List ℕ) → IsBytes a → IsBytes b → IsBytes (a ++ b)
join_bytes [] b ha hb i = hb i
join_bytes (x ∷ a) b ha hb zero = ha 0
join_bytes (x ∷ a) b ha hb (suc i) = join_bytes a b (λ k. ha (suc k)) hb i

-- fronts of one length are the same, and so is what follows
same_split : (a x b y : List ℕ) → length a ≡ length b → a ++ x ≡ b ++ y → (a ≡ b) × (x ≡ y)
same_split a x b y len e = (
  sym (take-append_seam a x) ∙ (ap (take (length a)) e ∙ (ap (λ n. take n (b ++ y)) len ∙ take-append_seam b y)),
  sym (drop-append_seam a x) ∙ (ap (drop (length a)) e ∙ (ap (λ n. drop n (b ++ y)) len ∙ drop-append_seam b y)),
)

-- the octets of the first group, and those of the rest
record IsSplit (group more rest : List ℕ) : Type 0 where
  first : List ℕ
  others : List ℕ
  parts : rest ≡ first ++ others
  group_is : group ≡ encode_of standard first
  more_is : more ≡ encode_of standard others
  whole : (length first ≡ 3) ⊎ (others ≡ [])

-- a text of one group has nothing behind it
alone : (group more rest : List ℕ) → length group ≡ 4 → length (encode_of standard rest) ≡ 4 → group ++ more ≡ encode_of standard rest → IsSplit group more rest
alone group more rest four size e =
    let same = same_split group more (encode_of standard rest) [] (four ∙ sym size) (e ∙ sym (append-nil _)) in
    record {
      first = rest;
      others = [];
      parts = sym (append-nil rest);
      group_is = same.0;
      more_is = same.1 ∙ sym (encode_of-nil standard);
      whole = inr refl;
    }

split_group : (group more rest : List ℕ) → length group ≡ 4 → group ++ more ≡ encode_of standard rest → IsSplit group more rest
unfolding encode_symbols
split_group group more [] four e = absurd (let size : length (group ++ more) ≡ 0 = ap length e in omega (arith, length-append group more))
split_group group more (a ∷ []) four e = alone group more (a ∷ []) four refl e
split_group group more (a ∷ b ∷ []) four e = alone group more (a ∷ b ∷ []) four refl e
split_group group more (a ∷ b ∷ c ∷ others) four e =
    let first = a ∷ b ∷ c ∷ [] in
    let same = same_split group more (encode_of standard first) (encode_of standard others) four (e ∙ encode_of-append standard first others refl) in
    record { first = first; others = others; parts = refl; group_is = same.0; more_is = same.1; whole = inl refl }

-- a group that is the text of no octets begins nothing
pub group_of_none : (octets begun group : List ℕ) (last : ℕ) → length group ≡ 4 → begun ++ last ∷ [] ≡ group
    → ((o : List ℕ) → IsBytes o → group ≡ encode_of standard o → ⊥)
    → (more all : List ℕ) → IsBytes all → RestIn Open octets begun (last ∷ more) all → ⊥
group_of_none octets begun group last four is none more all bytes (rest, e, whole) =
    let s = split_group group more rest four (ap (λ g. g ++ more) (sym is) ∙ (append_assoc begun (last ∷ []) more ∙ e)) in
    none s.first (front_bytes s.first s.others (subst IsBytes s.parts (back_bytes octets rest (subst IsBytes whole bytes)))) s.group_is

-- the octets of a group, and what follows it
group_found : (octets begun group found : List ℕ) (last : ℕ) → length group ≡ 4 → begun ++ last ∷ [] ≡ group → IsBytes found → group ≡ encode_of standard found
    → (more all : List ℕ) → IsBytes all → RestIn Open octets begun (last ∷ more) all
    → (others : List ℕ) × (more ≡ encode_of standard others) × (all ≡ (octets ++ found) ++ others) × ((length found ≡ 3) ⊎ (others ≡ []))
group_found octets begun group found last four is fb text more all bytes (rest, e, whole) =
    let s = split_group group more rest four (ap (λ g. g ++ more) (sym is) ∙ (append_assoc begun (last ∷ []) more ∙ e)) in
    let first_bytes = front_bytes s.first s.others (subst IsBytes s.parts (back_bytes octets rest (subst IsBytes whole bytes))) in
    let same : s.first ≡ found = one_encoded s.first found first_bytes fb (sym s.group_is ∙ text) in (
      s.others,
      s.more_is,
      whole ∙ (ap (λ r. octets ++ r) (s.parts ∙ ap (λ f. f ++ s.others) same) ∙ sym (append_assoc octets found s.others)),
      subst (λ f. (length f ≡ 3) ⊎ (s.others ≡ [])) same s.whole,
    )

-- a group of three octets
pub group_of_three : (octets begun group found : List ℕ) (last : ℕ) → length group ≡ 4 → begun ++ last ∷ [] ≡ group → IsBytes found → group ≡ encode_of standard found
    → length found ≡ 3 → (more all : List ℕ) → IsBytes all → RestIn Open octets begun (last ∷ more) all ↔ RestIn Open (octets ++ found) [] more all
group_of_three octets begun group found last four is fb text three more all bytes = (
  λ h. let f = group_found octets begun group found last four is fb text more all bytes h in (f.0, f.1, f.2),
  λ (others, e, whole). (
    found ++ others,
    sym (append_assoc begun (last ∷ []) more) ∙ (ap (λ g. g ++ more) (is ∙ text) ∙ (ap (λ m. encode_of standard found ++ m) e
        ∙ sym (encode_of-append standard found others (ap (λ n. n % 3) three)))),
    whole ∙ append_assoc octets found others,
  ),
)

-- a group of fewer ends the text
pub group_of_fewer : (octets begun group found : List ℕ) (last : ℕ) → length group ≡ 4 → begun ++ last ∷ [] ≡ group → IsBytes found → group ≡ encode_of standard found
    → length found < 3 → (more all : List ℕ) → IsBytes all → RestIn Open octets begun (last ∷ more) all ↔ RestIn Ended (octets ++ found) [] more all
group_of_fewer octets begun group found last four is fb text few more all bytes = (
  λ h. ends (group_found octets begun group found last four is fb text more all bytes h),
  λ (none, whole). (
    found,
    ap (λ m. begun ++ last ∷ m) none ∙ (is ∙ text),
    whole,
  ),
)
  where
    ends : (others : List ℕ) × (more ≡ encode_of standard others) × (all ≡ (octets ++ found) ++ others) × ((length found ≡ 3) ⊎ (others ≡ [])) → (more ≡ []) × (all ≡ octets ++ found)
    ends (others, e, whole, inl three) = absurd (omega (arith, three, few))
    ends (others, e, whole, inr none) = (
      e ∙ (ap (encode_of standard) none ∙ encode_of-nil standard),
      whole ∙ (ap (λ o. (octets ++ found) ++ o) none ∙ append-nil _),
    )

-- no text has a character that is not ASCII
at_length : (a : List ℕ) (c : ℕ) (more : List ℕ) → slice_index (a ++ c ∷ more) (length a) ≡ c
at_length [] c more = refl
at_length (x ∷ a) c more = at_length a c more

pub no_ascii : (octets begun : List ℕ) (c : ℕ) → 128 ≤ c → (more all : List ℕ) → RestIn Open octets begun (c ∷ more) all → ⊥
no_ascii octets begun c past more all (rest, e, whole) =
    let small = IsAscii-encode_of standard rest (length begun) in
    let same : slice_index (encode_of standard rest) (length begun) ≡ c = ap (λ t. slice_index t (length begun)) (sym e) ∙ at_length begun c more in
    omega (arith, small, same, past)

-- a begun group of fewer than four characters is no text
pub no_short : (begun rest : List ℕ) → 0 < length begun → length begun ≤ 3 → begun ≡ encode_of standard rest → ⊥
unfolding encode_symbols
no_short begun [] some few e = let size : length begun ≡ 0 = ap length e in omega (arith, size, some)
no_short begun (a ∷ []) some few e = let size : length begun ≡ 4 = ap length e in omega (arith, size, few)
no_short begun (a ∷ b ∷ []) some few e = let size : length begun ≡ 4 = ap length e in omega (arith, size, few)
no_short begun (a ∷ b ∷ c ∷ others) some few e =
    let first = a ∷ b ∷ c ∷ [] in
    let size : length begun ≡ length (encode_of standard first ++ encode_of standard others) = ap length (e ∙ encode_of-append standard first others refl) in
    let four : length (encode_of standard first) ≡ 4 = refl in
    omega (arith, size, four, few, length-append (encode_of standard first) (encode_of standard others))

-- the first three characters and the last are the whole group
pub group_whole : (group : List ℕ) (last n : ℕ) → length group ≡ 4 → n ≡ 3 → (length (set group 3 last) ≡ 4) × (take n group ++ last ∷ [] ≡ set group 3 last)
group_whole (a ∷ b ∷ c ∷ d ∷ []) last n four three = (refl, ap (λ k. take k (a ∷ b ∷ c ∷ d ∷ []) ++ last ∷ []) three)
group_whole [] last n four three = absurd (omega (arith, four))
group_whole (a ∷ []) last n four three = absurd (omega (arith, four))
group_whole (a ∷ b ∷ []) last n four three = absurd (omega (arith, four))
group_whole (a ∷ b ∷ c ∷ []) last n four three = absurd (omega (arith, four))
group_whole (a ∷ b ∷ c ∷ d ∷ e ∷ rest) last n four three = absurd (omega (arith, four))

-- the same at a stage that is open
pub at_open : (stage : Stage) (octets begun more all : List ℕ) (X : Type 0) → stage ≡ Open → RestIn Open octets begun more all ↔ X → RestIn stage octets begun more all ↔ X
at_open stage octets begun more all X e h = subst (λ s. RestIn s octets begun more all ↔ X) (sym e) h

-- what no more characters say, at each stage
pub whole_open : (octets begun all : List ℕ) → begun ≡ [] → RestIn Open octets begun [] octets
whole_open octets begun all none = ([], append-nil begun ∙ (none ∙ sym (encode_of-nil standard)), sym (append-nil octets))

pub none_open : (octets begun all : List ℕ) → 0 < length begun → length begun ≤ 3 → RestIn Open octets begun [] all → ⊥
none_open octets begun all some few (rest, e, whole) = no_short begun rest some few (sym (append-nil begun) ∙ e)

-- the whole text of what was decoded
pub decoded_text : (stage : Stage) (octets begun text : List ℕ) → IsBytes octets
    → ((more all : List ℕ) → IsBytes all → (text ++ more ≡ encode_of standard all) ↔ RestIn stage octets begun more all)
    → RestIn stage octets begun [] octets → text ≡ encode_of standard octets
decoded_text stage octets begun text bytes h rest = sym (append-nil text) ∙ (h [] octets bytes).1 rest

pub decoded_none : (stage : Stage) (octets begun text all : List ℕ) → IsBytes all
    → ((more all : List ℕ) → IsBytes all → (text ++ more ≡ encode_of standard all) ↔ RestIn stage octets begun more all)
    → (RestIn stage octets begun [] all → ⊥) → text ≡ encode_of standard all → ⊥
decoded_none stage octets begun text all bytes h none e = none ((h [] all bytes).0 (append-nil text ∙ e))

-- what closing a group makes of the rest, by what the group holds
pub close_three : (stage : Stage) (octets begun group found now : List ℕ) (last : ℕ) → stage ≡ Open → length group ≡ 4 → begun ++ last ∷ [] ≡ group → IsBytes found
    → group ≡ encode_of standard found → length found ≡ 3 → now ≡ octets ++ found
    → (more all : List ℕ) → IsBytes all → RestIn stage octets begun (last ∷ more) all ↔ RestIn stage now [] more all
close_three stage octets begun group found now last is_open four is fb text three e more all bytes =
    rw (is_open, e) (group_of_three octets begun group found last four is fb text three more all bytes)

pub close_fewer : (stage : Stage) (octets begun group found now : List ℕ) (last : ℕ) → stage ≡ Open → length group ≡ 4 → begun ++ last ∷ [] ≡ group → IsBytes found
    → group ≡ encode_of standard found → length found < 3 → now ≡ octets ++ found
    → (more all : List ℕ) → IsBytes all → RestIn stage octets begun (last ∷ more) all ↔ RestIn Ended now [] more all
close_fewer stage octets begun group found now last is_open four is fb text few e more all bytes =
    rw (is_open, e) (group_of_fewer octets begun group found last four is fb text few more all bytes)

-- before any characters the rest is the whole text
pub no_octets : IsBytes []
no_octets = λ i. omega arith

pub before_any : (more all : List ℕ) → IsBytes all → ([] ++ more ≡ encode_of standard all) ↔ RestIn Open [] [] more all
before_any more all bytes = (λ e. (all, e, refl), λ (rest, e, whole). e ∙ ap (encode_of standard) (sym whole))

-- the rest of all characters so far is the rest behind the last of them
pub step_decoded : (old now : OctetStep) (c : ℕ) → IsOctetStep old c now → (most : Option ℕ) (text : List ℕ) → HasDecoded old most text → HasDecoded now most (text ++ c ∷ [])
step_decoded old now c step most text (octets, has, rest) =
    let next = step most octets has in
    let same = λ (more : List ℕ). append_assoc text (c ∷ []) more in (
      next.0,
      next.1,
      λ more all bytes. (
        λ e. (next.2 more all bytes).0 ((rest (c ∷ more) all bytes).0 (sym (same more) ∙ e)),
        λ r. same more ∙ (rest (c ∷ more) all bytes).1 ((next.2 more all bytes).1 r),
      ),
    )
