-- What a record breaks, by its fields; and the codes of records that grow at their end.
use Rattle.std.proofs.Common.{◌≡◌, ℕ, suc, ◌+◌, ◌≤◌, Bool, true, false, true≢false, List, [], ◌∷◌, ◌++◌, length, Option, Some, None, is_some, IsUtf8, Bor, refl, sym, ap, ◌∙◌, subst, arith}
use Rattle.std.specs.Option.{option_map}
use Rattle.csv.specs.Records.{AllText, field_at}
use Rattle.code_sets.specs.declared.record.CodeRecord.{CodeRecord}
use Rattle.code_sets.specs.Codes.{Fields, IsCode, HasCode, BreaksRecordRule, not_two, no_text, no_code, IsSoundRecord, IsLeastRecordRule, AreSoundRecords, numbered_records}

-- ---- how many fields

pub first_none : (fs : Fields) → field_at fs 0 ≡ None → length fs ≡ 2 → ⊥
unfolding field_at
first_none [] h e = omega (arith, e)
first_none (a ∷ fs) h e = true≢false (ap is_some h)

pub second_none : (fs : Fields) → field_at fs 1 ≡ None → length fs ≡ 2 → ⊥
unfolding field_at
second_none [] h e = omega (arith, e)
second_none (a ∷ []) h e = omega (arith, e)
second_none (a ∷ (b ∷ fs)) h e = true≢false (ap is_some h)

pub third_some : (fs : Fields) → is_some (field_at fs 2) ≡ true → length fs ≡ 2 → ⊥
unfolding field_at
third_some [] h e = omega (arith, e)
third_some (a ∷ []) h e = omega (arith, e)
third_some (a ∷ (b ∷ [])) h e = true≢false (sym h)
third_some (a ∷ (b ∷ (c ∷ fs))) h e = omega (arith, e)

pub two_fields : (fs : Fields) (a b : List ℕ) → field_at fs 0 ≡ Some a → field_at fs 1 ≡ Some b → is_some (field_at fs 2) ≡ false → fs ≡ a ∷ (b ∷ [])
unfolding field_at
two_fields [] a b h k n = absurd (true≢false (sym (ap is_some h)))
two_fields (x ∷ []) a b h k n = absurd (true≢false (sym (ap is_some k)))
two_fields (x ∷ (y ∷ [])) a b h k n =
    let e : x ≡ a = ap (λ (r : Option (List ℕ)). elim r [ None ↦ x | Some v ↦ v ]) h in
    let f : y ≡ b = ap (λ (r : Option (List ℕ)). elim r [ None ↦ y | Some v ↦ v ]) k in
    λ i. e i ∷ (f i ∷ [])
two_fields (x ∷ (y ∷ (z ∷ fs))) a b h k n = absurd (true≢false n)

-- what a look-up gives, as a test
pub look_up : (r : Option (Bor (List ℕ))) (o : Option (List ℕ)) (b : Bool) → option_map (λ s. s.now) r ≡ o → is_some r ≡ b → is_some o ≡ b
look_up None o b e h = ap is_some (sym e) ∙ h
look_up (Some x) o b e h = ap is_some (sym e) ∙ h

-- ---- the least rule

pub least_one : (fs : Fields) → (length fs ≡ 2 → ⊥) → IsLeastRecordRule fs 1
least_one fs h = (not_two h refl, λ other b. by other b)
  where
    by : (other : ℕ) → BreaksRecordRule fs other → 1 ≤ other
    by other (not_two k e) = omega (arith, e)
    by other (no_text k e) = omega (arith, e)
    by other (no_code k l e) = omega (arith, e)

pub least_two : (fs : Fields) (a b : List ℕ) → fs ≡ a ∷ (b ∷ []) → (IsUtf8 a → IsUtf8 b → ⊥) → IsLeastRecordRule fs 2
unfolding AllText
least_two fs a b e h = (no_text (λ t. let u : AllText (a ∷ (b ∷ [])) = subst AllText e t in h u.0 u.1.0) refl, λ other b'. by other b')
  where
    by : (other : ℕ) → BreaksRecordRule fs other → 2 ≤ other
    by other (not_two k f) = absurd (k (ap length e))
    by other (no_text k f) = omega (arith, f)
    by other (no_code k l f) = omega (arith, f)

pub least_three : (fs : Fields) (a b : List ℕ) → fs ≡ a ∷ (b ∷ []) → IsUtf8 a → IsUtf8 b → (IsCode b → ⊥) → IsLeastRecordRule fs 3
unfolding AllText
least_three fs a b e ta tb h = (no_code (ap length e) (λ c. h (subst HasCode e c)) refl, λ other b'. by other b')
  where
    by : (other : ℕ) → BreaksRecordRule fs other → 3 ≤ other
    by other (not_two k f) = absurd (k (ap length e))
    by other (no_text k f) = absurd (k (subst AllText (sym e) (ta, (tb, tt))))
    by other (no_code k l f) = omega (arith, f)

pub sound_two : (fs : Fields) (a b : List ℕ) → fs ≡ a ∷ (b ∷ []) → IsUtf8 a → IsUtf8 b → IsCode b → IsSoundRecord fs
unfolding AllText
sound_two fs a b e ta tb c rule (not_two k f) = k (ap length e)
sound_two fs a b e ta tb c rule (no_text k f) = k (subst AllText (sym e) (ta, (tb, tt)))
sound_two fs a b e ta tb c rule (no_code k l f) = l (subst HasCode (sym e) c)

-- ---- records that grow

pub sound_more : (rows : List Fields) (fs : Fields) → AreSoundRecords rows → IsSoundRecord fs → AreSoundRecords (rows ++ fs ∷ [])
sound_more [] fs h k = (k, tt)
sound_more (r ∷ rows) fs h k = (h.0, sound_more rows fs h.1 k)

-- a record that breaks no rule has two fields
pair_of : (fs : Fields) → IsSoundRecord fs → (a : List ℕ) × (b : List ℕ) × (fs ≡ a ∷ (b ∷ []))
pair_of [] h = absurd (h 1 (not_two (λ e. omega (arith, e)) refl))
pair_of (a ∷ []) h = absurd (h 1 (not_two (λ e. omega (arith, e)) refl))
pair_of (a ∷ (b ∷ [])) h = (a, b, refl)
pair_of (a ∷ (b ∷ (c ∷ fs))) h = absurd (h 1 (not_two (λ e. omega (arith, e)) refl))

pub numbered_more : (n : ℕ) (rows : List Fields) (a b : List ℕ) → AreSoundRecords rows
    → numbered_records n (rows ++ (a ∷ (b ∷ [])) ∷ []) ≡ numbered_records n rows ++ record { number = n + length rows; set = a; code = b } ∷ []
numbered_more n [] a b h = ap (λ k. record { number = k; set = a; code = b } ∷ []) (plus_zero n)
  where
    plus_zero : (n : ℕ) → n ≡ n + 0
    plus_zero n = omega arith
numbered_more n (r ∷ rows) a b h = by r (pair_of r h.0) (numbered_more (suc n) rows a b h.1)
  where
    next : (n k : ℕ) → suc n + k ≡ n + suc k
    next n k = omega arith

    by : (r : Fields) → (x : List ℕ) × (y : List ℕ) × (r ≡ x ∷ (y ∷ [])) → numbered_records (suc n) (rows ++ (a ∷ (b ∷ [])) ∷ []) ≡ numbered_records (suc n) rows ++ record { number = suc n + length rows; set = a; code = b } ∷ []
        → numbered_records n (r ∷ (rows ++ (a ∷ (b ∷ [])) ∷ [])) ≡ numbered_records n (r ∷ rows) ++ record { number = n + length (r ∷ rows); set = a; code = b } ∷ []
    by r (x, y, e) later =
        subst (λ (q : Fields). numbered_records n (q ∷ (rows ++ (a ∷ (b ∷ [])) ∷ [])) ≡ numbered_records n (q ∷ rows) ++ record { number = n + suc (length rows); set = a; code = b } ∷ []) (sym e)
        (ap (λ l. record { number = n; set = x; code = y } ∷ l)
        (later ∙ ap (λ k. numbered_records (suc n) rows ++ record { number = k; set = a; code = b } ∷ []) (next n (length rows))))

pub numbered_length : (n : ℕ) (rows : List Fields) → AreSoundRecords rows → length (numbered_records n rows) ≡ length rows
numbered_length n [] h = refl
numbered_length n (r ∷ rows) h = by r (pair_of r h.0) (numbered_length (suc n) rows h.1)
  where
    by : (r : Fields) → (x : List ℕ) × (y : List ℕ) × (r ≡ x ∷ (y ∷ [])) → length (numbered_records (suc n) rows) ≡ length rows → length (numbered_records n (r ∷ rows)) ≡ suc (length rows)
    by r (x, y, e) later = subst (λ (q : Fields). length (numbered_records n (q ∷ rows)) ≡ suc (length rows)) (sym e) (ap suc later)

pub lists_more : (rows : List Fields) (fs : Fields) (a b : List ℕ) (lists : List CodeRecord) (r : CodeRecord) (n : ℕ) → lists ≡ numbered_records 1 rows → AreSoundRecords rows
    → fs ≡ a ∷ (b ∷ []) → n ≡ length lists → r ≡ record { number = n + 1; set = a; code = b } → lists ++ r ∷ [] ≡ numbered_records 1 (rows ++ fs ∷ [])
lists_more rows fs a b lists r n e sound pair long is =
    let k : n + 1 ≡ 1 + length rows = omega (arith, long, ap length e, numbered_length 1 rows sound) in
    (λ i. e i ++ is i ∷ [])
    ∙ ap (λ m. numbered_records 1 rows ++ record { number = m; set = a; code = b } ∷ []) k
    ∙ sym (numbered_more 1 rows a b sound)
    ∙ ap (λ (q : Fields). numbered_records 1 (rows ++ q ∷ [])) (sym pair)

pub number_of_next : (rows : List Fields) (lists : List CodeRecord) (n : ℕ) → lists ≡ numbered_records 1 rows → AreSoundRecords rows → n ≡ length lists → n + 1 ≡ length rows + 1
number_of_next rows lists n e sound long = omega (arith, long, ap length e, numbered_length 1 rows sound)
