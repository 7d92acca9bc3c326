-- Bytes of codes have one answer: the codes that they say, or the first record that breaks a rule.
use Rattle.std.proofs.Common.{◌≡◌, ℕ, List, [], ◌∷◌, ◌++◌, length, Option, Some, None, is_some, unwrap_or, true≢false, refl, sym, ap, ◌∙◌, subst, arith, ◌⊎◌, inl, inr, append_assoc, append-nil, length-append}
use Rattle.std.proofs.lemmas.List.{nil_from_length}
use Rattle.csv.specs.Machine.{Read, next_record}
use Rattle.csv.specs.Reading.{Reached, default_config, strip_bom}
use Rattle.csv.specs.declared.parser.Config.{Config}
use Rattle.csv.specs.declared.parser.State.{State}
use Rattle.csv.specs.declared.parser.State.TheVariants as st
use Rattle.code_sets.specs.declared.record.CodeRecord.{CodeRecord}
use Rattle.code_sets.specs.Codes.{Fields, AreSoundRecords, IsLeastRecordRule, ReadsCodes, ReadFault, numbered_records}

-- one list of records begins with the other
abbrev Agree : List Fields → List Fields → Type 0
Agree rs ts = ((more : List Fields) × (ts ≡ rs ++ more)) ⊎ ((more : List Fields) × (rs ≡ ts ++ more))

read_same : (o : Option Read) (p q : Read) → o ≡ Some p → o ≡ Some q → p ≡ q
read_same o p q e f = ap (λ (r : Option Read). unwrap_or r p) (sym e ∙ f)

agree_more : (r t : Fields) (rs ts : List Fields) → r ≡ t → Agree rs ts → Agree (r ∷ rs) (t ∷ ts)
agree_more r t rs ts e (inl (more, h)) = inl (more, λ i. sym e i ∷ h i)
agree_more r t rs ts e (inr (more, h)) = inr (more, λ i. e i ∷ h i)

fronts_agree : (cfg : Config) (s : State) (xs : List ℕ) (rs ts : List Fields) (s1 s2 : State) (ys zs : List ℕ) → Reached cfg s xs rs s1 ys → Reached cfg s xs ts s2 zs → Agree rs ts
unfolding Reached
fronts_agree cfg s xs [] ts s1 s2 ys zs h k = inl (ts, refl)
fronts_agree cfg s xs (r ∷ rs) [] s1 s2 ys zs h k = inr (r ∷ rs, refl)
fronts_agree cfg s xs (r ∷ rs) (t ∷ ts) s1 s2 ys zs (p, e, f, h) (q, e', f', k) =
    let same = read_same (next_record cfg s [] [] xs) p q e e' in
    agree_more r t rs ts (f ∙ ap (λ (x : Read). x.0) same ∙ sym f')
    (fronts_agree cfg p.1 p.2 rs ts s1 s2 ys zs h (subst (λ (x : Read). Reached cfg x.1 x.2 ts s2 zs) (sym same) k))

-- nothing is read behind all of the records
all_longest : (cfg : Config) (s : State) (xs : List ℕ) (rs ts : List Fields) (s1 s2 : State) (ys zs : List ℕ) → Reached cfg s xs rs s1 ys → next_record cfg s1 [] [] ys ≡ None
    → Reached cfg s xs ts s2 zs → (more : List Fields) × (rs ≡ ts ++ more)
unfolding Reached
all_longest cfg s xs rs [] s1 s2 ys zs h n k = (rs, refl)
all_longest cfg s xs [] (t ∷ ts) s1 s2 ys zs (e, f) n (q, g, j, k) =
    absurd (true≢false (ap is_some (sym g ∙ (λ i. next_record cfg (e i) [] [] (f i)) ∙ n)))
all_longest cfg s xs (r ∷ rs) (t ∷ ts) s1 s2 ys zs (p, e, f, h) n (q, e', f', k) =
    let same = read_same (next_record cfg s [] [] xs) p q e e' in
    let later = all_longest cfg p.1 p.2 rs ts s1 s2 ys zs h n (subst (λ (x : Read). Reached cfg x.1 x.2 ts s2 zs) (sym same) k) in
    (later.0, λ i. (f ∙ ap (λ (x : Read). x.0) same ∙ sym f') i ∷ later.1 i)

-- ---- the first that breaks a rule

same_head : (r t : Fields) (rs ts : List Fields) → r ∷ rs ≡ t ∷ ts → r ≡ t
same_head r t rs ts e = cc

same_tail : (r t : Fields) (rs ts : List Fields) → r ∷ rs ≡ t ∷ ts → rs ≡ ts
same_tail r t rs ts e = cc

one_from : (b c : List Fields) (f g : Fields) (xs ys : List Fields) (r s : ℕ) → b ++ f ∷ xs ≡ c ++ g ∷ ys → AreSoundRecords b → AreSoundRecords c → IsLeastRecordRule f r → IsLeastRecordRule g s
    → (r ≡ s) × (length b ≡ length c)
one_from [] [] f g xs ys r s e bs cs h k =
    let same = same_head f g xs ys e in
    let h' = subst (λ v. IsLeastRecordRule v r) same h in
    let one = h'.1 s k.0 in
    let other = k.1 r h'.0 in
    (omega (arith, one, other), refl)
one_from [] (v ∷ c) f g xs ys r s e bs cs h k = absurd (cs.0 r (subst (λ w. IsLeastRecordRule w r) (same_head f v xs (c ++ g ∷ ys) e) h).0)
one_from (v ∷ b) [] f g xs ys r s e bs cs h k = absurd (bs.0 s (subst (λ w. IsLeastRecordRule w s) (sym (same_head v g (b ++ f ∷ xs) ys e)) k).0)
one_from (v ∷ b) (w ∷ c) f g xs ys r s e bs cs h k =
    let later = one_from b c f g xs ys r s (same_tail v w (b ++ f ∷ xs) (c ++ g ∷ ys) e) bs.1 cs.1 h k in
    (later.0, omega (arith, later.1))

not_sound : (b : List Fields) (f : Fields) (xs : List Fields) (r : ℕ) → AreSoundRecords (b ++ f ∷ xs) → IsLeastRecordRule f r → ⊥
not_sound [] f xs r s h = s.0 r h.0
not_sound (v ∷ b) f xs r s h = not_sound b f xs r s.1 h

-- the front with the record that is broken, in a longer list
longer : (b : List Fields) (f : Fields) (more : List Fields) → (b ++ f ∷ []) ++ more ≡ b ++ f ∷ more
longer b f more = append_assoc b (f ∷ []) more

-- one rule and one record
pub one_read_fault : (bytes : List ℕ) (r s m n : ℕ) → ReadFault bytes r m → ReadFault bytes s n → (r ≡ s) × (m ≡ n)
one_read_fault bytes r s m n h k = by (fronts_agree default_config st.StartRecord (strip_bom bytes) (h.before ++ h.fields ∷ []) (k.before ++ k.fields ∷ []) _ _ _ _ h.front.2 k.front.2)
  where
    tell : (r ≡ s) × (length h.before ≡ length k.before) → (r ≡ s) × (m ≡ n)
    tell (e, l) = (e, omega (arith, h.number_is, k.number_is, l))

    by : Agree (h.before ++ h.fields ∷ []) (k.before ++ k.fields ∷ []) → (r ≡ s) × (m ≡ n)
    by (inl (more, e)) = tell (one_from h.before k.before h.fields k.fields more [] r s (sym (longer h.before h.fields more) ∙ sym e) h.sound k.sound h.broken k.broken)
    by (inr (more, e)) = tell (one_from h.before k.before h.fields k.fields [] more r s (e ∙ longer k.before k.fields more) h.sound k.sound h.broken k.broken)

-- not both
pub read_has_none : (bytes : List ℕ) (lists : List CodeRecord) (r n : ℕ) → ReadsCodes bytes lists → ReadFault bytes r n → ⊥
read_has_none bytes lists r n (rows, (s, rest, reached, none), sound, is) k =
    let more = all_longest default_config st.StartRecord (strip_bom bytes) rows (k.before ++ k.fields ∷ []) s k.front.0 rest k.front.1 reached none k.front.2 in
    not_sound k.before k.fields more.0 r (subst AreSoundRecords (more.1 ∙ longer k.before k.fields more.0) sound) k.broken

-- one list of codes
pub one_reading : (bytes : List ℕ) (a b : List CodeRecord) → ReadsCodes bytes a → ReadsCodes bytes b → a ≡ b
one_reading bytes a b (rows, (s, rest, reached, none), sound, is) (rows', (s', rest', reached', none'), sound', is') =
    let one = all_longest default_config st.StartRecord (strip_bom bytes) rows rows' s s' rest rest' reached none reached' in
    let other = all_longest default_config st.StartRecord (strip_bom bytes) rows' rows s' s rest' rest reached' none' reached in
    is ∙ ap (numbered_records 1) (same rows rows' one.0 other.0 one.1 other.1) ∙ sym is'
  where
    same : (xs ys m k : List Fields) → xs ≡ ys ++ m → ys ≡ xs ++ k → xs ≡ ys
    same xs ys m k e f =
        let none : length k ≡ 0 = omega (arith, ap length e, ap length f, length-append ys m, length-append xs k) in
        sym (f ∙ ap (λ l. xs ++ l) (nil_from_length k none) ∙ append-nil xs)
