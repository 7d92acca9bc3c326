-- All bytes have an answer: codes, or the first record that breaks a rule.
use Rattle.std.proofs.Common.{◌≡◌, ◌≢◌, ℕ, zero, suc, ◌+◌, ◌<◌, ◌≤◌, ◌⊎◌, ⊎_elim, Bool, true, false, ◌&&◌, true≢false, leb, List, [], ◌∷◌, ◌++◌, length, Option, Some, None, is_some, IsUtf8, encode_utf8_all, refl, sym, ap, subst, ◌∙◌, inl, inr, arith}
use Rattle.std.specs.Bool.{if◌then◌else◌}
use Rattle.std.specs.List.{AllByRecursion}
use Rattle.std.specs.Str.{is_utf8, all_scalars, chars}
use Rattle.std.proofs.lemmas.Bool.Decides.{leb_tells}
use Rattle.std.proofs.lemmas.Str.{IsUtf8-from_is_utf8, is_utf8-from_IsUtf8, chars-encodes}
use Rattle.csv.specs.Machine.{Read, next_record, step, is_end, ends_at_end, fields_after, field_after}
use Rattle.csv.specs.Reading.{AreRecords, Reached, default_config, strip_bom}
use Rattle.csv.specs.declared.parser.Config.{Config}
use Rattle.csv.specs.declared.parser.State.{State}
use Rattle.csv.specs.declared.parser.State.TheVariants as st
use Rattle.lexical_core.specs.Characters.{IsInSome, IsXmlChar, IsXmlText}
use Rattle.lexical_core.proofs.CharacterLemmas.{IsScalar-xml_char}
use Rattle.code_sets.specs.declared.record.CodeRecord.{CodeRecord}
use Rattle.code_sets.specs.Codes.{Fields, IsCode, AreSoundRecords, IsLeastRecordRule, IsSoundRecord, ReadsCodes, ReadFault, numbered_records}
use Rattle.code_sets.proofs.Records.{least_one, least_two, least_three, sound_two}

-- ---- texts

-- P holds, or it does not
abbrev pub Decided : Type 0 → Type 0
Decided P = P ⊎ (P → ⊥)

in_some : (rs : List (ℕ × ℕ)) (c : ℕ) → Decided (IsInSome rs c)
in_some [] c = inr (λ h. h)
in_some (r ∷ rs) c = by (leb_tells r.0 c) (leb_tells c r.1) (in_some rs c)
  where
    by : ((leb r.0 c ≡ true) × (r.0 ≤ c)) ⊎ ((leb r.0 c ≡ false) × (c < r.0)) → ((leb c r.1 ≡ true) × (c ≤ r.1)) ⊎ ((leb c r.1 ≡ false) × (r.1 < c)) → Decided (IsInSome rs c) → Decided (IsInSome (r ∷ rs) c)
    by (inl low) (inl high) later = inl (inl (low.1, high.1))
    by low high (inl h) = inl (inr h)
    by (inl low) (inr high) (inr n) = inr (λ h. ⊎_elim (λ k. omega (arith, k.1, high.1)) n h)
    by (inr low) high (inr n) = inr (λ h. ⊎_elim (λ k. omega (arith, k.0, low.1)) n h)

decide_char : (c : ℕ) → Decided (IsXmlChar c)
decide_char c = in_some ((0x20, 0xD7FF) ∷ (0x9, 0xA) ∷ (0xD, 0xD) ∷ (0xE000, 0xFFFD) ∷ (0x1_0000, 0x10_FFFF) ∷ []) c

all_chars : (cs : List ℕ) → Decided (AllByRecursion IsXmlChar cs)
all_chars [] = inl tt
all_chars (c ∷ cs) = by (decide_char c) (all_chars cs)
  where
    by : Decided (IsXmlChar c) → Decided (AllByRecursion IsXmlChar cs) → Decided (AllByRecursion IsXmlChar (c ∷ cs))
    by (inl h) (inl k) = inl (h, k)
    by (inr n) k = inr (λ h. n h.0)
    by (inl h) (inr n) = inr (λ h. n h.1)

scalars_xml : (cs : List ℕ) → AllByRecursion IsXmlChar cs → all_scalars cs ≡ true
scalars_xml [] h = refl
scalars_xml (c ∷ cs) h = λ i. IsScalar-xml_char c h.0 i && scalars_xml cs h.1 i

decide_utf8 : (bytes : List ℕ) → Decided (IsUtf8 bytes)
decide_utf8 bytes = by (is_utf8 bytes) refl
  where
    by : (b : Bool) → is_utf8 bytes ≡ b → Decided (IsUtf8 bytes)
    by true e = inl (IsUtf8-from_is_utf8 bytes e)
    by false e = inr (λ h. true≢false (sym (is_utf8-from_IsUtf8 bytes h) ∙ e))

decide_text : (bytes : List ℕ) → Decided (IsXmlText bytes)
decide_text bytes = by (decide_utf8 bytes)
  where
    with_chars : (cs : List ℕ) → all_scalars cs ≡ true → encode_utf8_all cs ≡ bytes → Decided (AllByRecursion IsXmlChar cs) → Decided (IsXmlText bytes)
    with_chars cs s e (inl h) = inl (cs, h, e)
    with_chars cs s e (inr n) = inr (λ text.
        let same : text.0 ≡ cs = sym (chars-encodes text.0 (scalars_xml text.0 text.1)) ∙ ap chars (text.2 ∙ sym e) ∙ chars-encodes cs s in
        n (subst (AllByRecursion IsXmlChar) same text.1))

    by : Decided (IsUtf8 bytes) → Decided (IsXmlText bytes)
    by (inl u) = with_chars u.0 u.1.0 u.1.1 (all_chars u.0)
    by (inr n) = inr (λ text. n (text.0, (scalars_xml text.0 text.1, text.2)))

pub decide_code : (code : List ℕ) → Decided (IsCode code)
decide_code [] = inr (λ h. h.0 refl)
decide_code (b ∷ bs) = by (decide_text (b ∷ bs))
  where
    some : b ∷ bs ≢ []
    some e = cc

    by : Decided (IsXmlText (b ∷ bs)) → Decided (IsCode (b ∷ bs))
    by (inl h) = inl (some, h)
    by (inr n) = inr (λ h. n h.1)

-- ---- a record

-- it breaks no rule, or a least one
decide_record : (fields : Fields) → IsSoundRecord fields ⊎ ((rule : ℕ) × IsLeastRecordRule fields rule)
decide_record [] = inr (1, least_one [] (λ e. omega (arith, e)))
decide_record (a ∷ []) = inr (1, least_one (a ∷ []) (λ e. omega (arith, e)))
decide_record (a ∷ (b ∷ [])) = by (decide_utf8 a) (decide_utf8 b) (decide_code b)
  where
    by : Decided (IsUtf8 a) → Decided (IsUtf8 b) → Decided (IsCode b) → IsSoundRecord (a ∷ (b ∷ [])) ⊎ ((rule : ℕ) × IsLeastRecordRule (a ∷ (b ∷ [])) rule)
    by (inl u) (inl v) (inl k) = inl (sound_two (a ∷ (b ∷ [])) a b refl u v k)
    by (inl u) (inl v) (inr n) = inr (3, least_three (a ∷ (b ∷ [])) a b refl u v n)
    by (inl u) (inr n) k = inr (2, least_two (a ∷ (b ∷ [])) a b refl (λ x y. n y))
    by (inr n) v k = inr (2, least_two (a ∷ (b ∷ [])) a b refl (λ x y. n x))
decide_record (a ∷ (b ∷ (c ∷ fields))) = inr (1, least_one (a ∷ (b ∷ (c ∷ fields))) (λ e. omega (arith, e)))

-- ---- the records

some_same : (p q : Read) → Some p ≡ Some q → p ≡ q
some_same p q e = cc

-- a record takes a byte, or the end of the bytes ends it
shorter : (cfg : Config) (s : State) (fields : Fields) (field xs : List ℕ) (p : Read) → next_record cfg s fields field xs ≡ Some p → (length p.2 < length xs) ⊎ ((p.1 ≡ st.StartRecord) × (p.2 ≡ []))
unfolding next_record
shorter cfg s fields field [] p h = by (ends_at_end s) h
  where
    by : (b : Bool) → (if b then Some (fields ++ (field ∷ []), st.StartRecord, []) else None) ≡ Some p → (length p.2 < 0) ⊎ ((p.1 ≡ st.StartRecord) × (p.2 ≡ []))
    by true e = let same = some_same (fields ++ (field ∷ []), st.StartRecord, []) p e in inr (ap (λ (r : Read). r.1) (sym same), ap (λ (r : Read). r.2) (sym same))
    by false e = absurd (true≢false (sym (ap is_some e)))
shorter cfg s fields field (c ∷ rest) p h =
    by (is_end (step cfg s c).1) h (λ k. shorter cfg (step cfg s c).0 (fields_after (step cfg s c).1 fields field) (field_after (step cfg s c).1 c field) rest p k)
  where
    grown : (length p.2 < length rest) ⊎ ((p.1 ≡ st.StartRecord) × (p.2 ≡ [])) → (length p.2 < suc (length rest)) ⊎ ((p.1 ≡ st.StartRecord) × (p.2 ≡ []))
    grown (inl below) = inl (omega (arith, below))
    grown (inr ended) = inr ended

    by : (b : Bool) → (if b then Some (fields_after (step cfg s c).1 fields field, (step cfg s c).0, rest) else next_record cfg (step cfg s c).0 (fields_after (step cfg s c).1 fields field) (field_after (step cfg s c).1 c field) rest) ≡ Some p
        → (next_record cfg (step cfg s c).0 (fields_after (step cfg s c).1 fields field) (field_after (step cfg s c).1 c field) rest ≡ Some p → (length p.2 < length rest) ⊎ ((p.1 ≡ st.StartRecord) × (p.2 ≡ [])))
        → (length p.2 < suc (length rest)) ⊎ ((p.1 ≡ st.StartRecord) × (p.2 ≡ []))
    by true e later =
        let same : p.2 ≡ rest = ap (λ (r : Read). r.2) (sym (some_same (fields_after (step cfg s c).1 fields field, (step cfg s c).0, rest) p e)) in
        inl (omega (arith, ap length same))
    by false e later = grown (later e)

-- the records from here break no rule
abbrev AllSound : State → List ℕ → Type 0
AllSound s xs = (rows : List Fields) × AreRecords default_config s xs rows × AreSoundRecords rows

-- one from here breaks a rule, and none before it
abbrev FirstBroken : State → List ℕ → Type 0
FirstBroken s xs =
    (before : List Fields) × (fields : Fields) × (rule : ℕ) × (s2 : State) × (rest : List ℕ) × Reached default_config s xs (before ++ fields ∷ []) s2 rest × AreSoundRecords before × IsLeastRecordRule fields rule

no_more : (s : State) (xs : List ℕ) → next_record default_config s [] [] xs ≡ None → AllSound s xs
unfolding Reached
no_more s xs none = ([], (s, xs, (refl, refl), none), tt)

broken_here : (s : State) (xs : List ℕ) (p : Read) (rule : ℕ) → next_record default_config s [] [] xs ≡ Some p → IsLeastRecordRule p.0 rule → FirstBroken s xs
unfolding Reached
broken_here s xs p rule e broken = ([], p.0, rule, p.1, p.2, (p, e, refl, (refl, refl)), tt, broken)

one_more : (s : State) (xs : List ℕ) (p : Read) → next_record default_config s [] [] xs ≡ Some p → IsSoundRecord p.0 → AllSound p.1 p.2 ⊎ FirstBroken p.1 p.2 → AllSound s xs ⊎ FirstBroken s xs
unfolding Reached
one_more s xs p e sound (inl (rows, (s2, rest, reached, none), later)) = inl (p.0 ∷ rows, (s2, rest, (p, e, refl, reached), none), (sound, later))
one_more s xs p e sound (inr (before, fields, rule, s2, rest, reached, later, broken)) = inr (p.0 ∷ before, fields, rule, s2, rest, (p, e, refl, reached), (sound, later), broken)

at_end : (s : State) (xs : List ℕ) → s ≡ st.StartRecord → xs ≡ [] → next_record default_config s [] [] xs ≡ None
unfolding next_record
at_end s xs e f = λ i. next_record default_config (e i) [] [] (f i)

outcome : (n : ℕ) (s : State) (xs : List ℕ) → length xs < n → AllSound s xs ⊎ FirstBroken s xs
outcome zero s xs below = absurd (omega (arith, below))
outcome (suc n) s xs below = by (next_record default_config s [] [] xs) refl (λ t ys k. outcome n t ys k)
  where
    go_on : (p : Read) → (length p.2 < length xs) ⊎ ((p.1 ≡ st.StartRecord) × (p.2 ≡ [])) → ((t : State) (ys : List ℕ) → length ys < n → AllSound t ys ⊎ FirstBroken t ys) → AllSound p.1 p.2 ⊎ FirstBroken p.1 p.2
    go_on p (inl less) later = later p.1 p.2 (omega (arith, less, below))
    go_on p (inr ended) later = inl (no_more p.1 p.2 (at_end p.1 p.2 ended.0 ended.1))

    record_at : (p : Read) → next_record default_config s [] [] xs ≡ Some p → AllSound p.1 p.2 ⊎ FirstBroken p.1 p.2 → IsSoundRecord p.0 ⊎ ((rule : ℕ) × IsLeastRecordRule p.0 rule) → AllSound s xs ⊎ FirstBroken s xs
    record_at p e later (inl sound) = one_more s xs p e sound later
    record_at p e later (inr broken) = inr (broken_here s xs p broken.0 e broken.1)

    by : (o : Option Read) → next_record default_config s [] [] xs ≡ o → ((t : State) (ys : List ℕ) → length ys < n → AllSound t ys ⊎ FirstBroken t ys) → AllSound s xs ⊎ FirstBroken s xs
    by None e later = inl (no_more s xs e)
    by (Some p) e later = record_at p e (go_on p (shorter default_config s [] [] xs p e) later) (decide_record p.0)

-- all bytes have one or the other
pub reads_or_has_fault : (bytes : List ℕ) → ((lists : List CodeRecord) × ReadsCodes bytes lists) ⊎ ((rule : ℕ) × (number : ℕ) × ReadFault bytes rule number)
reads_or_has_fault bytes = by (outcome (suc (length (strip_bom bytes))) st.StartRecord (strip_bom bytes) (omega arith))
  where
    by : AllSound st.StartRecord (strip_bom bytes) ⊎ FirstBroken st.StartRecord (strip_bom bytes) → ((lists : List CodeRecord) × ReadsCodes bytes lists) ⊎ ((rule : ℕ) × (number : ℕ) × ReadFault bytes rule number)
    by (inl (rows, records, sound)) = inl (numbered_records 1 rows, (rows, records, sound, refl))
    by (inr (before, fields, rule, s2, rest, reached, sound, broken)) =
        inr (rule, length before + 1, record { before = before; fields = fields; front = (s2, rest, reached); sound = sound; broken = broken; number_is = refl })
