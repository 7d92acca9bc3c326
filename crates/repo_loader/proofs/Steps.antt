-- What a repository says grows with each element that is read.
use Rattle.std.proofs.Common.{◌≡◌, Bool, true, false, true≢false, List, [], ◌∷◌, ◌++◌, if◌then◌else◌, refl, sym, ap, ◌∙◌, append-nil, append_assoc}
use Rattle.repo_objects.specs.declared.objects.ElementDef.{ElementDef}
use Rattle.repo_objects.specs.declared.objects.CodeDef.{CodeDef}
use Rattle.repo_objects.specs.Repository.{DictionaryEntry as Named}
use Rattle.repo_loader.specs.Selected.{FileTag}
use Rattle.repo_loader.specs.File.{is_entry, kind_at, is_entry_tag, own_elements, own_codes, behind, entry, objects}
use Rattle.repo_loader.specs.inner.FileSteps.{with_last, with_parts, object_step, has_stop}

-- ---- what is gathered behind a tag

module _ {A : Type 0} (stops : FileTag → Bool) (own : FileTag → List A) where
  -- the cases of one more tag at the front
  more_is : (b : Bool) (u : FileTag) (xs ys : List A) → (b ≡ false → xs ≡ ys) → (if b then [] else own u ++ xs) ≡ (if b then [] else own u ++ ys)
  more_is true u xs ys h = refl
  more_is false u xs ys h = ap (λ l. own u ++ l) (h refl)

  -- a tag that stops adds nothing
  pub behind_stop : (ts : List FileTag) (t : FileTag) → stops t ≡ true → behind stops own (ts ++ t ∷ []) ≡ behind stops own ts
  behind_stop [] t h = ap (λ (b : Bool). if b then [] else own t ++ []) h
  behind_stop (u ∷ us) t h = more_is (stops u) u (behind stops own (us ++ t ∷ [])) (behind stops own us) (λ k. behind_stop us t h)

  none_before : (b c : Bool) → (if b then true else c) ≡ true → b ≡ false → c ≡ true
  none_before true c h k = absurd (true≢false k)
  none_before false c h k = h

  -- behind one that stops another adds nothing
  pub behind_closed : (ts : List FileTag) (t : FileTag) → has_stop stops ts ≡ true → behind stops own (ts ++ t ∷ []) ≡ behind stops own ts
  behind_closed [] t h = absurd (true≢false (sym h))
  behind_closed (u ∷ us) t h =
      more_is (stops u) u (behind stops own (us ++ t ∷ [])) (behind stops own us) (λ k. behind_closed us t (none_before (stops u) (has_stop stops us) h k))

  open_more : (b c : Bool) (u : FileTag) (xs ys zs : List A) → (if b then true else c) ≡ false → (c ≡ false → xs ≡ ys ++ zs) → (if b then [] else own u ++ xs) ≡ (if b then [] else own u ++ ys) ++ zs
  open_more true c u xs ys zs n h = absurd (true≢false n)
  open_more false c u xs ys zs n h = ap (λ l. own u ++ l) (h n) ∙ sym (append_assoc (own u) ys zs)

  -- and else its own
  pub behind_open : (ts : List FileTag) (t : FileTag) → has_stop stops ts ≡ false → stops t ≡ false → behind stops own (ts ++ t ∷ []) ≡ behind stops own ts ++ own t
  behind_open [] t h k = ap (λ (b : Bool). if b then [] else own t ++ []) k ∙ append-nil (own t)
  behind_open (u ∷ us) t h k =
      open_more (stops u) (has_stop stops us) u (behind stops own (us ++ t ∷ [])) (behind stops own us) (own t) h (λ n. behind_open us t n k)

-- ---- the objects

-- the tags of no entry say no object, and those of one say some
no_objects : (ts : List FileTag) → has_stop is_entry_tag ts ≡ false → objects ts ≡ []
no_objects [] h = refl
no_objects (t ∷ ts) h = by (is_entry t.part) h (no_objects ts)
  where
    by : (b : Bool) → (if b then true else has_stop is_entry_tag ts) ≡ false → (has_stop is_entry_tag ts ≡ false → objects ts ≡ [])
        → (if b then entry (kind_at t.part) t.attributes ts ∷ objects ts else objects ts) ≡ []
    by true k later = absurd (true≢false k)
    by false k later = later k

abbrev IsSome : List Named → Type 0
IsSome xs = (o : Named) × (os : List Named) × (xs ≡ o ∷ os)

some_objects : (ts : List FileTag) → has_stop is_entry_tag ts ≡ true → IsSome (objects ts)
some_objects [] h = absurd (true≢false (sym h))
some_objects (t ∷ ts) h = by (is_entry t.part) h (some_objects ts)
  where
    by : (b : Bool) → (if b then true else has_stop is_entry_tag ts) ≡ true → (has_stop is_entry_tag ts ≡ true → IsSome (objects ts))
        → IsSome (if b then entry (kind_at t.part) t.attributes ts ∷ objects ts else objects ts)
    by true k later = (entry (kind_at t.part) t.attributes ts, objects ts, refl)
    by false k later = later k

-- an entry with these elements and codes
abbrev made : FileTag → List ElementDef → List CodeDef → Named
made u es cs = record (entry (kind_at u.part) u.attributes []) { object = record (entry (kind_at u.part) u.attributes []).object { elements = es; codes = cs } }

module _ (t : FileTag) where
  -- an entry's tag stops what stands behind the one before
  entry_closed : (ts : List FileTag) → is_entry t.part ≡ true → objects (ts ++ t ∷ []) ≡ objects ts ++ entry (kind_at t.part) t.attributes [] ∷ []
  entry_closed [] h = ap (λ (b : Bool). if b then entry (kind_at t.part) t.attributes [] ∷ [] else []) h
  entry_closed (u ∷ us) h =
      by (is_entry u.part) (entry_closed us h)
      ((λ i. made u (behind_stop is_entry_tag own_elements us t h i) (behind_stop is_entry_tag own_codes us t h i)))
    where
      last : Named
      last = entry (kind_at t.part) t.attributes []

      by : (b : Bool) → objects (us ++ t ∷ []) ≡ objects us ++ entry (kind_at t.part) t.attributes [] ∷ []
          → entry (kind_at u.part) u.attributes (us ++ t ∷ []) ≡ entry (kind_at u.part) u.attributes us
          → (if b then entry (kind_at u.part) u.attributes (us ++ t ∷ []) ∷ objects (us ++ t ∷ []) else objects (us ++ t ∷ []))
          ≡ (if b then entry (kind_at u.part) u.attributes us ∷ objects us else objects us) ++ entry (kind_at t.part) t.attributes [] ∷ []
      by true later same = λ i. same i ∷ later i
      by false later same = later

  -- any other tag gives the last entry its own
  entry_open : (u : FileTag) (us : List FileTag) → is_entry t.part ≡ false → objects (us ++ t ∷ []) ≡ with_last (with_parts t) (objects us)
      → entry (kind_at u.part) u.attributes (us ++ t ∷ []) ∷ objects (us ++ t ∷ []) ≡ with_last (with_parts t) (entry (kind_at u.part) u.attributes us ∷ objects us)
  entry_open u us other later = by (has_stop is_entry_tag us) refl
    where
      by : (b : Bool) → has_stop is_entry_tag us ≡ b
          → entry (kind_at u.part) u.attributes (us ++ t ∷ []) ∷ objects (us ++ t ∷ []) ≡ with_last (with_parts t) (entry (kind_at u.part) u.attributes us ∷ objects us)
      by true h =
          let s = some_objects us h in
          let same : entry (kind_at u.part) u.attributes (us ++ t ∷ []) ≡ entry (kind_at u.part) u.attributes us =
          λ i. made u (behind_closed is_entry_tag own_elements us t h i) (behind_closed is_entry_tag own_codes us t h i) in
          (λ i. same i ∷ later i)
          ∙ ap (λ l. entry (kind_at u.part) u.attributes us ∷ with_last (with_parts t) l) s.2
          ∙ sym (ap (λ l. with_last (with_parts t) (entry (kind_at u.part) u.attributes us ∷ l)) s.2)
      by false h =
          let none = no_objects us h in
          let same : entry (kind_at u.part) u.attributes (us ++ t ∷ []) ≡ with_parts t (entry (kind_at u.part) u.attributes us) =
          λ i. made u (behind_open is_entry_tag own_elements us t h other i) (behind_open is_entry_tag own_codes us t h other i) in
          (λ i. same i ∷ later i)
          ∙ ap (λ l. with_parts t (entry (kind_at u.part) u.attributes us) ∷ with_last (with_parts t) l) none
          ∙ sym (ap (λ l. with_last (with_parts t) (entry (kind_at u.part) u.attributes us ∷ l)) none)

  other_step : (ts : List FileTag) → is_entry t.part ≡ false → objects (ts ++ t ∷ []) ≡ with_last (with_parts t) (objects ts)
  other_step [] h = ap (λ (b : Bool). if b then entry (kind_at t.part) t.attributes [] ∷ [] else []) h
  other_step (u ∷ us) h = by (is_entry u.part) (other_step us h) (entry_open u us h (other_step us h))
    where
      by : (b : Bool) → objects (us ++ t ∷ []) ≡ with_last (with_parts t) (objects us)
          → entry (kind_at u.part) u.attributes (us ++ t ∷ []) ∷ objects (us ++ t ∷ []) ≡ with_last (with_parts t) (entry (kind_at u.part) u.attributes us ∷ objects us)
          → (if b then entry (kind_at u.part) u.attributes (us ++ t ∷ []) ∷ objects (us ++ t ∷ []) else objects (us ++ t ∷ []))
          ≡ with_last (with_parts t) (if b then entry (kind_at u.part) u.attributes us ∷ objects us else objects us)
      by true later more = more
      by false later more = later

  -- the objects behind one more tag
  pub objects_snoc : (ts : List FileTag) → objects (ts ++ t ∷ []) ≡ object_step t (objects ts)
  objects_snoc ts = by (is_entry t.part) refl
    where
      by : (b : Bool) → is_entry t.part ≡ b → objects (ts ++ t ∷ []) ≡ (if b then objects ts ++ entry (kind_at t.part) t.attributes [] ∷ [] else with_last (with_parts t) (objects ts))
      by true h = entry_closed ts h
      by false h = other_step ts h
