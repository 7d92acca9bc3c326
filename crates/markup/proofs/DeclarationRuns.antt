-- Runs of the scan over the XML declaration.
use Rattle.std.proofs.Common.{◌≡◌, ℕ, Bool, true, ◌==◌, ◌||◌, ◌+◌, List, [], ◌∷◌, ◌++◌, map, codes, Some, None, refl, ◌∙◌, ap, arith, inl, inr}
use Rattle.std.specs.List.{list_all, flat_map}
use Rattle.std.specs.Str.{bytes_eq}
use Rattle.std.specs.Char.{to_ascii_lowercase}
use Rattle.std.proofs.lemmas.Bool.{and_parts, or_cases, eq-eqb}
use Rattle.std.proofs.lemmas.Bool.Decides.{nat_tests}
use Rattle.std.proofs.lemmas.Slice.Eq.{bytes_eq-Decides}
use Rattle.markup.specs.Chars.{is_space, is_gap}
use Rattle.markup.specs.Name.{name_text}
use Rattle.markup.specs.Attribute.{Attribute, piece_text, attribute_text}
use Rattle.markup.specs.Declaration.{is_field, is_version, is_encoding, is_standalone, is_declaration}
use Rattle.markup.specs.inner.Words.{letter_of}
use Rattle.markup.specs.inner.Drafts.{note_character}
use Rattle.markup.specs.inner.Scans.{step, name_word, field_letter}
use Rattle.markup.specs.declared.draft.Draft.{Draft}
use Rattle.markup.specs.declared.word.Word.{Word}
use Rattle.markup.specs.declared.word.Word.TheVariants.{One, Utf8, Yes, No}
use Rattle.markup.specs.declared.scan.Field.{Field}
use Rattle.markup.specs.declared.scan.Field.TheVariants.{Version, Encoding, Standalone}
use Rattle.markup.specs.declared.scan.Scan.{Scan}
use Rattle.markup.specs.declared.scan.Scan.TheVariants.{TargetXml, DeclarationGap, FieldName, FieldBefore, FieldAfter, FieldValue, FieldWord, FieldEnd, FieldGap, DeclarationMark}
use Rattle.markup.specs.declared.scan.Turn.TheVariants.{Goes}
use Rattle.markup.specs.declared.scan.Ended.TheVariants.{Declaration}
use Rattle.markup.proofs.CharLemmas.{space_no_name, equals_no_space, quote_no_space, closes_no_space, space_no_letter, letter_no_space}
use Rattle.markup.proofs.AttributeLemmas.{IsAttribute, attribute_facts, attribute_then, attributes_then}
use Rattle.markup.proofs.Spans.{heads, tails}
use Rattle.markup.proofs.Runs.{goes, spaces_run}
use Rattle.markup.specs.inner.ScanRuns.{Over, run}

-- an attribute with this name and value, as they are written
pub record IsField (name value : List ℕ) (a : Attribute) : Type 0 where
  pub attribute : IsAttribute a
  pub name_is : name_text a.name ≡ name
  pub value_is : flat_map piece_text a.value ≡ value

pub field_facts : (name : List ℕ) (test : List ℕ → Bool) (a : Attribute) → is_field name test a ≡ true → IsField name (flat_map piece_text a.value) a
field_facts name test a h =
    let k = and_parts _ _ h in let l = and_parts _ _ k.0 in
    record { attribute = attribute_facts a l.0; name_is = (bytes_eq-Decides (name_text a.name) name).0 l.1; value_is = refl }

field_test : (name : List ℕ) (test : List ℕ → Bool) (a : Attribute) → is_field name test a ≡ true → test (flat_map piece_text a.value) ≡ true
field_test name test a h = (and_parts _ _ h).1

-- behind the last letter of a field's name
name_ends : (f : Field) (k : ℕ) (d : Draft) (b v : List ℕ) → letter_of (name_word f) k ≡ None → list_all is_space b ≡ true → run (FieldName f k) d (b ++ 61 ∷ v) ≡ run (FieldAfter f) d v
name_ends f k d [] v h a = goes (FieldName f k) (FieldAfter f) 61 d d v (ap (field_letter f k 61) h ∙ rw equals_no_space refl) refl
name_ends f k d (c ∷ b) v h a =
    goes (FieldName f k) (FieldBefore f) c d d (b ++ 61 ∷ v) (ap (field_letter f k c) h ∙ rw (and_parts (is_space c) (list_all is_space b) a).0 refl) refl
    ∙ (spaces_run (FieldBefore f) d b (61 ∷ v) (λ c k. rw k refl) (λ c. refl) (and_parts (is_space c) (list_all is_space b) a).1
    ∙ goes (FieldBefore f) (FieldAfter f) 61 d d v (rw equals_no_space refl) refl)

-- the white space and the quote before a field's value
quote_goes : (f : Field) (q : ℕ) (d : Draft) (b v : List ℕ) → (q == 34 || q == 39) ≡ true → list_all is_space b ≡ true → run (FieldAfter f) d (b ++ q ∷ v) ≡ run (FieldValue f q) d v
quote_goes f q d b v h a =
    spaces_run (FieldAfter f) d b (q ∷ v) (λ c k. rw k refl) (λ c. refl) a
    ∙ goes (FieldAfter f) (FieldValue f q) q d d v (rw (quote_no_space q h, h) refl) refl

-- the quote behind a field's value
value_ends : (f : Field) (word : Word) (k q : ℕ) (d : Draft) (w : List ℕ) → letter_of word k ≡ None → run (FieldWord f word q k) d (q ∷ w) ≡ run (FieldEnd f) d w
value_ends f word k q d w h = goes (FieldWord f word q k) (FieldEnd f) q d d w (rw (h, eq-eqb q q refl) refl) refl

version_value : (q : ℕ) (d : Draft) (w : List ℕ) → run (FieldValue Version q) d (49 ∷ 46 ∷ 48 ∷ q ∷ w) ≡ run (FieldEnd Version) d w
version_value q d w = value_ends Version One 3 q d w refl

yes_value : (q : ℕ) (d : Draft) (w : List ℕ) → run (FieldValue Standalone q) d (121 ∷ 101 ∷ 115 ∷ q ∷ w) ≡ run (FieldEnd Standalone) d w
yes_value q d w = value_ends Standalone Yes 3 q d w refl

no_value : (q : ℕ) (d : Draft) (w : List ℕ) → run (FieldValue Standalone q) d (110 ∷ 111 ∷ q ∷ w) ≡ run (FieldEnd Standalone) d w
no_value q d w = value_ends Standalone No 2 q d w refl

-- a letter of `utf-8` in either case
letter_goes : (k letter c q : ℕ) (d : Draft) (w : List ℕ) → letter_of Utf8 k ≡ Some letter → to_ascii_lowercase c ≡ letter → run (FieldWord Encoding Utf8 q k) d (c ∷ w) ≡ run (FieldWord Encoding Utf8 q (k + 1)) d w
letter_goes k letter c q d w h e = goes (FieldWord Encoding Utf8 q k) (FieldWord Encoding Utf8 q (k + 1)) c d d w (rw (h, eq-eqb (to_ascii_lowercase c) letter e) refl) refl

first_letter : (c : ℕ) → to_ascii_lowercase c ≡ 117 → (c == 117 || c == 85) ≡ true
first_letter c h = grind (arith, nat_tests)

encoding_value : (q : ℕ) (v : List ℕ) (d : Draft) (w : List ℕ) → map to_ascii_lowercase v ≡ codes "utf-8" → run (FieldValue Encoding q) d (v ++ q ∷ w) ≡ run (FieldEnd Encoding) d w
encoding_value q [] d w h = absurd (cc)
encoding_value q (a ∷ []) d w h = absurd (cc)
encoding_value q (a ∷ b ∷ []) d w h = absurd (cc)
encoding_value q (a ∷ b ∷ c ∷ []) d w h = absurd (cc)
encoding_value q (a ∷ b ∷ c ∷ e ∷ []) d w h = absurd (cc)
encoding_value q (a ∷ b ∷ c ∷ e ∷ f ∷ g ∷ v) d w h = absurd (cc)
encoding_value q (a ∷ b ∷ c ∷ e ∷ f ∷ []) d w h =
    let t1 = tails _ _ _ _ h in let t2 = tails _ _ _ _ t1 in let t3 = tails _ _ _ _ t2 in let t4 = tails _ _ _ _ t3 in
    goes (FieldValue Encoding q) (FieldWord Encoding Utf8 q 1) a d d (b ∷ c ∷ e ∷ f ∷ q ∷ w) (rw (first_letter a (heads _ _ _ _ h)) refl) refl
    ∙ (letter_goes 1 116 b q d (c ∷ e ∷ f ∷ q ∷ w) refl (heads _ _ _ _ t1)
    ∙ (letter_goes 2 102 c q d (e ∷ f ∷ q ∷ w) refl (heads _ _ _ _ t2)
    ∙ (letter_goes 3 45 e q d (f ∷ q ∷ w) refl (heads _ _ _ _ t3)
    ∙ (letter_goes 4 56 f q d (q ∷ w) refl (heads _ _ _ _ t4)
    ∙ value_ends Encoding Utf8 5 q d w refl))))

-- a field behind white space, from its name on
field_run : (f : Field) (k : ℕ) (s : Scan) (name : List ℕ) (a : Attribute) (d : Draft) (w : List ℕ) → IsField name (flat_map piece_text a.value) a → letter_of (name_word f) k ≡ None
    → ((v : List ℕ) → run s d (name ++ v) ≡ run (FieldName f k) d v)
    → run (FieldValue f a.quote) d (flat_map piece_text a.value ++ a.quote ∷ w) ≡ run (FieldEnd f) d w
    → run s d (name_text a.name ++ (a.before ++ 61 ∷ (a.after ++ a.quote ∷ (flat_map piece_text a.value ++ a.quote ∷ w)))) ≡ run (FieldEnd f) d w
field_run f k s name a d w h none named valued =
    ap (λ v. run s d (v ++ (a.before ++ 61 ∷ (a.after ++ a.quote ∷ (flat_map piece_text a.value ++ a.quote ∷ w))))) h.name_is
    ∙ (named _
    ∙ (name_ends f k d a.before _ none h.attribute.before
    ∙ (quote_goes f a.quote d a.after _ h.attribute.quote h.attribute.after
    ∙ valued)))

module _ (d : Draft) where
  version_named : (v : List ℕ) → run DeclarationGap d (codes "version" ++ v) ≡ run (FieldName Version 7) d v
  version_named v = goes DeclarationGap (FieldName Version 1) 118 d d (codes "ersion" ++ v) (rw letter_no_space.0 refl) refl

  encoding_named : (v : List ℕ) → run (FieldGap Version) d (codes "encoding" ++ v) ≡ run (FieldName Encoding 8) d v
  encoding_named v = refl

  standalone_named : (v : List ℕ) → run (FieldGap Version) d (codes "standalone" ++ v) ≡ run (FieldName Standalone 10) d v
  standalone_named v = refl

  standalone_named_then : (v : List ℕ) → run (FieldGap Encoding) d (codes "standalone" ++ v) ≡ run (FieldName Standalone 10) d v
  standalone_named_then v = refl

  gap_entered : (s t : Scan) (g w : List ℕ) → ((c : ℕ) → is_space c ≡ true → step s c ≡ Goes t) → ((c : ℕ) → is_space c ≡ true → step t c ≡ Goes t) → ((c : ℕ) → note_character s t c d ≡ d) → ((c : ℕ) → note_character t t c d ≡ d) → is_gap g ≡ true → run s d (g ++ w) ≡ run t d w
  gap_entered s t [] w a b e f h = absurd (cc)
  gap_entered s t (c ∷ g) w a b e f h = goes s t c d d (g ++ w) (a c (and_parts (is_space c) (list_all is_space g) h).0) (e c) ∙ spaces_run t d g w b f (and_parts (is_space c) (list_all is_space g) h).1

  gap_stays : (f : Field) (c : ℕ) → is_space c ≡ true → step (FieldGap f) c ≡ Goes (FieldGap f)
  gap_stays Version c h = let k = space_no_letter c h in rw (k.0, k.1, h) refl
  gap_stays Encoding c h = let k = space_no_letter c h in rw (k.1, h) refl
  gap_stays Standalone c h = rw h refl

  -- a field behind another
  next_field : (e f : Field) (k : ℕ) (name : List ℕ) (a : Attribute) (w : List ℕ) → IsField name (flat_map piece_text a.value) a → letter_of (name_word f) k ≡ None
      → ((v : List ℕ) → run (FieldGap e) d (name ++ v) ≡ run (FieldName f k) d v)
      → run (FieldValue f a.quote) d (flat_map piece_text a.value ++ a.quote ∷ w) ≡ run (FieldEnd f) d w
      → run (FieldEnd e) d (attribute_text a ++ w) ≡ run (FieldEnd f) d w
  next_field e f k name a w h none named valued =
      ap (run (FieldEnd e) d) (attribute_then a w)
      ∙ (gap_entered (FieldEnd e) (FieldGap e) a.gap _ (λ c k. rw k refl) (gap_stays e) (λ c. refl) (λ c. refl) h.attribute.gap
      ∙ field_run f k (FieldGap e) name a d w h none named valued)

  version_run : (a : Attribute) (w : List ℕ) → is_version a ≡ true → run (TargetXml true) d (attribute_text a ++ w) ≡ run (FieldEnd Version) d w
  version_run a w h =
      let f = field_facts (codes "version") (λ v. bytes_eq v (codes "1.0")) a h in
      let e = (bytes_eq-Decides (flat_map piece_text a.value) (codes "1.0")).0 (field_test (codes "version") (λ v. bytes_eq v (codes "1.0")) a h) in
      ap (run (TargetXml true) d) (attribute_then a w)
      ∙ (gap_entered (TargetXml true) DeclarationGap a.gap _ (λ c k. rw (space_no_name c k, k) refl) (λ c k. rw k refl) (λ c. refl) (λ c. refl) f.attribute.gap
      ∙ field_run Version 7 DeclarationGap (codes "version") a d w f refl version_named
      (ap (λ v. run (FieldValue Version a.quote) d (v ++ a.quote ∷ w)) e ∙ version_value a.quote d w))

  encoding_run : (a : Attribute) (w : List ℕ) → is_encoding a ≡ true → run (FieldEnd Version) d (attribute_text a ++ w) ≡ run (FieldEnd Encoding) d w
  encoding_run a w h =
      let f = field_facts (codes "encoding") (λ v. bytes_eq (map to_ascii_lowercase v) (codes "utf-8")) a h in
      let e = (bytes_eq-Decides (map to_ascii_lowercase (flat_map piece_text a.value)) (codes "utf-8")).0 (field_test (codes "encoding") (λ v. bytes_eq (map to_ascii_lowercase v) (codes "utf-8")) a h) in
      next_field Version Encoding 8 (codes "encoding") a w f refl encoding_named (encoding_value a.quote (flat_map piece_text a.value) d w e)

  standalone_value : (a : Attribute) (w : List ℕ) → is_standalone a ≡ true → run (FieldValue Standalone a.quote) d (flat_map piece_text a.value ++ a.quote ∷ w) ≡ run (FieldEnd Standalone) d w
  standalone_value a w h = elim (or_cases (bytes_eq (flat_map piece_text a.value) (codes "yes")) (bytes_eq (flat_map piece_text a.value) (codes "no")) (field_test (codes "standalone") (λ v. bytes_eq v (codes "yes") || bytes_eq v (codes "no")) a h)) as (λ _. run (FieldValue Standalone a.quote) d (flat_map piece_text a.value ++ a.quote ∷ w) ≡ run (FieldEnd Standalone) d w) [
    | inl k ↦ ap (λ v. run (FieldValue Standalone a.quote) d (v ++ a.quote ∷ w)) ((bytes_eq-Decides (flat_map piece_text a.value) (codes "yes")).0 k) ∙ yes_value a.quote d w
    | inr k ↦ ap (λ v. run (FieldValue Standalone a.quote) d (v ++ a.quote ∷ w)) ((bytes_eq-Decides (flat_map piece_text a.value) (codes "no")).0 k) ∙ no_value a.quote d w
  ]

  standalone_run : (e : Field) (a : Attribute) (w : List ℕ) → is_standalone a ≡ true → ((v : List ℕ) → run (FieldGap e) d (codes "standalone" ++ v) ≡ run (FieldName Standalone 10) d v) → run (FieldEnd e) d (attribute_text a ++ w) ≡ run (FieldEnd Standalone) d w
  standalone_run e a w h named =
      next_field e Standalone 10 (codes "standalone") a w (field_facts (codes "standalone") (λ v. bytes_eq v (codes "yes") || bytes_eq v (codes "no")) a h) refl named (standalone_value a w h)

  -- the end of a declaration
  mark_closes : (f : Field) (w : List ℕ) → run (FieldGap f) d (63 ∷ 62 ∷ w) ≡ Over Declaration d w
  mark_closes Version w = goes (FieldGap Version) DeclarationMark 63 d d (62 ∷ w) (rw (closes_no_space 63 refl) refl) refl
  mark_closes Encoding w = goes (FieldGap Encoding) DeclarationMark 63 d d (62 ∷ w) (rw (closes_no_space 63 refl) refl) refl
  mark_closes Standalone w = goes (FieldGap Standalone) DeclarationMark 63 d d (62 ∷ w) (rw (closes_no_space 63 refl) refl) refl

  declaration_closes : (f : Field) (g w : List ℕ) → list_all is_space g ≡ true → run (FieldEnd f) d (g ++ 63 ∷ 62 ∷ w) ≡ Over Declaration d w
  declaration_closes f [] w a = goes (FieldEnd f) DeclarationMark 63 d d (62 ∷ w) (rw (closes_no_space 63 refl) refl) refl
  declaration_closes f (c ∷ g) w a = gap_entered (FieldEnd f) (FieldGap f) (c ∷ g) _ (λ c k. rw k refl) (gap_stays f) (λ c. refl) (λ c. refl) a ∙ mark_closes f w

  -- a declaration behind `<?xml`
  pub declaration_run : (fs : List Attribute) (g w : List ℕ) → is_declaration fs ≡ true → list_all is_space g ≡ true → run (TargetXml true) d (flat_map attribute_text fs ++ (g ++ 63 ∷ 62 ∷ w)) ≡ Over Declaration d w
  declaration_run [] g w h a = absurd (cc)
  declaration_run (v ∷ []) g w h a =
      ap (run (TargetXml true) d) (attributes_then v [] (g ++ 63 ∷ 62 ∷ w))
      ∙ (version_run v _ h ∙ declaration_closes Version g w a)
  declaration_run (v ∷ b ∷ []) g w h a =
      let k = and_parts _ _ h in
      ap (run (TargetXml true) d) (attributes_then v (b ∷ []) (g ++ 63 ∷ 62 ∷ w))
      ∙ (version_run v _ k.0
      ∙ (ap (run (FieldEnd Version) d) (attributes_then b [] (g ++ 63 ∷ 62 ∷ w))
      ∙ elim (or_cases (is_encoding b) (is_standalone b) k.1) as (λ _. run (FieldEnd Version) d (attribute_text b ++ (g ++ 63 ∷ 62 ∷ w)) ≡ Over Declaration d w) [
        | inl e ↦ encoding_run b _ e ∙ declaration_closes Encoding g w a
        | inr e ↦ standalone_run Version b _ e standalone_named ∙ declaration_closes Standalone g w a
      ]))
  declaration_run (v ∷ b ∷ c ∷ []) g w h a =
      let k = and_parts _ _ h in let l = and_parts _ _ k.0 in
      ap (run (TargetXml true) d) (attributes_then v (b ∷ c ∷ []) (g ++ 63 ∷ 62 ∷ w))
      ∙ (version_run v _ l.0
      ∙ (ap (run (FieldEnd Version) d) (attributes_then b (c ∷ []) (g ++ 63 ∷ 62 ∷ w))
      ∙ (encoding_run b _ l.1
      ∙ (ap (run (FieldEnd Encoding) d) (attributes_then c [] (g ++ 63 ∷ 62 ∷ w))
      ∙ (standalone_run Encoding c _ k.1 standalone_named_then ∙ declaration_closes Standalone g w a)))))
  declaration_run (v ∷ b ∷ c ∷ e ∷ more) g w h a = absurd (cc)
