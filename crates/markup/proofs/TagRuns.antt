-- Runs of the scan over attributes and tags.
use Rattle.std.proofs.Common.{◌≡◌, ℕ, Bool, true, false, ◌==◌, ◌||◌, ◌&&◌, List, [], ◌∷◌, ◌++◌, map, if◌then◌else◌, refl, sym, ◌∙◌, ap, subst, append_assoc, append-nil, inl, inr}
use Rattle.std.specs.List.{list_all, flat_map}
use Rattle.std.specs.Char.{encode_utf8}
use Rattle.std.specs.Str.{encode_utf8_all}
use Rattle.std.proofs.lemmas.Bool.{and_parts, or_from, eqb-true, eqb-false, eq-eqb, ne_eqb, cases_Bool}
use Rattle.markup.specs.Chars.{is_name_start, is_space, is_gap}
use Rattle.markup.specs.Name.{Name, is_name, name_text}
use Rattle.markup.specs.Reference.{Reference, is_reference, referred_character}
use Rattle.markup.specs.Attribute.{ValuePiece, Literal, Refers, is_piece, piece_text, Attribute, is_attribute, attribute_text, value_chars}
use Rattle.markup.specs.Token.{StartTag, is_start_tag}
use Rattle.markup.specs.Events.{spelled_name, given_attribute}
use Rattle.markup.specs.inner.Drafts.{add, no_name, no_draft, note_character, literal_char, given_by}
use Rattle.markup.specs.inner.Scans.{step, name_step, name_turn, referring_in}
use Rattle.markup.specs.declared.tag.Spelled.{Spelled}
use Rattle.markup.specs.declared.tag.Given.{Given}
use Rattle.markup.specs.declared.draft.Draft.{Draft}
use Rattle.markup.specs.declared.reference.ReferenceScan.TheVariants.{Begun}
use Rattle.markup.specs.declared.scan.NameScan.{NameScan}
use Rattle.markup.specs.declared.scan.NameScan.TheVariants.{First}
use Rattle.markup.specs.declared.scan.Scan.{Scan}
use Rattle.markup.specs.declared.scan.Scan.TheVariants.{Opened, StartName, Gap, AttributeName, BeforeEquals, AfterEquals, Value, ValueReference, AfterValue, Slash, EndOpened, EndName, EndGap}
use Rattle.markup.specs.declared.scan.Ended.TheVariants.{Start, End}
use Rattle.markup.specs.declared.scan.Turn.TheVariants.{Goes}
use Rattle.markup.proofs.CharLemmas.{equals_no_name, equals_no_space, quote_no_ampersand, closes_no_name, closes_no_start, closes_no_space, return_is_space, space_no_start, space_no_name, space_not, start_not, quote_no_space}
use Rattle.markup.proofs.NameLemmas.{in_name}
use Rattle.markup.proofs.ReferenceLemmas.{body}
use Rattle.markup.proofs.ReferenceRuns.{reference_end, reference_goes}
use Rattle.markup.proofs.AttributeLemmas.{attribute_facts, attribute_then, IsLiteral, literal_facts, refers_begins, value_then, attributes_then}
use Rattle.markup.proofs.TokenLemmas.{close, start_tag_facts}
use Rattle.markup.proofs.Runs.{goes, ends, spaces_run, name_run, noted_start, noted_attribute, noted_end}
use Rattle.markup.specs.inner.ScanRuns.{Over, run}

-- a draft by its parts
abbrev pub draft : Spelled → List Given → Spelled → List ℕ → Draft
draft n gs at v = record { name = n; given = gs; attribute = at; value = v }

-- the characters that pieces give, behind a literal CR or not
abbrev pub chars_from : Bool → List ValuePiece → List ℕ
chars_from false ps = value_chars ps
chars_from true [] = []
chars_from true (Refers r ∷ ps) = value_chars (Refers r ∷ ps)
chars_from true (Literal c ∷ ps) = if c == 10 then value_chars ps else value_chars (Literal c ∷ ps)

-- behind a CR the first LF is no character of its own
return_chars : (ps : List ValuePiece) → value_chars (Literal 13 ∷ ps) ≡ 32 ∷ chars_from true ps
unfolding is_space
return_chars [] = refl
return_chars (Refers r ∷ ps) = refl
return_chars (Literal c ∷ ps) = elim (cases_Bool (c == 10)) as (λ _. value_chars (Literal 13 ∷ Literal c ∷ ps) ≡ 32 ∷ chars_from true (Literal c ∷ ps)) [
  | inl k ↦ subst (λ (d : ℕ). value_chars (Literal 13 ∷ Literal d ∷ ps) ≡ 32 ∷ chars_from true (Literal d ∷ ps)) (sym (eqb-true c 10 k)) refl
  | inr k ↦ rw k refl
]

other_chars : (c : ℕ) (ps : List ValuePiece) → (c == 13) ≡ false → value_chars (Literal c ∷ ps) ≡ (if is_space c then 32 else c) ∷ value_chars ps
other_chars c ps h = rw h refl

space_bytes : (c : ℕ) → encode_utf8 (if is_space c then 32 else c) ≡ (if is_space c then encode_utf8 32 else encode_utf8 c)
space_bytes c = by (is_space c) where
  by : (b : Bool) → encode_utf8 (if b then 32 else c) ≡ (if b then encode_utf8 32 else encode_utf8 c)
  by true = refl
  by false = refl

-- what a literal adds to the value's bytes
plain_literal : (c : ℕ) (ps : List ValuePiece) → encode_utf8_all (value_chars (Literal c ∷ ps)) ≡ (if is_space c then encode_utf8 32 else encode_utf8 c) ++ encode_utf8_all (chars_from (c == 13) ps)
plain_literal c ps = elim (cases_Bool (c == 13)) as (λ _. encode_utf8_all (value_chars (Literal c ∷ ps)) ≡ (if is_space c then encode_utf8 32 else encode_utf8 c) ++ encode_utf8_all (chars_from (c == 13) ps)) [
  | inl k ↦ subst (λ (d : ℕ). encode_utf8_all (value_chars (Literal d ∷ ps)) ≡ (if is_space d then encode_utf8 32 else encode_utf8 d) ++ encode_utf8_all (chars_from (d == 13) ps)) (sym (eqb-true c 13 k)) (ap encode_utf8_all (return_chars ps) ∙ return_space ps)
  | inr k ↦ ap encode_utf8_all (other_chars c ps k) ∙ (ap (λ v. v ++ encode_utf8_all (value_chars ps)) (space_bytes c) ∙ ap (λ (b : Bool). (if is_space c then encode_utf8 32 else encode_utf8 c) ++ encode_utf8_all (chars_from b ps)) (sym k))
] where
  return_space : (ps : List ValuePiece) → encode_utf8_all (32 ∷ chars_from true ps) ≡ (if is_space 13 then encode_utf8 32 else encode_utf8 13) ++ encode_utf8_all (chars_from true ps)
  return_space ps = ap (λ (b : Bool). (if b then encode_utf8 32 else encode_utf8 13) ++ encode_utf8_all (chars_from true ps)) (sym return_is_space)

pub literal_bytes : (r : Bool) (c : ℕ) (ps : List ValuePiece) → encode_utf8_all (chars_from r (Literal c ∷ ps)) ≡ literal_char r c ++ encode_utf8_all (chars_from (c == 13) ps)
literal_bytes false c ps = plain_literal c ps ∙ ap (λ v. v ++ encode_utf8_all (chars_from (c == 13) ps)) (by (c == 10) (if is_space c then encode_utf8 32 else encode_utf8 c)) where
  by : (b : Bool) (v : List ℕ) → v ≡ (if b && false then [] else v)
  by true v = refl
  by false v = refl
literal_bytes true c ps = elim (cases_Bool (c == 10)) as (λ _. encode_utf8_all (chars_from true (Literal c ∷ ps)) ≡ literal_char true c ++ encode_utf8_all (chars_from (c == 13) ps)) [
  | inl k ↦ subst (λ (d : ℕ). encode_utf8_all (chars_from true (Literal d ∷ ps)) ≡ literal_char true d ++ encode_utf8_all (chars_from (d == 13) ps)) (sym (eqb-true c 10 k)) refl
  | inr k ↦ rw k (plain_literal c ps)
]

reference_bytes : (r : Bool) (f : Reference) (ps : List ValuePiece) → encode_utf8_all (chars_from r (Refers f ∷ ps)) ≡ encode_utf8 (referred_character f) ++ encode_utf8_all (value_chars ps)
reference_bytes true f ps = refl
reference_bytes false f ps = refl

module _ (n : Spelled) (gs : List Given) (at : Spelled) where
  literal_goes : (q : ℕ) (r : Bool) (c : ℕ) (v w : List ℕ) → IsLiteral q c → run (Value q r) (draft n gs at v) (c ∷ w) ≡ run (Value q (c == 13)) (draft n gs at (v ++ literal_char r c)) w
  literal_goes q r c v w f = goes (Value q r) (Value q (c == 13)) c (draft n gs at v) (draft n gs at (v ++ literal_char r c)) w (rw (f.no_quote, f.no_ampersand, f.xml, f.no_less) refl) refl

  value_ends : (q : ℕ) (r : Bool) (v w : List ℕ) → run (Value q r) (draft n gs at v) (q ∷ w) ≡ run AfterValue (draft n (gs ++ record { name = at; value = v } ∷ []) no_name []) w
  value_ends q r v w = goes (Value q r) AfterValue q (draft n gs at v) _ w (rw (eq-eqb q q refl) refl) refl

  ampersand_goes : (q : ℕ) (r : Bool) (v w : List ℕ) → (q == 38) ≡ false → run (Value q r) (draft n gs at v) (38 ∷ w) ≡ run (ValueReference q Begun) (draft n gs at v) w
  ampersand_goes q r v w h = goes (Value q r) (ValueReference q Begun) 38 (draft n gs at v) (draft n gs at v) w (rw (flipped q h) refl) refl where
    flipped : (q : ℕ) → (q == 38) ≡ false → (38 == q) ≡ false
    flipped q h = ne_eqb 38 q (λ e. eqb-false q 38 h (sym e))

  reference_piece : (q : ℕ) (r : Bool) (f : Reference) (v w : List ℕ) → (q == 38) ≡ false → is_reference f ≡ true → run (Value q r) (draft n gs at v) (38 ∷ (body f ++ 59 ∷ w)) ≡ run (Value q false) (draft n gs at (v ++ encode_utf8 (referred_character f))) w
  reference_piece q r f v w h a =
      let e = reference_end f a in
      ampersand_goes q r v (body f ++ 59 ∷ w) h
      ∙ (reference_goes (ValueReference q) (draft n gs at v) (λ r t c k. ap (referring_in q) k) (λ r t c. refl) Begun e.scan (body f) (59 ∷ w) e.read
      ∙ goes (ValueReference q e.scan) (Value q false) 59 (draft n gs at v) (draft n gs at (v ++ encode_utf8 (referred_character f))) w (ap (referring_in q) e.gives_is) (ap (λ t. draft n gs at (v ++ given_by t)) e.gives_is))

  -- a value up to its quote
  pub value_run : (q : ℕ) (r : Bool) (ps : List ValuePiece) (v w : List ℕ) → (q == 38) ≡ false → list_all (is_piece q) ps ≡ true → run (Value q r) (draft n gs at v) (flat_map piece_text ps ++ q ∷ w) ≡ run AfterValue (draft n (gs ++ record { name = at; value = v ++ encode_utf8_all (chars_from r ps) } ∷ []) no_name []) w
  value_run q true [] v w h a = value_ends q true v w ∙ ap (λ u. run AfterValue (draft n (gs ++ record { name = at; value = u } ∷ []) no_name []) w) (sym (append-nil v))
  value_run q false [] v w h a = value_ends q false v w ∙ ap (λ u. run AfterValue (draft n (gs ++ record { name = at; value = u } ∷ []) no_name []) w) (sym (append-nil v))
  value_run q r (Literal c ∷ ps) v w h a =
      literal_goes q r c v (flat_map piece_text ps ++ q ∷ w) (literal_facts q c (and_parts _ _ a).0)
      ∙ (value_run q (c == 13) ps (v ++ literal_char r c) w h (and_parts _ _ a).1
      ∙ ap (λ u. run AfterValue (draft n (gs ++ record { name = at; value = u } ∷ []) no_name []) w) (append_assoc v (literal_char r c) _ ∙ ap (λ u. v ++ u) (sym (literal_bytes r c ps))))
  value_run q r (Refers f ∷ ps) v w h a =
      ap (run (Value q r) (draft n gs at v)) (refers_begins f ps (q ∷ w))
      ∙ (reference_piece q r f v (flat_map piece_text ps ++ q ∷ w) h (and_parts _ _ a).0
      ∙ (value_run q false ps (v ++ encode_utf8 (referred_character f)) w h (and_parts _ _ a).1
      ∙ ap (λ u. run AfterValue (draft n (gs ++ record { name = at; value = u } ∷ []) no_name []) w) (append_assoc v (encode_utf8 (referred_character f)) _ ∙ ap (λ u. v ++ u) (sym (reference_bytes r f ps)))))

-- a text before which a name ends
pub record NameEnds (text : List ℕ) : Type 0 where
  pub char : ℕ
  pub more : List ℕ
  pub is : text ≡ char ∷ more
  pub no : in_name char ≡ false

space_name_ends : (xs w : List ℕ) → list_all is_space xs ≡ true → NameEnds w → NameEnds (xs ++ w)
space_name_ends [] w a k = k
space_name_ends (c ∷ xs) w a k = record { char = c; more = xs ++ w; is = refl; no = or_from _ _ (space_no_name c (and_parts _ _ a).0) (space_not c (and_parts _ _ a).0).0 }

gap_name_ends : (g w : List ℕ) → is_gap g ≡ true → NameEnds (g ++ w)
gap_name_ends [] w a = absurd (cc)
gap_name_ends (c ∷ g) w a = record { char = c; more = g ++ w; is = refl; no = or_from _ _ (space_no_name c (and_parts _ _ a).0) (space_not c (and_parts _ _ a).0).0 }

attributes_name_ends : (fs : List Attribute) (g x : List ℕ) → list_all is_attribute fs ≡ true → list_all is_space g ≡ true → NameEnds x → NameEnds (flat_map attribute_text fs ++ (g ++ x))
attributes_name_ends [] g x a s k = space_name_ends g x s k
attributes_name_ends (f ∷ fs) g x a s k = subst NameEnds (sym (attributes_then f fs (g ++ x) ∙ attribute_then f (flat_map attribute_text fs ++ (g ++ x)))) (gap_name_ends f.gap _ (attribute_facts f (and_parts _ _ a).0).gap)

-- a whole name before such a text
module _ (at : NameScan → Scan) (f : Spelled → Draft) (before behind : Scan)
    (in_it : (n : NameScan) (c : ℕ) → step (at n) c ≡ name_turn at (step behind c) (name_step n c))
    (enters : (c : ℕ) → is_name_start c ≡ true → step before c ≡ Goes (at First))
    (notes : (s : Scan) (part : NameScan) (c : ℕ) (n : Spelled) → note_character s (at part) c (f n) ≡ f (add part c n))
    (leaves : (n : NameScan) (t : Scan) (c : ℕ) (d : Draft) → note_character (at n) t c d ≡ note_character behind t c d) where
  name_before : (n : Name) (t : List ℕ) → is_name n ≡ true → NameEnds t → run before (f no_name) (name_text n ++ t) ≡ run behind (f (spelled_name n)) t
  name_before n t h k =
      ap (λ v. run before (f no_name) (name_text n ++ v)) k.is
      ∙ (name_run at f before behind in_it enters notes leaves n k.char k.more h k.no
      ∙ ap (run behind (f (spelled_name n))) (sym k.is))

start_name_enters : (first : Bool) (c : ℕ) → is_name_start c ≡ true → step (Opened first) c ≡ Goes (StartName First)
start_name_enters first c h = let k = start_not c h in rw (k.0, k.3, k.1, h) refl

attribute_name_enters : (c : ℕ) → is_name_start c ≡ true → step Gap c ≡ Goes (AttributeName First)
attribute_name_enters c h = rw h refl

end_name_enters : (c : ℕ) → is_name_start c ≡ true → step EndOpened c ≡ Goes (EndName First)
end_name_enters c h = rw h refl

gap_stays : (c : ℕ) → is_space c ≡ true → step Gap c ≡ Goes Gap
gap_stays c h = rw (space_no_start c h, h) refl

gap_entered : (g : List ℕ) (d : Draft) (w : List ℕ) → is_gap g ≡ true → run AfterValue d (g ++ w) ≡ run Gap d w
gap_entered [] d w a = absurd (cc)
gap_entered (c ∷ g) d w a = goes AfterValue Gap c d d (g ++ w) (rw (and_parts (is_space c) (list_all is_space g) a).0 refl) refl ∙ spaces_run Gap d g w gap_stays (λ c. refl) (and_parts (is_space c) (list_all is_space g) a).1

-- an attribute behind a tag's name or another attribute
pub attribute_run : (a : Attribute) (n : Spelled) (gs : List Given) (w : List ℕ) → is_attribute a ≡ true → run AfterValue (draft n gs no_name []) (attribute_text a ++ w) ≡ run AfterValue (draft n (gs ++ given_attribute a ∷ []) no_name []) w
attribute_run a n gs w h =
    let f = attribute_facts a h in
    ap (run AfterValue (draft n gs no_name [])) (attribute_then a w)
    ∙ (gap_entered a.gap (draft n gs no_name []) (name_text a.name ++ (a.before ++ 61 ∷ value_then a w)) f.gap
    ∙ (name_before AttributeName (λ m. draft n gs m []) Gap BeforeEquals (λ m c. refl) attribute_name_enters (λ s p c m. refl) noted_attribute a.name (a.before ++ 61 ∷ value_then a w) f.name (space_name_ends a.before (61 ∷ value_then a w) f.before (record { char = 61; more = value_then a w; is = refl; no = or_from _ _ equals_no_name refl }))
    ∙ (spaces_run BeforeEquals (draft n gs (spelled_name a.name) []) a.before (61 ∷ value_then a w) (λ c k. rw k refl) (λ c. refl) f.before
    ∙ (goes BeforeEquals AfterEquals 61 (draft n gs (spelled_name a.name) []) (draft n gs (spelled_name a.name) []) (value_then a w) (rw equals_no_space refl) refl
    ∙ (spaces_run AfterEquals (draft n gs (spelled_name a.name) []) a.after (a.quote ∷ (flat_map piece_text a.value ++ a.quote ∷ w)) (λ c k. rw k refl) (λ c. refl) f.after
    ∙ (goes AfterEquals (Value a.quote false) a.quote (draft n gs (spelled_name a.name) []) (draft n gs (spelled_name a.name) []) (flat_map piece_text a.value ++ a.quote ∷ w) (opens a.quote f.quote) refl
    ∙ value_run n gs (spelled_name a.name) a.quote false a.value [] w (quote_no_ampersand a.quote f.quote) f.value)))))) where
      opens : (q : ℕ) → (q == 34 || q == 39) ≡ true → step AfterEquals q ≡ Goes (Value q false)
      opens q h = rw (quote_no_space q h, h) refl

pub attributes_run : (fs : List Attribute) (n : Spelled) (gs : List Given) (w : List ℕ) → list_all is_attribute fs ≡ true → run AfterValue (draft n gs no_name []) (flat_map attribute_text fs ++ w) ≡ run AfterValue (draft n (gs ++ map given_attribute fs) no_name []) w
attributes_run [] n gs w a = ap (λ v. run AfterValue (draft n v no_name []) w) (sym (append-nil gs))
attributes_run (f ∷ fs) n gs w a =
    ap (run AfterValue (draft n gs no_name [])) (attributes_then f fs w)
    ∙ (attribute_run f n gs (flat_map attribute_text fs ++ w) (and_parts _ _ a).0
    ∙ (attributes_run fs n (gs ++ given_attribute f ∷ []) w (and_parts _ _ a).1
    ∙ ap (λ v. run AfterValue (draft n v no_name []) w) (append_assoc gs (given_attribute f ∷ []) (map given_attribute fs))))

-- the close of a tag
close_behind : (e : Bool) (d : Draft) (w : List ℕ) → run AfterValue d (close e ++ w) ≡ Over (Start e) d w
close_behind true d w = goes AfterValue Slash 47 d d (62 ∷ w) (rw (closes_no_space 47 refl) refl) refl
close_behind false d w = ends AfterValue (Start false) 62 d w (rw (closes_no_space 62 refl) refl)

close_in_gap : (e : Bool) (d : Draft) (w : List ℕ) → run Gap d (close e ++ w) ≡ Over (Start e) d w
close_in_gap true d w = goes Gap Slash 47 d d (62 ∷ w) (rw (closes_no_start 47 refl, closes_no_space 47 refl) refl) refl
close_in_gap false d w = ends Gap (Start false) 62 d w (rw (closes_no_start 62 refl, closes_no_space 62 refl) refl)

gap_closes : (g : List ℕ) (e : Bool) (d : Draft) (w : List ℕ) → list_all is_space g ≡ true → run AfterValue d (g ++ (close e ++ w)) ≡ Over (Start e) d w
gap_closes [] e d w a = close_behind e d w
gap_closes (c ∷ g) e d w a = gap_entered (c ∷ g) d (close e ++ w) a ∙ close_in_gap e d w

close_name_ends : (e : Bool) (w : List ℕ) → NameEnds (close e ++ w)
close_name_ends true w = record { char = 47; more = 62 ∷ w; is = refl; no = or_from _ _ (closes_no_name 47 refl) refl }
close_name_ends false w = record { char = 62; more = w; is = refl; no = or_from _ _ (closes_no_name 62 refl) refl }

-- a start tag behind its `<`
pub start_tag_run : (first : Bool) (t : StartTag) (w : List ℕ) → is_start_tag t ≡ true → run (Opened first) no_draft (name_text t.name ++ (flat_map attribute_text t.attributes ++ (t.gap ++ (close t.is_empty ++ w)))) ≡ Over (Start t.is_empty) (draft (spelled_name t.name) (map given_attribute t.attributes) no_name []) w
start_tag_run first t w h =
    let f = start_tag_facts t h in
    name_before StartName (λ m. draft m [] no_name []) (Opened first) AfterValue (λ m c. refl) (start_name_enters first) (λ s p c m. refl) noted_start t.name _ f.name (attributes_name_ends t.attributes t.gap (close t.is_empty ++ w) f.attributes f.gap (close_name_ends t.is_empty w))
    ∙ (attributes_run t.attributes (spelled_name t.name) [] (t.gap ++ (close t.is_empty ++ w)) f.attributes
    ∙ gap_closes t.gap t.is_empty (draft (spelled_name t.name) (map given_attribute t.attributes) no_name []) w f.gap)

-- an end tag behind its `</`
pub end_tag_run : (n : Name) (g w : List ℕ) → is_name n ≡ true → list_all is_space g ≡ true → run EndOpened no_draft (name_text n ++ (g ++ 62 ∷ w)) ≡ Over End (draft (spelled_name n) [] no_name []) w
end_tag_run n g w h a =
    name_before EndName (λ m. draft m [] no_name []) EndOpened EndGap (λ m c. refl) end_name_enters (λ s p c m. refl) noted_end n (g ++ 62 ∷ w) h (space_name_ends g (62 ∷ w) a (close_name_ends false w))
    ∙ (spaces_run EndGap (draft (spelled_name n) [] no_name []) g (62 ∷ w) (λ c k. rw k refl) (λ c. refl) a
    ∙ ends EndGap End 62 (draft (spelled_name n) [] no_name []) w (rw (closes_no_space 62 refl) refl))
