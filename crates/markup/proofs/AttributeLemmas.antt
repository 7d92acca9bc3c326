-- Attributes: one reading of an attribute exists, and one of a list of them with the white space behind it.
use Rattle.std.proofs.Common.{◌≡◌, ℕ, Bool, true, false, not, ◌||◌, ◌==◌, List, [], ◌∷◌, ◌++◌, codes, refl, sym, ◌∙◌, ap, subst, append_assoc}
use Rattle.std.specs.List.{list_all, flat_map}
use Rattle.std.proofs.lemmas.Bool.{and_parts, or_from, not-true, not_from_false, both_ways, eq-eqb}
use Rattle.markup.specs.Chars.{is_xml_char, is_space, is_gap, is_name_start}
use Rattle.markup.specs.Name.{Name, is_name, name_text}
use Rattle.markup.specs.Reference.{Reference, reference_text}
use Rattle.markup.specs.Attribute.{ValuePiece, Literal, Refers, is_piece, piece_text, Attribute, is_attribute, attribute_text}
use Rattle.markup.proofs.CharLemmas.{space_no_name, space_no_start, space_not, closes, closes_no_name, closes_no_start, closes_no_space, closes_no_colon, equals_no_name, equals_no_space, quote_no_space, quote_no_ampersand}
use Rattle.markup.proofs.NameLemmas.{in_name, name_agree, name_begins, BeginsName}
use Rattle.markup.proofs.ReferenceLemmas.{body, reference_agree, reference_then}
use Rattle.markup.proofs.Spans.{heads, tails, stops, span_agree}

-- the facts on an attribute, each by its name
pub record IsAttribute (a : Attribute) : Type 0 where
  pub gap : is_gap a.gap ≡ true
  pub name : is_name a.name ≡ true
  pub before : list_all is_space a.before ≡ true
  pub after : list_all is_space a.after ≡ true
  pub quote : (a.quote == 34 || a.quote == 39) ≡ true
  pub value : list_all (is_piece a.quote) a.value ≡ true

pub attribute_facts : (a : Attribute) → is_attribute a ≡ true → IsAttribute a
attribute_facts a h =
    let k = and_parts _ _ h in let l = and_parts _ _ k.0 in let m = and_parts _ _ l.0 in let n = and_parts _ _ m.0 in let o = and_parts _ _ n.0 in
    record { gap = o.0; name = o.1; before = n.1; after = m.1; quote = l.1; value = k.1 }

pub gap_all : (xs : List ℕ) → is_gap xs ≡ true → list_all is_space xs ≡ true
gap_all [] h = refl
gap_all (c ∷ xs) h = h

regroup : (g n b a v w : List ℕ) (q : ℕ) → (g ++ n ++ b ++ codes "=" ++ a ++ q ∷ [] ++ v ++ q ∷ []) ++ w ≡ g ++ (n ++ (b ++ 61 ∷ (a ++ q ∷ (v ++ q ∷ w))))
regroup g n b a v w q = simp append_assoc

pub attribute_then : (a : Attribute) (w : List ℕ) → attribute_text a ++ w ≡ a.gap ++ (name_text a.name ++ (a.before ++ 61 ∷ (a.after ++ a.quote ∷ (flat_map piece_text a.value ++ a.quote ∷ w))))
attribute_then a w = regroup a.gap (name_text a.name) a.before a.after (flat_map piece_text a.value) w a.quote

-- the facts on a literal of a value
pub record IsLiteral (quote c : ℕ) : Type 0 where
  pub xml : is_xml_char c ≡ true
  pub no_less : (c == 60) ≡ false
  pub no_ampersand : (c == 38) ≡ false
  pub no_quote : (c == quote) ≡ false

pub literal_facts : (quote c : ℕ) → is_piece quote (Literal c) ≡ true → IsLiteral quote c
literal_facts quote c h =
    let k = and_parts _ _ h in let l = and_parts _ _ k.0 in let m = and_parts _ _ l.0 in
    record { xml = m.0; no_less = not-true _ m.1; no_ampersand = not-true _ l.1; no_quote = not-true _ k.1 }

apart : (c d : ℕ) → (c == d) ≡ false → c ≡ d → ⊥
apart c d h e = both_ways _ h (eq-eqb c d e)

literal_same : (c d : ℕ) (ps qs : List ValuePiece) → c ≡ d → ps ≡ qs → Literal c ∷ ps ≡ Literal d ∷ qs
literal_same c d ps qs e f = cc

refers_same : (r s : Reference) (ps qs : List ValuePiece) → r ≡ s → ps ≡ qs → Refers r ∷ ps ≡ Refers s ∷ qs
refers_same r s ps qs e f = cc

refers_then : (r : Reference) (ps : List ValuePiece) (x : List ℕ) → flat_map piece_text (Refers r ∷ ps) ++ x ≡ reference_text r ++ (flat_map piece_text ps ++ x)
refers_then r ps x = append_assoc (reference_text r) (flat_map piece_text ps) x

pub refers_begins : (r : Reference) (ps : List ValuePiece) (x : List ℕ) → flat_map piece_text (Refers r ∷ ps) ++ x ≡ 38 ∷ (body r ++ 59 ∷ (flat_map piece_text ps ++ x))
refers_begins r ps x = refers_then r ps x ∙ reference_then r (flat_map piece_text ps ++ x)

-- two values of one quote at the front of one text are one
pub pieces_agree : (q : ℕ) (ps qs : List ValuePiece) (x y : List ℕ) → (q == 38) ≡ false → list_all (is_piece q) ps ≡ true → list_all (is_piece q) qs ≡ true → flat_map piece_text ps ++ q ∷ x ≡ flat_map piece_text qs ++ q ∷ y → (ps ≡ qs) × (x ≡ y)
pieces_agree q [] [] x y k a b e = (refl, tails q q x y e)
pieces_agree q [] (Literal d ∷ qs) x y k a b e = absurd (apart d q (literal_facts q d (and_parts _ _ b).0).no_quote (sym (heads q d _ _ e)))
pieces_agree q [] (Refers s ∷ qs) x y k a b e = absurd (apart q 38 k (heads q 38 _ _ (e ∙ refers_begins s qs (q ∷ y))))
pieces_agree q (Literal c ∷ ps) [] x y k a b e = absurd (apart c q (literal_facts q c (and_parts _ _ a).0).no_quote (heads c q _ _ e))
pieces_agree q (Literal c ∷ ps) (Literal d ∷ qs) x y k a b e =
    let r = pieces_agree q ps qs x y k (and_parts _ _ a).1 (and_parts _ _ b).1 (tails c d _ _ e) in
    (literal_same c d ps qs (heads c d _ _ e) r.0, r.1)
pieces_agree q (Literal c ∷ ps) (Refers s ∷ qs) x y k a b e = absurd (apart c 38 (literal_facts q c (and_parts _ _ a).0).no_ampersand (heads c 38 _ _ (e ∙ refers_begins s qs (q ∷ y))))
pieces_agree q (Refers r ∷ ps) [] x y k a b e = absurd (apart q 38 k (sym (heads 38 q _ _ (sym (refers_begins r ps (q ∷ x)) ∙ e))))
pieces_agree q (Refers r ∷ ps) (Literal d ∷ qs) x y k a b e = absurd (apart d 38 (literal_facts q d (and_parts _ _ b).0).no_ampersand (sym (heads 38 d _ _ (sym (refers_begins r ps (q ∷ x)) ∙ e))))
pieces_agree q (Refers r ∷ ps) (Refers s ∷ qs) x y k a b e =
    let m = reference_agree r s (flat_map piece_text ps ++ q ∷ x) (flat_map piece_text qs ++ q ∷ y) (and_parts _ _ a).0 (and_parts _ _ b).0 (sym (refers_then r ps (q ∷ x)) ∙ (e ∙ refers_then s qs (q ∷ y))) in
    let n = pieces_agree q ps qs x y k (and_parts _ _ a).1 (and_parts _ _ b).1 m.1 in
    (refers_same r s ps qs m.0 n.0, n.1)

-- white space and what may follow it
pub space_ends_name : (xs w : List ℕ) → list_all is_space xs ≡ true → stops in_name w ≡ true → stops in_name (xs ++ w) ≡ true
space_ends_name [] w h k = k
space_ends_name (c ∷ xs) w h k = not_from_false _ (or_from _ _ (space_no_name c (and_parts _ _ h).0) (space_not c (and_parts _ _ h).0).0)

pub name_stops_space : (n : Name) (w : List ℕ) → is_name n ≡ true → stops is_space (name_text n ++ w) ≡ true
name_stops_space n w h = begun (name_text n) w (name_begins n h) where
  begun : (text w : List ℕ) → BeginsName text → stops is_space (text ++ w) ≡ true
  begun text w k = rw (k.text_is) (no_space k.char k.starts) where
    no_space : (c : ℕ) → is_name_start c ≡ true → not (is_space c) ≡ true
    no_space c h = elim (is_space c) as (λ v. is_space c ≡ v → not v ≡ true) [ true ↦ λ e. absurd (both_ways _ (space_no_start c e) h) | false ↦ λ _. refl ] refl

attribute_same : (g h : List ℕ) (m n : Name) (b c a d : List ℕ) (q r : ℕ) (v u : List ValuePiece) → g ≡ h → m ≡ n → b ≡ c → a ≡ d → q ≡ r → v ≡ u →
    ◌≡◌ {A = Attribute} (record { gap = g; name = m; before = b; after = a; quote = q; value = v }) (record { gap = h; name = n; before = c; after = d; quote = r; value = u })
attribute_same g h m n b c a d q r v u e1 e2 e3 e4 e5 e6 = cc

module _ (a b : Attribute) (f : IsAttribute a) (g : IsAttribute b) (x y : List ℕ) where
  same_quote : a.quote ≡ b.quote → flat_map piece_text a.value ++ a.quote ∷ x ≡ flat_map piece_text b.value ++ b.quote ∷ y → (a.value ≡ b.value) × (x ≡ y)
  same_quote e k = pieces_agree a.quote a.value b.value x y (quote_no_ampersand a.quote f.quote) f.value
      (subst (λ (q : ℕ). list_all (is_piece q) b.value ≡ true) (sym e) g.value)
      (k ∙ subst (λ (q : ℕ). flat_map piece_text b.value ++ b.quote ∷ y ≡ flat_map piece_text b.value ++ q ∷ y) (sym e) refl)

-- what stands behind the `=` of an attribute
abbrev pub value_then : Attribute → List ℕ → List ℕ
value_then a w = a.after ++ a.quote ∷ (flat_map piece_text a.value ++ a.quote ∷ w)

-- two attributes at the front of one text are one
pub attribute_agree : (a b : Attribute) (x y : List ℕ) → is_attribute a ≡ true → is_attribute b ≡ true → attribute_text a ++ x ≡ attribute_text b ++ y → (a ≡ b) × (x ≡ y)
attribute_agree a b x y h k e =
    let f = attribute_facts a h in
    let g = attribute_facts b k in
    let s1 = span_agree is_space a.gap b.gap _ _ (gap_all a.gap f.gap) (gap_all b.gap g.gap) (name_stops_space a.name _ f.name) (name_stops_space b.name _ g.name) (sym (attribute_then a x) ∙ (e ∙ attribute_then b y)) in
    let s2 = name_agree a.name b.name _ _ f.name g.name (space_ends_name a.before (61 ∷ value_then a x) f.before (equals_ends (value_then a x))) (space_ends_name b.before (61 ∷ value_then b y) g.before (equals_ends (value_then b y))) s1.1 in
    let s3 = span_agree is_space a.before b.before _ _ f.before g.before (equals_stops (value_then a x)) (equals_stops (value_then b y)) s2.1 in
    let s4 = span_agree is_space a.after b.after _ _ f.after g.after (not_from_false _ (quote_no_space a.quote f.quote)) (not_from_false _ (quote_no_space b.quote g.quote)) (tails 61 61 _ _ s3.1) in
    let s5 = same_quote a b f g x y (heads a.quote b.quote _ _ s4.1) (tails a.quote b.quote _ _ s4.1) in
    (attribute_same a.gap b.gap a.name b.name a.before b.before a.after b.after a.quote b.quote a.value b.value s1.0 s2.0 s3.0 s4.0 (heads a.quote b.quote _ _ s4.1) s5.0, s5.1) where
      equals_ends : (w : List ℕ) → stops in_name (61 ∷ w) ≡ true
      equals_ends w = not_from_false _ (or_from _ _ equals_no_name refl)

      equals_stops : (w : List ℕ) → stops is_space (61 ∷ w) ≡ true
      equals_stops w = not_from_false _ equals_no_space

-- what closes a tag or a declaration behind its attributes and the gap
abbrev pub closed : List ℕ → Bool
closed [] = false
closed (c ∷ w) = closes c

pub closed_stops_space : (w : List ℕ) → closed w ≡ true → stops is_space w ≡ true
closed_stops_space [] h = refl
closed_stops_space (c ∷ w) h = not_from_false _ (closes_no_space c h)

pub closed_ends_name : (w : List ℕ) → closed w ≡ true → stops in_name w ≡ true
closed_ends_name [] h = refl
closed_ends_name (c ∷ w) h = not_from_false _ (or_from _ _ (closes_no_name c h) (closes_no_colon c h))

pub closed_begins_no_name : (n : Name) (v w : List ℕ) → is_name n ≡ true → closed w ≡ true → w ≡ name_text n ++ v → ⊥
closed_begins_no_name n v w h k e = begun (name_text n) v w (name_begins n h) k e where
  begun : (text v w : List ℕ) → BeginsName text → closed w ≡ true → w ≡ text ++ v → ⊥
  begun text v w b k e =
      let is : w ≡ b.char ∷ (b.more ++ v) = e ∙ ap (λ t. t ++ v) b.text_is in
      both_ways _ (closes_no_start b.char (subst (λ t. closed t ≡ true) is k)) b.starts

pub attributes_then : (a : Attribute) (fs : List Attribute) (w : List ℕ) → flat_map attribute_text (a ∷ fs) ++ w ≡ attribute_text a ++ (flat_map attribute_text fs ++ w)
attributes_then a fs w = append_assoc (attribute_text a) (flat_map attribute_text fs) w

attributes_same : (a b : Attribute) (fs gs : List Attribute) → a ≡ b → fs ≡ gs → (a ∷ fs) ≡ (b ∷ gs)
attributes_same a b fs gs e f = cc

-- the gap before the close is not that before an attribute
gap_no_attribute : (g : List ℕ) (x : List ℕ) (b : Attribute) (w : List ℕ) → list_all is_space g ≡ true → closed x ≡ true → is_attribute b ≡ true → g ++ x ≡ attribute_text b ++ w → ⊥
gap_no_attribute g x b w h k a e =
    let f = attribute_facts b a in
    closed_begins_no_name b.name _ x f.name k
    (span_agree is_space g b.gap x _ h (gap_all b.gap f.gap) (closed_stops_space x k) (name_stops_space b.name _ f.name) (e ∙ attribute_then b w)).1

-- two lists of attributes, each with white space and a close behind it, at the front of one text are one
pub attributes_agree : (fs gs : List Attribute) (g h x y : List ℕ) → list_all is_attribute fs ≡ true → list_all is_attribute gs ≡ true → list_all is_space g ≡ true → list_all is_space h ≡ true → closed x ≡ true → closed y ≡ true →
    flat_map attribute_text fs ++ (g ++ x) ≡ flat_map attribute_text gs ++ (h ++ y) → (fs ≡ gs) × (g ≡ h) × (x ≡ y)
attributes_agree [] [] g h x y a b s t k l e =
    let r = span_agree is_space g h x y s t (closed_stops_space x k) (closed_stops_space y l) e in (refl, r.0, r.1)
attributes_agree [] (c ∷ gs) g h x y a b s t k l e = absurd (gap_no_attribute g x c _ s k (and_parts _ _ b).0 (e ∙ attributes_then c gs (h ++ y)))
attributes_agree (c ∷ fs) [] g h x y a b s t k l e = absurd (gap_no_attribute h y c _ t l (and_parts _ _ a).0 (sym e ∙ attributes_then c fs (g ++ x)))
attributes_agree (c ∷ fs) (d ∷ gs) g h x y a b s t k l e =
    let m = attribute_agree c d _ _ (and_parts _ _ a).0 (and_parts _ _ b).0 (sym (attributes_then c fs (g ++ x)) ∙ (e ∙ attributes_then d gs (h ++ y))) in
    let n = attributes_agree fs gs g h x y (and_parts _ _ a).1 (and_parts _ _ b).1 s t k l m.1 in
    (attributes_same c d fs gs m.0 n.0, n.1, n.2)

-- a name ends where attributes, white space and a close stand behind it
pub attributes_end_name : (fs : List Attribute) (g x : List ℕ) → list_all is_attribute fs ≡ true → list_all is_space g ≡ true → closed x ≡ true → stops in_name (flat_map attribute_text fs ++ (g ++ x)) ≡ true
attributes_end_name [] g x a s k = space_ends_name g x s (closed_ends_name x k)
attributes_end_name (c ∷ fs) g x a s k = rw (attributes_then c fs (g ++ x), attribute_then c (flat_map attribute_text fs ++ (g ++ x))) (gapped c.gap _ (attribute_facts c (and_parts _ _ a).0).gap) where
  gapped : (g w : List ℕ) → is_gap g ≡ true → stops in_name (g ++ w) ≡ true
  gapped [] w h = absurd (cc)
  gapped (c ∷ g) w h = not_from_false _ (or_from _ _ (space_no_name c (and_parts _ _ h).0) (space_not c (and_parts _ _ h).0).0)
