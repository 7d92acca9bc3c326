-- Comments, instructions, tags and declarations: one reading of each exists.
use Rattle.std.proofs.Common.{◌≡◌, ℕ, Bool, true, false, ◌||◌, ◌&&◌, ◌==◌, List, [], ◌∷◌, ◌++◌, codes, if◌then◌else◌, refl, sym, ◌∙◌, append_assoc}
use Rattle.std.specs.List.{list_all, flat_map}
use Rattle.std.proofs.lemmas.Bool.{and_parts, and_from, not-true, not_from_false, both_ways, eq-eqb, eqb-false, true≢false}
use Rattle.markup.specs.Chars.{is_space, is_name_char}
use Rattle.markup.specs.Name.{Name, is_name, is_part, name_text}
use Rattle.markup.specs.Attribute.{Attribute, is_attribute, attribute_text}
use Rattle.markup.specs.Declaration.{is_declaration}
use Rattle.markup.specs.Token.{StartTag, is_start_tag, start_tag_text, is_comment, is_instruction_text, is_instruction, is_xml_word}
use Rattle.markup.proofs.CharLemmas.{space_no_name, question_no_name}
use Rattle.markup.proofs.NameLemmas.{name_agree, part_all}
use Rattle.markup.proofs.AttributeLemmas.{closed, closed_ends_name, space_ends_name, attributes_agree, attributes_end_name}
use Rattle.markup.proofs.Spans.{heads, tails, cons, stops, span_agree}

comment_tail : (c : ℕ) (s : List ℕ) → is_comment (c ∷ s) ≡ true → is_comment s ≡ true
comment_tail c [] h = refl
comment_tail c (d ∷ s) h = (and_parts _ _ h).1

-- no comment's text has two hyphens, with the hyphen behind it
no_hyphens : (c : ℕ) (t x y : List ℕ) → is_comment (c ∷ t) ≡ true → 45 ∷ 45 ∷ x ≡ c ∷ (t ++ 45 ∷ y) → ⊥
no_hyphens c [] x y h e = both_ways (c == 45) (not-true _ (and_parts _ _ h).1) (eq-eqb c 45 (sym (heads 45 c _ _ e)))
no_hyphens c (d ∷ t) x y h e =
    let f = tails 45 c _ _ e in
    both_ways (c == 45 && d == 45) (not-true _ (and_parts _ _ (and_parts _ _ h).0).1) (and_from _ _ (eq-eqb c 45 (sym (heads 45 c _ _ e))) (eq-eqb d 45 (sym (heads 45 d _ _ f))))

-- two comments' texts at the front of one text are one
pub comment_agree : (s t x y : List ℕ) → is_comment s ≡ true → is_comment t ≡ true → s ++ 45 ∷ 45 ∷ 62 ∷ x ≡ t ++ 45 ∷ 45 ∷ 62 ∷ y → (s ≡ t) × (x ≡ y)
comment_agree [] [] x y a b e = (refl, tails 62 62 x y (tails 45 45 _ _ (tails 45 45 _ _ e)))
comment_agree [] (d ∷ t) x y a b e = absurd (no_hyphens d t (62 ∷ x) (45 ∷ 62 ∷ y) b e)
comment_agree (c ∷ s) [] x y a b e = absurd (no_hyphens c s (62 ∷ y) (45 ∷ 62 ∷ x) a (sym e))
comment_agree (c ∷ s) (d ∷ t) x y a b e =
    let r = comment_agree s t x y (comment_tail c s a) (comment_tail d t b) (tails c d _ _ e) in
    (cons c d s t (heads c d _ _ e) r.0, r.1)

pub instruction_tail : (c : ℕ) (s : List ℕ) → is_instruction_text (c ∷ s) ≡ true → is_instruction_text s ≡ true
instruction_tail c [] h = refl
instruction_tail c (d ∷ s) h = (and_parts _ _ h).1

-- no instruction's text has `?>`, with the `?` behind it
no_mark : (c : ℕ) (t x y : List ℕ) → is_instruction_text (c ∷ t) ≡ true → 63 ∷ 62 ∷ x ≡ c ∷ (t ++ 63 ∷ y) → ⊥
no_mark c [] x y h e = eqb-false 62 63 refl (heads 62 63 _ _ (tails 63 c _ _ e))
no_mark c (d ∷ t) x y h e =
    let f = tails 63 c _ _ e in
    both_ways (c == 63 && d == 62) (not-true _ (and_parts _ _ (and_parts _ _ h).0).1) (and_from _ _ (eq-eqb c 63 (sym (heads 63 c _ _ e))) (eq-eqb d 62 (sym (heads 62 d _ _ f))))

pub instruction_text_agree : (s t x y : List ℕ) → is_instruction_text s ≡ true → is_instruction_text t ≡ true → s ++ 63 ∷ 62 ∷ x ≡ t ++ 63 ∷ 62 ∷ y → (s ≡ t) × (x ≡ y)
instruction_text_agree [] [] x y a b e = (refl, tails 62 62 x y (tails 63 63 _ _ e))
instruction_text_agree [] (d ∷ t) x y a b e = absurd (no_mark d t x (62 ∷ y) b e)
instruction_text_agree (c ∷ s) [] x y a b e = absurd (no_mark c s y (62 ∷ x) a (sym e))
instruction_text_agree (c ∷ s) (d ∷ t) x y a b e =
    let r = instruction_text_agree s t x y (instruction_tail c s a) (instruction_tail d t b) (tails c d _ _ e) in
    (cons c d s t (heads c d _ _ e) r.0, r.1)

-- the facts on an instruction, each by its name
pub record IsInstruction (p s : List ℕ) : Type 0 where
  pub target : is_part p ≡ true
  pub no_xml : is_xml_word p ≡ false
  pub text : is_instruction_text s ≡ true
  pub ends : (w : List ℕ) → stops is_name_char (s ++ 63 ∷ w) ≡ true

pub instruction_facts : (target text : List ℕ) → is_instruction target text ≡ true → IsInstruction target text
instruction_facts target [] h = record { target = (and_parts _ _ h).0; no_xml = not-true _ (and_parts _ _ h).1; text = refl; ends = λ w. not_from_false _ question_no_name }
instruction_facts target (c ∷ text) h =
    let k = and_parts _ _ h in let l = and_parts _ _ k.0 in let m = and_parts _ _ l.0 in
    record { target = m.0; no_xml = not-true _ m.1; text = k.1; ends = λ w. not_from_false _ (space_no_name c l.1) }

-- two instructions' targets and texts at the front of one text are one
pub instruction_agree : (p q s t x y : List ℕ) → is_instruction p s ≡ true → is_instruction q t ≡ true → p ++ (s ++ 63 ∷ 62 ∷ x) ≡ q ++ (t ++ 63 ∷ 62 ∷ y) → (p ≡ q) × (s ≡ t) × (x ≡ y)
instruction_agree p q s t x y a b e =
    let f = instruction_facts p s a in
    let g = instruction_facts q t b in
    let k = span_agree is_name_char p q _ _ (part_all p f.target) (part_all q g.target) (f.ends (62 ∷ x)) (g.ends (62 ∷ y)) e in
    let l = instruction_text_agree s t x y f.text g.text k.1 in
    (k.0, l.0, l.1)

-- the facts on a start tag, each by its name
pub record IsStartTag (t : StartTag) : Type 0 where
  pub name : is_name t.name ≡ true
  pub attributes : list_all is_attribute t.attributes ≡ true
  pub gap : list_all is_space t.gap ≡ true

pub start_tag_facts : (t : StartTag) → is_start_tag t ≡ true → IsStartTag t
start_tag_facts t h =
    let k = and_parts _ _ h in let l = and_parts _ _ k.0 in
    record { name = l.0; attributes = l.1; gap = k.1 }

-- how a start tag is closed
abbrev pub close : Bool → List ℕ
close is_empty = if is_empty then codes "/>" else codes ">"

regroup : (n a g c w : List ℕ) → (codes "<" ++ n ++ a ++ g ++ c) ++ w ≡ 60 ∷ (n ++ (a ++ (g ++ (c ++ w))))
regroup n a g c w = simp append_assoc

pub start_tag_then : (t : StartTag) (w : List ℕ) → start_tag_text t ++ w ≡ 60 ∷ (name_text t.name ++ (flat_map attribute_text t.attributes ++ (t.gap ++ (close t.is_empty ++ w))))
start_tag_then t w = regroup (name_text t.name) (flat_map attribute_text t.attributes) t.gap (close t.is_empty) w

pub close_closed : (b : Bool) (w : List ℕ) → closed (close b ++ w) ≡ true
close_closed true w = refl
close_closed false w = refl

close_agree : (b c : Bool) (x y : List ℕ) → close b ++ x ≡ close c ++ y → (b ≡ c) × (x ≡ y)
close_agree true true x y e = (refl, tails 62 62 x y (tails 47 47 _ _ e))
close_agree true false x y e = absurd (eqb-false 47 62 refl (heads 47 62 _ _ e))
close_agree false true x y e = absurd (eqb-false 62 47 refl (heads 62 47 _ _ e))
close_agree false false x y e = (refl, tails 62 62 x y e)

start_tag_same : (m n : Name) (fs gs : List Attribute) (g h : List ℕ) (b c : Bool) → m ≡ n → fs ≡ gs → g ≡ h → b ≡ c →
    ◌≡◌ {A = StartTag} (record { name = m; attributes = fs; gap = g; is_empty = b }) (record { name = n; attributes = gs; gap = h; is_empty = c })
start_tag_same m n fs gs g h b c e1 e2 e3 e4 = cc

-- two start tags at the front of one text are one
pub start_tag_agree : (s t : StartTag) (x y : List ℕ) → is_start_tag s ≡ true → is_start_tag t ≡ true → start_tag_text s ++ x ≡ start_tag_text t ++ y → (s ≡ t) × (x ≡ y)
start_tag_agree s t x y a b e =
    let f = start_tag_facts s a in
    let g = start_tag_facts t b in
    let k = name_agree s.name t.name _ _ f.name g.name (attributes_end_name s.attributes s.gap _ f.attributes f.gap (close_closed s.is_empty x)) (attributes_end_name t.attributes t.gap _ g.attributes g.gap (close_closed t.is_empty y)) (tails 60 60 _ _ (sym (start_tag_then s x) ∙ (e ∙ start_tag_then t y))) in
    let l = attributes_agree s.attributes t.attributes s.gap t.gap _ _ f.attributes g.attributes f.gap g.gap (close_closed s.is_empty x) (close_closed t.is_empty y) k.1 in
    let m = close_agree s.is_empty t.is_empty x y l.2 in
    (start_tag_same s.name t.name s.attributes t.attributes s.gap t.gap s.is_empty t.is_empty k.0 l.0 l.1 m.0, m.1)

-- two names of end tags with the white space behind them at the front of one text are one
pub end_tag_agree : (m n : Name) (g h x y : List ℕ) → is_name m ≡ true → is_name n ≡ true → list_all is_space g ≡ true → list_all is_space h ≡ true → name_text m ++ (g ++ 62 ∷ x) ≡ name_text n ++ (h ++ 62 ∷ y) → (m ≡ n) × (g ≡ h) × (x ≡ y)
end_tag_agree m n g h x y a b s t e =
    let k = name_agree m n _ _ a b (space_ends_name g (62 ∷ x) s (closed_ends_name (62 ∷ x) refl)) (space_ends_name h (62 ∷ y) t (closed_ends_name (62 ∷ y) refl)) e in
    let l = attributes_agree [] [] g h (62 ∷ x) (62 ∷ y) refl refl s t refl refl k.1 in
    (k.0, l.1, tails 62 62 x y l.2)

-- the fields of a declaration are attributes
pub declaration_all : (fs : List Attribute) → is_declaration fs ≡ true → list_all is_attribute fs ≡ true
declaration_all [] h = refl
declaration_all (v ∷ []) h = and_from _ _ (field v _ _ h) refl where
  field : (a : Attribute) (p q : Bool) → (is_attribute a && p && q) ≡ true → is_attribute a ≡ true
  field a p q h = (and_parts _ _ (and_parts _ _ h).0).0
declaration_all (v ∷ a ∷ []) h = and_from _ _ (field v _ _ (and_parts _ _ h).0) (and_from _ _ (either a _ _ _ _ (and_parts _ _ h).1) refl) where
  field : (a : Attribute) (p q : Bool) → (is_attribute a && p && q) ≡ true → is_attribute a ≡ true
  field a p q h = (and_parts _ _ (and_parts _ _ h).0).0

  either : (a : Attribute) (p q r s : Bool) → ((is_attribute a && p && q) || (is_attribute a && r && s)) ≡ true → is_attribute a ≡ true
  either a p q r s h = first (is_attribute a) p q r s h where
    first : (b p q r s : Bool) → ((b && p && q) || (b && r && s)) ≡ true → b ≡ true
    first true p q r s h = refl
    first false p q r s h = h
declaration_all (v ∷ a ∷ b ∷ []) h = and_from _ _ (field v _ _ (and_parts _ _ (and_parts _ _ h).0).0) (and_from _ _ (field a _ _ (and_parts _ _ (and_parts _ _ h).0).1) (and_from _ _ (field b _ _ (and_parts _ _ h).1) refl)) where
  field : (a : Attribute) (p q : Bool) → (is_attribute a && p && q) ≡ true → is_attribute a ≡ true
  field a p q h = (and_parts _ _ (and_parts _ _ h).0).0
declaration_all (v ∷ a ∷ b ∷ c ∷ more) h = absurd (true≢false (sym h))
