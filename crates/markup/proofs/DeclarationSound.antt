-- Fields of a declaration from their parts, and what completes a declaration.
use Rattle.std.proofs.Common.{◌≡◌, ℕ, Bool, true, false, not, ◌==◌, ◌||◌, ◌&&◌, inl, inr, List, [], ◌∷◌, ◌++◌, map, codes, drop, refl, sym, ◌∙◌, ap, subst, arith}
use Rattle.std.specs.List.{list_all, flat_map}
use Rattle.std.specs.Char.{to_ascii_lowercase}
use Rattle.std.proofs.lemmas.Bool.{and_parts, and_from, or_left, or_right, both_ways, eqb-true}
use Rattle.std.proofs.lemmas.Bool.Decides.{nat_tests}
use Rattle.lexical_core.proofs.EqualBytes.{bytes_equal}
use Rattle.markup.specs.Chars.{is_xml_char, is_name_start, is_name_char, is_space}
use Rattle.markup.specs.Name.{Plain, is_name, name_text}
use Rattle.markup.specs.Attribute.{Literal, is_piece, piece_text, Attribute, is_attribute, attribute_text}
use Rattle.markup.specs.Declaration.{is_version, is_encoding, is_standalone, is_declaration}
use Rattle.markup.specs.inner.Words.{word_text}
use Rattle.markup.specs.inner.Scans.{name_word, field_end_step, field_gap_step}
use Rattle.markup.specs.declared.word.Word.{Word}
use Rattle.markup.specs.declared.word.Word.TheVariants.{One, Utf8, Yes, No}
use Rattle.markup.specs.declared.scan.Field.{Field}
use Rattle.markup.specs.declared.scan.Field.TheVariants.{Version, Encoding, Standalone}
use Rattle.markup.specs.declared.scan.Position.{Position}
use Rattle.markup.specs.declared.scan.Turn.TheVariants.{Stuck}
use Rattle.markup.proofs.Spans.{heads, tails}
use Rattle.markup.proofs.AttributeLemmas.{attribute_then, attributes_then}
use Rattle.markup.proofs.NameSound.{on_if}
use Rattle.markup.proofs.TagSound.{cons_same, spaced_more, spaced_none, attribute_joined}
use Rattle.markup.proofs.Residuals.{Spaced, Gapped, follows, FieldsRest, spells, is_value_of, FieldNamed, is_next, FieldGapThen, Then}

-- characters that values may have as they are, in either quote
abbrev is_plain : ℕ → Bool
is_plain c = is_xml_char c && not (c == 60) && not (c == 38) && (not (c == 34) && not (c == 39))

plain_piece : (q c : ℕ) → (q == 34 || q == 39) ≡ true → is_plain c ≡ true → is_piece q (Literal c) ≡ true
plain_piece q c h k = grind (arith, nat_tests)

plain_pieces : (q : ℕ) (cs : List ℕ) → (q == 34 || q == 39) ≡ true → list_all is_plain cs ≡ true → list_all (is_piece q) (map Literal cs) ≡ true
plain_pieces q [] h a = refl
plain_pieces q (c ∷ cs) h a = and_from _ _ (plain_piece q c h (and_parts _ _ a).0) (plain_pieces q cs h (and_parts _ _ a).1)

pub plain_text : (cs : List ℕ) → flat_map piece_text (map Literal cs) ≡ cs
plain_text [] = refl
plain_text (c ∷ cs) = ap (λ u. c ∷ u) (plain_text cs)

plain_u : (c : ℕ) → to_ascii_lowercase c ≡ 117 → is_plain c ≡ true
unfolding is_xml_char
plain_u c h = grind (arith, nat_tests)

plain_t : (c : ℕ) → to_ascii_lowercase c ≡ 116 → is_plain c ≡ true
unfolding is_xml_char
plain_t c h = grind (arith, nat_tests)

plain_f : (c : ℕ) → to_ascii_lowercase c ≡ 102 → is_plain c ≡ true
unfolding is_xml_char
plain_f c h = grind (arith, nat_tests)

plain_hyphen : (c : ℕ) → to_ascii_lowercase c ≡ 45 → is_plain c ≡ true
unfolding is_xml_char
plain_hyphen c h = grind (arith, nat_tests)

plain_8 : (c : ℕ) → to_ascii_lowercase c ≡ 56 → is_plain c ≡ true
unfolding is_xml_char
plain_8 c h = grind (arith, nat_tests)

plain_utf8 : (cs : List ℕ) → map to_ascii_lowercase cs ≡ codes "utf-8" → list_all is_plain cs ≡ true
plain_utf8 [] h = absurd (cc)
plain_utf8 (a ∷ []) h = absurd (cc)
plain_utf8 (a ∷ b ∷ []) h = absurd (cc)
plain_utf8 (a ∷ b ∷ c ∷ []) h = absurd (cc)
plain_utf8 (a ∷ b ∷ c ∷ e ∷ []) h = absurd (cc)
plain_utf8 (a ∷ b ∷ c ∷ e ∷ f ∷ g ∷ v) h = absurd (cc)
plain_utf8 (a ∷ b ∷ c ∷ e ∷ f ∷ []) h =
    let t1 = tails _ _ _ _ h in let t2 = tails _ _ _ _ t1 in let t3 = tails _ _ _ _ t2 in let t4 = tails _ _ _ _ t3 in
    and_from _ _ (plain_u a (heads _ _ _ _ h)) (and_from _ _ (plain_t b (heads _ _ _ _ t1)) (and_from _ _ (plain_f c (heads _ _ _ _ t2)) (and_from _ _ (plain_hyphen e (heads _ _ _ _ t3)) (and_from _ _ (plain_8 f (heads _ _ _ _ t4)) refl))))

plain_words : (list_all is_plain (codes "1.0") ≡ true) × (list_all is_plain (codes "yes") ≡ true) × (list_all is_plain (codes "no") ≡ true)
unfolding is_xml_char
plain_words = (refl, refl, refl)

names_are : (is_name (Plain (codes "version")) ≡ true) × (is_name (Plain (codes "encoding")) ≡ true) × (is_name (Plain (codes "standalone")) ≡ true)
unfolding is_name_start is_name_char
names_are = (refl, refl, refl)

-- the field is the one
abbrev is_field_of : Field → Attribute → Bool
is_field_of Version a = is_version a
is_field_of Encoding a = is_encoding a
is_field_of Standalone a = is_standalone a

field_name_is : (f : Field) → is_name (Plain (word_text (name_word f))) ≡ true
field_name_is Version = names_are.0
field_name_is Encoding = names_are.1
field_name_is Standalone = names_are.2

-- a value that a field may have, as it is written
record IsValue (f : Field) (chars : List ℕ) : Type 0 where
  plain : list_all is_plain chars ≡ true
  fits : (a : Attribute) → is_attribute a ≡ true → name_text a.name ≡ word_text (name_word f) → flat_map piece_text a.value ≡ chars → is_field_of f a ≡ true

value_of : (f : Field) (word : Word) (chars : List ℕ) → is_value_of f word ≡ true → spells word (word_text word) chars → IsValue f chars
value_of Version One chars h s = record {
  plain = subst (λ u. list_all is_plain u ≡ true) (sym s) plain_words.0;
  fits = λ a k n v. and_from _ _ (and_from _ _ k (bytes_equal (name_text a.name) (codes "version") n)) (bytes_equal (flat_map piece_text a.value) (codes "1.0") (v ∙ s));
}
value_of Encoding Utf8 chars h s = record {
  plain = plain_utf8 chars s;
  fits = λ a k n v. and_from _ _ (and_from _ _ k (bytes_equal (name_text a.name) (codes "encoding") n)) (bytes_equal (map to_ascii_lowercase (flat_map piece_text a.value)) (codes "utf-8") (ap (map to_ascii_lowercase) v ∙ s));
}
value_of Standalone Yes chars h s = record {
  plain = subst (λ u. list_all is_plain u ≡ true) (sym s) plain_words.1;
  fits = λ a k n v. and_from _ _ (and_from _ _ k (bytes_equal (name_text a.name) (codes "standalone") n)) (or_left _ _ (bytes_equal (flat_map piece_text a.value) (codes "yes") (v ∙ s)));
}
value_of Standalone No chars h s = record {
  plain = subst (λ u. list_all is_plain u ≡ true) (sym s) plain_words.2;
  fits = λ a k n v. and_from _ _ (and_from _ _ k (bytes_equal (name_text a.name) (codes "standalone") n)) (or_right _ _ (bytes_equal (flat_map piece_text a.value) (codes "no") (v ∙ s)));
}
value_of f word chars h s = absurd (both_ways false refl h)

-- a field from its white space on
record FieldMade (f : Field) (w : List ℕ) : Type 0 where
  attribute : Attribute
  rest : List ℕ
  is : is_field_of f attribute ≡ true
  next : FieldsRest f rest
  text : w ≡ attribute_text attribute ++ rest

field_made : (f : Field) (c : ℕ) (w : List ℕ) → is_space c ≡ true → (s : Spaced (FieldNamed f 0) w) → FieldMade f (c ∷ w)
field_made f c w h s =
    let b = s.next.next in let q = b.next.next in let v = q.next.next in let u = v.rest in
    let m : Attribute = record { gap = c ∷ s.gap; name = Plain (word_text (name_word f)); before = b.gap; after = q.gap; quote = q.next.quote; value = map Literal u.chars } in
    let k = value_of f v.word u.chars v.is u.is in
    record {
      attribute = m;
      rest = u.after;
      is = k.fits m (and_from _ _ (and_from _ _ (and_from _ _ (and_from _ _ (and_from _ _ (and_from _ _ h s.are) (field_name_is f)) b.are) q.are) q.next.is) (plain_pieces q.next.quote u.chars q.next.is k.plain)) refl (plain_text u.chars);
      next = u.next;
      text = attribute_joined (c ∷ s.gap) (word_text (name_word f)) b.gap q.gap u.chars u.after q.next.quote (c ∷ w) s.after s.next.after b.after b.next.more q.after q.next.more u.after
          (ap (λ x. c ∷ x) s.text) s.next.text b.text b.next.text q.text q.next.text u.text refl
          ∙ (ap (λ x. (c ∷ s.gap) ++ (word_text (name_word f) ++ (b.gap ++ 61 ∷ (q.gap ++ q.next.quote ∷ (x ++ q.next.quote ∷ u.after))))) (sym (plain_text u.chars))
          ∙ sym (attribute_then m u.after));
    }

follows_more : (f g : Field) (a : Attribute) (fs : List Attribute) → is_next f g ≡ true → is_field_of g a ≡ true → follows g fs ≡ true → follows f (a ∷ fs) ≡ true
follows_more Version Encoding a [] h k l = or_left _ _ k
follows_more Version Encoding a (b ∷ []) h k l = and_from _ _ k l
follows_more Version Encoding a (b ∷ c ∷ fs) h k l = absurd (both_ways false refl l)
follows_more Version Standalone a [] h k l = or_right _ _ k
follows_more Version Standalone a (b ∷ fs) h k l = absurd (none b fs l) where
  none : (b : Attribute) (fs : List Attribute) → follows Standalone (b ∷ fs) ≡ true → ⊥
  none b [] l = both_ways false refl l
  none b (c ∷ []) l = both_ways false refl l
  none b (c ∷ d ∷ fs) l = both_ways false refl l
follows_more Encoding Standalone a [] h k l = k
follows_more Encoding Standalone a (b ∷ fs) h k l = absurd (none b fs l) where
  none : (b : Attribute) (fs : List Attribute) → follows Standalone (b ∷ fs) ≡ true → ⊥
  none b [] l = both_ways false refl l
  none b (c ∷ []) l = both_ways false refl l
  none b (c ∷ d ∷ fs) l = both_ways false refl l
follows_more f g a fs h k l = absurd (both_ways false refl h)

declaration_more : (a : Attribute) (fs : List Attribute) → is_version a ≡ true → follows Version fs ≡ true → is_declaration (a ∷ fs) ≡ true
declaration_more a [] h k = h
declaration_more a (b ∷ []) h k = and_from _ _ h k
declaration_more a (b ∷ c ∷ []) h k = and_from _ _ (and_from _ _ h (and_parts _ _ k).0) (and_parts _ _ k).1
declaration_more a (b ∷ c ∷ d ∷ fs) h k = absurd (both_ways false refl k)

-- white space behind a field begins another, or stands before the end
fields_of_gap : (f : Field) (c : ℕ) (w : List ℕ) → is_space c ≡ true → Spaced (FieldGapThen f) w → FieldsRest f (c ∷ w)
fields_of_gap f c w h s = by s.gap s.after s.are s.text s.next where
  made : (g : Field) → is_next f g ≡ true → FieldMade g (c ∷ w) → FieldsRest f (c ∷ w)
  made g n m = record {
    fields = m.attribute ∷ m.next.fields;
    gap = m.next.gap;
    are = follows_more f g m.attribute m.next.fields n m.is m.next.are;
    spaces = m.next.spaces;
    text = m.text ∙ (ap (λ x. attribute_text m.attribute ++ x) m.next.text ∙ sym (attributes_then m.attribute m.next.fields (m.next.gap ++ 63 ∷ 62 ∷ [])));
  }

  by : (g after : List ℕ) → list_all is_space g ≡ true → w ≡ g ++ after → FieldGapThen f after → FieldsRest f (c ∷ w)
  by g after a e (inl k) = record { fields = []; gap = c ∷ g; are = no_more f; spaces = and_from _ _ h a; text = ap (λ x. c ∷ x) (e ∙ ap (λ x. g ++ x) k) } where
    no_more : (f : Field) → follows f [] ≡ true
    no_more Version = refl
    no_more Encoding = refl
    no_more Standalone = refl
  by g after a e (inr k) = made k.0 k.1 (field_made k.0 c w h (record { gap = g; after = after; are = a; text = e; next = k.2 }))

-- the fields of a whole declaration
pub record DeclarationMade (w : List ℕ) : Type 0 where
  pub fields : List Attribute
  pub gap : List ℕ
  pub is : is_declaration fields ≡ true
  pub spaces : list_all is_space gap ≡ true
  pub text : w ≡ flat_map attribute_text fields ++ (gap ++ 63 ∷ 62 ∷ [])

pub declaration_made : (w : List ℕ) → Gapped (FieldNamed Version 0) w → DeclarationMade w
declaration_made w g = by (field_made Version g.first g.more g.is g.next) where
  by : FieldMade Version (g.first ∷ g.more) → DeclarationMade w
  by m = record {
    fields = m.attribute ∷ m.next.fields;
    gap = m.next.gap;
    is = declaration_more m.attribute m.next.fields m.is m.next.are;
    spaces = m.next.spaces;
    text = g.text ∙ (m.text ∙ (ap (λ x. attribute_text m.attribute ++ x) m.next.text ∙ sym (attributes_then m.attribute m.next.fields (m.next.gap ++ 63 ∷ 62 ∷ []))));
  }

module _ (W : Position → List ℕ → Type 0) where
  pub field_end_sound : (f : Field) (c : ℕ) (w : List ℕ) → Then W w (field_end_step f c) → FieldsRest f (c ∷ w)
  field_end_sound f c w h = on_if (Then W w) (is_space c) _ _ h
      (λ e r. fields_of_gap f c w e r)
      (λ _ h. on_if (Then W w) (c == 63) _ Stuck h
      (λ e r. record { fields = []; gap = []; are = no_more f; spaces = refl; text = cons_same c 63 w (62 ∷ []) (eqb-true c 63 e) r })
      (λ _ k. absurd k)) where
        no_more : (f : Field) → follows f [] ≡ true
        no_more Version = refl
        no_more Encoding = refl
        no_more Standalone = refl

  gap_end_sound : (f : Field) (c : ℕ) (w : List ℕ) → Then W w (field_end_step f c) → Spaced (FieldGapThen f) (c ∷ w)
  gap_end_sound f c w h = on_if (Then W w) (is_space c) _ _ h
      (λ e r. spaced_more (FieldGapThen f) c w e r)
      (λ _ h. on_if (Then W w) (c == 63) _ Stuck h
      (λ e r. spaced_none (FieldGapThen f) (c ∷ w) (inl (cons_same c 63 w (62 ∷ []) (eqb-true c 63 e) r)))
      (λ _ k. absurd k))

  named_begun : (g : Field) (c letter : ℕ) (w : List ℕ) → drop 0 (word_text (name_word g)) ≡ letter ∷ drop 1 (word_text (name_word g)) → (c == letter) ≡ true → FieldNamed g 1 w → FieldNamed g 0 (c ∷ w)
  named_begun g c letter w e h r = record { after = r.after; text = cons_same c letter w _ (eqb-true c letter h) r.text ∙ ap (λ u. u ++ r.after) (sym e); next = r.next }

  pub field_gap_sound : (f : Field) (c : ℕ) (w : List ℕ) → Then W w (field_gap_step f c) → Spaced (FieldGapThen f) (c ∷ w)
  field_gap_sound Version c w h = on_if (Then W w) (c == 101) _ _ h
      (λ e r. spaced_none (FieldGapThen Version) (c ∷ w) (inr (Encoding, refl, named_begun Encoding c 101 w refl e r)))
      (λ _ h. on_if (Then W w) (c == 115) _ _ h
      (λ e r. spaced_none (FieldGapThen Version) (c ∷ w) (inr (Standalone, refl, named_begun Standalone c 115 w refl e r)))
      (λ _ h. gap_end_sound Version c w h))
  field_gap_sound Encoding c w h = on_if (Then W w) (c == 115) _ _ h
      (λ e r. spaced_none (FieldGapThen Encoding) (c ∷ w) (inr (Standalone, refl, named_begun Standalone c 115 w refl e r)))
      (λ _ h. gap_end_sound Encoding c w h)
  field_gap_sound Standalone c w h = gap_end_sound Standalone c w h
