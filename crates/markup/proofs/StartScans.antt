-- A start tag with attributes that is found at the front of a piece.
use Rattle.std.proofs.Common.{◌≡◌, ℕ, Bool, true, false, ◌==◌, ◌&&◌, ◌+◌, ◌-◌, ◌<◌, ◌≤◌, List, [], ◌∷◌, ◌++◌, length, map, take, drop, Option, Some, None, refl, sym, ◌∙◌, ap, subst, append_assoc, append-nil, length-append, arith, codes}
use Rattle.std.specs.Bool.{if◌then◌else◌}
use Rattle.std.specs.List.{list_all, flat_map, prefix_len}
use Rattle.std.specs.Str.{encode_utf8_all}
use Rattle.std.specs.Option.{IfSome}
use Rattle.std.specs.Result.{IfOk}
use Rattle.std.specs.Prelude.{Result, Ok, Err}
use Rattle.std.specs.declared.alloc.AllocError.{AllocError}
use Rattle.std.proofs.lemmas.Bool.{and_parts, and_from, eqb-true}
use Rattle.std.proofs.lemmas.Bool.Decides.{nat_tests}
use Rattle.std.proofs.lemmas.Grind.{flat_map-append}
use Rattle.std.proofs.lemmas.List.{take-append-drop, take-append-le, length-take-le, map-append}
use Rattle.std.proofs.lemmas.List.Folds.{list_all-append}
use Rattle.std.proofs.lemmas.Str.{encode_ascii, encodes-append}
use Rattle.std.proofs.Math.Seq.{take-append_seam}
use Rattle.markup.specs.Chars.{is_space, is_gap}
use Rattle.markup.specs.Name.{name_text}
use Rattle.markup.specs.Attribute.{Attribute, Literal, is_attribute, is_piece, value_chars, begins_lf, attribute_text}
use Rattle.markup.specs.Token.{StartTag, Start, token_bytes}
use Rattle.markup.specs.Marks.{tag_limit}
use Rattle.markup.specs.Events.{given_attribute as given_by}
use Rattle.markup.specs.PlainTags.{begins_plain, continues_plain, is_plain_name, mark_count, closing, slash_kind}
use Rattle.markup.specs.PlainStarts.{is_plain_qualified, qualified_text, is_quote, is_literal_of, PlainAttribute, is_plain_attribute, plain_attribute_text}
use Rattle.markup.specs.inner.WholeStarts.{is_empty_kind, past_spaces, IsNameAt, IsValueAt, IsGapAt, IsEqualsAt, IsAttributeAt, AreGiven, IsStartAt}
use Rattle.markup.specs.declared.plain_tag.TagKind.{TagKind}
use Rattle.markup.specs.declared.plain_tag.TagKind.TheVariants.{Start as StartKind, Empty as EmptyKind, End as EndKind}
use Rattle.markup.specs.declared.start_tag.StartTag.{StartTag as TagStart}
use Rattle.markup.specs.inner.TagParts.{spelled_opening}
use Rattle.markup.specs.declared.tag.Given.{Given}
use Rattle.markup.specs.declared.tag.Opening.{Opening}
use Rattle.markup.specs.declared.tag.Spelled.{Spelled}
use Rattle.markup.proofs.AttributeLemmas.{attribute_then, gap_all}
use Rattle.markup.proofs.InsideRuns.{value_xml, value_ascii, value_not, space_is}
use Rattle.markup.proofs.QualifiedNames.{name_of, name_written, qualified_is, qualified_encoded, qualified_says}
use Rattle.markup.proofs.TagGaps.{front_all, front_spaces, spaces_apart, spaces_encoded}
use Rattle.markup.proofs.TagScans.{name_found, kind_same, slashed_is}
use Rattle.markup.proofs.DeclarationSound.{plain_text}

-- ---- characters of ASCII

encoded_cons : (c : ℕ) (xs ys : List ℕ) → c < 128 → encode_utf8_all xs ≡ ys → encode_utf8_all (c ∷ xs) ≡ c ∷ ys
encoded_cons c xs ys h e = ap (λ v. v ++ encode_utf8_all xs) (encode_ascii c h) ∙ ap (λ v. c ∷ v) e

encoded_append : (xs ys zs ws : List ℕ) → encode_utf8_all xs ≡ zs → encode_utf8_all ys ≡ ws → encode_utf8_all (xs ++ ys) ≡ zs ++ ws
encoded_append xs ys zs ws e f = encodes-append xs ys ∙ (ap (λ v. v ++ encode_utf8_all ys) e ∙ ap (λ v. zs ++ v) f)

-- ---- a value

module _ (q : ℕ) where
  literal_piece : (c : ℕ) → is_literal_of q c ≡ true → is_piece q (Literal c) ≡ true
  literal_piece c h = let n = value_not q c h in rw (value_xml q c h, n.2, n.1, n.0) refl

  literal_pieces : (v : List ℕ) → list_all (is_literal_of q) v ≡ true → list_all (is_piece q) (map Literal v) ≡ true
  literal_pieces [] h = refl
  literal_pieces (c ∷ v) h = let a = and_parts _ _ h in and_from _ _ (literal_piece c a.0) (literal_pieces v a.1)

  literal_encoded : (v : List ℕ) → list_all (is_literal_of q) v ≡ true → encode_utf8_all v ≡ v
  literal_encoded [] h = refl
  literal_encoded (c ∷ v) h = let a = and_parts _ _ h in encoded_cons c v v (value_ascii q c a.0) (literal_encoded v a.1)

  literal_spaces : (c : ℕ) → is_literal_of q c ≡ true → (if is_space c then 32 else c) ≡ c
  literal_spaces c h = by (is_space c) refl where
    by : (b : Bool) → is_space c ≡ b → (if b then 32 else c) ≡ c
    by true e = space_is q c h e
    by false e = refl

  literal_chars : (v : List ℕ) → list_all (is_literal_of q) v ≡ true → value_chars (map Literal v) ≡ v
  literal_chars [] h = refl
  literal_chars (c ∷ v) h = let a = and_parts _ _ h in
      ap (λ b. if b && begins_lf (map Literal v) then value_chars (map Literal v) else (if is_space c then 32 else c) ∷ value_chars (map Literal v)) (value_not q c a.0).3
      ∙ (ap (λ d. d ∷ value_chars (map Literal v)) (literal_spaces c a.0) ∙ ap (λ w. c ∷ w) (literal_chars v a.1))

-- ---- an attribute

abbrev attribute_of : PlainAttribute → Attribute
attribute_of a = record { gap = a.gap; name = name_of a.name; before = a.before; after = a.after; quote = a.quote; value = map Literal a.value }

quote_ascii : (q : ℕ) → is_quote q ≡ true → q < 128
quote_ascii q h = grind (arith, nat_tests)

-- the facts on a plain attribute, each by its name
pub record IsPlainAttribute (a : PlainAttribute) : Type 0 where
  pub gap : is_gap a.gap ≡ true
  pub named : is_plain_qualified a.name ≡ true
  pub before : list_all is_space a.before ≡ true
  pub after : list_all is_space a.after ≡ true
  pub quoted : is_quote a.quote ≡ true
  pub literal : list_all (is_literal_of a.quote) a.value ≡ true

pub plain_facts : (a : PlainAttribute) → is_plain_attribute a ≡ true → IsPlainAttribute a
plain_facts a h =
    let k = and_parts _ _ h in let l = and_parts _ _ k.0 in let m = and_parts _ _ l.0 in let n = and_parts _ _ m.0 in let o = and_parts _ _ n.0 in
    record { gap = o.0; named = o.1; before = n.1; after = m.1; quoted = l.1; literal = k.1 }

pub regrouped : (g n b a v w : List ℕ) (q : ℕ) → (g ++ (n ++ (b ++ 61 ∷ (a ++ q ∷ (v ++ q ∷ []))))) ++ w ≡ g ++ (n ++ (b ++ 61 ∷ (a ++ q ∷ (v ++ q ∷ w))))
regrouped g n b a v w q = simp append_assoc

-- the attribute, and what is behind it
pub plain_then : (a : PlainAttribute) (w : List ℕ) → plain_attribute_text a ++ w ≡ a.gap ++ (qualified_text a.name ++ (a.before ++ 61 ∷ (a.after ++ a.quote ∷ (a.value ++ a.quote ∷ w))))
plain_then a w = regrouped a.gap (qualified_text a.name) a.before a.after a.value w a.quote

module _ (a : PlainAttribute) (plain : is_plain_attribute a ≡ true) where
  k : IsPlainAttribute a
  k = plain_facts a plain

  attribute_is : is_attribute (attribute_of a) ≡ true
  attribute_is = and_from _ _ (and_from _ _ (and_from _ _ (and_from _ _ (and_from _ _ k.gap (qualified_is a.name k.named)) k.before) k.after) k.quoted) (literal_pieces a.quote a.value k.literal)

  attribute_spelled : attribute_text (attribute_of a) ≡ plain_attribute_text a
  attribute_spelled = sym (append-nil (attribute_text (attribute_of a))) ∙ (attribute_then (attribute_of a) []
      ∙ (ap (λ w. a.gap ++ (name_text (name_of a.name) ++ (a.before ++ 61 ∷ (a.after ++ a.quote ∷ (w ++ a.quote ∷ []))))) (plain_text a.value)
      ∙ ap (λ w. a.gap ++ (w ++ (a.before ++ 61 ∷ (a.after ++ a.quote ∷ (a.value ++ a.quote ∷ []))))) (name_written a.name)))

  abbrev quoted : List ℕ
  quoted = a.quote ∷ (a.value ++ a.quote ∷ [])

  quoted_encoded : encode_utf8_all quoted ≡ quoted
  quoted_encoded =
      let ends : encode_utf8_all (a.quote ∷ []) ≡ a.quote ∷ [] = encoded_cons a.quote [] [] (quote_ascii a.quote k.quoted) refl in
      encoded_cons a.quote (a.value ++ a.quote ∷ []) (a.value ++ a.quote ∷ []) (quote_ascii a.quote k.quoted) (encoded_append a.value (a.quote ∷ []) a.value (a.quote ∷ []) (literal_encoded a.quote a.value k.literal) ends)

  abbrev marked : List ℕ
  marked = a.before ++ 61 ∷ (a.after ++ quoted)

  marked_encoded : encode_utf8_all marked ≡ marked
  marked_encoded = encoded_append a.before (61 ∷ (a.after ++ quoted)) a.before (61 ∷ (a.after ++ quoted)) (spaces_encoded a.before k.before)
      (encoded_cons 61 (a.after ++ quoted) (a.after ++ quoted) (omega arith) (encoded_append a.after quoted a.after quoted (spaces_encoded a.after k.after) quoted_encoded))

  attribute_encoded : encode_utf8_all (attribute_text (attribute_of a)) ≡ plain_attribute_text a
  attribute_encoded = ap encode_utf8_all attribute_spelled
      ∙ encoded_append a.gap (qualified_text a.name ++ marked) a.gap (qualified_text a.name ++ marked) (spaces_encoded a.gap (gap_all a.gap k.gap))
      (encoded_append (qualified_text a.name) marked (qualified_text a.name) marked (qualified_encoded a.name k.named) marked_encoded)

  attribute_gives : given_by (attribute_of a) ≡ record { name = a.name; value = a.value }
  attribute_gives =
      ap (λ (x : Spelled). let g : Given = record { name = x; value = encode_utf8_all (value_chars (map Literal a.value)) } in g) (qualified_says a.name k.named)
      ∙ ap (λ (x : List ℕ). let g : Given = record { name = a.name; value = x } in g) (ap encode_utf8_all (literal_chars a.quote a.value k.literal) ∙ literal_encoded a.quote a.value k.literal)

-- ---- attributes, one after another

pub none_given : (bytes : List ℕ) → AreGiven bytes [] bytes
none_given bytes = record { attributes = []; are = refl; spelled = refl; give = refl }

found_gives : (bytes : List ℕ) (name : Spelled) (value behind : List ℕ) (s : IsAttributeAt bytes name value behind) → given_by (attribute_of s.attribute) ≡ record { name = name; value = value }
found_gives bytes name value behind s = attribute_gives s.attribute s.is
    ∙ (ap (λ (x : Spelled). let g : Given = record { name = x; value = s.attribute.value } in g) s.named ∙ ap (λ (x : List ℕ). let g : Given = record { name = name; value = x } in g) s.valued)

pub more_given : (bytes rest : List ℕ) (name : Spelled) (value behind : List ℕ) (old new : List Given) → AreGiven bytes old rest → IsAttributeAt rest name value behind → new ≡ old ++ record { name = name; value = value } ∷ [] → AreGiven bytes new behind
more_given bytes rest name value behind old new s a e =
    let x : Attribute = attribute_of a.attribute in
    let written : List ℕ = plain_attribute_text a.attribute in
    let inner : List ℕ = encode_utf8_all (flat_map attribute_text s.attributes) in
    let one : encode_utf8_all (flat_map attribute_text (s.attributes ++ x ∷ [])) ≡ inner ++ written =
    ap encode_utf8_all (flat_map-append attribute_text s.attributes (x ∷ []) ∙ ap (λ w. flat_map attribute_text s.attributes ++ w) (append-nil (attribute_text x)))
    ∙ encoded_append (flat_map attribute_text s.attributes) (attribute_text x) inner written refl (attribute_encoded a.attribute a.is) in
    record {
      attributes = s.attributes ++ x ∷ [];
      are = list_all-append is_attribute s.attributes (x ∷ []) ∙ and_from _ _ s.are (and_from _ _ (attribute_is a.attribute a.is) refl);
      spelled = s.spelled ∙ (ap (λ w. inner ++ w) a.spelled ∙ (sym (append_assoc inner written behind) ∙ ap (λ w. w ++ behind) (sym one)));
      give = map-append given_by s.attributes (x ∷ []) ∙ (ap (λ w. w ++ given_by x ∷ []) s.give ∙ (ap (λ g. old ++ g ∷ []) (found_gives rest name value behind a) ∙ sym e));
    }

-- ---- a value and an attribute that are found

pub value_found : (bytes inside value ended behind : List ℕ) (q last n : ℕ) → bytes ≡ q ∷ inside → is_quote q ≡ true → n ≤ prefix_len (is_literal_of q) inside → value ≡ take n inside → ended ≡ drop n inside → ended ≡ last ∷ behind → last ≡ q → IsValueAt bytes value behind
value_found bytes inside value ended behind q last n e k c t d f l = record {
  quote = q;
  spelled = e ∙ ap (λ w. q ∷ w) (sym (take-append-drop n inside) ∙ (ap (λ w. w ++ drop n inside) (sym t) ∙ ap (λ w. value ++ w) (sym d ∙ (f ∙ ap (λ b. b ∷ behind) l))));
  quoted = k;
  literal = subst (λ w. list_all (is_literal_of q) w ≡ true) (sym t) (front_all (is_literal_of q) inside n c);
}

pub attribute_found : (bytes named : List ℕ) (name : Spelled) (after rest value behind : List ℕ) → IsGapAt bytes named → IsNameAt named name after → IsEqualsAt after rest → IsValueAt rest value behind → IsAttributeAt bytes name value behind
attribute_found bytes named name after rest value behind g n m v =
    let a : PlainAttribute = record { gap = g.gap; name = name; before = m.before; after = m.after; quote = v.quote; value = value } in
    record {
      attribute = a;
      is = and_from _ _ (and_from _ _ (and_from _ _ (and_from _ _ (and_from _ _ g.is n.named) m.before_is) m.after_is) v.quoted) v.literal;
      spelled = g.spelled ∙ (ap (λ w. g.gap ++ w) (n.spelled ∙ ap (λ w. qualified_text name ++ w) (m.spelled ∙ ap (λ w. m.before ++ 61 ∷ (m.after ++ w)) v.spelled)) ∙ sym (plain_then a behind));
      named = refl;
      valued = refl;
    }

-- a name that is found is plain
pub name_is_plain : (b : ℕ) (bytes xs : List ℕ) (n : ℕ) → bytes ≡ b ∷ xs → begins_plain b ≡ true → n ≡ prefix_len continues_plain bytes → is_plain_name (take n bytes) ≡ true
name_is_plain b bytes xs n e h c = name_found b bytes xs (take n bytes) n e h c refl

-- ---- the end of the tag

abbrev ending : TagKind → List ℕ
ending kind = if is_empty_kind kind then codes "/>" else codes ">"

ending_encoded : (kind : TagKind) → encode_utf8_all (ending kind) ≡ ending kind
ending_encoded StartKind = encoded_cons 62 [] [] (omega arith) refl
ending_encoded EmptyKind = encoded_cons 47 (62 ∷ []) (62 ∷ []) (omega arith) (encoded_cons 62 [] [] (omega arith) refl)
ending_encoded EndKind = encoded_cons 62 [] [] (omega arith) refl

closed_by : (after : List ℕ) (kind : TagKind) → closing after ≡ Some kind → (rest : List ℕ) × (after ≡ ending kind ++ rest) × (mark_count kind ≡ 1 + length (ending kind))
closed_by [] kind h = absurd (cc)
closed_by (b ∷ after) kind h = by (b == 62) (b == 47) refl refl h where
  by : (t u : Bool) → (b == 62) ≡ t → (b == 47) ≡ u → (if t then Some StartKind else (if u then slash_kind after else None)) ≡ Some kind → (rest : List ℕ) × (b ∷ after ≡ ending kind ++ rest) × (mark_count kind ≡ 1 + length (ending kind))
  by true u e f h = subst (λ k. (rest : List ℕ) × (b ∷ after ≡ ending k ++ rest) × (mark_count k ≡ 1 + length (ending k))) (kind_same StartKind kind h) (after, ap (λ x. x ∷ after) (eqb-true b 62 e), refl)
  by false true e f h = let s = slashed_is after kind h in
      subst (λ k. (rest : List ℕ) × (b ∷ after ≡ ending k ++ rest) × (mark_count k ≡ 1 + length (ending k))) (sym s.1) (s.0, ap (λ x. x ∷ after) (eqb-true b 47 f) ∙ ap (λ w. 47 ∷ w) s.2, refl)
  by false false e f h = absurd (cc)

-- ---- the whole tag

pub tag_regrouped : (name given gap ends : List ℕ) → codes "<" ++ name ++ given ++ gap ++ ends ≡ 60 ∷ (name ++ (given ++ (gap ++ ends)))
tag_regrouped name given gap ends = simp append_assoc

module _ (front named : List ℕ) (name : Spelled) (behind after last : List ℕ) (first size : ℕ) (kind : TagKind) (given : List Given)
    (front_is : front ≡ first ∷ named) (first_is : first ≡ 60) (at : IsNameAt named name behind)
    (are : AreGiven behind given (drop size behind)) (size_in : size ≤ length behind) (after_is : after ≡ drop size behind) (last_is : last ≡ past_spaces after) (closes : closing last ≡ Some kind) (limited : length front ≤ tag_limit) where
  abbrev gap : List ℕ
  gap = take (prefix_len is_space after) after

  abbrev start : StartTag
  start = record { name = name_of name; attributes = are.attributes; gap = gap; is_empty = is_empty_kind kind }

  abbrev written : List ℕ
  written = qualified_text name

  abbrev inner : List ℕ
  inner = encode_utf8_all (flat_map attribute_text are.attributes)

  abbrev ends : List ℕ
  ends = gap ++ ending kind

  closed : (rest : List ℕ) × (last ≡ ending kind ++ rest) × (mark_count kind ≡ 1 + length (ending kind))
  closed = closed_by last kind closes

  ends_encoded : encode_utf8_all ends ≡ ends
  ends_encoded = encoded_append gap (ending kind) gap (ending kind) (spaces_encoded gap (front_spaces after)) (ending_encoded kind)

  token_is : token_bytes (Start start) ≡ 60 ∷ (written ++ (inner ++ ends))
  token_is = ap encode_utf8_all (tag_regrouped (name_text (name_of name)) (flat_map attribute_text are.attributes) gap (ending kind) ∙ ap (λ w. 60 ∷ (w ++ (flat_map attribute_text are.attributes ++ ends))) (name_written name))
      ∙ encoded_cons 60 (written ++ (flat_map attribute_text are.attributes ++ ends)) (written ++ (inner ++ ends)) (omega arith) (encoded_append written (flat_map attribute_text are.attributes ++ ends) written (inner ++ ends) (qualified_encoded name at.named) (encoded_append (flat_map attribute_text are.attributes) ends inner ends refl ends_encoded))

  ends_spelled : drop size behind ≡ ends ++ closed.0
  ends_spelled = sym after_is ∙ (spaces_apart after ∙ (ap (λ w. gap ++ w) (sym last_is ∙ closed.1) ∙ sym (append_assoc gap (ending kind) closed.0)))

  spelled_so : front ≡ token_bytes (Start start) ++ closed.0
  spelled_so = front_is ∙ (ap (λ b. b ∷ named) first_is ∙ (ap (λ w. 60 ∷ w)
      (at.spelled ∙ (ap (λ w. written ++ w) (are.spelled ∙ ap (λ w. inner ++ w) ends_spelled)
      ∙ (ap (λ w. written ++ w) (sym (append_assoc inner ends closed.0)) ∙ sym (append_assoc written (inner ++ ends) closed.0))))
      ∙ ap (λ w. w ++ closed.0) (sym token_is)))

  last_size : length last ≡ length (ending kind) + length closed.0
  last_size = ap length closed.1 ∙ length-append (ending kind) closed.0

  size_is : length named - length last + mark_count kind ≡ length (token_bytes (Start start))
  size_is = omega (arith, ap length front_is, ap length spelled_so, length-append (token_bytes (Start start)) closed.0, last_size, closed.2, ap length token_is, length-append written (inner ++ ends), length-append inner ends, length-append gap (ending kind))

  in_front : length named - length last + mark_count kind ≤ length front
  in_front = omega (arith, size_is, ap length spelled_so, length-append (token_bytes (Start start)) closed.0)

  pub start_found : IsStartAt front (record { name = name; given = given; is_empty = is_empty_kind kind }) (length named - length last + mark_count kind)
  start_found = record {
    start = start;
    is = and_from _ _ (and_from _ _ (qualified_is name at.named) are.are) (front_spaces after);
    spelled = ap (λ n. take n front) size_is ∙ (ap (take (length (token_bytes (Start start)))) spelled_so ∙ take-append_seam (token_bytes (Start start)) closed.0);
    says = ap (λ (x : Spelled). let t : Opening = record { name = x; given = map given_by are.attributes; is_empty = is_empty_kind kind } in t) (qualified_says name at.named)
        ∙ ap (λ (g : List Given). let t : Opening = record { name = name; given = g; is_empty = is_empty_kind kind } in t) are.give;
    some = omega (arith, closed.2);
    within = in_front;
    short = omega (arith, in_front, limited);
  }

-- what stands at the front of a front of a piece stands at its own
pub start_widened : (piece front : List ℕ) (room : ℕ) (tag : Opening) (count : ℕ) → room ≤ length piece → front ≡ take room piece → IsStartAt front tag count → IsStartAt piece tag count
start_widened piece front room tag count r f s = record {
  start = s.start;
  is = s.is;
  spelled = ap (take count) (sym (take-append-drop room piece)) ∙ (ap (λ w. take count (w ++ drop room piece)) (sym f) ∙ (take-append-le count front (drop room piece) s.within ∙ s.spelled));
  says = s.says;
  some = s.some;
  within = omega (arith, s.within, ap length f, length-take-le room piece r);
  short = s.short;
}

pub starts_widened : (result : Result (Option TagStart) AllocError) (piece front : List ℕ) (room : ℕ) → room ≤ length piece → front ≡ take room piece → IfOk result (λ o. IfSome o (λ s. IsStartAt front (spelled_opening s.prefix.now s.name.now s.attributes.items s.is_empty) s.bytes)) → IfOk result (λ o. IfSome o (λ s. IsStartAt piece (spelled_opening s.prefix.now s.name.now s.attributes.items s.is_empty) s.bytes))
starts_widened (Ok None) piece front room r f h = tt
starts_widened (Ok (Some s)) piece front room r f h = start_widened piece front room (spelled_opening s.prefix.now s.name.now s.attributes.items s.is_empty) s.bytes r f h
starts_widened (Err e) piece front room r f h = tt
