-- A plain start tag at the front of bytes is found, by its parts.
use Rattle.std.proofs.Common.{◌≡◌, ℕ, zero, suc, Bool, true, false, cond, ◌&&◌, ◌+◌, ◌-◌, ◌≤◌, List, [], ◌∷◌, ◌++◌, length, take, drop, Option, Some, None, refl, sym, ◌∙◌, ap, subst, append_assoc, length-append, arith}
use Rattle.std.specs.Bool.{if◌then◌else◌}
use Rattle.std.specs.List.{list_all, flat_map, prefix_len}
use Rattle.std.specs.Option.{IsSomeAnd}
use Rattle.std.proofs.lemmas.Bool.{and_parts, both_ways}
use Rattle.std.proofs.lemmas.Bool.Decides.{nat_tests}
use Rattle.lexical_core.proofs.Lists.{same_first, same_rest}
use Rattle.markup.specs.Chars.{is_space}
use Rattle.markup.specs.PlainTags.{begins_plain, mark_count, closing}
use Rattle.markup.specs.PlainStarts.{is_plain_qualified, qualified_text, is_quote, is_literal_of, PlainAttribute, is_plain_attribute, plain_attribute_text, PlainStart, is_plain_start, start_end, plain_start_text}
use Rattle.markup.specs.inner.WholeStarts.{goes_on_name, past_spaces, IsNameAt, IsValueAt, IsGapAt, IsEqualsAt, IsAttributeAt, BeginsNoAttribute, AreGiven, AreLeft}
use Rattle.markup.specs.declared.plain_tag.TagKind.{TagKind}
use Rattle.markup.specs.declared.plain_tag.TagKind.TheVariants.{Start as StartKind, Empty as EmptyKind}
use Rattle.markup.specs.declared.start_tag.StartTag.{StartTag}
use Rattle.markup.specs.declared.tag.Given.{Given}
use Rattle.markup.specs.declared.tag.Spelled.{Spelled}
use Rattle.markup.proofs.NamesFound.{IsBehindName, behind_front, run_ends}
use Rattle.markup.proofs.AttributeLemmas.{gap_all}
use Rattle.markup.proofs.StartScans.{none_given, more_given, plain_then, IsPlainAttribute, plain_facts}
use Rattle.markup.proofs.TagGaps.{past_is, stops_at_quote, stops_at_end, stops_at_name, name_first, spaces_end_name, gap_ends_name}
use Rattle.markup.proofs.TagScans.{kind_same, none_some}

-- ---- a value

not_itself : (q : ℕ) → is_literal_of q q ≡ false
not_itself q = grind (arith, nat_tests)

ends_value : (q : ℕ) (behind : List ℕ) → prefix_len (is_literal_of q) (q ∷ behind) ≡ 0
ends_value q behind = ap (λ t. cond t (1 + prefix_len (is_literal_of q) behind) 0) (not_itself q)

pub no_value : (bytes value behind : List ℕ) → IsValueAt bytes value behind → length bytes ≡ 0 → ⊥
no_value bytes value behind s z = omega (arith, ap length s.spelled, z)

module _ (bytes inside value behind : List ℕ) (q : ℕ) (e : bytes ≡ q ∷ inside) (s : IsValueAt bytes value behind) where
  same_quote : s.quote ≡ q
  same_quote = same_first s.quote q (value ++ s.quote ∷ behind) inside (sym s.spelled ∙ e)

  pub value_quoted : is_quote q ≡ true
  value_quoted = subst (λ b. is_quote b ≡ true) same_quote s.quoted

  inside_is : inside ≡ value ++ q ∷ behind
  inside_is = sym (same_rest s.quote q (value ++ s.quote ∷ behind) inside (sym s.spelled ∙ e)) ∙ ap (λ b. value ++ b ∷ behind) same_quote

  module _ (ended : List ℕ) (n : ℕ) (c : n ≡ prefix_len (is_literal_of q) inside) (d : ended ≡ drop n inside) where
    ended_is : ended ≡ q ∷ behind
    ended_is = behind_front inside value (q ∷ behind) ended n inside_is
        (c ∙ (ap (prefix_len (is_literal_of q)) inside_is ∙ run_ends (is_literal_of q) value (q ∷ behind) (subst (λ b. list_all (is_literal_of b) value ≡ true) same_quote s.literal) (ends_value q behind))) d

    pub value_ends : length ended ≡ 0 → ⊥
    value_ends z = omega (arith, ap length ended_is, z)

    pub quote_ends : (last : ℕ) (rest : List ℕ) → ended ≡ last ∷ rest → last ≡ q
    quote_ends last rest f = same_first last q rest behind (sym f ∙ ended_is)

    pub behind_value : (last : ℕ) (rest : List ℕ) → ended ≡ last ∷ rest → rest ≡ behind
    behind_value last rest f = same_rest last q rest behind (sym f ∙ ended_is)

-- ---- an attribute

-- What is left stands behind the white space at the front.
abbrev pub IsBehindGap : List ℕ → List ℕ → Type 0
IsBehindGap bytes left = (behind : List ℕ) → IsGapAt bytes behind → prefix_len is_space behind ≡ 0 → left ≡ behind

-- and behind `=`
abbrev pub IsBehindEquals : List ℕ → List ℕ → Type 0
IsBehindEquals bytes left = (behind : List ℕ) → IsEqualsAt bytes behind → prefix_len is_space behind ≡ 0 → left ≡ behind

module _ (bytes : List ℕ) (name : Spelled) (value behind : List ℕ) (s : IsAttributeAt bytes name value behind) where
  abbrev pub a : PlainAttribute
  a = s.attribute

  k : IsPlainAttribute a
  k = plain_facts a s.is

  abbrev pub quoted_so : List ℕ
  quoted_so = a.quote ∷ (a.value ++ a.quote ∷ behind)

  abbrev pub marked_so : List ℕ
  marked_so = a.before ++ 61 ∷ (a.after ++ quoted_so)

  abbrev pub named_so : List ℕ
  named_so = qualified_text a.name ++ marked_so

  pub gap_follows : IsGapAt bytes named_so
  gap_follows = record { gap = a.gap; spelled = s.spelled ∙ plain_then a behind; is = k.gap }

  pub gap_stops : prefix_len is_space named_so ≡ 0
  gap_stops = stops_at_name a.name marked_so k.named

  pub name_stops : prefix_len goes_on_name marked_so ≡ 0
  name_stops = spaces_end_name a.before (61 ∷ (a.after ++ quoted_so)) k.before refl

  pub equals_stops : prefix_len is_space quoted_so ≡ 0
  equals_stops = stops_at_quote a.quote (a.value ++ a.quote ∷ behind) k.quoted

  module _ (named : List ℕ) (g : IsBehindGap bytes named) where
    pub name_follows : IsNameAt named a.name marked_so
    name_follows = record { spelled = g named_so gap_follows gap_stops; named = k.named }

    module _ (after : List ℕ) (n : IsBehindName named after) where
      pub equals_follows : IsEqualsAt after quoted_so
      equals_follows = record { before = a.before; after = a.after; spelled = n a.name marked_so name_follows name_stops; before_is = k.before; after_is = k.after }

      pub value_follows : (marked : List ℕ) → IsBehindEquals after marked → IsValueAt marked a.value behind
      value_follows marked m = record { quote = a.quote; spelled = m quoted_so equals_follows equals_stops; quoted = k.quoted; literal = k.literal }

-- ---- attributes, one after another

attribute_here : (bytes rest : List ℕ) (a : PlainAttribute) → is_plain_attribute a ≡ true → bytes ≡ plain_attribute_text a ++ rest → IsAttributeAt bytes a.name a.value rest
attribute_here bytes rest a p e = record { attribute = a; is = p; spelled = e; named = refl; valued = refl }

texts_apart : (a : PlainAttribute) (others : List PlainAttribute) (last : List ℕ) → flat_map plain_attribute_text (a ∷ others) ++ last ≡ plain_attribute_text a ++ (flat_map plain_attribute_text others ++ last)
texts_apart a others last = append_assoc (plain_attribute_text a) (flat_map plain_attribute_text others) last

pub first_here : (left last : List ℕ) (a : PlainAttribute) (others : List PlainAttribute) → list_all is_plain_attribute (a ∷ others) ≡ true → left ≡ flat_map plain_attribute_text (a ∷ others) ++ last → IsAttributeAt left a.name a.value (flat_map plain_attribute_text others ++ last)
first_here left last a others p e = attribute_here left (flat_map plain_attribute_text others ++ last) a (and_parts (is_plain_attribute a) (list_all is_plain_attribute others) p).0 (e ∙ texts_apart a others last)

-- An attribute that is found is the first of those that are left.
abbrev pub FirstIs : List ℕ → List ℕ → Type 0
FirstIs left behind = (name : Spelled) (value rest : List ℕ) → IsAttributeAt left name value rest → behind ≡ rest

next_left : (others : List PlainAttribute) (left last : List ℕ) (name : Spelled) (value behind : List ℕ) → list_all is_plain_attribute others ≡ true → BeginsNoAttribute last → left ≡ flat_map plain_attribute_text others ++ last → IsAttributeAt left name value behind → FirstIs left behind
    → (more : List PlainAttribute) × (list_all is_plain_attribute more ≡ true) × (behind ≡ flat_map plain_attribute_text more ++ last)
next_left [] left last name value behind p s e a f = absurd (s name value behind (subst (λ v. IsAttributeAt v name value behind) e a))
next_left (x ∷ more) left last name value behind p s e a f =
    (more, (and_parts (is_plain_attribute x) (list_all is_plain_attribute more) p).1, f x.name x.value (flat_map plain_attribute_text more ++ last) (first_here left last x more p e))

pub none_done : (bytes : List ℕ) → AreGiven bytes [] bytes × AreLeft bytes bytes
none_done bytes = (none_given bytes, λ attributes last p s e. (attributes, p, e))

pub more_done : (bytes left : List ℕ) (name : Spelled) (value behind : List ℕ) (old new : List Given) → AreGiven bytes old left × AreLeft bytes left → IsAttributeAt left name value behind → FirstIs left behind → new ≡ old ++ record { name = name; value = value } ∷ []
    → AreGiven bytes new behind × AreLeft bytes behind
more_done bytes left name value behind old new d a f e =
    (more_given bytes left name value behind old new d.0 a e, λ attributes last p s k. let o = d.1 attributes last p s k in next_left o.0 left last name value behind o.1 s o.2 a f)

pub nothing_left : (others : List PlainAttribute) (left last : List ℕ) → list_all is_plain_attribute others ≡ true → left ≡ flat_map plain_attribute_text others ++ last → ((name : Spelled) (value behind : List ℕ) → IsAttributeAt left name value behind → ⊥) → left ≡ last
nothing_left [] left last p e n = e
nothing_left (x ∷ more) left last p e n = absurd (n x.name x.value (flat_map plain_attribute_text more ++ last) (first_here left last x more p e))

-- all of them are taken
pub all_done : (bytes left last : List ℕ) (given : List Given) (attributes : List PlainAttribute) → AreGiven bytes given left × AreLeft bytes left → ((name : Spelled) (value behind : List ℕ) → IsAttributeAt left name value behind → ⊥)
    → list_all is_plain_attribute attributes ≡ true → BeginsNoAttribute last → bytes ≡ flat_map plain_attribute_text attributes ++ last → length bytes - length left ≡ length (flat_map plain_attribute_text attributes)
all_done bytes left last given attributes d n p s e =
    let o = d.1 attributes last p s e in
    omega (arith, ap length e, length-append (flat_map plain_attribute_text attributes) last, ap length (nothing_left o.0 left last o.1 o.2 n))

-- ---- the whole tag

-- what stands behind its attributes
abbrev pub ends_of : PlainStart → List ℕ → List ℕ
ends_of tag rest = tag.gap ++ (start_end tag.is_empty ++ rest)

abbrev pub behind_name : PlainStart → List ℕ → List ℕ
behind_name tag rest = flat_map plain_attribute_text tag.attributes ++ ends_of tag rest

abbrev kind_of : Bool → TagKind
kind_of is_empty = if is_empty then EmptyKind else StartKind

end_ends_name : (is_empty : Bool) (rest : List ℕ) → prefix_len goes_on_name (start_end is_empty ++ rest) ≡ 0
end_ends_name true rest = refl
end_ends_name false rest = refl

ends_name : (attributes : List PlainAttribute) (rest : List ℕ) → list_all is_plain_attribute attributes ≡ true → prefix_len goes_on_name rest ≡ 0 → prefix_len goes_on_name (flat_map plain_attribute_text attributes ++ rest) ≡ 0
ends_name [] rest p h = h
ends_name (a ∷ more) rest p h =
    let behind : List ℕ = flat_map plain_attribute_text more ++ rest in
    ap (prefix_len goes_on_name) (texts_apart a more rest ∙ plain_then a behind)
    ∙ gap_ends_name a.gap (qualified_text a.name ++ (a.before ++ 61 ∷ (a.after ++ a.quote ∷ (a.value ++ a.quote ∷ behind)))) (plain_facts a (and_parts (is_plain_attribute a) (list_all is_plain_attribute more) p).0).gap

-- no name begins as a tag ends
end_is_no_name : (is_empty : Bool) (rest behind : List ℕ) (name : Spelled) → is_plain_qualified name ≡ true → start_end is_empty ++ rest ≡ qualified_text name ++ behind → ⊥
end_is_no_name is_empty rest behind name h e = let f = name_first name behind h in by is_empty f.0 f.1 f.2 (e ∙ f.3) where
  by : (t : Bool) (b : ℕ) (more : List ℕ) → begins_plain b ≡ true → start_end t ++ rest ≡ b ∷ more → ⊥
  by true b more p k = both_ways false refl (ap begins_plain (same_first 47 b (62 ∷ rest) more k) ∙ p)
  by false b more p k = both_ways false refl (ap begins_plain (same_first 62 b rest more k) ∙ p)

pub ends_attributes : (tag : PlainStart) (rest : List ℕ) → list_all is_space tag.gap ≡ true → BeginsNoAttribute (ends_of tag rest)
ends_attributes tag rest h name value behind s =
    let a : PlainAttribute = s.attribute in
    let k : IsPlainAttribute a = plain_facts a s.is in
    let here : past_spaces (ends_of tag rest) ≡ start_end tag.is_empty ++ rest = past_is (ends_of tag rest) tag.gap (start_end tag.is_empty ++ rest) refl h (stops_at_end tag.is_empty rest) in
    let there : past_spaces (ends_of tag rest) ≡ named_so (ends_of tag rest) name value behind s = past_is (ends_of tag rest) a.gap (named_so (ends_of tag rest) name value behind s) (s.spelled ∙ plain_then a behind) (gap_all a.gap k.gap) (gap_stops (ends_of tag rest) name value behind s) in
    end_is_no_name tag.is_empty rest (marked_so (ends_of tag rest) name value behind s) a.name k.named (sym here ∙ there)

ends_start : (is_empty : Bool) (rest : List ℕ) → closing (start_end is_empty ++ rest) ≡ Some (kind_of is_empty)
ends_start true rest = refl
ends_start false rest = refl

end_size : (is_empty : Bool) → mark_count (kind_of is_empty) ≡ 1 + length (start_end is_empty)
end_size true = refl
end_size false = refl

pub no_start : (front rest : List ℕ) (tag : PlainStart) → front ≡ plain_start_text tag ++ rest → length front ≡ 0 → ⊥
no_start front rest tag e z = omega (arith, ap length e, z)

module _ (front named rest : List ℕ) (first : ℕ) (tag : PlainStart) (plain : is_plain_start tag ≡ true) (e : front ≡ plain_start_text tag ++ rest) (f : front ≡ first ∷ named) where
  abbrev texts : List ℕ
  texts = flat_map plain_attribute_text tag.attributes

  abbrev written : List ℕ
  written = qualified_text tag.name

  abbrev ends : List ℕ
  ends = tag.gap ++ start_end tag.is_empty

  pub start_opens : first ≡ 60
  start_opens = same_first first 60 named ((written ++ (texts ++ ends)) ++ rest) (sym f ∙ e)

  gap_is : list_all is_space tag.gap ≡ true
  gap_is = (and_parts (is_plain_qualified tag.name && list_all is_plain_attribute tag.attributes) (list_all is_space tag.gap) plain).1

  parts : (is_plain_qualified tag.name ≡ true) × (list_all is_plain_attribute tag.attributes ≡ true)
  parts = and_parts (is_plain_qualified tag.name) (list_all is_plain_attribute tag.attributes) (and_parts (is_plain_qualified tag.name && list_all is_plain_attribute tag.attributes) (list_all is_space tag.gap) plain).0

  pub start_named : IsNameAt named tag.name (behind_name tag rest)
  start_named = record {
    spelled = same_rest first 60 named ((written ++ (texts ++ ends)) ++ rest) (sym f ∙ e)
        ∙ (append_assoc written (texts ++ ends) rest ∙ ap (λ w. written ++ w) (append_assoc texts ends rest ∙ ap (λ w. texts ++ w) (append_assoc tag.gap (start_end tag.is_empty) rest)));
    named = parts.0;
  }

  pub start_ends : prefix_len goes_on_name (behind_name tag rest) ≡ 0
  start_ends = ends_name tag.attributes (ends_of tag rest) parts.1 (spaces_end_name tag.gap (start_end tag.is_empty ++ rest) gap_is (end_ends_name tag.is_empty rest))

  module _ (behind : List ℕ) (a : IsBehindName named behind) where
    pub behind_is : behind ≡ behind_name tag rest
    behind_is = a tag.name (behind_name tag rest) start_named start_ends

    -- from what is said of all that may be behind the name
    pub attributes_size : (size : ℕ) → ((attributes : List PlainAttribute) (others : List ℕ) → list_all is_plain_attribute attributes ≡ true → BeginsNoAttribute others → behind ≡ flat_map plain_attribute_text attributes ++ others → size ≡ length (flat_map plain_attribute_text attributes))
        → size ≡ length texts
    attributes_size size s = s tag.attributes (ends_of tag rest) parts.1 (ends_attributes tag rest gap_is) behind_is

    module _ (after last : List ℕ) (size : ℕ) (l : after ≡ drop size behind) (p : last ≡ past_spaces after) (size_is : size ≡ length texts) where
      last_is : last ≡ start_end tag.is_empty ++ rest
      last_is = p ∙ past_is after tag.gap (start_end tag.is_empty ++ rest) (behind_front behind texts (ends_of tag rest) after size behind_is size_is l) gap_is (stops_at_end tag.is_empty rest)

      closes : closing last ≡ Some (kind_of tag.is_empty)
      closes = ap closing last_is ∙ ends_start tag.is_empty rest

      pub start_closes : closing last ≡ None → ⊥
      start_closes n = none_some (kind_of tag.is_empty) (sym n ∙ closes)

      pub start_size : (kind : TagKind) → closing last ≡ Some kind → length named - length last + mark_count kind ≡ length (plain_start_text tag)
      start_size kind k =
          omega (
            arith,
            ap length e,
            ap length f,
            length-append (plain_start_text tag) rest,
            ap length last_is,
            length-append (start_end tag.is_empty) rest,
            ap mark_count (kind_same kind (kind_of tag.is_empty) (sym k ∙ closes)),
            end_size tag.is_empty,
            length-append written (texts ++ ends),
            length-append texts ends,
            length-append tag.gap (start_end tag.is_empty),
          )

-- ---- a front of the piece

begins_so : (text rest : List ℕ) (room : ℕ) → length text ≤ room → (more : List ℕ) × (take room (text ++ rest) ≡ text ++ more)
begins_so [] rest room l = (take room rest, refl)
begins_so (x ∷ xs) rest zero l = absurd (omega (arith, l))
begins_so (x ∷ xs) rest (suc room) l = let k = begins_so xs rest room (omega (arith, l)) in (k.0, ap (λ w. x ∷ w) k.1)

pub front_begins : (piece front text rest : List ℕ) (room : ℕ) → piece ≡ text ++ rest → front ≡ take room piece → length text ≤ room → (more : List ℕ) × (front ≡ text ++ more)
front_begins piece front text rest room e f l = let k = begins_so text rest room l in (k.0, f ∙ (ap (take room) e ∙ k.1))

pub text_within : (piece text rest : List ℕ) → piece ≡ text ++ rest → length text ≤ length piece
text_within piece text rest e = omega (arith, ap length e, length-append text rest)

-- ---- what was found

pub found_size : (o : Option StartTag) (s : StartTag) (n : ℕ) → o ≡ Some s → IsSomeAnd o (λ t. t.bytes ≡ n) → s.bytes ≡ n
found_size o s n e h = subst (λ v. IsSomeAnd v (λ t. t.bytes ≡ n)) e h

pub none_found : (o : Option StartTag) (n : ℕ) → o ≡ None → IsSomeAnd o (λ t. t.bytes ≡ n) → ⊥
none_found o n e h = subst (λ v. IsSomeAnd v (λ t. t.bytes ≡ n)) e h
