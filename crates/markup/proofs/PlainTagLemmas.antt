-- A plain tag is a token that stands where an element of its prefix is open.
use Rattle.std.proofs.Common.{◌≡◌, ℕ, Bool, true, false, ◌==◌, ◌||◌, ◌&&◌, ◌+◌, ◌<◌, ◌≤◌, List, [], ◌∷◌, ◌++◌, length, take, reverse, Some, None, refl, sym, ◌∙◌, ap, subst, append-nil, arith}
use Rattle.std.specs.Bool.{if◌then◌else◌}
use Rattle.std.specs.Char.{encode_utf8}
use Rattle.std.specs.Int.{is_in_range}
use Rattle.std.specs.List.{list_all}
use Rattle.std.specs.Option.{is_none}
use Rattle.std.specs.Str.{encode_utf8_all, bytes_eq}
use Rattle.std.proofs.lemmas.Bool.{and_parts, and_from, or_left, or_right, both_ways, eqb-true, le-leb}
use Rattle.std.proofs.lemmas.Bool.Decides.{nat_tests}
use Rattle.std.proofs.lemmas.List.{length-take-le}
use Rattle.std.proofs.lemmas.Slice.Eq.{bytes_eq-Decides}
use Rattle.std.proofs.lemmas.Str.{encode_ascii, encodes-append}
use Rattle.lexical_core.specs.Tree.{Expanded, Ends}
use Rattle.lexical_core.specs.declared.rule.Rule.TheVariants.{BadPrefix, AfterRoot, TagMismatch}
use Rattle.lexical_core.proofs.Tests.{suc_not_zero}
use Rattle.markup.specs.Chars.{in_some, name_start_ranges, name_more_ranges, is_name_start, is_name_char}
use Rattle.markup.specs.Name.{Name, is_part, is_name, name_text}
use Rattle.markup.specs.Token.{Token, Start, End, token_bytes}
use Rattle.markup.specs.Marks.{in_cdata, is_first, stands, is_short, begins_with}
use Rattle.markup.specs.Events.{Placed, spelled_name, open_tags, namespace_of, expanded_in, start_tag_items, events, items_of}
use Rattle.markup.specs.Faults.{rule_of, is_over, is_outside, has_start, end_rule}
use Rattle.markup.specs.Scopes.{IsScope, placed_at}
use Rattle.markup.specs.inner.Contexts.{IsContext}
use Rattle.markup.specs.inner.Drafts.{no_draft}
use Rattle.markup.specs.inner.ScanRuns.{run, position, placed_by, ended_of}
use Rattle.markup.specs.inner.Tokenizers.{after_other, behind_token, is_between, is_in_text, is_text, after_whole_tokens}
use Rattle.markup.specs.Reading.{HasTakenUnder, HasToldUnder, IsInTextUnder, MayTakeTagUnder, MayTakeStartUnder}
use Rattle.markup.specs.PlainStarts.{PlainStart}
use Rattle.markup.specs.PlainTags.{begins_plain, continues_plain, is_plain_name, joined_text, tag_text, tag_items, open_behind, innermost_namespace, name_behind, may_be_named, IsInsideOf, tags_behind, IsTagInside}
use Rattle.markup.specs.declared.context.Context.{Context}
use Rattle.markup.specs.declared.plain_tag.TagKind.{TagKind}
use Rattle.markup.specs.declared.plain_tag.TagKind.TheVariants.{Start as StartKind, Empty as EmptyKind, End as EndKind}
use Rattle.markup.specs.declared.reader.Reader.{Reader}
use Rattle.markup.specs.declared.scan.Position.{Position}
use Rattle.markup.specs.declared.scan.Scan.TheVariants.{Begin}
use Rattle.markup.specs.declared.scope.Scope.{Scope}
use Rattle.markup.specs.declared.tag.Opening.{Opening}
use Rattle.markup.specs.declared.tag.Spelled.{Spelled}
use Rattle.markup.proofs.CharacterRuns.{first_is_outside}
use Rattle.markup.proofs.OpenTags.{IsPlainPart, IsSpelledName, innermost_name, renamed, written, no_slash, AreExpanded, open_expanded, innermost_bound, innermost_ends, inside_started}
use Rattle.markup.proofs.PlainLemmas.{is_fresh, no_chars, at_same, text_place, text_between}
use Rattle.markup.proofs.ReaderLemmas.{told_so_far, starts}
use Rattle.markup.proofs.TokenRuleLemmas.{in_cdata-open}
use Rattle.markup.proofs.WholeTokens.{IsNext, all_told, takes_next}
use Rattle.markup.proofs.TagScans.{begins_continues}

-- ---- names

one_of : (x y z : Bool) (R : Type 0) → (x || y || z) ≡ true → (x ≡ true → R) → (y ≡ true → R) → (z ≡ true → R) → R
one_of true y z R h f g k = f refl
one_of false true z R h f g k = g refl
one_of false false true R h f g k = k refl
one_of false false false R h f g k = absurd (both_ways false refl h)

begins_name : (c : ℕ) → begins_plain c ≡ true → is_name_start c ≡ true
unfolding is_name_start
begins_name c h = one_of (is_in_range 97 122 c) (is_in_range 65 90 c) (c == 95) (in_some name_start_ranges c ≡ true) h
    (λ e. or_right (is_in_range 65 90 c) _ (or_right (is_in_range 95 95 c) _ (or_left (is_in_range 97 122 c) _ e)))
    (λ e. or_left (is_in_range 65 90 c) _ e)
    (λ e. subst (λ d. in_some name_start_ranges d ≡ true) (sym (eqb-true c 95 e)) refl)

pub continues_name : (c : ℕ) → continues_plain c ≡ true → is_name_char c ≡ true
unfolding is_name_char
continues_name c h = one_of (begins_plain c) (is_in_range 48 57 c) (is_in_range 45 46 c) ((is_name_start c || in_some name_more_ranges c) ≡ true) h
    (λ e. or_left (is_name_start c) (in_some name_more_ranges c) (begins_name c e))
    (λ e. or_right (is_name_start c) _ (or_right (is_in_range 45 46 c) _ (or_left (is_in_range 48 57 c) _ e)))
    (λ e. or_right (is_name_start c) _ (or_left (is_in_range 45 46 c) _ e))

continue_name : (cs : List ℕ) → list_all continues_plain cs ≡ true → list_all is_name_char cs ≡ true
continue_name [] h = refl
continue_name (c ∷ cs) h = let a = and_parts _ _ h in and_from _ _ (continues_name c a.0) (continue_name cs a.1)

pub plain_ascii : (c : ℕ) → continues_plain c ≡ true → c < 128
plain_ascii c h = grind (arith, nat_tests)

ascii_all : (cs : List ℕ) → list_all continues_plain cs ≡ true → encode_utf8_all cs ≡ cs
ascii_all [] h = refl
ascii_all (c ∷ cs) h = let a = and_parts _ _ h in
    ap (λ v. v ++ encode_utf8_all cs) (encode_ascii c (plain_ascii c a.0)) ∙ ap (λ v. c ∷ v) (ascii_all cs a.1)

-- a plain name is its own characters
pub plain_is_part : (name : List ℕ) → is_plain_name name ≡ true → is_part name ≡ true
plain_is_part [] h = absurd (both_ways false refl h)
plain_is_part (c ∷ cs) h = let a = and_parts _ _ h in and_from _ _ (begins_name c a.0) (continue_name cs a.1)

pub plain_encoded : (name : List ℕ) → is_plain_name name ≡ true → encode_utf8_all name ≡ name
plain_encoded [] h = absurd (both_ways false refl h)
plain_encoded (c ∷ cs) h = let a = and_parts _ _ h in
    ap (λ v. v ++ encode_utf8_all cs) (encode_ascii c (plain_ascii c (begins_continues c a.0))) ∙ ap (λ v. c ∷ v) (ascii_all cs a.1)

plain_name : (name : List ℕ) → is_plain_name name ≡ true → IsPlainPart name
plain_name name h = record { local = name; part = plain_is_part name h; encoded = plain_encoded name h }

-- ---- the token

abbrev tag_token : TagKind → Name → Token
tag_token StartKind n = Start (record { name = n; attributes = []; gap = []; is_empty = false })
tag_token EmptyKind n = Start (record { name = n; attributes = []; gap = []; is_empty = true })
tag_token EndKind n = End n []

marks_bytes : (encode_utf8_all (60 ∷ []) ≡ 60 ∷ []) × (encode_utf8_all (60 ∷ 47 ∷ []) ≡ 60 ∷ 47 ∷ []) × (encode_utf8_all (62 ∷ []) ≡ 62 ∷ []) × (encode_utf8_all (47 ∷ 62 ∷ []) ≡ 47 ∷ 62 ∷ [])
unfolding encode_utf8
marks_bytes = (refl, refl, refl, refl)

-- characters between marks
between_marks : (front cs back name bytes more : List ℕ) → encode_utf8_all front ≡ bytes → encode_utf8_all back ≡ more → encode_utf8_all cs ≡ name → encode_utf8_all (front ++ (cs ++ back)) ≡ bytes ++ (name ++ more)
between_marks front cs back name bytes more e f g =
    encodes-append front (cs ++ back) ∙ (ap (λ v. v ++ encode_utf8_all (cs ++ back)) e ∙ ap (λ v. bytes ++ v) (encodes-append cs back ∙ (ap (λ v. v ++ encode_utf8_all back) g ∙ ap (λ v. name ++ v) f)))

pub tag_bytes : (kind : TagKind) (n : Name) (name : List ℕ) → encode_utf8_all (name_text n) ≡ name → token_bytes (tag_token kind n) ≡ tag_text kind name
tag_bytes StartKind n name e = let cs = name_text n in ap (λ v. encode_utf8_all (60 ∷ (v ++ 62 ∷ []))) (append-nil (cs ++ []) ∙ append-nil cs) ∙ between_marks (60 ∷ []) cs (62 ∷ []) name (60 ∷ []) (62 ∷ []) marks_bytes.0 marks_bytes.2 e
tag_bytes EmptyKind n name e = let cs = name_text n in ap (λ v. encode_utf8_all (60 ∷ (v ++ 47 ∷ 62 ∷ []))) (append-nil (cs ++ []) ∙ append-nil cs) ∙ between_marks (60 ∷ []) cs (47 ∷ 62 ∷ []) name (60 ∷ []) (47 ∷ 62 ∷ []) marks_bytes.0 marks_bytes.3 e
tag_bytes EndKind n name e = let cs = name_text n in ap (λ v. encode_utf8_all (60 ∷ 47 ∷ (v ++ 62 ∷ []))) (append-nil cs) ∙ between_marks (60 ∷ 47 ∷ []) cs (62 ∷ []) name (60 ∷ 47 ∷ []) (62 ∷ []) marks_bytes.1 marks_bytes.2 e

module _ (before : List Token) (opened : Spelled) (es : List Expanded) (inside : IsInsideOf (open_tags before) opened) (expand : AreExpanded (open_tags before) es) where
  some_open : (tags : List Opening) → IsInsideOf tags opened → (length tags == 0) ≡ false
  some_open [] i = absurd i
  some_open (tag ∷ tags) i = suc_not_zero (length tags)

  pub is_inside : is_outside before ≡ false
  is_inside = some_open (open_tags before) inside

  pub not_over : is_over before ≡ false
  not_over = ap (λ b. has_start before && b) is_inside ∙ by (has_start before) where
    by : (b : Bool) → (b && false) ≡ false
    by true = refl
    by false = refl

  bound : namespace_of (open_tags before) opened.prefix ≡ Some (innermost_namespace es)
  bound = innermost_bound (open_tags before) es opened expand inside

  module _ (local : List ℕ) (s : IsSpelledName (record { prefix = opened.prefix; local = local })) where
    abbrev named : Expanded
    named = record { namespace = innermost_namespace es; local = local }

    abbrev text : List ℕ
    text = joined_text opened.prefix local

    encoded : encode_utf8_all (name_text s.name) ≡ text
    encoded = written (record { prefix = opened.prefix; local = local }) s

    started_rule : (if is_none (expanded_in (namespace_of (open_tags before) (spelled_name s.name).prefix) (spelled_name s.name).local) || false then Some BadPrefix else (if is_over before then Some AfterRoot else None)) ≡ None
    started_rule = ap (λ (n : Spelled). if is_none (expanded_in (namespace_of (open_tags before) n.prefix) n.local) || false then Some BadPrefix else (if is_over before then Some AfterRoot else None)) s.says
        ∙ (ap (λ o. if is_none (expanded_in o local) || false then Some BadPrefix else (if is_over before then Some AfterRoot else None)) bound ∙ ap (λ b. if b then Some AfterRoot else None) not_over)

    same : (name : List ℕ) → bytes_eq name name ≡ true
    same name = (bytes_eq-Decides name name).1 refl

    ended_rule : (tags : List Opening) → IsInsideOf tags opened → local ≡ opened.local → end_rule tags (spelled_name s.name) ≡ None
    ended_rule [] i e = absurd i
    ended_rule (tag ∷ tags) i e =
        ap (λ (n : Spelled). if bytes_eq tag.name.prefix n.prefix && bytes_eq tag.name.local n.local then None else Some TagMismatch) s.says
        ∙ (ap (λ (n : Spelled). if bytes_eq n.prefix opened.prefix && bytes_eq n.local local then None else Some TagMismatch) i
        ∙ (ap (λ b. if b && bytes_eq opened.local local then None else Some TagMismatch) (same opened.prefix)
        ∙ (ap (λ v. if bytes_eq opened.local v then None else Some TagMismatch) e ∙ ap (λ b. if b then None else Some TagMismatch) (same opened.local))))

    clean : (kind : TagKind) → may_be_named kind opened.local local → rule_of before (tag_token kind s.name) ≡ None
    clean StartKind m = started_rule
    clean EmptyKind m = started_rule
    clean EndKind m = ended_rule (open_tags before) inside m

    started_items : (is_empty : Bool) → start_tag_items (expanded_in (namespace_of (open_tags before) (spelled_name s.name).prefix) (spelled_name s.name).local) [] is_empty ≡ start_tag_items (Some named) [] is_empty
    started_items is_empty = ap (λ (n : Spelled). start_tag_items (expanded_in (namespace_of (open_tags before) n.prefix) n.local) [] is_empty) s.says ∙ ap (λ o. start_tag_items (expanded_in o local) [] is_empty) bound

    tells : (kind : TagKind) → may_be_named kind opened.local local → items_of before (tag_token kind s.name) ≡ tag_items kind named
    tells StartKind m = started_items false
    tells EmptyKind m = started_items true
    tells EndKind m = innermost_ends (open_tags before) es opened expand inside ∙ ap (λ v. Ends (record { namespace = innermost_namespace es; local = v }) ∷ []) (sym m)

    stands_here : (kind : TagKind) → in_cdata before ≡ false → (after : List ℕ) → stands before (tag_token kind s.name) after ≡ true
    stands_here StartKind c after = ap (λ b. if b then false else ((is_name s.name && true) && true)) c ∙ ap (λ b. (b && true) && true) s.is
    stands_here EmptyKind c after = ap (λ b. if b then false else ((is_name s.name && true) && true)) c ∙ ap (λ b. (b && true) && true) s.is
    stands_here EndKind c after = ap (λ b. if b then false else (is_name s.name && true)) c ∙ ap (λ b. b && true) s.is

    short : {limit : ℕ} (kind : TagKind) → length (tag_text kind text) ≤ limit → is_short limit (tag_token kind s.name) ≡ true
    short {limit} StartKind l = le-leb _ _ (subst (λ v. length v ≤ limit) (sym (tag_bytes StartKind s.name text encoded)) l)
    short {limit} EmptyKind l = le-leb _ _ (subst (λ v. length v ≤ limit) (sym (tag_bytes EmptyKind s.name text encoded)) l)
    short {limit} EndKind l = le-leb _ _ (subst (λ v. length v ≤ limit) (sym (tag_bytes EndKind s.name text encoded)) l)

    stays : (kind : TagKind) (p : Position) → behind_token p (ended_of (tag_token kind s.name)) ≡ after_other p
    stays StartKind p = refl
    stays EmptyKind p = refl
    stays EndKind p = refl

    pub is_next : {limit : ℕ} (kind : TagKind) → may_be_named kind opened.local local → in_cdata before ≡ false → length (tag_text kind text) ≤ limit → IsNext limit before (tag_token kind s.name)
    is_next kind m c l = record { is = stands_here kind c; short = short kind l; clean = clean kind m; stays = stays kind }

    pub context_behind : (kind : TagKind) (k : Context) (scope : Scope) → IsContext k before → IsScope scope (tags_behind kind (record { prefix = opened.prefix; local = local }) (open_tags before))
        → IsContext (record { scope = scope; has_root = k.has_root; brackets = 0 }) (tag_token kind s.name ∷ before)
    context_behind StartKind k scope i o = record { scope = subst (λ v. IsScope scope (tags_behind StartKind v (open_tags before))) (sym s.says) o; root = i.root ∙ inside_started before is_inside; brackets_are = refl }
    context_behind EmptyKind k scope i o = record { scope = o; root = i.root ∙ inside_started before is_inside; brackets_are = refl }
    context_behind EndKind k scope i o = record { scope = o; root = i.root; brackets_are = refl }

-- ---- the reader

module _ {limit : ℕ} (r : Reader) (scope : Scope) (bytes piece : List ℕ) (told : List Placed) (prefix : List ℕ) (kind : TagKind) (name : List ℕ) (count : ℕ) (h : HasTakenUnder limit r bytes told) (text : is_in_text r.tokenizer ≡ true)
    (tag : (tags : List Opening) → IsScope r.context.scope tags → IsTagInside piece tags prefix kind name count)
    (scope_is : (tags : List Opening) (opened : List ℕ) → IsScope r.context.scope tags → IsInsideOf tags (record { prefix = prefix; local = opened }) → IsScope scope (tags_behind kind (record { prefix = prefix; local = name }) tags)) where
  abbrev before : List Token
  before = reverse h.0

  abbrev tags : List Opening
  tags = open_tags before

  t : IsTagInside piece tags prefix kind name count
  t = tag tags h.1.context.scope

  abbrev opened : Spelled
  opened = record { prefix = prefix; local = t.opened }

  abbrev written_name : List ℕ
  written_name = joined_text prefix name

  abbrev es : List Expanded
  es = open_behind [] (events [] 0 h.0)

  expand : AreExpanded tags es
  expand = open_expanded h.0 h.1.clean

  between : is_between r.tokenizer.scan ≡ true
  between = text_between r.tokenizer.scan (and_parts _ _ text).0

  open_name : IsSpelledName opened
  open_name = innermost_name limit (bytes ++ []) (h.1.reads.bytes ++ []) h.0 opened (h.1.reads.front [] tt) t.inside

  part : IsSpelledName (record { prefix = prefix; local = name })
  part = by kind t.at.named where
    by : (kind : TagKind) → may_be_named kind t.opened name → IsSpelledName (record { prefix = prefix; local = name })
    by StartKind m = renamed opened name open_name (plain_name name m)
    by EmptyKind m = renamed opened name open_name (plain_name name m)
    by EndKind m = subst (λ v. IsSpelledName (record { prefix = prefix; local = v })) (sym m) open_name

  no_cdata : in_cdata before ≡ false
  no_cdata = in_cdata-open r.tokenizer before h.1.reads.bytes h.1.reads.opens ∙ text_place r.tokenizer.scan r.tokenizer.position (and_parts _ _ text).0 (is_fresh r.tokenizer between (and_parts _ _ text).1 before h.1.reads.bytes h.1.reads.opens).scan_here

  size : length (tag_text kind written_name) ≡ count
  size = ap length (sym t.at.spelled) ∙ length-take-le count piece t.at.within

  abbrev token : Token
  token = tag_token kind part.name

  token_is : token_bytes token ≡ tag_text kind written_name
  token_is = tag_bytes kind part.name written_name (written (record { prefix = prefix; local = name }) part)

  next : IsNext limit before token
  next = is_next before opened es t.inside expand name part kind t.at.named no_cdata (omega (arith, size, t.at.short, h.1.reads.opens.limited.0))

  abbrev context : Context
  context = record { scope = scope; has_root = r.context.has_root; brackets = 0 }

  taken : HasTakenUnder limit (record { tokenizer = after_whole_tokens r.tokenizer count; context = context; failed = r.failed }) (bytes ++ token_bytes token) (told ++ placed_at (length bytes) (items_of before token))
  taken = takes_next r bytes told h between (and_parts _ _ text).1 token count context next (sym (ap length token_is ∙ size))
      (context_behind before opened es t.inside expand name part kind r.context scope h.1.context (scope_is tags t.opened h.1.context.scope t.inside))

  items : items_of before token ≡ tag_items kind (name_behind told name)
  items = tells before opened es t.inside expand name part kind t.at.named
      ∙ ap (λ v. tag_items kind (record { namespace = innermost_namespace (open_behind [] v); local = name })) (sym (all_told r bytes told h between (and_parts _ _ text).1))

  pub takes_tag : HasToldUnder limit (record { tokenizer = after_whole_tokens r.tokenizer count; context = context; failed = r.failed }) (bytes ++ take count piece) (told ++ placed_at (length bytes) (tag_items kind (name_behind told name)))
  takes_tag = told_so_far (record { tokenizer = after_whole_tokens r.tokenizer count; context = context; failed = r.failed }) (bytes ++ take count piece) (told ++ placed_at (length bytes) (tag_items kind (name_behind told name)))
      (subst (λ v. HasTakenUnder limit (record { tokenizer = after_whole_tokens r.tokenizer count; context = context; failed = r.failed }) (bytes ++ v) (told ++ placed_at (length bytes) (tag_items kind (name_behind told name)))) (token_is ∙ sym t.at.spelled)
      (subst (λ v. HasTakenUnder limit (record { tokenizer = after_whole_tokens r.tokenizer count; context = context; failed = r.failed }) (bytes ++ token_bytes token) (told ++ placed_at (length bytes) v)) items taken))

-- a reader behind which the tag may come is where one begins
pub not_first : (before : List Token) → is_outside before ≡ false → is_first before ≡ false
not_first before inside = by (is_first before) (λ f. both_ways (is_outside before) inside (first_is_outside before f)) where
  by : (b : Bool) → (b ≡ true → ⊥) → b ≡ false
  by true n = absurd (n refl)
  by false n = refl

inside_not_first : (before : List Token) (opened : Spelled) → IsInsideOf (open_tags before) opened → is_first before ≡ false
inside_not_first before opened i = not_first before (some_open (open_tags before) i) where
  some_open : (tags : List Opening) → IsInsideOf tags opened → (length tags == 0) ≡ false
  some_open [] i = absurd i
  some_open (t ∷ tags) i = suc_not_zero (length tags)

begins_text : (before : List Token) → in_cdata before ≡ false → is_first before ≡ false → is_text (Begin (position before)) ≡ true
begins_text [] c f = absurd (both_ways true f refl)
begins_text (t ∷ before) c f = by (is_first (t ∷ before)) (in_cdata (t ∷ before)) c f where
  by : (f g : Bool) → g ≡ false → f ≡ false → is_text (Begin (placed_by f g)) ≡ true
  by true g e n = absurd (both_ways true n refl)
  by false true e n = absurd (both_ways true e refl)
  by false false e n = refl

-- behind whole tokens, in no CDATA section, and neither first nor behind the byte order mark
pub text_behind : {limit : ℕ} (r : Reader) (bytes : List ℕ) (told : List Placed) (m : IsInTextUnder limit r bytes told) → is_first (reverse m.tokens) ≡ false → is_in_text r.tokenizer ≡ true
text_behind r bytes told m behind =
    let ts = m.tokens in
    let o = m.keeps.reads.opens in
    let begun : r.tokenizer.place ≡ r.tokenizer.start = m.keeps.place ∙ (ap length (sym m.whole) ∙ sym (starts r bytes ts told m.keeps)) in
    let none = no_chars o.chars o.part (ap length (sym o.bytes_are) ∙ count r.tokenizer.place r.tokenizer.start (length m.keeps.reads.bytes) o.place_is begun) in
    let scan_is : (Begin (position (reverse ts)) ≡ r.tokenizer.scan) × (no_draft ≡ r.tokenizer.draft) = at_same (Begin (position (reverse ts))) r.tokenizer.scan no_draft r.tokenizer.draft (ap (run (Begin (position (reverse ts))) no_draft) (sym none.0) ∙ o.scan_is) in
    and_from (is_text r.tokenizer.scan) (r.tokenizer.place == r.tokenizer.start) (ap is_text (sym scan_is.0) ∙ begins_text (reverse ts) m.in_text behind) (subst (λ v. (r.tokenizer.place == v) ≡ true) begun (same_place r.tokenizer.place)) where
      count : (p s n : ℕ) → p ≡ s + n → p ≡ s → n ≡ 0
      count p s n h k = omega arith

      same_place : (p : ℕ) → (p == p) ≡ true
      same_place p = grind (arith, nat_tests)

pub text_here : {limit : ℕ} (r : Reader) (bytes : List ℕ) (told : List Placed) (kind : TagKind) (prefix name : List ℕ) → MayTakeTagUnder limit r bytes told kind prefix name → is_in_text r.tokenizer ≡ true
text_here r bytes told kind prefix name m = text_behind r bytes told m.before (inside_not_first (reverse m.before.tokens) (record { prefix = prefix; local = m.opened }) m.inside)

-- and the prefix of the innermost element begins with no slash
pub no_slash_here : {limit : ℕ} (r : Reader) (bytes : List ℕ) (told : List Placed) (kind : TagKind) (prefix name : List ℕ) → MayTakeTagUnder limit r bytes told kind prefix name → begins_with 47 prefix ≡ false
no_slash_here {limit} r bytes told kind prefix name m =
    let k = m.before.keeps in
    let opened : Spelled = record { prefix = prefix; local = m.opened } in
    no_slash opened (innermost_name limit (bytes ++ []) (k.reads.bytes ++ []) m.before.tokens opened (k.reads.front [] tt) m.inside)

pub start_here : {limit : ℕ} (r : Reader) (bytes : List ℕ) (told : List Placed) (tag : PlainStart) → MayTakeStartUnder limit r bytes told tag → is_in_text r.tokenizer ≡ true
start_here r bytes told tag m = text_behind r bytes told m.before m.behind
