-- The open tags are tags of tokens that stand, and their names are those of the open elements that events tell.
use Rattle.std.proofs.Common.{◌≡◌, ℕ, Bool, true, false, ◌==◌, ◌||◌, ◌+◌, List, [], ◌∷◌, ◌++◌, length, drop, reverse, Option, Some, None, refl, sym, ◌∙◌, ap, subst, arith}
use Rattle.std.specs.Str.{encode_utf8_all}
use Rattle.std.specs.Bool.{if◌then◌else◌}
use Rattle.std.specs.Option.{is_none}
use Rattle.std.proofs.lemmas.Bool.{both_ways, and_parts, and_from, eqb-true}
use Rattle.std.proofs.lemmas.Str.{encode_ascii, encode_same, encodes-append}
use Rattle.std.specs.List.{list_any}
use Rattle.lexical_core.specs.Tree.{Expanded, Ends}
use Rattle.lexical_core.specs.declared.rule.Rule.TheVariants.{DuplicateAttribute, BadPrefix, AfterRoot}
use Rattle.lexical_core.proofs.Tests.{suc_not_zero}
use Rattle.markup.specs.Name.{Name, Plain, Prefixed, is_part, is_name, name_text}
use Rattle.markup.specs.Token.{Token, Mark, Declaration, Comment, Instruction, Opener, Closer, TypeDeclaration, Start, End, Refer, LineEnd, Character, token_bytes}
use Rattle.markup.specs.Marks.{in_cdata, stands, Front, begins_with}
use Rattle.markup.specs.Events.{Placed, spelled_name, opening, open_tags, namespace_of, element_name, expanded_in, entries, start_tag_items, end_tag_items, start_items, end_items, events, items_of}
use Rattle.markup.specs.Faults.{has_start, rule_of, start_rule, is_over, has_clash, is_bad_attribute, IsClean}
use Rattle.markup.specs.PlainTags.{joined_text, open_after, open_behind, innermost_namespace, IsInsideOf}
use Rattle.markup.specs.declared.tag.Spelled.{Spelled}
use Rattle.markup.specs.declared.tag.Opening.{Opening}
use Rattle.markup.specs.Scopes.{placed_at}
use Rattle.markup.proofs.CharLemmas.{start_not}
use Rattle.markup.proofs.PlainLemmas.{no_chars}
use Rattle.markup.proofs.TokenKinds.{never_in}
use Rattle.markup.proofs.TokenLemmas.{start_tag_facts}
use Rattle.markup.proofs.TokensBehind.{tokens_behind, behind}

-- ---- names

-- each of the tokens stands where it is, before some bytes
abbrev Standing : List Token → Type 0
Standing [] = Unit {0}
Standing (t ∷ before) = ((after : List ℕ) × (stands before t after ≡ true)) × Standing before

standing_past : (limit : ℕ) (before : List Token) (b rest : List ℕ) (ts : List Token) → Standing before → Front limit before b ts rest → Standing (tokens_behind before ts)
standing_past limit before b rest [] s f = s
standing_past limit before b rest (t ∷ ts) s f = standing_past limit (t ∷ before) f.0 rest ts ((f.0, f.1.is), s) f.3

-- each open tag has the name of a token
abbrev Named : List Opening → Type 0
Named [] = Unit {0}
Named (tag ∷ tags) = ((n : Name) × (is_name n ≡ true) × (spelled_name n ≡ tag.name)) × Named tags

named_drop : (tags : List Opening) → Named tags → Named (drop 1 tags)
named_drop [] n = tt
named_drop (tag ∷ tags) n = n.1

named : (before : List Token) → Standing before → Named (open_tags before)
named [] s = tt
named (Start tag ∷ before) s = by tag.is_empty (named before s.1) where
  by : (b : Bool) → Named (open_tags before) → Named (if b then open_tags before else opening tag ∷ open_tags before)
  by true n = n
  by false n = ((tag.name, (start_tag_facts tag (never_in (in_cdata before) _ s.0.1).1).name, refl), n)
named (End name gap ∷ before) s = named_drop (open_tags before) (named before s.1)
named (Mark ∷ before) s = named before s.1
named (Declaration fields gap ∷ before) s = named before s.1
named (Comment text ∷ before) s = named before s.1
named (Instruction target text ∷ before) s = named before s.1
named (Opener ∷ before) s = named before s.1
named (Closer ∷ before) s = named before s.1
named (TypeDeclaration ∷ before) s = named before s.1
named (Refer reference ∷ before) s = named before s.1
named (LineEnd line ∷ before) s = named before s.1
named (Character c ∷ before) s = named before s.1

-- a name without a prefix that has these bytes
pub record IsPlainPart (bytes : List ℕ) : Type 0 where
  pub local : List ℕ
  pub part : is_part local ≡ true
  pub encoded : encode_utf8_all local ≡ bytes

no_part : (p : List ℕ) → is_part p ≡ true → encode_utf8_all p ≡ [] → ⊥
no_part [] h e = absurd (both_ways false refl h)
no_part (c ∷ cs) h e = none (no_chars (c ∷ cs) [] (ap (λ v. length (v ++ [])) e)).0 where
  none : c ∷ cs ≡ [] → ⊥
  none q = cc

-- a name that is spelled so
pub record IsSpelledName (spelled : Spelled) : Type 0 where
  pub name : Name
  pub is : is_name name ≡ true
  pub says : spelled_name name ≡ spelled

inner_name : (tags : List Opening) (spelled : Spelled) → Named tags → IsInsideOf tags spelled → IsSpelledName spelled
inner_name [] spelled n i = absurd i
inner_name (tag ∷ tags) spelled n i = record { name = n.0.0; is = n.0.1; says = n.0.2 ∙ i }

-- the name of the innermost open element
pub innermost_name : (limit : ℕ) (b rest : List ℕ) (ts : List Token) (spelled : Spelled) → Front limit [] b ts rest → IsInsideOf (open_tags (reverse ts)) spelled → IsSpelledName spelled
innermost_name limit b rest ts spelled f i = inner_name (open_tags (reverse ts)) spelled (named (reverse ts) (subst Standing (sym (behind ts)) (standing_past limit [] b rest ts tt f))) i

-- another local name with its prefix
pub renamed : (spelled : Spelled) (local : List ℕ) → IsSpelledName spelled → IsPlainPart local → IsSpelledName (record { prefix = spelled.prefix; local = local })
renamed spelled local s part = by s.name s.is (ap (λ (n : Spelled). n.prefix) s.says) where
  says : (prefix : List ℕ) → prefix ≡ spelled.prefix → record { prefix = prefix; local = encode_utf8_all part.local } ≡ (let n : Spelled = record { prefix = spelled.prefix; local = local } in n)
  says prefix e = ap (λ v. let n : Spelled = record { prefix = prefix; local = v } in n) part.encoded ∙ ap (λ p. let n : Spelled = record { prefix = p; local = local } in n) e

  by : (n : Name) → is_name n ≡ true → (spelled_name n).prefix ≡ spelled.prefix → IsSpelledName (record { prefix = spelled.prefix; local = local })
  by (Plain own) h e = record { name = Plain part.local; is = part.part; says = says [] e }
  by (Prefixed prefix own) h e = record { name = Prefixed prefix part.local; is = and_from _ _ (and_parts _ _ h).0 part.part; says = says (encode_utf8_all prefix) e }

-- and what is written of it
joined_colon : (prefix local : List ℕ) → (prefix ≡ [] → ⊥) → joined_text prefix local ≡ prefix ++ 58 ∷ local
joined_colon [] local n = absurd (n refl)
joined_colon (b ∷ more) local n = refl

pub written : (spelled : Spelled) (s : IsSpelledName spelled) → encode_utf8_all (name_text s.name) ≡ joined_text spelled.prefix spelled.local
written spelled s = by s.name s.is ∙ ap (λ (n : Spelled). joined_text n.prefix n.local) s.says where
  by : (n : Name) → is_name n ≡ true → encode_utf8_all (name_text n) ≡ joined_text (spelled_name n).prefix (spelled_name n).local
  by (Plain local) h = refl
  by (Prefixed prefix local) h =
      encodes-append prefix (58 ∷ local) ∙ (ap (λ v. encode_utf8_all prefix ++ (v ++ encode_utf8_all local)) (encode_ascii 58 (omega arith)) ∙ sym (joined_colon (encode_utf8_all prefix) (encode_utf8_all local) (no_part prefix (and_parts _ _ h).0)))

-- no prefix begins with a slash
slash_first : (bytes : List ℕ) → begins_with 47 bytes ≡ true → (rest : List ℕ) × (bytes ≡ 47 ∷ rest)
slash_first [] h = absurd (both_ways false refl h)
slash_first (b ∷ rest) h = (rest, ap (λ x. x ∷ rest) (eqb-true b 47 h))

part_no_slash : (part : List ℕ) → is_part part ≡ true → begins_with 47 (encode_utf8_all part) ≡ false
part_no_slash [] h = absurd (both_ways false refl h)
part_no_slash (c ∷ cs) h = by (begins_with 47 (encode_utf8_all (c ∷ cs))) refl where
  by : (b : Bool) → begins_with 47 (encode_utf8_all (c ∷ cs)) ≡ b → begins_with 47 (encode_utf8_all (c ∷ cs)) ≡ false
  by false e = e
  by true e =
      let s = slash_first (encode_utf8_all (c ∷ cs)) e in
      let k = encode_same c 47 (encode_utf8_all cs) s.0 (s.1 ∙ ap (λ v. v ++ s.0) (sym (encode_ascii 47 (omega arith)))) in
      absurd (both_ways (c == 47) (start_not c (and_parts _ _ h).0).1 (ap (λ x. x == 47) k.0))

pub no_slash : (spelled : Spelled) → IsSpelledName spelled → begins_with 47 spelled.prefix ≡ false
no_slash spelled s = subst (λ (n : Spelled). begins_with 47 n.prefix ≡ false) s.says (by s.name s.is) where
  by : (n : Name) → is_name n ≡ true → begins_with 47 (spelled_name n).prefix ≡ false
  by (Plain local) h = refl
  by (Prefixed prefix local) h = part_no_slash prefix (and_parts _ _ h).0

-- ---- namespaces

-- these are the names of the open elements
abbrev pub AreExpanded : List Opening → List Expanded → Type 0
AreExpanded [] [] = Unit {0}
AreExpanded [] (e ∷ es) = ⊥
AreExpanded (tag ∷ tags) [] = ⊥
AreExpanded (tag ∷ tags) (e ∷ es) = (element_name (tag ∷ tags) tag.name ≡ Some e) × AreExpanded tags es

-- a tag that breaks no rule has a name
has_name : (over : Bool) (tags : List Opening) (tag : Opening) → start_rule over tags tag ≡ None → (e : Expanded) × (element_name (tag ∷ tags) tag.name ≡ Some e)
has_name over tags tag h = by (has_clash (tag ∷ tags) tag.given) (element_name (tag ∷ tags) tag.name) refl h where
  by : (c : Bool) (n : Option Expanded) → element_name (tag ∷ tags) tag.name ≡ n → (if c then Some DuplicateAttribute else (if is_none n || list_any (is_bad_attribute (tag ∷ tags)) tag.given then Some BadPrefix else (if over then Some AfterRoot else None))) ≡ None → (e : Expanded) × (element_name (tag ∷ tags) tag.name ≡ Some e)
  by true n k h = absurd (cc)
  by false None k h = absurd (cc)
  by false (Some e) k h = (e, k)

-- the open elements behind the events of a start tag
start_expanded : (tags : List Opening) (tag : Opening) (opened : List Expanded) (p : ℕ) (e : Expanded) → element_name (tag ∷ tags) tag.name ≡ Some e → AreExpanded tags opened
    → AreExpanded (if tag.is_empty then tags else tag ∷ tags) (open_behind opened (placed_at p (start_items tags tag)))
start_expanded tags tag opened p e n a = subst (λ o. AreExpanded (if tag.is_empty then tags else tag ∷ tags) (open_behind opened (placed_at p (start_tag_items o (entries (tag ∷ tags) tag.given) tag.is_empty)))) (sym n) (by tag.is_empty) where
  by : (b : Bool) → AreExpanded (if b then tags else tag ∷ tags) (open_behind opened (placed_at p (start_tag_items (Some e) (entries (tag ∷ tags) tag.given) b)))
  by true = a
  by false = (n, a)

end_expanded : (tags : List Opening) (opened : List Expanded) (p : ℕ) → AreExpanded tags opened → AreExpanded (drop 1 tags) (open_behind opened (placed_at p (end_items tags)))
end_expanded [] [] p a = tt
end_expanded [] (e ∷ es) p a = absurd a
end_expanded (tag ∷ tags) [] p a = absurd a
end_expanded (tag ∷ tags) (e ∷ es) p a = subst (λ o. AreExpanded tags (open_behind (e ∷ es) (placed_at p (end_tag_items o)))) (sym a.0) a.1

-- behind the events of a token
token_expanded : (before : List Token) (t : Token) (opened : List Expanded) (p : ℕ) → rule_of before t ≡ None → AreExpanded (open_tags before) opened → AreExpanded (open_tags (t ∷ before)) (open_behind opened (placed_at p (items_of before t)))
token_expanded before (Start tag) opened p c a = let n = has_name (is_over before) (open_tags before) (opening tag) c in start_expanded (open_tags before) (opening tag) opened p n.0 n.1 a
token_expanded before (End name gap) opened p c a = end_expanded (open_tags before) opened p a
token_expanded before Mark opened p c a = a
token_expanded before (Declaration fields gap) opened p c a = a
token_expanded before (Comment text) opened p c a = a
token_expanded before (Instruction target text) opened p c a = a
token_expanded before Opener opened p c a = a
token_expanded before Closer opened p c a = a
token_expanded before TypeDeclaration opened p c a = a
token_expanded before (Refer reference) opened p c a = a
token_expanded before (LineEnd line) opened p c a = a
token_expanded before (Character x) opened p c a = a

open_append : (opened : List Expanded) (es fs : List Placed) → open_behind opened (es ++ fs) ≡ open_behind (open_behind opened es) fs
open_append opened [] fs = refl
open_append opened (e ∷ es) fs = open_append (open_after opened e.item) es fs

expanded_past : (before : List Token) (opened : List Expanded) (p : ℕ) (ts : List Token) → IsClean before ts → AreExpanded (open_tags before) opened → AreExpanded (open_tags (tokens_behind before ts)) (open_behind opened (events before p ts))
expanded_past before opened p [] c a = a
expanded_past before opened p (t ∷ ts) c a =
    subst (AreExpanded (open_tags (tokens_behind (t ∷ before) ts))) (sym (open_append opened (placed_at p (items_of before t)) (events (t ∷ before) (p + length (token_bytes t)) ts)))
    (expanded_past (t ∷ before) (open_behind opened (placed_at p (items_of before t))) (p + length (token_bytes t)) ts c.1 (token_expanded before t opened p c.0 a))

-- the elements that are open behind the events of tokens
pub open_expanded : (ts : List Token) → IsClean [] ts → AreExpanded (open_tags (reverse ts)) (open_behind [] (events [] 0 ts))
open_expanded ts c = subst (λ b. AreExpanded (open_tags b) (open_behind [] (events [] 0 ts))) (sym (behind ts)) (expanded_past [] [] 0 ts c tt)

-- the namespace of the innermost element is that of its prefix
bound_of : (tag : Opening) (tags : List Opening) (name : Spelled) (e : Expanded) → tag.name ≡ name → element_name (tag ∷ tags) tag.name ≡ Some e → (namespace_of (tag ∷ tags) name.prefix ≡ Some e.namespace) × (e.local ≡ name.local)
bound_of tag tags name e i n = by (namespace_of (tag ∷ tags) name.prefix) refl (sym (ap (element_name (tag ∷ tags)) i) ∙ n) where
  by : (o : Option (List ℕ)) → namespace_of (tag ∷ tags) name.prefix ≡ o → expanded_in o name.local ≡ Some e → (namespace_of (tag ∷ tags) name.prefix ≡ Some e.namespace) × (e.local ≡ name.local)
  by None k h = absurd (cc)
  by (Some ns) k h = (k ∙ ap (λ v. Some v) (ap (λ (x : Expanded). x.namespace) (same _ e h)), sym (ap (λ (x : Expanded). x.local) (same _ e h))) where
    same : (x y : Expanded) → Some x ≡ Some y → x ≡ y
    same x y h = cc

pub innermost_bound : (tags : List Opening) (es : List Expanded) (name : Spelled) → AreExpanded tags es → IsInsideOf tags name → namespace_of tags name.prefix ≡ Some (innermost_namespace es)
innermost_bound [] es name a i = absurd i
innermost_bound (tag ∷ tags) [] name a i = absurd a
innermost_bound (tag ∷ tags) (e ∷ es) name a i = (bound_of tag tags name e i a.0).0

pub innermost_ends : (tags : List Opening) (es : List Expanded) (name : Spelled) → AreExpanded tags es → IsInsideOf tags name → end_items tags ≡ Ends (record { namespace = innermost_namespace es; local = name.local }) ∷ []
innermost_ends [] es name a i = absurd i
innermost_ends (tag ∷ tags) [] name a i = absurd a
innermost_ends (tag ∷ tags) (e ∷ es) name a i = ap end_tag_items a.0 ∙ ap (λ v. Ends (record { namespace = e.namespace; local = v }) ∷ []) (bound_of tag tags name e i a.0).1

-- ---- whether the root has come

-- where an element is open, a start tag has come
pub inside_started : (before : List Token) → (length (open_tags before) == 0) ≡ false → has_start before ≡ true
inside_started [] h = absurd (both_ways true h refl)
inside_started (Start tag ∷ before) h = refl
inside_started (End name gap ∷ before) h = inside_started before (fewer (open_tags before) h) where
  fewer : (tags : List Opening) → (length (drop 1 tags) == 0) ≡ false → (length tags == 0) ≡ false
  fewer [] h = h
  fewer (tag ∷ tags) h = suc_not_zero (length tags)
inside_started (Mark ∷ before) h = inside_started before h
inside_started (Declaration fields gap ∷ before) h = inside_started before h
inside_started (Comment text ∷ before) h = inside_started before h
inside_started (Instruction target text ∷ before) h = inside_started before h
inside_started (Opener ∷ before) h = inside_started before h
inside_started (Closer ∷ before) h = inside_started before h
inside_started (TypeDeclaration ∷ before) h = inside_started before h
inside_started (Refer reference ∷ before) h = inside_started before h
inside_started (LineEnd line ∷ before) h = inside_started before h
inside_started (Character c ∷ before) h = inside_started before h
