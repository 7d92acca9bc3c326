-- Tokens at the front of bytes that begin with the text of their events: the text of each is its bytes.
use Rattle.std.proofs.Common.{◌≡◌, ℕ, ◌+◌, ◌<◌, ◌≤◌, Bool, true, false, not, ◌==◌, ◌&&◌, List, [], ◌∷◌, ◌++◌, length, Option, Some, None, refl, sym, ap, ap₂, subst, ◌∙◌, append_assoc, append-nil, length-append, arith, if◌then◌else◌}
use Rattle.std.specs.Prelude.{is_none}
use Rattle.std.specs.List.{flat_map, list_any}
use Rattle.std.proofs.lemmas.Bool.{true≢false}
use Rattle.std.proofs.lemmas.Bool.Decides.{nat_tests}
use Rattle.std.proofs.lemmas.List.{append_cancel_left}
use Rattle.lexical_core.specs.declared.rule.Rule.TheVariants.{DuplicateAttribute, BadPrefix, AfterRoot}
use Rattle.lexical_core.specs.Escapes.{escape_of}
use Rattle.lexical_core.specs.Tree.{Expanded, Entry, Item, Starts, Char, Ends}
use Rattle.markup.specs.declared.tag.Opening.{Opening}
use Rattle.markup.specs.Token.{Token, Mark, Declaration, Comment, Instruction, Opener, Closer, TypeDeclaration, Start, End, Refer, LineEnd, Character, StartTag, Lf, Cr, CrLf, token_bytes}
use Rattle.markup.specs.Reference.{referred_character}
use Rattle.markup.specs.Marks.{Cell, Front, stands, stands_in_cdata, stands_outside, in_cdata}
use Rattle.markup.specs.Events.{items_of, open_tags, opening, start_tag_items, end_tag_items, end_items, element_name, entries}
use Rattle.markup.specs.Faults.{rule_of, IsClean, is_over, has_clash, is_bad_attribute, end_rule}
use Rattle.markup.proofs.CharLemmas.{classes}
use Rattle.markup.proofs.LineEnds.{line_bytes}
use Rattle.markup.proofs.TokenLaw.{one_token}
use Rattle.markup.proofs.TokensBehind.{items_in}
use Rattle.fragments.specs.Plain.{IsPlainName, ArePlainEntries}
use Rattle.fragments.specs.Fragment.{default_within, start_text, end_text}
use Rattle.respell.specs.Respelling.{nearest, respelled_text, defaults_behind}
use Rattle.respell.specs.inner.FragmentReading.{NoneForeign}
use Rattle.respell.proofs.Chars.{IsInside, token_of}
use Rattle.respell.proofs.OneTree.{heads_same}
use Rattle.respell.proofs.Outside.{depth_defaults, outside_parts}
use Rattle.respell.proofs.RespelledTrees.{respelled-append}
use Rattle.respell.proofs.TagNames.{opening_of, Knows, knows_none, knows_within, element_is}
use Rattle.respell.proofs.Tags.{start_of, end_of}
use Rattle.respell.proofs.WholePlain.{AllPlain, start_kept}

-- ---- the tags that are open

-- Each open start tag is as a fragment has it, with these defaults within the elements, the innermost first.
abbrev pub AreOpen : List Opening → List (Option (List ℕ)) → Type 0
AreOpen [] [] = Unit {0}
AreOpen (tag ∷ tags) (d ∷ ds) = (name : Expanded) × (attributes : List Entry) × (tag ≡ opening_of (nearest ds) name attributes) × (d ≡ default_within (nearest ds) name) × IsPlainName name × ArePlainEntries attributes × Knows tags (nearest ds) × AreOpen tags ds
AreOpen tags ds = ⊥

pub record IsBegun (before : List Token) (ds : List (Option (List ℕ))) : Type 0 where
  cdata : in_cdata before ≡ false
  open_are : AreOpen (open_tags before) ds

known : (tags : List Opening) (ds : List (Option (List ℕ))) → AreOpen tags ds → Knows tags (nearest ds)
known [] [] h = knows_none [] refl
known [] (d ∷ ds) h = absurd h
known (tag ∷ tags) [] h = absurd h
known (tag ∷ tags) (d ∷ ds) (name, attributes, is, within, p, q, k, outer) =
    subst (λ (o : Option (List ℕ)). Knows (tag ∷ tags) o) (sym within) (subst (λ (t : Opening). Knows (t ∷ tags) (default_within (nearest ds) name)) (sym is) (knows_within (nearest ds) name attributes tags q.0 k))

as_many : (tags : List Opening) (ds : List (Option (List ℕ))) → AreOpen tags ds → length tags ≡ length ds
as_many [] [] h = refl
as_many [] (d ∷ ds) h = absurd h
as_many (tag ∷ tags) [] h = absurd h
as_many (tag ∷ tags) (d ∷ ds) (name, attributes, is, within, p, q, k, outer) = (let e = as_many tags ds outer in omega (arith, e))

-- ---- a token

-- the token tells one event, whose text is its bytes
pub record IsSpelled (before : List Token) (ds : List (Option (List ℕ))) (t : Token) : Type 0 where
  cdata : in_cdata before ≡ false
  item : Item
  told : items_of before t ≡ item ∷ []
  text : respelled_text ds (items_of before t) ≡ token_bytes t
  begun : IsBegun (t ∷ before) (defaults_behind ds (items_of before t))

-- where a token stands, and the bytes begin with the text of one that stands whatever follows, it is that one
same_token : (before : List Token) (t u : Token) (bytes after text more : List ℕ) → Cell before t bytes after → token_bytes u ≡ text → ((rest : List ℕ) → stands before u rest ≡ true) → text ++ more ≡ bytes → t ≡ u
same_token before t u bytes after text more cell b s e =
    (one_token before t u bytes after more cell (record { spelled = sym e ∙ ap (λ (l : List ℕ). l ++ more) (sym b); is = s more })).0

char_spelled : (before : List Token) (ds : List (Option (List ℕ))) (t : Token) (c : ℕ) (bytes after more : List ℕ) → items_of before t ≡ Char c ∷ [] → Cell before t bytes after → AllPlain (Char c ∷ []) → NoneForeign (length ds) (Char c ∷ []) → IsBegun before ds
    → respelled_text ds (Char c ∷ []) ++ more ≡ bytes → IsSpelled before ds t
char_spelled before ds t c bytes after more is cell plain inside begun e =
    let some : 0 < length ds = inside.0 in
    let many : length (open_tags before) ≡ length ds = as_many (open_tags before) ds begun.open_are in
    let within : IsInside before = record { cdata = begun.cdata; open_some = some_open (length (open_tags before)) (omega (arith, some, many)) } in
    let u = token_of before c within ((classes.xml c).1 plain.0) in
    let text : respelled_text ds (Char c ∷ []) ≡ escape_of false c = append-nil (escape_of false c) in
    let same : t ≡ u.token = same_token before t u.token bytes after (escape_of false c) more cell u.bytes u.stand (ap (λ (l : List ℕ). l ++ more) (sym text) ∙ e) in
    record {
      cdata = begun.cdata;
      item = Char c;
      told = is;
      text = ap (respelled_text ds) is ∙ (text ∙ (sym u.bytes ∙ ap token_bytes (sym same)));
      begun = subst (λ (l : List Item). IsBegun (t ∷ before) (defaults_behind ds l)) (sym is) (subst (λ (v : Token). IsBegun (v ∷ before) ds) (sym same)
          (record { cdata = u.cdata ∙ begun.cdata; open_are = subst (λ (l : List Opening). AreOpen l ds) (sym u.tags) begun.open_are }));
    }
  where
    some_open : (n : ℕ) → 0 < n → (n == 0) ≡ false
    some_open n h = grind (arith, nat_tests)

end_spelled : (before : List Token) (ds : List (Option (List ℕ))) (t : Token) (bytes after more : List ℕ) (tags : List Opening) → open_tags before ≡ tags → items_of before t ≡ end_items tags → Cell before t bytes after → (tags ≡ [] → ⊥) → IsBegun before ds
    → respelled_text ds (end_items tags) ++ more ≡ bytes → IsSpelled before ds t
end_spelled before ds t bytes after more [] are is cell some begun e = absurd (some refl)
end_spelled before ds t bytes after more (tag ∷ tags) are is cell some begun e = by ds (subst (λ (l : List Opening). AreOpen l ds) are begun.open_are) e
  where
    by : (ds : List (Option (List ℕ))) → AreOpen (tag ∷ tags) ds → respelled_text ds (end_items (tag ∷ tags)) ++ more ≡ bytes → IsSpelled before ds t
    by [] h e = absurd h
    by (d ∷ ds) (name, attributes, op, within, p, q, k, outer) e =
        let here : open_tags before ≡ opening_of (nearest ds) name attributes ∷ tags = are ∙ ap (λ (o : Opening). o ∷ tags) op in
        let u = end_of before tags (nearest ds) name attributes begun.cdata here k p q in
        let items : items_of before t ≡ Ends name ∷ [] = is ∙ (ap (λ (o : Opening). end_items (o ∷ tags)) op ∙ ap end_tag_items (element_is (nearest ds) name attributes tags q.0 k)) in
        let text : respelled_text (d ∷ ds) (Ends name ∷ []) ≡ end_text name = append-nil (end_text name) in
        let told : respelled_text (d ∷ ds) (end_items (tag ∷ tags)) ≡ end_text name = ap (respelled_text (d ∷ ds)) (sym is ∙ items) ∙ text in
        let same : t ≡ u.token = same_token before t u.token bytes after (end_text name) more cell u.bytes u.stand (ap (λ (l : List ℕ). l ++ more) (sym told) ∙ e) in
        record {
          cdata = begun.cdata;
          item = Ends name;
          told = items;
          text = ap (respelled_text (d ∷ ds)) items ∙ (text ∙ (sym u.bytes ∙ ap token_bytes (sym same)));
          begun = subst (λ (l : List Item). IsBegun (t ∷ before) (defaults_behind (d ∷ ds) l)) (sym items) (subst (λ (v : Token). IsBegun (v ∷ before) ds) (sym same)
              (record { cdata = u.cdata ∙ begun.cdata; open_are = subst (λ (l : List Opening). AreOpen l ds) (sym u.tags_are) outer }));
        }

start_spelled : (before : List Token) (ds : List (Option (List ℕ))) (tag : StartTag) (bytes after more : List ℕ) (name : Expanded) (attributes : List Entry) (others : List Item) → items_of before (Start tag) ≡ Starts name attributes ∷ others → Cell before (Start tag) bytes after
    → IsPlainName name → ArePlainEntries attributes → is_over before ≡ false → IsBegun before ds → respelled_text ds (Starts name attributes ∷ others) ++ more ≡ bytes → IsSpelled before ds (Start tag)
start_spelled before ds tag bytes after more name attributes others is cell p q over begun e =
    let default : Option (List ℕ) = nearest ds in
    let k : Knows (open_tags before) default = known (open_tags before) ds begun.open_are in
    let u = start_of before (open_tags before) default name attributes begun.cdata refl over k p q in
    let text : List ℕ = start_text default name attributes in
    let rest : List ℕ = respelled_text (default_within default name ∷ ds) others ++ more in
    let same : Start tag ≡ u.token = same_token before (Start tag) u.token bytes after text rest cell u.bytes u.stand (sym (append_assoc text (respelled_text (default_within default name ∷ ds) others) more) ∙ e) in
    let items : items_of before (Start tag) ≡ Starts name attributes ∷ [] = ap (items_of before) same ∙ u.items in
    record {
      cdata = begun.cdata;
      item = Starts name attributes;
      told = items;
      text = ap (respelled_text ds) items ∙ (append-nil text ∙ (sym u.bytes ∙ ap token_bytes (sym same)));
      begun = subst (λ (l : List Item). IsBegun (Start tag ∷ before) (defaults_behind ds l)) (sym items) (subst (λ (v : Token). IsBegun (v ∷ before) (default_within default name ∷ ds)) (sym same)
          (record { cdata = u.cdata ∙ begun.cdata; open_are = subst (λ (l : List Opening). AreOpen l (default_within default name ∷ ds)) (sym u.tags) (name, attributes, refl, refl, p, q, k, begun.open_are) }));
    }

-- the end tag of an open element
some_open : (tags : List Opening) (n : Rattle.markup.specs.declared.tag.Spelled.Spelled) → end_rule tags n ≡ None → tags ≡ [] → ⊥
some_open [] n r e = absurd cc
some_open (tag ∷ tags) n r e = absurd cc

token_spelled : (before : List Token) (ds : List (Option (List ℕ))) (t : Token) (bytes after more : List ℕ) → Cell before t bytes after → rule_of before t ≡ None → AllPlain (items_of before t) → NoneForeign (length ds) (items_of before t) → IsBegun before ds
    → respelled_text ds (items_of before t) ++ more ≡ bytes → IsSpelled before ds t
token_spelled before ds Mark bytes after more cell r plain inside begun e = absurd inside
token_spelled before ds (Declaration f g) bytes after more cell r plain inside begun e = absurd inside
token_spelled before ds (Comment c) bytes after more cell r plain inside begun e = absurd inside
token_spelled before ds (Instruction p q) bytes after more cell r plain inside begun e = absurd inside
token_spelled before ds Opener bytes after more cell r plain inside begun e = absurd inside
token_spelled before ds Closer bytes after more cell r plain inside begun e = absurd inside
token_spelled before ds TypeDeclaration bytes after more cell r plain inside begun e = absurd inside
token_spelled before ds (Refer x) bytes after more cell r plain inside begun e = char_spelled before ds (Refer x) (referred_character x) bytes after more refl cell plain inside begun e
token_spelled before ds (LineEnd l) bytes after more cell r plain inside begun e = char_spelled before ds (LineEnd l) 10 bytes after more refl cell plain inside begun e
token_spelled before ds (Character c) bytes after more cell r plain inside begun e = char_spelled before ds (Character c) c bytes after more refl cell plain inside begun e
token_spelled before ds (End n g) bytes after more cell r plain inside begun e = end_spelled before ds (End n g) bytes after more (open_tags before) refl refl cell (some_open (open_tags before) _ r) begun e
token_spelled before ds (Start tag) bytes after more cell r plain inside begun e = by (element_name tags (opening tag).name) refl kept.1 plain e
  where
    tags : List Opening
    tags = opening tag ∷ open_tags before

    kept : (has_clash tags (opening tag).given ≡ false) × (is_none (element_name tags (opening tag).name) ≡ false) × (list_any (is_bad_attribute tags) (opening tag).given ≡ false) × (is_over before ≡ false)
    kept = start_kept (is_over before) (has_clash tags (opening tag).given) (is_none (element_name tags (opening tag).name)) (list_any (is_bad_attribute tags) (opening tag).given) DuplicateAttribute BadPrefix AfterRoot r

    by : (o : Option Expanded) → element_name tags (opening tag).name ≡ o → is_none o ≡ false → AllPlain (start_tag_items o (entries tags (opening tag).given) tag.is_empty)
        → respelled_text ds (start_tag_items o (entries tags (opening tag).given) tag.is_empty) ++ more ≡ bytes → IsSpelled before ds (Start tag)
    by None is some plain e = absurd (true≢false some)
    by (Some name) is some plain e = start_spelled before ds tag bytes after more name (entries tags (opening tag).given) (if tag.is_empty then Ends name ∷ [] else []) (ap (λ (o : Option Expanded). start_tag_items o (entries tags (opening tag).given) tag.is_empty) is) cell plain.0.0 plain.0.1 kept.3 begun e

-- ---- many tokens

all_parts : (a b : List Item) → AllPlain (a ++ b) → AllPlain a × AllPlain b
all_parts [] b h = (tt, h)
all_parts (x ∷ a) b h = let r = all_parts a b h.1 in ((h.0, r.0), r.1)

-- each is, behind the ones before it
abbrev pub AreSpelled : List Token → List (Option (List ℕ)) → List Token → Type 0
AreSpelled before ds [] = Unit {0}
AreSpelled before ds (t ∷ ts) = IsSpelled before ds t × AreSpelled (t ∷ before) (defaults_behind ds (items_of before t)) ts

tokens_spelled : (limit : ℕ) (before ts : List Token) (ds : List (Option (List ℕ))) (bytes rest more : List ℕ) → Front limit before bytes ts rest → IsClean before ts → AllPlain (items_in before ts) → NoneForeign (length ds) (items_in before ts) → IsBegun before ds
    → respelled_text ds (items_in before ts) ++ more ≡ bytes → AreSpelled before ds ts
tokens_spelled limit before [] ds bytes rest more f clean plain inside begun e = tt
tokens_spelled limit before (t ∷ ts) ds bytes rest more (after, cell, short, f) clean plain inside begun e =
    let here : List Item = items_of before t in
    let others : List Item = items_in (t ∷ before) ts in
    let behind : List (Option (List ℕ)) = defaults_behind ds here in
    let p = all_parts here others plain in
    let o = outside_parts (length ds) here others inside in
    let both : respelled_text ds (here ++ others) ≡ respelled_text ds here ++ respelled_text behind others = respelled-append ds here others in
    let whole : respelled_text ds here ++ (respelled_text behind others ++ more) ≡ bytes = sym (append_assoc (respelled_text ds here) (respelled_text behind others) more) ∙ (ap (λ (l : List ℕ). l ++ more) (sym both) ∙ e) in
    let s = token_spelled before ds t bytes after (respelled_text behind others ++ more) cell clean.0 p.0 o.0 begun whole in
    let next : respelled_text behind others ++ more ≡ after = append_cancel_left (token_bytes t) (respelled_text behind others ++ more) after (ap (λ (l : List ℕ). l ++ (respelled_text behind others ++ more)) (sym s.text) ∙ (whole ∙ cell.spelled)) in
    (s, tokens_spelled limit (t ∷ before) ts behind after rest more f clean.1 p.1 (subst (λ (n : ℕ). NoneForeign n others) (depth_defaults ds here) o.1) s.begun next)

-- whole tokens at the front of the bytes
pub all_spelled : (limit : ℕ) (ts : List Token) (bytes rest more : List ℕ) → Front limit [] bytes ts rest → IsClean [] ts → AllPlain (items_in [] ts) → NoneForeign 0 (items_in [] ts) → respelled_text [] (items_in [] ts) ++ more ≡ bytes → AreSpelled [] [] ts
all_spelled limit ts bytes rest more f clean plain inside e = tokens_spelled limit [] ts [] bytes rest more f clean plain inside (record { cdata = refl; open_are = tt }) e

-- the text of their events
pub spelled_text : (before ts : List Token) (ds : List (Option (List ℕ))) → AreSpelled before ds ts → respelled_text ds (items_in before ts) ≡ flat_map token_bytes ts
spelled_text before [] ds h = refl
spelled_text before (t ∷ ts) ds h =
    respelled-append ds (items_of before t) (items_in (t ∷ before) ts) ∙ ap₂ (λ (a b : List ℕ). a ++ b) h.0.text (spelled_text (t ∷ before) ts (defaults_behind ds (items_of before t)) h.1)

-- ---- the tokens of bytes and of what follows them

ten : escape_of false 10 ≡ 10 ∷ []
unfolding lib.Utf8.encode
ten = refl

-- outside CDATA sections a token stands whatever follows, but for a CR
stands_before : (before : List Token) (t : Token) (after more : List ℕ) → in_cdata before ≡ false → (t ≡ LineEnd Cr → ⊥) → stands before t after ≡ true → stands before t (after ++ more) ≡ true
stands_before before Mark after more c k h = h
stands_before before (Declaration f g) after more c k h = h
stands_before before (Comment x) after more c k h = h
stands_before before (Instruction p q) after more c k h = h
stands_before before Opener after more c k h = h
stands_before before Closer after more c k h = h
stands_before before TypeDeclaration after more c k h = h
stands_before before (Start tag) after more c k h = h
stands_before before (End n g) after more c k h = h
stands_before before (Refer x) after more c k h = h
stands_before before (LineEnd Lf) after more c k h = h
stands_before before (LineEnd CrLf) after more c k h = h
stands_before before (LineEnd Cr) after more c k h = absurd (k refl)
stands_before before (Character x) after more c k h = by (in_cdata before) c h
  where
    by : (b : Bool) → b ≡ false → (if b then stands_in_cdata (Character x) after else stands_outside (Character x) after && not (length before == 0 && x == 0xFEFF)) ≡ true
        → (if b then stands_in_cdata (Character x) (after ++ more) else stands_outside (Character x) (after ++ more) && not (length before == 0 && x == 0xFEFF)) ≡ true
    by true c h = absurd (true≢false c)
    by false c h = h

first_byte : (a b : ℕ) (r s : List ℕ) → a ∷ r ≡ b ∷ s → a ≡ b
first_byte a b r s e = cc

-- a CR is no token that is spelled
no_return : (before : List Token) (ds : List (Option (List ℕ))) (t : Token) (bytes after more : List ℕ) (others rest : List Item) → IsSpelled before ds t → items_of before t ++ others ≡ Char 10 ∷ rest → bytes ≡ token_bytes t ++ after → bytes ≡ token_bytes (LineEnd Cr) ++ more → ⊥
no_return before ds t bytes after more others rest s e is cr =
    let item : s.item ≡ Char 10 = heads_same s.item (Char 10) others rest (ap (λ (l : List Item). l ++ others) (sym s.told) ∙ e) in
    let text : token_bytes t ≡ 10 ∷ [] = sym s.text ∙ (ap (respelled_text ds) (s.told ∙ ap (λ (i : Item). i ∷ []) item) ∙ (append-nil (escape_of false 10) ∙ ten)) in
    let same : 10 ≡ 13 = first_byte 10 13 after more (ap (λ (l : List ℕ). l ++ after) (sym text) ∙ (sym is ∙ (cr ∙ ap (λ (l : List ℕ). l ++ more) line_bytes.2))) in
    absurd (omega (arith, same))

-- spelled tokens of bytes and what follows them, which tell what tokens of the bytes alone tell, are within the bytes
pub spelled_within : (limit : ℕ) (before ts us : List Token) (ds : List (Option (List ℕ))) (bytes behind rest left : List ℕ) → AreSpelled before ds ts → Front limit before (bytes ++ behind) ts rest → Front limit before bytes us left → items_in before ts ≡ items_in before us
    → length (flat_map token_bytes ts) ≤ length bytes
spelled_within limit before [] us ds bytes behind rest left h f g e = omega arith
spelled_within limit before (t ∷ ts) [] ds bytes behind rest left h f g e = absurd (none (items_in (t ∷ before) ts) (ap (λ (l : List Item). l ++ items_in (t ∷ before) ts) (sym h.0.told) ∙ e))
  where
    none : (r : List Item) → h.0.item ∷ r ≡ [] → ⊥
    none r e = absurd cc
spelled_within limit before (t ∷ ts) (u ∷ us) ds bytes behind rest left h (after, cell, short, f) (next, place, small, g) e =
    let is_return : u ≡ LineEnd Cr → ⊥ = λ cr. no_return before ds t (bytes ++ behind) after (next ++ behind) (items_in (t ∷ before) ts) (items_in (u ∷ before) us) h.0
    (e ∙ ap (λ (v : Token). items_of before v ++ items_in (u ∷ before) us) cr) cell.spelled (spelled u ∙ ap (λ (v : Token). token_bytes v ++ (next ++ behind)) cr) in
    let same : t ≡ u = (one_token before t u (bytes ++ behind) after (next ++ behind) cell (record { spelled = spelled u; is = stands_before before u next behind h.0.cdata is_return place.is })).0 in
    let others : items_in (t ∷ before) ts ≡ items_in (t ∷ before) us = append_cancel_left (items_of before t) (items_in (t ∷ before) ts) (items_in (t ∷ before) us) (e ∙ ap (λ (v : Token). items_of before v ++ items_in (v ∷ before) us) (sym same)) in
    let behind_is : after ≡ next ++ behind = append_cancel_left (token_bytes t) after (next ++ behind) (sym cell.spelled ∙ (spelled u ∙ ap (λ (v : Token). token_bytes v ++ (next ++ behind)) (sym same))) in
    let within = spelled_within limit (t ∷ before) ts us (defaults_behind ds (items_of before t)) next behind rest left h.1 (subst (λ (l : List ℕ). Front limit (t ∷ before) l ts rest) behind_is f) (subst (λ (v : Token). Front limit (v ∷ before) next us left) (sym same) g) others in
    let whole : length bytes ≡ length (token_bytes t) + length next = ap length (place.spelled ∙ ap (λ (v : Token). token_bytes v ++ next) (sym same)) ∙ length-append (token_bytes t) next in
    let sum = length-append (token_bytes t) (flat_map token_bytes ts) in
    omega (arith, within, whole, sum)
  where
    spelled : (v : Token) → bytes ++ behind ≡ token_bytes u ++ (next ++ behind)
    spelled v = ap (λ (l : List ℕ). l ++ behind) place.spelled ∙ append_assoc (token_bytes u) next behind
