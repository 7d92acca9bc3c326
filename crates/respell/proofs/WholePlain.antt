-- What tokens tell that break no rule is plain, and so is the tree of a whole input.
use Rattle.std.proofs.Common.{◌≡◌, ℕ, zero, suc, Bool, true, false, ◌||◌, List, [], ◌∷◌, ◌++◌, drop, Option, Some, None, refl, sym, subst, cond, append_assoc, if◌then◌else◌, map}
use Rattle.std.specs.Prelude.{is_none}
use Rattle.std.specs.List.{list_any, AllByRecursion}
use Rattle.std.proofs.lemmas.Bool.{and_parts}
use Rattle.lexical_core.specs.declared.rule.Rule.{Rule}
use Rattle.lexical_core.specs.declared.rule.Rule.TheVariants.{DuplicateAttribute, BadPrefix, AfterRoot}
use Rattle.lexical_core.specs.Tree.{Expanded, Entry, Item, Starts, Char, Ends, Skipped, Nodes, Nothing, Element, Text, Tree, flat_nodes, flat, tree_items, TreeIs}
use Rattle.markup.specs.Chars.{is_xml_char}
use Rattle.markup.specs.declared.tag.Opening.{Opening}
use Rattle.markup.specs.Token.{Token, Mark, Declaration, Comment, Instruction, Opener, Closer, TypeDeclaration, Start, End, Refer, LineEnd, Character, StartTag}
use Rattle.markup.specs.Marks.{stands, Front, in_cdata, tag_limit}
use Rattle.markup.specs.Events.{Placed, events, open_tags, opening, items_of, start_tag_items, end_tag_items, end_items, element_name, entries}
use Rattle.markup.specs.Faults.{rule_of, IsClean, has_clash, is_bad_attribute, is_over}
use Rattle.markup.proofs.CharLemmas.{classes}
use Rattle.markup.proofs.TokenKinds.{never_in}
use Rattle.markup.proofs.TokenLemmas.{start_tag_facts}
use Rattle.markup.proofs.TokenChars.{token_all}
use Rattle.markup.proofs.PlainCharacters.{referred_is_xml}
use Rattle.markup.proofs.TokensBehind.{items_in, tokens_behind, events_items}
use Rattle.fragments.specs.Plain.{IsPlainName, ArePlainEntries, ArePlain, IsPlain}
use Rattle.respell.specs.Laws.{IsPlainItem, WholeIsPlain, EventsArePlain, TreeIsPlain}
use Rattle.respell.specs.Respelling.{told_of}
use Rattle.respell.proofs.PlainParts.{local_is_part, line_feed_is_xml}
use Rattle.respell.proofs.PlainTags.{IsSoundTag, element_is_plain, entries_are_plain, given_are_sound}
use Rattle.respell.proofs.SortedEntries.{entries_are_sorted}

-- each speaks of a plain tree
abbrev pub AllPlain : List Item → Type 0
AllPlain items = AllByRecursion IsPlainItem items

all_append : (a b : List Item) → AllPlain a → AllPlain b → AllPlain (a ++ b)
all_append [] b h g = g
all_append (x ∷ a) b h g = (h.0, all_append a b h.1 g)

-- ---- a token

-- a start tag that breaks no rule: no two of its names clash, it has a name, no attribute is a bad one, and the root is not closed before it
pub start_kept : (over a b c : Bool) (x y z : Rule) → cond a (Some x) (cond (b || c) (Some y) (cond over (Some z) None)) ≡ None → (a ≡ false) × (b ≡ false) × (c ≡ false) × (over ≡ false)
start_kept over true b c x y z e = absurd cc
start_kept over false true c x y z e = absurd cc
start_kept over false false true x y z e = absurd cc
start_kept true false false false x y z e = absurd cc
start_kept false false false false x y z e = (refl, refl, refl, refl)

record IsKept (before : List Token) (tag : StartTag) : Type 0 where
  tag_is : IsSoundTag (opening tag)
  clash : has_clash (opening tag ∷ open_tags before) (opening tag).given ≡ false

kept_of : (before : List Token) (tag : StartTag) (after : List ℕ) → stands before (Start tag) after ≡ true → rule_of before (Start tag) ≡ None → IsKept before tag
kept_of before tag after h r =
    let tags : List Opening = opening tag ∷ open_tags before in
    let facts = start_tag_facts tag (never_in (in_cdata before) _ h).1 in
    let parts = start_kept (is_over before) (has_clash tags (opening tag).given) (is_none (element_name tags (opening tag).name)) (list_any (is_bad_attribute tags) (opening tag).given) DuplicateAttribute BadPrefix AfterRoot r in
    record { tag_is = record { name = local_is_part tag.name facts.name; given = given_are_sound tags tag.attributes facts.attributes parts.2 }; clash = parts.0 }

started_plain : (o : Option Expanded) (es : List Entry) (empty : Bool) → ((name : Expanded) → o ≡ Some name → IsPlainName name) → ArePlainEntries es → AllPlain (start_tag_items o es empty)
started_plain None es empty k p = tt
started_plain (Some name) es true k p = ((k name refl, p), (tt, tt))
started_plain (Some name) es false k p = ((k name refl, p), tt)

ended_plain : (o : Option Expanded) → AllPlain (end_tag_items o)
ended_plain None = tt
ended_plain (Some name) = (tt, tt)

end_plain : (tags : List Opening) → AllPlain (end_items tags)
end_plain [] = tt
end_plain (tag ∷ tags) = ended_plain _

token_plain : (before : List Token) (t : Token) (after : List ℕ) → AllByRecursion IsSoundTag (open_tags before) → stands before t after ≡ true → rule_of before t ≡ None → AllPlain (items_of before t)
token_plain before Mark after s h r = (tt, tt)
token_plain before (Declaration f g) after s h r = (tt, tt)
token_plain before (Comment c) after s h r = (tt, tt)
token_plain before (Instruction p q) after s h r = (tt, tt)
token_plain before Opener after s h r = (tt, tt)
token_plain before Closer after s h r = (tt, tt)
token_plain before TypeDeclaration after s h r = (tt, tt)
token_plain before (Start tag) after s h r =
    let k = kept_of before tag after h r in let tags : List Opening = opening tag ∷ open_tags before in
    started_plain (element_name tags (opening tag).name) (entries tags (opening tag).given) tag.is_empty (λ name e. element_is_plain tags (opening tag).name name (k.tag_is, s) k.tag_is.name e)
    (entries_are_plain tags (opening tag).given (k.tag_is, s) k.tag_is.given, entries_are_sorted tags (opening tag).given k.clash)
token_plain before (End n g) after s h r = end_plain (open_tags before)
token_plain before (Refer x) after s h r = ((classes.xml _).0 (referred_is_xml x (never_in (in_cdata before) _ h).1), tt)
token_plain before (LineEnd l) after s h r = ((classes.xml 10).0 line_feed_is_xml, tt)
token_plain before (Character c) after s h r = ((classes.xml c).0 (and_parts (is_xml_char c) _ (token_all before (Character c) after h)).0, tt)

drop_sound : (tags : List Opening) → AllByRecursion IsSoundTag tags → AllByRecursion IsSoundTag (drop 1 tags)
drop_sound [] h = tt
drop_sound (t ∷ tags) h = h.1

opened_sound : (empty : Bool) (tag : Opening) (tags : List Opening) → IsSoundTag tag → AllByRecursion IsSoundTag tags → AllByRecursion IsSoundTag (if empty then tags else tag ∷ tags)
opened_sound true tag tags h g = g
opened_sound false tag tags h g = (h, g)

tags_sound : (before : List Token) (t : Token) (after : List ℕ) → AllByRecursion IsSoundTag (open_tags before) → stands before t after ≡ true → rule_of before t ≡ None → AllByRecursion IsSoundTag (open_tags (t ∷ before))
tags_sound before Mark after s h r = s
tags_sound before (Declaration f g) after s h r = s
tags_sound before (Comment c) after s h r = s
tags_sound before (Instruction p q) after s h r = s
tags_sound before Opener after s h r = s
tags_sound before Closer after s h r = s
tags_sound before TypeDeclaration after s h r = s
tags_sound before (Start tag) after s h r = opened_sound tag.is_empty (opening tag) (open_tags before) (kept_of before tag after h r).tag_is s
tags_sound before (End n g) after s h r = drop_sound (open_tags before) s
tags_sound before (Refer x) after s h r = s
tags_sound before (LineEnd l) after s h r = s
tags_sound before (Character c) after s h r = s

-- ---- many tokens

items_plain : (limit : ℕ) (before : List Token) (bytes : List ℕ) (ts : List Token) (rest : List ℕ) → AllByRecursion IsSoundTag (open_tags before) → Front limit before bytes ts rest → IsClean before ts → AllPlain (items_in before ts)
items_plain limit before bytes [] rest s f c = tt
items_plain limit before bytes (t ∷ ts) rest s (after, cell, short, f) c =
    all_append (items_of before t) (items_in (t ∷ before) ts) (token_plain before t after s cell.is c.0) (items_plain limit (t ∷ before) after ts rest (tags_sound before t after s cell.is c.0) f c.1)

pub events_are_plain : EventsArePlain
events_are_plain limit bytes tokens rest f c = subst AllPlain (sym (events_items [] 0 tokens)) (items_plain limit [] bytes tokens rest tt f c)

-- the tags that are open behind them
pub open_sound : (limit : ℕ) (before : List Token) (bytes : List ℕ) (ts : List Token) (rest : List ℕ) → AllByRecursion IsSoundTag (open_tags before) → Front limit before bytes ts rest → IsClean before ts → AllByRecursion IsSoundTag (open_tags (tokens_behind before ts))
open_sound limit before bytes [] rest s f c = s
open_sound limit before bytes (t ∷ ts) rest s (after, cell, short, f) c = open_sound limit (t ∷ before) after ts rest (tags_sound before t after s cell.is c.0) f c.1

-- ---- their tree

counted_plain : (n : ℕ) (items : List Item) → AllPlain items → AllPlain (tree_items n items)
counted_plain n [] h = tt
counted_plain n (Starts name es ∷ items) h = (h.0, counted_plain (suc n) items h.1)
counted_plain n (Ends name ∷ items) h = (h.0, counted_plain (Prim.Native.Nat.pred n) items h.1)
counted_plain zero (Char c ∷ items) h = counted_plain zero items h.1
counted_plain (suc n) (Char c ∷ items) h = (h.0, counted_plain (suc n) items h.1)
counted_plain n (Skipped ∷ items) h = counted_plain n items h.1

nodes_plain : (ns : Nodes) (more : List Item) → AllPlain (flat_nodes ns ++ more) → ArePlain ns × AllPlain more
nodes_plain Nothing more h = (tt, h)
nodes_plain (Text c rest) more h = let r = nodes_plain rest more h.1 in ((h.0, r.0), r.1)
nodes_plain (Element name es children rest) more h =
    let inner = nodes_plain children (Ends name ∷ (flat_nodes rest ++ more)) (subst AllPlain (append_assoc (flat_nodes children) (Ends name ∷ flat_nodes rest) more) h.1) in
    let r = nodes_plain rest more inner.1.1 in
    ((h.0.0, h.0.1, inner.0, r.0), r.1)

flat_plain : (t : Tree) → AllPlain (flat t) → IsPlain t
flat_plain t h = record { name = h.0.0; attributes = h.0.1; children = (nodes_plain t.children (Ends t.name ∷ []) h.1).0 }

told_plain : (items : List Item) → AllPlain items → AllPlain (told_of items)
told_plain [] h = tt
told_plain (Starts name es ∷ items) h = (h.0, told_plain items h.1)
told_plain (Char c ∷ items) h = (h.0, told_plain items h.1)
told_plain (Ends name ∷ items) h = (h.0, told_plain items h.1)
told_plain (Skipped ∷ items) h = told_plain items h.1

pub tree_is_plain : TreeIsPlain
tree_is_plain items t h are = flat_plain t (subst AllPlain are (told_plain items h))

pub plain_tree : (limit : ℕ) (bytes : List ℕ) (tokens : List Token) (t : Tree) → Front limit [] bytes tokens [] → IsClean [] tokens → TreeIs (map (λ (p : Placed). p.item) (events [] 0 tokens)) t → IsPlain t
plain_tree limit bytes tokens t marks clean is = flat_plain t (subst AllPlain is (counted_plain 0 _ (events_are_plain limit bytes tokens [] marks clean)))

pub whole_is_plain : WholeIsPlain
whole_is_plain bytes tokens t marks clean over is = plain_tree tag_limit bytes tokens t marks clean is
