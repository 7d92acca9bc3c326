-- A fragment, as tokens: they are clean, and their events are those of the tree.
use Rattle.std.proofs.Common.{◌≡◌, ℕ, Bool, true, false, ◌==◌, ◌&&◌, ◌≤◌, List, [], ◌∷◌, ◌++◌, length, refl, sym, ap, subst, ◌∙◌, Option, None, Some, arith, append_assoc, append-nil}
use Rattle.std.proofs.lemmas.Bool.Decides.{nat_tests}
use Rattle.std.specs.Prelude.{◌↔◌, codes}
use Rattle.lexical_core.specs.Tree.{Expanded, Entry, Item, Starts, Char, Ends, Nodes, Nothing, Element, Text, Tree, flat_nodes, flat}
use Rattle.lexical_core.specs.Escapes.{escape_of}
use Rattle.lexical_core.specs.Names.{xml_namespace}
use Rattle.markup.specs.declared.tag.Opening.{Opening}
use Rattle.markup.specs.Token.{Token, token_bytes}
use Rattle.markup.specs.Marks.{stands, in_cdata}
use Rattle.markup.specs.Events.{items_of, open_tags, namespace_of}
use Rattle.markup.specs.Faults.{rule_of, is_over, is_outside, has_start}
use Rattle.markup.proofs.CharLemmas.{classes}
use Rattle.markup.proofs.TokensBehind.{tokens_behind}
use Rattle.fragments.specs.Plain.{IsPlainName, ArePlainEntries, ArePlain, IsPlain}
use Rattle.fragments.specs.Fragment.{default_within, start_text, end_text, nodes_text, fragment}
use Rattle.respell.proofs.Runs.{behind-append, Runs, runs-append, AllShort, short-append, short_parts}
use Rattle.respell.specs.ShortTags.{HaveShortTags}
use Rattle.respell.proofs.Chars.{IsInside, token_of}
use Rattle.respell.proofs.Tags.{start_of, end_of}
use Rattle.respell.proofs.TagNames.{opening_of, Knows, knows_none, knows_within}

-- a run behind which the same elements are open; of each length it says whether no tag is longer
pub record Stays (before : List Token) (items : List Item) (text : List ℕ) (Short : ℕ → Type 0) : Type 0 where
  pub run : Runs before items text
  pub tags : open_tags (tokens_behind before run.tokens) ≡ open_tags before
  pub cdata : in_cdata (tokens_behind before run.tokens) ≡ in_cdata before
  pub short : (limit : ℕ) → Short limit ↔ AllShort limit run.tokens

pub stays_none : (before : List Token) → Stays before [] [] (λ limit. Unit {0})
stays_none before = record { run = record { tokens = []; bytes = refl; stand = tt; clean = tt; told = refl }; tags = refl; cdata = refl; short = λ limit. (λ h. tt, λ h. tt) }

abbrev pub one_run : (before : List Token) (t : Token) (items : List Item) (text : List ℕ) → token_bytes t ≡ text → ((rest : List ℕ) → stands before t rest ≡ true) → rule_of before t ≡ None → items_of before t ≡ items → Runs before items text
one_run before t items text b s r i = record { tokens = t ∷ []; bytes = append-nil (token_bytes t) ∙ b; stand = (s, tt); clean = (r, tt); told = append-nil (items_of before t) ∙ i }

-- within an element
pub inside_of : (before : List Token) (op : Opening) (tags : List Opening) → in_cdata before ≡ false → open_tags before ≡ op ∷ tags → IsInside before
inside_of before op tags c are = record { cdata = c; open_some = ap (λ (l : List Opening). length l == 0) are ∙ grind (arith, nat_tests) }

pub not_over : (before : List Token) → is_outside before ≡ false → is_over before ≡ false
not_over before h = rw h (either (has_start before))
  where
    either : (b : Bool) → (b && false) ≡ false
    either true = refl
    either false = refl

-- an element whose children are a run
pub element_stays : (before : List Token) (tags : List Opening) (default : Option (List ℕ)) (name : Expanded) (attributes : List Entry) (items : List Item) (text : List ℕ) (Short : ℕ → Type 0)
    → in_cdata before ≡ false → open_tags before ≡ tags → is_over before ≡ false → Knows tags default → IsPlainName name → ArePlainEntries attributes
    → ((inner : List Token) → in_cdata inner ≡ false → open_tags inner ≡ opening_of default name attributes ∷ tags → Stays inner items text Short)
    → Stays before (Starts name attributes ∷ [] ++ (items ++ Ends name ∷ [])) (start_text default name attributes ++ (text ++ end_text name)) (λ limit. (length (start_text default name attributes) ≤ limit) × (length (end_text name) ≤ limit) × Short limit)
element_stays before tags default name attributes items text Short cdata are over k p q inner =
    let s = start_of before tags default name attributes cdata are over k p q in
    let tags1 : open_tags (s.token ∷ before) ≡ opening_of default name attributes ∷ tags = s.tags ∙ ap (λ (l : List Opening). opening_of default name attributes ∷ l) are in
    let cdata1 : in_cdata (s.token ∷ before) ≡ false = s.cdata ∙ cdata in
    let r = inner (s.token ∷ before) cdata1 tags1 in
    let before2 = tokens_behind (s.token ∷ before) r.run.tokens in
    let e = end_of before2 tags default name attributes (r.cdata ∙ cdata1) (r.tags ∙ tags1) k p q in
    let tail = runs-append (s.token ∷ before) items (Ends name ∷ []) text (end_text name) r.run (one_run before2 e.token (Ends name ∷ []) (end_text name) e.bytes e.stand e.rule e.items) in
    let whole = runs-append before (Starts name attributes ∷ []) (items ++ Ends name ∷ []) (start_text default name attributes) (text ++ end_text name)
    (one_run before s.token (Starts name attributes ∷ []) (start_text default name attributes) s.bytes s.stand s.rule s.items) tail in
    let last : tokens_behind (s.token ∷ before) (r.run.tokens ++ e.token ∷ []) ≡ e.token ∷ before2 = behind-append (s.token ∷ before) r.run.tokens (e.token ∷ []) in
    record {
      run = whole;
      tags = ap open_tags last ∙ (e.tags_are ∙ sym are);
      cdata = ap in_cdata last ∙ (e.cdata ∙ (r.cdata ∙ (cdata1 ∙ sym cdata)));
      short = λ limit. (
        λ h. ((s.short limit).0 h.0, short-append limit r.run.tokens (e.token ∷ []) ((r.short limit).0 h.2) ((e.short limit).0 h.1, tt)),
        λ h. let parts = short_parts limit r.run.tokens (e.token ∷ []) h.1 in ((s.short limit).1 h.0, (e.short limit).1 parts.1.0, (r.short limit).1 parts.0),
      );
    }

pub stays-append : (before : List Token) (is js : List Item) (s t : List ℕ) (P Q : ℕ → Type 0) (r : Stays before is s P) → Stays (tokens_behind before r.run.tokens) js t Q → Stays before (is ++ js) (s ++ t) (λ limit. P limit × Q limit)
stays-append before is js s t P Q r q =
    let last = behind-append before r.run.tokens q.run.tokens in record {
      run = runs-append before is js s t r.run q.run;
      tags = ap open_tags last ∙ (q.tags ∙ r.tags);
      cdata = ap in_cdata last ∙ (q.cdata ∙ r.cdata);
      short = λ limit. (
        λ h. short-append limit r.run.tokens q.run.tokens ((r.short limit).0 h.0) ((q.short limit).0 h.1),
        λ h. let parts = short_parts limit r.run.tokens q.run.tokens h in ((r.short limit).1 parts.0, (q.short limit).1 parts.1),
      );
    }

pub retext : (before : List Token) (is js : List Item) (s t : List ℕ) (P Q : ℕ → Type 0) → is ≡ js → s ≡ t → ((limit : ℕ) → P limit ↔ Q limit) → Stays before is s P → Stays before js t Q
retext before is js s t P Q e f same r = subst (λ (l : List Item). Stays before l t Q) e (subst (λ (l : List ℕ). Stays before is l Q) f (record {
  run = r.run;
  tags = r.tags;
  cdata = r.cdata;
  short = λ limit. (λ h. (r.short limit).0 ((same limit).1 h), λ h. (same limit).0 ((r.short limit).1 h));
}))

pub nodes_stay : (ns : Nodes) (before : List Token) (op : Opening) (tags : List Opening) (default : Option (List ℕ)) → ArePlain ns → in_cdata before ≡ false → open_tags before ≡ op ∷ tags → Knows (op ∷ tags) default
    → Stays before (flat_nodes ns) (nodes_text default ns) (λ limit. HaveShortTags limit default ns)
nodes_stay Nothing before op tags default p cdata are k = stays_none before
nodes_stay (Text c rest) before op tags default p cdata are k =
    let t = token_of before c (inside_of before op tags cdata are) ((classes.xml c).1 p.0) in
    retext before _ _ _ _ (λ limit. Unit {0} × HaveShortTags limit default rest) (λ limit. HaveShortTags limit default rest) refl refl (λ limit. (λ h. h.1, λ h. (tt, h)))
    (stays-append before (Char c ∷ []) (flat_nodes rest) (escape_of false c) (nodes_text default rest) (λ limit. Unit {0}) (λ limit. HaveShortTags limit default rest)
    (record { run = one_run before t.token (Char c ∷ []) (escape_of false c) t.bytes t.stand t.rule t.items; tags = t.tags; cdata = t.cdata; short = λ limit. (λ h. (t.short limit, tt), λ h. tt) })
    (nodes_stay rest (t.token ∷ before) op tags default p.1 (t.cdata ∙ cdata) (t.tags ∙ are) k))
nodes_stay (Element name attributes children rest) before op tags default p cdata are k =
    let i = inside_of before op tags cdata are in
    let within : Option (List ℕ) = default_within default name in
    let first = element_stays before (op ∷ tags) default name attributes (flat_nodes children) (nodes_text within children) (λ limit. HaveShortTags limit within children) cdata are (not_over before i.open_some) k p.0 p.1
    (λ inner c a. nodes_stay children inner (opening_of default name attributes) (op ∷ tags) within p.2 c a (knows_within default name attributes (op ∷ tags) p.1.0 k)) in
    let more = nodes_stay rest (tokens_behind before first.run.tokens) op tags default p.3 (first.cdata ∙ cdata) (first.tags ∙ are) k in
    retext before _ _ _ _ (λ limit. ((length (start_text default name attributes) ≤ limit) × (length (end_text name) ≤ limit) × HaveShortTags limit within children) × HaveShortTags limit default rest) (λ limit. HaveShortTags limit default (Element name attributes children rest))
    (ap (λ (l : List Item). Starts name attributes ∷ l) (append_assoc (flat_nodes children) (Ends name ∷ []) (flat_nodes rest)))
    (append_assoc (start_text default name attributes) (nodes_text within children ++ end_text name) (nodes_text default rest)
    ∙ ap (λ (l : List ℕ). start_text default name attributes ++ l) (append_assoc (nodes_text within children) (end_text name) (nodes_text default rest)))
    (λ limit. (λ h. (h.0.0, h.0.1, h.0.2, h.1), λ h. ((h.0, h.1, h.2), h.3)))
    (stays-append before _ (flat_nodes rest) _ (nodes_text default rest) (λ limit. (length (start_text default name attributes) ≤ limit) × (length (end_text name) ≤ limit) × HaveShortTags limit within children) (λ limit. HaveShortTags limit default rest) first more)

-- the tokens of a fragment, within any open elements that leave the prefix `xml` alone
pub fragment_within : (t : Tree) (before : List Token) (tags : List Opening) → IsPlain t → in_cdata before ≡ false → open_tags before ≡ tags → is_over before ≡ false → namespace_of tags (codes "xml") ≡ Some xml_namespace
    → Stays before (flat t) (fragment t) (λ limit. HaveShortTags limit None (Element t.name t.attributes t.children Nothing))
fragment_within t before tags p cdata are over xml =
    let k = knows_none tags xml in
    let within : Option (List ℕ) = default_within None t.name in
    let first = element_stays before tags None t.name t.attributes (flat_nodes t.children) (nodes_text within t.children) (λ limit. HaveShortTags limit within t.children) cdata are over k p.name p.attributes
    (λ inner c a. nodes_stay t.children inner (opening_of None t.name t.attributes) tags within p.children c a (knows_within None t.name t.attributes tags p.attributes.0 k)) in
    retext before _ _ _ _ (λ limit. (length (start_text None t.name t.attributes) ≤ limit) × (length (end_text t.name) ≤ limit) × HaveShortTags limit within t.children) (λ limit. HaveShortTags limit None (Element t.name t.attributes t.children Nothing))
    refl (ap (λ (l : List ℕ). start_text None t.name t.attributes ++ (nodes_text within t.children ++ l)) (sym (append-nil (end_text t.name))))
    (λ limit. (λ h. (h.0, h.1, h.2, tt), λ h. (h.0, h.1, h.2))) first

-- the tokens of a fragment by itself
pub fragment_stays : (t : Tree) → IsPlain t → Stays [] (flat t) (fragment t) (λ limit. HaveShortTags limit None (Element t.name t.attributes t.children Nothing))
fragment_stays t p = fragment_within t [] [] p refl refl refl refl
