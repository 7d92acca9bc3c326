-- A tree writes one value that a message admits, and bytes spell one.
use Rattle.std.proofs.Common.{◌≡◌, ℕ, List, [], ◌∷◌, Some, refl, sym, ap, ap₂, ◌∙◌, subst, append-nil}
use Rattle.std.specs.Prelude.{slice_get, Result, Ok}
use Rattle.std.specs.Str.{chars}
use Rattle.std.proofs.lemmas.Option.{same_Some}
use Rattle.lexical_core.specs.Tree.{Expanded, Entry, Nodes, Element, Text, Tree, flat, tree_items}
use Rattle.lexical_core.specs.Tree as tree
use Rattle.lexical_core.specs.Decimals.{Number}
use Rattle.lexical_core.specs.declared.rule.Rule.{Rule}
use Rattle.lexical_core.proofs.SameTrees.{same_tree}
use Rattle.data_types.specs.Leaf.{Leaf}
use Rattle.data_types.specs.Leaf as leaf
use Rattle.data_types.specs.Value.{Value, Children, Nothing, Child}
use Rattle.data_types.specs.Value as value
use Rattle.facets.specs.LeafUnder.{GivesLeaf, HasSortedCodes, LeafUnder}
use Rattle.facets.specs.declared.simple.Simple.{Simple}
use Rattle.markup.specs.Marks.{OneMarking}
use Rattle.reference_check.specs.Forms.{Form, Slot, form_slots, text_type}
use Rattle.reference_check.specs.Forms as form
use Rattle.reference_check.specs.Steps.{find_slot}
use Rattle.message_model.specs.Admits.{AdmitsAs, AdmitsChildren}
use Rattle.message_model.specs.Message.{Message}
use Rattle.message_model.specs.Sound.{AreSound, HaveSortedCodes}
use Rattle.message_model.specs.Writes.{SpellsCode, WritesAttributes, text_nodes, SpellsText, Wraps, WritesContent}
use Rattle.xml_instances.specs.SpellsXml.{SpellsXml, IsInstance}
use Rattle.xml_instances.specs.XmlFaults.{items}

-- characters spell one leaf
abbrev pub OneLeaf : Type 0
OneLeaf = (simple : Simple) (text : List ℕ) (one two : Result Leaf Rule) → HasSortedCodes simple → LeafUnder simple text one → LeafUnder simple text two → one ≡ two

ok_same : (a b : Leaf) → ◌≡◌ {A = Result Leaf Rule} (Ok a) (Ok b) → a ≡ b
ok_same a b e = cc

leaves_same : OneLeaf → (simple : Simple) (text : List ℕ) (a b : Leaf) → HasSortedCodes simple → GivesLeaf simple text a → GivesLeaf simple text b → a ≡ b
leaves_same one simple text a b sorted h k = ok_same a b (one simple text (Ok a) (Ok b) sorted h k)

texts_same : (a b : List ℕ) → text_nodes a ≡ text_nodes b → a ≡ b
texts_same [] [] e = refl
texts_same [] (c ∷ cs) e = absurd cc
texts_same (c ∷ cs) [] e = absurd cc
texts_same (c ∷ cs) (d ∷ ds) e =
    let first : c ≡ d = cc in let rest : text_nodes cs ≡ text_nodes ds = cc in ap₂ (λ (x : ℕ) (y : List ℕ). x ∷ y) first (texts_same cs ds rest)

text_same : OneLeaf → (simple : Simple) (a b : Leaf) (nodes : Nodes) → HasSortedCodes simple → SpellsText simple a nodes → SpellsText simple b nodes → a ≡ b
text_same one simple a b nodes sorted (v, is, h) (w, also, k) =
    leaves_same one simple v a b sorted h (subst (λ x. GivesLeaf simple x b) (texts_same w v (sym also ∙ is)) k)

number_same : (a b : Number) → leaf.Number a ≡ leaf.Number b → a ≡ b
number_same a b e = cc

-- nodes wrap one tree
trees_same : (t u : Tree) (nodes : Nodes) → Wraps t nodes → Wraps u nodes → t ≡ u
trees_same t u tree.Nothing h k = absurd h
trees_same t u (Text c rest) h k = trees_same t u rest h.1 k.1
trees_same t u (Element n a c rest) h k = h.0 ∙ sym k.0

-- a name is that of one slot
slots_same : (slots : List (Slot ℕ)) (k j : ℕ) (s t : Slot ℕ) → ((i : ℕ) (u : Slot ℕ) → slice_get slots i ≡ Some u → find_slot 0 slots u.tag ≡ Some i)
    → slice_get slots k ≡ Some s → slice_get slots j ≡ Some t → s.tag ≡ t.tag → k ≡ j
slots_same slots k j s t tags at also e = same_Some k j (sym (tags k s at) ∙ (ap (find_slot 0 slots) e ∙ tags j t also))

module _ (one : OneLeaf) (m : Message ℕ) (sound : AreSound m.forms) (sorted : HaveSortedCodes m.forms) where
  code_same : (p : ℕ) (text : List ℕ) (a b : Leaf) → SpellsCode (m.forms p) text a → SpellsCode (m.forms p) text b → a ≡ b
  code_same p text a b h k = by (m.forms p) refl h k
    where
      by : (f : Form ℕ Simple) → m.forms p ≡ f → SpellsCode f text a → SpellsCode f text b → a ≡ b
      by (form.Simple simple) e h k = leaves_same one simple text a b (sorted p simple (ap text_type e)) h k
      by (form.Sequence slots) e h k = absurd h
      by (form.Choice slots) e h k = absurd h
      by (form.Money code number) e h k = absurd h
      by form.Envelope e h k = absurd h
      by form.LeftOut e h k = absurd h
      by form.Missing e h k = absurd h

  -- the children that some nodes write, of a form
  abbrev ChildrenSame : Form ℕ Simple → Nodes → Type 0
  ChildrenSame f nodes = (a b : Children) → AdmitsChildren m.forms (form_slots f) a → AdmitsChildren m.forms (form_slots f) b
      → WritesContent m.forms m.namespace f (value.Component a) nodes → WritesContent m.forms m.namespace f (value.Component b) nodes → a ≡ b

  money_same : (code : ℕ) (number : Simple) → HasSortedCodes number → (l k : Leaf) (n o : Number) (attributes : List Entry) (nodes : Nodes)
      → WritesAttributes m.forms (form.Money code number) (value.Amount l n) attributes → WritesAttributes m.forms (form.Money code number) (value.Amount k o) attributes
      → SpellsText number (leaf.Number n) nodes → SpellsText number (leaf.Number o) nodes → value.Amount l n ≡ value.Amount k o
  money_same code number is_sorted l k n o attributes nodes (v, has, spells) (w, also_has, also_spells) text also_text =
      let same : v ≡ w = same_Some v w (sym has.0 ∙ also_has.0) in
      let codes_same : l ≡ k = code_same code (chars v) l k spells (subst (λ x. SpellsCode (m.forms code) (chars x) k) (sym same) also_spells) in
      let numbers : n ≡ o = number_same n o (text_same one number (leaf.Number n) (leaf.Number o) nodes is_sorted text also_text) in
      ap₂ (λ (x : Leaf) (y : Number). value.Amount x y) codes_same numbers

  -- an element writes one value of its type, where its nodes write one list of children
  value_same : (p : ℕ) (f : Form ℕ Simple) → m.forms p ≡ f → (v w : Value) (attributes : List Entry) (nodes : Nodes) → ChildrenSame f nodes
      → AdmitsAs m.forms f v → AdmitsAs m.forms f w → WritesAttributes m.forms f v attributes → WritesAttributes m.forms f w attributes
      → WritesContent m.forms m.namespace f v nodes → WritesContent m.forms m.namespace f w nodes → v ≡ w
  value_same p (form.Sequence slots) e (value.Component a) (value.Component b) attributes nodes same h k _ _ c d = ap value.Component (same a b h.1 k.1 c d)
  value_same p (form.Choice slots) e (value.Component a) (value.Component b) attributes nodes same h k _ _ c d = ap value.Component (same a b h.1 k.1 c d)
  value_same p (form.Simple simple) e (value.Simple a) (value.Simple b) attributes nodes same h k _ _ c d =
      ap value.Simple (text_same one simple a b nodes (sorted p simple (ap text_type e)) c d)
  value_same p (form.Money code number) e (value.Amount l n) (value.Amount k o) attributes nodes same h i a b c d =
      money_same code number (sorted p number (ap text_type e)) l k n o attributes nodes a b c d
  value_same p form.Envelope e (value.External t) (value.External u) attributes nodes same h k _ _ c d = ap value.External (trees_same t u nodes c d)
  value_same p (form.Sequence slots) e (value.Simple x) w attributes nodes same h k _ _ c d = absurd h
  value_same p (form.Sequence slots) e (value.Amount x x0) w attributes nodes same h k _ _ c d = absurd h
  value_same p (form.Sequence slots) e (value.External x) w attributes nodes same h k _ _ c d = absurd h
  value_same p (form.Sequence slots) e (value.Component y) (value.Simple x) attributes nodes same h k _ _ c d = absurd k
  value_same p (form.Sequence slots) e (value.Component y) (value.Amount x x0) attributes nodes same h k _ _ c d = absurd k
  value_same p (form.Sequence slots) e (value.Component y) (value.External x) attributes nodes same h k _ _ c d = absurd k
  value_same p (form.Choice slots) e (value.Simple x) w attributes nodes same h k _ _ c d = absurd h
  value_same p (form.Choice slots) e (value.Amount x x0) w attributes nodes same h k _ _ c d = absurd h
  value_same p (form.Choice slots) e (value.External x) w attributes nodes same h k _ _ c d = absurd h
  value_same p (form.Choice slots) e (value.Component y) (value.Simple x) attributes nodes same h k _ _ c d = absurd k
  value_same p (form.Choice slots) e (value.Component y) (value.Amount x x0) attributes nodes same h k _ _ c d = absurd k
  value_same p (form.Choice slots) e (value.Component y) (value.External x) attributes nodes same h k _ _ c d = absurd k
  value_same p (form.Simple simple) e (value.Component x) w attributes nodes same h k _ _ c d = absurd h
  value_same p (form.Simple simple) e (value.Amount x x0) w attributes nodes same h k _ _ c d = absurd h
  value_same p (form.Simple simple) e (value.External x) w attributes nodes same h k _ _ c d = absurd h
  value_same p (form.Simple simple) e (value.Simple y) (value.Component x) attributes nodes same h k _ _ c d = absurd k
  value_same p (form.Simple simple) e (value.Simple y) (value.Amount x x0) attributes nodes same h k _ _ c d = absurd k
  value_same p (form.Simple simple) e (value.Simple y) (value.External x) attributes nodes same h k _ _ c d = absurd k
  value_same p (form.Money code number) e (value.Component x) w attributes nodes same h k _ _ c d = absurd h
  value_same p (form.Money code number) e (value.Simple x) w attributes nodes same h k _ _ c d = absurd h
  value_same p (form.Money code number) e (value.External x) w attributes nodes same h k _ _ c d = absurd h
  value_same p (form.Money code number) e (value.Amount y y0) (value.Component x) attributes nodes same h k _ _ c d = absurd k
  value_same p (form.Money code number) e (value.Amount y y0) (value.Simple x) attributes nodes same h k _ _ c d = absurd k
  value_same p (form.Money code number) e (value.Amount y y0) (value.External x) attributes nodes same h k _ _ c d = absurd k
  value_same p form.Envelope e (value.Component x) w attributes nodes same h k _ _ c d = absurd h
  value_same p form.Envelope e (value.Simple x) w attributes nodes same h k _ _ c d = absurd h
  value_same p form.Envelope e (value.Amount x x0) w attributes nodes same h k _ _ c d = absurd h
  value_same p form.Envelope e (value.External y) (value.Component x) attributes nodes same h k _ _ c d = absurd k
  value_same p form.Envelope e (value.External y) (value.Simple x) attributes nodes same h k _ _ c d = absurd k
  value_same p form.Envelope e (value.External y) (value.Amount x x0) attributes nodes same h k _ _ c d = absurd k
  value_same p form.LeftOut e v w attributes nodes same h k _ _ c d = absurd h
  value_same p form.Missing e v w attributes nodes same h k _ _ c d = absurd h

  -- the children of an element whose form has these slots
  children_same : (f : Form ℕ Simple) → ((i : ℕ) (u : Slot ℕ) → slice_get (form_slots f) i ≡ Some u → find_slot 0 (form_slots f) u.tag ≡ Some i) → (nodes : Nodes) → ChildrenSame f nodes
  children_same f tags tree.Nothing Nothing Nothing h k c d = refl
  children_same f tags tree.Nothing Nothing (Child j w also) h k c d = absurd d
  children_same f tags tree.Nothing (Child i v more) b h k c d = absurd c
  children_same f tags (Text x rest) a b h k c d = children_same f tags rest a b h k (after a x rest c) (after b x rest d)
    where
      after : (a : Children) (x : ℕ) (rest : Nodes) → WritesContent m.forms m.namespace f (value.Component a) (Text x rest) → WritesContent m.forms m.namespace f (value.Component a) rest
      after Nothing x rest c = c.1
      after (Child i v more) x rest c = c.1
  children_same f tags (Element n attributes inner rest) Nothing b h k c d = absurd c
  children_same f tags (Element n attributes inner rest) (Child i v more) Nothing h k c d = absurd d
  children_same f tags (Element n attributes inner rest) (Child i v more) (Child j w also) ((s, at, admits), others) ((t, at_also, admits_also), others_also) ((u, is_u, q), content) ((x, is_x, r), content_also) =
      let s_is : s ≡ u = same_Some s u (sym at ∙ is_u) in
      let t_is : t ≡ x = same_Some t x (sym at_also ∙ is_x) in
      let tags_same : u.tag ≡ x.tag = ap (λ (y : Expanded). y.local) (sym q.0 ∙ r.0) in
      let number : i ≡ j = slots_same (form_slots f) i j u x tags is_u is_x tags_same in
      let slot : u ≡ x = same_Some u x (sym is_u ∙ (ap (slice_get (form_slots f)) number ∙ is_x)) in
      let p = u.target in
      let v_is : v ≡ w = value_same p (m.forms p) refl v w attributes inner (children_same (m.forms p) (let k = sound p in k.tags) inner) (subst (λ (y : Slot ℕ). AdmitsAs m.forms (m.forms y.target) v) s_is admits)
      (subst (λ (y : Slot ℕ). AdmitsAs m.forms (m.forms y.target) w) (t_is ∙ sym slot) admits_also) q.1 (subst (λ (y : Slot ℕ). WritesAttributes m.forms (m.forms y.target) w attributes) (sym slot) r.1)
      q.3 (subst (λ (y : Slot ℕ). WritesContent m.forms m.namespace (m.forms y.target) w inner) (sym slot) r.3) in
      let rest_is : more ≡ also = children_same f tags rest more also others others_also content content_also in
      child i j v w more also number v_is rest_is
    where
      child : (i j : ℕ) (v w : Value) (more also : Children) → i ≡ j → v ≡ w → more ≡ also → Child i v more ≡ Child j w also
      child i j v w more also e g h = λ x. Child (e x) (g x) (h x)

  -- a tree writes one value
  tree_same : (v w : Value) (t : Tree) → IsInstance m v t → IsInstance m w t → v ≡ w
  tree_same v w t h k =
      let a = h.written in let b = k.written in let x = h.admitted in let y = k.admitted in
      value_same m.root (m.forms m.root) refl v w t.attributes t.children (children_same (m.forms m.root) (let k = sound m.root in k.tags) t.children) x y a.attributes b.attributes a.content b.content

  -- bytes spell one value
  pub one_spelled : OneMarking → (bytes : List ℕ) (v w : Value) → SpellsXml m bytes v → SpellsXml m bytes w → v ≡ w
  one_spelled one_marking bytes v w s r =
      let tokens_are : s.tokens ≡ r.tokens = one_marking bytes s.tokens r.tokens s.marks r.marks in
      let trees_are : r.tree ≡ s.tree = same_tree r.tree s.tree [] (append-nil (flat r.tree) ∙ (sym r.tree_is ∙ (ap (λ x. tree_items 0 (items x)) (sym tokens_are) ∙ s.tree_is))) in
      tree_same v w s.tree s.instance (subst (λ x. IsInstance m w x) trees_are r.instance)
