-- The events of a tree that writes an admitted value break nothing.
use Rattle.std.proofs.Common.{subst, ◌≡◌, ℕ, Bool, true, false, List, [], ◌∷◌, ◌++◌, Option, Some, None, refl, ap, ◌∙◌, sym, ◌⊎◌, inl, inr, append_assoc, append-nil}
use Rattle.std.specs.Prelude.{slice_get, not, ◌||◌, codes}
use Rattle.std.specs.List.{AllByRecursion, list_any}
use Rattle.std.specs.Str.{bytes_eq, chars}
use Rattle.std.proofs.lemmas.Bool.{and_from, or_left, or_right, cond-false}
use Rattle.std.proofs.lemmas.Slice.Eq.{bytes_eq-Decides}
use Rattle.std.proofs.lemmas.Option.{same_Some}
use Rattle.lexical_core.specs.Tree.{Expanded, Entry, Nodes, Element, Text, Tree, Item, Starts, Ends, flat, flat_nodes}
use Rattle.lexical_core.specs.Tree as tree
use Rattle.lexical_core.specs.Characters.{IsSpace}
use Rattle.lexical_core.specs.Names.{same_name}
use Rattle.data_types.specs.Value.{Value, Children, Nothing, Child}
use Rattle.data_types.specs.Value as value
use Rattle.data_types.specs.Leaf as leaf
use Rattle.facets.specs.declared.simple.Simple.{Simple}
use Rattle.markup.specs.Chars.{is_space}
use Rattle.reference_check.specs.Forms.{Graph, Form, Slot, form_slots}
use Rattle.reference_check.specs.Forms as form
use Rattle.reference_check.specs.Words.{IsWordOf}
use Rattle.reference_check.specs.Steps.{Slotted, Fine, next, next_of, next_found, next_at, find_slot, end_after}
use Rattle.message_model.specs.Admits.{AdmitsAs, AdmitsChildren, numbers_of}
use Rattle.message_model.specs.Writes.{name_in_namespace, IsHint, IsHintOrCurrency, currency, SpellsCode, WritesAttributes, text_nodes, IsBlank, Wraps, MayHold, WritesContent, WritesLeaf, SpellsText}
use Rattle.message_model.specs.Message.{Message}
use Rattle.xml_instances.specs.SpellsXml.{IsInstance}
use Rattle.xml_instances.specs.Levels.{Level, Parent, Leaf, Envelope, Foreign, begun_level, path_in}
use Rattle.xml_instances.specs.EventFaults.{Broken, AreFine, AttributeFault, CurrencyFault, CodeFault, Unless, place_fault, is_known, is_hint, is_bare, space_fault}

pub space_passes : (c : ℕ) → IsSpace c → is_space c ≡ true
unfolding is_space
space_passes c (inl e) = rw e refl
space_passes c (inr (inl e)) = rw e refl
space_passes c (inr (inr (inl e))) = rw e refl
space_passes c (inr (inr (inr e))) = rw e refl

-- of the forms of a message: a tag finds its slot, what a word goes on with may come, and a word may end
pub record IsSteady {P : Type 0} (g : Graph P Simple) : Type 0 where
  pub tagged : (p : P) (k : ℕ) (s : Slot P) → slice_get (form_slots (g p)) k ≡ Some s → find_slot 0 (form_slots (g p)) s.tag ≡ Some k
  pub goes_on : (p : P) (d e : List ℕ) (k : ℕ) (s : Slot P) → slice_get (form_slots (g p)) k ≡ Some s → IsWordOf (g p) (d ++ k ∷ e) → next_of (g p) d k s ≡ Slotted k
  pub ends : (p : P) (d : List ℕ) → IsWordOf (g p) d → end_after (g p) d ≡ Fine

pub same_names : (a b : Expanded) → a ≡ b → same_name a b ≡ true
same_names a b e = and_from _ _ ((bytes_eq-Decides a.namespace b.namespace).1 (ap (λ x. x.namespace) e)) ((bytes_eq-Decides a.local b.local).1 (ap (λ x. x.local) e))

pub hint_known : (a : Entry) → IsHint a → is_hint a ≡ true
hint_known a (inl e) = or_left _ _ (same_names a.name _ e)
hint_known a (inr e) = or_right _ _ (same_names a.name _ e)

none_unknown : (k b : Bool) → k ≡ true → b ≡ false → (not k || b) ≡ false
none_unknown true b e f = f
none_unknown false b e f = cc

pub hints_known : {P : Type 0} (f : Form P Simple) (attributes : List Entry) → AllByRecursion IsHint attributes → list_any (λ a. not (is_known f a)) attributes ≡ false
hints_known f [] h = refl
hints_known f (a ∷ attributes) h = none_unknown (is_known f a) _ (or_left _ _ (hint_known a h.0)) (hints_known f attributes h.1)

pub money_known : {P : Type 0} (c : P) (s : Simple) (attributes : List Entry) → AllByRecursion IsHintOrCurrency attributes → list_any (λ a. not (is_known (form.Money c s) a)) attributes ≡ false
money_known c s [] h = refl
money_known c s (a ∷ attributes) (inl e, h) = none_unknown (is_known (form.Money c s) a) _ (or_left _ _ (hint_known a e)) (money_known c s attributes h)
money_known c s (a ∷ attributes) (inr e, h) = none_unknown (is_known (form.Money c s) a) _ (or_right _ _ (same_names a.name currency e)) (money_known c s attributes h)

pub code_fine : {P : Type 0} (f : Form P Simple) (text path : List ℕ) (l : leaf.Leaf) → SpellsCode f text l → CodeFault f text path None
code_fine (form.Simple s) text path l h = (l, h)
code_fine _ text path l h = absurd h

module _ {P : Type 0} (m : Message P) (steady : IsSteady m.forms) where
  -- attributes that write a value's break nothing
  unless_none : (o : Option Broken) (Other : Option Broken → Type 0) → o ≡ None → Other None → Unless o Other None
  unless_none None Other e h = h
  unless_none (Some b) Other e h = cc

  currency_fine : (f : Form P Simple) (o : Option (List ℕ)) (w path : List ℕ) (l : leaf.Leaf) → o ≡ Some w → SpellsCode f (chars w) l → CurrencyFault f o path None
  currency_fine f None w path l e h = cc
  currency_fine f (Some u) w path l e h = (let same : w ≡ u = cc in code_fine f (chars u) path l (rw same at h))

  attributes_fine : (f : Form P Simple) (v : Value) (attributes : List Entry) (path : List ℕ) → AdmitsAs m.forms f v → WritesAttributes m.forms f v attributes → AttributeFault m (Some f) attributes path None
  attributes_fine (form.Money c s) (value.Amount l n) attributes path a (w, (found, known), spelled) =
      unless_none _ _ (cond-false _ _ _ (money_known c s attributes known)) (currency_fine (m.forms c) _ w _ l found spelled)
  attributes_fine (form.Money c s) (value.Component ks) attributes path a h = absurd a
  attributes_fine (form.Money c s) (value.Simple l) attributes path a h = absurd a
  attributes_fine (form.Money c s) (value.External t) attributes path a h = absurd a
  attributes_fine (form.Sequence fs) v attributes path a h = unless_none _ _ (cond-false _ _ _ (hints_known {P = P} (form.Sequence fs) attributes h)) refl
  attributes_fine (form.Choice fs) v attributes path a h = unless_none _ _ (cond-false _ _ _ (hints_known {P = P} (form.Choice fs) attributes h)) refl
  attributes_fine (form.Simple s) v attributes path a h = unless_none _ _ (cond-false _ _ _ (hints_known {P = P} (form.Simple s) attributes h)) refl
  attributes_fine form.Envelope v attributes path a h = unless_none _ _ (cond-false _ _ _ (hints_known {P = P} form.Envelope attributes h)) refl
  attributes_fine form.LeftOut v attributes path a h = unless_none _ _ (cond-false _ _ _ (hints_known {P = P} form.LeftOut attributes h)) refl
  attributes_fine form.Missing v attributes path a h = unless_none _ _ (cond-false _ _ _ (hints_known {P = P} form.Missing attributes h)) refl

  pub next_slotted : (p : P) (f : Form P Simple) (d e : List ℕ) (k : ℕ) (s : Slot P) → m.forms p ≡ f → slice_get (form_slots f) k ≡ Some s → IsWordOf f (d ++ k ∷ e) → next f d s.tag ≡ Slotted k
  next_slotted p f d e k s at = subst (λ (f : Form P Simple). slice_get (form_slots f) k ≡ Some s → IsWordOf f (d ++ k ∷ e) → next f d s.tag ≡ Slotted k) at of_place
    where
      of_place : slice_get (form_slots (m.forms p)) k ≡ Some s → IsWordOf (m.forms p) (d ++ k ∷ e) → next (m.forms p) d s.tag ≡ Slotted k
      of_place found word = ap (next_found (m.forms p) (form_slots (m.forms p)) d) (steady.tagged p k s found) ∙ (ap (next_at (m.forms p) d k) found ∙ steady.goes_on p d e k s found word)

  ends_at : (p : P) (f : Form P Simple) (d : List ℕ) → m.forms p ≡ f → IsWordOf f d → end_after f d ≡ Fine
  ends_at p f d at = subst (λ (f : Form P Simple). IsWordOf f d → end_after f d ≡ Fine) at (steady.ends p d)

  foreign_fine : (nodes : Nodes) (above : List (Level P)) (rest : List Item) → AreFine m (Foreign ∷ above) rest → AreFine m (Foreign ∷ above) (flat_nodes nodes ++ rest)
  foreign_fine tree.Nothing above rest h = h
  foreign_fine (Text c more) above rest h = (refl, foreign_fine more above rest h)
  foreign_fine (Element n attributes inner more) above rest h =
      (refl, rw (append_assoc (flat_nodes inner) (Ends n ∷ flat_nodes more) rest) (foreign_fine inner (Foreign ∷ above) (Ends n ∷ (flat_nodes more ++ rest)) (refl, foreign_fine more above rest h)))

  space_fine : (c : ℕ) (path : List ℕ) → IsSpace c → None ≡ space_fault (is_space c) path
  space_fine c path h = rw (space_passes c h) refl

  blank_fine : (nodes : Nodes) (above : List (Level P)) (rest : List Item) → IsBlank nodes → AreFine m (Envelope true ∷ above) rest → AreFine m (Envelope true ∷ above) (flat_nodes nodes ++ rest)
  blank_fine tree.Nothing above rest h fine = fine
  blank_fine (Text c more) above rest h fine = (space_fine c _ h.0, blank_fine more above rest h.1 fine)
  blank_fine (Element n attributes inner more) above rest h fine = absurd h

  wraps_fine : (t : Tree) (nodes : Nodes) (above : List (Level P)) (rest : List Item) → Wraps t nodes → AreFine m (Envelope true ∷ above) rest → AreFine m (Envelope false ∷ above) (flat_nodes nodes ++ rest)
  wraps_fine t tree.Nothing above rest h fine = absurd h
  wraps_fine t (Text c more) above rest h fine = (space_fine c _ h.0, wraps_fine t more above rest h.1 fine)
  wraps_fine t (Element n attributes inner more) above rest h fine =
      (refl, rw (append_assoc (flat_nodes inner) (Ends n ∷ flat_nodes more) rest) (foreign_fine inner (Envelope true ∷ above) (Ends n ∷ (flat_nodes more ++ rest)) (refl, blank_fine more above rest h.1 fine)))

  text_fine : (s : Simple) (v w : List ℕ) (above : List (Level P)) (rest : List Item) → AreFine m (Leaf s (v ++ w) ∷ above) rest → AreFine m (Leaf s v ∷ above) (flat_nodes (text_nodes w) ++ rest)
  text_fine s v [] above rest h = rw append-nil at h
  text_fine s v (c ∷ w) above rest h = (refl, text_fine s (v ++ c ∷ []) w above rest (rw (append_assoc v (c ∷ []) w) h))

  bare_or_empty : (fs : List (Slot P)) (nodes : Nodes) → MayHold (form.Sequence fs) nodes → (is_bare (form.Sequence fs) ≡ false) ⊎ (nodes ≡ tree.Nothing)
  bare_or_empty [] nodes h = inr h
  bare_or_empty (s ∷ fs) nodes h = inl refl

  -- the children that are still to come, behind those before
  abbrev pub ChildrenFine : Nodes → Type 0
  ChildrenFine nodes =
      (p : P) (f : Form P Simple) (before : List ℕ) (ks : Children) (above : List (Level P)) (rest : List Item) → m.forms p ≡ f
      → (is_bare f ≡ false) ⊎ (nodes ≡ tree.Nothing) → IsWordOf f (before ++ numbers_of ks) → AdmitsChildren m.forms (form_slots f) ks
      → WritesContent m.forms m.namespace f (value.Component ks) nodes → AreFine m (Parent f (before ++ numbers_of ks) ∷ above) rest
      → AreFine m (Parent f before ∷ above) (flat_nodes nodes ++ rest)

  leaf_fine : (nodes : Nodes) (s : Simple) (l : leaf.Leaf) (n : Expanded) (above : List (Level P)) (rest : List Item) → SpellsText s l nodes → AreFine m above rest → AreFine m (Leaf s [] ∷ above) (flat_nodes nodes ++ (Ends n ∷ rest))
  leaf_fine nodes s l n above rest (w, e, gives) fine = rw e (text_fine s [] w above (Ends n ∷ rest) ((l, gives), fine))

  abbrev IsNoComponent : Value → Type 0
  IsNoComponent (value.Component ks) = ⊥
  IsNoComponent v = Unit {0}

  leaf_content : (f : Form P Simple) (v : Value) (nodes : Nodes) → IsNoComponent v → WritesContent m.forms m.namespace f v nodes → WritesLeaf f v nodes
  leaf_content f (value.Component ks) nodes n h = absurd n
  leaf_content f (value.Simple l) nodes n h = h
  leaf_content f (value.Amount l k) nodes n h = h
  leaf_content f (value.External t) nodes n h = h

  text_content : (f : Form P Simple) (ks : Children) (c : ℕ) (more : Nodes) → WritesContent m.forms m.namespace f (value.Component ks) (Text c more) → IsSpace c × WritesContent m.forms m.namespace f (value.Component ks) more
  text_content f Nothing c more h = h
  text_content f (Child k v ks) c more h = h

  -- the content of an element and its end
  element_fine : (nodes : Nodes) (p : P) (f : Form P Simple) (v : Value) (n : Expanded) (above : List (Level P)) (rest : List Item) → ChildrenFine nodes → m.forms p ≡ f
      → AdmitsAs m.forms f v → MayHold f nodes → WritesContent m.forms m.namespace f v nodes → AreFine m above rest → AreFine m (begun_level f ∷ above) (flat_nodes nodes ++ (Ends n ∷ rest))
  element_fine nodes p (form.Sequence fs) (value.Component ks) n above rest children at (word, admitted) holds written fine =
      children p (form.Sequence fs) [] ks above (Ends n ∷ rest) at (bare_or_empty fs nodes holds) word admitted written (rw (ends_at p (form.Sequence fs) _ at word) refl, fine)
  element_fine nodes p (form.Choice fs) (value.Component ks) n above rest children at (word, admitted) holds written fine =
      children p (form.Choice fs) [] ks above (Ends n ∷ rest) at (inl refl) word admitted written (rw (ends_at p (form.Choice fs) _ at word) refl, fine)
  element_fine nodes p (form.Simple s) (value.Simple l) n above rest children at a holds h fine = leaf_fine nodes s l n above rest (leaf_content (form.Simple s) (value.Simple l) nodes tt h) fine
  element_fine nodes p (form.Money c s) (value.Amount l k) n above rest children at a holds h fine = leaf_fine nodes s (leaf.Number k) n above rest (leaf_content (form.Money c s) (value.Amount l k) nodes tt h) fine
  element_fine nodes p form.Envelope (value.External t) n above rest children at a holds h fine =
      wraps_fine t nodes above (Ends n ∷ rest) (leaf_content form.Envelope (value.External t) nodes tt h) (refl, fine)
  element_fine nodes p f v n above rest children at a holds h fine = absurd a

  starts_fine : (f : Form P Simple) (before : List ℕ) (k : ℕ) (s : Slot P) (n : Expanded) (attributes : List Entry) (above : List (Level P)) (items : List Item) → n ≡ name_in_namespace m.namespace s.tag
      → next f before s.tag ≡ Slotted k → slice_get (form_slots f) k ≡ Some s → AttributeFault m (Some (m.forms s.target)) attributes (path_in (Parent f (before ++ k ∷ []) ∷ above)) None
      → AreFine m (begun_level (m.forms s.target) ∷ Parent f (before ++ k ∷ []) ∷ above) items → AreFine m (Parent f before ∷ above) (Starts n attributes ∷ items)
  starts_fine f before k s n attributes above items e slotted found known fine =
      let here : next f before n.local ≡ Slotted k = ap (λ x. next f before x.local) e ∙ slotted in
      let space : bytes_eq n.namespace m.namespace ≡ true = (bytes_eq-Decides n.namespace m.namespace).1 (ap (λ x. x.namespace) e) in
      (rw (space, here, found) known, rw (here, found) fine)

  children_fine : (nodes : Nodes) → ChildrenFine nodes
  children_fine tree.Nothing p f before Nothing above rest at bare word admitted written fine = rw append-nil at fine
  children_fine tree.Nothing p f before (Child k v ks) above rest at bare word admitted written fine = absurd written
  children_fine (Text c more) p f before ks above rest at (inr e) word admitted written fine = absurd cc
  children_fine (Text c more) p f before ks above rest at (inl e) word admitted written fine =
      let w : IsSpace c × WritesContent m.forms m.namespace f (value.Component ks) more = text_content f ks c more written in
      (rw (e, space_passes c w.0) refl, children_fine more p f before ks above rest at (inl e) word admitted w.1 fine)
  children_fine (Element n attributes inner more) p f before ks above rest at (inr e) word admitted written fine = absurd cc
  children_fine (Element n attributes inner more) p f before Nothing above rest at (inl e) word admitted written fine = absurd written
  children_fine (Element n attributes inner more) p f before (Child k v ks) above rest at (inl e) word ((s, found, admits), admitted) ((t, found', (name_is, attributes_are, holds, content)), written) fine =
      let same : t ≡ s = same_Some t s (sym found' ∙ found) in
      rw (append_assoc (flat_nodes inner) (Ends n ∷ flat_nodes more) rest)
      (starts_fine f before k s n attributes above (flat_nodes inner ++ (Ends n ∷ (flat_nodes more ++ rest))) (rw same at name_is) (next_slotted p f before (numbers_of ks) k s at found word) found
      (attributes_fine (m.forms s.target) v attributes _ admits (subst (λ (x : Slot P). WritesAttributes m.forms (m.forms x.target) v attributes) same attributes_are))
      (element_fine inner s.target (m.forms s.target) v n (Parent f (before ++ k ∷ []) ∷ above) (flat_nodes more ++ rest) (children_fine inner) refl admits (subst (λ (x : Slot P). MayHold (m.forms x.target) inner) same holds) (subst (λ (x : Slot P). WritesContent m.forms m.namespace (m.forms x.target) v inner) same content)
      (children_fine more p f (before ++ k ∷ []) ks above rest at (inl e) (rw append_assoc word) admitted written (rw append_assoc fine))))

  place_root : (n : Expanded) → n ≡ name_in_namespace m.namespace (codes "Document") → place_fault m [] n ≡ None
  place_root n e = (let same : same_name n (name_in_namespace m.namespace (codes "Document")) ≡ true = same_names n (name_in_namespace m.namespace (codes "Document")) e in rw same refl)

  pub root_fine : (t : Tree) (v : Value) → IsInstance m v t → AreFine m [] (flat t)
  root_fine t v i = (
    unless_none _ _ (place_root t.name i.written.name) (attributes_fine (m.forms m.root) v t.attributes (codes "/Document[1]") i.admitted i.written.attributes),
    element_fine t.children m.root (m.forms m.root) v t.name [] [] (children_fine t.children) refl i.admitted i.written.holds i.written.content tt,
  )
