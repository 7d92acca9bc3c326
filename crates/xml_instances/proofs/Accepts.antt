-- Events of a tree that break nothing are those of a tree that writes an admitted value.
use Rattle.std.proofs.Common.{subst, ◌≡◌, ℕ, suc, ◌+◌, Bool, true, false, cond, List, [], ◌∷◌, ◌++◌, Option, Some, None, refl, sym, ap, ◌∙◌, arith, ◌⊎◌, inl, inr, append_assoc, append-nil}
use Rattle.std.specs.Prelude.{slice_get, nat_lt, ◌==◌, not, ◌&&◌, ◌||◌, codes}
use Rattle.std.specs.Str.{bytes_eq, chars}
use Rattle.std.specs.List.{AllByRecursion, list_any}
use Rattle.std.proofs.lemmas.Slice.Eq.{bytes_eq-Decides}
use Rattle.std.proofs.lemmas.Bool.{and_parts, or_cases}
use Rattle.std.proofs.lemmas.Bool.Decides.{nat_tests}
use Rattle.lexical_core.specs.Tree.{Expanded, Entry, Nodes, Element, Text, Tree, Item, Starts, Ends, flat, flat_nodes}
use Rattle.lexical_core.specs.Tree as tree
use Rattle.lexical_core.specs.Characters.{IsSpace}
use Rattle.lexical_core.specs.Decimals.{Number}
use Rattle.lexical_core.specs.Names.{same_name, attribute_value}
use Rattle.data_types.specs.Value.{Value, Children, Nothing, Child}
use Rattle.data_types.specs.Value as value
use Rattle.data_types.specs.Leaf as leaf
use Rattle.data_types.specs.declared.kind.Kind.{Kind}
use Rattle.data_types.specs.declared.kind.Kind.TheVariants as kind
use Rattle.facets.specs.declared.simple.Simple.{Simple}
use Rattle.facets.specs.LeafUnder.{GivesLeaf, Fits, IsLeafBy}
use Rattle.markup.specs.Chars.{is_space}
use Rattle.fragments.specs.Plain.{ArePlain, IsPlain}
use Rattle.reference_check.specs.Forms.{Form, Slot, form_slots}
use Rattle.reference_check.specs.Forms as form
use Rattle.reference_check.specs.Words.{IsWordOf, times}
use Rattle.reference_check.specs.Steps.{EndOfSlots, Slotted, Fine, OutOfOrder, TooMany, Second, Lacks, NoAlternative, next, next_of, find_slot, end_after, has_room, first_lacking, after_order, CameAfter, Came}
use Rattle.message_model.specs.Admits.{AdmitsAs, AdmitsChildren, FitsCode, numbers_of}
use Rattle.message_model.specs.Writes.{name_in_namespace, IsHint, IsHintOrCurrency, currency, SpellsCode, WritesAttributes, text_nodes, IsBlank, Wraps, MayHold, WritesContent, WritesLeaf}
use Rattle.message_model.specs.Message.{Message}
use Rattle.xml_instances.specs.SpellsXml.{IsInstance}
use Rattle.xml_instances.specs.Levels.{Level, Parent, Leaf, Envelope, Foreign, begun_level, path_in, form_of_start, round_start}
use Rattle.xml_instances.specs.EventFaults.{Broken, AreFine, AttributeFault, RequiredFault, CurrencyFault, CodeFault, Unless, place_fault, next_fault, end_fault, unknown_fault, is_known, is_hint, is_bare, has_currency, space_fault}

-- the slot that a tag finds has that tag
find_slot_finds : {P : Type 0} (k0 k : ℕ) (fs : List (Slot P)) (tag : List ℕ) → find_slot k0 fs tag ≡ Some k → (i : ℕ) × (s : Slot P) × (k ≡ k0 + i) × (slice_get fs i ≡ Some s) × (s.tag ≡ tag)
find_slot_finds k0 k [] tag e = cc
find_slot_finds {P} k0 k (s ∷ fs) tag e = go (bytes_eq s.tag tag) refl (find_slot_finds (suc k0) k fs tag)
  where
    go : (b : Bool) → bytes_eq s.tag tag ≡ b → (find_slot (suc k0) fs tag ≡ Some k → (i : ℕ) × (f : Slot P) × (k ≡ suc k0 + i) × (slice_get fs i ≡ Some f) × (f.tag ≡ tag)) → (i : ℕ) × (f : Slot P) × (k ≡ k0 + i) × (slice_get (s ∷ fs) i ≡ Some f) × (f.tag ≡ tag)
    go true h r = (let same : Some k0 ≡ Some k = rw h at e in let at : k0 ≡ k = cc in (0, s, omega arith, refl, (bytes_eq-Decides s.tag tag).0 h))
    go false h r =
        let q : (i : ℕ) × (f : Slot P) × (k ≡ suc k0 + i) × (slice_get fs i ≡ Some f) × (f.tag ≡ tag) = r (rw h at e) in
        (suc q.0, q.1, omega (arith, q.2), q.3, q.4)

-- a tag that breaks no rule is that of a slot that may come
abbrev pub Comes : {P : Type 0} → Form P Simple → List ℕ → List ℕ → Type 0
Comes {P} f d tag = (k : ℕ) × (s : Slot P) × (slice_get (form_slots f) k ≡ Some s) × (s.tag ≡ tag) × (next_of f d k s ≡ Slotted k) × (next f d tag ≡ Slotted k)

pub no_fault : {A : Type 0} (b : Broken) → ◌≡◌ {A = Option Broken} (Some b) None → A
no_fault b e = absurd cc

slotted_sequence : {P : Type 0} (path : List ℕ) (f : Form P Simple) (a b : Bool) (o : Option ℕ) (k : ℕ) → next_fault path f (cond a OutOfOrder (cond b (after_order k o) TooMany)) ≡ None → cond a OutOfOrder (cond b (after_order k o) TooMany) ≡ Slotted k
slotted_sequence path f true b o k e = no_fault _ e
slotted_sequence path f false true None k e = refl
slotted_sequence path f false true (Some j) k e = no_fault _ e
slotted_sequence path f false false o k e = no_fault _ e

slotted_choice : {P : Type 0} (path : List ℕ) (f : Form P Simple) (a b : Bool) (k : ℕ) → next_fault path f (cond a (cond b (Slotted k) TooMany) Second) ≡ None → cond a (cond b (Slotted k) TooMany) Second ≡ Slotted k
slotted_choice path f true true k e = refl
slotted_choice path f true false k e = no_fault _ e
slotted_choice path f false b k e = no_fault _ e

slotted_of : {P : Type 0} (path : List ℕ) (f : Form P Simple) (d : List ℕ) (k : ℕ) (s : Slot P) → next_fault path f (next_of f d k s) ≡ None → next_of f d k s ≡ Slotted k
slotted_of path (form.Sequence fs) d k s e = slotted_sequence path (form.Sequence fs) (list_any (λ j. nat_lt k j) d) (has_room (times k d) s.max) (first_lacking 0 k fs d) k e
slotted_of path (form.Choice fs) [] k s e = refl
slotted_of path (form.Choice fs) (j ∷ d) k s e = slotted_choice path (form.Choice fs) (j == k) (has_room (times k (j ∷ d)) s.max) k e
slotted_of path _ d k s e = no_fault _ e

pub comes : {P : Type 0} (path : List ℕ) (f : Form P Simple) (d tag : List ℕ) → next_fault path f (next f d tag) ≡ None → Comes f d tag
comes {P} path f d tag e = go (find_slot 0 (form_slots f) tag) refl
  where
    go : (o : Option ℕ) → find_slot 0 (form_slots f) tag ≡ o → Comes f d tag
    go None h = no_fault _ (rw h at e)
    go (Some k) h =
        let q : (i : ℕ) × (s : Slot P) × (k ≡ 0 + i) × (slice_get (form_slots f) i ≡ Some s) × (s.tag ≡ tag) = find_slot_finds 0 k (form_slots f) tag h in
        let at : q.0 ≡ k = omega (arith, q.2) in
        let found : slice_get (form_slots f) k ≡ Some q.1 = rw at at q.3 in
        let slotted : next f d tag ≡ next_of f d k q.1 = rw (h, found) refl in
        let fine : next_of f d k q.1 ≡ Slotted k = slotted_of path f d k q.1 (rw slotted at e) in
        (k, q.1, found, q.4, fine, slotted ∙ fine)

pub space_of : (c : ℕ) → is_space c ≡ true → IsSpace c
unfolding is_space
space_of c e = grind (arith, nat_tests)

pub space_in : (b : Bool) (path : List ℕ) → None ≡ space_fault b path → b ≡ true
space_in true path e = refl
space_in false path e = no_fault _ (sym e)

pub bare_in : (b s : Bool) → (not b && s) ≡ true → (b ≡ false) × (s ≡ true)
bare_in true s e = cc
bare_in false s e = (refl, e)

pub end_fine : {P : Type 0} (path : List ℕ) (f : Form P Simple) (e : EndOfSlots) → None ≡ end_fault path f e → e ≡ Fine
end_fine path f Fine h = refl
end_fine path f (Lacks k) h = no_fault _ (sym h)
end_fine path f NoAlternative h = no_fault _ (sym h)

pub not_bare : {P : Type 0} (f : Form P Simple) (k : ℕ) (s : Slot P) → slice_get (form_slots f) k ≡ Some s → is_bare f ≡ false
not_bare (form.Sequence []) k s e = cc
not_bare (form.Sequence (f ∷ fs)) k s e = refl
not_bare _ k s e = refl

pub name_in : (a b : Expanded) → same_name a b ≡ true → a ≡ b
name_in a b e =
    let r : (bytes_eq a.namespace b.namespace ≡ true) × (bytes_eq a.local b.local ≡ true) = and_parts _ _ e in
    joined a.namespace a.local b.namespace b.local ((bytes_eq-Decides a.namespace b.namespace).0 r.0) ((bytes_eq-Decides a.local b.local).0 r.1)
  where
    joined : (n l o k : List ℕ) → n ≡ o → l ≡ k → name_in_namespace n l ≡ name_in_namespace o k
    joined n l o k p q = rw (p, q) refl

hint_in : (a : Entry) → is_hint a ≡ true → IsHint a
hint_in a e = elim (or_cases _ _ e) [ inl h ↦ inl (name_in a.name _ h) | inr h ↦ inr (name_in a.name _ h) ]

known_in : (k b : Bool) → (not k || b) ≡ false → (k ≡ true) × (b ≡ false)
known_in true b e = (refl, e)
known_in false b e = cc

plain_in : (h c s : Bool) → c ≡ false → (h || (c && s)) ≡ true → h ≡ true
plain_in true c s e k = refl
plain_in false true s e k = cc
plain_in false false s e k = k

pub hints_in : {P : Type 0} (f : Form P Simple) (attributes : List Entry) → has_currency f ≡ false → list_any (λ a. not (is_known f a)) attributes ≡ false → AllByRecursion IsHint attributes
hints_in f [] plain e = tt
hints_in f (a ∷ attributes) plain e =
    let r : (is_known f a ≡ true) × (list_any (λ a. not (is_known f a)) attributes ≡ false) = known_in (is_known f a) _ e in
    (hint_in a (plain_in (is_hint a) (has_currency f) (same_name a.name currency) plain r.0), hints_in f attributes plain r.1)

pub money_in : {P : Type 0} (c : P) (s : Simple) (attributes : List Entry) → list_any (λ a. not (is_known (form.Money c s) a)) attributes ≡ false → AllByRecursion IsHintOrCurrency attributes
money_in c s [] e = tt
money_in c s (a ∷ attributes) e =
    let r : (is_known (form.Money c s) a ≡ true) × (list_any (λ a. not (is_known (form.Money c s) a)) attributes ≡ false) = known_in (is_known (form.Money c s) a) _ e in
    (elim (or_cases (is_hint a) (same_name a.name currency) r.0) [ inl h ↦ inl (hint_in a h) | inr h ↦ inr (name_in a.name _ h) ], money_in c s attributes r.1)

pub unless_in : (o : Option Broken) (Other : Option Broken → Type 0) → Unless o Other None → (o ≡ None) × Other None
unless_in None Other h = (refl, h)
unless_in (Some b) Other h = no_fault b (sym h)

pub if_in : (b : Bool) (x : Broken) → cond b (Some x) None ≡ None → b ≡ false
if_in true x e = no_fault x e
if_in false x e = refl

pub if_else : (b : Bool) (x : Broken) (o : Option Broken) → cond b o (Some x) ≡ None → (b ≡ true) × (o ≡ None)
if_else true x o e = (refl, e)
if_else false x o e = no_fault x e

code_in : {P : Type 0} (f : Form P Simple) (text path : List ℕ) → CodeFault f text path None → (l : leaf.Leaf) × SpellsCode f text l
code_in (form.Simple s) text path h = h
code_in _ text path h = absurd h

pub currency_in : {P : Type 0} (f : Form P Simple) (o : Option (List ℕ)) (path : List ℕ) → CurrencyFault f o path None → (w : List ℕ) × (l : leaf.Leaf) × (o ≡ Some w) × SpellsCode f (chars w) l
currency_in f None path h = no_fault _ (sym h)
currency_in f (Some w) path h = (let r : (l : leaf.Leaf) × SpellsCode f (chars w) l = code_in f (chars w) path h in (w, r.0, refl, r.1))

-- what a text spells under the facets of a number is a number
number_by : (k : Kind) (codes : Option (List (List ℕ))) (w : List ℕ) (l : leaf.Leaf) → k ≡ kind.Decimal → IsLeafBy k codes w l → (n : Number) × (l ≡ leaf.Number n)
number_by k codes w (leaf.Number n) e h = (n, refl)
number_by k codes w (leaf.Bytes b) e h = absurd (subst (λ (x : Kind). IsLeafBy x codes w (leaf.Bytes b)) e h)
number_by k codes w (leaf.Flag b) e h = absurd (subst (λ (x : Kind). IsLeafBy x codes w (leaf.Flag b)) e h)
number_by k codes w (leaf.Code b) e h = absurd (subst (λ (x : Kind). IsLeafBy x codes w (leaf.Code b)) e h)

pub hints_of : {P : Type 0} (m : Message P) (f : Form P Simple) (attributes : List Entry) (path : List ℕ) → has_currency f ≡ false → AttributeFault m (Some f) attributes path None → AllByRecursion IsHint attributes
hints_of m f attributes path plain h = hints_in f attributes plain (if_in _ _ (unless_in _ _ h).0)

pub holds_in : {P : Type 0} (fs : List (Slot P)) (nodes : Nodes) → (is_bare (form.Sequence fs) ≡ false) ⊎ (nodes ≡ tree.Nothing) → MayHold (form.Sequence fs) nodes
holds_in [] nodes (inl e) = cc
holds_in [] nodes (inr e) = e
holds_in (s ∷ fs) nodes x = tt

module _ {P : Type 0} (m : Message P)
    (whole : (p : P) (d : List ℕ) → Came (m.forms p) d → end_after (m.forms p) d ≡ Fine → IsWordOf (m.forms p) d)
    (fits : (s : Simple) (w : List ℕ) (l : leaf.Leaf) → GivesLeaf s w l → Fits s l)
    (decimal : (p c : P) (s : Simple) → m.forms p ≡ form.Money c s → s.kind ≡ kind.Decimal) where
  whole_at : (p : P) (f : Form P Simple) (d : List ℕ) → m.forms p ≡ f → Came f d → end_after f d ≡ Fine → IsWordOf f d
  whole_at p f d at = subst (λ (f : Form P Simple). Came f d → end_after f d ≡ Fine → IsWordOf f d) at (whole p d)

  fits_code : (f : Form P Simple) (w : List ℕ) (l : leaf.Leaf) → SpellsCode f w l → FitsCode f l
  fits_code (form.Simple s) w l h = fits s w l h
  fits_code _ w l h = absurd h

  -- a text and the end of its element
  abbrev pub TextOf : Simple → List ℕ → Nodes → List (Level P) → List Item → Type 0
  TextOf s v nodes above rest = (w : List ℕ) × (nodes ≡ text_nodes w) × ((l : leaf.Leaf) × GivesLeaf s (v ++ w) l) × AreFine m above rest

  text_in : (s : Simple) (v : List ℕ) (nodes : Nodes) (n : Expanded) (above : List (Level P)) (rest : List Item) → AreFine m (Leaf s v ∷ above) (flat_nodes nodes ++ (Ends n ∷ rest)) → TextOf s v nodes above rest
  text_in s v tree.Nothing n above rest h = ([], refl, rw append-nil h.0, h.1)
  text_in s v (Text c more) n above rest h =
      let r : TextOf s (v ++ c ∷ []) more above rest = text_in s (v ++ c ∷ []) more n above rest h.1 in
      (c ∷ r.0, ap (Text c) r.1, rw (append_assoc v (c ∷ []) r.0) at r.2, r.3)
  text_in s v (Element k attributes inner more) n above rest h = no_fault _ (sym h.0)

  foreign_out : (nodes : Nodes) (above : List (Level P)) (rest : List Item) → AreFine m (Foreign ∷ above) (flat_nodes nodes ++ rest) → AreFine m (Foreign ∷ above) rest
  foreign_out tree.Nothing above rest h = h
  foreign_out (Text c more) above rest h = foreign_out more above rest h.1
  foreign_out (Element n attributes inner more) above rest h =
      foreign_out more above rest (foreign_out inner (Foreign ∷ above) (Ends n ∷ (flat_nodes more ++ rest)) (rw (append_assoc (flat_nodes inner) (Ends n ∷ flat_nodes more) rest) at h.1)).1

  blank_in : (nodes : Nodes) (n : Expanded) (above : List (Level P)) (rest : List Item) → AreFine m (Envelope true ∷ above) (flat_nodes nodes ++ (Ends n ∷ rest)) → IsBlank nodes × AreFine m above rest
  blank_in tree.Nothing n above rest h = (tt, h.1)
  blank_in (Text c more) n above rest h =
      let r : IsBlank more × AreFine m above rest = blank_in more n above rest h.1 in
      ((space_of c (space_in _ _ h.0), r.0), r.1)
  blank_in (Element k attributes inner more) n above rest h = no_fault _ (sym h.0)

  -- the tree of an envelope, and the end of the envelope
  abbrev pub TreeOf : Nodes → List (Level P) → List Item → Type 0
  TreeOf nodes above rest = (t : Tree) × IsPlain t × Wraps t nodes × AreFine m above rest

  wraps_in : (nodes : Nodes) (n : Expanded) (above : List (Level P)) (rest : List Item) → ArePlain nodes → AreFine m (Envelope false ∷ above) (flat_nodes nodes ++ (Ends n ∷ rest)) → TreeOf nodes above rest
  wraps_in tree.Nothing n above rest plain h = no_fault _ (sym h.0)
  wraps_in (Text c more) n above rest plain h =
      let r : TreeOf more above rest = wraps_in more n above rest plain.1 h.1 in
      (r.0, r.1, (space_of c (space_in _ _ h.0), r.2), r.3)
  wraps_in (Element k attributes inner more) n above rest (name, entries, within, later) h =
      let out : AreFine m (Envelope true ∷ above) (flat_nodes more ++ (Ends n ∷ rest)) =
      (foreign_out inner (Envelope true ∷ above) (Ends k ∷ (flat_nodes more ++ (Ends n ∷ rest))) (rw (append_assoc (flat_nodes inner) (Ends k ∷ flat_nodes more) (Ends n ∷ rest)) at h.1)).1 in
      let r : IsBlank more × AreFine m above rest = blank_in more n above rest out in
      (record { name = k; attributes = attributes; children = inner }, record { name = name; attributes = entries; children = within }, (refl, r.0), r.1)

  -- the children that come behind those before, and the end of their element
  abbrev pub ChildrenOf : Form P Simple → List ℕ → Nodes → List (Level P) → List Item → Type 0
  ChildrenOf f before nodes above rest =
      (ks : Children) × WritesContent m.forms m.namespace f (value.Component ks) nodes × AdmitsChildren m.forms (form_slots f) ks × CameAfter f before (numbers_of ks)
      × (end_after f (before ++ numbers_of ks) ≡ Fine) × ((is_bare f ≡ false) ⊎ (nodes ≡ tree.Nothing)) × AreFine m above rest

  abbrev pub ChildrenIn : Nodes → Type 0
  ChildrenIn nodes =
      ArePlain nodes → (p : P) (f : Form P Simple) (before : List ℕ) (n : Expanded) (above : List (Level P)) (rest : List Item) → m.forms p ≡ f
      → AreFine m (Parent f before ∷ above) (flat_nodes nodes ++ (Ends n ∷ rest)) → ChildrenOf f before nodes above rest

  abbrev pub ElementOf : Form P Simple → List Entry → Nodes → List (Level P) → List Item → Type 0
  ElementOf f attributes nodes above rest =
      (v : Value) × AdmitsAs m.forms f v × WritesAttributes m.forms f v attributes × MayHold f nodes × WritesContent m.forms m.namespace f v nodes × AreFine m above rest

  leaf_written : (f : Form P Simple) (l : leaf.Leaf) (nodes : Nodes) → WritesLeaf f (value.Simple l) nodes → WritesContent m.forms m.namespace f (value.Simple l) nodes
  leaf_written f l nodes h = h

  amount_written : (f : Form P Simple) (l : leaf.Leaf) (k : _) (nodes : Nodes) → WritesLeaf f (value.Amount l k) nodes → WritesContent m.forms m.namespace f (value.Amount l k) nodes
  amount_written f l k nodes h = h

  tree_written : (f : Form P Simple) (t : Tree) (nodes : Nodes) → WritesLeaf f (value.External t) nodes → WritesContent m.forms m.namespace f (value.External t) nodes
  tree_written f t nodes h = h

  currency_known : (c : P) (s : Simple) (attributes : List Entry) (path : List ℕ) → AttributeFault m (Some (form.Money c s)) attributes path None
      → AllByRecursion IsHintOrCurrency attributes × ((w : List ℕ) × (l : leaf.Leaf) × (attribute_value currency attributes ≡ Some w) × SpellsCode (m.forms c) (chars w) l)
  currency_known c s attributes path known =
      let r : (unknown_fault (form.Money c s) attributes path ≡ None) × RequiredFault m (form.Money c s) attributes path None = unless_in _ (RequiredFault m (form.Money c s) attributes path) known in
      (money_in c s attributes (if_in _ _ r.0), currency_in (m.forms c) (attribute_value currency attributes) (path ++ codes "/@Ccy") r.1)

  element_in : (nodes : Nodes) (p : P) (f : Form P Simple) (attributes : List Entry) (path : List ℕ) (n : Expanded) (above : List (Level P)) (rest : List Item) → ArePlain nodes → ChildrenIn nodes → m.forms p ≡ f
      → AttributeFault m (Some f) attributes path None → AreFine m (begun_level f ∷ above) (flat_nodes nodes ++ (Ends n ∷ rest)) → ElementOf f attributes nodes above rest
  element_in nodes p (form.Sequence fs) attributes path n above rest plain children at known h = of_children (children plain p (form.Sequence fs) [] n above rest at h)
    where
      of_children : ChildrenOf (form.Sequence fs) [] nodes above rest → ElementOf (form.Sequence fs) attributes nodes above rest
      of_children (ks, written, admitted, came, ends, bare, fine) =
          (value.Component ks, (whole_at p (form.Sequence fs) (numbers_of ks) at came ends, admitted), hints_of m (form.Sequence fs) attributes path refl known, holds_in fs nodes bare, written, fine)
  element_in nodes p (form.Choice fs) attributes path n above rest plain children at known h = of_children (children plain p (form.Choice fs) [] n above rest at h)
    where
      of_children : ChildrenOf (form.Choice fs) [] nodes above rest → ElementOf (form.Choice fs) attributes nodes above rest
      of_children (ks, written, admitted, came, ends, bare, fine) =
          (value.Component ks, (whole_at p (form.Choice fs) (numbers_of ks) at came ends, admitted), hints_of m (form.Choice fs) attributes path refl known, tt, written, fine)
  element_in nodes p (form.Simple s) attributes path n above rest plain children at known h = of_text (text_in s [] nodes n above rest h)
    where
      of_text : TextOf s [] nodes above rest → ElementOf (form.Simple s) attributes nodes above rest
      of_text (w, e, (l, gives), fine) = (value.Simple l, fits s w l gives, hints_of m (form.Simple s) attributes path refl known, tt, leaf_written (form.Simple s) l nodes (w, e, gives), fine)
  element_in nodes p (form.Money c s) attributes path n above rest plain children at known h =
      of_amount (currency_known c s attributes path known).1 (text_in s [] nodes n above rest h)
    where
      number_of : (u : List ℕ) (i : leaf.Leaf) (k : Number) → i ≡ leaf.Number k → GivesLeaf s u i → GivesLeaf s u (leaf.Number k)
      number_of u i k same gives = subst (λ (x : leaf.Leaf). GivesLeaf s u x) same gives

      of_number : (w : List ℕ) (l : leaf.Leaf) → (attribute_value currency attributes ≡ Some w) → SpellsCode (m.forms c) (chars w) l → (u : List ℕ) (i : leaf.Leaf) (k : Number) → i ≡ leaf.Number k → nodes ≡ text_nodes u → GivesLeaf s u i → AreFine m above rest → ElementOf (form.Money c s) attributes nodes above rest
      of_number w l found spelled u i k same e gives fine =
          (value.Amount l k, (fits_code (m.forms c) (chars w) l spelled, fits s u (leaf.Number k) (number_of u i k same gives)), (w, (found, (currency_known c s attributes path known).0), spelled), tt, amount_written (form.Money c s) l k nodes (u, e, number_of u i k same gives), fine)

      number_at : (u : List ℕ) (i : leaf.Leaf) → GivesLeaf s u i → (k : Number) × (i ≡ leaf.Number k)
      number_at u i gives = number_by s.kind s.codes u i (decimal p c s at) gives.spelled

      of_amount : ((w : List ℕ) × (l : leaf.Leaf) × (attribute_value currency attributes ≡ Some w) × SpellsCode (m.forms c) (chars w) l) → TextOf s [] nodes above rest → ElementOf (form.Money c s) attributes nodes above rest
      of_amount (w, l, found, spelled) (u, e, (i, gives), fine) =
          of_number w l found spelled u i (number_at u i gives).0 (number_at u i gives).1 e gives fine
  element_in nodes p form.Envelope attributes path n above rest plain children at known h = of_wraps (wraps_in nodes n above rest plain h)
    where
      of_wraps : TreeOf nodes above rest → ElementOf form.Envelope attributes nodes above rest
      of_wraps (t, is_plain, w, fine) = (value.External t, is_plain, hints_of m form.Envelope attributes path refl known, tt, tree_written form.Envelope t nodes w, fine)
  element_in nodes p form.LeftOut attributes path n above rest plain children at known h = none (children plain p form.LeftOut [] n above rest at h)
    where
      none : ChildrenOf form.LeftOut [] nodes above rest → ElementOf form.LeftOut attributes nodes above rest
      none (ks, written, admitted, came, ends, bare, fine) = absurd cc
  element_in nodes p form.Missing attributes path n above rest plain children at known h = none (children plain p form.Missing [] n above rest at h)
    where
      none : ChildrenOf form.Missing [] nodes above rest → ElementOf form.Missing attributes nodes above rest
      none (ks, written, admitted, came, ends, bare, fine) = absurd cc

  -- an element of a slot begins
  abbrev pub StartedIn : (f : Form P Simple) (before : List ℕ) (n : Expanded) (attributes : List Entry) (above : List (Level P)) (items : List Item) → Comes f before n.local → Type 0
  StartedIn f before n attributes above items c =
      (path : List ℕ) × AttributeFault m (Some (m.forms c.1.target)) attributes path None × AreFine m (begun_level (m.forms c.1.target) ∷ Parent f (before ++ c.0 ∷ []) ∷ above) items

  start_in : (f : Form P Simple) (before : List ℕ) (n : Expanded) (attributes : List Entry) (above : List (Level P)) (items : List Item) → AreFine m (Parent f before ∷ above) (Starts n attributes ∷ items)
      → (n.namespace ≡ m.namespace) × ((c : Comes f before n.local) × StartedIn f before n attributes above items c)
  start_in f before n attributes above items h =
      let both : (place_fault m (Parent f before ∷ above) n ≡ None) × AttributeFault m (form_of_start m (Parent f before ∷ above) n) attributes (path_in (round_start (Parent f before ∷ above) n)) None = unless_in _ _ h.0 in
      let place : (bytes_eq n.namespace m.namespace ≡ true) × (next_fault (path_in above) f (next f before n.local) ≡ None) = if_else _ _ _ both.0 in
      ((bytes_eq-Decides n.namespace m.namespace).0 place.0, of_comes both.1 (comes (path_in above) f before n.local place.1))
    where
      of_comes : AttributeFault m (form_of_start m (Parent f before ∷ above) n) attributes (path_in (round_start (Parent f before ∷ above) n)) None → Comes f before n.local → (c : Comes f before n.local) × StartedIn f before n attributes above items c
      of_comes known (k, s, found, tag, fine, slotted) = ((k, s, found, tag, fine, slotted), (_, rw (slotted, found) at known, rw (slotted, found) at h.1))

  named_is : (n : Expanded) (a b : List ℕ) → n.namespace ≡ a → n.local ≡ b → n ≡ name_in_namespace a b
  named_is n a b p q = rw (← p, ← q) refl

  text_written : (f : Form P Simple) (ks : Children) (c : ℕ) (more : Nodes) → IsSpace c → WritesContent m.forms m.namespace f (value.Component ks) more → WritesContent m.forms m.namespace f (value.Component ks) (Text c more)
  text_written f Nothing c more s h = (s, h)
  text_written f (Child k v ks) c more s h = (s, h)

  children_in : (nodes : Nodes) → ChildrenIn nodes
  children_in tree.Nothing plain p f before n above rest at h = (Nothing, tt, tt, tt, rw append-nil (end_fine (path_in above) f (end_after f before) h.0), inr refl, h.1)
  children_in (Text c more) plain p f before n above rest at h = of_children (children_in more plain.1 p f before n above rest at h.1)
    where
      here : (is_bare f ≡ false) × (is_space c ≡ true)
      here = bare_in _ _ (space_in _ _ h.0)

      of_children : ChildrenOf f before more above rest → ChildrenOf f before (Text c more) above rest
      of_children (ks, written, admitted, came, ends, bare, fine) = (ks, text_written f ks c more (space_of c here.1) written, admitted, came, ends, inl here.0, fine)
  children_in (Element n attributes inner more) (_, _, within, behind) p f before k above rest at h =
      of_start (start_in f before n attributes above (flat_nodes inner ++ (Ends n ∷ (flat_nodes more ++ (Ends k ∷ rest)))) (rw (append_assoc (flat_nodes inner) (Ends n ∷ flat_nodes more) (Ends k ∷ rest)) at h))
      (children_in inner) (λ before. children_in more behind p f before k above rest at)
    where
      of_start : ((n.namespace ≡ m.namespace) × ((c : Comes f before n.local) × StartedIn f before n attributes above (flat_nodes inner ++ (Ends n ∷ (flat_nodes more ++ (Ends k ∷ rest)))) c))
          → ChildrenIn inner → ((before : List ℕ) → AreFine m (Parent f before ∷ above) (flat_nodes more ++ (Ends k ∷ rest)) → ChildrenOf f before more above rest) → ChildrenOf f before (Element n attributes inner more) above rest
      of_start (space, ((j, s, found, tag, fine, slotted), (path, known, clean))) inside later =
          of_element (element_in inner s.target (m.forms s.target) attributes path n (Parent f (before ++ j ∷ []) ∷ above) (flat_nodes more ++ (Ends k ∷ rest)) within inside refl known clean)
        where
          of_rest : (v : Value) → AdmitsAs m.forms (m.forms s.target) v → WritesAttributes m.forms (m.forms s.target) v attributes → MayHold (m.forms s.target) inner → WritesContent m.forms m.namespace (m.forms s.target) v inner
              → ChildrenOf f (before ++ j ∷ []) more above rest → ChildrenOf f before (Element n attributes inner more) above rest
          of_rest v admits attributes_are holds content (ks, written, admitted, came, ends, bare, rest_fine) = (
            Child j v ks,
            ((s, found, (named_is n m.namespace s.tag space (sym tag), attributes_are, holds, content)), written),
            ((s, found, admits), admitted),
            ((s, found, fine), came),
            rw append_assoc at ends,
            inl (not_bare f j s found),
            rest_fine,
          )

          of_element : ElementOf (m.forms s.target) attributes inner (Parent f (before ++ j ∷ []) ∷ above) (flat_nodes more ++ (Ends k ∷ rest)) → ChildrenOf f before (Element n attributes inner more) above rest
          of_element (v, admits, attributes_are, holds, content, clean') = of_rest v admits attributes_are holds content (later (before ++ j ∷ []) clean')

  -- the root, before which nothing stands
  pub root_in : (t : Tree) → IsPlain t → AreFine m [] (flat t) → (v : Value) × IsInstance m v t
  root_in t plain h = of_start (unless_in _ _ h.0) h.1
    where
      if_named : (b : Bool) (x : Broken) → cond b None (Some x) ≡ None → b ≡ true
      if_named true x e = refl
      if_named false x e = no_fault x e

      of_element : t.name ≡ name_in_namespace m.namespace (codes "Document") → ElementOf (m.forms m.root) t.attributes t.children [] [] → (v : Value) × IsInstance m v t
      of_element e (v, admits, attributes_are, holds, content, fine) = (v, record { admitted = admits; written = record { name = e; attributes = attributes_are; holds = holds; content = content } })

      of_start : ((place_fault m [] t.name ≡ None) × AttributeFault m (Some (m.forms m.root)) t.attributes (codes "/Document[1]") None) → AreFine m (begun_level (m.forms m.root) ∷ []) (flat_nodes t.children ++ Ends t.name ∷ []) → (v : Value) × IsInstance m v t
      of_start (place, known) fine =
          of_element (name_in t.name _ (if_named _ _ place))
          (element_in t.children m.root (m.forms m.root) t.attributes (codes "/Document[1]") t.name [] [] plain.children (children_in t.children) refl known fine)
