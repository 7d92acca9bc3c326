-- The events of a tree that writes an admitted value show its pieces.
use Rattle.std.proofs.Common.{subst, ◌≡◌, ℕ, zero, suc, true, false, arith, length, List, [], ◌∷◌, ◌++◌, Some, refl, sym, ap, ◌∙◌, append_assoc, append-nil}
use Rattle.std.specs.Prelude.{slice_get, Result, Ok}
use Rattle.std.specs.Str.{chars}
use Rattle.std.proofs.lemmas.Option.{same_Some}
use Rattle.lexical_core.specs.Tree.{Expanded, Entry, Nodes, Element, Text, Tree, Item, Starts, Char, Ends, Skipped, flat, flat_nodes, tree_items}
use Rattle.lexical_core.specs.Tree as tree
use Rattle.lexical_core.specs.declared.rule.Rule.{Rule}
use Rattle.data_types.specs.Value.{Value, Children, Nothing, Child, Edge, Piece, Begins, Holds, Ends as EndsPiece}
use Rattle.data_types.specs.Value as value
use Rattle.data_types.specs.Leaf as leaf
use Rattle.facets.specs.LeafUnder.{GivesLeaf, HasSortedCodes, LeafUnder}
use Rattle.facets.specs.declared.simple.Simple.{Simple}
use Rattle.fragments.specs.Fragment.{fragment}
use Rattle.reference_check.specs.Forms.{Graph, Form, Slot, form_slots, text_type}
use Rattle.reference_check.specs.Forms as form
use Rattle.reference_check.specs.Words.{IsWordOf}
use Rattle.reference_check.specs.Steps.{Slotted, next}
use Rattle.message_model.specs.Admits.{AdmitsAs, AdmitsChildren, numbers_of}
use Rattle.message_model.specs.Tables.{Tables, types_of, message_of, pieces, child_pieces, pieces_of}
use Rattle.message_model.specs.Writes.{SpellsCode, WritesAttributes, text_nodes, SpellsText, IsBlank, Wraps, WritesContent, WritesLeaf}
use Rattle.message_model.specs.Sound.{SoundFormsAgree}
use Rattle.xml_instances.specs.SpellsXml.{IsInstance}
use Rattle.xml_instances.specs.XmlFaults.{items}
use Rattle.xml_instances.specs.Laws.{PiecesAreShown}
use Rattle.xml_instances.specs.Levels.{Level, Parent, Leaf, Envelope, Foreign, begun_level, with_char}
use Rattle.xml_instances.specs.Built.{Shown, nothing_shown, type_at, with_begun, with_leaf, close_shown, with_inside, without_inside, with_event, CodeShown, EventsShow}
use Rattle.xml_instances.specs.Keeping.{with_all_inside}
use Rattle.xml_instances.proofs.Runs.{IsSteady, next_slotted}
use Rattle.xml_instances.proofs.Counted.{round_length}

-- ---- more pieces, and more events of an envelope's element

abbrev with_pieces : List Piece → Shown → Shown
with_pieces ps s = record { edges = s.edges; inside = s.inside; pieces = s.pieces ++ ps }

abbrev shown : List Edge → List Item → List Piece → Shown
shown edges inside ps = record { edges = edges; inside = inside; pieces = ps }

no_pieces : (s : Shown) → with_pieces [] s ≡ s
no_pieces s = ap (λ (ps : List Piece). shown s.edges s.inside ps) (append-nil s.pieces)

no_items : (s : Shown) → with_all_inside [] s ≡ s
no_items s = ap (λ (is : List Item). shown s.edges is s.pieces) (append-nil s.inside)

pieces_then : (a b : List Piece) (s : Shown) → with_pieces b (with_pieces a s) ≡ with_pieces (a ++ b) s
pieces_then a b s = ap (λ (ps : List Piece). shown s.edges s.inside ps) (append_assoc s.pieces a b)

items_then : (a b : List Item) (s : Shown) → with_all_inside b (with_all_inside a s) ≡ with_all_inside (a ++ b) s
items_then a b s = ap (λ (is : List Item). shown s.edges is s.pieces) (append_assoc s.inside a b)

one_inside : (item : Item) (s u : Shown) → u ≡ with_inside item s → u ≡ with_all_inside (item ∷ []) s
one_inside item s u e = e

-- ---- the pieces of a value: the code of an amount comes with the element's start, and what is left before its end

abbrev code_of : Value → List Piece
code_of (value.Amount l n) = Holds l ∷ []
code_of v = []

abbrev left_of : Graph ℕ Simple → ℕ → Value → List Piece
left_of g n (value.Component ks) = child_pieces fragment g n ks
left_of g n (value.Simple l) = Holds l ∷ []
left_of g n (value.Amount l k) = Holds (leaf.Number k) ∷ []
left_of g n (value.External t) = Holds (leaf.Bytes (fragment t)) ∷ []

in_two : (g : Graph ℕ Simple) (n : ℕ) (v : Value) → code_of v ++ left_of g n v ≡ pieces fragment g n v
in_two g n (value.Component ks) = refl
in_two g n (value.Simple l) = refl
in_two g n (value.Amount l k) = refl
in_two g n (value.External t) = refl

module _ (T : Tables) (steady : IsSteady (types_of T)) (sorted : (p : ℕ) (simple : Simple) → text_type (types_of T p) ≡ Some simple → HasSortedCodes simple)
    (one : (simple : Simple) (text : List ℕ) (a b : leaf.Leaf) → HasSortedCodes simple → GivesLeaf simple text a → GivesLeaf simple text b → a ≡ b) where
  -- what is shown from a state is shown from an equal one
  from : (ls : List (Level ℕ)) (items : List Item) (r s t : Shown) → r ≡ s → EventsShow T ls items r t → EventsShow T ls items s t
  from ls items r s t e h = subst (λ (x : Shown). EventsShow T ls items x t) e h

  -- ---- envelopes

  foreign_shown : (nodes : Nodes) (above : List (Level ℕ)) (rest : List Item) (s t : Shown) → EventsShow T (Foreign ∷ above) (flat_nodes nodes ++ rest) s t → EventsShow T (Foreign ∷ above) rest (with_all_inside (flat_nodes nodes) s) t
  foreign_shown tree.Nothing above rest s t h = from (Foreign ∷ above) rest s (with_all_inside [] s) t (sym (no_items s)) h
  foreign_shown (Text c more) above rest s t (u, e, k) =
      from (Foreign ∷ above) rest (with_all_inside (flat_nodes more) u) (with_all_inside (Char c ∷ flat_nodes more) s) t (ap (with_all_inside (flat_nodes more)) (one_inside (Char c) s u e) ∙ items_then (Char c ∷ []) (flat_nodes more) s)
      (foreign_shown more above rest u t k)
  foreign_shown (Element n attributes inner more) above rest s t (u, (y, i, same), k) =
      of_end (foreign_shown inner (Foreign ∷ above) (Ends n ∷ (flat_nodes more ++ rest)) u t (rw (append_assoc (flat_nodes inner) (Ends n ∷ flat_nodes more) rest) at k)) (λ w r. foreign_shown more above rest w t r)
    where
      all_items : (w : Shown) → w ≡ with_inside (Ends n) (with_all_inside (flat_nodes inner) u) → with_all_inside (flat_nodes more) w ≡ with_all_inside (Starts n attributes ∷ (flat_nodes inner ++ (Ends n ∷ flat_nodes more))) s
      all_items w f =
          ap (with_all_inside (flat_nodes more)) (one_inside (Ends n) (with_all_inside (flat_nodes inner) u) w f)
          ∙ (items_then (Ends n ∷ []) (flat_nodes more) (with_all_inside (flat_nodes inner) u)
          ∙ (items_then (flat_nodes inner) (Ends n ∷ flat_nodes more) u
          ∙ (ap (with_all_inside (flat_nodes inner ++ (Ends n ∷ flat_nodes more))) (one_inside (Starts n attributes) s u (same ∙ i)) ∙ items_then (Starts n attributes ∷ []) (flat_nodes inner ++ (Ends n ∷ flat_nodes more)) s)))

      of_end : EventsShow T (Foreign ∷ Foreign ∷ above) (Ends n ∷ (flat_nodes more ++ rest)) (with_all_inside (flat_nodes inner) u) t
          → ((w : Shown) → EventsShow T (Foreign ∷ above) (flat_nodes more ++ rest) w t → EventsShow T (Foreign ∷ above) rest (with_all_inside (flat_nodes more) w) t) → EventsShow T (Foreign ∷ above) rest (with_all_inside (Starts n attributes ∷ (flat_nodes inner ++ (Ends n ∷ flat_nodes more))) s) t
      of_end (w, (x, f, q), r) later = from (Foreign ∷ above) rest (with_all_inside (flat_nodes more) w) (with_all_inside (Starts n attributes ∷ (flat_nodes inner ++ (Ends n ∷ flat_nodes more))) s) t (all_items w (q ∙ f)) (later w r)

  blank_shown : (nodes : Nodes) (above : List (Level ℕ)) (rest : List Item) (s t : Shown) → IsBlank nodes → EventsShow T (Envelope true ∷ above) (flat_nodes nodes ++ rest) s t → EventsShow T (Envelope true ∷ above) rest s t
  blank_shown tree.Nothing above rest s t b h = h
  blank_shown (Text c more) above rest s t b (u, e, k) = from (Envelope true ∷ above) rest u s t e (blank_shown more above rest u t b.1 k)
  blank_shown (Element n attributes inner more) above rest s t b h = absurd b

  wraps_shown : (tr : Tree) (nodes : Nodes) (above : List (Level ℕ)) (rest : List Item) (s t : Shown) → Wraps tr nodes → EventsShow T (Envelope false ∷ above) (flat_nodes nodes ++ rest) s t → EventsShow T (Envelope true ∷ above) rest (with_all_inside (flat tr) s) t
  wraps_shown tr tree.Nothing above rest s t w h = absurd w
  wraps_shown tr (Text c more) above rest s t w (u, e, k) = from (Envelope true ∷ above) rest (with_all_inside (flat tr) u) (with_all_inside (flat tr) s) t (ap (with_all_inside (flat tr)) e) (wraps_shown tr more above rest u t w.1 k)
  wraps_shown tr (Element n attributes inner more) above rest s t (is, blank) (u, (y, i, same), k) =
      of_end (foreign_shown inner (Envelope true ∷ above) (Ends n ∷ (flat_nodes more ++ rest)) u t (rw (append_assoc (flat_nodes inner) (Ends n ∷ flat_nodes more) rest) at k))
    where
      all_items : (w : Shown) → w ≡ with_inside (Ends n) (with_all_inside (flat_nodes inner) u) → w ≡ with_all_inside (flat tr) s
      all_items w f =
          one_inside (Ends n) (with_all_inside (flat_nodes inner) u) w f
          ∙ (items_then (flat_nodes inner) (Ends n ∷ []) u
          ∙ (ap (with_all_inside (flat_nodes inner ++ (Ends n ∷ []))) (one_inside (Starts n attributes) s u (same ∙ i)) ∙ (items_then (Starts n attributes ∷ []) (flat_nodes inner ++ (Ends n ∷ [])) s ∙ ap (λ (x : Tree). with_all_inside (flat x) s) (sym is))))

      of_end : EventsShow T (Foreign ∷ Envelope true ∷ above) (Ends n ∷ (flat_nodes more ++ rest)) (with_all_inside (flat_nodes inner) u) t → EventsShow T (Envelope true ∷ above) rest (with_all_inside (flat tr) s) t
      of_end (w, (x, f, q), r) = from (Envelope true ∷ above) rest w (with_all_inside (flat tr) s) t (all_items w (q ∙ f)) (blank_shown more above rest w t blank r)

  -- ---- texts

  text_shown : (simple : Simple) (v w : List ℕ) (above : List (Level ℕ)) (rest : List Item) (s t : Shown) → EventsShow T (Leaf simple v ∷ above) (flat_nodes (text_nodes w) ++ rest) s t → EventsShow T (Leaf simple (v ++ w) ∷ above) rest s t
  text_shown simple v [] above rest s t h = subst (λ (x : List ℕ). EventsShow T (Leaf simple x ∷ above) rest s t) (sym (append-nil v)) h
  text_shown simple v (c ∷ w) above rest s t (u, e, k) =
      subst (λ (x : List ℕ). EventsShow T (Leaf simple x ∷ above) rest s t) (append_assoc v (c ∷ []) w) (from (Leaf simple ((v ++ c ∷ []) ++ w) ∷ above) rest u s t e (text_shown simple (v ++ c ∷ []) w above rest u t k))

  -- an element with a text ends
  leaf_shown : (p : ℕ) (simple : Simple) (l : leaf.Leaf) (nodes : Nodes) (n : Expanded) (above : List (Level ℕ)) (rest : List Item) (s t : Shown) → text_type (types_of T p) ≡ Some simple → SpellsText simple l nodes
      → EventsShow T (Leaf simple [] ∷ above) (flat_nodes nodes ++ (Ends n ∷ rest)) s t → EventsShow T above rest (close_shown (with_pieces (Holds l ∷ []) s)) t
  leaf_shown p simple l nodes n above rest s t at (w, is, gives) h =
      of_end (text_shown simple [] w above (Ends n ∷ rest) s t (subst (λ (x : Nodes). EventsShow T (Leaf simple [] ∷ above) (flat_nodes x ++ (Ends n ∷ rest)) s t) is h))
    where
      of_end : EventsShow T (Leaf simple w ∷ above) (Ends n ∷ rest) s t → EventsShow T above rest (close_shown (with_pieces (Holds l ∷ []) s)) t
      of_end (x, (u, (k, same, e), q), r) =
          from above rest x (close_shown (with_pieces (Holds l ∷ []) s)) t (q ∙ ap close_shown (e ∙ ap (λ (y : leaf.Leaf). with_leaf y s) (one simple w k l (sorted p simple at) same gives))) r

  -- ---- envelopes that end

  envelope_shown : (tr : Tree) (nodes : Nodes) (n : Expanded) (above : List (Level ℕ)) (rest : List Item) (s t : Shown) → s.inside ≡ [] → Wraps tr nodes
      → EventsShow T (Envelope false ∷ above) (flat_nodes nodes ++ (Ends n ∷ rest)) s t → EventsShow T above rest (close_shown (with_pieces (Holds (leaf.Bytes (fragment tr)) ∷ []) s)) t
  envelope_shown tr nodes n above rest s t empty w h = of_end (wraps_shown tr nodes above (Ends n ∷ rest) s t w h)
    where
      kept : (with_all_inside (flat tr) s).inside ≡ flat tr
      kept = ap (λ (is : List Item). is ++ flat tr) empty

      emptied : (bytes : List ℕ) → bytes ≡ fragment tr → without_inside (with_leaf (leaf.Bytes bytes) (with_all_inside (flat tr) s)) ≡ with_pieces (Holds (leaf.Bytes (fragment tr)) ∷ []) s
      emptied bytes is = ap (λ (b : List ℕ). shown s.edges [] (s.pieces ++ Holds (leaf.Bytes b) ∷ [])) is ∙ ap (λ (e : List Item). shown s.edges e (s.pieces ++ Holds (leaf.Bytes (fragment tr)) ∷ [])) (sym empty)

      of_end : EventsShow T (Envelope true ∷ above) (Ends n ∷ rest) (with_all_inside (flat tr) s) t → EventsShow T above rest (close_shown (with_pieces (Holds (leaf.Bytes (fragment tr)) ∷ []) s)) t
      of_end (x, (u, (bytes, is, e), q), r) = from above rest x (close_shown (with_pieces (Holds (leaf.Bytes (fragment tr)) ∷ []) s)) t (q ∙ ap close_shown (e ∙ emptied bytes (is tr kept))) r

  -- ---- amounts: the code

  code_one : (p : ℕ) (f : Form ℕ Simple) (text : List ℕ) (a b : leaf.Leaf) → types_of T p ≡ f → SpellsCode f text a → SpellsCode f text b → a ≡ b
  code_one p (form.Simple simple) text a b at h k = one simple text a b (sorted p simple (ap text_type at)) h k
  code_one p f text a b at h k = absurd h

  code_shown : (f : Form ℕ Simple) (v : Value) (attributes : List Entry) (s t : Shown) → AdmitsAs (types_of T) f v → WritesAttributes (types_of T) f v attributes → CodeShown T (Some f) attributes s t → t ≡ with_pieces (code_of v) s
  code_shown (form.Money code number) (value.Amount l k) attributes s t admits (w, (found, known), spelled) (x, b, at, spells, e) =
      (let same : x ≡ w = same_Some x w (sym at ∙ found) in
      let leaves : b ≡ l = code_one code (types_of T code) (chars w) b l refl (subst (λ (y : List ℕ). SpellsCode (types_of T code) (chars y) b) same spells) spelled in
      e ∙ ap (λ (y : leaf.Leaf). with_leaf y s) leaves)
  code_shown (form.Money code number) (value.Component ks) attributes s t admits written h = absurd admits
  code_shown (form.Money code number) (value.Simple l) attributes s t admits written h = absurd admits
  code_shown (form.Money code number) (value.External tr) attributes s t admits written h = absurd admits
  code_shown (form.Sequence fs) (value.Component ks) attributes s t admits written h = h ∙ sym (no_pieces s)
  code_shown (form.Choice fs) (value.Component ks) attributes s t admits written h = h ∙ sym (no_pieces s)
  code_shown (form.Simple simple) (value.Simple l) attributes s t admits written h = h ∙ sym (no_pieces s)
  code_shown form.Envelope (value.External tr) attributes s t admits written h = h ∙ sym (no_pieces s)
  code_shown f v attributes s t admits written h = absurd admits

  -- ---- elements with elements

  -- the children that are still to come, behind those before
  abbrev ChildrenShown : Nodes → Type 0
  ChildrenShown nodes =
      (n : ℕ) (f : Form ℕ Simple) (before : List ℕ) (ks : Children) (above : List (Level ℕ)) (rest : List Item) (s t : Shown) → types_of T n ≡ f → type_at s.edges ≡ n → s.inside ≡ []
      → IsWordOf f (before ++ numbers_of ks) → AdmitsChildren (types_of T) (form_slots f) ks → WritesContent (types_of T) (message_of T).namespace f (value.Component ks) nodes
      → EventsShow T (Parent f before ∷ above) (flat_nodes nodes ++ rest) s t → EventsShow T (Parent f (before ++ numbers_of ks) ∷ above) rest (with_pieces (child_pieces fragment (types_of T) n ks) s) t

  parent_ends : (n : ℕ) (f : Form ℕ Simple) (ks : Children) (name : Expanded) (above : List (Level ℕ)) (rest : List Item) (s t : Shown)
      → EventsShow T (Parent f (numbers_of ks) ∷ above) (Ends name ∷ rest) (with_pieces (child_pieces fragment (types_of T) n ks) s) t → EventsShow T above rest (close_shown (with_pieces (child_pieces fragment (types_of T) n ks) s)) t
  parent_ends n f ks name above rest s t (x, (u, e, q), r) = from above rest x (close_shown (with_pieces (child_pieces fragment (types_of T) n ks) s)) t (q ∙ ap close_shown e) r

  leaf_content : (f : Form ℕ Simple) (l : leaf.Leaf) (nodes : Nodes) → WritesContent (types_of T) (message_of T).namespace f (value.Simple l) nodes → WritesLeaf f (value.Simple l) nodes
  leaf_content f l nodes h = h

  amount_content : (f : Form ℕ Simple) (l : leaf.Leaf) (k : _) (nodes : Nodes) → WritesContent (types_of T) (message_of T).namespace f (value.Amount l k) nodes → WritesLeaf f (value.Amount l k) nodes
  amount_content f l k nodes h = h

  tree_content : (f : Form ℕ Simple) (tr : Tree) (nodes : Nodes) → WritesContent (types_of T) (message_of T).namespace f (value.External tr) nodes → WritesLeaf f (value.External tr) nodes
  tree_content f tr nodes h = h

  -- the content of an element and its end
  element_shown : (nodes : Nodes) (n : ℕ) (f : Form ℕ Simple) (v : Value) (name : Expanded) (above : List (Level ℕ)) (rest : List Item) (s t : Shown) → ChildrenShown nodes → types_of T n ≡ f → type_at s.edges ≡ n → s.inside ≡ []
      → AdmitsAs (types_of T) f v → WritesContent (types_of T) (message_of T).namespace f v nodes → EventsShow T (begun_level f ∷ above) (flat_nodes nodes ++ (Ends name ∷ rest)) s t → EventsShow T above rest (close_shown (with_pieces (left_of (types_of T) n v) s)) t
  element_shown nodes n (form.Sequence fs) (value.Component ks) name above rest s t children at type empty (word, admitted) written h =
      parent_ends n (form.Sequence fs) ks name above rest s t (children n (form.Sequence fs) [] ks above (Ends name ∷ rest) s t at type empty word admitted written h)
  element_shown nodes n (form.Choice fs) (value.Component ks) name above rest s t children at type empty (word, admitted) written h =
      parent_ends n (form.Choice fs) ks name above rest s t (children n (form.Choice fs) [] ks above (Ends name ∷ rest) s t at type empty word admitted written h)
  element_shown nodes n (form.Simple simple) (value.Simple l) name above rest s t children at type empty a written h = leaf_shown n simple l nodes name above rest s t (ap text_type at) (leaf_content (form.Simple simple) l nodes written) h
  element_shown nodes n (form.Money c simple) (value.Amount l k) name above rest s t children at type empty a written h =
      leaf_shown n simple (leaf.Number k) nodes name above rest s t (ap text_type at) (amount_content (form.Money c simple) l k nodes written) h
  element_shown nodes n form.Envelope (value.External tr) name above rest s t children at type empty a written h = envelope_shown tr nodes name above rest s t empty (tree_content form.Envelope tr nodes written) h
  element_shown nodes n f v name above rest s t children at type empty a written h = absurd a

  text_content : (f : Form ℕ Simple) (ks : Children) (c : ℕ) (more : Nodes) → WritesContent (types_of T) (message_of T).namespace f (value.Component ks) (Text c more) → WritesContent (types_of T) (message_of T).namespace f (value.Component ks) more
  text_content f Nothing c more h = h.1
  text_content f (Child k v ks) c more h = h.1

  abbrev edge_of : ℕ → ℕ → Slot ℕ → Edge
  edge_of n k slot = record { slot = k; target = slot.target; parent = n }

  -- one child, and those behind it
  one_child : (n k : ℕ) (f : Form ℕ Simple) (slot : Slot ℕ) (v : Value) (ks : Children) → types_of T n ≡ f → slice_get (form_slots f) k ≡ Some slot
      → child_pieces fragment (types_of T) n (Child k v ks) ≡ Begins (edge_of n k slot) ∷ (pieces fragment (types_of T) slot.target v ++ (EndsPiece (edge_of n k slot) ∷ child_pieces fragment (types_of T) n ks))
  one_child n k f slot v ks at found = (let there : slice_get (form_slots (types_of T n)) k ≡ Some slot = ap (λ (x : Form ℕ Simple). slice_get (form_slots x) k) at ∙ found in rw there refl)

  -- an element of a slot starts
  started : (n k : ℕ) (f : Form ℕ Simple) (before : List ℕ) (slot : Slot ℕ) (name : Expanded) (attributes : List Entry) (above : List (Level ℕ)) (items : List Item) (s t : Shown)
      → type_at s.edges ≡ n → next f before name.local ≡ Slotted k → slice_get (form_slots f) k ≡ Some slot → EventsShow T (Parent f before ∷ above) (Starts name attributes ∷ items) s t
      → (u : Shown) × CodeShown T (Some (types_of T slot.target)) attributes (with_begun (Some (edge_of n k slot)) s) u × EventsShow T (begun_level (types_of T slot.target) ∷ Parent f (before ++ k ∷ []) ∷ above) items u t
  started n k f before slot name attributes above items s t type slotted found (u, (y, i, c), r) =
      (u, of_code (rw (type, slotted, found) at i) (rw (slotted, found) at c), rw (slotted, found) at r)
    where
      of_code : y ≡ with_begun (Some (record { slot = k; target = slot.target; parent = n })) s → CodeShown T (Some (types_of T slot.target)) attributes y u
          → CodeShown T (Some (types_of T slot.target)) attributes (with_begun (Some (record { slot = k; target = slot.target; parent = n })) s) u
      of_code e h = subst (λ (x : Shown). CodeShown T (Some (types_of T slot.target)) attributes x u) e h

  begun_type : (s : Shown) (n k : ℕ) (slot : Slot ℕ) (v : Value) → type_at (with_pieces (code_of v) (with_begun (Some (edge_of n k slot)) s)).edges ≡ slot.target
  begun_type s n k slot v = refl

  empty_type : (s : Shown) (n k : ℕ) (slot : Slot ℕ) (v : Value) → s.inside ≡ [] → (with_pieces (code_of v) (with_begun (Some (edge_of n k slot)) s)).inside ≡ []
  empty_type s n k slot v empty = empty

  -- what is shown behind a child
  abbrev behind_child : ℕ → ℕ → Slot ℕ → Value → Shown → Shown
  behind_child n k slot v s = with_pieces (Begins (edge_of n k slot) ∷ (pieces fragment (types_of T) slot.target v ++ (EndsPiece (edge_of n k slot) ∷ []))) s

  children_shown : (nodes : Nodes) → ChildrenShown nodes
  children_shown tree.Nothing n f before Nothing above rest s t at type empty word admitted written h =
      subst (λ (d : List ℕ). EventsShow T (Parent f d ∷ above) rest (with_pieces [] s) t) (sym (append-nil before)) (from (Parent f before ∷ above) rest s (with_pieces [] s) t (sym (no_pieces s)) h)
  children_shown tree.Nothing n f before (Child k v ks) above rest s t at type empty word admitted written h = absurd written
  children_shown (Text c more) n f before ks above rest s t at type empty word admitted written (u, e, r) =
      children_shown more n f before ks above rest s t at type empty word admitted (text_content f ks c more written) (from (Parent f before ∷ above) (flat_nodes more ++ rest) u s t e r)
  children_shown (Element name attributes inner more) n f before Nothing above rest s t at type empty word admitted written h = absurd written
  children_shown (Element name attributes inner more) n f before (Child k v ks) above rest s t at type empty word ((slot, found, admits), admitted) ((other, found', (name_is, attributes_are, holds, content)), written) h =
      of_start (started n k f before slot name attributes above (flat_nodes inner ++ (Ends name ∷ (flat_nodes more ++ rest))) s t type slotted found (rw (append_assoc (flat_nodes inner) (Ends name ∷ flat_nodes more) rest) at h))
      (children_shown inner) (λ x y z q. children_shown more n f (before ++ k ∷ []) ks above rest x t at y z (rw append_assoc word) admitted written q)
    where
      same : other ≡ slot
      same = same_Some other slot (sym found' ∙ found)

      slotted : next f before name.local ≡ Slotted k
      slotted = ap (λ (x : Expanded). next f before x.local) name_is ∙ (ap (λ (x : Slot ℕ). next f before x.tag) same ∙ next_slotted (message_of T) steady n f before (numbers_of ks) k slot at found word)

      code : (u : Shown) → CodeShown T (Some (types_of T slot.target)) attributes (with_begun (Some (edge_of n k slot)) s) u → u ≡ with_pieces (code_of v) (with_begun (Some (edge_of n k slot)) s)
      code u c = code_shown (types_of T slot.target) v attributes _ u admits (subst (λ (x : Slot ℕ). WritesAttributes (types_of T) (types_of T x.target) v attributes) same attributes_are) c

      rest_of : (x : Shown) → x ≡ (behind_child n k slot v s) → (type_at x.edges ≡ n) × (x.inside ≡ [])
      rest_of x e = (ap (λ (y : Shown). type_at y.edges) e ∙ type, ap (λ (y : Shown). y.inside) e ∙ empty)

      grouped : (a b c d : List Piece) → ((a ++ b) ++ c) ++ d ≡ a ++ (b ++ (c ++ d))
      grouped a b c d = append_assoc (a ++ b) c d ∙ append_assoc a b (c ++ d)

      child_is : close_shown (with_pieces (left_of (types_of T) slot.target v) (with_pieces (code_of v) (with_begun (Some (edge_of n k slot)) s))) ≡ (behind_child n k slot v s)
      child_is =
          let e : Edge = edge_of n k slot in
          ap (λ (ps : List Piece). shown s.edges s.inside ps)
          (grouped (s.pieces ++ Begins e ∷ []) (code_of v) (left_of (types_of T) slot.target v) (EndsPiece e ∷ [])
          ∙ (append_assoc s.pieces (Begins e ∷ []) (code_of v ++ (left_of (types_of T) slot.target v ++ EndsPiece e ∷ []))
          ∙ ap (λ (ps : List Piece). s.pieces ++ Begins e ∷ ps) (sym (append_assoc (code_of v) (left_of (types_of T) slot.target v) (EndsPiece e ∷ [])) ∙ ap (λ (ps : List Piece). ps ++ EndsPiece e ∷ []) (in_two (types_of T) slot.target v))))

      all_children : with_pieces (child_pieces fragment (types_of T) n ks) (behind_child n k slot v s) ≡ with_pieces (child_pieces fragment (types_of T) n (Child k v ks)) s
      all_children =
          let e : Edge = edge_of n k slot in
          pieces_then (Begins e ∷ (pieces fragment (types_of T) slot.target v ++ (EndsPiece e ∷ []))) (child_pieces fragment (types_of T) n ks) s
          ∙ ap (λ (ps : List Piece). with_pieces ps s) (ap (λ (ps : List Piece). Begins e ∷ ps) (append_assoc (pieces fragment (types_of T) slot.target v) (EndsPiece e ∷ []) (child_pieces fragment (types_of T) n ks)) ∙ sym (one_child n k f slot v ks at found))

      of_rest : EventsShow T (Parent f ((before ++ k ∷ []) ++ numbers_of ks) ∷ above) rest (with_pieces (child_pieces fragment (types_of T) n ks) (behind_child n k slot v s)) t
          → EventsShow T (Parent f (before ++ k ∷ numbers_of ks) ∷ above) rest (with_pieces (child_pieces fragment (types_of T) n (Child k v ks)) s) t
      of_rest q =
          subst (λ (d : List ℕ). EventsShow T (Parent f d ∷ above) rest (with_pieces (child_pieces fragment (types_of T) n (Child k v ks)) s) t) (append_assoc before (k ∷ []) (numbers_of ks))
          (from (Parent f ((before ++ k ∷ []) ++ numbers_of ks) ∷ above) rest (with_pieces (child_pieces fragment (types_of T) n ks) (behind_child n k slot v s)) (with_pieces (child_pieces fragment (types_of T) n (Child k v ks)) s) t all_children q)

      of_start : ((u : Shown) × CodeShown T (Some (types_of T slot.target)) attributes (with_begun (Some (edge_of n k slot)) s) u
          × EventsShow T (begun_level (types_of T slot.target) ∷ Parent f (before ++ k ∷ []) ∷ above) (flat_nodes inner ++ (Ends name ∷ (flat_nodes more ++ rest))) u t)
          → ChildrenShown inner
          → ((x : Shown) → type_at x.edges ≡ n → x.inside ≡ [] → EventsShow T (Parent f (before ++ k ∷ []) ∷ above) (flat_nodes more ++ rest) x t → EventsShow T (Parent f ((before ++ k ∷ []) ++ numbers_of ks) ∷ above) rest (with_pieces (child_pieces fragment (types_of T) n ks) x) t)
          → EventsShow T (Parent f (before ++ k ∷ numbers_of ks) ∷ above) rest (with_pieces (child_pieces fragment (types_of T) n (Child k v ks)) s) t
      of_start (u, c, r) inside later =
          let begun_at : Shown = with_pieces (code_of v) (with_begun (Some (edge_of n k slot)) s) in
          let ended : EventsShow T (Parent f (before ++ k ∷ []) ∷ above) (flat_nodes more ++ rest) (close_shown (with_pieces (left_of (types_of T) slot.target v) begun_at)) t =
          element_shown inner slot.target (types_of T slot.target) v name (Parent f (before ++ k ∷ []) ∷ above) (flat_nodes more ++ rest) begun_at t inside refl (begun_type s n k slot v) (empty_type s n k slot v empty) admits
          (subst (λ (x : Slot ℕ). WritesContent (types_of T) (message_of T).namespace (types_of T x.target) v inner) same content)
          (from (begun_level (types_of T slot.target) ∷ Parent f (before ++ k ∷ []) ∷ above) (flat_nodes inner ++ (Ends name ∷ (flat_nodes more ++ rest))) u begun_at t (code u c) r) in
          of_rest (later (behind_child n k slot v s) (rest_of (behind_child n k slot v s) refl).0 (rest_of (behind_child n k slot v s) refl).1 (from (Parent f (before ++ k ∷ []) ∷ above) (flat_nodes more ++ rest) (close_shown (with_pieces (left_of (types_of T) slot.target v) begun_at)) (behind_child n k slot v s) t child_is ended))

  -- ---- the root

  pub root_shown : (tr : Tree) (v : Value) (t : Shown) → IsInstance (message_of T) v tr → EventsShow T [] (flat tr) nothing_shown t → t.pieces ≡ pieces_of fragment T v
  root_shown tr v t i (u, (y, e, c), r) =
      at_end (element_shown tr.children 0 (types_of T 0) v tr.name [] [] (with_pieces (code_of v) nothing_shown) t (children_shown tr.children) refl refl refl i.admitted i.written.content
      (from (begun_level (types_of T 0) ∷ []) (flat_nodes tr.children ++ (Ends tr.name ∷ [])) u (with_pieces (code_of v) nothing_shown) t (code_shown (types_of T 0) v tr.attributes nothing_shown u i.admitted i.written.attributes (subst (λ (x : Shown). CodeShown T (Some (types_of T 0)) tr.attributes x u) e c)) r))
    where
      at_end : t ≡ close_shown (with_pieces (left_of (types_of T) 0 v) (with_pieces (code_of v) nothing_shown)) → t.pieces ≡ pieces_of fragment T v
      at_end e = ap (λ (x : Shown). x.pieces) e ∙ in_two (types_of T) 0 v

-- ---- whole inputs

module _ (T : Tables) where
  skipped_same : (l : Level ℕ) (ls : List (Level ℕ)) (s : Shown) → with_event (l ∷ ls) Skipped s ≡ s
  skipped_same (Parent f d) ls s = refl
  skipped_same (Leaf simple w) ls s = refl
  skipped_same (Envelope b) ls s = refl
  skipped_same Foreign ls s = refl

  -- skipped events and characters outside the root show nothing
  shown_counted : (n : ℕ) (ls : List (Level ℕ)) (items : List Item) (s t : Shown) → length ls ≡ n → EventsShow T ls items s t → EventsShow T ls (tree_items n items) s t
  shown_counted n ls [] s t e h = h
  shown_counted n ls (Starts k a ∷ items) s t e (u, x, r) = (u, x, shown_counted (suc n) _ items u t (ap suc (round_length (message_of T) ls k ∙ e)) r)
  shown_counted zero [] (Char c ∷ items) s t e (u, x, r) = shown_counted zero [] items s t e (subst (λ (y : Shown). EventsShow T [] items y t) x r)
  shown_counted zero (l ∷ ls) (Char c ∷ items) s t e h = absurd cc
  shown_counted (suc n) [] (Char c ∷ items) s t e h = absurd cc
  shown_counted (suc n) (l ∷ ls) (Char c ∷ items) s t e (u, x, r) = (u, x, shown_counted (suc n) (with_char l c ∷ ls) items u t e r)
  shown_counted zero [] (Ends k ∷ items) s t e (u, x, r) = (u, x, shown_counted zero [] items u t e r)
  shown_counted zero (l ∷ ls) (Ends k ∷ items) s t e h = absurd cc
  shown_counted (suc n) [] (Ends k ∷ items) s t e h = absurd cc
  shown_counted (suc n) (l ∷ ls) (Ends k ∷ items) s t e (u, x, r) = (u, x, shown_counted n ls items u t (omega (arith, e)) r)
  shown_counted n [] (Skipped ∷ items) s t e (u, x, r) = shown_counted n [] items s t e (subst (λ (y : Shown). EventsShow T [] items y t) x r)
  shown_counted n (l ∷ ls) (Skipped ∷ items) s t e (u, x, r) = shown_counted n (l ∷ ls) items s t e (subst (λ (y : Shown). EventsShow T (l ∷ ls) items y t) (x ∙ skipped_same l ls s) r)

-- characters have one answer
abbrev pub OneAnswer : Type 0
OneAnswer = (simple : Simple) (text : List ℕ) (one two : Result leaf.Leaf Rule) → HasSortedCodes simple → LeafUnder simple text one → LeafUnder simple text two → one ≡ two

one_leaf : OneAnswer → (simple : Simple) (text : List ℕ) (a b : leaf.Leaf) → HasSortedCodes simple → GivesLeaf simple text a → GivesLeaf simple text b → a ≡ b
one_leaf answer simple text a b sorted x y = ok_is a b (answer simple text (Ok a) (Ok b) sorted x y)
  where
    ok_is : (a b : leaf.Leaf) → ◌≡◌ {A = Result leaf.Leaf Rule} (Ok a) (Ok b) → a ≡ b
    ok_is a b e = cc

pub pieces_are_shown : OneAnswer → SoundFormsAgree → PiecesAreShown
pieces_are_shown answer agree T bytes v t sound sorted s h =
    root_shown T (record { tagged = λ p. (agree (types_of T p) (sound p)).tagged; goes_on = λ p. (agree (types_of T p) (sound p)).goes_on; ends = λ p. (agree (types_of T p) (sound p)).ends }) sorted (one_leaf answer) s.tree v t s.instance
    (subst (λ (x : List Item). EventsShow T [] x nothing_shown t) s.tree_is (shown_counted T 0 [] (items s.tokens) nothing_shown t refl h))
