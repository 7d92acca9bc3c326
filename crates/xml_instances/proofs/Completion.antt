-- Open elements can be completed, the innermost first: each new element by a shape of its type.
use Rattle.std.proofs.Common.{subst, ◌≡◌, ℕ, zero, suc, ◌+◌, ◌-◌, ◌<◌, Bool, true, false, List, [], ◌∷◌, ◌++◌, Some, None, refl, sym, ap, ◌∙◌, arith, ◌⊎◌, inl, inr, append_assoc, append-nil, length, replicate}
use Rattle.std.specs.Prelude.{slice_get, codes}
use Rattle.std.specs.List.{AllByRecursion}
use Rattle.std.specs.Str.{bytes_eq}
use Rattle.lexical_core.specs.Tree.{Expanded, Entry, Nodes, Element, Text, Tree, Item, Starts, Char, Ends, Skipped, flat, flat_nodes}
use Rattle.lexical_core.specs.Tree as tree
use Rattle.facets.specs.declared.simple.Simple.{Simple}
use Rattle.reference_check.specs.Forms.{Form, Slot, form_slots}
use Rattle.reference_check.specs.Forms as form
use Rattle.reference_check.specs.Words.{IsWordOf, IsOrderedFrom}
use Rattle.reference_check.specs.Steps.{Slotted, next, next_of, CameAfter, Came}
use Rattle.reference_check.specs.Shapes.{Shape, Component, OpenLeaf, Shapes, Nothing, Child, HasShape, HaveShapes, numbers_in, IsFinite, WordGoesOn, AreFinite}
use Rattle.message_model.specs.Writes.{name_in_namespace, MayHold}
use Rattle.message_model.specs.Message.{Message}
use Rattle.xml_instances.specs.Levels.{Level, Parent, Leaf, Envelope, Foreign, begun_level, levels_after, levels_over}
use Rattle.xml_instances.specs.EventFaults.{EventFault, AreFine, is_bare, place_fault, next_fault}
use Rattle.xml_instances.specs.OpenInstances.{ContentSoFar}
use Rattle.xml_instances.proofs.Accepts.{Comes, comes, no_fault, unless_in, if_else, not_bare}
use Rattle.xml_instances.proofs.Runs.{IsSteady}
use Rattle.xml_instances.proofs.Following.{MayFollow}
use Rattle.xml_instances.proofs.OpenRuns.{ends_of, children_may}

-- ---- the nodes of a shape, of which nothing has come

module _ {P : Type 0} (m : Message P) (kinds : (p : P) → m.forms p ≡ form.LeftOut → ⊥) where
  abbrev pub Made : ℕ → Form P Simple → Shape → Type 0
  Made come f v = (nodes : Nodes) × MayHold f nodes × ContentSoFar m.forms m.namespace come f v nodes

  abbrev pub AreMade : ℕ → Form P Simple → Shapes → Type 0
  AreMade come f ks = (nodes : Nodes) × (numbers_in ks ≡ [] → nodes ≡ tree.Nothing) × ContentSoFar m.forms m.namespace come f (Component ks) nodes

  text_made : (come : ℕ) → come ≡ 0 → (0 < come → ⊥)
  text_made come e h = omega arith

  made_of : (come : ℕ) (f : Form P Simple) (ks : Shapes) → ((fs : List (Slot P)) → f ≡ form.Sequence fs → fs ≡ [] → numbers_in ks ≡ []) → AreMade come f ks → (nodes : Nodes) × MayHold f nodes × ContentSoFar m.forms m.namespace come f (Component ks) nodes
  made_of come (form.Sequence []) ks none (nodes, empty, content) = (nodes, empty (none [] refl refl), content)
  made_of come (form.Sequence (s ∷ fs)) ks none (nodes, empty, content) = (nodes, tt, content)
  made_of come (form.Choice fs) ks none (nodes, empty, content) = (nodes, tt, content)
  made_of come (form.Simple s) ks none (nodes, empty, content) = (nodes, tt, content)
  made_of come (form.Money c s) ks none (nodes, empty, content) = (nodes, tt, content)
  made_of come form.Envelope ks none (nodes, empty, content) = (nodes, tt, content)
  made_of come form.LeftOut ks none (nodes, empty, content) = (nodes, tt, content)
  made_of come form.Missing ks none (nodes, empty, content) = (nodes, tt, content)

  no_slots : (fs : List (Slot P)) (d : List ℕ) → fs ≡ [] → IsOrderedFrom 0 (length fs) d → d ≡ []
  no_slots fs [] e o = refl
  no_slots fs (k ∷ d) e o = (let n : length fs ≡ 0 = ap length e in let l : k < length fs = o.1 in absurd (omega arith))

  element_before : (come : ℕ) (f : Form P Simple) (k : ℕ) (v : Shape) (ks : Shapes) (s : Slot P) → come ≡ 0 → slice_get (form_slots f) k ≡ Some s → ((nodes : Nodes) × MayHold (m.forms s.target) nodes × ContentSoFar m.forms m.namespace (come - 1) (m.forms s.target) v nodes)
      → ((left : ℕ) → left ≡ 0 → AreMade left f ks) → AreMade come f (Child k v ks)
  element_before come f k v ks s e found (inner, holds, content) later =
      let r : AreMade (come - (length (flat_nodes inner) + 2)) f ks = later (come - (length (flat_nodes inner) + 2)) (omega arith) in
      (Element (name_in_namespace m.namespace s.tag) [] inner r.0, (λ h. absurd cc), ((s, found, (refl, (λ some. absurd (text_made come e some)), holds, content)), r.2))

  mutual
    made : (come : ℕ) (p : P) (f : Form P Simple) (v : Shape) → come ≡ 0 → m.forms p ≡ f → HasShape m.forms f v → (nodes : Nodes) × MayHold f nodes × ContentSoFar m.forms m.namespace come f v nodes
    made come p (form.Sequence fs) (Component ks) e at (word, shapes) =
        made_of come (form.Sequence fs) ks (λ gs same none. no_slots fs (numbers_in ks) (slots_same fs gs same ∙ none) word.ordered) (all_made come (form.Sequence fs) ks e shapes)
      where
        slots_same : (fs gs : List (Slot P)) → ◌≡◌ {A = Form P Simple} (form.Sequence fs) (form.Sequence gs) → fs ≡ gs
        slots_same fs gs e = cc
    made come p (form.Choice fs) (Component ks) e at (word, shapes) = made_of come (form.Choice fs) ks (λ gs same none. absurd (not_sequence fs gs same)) (all_made come (form.Choice fs) ks e shapes)
      where
        not_sequence : (fs gs : List (Slot P)) → ◌≡◌ {A = Form P Simple} (form.Choice fs) (form.Sequence gs) → ⊥
        not_sequence fs gs e = cc
    made come p (form.Simple s) OpenLeaf e at has = (tree.Nothing, tt, ([], refl, λ some. absurd (text_made come e some)))
    made come p (form.Money c s) OpenLeaf e at has = (tree.Nothing, tt, ([], refl, λ some. absurd (text_made come e some)))
    made come p form.Envelope OpenLeaf e at has =
        (Element (name_in_namespace [] (codes "Any")) [] tree.Nothing tree.Nothing, tt, (record { name = name_in_namespace [] (codes "Any"); attributes = []; children = tree.Nothing }, (refl, tt)))
    made come p form.LeftOut OpenLeaf e at has = absurd (kinds p at)
    made come p f v e at has = absurd has

    all_made : (come : ℕ) (f : Form P Simple) (ks : Shapes) → come ≡ 0 → HaveShapes m.forms (form_slots f) ks → AreMade come f ks
    all_made come f Nothing e has = (tree.Nothing, (λ h. refl), tt)
    all_made come f (Child k v ks) e ((s, found, has), more) =
        element_before come f k v ks s e found (made (come - 1) s.target (m.forms s.target) v (omega arith) refl has) (λ left none. all_made left f ks none more)

  pub made_at : (come : ℕ) (p : P) (v : Shape) → come ≡ 0 → HasShape m.forms (m.forms p) v → Made come (m.forms p) v
  made_at come p v e has = made come p (m.forms p) v e refl has

  pub made_children : (come : ℕ) (f : Form P Simple) (ks : Shapes) → come ≡ 0 → HaveShapes m.forms (form_slots f) ks → AreMade come f ks
  made_children come f ks e has = all_made come f ks e has

-- ---- what is open where events break nothing

module _ {P : Type 0} (m : Message P) (finite : AreFinite m.forms m.root) where
  -- an open element with elements: a type of the message, which has a word, and slots that came one by one
  abbrev pub Stands : Level P → Type 0
  Stands (Parent f d) = (p : P) × (m.forms p ≡ f) × WordGoesOn f [] × Came f d
  Stands l = Unit {0}

  abbrev pub AllStand : List (Level P) → Type 0
  AllStand [] = Unit {0}
  AllStand (l ∷ ls) = Stands l × AllStand ls

  begun_stands : (p : P) (f : Form P Simple) (v : Shape) → m.forms p ≡ f → HasShape m.forms f v → Stands (begun_level f)
  begun_stands p (form.Sequence fs) (Component ks) at has = (p, at, (numbers_in ks, has.0), tt)
  begun_stands p (form.Choice fs) (Component ks) at has = (p, at, (numbers_in ks, has.0), tt)
  begun_stands p (form.Simple s) OpenLeaf at has = tt
  begun_stands p (form.Money c s) OpenLeaf at has = tt
  begun_stands p form.Envelope OpenLeaf at has = tt
  begun_stands p form.LeftOut OpenLeaf at has = absurd (finite.kinds p at)
  begun_stands p f v at has = absurd has

  type_stands : (p : P) → IsFinite m.forms p → Stands (begun_level (m.forms p))
  type_stands p (v, has) = begun_stands p (m.forms p) v refl has

  came_one_more : (f : Form P Simple) (before d : List ℕ) (k : ℕ) (s : Slot P) → slice_get (form_slots f) k ≡ Some s → next_of f (before ++ d) k s ≡ Slotted k → CameAfter f before d → CameAfter f before (d ++ k ∷ [])
  came_one_more f before [] k s found slotted came = ((s, found, rw append-nil at slotted), tt)
  came_one_more f before (j ∷ d) k s found slotted came =
      (came.0, came_one_more f (before ++ j ∷ []) d k s found (subst (λ (x : List ℕ). next_of f x k s ≡ Slotted k) (sym (append_assoc before (j ∷ []) d)) slotted) came.1)

  target_finite : (p : P) (f : Form P Simple) (k : ℕ) (s : Slot P) → m.forms p ≡ f → slice_get (form_slots f) k ≡ Some s → IsFinite m.forms s.target
  target_finite p f k s at = subst (λ (f : Form P Simple). slice_get (form_slots f) k ≡ Some s → IsFinite m.forms s.target) at (λ found. finite.slots p k s found)

  parent_stands : (f : Form P Simple) (d : List ℕ) (ls : List (Level P)) (n : Expanded) (attributes : List Entry) → Stands (Parent f d) → AllStand ls → Comes f d n.local → AllStand (levels_after m (Parent f d ∷ ls) (Starts n attributes))
  parent_stands f d ls n attributes (p, at, word, came) above (k, s, found, tag, fine, slotted) =
      rw (slotted, found) (type_stands s.target (target_finite p f k s at found), ((p, at, word, came_one_more f [] d k s found fine came), above))

  start_stands : (ls : List (Level P)) (n : Expanded) (attributes : List Entry) → AllStand ls → place_fault m ls n ≡ None → AllStand (levels_after m ls (Starts n attributes))
  start_stands [] n attributes above h = (type_stands m.root finite.document, tt)
  start_stands (Parent f d ∷ ls) n attributes above h =
      let place : (bytes_eq n.namespace m.namespace ≡ true) × (next_fault _ f (next f d n.local) ≡ None) = if_else _ _ _ h in
      parent_stands f d ls n attributes above.0 above.1 (comes _ f d n.local place.1)
  start_stands (Leaf s w ∷ ls) n attributes above h = no_fault _ h
  start_stands (Envelope true ∷ ls) n attributes above h = no_fault _ h
  start_stands (Envelope false ∷ ls) n attributes above h = (tt, (tt, above.1))
  start_stands (Foreign ∷ ls) n attributes above h = (tt, (tt, above.1))

  event_stands : (ls : List (Level P)) (item : Item) → AllStand ls → EventFault m ls item None → AllStand (levels_after m ls item)
  event_stands ls (Starts n attributes) above h = start_stands ls n attributes above (unless_in _ _ h).0
  event_stands [] (Char c) above h = tt
  event_stands [] (Ends n) above h = tt
  event_stands [] Skipped above h = tt
  event_stands (Parent f d ∷ ls) (Char c) above h = above
  event_stands (Leaf s w ∷ ls) (Char c) above h = above
  event_stands (Envelope b ∷ ls) (Char c) above h = above
  event_stands (Foreign ∷ ls) (Char c) above h = above
  event_stands (l ∷ ls) (Ends n) above h = above.1
  event_stands (l ∷ ls) Skipped above h = above

  pub over_stands : (ls : List (Level P)) (items : List Item) → AllStand ls → AreFine m ls items → AllStand (levels_over m ls items)
  over_stands ls [] above h = above
  over_stands ls (item ∷ items) above h = over_stands (levels_after m ls item) items (event_stands ls item above h.0) h.1

  -- ---- each slot of a word has a shape

  abbrev pub AreSlots : Form P Simple → List ℕ → Type 0
  AreSlots f d = AllByRecursion (λ k. (s : Slot P) × (slice_get (form_slots f) k ≡ Some s)) d

  slot_below : (k : ℕ) (fs : List (Slot P)) → k < length fs → (s : Slot P) × (slice_get fs k ≡ Some s)
  slot_below k [] h = absurd (omega arith)
  slot_below zero (s ∷ fs) h = (s, refl)
  slot_below (suc k) (s ∷ fs) h = slot_below k fs (omega arith)

  ordered_slots : (fs : List (Slot P)) (low : ℕ) (d : List ℕ) → IsOrderedFrom low (length fs) d → AreSlots (form.Sequence fs) d
  ordered_slots fs low [] o = tt
  ordered_slots fs low (k ∷ d) o = (slot_below k fs o.1, ordered_slots fs k d o.2)

  same_slots : (fs : List (Slot P)) (k n : ℕ) (s : Slot P) → slice_get fs k ≡ Some s → AreSlots (form.Choice fs) (replicate n k)
  same_slots fs k zero s found = tt
  same_slots fs k (suc n) s found = ((s, found), same_slots fs k n s found)

  pub word_slots : (f : Form P Simple) (d : List ℕ) → IsWordOf f d → AreSlots f d
  word_slots (form.Sequence fs) d word = ordered_slots fs 0 d word.ordered
  word_slots (form.Choice fs) d (k, n, s, found, within, e) = rw e (same_slots fs k n s found)
  word_slots f d word = absurd word

  pub slots_behind : (f : Form P Simple) (d more : List ℕ) → AreSlots f (d ++ more) → AreSlots f more
  slots_behind f [] more h = h
  slots_behind f (k ∷ d) more h = slots_behind f d more h.1

  pub shapes_of : (p : P) (f : Form P Simple) (more : List ℕ) → m.forms p ≡ f → AreSlots f more → (ks : Shapes) × (numbers_in ks ≡ more) × HaveShapes m.forms (form_slots f) ks
  shapes_of p f [] at h = (Nothing, refl, tt)
  shapes_of p f (k ∷ more) at ((s, found), h) =
      let v : IsFinite m.forms s.target = target_finite p f k s at found in
      let r : (ks : Shapes) × (numbers_in ks ≡ more) × HaveShapes m.forms (form_slots f) ks = shapes_of p f more at h in
      (Child k v.0 r.0, ap (λ x. k ∷ x) r.1, ((s, found, v.1), r.2))

-- ---- names that are open

-- The events close these open elements, the innermost first, and one root in all, with nothing outside it; begun: a root has begun.
abbrev pub Nested : Bool → List Expanded → List Item → Type 0
Nested begun [] [] = begun ≡ true
Nested begun (n ∷ ns) [] = ⊥
Nested begun [] (Starts n a ∷ items) = (begun ≡ false) × Nested true (n ∷ []) items
Nested begun (m ∷ ns) (Starts n a ∷ items) = Nested true (n ∷ m ∷ ns) items
Nested begun [] (Ends n ∷ items) = ⊥
Nested begun (m ∷ ns) (Ends n ∷ items) = (n ≡ m) × Nested begun ns items
Nested begun [] (Char c ∷ items) = ⊥
Nested begun (n ∷ ns) (Char c ∷ items) = Nested begun (n ∷ ns) items
Nested begun ns (Skipped ∷ items) = ⊥

pub nodes_nested : (nodes : Nodes) (n : Expanded) (ns : List Expanded) (rest : List Item) → Nested true (n ∷ ns) rest → Nested true (n ∷ ns) (flat_nodes nodes ++ rest)
nodes_nested tree.Nothing n ns rest h = h
nodes_nested (Text c more) n ns rest h = nodes_nested more n ns rest h
nodes_nested (Element k a inner more) n ns rest h =
    rw (append_assoc (flat_nodes inner) (Ends k ∷ flat_nodes more) rest) (nodes_nested inner k (n ∷ ns) (Ends k ∷ (flat_nodes more ++ rest)) (refl, nodes_nested more n ns rest h))

pub tree_nested : (t : Tree) → Nested false [] (flat t)
tree_nested t = (refl, nodes_nested t.children t.name [] (Ends t.name ∷ []) (refl, refl))

-- ---- the completion, level by level

module _ {P : Type 0} (m : Message P) (finite : AreFinite m.forms m.root) (steady : IsSteady m.forms)
    (goes : (p : P) (f : Form P Simple) (d : List ℕ) → m.forms p ≡ f → WordGoesOn f [] → Came f d → WordGoesOn f d) where
  abbrev pub Completed : List (Level P) → List Expanded → Type 0
  Completed ls ns = (rest : List Item) × MayFollow m 0 ls rest × Nested true ns rest

  none_more : (n : ℕ) (ls : List (Level P)) (rest : List Item) → n ≡ 0 → MayFollow m 0 ls rest → MayFollow m n ls rest
  none_more n ls rest e h = rw e h

  close_parent : (p : P) (f : Form P Simple) (d : List ℕ) (n : Expanded) (ls : List (Level P)) (ns : List Expanded) → m.forms p ≡ f → WordGoesOn f d → Completed ls ns → Completed (Parent f d ∷ ls) (n ∷ ns)
  close_parent p f d n ls ns at (more, word) (rest, may, nested) = of_shapes (shapes_of m finite p f more at (slots_behind m finite f d more (word_slots m finite f (d ++ more) word)))
    where
      bare_or_none : (ks : Shapes) (nodes : Nodes) → HaveShapes m.forms (form_slots f) ks → (numbers_in ks ≡ [] → nodes ≡ tree.Nothing) → (is_bare f ≡ false) ⊎ (nodes ≡ tree.Nothing)
      bare_or_none Nothing nodes has empty = inr (empty refl)
      bare_or_none (Child k v ks) nodes ((s, found, has), more) empty = inl (not_bare f k s found)

      of_shapes : ((ks : Shapes) × (numbers_in ks ≡ more) × HaveShapes m.forms (form_slots f) ks) → Completed (Parent f d ∷ ls) (n ∷ ns)
      of_shapes (ks, e, has) =
          let made : AreMade m finite.kinds 0 f ks = made_children m finite.kinds 0 f ks refl has in
          let whole : IsWordOf f (d ++ numbers_in ks) = rw e word in (
            flat_nodes made.0 ++ (Ends n ∷ rest),
            children_may m steady made.0 0 0 p f d ks ls (Ends n ∷ rest) (omega arith) at (bare_or_none ks made.0 has made.1) whole has made.2 (ends_of m steady p f (d ++ numbers_in ks) at whole, none_more (0 - 1) ls rest (omega arith) may),
            nodes_nested made.0 n ns (Ends n ∷ rest) (refl, nested),
          )

  close : (l : Level P) (n : Expanded) (ls : List (Level P)) (ns : List Expanded) → Stands m finite l → Completed ls ns → Completed (l ∷ ls) (n ∷ ns)
  close (Parent f d) n ls ns (p, at, word, came) c = close_parent p f d n ls ns at (goes p f d at word came) c
  close (Leaf s w) n ls ns stands (rest, may, nested) = (Ends n ∷ rest, ((λ some. absurd (omega arith)), none_more (0 - 1) ls rest (omega arith) may), (refl, nested))
  close (Envelope true) n ls ns stands (rest, may, nested) = (Ends n ∷ rest, (tt, none_more (0 - 1) ls rest (omega arith) may), (refl, nested))
  close (Envelope false) n ls ns stands (rest, may, nested) =
      (Starts (name_in_namespace [] (codes "Any")) [] ∷ Ends (name_in_namespace [] (codes "Any")) ∷ Ends n ∷ rest, ((refl, λ some. refl), (tt, (tt, none_more (0 - 1 - 1 - 1) ls rest (omega arith) may))), (refl, (refl, nested)))
  close Foreign n ls ns stands (rest, may, nested) = (Ends n ∷ rest, (tt, none_more (0 - 1) ls rest (omega arith) may), (refl, nested))

  pub complete : (ls : List (Level P)) (ns : List Expanded) → length ls ≡ length ns → AllStand m finite ls → Completed ls ns
  complete [] [] e h = ([], tt, refl)
  complete [] (n ∷ ns) e h = absurd cc
  complete (l ∷ ls) [] e h = absurd cc
  complete (l ∷ ls) (n ∷ ns) e h = close l n ls ns h.0 (complete ls ns (omega (arith, e)) h.1)
