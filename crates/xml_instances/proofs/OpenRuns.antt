-- The events of a tree round a shape, of which so many have come, may follow one another.
use Rattle.std.proofs.Common.{subst, ◌≡◌, ℕ, suc, ◌+◌, ◌-◌, ◌<◌, true, false, List, [], ◌∷◌, ◌++◌, Option, Some, None, refl, ap, ◌∙◌, sym, ◌⊎◌, inl, inr, append_assoc, append-nil, length, arith}
use Rattle.std.specs.Prelude.{slice_get, codes}
use Rattle.std.specs.Str.{bytes_eq, chars}
use Rattle.std.proofs.lemmas.List.{length-append}
use Rattle.std.proofs.lemmas.Slice.Eq.{bytes_eq-Decides}
use Rattle.std.proofs.lemmas.Bool.{cond-false}
use Rattle.std.proofs.lemmas.Option.{same_Some}
use Rattle.lexical_core.specs.Tree.{Expanded, Entry, Nodes, Element, Text, Tree, Item, Starts, Ends, flat, flat_nodes}
use Rattle.lexical_core.specs.Tree as tree
use Rattle.lexical_core.specs.Characters.{IsSpace}
use Rattle.lexical_core.specs.Names.{same_name}
use Rattle.data_types.specs.Leaf as leaf
use Rattle.facets.specs.declared.simple.Simple.{Simple}
use Rattle.markup.specs.Chars.{is_space}
use Rattle.reference_check.specs.Forms.{Form, Slot, form_slots}
use Rattle.reference_check.specs.Forms as form
use Rattle.reference_check.specs.Words.{IsWordOf}
use Rattle.reference_check.specs.Steps.{Slotted, Fine, next, next_found, next_at, end_after}
use Rattle.reference_check.specs.Shapes.{Shape, Component, OpenLeaf, Shapes, Nothing, Child, HasShape, HaveShapes, numbers_in}
use Rattle.message_model.specs.Writes.{name_in_namespace, SpellsCode, text_nodes, IsBlank, Wraps, MayHold}
use Rattle.message_model.specs.Message.{Message}
use Rattle.xml_instances.specs.Levels.{Level, Parent, Leaf, Envelope, Foreign, begun_level, path_in}
use Rattle.xml_instances.specs.EventFaults.{AttributeFault, CurrencyFault, place_fault, is_bare, space_fault}
use Rattle.xml_instances.specs.OpenInstances.{AreKnown, TextSoFar, LeafSoFar, ContentSoFar, IsSoFar}
use Rattle.xml_instances.proofs.Runs.{IsSteady, space_passes, same_names, hints_known, money_known, code_fine}
use Rattle.xml_instances.proofs.Following.{MayFollow, unless_both}

pub element_size : (n : Expanded) (a : List Entry) (inner more : Nodes) → length (flat_nodes (Element n a inner more)) ≡ length (flat_nodes inner) + (length (flat_nodes more) + 2)
element_size n a inner more = omega (arith, length-append (flat_nodes inner) (Ends n ∷ flat_nodes more))

pub text_size : (w : List ℕ) → length (flat_nodes (text_nodes w)) ≡ length w
text_size [] = refl
text_size (c ∷ w) = ap suc (text_size w)

currency_passes : {P : Type 0} (f : Form P Simple) (o : Option (List ℕ)) (w path : List ℕ) (l : leaf.Leaf) → o ≡ Some w → SpellsCode f (chars w) l → CurrencyFault f o path None
currency_passes f None w path l e h = cc
currency_passes f (Some u) w path l e h = (let same : w ≡ u = cc in code_fine f (chars u) path l (rw same at h))

module _ {P : Type 0} (m : Message P) (steady : IsSteady m.forms) where
  known_fine : (f : Form P Simple) (attributes : List Entry) (path : List ℕ) → AreKnown m.forms f attributes → AttributeFault m (Some f) attributes path None
  known_fine (form.Money c s) attributes path (w, l, (found, known), spelled) = unless_both _ _ (cond-false _ _ _ (money_known c s attributes known)) (currency_passes (m.forms c) _ w _ l found spelled)
  known_fine (form.Sequence fs) attributes path h = unless_both _ _ (cond-false _ _ _ (hints_known {P = P} (form.Sequence fs) attributes h)) refl
  known_fine (form.Choice fs) attributes path h = unless_both _ _ (cond-false _ _ _ (hints_known {P = P} (form.Choice fs) attributes h)) refl
  known_fine (form.Simple s) attributes path h = unless_both _ _ (cond-false _ _ _ (hints_known {P = P} (form.Simple s) attributes h)) refl
  known_fine form.Envelope attributes path h = unless_both _ _ (cond-false _ _ _ (hints_known {P = P} form.Envelope attributes h)) refl
  known_fine form.LeftOut attributes path h = unless_both _ _ (cond-false _ _ _ (hints_known {P = P} form.LeftOut attributes h)) refl
  known_fine form.Missing attributes path h = unless_both _ _ (cond-false _ _ _ (hints_known {P = P} form.Missing attributes h)) refl

  slotted_next : (p : P) (f : Form P Simple) (d e : List ℕ) (k : ℕ) (s : Slot P) → m.forms p ≡ f → slice_get (form_slots f) k ≡ Some s → IsWordOf f (d ++ k ∷ e) → next f d s.tag ≡ Slotted k
  slotted_next p f d e k s at = subst (λ (f : Form P Simple). slice_get (form_slots f) k ≡ Some s → IsWordOf f (d ++ k ∷ e) → next f d s.tag ≡ Slotted k) at of_place
    where
      of_place : slice_get (form_slots (m.forms p)) k ≡ Some s → IsWordOf (m.forms p) (d ++ k ∷ e) → next (m.forms p) d s.tag ≡ Slotted k
      of_place found word = ap (next_found (m.forms p) (form_slots (m.forms p)) d) (steady.tagged p k s found) ∙ (ap (next_at (m.forms p) d k) found ∙ steady.goes_on p d e k s found word)

  pub ends_of : (p : P) (f : Form P Simple) (d : List ℕ) → m.forms p ≡ f → IsWordOf f d → end_after f d ≡ Fine
  ends_of p f d at = subst (λ (f : Form P Simple). IsWordOf f d → end_after f d ≡ Fine) at (steady.ends p d)

  foreign_may : (come left : ℕ) (nodes : Nodes) (above : List (Level P)) (rest : List Item) → left ≡ come - length (flat_nodes nodes) → MayFollow m left (Foreign ∷ above) rest → MayFollow m come (Foreign ∷ above) (flat_nodes nodes ++ rest)
  foreign_may come left tree.Nothing above rest e h = (let same : left ≡ come = omega arith in rw (← same) h)
  foreign_may come left (Text c more) above rest e h = (refl, foreign_may (come - 1) left more above rest (omega arith) h)
  foreign_may come left (Element n attributes inner more) above rest e h = (
    (refl, λ some. refl),
    rw (append_assoc (flat_nodes inner) (Ends n ∷ flat_nodes more) rest)
        (foreign_may (come - 1) (come - 1 - length (flat_nodes inner)) inner (Foreign ∷ above) (Ends n ∷ (flat_nodes more ++ rest)) refl
        (tt, foreign_may (come - 1 - length (flat_nodes inner) - 1) left more above rest (omega (arith, element_size n attributes inner more)) h)),
  )

  space_may : (c : ℕ) (path : List ℕ) → IsSpace c → None ≡ space_fault (is_space c) path
  space_may c path h = rw (space_passes c h) refl

  blank_may : (come left : ℕ) (nodes : Nodes) (above : List (Level P)) (rest : List Item) → left ≡ come - length (flat_nodes nodes) → IsBlank nodes → MayFollow m left (Envelope true ∷ above) rest → MayFollow m come (Envelope true ∷ above) (flat_nodes nodes ++ rest)
  blank_may come left tree.Nothing above rest e h may = (let same : left ≡ come = omega arith in rw (← same) may)
  blank_may come left (Text c more) above rest e h may = (space_may c _ h.0, blank_may (come - 1) left more above rest (omega arith) h.1 may)
  blank_may come left (Element n attributes inner more) above rest e h may = absurd h

  wraps_may : (come left : ℕ) (t : Tree) (nodes : Nodes) (above : List (Level P)) (rest : List Item) → left ≡ come - length (flat_nodes nodes) → Wraps t nodes → MayFollow m left (Envelope true ∷ above) rest → MayFollow m come (Envelope false ∷ above) (flat_nodes nodes ++ rest)
  wraps_may come left t tree.Nothing above rest e h may = absurd h
  wraps_may come left t (Text c more) above rest e h may = (space_may c _ h.0, wraps_may (come - 1) left t more above rest (omega arith) h.1 may)
  wraps_may come left t (Element n attributes inner more) above rest e h may = (
    (refl, λ some. refl),
    rw (append_assoc (flat_nodes inner) (Ends n ∷ flat_nodes more) rest)
        (foreign_may (come - 1) (come - 1 - length (flat_nodes inner)) inner (Envelope true ∷ above) (Ends n ∷ (flat_nodes more ++ rest)) refl
        (tt, blank_may (come - 1 - length (flat_nodes inner) - 1) left more above rest (omega (arith, element_size n attributes inner more)) h.1 may)),
  )

  text_may : (come left : ℕ) (s : Simple) (v w : List ℕ) (above : List (Level P)) (rest : List Item) → left ≡ come - length w → MayFollow m left (Leaf s (v ++ w) ∷ above) rest → MayFollow m come (Leaf s v ∷ above) (flat_nodes (text_nodes w) ++ rest)
  text_may come left s v [] above rest e h = (let same : left ≡ come = omega arith in rw (← same) (rw append-nil at h))
  text_may come left s v (c ∷ w) above rest e h = (refl, text_may (come - 1) left s (v ++ c ∷ []) w above rest (omega arith) (rw (append_assoc v (c ∷ []) w) h))

  leaf_may : (come left : ℕ) (s : Simple) (nodes : Nodes) (n : Expanded) (above : List (Level P)) (rest : List Item) → left ≡ come - (length (flat_nodes nodes) + 1) → TextSoFar come s nodes → MayFollow m left above rest → MayFollow m come (Leaf s [] ∷ above) (flat_nodes nodes ++ (Ends n ∷ rest))
  leaf_may come left s nodes n above rest e (w, is, fits) h =
      let count : left ≡ come - length w - 1 = omega (arith, ap (λ x. length (flat_nodes x)) is, text_size w) in
      rw is (text_may come (come - length w) s [] w above (Ends n ∷ rest) refl ((λ some. fits (omega arith)), rw count at h))

  bare_or_empty : (fs : List (Slot P)) (nodes : Nodes) → MayHold (form.Sequence fs) nodes → (is_bare (form.Sequence fs) ≡ false) ⊎ (nodes ≡ tree.Nothing)
  bare_or_empty [] nodes h = inr h
  bare_or_empty (s ∷ fs) nodes h = inl refl

  -- the children that are still to come, behind those before
  abbrev pub ChildrenMay : Nodes → Type 0
  ChildrenMay nodes =
      (come left : ℕ) (p : P) (f : Form P Simple) (before : List ℕ) (ks : Shapes) (above : List (Level P)) (rest : List Item) → left ≡ come - length (flat_nodes nodes) → m.forms p ≡ f
      → (is_bare f ≡ false) ⊎ (nodes ≡ tree.Nothing) → IsWordOf f (before ++ numbers_in ks) → HaveShapes m.forms (form_slots f) ks
      → ContentSoFar m.forms m.namespace come f (Component ks) nodes → MayFollow m left (Parent f (before ++ numbers_in ks) ∷ above) rest
      → MayFollow m come (Parent f before ∷ above) (flat_nodes nodes ++ rest)

  text_content : (come : ℕ) (f : Form P Simple) (ks : Shapes) (c : ℕ) (more : Nodes) → ContentSoFar m.forms m.namespace come f (Component ks) (Text c more) → IsSpace c × ContentSoFar m.forms m.namespace (come - 1) f (Component ks) more
  text_content come f Nothing c more h = h
  text_content come f (Child k v ks) c more h = h

  leaf_content : (come : ℕ) (f : Form P Simple) (nodes : Nodes) → ContentSoFar m.forms m.namespace come f OpenLeaf nodes → LeafSoFar come f nodes
  leaf_content come f tree.Nothing h = h
  leaf_content come f (Text c more) h = h
  leaf_content come f (Element n a inner more) h = h

  -- the content of an element and its end
  element_may : (come left : ℕ) (nodes : Nodes) (p : P) (f : Form P Simple) (v : Shape) (n : Expanded) (above : List (Level P)) (rest : List Item) → ChildrenMay nodes → m.forms p ≡ f
      → HasShape m.forms f v → MayHold f nodes → ContentSoFar m.forms m.namespace come f v nodes → left ≡ come - (length (flat_nodes nodes) + 1) → MayFollow m left above rest
      → MayFollow m come (begun_level f ∷ above) (flat_nodes nodes ++ (Ends n ∷ rest))
  element_may come left nodes p (form.Sequence fs) (Component ks) n above rest children at (word, shapes) holds so_far e h =
      let count : left ≡ come - length (flat_nodes nodes) - 1 = omega arith in
      children come (come - length (flat_nodes nodes)) p (form.Sequence fs) [] ks above (Ends n ∷ rest) refl at (bare_or_empty fs nodes holds) word shapes so_far (ends_of p (form.Sequence fs) _ at word, rw count at h)
  element_may come left nodes p (form.Choice fs) (Component ks) n above rest children at (word, shapes) holds so_far e h =
      let count : left ≡ come - length (flat_nodes nodes) - 1 = omega arith in
      children come (come - length (flat_nodes nodes)) p (form.Choice fs) [] ks above (Ends n ∷ rest) refl at (inl refl) word shapes so_far (ends_of p (form.Choice fs) _ at word, rw count at h)
  element_may come left nodes p (form.Simple s) OpenLeaf n above rest children at a holds so_far e h = leaf_may come left s nodes n above rest e (leaf_content come (form.Simple s) nodes so_far) h
  element_may come left nodes p (form.Money c s) OpenLeaf n above rest children at a holds so_far e h = leaf_may come left s nodes n above rest e (leaf_content come (form.Money c s) nodes so_far) h
  element_may come left nodes p form.Envelope OpenLeaf n above rest children at a holds so_far e h = of_wraps (leaf_content come form.Envelope nodes so_far)
    where
      of_wraps : ((t : Tree) × Wraps t nodes) → MayFollow m come (Envelope false ∷ above) (flat_nodes nodes ++ (Ends n ∷ rest))
      of_wraps (t, w) =
          let count : left ≡ come - length (flat_nodes nodes) - 1 = omega arith in
          wraps_may come (come - length (flat_nodes nodes)) t nodes above (Ends n ∷ rest) refl w (tt, rw count at h)
  element_may come left nodes p form.LeftOut OpenLeaf n above rest children at a holds so_far e h = absurd (leaf_content come form.LeftOut nodes so_far)
  element_may come left nodes p f v n above rest children at a holds so_far e h = absurd a

  starts_may : (come : ℕ) (f : Form P Simple) (before : List ℕ) (k : ℕ) (s : Slot P) (n : Expanded) (attributes : List Entry) (above : List (Level P)) (items : List Item) → n ≡ name_in_namespace m.namespace s.tag
      → next f before s.tag ≡ Slotted k → slice_get (form_slots f) k ≡ Some s → (0 < come → AttributeFault m (Some (m.forms s.target)) attributes (path_in (Parent f (before ++ k ∷ []) ∷ above)) None)
      → MayFollow m (come - 1) (begun_level (m.forms s.target) ∷ Parent f (before ++ k ∷ []) ∷ above) items → MayFollow m come (Parent f before ∷ above) (Starts n attributes ∷ items)
  starts_may come f before k s n attributes above items e slotted found known may =
      let here : next f before n.local ≡ Slotted k = ap (λ x. next f before x.local) e ∙ slotted in
      let space : bytes_eq n.namespace m.namespace ≡ true = (bytes_eq-Decides n.namespace m.namespace).1 (ap (λ x. x.namespace) e) in
      ((rw (space, here) refl, rw (here, found) known), rw (here, found) may)

  pub children_may : (nodes : Nodes) → ChildrenMay nodes
  children_may tree.Nothing come left p f before Nothing above rest count at bare word shapes so_far may = (let same : left ≡ come = omega arith in rw (← same) (rw append-nil at may))
  children_may tree.Nothing come left p f before (Child k v ks) above rest count at bare word shapes so_far may = absurd so_far
  children_may (Text c more) come left p f before ks above rest count at (inr e) word shapes so_far may = absurd cc
  children_may (Text c more) come left p f before ks above rest count at (inl e) word shapes so_far may =
      let w : IsSpace c × ContentSoFar m.forms m.namespace (come - 1) f (Component ks) more = text_content come f ks c more so_far in
      (rw (e, space_passes c w.0) refl, children_may more (come - 1) left p f before ks above rest (omega arith) at (inl e) word shapes w.1 may)
  children_may (Element n attributes inner more) come left p f before ks above rest count at (inr e) word shapes so_far may = absurd cc
  children_may (Element n attributes inner more) come left p f before Nothing above rest count at (inl e) word shapes so_far may = absurd so_far
  children_may (Element n attributes inner more) come left p f before (Child k v ks) above rest count at (inl e) word ((s, found, has), shapes) ((t, found', (name_is, known, holds, content)), so_far) may =
      let same : t ≡ s = same_Some t s (sym found' ∙ found) in
      let known' : 0 < come → AreKnown m.forms (m.forms s.target) attributes = subst (λ (x : Slot P). 0 < come → AreKnown m.forms (m.forms x.target) attributes) same known in
      rw (append_assoc (flat_nodes inner) (Ends n ∷ flat_nodes more) rest)
      (starts_may come f before k s n attributes above (flat_nodes inner ++ (Ends n ∷ (flat_nodes more ++ rest))) (rw same at name_is) (slotted_next p f before (numbers_in ks) k s at found word) found
      (λ some. known_fine (m.forms s.target) attributes _ (known' some))
      (element_may (come - 1) (come - (length (flat_nodes inner) + 2)) inner s.target (m.forms s.target) v n (Parent f (before ++ k ∷ []) ∷ above) (flat_nodes more ++ rest) (children_may inner) refl has
      (subst (λ (x : Slot P). MayHold (m.forms x.target) inner) same holds) (subst (λ (x : Slot P). ContentSoFar m.forms m.namespace (come - 1) (m.forms x.target) v inner) same content) (omega arith)
      (children_may more (come - (length (flat_nodes inner) + 2)) left p f (before ++ k ∷ []) ks above rest (omega (arith, element_size n attributes inner more)) at (inl e) (rw append_assoc word) shapes so_far (rw append_assoc may))))

  place_root : (n : Expanded) → n ≡ name_in_namespace m.namespace (codes "Document") → place_fault m [] n ≡ None
  place_root n e = (let same : same_name n (name_in_namespace m.namespace (codes "Document")) ≡ true = same_names n (name_in_namespace m.namespace (codes "Document")) e in rw same refl)

  pub root_may : (come : ℕ) (t : Tree) (v : Shape) → HasShape m.forms (m.forms m.root) v → IsSoFar m come v t → MayFollow m come [] (flat t)
  root_may come t v has i = (
    (place_root t.name i.name, λ some. known_fine (m.forms m.root) t.attributes (codes "/Document[1]") (i.attributes some)),
    element_may (come - 1) (come - 1 - (length (flat_nodes t.children) + 1)) t.children m.root (m.forms m.root) v t.name [] [] (children_may t.children) refl has i.holds i.content refl tt,
  )
