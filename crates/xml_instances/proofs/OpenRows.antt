-- A message with a type that reaches itself: its types are finite, and what events go on to.
use Rattle.std.proofs.Common.{◌≡◌, ℕ, zero, suc, true, List, [], ◌∷◌, ◌++◌, Some, None, refl, ap, arith, length}
use Rattle.std.specs.Prelude.{slice_get, codes}
use Rattle.lexical_core.specs.Tree.{Item, Starts, Char, Ends, Element, Text, Tree}
use Rattle.lexical_core.specs.Tree as tree
use Rattle.facets.specs.declared.simple.Simple.{Simple}
use Rattle.facets.specs.LeafChecks.{IsWithinLimits}
use Rattle.reference_check.specs.Forms.{Form, Slot, Sequence, Missing, form_slots, text_type}
use Rattle.reference_check.specs.Forms as form
use Rattle.reference_check.specs.Words.{times, UpTo, MayComeTimes}
use Rattle.reference_check.specs.Steps.{find_slot, has_room}
use Rattle.reference_check.specs.Shapes.{Component, OpenLeaf, Nothing, Child, HasShape, IsFinite, AreFinite}
use Rattle.message_model.specs.Sound.{IsSoundForm, AreSound, SoundFormsAgree}
use Rattle.message_model.specs.Continued.{CameGoesOn}
use Rattle.message_model.specs.Message.{Message}
use Rattle.message_model.specs.Writes.{name_in_namespace}
use Rattle.xml_instances.specs.EventFaults.{AreFine}
use Rattle.xml_instances.specs.OpenInstances.{AreEventsOpen, IsTreeFront}
use Rattle.xml_instances.proofs.OpenLaw.{fine_are_open}

module _ (x : Simple) (limited : IsWithinLimits x) where
  abbrev tree_slot : Slot ℕ
  tree_slot = record { tag = codes "Tree"; min = 1; max = Some 1; target = 1 }

  abbrev node_slot : Slot ℕ
  node_slot = record { tag = codes "Nd"; min = 1; max = Some 1; target = 2 }

  abbrev name_slot : Slot ℕ
  name_slot = record { tag = codes "Nm"; min = 1; max = Some 1; target = 3 }

  abbrev child_slot : Slot ℕ
  child_slot = record { tag = codes "Chld"; min = 0; max = None; target = 2 }

  -- a node has a name and any number of nodes
  abbrev forms : ℕ → Form ℕ Simple
  forms zero = Sequence (tree_slot ∷ [])
  forms (suc zero) = Sequence (node_slot ∷ [])
  forms (suc (suc zero)) = Sequence (name_slot ∷ child_slot ∷ [])
  forms (suc (suc (suc zero))) = form.Simple x
  forms n = Missing

  abbrev message : Message ℕ
  message = record { namespace = codes "u"; forms = forms; root = 0 }

  one_sound : (s : Slot ℕ) → s.min ≡ 1 → s.max ≡ Some 1 → find_slot 0 (s ∷ []) s.tag ≡ Some 0 → IsSoundForm (Sequence (s ∷ []))
  one_sound s low top own = record { tags = tags; bounds = bounds; room = room; short = omega arith; alternatives = tt; number = tt; limits = λ f e. absurd cc }
    where
      tags : (k : ℕ) (t : Slot ℕ) → slice_get (s ∷ []) k ≡ Some t → find_slot 0 (s ∷ []) t.tag ≡ Some k
      tags zero t e = (let same : s ≡ t = cc in rw (← same) own)
      tags (suc k) t e = absurd cc

      bounds : (k : ℕ) (t : Slot ℕ) → slice_get (s ∷ []) k ≡ Some t → UpTo t.min t.max
      bounds zero t e = (let same : s ≡ t = cc in rw (← same) (rw (low, top) (omega arith)))
      bounds (suc k) t e = absurd cc

      room : (k : ℕ) (t : Slot ℕ) → slice_get (s ∷ []) k ≡ Some t → has_room 0 t.max ≡ true
      room zero t e = (let same : s ≡ t = cc in rw (← same) (rw top refl))
      room (suc k) t e = absurd cc

  nodes_sound : IsSoundForm (Sequence (name_slot ∷ child_slot ∷ []))
  nodes_sound = record { tags = tags; bounds = bounds; room = room; short = omega arith; alternatives = tt; number = tt; limits = λ f e. absurd cc }
    where
      tags : (k : ℕ) (t : Slot ℕ) → slice_get (name_slot ∷ child_slot ∷ []) k ≡ Some t → find_slot 0 (name_slot ∷ child_slot ∷ []) t.tag ≡ Some k
      tags zero t e = (let same : name_slot ≡ t = cc in rw (← same) refl)
      tags (suc zero) t e = (let same : child_slot ≡ t = cc in rw (← same) refl)
      tags (suc (suc k)) t e = absurd cc

      bounds : (k : ℕ) (t : Slot ℕ) → slice_get (name_slot ∷ child_slot ∷ []) k ≡ Some t → UpTo t.min t.max
      bounds zero t e = (let same : name_slot ≡ t = cc in rw (← same) (omega arith))
      bounds (suc zero) t e = (let same : child_slot ≡ t = cc in rw (← same) tt)
      bounds (suc (suc k)) t e = absurd cc

      room : (k : ℕ) (t : Slot ℕ) → slice_get (name_slot ∷ child_slot ∷ []) k ≡ Some t → has_room 0 t.max ≡ true
      room zero t e = (let same : name_slot ≡ t = cc in rw (← same) refl)
      room (suc zero) t e = (let same : child_slot ≡ t = cc in rw (← same) refl)
      room (suc (suc k)) t e = absurd cc

  bare_sound : (f : Form ℕ Simple) → form_slots f ≡ [] → Rattle.message_model.specs.Sound.IsNoOption f → Rattle.message_model.specs.Sound.HasNumber f → ((y : Simple) → text_type f ≡ Some y → IsWithinLimits y) → IsSoundForm f
  bare_sound f e options number within_limits = record { tags = λ k s h. absurd (none k s h); bounds = λ k s h. absurd (none k s h); room = λ k s h. absurd (none k s h); short = (let size : length (form_slots f) ≡ 0 = ap length e in omega arith); alternatives = options; number = number; limits = within_limits }
    where
      none : (k : ℕ) (s : Slot ℕ) → slice_get (form_slots f) k ≡ Some s → ⊥
      none k s h = (let q : slice_get [] k ≡ Some s = rw e at h in absurd cc)

  sound : AreSound forms
  sound zero = one_sound tree_slot refl refl refl
  sound (suc zero) = one_sound node_slot refl refl refl
  sound (suc (suc zero)) = nodes_sound
  sound (suc (suc (suc zero))) = bare_sound (form.Simple x) refl tt tt (λ y e. let same : x ≡ y = cc in rw (← same) limited)
  sound (suc (suc (suc (suc n)))) = bare_sound Missing refl tt tt (λ y e. absurd cc)

  name_shape : HasShape forms (forms 3) OpenLeaf
  name_shape = tt

  node_shape : HasShape forms (forms 2) (Component (Child 0 OpenLeaf Nothing))
  node_shape = (record { ordered = (omega arith, omega arith, tt); within = within }, ((name_slot, refl, tt), tt))
    where
      within : (k : ℕ) (s : Slot ℕ) → slice_get (name_slot ∷ child_slot ∷ []) k ≡ Some s → MayComeTimes (times k (0 ∷ [])) s
      within zero s e = (let same : name_slot ≡ s = cc in rw (← same) (omega arith, omega arith))
      within (suc zero) s e = (let same : child_slot ≡ s = cc in rw (← same) (omega arith, tt))
      within (suc (suc k)) s e = absurd cc

  one_within : (t : Slot ℕ) → t.min ≡ 1 → t.max ≡ Some 1 → (k : ℕ) (s : Slot ℕ) → slice_get (t ∷ []) k ≡ Some s → MayComeTimes (times k (0 ∷ [])) s
  one_within t low top zero s e = (let same : t ≡ s = cc in rw (← same) (rw (low, top) (omega arith, omega arith)))
  one_within t low top (suc k) s e = absurd cc

  tree_shape : HasShape forms (forms 1) (Component (Child 0 (Component (Child 0 OpenLeaf Nothing)) Nothing))
  tree_shape = (record { ordered = (omega arith, omega arith, tt); within = one_within node_slot refl refl }, ((node_slot, refl, node_shape), tt))

  -- the type that reaches itself is finite, and so are all
  finite : AreFinite forms 0
  finite = record {
    document = (Component (Child 0 (Component (Child 0 (Component (Child 0 OpenLeaf Nothing)) Nothing)) Nothing), (record { ordered = (omega arith, omega arith, tt); within = one_within tree_slot refl refl }, ((tree_slot, refl, tree_shape), tt)));
    slots = slots;
    kinds = kinds;
  }
    where
      slots : (p : ℕ) (k : ℕ) (s : Slot ℕ) → slice_get (form_slots (forms p)) k ≡ Some s → IsFinite forms s.target
      slots zero zero s e = (let same : tree_slot ≡ s = cc in rw (← same) (Component (Child 0 (Component (Child 0 OpenLeaf Nothing)) Nothing), tree_shape))
      slots zero (suc k) s e = absurd cc
      slots (suc zero) zero s e = (let same : node_slot ≡ s = cc in rw (← same) (Component (Child 0 OpenLeaf Nothing), node_shape))
      slots (suc zero) (suc k) s e = absurd cc
      slots (suc (suc zero)) zero s e = (let same : name_slot ≡ s = cc in rw (← same) (OpenLeaf, tt))
      slots (suc (suc zero)) (suc zero) s e = (let same : child_slot ≡ s = cc in rw (← same) (Component (Child 0 OpenLeaf Nothing), node_shape))
      slots (suc (suc zero)) (suc (suc k)) s e = absurd cc
      slots (suc (suc (suc zero))) k s e = absurd cc
      slots (suc (suc (suc (suc n)))) k s e = absurd cc

      kinds : (p : ℕ) → forms p ≡ form.LeftOut → ⊥
      kinds zero e = cc
      kinds (suc zero) e = cc
      kinds (suc (suc zero)) e = cc
      kinds (suc (suc (suc zero))) e = cc
      kinds (suc (suc (suc (suc n)))) e = cc

  abbrev starts : List ℕ → Item
  starts tag = Starts (name_in_namespace (codes "u") tag) []

  abbrev ends : List ℕ → Item
  ends tag = Ends (name_in_namespace (codes "u") tag)

  abbrev to_node : List Item
  to_node = starts (codes "Document") ∷ starts (codes "Tree") ∷ starts (codes "Nd") ∷ []

  -- a name that begins goes on, whatever its characters
  name_front : IsTreeFront (to_node ++ starts (codes "Nm") ∷ Char 65 ∷ [])
  name_front = (
    ends (codes "Nm") ∷ ends (codes "Nd") ∷ ends (codes "Tree") ∷ ends (codes "Document") ∷ [],
    record { name = name_in_namespace (codes "u") (codes "Document"); attributes = []; children = Element (name_in_namespace (codes "u") (codes "Tree")) [] (Element (name_in_namespace (codes "u") (codes "Nd")) [] (Element (name_in_namespace (codes "u") (codes "Nm")) [] (Text 65 tree.Nothing) tree.Nothing) tree.Nothing) tree.Nothing },
    refl,
  )

  name_open : SoundFormsAgree → CameGoesOn → AreEventsOpen message (to_node ++ starts (codes "Nm") ∷ Char 65 ∷ [])
  name_open agree goes = (fine_are_open agree goes message (to_node ++ starts (codes "Nm") ∷ Char 65 ∷ []) sound finite name_front).0 (fine agree)
    where
      fine : SoundFormsAgree → AreFine message [] (to_node ++ starts (codes "Nm") ∷ Char 65 ∷ [])
      fine agree = (refl, (refl, (refl, (refl, (refl, tt)))))

  -- a node before its name does not
  child_front : IsTreeFront (to_node ++ starts (codes "Chld") ∷ [])
  child_front = (
    ends (codes "Chld") ∷ ends (codes "Nd") ∷ ends (codes "Tree") ∷ ends (codes "Document") ∷ [],
    record { name = name_in_namespace (codes "u") (codes "Document"); attributes = []; children = Element (name_in_namespace (codes "u") (codes "Tree")) [] (Element (name_in_namespace (codes "u") (codes "Nd")) [] (Element (name_in_namespace (codes "u") (codes "Chld")) [] tree.Nothing tree.Nothing) tree.Nothing) tree.Nothing },
    refl,
  )

  child_not_open : SoundFormsAgree → CameGoesOn → AreEventsOpen message (to_node ++ starts (codes "Chld") ∷ []) → ⊥
  child_not_open agree goes o = no_fault ((fine_are_open agree goes message (to_node ++ starts (codes "Chld") ∷ []) sound finite child_front).1 o)
    where
      no_fault : AreFine message [] (to_node ++ starts (codes "Chld") ∷ []) → ⊥
      no_fault (a, (b, (c, (d, e)))) = absurd cc
