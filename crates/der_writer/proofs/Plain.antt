-- A plain element, whose three pieces are written at once.
use Rattle.std.proofs.Common.{◌≡◌, ℕ, suc, ◌+◌, ◌-◌, ◌<◌, true, false, List, [], ◌++◌, length, drop, Option, Some, None, refl, sym, ap, ap₂, ◌∙◌, arith, append-nil, append_assoc}
use Rattle.std.specs.Prelude.{slice_get, slice_index}
use Rattle.std.proofs.lemmas.Bool.{cond-true}
use Rattle.std.proofs.lemmas.Option.{slice_get_within}
use Rattle.data_types.specs.Leaf.{Leaf}
use Rattle.data_types.specs.Value.{Edge, Piece, Begins, Holds, Ends}
use Rattle.facets.specs.declared.simple.Simple.{Simple}
use Rattle.der_octets.specs.Octets.{context}
use Rattle.inst_pool.specs.Pieces.{Held, IsLeafElement}
use Rattle.reference_check.specs.Forms.{Graph, Form, Slot, form_slots}
use Rattle.reference_check.specs.Forms as form
use Rattle.message_model.specs.Sound.{AreSound}
use Rattle.der_model.specs.LeafContents.{leaf_contents}
use Rattle.der_model.specs.Structures.{is_single, is_constructed}
use Rattle.der_writer.specs.Measured.{holds_leaf, is_plain}
use Rattle.der_writer.specs.inner.PieceOctets.{Before, Begun, Filled, before_of, element_head, empty_slots, first_leaf, head, item_head, left_behind, len_kept, list_head, own_slot, piece_octets, pieces_octets, plain_edge, sequence_slots, slots_between}
use Rattle.der_writer.specs.inner.Measuring.{before_place, behind_piece, left_there, len_there, octets_at, octets_there}
use Rattle.der_writer.proofs.PlainHeads.{plain_leaf, plain_single}
use Rattle.der_writer.proofs.Whole.{octets_on}

-- the slot of a plain element is one of its parent's
slot_there : (o : Option (Slot ℕ)) (f : Form ℕ Simple) → is_plain o f ≡ true → (s : Slot ℕ) × (o ≡ Some s)
slot_there None f plain = absurd cc
slot_there (Some s) f plain = (s, refl)

-- so its number is small
pub few_slots : (g : Graph ℕ Simple) (e : Edge) → AreSound g → plain_edge g e ≡ true → e.slot < 16384
few_slots g e sound plain =
    let (s, there) = slot_there (own_slot g e) (g e.target) plain in
    let within = slice_get_within (form_slots (g e.parent)) e.slot s there in
    let few = (sound e.parent).short in
    omega (arith, within, few)

-- no list begins with it
plain_list : (o : Option (Slot ℕ)) (f : Form ℕ Simple) (b : Before) (k group : ℕ) → is_plain o f ≡ true → list_head o b k group ≡ []
plain_list None f b k group plain = refl
plain_list (Some s) f b k group plain = cond-true (is_single s) _ _ (plain_single s f plain)

-- its head is that of a primitive value
leaf_primitive : (f : Form ℕ Simple) → holds_leaf f ≡ true → is_constructed f ≡ false
leaf_primitive (form.Simple simple) leaf = refl
leaf_primitive form.Envelope leaf = refl
leaf_primitive (form.Sequence slots) leaf = absurd cc
leaf_primitive (form.Choice slots) leaf = absurd cc
leaf_primitive (form.Money code number) leaf = absurd cc
leaf_primitive form.LeftOut leaf = absurd cc
leaf_primitive form.Missing leaf = absurd cc

plain_head : (o : Option (Slot ℕ)) (f : Form ℕ Simple) (k len : ℕ) → is_plain o f ≡ true → element_head o f k len ≡ head false (context k) len
plain_head None f k len plain = absurd cc
plain_head (Some s) f k len plain = cond-true (is_single s) (head (is_constructed f) (context k) len) (item_head f len) (plain_single s f plain) ∙ ap (λ c. head c (context k) len) (leaf_primitive f (plain_leaf s f plain))

-- its leaf has no tag of its own, and no slots stand behind it
leaf_alone : (f : Form ℕ Simple) (leaf : Leaf) → holds_leaf f ≡ true → (first_leaf f leaf ≡ leaf_contents leaf) × (sequence_slots f ≡ [])
leaf_alone (form.Simple simple) leaf holds = (refl, refl)
leaf_alone form.Envelope leaf holds = (refl, refl)
leaf_alone (form.Sequence slots) leaf holds = absurd cc
leaf_alone (form.Choice slots) leaf holds = absurd cc
leaf_alone (form.Money code number) leaf holds = absurd cc
leaf_alone form.LeftOut leaf holds = absurd cc
leaf_alone form.Missing leaf holds = absurd cc

plain_alone : (o : Option (Slot ℕ)) (f : Form ℕ Simple) (leaf : Leaf) → is_plain o f ≡ true → (first_leaf f leaf ≡ leaf_contents leaf) × (sequence_slots f ≡ [])
plain_alone None f leaf plain = absurd cc
plain_alone (Some s) f leaf plain = leaf_alone f leaf (plain_leaf s f plain)

-- what is written from a place on, by the piece that is there
module _ (g : Graph ℕ Simple) (held : Held) where
  abbrev ps : List Piece
  ps = held.region.pieces

  abbrev from : ℕ → ℕ → List ℕ
  from at left = pieces_octets g (before_place ps at) (drop at ps) held.lens held.groups left

  before_next : (at next : ℕ) (p : Piece) → next ≡ at + 1 → slice_get ps at ≡ Some p → before_place ps next ≡ before_of p
  before_next at next p e there = (let same : next ≡ suc at = omega (arith, e) in ap (before_place ps) same ∙ ap behind_piece there)

  from_piece : (at next left : ℕ) (b : Before) (p : Piece) → next ≡ at + 1 → before_place ps at ≡ b → slice_get ps at ≡ Some p
      → (len : ℕ) → len_kept g p (slice_get ps next) held.lens left ≡ len → from at left ≡ piece_octets g b p len (slice_index held.groups (left - 1)) ++ from next (left_behind g p left)
  from_piece at next left b p e before there len kept =
      let group = slice_index held.groups (left - 1) in
      let len_is : len_kept g p (slice_get ps (at + 1)) held.lens left ≡ len = ap (λ n. len_kept g p (slice_get ps n) held.lens left) (sym e) ∙ kept in
      let here : octets_at g held at left ≡ piece_octets g b p len group =
      ap (λ o. octets_there g (before_place ps at) o (len_there g o (slice_get ps (at + 1)) held.lens left) group) there
      ∙ ap₂ (λ c n. piece_octets g c p n group) before len_is in
      octets_on g held at left (slice_get_within ps at p there)
      ∙ ap₂ (λ x y. x ++ y) here (ap₂ (λ n o. from n (left_there g o left)) (sym e) there)

  -- the slots before it, and its leaf under the tag of its slot
  module _ (at left : ℕ) (edge : Edge) (leaf : Leaf) (is : IsLeafElement ps at edge leaf) (plain : plain_edge g edge ≡ true) where
    abbrev len : ℕ
    len = length (leaf_contents leaf)

    abbrev between : List ℕ
    between = slots_between g edge.parent (before_place ps at) edge.slot

    begin_is : (group : ℕ) → piece_octets g (before_place ps at) (Begins edge) len group ≡ between ++ head false (context edge.slot) len
    begin_is group =
        ap₂ (λ x y. (between ++ x) ++ y) (plain_list (own_slot g edge) (g edge.target) (before_place ps at) edge.slot group plain) (plain_head (own_slot g edge) (g edge.target) edge.slot len plain)
        ∙ ap (λ x. x ++ head false (context edge.slot) len) (append-nil between)

    behind_begin : from at left ≡ (between ++ head false (context edge.slot) len) ++ from (at + 1) left
    behind_begin =
        let len_is : len_kept g (Begins edge) (slice_get ps (at + 1)) held.lens left ≡ len =
        ap (λ o. len_kept g (Begins edge) o held.lens left) is.holds ∙ cond-true (plain_edge g edge) len (slice_index held.lens (left - 1)) plain in
        let left_is : left_behind g (Begins edge) left ≡ left = cond-true (plain_edge g edge) left (left - 1) plain in
        from_piece at (at + 1) left (before_place ps at) (Begins edge) refl refl is.begins len len_is
        ∙ ap₂ (λ x l. x ++ from (at + 1) l) (begin_is (slice_index held.groups (left - 1))) left_is

    alone : (first_leaf (g edge.target) leaf ≡ leaf_contents leaf) × (sequence_slots (g edge.target) ≡ [])
    alone = plain_alone (own_slot g edge) (g edge.target) leaf plain

    behind_leaf : from (at + 1) left ≡ leaf_contents leaf ++ from (at + 2) left
    behind_leaf =
        from_piece (at + 1) (at + 2) left (Begun edge) (Holds leaf) (omega arith) (before_next at (at + 1) (Begins edge) refl is.begins) is.holds 0 refl
        ∙ ap (λ x. x ++ from (at + 2) left) alone.0

    behind_end : from (at + 2) left ≡ from (at + 3) left
    behind_end =
        from_piece (at + 2) (at + 3) left Filled (Ends edge) (omega arith) (before_next (at + 1) (at + 2) (Holds leaf) (omega arith) is.holds) is.ends 0 refl
        ∙ ap (λ s. empty_slots 0 (drop 0 s) ++ from (at + 3) left) alone.1

    pub plain_octets : from at left ≡ (between ++ (head false (context edge.slot) len ++ leaf_contents leaf)) ++ from (at + 3) left
    plain_octets =
        behind_begin
        ∙ (ap (λ x. (between ++ head false (context edge.slot) len) ++ x) (behind_leaf ∙ ap (λ x. leaf_contents leaf ++ x) behind_end)
        ∙ (sym (append_assoc (between ++ head false (context edge.slot) len) (leaf_contents leaf) (from (at + 3) left))
        ∙ ap (λ x. x ++ from (at + 3) left) (append_assoc between (head false (context edge.slot) len) (leaf_contents leaf))))
