-- What is written at the pieces of a value, by the numbers that belong beside them, is its contents.
use Rattle.std.proofs.Common.{◌≡◌, ℕ, ◌-◌, false, List, [], ◌∷◌, ◌++◌, length, take, drop, Option, Some, refl, sym, ap, ap₂, ◌∙◌, subst, append_assoc}
use Rattle.std.specs.Prelude.{slice_get}
use Rattle.data_types.specs.Leaf.{Leaf}
use Rattle.data_types.specs.Leaf as leaf
use Rattle.data_types.specs.Value.{Value, Children, Edge, Piece, Begins, Ends}
use Rattle.data_types.specs.Value as value
use Rattle.facets.specs.declared.simple.Simple.{Simple}
use Rattle.der_octets.specs.Octets.{context, wrapped, identifier, octets}
use Rattle.fragments.specs.Fragment.{fragment}
use Rattle.reference_check.specs.Forms.{Graph, Form, Slot, form_slots}
use Rattle.reference_check.specs.Forms as form
use Rattle.message_model.specs.Admits.{AdmitsAs, AdmitsChildren}
use Rattle.message_model.specs.Tables.{Tables, types_of, edge_at, pieces, child_pieces}
use Rattle.der_model.specs.LeafContents.{leaf_contents}
use Rattle.der_model.specs.DerMessage.{DerMessage, der_message}
use Rattle.der_model.specs.Der.{body, values_at}
use Rattle.der_writer.specs.Measured.{Beside, Free, contents_octets, counts_of, is_plain, slot_octets, value_counts, child_counts}
use Rattle.der_writer.specs.inner.PieceOctets.{Before, Begun, Filled, Ended, next_slot, empty_slots, sequence_slots, slots_behind, list_head, element_head, tagged_leaf, first_leaf, group_of, len_of, piece_octets, plain_edge, counted_octets}
use Rattle.der_writer.proofs.OctetLemmas.{wrapped_is, body_fits}
use Rattle.der_writer.proofs.PlainHeads.{counted_begin, plain_at}
use Rattle.der_writer.proofs.ChildOctets.{rest_octets, Comes, child_octets, comes_on, rest_none}

module _ (T : Tables) where
  abbrev pub m : DerMessage ℕ
  m = der_message T

  abbrev pub g : Graph ℕ Simple
  g = types_of T

  -- the octets at the child's beginning
  begin_at : (n k : ℕ) (s : Slot ℕ) (f : Form ℕ Simple) (b : Before) (len group : ℕ) → g n ≡ f → slice_get (form_slots f) k ≡ Some s
      → piece_octets g b (Begins (edge_at n k (Some s))) len group
      ≡ (empty_slots (next_slot b) (take (k - next_slot b) (drop (next_slot b) (sequence_slots f))) ++ list_head (Some s) b k group) ++ element_head (Some s) (g s.target) k len
  begin_at n k s f b len group at found =
      let one = λ (z : Form ℕ Simple) (o : Option (Slot ℕ)). (empty_slots (next_slot b) (take (k - next_slot b) (drop (next_slot b) (sequence_slots z))) ++ list_head o b k group) ++ element_head o (g s.target) k len in
      ap (λ z. one z (slice_get (form_slots z) k)) at ∙ ap (one f) found

  regroup : (a b c d x : List ℕ) → (a ++ b) ++ (c ++ (d ++ x)) ≡ (a ++ (b ++ (c ++ d))) ++ x
  regroup a b c d x = simp append_assoc refl

  -- a child, where what stands in it and behind it is known
  module _ (n k : ℕ) (v : Value) (rest : Children) (s : Slot ℕ) (f : Form ℕ Simple) (b : Before) (E : List Piece) (bs : List Beside) (X : List ℕ) where
    abbrev edge : Edge
    edge = edge_at n k (Some s)

    abbrev contents : List ℕ
    contents = contents_octets (body m (g s.target) v)

    abbrev group : ℕ
    group = length (octets (values_at m k s (value.Child k v rest)))

    abbrev front : List ℕ
    front = empty_slots (next_slot b) (take (k - next_slot b) (drop (next_slot b) (sequence_slots f))) ++ list_head (Some s) b k group

    abbrev IsWritten : Option (Slot ℕ) → Type 0
    IsWritten o = counted_octets g b ((Begins (edge_at n k o) ∷ (pieces fragment g (edge_at n k o).target v ++ (Ends (edge_at n k o) ∷ child_pieces fragment g n rest))) ++ E)
        ((counts_of (is_plain o (g (edge_at n k o).target)) (length (contents_octets (body m (g (edge_at n k o).target) v))) (length (slot_octets m k o (value.Child k v rest))) ∷ (value_counts m (edge_at n k o).target v ++ (Free ∷ child_counts m n rest))) ++ bs)
        ≡ rest_octets m f b (value.Child k v rest) ++ X

    child_step : g n ≡ f → slice_get (form_slots f) k ≡ Some s → AdmitsAs g (g s.target) v → Comes f b (value.Child k v rest)
        → ((ps : List Piece) (cs : List Beside) → counted_octets g (Begun edge) (pieces fragment g s.target v ++ (Ends edge ∷ ps)) (value_counts m s.target v ++ (Free ∷ cs)) ≡ contents ++ counted_octets g (Ended edge) ps cs)
        → counted_octets g (Ended edge) (child_pieces fragment g n rest ++ E) (child_counts m n rest ++ bs) ≡ rest_octets m f (Ended edge) rest ++ X
        → counted_octets g b (child_pieces fragment g n (value.Child k v rest) ++ E) (child_counts m n (value.Child k v rest) ++ bs) ≡ rest_octets m f b (value.Child k v rest) ++ X
    child_step at there a come here behind =
        let found : slice_get (form_slots (g n)) k ≡ Some s = subst (λ z. slice_get (form_slots z) k ≡ Some s) (sym at) there in
        let inside : counted_octets g (Begun edge) ((pieces fragment g s.target v ++ (Ends edge ∷ child_pieces fragment g n rest)) ++ E) ((value_counts m s.target v ++ (Free ∷ child_counts m n rest)) ++ bs) ≡ contents ++ (rest_octets m f (Ended edge) rest ++ X) =
        ap₂ (counted_octets g (Begun edge)) (append_assoc (pieces fragment g s.target v) (Ends edge ∷ child_pieces fragment g n rest) E) (append_assoc (value_counts m s.target v) (Free ∷ child_counts m n rest) bs)
        ∙ (here (child_pieces fragment g n rest ++ E) (child_counts m n rest ++ bs) ∙ ap (λ z. contents ++ z) behind) in
        let plain_is : is_plain (Some s) (g s.target) ≡ plain_edge g edge = sym (plain_at g n k (Some s) found) in
        let begun = λ (p : _). piece_octets g b (Begins edge) (len_of (counts_of p (length contents) group)) (group_of (counts_of p (length contents) group)) in
        let one : IsWritten (Some s) =
        ap₂ (λ x y. x ++ y) (ap begun plain_is ∙ (counted_begin g b edge (length contents) group ∙ begin_at n k s f b (length contents) group at there)) inside
        ∙ (regroup front (element_head (Some s) (g s.target) k (length contents)) contents (rest_octets m f (Ended edge) rest) X
        ∙ ap (λ z. z ++ X) (sym (child_octets m v rest edge s (body_fits m (g s.target) v a) f b there come))) in
        subst IsWritten (sym found) one

  -- a leaf alone in its element
  leaf_alone : (e : Edge) (f : Form ℕ Simple) (l : Leaf) (X : List ℕ) → g e.target ≡ f → sequence_slots f ≡ [] → first_leaf f l ≡ leaf_contents l → first_leaf (g e.target) l ++ (slots_behind g e.target Filled ++ X) ≡ leaf_contents l ++ X
  leaf_alone e f l X at none own =
      ap (λ z. first_leaf z l ++ (empty_slots 0 (drop 0 (sequence_slots z)) ++ X)) at ∙ ap₂ (λ a z. a ++ (empty_slots 0 (drop 0 z) ++ X)) own none

  amount_leaves : (e : Edge) (f : Form ℕ Simple) (l n : Leaf) (X : List ℕ) → g e.target ≡ f → sequence_slots f ≡ [] → first_leaf f l ≡ tagged_leaf 0 l
      → first_leaf (g e.target) l ++ (tagged_leaf 1 n ++ (slots_behind g e.target Filled ++ X))
      ≡ (wrapped (identifier false (context 0)) (leaf_contents l) ++ (wrapped (identifier false (context 1)) (leaf_contents n) ++ [])) ++ X
  amount_leaves e f l n X at none own =
      ap (λ z. first_leaf z l ++ (tagged_leaf 1 n ++ (empty_slots 0 (drop 0 (sequence_slots z)) ++ X))) at
      ∙ (ap₂ (λ a z. a ++ (tagged_leaf 1 n ++ (empty_slots 0 (drop 0 z) ++ X))) own none
      ∙ (both (tagged_leaf 0 l) (tagged_leaf 1 n) X ∙ ap₂ (λ a z. (a ++ (z ++ [])) ++ X) (sym (wrapped_is false (context 0) (leaf_contents l))) (sym (wrapped_is false (context 1) (leaf_contents n)))))
    where
      both : (a c x : List ℕ) → a ++ (c ++ x) ≡ (a ++ (c ++ [])) ++ x
      both a c x = simp append_assoc refl

  mutual
    pub value_octets : (t : ℕ) (f : Form ℕ Simple) (v : Value) (e : Edge) (ps : List Piece) (bs : List Beside) → g t ≡ f → e.target ≡ t → AdmitsAs g f v
        → counted_octets g (Begun e) (pieces fragment g t v ++ (Ends e ∷ ps)) (value_counts m t v ++ (Free ∷ bs)) ≡ contents_octets (body m f v) ++ counted_octets g (Ended e) ps bs
    value_octets t (form.Sequence slots) (value.Component cs) e ps bs at same a =
        children_octets t (form.Sequence slots) cs (Begun e) (Ends e ∷ ps) (Free ∷ bs) (counted_octets g (Ended e) ps bs) at a.1 a.0.ordered (λ b. ap (λ z. slots_behind g z b ++ counted_octets g (Ended e) ps bs) same)
    value_octets t (form.Choice slots) (value.Component cs) e ps bs at same ((k, n, s, found, within, is), more) =
        children_octets t (form.Choice slots) cs (Begun e) (Ends e ∷ ps) (Free ∷ bs) (counted_octets g (Ended e) ps bs) at more (k, n, is) (λ b. ap (λ z. slots_behind g z b ++ counted_octets g (Ended e) ps bs) same)
    value_octets t (form.Simple simple) (value.Simple l) e ps bs at same a = leaf_alone e (form.Simple simple) l (counted_octets g (Ended e) ps bs) (ap g same ∙ at) refl refl
    value_octets t (form.Money code number) (value.Amount l n) e ps bs at same a = amount_leaves e (form.Money code number) l (leaf.Number n) (counted_octets g (Ended e) ps bs) (ap g same ∙ at) refl refl
    value_octets t form.Envelope (value.External tree) e ps bs at same a = leaf_alone e form.Envelope (leaf.Bytes (fragment tree)) (counted_octets g (Ended e) ps bs) (ap g same ∙ at) refl refl
    value_octets t (form.Sequence slots) v e ps bs at same a = absurd a
    value_octets t (form.Choice slots) v e ps bs at same a = absurd a
    value_octets t (form.Simple simple) v e ps bs at same a = absurd a
    value_octets t (form.Money code number) v e ps bs at same a = absurd a
    value_octets t form.Envelope v e ps bs at same a = absurd a
    value_octets t form.LeftOut v e ps bs at same a = absurd a
    value_octets t form.Missing v e ps bs at same a = absurd a

    -- children, where the end of their element is known, whatever stands before it
    pub children_octets : (n : ℕ) (f : Form ℕ Simple) (cs : Children) (b : Before) (E : List Piece) (bs : List Beside) (X : List ℕ) → g n ≡ f → AdmitsChildren g (form_slots f) cs → Comes f b cs
        → ((c : Before) → counted_octets g c E bs ≡ slots_behind g n c ++ X)
        → counted_octets g b (child_pieces fragment g n cs ++ E) (child_counts m n cs ++ bs) ≡ rest_octets m f b cs ++ X
    children_octets n f value.Nothing b E bs X at a come ends = ends b ∙ ap (λ z. z ++ X) (ap (λ z. empty_slots (next_slot b) (drop (next_slot b) (sequence_slots z))) at ∙ sym (rest_none m f b))
    children_octets n f (value.Child k v rest) b E bs X at ((s, there, a), more) come ends =
        child_step n k v rest s f b E bs X at there a come
        (λ ps cs. value_octets s.target (g s.target) v (edge_at n k (Some s)) ps cs refl refl a)
        (children_octets n f rest (Ended (edge_at n k (Some s))) E bs X at more (comes_on m v rest (edge_at n k (Some s)) s (body_fits m (g s.target) v a) f b come) ends)
