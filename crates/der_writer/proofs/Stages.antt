-- What the pass over pieces knows behind the pieces of a value: the numbers that belong beside them, and the elements that stand open.
use Rattle.std.proofs.Common.{◌≡◌, ◌≢◌, ℕ, zero, suc, ◌+◌, ◌-◌, Bool, true, false, List, [], ◌∷◌, ◌++◌, length, replicate, drop, Option, Some, None, refl, sym, ap, ap₂, ◌∙◌, subst, arith, append_assoc, length-append, eqb, ◌⊎◌, inl, inr}
use Rattle.std.specs.Prelude.{slice_get, if◌then◌else◌, ◌==◌}
use Rattle.std.proofs.lemmas.Bool.Decides.{eqb_tells}
use Rattle.std.proofs.lemmas.Bool.{cond-true, cond-false}
use Rattle.data_types.specs.Value.{Value, Children, Edge, Piece, Begins, Holds, Ends}
use Rattle.data_types.specs.Value as value
use Rattle.facets.specs.declared.simple.Simple.{Simple}
use Rattle.der_octets.specs.Octets.{Nothing, octets}
use Rattle.fragments.specs.Fragment.{fragment}
use Rattle.reference_check.specs.Forms.{Graph, Form, Slot, form_slots}
use Rattle.reference_check.specs.Forms as form
use Rattle.message_model.specs.Admits.{AdmitsAs, AdmitsChildren, numbers_of}
use Rattle.message_model.specs.Tables.{Tables, types_of, edge_at, pieces, child_pieces}
use Rattle.der_model.specs.DerMessage.{DerMessage, der_message}
use Rattle.der_model.specs.Der.{body, values_at}
use Rattle.der_model.proofs.ChildLists.{values_none}
use Rattle.der_writer.specs.Measured.{Beside, Free, contents_octets, counts_of, is_plain, slot_octets, value_counts, child_counts}
use Rattle.der_writer.specs.inner.PieceOctets.{Before, Begun, Filled, Ended, element_head, begin_octets, piece_octets, plain_edge, counted_octets, len_of, group_of}
use Rattle.der_writer.specs.inner.Passes.{Frame, Stage, following, innermost_frame, piece_step, stage}
use Rattle.der_writer.proofs.OctetLemmas.{body_fits}
use Rattle.der_writer.proofs.PlainHeads.{counted_begin, counts_same, no_other, plain_at}
use Rattle.der_writer.proofs.ChildOctets.{Comes, comes_on, slot_from}
use Rattle.der_writer.proofs.ValueOctets.{value_octets}

-- the sum is that of what is written by the numbers
pub sum_is : (g : Graph ℕ Simple) (b : Before) (ps : List Piece) → (stage g b ps).sum ≡ length (counted_octets g b ps (stage g b ps).beside)
sum_is g b [] = refl
sum_is g b (Begins e ∷ ps) =
    let r = stage g (Begun e) ps in
    let len = r.sum - (innermost_frame r.frames).behind in
    let group = length (begin_octets g e len) + len + (innermost_frame r.frames).following in
    let counts = counts_of (plain_edge g e) len group in
    let front = piece_octets g b (Begins e) (len_of counts) (group_of counts) in
    ap₂ (λ x n. length x + n) (sym (counted_begin g b e len group)) (sum_is g (Begun e) ps) ∙ sym (length-append front (counted_octets g (Begun e) ps r.beside))
sum_is g b (Holds l ∷ ps) = ap (λ n. length (piece_octets g b (Holds l) 0 0) + n) (sum_is g Filled ps) ∙ sym (length-append (piece_octets g b (Holds l) 0 0) (counted_octets g Filled ps (stage g Filled ps).beside))
sum_is g b (Ends e ∷ ps) = ap (λ n. length (piece_octets g b (Ends e) 0 0) + n) (sum_is g (Ended e) ps) ∙ sym (length-append (piece_octets g b (Ends e) 0 0) (counted_octets g (Ended e) ps (stage g (Ended e) ps).beside))

module _ (T : Tables) where
  abbrev m : DerMessage ℕ
  m = der_message T

  abbrev g : Graph ℕ Simple
  g = types_of T

  none_before : (f : Form ℕ Simple) (e : Edge) (s : Slot ℕ) (j : ℕ) (w : Value) (more : Children) → Comes f (Ended e) (value.Child j w more) → j ≢ e.slot → values_at m e.slot s (value.Child j w more) ≡ Nothing
  none_before (form.Sequence slots) e s j w more (l, c, o) other = values_none m j (length slots) e.slot s (value.Child j w more) (omega arith, c, o) (omega arith)
  none_before (form.Choice slots) e s j w more (n, is) other = absurd (other (head n is))
    where
      head : (n : ℕ) → j ∷ numbers_of more ≡ replicate n e.slot → j ≡ e.slot
      head zero is = absurd cc
      head (suc n) is = cc
  none_before (form.Simple simple) e s j w more come other = absurd come
  none_before (form.Money code number) e s j w more come other = absurd come
  none_before form.Envelope e s j w more come other = absurd come
  none_before form.LeftOut e s j w more come other = absurd come
  none_before form.Missing e s j w more come other = absurd come

  edge_slot : (n j : ℕ) (o : Option (Slot ℕ)) → (edge_at n j o).slot ≡ j
  edge_slot n j None = refl
  edge_slot n j (Some s) = refl

  following_counts : (e : Edge) (ps : List Piece) (bs : List Beside) (p : Bool) (len group k : ℕ) → following (Begins e ∷ ps) (counts_of p len group ∷ bs) k ≡ (if e.slot == k then (if p then 0 else group) else 0)
  following_counts e ps bs true len group k = sym (no_other (e.slot == k))
  following_counts e ps bs false len group k = refl

  -- the octets of the slot that follow a child that is not plain
  follows : (n : ℕ) (f : Form ℕ Simple) (e : Edge) (s : Slot ℕ) (rest : Children) (E : List Piece) (B : List Beside) → g n ≡ f → slice_get (form_slots f) e.slot ≡ Some s → is_plain (Some s) (g s.target) ≡ false → Comes f (Ended e) rest → following E B e.slot ≡ 0
      → following (child_pieces fragment g n rest ++ E) (child_counts m n rest ++ B) e.slot ≡ length (octets (values_at m e.slot s rest))
  follows n f e s value.Nothing E B at found plain come none = none
  follows n f e s (value.Child j w more) E B at found plain come none =
      following_counts (edge_at n j slot) ((pieces fragment g (edge_at n j slot).target w ++ (Ends (edge_at n j slot) ∷ child_pieces fragment g n more)) ++ E) ((value_counts m (edge_at n j slot).target w ++ (Free ∷ child_counts m n more)) ++ B)
      (is_plain slot (g (edge_at n j slot).target)) (length (contents_octets (body m (g (edge_at n j slot).target) w))) (length (slot_octets m j slot (value.Child j w more))) e.slot
      ∙ (ap (λ z. if z == e.slot then (if is_plain slot (g (edge_at n j slot).target) then 0 else length (slot_octets m j slot (value.Child j w more))) else 0) (edge_slot n j slot) ∙ go (eqb_tells j e.slot))
    where
      slot : Option (Slot ℕ)
      slot = slice_get (form_slots (g n)) j

      counted : Option (Slot ℕ) → ℕ → ℕ
      counted o i = if is_plain o (g (edge_at n i o).target) then 0 else length (slot_octets m i o (value.Child j w more))

      go : ((eqb j e.slot ≡ true) × (j ≡ e.slot)) ⊎ ((eqb j e.slot ≡ false) × (j ≢ e.slot)) → (if j == e.slot then counted slot j else 0) ≡ length (octets (values_at m e.slot s (value.Child j w more)))
      go (inl t) =
          cond-true (j == e.slot) _ 0 t.0
          ∙ (ap (λ z. counted (slice_get (form_slots (g n)) z) z) t.1
          ∙ (ap (λ z. counted (slice_get (form_slots z) e.slot) e.slot) at
          ∙ (ap (λ z. counted z e.slot) found ∙ cond-false (is_plain (Some s) (g s.target)) 0 _ plain)))
      go (inr t) = cond-false (j == e.slot) _ 0 t.0 ∙ sym (ap (λ z. length (octets z)) (none_before f e s j w more come t.1))

  -- the pass at the beginning of an element, where it knows what stands in it and behind it
  begins : (b : Before) (e : Edge) (ps : List Piece) (r : Stage) (x : ℕ) (frame : Frame) (F : List Frame) (bs : List Beside) → r.sum ≡ x + frame.behind → r.frames ≡ frame ∷ F → r.beside ≡ bs
      → ((piece_step g b (Begins e) ps r).beside ≡ counts_of (plain_edge g e) x (length (begin_octets g e x) + x + frame.following) ∷ bs) × ((piece_step g b (Begins e) ps r).frames ≡ F)
  begins b e ps r x frame F bs sum frames beside =
      let difference : x + frame.behind - frame.behind ≡ x = omega arith in
      let len : r.sum - (innermost_frame r.frames).behind ≡ x = ap₂ (λ a fs. a - (innermost_frame fs).behind) sum frames ∙ difference in
      (ap₂ (λ c t. c ∷ t) (ap₂ (λ l fs. counts_of (plain_edge g e) l (length (begin_octets g e l) + l + (innermost_frame fs).following)) len frames) beside, ap (drop 1) frames)

  -- what the pass knows in front of children, where it is known in front of the end of their element
  abbrev IsStaged : Before → List Piece → List Beside → List Frame → Type 0
  IsStaged b ps bs F = ((stage g b ps).beside ≡ bs) × ((stage g b ps).frames ≡ F)

  module _ (n k : ℕ) (v : Value) (rest : Children) (s : Slot ℕ) (f : Form ℕ Simple) (b : Before) (E : List Piece) (B : List Beside) (F : List Frame) where
    abbrev edge : Edge
    edge = edge_at n k (Some s)

    abbrev contents : List ℕ
    contents = contents_octets (body m (g s.target) v)

    abbrev behind : List Piece
    behind = child_pieces fragment g n rest ++ E

    abbrev later : Stage
    later = stage g (Ended edge) behind

    abbrev frame : Frame
    frame = record { behind = later.sum; following = following behind later.beside edge.slot }

    abbrev IsChildStaged : Option (Slot ℕ) → Type 0
    IsChildStaged o = IsStaged b ((Begins (edge_at n k o) ∷ (pieces fragment g (edge_at n k o).target v ++ (Ends (edge_at n k o) ∷ child_pieces fragment g n rest))) ++ E)
        ((counts_of (is_plain o (g (edge_at n k o).target)) (length (contents_octets (body m (g (edge_at n k o).target) v))) (length (slot_octets m k o (value.Child k v rest))) ∷ (value_counts m (edge_at n k o).target v ++ (Free ∷ child_counts m n rest))) ++ B) F

    -- the octets of the slot from the child on
    group_is : g n ≡ f → slice_get (form_slots f) k ≡ Some s → is_plain (Some s) (g s.target) ≡ false → AdmitsAs g (g s.target) v → Comes f (Ended edge) rest → following E B k ≡ 0 → later.beside ≡ child_counts m n rest ++ B
        → length (begin_octets g edge (length contents)) + length contents + following behind later.beside k ≡ length (octets (values_at m k s (value.Child k v rest)))
    group_is at there plain a come none beside =
        let found : slice_get (form_slots (g n)) k ≡ Some s = subst (λ z. slice_get (form_slots z) k ≡ Some s) (sym at) there in
        let head = element_head (Some s) (g s.target) k (length contents) in
        let own : length (begin_octets g edge (length contents)) ≡ length head = ap (λ z. length (element_head z (g s.target) k (length contents))) found in
        let next : following behind later.beside k ≡ length (octets (values_at m k s rest)) = ap (λ z. following behind z k) beside ∙ follows n f edge s rest E B at there plain come none in
        let all : length (octets (values_at m k s (value.Child k v rest))) ≡ length (head ++ (contents ++ octets (values_at m k s rest))) = ap length (slot_from m v rest edge s (body_fits m (g s.target) v a)) in
        let one = length-append head (contents ++ octets (values_at m k s rest)) in
        let two = length-append contents (octets (values_at m k s rest)) in
        omega (arith, own, next, all, one, two)

    child_staged : g n ≡ f → slice_get (form_slots f) k ≡ Some s → AdmitsAs g (g s.target) v → Comes f (Ended edge) rest → following E B k ≡ 0
        → IsStaged (Begun edge) (pieces fragment g s.target v ++ (Ends edge ∷ behind)) (value_counts m s.target v ++ (Free ∷ later.beside)) (frame ∷ later.frames)
        → IsStaged (Ended edge) behind (child_counts m n rest ++ B) F
        → IsStaged b (child_pieces fragment g n (value.Child k v rest) ++ E) (child_counts m n (value.Child k v rest) ++ B) F
    child_staged at there a come none inside after =
        let found : slice_get (form_slots (g n)) k ≡ Some s = subst (λ z. slice_get (form_slots z) k ≡ Some s) (sym at) there in
        let regrouped = append_assoc (pieces fragment g s.target v) (Ends edge ∷ child_pieces fragment g n rest) E in
        let r = stage g (Begun edge) (pieces fragment g s.target v ++ (Ends edge ∷ behind)) in
        let whole = counted_octets g (Begun edge) (pieces fragment g s.target v ++ (Ends edge ∷ behind)) in
        let sum : r.sum ≡ length contents + later.sum =
        sum_is g (Begun edge) (pieces fragment g s.target v ++ (Ends edge ∷ behind))
        ∙ (ap (λ z. length (whole z)) inside.0
        ∙ (ap length (value_octets T s.target (g s.target) v edge behind later.beside refl refl a)
        ∙ (length-append contents (counted_octets g (Ended edge) behind later.beside)
        ∙ ap (λ z. length contents + z) (sym (sum_is g (Ended edge) behind))))) in
        let bs : value_counts m s.target v ++ (Free ∷ later.beside) ≡ (value_counts m s.target v ++ (Free ∷ child_counts m n rest)) ++ B =
        ap (λ z. value_counts m s.target v ++ (Free ∷ z)) after.0 ∙ sym (append_assoc (value_counts m s.target v) (Free ∷ child_counts m n rest) B) in
        let done = begins b edge (pieces fragment g s.target v ++ (Ends edge ∷ behind)) r (length contents) frame F ((value_counts m s.target v ++ (Free ∷ child_counts m n rest)) ++ B)
        sum (inside.1 ∙ ap (λ z. frame ∷ z) after.1) (inside.0 ∙ bs) in
        let own_group = length (begin_octets g edge (length contents)) + length contents + frame.following in
        let plain_is : plain_edge g edge ≡ is_plain (Some s) (g s.target) = plain_at g n k (Some s) found in
        let one : IsChildStaged (Some s) =
        subst (λ z. IsStaged b (Begins edge ∷ z) (counts_of (is_plain (Some s) (g s.target)) (length contents) (length (octets (values_at m k s (value.Child k v rest)))) ∷ ((value_counts m s.target v ++ (Free ∷ child_counts m n rest)) ++ B)) F) (sym regrouped)
        (done.0 ∙ ap (λ z. z ∷ ((value_counts m s.target v ++ (Free ∷ child_counts m n rest)) ++ B)) (ap (λ p. counts_of p (length contents) own_group) plain_is ∙ counts_same (is_plain (Some s) (g s.target)) (length contents) own_group _ (λ plain. group_is at there plain a come none after.0)), done.1) in
        subst IsChildStaged (sym found) one

  mutual
    pub value_staged : (t : ℕ) (f : Form ℕ Simple) (v : Value) (e : Edge) (ps : List Piece) → g t ≡ f → e.target ≡ t → AdmitsAs g f v
        → IsStaged (Begun e) (pieces fragment g t v ++ (Ends e ∷ ps)) (value_counts m t v ++ (Free ∷ (stage g (Ended e) ps).beside))
        (record { behind = (stage g (Ended e) ps).sum; following = following ps (stage g (Ended e) ps).beside e.slot } ∷ (stage g (Ended e) ps).frames)
    value_staged t (form.Sequence slots) (value.Component cs) e ps at same a =
        children_staged t (form.Sequence slots) cs (Begun e) (Ends e ∷ ps) (Free ∷ (stage g (Ended e) ps).beside) _ at a.1 a.0.ordered (λ k. refl) (λ c. (refl, refl))
    value_staged t (form.Choice slots) (value.Component cs) e ps at same ((k, n, s, found, within, is), more) =
        children_staged t (form.Choice slots) cs (Begun e) (Ends e ∷ ps) (Free ∷ (stage g (Ended e) ps).beside) _ at more (k, n, is) (λ k. refl) (λ c. (refl, refl))
    value_staged t (form.Simple simple) (value.Simple l) e ps at same a = (refl, refl)
    value_staged t (form.Money code number) (value.Amount l n) e ps at same a = (refl, refl)
    value_staged t form.Envelope (value.External tree) e ps at same a = (refl, refl)
    value_staged t (form.Sequence slots) v e ps at same a = absurd a
    value_staged t (form.Choice slots) v e ps at same a = absurd a
    value_staged t (form.Simple simple) v e ps at same a = absurd a
    value_staged t (form.Money code number) v e ps at same a = absurd a
    value_staged t form.Envelope v e ps at same a = absurd a
    value_staged t form.LeftOut v e ps at same a = absurd a
    value_staged t form.Missing v e ps at same a = absurd a

    pub children_staged : (n : ℕ) (f : Form ℕ Simple) (cs : Children) (b : Before) (E : List Piece) (B : List Beside) (F : List Frame) → g n ≡ f → AdmitsChildren g (form_slots f) cs → Comes f b cs
        → ((k : ℕ) → following E B k ≡ 0) → ((c : Before) → IsStaged c E B F) → IsStaged b (child_pieces fragment g n cs ++ E) (child_counts m n cs ++ B) F
    children_staged n f value.Nothing b E B F at a come none ends = ends b
    children_staged n f (value.Child k v rest) b E B F at ((s, there, a), more) come none ends =
        let on = comes_on m v rest (edge_at n k (Some s)) s (body_fits m (g s.target) v a) f b come in
        child_staged n k v rest s f b E B F at there a on (none k)
        (value_staged s.target (g s.target) v (edge_at n k (Some s)) (child_pieces fragment g n rest ++ E) refl refl a)
        (children_staged n f rest (Ended (edge_at n k (Some s))) E B F at more on none ends)
