-- The octets of a whole instance, by the numbers that are kept.
use Rattle.std.proofs.Common.{◌≡◌, ℕ, zero, suc, ◌+◌, ◌-◌, ◌≤◌, ◌<◌, Bool, true, false, List, [], ◌∷◌, ◌++◌, length, drop, Option, Some, None, refl, sym, ap, ap₂, ◌∙◌, subst, arith, append-nil, append_assoc}
use Rattle.std.specs.Prelude.{slice_get, slice_index}
use Rattle.std.proofs.lemmas.Bool.{cond-true, cond-false}
use Rattle.std.proofs.Math.ListN.{drop_of_length-le}
use Rattle.data_types.specs.Value.{Value, Children, Edge, Piece, Begins, Holds, Ends}
use Rattle.data_types.specs.Value as value
use Rattle.facets.specs.declared.simple.Simple.{Simple}
use Rattle.der_octets.specs.Octets.{universal, Nothing, Constructed, octets}
use Rattle.fragments.specs.Fragment.{fragment}
use Rattle.inst_pool.specs.Pieces.{Held}
use Rattle.reference_check.specs.Forms.{Graph, Form, Slot, form_slots}
use Rattle.reference_check.specs.Forms as form
use Rattle.message_model.specs.Admits.{AdmitsAs, AdmitsChildren}
use Rattle.message_model.specs.Sound.{HasRoot}
use Rattle.message_model.specs.Tables.{Tables, types_of, edge_at, pieces, child_pieces, pieces_of}
use Rattle.der_model.specs.DerMessage.{DerMessage, der_message}
use Rattle.der_model.specs.Der.{body, inner_of, der_of}
use Rattle.der_model.proofs.BegunSlots.{drop_get}
use Rattle.der_writer.specs.Measured.{Beside, Free, Sized, Counts, contents_octets, counts_of, holds_leaf, is_plain, slot_octets, value_counts, child_counts, ArePairsKept, IsMeasured}
use Rattle.der_writer.specs.inner.PieceOctets.{Before, Begun, before_of, head, document_edge, leaf_next, left_behind, len_kept, slots_behind, piece_octets, pieces_octets, plain_edge, counted_octets}
use Rattle.der_writer.specs.inner.Passes.{stage}
use Rattle.der_writer.specs.inner.Measuring.{AreBeside, AreSized, before_place, behind_piece, left_there, len_there, octets_at, octets_there, pairs_kept}
use Rattle.der_writer.proofs.OctetLemmas.{wrapped_is}
use Rattle.der_writer.proofs.PlainHeads.{group_free, plain_at, plain_leaf}
use Rattle.der_writer.proofs.StageBounds.{begun_beside}
use Rattle.der_writer.proofs.ValueOctets.{children_octets}
use Rattle.der_writer.proofs.Stages.{sum_is, children_staged}

-- then what is written by the numbers that are kept is what is written by those that belong to the pieces
pub numbers_agree : (g : Graph ℕ Simple) (b : Before) (ps : List Piece) (bs : List Beside) (held : Held) (n : ℕ) → AreBeside g ps bs → AreSized ps bs → ArePairsKept held n bs → pieces_octets g b ps held.lens held.groups n ≡ counted_octets g b ps bs
numbers_agree g b [] bs held n m z k = refl
numbers_agree g b (p ∷ ps) [] held n m z k = absurd m
numbers_agree g b (Begins e ∷ ps) (Free ∷ bs) held n m z k = absurd m
numbers_agree g b (Begins e ∷ ps) (Sized len ∷ bs) held n (plain, m) (size, z) k =
    let len_is : len_kept g (Begins e) (slice_get ps 0) held.lens n ≡ len = cond-true (plain_edge g e) (leaf_next (slice_get ps 0)) _ plain ∙ size in
    let left_is : left_behind g (Begins e) n ≡ n = cond-true (plain_edge g e) n (n - 1) plain in
    ap₂ (λ l left. piece_octets g b (Begins e) l (slice_index held.groups (n - 1)) ++ pieces_octets g (Begun e) ps held.lens held.groups left) len_is left_is
    ∙ ap₂ (λ x y. x ++ y) (group_free g b e len (slice_index held.groups (n - 1)) 0 plain) (numbers_agree g (Begun e) ps bs held n m z k)
numbers_agree g b (Begins e ∷ ps) (Counts len group ∷ bs) held zero m z k = absurd k
numbers_agree g b (Begins e ∷ ps) (Counts len group ∷ bs) held (suc n) (plain, m) z (l, r, k) =
    let last : suc n - 1 ≡ n = omega arith in
    let len_is : len_kept g (Begins e) (slice_get ps 0) held.lens (suc n) ≡ len = cond-false (plain_edge g e) _ (slice_index held.lens (suc n - 1)) plain ∙ (ap (slice_index held.lens) last ∙ l) in
    let left_is : left_behind g (Begins e) (suc n) ≡ n = cond-false (plain_edge g e) (suc n) (suc n - 1) plain ∙ last in
    ap₂ (λ l left. piece_octets g b (Begins e) l (slice_index held.groups (suc n - 1)) ++ pieces_octets g (Begun e) ps held.lens held.groups left) len_is left_is
    ∙ ap₂ (λ x y. x ++ y) (ap (piece_octets g b (Begins e) len) (ap (slice_index held.groups) last ∙ r)) (numbers_agree g (Begun e) ps bs held n m z k)
numbers_agree g b (Holds l ∷ ps) (Free ∷ bs) held n m z k = ap (λ y. piece_octets g b (Holds l) 0 0 ++ y) (numbers_agree g (before_of (Holds l)) ps bs held n m z k)
numbers_agree g b (Holds l ∷ ps) (Sized len ∷ bs) held n m z k = absurd m
numbers_agree g b (Holds l ∷ ps) (Counts len group ∷ bs) held n m z k = absurd m
numbers_agree g b (Ends e ∷ ps) (Free ∷ bs) held n m z k = ap (λ y. piece_octets g b (Ends e) 0 0 ++ y) (numbers_agree g (before_of (Ends e)) ps bs held n m z k)
numbers_agree g b (Ends e ∷ ps) (Sized len ∷ bs) held n m z k = absurd m
numbers_agree g b (Ends e ∷ ps) (Counts len group ∷ bs) held n m z k = absurd m

-- there are no more pairs than pieces to which they belong
pub kept_few : (held : Held) (n : ℕ) (bs : List Beside) → ArePairsKept held n bs → n ≤ length bs
kept_few held zero [] k = omega arith
kept_few held (suc n) [] k = absurd k
kept_few held n (Free ∷ bs) k = (let r = kept_few held n bs k in omega (arith, r))
kept_few held n (Sized len ∷ bs) k = (let r = kept_few held n bs k in omega (arith, r))
kept_few held zero (Counts len group ∷ bs) k = absurd k
kept_few held (suc n) (Counts len group ∷ bs) (l, r, k) = (let r = kept_few held n bs k in omega (arith, r))

pub octets_end : (g : Graph ℕ Simple) (b : Before) (ps : List Piece) (lens groups : List ℕ) (left at : ℕ) → length ps ≤ at → pieces_octets g b (drop at ps) lens groups left ≡ slots_behind g 0 b
octets_end g b ps lens groups left at l = ap (λ z. pieces_octets g b z lens groups left) (drop_of_length-le ps l)

-- a piece that is told at a place before the end is there
pub is_there : (at : ℕ) (ps : List Piece) → at < length ps → slice_get ps at ≡ None → ⊥
is_there at [] l e = absurd (omega arith)
is_there zero (p ∷ ps) l e = absurd cc
is_there (suc at) (p ∷ ps) l e = is_there at ps (omega arith) e

get_behind : (at : ℕ) (ps : List Piece) → slice_get (drop at ps) 0 ≡ slice_get ps at
get_behind zero ps = refl
get_behind (suc at) [] = refl
get_behind (suc at) (p ∷ ps) = get_behind at ps

-- what is written from a place on is what is written there and behind it
pub octets_on : (g : Graph ℕ Simple) (held : Held) (at left : ℕ) → at < length held.region.pieces
    → pieces_octets g (before_place held.region.pieces at) (drop at held.region.pieces) held.lens held.groups left
    ≡ octets_at g held at left ++ pieces_octets g (before_place held.region.pieces (at + 1)) (drop (at + 1) held.region.pieces) held.lens held.groups (left_there g (slice_get held.region.pieces at) left)
octets_on g held at left l = go (slice_get held.region.pieces at) refl
  where
    ps : List Piece
    ps = held.region.pieces

    go : (o : Option Piece) → slice_get ps at ≡ o
        → pieces_octets g (before_place ps at) (drop at ps) held.lens held.groups left
        ≡ octets_at g held at left ++ pieces_octets g (before_place ps (at + 1)) (drop (at + 1) ps) held.lens held.groups (left_there g (slice_get ps at) left)
    go None e = absurd (is_there at ps l e)
    go (Some p) e =
        let next : at + 1 ≡ suc at = omega arith in
        let before : before_place ps (at + 1) ≡ before_of p = ap (before_place ps) next ∙ ap behind_piece e in
        let behind : slice_get (drop (suc at) ps) 0 ≡ slice_get ps (at + 1) = get_behind (suc at) ps ∙ ap (slice_get ps) (sym next) in
        let group = slice_index held.groups (left - 1) in
        let here : piece_octets g (before_place ps at) p (len_kept g p (slice_get (drop (suc at) ps) 0) held.lens left) group ≡ octets_at g held at left =
        ap (λ z. piece_octets g (before_place ps at) p (len_kept g p z held.lens left) group) behind
        ∙ ap (λ o. octets_there g (before_place ps at) o (len_there g o (slice_get ps (at + 1)) held.lens left) group) (sym e) in
        ap (λ z. pieces_octets g (before_place ps at) z held.lens held.groups left) (drop_get ps at p e)
        ∙ ap₂ (λ x y. x ++ y) here
        (ap₂ (λ b o. pieces_octets g b (drop (suc at) ps) held.lens held.groups (left_there g o left)) (sym before) (sym e)
        ∙ ap (λ z. pieces_octets g (before_place ps (at + 1)) (drop z ps) held.lens held.groups (left_there g (slice_get ps at) left)) (sym next))

module _ (T : Tables) where
  abbrev m : DerMessage ℕ
  m = der_message T

  abbrev g : Graph ℕ Simple
  g = types_of T

  beside_then : (ps qs : List Piece) (bs cs : List Beside) → length ps ≡ length bs → AreBeside g ps bs → AreBeside g qs cs → AreBeside g (ps ++ qs) (bs ++ cs)
  beside_then [] qs [] cs l p q = q
  beside_then [] qs (b ∷ bs) cs l p q = absurd (omega arith)
  beside_then (p ∷ ps) qs [] cs l r q = absurd r
  beside_then (Begins e ∷ ps) qs (Free ∷ bs) cs l r q = absurd r
  beside_then (Begins e ∷ ps) qs (Sized len ∷ bs) cs l (h, r) q = (h, beside_then ps qs bs cs (omega arith) r q)
  beside_then (Begins e ∷ ps) qs (Counts len group ∷ bs) cs l (h, r) q = (h, beside_then ps qs bs cs (omega arith) r q)
  beside_then (Holds x ∷ ps) qs (Free ∷ bs) cs l r q = beside_then ps qs bs cs (omega arith) r q
  beside_then (Holds x ∷ ps) qs (Sized len ∷ bs) cs l r q = absurd r
  beside_then (Holds x ∷ ps) qs (Counts len group ∷ bs) cs l r q = absurd r
  beside_then (Ends e ∷ ps) qs (Free ∷ bs) cs l r q = beside_then ps qs bs cs (omega arith) r q
  beside_then (Ends e ∷ ps) qs (Sized len ∷ bs) cs l r q = absurd r
  beside_then (Ends e ∷ ps) qs (Counts len group ∷ bs) cs l r q = absurd r

  length-two : {A B : Type 0} (ps qs : List A) (bs cs : List B) → length ps ≡ length bs → length qs ≡ length cs → length (ps ++ qs) ≡ length (bs ++ cs)
  length-two [] qs [] cs l k = k
  length-two [] qs (b ∷ bs) cs l k = absurd (omega arith)
  length-two (p ∷ ps) qs [] cs l k = absurd (omega arith)
  length-two (p ∷ ps) qs (b ∷ bs) cs l k = ap suc (length-two ps qs bs cs (omega arith) k)

  mutual
    pub value_beside : (n : ℕ) (v : Value) → (length (pieces fragment g n v) ≡ length (value_counts m n v)) × AreBeside g (pieces fragment g n v) (value_counts m n v)
    value_beside n (value.Component cs) = child_beside n cs
    value_beside n (value.Simple l) = (refl, tt)
    value_beside n (value.Amount l x) = (refl, tt)
    value_beside n (value.External t) = (refl, tt)

    pub child_beside : (n : ℕ) (cs : Children) → (length (child_pieces fragment g n cs) ≡ length (child_counts m n cs)) × AreBeside g (child_pieces fragment g n cs) (child_counts m n cs)
    child_beside n value.Nothing = (refl, tt)
    child_beside n (value.Child k v rest) =
        let slot = slice_get (form_slots (g n)) k in
        let e = edge_at n k slot in
        let here = value_beside e.target v in
        let more = child_beside n rest in (
          ap suc (length-two (pieces fragment g e.target v) (Ends e ∷ child_pieces fragment g n rest) (value_counts m e.target v) (Free ∷ child_counts m n rest) here.0 (ap suc more.0)),
          begun_beside g e _ _ (is_plain slot (g e.target)) _ _ (plain_at g n k slot refl)
              (beside_then (pieces fragment g e.target v) (Ends e ∷ child_pieces fragment g n rest) (value_counts m e.target v) (Free ∷ child_counts m n rest) here.0 here.1 more.1),
        )

  -- the leaf of a value tells its length
  leaf_size : (t : ℕ) (f : Form ℕ Simple) (v : Value) (ps : List Piece) → holds_leaf f ≡ true → AdmitsAs g f v → leaf_next (slice_get (pieces fragment g t v ++ ps) 0) ≡ length (contents_octets (body m f v))
  leaf_size t (form.Simple simple) (value.Simple l) ps leaf a = refl
  leaf_size t form.Envelope (value.External tree) ps leaf a = refl
  leaf_size t (form.Simple simple) v ps leaf a = absurd a
  leaf_size t form.Envelope v ps leaf a = absurd a
  leaf_size t (form.Sequence slots) v ps leaf a = absurd cc
  leaf_size t (form.Choice slots) v ps leaf a = absurd cc
  leaf_size t (form.Money code number) v ps leaf a = absurd cc
  leaf_size t form.LeftOut v ps leaf a = absurd cc
  leaf_size t form.Missing v ps leaf a = absurd cc

  sized_more : (e : Edge) (ps : List Piece) (bs : List Beside) (p : Bool) (len group : ℕ) → (p ≡ true → leaf_next (slice_get ps 0) ≡ len) → AreSized ps bs → AreSized (Begins e ∷ ps) (counts_of p len group ∷ bs)
  sized_more e ps bs true len group size z = (size refl, z)
  sized_more e ps bs false len group size z = z

  module _ (n k : ℕ) (v : Value) (rest : Children) (s : Slot ℕ) (E : List Piece) (B : List Beside) where
    abbrev IsChildSized : Option (Slot ℕ) → Type 0
    IsChildSized o = AreSized ((Begins (edge_at n k o) ∷ (pieces fragment g (edge_at n k o).target v ++ (Ends (edge_at n k o) ∷ child_pieces fragment g n rest))) ++ E)
        ((counts_of (is_plain o (g (edge_at n k o).target)) (length (contents_octets (body m (g (edge_at n k o).target) v))) (length (slot_octets m k o (value.Child k v rest))) ∷ (value_counts m (edge_at n k o).target v ++ (Free ∷ child_counts m n rest))) ++ B)

    child_sized : slice_get (form_slots (g n)) k ≡ Some s → AdmitsAs g (g s.target) v
        → AreSized (pieces fragment g s.target v ++ (Ends (edge_at n k (Some s)) ∷ (child_pieces fragment g n rest ++ E))) (value_counts m s.target v ++ (Free ∷ (child_counts m n rest ++ B)))
        → AreSized (child_pieces fragment g n (value.Child k v rest) ++ E) (child_counts m n (value.Child k v rest) ++ B)
    child_sized found a inside =
        let inner = pieces fragment g s.target v ++ (Ends (edge_at n k (Some s)) ∷ (child_pieces fragment g n rest ++ E)) in
        let counted = (value_counts m s.target v ++ (Free ∷ child_counts m n rest)) ++ B in
        let regrouped = append_assoc (pieces fragment g s.target v) (Ends (edge_at n k (Some s)) ∷ child_pieces fragment g n rest) E in
        let counts = append_assoc (value_counts m s.target v) (Free ∷ child_counts m n rest) B in
        let size = λ (plain : is_plain (Some s) (g s.target) ≡ true).
        ap (λ z. leaf_next (slice_get z 0)) regrouped ∙ leaf_size s.target (g s.target) v (Ends (edge_at n k (Some s)) ∷ (child_pieces fragment g n rest ++ E)) (plain_leaf s (g s.target) plain) a in
        let one : IsChildSized (Some s) = sized_more (edge_at n k (Some s)) _ _ (is_plain (Some s) (g s.target)) _ _ size (subst (λ z. AreSized z counted) (sym regrouped) (subst (AreSized inner) (sym counts) inside)) in
        subst IsChildSized (sym found) one

  mutual
    pub value_sized : (t : ℕ) (f : Form ℕ Simple) (v : Value) (e : Edge) (ps : List Piece) (bs : List Beside) → g t ≡ f → AdmitsAs g f v → AreSized ps bs → AreSized (pieces fragment g t v ++ (Ends e ∷ ps)) (value_counts m t v ++ (Free ∷ bs))
    value_sized t (form.Sequence slots) (value.Component cs) e ps bs at a z = children_sized t (form.Sequence slots) cs (Ends e ∷ ps) (Free ∷ bs) at a.1 z
    value_sized t (form.Choice slots) (value.Component cs) e ps bs at ((k, n, s, found, within, is), more) z = children_sized t (form.Choice slots) cs (Ends e ∷ ps) (Free ∷ bs) at more z
    value_sized t (form.Simple simple) (value.Simple l) e ps bs at a z = z
    value_sized t (form.Money code number) (value.Amount l n) e ps bs at a z = z
    value_sized t form.Envelope (value.External tree) e ps bs at a z = z
    value_sized t (form.Sequence slots) v e ps bs at a z = absurd a
    value_sized t (form.Choice slots) v e ps bs at a z = absurd a
    value_sized t (form.Simple simple) v e ps bs at a z = absurd a
    value_sized t (form.Money code number) v e ps bs at a z = absurd a
    value_sized t form.Envelope v e ps bs at a z = absurd a
    value_sized t form.LeftOut v e ps bs at a z = absurd a
    value_sized t form.Missing v e ps bs at a z = absurd a

    pub children_sized : (n : ℕ) (f : Form ℕ Simple) (cs : Children) (E : List Piece) (B : List Beside) → g n ≡ f → AdmitsChildren g (form_slots f) cs → AreSized E B → AreSized (child_pieces fragment g n cs ++ E) (child_counts m n cs ++ B)
    children_sized n f value.Nothing E B at a z = z
    children_sized n f (value.Child k v rest) E B at ((s, there, a), more) z =
        let found : slice_get (form_slots (g n)) k ≡ Some s = subst (λ z. slice_get (form_slots z) k ≡ Some s) (sym at) there in
        child_sized n k v rest s E B found a (value_sized s.target (g s.target) v (edge_at n k (Some s)) (child_pieces fragment g n rest ++ E) (child_counts m n rest ++ B) refl a (children_sized n f rest E B at more z))

  -- what is written at the pieces of the whole is its contents
  whole_form : (f : Form ℕ Simple) (v : Value) → g 0 ≡ f → (slots : List (Slot ℕ)) → f ≡ form.Sequence slots → AdmitsAs g f v
      → (counted_octets g (Begun document_edge) (pieces_of fragment T v) (value_counts m 0 v) ≡ contents_octets (body m f v)) × ((stage g (Begun document_edge) (pieces_of fragment T v)).beside ≡ value_counts m 0 v)
      × (octets (Constructed (universal 16) (inner_of (body m f v)) Nothing) ≡ head true (universal 16) (length (contents_octets (body m f v))) ++ contents_octets (body m f v))
  whole_form (form.Sequence fs) (value.Component cs) at slots is a =
      let written = children_octets T 0 (form.Sequence fs) cs (Begun document_edge) [] [] [] at a.1 a.0.ordered (λ c. sym (append-nil (slots_behind g 0 c))) in
      let staged = children_staged T 0 (form.Sequence fs) cs (Begun document_edge) [] [] [] at a.1 a.0.ordered (λ k. refl) (λ c. (refl, refl)) in
      let ps = append-nil (child_pieces fragment g 0 cs) in
      let bs = append-nil (child_counts m 0 cs) in
      (ap₂ (counted_octets g (Begun document_edge)) (sym ps) (sym bs) ∙ (written ∙ append-nil _), ap (λ z. (stage g (Begun document_edge) z).beside) (sym ps) ∙ (staged.0 ∙ bs), append-nil _ ∙ wrapped_is true (universal 16) _)
  whole_form (form.Sequence fs) v at slots is a = absurd a
  whole_form (form.Choice fs) v at slots is a = absurd cc
  whole_form (form.Simple simple) v at slots is a = absurd cc
  whole_form (form.Money code number) v at slots is a = absurd cc
  whole_form form.Envelope v at slots is a = absurd cc
  whole_form form.LeftOut v at slots is a = absurd cc
  whole_form form.Missing v at slots is a = absurd cc

  sized_form : (f : Form ℕ Simple) (v : Value) → g 0 ≡ f → (slots : List (Slot ℕ)) → f ≡ form.Sequence slots → AdmitsAs g f v → AreSized (pieces_of fragment T v) (value_counts m 0 v)
  sized_form (form.Sequence fs) (value.Component cs) at slots is a =
      subst (λ z. AreSized z (child_counts m 0 cs)) (append-nil (child_pieces fragment g 0 cs))
      (subst (λ z. AreSized (child_pieces fragment g 0 cs ++ []) z) (append-nil (child_counts m 0 cs)) (children_sized 0 (form.Sequence fs) cs [] [] at a.1 tt))
  sized_form (form.Sequence fs) v at slots is a = absurd a
  sized_form (form.Choice fs) v at slots is a = absurd cc
  sized_form (form.Simple simple) v at slots is a = absurd cc
  sized_form (form.Money code number) v at slots is a = absurd cc
  sized_form form.Envelope v at slots is a = absurd cc
  sized_form form.LeftOut v at slots is a = absurd cc
  sized_form form.Missing v at slots is a = absurd cc

  abbrev pub contents : Value → List ℕ
  contents v = contents_octets (body m (g 0) v)

  pub whole_counted : (v : Value) → HasRoot g → AdmitsAs g (g 0) v → counted_octets g (Begun document_edge) (pieces_of fragment T v) (value_counts m 0 v) ≡ contents v
  whole_counted v (slots, is) a = (whole_form (g 0) v refl slots is a).0

  pub whole_staged : (v : Value) → HasRoot g → AdmitsAs g (g 0) v → (stage g (Begun document_edge) (pieces_of fragment T v)).beside ≡ value_counts m 0 v
  whole_staged v (slots, is) a = (whole_form (g 0) v refl slots is a).1

  -- the sum of all is the length of the contents
  pub whole_sum : (v : Value) → HasRoot g → AdmitsAs g (g 0) v → (stage g (Begun document_edge) (pieces_of fragment T v)).sum ≡ length (contents v)
  whole_sum v root a =
      sum_is g (Begun document_edge) (pieces_of fragment T v)
      ∙ (ap (λ z. length (counted_octets g (Begun document_edge) (pieces_of fragment T v) z)) (whole_staged v root a) ∙ ap length (whole_counted v root a))

  -- the numbers of an instance that are kept are no more than its pieces
  pub pairs_few : (v : Value) (held : Held) → AdmitsAs g (g 0) v → held.region.pieces ≡ pieces_of fragment T v → IsMeasured T held → 0 < length held.region.pieces → pairs_kept held ≤ length held.region.pieces
  pairs_few v held a is measured some =
      let few = kept_few held (pairs_kept held) (value_counts m 0 v) ((measured v a is).counts some) in
      let long = (value_beside 0 v).0 in
      let all : length held.region.pieces ≡ length (pieces_of fragment T v) = ap length is in
      omega (arith, few, long, all)

  -- the DER of the instance is its head and what is written at its pieces
  pub der_is : (v : Value) (held : Held) (len left : ℕ) → HasRoot g → AdmitsAs g (g 0) v → held.region.pieces ≡ pieces_of fragment T v → IsMeasured T held
      → (0 < length held.region.pieces → len ≡ slice_index held.lens (length held.region.pieces - 1)) → (length held.region.pieces ≡ 0 → len ≡ length (slots_behind g 0 (Begun document_edge)))
      → (0 < length held.region.pieces → left ≡ pairs_kept held) → head true (universal 16) len ++ pieces_octets g (Begun document_edge) held.region.pieces held.lens held.groups left ≡ der_of m v
  der_is v held len left root a is measured some none pairs =
      let counts = measured v a is in
      let written : pieces_octets g (Begun document_edge) held.region.pieces held.lens held.groups left ≡ contents v = octets held.region.pieces refl counts.counts in
      let length_is : len ≡ length (contents v) = size held.region.pieces refl written counts.whole in
      ap₂ (λ x y. head true (universal 16) x ++ y) length_is written ∙ sym (whole_form (g 0) v refl root.0 root.1 a).2
    where
      none_counted : (bs : List Beside) → counted_octets g (Begun document_edge) [] bs ≡ slots_behind g 0 (Begun document_edge)
      none_counted bs = refl

      octets : (ps : List Piece) → held.region.pieces ≡ ps → (0 < length held.region.pieces → ArePairsKept held (pairs_kept held) (value_counts m 0 v))
          → pieces_octets g (Begun document_edge) held.region.pieces held.lens held.groups left ≡ contents v
      octets [] e kept =
          ap (λ z. pieces_octets g (Begun document_edge) z held.lens held.groups left) e
          ∙ (sym (none_counted (value_counts m 0 v)) ∙ (ap (λ z. counted_octets g (Begun document_edge) z (value_counts m 0 v)) (sym e ∙ is) ∙ whole_counted v root a))
      octets (p ∷ ps) e kept =
          let l : 0 < length held.region.pieces = subst (λ z. 0 < length z) (sym e) (omega arith) in
          ap₂ (λ z n. pieces_octets g (Begun document_edge) z held.lens held.groups n) is (pairs l)
          ∙ (numbers_agree g (Begun document_edge) (pieces_of fragment T v) (value_counts m 0 v) held (pairs_kept held) (value_beside 0 v).1 (sized_form (g 0) v refl root.0 root.1 a) (kept l) ∙ whole_counted v root a)

      size : (ps : List Piece) → held.region.pieces ≡ ps → pieces_octets g (Begun document_edge) held.region.pieces held.lens held.groups left ≡ contents v
          → (0 < length held.region.pieces → slice_index held.lens (length held.region.pieces - 1) ≡ length (contents v)) → len ≡ length (contents v)
      size [] e written whole = none (ap length e) ∙ ap length (sym (ap (λ z. pieces_octets g (Begun document_edge) z held.lens held.groups left) e) ∙ written)
      size (p ∷ ps) e written whole = (let l : 0 < length held.region.pieces = subst (λ z. 0 < length z) (sym e) (omega arith) in some l ∙ whole l)
