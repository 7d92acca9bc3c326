-- No list stands before a plain element, so that the second of its numbers is not wanted.
use Rattle.std.proofs.Common.{◌≡◌, ℕ, Bool, true, false, ◌++◌, Option, Some, None, refl, sym, ap, ◌∙◌}
use Rattle.std.specs.Prelude.{slice_get, if◌then◌else◌}
use Rattle.std.proofs.lemmas.Bool.{cond-true, cond-false}
use Rattle.data_types.specs.Value.{Edge, Begins}
use Rattle.facets.specs.declared.simple.Simple.{Simple}
use Rattle.reference_check.specs.Forms.{Graph, Form, Slot, form_slots}
use Rattle.message_model.specs.Tables.{edge_at}
use Rattle.der_model.specs.Structures.{is_single}
use Rattle.der_writer.specs.Measured.{counts_of, holds_leaf, is_plain}
use Rattle.der_writer.specs.inner.PieceOctets.{Before, begin_octets, group_of, len_of, list_head, own_slot, piece_octets, plain_edge, slots_between}

-- nothing, whatever a test says
pub no_other : (b : Bool) → ◌≡◌ {A = ℕ} (if b then 0 else 0) 0
no_other true = refl
no_other false = refl

pub plain_single : (s : Slot ℕ) (f : Form ℕ Simple) → is_plain (Some s) f ≡ true → is_single s ≡ true
plain_single s f plain = go (is_single s) refl
  where
    go : (b : Bool) → is_single s ≡ b → is_single s ≡ true
    go true e = e
    go false e = absurd (let wrong : false ≡ true = sym (cond-false (is_single s) (holds_leaf f) false e) ∙ plain in cc)

pub plain_leaf : (s : Slot ℕ) (f : Form ℕ Simple) → is_plain (Some s) f ≡ true → holds_leaf f ≡ true
plain_leaf s f plain = sym (cond-true (is_single s) (holds_leaf f) false (plain_single s f plain)) ∙ plain

head_of : (o : Option (Slot ℕ)) (f : Form ℕ Simple) (b : Before) (k x y : ℕ) → is_plain o f ≡ true → list_head o b k x ≡ list_head o b k y
head_of None f b k x y plain = refl
head_of (Some s) f b k x y plain = (let single = plain_single s f plain in cond-true (is_single s) _ _ single ∙ sym (cond-true (is_single s) _ _ single))

pub head_same : (g : Graph ℕ Simple) (b : Before) (e : Edge) (x y : ℕ) → plain_edge g e ≡ true → list_head (own_slot g e) b e.slot x ≡ list_head (own_slot g e) b e.slot y
head_same g b e x y plain = head_of (own_slot g e) (g e.target) b e.slot x y plain

-- the same is written by any second number
pub group_free : (g : Graph ℕ Simple) (b : Before) (e : Edge) (len x y : ℕ) → plain_edge g e ≡ true → piece_octets g b (Begins e) len x ≡ piece_octets g b (Begins e) len y
group_free g b e len x y plain = ap (λ z. (slots_between g e.parent b e.slot ++ z) ++ begin_octets g e len) (head_same g b e x y plain)

-- what is written by the numbers of an element that begins
pub counted_begin : (g : Graph ℕ Simple) (b : Before) (e : Edge) (len group : ℕ)
    → piece_octets g b (Begins e) (len_of (counts_of (plain_edge g e) len group)) (group_of (counts_of (plain_edge g e) len group)) ≡ piece_octets g b (Begins e) len group
counted_begin g b e len group = go (plain_edge g e) refl
  where
    go : (p : Bool) → plain_edge g e ≡ p → piece_octets g b (Begins e) (len_of (counts_of p len group)) (group_of (counts_of p len group)) ≡ piece_octets g b (Begins e) len group
    go true plain = group_free g b e len 0 group plain
    go false plain = refl

-- whether a child is plain
pub plain_at : (g : Graph ℕ Simple) (n k : ℕ) (o : Option (Slot ℕ)) → slice_get (form_slots (g n)) k ≡ o → plain_edge g (edge_at n k o) ≡ is_plain o (g (edge_at n k o).target)
plain_at g n k None e = ap (λ z. is_plain z (g (edge_at n k None).target)) e
plain_at g n k (Some s) e = ap (λ z. is_plain z (g s.target)) e

-- equal numbers, where the second is wanted
pub counts_same : (p : Bool) (len x y : ℕ) → (p ≡ false → x ≡ y) → counts_of p len x ≡ counts_of p len y
counts_same true len x y e = refl
counts_same false len x y e = ap (counts_of false len) (e refl)
