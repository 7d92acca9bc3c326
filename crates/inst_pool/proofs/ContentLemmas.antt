-- The pieces that contents are.
use Rattle.std.proofs.Common.{◌≡◌, ℕ, zero, suc, ◌+◌, ◌-◌, ◌≤◌, List, [], ◌∷◌, ◌++◌, length, take, drop, slice_get, slice_range, Some, None, refl, ap, ap₂, subst, ◌∙◌, arith, length-drop}
use Rattle.std.specs.Option.{option_map}
use Rattle.std.proofs.lemmas.List.{take-append-le, drop-append-le}
use Rattle.data_types.specs.Value.{Edge, Piece, Begins, Holds, Ends}
use Rattle.inst_pool.specs.Pieces.{bytes_of, edges_open_behind}
use Rattle.inst_pool.specs.Contents.{piece_in, IsContentInside, pieces_in, AreInside}
use Rattle.inst_pool.specs.declared.content.Content.{Content}
use Rattle.inst_pool.specs.declared.content.Content.TheVariants.{Open, Bytes, Number, Flag, Code, Close}

pub length_pieces : (bytes : List ℕ) (contents : List Content) → length (pieces_in bytes contents) ≡ length contents
length_pieces bytes [] = refl
length_pieces bytes (n ∷ contents) = ap suc (length_pieces bytes contents)

pub pieces-append : (bytes : List ℕ) (a b : List Content) → pieces_in bytes (a ++ b) ≡ pieces_in bytes a ++ pieces_in bytes b
pieces-append bytes [] b = refl
pieces-append bytes (n ∷ a) b = ap (λ l. piece_in bytes n ∷ l) (pieces-append bytes a b)

-- a part of a block is the same part of a longer one
range_grow : (bytes more : List ℕ) (s e : ℕ) → s ≤ e → e ≤ length bytes → slice_range (bytes ++ more) s e ≡ slice_range bytes s e
range_grow bytes more s e low high =
    let within : s ≤ length bytes = omega (arith, low, high) in
    let left : length (drop s bytes) ≡ length bytes - s = length-drop s bytes in
    ap (λ l. take (e - s) l) (drop-append-le s bytes more within) ∙ take-append-le (e - s) (drop s bytes) more (omega (arith, left, low, high))

pub piece-grow : (bytes more : List ℕ) (c : Content) → IsContentInside (length bytes) c → piece_in (bytes ++ more) c ≡ piece_in bytes c
piece-grow bytes more (Open e) h = refl
piece-grow bytes more (Bytes s e) h = ap (λ b. Holds (Rattle.data_types.specs.Leaf.Bytes b)) (range_grow bytes more s e h.0 h.1)
piece-grow bytes more (Number n) h = refl
piece-grow bytes more (Flag f) h = refl
piece-grow bytes more (Code k) h = refl
piece-grow bytes more (Close e) h = refl

pub pieces-grow : (bytes more : List ℕ) (contents : List Content) → AreInside (length bytes) contents → pieces_in (bytes ++ more) contents ≡ pieces_in bytes contents
pieces-grow bytes more [] h = refl
pieces-grow bytes more (n ∷ contents) h = ap₂ (λ (p : Piece) (l : List Piece). p ∷ l) (piece-grow bytes more n h.0) (pieces-grow bytes more contents h.1)

inside_more : (n m : ℕ) (c : Content) → n ≤ m → IsContentInside n c → IsContentInside m c
inside_more n m (Open e) le h = tt
inside_more n m (Bytes s e) le h = (h.0, omega (arith, h.1, le))
inside_more n m (Number k) le h = tt
inside_more n m (Flag f) le h = tt
inside_more n m (Code k) le h = tt
inside_more n m (Close e) le h = tt

pub inside-grow : (n m : ℕ) (contents : List Content) → n ≤ m → AreInside n contents → AreInside m contents
inside-grow n m [] le h = tt
inside-grow n m (x ∷ contents) le h = (inside_more n m x le h.0, inside-grow n m contents le h.1)

pub inside-push : (n : ℕ) (contents : List Content) (x : Content) → AreInside n contents → IsContentInside n x → AreInside n (contents ++ x ∷ [])
inside-push n [] x h i = (i, tt)
inside-push n (y ∷ contents) x h i = (h.0, inside-push n contents x h.1 i)

some_injective : (y x : Content) → Some y ≡ Some x → y ≡ x
some_injective y x e = cc

pub inside-at : (n : ℕ) (contents : List Content) (at : ℕ) (x : Content) → AreInside n contents → slice_get contents at ≡ Some x → IsContentInside n x
inside-at n [] at x h e = absurd (let e' : None ≡ Some x = e in cc)
inside-at n (y ∷ contents) zero x h e = (let e' : y ≡ x = some_injective y x e in subst (λ (z : Content). IsContentInside n z) e' h.0)
inside-at n (y ∷ contents) (suc at) x h e = inside-at n contents at x h.1 e

pub bytes_of-append : (a b : List Piece) → bytes_of (a ++ b) ≡ bytes_of a + bytes_of b
bytes_of-append [] b = omega arith
bytes_of-append (p ∷ a) b = (let e = bytes_of-append a b in omega (arith, e))

pub get_piece : (bytes : List ℕ) (contents : List Content) (at : ℕ) → slice_get (pieces_in bytes contents) at ≡ option_map (piece_in bytes) (slice_get contents at)
get_piece bytes [] at = refl
get_piece bytes (n ∷ contents) zero = refl
get_piece bytes (n ∷ contents) (suc at) = get_piece bytes contents at

pub open-append : (outer : List Edge) (a b : List Piece) → edges_open_behind outer (a ++ b) ≡ edges_open_behind (edges_open_behind outer a) b
open-append outer [] b = refl
open-append outer (Begins e ∷ a) b = open-append (e ∷ outer) a b
open-append outer (Holds l ∷ a) b = open-append outer a b
open-append outer (Ends e ∷ a) b = open-append (drop 1 outer) a b
