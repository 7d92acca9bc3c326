-- What the pass that fills in the lengths keeps of elements that end, while their beginnings are still to come.
use Rattle.std.specs.Prelude.{◌≡◌, ℕ, zero, suc, ◌+◌, ◌-◌, ◌≤◌, ◌==◌, true, false, List, [], ◌∷◌, length, Option, Some, None, slice_get, slice_index, if◌then◌else◌}
use Rattle.data_types.specs.Leaf.{Leaf, octet_count}
use Rattle.data_types.specs.Value.{Edge, Piece, Begins, Holds}
use Rattle.facets.specs.declared.simple.Simple.{Simple}
use Rattle.inst_pool.specs.Pieces.{Held, IsLeafElement}
use Rattle.reference_check.specs.Forms.{Graph}
use Rattle.der_model.specs.LeafContents.{leaf_contents}
use Rattle.der_writer.specs.Measured.{Beside, Free, Sized, Counts, ArePairsKept}
use Rattle.der_writer.specs.inner.PieceOctets.{Before, Begun, Filled, before_of, document_edge, leaf_next, leaf_octets, left_behind, len_kept, piece_octets, plain_edge, slots_behind}
use Rattle.der_writer.specs.inner.Passes.{Frame, Stage}

abbrev pub behind_piece : Option Piece → Before
behind_piece None = Begun document_edge
behind_piece (Some piece) = before_of piece

-- what stands before the piece at a place
abbrev pub before_place : List Piece → ℕ → Before
before_place pieces zero = Begun document_edge
before_place pieces (suc at) = behind_piece (slice_get pieces at)

abbrev pub octets_there : Graph ℕ Simple → Before → Option Piece → (len group : ℕ) → List ℕ
octets_there g before None len group = []
octets_there g before (Some piece) len group = piece_octets g before piece len group

abbrev pub len_there : Graph ℕ Simple → Option Piece → Option Piece → List ℕ → ℕ → ℕ
len_there g None next lens left = 0
len_there g (Some piece) next lens left = len_kept g piece next lens left

-- what is written at the piece at a place, where so many pairs of numbers are left
abbrev pub octets_at : Graph ℕ Simple → Held → ℕ → ℕ → List ℕ
octets_at g held at left =
    octets_there g (before_place held.region.pieces at) (slice_get held.region.pieces at) (len_there g (slice_get held.region.pieces at) (slice_get held.region.pieces (at + 1)) held.lens left) (slice_index held.groups (left - 1))

-- how many pairs are left behind the piece at a place
abbrev pub left_there : Graph ℕ Simple → Option Piece → ℕ → ℕ
left_there g None left = left
left_there g (Some piece) left = left_behind g piece left

-- how many pairs there are, where the lengths have been filled in
abbrev pub pairs_kept : Held → ℕ
pairs_kept held = slice_index held.groups (length held.region.pieces - 1)

-- so many contents octets a leaf has; they are few more than its bytes
abbrev pub IsSizeOf : Piece → ℕ → Type 0
IsSizeOf (Holds leaf) size = (size ≡ length (leaf_contents leaf)) × (size ≤ octet_count leaf + 32)
IsSizeOf piece size = size ≡ 0

abbrev pub IsSizeAt : Option Piece → ℕ → Type 0
IsSizeAt None size = Unit {0}
IsSizeAt (Some piece) size = IsSizeOf piece size

-- how many octets of slot k stand at a piece, where it begins an element of the slot that has a pair of numbers
abbrev pub following_piece : Graph ℕ Simple → Option Piece → ℕ → ℕ → ℕ
following_piece g (Some (Begins edge)) group k = if edge.slot == k then (if plain_edge g edge then 0 else group) else 0
following_piece g piece group k = 0

-- the same at a place in front of which the pass stands, where so many pairs are kept
abbrev pub following_at : Graph ℕ Simple → Held → ℕ → ℕ → ℕ → ℕ
following_at g held at zero k = 0
following_at g held at (suc kept) k = following_piece g (slice_get held.region.pieces at) (slice_index held.groups kept) k

-- The elements whose beginnings are to come, so many, the innermost first: what is known of each stands at a place, of the outermost at that of
-- the last piece, and of each that it holds at the place before.
abbrev pub AreAwaited : Held → ℕ → List Frame → Type 0
AreAwaited held zero [] = Unit {0}
AreAwaited held zero (frame ∷ frames) = ⊥
AreAwaited held (suc ended) [] = ⊥
AreAwaited held (suc ended) (frame ∷ frames) =
    (slice_index held.lens (length held.region.pieces - suc ended) ≡ frame.behind) × (slice_index held.groups (length held.region.pieces - suc ended) ≡ frame.following) × AreAwaited held ended frames

-- The pass knows what a stage says, in front of the piece at a place: so many pairs of numbers are kept, so many elements are awaited.
pub record Knows (held : Held) (at kept ended total : ℕ) (s : Stage) : Type 0 where
  pub total_is : total ≡ s.sum
  pub numbers : ArePairsKept held kept s.beside
  pub awaited : AreAwaited held ended s.frames
  pub room : kept + ended + at ≤ length held.region.pieces

-- no element has more octets behind it than there are, nor more that follow it
abbrev pub AreFramesWithin : ℕ → List Frame → Type 0
AreFramesWithin sum [] = Unit {0}
AreFramesWithin sum (frame ∷ frames) = (frame.behind ≤ sum) × (frame.following ≤ frame.behind) × AreFramesWithin sum frames

-- to each beginning of an element belong numbers, and to no other piece
abbrev pub AreBeside : Graph ℕ Simple → List Piece → List Beside → Type 0
AreBeside g [] bs = Unit {0}
AreBeside g (p ∷ ps) [] = ⊥
AreBeside g (Begins e ∷ ps) (Free ∷ bs) = ⊥
AreBeside g (Begins e ∷ ps) (Sized len ∷ bs) = (plain_edge g e ≡ true) × AreBeside g ps bs
AreBeside g (Begins e ∷ ps) (Counts len group ∷ bs) = (plain_edge g e ≡ false) × AreBeside g ps bs
AreBeside g (p ∷ ps) (Free ∷ bs) = AreBeside g ps bs
AreBeside g (p ∷ ps) (Sized len ∷ bs) = ⊥
AreBeside g (p ∷ ps) (Counts len group ∷ bs) = ⊥

-- the leaf of each plain element tells its length
abbrev pub AreSized : List Piece → List Beside → Type 0
AreSized [] bs = Unit {0}
AreSized (p ∷ ps) [] = Unit {0}
AreSized (p ∷ ps) (Sized len ∷ bs) = (leaf_next (slice_get ps 0) ≡ len) × AreSized ps bs
AreSized (p ∷ ps) (Free ∷ bs) = AreSized ps bs
AreSized (p ∷ ps) (Counts len group ∷ bs) = AreSized ps bs

-- An element that begins at a place has one leaf, which has so many octets, and no slots stand behind it.
pub record IsSimpleAt (g : Graph ℕ Simple) (pieces : List Piece) (at : ℕ) (edge : Edge) (size : ℕ) : Type 0 where
  pub leaf : Leaf
  pub there : IsLeafElement pieces at edge leaf
  pub octets : size ≡ length (leaf_octets g (Begun edge) leaf)
  pub few : size ≤ octet_count leaf + 32
  pub none : length (slots_behind g edge.target Filled) ≡ 0
