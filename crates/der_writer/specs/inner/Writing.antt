-- Where the writer is among the pieces of an instance, and what it has put into its buffer.
use Rattle.std.specs.Prelude.{◌≡◌, ℕ, ◌+◌, ◌≤◌, List, ◌++◌, length, drop, slice_get}
use Rattle.data_types.specs.Value.{Piece}
use Rattle.facets.specs.declared.simple.Simple.{Simple}
use Rattle.inst_pool.specs.Pieces.{Held}
use Rattle.reference_check.specs.Forms.{Graph}
use Rattle.der_writer.specs.inner.PieceOctets.{next_slot, pieces_octets}
use Rattle.der_writer.specs.inner.Measuring.{before_place, left_there}
use Rattle.der_writer.specs.declared.write.Place.{Place}

-- what the writer knows at a place is so
pub record IsWritingPlace (pieces : List Piece) (p : Place) : Type 0 where
  pub at : p.at ≤ length pieces
  pub next : p.next ≡ next_slot (before_place pieces p.at)
  pub left : p.left ≤ length pieces

-- the one place is behind the piece at the other
pub record IsNextPlace (g : Graph ℕ Simple) (pieces : List Piece) (p next : Place) : Type 0 where
  pub place : IsWritingPlace pieces next
  pub at : next.at ≡ p.at + 1
  pub left : next.left ≡ left_there g (slice_get pieces p.at) p.left

-- what is written from a place on
abbrev pub octets_from : Graph ℕ Simple → Held → Place → List ℕ
octets_from g held p = pieces_octets g (before_place held.region.pieces p.at) (drop p.at held.region.pieces) held.lens held.groups p.left

-- what is written from the one place on and before the other was put into the buffer
pub record HasPutOctets (g : Graph ℕ Simple) (held : Held) (p : Place) (old : List ℕ) (behind : Place) (new : List ℕ) : Type 0 where
  pub place : IsWritingPlace held.region.pieces behind
  pub later : p.at ≤ behind.at
  pub octets : old ++ octets_from g held p ≡ new ++ octets_from g held behind
