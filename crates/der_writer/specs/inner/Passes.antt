-- The pass that fills in the lengths: over the pieces from the last to the first.
use Rattle.std.specs.Prelude.{ℕ, ◌+◌, ◌-◌, ◌==◌, List, [], ◌∷◌, length, drop, if◌then◌else◌}
use Rattle.data_types.specs.Value.{Piece, Begins, Holds, Ends}
use Rattle.facets.specs.declared.simple.Simple.{Simple}
use Rattle.reference_check.specs.Forms.{Graph}
use Rattle.der_writer.specs.Measured.{Beside, Free, Counts, counts_of}
use Rattle.der_writer.specs.inner.PieceOctets.{Before, before_of, plain_edge, piece_octets, begin_octets, slots_behind}

-- an element whose beginning is still to come: how many octets stand behind its end, and how many of them are of its slot, where another
-- element of the slot follows at once
pub record Frame : Type 0 where
  pub behind : ℕ
  pub following : ℕ

-- the number of octets from a piece on, the elements that it stands in and that begin before it, the innermost first, and what belongs
-- to the pieces from it on
pub record Stage : Type 0 where
  pub sum : ℕ
  pub frames : List Frame
  pub beside : List Beside

-- how many octets of slot k stand at the front, where pieces begin with an element of the slot
abbrev pub following : List Piece → List Beside → ℕ → ℕ
following (Begins edge ∷ pieces) (Counts len group ∷ beside) k = if edge.slot == k then group else 0
following pieces beside k = 0

abbrev pub innermost_frame : List Frame → Frame
innermost_frame [] = record { behind = 0; following = 0 }
innermost_frame (frame ∷ frames) = frame

-- one piece more, in front of others
abbrev pub piece_step : Graph ℕ Simple → Before → Piece → List Piece → Stage → Stage
piece_step g before (Begins edge) pieces r =
    let frame = innermost_frame r.frames in
    let len = r.sum - frame.behind in
    let group = length (begin_octets g edge len) + len + frame.following in
    record { sum = length (piece_octets g before (Begins edge) len group) + r.sum; frames = drop 1 r.frames; beside = counts_of (plain_edge g edge) len group ∷ r.beside }
piece_step g before (Holds leaf) pieces r = record { sum = length (piece_octets g before (Holds leaf) 0 0) + r.sum; frames = r.frames; beside = Free ∷ r.beside }
piece_step g before (Ends edge) pieces r =
    let frame : Frame = record { behind = r.sum; following = following pieces r.beside edge.slot } in
    record { sum = length (piece_octets g before (Ends edge) 0 0) + r.sum; frames = frame ∷ r.frames; beside = Free ∷ r.beside }

-- what the pass knows at the front of pieces, behind the piece before them
abbrev pub stage : Graph ℕ Simple → Before → List Piece → Stage
stage g before [] = record { sum = length (slots_behind g 0 before); frames = []; beside = [] }
stage g before (piece ∷ pieces) = piece_step g before piece pieces (stage g (before_of piece) pieces)
