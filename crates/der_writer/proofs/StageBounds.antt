-- Facts on the stages of the pass: what follows is no more than what there is, and each beginning has its numbers.
use Rattle.std.proofs.Common.{◌≡◌, ℕ, ◌+◌, ◌-◌, ◌≤◌, Bool, true, false, List, [], ◌∷◌, length, drop, refl, arith, length-append}
use Rattle.std.specs.Prelude.{if◌then◌else◌, ◌==◌}
use Rattle.data_types.specs.Value.{Edge, Piece, Begins, Holds, Ends}
use Rattle.facets.specs.declared.simple.Simple.{Simple}
use Rattle.reference_check.specs.Forms.{Graph}
use Rattle.der_writer.specs.Measured.{Beside, counts_of}
use Rattle.der_writer.specs.inner.PieceOctets.{Before, Begun, Filled, Ended, octets_before, begin_octets, piece_octets, plain_edge}
use Rattle.der_writer.specs.inner.Passes.{Frame, Stage, following, innermost_frame, piece_step, stage}
use Rattle.der_writer.specs.inner.Measuring.{AreBeside, AreFramesWithin}

pub begun_beside : (g : Graph ℕ Simple) (e : Edge) (ps : List Piece) (bs : List Beside) (p : Bool) (len group : ℕ) → plain_edge g e ≡ p → AreBeside g ps bs → AreBeside g (Begins e ∷ ps) (counts_of p len group ∷ bs)
begun_beside g e ps bs true len group plain are = (plain, are)
begun_beside g e ps bs false len group plain are = (plain, are)

pub stage_beside : (g : Graph ℕ Simple) (b : Before) (ps : List Piece) → AreBeside g ps (stage g b ps).beside
stage_beside g b [] = tt
stage_beside g b (Begins e ∷ ps) = begun_beside g e ps (stage g (Begun e) ps).beside (plain_edge g e) _ _ refl (stage_beside g (Begun e) ps)
stage_beside g b (Holds l ∷ ps) = stage_beside g Filled ps
stage_beside g b (Ends e ∷ ps) = stage_beside g (Ended e) ps

within_more : (x y : ℕ) (fs : List Frame) → x ≤ y → AreFramesWithin x fs → AreFramesWithin y fs
within_more x y [] l w = tt
within_more x y (f ∷ fs) l (a, k, w) = (omega arith, k, within_more x y fs l w)

within_drop : (x : ℕ) (fs : List Frame) → AreFramesWithin x fs → AreFramesWithin x (drop 1 fs)
within_drop x [] w = tt
within_drop x (f ∷ fs) (a, k, w) = w

pub innermost_within : (x : ℕ) (fs : List Frame) → AreFramesWithin x fs → ((innermost_frame fs).behind ≤ x) × ((innermost_frame fs).following ≤ (innermost_frame fs).behind)
innermost_within x [] w = (omega arith, omega arith)
innermost_within x (f ∷ fs) (a, h, w) = (a, h)

at_most : (b : Bool) (x y : ℕ) → x ≤ y → (if b then x else 0) ≤ y
at_most true x y l = l
at_most false x y l = omega arith

follows_most : (e : Edge) (ps : List Piece) (bs : List Beside) (p : Bool) (len group most k : ℕ) → group ≤ most → following (Begins e ∷ ps) (counts_of p len group ∷ bs) k ≤ most
follows_most e ps bs true len group most k l = omega arith
follows_most e ps bs false len group most k l = at_most (e.slot == k) group most l

pub stage_within : (g : Graph ℕ Simple) (b : Before) (ps : List Piece) → AreFramesWithin (stage g b ps).sum (stage g b ps).frames × ((k : ℕ) → following ps (stage g b ps).beside k ≤ (stage g b ps).sum)
stage_within g b [] = (tt, λ k. omega arith)
stage_within g b (Holds l ∷ ps) = (let r = stage_within g Filled ps in (within_more (stage g Filled ps).sum _ _ (omega arith) r.0, λ k. omega arith))
stage_within g b (Ends e ∷ ps) = (let r = stage_within g (Ended e) ps in ((omega arith, r.1 e.slot, within_more (stage g (Ended e) ps).sum _ _ (omega arith) r.0), λ k. omega arith))
stage_within g b (Begins e ∷ ps) = go (stage g (Begun e) ps) (stage_within g (Begun e) ps).0
  where
    go : (r : Stage) → AreFramesWithin r.sum r.frames → AreFramesWithin (piece_step g b (Begins e) ps r).sum (piece_step g b (Begins e) ps r).frames × ((k : ℕ) → following (Begins e ∷ ps) (piece_step g b (Begins e) ps r).beside k ≤ (piece_step g b (Begins e) ps r).sum)
    go r w =
        let f = innermost_frame r.frames in
        let len = r.sum - f.behind in
        let group = length (begin_octets g e len) + len + f.following in
        let size = length-append (octets_before g b e group) (begin_octets g e len) in
        let least = innermost_within r.sum r.frames w in
        let behind = least.0 in
        let next = least.1 in
        let fits : group ≤ length (piece_octets g b (Begins e) len group) + r.sum = omega (arith, size, behind, next) in
        (within_more r.sum _ _ (omega arith) (within_drop r.sum r.frames w), λ k. follows_most e ps r.beside (plain_edge g e) len group _ k fits)
