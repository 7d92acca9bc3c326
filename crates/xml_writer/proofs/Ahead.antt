-- What is still to come of the pieces of an instance.
use Rattle.std.proofs.Common.{◌≡◌, ℕ, zero, suc, ◌+◌, ◌≤◌, List, [], ◌∷◌, ◌++◌, Option, Some, Result, length, ap, sym, subst, ◌∙◌, append_assoc, append-nil, arith, drop}
use Rattle.std.specs.Prelude.{slice_get}
use Rattle.std.proofs.lemmas.List.{drop_all}
use Rattle.outside.specs.Pushes.{Pushes}
use Rattle.outside.specs.declared.errors.SinkError.{SinkError}
use Rattle.outside.proofs.Pushing.{done, stopped, then_push}
use Rattle.outside.specs.Gathering.{Gathers}
use Rattle.outside.proofs.PushedFronts.{IsPushedTo, to_none, to_more, to_stops}
use Rattle.data_types.specs.Value.{Piece}
use Rattle.facets.specs.declared.simple.Simple.{Simple}
use Rattle.reference_check.specs.Forms.{Graph}
use Rattle.xml_writer.specs.inner.PieceTexts.{IsPieceText, AreWritten, HasPut, innermost_behind}
use Rattle.xml_writer.specs.declared.innermost.Innermost.{Innermost}

-- the piece at a place stands first among those from there on
pub from_piece : (pieces : List Piece) (at : ℕ) (p : Piece) → slice_get pieces at ≡ Some p → drop at pieces ≡ p ∷ drop (at + 1) pieces
from_piece [] at p e = absurd cc
from_piece (x ∷ pieces) zero p e = let same : x ≡ p = cc in ap (λ y. y ∷ pieces) same
from_piece (x ∷ pieces) (suc at) p e = (let n : suc at + 1 ≡ suc (at + 1) = omega arith in rw n (from_piece pieces at p e))

-- two texts in front of a third one
moved : (buffer one front left more : List ℕ) → buffer ++ one ≡ front ++ left → buffer ++ (one ++ more) ≡ front ++ (left ++ more)
moved buffer one front left more e = sym (append_assoc buffer one more) ∙ ap (λ t. t ++ more) e ∙ append_assoc front left more

module _ {S : Type 0} (held : S → Option (List ℕ)) (faults room : S → ℕ) (g : Graph ℕ Simple) where
  -- Of each text that the pieces write a front went to the sink; then come the buffer, and what the pieces from the place on write.
  abbrev pub IsAhead : S → S → Innermost → Innermost → List Piece → ℕ → List ℕ → Type 0
  IsAhead old now first innermost pieces at buffer = (bytes : List ℕ) → AreWritten g first pieces bytes
      → (rest : List ℕ) × IsPushedTo held faults room old now bytes (buffer ++ rest) × AreWritten g innermost (drop at pieces) rest

  module _ (old now : S) (first innermost : Innermost) (pieces : List Piece) (at : ℕ) (buffer : List ℕ) (ahead : IsAhead old now first innermost pieces at buffer) where
    module _ (p : Piece) (is : slice_get pieces at ≡ Some p) where
      from_there : (bytes : List ℕ) → AreWritten g first pieces bytes
          → (rest : List ℕ) × IsPushedTo held faults room old now bytes (buffer ++ rest) × AreWritten g innermost (p ∷ drop (at + 1) pieces) rest
      from_there bytes w = (let r = ahead bytes w in (r.0, r.1, subst (λ ps. AreWritten g innermost ps r.0) (from_piece pieces at p is) r.2))

      -- the piece writes something
      pub piece_writes : (bytes : List ℕ) × AreWritten g first pieces bytes → (one : List ℕ) × IsPieceText g innermost p one
      piece_writes (bytes, w) = (let r = from_there bytes w in (r.2.0, r.2.2))

      -- it goes through
      pub piece_more : (then : S) (left : List ℕ) → ((one : List ℕ) → IsPieceText g innermost p one → Gathers held faults room now then buffer left done one)
          → IsAhead old then first (innermost_behind g innermost p) pieces (at + 1) left
      piece_more then left push bytes w =
          let r = from_there bytes w in
          let parts = r.2 in
          let gathers = push parts.0 parts.2 in
          let e : buffer ++ r.0 ≡ gathers.0 ++ (left ++ parts.1) = ap (λ t. buffer ++ t) parts.4 ∙ moved buffer parts.0 gathers.0 left parts.1 gathers.1 in
          (parts.1, to_more held faults room old now then bytes (buffer ++ r.0) gathers.0 (left ++ parts.1) e r.1 gathers.2, parts.3)

      -- it does not
      pub piece_stops : (then : S) (left : List ℕ) (error : SinkError) → ((one : List ℕ) → IsPieceText g innermost p one → Gathers held faults room now then buffer left (stopped error) one)
          → (bytes : List ℕ) → AreWritten g first pieces bytes → Pushes held faults room old then (stopped error) bytes
      piece_stops then left error push bytes w =
          let r = from_there bytes w in
          let parts = r.2 in
          let e : buffer ++ r.0 ≡ (buffer ++ parts.0) ++ parts.1 = ap (λ t. buffer ++ t) parts.4 ∙ sym (append_assoc buffer parts.0 parts.1) in
          to_stops held faults room old now then bytes (buffer ++ r.0) (buffer ++ parts.0) parts.1 error e r.1 (push parts.0 parts.2)

    -- the pieces from there on write something
    pub rest_writes : (bytes : List ℕ) × AreWritten g first pieces bytes → (rest : List ℕ) × AreWritten g innermost (drop at pieces) rest
    rest_writes (bytes, w) = (let r = ahead bytes w in (r.0, r.2))

    -- what some of them write was put into the buffer
    pub pieces_put : (then : Innermost) (next : ℕ) (left : List ℕ) → HasPut g pieces innermost at buffer then next left → IsAhead old now first then pieces next left
    pieces_put then next left put bytes w =
        let r = ahead bytes w in
        let p = put r.0 r.2 in
        (p.0, subst (λ t. IsPushedTo held faults room old now bytes t) p.2 r.1, p.1)

    -- behind the last piece the buffer is all that is to come
    pub ends : length pieces ≤ at → (then : S) (r : Result (Unit {0}) SinkError) → Pushes held faults room now then r buffer
        → (bytes : List ℕ) → AreWritten g first pieces bytes → Pushes held faults room old then r bytes
    ends past then r p bytes w =
        let h = ahead bytes w in
        let none : h.0 ≡ [] = subst (λ ps. AreWritten g innermost ps h.0) (drop_all at pieces past) h.2 in
        let whole : bytes ≡ h.1.front ++ buffer = h.1.whole_is ∙ ap (λ t. h.1.front ++ (buffer ++ t)) none ∙ ap (λ t. h.1.front ++ t) (append-nil buffer) in
        subst (λ t. Pushes held faults room old then r t) (sym whole) (then_push held faults room old now then r h.1.front buffer h.1.push p)

-- nothing was pushed, and what some pieces write was put into the empty buffer
pub ahead_first : {S : Type 0} (held : S → Option (List ℕ)) (faults room : S → ℕ) (g : Graph ℕ Simple) (s : S) (first begun : Innermost) (pieces : List Piece) (buffer : List ℕ)
    → begun ≡ first → buffer ≡ [] → (then : Innermost) (next : ℕ) (left : List ℕ) → HasPut g pieces begun 0 buffer then next left → IsAhead held faults room g s s first then pieces next left
ahead_first held faults room g s first begun pieces buffer same none then next left put bytes w =
    let p = put bytes (subst (λ i. AreWritten g i pieces bytes) (sym same) w) in
    let e : bytes ≡ left ++ p.0 = sym (ap (λ b. b ++ bytes) none) ∙ p.2 in
    (p.0, subst (λ t. IsPushedTo held faults room s s bytes t) e (to_none held faults room s bytes), p.1)
