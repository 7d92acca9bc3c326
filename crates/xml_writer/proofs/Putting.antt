-- What pieces write is put into a buffer, one after the other.
use Rattle.std.proofs.Common.{◌≡◌, ℕ, ◌+◌, List, ◌∷◌, ◌++◌, Some, ap, sym, subst, ◌∙◌, append_assoc, drop}
use Rattle.std.specs.Prelude.{slice_get}
use Rattle.data_types.specs.Value.{Piece}
use Rattle.facets.specs.declared.simple.Simple.{Simple}
use Rattle.reference_check.specs.Forms.{Graph}
use Rattle.xml_writer.specs.inner.PieceTexts.{IsPieceText, AreWritten, HasPut, innermost_behind}
use Rattle.xml_writer.specs.declared.innermost.Innermost.{Innermost}
use Rattle.xml_writer.proofs.Ahead.{from_piece}

module _ (g : Graph ℕ Simple) (pieces : List Piece) where
  module _ (before : Innermost) (from : ℕ) (old : List ℕ) (i : Innermost) (at : ℕ) (buffer : List ℕ) (put : HasPut g pieces before from old i at buffer) where
    -- the buffer is as it was
    pub put_kept : (left : List ℕ) → left ≡ buffer → HasPut g pieces before from old i at left
    put_kept left e = subst (λ t. HasPut g pieces before from old i at t) (sym e) put

    module _ (p : Piece) (is : slice_get pieces at ≡ Some p) where
      from_there : (rest : List ℕ) → AreWritten g before (drop from pieces) rest
          → (more : List ℕ) × AreWritten g i (p ∷ drop (at + 1) pieces) more × (old ++ rest ≡ buffer ++ more)
      from_there rest w = (let r = put rest w in (r.0, subst (λ ps. AreWritten g i ps r.0) (from_piece pieces at p is) r.1, r.2))

      -- the piece writes something
      pub next_writes : (rest : List ℕ) × AreWritten g before (drop from pieces) rest → (one : List ℕ) × IsPieceText g i p one
      next_writes (rest, w) = (let r = from_there rest w in (r.1.0, r.1.2))

      -- it was put behind what the buffer had
      pub put_more : (left : List ℕ) → ((one : List ℕ) → IsPieceText g i p one → left ≡ buffer ++ one) → HasPut g pieces before from old (innermost_behind g i p) (at + 1) left
      put_more left puts rest w =
          let r = from_there rest w in
          let parts = r.1 in
          let e : buffer ++ r.0 ≡ left ++ parts.1 =
          ap (λ t. buffer ++ t) parts.4 ∙ (sym (append_assoc buffer parts.0 parts.1) ∙ ap (λ t. t ++ parts.1) (sym (puts parts.0 parts.2))) in
          (parts.1, parts.3, r.2 ∙ e)

-- what is at a place of the pieces is what was found there
module _ (g : Graph ℕ Simple) (i : Innermost) (pieces : List Piece) (at : ℕ) (p : Piece) (is : slice_get pieces at ≡ Some p) where
  found_same : (q : Piece) → slice_get pieces at ≡ Some q → q ≡ p
  found_same q there = cc

  pub found_writes : (q : Piece) × (bytes : List ℕ) × (slice_get pieces at ≡ Some q) × IsPieceText g i q bytes → (bytes : List ℕ) × IsPieceText g i p bytes
  found_writes (q, bytes, there, w) = (bytes, subst (λ x. IsPieceText g i x bytes) (found_same q there) w)

  pub found_puts : (buffer left : List ℕ) → ((bytes : List ℕ) → IsPieceText g i p bytes → left ≡ buffer ++ bytes)
      → (q : Piece) (bytes : List ℕ) → slice_get pieces at ≡ Some q → IsPieceText g i q bytes → left ≡ buffer ++ bytes
  found_puts buffer left puts q bytes there w = puts bytes (subst (λ x. IsPieceText g i x bytes) (found_same q there) w)
