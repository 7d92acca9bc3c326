-- The three pieces of an element with one leaf are put at once.
use Rattle.std.proofs.Common.{◌≡◌, ℕ, ◌+◌, ◌≤◌, List, [], ◌∷◌, ◌++◌, length, refl, ap, sym, subst, ◌∙◌, append_assoc, append-nil, arith, drop}
use Rattle.std.proofs.lemmas.Option.{slice_get_within}
use Rattle.data_types.specs.Leaf.{Leaf}
use Rattle.data_types.specs.Value.{Edge, Piece, Begins, Holds, Ends}
use Rattle.facets.specs.declared.simple.Simple.{Simple}
use Rattle.reference_check.specs.Forms.{Graph}
use Rattle.inst_pool.specs.Pieces.{IsLeafElement}
use Rattle.xml_writer.specs.inner.PieceTexts.{AreWritten, HasPut, IsElementText, innermost_ended}
use Rattle.xml_writer.specs.declared.innermost.Innermost.{Innermost}
use Rattle.xml_writer.proofs.Ahead.{from_piece}

-- three texts and what stands behind them
joined : (a b c more : List ℕ) → a ++ (b ++ (c ++ more)) ≡ (a ++ (b ++ (c ++ []))) ++ more
joined a b c more =
    sym (append_assoc a (b ++ (c ++ [])) more ∙ ap (λ t. a ++ t) (append_assoc b (c ++ []) more ∙ ap (λ t. b ++ (t ++ more)) (append-nil c)))

module _ (pieces : List Piece) (at : ℕ) (edge : Edge) (l : Leaf) (is : IsLeafElement pieces at edge l) where
  -- the end stands among the pieces
  pub element_within : at + 3 ≤ length pieces
  element_within = let last = slice_get_within pieces (at + 2) (Ends edge) is.ends in omega (arith, last)

  -- the three stand first among the pieces from there on
  from_element : drop at pieces ≡ Begins edge ∷ Holds l ∷ Ends edge ∷ drop (at + 3) pieces
  from_element =
      let second : (at + 1) + 1 ≡ at + 2 = omega arith in
      let third : (at + 2) + 1 ≡ at + 3 = omega arith in
      let ends : drop (at + 2) pieces ≡ Ends edge ∷ drop (at + 3) pieces = from_piece pieces (at + 2) (Ends edge) is.ends ∙ ap (λ n. Ends edge ∷ drop n pieces) third in
      let holds : drop (at + 1) pieces ≡ Holds l ∷ drop (at + 2) pieces = from_piece pieces (at + 1) (Holds l) is.holds ∙ ap (λ n. Holds l ∷ drop n pieces) second in
      from_piece pieces at (Begins edge) is.begins ∙ ap (λ ps. Begins edge ∷ ps) (holds ∙ ap (λ ps. Holds l ∷ ps) ends)

  module _ (g : Graph ℕ Simple) (i : Innermost) where
    -- what the three write stands before what the pieces behind them write
    from_there : (rest : List ℕ) → AreWritten g i (drop at pieces) rest
        → (one : List ℕ) × (more : List ℕ) × IsElementText g edge l one × AreWritten g (innermost_ended edge.parent) (drop (at + 3) pieces) more × (rest ≡ one ++ more)
    from_there rest w =
        let begun = subst (λ ps. AreWritten g i ps rest) from_element w in
        let held = begun.3 in
        let ended = held.3 in
        let one = begun.0 ++ (held.0 ++ (ended.0 ++ [])) in
        let own : IsElementText g edge l one = (begun.0, held.0 ++ (ended.0 ++ []), begun.2, (held.0, ended.0 ++ [], held.2, (ended.0, [], ended.2, refl, refl), refl), refl) in
        let whole : rest ≡ begun.0 ++ (held.0 ++ (ended.0 ++ ended.1)) = begun.4 ∙ ap (λ t. begun.0 ++ t) (held.4 ∙ ap (λ t. held.0 ++ t) ended.4) in
        (one, ended.1, own, ended.3, whole ∙ joined begun.0 held.0 ended.0 ended.1)

    -- the element writes something
    pub element_writes : (rest : List ℕ) × AreWritten g i (drop at pieces) rest → (one : List ℕ) × IsElementText g edge l one
    element_writes (rest, w) = (let r = from_there rest w in (r.0, r.2))

    -- it was put behind what the buffer had
    pub element_put : (buffer left : List ℕ) → ((one : List ℕ) → IsElementText g edge l one → left ≡ buffer ++ one)
        → HasPut g pieces i at buffer (innermost_ended edge.parent) (at + 3) left
    element_put buffer left puts rest w =
        let r = from_there rest w in
        let e : buffer ++ rest ≡ left ++ r.1 = ap (λ t. buffer ++ t) r.4 ∙ (sym (append_assoc buffer r.0 r.1) ∙ ap (λ t. t ++ r.1) (sym (puts r.0 r.2))) in
        (r.1, r.3, e)
