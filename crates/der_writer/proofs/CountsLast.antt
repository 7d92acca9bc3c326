-- The last piece of a value ends an element or is a leaf, so that no number belongs to it, and there are fewer pairs of numbers than pieces.
use Rattle.std.proofs.Common.{◌≡◌, ℕ, zero, suc, ◌-◌, ◌≤◌, ◌<◌, List, [], ◌∷◌, ◌++◌, length, refl, sym, ap, ◌∙◌, subst, arith}
use Rattle.std.specs.Prelude.{slice_get, slice_index, slice_set}
use Rattle.data_types.specs.Value.{Value, Children}
use Rattle.data_types.specs.Value as value
use Rattle.fragments.specs.Fragment.{fragment}
use Rattle.inst_pool.specs.Pieces.{Held}
use Rattle.reference_check.specs.Forms.{form_slots}
use Rattle.message_model.specs.Admits.{AdmitsAs}
use Rattle.message_model.specs.Sound.{HasRoot}
use Rattle.message_model.specs.Tables.{Tables, types_of, edge_at, pieces_of}
use Rattle.der_model.specs.DerMessage.{DerMessage, der_message}
use Rattle.der_writer.specs.Measured.{Beside, Free, Sized, Counts, counts_of, is_plain, value_counts, child_counts, ArePairsKept, HasCounts}
use Rattle.der_writer.specs.inner.PieceOctets.{Begun, document_edge}
use Rattle.der_writer.specs.inner.Passes.{stage}
use Rattle.der_writer.specs.inner.Measuring.{Knows}
use Rattle.der_writer.proofs.KnownStages.{SameBut, index_other, index_set, kept_same}
use Rattle.der_writer.proofs.Whole.{kept_few, value_beside, whole_staged, whole_sum}

abbrev EndsFree : List Beside → Type 0
EndsFree [] = Unit {0}
EndsFree (b ∷ []) = b ≡ Free
EndsFree (b ∷ c ∷ bs) = EndsFree (c ∷ bs)

free_then : (bs cs : List Beside) → EndsFree (Free ∷ cs) → EndsFree (bs ++ (Free ∷ cs))
free_then [] cs h = h
free_then (b ∷ []) cs h = h
free_then (b ∷ c ∷ bs) cs h = free_then (c ∷ bs) cs h

free_before : (cs : List Beside) → EndsFree cs → EndsFree (Free ∷ cs)
free_before [] h = refl
free_before (c ∷ cs) h = h

-- there are fewer pairs than pieces
fewer : (held : Held) (n : ℕ) (bs : List Beside) → EndsFree bs → ArePairsKept held n bs → 0 < length bs → n < length bs
fewer held n [] h k l = absurd (omega (arith, l))
fewer held n (Free ∷ []) h k l = (let few = kept_few held n [] k in omega (arith, few))
fewer held n (Sized len ∷ []) h k l = absurd cc
fewer held n (Counts len group ∷ []) h k l = absurd cc
fewer held n (Free ∷ c ∷ bs) h k l = (let some : 0 < length (c ∷ bs) = omega arith in let r = fewer held n (c ∷ bs) h k some in omega (arith, r))
fewer held n (Sized len ∷ c ∷ bs) h k l = (let some : 0 < length (c ∷ bs) = omega arith in let r = fewer held n (c ∷ bs) h k some in omega (arith, r))
fewer held zero (Counts len group ∷ c ∷ bs) h k l = absurd k
fewer held (suc n) (Counts len group ∷ c ∷ bs) h (x, y, k) l = (let some : 0 < length (c ∷ bs) = omega arith in let r = fewer held n (c ∷ bs) h k some in omega (arith, r))

module _ (m : DerMessage ℕ) where
  mutual
    value_free : (n : ℕ) (v : Value) → EndsFree (value_counts m n v)
    value_free n (value.Component cs) = child_free n cs
    value_free n (value.Simple l) = refl
    value_free n (value.Amount l x) = refl
    value_free n (value.External t) = refl

    child_free : (n : ℕ) (cs : Children) → EndsFree (child_counts m n cs)
    child_free n value.Nothing = tt
    child_free n (value.Child k v rest) =
        let slot = slice_get (form_slots (m.forms n)) k in
        free_then (counts_of (is_plain slot (m.forms (edge_at n k slot).target)) _ _ ∷ value_counts m (edge_at n k slot).target v) (child_counts m n rest) (free_before (child_counts m n rest) (child_free n rest))

-- what the pass has left, and at the place of the last piece the whole length and how many pairs there are, are the numbers of the instance
pub has_counts : (T : Tables) (v : Value) (mid new : Held) (kept ended sum : ℕ) → HasRoot (types_of T) → AdmitsAs (types_of T) (types_of T 0) v → new.region.pieces ≡ pieces_of fragment T v → new.region ≡ mid.region
    → Knows mid 0 kept ended sum (stage (types_of T) (Begun document_edge) (pieces_of fragment T v)) → (length mid.lens ≡ length mid.region.pieces) × (length mid.groups ≡ length mid.region.pieces)
    → (0 < length mid.region.pieces → new.lens ≡ slice_set mid.lens (length mid.region.pieces - 1) sum) → (0 < length mid.region.pieces → new.groups ≡ slice_set mid.groups (length mid.region.pieces - 1) kept)
    → HasCounts (der_message T) v new
has_counts T v mid new kept ended sum root admits is same known size lens groups = record {
  counts = λ l.
      let some = subst (λ r. 0 < length r.pieces) same l in
      let long = (value_beside T 0 v).0 in
      let all : length mid.region.pieces ≡ length (pieces_of fragment T v) = ap (λ r. length r.pieces) (sym same) ∙ ap length is in
      let numbers : ArePairsKept mid kept (value_counts (der_message T) 0 v) = subst (ArePairsKept mid kept) (whole_staged T v root admits) known.numbers in
      let some_counts : 0 < length (value_counts (der_message T) 0 v) = omega (arith, some, long, all) in
      let few = fewer mid kept (value_counts (der_message T) 0 v) (value_free (der_message T) 0 v) numbers some_counts in
      let last = length mid.region.pieces - 1 in
      let before : kept ≤ last = omega (arith, few, long, all) in
      let but : SameBut last mid new = record {
        region = same;
        lens = λ q h. ap (λ z. slice_index z q) (lens some) ∙ index_other mid.lens last q sum h;
        groups = λ q h. ap (λ z. slice_index z q) (groups some) ∙ index_other mid.groups last q kept h;
      } in
      let low : last < length mid.groups = omega (arith, some, size.1) in
      let pairs : slice_index new.groups (length new.region.pieces - 1) ≡ kept =
      ap (λ r. slice_index new.groups (length r.pieces - 1)) same ∙ (ap (λ z. slice_index z last) (groups some) ∙ index_set mid.groups last kept low) in
      subst (λ n. ArePairsKept new n (value_counts (der_message T) 0 v)) (sym pairs) (kept_same last mid new kept (value_counts (der_message T) 0 v) but before numbers);
  whole = λ l.
      let some = subst (λ r. 0 < length r.pieces) same l in
      let last = length mid.region.pieces - 1 in
      let low : last < length mid.lens = omega (arith, some, size.0) in
      ap (λ r. slice_index new.lens (length r.pieces - 1)) same ∙ (ap (λ z. slice_index z last) (lens some) ∙ (index_set mid.lens last sum low ∙ (known.total_is ∙ whole_sum T v root admits)));
}
