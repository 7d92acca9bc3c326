-- How far a sink over a writer has come with the bytes of one push.
use Rattle.std.proofs.Common.{◌≡◌, ℕ, ◌+◌, ◌≤◌, List, Option, length, take, drop, sym, ap, ◌∙◌, subst, length-drop, arith}
use Rattle.std.proofs.lemmas.List.{drop-drop}
use Rattle.std.proofs.Math.Seq.{take-add}
use Rattle.std.specs.Io.KnownBytes.{Appends}
use Rattle.std.proofs.KnownBytes.{Appends-trans}

-- the first bytes are written, and the rest is still to come
pub record HasWritten (old new : Option (List ℕ)) (bytes rest : List ℕ) : Type 0 where
  pub count : ℕ
  pub fits : count ≤ length bytes
  pub rest_is : rest ≡ drop count bytes
  pub written : Appends old new (take count bytes)

-- one more write of some bytes of the rest
pub goes_on : (old mid new : Option (List ℕ)) (bytes rest : List ℕ) (n : ℕ) → HasWritten old mid bytes rest → n ≤ length rest
    → Appends mid new (take n rest) → HasWritten old new bytes (drop n rest)
goes_on old mid new bytes rest n so_far fits more =
    let front : Appends mid new (take n (drop so_far.count bytes)) = subst (λ l. Appends mid new (take n l)) so_far.rest_is more in
    let short : n ≤ length (drop so_far.count bytes) = subst (λ l. n ≤ length l) so_far.rest_is fits in
    record {
      count = so_far.count + n;
      fits = omega (arith, short, so_far.fits, length-drop so_far.count bytes);
      rest_is = ap (drop n) so_far.rest_is ∙ drop-drop n so_far.count bytes;
      written = subst (Appends old new) (sym (take-add so_far.count n bytes)) (Appends-trans old mid new _ _ so_far.written front);
    }
