-- The piece begins with the word where what is left of it begins with the letters that are left, and only there.
use Rattle.std.proofs.Common.{◌≡◌, ◌++◌, ℕ, List, length}
use Rattle.markup.proofs.references.begins_with.Given as goal

abbrev pub invariant-loop-letter : goal.invariant-loop-letter
invariant-loop-letter l = ((rest : List ℕ) → l.left ≡ l.letters ++ rest → l.piece ≡ l.word ++ rest) × ((rest : List ℕ) → l.piece ≡ l.word ++ rest → l.left ≡ l.letters ++ rest)

abbrev pub decreases-loop-letter : goal.decreases-loop-letter
decreases-loop-letter l = length l.letters
