-- How far it is to the end of a branch, from each instruction of a code: the state of a machine, which the contracts of private functions alone cite.
use Rattle.std.specs.Prelude.{ℕ, suc, ◌≡◌, ◌+◌, ◌<◌, ◌≤◌, nat_lt, if◌then◌else◌, Bool, false, List, [], ◌∷◌, ◌++◌, length, drop, replicate, slice_index_or}
use Rattle.pattern_match.specs.declared.instruction.Instruction.{Instruction}
use Rattle.pattern_match.specs.declared.instruction.Instruction.TheVariants.{Take, Open, Bar, Close}
use Rattle.pattern_match.specs.declared.instruction.Frame.{Frame}
use Rattle.pattern_match.specs.Marking.{first_pass, second_pass}
use Rattle.pattern_match.specs.Marks.{AreEnded}

-- how many instructions stand from this one on before the bar or the end of the group around it, from how many do from each behind it
abbrev pub gap_of : Instruction → List ℕ → ℕ
gap_of (Take at optional repeated) later = suc (slice_index_or later 0 0)
gap_of (Open n optional repeated) later = if nat_lt n (length later) then suc (n + suc (slice_index_or later (suc n) 0)) else 0
gap_of Bar later = 0
gap_of Close later = 0

-- how many do from each
abbrev pub gaps : List Instruction → List ℕ
gaps [] = []
gaps (i ∷ code) = let later = gaps code in gap_of i later ∷ later

-- where no word may go on, so many instructions none of which is marked leave the groups as they are
pub record IsQuiet (n : ℕ) (code : List Instruction) : Type 0 where
  pub first : (admits : ℕ → Bool) (marks : List Bool) (frame : Frame) (frames : List Frame)
      → first_pass admits code (replicate n false ++ marks) false (frame ∷ frames) ≡ replicate n false ++ first_pass admits (drop n code) marks false (frame ∷ frames)
  pub second : (marks : List Bool) (frame : Frame) (frames : List Frame)
      → second_pass code (replicate n false ++ marks) false (frame ∷ frames) ≡ replicate n false ++ second_pass (drop n code) marks false (frame ∷ frames)

-- so many do, and so do the first of them, if their groups end among them
pub record AreQuiet (n : ℕ) (code : List Instruction) : Type 0 where
  pub inside : n ≤ length code
  pub ended : AreEnded n code
  pub quiet : (m : ℕ) → m ≤ n → AreEnded m code → IsQuiet m code

-- so it is from each instruction up to the end of its branch
abbrev pub HasGaps : List Instruction → Type 0
HasGaps code = (i : ℕ) → i < length code → AreQuiet (slice_index_or (gaps code) i 0) (drop i code)
