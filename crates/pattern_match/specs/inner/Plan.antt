-- A pattern with its repetitions written out, the instructions that it is compiled to, and what each instruction knows of a word: no contract cites it, the proofs go over it.
use Rattle.std.specs.Prelude.{ℕ, suc, ◌≡◌, ◌≢◌, ◌+◌, ◌⊎◌, ◌↔◌, Bool, true, false, IsTrue, List, [], ◌∷◌, ◌++◌}
use Rattle.pattern_match.specs.Language.{Repeats, IsBoth}
use Rattle.pattern_match.specs.declared.instruction.Instruction.{Instruction}
use Rattle.pattern_match.specs.declared.instruction.Instruction.TheVariants.{Take, Open, Bar, Close}

-- nothing; an atom and what follows; a group and what follows; a branch and the branches after it. Two flags: may be left out, may be repeated
pub data Plan : Type 0 where
  Nothing : Plan
  One : ℕ → Bool → Bool → Plan → Plan
  Many : Plan → Bool → Bool → Plan → Plan
  Either : Plan → Plan → Plan

-- how many instructions it has
abbrev pub size : Plan → ℕ
size Nothing = 0
size (One at optional repeated rest) = suc (size rest)
size (Many inner optional repeated rest) = suc (size inner + suc (size rest))
size (Either branch rest) = size branch + suc (size rest)

-- its instructions, and then these
abbrev pub code_then : Plan → List Instruction → List Instruction
code_then Nothing code = code
code_then (One at optional repeated rest) code = Take at optional repeated ∷ code_then rest code
code_then (Many inner optional repeated rest) code = Open (size inner) optional repeated ∷ code_then inner (Close ∷ code_then rest code)
code_then (Either branch rest) code = code_then branch (Bar ∷ code_then rest code)

-- any number of parts
abbrev pub Star : (List ℕ → Type 0) → List ℕ → Type 0
Star P w = (k : ℕ) × Repeats P k w

-- one part; none or one; one or more; any number
abbrev pub Flagged : Bool → Bool → (List ℕ → Type 0) → List ℕ → Type 0
Flagged false false P w = P w
Flagged true false P w = (w ≡ []) ⊎ P w
Flagged false true P w = (k : ℕ) × Repeats P (suc k) w
Flagged true true P w = Star P w

-- words of one character that the atom at a token takes
abbrev pub IsTakenAt : (ℕ → ℕ → Type 0) → ℕ → List ℕ → Type 0
IsTakenAt Takes at w = (c : ℕ) × (w ≡ c ∷ []) × Takes at c

-- its words
abbrev pub PlanLang : (ℕ → ℕ → Type 0) → Plan → List ℕ → Type 0
PlanLang Takes Nothing w = w ≡ []
PlanLang Takes (One at optional repeated rest) w = IsBoth (Flagged optional repeated (IsTakenAt Takes at)) (PlanLang Takes rest) w
PlanLang Takes (Many inner optional repeated rest) w = IsBoth (Flagged optional repeated (PlanLang Takes inner)) (PlanLang Takes rest) w
PlanLang Takes (Either branch rest) w = PlanLang Takes branch w ⊎ PlanLang Takes rest w

-- where a part may begin: where the first may, and behind each where it may be repeated
abbrev pub BeginsPart : Bool → (List ℕ → Type 0) → (List ℕ → Type 0) → List ℕ → Type 0
BeginsPart false A P w = A w
BeginsPart true A P w = IsBoth A (Star P) w

-- a word of A and then one of P that is not empty
abbrev pub Ends : (List ℕ → Type 0) → (List ℕ → Type 0) → List ℕ → Type 0
Ends A P w = (u : List ℕ) × (v : List ℕ) × (w ≡ u ++ v) × (v ≢ []) × A u × P v

-- where the plan may begin behind the words of A, each Take has whether its atom may come next behind the word w; more follows
abbrev pub Marked : (ℕ → ℕ → Type 0) → Plan → (List ℕ → Type 0) → List ℕ → List Bool → List Bool → Type 0
Marked Takes Nothing A w marks more = marks ≡ more
Marked Takes (One at optional repeated rest) A w marks more =
    (mark : Bool) × (later : List Bool) × (marks ≡ mark ∷ later) × (IsTrue mark ↔ BeginsPart repeated A (IsTakenAt Takes at) w)
    × Marked Takes rest (IsBoth A (Flagged optional repeated (IsTakenAt Takes at))) w later more
Marked Takes (Many inner optional repeated rest) A w marks more =
    (mark : Bool) × (within : List Bool) × (end : Bool) × (later : List Bool) × (marks ≡ mark ∷ within)
    × Marked Takes inner (BeginsPart repeated A (PlanLang Takes inner)) w within (end ∷ later)
    × Marked Takes rest (IsBoth A (Flagged optional repeated (PlanLang Takes inner))) w later more
Marked Takes (Either branch rest) A w marks more =
    (mark : Bool) × (later : List Bool) × Marked Takes branch A w marks (mark ∷ later) × Marked Takes rest A w later more

-- no bar outside a group
abbrev pub IsOneBranch : Plan → Type 0
IsOneBranch (Either branch rest) = ⊥
IsOneBranch plan = Unit {0}

-- bars stand only between branches
abbrev pub IsPlan : Plan → Type 0
IsPlan Nothing = Unit {0}
IsPlan (One at optional repeated rest) = IsOneBranch rest × IsPlan rest
IsPlan (Many inner optional repeated rest) = IsPlan inner × IsOneBranch rest × IsPlan rest
IsPlan (Either branch rest) = IsOneBranch branch × IsPlan branch × IsPlan rest
