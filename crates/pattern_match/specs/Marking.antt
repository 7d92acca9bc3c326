-- How a character and the empty word pass through the instructions, in two passes from the first to the last: the state of a machine, which the contracts of private functions alone cite.
use Rattle.std.specs.Prelude.{ℕ, Bool, false, ◌&&◌, ◌||◌, if◌then◌else◌, List, [], ◌∷◌, slice_index_or}
use Rattle.pattern_match.specs.declared.instruction.Instruction.{Instruction}
use Rattle.pattern_match.specs.declared.instruction.Instruction.TheVariants.{Take, Open, Bar, Close}
use Rattle.pattern_match.specs.declared.instruction.Frame.{Frame}

-- a frame of these
abbrev pub frame : Bool → Bool → Frame
frame entered left = record { entered = entered; left = left }

-- the innermost group that is begun: where none is kept, one that no word has begun or left
abbrev pub innermost_group : List Frame → Frame
innermost_group [] = frame false false
innermost_group (f ∷ frames) = f

-- the groups around it
abbrev pub around : List Frame → List Frame
around [] = []
around (f ∷ frames) = frames

-- one group more: the first is not kept as long as no word has begun or left it
abbrev pub with_group : Frame → List Frame → List Frame
with_group f [] = if f.entered || f.left then f ∷ [] else []
with_group f (g ∷ frames) = f ∷ g ∷ frames

-- whether a word may go on behind a bar
abbrev pub now_at_bar : List Frame → Bool
now_at_bar frames = (innermost_group frames).entered

-- the groups that are begun behind a bar
abbrev pub frames_at_bar : Bool → List Frame → List Frame
frames_at_bar now frames = with_group (frame (innermost_group frames).entered ((innermost_group frames).left || now)) (around frames)

-- whether a word may go on behind the end of a group
abbrev pub now_at_close : Bool → List Frame → Bool
now_at_close now frames = (innermost_group frames).left || now

-- one instruction of the first pass: its new mark, whether a word may go on behind it, and the groups that are begun then
abbrev pub first_mark : (ℕ → Bool) → Instruction → Bool → Bool → List Frame → Bool
first_mark admits (Take at optional repeated) mark live frames = mark && admits at
first_mark admits (Open length optional repeated) mark live frames = mark
first_mark admits Bar mark live frames = mark
first_mark admits Close mark live frames = now_at_close live frames

-- whether a word may go on behind an instruction of the first pass
abbrev pub first_live : (ℕ → Bool) → Instruction → Bool → Bool → List Frame → Bool
first_live admits (Take at optional repeated) mark live frames = (mark && admits at) || (optional && live)
first_live admits (Open length optional repeated) mark live frames = live || false
first_live admits Bar mark live frames = now_at_bar frames
first_live admits Close mark live frames = now_at_close live frames

-- the groups that are begun behind an instruction of the first pass
abbrev pub first_frames : Instruction → Bool → List Frame → List Frame
first_frames (Take at optional repeated) live frames = frames
first_frames (Open length optional repeated) live frames = with_group (frame (live || false) (optional && live)) frames
first_frames Bar live frames = frames_at_bar live frames
first_frames Close live frames = around frames

-- the first pass: which marked atoms take the character, and which groups it may end
abbrev pub first_pass : (ℕ → Bool) → List Instruction → List Bool → Bool → List Frame → List Bool
first_pass admits [] marks live frames = marks
first_pass admits (i ∷ code) [] live frames = []
first_pass admits (i ∷ code) (mark ∷ marks) live frames =
    first_mark admits i mark live frames ∷ first_pass admits code marks (first_live admits i mark live frames) (first_frames i live frames)

-- where the group that an instruction begins ends, behind it
abbrev pub end_of_group : Instruction → ℕ
end_of_group (Open length optional repeated) = length
end_of_group i = 0

-- one instruction of the second pass
abbrev pub second_mark : Instruction → Bool → Bool → List Frame → Bool
second_mark (Take at optional repeated) hit live frames = live || (repeated && hit)
second_mark (Open length optional repeated) hit live frames = hit
second_mark Bar hit live frames = hit
second_mark Close hit live frames = false

-- whether a word may go on behind an instruction of the second pass
abbrev pub second_live : Instruction → Bool → Bool → Bool → List Frame → Bool
second_live (Take at optional repeated) hit end live frames = hit || (optional && live)
second_live (Open length optional repeated) hit end live frames = live || (repeated && end)
second_live Bar hit end live frames = now_at_bar frames
second_live Close hit end live frames = now_at_close live frames

-- the groups that are begun behind an instruction of the second pass
abbrev pub second_frames : Instruction → Bool → Bool → List Frame → List Frame
second_frames (Take at optional repeated) end live frames = frames
second_frames (Open length optional repeated) end live frames = with_group (frame (live || (repeated && end)) (optional && live)) frames
second_frames Bar end live frames = frames_at_bar live frames
second_frames Close end live frames = around frames

-- the second pass: which atoms may come next, and at the end whether the word may end
abbrev pub second_pass : List Instruction → List Bool → Bool → List Frame → List Bool
second_pass [] hits live frames = live ∷ []
second_pass (i ∷ code) [] live frames = []
second_pass (i ∷ code) (hit ∷ hits) live frames =
    let end = slice_index_or hits (end_of_group i) false in
    second_mark i hit live frames ∷ second_pass code hits (second_live i hit end live frames) (second_frames i end live frames)
