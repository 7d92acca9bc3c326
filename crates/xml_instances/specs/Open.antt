-- What the code keeps of the open elements.
use Rattle.std.specs.Prelude.{◌≡◌, ℕ, Bool, true, false, List, [], ◌∷◌, ◌++◌, Option, Some, None, reverse, slice_get, option_to_list, codes, Result, Ok, Err}
use Rattle.std.specs.Global.{Box}
use Rattle.lexical_core.specs.declared.rule.Rule.{Rule}
use Rattle.lexical_core.specs.declared.rule.Rule.TheVariants.{TooMany}
use Rattle.lexical_core.specs.Tree.{Expanded, Entry, Item}
use Rattle.data_types.specs.Leaf as leaf
use Rattle.facets.specs.declared.simple.Simple.{Simple}
use Rattle.facets.specs.LeafUnder.{GivesLeaf}
use Rattle.facets.specs.Rules.{BreaksFirst}
use Rattle.markup.specs.EventItems.{item_of}
use Rattle.markup.specs.declared.event.What.{What}
use Rattle.reference_check.specs.Forms.{Graph, Form, Slot, form_slots, text_type}
use Rattle.reference_check.specs.Forms.{Simple as SimpleForm}
use Rattle.reference_check.specs.Steps.{Slotted, next, Came, EndsWith}
use Rattle.message_model.specs.Sound.{count_with}
use Rattle.message_model.specs.Message.{Message}
use Rattle.xml_instances.specs.Levels.{Level, Parent, Leaf, Envelope, Foreign, levels_after, level_of_start, begun_level, slot_form, form_of_start, round_start, numbered_step, path_in}
use Rattle.xml_instances.specs.EventFaults.{Broken, EventFault, AttributeFault, place_fault, next_fault}
use Rattle.xml_instances.specs.Judges.{HasJudgeTaken, IsJudgeMadeFor}
use Rattle.xml_instances.specs.declared.judge.Judge.{Judge}
use Rattle.xml_instances.specs.declared.spare.Checks.{Checks}
use Rattle.xml_instances.specs.declared.opened.Opened.{Opened}
use Rattle.xml_instances.specs.declared.opened.Opened.TheVariants as opened
use Rattle.xml_instances.specs.declared.opened.Refusal.{Refusal}
use Rattle.xml_instances.specs.declared.opened.Refusal.TheVariants.{Breaks, Memory}
use Rattle.xml_instances.specs.declared.content.OpenText.{OpenText}
use Rattle.xml_instances.specs.declared.content.Content.{Content}

-- ---- what is open

-- the check of the open text has taken its characters
abbrev pub HoldsText : Message ℕ → Option OpenText → Simple → List ℕ → Type 0
HoldsText m None simple text = ⊥
HoldsText m (Some t) simple text = (text_type (m.forms t.number) ≡ Some simple) × HasJudgeTaken t.judge.value simple text

-- an element is kept as this; of one with elements its type, and the last slot with its count
abbrev pub StandsFor : Message ℕ → Option OpenText → Opened → Level ℕ → Type 0
StandsFor m text (opened.Parent number last count) (Parent f d) = (m.forms number ≡ f) × Came f d × EndsWith d last count
StandsFor m text opened.Text (Leaf simple taken) = HoldsText m text simple taken
StandsFor m text (opened.Envelope filled) (Envelope has) = filled ≡ has
StandsFor m text opened.Foreign Foreign = Unit {0}
StandsFor m text _ _ = ⊥

-- elements round others, the innermost first: none is a text
abbrev pub StandFor : Message ℕ → List Opened → List (Level ℕ) → Type 0
StandFor m [] [] = Unit {0}
StandFor m (e ∷ es) (l ∷ ls) = StandsFor m None e l × StandFor m es ls
StandFor m _ _ = ⊥

-- the innermost element, and those round it
abbrev pub StandsOpen : Message ℕ → Option OpenText → Option Opened → List Opened → List (Level ℕ) → Type 0
StandsOpen m text None round [] = round ≡ []
StandsOpen m text (Some e) round (l ∷ ls) = StandsFor m text e l × StandFor m (reverse round) ls
StandsOpen m text _ round _ = ⊥

-- the content stands where these elements are open
abbrev pub IsOpen : Content → Message ℕ → List (Level ℕ) → Type 0
IsOpen content m ls = StandsOpen m content.text content.innermost content.round.items ls

-- all open elements, of which the innermost is no text
abbrev pub IsRound : Content → Message ℕ → List (Level ℕ) → Type 0
IsRound content m ls = StandFor m (reverse (content.round.items ++ option_to_list content.innermost)) ls

-- ---- checks of leaves

-- the check is one for the type of this number, and was given no character since it was made or begun anew
abbrev pub IsUnusedAt : Graph ℕ Simple → ℕ → Judge → Type 0
IsUnusedAt types n check = (simple : Simple) × (text_type (types n) ≡ Some simple) × HasJudgeTaken check simple []

-- so is each check that is kept, for the type of its number
abbrev pub AreKept : Graph ℕ Simple → Checks → Type 0
AreKept types checks = (n : ℕ) (check : Box Judge) → slice_get checks.entries.items n ≡ Some (Some check) → IsUnusedAt types n check.value

-- an open text is one of a type with a text, and its judge was made for that
abbrev pub IsTextMade : Graph ℕ Simple → Option OpenText → Type 0
IsTextMade types None = Unit {0}
IsTextMade types (Some t) = ((simple : Simple) × (text_type (types t.number) ≡ Some simple)) × ((simple : Simple) → text_type (types t.number) ≡ Some simple → IsJudgeMadeFor t.judge.value simple)

-- a text is open only where the innermost element has one
abbrev pub IsTextInnermost : Option Opened → Option OpenText → Type 0
IsTextInnermost innermost None = Unit {0}
IsTextInnermost innermost (Some t) = innermost ≡ Some opened.Text

-- the checks of the content are ones for these types, and no text is open but that of the innermost element
pub record AreMade (types : Graph ℕ Simple) (content : Content) : Type 0 where
  pub kept : AreKept types content.checks
  pub text : IsTextMade types content.text
  pub innermost : IsTextInnermost content.innermost content.text

-- the rule that a text breaks, if it breaks one
abbrev pub IsRuleOf : Simple → List ℕ → Option Rule → Type 0
IsRuleOf simple text None = (l : leaf.Leaf) × GivesLeaf simple text l
IsRuleOf simple text (Some rule) = BreaksFirst simple text rule

-- ---- the path

-- what the path says of the last element in one that is open
abbrev pub last_step_of : Graph ℕ Simple → Opened → List ℕ
last_step_of types (opened.Parent number (Some k) count) = numbered_step (types number) k count
last_step_of types _ = []

abbrev pub path_so_far : Graph ℕ Simple → List Opened → List ℕ
path_so_far types [] = codes "/Document[1]"
path_so_far types (e ∷ es) = path_so_far types es ++ last_step_of types e

-- the path of an element where these are open round it, the outermost first
abbrev pub path_round : Graph ℕ Simple → List Opened → List ℕ
path_round types round = path_so_far types (reverse round)

-- ---- answers

-- the rule is told with the path
abbrev pub RefusesWith : Rule → List ℕ → Refusal → Type 0
RefusesWith rule path (Breaks r p) = (r ≡ rule) × (p ≡ path)
RefusesWith rule path Memory = Unit {0}

-- the rule is told with the path, where there was memory for it
abbrev pub IsPathTold : {E : Type 0} → Rule → Result (List ℕ) E → Refusal → Type 0
IsPathTold rule (Ok path) r = RefusesWith rule path r
IsPathTold rule (Err e) (Breaks q p) = ⊥
IsPathTold rule (Err e) Memory = Unit {0}

-- the answer says what is broken, if anything is
abbrev pub Says : {T : Type 0} → (Option Broken → Type 0) → Result T Refusal → Type 0
Says Holds (Ok x) = Holds None
Says Holds (Err (Breaks rule path)) = Holds (Some (record { rule = rule; path = path }))
Says Holds (Err Memory) = Unit {0}

-- what the comparison of an event answers
abbrev pub IsItemTaken : {T : Type 0} → Message ℕ → List (Level ℕ) → Item → Content → Result T Refusal → Type 0
IsItemTaken m ls item content (Ok x) = EventFault m ls item None × IsOpen content m (levels_after m ls item)
IsItemTaken m ls item content (Err (Breaks rule path)) = EventFault m ls item (Some (record { rule = rule; path = path }))
IsItemTaken m ls item content (Err Memory) = Unit {0}

-- the same of an event as it is told
abbrev pub IsTaken : {T : Type 0} → Message ℕ → List (Level ℕ) → What → Content → Result T Refusal → Type 0
IsTaken m ls what content result = IsItemTaken m ls (item_of what) content result

-- the form of a type that is told
abbrev pub form_at : Message ℕ → Option ℕ → Option (Form ℕ Simple)
form_at m None = None
form_at m (Some n) = Some (m.forms n)

-- what the place of an element answers: its type, where it may stand there, and the elements round it then
abbrev pub IsPlaced : Message ℕ → List (Level ℕ) → Expanded → Content → Result (Option ℕ) Refusal → Type 0
IsPlaced m ls n content (Ok type) = (place_fault m ls n ≡ None) × (form_of_start m ls n ≡ form_at m type) × IsRound content m (round_start ls n)
IsPlaced m ls n content (Err (Breaks rule path)) = place_fault m ls n ≡ Some (record { rule = rule; path = path })
IsPlaced m ls n content (Err Memory) = Unit {0}

-- what the element itself answers, of its attributes
abbrev pub IsEntered : {T : Type 0} → Message ℕ → List (Level ℕ) → Option (Form ℕ Simple) → List Entry → Content → Result T Refusal → Type 0
IsEntered m round f attributes content (Ok x) = AttributeFault m f attributes (path_in round) None × IsOpen content m (level_of_start f ∷ round)
IsEntered m round f attributes content (Err (Breaks rule path)) = AttributeFault m f attributes (path_in round) (Some (record { rule = rule; path = path }))
IsEntered m round f attributes content (Err Memory) = Unit {0}

-- the same of the parts of these answers: of the root,
abbrev pub IsRoot : Message ℕ → Expanded → Result (Option ℕ) Refusal → Type 0
IsRoot m n (Ok type) = (place_fault m [] n ≡ None) × (type ≡ Some m.root)
IsRoot m n (Err (Breaks rule path)) = place_fault m [] n ≡ Some (record { rule = rule; path = path })
IsRoot m n (Err Memory) = Unit {0}

-- of the element of an envelope,
abbrev pub IsEnvelopeFilled : Bool → List ℕ → Option Opened → Result (Option ℕ) Refusal → Type 0
IsEnvelopeFilled filled path innermost (Ok type) = (filled ≡ false) × (type ≡ None) × (innermost ≡ Some (opened.Envelope true))
IsEnvelopeFilled filled path innermost (Err (Breaks rule p)) = (filled ≡ true) × (rule ≡ TooMany) × (p ≡ path)
IsEnvelopeFilled filled path innermost (Err Memory) = Unit {0}

-- of the slot that comes,
abbrev pub IsStepped : Graph ℕ Simple → ℕ → Option ℕ → ℕ → ℕ → Option Opened → Result (Option ℕ) Refusal → Type 0
IsStepped types number last count k innermost (Ok type) =
    (s : Slot ℕ) × (slice_get (form_slots (types number)) k ≡ Some s) × (type ≡ Some s.target) × (innermost ≡ Some (opened.Parent number (Some k) (count_with last count k)))
IsStepped types number last count k innermost (Err (Breaks rule path)) = ⊥
IsStepped types number last count k innermost (Err Memory) = Unit {0}

-- of an element in one with this form, in which the slots d have come,
abbrev pub IsChild : Message ℕ → Form ℕ Simple → List ℕ → List ℕ → List ℕ → Option Opened → Result (Option ℕ) Refusal → Type 0
IsChild m f d path tag None (Ok type) = ⊥
IsChild m f d path tag (Some e) (Ok type) =
    (k : ℕ) × (next f d tag ≡ Slotted k) × (slot_form m.forms (slice_get (form_slots f) k) ≡ form_at m type) × StandsFor m None e (Parent f (d ++ k ∷ []))
IsChild m f d path tag innermost (Err (Breaks rule p)) = next_fault path f (next f d tag) ≡ Some (record { rule = rule; path = p })
IsChild m f d path tag innermost (Err Memory) = Unit {0}

-- of an element that is open then,
abbrev pub IsElementBegun : {T E : Type 0} → Message ℕ → Form ℕ Simple → Content → Result T E → Type 0
IsElementBegun m f content (Ok x) = (e : Opened) × (content.innermost ≡ Some e) × StandsFor m content.text e (begun_level f)
IsElementBegun m f content (Err e) = Unit {0}

-- the form of a code's type
abbrev pub IsCodeForm : Form ℕ Simple → Type 0
IsCodeForm f = (simple : Simple) × (f ≡ SimpleForm simple)
