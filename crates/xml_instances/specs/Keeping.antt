-- What the code keeps of the pieces that events show. Private functions alone cite this.
use Rattle.std.specs.Prelude.{◌≡◌, ℕ, Bool, true, false, List, [], ◌∷◌, ◌++◌, Option, Some, None}
use Rattle.lexical_core.specs.Tree.{Expanded, Item, Starts, Ends, Skipped}
use Rattle.data_types.specs.Value.{Piece}
use Rattle.markup.specs.PlainTags.{innermost_namespace}
use Rattle.markup.specs.declared.plain_tag.TagKind.{TagKind}
use Rattle.markup.specs.declared.plain_tag.TagKind.TheVariants.{Start, Empty, End}
use Rattle.respell.specs.Kept.{HasTakenItems, IsInDefault, opened_by}
use Rattle.respell.specs.declared.respell.Respell.{Respell}
use Rattle.inst_pool.specs.Pieces.{open_in}
use Rattle.message_model.specs.Tables.{Tables, message_of}
use Rattle.xml_instances.specs.Levels.{Level, Foreign, levels_after}
use Rattle.xml_instances.specs.Built.{Shown, nothing_shown, ShowsBeside, EventsShow}
use Rattle.xml_instances.specs.declared.opened.Opened.{Opened}
use Rattle.xml_instances.specs.declared.opened.Opened.TheVariants as opened

-- what contracts see of them: the pieces, and what writes the element of an envelope
pub record PiecesKept : Type 0 where
  pub pieces : List Piece
  pub element : Respell

-- what was shown is kept
pub record HasShown (kept : PiecesKept) (s : Shown) : Type 0 where
  pub pieces_are : kept.pieces ≡ s.pieces
  pub open_are : open_in kept.pieces ≡ s.edges
  pub inside_are : HasTakenItems kept.element s.inside

-- where pieces are kept, they go on as what is shown does
abbrev pub GoOn : Option PiecesKept → Option PiecesKept → (Shown → Shown → Type 0) → Type 0
GoOn None None Step = Unit {0}
GoOn (Some old) (Some new) Step = (s : Shown) → HasShown old s → (t : Shown) × Step s t × HasShown new t
GoOn _ _ Step = ⊥

-- pieces are kept, and this was shown
abbrev pub KeepsSomeShown : Option PiecesKept → Shown → Type 0
KeepsSomeShown None s = ⊥
KeepsSomeShown (Some kept) s = HasShown kept s

-- where this is the innermost element, the event is one of the element of an envelope
abbrev pub is_within : Option Opened → Item → Bool
is_within (Some opened.Foreign) Skipped = false
is_within (Some opened.Foreign) item = true
is_within (Some (opened.Envelope filled)) (Starts n attributes) = true
is_within o item = false

-- ---- tags whose names are not told whole: they are in the namespace of the innermost element

-- The element of an envelope that is open is written in the default namespace so far.
abbrev pub IsInnermostDefault : PiecesKept → Type 0
IsInnermostDefault kept = (s : Shown) → HasShown kept s → IsInDefault kept.element (innermost_namespace (opened_by [] s.inside))

-- A tag may be taken so: no element of an envelope begins, and one that has begun is in the default namespace so far.
abbrev pub MayShow : Option PiecesKept → Option Opened → Type 0
MayShow (Some kept) (Some opened.Foreign) = IsInnermostDefault kept
MayShow (Some kept) (Some (opened.Envelope filled)) = ⊥
MayShow kept o = Unit {0}

-- and it has this name
abbrev pub MayShowName : Option PiecesKept → Option Opened → Expanded → Type 0
MayShowName (Some kept) (Some opened.Foreign) n = IsInDefault kept.element n.namespace
MayShowName (Some kept) (Some (opened.Envelope filled)) n = ⊥
MayShowName kept o n = Unit {0}

-- the name is in the default namespace so far of the element of an envelope
abbrev pub IsKeptDefault : Option PiecesKept → Expanded → Type 0
IsKeptDefault None n = Unit {0}
IsKeptDefault (Some kept) n = IsInDefault kept.element n.namespace

-- several events of the element of an envelope
abbrev pub with_all_inside : List Item → Shown → Shown
with_all_inside items s = record { edges = s.edges; inside = s.inside ++ items; pieces = s.pieces }

-- events of an element in an envelope are kept
abbrev pub with_events : List (Level ℕ) → List Item → Shown → Shown
with_events (Foreign ∷ ls) items s = with_all_inside items s
with_events ls items s = s

-- what a tag shows, but that its events may be ones of the element of an envelope
abbrev pub TagShowsBeside : Tables → List (Level ℕ) → TagKind → Expanded → Shown → Shown → Type 0
TagShowsBeside T ls Start n s t = ShowsBeside T ls (Starts n []) s t
TagShowsBeside T ls Empty n s t = (u : Shown) × ShowsBeside T ls (Starts n []) s u × ShowsBeside T (levels_after (message_of T) ls (Starts n [])) (Ends n) u t
TagShowsBeside T ls End n s t = ShowsBeside T ls (Ends n) s t

-- where pieces are kept, they are those that the events show
abbrev pub IsBuilt : Option PiecesKept → Tables → List Item → Type 0
IsBuilt None T items = Unit {0}
IsBuilt (Some kept) T items = (s : Shown) × EventsShow T [] items nothing_shown s × HasShown kept s

-- these pieces are kept
abbrev pub AreKeptPieces : Option PiecesKept → List Piece → Type 0
AreKeptPieces None pieces = ⊥
AreKeptPieces (Some kept) pieces = pieces ≡ kept.pieces
