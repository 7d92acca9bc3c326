-- What each piece of an instance writes, one after the other.
use Rattle.std.specs.Prelude.{◌≡◌, ℕ, Bool, true, false, List, [], ◌∷◌, ◌++◌, codes, drop}
use Rattle.data_types.specs.Leaf.{Leaf, Bytes}
use Rattle.data_types.specs.Value.{Edge, Piece, Begins, Holds, Ends}
use Rattle.facets.specs.LeafUnder.{Fits}
use Rattle.facets.specs.declared.simple.Simple.{Simple}
use Rattle.reference_check.specs.Forms.{Graph, Form, form_slots}
use Rattle.reference_check.specs.Forms as form
use Rattle.message_model.specs.Admits.{FitsCode}
use Rattle.message_model.specs.Writes.{AtSlot}
use Rattle.message_model.specs.Tables.{Tables, types_of, message_namespace}
use Rattle.xml_writer.specs.CanonXml.{IsLeafText, IsCodeText, currency_text, end_tag, xml_declaration, namespace_text}
use Rattle.xml_writer.specs.declared.innermost.Innermost.{Innermost}

-- the start tag of an amount ends behind its code, and every other by itself
abbrev pub is_amount : {P : Type 0} → Form P Simple → Bool
is_amount (form.Money code number) = true
is_amount f = false

-- the innermost element, where one of the type begins
abbrev pub innermost_begun : Graph ℕ Simple → ℕ → Innermost
innermost_begun g n = record { number = n; unended = is_amount (g n) }

-- the innermost element, where nothing is left of its start tag
abbrev pub innermost_ended : ℕ → Innermost
innermost_ended n = record { number = n; unended = false }

-- the innermost element behind a piece
abbrev pub innermost_behind : Graph ℕ Simple → Innermost → Piece → Innermost
innermost_behind g at (Begins edge) = innermost_begun g edge.target
innermost_behind g at (Holds l) = innermost_ended at.number
innermost_behind g at (Ends edge) = innermost_ended edge.parent

-- how a start tag ends that may be left unended
abbrev pub tag_end : Bool → List ℕ
tag_end true = []
tag_end false = codes ">"

abbrev pub begun_tag : List ℕ → Bool → List ℕ
begun_tag tag unended = codes "<" ++ (tag ++ tag_end unended)

-- what a leaf writes that fits: the code of an amount goes into the start tag, and ends it
abbrev pub IsHeldText : Graph ℕ Simple → Bool → Form ℕ Simple → Leaf → List ℕ → Type 0
IsHeldText g unended (form.Simple simple) l bytes = Fits simple l × IsLeafText simple l bytes
IsHeldText g true (form.Money code number) l bytes =
    FitsCode (g code) l × ((text : List ℕ) × IsCodeText (g code) l text × (bytes ≡ currency_text text ++ codes ">"))
IsHeldText g false (form.Money code number) l bytes = Fits number l × IsLeafText number l bytes
IsHeldText g unended form.Envelope (Bytes octets) bytes = bytes ≡ octets
IsHeldText g unended f l bytes = ⊥

-- what a piece writes
abbrev pub IsPieceText : Graph ℕ Simple → Innermost → Piece → List ℕ → Type 0
IsPieceText g at (Begins edge) bytes = AtSlot (form_slots (g edge.parent)) edge.slot (λ s. bytes ≡ begun_tag s.tag (is_amount (g edge.target)))
IsPieceText g at (Holds l) bytes = IsHeldText g at.unended (g at.number) l bytes
IsPieceText g at (Ends edge) bytes = AtSlot (form_slots (g edge.parent)) edge.slot (λ s. bytes ≡ end_tag s.tag)

-- what pieces write, one after the other
abbrev pub AreWritten : Graph ℕ Simple → Innermost → List Piece → List ℕ → Type 0
AreWritten g at [] bytes = bytes ≡ []
AreWritten g at (piece ∷ pieces) bytes =
    (one : List ℕ) × (more : List ℕ) × IsPieceText g at piece one × AreWritten g (innermost_behind g at piece) pieces more × (bytes ≡ one ++ more)

-- what an element writes that holds this leaf and nothing else: none of its three pieces asks what is innermost before them
abbrev pub IsElementText : Graph ℕ Simple → Edge → Leaf → List ℕ → Type 0
IsElementText g edge l bytes = AreWritten g (innermost_ended edge.parent) (Begins edge ∷ Holds l ∷ Ends edge ∷ []) bytes

-- Of what the pieces from one place on write, a front was put behind what a buffer had, and the pieces from another place on write the rest.
abbrev pub HasPut : Graph ℕ Simple → List Piece → Innermost → ℕ → List ℕ → Innermost → ℕ → List ℕ → Type 0
HasPut g pieces before from old innermost at buffer =
    (rest : List ℕ) → AreWritten g before (drop from pieces) rest → (more : List ℕ) × AreWritten g innermost (drop at pieces) more × (old ++ rest ≡ buffer ++ more)

-- what stands before the content of the root, up to the end of its start tag
abbrev pub root_text : List ℕ → List ℕ → List ℕ
root_text namespace end = xml_declaration ++ (codes "<" ++ (codes "Document" ++ (namespace_text namespace ++ end)))

abbrev pub document_head : List ℕ → Bool → List ℕ
document_head namespace unended = root_text namespace (tag_end unended)

abbrev pub document_tail : List ℕ
document_tail = codes "</Document>\n"

-- what stands in the root, within the document
abbrev pub document_text : Tables → List ℕ → List ℕ
document_text T content = document_head (message_namespace T) (is_amount (types_of T 0)) ++ (content ++ document_tail)
