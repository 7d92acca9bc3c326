-- Runs of the scan over characters, and what they say of tokens.
use Rattle.std.specs.Prelude.{◌≡◌, ℕ, Bool, ◌==◌, ◌&&◌, not, true, false, List, [], ◌∷◌, ◌++◌, map, if◌then◌else◌}
use Rattle.markup.specs.Reference.{referred_character}
use Rattle.markup.specs.Token.{Token, Mark, Declaration, Comment, Instruction, Opener, Closer, TypeDeclaration, Start, End, Refer, LineEnd, Character, Cr, token_text}
use Rattle.markup.specs.Marks.{in_cdata, is_first, stands}
use Rattle.markup.specs.Events.{spelled_name, given_attribute}
use Rattle.markup.specs.Faults.{TokenGoesOn}
use Rattle.markup.specs.inner.Drafts.{no_name, no_draft, note_character}
use Rattle.markup.specs.inner.Scans.{step}
use Rattle.markup.specs.declared.draft.Draft.{Draft}
use Rattle.markup.specs.declared.scan.Position.{Position}
use Rattle.markup.specs.declared.scan.Position.TheVariants.{Start as AtStart, AfterMark, Text, Cdata}
use Rattle.markup.specs.declared.scan.Scan.{Scan}
use Rattle.markup.specs.declared.scan.Scan.TheVariants.{Begin}
use Rattle.markup.specs.declared.scan.Ended.{Ended}
use Rattle.markup.specs.declared.scan.Ended.TheVariants.{Mark as MarkEnded, Declaration as DeclarationEnded, Passed, Opener as OpenerEnded, Closer as CloserEnded, TypeDeclaration as TypeDeclarationEnded, Start as StartEnded, End as EndEnded, Refer as ReferEnded, LineEnd as LineEnded, Character as CharacterEnded}
use Rattle.markup.specs.declared.scan.Turn.{Turn}
use Rattle.markup.specs.declared.scan.Turn.TheVariants.{Goes, Whole, Stuck}

-- how far the scan comes: it is still in the token, the token has ended with these characters behind it, or no token goes on so
pub data Run : Type 0 where
  At : (scan : Scan) (draft : Draft) → Run
  Over : (ended : Ended) (draft : Draft) (behind : List ℕ) → Run
  Failed : Run

abbrev pub turn_run : (Scan → Run) → Draft → List ℕ → Turn → Run
turn_run go d w (Goes s) = go s
turn_run go d w (Whole e) = Over e d w
turn_run go d w Stuck = Failed

-- from a scan and a draft, over these characters
abbrev pub run : Scan → Draft → List ℕ → Run
run s d [] = At s d
run s d (c ∷ w) = turn_run (λ t. run t (note_character s t c d) w) d w (step s c)

-- where a token begins behind these
abbrev pub placed_by : Bool → Bool → Position
placed_by first cdata = if first then AfterMark else (if cdata then Cdata else Text)

abbrev pub position : List Token → Position
position [] = AtStart
position (t ∷ before) = placed_by (is_first (t ∷ before)) (in_cdata (t ∷ before))

-- what the scan says of a token that has ended
abbrev pub ended_of : Token → Ended
ended_of Mark = MarkEnded
ended_of (Declaration fs g) = DeclarationEnded
ended_of (Comment text) = Passed
ended_of (Instruction p s) = Passed
ended_of Opener = OpenerEnded
ended_of Closer = CloserEnded
ended_of TypeDeclaration = TypeDeclarationEnded
ended_of (Start t) = StartEnded t.is_empty
ended_of (End n g) = EndEnded
ended_of (Refer r) = ReferEnded (referred_character r)
ended_of (LineEnd l) = LineEnded
ended_of (Character c) = CharacterEnded c

-- and what the tag said
abbrev pub draft_of : Token → Draft
draft_of (Start t) = record { name = spelled_name t.name; given = map given_attribute t.attributes; attribute = no_name; value = [] }
draft_of (End n g) = record { name = spelled_name n; given = []; attribute = no_name; value = [] }
draft_of _ = no_draft

-- A CR alone, and a `]` in a CDATA section, end with what follows them.
abbrev pub ends_itself : Bool → Token → Bool
ends_itself cdata (LineEnd Cr) = false
ends_itself cdata (Character c) = not (cdata && c == 93)
ends_itself cdata _ = true

-- a token of these characters that stands there, whatever follows, of which the scan says this
pub record ReadToken (before : List Token) (chars : List ℕ) (ended : Ended) (draft : Draft) : Type 0 where
  pub token : Token
  pub is : (after : List ℕ) → stands before token after ≡ true
  pub text : token_text token ≡ chars
  pub ended_is : ended_of token ≡ ended
  pub draft_is : draft_of token ≡ draft

-- The scan reads the grammar: each token that ends itself to its end and no further, no other text to an end, as far as some token begins so, and no further.
pub record ReadsGrammar : Type 0 where
  pub complete : (before : List Token) (t : Token) (after behind : List ℕ) → stands before t after ≡ true → ends_itself (in_cdata before) t ≡ true → run (Begin (position before)) no_draft (token_text t ++ behind) ≡ Over (ended_of t) (draft_of t) behind
  pub sound : (before : List Token) (chars : List ℕ) (ended : Ended) (draft : Draft) → run (Begin (position before)) no_draft chars ≡ Over ended draft [] → ReadToken before chars ended draft
  pub goes_on : (before : List Token) (chars : List ℕ) (scan : Scan) (draft : Draft) → run (Begin (position before)) no_draft chars ≡ At scan draft → TokenGoesOn before chars
  pub no_more : (before : List Token) (chars : List ℕ) → run (Begin (position before)) no_draft chars ≡ Failed → TokenGoesOn before chars → ⊥
