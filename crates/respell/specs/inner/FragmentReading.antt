-- What a reader of a fragment has read.
use Rattle.std.specs.Prelude.{◌≡◌, ◌⊎◌, ℕ, ◌<◌, ◌≤◌, ◌+◌, List, [], ◌∷◌, ◌++◌, map, take, length}
use Rattle.lexical_core.specs.Tree.{Item, Starts, Char, Ends, Skipped, Tree}
use Rattle.markup.specs.Marks.{no_limit}
use Rattle.markup.specs.Events.{Placed}
use Rattle.markup.specs.EventItems.{item_of}
use Rattle.markup.specs.Reading.{bytes_taken, HasTakenUnder}
use Rattle.markup.specs.declared.event.Event.{Event}
use Rattle.fragments.specs.Plain.{IsPlain}
use Rattle.fragments.specs.Fragment.{fragment}
use Rattle.respell.specs.Kept.{HasWritten}
use Rattle.respell.specs.declared.fragment_reader.FragmentReader.{FragmentReader}
use Rattle.respell.specs.declared.fragment_reader.Advance.{Advance}
use Rattle.respell.specs.declared.fragment_reader.Advance.TheVariants.{Taken, NoFragment}

-- where so many elements are open, no event is one that no fragment has: no character stands outside them, and nothing is skipped
abbrev pub NoneForeign : ℕ → List Item → Type 0
NoneForeign n [] = Unit {0}
NoneForeign n (Starts name attributes ∷ items) = NoneForeign (Prim.Native.Nat.suc n) items
NoneForeign n (Ends name ∷ items) = NoneForeign (Prim.Native.Nat.pred n) items
NoneForeign n (Char c ∷ items) = (0 < n) × NoneForeign n items
NoneForeign n (Skipped ∷ items) = ⊥

-- what events say
abbrev pub event_items : List Event → List Item
event_items events = map (λ e. item_of e.what) events

-- The events of these bytes were taken, whose tags have any length, each one that a fragment may have, and of their text this front was forgotten.
pub record HasReadFront (r : FragmentReader) (bytes forgotten : List ℕ) : Type 0 where
  pub told : List Placed
  pub reads : HasTakenUnder no_limit r.reader bytes told
  pub writes : HasWritten r.respell forgotten (map (λ p. p.item) told)
  pub inside : NoneForeign 0 (map (λ p. p.item) told)

-- These bytes were read, and all of the text of their events was compared with them; those behind it wait.
pub record HasReadAll (r : FragmentReader) (waiting bytes : List ℕ) : Type 0 where
  pub forgotten : List ℕ
  pub front : HasReadFront r bytes forgotten
  pub compared : r.respell.text ≡ []
  pub waiting_are : forgotten ++ waiting ≡ bytes

-- the bytes are the fragment of a plain tree, and no more than are read
pub record IsFragment (bytes : List ℕ) : Type 0 where
  pub tree : Tree
  pub plain : IsPlain tree
  pub within : length bytes ≤ no_limit
  pub spelled : fragment tree ≡ bytes

-- The reader takes so many of the bytes, and a fragment may begin with what it has read then.
pub record ReadsFragmentOn (old new : FragmentReader) (bytes : List ℕ) (count : ℕ) : Type 0 where
  pub within : count ≤ length bytes
  pub moved : bytes_taken new.reader ≡ bytes_taken old.reader + count
  pub reads : (front forgotten : List ℕ) → HasReadFront old front forgotten → HasReadFront new (front ++ take count bytes) forgotten

-- Some of the bytes are taken, or no fragment goes on with them.
abbrev pub AdvancesSo : FragmentReader → FragmentReader → List ℕ → Advance → Type 0
AdvancesSo old new bytes (Taken count) = (0 < count) × ReadsFragmentOn old new bytes count
AdvancesSo old new bytes NoFragment = (front forgotten behind : List ℕ) → HasReadFront old front forgotten → IsFragment (front ++ (bytes ++ behind)) → ⊥

-- The reader takes so many bytes of the piece behind those that wait, and compares what it can.
pub record ReadsBehind (old new : FragmentReader) (waiting rest piece : List ℕ) (count : ℕ) : Type 0 where
  pub within : count ≤ length piece
  pub moved : bytes_taken new.reader ≡ bytes_taken old.reader + count
  pub reads : (before : List ℕ) → HasReadAll old waiting before → HasReadAll new rest (before ++ take count piece)

-- No fragment goes on with the piece.
abbrev pub RefusesPiece : FragmentReader → List ℕ → List ℕ → Type 0
RefusesPiece old waiting piece = (before behind : List ℕ) → HasReadAll old waiting before → IsFragment ((before ++ piece) ++ behind) → ⊥

-- Some of the piece is taken, or no fragment goes on with it.
abbrev pub ReadsSomeSo : FragmentReader → FragmentReader → List ℕ → List ℕ → List ℕ → Advance → Type 0
ReadsSomeSo old new waiting rest piece (Taken count) = (0 < count) × ReadsBehind old new waiting rest piece count
ReadsSomeSo old new waiting rest piece NoFragment = RefusesPiece old waiting piece

-- So much of the piece is taken that nothing waits any more, or all of it; or no fragment goes on with it.
abbrev pub ReadsWaitingSo : FragmentReader → FragmentReader → List ℕ → List ℕ → List ℕ → Advance → Type 0
ReadsWaitingSo old new waiting rest piece (Taken count) = ((rest ≡ []) ⊎ (count ≡ length piece)) × ReadsBehind old new waiting rest piece count
ReadsWaitingSo old new waiting rest piece NoFragment = RefusesPiece old waiting piece
