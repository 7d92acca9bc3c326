-- Events of which only the first so many are held to the texts that end and to the attributes of the elements that start.
use Rattle.std.proofs.Common.{◌≡◌, ℕ, ◌-◌, ◌≤◌, ◌<◌, true, false, List, [], ◌∷◌, ◌++◌, Option, Some, None, refl, sym, arith, length}
use Rattle.lexical_core.specs.Tree.{Expanded, Item, Starts, Char, Ends, Skipped}
use Rattle.data_types.specs.Leaf as leaf
use Rattle.facets.specs.LeafUnder.{GivesLeaf}
use Rattle.reference_check.specs.Steps.{Fine, end_after}
use Rattle.message_model.specs.Message.{Message}
use Rattle.xml_instances.specs.Levels.{Level, Parent, Leaf, Envelope, Foreign, form_of_start, round_start, levels_after, levels_over, path_in}
use Rattle.xml_instances.specs.EventFaults.{Broken, Unless, place_fault, AttributeFault, char_fault, EventFault, AreFine}
use Rattle.xml_instances.proofs.Accepts.{no_fault, end_fine, unless_in}

-- the end of an element
abbrev pub EndMay : {P : Type 0} → ℕ → Level P → Type 0
EndMay come (Parent f d) = end_after f d ≡ Fine
EndMay come (Leaf simple text) = 0 < come → (l : leaf.Leaf) × GivesLeaf simple text l
EndMay come (Envelope true) = Unit {0}
EndMay come (Envelope false) = ⊥
EndMay come Foreign = Unit {0}

abbrev pub EventMay : {P : Type 0} → Message P → ℕ → List (Level P) → Item → Type 0
EventMay m come ls (Starts n attributes) = (place_fault m ls n ≡ None) × (0 < come → AttributeFault m (form_of_start m ls n) attributes (path_in (round_start ls n)) None)
EventMay m come [] item = Unit {0}
EventMay m come (l ∷ ls) (Char c) = None ≡ char_fault l (path_in ls) c
EventMay m come (l ∷ ls) (Ends n) = EndMay come l
EventMay m come (l ∷ ls) Skipped = Unit {0}

-- the events may follow where these elements are open; so many have come
abbrev pub MayFollow : {P : Type 0} → Message P → ℕ → List (Level P) → List Item → Type 0
MayFollow m come ls [] = Unit {0}
MayFollow m come ls (item ∷ items) = EventMay m come ls item × MayFollow m (come - 1) (levels_after m ls item) items

pub unless_both : (o : Option Broken) (Other : Option Broken → Type 0) → o ≡ None → Other None → Unless o Other None
unless_both None Other e h = h
unless_both (Some b) Other e h = no_fault b e

module _ {P : Type 0} (m : Message P) where
  end_is_fine : (come : ℕ) (l : Level P) (ls : List (Level P)) (n : Expanded) → 0 < come → EndMay come l → EventFault m (l ∷ ls) (Ends n) None
  end_is_fine come (Parent f d) ls n some h = rw h refl
  end_is_fine come (Leaf simple text) ls n some h = h some
  end_is_fine come (Envelope true) ls n some h = refl
  end_is_fine come (Envelope false) ls n some h = absurd h
  end_is_fine come Foreign ls n some h = refl

  event_is_fine : (come : ℕ) (ls : List (Level P)) (item : Item) → 0 < come → EventMay m come ls item → EventFault m ls item None
  event_is_fine come ls (Starts n attributes) some (place, known) = unless_both _ _ place (known some)
  event_is_fine come [] (Char c) some h = refl
  event_is_fine come [] (Ends n) some h = refl
  event_is_fine come [] Skipped some h = refl
  event_is_fine come (l ∷ ls) (Char c) some h = h
  event_is_fine come (l ∷ ls) (Ends n) some h = end_is_fine come l ls n some h
  event_is_fine come (l ∷ ls) Skipped some h = refl

  fine_end : (come : ℕ) (l : Level P) (ls : List (Level P)) (n : Expanded) → EventFault m (l ∷ ls) (Ends n) None → EndMay come l
  fine_end come (Parent f d) ls n h = end_fine (path_in ls) f (end_after f d) h
  fine_end come (Leaf simple text) ls n h = λ some. h
  fine_end come (Envelope true) ls n h = tt
  fine_end come (Envelope false) ls n h = no_fault _ (sym h)
  fine_end come Foreign ls n h = tt

  fine_event : (come : ℕ) (ls : List (Level P)) (item : Item) → EventFault m ls item None → EventMay m come ls item
  fine_event come ls (Starts n attributes) h = (let r : (place_fault m ls n ≡ None) × AttributeFault m (form_of_start m ls n) attributes (path_in (round_start ls n)) None = unless_in _ _ h in (r.0, λ some. r.1))
  fine_event come [] (Char c) h = tt
  fine_event come [] (Ends n) h = tt
  fine_event come [] Skipped h = tt
  fine_event come (l ∷ ls) (Char c) h = h
  fine_event come (l ∷ ls) (Ends n) h = fine_end come l ls n h
  fine_event come (l ∷ ls) Skipped h = tt

  -- what has come breaks nothing
  pub may_is_fine : (come : ℕ) (ls : List (Level P)) (items rest : List Item) → length items ≤ come → MayFollow m come ls (items ++ rest) → AreFine m ls items
  may_is_fine come ls [] rest few h = tt
  may_is_fine come ls (item ∷ items) rest few h = (event_is_fine come ls item (omega arith) h.0, may_is_fine (come - 1) (levels_after m ls item) items rest (omega arith) h.1)

  -- behind what breaks nothing, more may follow
  pub fine_may : (come left : ℕ) (ls : List (Level P)) (items rest : List Item) → left ≡ come - length items → AreFine m ls items → MayFollow m left (levels_over m ls items) rest → MayFollow m come ls (items ++ rest)
  fine_may come left ls [] rest e fine h = (let same : left ≡ come = omega arith in rw (← same) h)
  fine_may come left ls (item ∷ items) rest e fine h = (fine_event come ls item fine.0, fine_may (come - 1) left (levels_after m ls item) items rest (omega arith) fine.1 h)

  -- two lists of events one after the other
  pub fine_append : (ls : List (Level P)) (items more : List Item) → AreFine m ls items → AreFine m (levels_over m ls items) more → AreFine m ls (items ++ more)
  fine_append ls [] more fine h = h
  fine_append ls (item ∷ items) more fine h = (fine.0, fine_append (levels_after m ls item) items more fine.1 h)

  pub fine_behind : (ls : List (Level P)) (items more : List Item) → AreFine m ls (items ++ more) → AreFine m (levels_over m ls items) more
  fine_behind ls [] more h = h
  fine_behind ls (item ∷ items) more h = fine_behind (levels_after m ls item) items more h.1
