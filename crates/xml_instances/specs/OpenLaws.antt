-- What the laws on the earliest fault say.
use Rattle.std.specs.Prelude.{◌≡◌, ◌↔◌, ℕ, List, [], ◌∷◌, ◌++◌, None, Some}
use Rattle.lexical_core.specs.Tree.{Item}
use Rattle.markup.specs.Token.{Token}
use Rattle.markup.specs.Faults.{IsClean}
use Rattle.reference_check.specs.Shapes.{AreFinite}
use Rattle.message_model.specs.Message.{Message}
use Rattle.message_model.specs.Sound.{AreSound}
use Rattle.message_model.specs.Tables.{Tables, message_of}
use Rattle.xml_instances.specs.Levels.{levels_over}
use Rattle.xml_instances.specs.EventFaults.{Broken, EventFault, AreFine}
use Rattle.xml_instances.specs.XmlFaults.{items, items_told}
use Rattle.xml_instances.specs.Checking.{HasFedXml}
use Rattle.xml_instances.specs.declared.checker.XmlChecker.{XmlChecker}
use Rattle.xml_instances.specs.OpenInstances.{AreEventsOpen, IsTreeFront}

-- Events that are the first of a tree break no rule of the message exactly where they go on to an instance.
abbrev pub FineIsOpen : Type 0
FineIsOpen = (m : Message ℕ) (items : List Item) → AreSound m.forms → AreFinite m.forms m.root → IsTreeFront items → AreFine m [] items ↔ AreEventsOpen m items

-- One more event breaks no rule of the message exactly where the events with it go on to an instance.
abbrev pub OneMoreIsOpen : Type 0
OneMoreIsOpen = (m : Message ℕ) (before : List Item) (item : Item) → AreSound m.forms → AreFinite m.forms m.root → IsTreeFront (before ++ item ∷ []) → AreFine m [] before
    → EventFault m (levels_over m [] before) item None ↔ AreEventsOpen m (before ++ item ∷ [])

-- The events of tokens that break no rule of markup are the first of a tree, and so are the first of these.
abbrev pub CleanAreFronts : Type 0
CleanAreFronts = (tokens : List Token) (before behind : List Item) → IsClean [] tokens → items tokens ≡ before ++ behind → IsTreeFront before

-- An event that breaks a rule of the message is told at once: with it the events go on to no instance.
abbrev pub BrokenEventIsNotOpen : Type 0
BrokenEventIsNotOpen = (m : Message ℕ) (before : List Item) (item : Item) (b : Broken) → AreSound m.forms → AreFinite m.forms m.root → IsTreeFront (before ++ item ∷ []) → AreFine m [] before
    → EventFault m (levels_over m [] before) item (Some b) → AreEventsOpen m (before ++ item ∷ []) → ⊥

-- What a checker has taken goes on to an instance: a fault is told as early as can be.
abbrev pub FedIsOpen : Type 0
FedIsOpen = (T : Tables) (checker : XmlChecker) (bytes : List ℕ) → AreSound (message_of T).forms → AreFinite (message_of T).forms (message_of T).root → (h : HasFedXml checker T bytes) → AreEventsOpen (message_of T) (items_told h.told)
