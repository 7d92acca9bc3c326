-- What the laws on the earliest fault say of a message that breaks no rule of its repository.
use Rattle.std.specs.Prelude.{◌≡◌, ◌↔◌, ℕ, ◌≤◌, List, [], ◌∷◌, ◌++◌, None}
use Rattle.lexical_core.specs.Rules.{number_of}
use Rattle.lexical_core.specs.Tree.{Item}
use Rattle.markup.specs.Token.{Token}
use Rattle.markup.specs.Marks.{Front, tag_limit}
use Rattle.markup.specs.Events.{Placed, events}
use Rattle.markup.specs.Faults.{IsClean}
use Rattle.message_model.specs.Message.{Message}
use Rattle.message_model.specs.OfReady.{OfReady}
use Rattle.message_model.specs.Tables.{Tables, message_of}
use Rattle.xml_instances.specs.Levels.{levels_over}
use Rattle.xml_instances.specs.EventFaults.{EventFault, AreFine}
use Rattle.xml_instances.specs.XmlFaults.{FaultInXml, XmlFault, items, items_told}
use Rattle.xml_instances.specs.Checking.{HasFedXml}
use Rattle.xml_instances.specs.OpenInstances.{AreEventsOpen, IsTreeFront}
use Rattle.xml_instances.specs.declared.checker.XmlChecker.{XmlChecker}

-- behind these events, which break no rule, one more breaks none of the message exactly where the events with it go on to an instance
abbrev pub IsToldAtOnce : Tables → List Item → Item → Type 0
IsToldAtOnce T before item =
    AreFine (message_of T) [] before → EventFault (message_of T) (levels_over (message_of T) [] before) item None ↔ AreEventsOpen (message_of T) (before ++ item ∷ [])

-- So it is of events that are the first of a tree.
abbrev pub ReadyXmlTellsAtOnce : Type 0
ReadyXmlTellsAtOnce = OfReady (λ T. (before : List Item) (item : Item) → IsTreeFront (before ++ item ∷ []) → IsToldAtOnce T before item)

-- So it is of the events of tokens that break no rule of markup.
abbrev pub ReadyTokensTellAtOnce : Type 0
ReadyTokensTellAtOnce = OfReady (λ T. (tokens : List Token) (before : List Item) (item : Item) (behind : List Item) → IsClean [] tokens → items tokens ≡ before ++ item ∷ behind → IsToldAtOnce T before item)

-- What a checker has taken goes on to an instance.
abbrev pub ReadyFedXmlIsOpen : Type 0
ReadyFedXmlIsOpen = OfReady (λ T. (checker : XmlChecker) (bytes : List ℕ) (h : HasFedXml checker T bytes) → AreEventsOpen (message_of T) (items_told h.told))

-- The fault is told of an event at its place: those before it go on to an instance, and with it they go on to none.
pub record IsToldAtEvent {P : Type 0} (m : Message P) (bytes : List ℕ) (fault : FaultInXml) : Type 0 where
  pub tokens : List Token
  pub rest : List ℕ
  pub before : List Placed
  pub event : Placed
  pub behind : List Placed
  pub front : Front tag_limit [] bytes tokens rest
  pub clean : IsClean [] tokens
  pub events_are : events [] 0 tokens ≡ before ++ event ∷ behind
  pub place : event.place ≡ fault.place
  pub goes_on : AreEventsOpen m (items_told before)
  pub goes_no_further : AreEventsOpen m (items_told (before ++ event ∷ [])) → ⊥

-- The first fault of bytes, where it is none of markup, is told so.
abbrev pub ReadyFaultIsAtEvent : Type 0
ReadyFaultIsAtEvent = OfReady (λ T. (bytes : List ℕ) (fault : FaultInXml) → XmlFault (message_of T) bytes fault → 12 ≤ number_of fault.broken.rule → IsToldAtEvent (message_of T) bytes fault)
