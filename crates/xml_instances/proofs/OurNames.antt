-- The elements of a message that are open have names of its namespace.
use Rattle.std.proofs.Common.{◌≡◌, ℕ, Bool, true, false, List, [], ◌∷◌, Option, Some, None, refl}
use Rattle.std.specs.Prelude.{if◌then◌else◌, codes}
use Rattle.std.specs.Str.{bytes_eq}
use Rattle.std.proofs.lemmas.Bool.{and_parts}
use Rattle.lexical_core.specs.Tree.{Expanded, Entry, Item, Starts, Char, Ends, Skipped}
use Rattle.lexical_core.specs.Names.{same_name}
use Rattle.lexical_core.specs.declared.rule.Rule.TheVariants.{WrongRoot, UnknownElement}
use Rattle.lexical_core.proofs.EqualBytes.{equal_bytes}
use Rattle.markup.specs.Events.{Placed}
use Rattle.markup.specs.PlainTags.{open_after, open_behind, innermost_namespace, name_behind}
use Rattle.reference_check.specs.Steps.{next}
use Rattle.message_model.specs.Message.{Message}
use Rattle.message_model.specs.Writes.{name_in_namespace}
use Rattle.xml_instances.specs.Levels.{Level, Parent, Leaf, Envelope, Foreign, levels_after, levels_over, with_char, form_of_start, level_of_start, round_start, path_in}
use Rattle.xml_instances.specs.EventFaults.{Broken, EventFault, AttributeFault, AreFine, Unless, next_fault}
use Rattle.xml_instances.specs.XmlFaults.{items_told}
use Rattle.xml_instances.specs.inner.Quick.{IsOurs}

-- an element that has elements of the message has a name of its namespace
abbrev IsNamed : Message ℕ → Level ℕ → Expanded → Type 0
IsNamed m (Parent f d) n = n.namespace ≡ m.namespace
IsNamed m (Leaf simple text) n = Unit {0}
IsNamed m (Envelope filled) n = Unit {0}
IsNamed m Foreign n = Unit {0}

abbrev AreNamed : Message ℕ → List (Level ℕ) → List Expanded → Type 0
AreNamed m [] [] = Unit {0}
AreNamed m (l ∷ ls) (n ∷ ns) = IsNamed m l n × AreNamed m ls ns
AreNamed m _ _ = ⊥

is_named : (m : Message ℕ) (l : Level ℕ) (n : Expanded) → n.namespace ≡ m.namespace → IsNamed m l n
is_named m (Parent f d) n e = e
is_named m (Leaf simple text) n e = tt
is_named m (Envelope filled) n e = tt
is_named m Foreign n e = tt

named_char : (m : Message ℕ) (l : Level ℕ) (n : Expanded) (c : ℕ) → IsNamed m l n → IsNamed m (with_char l c) n
named_char m (Parent f d) n c h = h
named_char m (Leaf simple text) n c h = tt
named_char m (Envelope filled) n c h = tt
named_char m Foreign n c h = tt

-- where nothing is broken, neither is what comes first
unless_none : (x : Option Broken) (Other : Option Broken → Type 0) → Unless x Other None → x ≡ None
unless_none None Other h = refl
unless_none (Some b) Other h = absurd (differ h)
  where
    differ : None ≡ Some b → ⊥
    differ k = cc

if_none : (c : Bool) (x : Option Broken) (b : Broken) → (if c then x else Some b) ≡ None → c ≡ true
if_none true x b h = refl
if_none false x b h = absurd (differ h)
  where
    differ : Some b ≡ None → ⊥
    differ k = cc

named_start : (m : Message ℕ) (ls : List (Level ℕ)) (n : Expanded) (attributes : List Entry) (ns : List Expanded) → EventFault m ls (Starts n attributes) None → AreNamed m ls ns
    → AreNamed m (level_of_start (form_of_start m ls n) ∷ round_start ls n) (n ∷ ns)
named_start m [] n attributes [] h k =
    let e = if_none (same_name n (name_in_namespace m.namespace (codes "Document"))) None (record { rule = WrongRoot; path = codes "/" }) (unless_none _ (AttributeFault m (form_of_start m [] n) attributes (path_in (round_start {P = ℕ} [] n))) h) in
    (is_named m (level_of_start (form_of_start m [] n)) n (equal_bytes n.namespace m.namespace (and_parts (bytes_eq n.namespace m.namespace) (bytes_eq n.local (codes "Document")) e).0), tt)
named_start m [] n attributes (p ∷ ns) h k = absurd k
named_start m (l ∷ ls) n attributes [] h k = absurd k
named_start m (Parent f d ∷ ls) n attributes (p ∷ ns) h k =
    let e = if_none (bytes_eq n.namespace m.namespace) (next_fault (path_in ls) f (next f d n.local)) (record { rule = UnknownElement; path = path_in ls })
    (unless_none _ (AttributeFault m (form_of_start m (Parent f d ∷ ls) n) attributes (path_in (round_start (Parent f d ∷ ls) n))) h) in
    (is_named m (level_of_start (form_of_start m (Parent f d ∷ ls) n)) n (equal_bytes n.namespace m.namespace e), k)
named_start m (Leaf simple text ∷ ls) n attributes (p ∷ ns) h k = absurd (differ h)
  where
    differ : {b : Broken} → None ≡ Some b → ⊥
    differ k = cc
named_start m (Envelope true ∷ ls) n attributes (p ∷ ns) h k = absurd (differ h)
  where
    differ : {b : Broken} → None ≡ Some b → ⊥
    differ k = cc
named_start m (Envelope false ∷ ls) n attributes (p ∷ ns) h k = (tt, k)
named_start m (Foreign ∷ ls) n attributes (p ∷ ns) h k = (tt, k)

named_after : (m : Message ℕ) (ls : List (Level ℕ)) (item : Item) (ns : List Expanded) → EventFault m ls item None → AreNamed m ls ns → AreNamed m (levels_after m ls item) (open_after ns item)
named_after m ls (Starts n attributes) ns h k = named_start m ls n attributes ns h k
named_after m [] (Char c) [] h k = tt
named_after m [] (Ends n) [] h k = tt
named_after m [] Skipped [] h k = tt
named_after m [] (Char c) (p ∷ ns) h k = absurd k
named_after m [] (Ends n) (p ∷ ns) h k = absurd k
named_after m [] Skipped (p ∷ ns) h k = absurd k
named_after m (l ∷ ls) (Char c) [] h k = absurd k
named_after m (l ∷ ls) (Ends n) [] h k = absurd k
named_after m (l ∷ ls) Skipped [] h k = absurd k
named_after m (l ∷ ls) (Char c) (p ∷ ns) h k = (named_char m l p c k.0, k.1)
named_after m (l ∷ ls) (Ends n) (p ∷ ns) h k = k.1
named_after m (l ∷ ls) Skipped (p ∷ ns) h k = k

named_over : (m : Message ℕ) (ls : List (Level ℕ)) (told : List Placed) (ns : List Expanded) → AreFine m ls (items_told told) → AreNamed m ls ns → AreNamed m (levels_over m ls (items_told told)) (open_behind ns told)
named_over m ls [] ns h k = k
named_over m ls (e ∷ es) ns h k = named_over m (levels_after m ls e.item) es (open_after ns e.item) h.1 (named_after m ls e.item ns h.0 k)

of_names : (m : Message ℕ) (ls : List (Level ℕ)) (ns : List Expanded) (local : List ℕ) → AreNamed m ls ns → IsOurs m ls (record { namespace = innermost_namespace ns; local = local })
of_names m [] [] local k = refl
of_names m [] (p ∷ ns) local k = absurd k
of_names m (l ∷ ls) [] local k = absurd k
of_names m (Parent f d ∷ ls) (p ∷ ns) local k = k.0
of_names m (Leaf simple text ∷ ls) (p ∷ ns) local k = tt
of_names m (Envelope filled ∷ ls) (p ∷ ns) local k = tt
of_names m (Foreign ∷ ls) (p ∷ ns) local k = tt

-- a name in the namespace of the innermost element, behind events that break no rule
pub ours_behind : (m : Message ℕ) (told : List Placed) (local : List ℕ) → AreFine m [] (items_told told) → IsOurs m (levels_over m [] (items_told told)) (name_behind told local)
ours_behind m told local fine = of_names m (levels_over m [] (items_told told)) (open_behind [] told) local (named_over m [] told [] fine tt)
