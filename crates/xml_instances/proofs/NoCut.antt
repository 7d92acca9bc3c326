-- No event breaks the rule that the input ends too early: that is for markup alone to say.
use Rattle.std.proofs.Common.{◌≡◌, ◌≢◌, ℕ, Bool, true, false, List, [], ◌∷◌, ◌++◌, Option, Some, None, refl, sym, subst}
use Rattle.std.specs.Prelude.{if◌then◌else◌, not, ◌&&◌, codes}
use Rattle.std.specs.List.{list_any}
use Rattle.std.specs.Str.{bytes_eq, chars}
use Rattle.lexical_core.specs.declared.rule.Rule.{Rule}
use Rattle.lexical_core.specs.declared.rule.Rule.TheVariants.{Truncated, WrongRoot, UnknownElement, TextInComplex, UnknownAttribute}
use Rattle.lexical_core.specs.Tree.{Expanded, Entry, Item, Starts, Char, Ends, Skipped}
use Rattle.lexical_core.specs.Names.{same_name, attribute_value}
use Rattle.facets.specs.declared.simple.Simple.{Simple}
use Rattle.facets.specs.Rules.{BreaksLeafRule}
use Rattle.markup.specs.Chars.{is_space}
use Rattle.markup.proofs.NoCut.{is_cut_rule}
use Rattle.reference_check.specs.Forms.{Form}
use Rattle.reference_check.specs.Forms as form
use Rattle.reference_check.specs.Steps as step
use Rattle.reference_check.specs.Steps.{NextSlot, EndOfSlots, next, end_after}
use Rattle.message_model.specs.Writes.{name_in_namespace, currency}
use Rattle.message_model.specs.Message.{Message}
use Rattle.xml_instances.specs.Levels.{Level, Parent, Leaf, Envelope, Foreign, form_of_start, round_start, path_in}
use Rattle.xml_instances.specs.EventFaults.{Broken, broken_rule, Unless, next_fault, place_fault, is_known, LeafFault, CodeFault, CurrencyFault, RequiredFault, unknown_fault, AttributeFault, end_fault, EndFault, is_bare, space_fault, char_fault, EventFault}

abbrev NoCut : Option Broken → Type 0
NoCut None = Unit {0}
NoCut (Some b) = is_cut_rule b.rule ≡ false

no_cut_if : (c : Bool) (x y : Option Broken) → NoCut x → NoCut y → NoCut (if c then x else y)
no_cut_if true x y p q = p
no_cut_if false x y p q = q

-- what is equal to one without the rule has not the rule
same_no_cut : (o x : Option Broken) → o ≡ x → NoCut x → NoCut o
same_no_cut o x e p = subst NoCut (sym e) p

unless_no_cut : (x : Option Broken) (Other : Option Broken → Type 0) (o : Option Broken) → NoCut x → (Other o → NoCut o) → Unless x Other o → NoCut o
unless_no_cut (Some b) Other o p q h = same_no_cut o (Some b) h p
unless_no_cut None Other o p q h = q h

space_no_cut : (fits : Bool) (path : List ℕ) → NoCut (space_fault fits path)
space_no_cut fits path = no_cut_if fits None (broken_rule TextInComplex path) tt refl

module _ {P : Type 0} where
  next_no_cut : (path : List ℕ) (f : Form P Simple) (n : NextSlot) → NoCut (next_fault path f n)
  next_no_cut path f (step.Slotted k) = tt
  next_no_cut path f step.Unknown = refl
  next_no_cut path f step.OutOfOrder = refl
  next_no_cut path f step.TooMany = refl
  next_no_cut path f (step.Missing k) = refl
  next_no_cut path f step.Second = refl

  place_no_cut : (m : Message P) (ls : List (Level P)) (n : Expanded) → NoCut (place_fault m ls n)
  place_no_cut m [] n = no_cut_if (same_name n (name_in_namespace m.namespace (codes "Document"))) None (broken_rule WrongRoot (codes "/")) tt refl
  place_no_cut m (Parent f d ∷ ls) n =
      no_cut_if (bytes_eq n.namespace m.namespace) (next_fault (path_in ls) f (next f d n.local)) (broken_rule UnknownElement (path_in ls)) (next_no_cut (path_in ls) f (next f d n.local)) refl
  place_no_cut m (Leaf simple text ∷ ls) n = refl
  place_no_cut m (Envelope true ∷ ls) n = refl
  place_no_cut m (Envelope false ∷ ls) n = tt
  place_no_cut m (Foreign ∷ ls) n = tt

breaks_no_cut : (simple : Simple) (text : List ℕ) (rule : Rule) → BreaksLeafRule simple text rule → is_cut_rule rule ≡ false
breaks_no_cut simple text rule h = by rule h
  where
    by : (rule : Rule) → BreaksLeafRule simple text rule → is_cut_rule rule ≡ false
    by Truncated h = absurd h
    by _ h = refl

leaf_no_cut : (simple : Simple) (text path : List ℕ) (o : Option Broken) → LeafFault simple text path o → NoCut o
leaf_no_cut simple text path None h = tt
leaf_no_cut simple text path (Some b) h = breaks_no_cut simple text b.rule h.0.broken

module _ {P : Type 0} where
  code_no_cut : (f : Form P Simple) (text path : List ℕ) (o : Option Broken) → CodeFault f text path o → NoCut o
  code_no_cut (form.Simple simple) text path o h = leaf_no_cut simple text path o h
  code_no_cut _ text path o h = absurd h

  currency_no_cut : (f : Form P Simple) (value : Option (List ℕ)) (path : List ℕ) (o : Option Broken) → CurrencyFault f value path o → NoCut o
  currency_no_cut f None path o h = same_no_cut o _ h refl
  currency_no_cut f (Some value) path o h = code_no_cut f (chars value) path o h

  required_no_cut : (m : Message P) (f : Form P Simple) (attributes : List Entry) (path : List ℕ) (o : Option Broken) → RequiredFault m f attributes path o → NoCut o
  required_no_cut m (form.Money code number) attributes path o h = currency_no_cut (m.forms code) (attribute_value currency attributes) (path ++ codes "/@Ccy") o h
  required_no_cut m _ attributes path o h = same_no_cut o None h tt

  attribute_no_cut : (m : Message P) (f : Option (Form P Simple)) (attributes : List Entry) (path : List ℕ) (o : Option Broken) → AttributeFault m f attributes path o → NoCut o
  attribute_no_cut m None attributes path o h = same_no_cut o None h tt
  attribute_no_cut m (Some f) attributes path o h =
      unless_no_cut (unknown_fault f attributes path) (RequiredFault m f attributes path) o (no_cut_if (list_any (λ a. not (is_known f a)) attributes) (broken_rule UnknownAttribute path) None refl tt) (required_no_cut m f attributes path o) h

  end_no_cut : (path : List ℕ) (f : Form P Simple) (e : EndOfSlots) → NoCut (end_fault path f e)
  end_no_cut path f step.Fine = tt
  end_no_cut path f (step.Lacks k) = refl
  end_no_cut path f step.NoAlternative = refl

  element_no_cut : (l : Level P) (path : List ℕ) (o : Option Broken) → EndFault l path o → NoCut o
  element_no_cut (Parent f d) path o h = same_no_cut o _ h (end_no_cut path f (end_after f d))
  element_no_cut (Leaf simple text) path o h = leaf_no_cut simple text path o h
  element_no_cut (Envelope true) path o h = same_no_cut o None h tt
  element_no_cut (Envelope false) path o h = same_no_cut o _ h refl
  element_no_cut Foreign path o h = same_no_cut o None h tt

  char_no_cut : (l : Level P) (path : List ℕ) (c : ℕ) → NoCut (char_fault l path c)
  char_no_cut (Parent f d) path c = space_no_cut (not (is_bare f) && is_space c) path
  char_no_cut (Leaf simple text) path c = tt
  char_no_cut (Envelope filled) path c = space_no_cut (is_space c) path
  char_no_cut Foreign path c = tt

  event_no_cut_rule : (m : Message P) (ls : List (Level P)) (item : Item) (o : Option Broken) → EventFault m ls item o → NoCut o
  event_no_cut_rule m ls (Starts n attributes) o h =
      unless_no_cut (place_fault m ls n) (AttributeFault m (form_of_start m ls n) attributes (path_in (round_start ls n))) o (place_no_cut m ls n)
      (attribute_no_cut m (form_of_start m ls n) attributes (path_in (round_start ls n)) o) h
  event_no_cut_rule m [] item o h = same_no_cut o None h tt
  event_no_cut_rule m (l ∷ ls) (Char c) o h = same_no_cut o _ h (char_no_cut l (path_in ls) c)
  event_no_cut_rule m (l ∷ ls) (Ends n) o h = element_no_cut l (path_in ls) o h
  event_no_cut_rule m (l ∷ ls) Skipped o h = same_no_cut o None h tt

  -- the rule that an event breaks is another
  pub event_no_cut : (m : Message P) (ls : List (Level P)) (item : Item) (b : Broken) → EventFault m ls item (Some b) → b.rule ≢ Truncated
  event_no_cut m ls item b h e = of_test (subst (λ r. is_cut_rule r ≡ false) e (event_no_cut_rule m ls item (Some b) h))
    where
      of_test : true ≡ false → ⊥
      of_test k = cc
