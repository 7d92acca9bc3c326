-- A tag without attributes whose name is in the namespace of the innermost element.
use Rattle.std.proofs.Common.{◌≡◌, ℕ, true, List, [], ◌∷◌, Option, Some, None, refl, sym, ap, subst, ◌∙◌}
use Rattle.std.specs.Prelude.{Result, Ok, Err}
use Rattle.std.specs.Str.{bytes_eq}
use Rattle.std.proofs.lemmas.Slice.Eq.{bytes_eq-Decides}
use Rattle.lexical_core.specs.Tree.{Expanded}
use Rattle.reference_check.specs.Steps.{Came, EndsWith}
use Rattle.message_model.specs.Message.{Message}
use Rattle.message_model.specs.Writes.{name_in_namespace}
use Rattle.xml_instances.specs.Levels.{Level, Parent, Leaf, Envelope, Foreign}
use Rattle.xml_instances.specs.EventFaults.{place_fault}
use Rattle.xml_instances.specs.Open.{IsOpen, IsPlaced, IsChild, IsRoot, StandsOpen, path_round, form_at}
use Rattle.xml_instances.specs.inner.Quick.{IsOurs}
use Rattle.xml_instances.specs.declared.content.Content.{Content}
use Rattle.xml_instances.specs.declared.content.OpenText.{OpenText}
use Rattle.xml_instances.specs.declared.opened.Opened.{Opened}
use Rattle.xml_instances.specs.declared.opened.Opened.TheVariants as opened
use Rattle.xml_instances.specs.declared.opened.Refusal.{Refusal}
use Rattle.xml_instances.specs.declared.opened.Refusal.TheVariants.{Breaks, Memory}
use Rattle.xml_instances.proofs.Contents.{place_child}

-- in an element of the message the name is in its namespace
ours_eq : (m : Message ℕ) (ls : List (Level ℕ)) (n : Expanded) (number : ℕ) (last : Option ℕ) (count : ℕ) (text : Option OpenText) (round : List Opened)
    → StandsOpen m text (Some (opened.Parent number last count)) round ls → IsOurs m ls n → bytes_eq n.namespace m.namespace ≡ true
ours_eq m [] n number last count text round h ours = absurd h
ours_eq m (Parent f d ∷ ls) n number last count text round h ours = (bytes_eq-Decides n.namespace m.namespace).1 ours
ours_eq m (Leaf simple t ∷ ls) n number last count text round h ours = absurd h.0
ours_eq m (Envelope has ∷ ls) n number last count text round h ours = absurd h.0
ours_eq m (Foreign ∷ ls) n number last count text round h ours = absurd h.0

pub place_ours : (m : Message ℕ) (ls : List (Level ℕ)) (n : Expanded) (local : List ℕ) (content : Content) (o : Option Opened) (number : ℕ) (last : Option ℕ) (count : ℕ) (old : Option OpenText) (round : List Opened) (r : Result (Option ℕ) Refusal)
    → o ≡ Some (opened.Parent number last count) → content.round.items ≡ round → StandsOpen m old o round ls → IsOurs m ls n → n.local ≡ local
    → ((d : List ℕ) → Came (m.forms number) d → EndsWith d last count → IsChild m (m.forms number) d (path_round m.forms round) local content.innermost r) → IsPlaced m ls n content r
place_ours m ls n local content o number last count old round r is q h ours e child =
    place_child m ls n content o number last count old round r is q h
    (ours_eq m ls n number last count old round (subst (λ (x : Option Opened). StandsOpen m old x round ls) is h) ours)
    (λ d came ends. subst (λ (t : List ℕ). IsChild m (m.forms number) d (path_round m.forms round) t content.innermost r) (sym e) (child d came ends))

same_root : (m : Message ℕ) (n : Expanded) (local : List ℕ) → n.namespace ≡ [] → n.local ≡ local → place_fault m [] n ≡ place_fault m [] (name_in_namespace [] local)
same_root m n local e f = rw (e, f) refl

pub place_root : (m : Message ℕ) (ls : List (Level ℕ)) (n : Expanded) (local : List ℕ) (content : Content) (r : Result (Option ℕ) Refusal) → content.innermost ≡ None → IsOpen content m ls → IsOurs m ls n → n.local ≡ local
    → IsRoot m (name_in_namespace [] local) r → IsPlaced m ls n content r
place_root m ls n local content r is h ours e root = by ls r (subst (λ (x : Option Opened). StandsOpen m content.text x content.round.items ls) is h) ours root
  where
    by : (ls : List (Level ℕ)) (r : Result (Option ℕ) Refusal) → StandsOpen m content.text None content.round.items ls → IsOurs m ls n → IsRoot m (name_in_namespace [] local) r → IsPlaced m ls n content r
    by [] (Ok type) h ours root = (same_root m n local ours e ∙ root.0, ap (form_at m) (sym root.1), rw (is, h) tt)
    by [] (Err (Breaks rule path)) h ours root = same_root m n local ours e ∙ root
    by [] (Err Memory) h ours root = tt
    by (l ∷ ls) r h ours root = absurd h
