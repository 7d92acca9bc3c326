-- Whole inputs: what spells a value is what breaks no rule.
use Rattle.std.proofs.Common.{◌≡◌, ℕ, List, [], ◌∷◌, refl, sym, ap, map, subst}
use Rattle.lexical_core.specs.Tree.{Item, Tree, TreeIs}
use Rattle.data_types.specs.Leaf.{Leaf}
use Rattle.data_types.specs.Value.{Value}
use Rattle.data_types.specs.declared.kind.Kind.TheVariants as kind
use Rattle.facets.specs.declared.simple.Simple.{Simple}
use Rattle.facets.specs.LeafUnder.{GivesLeaf, Fits}
use Rattle.markup.specs.Token.{Token}
use Rattle.markup.proofs.TokensBehind.{items_in, events_items}
use Rattle.respell.specs.Laws.{WholeIsPlain}
use Rattle.respell.proofs.WholeTree.{whole_tree}
use Rattle.reference_check.specs.Forms.{Form}
use Rattle.reference_check.specs.Forms as form
use Rattle.message_model.specs.Sound.{SoundFormsAgree, HasNumber}
use Rattle.xml_instances.specs.EventFaults.{AreFine}
use Rattle.xml_instances.specs.XmlFaults.{items, items_told}
use Rattle.xml_instances.specs.SpellsXml.{SpellsXml, IsInstance}
use Rattle.xml_instances.specs.Laws.{FineIsSpelled, SpelledIsFine}
use Rattle.xml_instances.proofs.Counted.{fine_counted, counted_fine}
use Rattle.xml_instances.proofs.Accepts.{root_in}
use Rattle.xml_instances.proofs.Runs.{root_fine}

pub placed_items : (place : ℕ) (is : List Item) → items_told (map (λ (i : Item). record { place = place; item = i }) is) ≡ is
placed_items place [] = refl
placed_items place (i ∷ is) = ap (λ x. i ∷ x) (placed_items place is)

pub items_are : (ts : List Token) → items ts ≡ items_in [] ts
items_are ts = events_items [] 0 ts

number_in : (f : Form ℕ Simple) (c : ℕ) (s : Simple) → HasNumber f → f ≡ form.Money c s → s.kind ≡ kind.Decimal
number_in f c s h e = subst (λ (x : Form ℕ Simple). HasNumber x) e h

pub fine_is_spelled : ((s : Simple) (w : List ℕ) (l : Leaf) → GivesLeaf s w l → Fits s l) → SoundFormsAgree → WholeIsPlain → FineIsSpelled
fine_is_spelled fits agree is_plain m bytes tokens sound marks clean over fine = of_tree (whole_tree tokens clean over)
  where
    of_root : (t : Tree) → TreeIs (items_in [] tokens) t → ((v : Value) × IsInstance m v t) → (v : Value) × (s : SpellsXml m bytes v) × (s.tokens ≡ tokens)
    of_root t e (v, i) = (v, record { tokens = tokens; marks = marks; clean = clean; over = over; tree = t; tree_is = rw (items_are tokens) e; instance = i }, refl)

    of_tree : ((t : Tree) × TreeIs (items_in [] tokens) t) → (v : Value) × (s : SpellsXml m bytes v) × (s.tokens ≡ tokens)
    of_tree (t, e) =
        of_root t e (root_in m (λ p d came ends. (agree (m.forms p) (sound p)).whole d came ends) fits (λ p c s e. number_in (m.forms p) c s (sound p).number e) t (is_plain bytes tokens t marks clean over (rw (items_are tokens) e))
        (subst (λ (x : List Item). AreFine m [] x) e (fine_counted m 0 [] (items_in [] tokens) refl (rw (items_are tokens) at fine))))

pub spelled_is_fine : SoundFormsAgree → SpelledIsFine
spelled_is_fine agree m bytes v sound s =
    counted_fine m 0 [] (items s.tokens) refl (subst (λ (x : List Item). AreFine m [] x) (sym s.tree_is)
    (root_fine m (record { tagged = λ p. (agree (m.forms p) (sound p)).tagged; goes_on = λ p. (agree (m.forms p) (sound p)).goes_on; ends = λ p. (agree (m.forms p) (sound p)).ends }) s.tree v s.instance))
