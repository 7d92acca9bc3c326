-- What types admit and write, the same types under other names do, and the other way round.
use Rattle.std.proofs.Common.{◌≡◌, ◌↔◌, ℕ, List, [], ◌∷◌, map, Some, sym, ap, subst, ◌∙◌}
use Rattle.std.specs.Prelude.{slice_get}
use Rattle.std.specs.Str.{chars}
use Rattle.lexical_core.specs.Tree.{Entry, Nodes, Element, Text, Tree}
use Rattle.lexical_core.specs.Tree as tree
use Rattle.data_types.specs.Leaf.{Leaf}
use Rattle.data_types.specs.Value.{Value, Children, Child}
use Rattle.data_types.specs.Value as value
use Rattle.facets.specs.declared.simple.Simple.{Simple}
use Rattle.reference_check.specs.Forms.{Graph, Form, Slot, form_slots, slot_to, form_to}
use Rattle.reference_check.specs.Forms as form
use Rattle.reference_check.proofs.RenamedForms.{slots_to, sequence_to, sequence_from, choice_to, choice_from}
use Rattle.message_model.specs.Admits.{AdmitsAs, AdmitsChildren, FitsCode, numbers_of}
use Rattle.message_model.specs.Writes.{name_in_namespace, SpellsCode, WritesAttributes, MayHold, WritesLeaf, WritesContent, WritesAs}
use Rattle.xsd_model.proofs.Sequences.{slice_get-part, slice_get-back}

abbrev same : Simple → Simple
same s = s

fits_there : {P Q : Type 0} (h : P → Q) (F : Form P Simple) (l : Leaf) → FitsCode F l → FitsCode (form_to h same F) l
fits_there h (form.Simple s) l x = x
fits_there h F l x = absurd x

fits_here : {P Q : Type 0} (h : P → Q) (F : Form P Simple) (l : Leaf) → FitsCode (form_to h same F) l → FitsCode F l
fits_here h (form.Simple s) l x = x
fits_here h F l x = absurd x

spells_there : {P Q : Type 0} (h : P → Q) (F : Form P Simple) (w : List ℕ) (l : Leaf) → SpellsCode F w l → SpellsCode (form_to h same F) w l
spells_there h (form.Simple s) w l x = x
spells_there h F w l x = absurd x

spells_here : {P Q : Type 0} (h : P → Q) (F : Form P Simple) (w : List ℕ) (l : Leaf) → SpellsCode (form_to h same F) w l → SpellsCode F w l
spells_here h (form.Simple s) w l x = x
spells_here h F w l x = absurd x

hold_there : {P Q : Type 0} (h : P → Q) (F : Form P Simple) (nodes : Nodes) → MayHold F nodes → MayHold (form_to h same F) nodes
hold_there h (form.Sequence []) nodes x = x
hold_there h (form.Sequence (s ∷ slots)) nodes x = tt
hold_there h F nodes x = tt

hold_here : {P Q : Type 0} (h : P → Q) (F : Form P Simple) (nodes : Nodes) → MayHold (form_to h same F) nodes → MayHold F nodes
hold_here h (form.Sequence []) nodes x = x
hold_here h (form.Sequence (s ∷ slots)) nodes x = tt
hold_here h F nodes x = tt

leaf_there : {P Q : Type 0} (h : P → Q) (F : Form P Simple) (v : Value) (nodes : Nodes) → WritesLeaf F v nodes → WritesLeaf (form_to h same F) v nodes
leaf_there h (form.Simple s) (value.Simple l) nodes x = x
leaf_there h (form.Money c s) (value.Amount l n) nodes x = x
leaf_there h form.Envelope (value.External t) nodes x = x
leaf_there h F v nodes x = absurd x

leaf_here : {P Q : Type 0} (h : P → Q) (F : Form P Simple) (v : Value) (nodes : Nodes) → WritesLeaf (form_to h same F) v nodes → WritesLeaf F v nodes
leaf_here h (form.Simple s) (value.Simple l) nodes x = x
leaf_here h (form.Money c s) (value.Amount l n) nodes x = x
leaf_here h form.Envelope (value.External t) nodes x = x
leaf_here h F v nodes x = absurd x

module _ {P Q : Type 0} (g : Graph P Simple) (k : Graph Q Simple) (h : P → Q) (like : (p : P) → k (h p) ≡ form_to h same (g p)) where
  mutual
    admits_there : (F : Form P Simple) (v : Value) → AdmitsAs g F v → AdmitsAs k (form_to h same F) v
    admits_there (form.Sequence slots) (value.Component children) (word, each) = (sequence_to h slots (numbers_of children) word, children_there slots children each)
    admits_there (form.Choice slots) (value.Component children) (word, each) = (choice_to h slots (numbers_of children) word, children_there slots children each)
    admits_there (form.Simple s) (value.Simple l) a = a
    admits_there (form.Money c s) (value.Amount l n) (a, b) = (subst (λ F. FitsCode F l) (sym (like c)) (fits_there h (g c) l a), b)
    admits_there form.Envelope (value.External t) a = a
    admits_there F v a = absurd a

    children_there : (slots : List (Slot P)) (children : Children) → AdmitsChildren g slots children → AdmitsChildren k (map (slot_to h) slots) children
    children_there slots value.Nothing a = a
    children_there slots (Child j v rest) ((s, e, a), each) =
        ((slot_to h s, slice_get-part (slot_to h) slots j s e, subst (λ F. AdmitsAs k F v) (sym (like s.target)) (admits_there (g s.target) v a)), children_there slots rest each)

  mutual
    admits_here : (F : Form P Simple) (v : Value) → AdmitsAs k (form_to h same F) v → AdmitsAs g F v
    admits_here (form.Sequence slots) (value.Component children) (word, each) = (sequence_from h slots (numbers_of children) word, children_here slots children each)
    admits_here (form.Choice slots) (value.Component children) (word, each) = (choice_from h slots (numbers_of children) word, children_here slots children each)
    admits_here (form.Simple s) (value.Simple l) a = a
    admits_here (form.Money c s) (value.Amount l n) (a, b) = (fits_here h (g c) l (subst (λ F. FitsCode F l) (like c) a), b)
    admits_here form.Envelope (value.External t) a = a
    admits_here F v a = absurd a

    children_here : (slots : List (Slot P)) (children : Children) → AdmitsChildren k (map (slot_to h) slots) children → AdmitsChildren g slots children
    children_here slots value.Nothing a = a
    children_here slots (Child j v rest) ((s, e, a), each) =
        (let r = slice_get-back (slot_to h) slots j s e in
        ((r.0, r.1, admits_here (g r.0.target) v (subst (λ F. AdmitsAs k F v) (like r.0.target) (subst (λ (x : Slot Q). AdmitsAs k (k x.target) v) (sym r.2) a))), children_here slots rest each))

  attributes_there : (F : Form P Simple) (v : Value) (attributes : List Entry) → WritesAttributes g F v attributes → WritesAttributes k (form_to h same F) v attributes
  attributes_there (form.Money c s) (value.Amount l n) attributes (w, has, spells) = (w, has, subst (λ F. SpellsCode F (chars w) l) (sym (like c)) (spells_there h (g c) (chars w) l spells))
  attributes_there F v attributes x = x

  attributes_here : (F : Form P Simple) (v : Value) (attributes : List Entry) → WritesAttributes k (form_to h same F) v attributes → WritesAttributes g F v attributes
  attributes_here (form.Money c s) (value.Amount l n) attributes (w, has, spells) = (w, has, spells_here h (g c) (chars w) l (subst (λ F. SpellsCode F (chars w) l) (like c) spells))
  attributes_here F v attributes x = x

  content_there : (ns : List ℕ) (F : Form P Simple) (v : Value) (nodes : Nodes) → WritesContent g ns F v nodes → WritesContent k ns (form_to h same F) v nodes
  content_there ns F (value.Component value.Nothing) tree.Nothing w = w
  content_there ns F (value.Component (Child j v more)) tree.Nothing w = absurd w
  content_there ns F (value.Component value.Nothing) (Text c rest) w = (w.0, content_there ns F (value.Component value.Nothing) rest w.1)
  content_there ns F (value.Component (Child j v more)) (Text c rest) w = (w.0, content_there ns F (value.Component (Child j v more)) rest w.1)
  content_there ns F (value.Component value.Nothing) (Element n attributes inner rest) w = absurd w
  content_there ns F (value.Component (Child j v more)) (Element n attributes inner rest) ((s, e, (tag, hints, may, written)), behind) =
      let there : slice_get (form_slots (form_to h same F)) j ≡ Some (slot_to h s) = ap (λ l. slice_get l j) (slots_to h same F) ∙ slice_get-part (slot_to h) (form_slots F) j s e in (
        (
          slot_to h s,
          there,
          (
            tag,
            subst (λ G. WritesAttributes k G v attributes) (sym (like s.target)) (attributes_there (g s.target) v attributes hints),
            subst (λ G. MayHold G inner) (sym (like s.target)) (hold_there h (g s.target) inner may),
            subst (λ G. WritesContent k ns G v inner) (sym (like s.target)) (content_there ns (g s.target) v inner written),
          ),
        ),
        content_there ns F (value.Component more) rest behind,
      )
  content_there ns F (value.Simple l) tree.Nothing w = leaf_there h F (value.Simple l) tree.Nothing w
  content_there ns F (value.Simple l) (Text c rest) w = leaf_there h F (value.Simple l) (Text c rest) w
  content_there ns F (value.Simple l) (Element n attributes inner rest) w = leaf_there h F (value.Simple l) (Element n attributes inner rest) w
  content_there ns F (value.Amount l m) tree.Nothing w = leaf_there h F (value.Amount l m) tree.Nothing w
  content_there ns F (value.Amount l m) (Text c rest) w = leaf_there h F (value.Amount l m) (Text c rest) w
  content_there ns F (value.Amount l m) (Element n attributes inner rest) w = leaf_there h F (value.Amount l m) (Element n attributes inner rest) w
  content_there ns F (value.External t) tree.Nothing w = leaf_there h F (value.External t) tree.Nothing w
  content_there ns F (value.External t) (Text c rest) w = leaf_there h F (value.External t) (Text c rest) w
  content_there ns F (value.External t) (Element n attributes inner rest) w = leaf_there h F (value.External t) (Element n attributes inner rest) w

  content_here : (ns : List ℕ) (F : Form P Simple) (v : Value) (nodes : Nodes) → WritesContent k ns (form_to h same F) v nodes → WritesContent g ns F v nodes
  content_here ns F (value.Component value.Nothing) tree.Nothing w = w
  content_here ns F (value.Component (Child j v more)) tree.Nothing w = absurd w
  content_here ns F (value.Component value.Nothing) (Text c rest) w = (w.0, content_here ns F (value.Component value.Nothing) rest w.1)
  content_here ns F (value.Component (Child j v more)) (Text c rest) w = (w.0, content_here ns F (value.Component (Child j v more)) rest w.1)
  content_here ns F (value.Component value.Nothing) (Element n attributes inner rest) w = absurd w
  content_here ns F (value.Component (Child j v more)) (Element n attributes inner rest) ((q, e, (tag, hints, may, written)), behind) =
      one (slice_get-back (slot_to h) (form_slots F) j q (ap (λ l. slice_get l j) (sym (slots_to h same F)) ∙ e)) (λ s w. content_here ns (g s) v inner w) (content_here ns F (value.Component more) rest behind)
    where
      one : (s : Slot P) × (slice_get (form_slots F) j ≡ Some s) × (slot_to h s ≡ q) → ((s : P) → WritesContent k ns (form_to h same (g s)) v inner → WritesContent g ns (g s) v inner)
          → WritesContent g ns F (value.Component more) rest → WritesContent g ns F (value.Component (Child j v more)) (Element n attributes inner rest)
      one (s, there, at) below later =
          let F_is : k q.target ≡ form_to h same (g s.target) = ap (λ (x : Slot Q). k x.target) (sym at) ∙ like s.target in (
            (
              s,
              there,
              (
                tag ∙ ap (λ (x : Slot Q). name_in_namespace ns x.tag) (sym at),
                attributes_here (g s.target) v attributes (subst (λ G. WritesAttributes k G v attributes) F_is hints),
                hold_here h (g s.target) inner (subst (λ G. MayHold G inner) F_is may),
                below s.target (subst (λ G. WritesContent k ns G v inner) F_is written),
              ),
            ),
            later,
          )
  content_here ns F (value.Simple l) tree.Nothing w = leaf_here h F (value.Simple l) tree.Nothing w
  content_here ns F (value.Simple l) (Text c rest) w = leaf_here h F (value.Simple l) (Text c rest) w
  content_here ns F (value.Simple l) (Element n attributes inner rest) w = leaf_here h F (value.Simple l) (Element n attributes inner rest) w
  content_here ns F (value.Amount l m) tree.Nothing w = leaf_here h F (value.Amount l m) tree.Nothing w
  content_here ns F (value.Amount l m) (Text c rest) w = leaf_here h F (value.Amount l m) (Text c rest) w
  content_here ns F (value.Amount l m) (Element n attributes inner rest) w = leaf_here h F (value.Amount l m) (Element n attributes inner rest) w
  content_here ns F (value.External t) tree.Nothing w = leaf_here h F (value.External t) tree.Nothing w
  content_here ns F (value.External t) (Text c rest) w = leaf_here h F (value.External t) (Text c rest) w
  content_here ns F (value.External t) (Element n attributes inner rest) w = leaf_here h F (value.External t) (Element n attributes inner rest) w

  -- the same values are admitted, and the same trees write them
  pub written_alike : (ns : List ℕ) (p : P) (v : Value) (t : Tree)
      → (AdmitsAs g (g p) v × WritesAs g ns (g p) v t) ↔ (AdmitsAs k (k (h p)) v × WritesAs k ns (k (h p)) v t)
  written_alike ns p v t = (
    λ (a, w). (
      subst (λ G. AdmitsAs k G v) (sym (like p)) (admits_there (g p) v a),
      subst (λ G. WritesAs k ns G v t) (sym (like p)) (record {
        name = w.name;
        attributes = attributes_there (g p) v t.attributes w.attributes;
        holds = hold_there h (g p) t.children w.holds;
        content = content_there ns (g p) v t.children w.content;
      }),
    ),
    λ (a, w).
        let w2 : WritesAs k ns (form_to h same (g p)) v t = subst (λ G. WritesAs k ns G v t) (like p) w in (
          admits_here (g p) v (subst (λ G. AdmitsAs k G v) (like p) a),
          record {
            name = w2.name;
            attributes = attributes_here (g p) v t.attributes w2.attributes;
            holds = hold_here h (g p) t.children w2.holds;
            content = content_here ns (g p) v t.children w2.content;
          },
        ),
  )
