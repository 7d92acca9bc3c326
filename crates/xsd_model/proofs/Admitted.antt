-- A tree is valid for the schema of a message exactly where it writes a value that the message admits.
use Rattle.std.proofs.Common.{◌≡◌, ℕ, List, [], ◌∷◌, map, Option, Some, None, refl, sym, ap, subst, ◌∙◌}
use Rattle.std.specs.Prelude.{slice_get, codes}
use Rattle.std.specs.Str.{chars}
use Rattle.lexical_core.specs.Decimals.{Number as DecimalNumber}
use Rattle.lexical_core.specs.Tree.{Entry, Nodes, Element, Text, Tree}
use Rattle.lexical_core.specs.Tree as tree
use Rattle.lexical_core.specs.Characters.{IsSpace}
use Rattle.data_types.specs.Leaf.{Leaf, Number}
use Rattle.data_types.specs.Value.{Value, Children, Child}
use Rattle.data_types.specs.Value as value
use Rattle.data_types.specs.declared.kind.Kind.TheVariants as kind
use Rattle.facets.specs.declared.simple.Simple.{Simple}
use Rattle.facets.specs.LeafUnder.{GivesLeaf}
use Rattle.facets.proofs.FitLemmas.{given_fits}
use Rattle.fragments.specs.Plain.{IsPlain}
use Rattle.reference_check.specs.Forms.{Graph, Form, Slot, form_slots}
use Rattle.reference_check.specs.Forms as form
use Rattle.message_model.specs.Admits.{AdmitsAs, AdmitsChildren, FitsCode, numbers_of}
use Rattle.message_model.specs.Writes.{name_in_namespace, SpellsCode, WritesAttributes, SpellsText, Wraps, MayHold, WritesLeaf, WritesContent, WritesAs}
use Rattle.xsd_model.specs.declared.schema.Part.{Part}
use Rattle.xsd_model.specs.declared.schema.Schema.{Schema}
use Rattle.xsd_model.specs.declared.schema.SchemaShape.{SchemaShape}
use Rattle.xsd_model.specs.declared.schema.SchemaShape.TheVariants as shape
use Rattle.xsd_model.specs.SimpleTexts.{IsSimpleText}
use Rattle.xsd_model.specs.StepsOf.{steps_of, IsSoundSimple}
use Rattle.xsd_model.specs.Trees.{find_type, IsTextAt, MayHave, HasOneElement, HasType, AreValid, IsValid}
use Rattle.xsd_model.specs.SchemaOf.{part_of}
use Rattle.xsd_model.proofs.Sequences.{sequence_from, sequence_to, choice_from, choice_to, slice_get-part, slice_get-back}
use Rattle.xsd_model.proofs.SimpleAgrees.{given_valid, valid_given, valid_spells_number}

-- what a type of this form is in the schema
abbrev pub shape_by : (ℕ → List ℕ) → List ℕ → Form ℕ Simple → Option SchemaShape
shape_by name base (form.Sequence slots) = Some (shape.Sequence (map (part_of name) slots))
shape_by name base (form.Choice slots) = Some (shape.Choice (map (part_of name) slots))
shape_by name base (form.Simple simple) = Some (shape.Simple (steps_of simple))
shape_by name base (form.Money code number) = Some (shape.Money base (name code))
shape_by name base form.Envelope = Some shape.Any
shape_by name base form.LeftOut = None
shape_by name base form.Missing = None

-- each type stands in the schema under its name
pub record Agrees (g : Graph ℕ Simple) (name base : ℕ → List ℕ) (S : Schema) : Type 0 where
  pub typed : (p : ℕ) → find_type (name p) S.types ≡ shape_by name (base p) (g p)
  pub based : (p code : ℕ) (number : Simple) → g p ≡ form.Money code number → find_type (base p) S.types ≡ Some (shape.Simple (steps_of number))
  pub simple : (p : ℕ) (simple : Simple) → g p ≡ form.Simple simple → IsSoundSimple simple
  pub number : (p code : ℕ) (number : Simple) → g p ≡ form.Money code number → IsSoundSimple number × (number.kind ≡ kind.Decimal)

-- ---- envelopes

one_wrapped : (nodes : Nodes) → HasOneElement nodes → (t : Tree) × IsPlain t × Wraps t nodes
one_wrapped tree.Nothing h = absurd h
one_wrapped (Text c rest) h = (let r = one_wrapped rest h.1 in (r.0, r.1, (h.0, r.2)))
one_wrapped (Element n attributes children rest) h = (record { name = n; attributes = attributes; children = children }, h.0, (refl, h.1))

wrapped_one : (t : Tree) (nodes : Nodes) → IsPlain t → Wraps t nodes → HasOneElement nodes
wrapped_one t tree.Nothing plain h = absurd h
wrapped_one t (Text c rest) plain h = (h.0, wrapped_one t rest plain h.1)
wrapped_one t (Element n attributes children rest) plain h = (subst IsPlain h.0 plain, h.1)

may_hold : (name : ℕ → List ℕ) (slots : List (Slot ℕ)) (nodes : Nodes) → MayHave (map (part_of name) slots) nodes → MayHold (form.Sequence slots) nodes
may_hold name [] nodes h = h
may_hold name (s ∷ slots) nodes h = tt

may_have : (name : ℕ → List ℕ) (slots : List (Slot ℕ)) (nodes : Nodes) → MayHold (form.Sequence slots) nodes → MayHave (map (part_of name) slots) nodes
may_have name [] nodes h = h
may_have name (s ∷ slots) nodes h = tt

module _ (g : Graph ℕ Simple) (name base : ℕ → List ℕ) (S : Schema) (agree : Agrees g name base S) where
  -- ---- leaves

  simple_content : (F : Form ℕ Simple) (l : Leaf) (nodes : Nodes) → WritesLeaf F (value.Simple l) nodes → WritesContent g S.namespace F (value.Simple l) nodes
  simple_content F l tree.Nothing h = h
  simple_content F l (Text c rest) h = h
  simple_content F l (Element n attributes children rest) h = h

  content_simple : (F : Form ℕ Simple) (l : Leaf) (nodes : Nodes) → WritesContent g S.namespace F (value.Simple l) nodes → WritesLeaf F (value.Simple l) nodes
  content_simple F l tree.Nothing h = h
  content_simple F l (Text c rest) h = h
  content_simple F l (Element n attributes children rest) h = h

  amount_content : (F : Form ℕ Simple) (l : Leaf) (m : DecimalNumber) (nodes : Nodes) → WritesLeaf F (value.Amount l m) nodes → WritesContent g S.namespace F (value.Amount l m) nodes
  amount_content F l m tree.Nothing h = h
  amount_content F l m (Text c rest) h = h
  amount_content F l m (Element n attributes children rest) h = h

  content_amount : (F : Form ℕ Simple) (l : Leaf) (m : DecimalNumber) (nodes : Nodes) → WritesContent g S.namespace F (value.Amount l m) nodes → WritesLeaf F (value.Amount l m) nodes
  content_amount F l m tree.Nothing h = h
  content_amount F l m (Text c rest) h = h
  content_amount F l m (Element n attributes children rest) h = h

  tree_content : (F : Form ℕ Simple) (t : Tree) (nodes : Nodes) → WritesLeaf F (value.External t) nodes → WritesContent g S.namespace F (value.External t) nodes
  tree_content F t tree.Nothing h = h
  tree_content F t (Text c rest) h = h
  tree_content F t (Element n attributes children rest) h = h

  content_tree : (F : Form ℕ Simple) (t : Tree) (nodes : Nodes) → WritesContent g S.namespace F (value.External t) nodes → WritesLeaf F (value.External t) nodes
  content_tree F t tree.Nothing h = h
  content_tree F t (Text c rest) h = h
  content_tree F t (Element n attributes children rest) h = h

  space_content : (F : Form ℕ Simple) (children : Children) (c : ℕ) (rest : Nodes) → IsSpace c → WritesContent g S.namespace F (value.Component children) rest
      → WritesContent g S.namespace F (value.Component children) (Text c rest)
  space_content F value.Nothing c rest space h = (space, h)
  space_content F (Child k v more) c rest space h = (space, h)

  content_space : (F : Form ℕ Simple) (children : Children) (c : ℕ) (rest : Nodes) → WritesContent g S.namespace F (value.Component children) (Text c rest)
      → IsSpace c × WritesContent g S.namespace F (value.Component children) rest
  content_space F value.Nothing c rest h = h
  content_space F (Child k v more) c rest h = h

  -- a valid code spells a leaf of its type
  code_spelled : (p : ℕ) (F : Form ℕ Simple) (b w : List ℕ) → g p ≡ F → IsTextAt (shape_by name b F) w → (l : Leaf) × SpellsCode F w l × FitsCode F l
  code_spelled p (form.Simple simple) b w is h =
      let r : (l : Leaf) × GivesLeaf simple w l = valid_given simple w (agree.simple p simple is) h in (r.0, r.1, given_fits simple w r.0 r.1)
  code_spelled p (form.Sequence slots) b w is h = absurd h
  code_spelled p (form.Choice slots) b w is h = absurd h
  code_spelled p (form.Money code number) b w is h = absurd h
  code_spelled p form.Envelope b w is h = absurd h
  code_spelled p form.LeftOut b w is h = absurd h
  code_spelled p form.Missing b w is h = absurd h

  code_valid : (p : ℕ) (F : Form ℕ Simple) (b w : List ℕ) (l : Leaf) → g p ≡ F → SpellsCode F w l → IsTextAt (shape_by name b F) w
  code_valid p (form.Simple simple) b w l is h = given_valid simple w l (agree.simple p simple is) h
  code_valid p F b w l is h = absurd h

  -- ---- what is valid writes a value

  abbrev Spelled : Form ℕ Simple → List Entry → Nodes → Type 0
  Spelled F attributes nodes = (v : Value) × AdmitsAs g F v × WritesAttributes g F v attributes × MayHold F nodes × WritesContent g S.namespace F v nodes

  abbrev SpelledChildren : Form ℕ Simple → List ℕ → Nodes → Type 0
  SpelledChildren F d nodes =
      (children : Children) × (numbers_of children ≡ d) × AdmitsChildren g (form_slots F) children × WritesContent g S.namespace F (value.Component children) nodes

  of_type : (p : ℕ) (F : Form ℕ Simple) (attributes : List Entry) (nodes : Nodes) (C : List Part → List ℕ → Type 0) → g p ≡ F
      → ((H : Form ℕ Simple) (d : List ℕ) → C (map (part_of name) (form_slots H)) d → SpelledChildren H d nodes)
      → HasType S.types (shape_by name (base p) F) attributes nodes C → Spelled F attributes nodes
  of_type p (form.Sequence slots) attributes nodes C is below (hints, may, d, word, each) = go (below (form.Sequence slots) d each)
    where
      go : SpelledChildren (form.Sequence slots) d nodes → Spelled (form.Sequence slots) attributes nodes
      go (children, at, admitted, written) = (value.Component children, (rw at (sequence_from name slots d word), admitted), hints, may_hold name slots nodes may, written)
  of_type p (form.Choice slots) attributes nodes C is below (hints, d, word, each) = go (below (form.Choice slots) d each)
    where
      go : SpelledChildren (form.Choice slots) d nodes → Spelled (form.Choice slots) attributes nodes
      go (children, at, admitted, written) = (value.Component children, (rw at (choice_from name slots d word), admitted), hints, tt, written)
  of_type p (form.Simple simple) attributes nodes C is below (hints, (text, e, h)) =
      let r : (l : Leaf) × GivesLeaf simple text l = valid_given simple text (agree.simple p simple is) h in
      (value.Simple r.0, given_fits simple text r.0 r.1, hints, tt, simple_content (form.Simple simple) r.0 nodes (text, e, r.1))
  of_type p (form.Money code number) attributes nodes C is below ((w, has, coded), (text, e, h)) =
      let c : (l : Leaf) × SpellsCode (g code) (chars w) l × FitsCode (g code) l =
      code_spelled code (g code) (base code) (chars w) refl (subst (λ o. IsTextAt o (chars w)) (agree.typed code) coded) in
      let valid : IsSimpleText (steps_of number) text = subst (λ o. IsTextAt o text) (agree.based p code number is) h in
      let sound : IsSoundSimple number × (number.kind ≡ kind.Decimal) = agree.number p code number is in
      let m : (m : DecimalNumber) × GivesLeaf number text (Number m) = valid_spells_number number text sound.0 sound.1 valid in
      (value.Amount c.0 m.0, (c.2, given_fits number text (Number m.0) m.1), (w, has, c.1), tt, amount_content (form.Money code number) c.0 m.0 nodes (text, e, m.1))
  of_type p form.Envelope attributes nodes C is below (hints, h) =
      let r : (t : Tree) × IsPlain t × Wraps t nodes = one_wrapped nodes h in (value.External r.0, r.1, hints, tt, tree_content form.Envelope r.0 nodes r.2)
  of_type p form.LeftOut attributes nodes C is below h = absurd h
  of_type p form.Missing attributes nodes C is below h = absurd h

  spelled_children : (F : Form ℕ Simple) (d : List ℕ) (nodes : Nodes) → AreValid S (map (part_of name) (form_slots F)) d nodes → SpelledChildren F d nodes
  spelled_children F [] tree.Nothing h = (value.Nothing, refl, tt, tt)
  spelled_children F (k ∷ d) tree.Nothing h = absurd h
  spelled_children F d (Text c rest) h = (let r = spelled_children F d rest h.1 in (r.0, r.1, r.2, space_content F r.0 c rest h.0 r.3))
  spelled_children F [] (Element n attributes children rest) h = absurd h
  spelled_children F (k ∷ d) (Element n attributes children rest) ((part, e, named_so, valid), more) =
      one (slice_get-back (part_of name) (form_slots F) k part e) (spelled_children F d rest more)
      (λ s type. of_type s (g s) attributes children (λ inner own. AreValid S inner own children) refl (λ H j c. spelled_children H j children c) type)
    where
      one : (s : Slot ℕ) × (slice_get (form_slots F) k ≡ Some s) × (part_of name s ≡ part) → SpelledChildren F d rest
          → ((s : ℕ) → HasType S.types (shape_by name (base s) (g s)) attributes children (λ inner own. AreValid S inner own children) → Spelled (g s) attributes children)
          → SpelledChildren F (k ∷ d) (Element n attributes children rest)
      one (s, there, same) (others, at, admitted, written) typed =
          let target : find_type part.target S.types ≡ shape_by name (base s.target) (g s.target) =
          ap (λ (x : Part). find_type x.target S.types) (sym same) ∙ agree.typed s.target in
          let tag : n ≡ name_in_namespace S.namespace s.tag = named_so ∙ ap (λ (x : Part). name_in_namespace S.namespace x.tag) (sym same) in
          let own : Spelled (g s.target) attributes children =
          typed s.target (subst (λ o. HasType S.types o attributes children (λ inner own. AreValid S inner own children)) target valid) in
          (Child k own.0 others, ap (λ x. k ∷ x) at, ((s, there, own.1), admitted), ((s, there, (tag, own.2, own.3, own.4)), written))

  -- ---- what writes an admitted value is valid

  to_type : (p : ℕ) (F : Form ℕ Simple) (v : Value) (attributes : List Entry) (nodes : Nodes) (C : List Part → List ℕ → Type 0) → g p ≡ F
      → ((H : Form ℕ Simple) (children : Children) → AdmitsChildren g (form_slots H) children → WritesContent g S.namespace H (value.Component children) nodes
      → C (map (part_of name) (form_slots H)) (numbers_of children))
      → AdmitsAs g F v → WritesAttributes g F v attributes → MayHold F nodes → WritesContent g S.namespace F v nodes → HasType S.types (shape_by name (base p) F) attributes nodes C
  to_type p (form.Sequence slots) (value.Component children) attributes nodes C is below (word, each) hints may written =
      (hints, may_have name slots nodes may, numbers_of children, sequence_to name slots (numbers_of children) word, below (form.Sequence slots) children each written)
  to_type p (form.Choice slots) (value.Component children) attributes nodes C is below (word, each) hints may written =
      (hints, numbers_of children, choice_to name slots (numbers_of children) word, below (form.Choice slots) children each written)
  to_type p (form.Simple simple) (value.Simple l) attributes nodes C is below fits hints may written =
      (let t : SpellsText simple l nodes = content_simple (form.Simple simple) l nodes written in (hints, (t.0, t.1, given_valid simple t.0 l (agree.simple p simple is) t.2)))
  to_type p (form.Money code number) (value.Amount l m) attributes nodes C is below fits (w, has, spells) may written =
      let t : SpellsText number (Number m) nodes = content_amount (form.Money code number) l m nodes written in
      let coded : IsTextAt (shape_by name (base code) (g code)) (chars w) = code_valid code (g code) (base code) (chars w) l refl spells in (
        (w, has, subst (λ o. IsTextAt o (chars w)) (sym (agree.typed code)) coded),
        (t.0, t.1, subst (λ o. IsTextAt o t.0) (sym (agree.based p code number is)) (given_valid number t.0 (Number m) (agree.number p code number is).0 t.2)),
      )
  to_type p form.Envelope (value.External t) attributes nodes C is below fits hints may written = (hints, wrapped_one t nodes fits (content_tree form.Envelope t nodes written))
  to_type p F v attributes nodes C is below a hints may written = absurd a

  valid_children : (F : Form ℕ Simple) (children : Children) (nodes : Nodes) → AdmitsChildren g (form_slots F) children → WritesContent g S.namespace F (value.Component children) nodes
      → AreValid S (map (part_of name) (form_slots F)) (numbers_of children) nodes
  valid_children F value.Nothing tree.Nothing a w = tt
  valid_children F (Child k v more) tree.Nothing a w = absurd w
  valid_children F children (Text c rest) a w = (let r = content_space F children c rest w in (r.0, valid_children F children rest a r.1))
  valid_children F value.Nothing (Element n attributes inner rest) a w = absurd w
  valid_children F (Child k v more) (Element n attributes inner rest) ((s, there, admitted), others) ((s', there', (tag, hints, may, written)), behind) =
      let same : s' ≡ s = (let both : Some s' ≡ Some s = sym there' ∙ there in cc) in
      one same (valid_children F more rest others behind) (λ H children a w. valid_children H children inner a w)
    where
      one : s' ≡ s → AreValid S (map (part_of name) (form_slots F)) (numbers_of more) rest
          → ((H : Form ℕ Simple) (children : Children) → AdmitsChildren g (form_slots H) children → WritesContent g S.namespace H (value.Component children) inner
          → AreValid S (map (part_of name) (form_slots H)) (numbers_of children) inner)
          → AreValid S (map (part_of name) (form_slots F)) (k ∷ numbers_of more) (Element n attributes inner rest)
      one same later below =
          let a2 : AdmitsAs g (g s'.target) v = subst (λ (x : Slot ℕ). AdmitsAs g (g x.target) v) (sym same) admitted in
          let typed : HasType S.types (shape_by name (base s'.target) (g s'.target)) attributes inner (λ parts own. AreValid S parts own inner) =
          to_type s'.target (g s'.target) v attributes inner (λ parts own. AreValid S parts own inner) refl below a2 hints may written in
          ((part_of name s', slice_get-part (part_of name) (form_slots F) k s' there', tag, subst (λ o. HasType S.types o attributes inner (λ parts own. AreValid S parts own inner)) (sym (agree.typed s'.target)) typed), later)

  -- ---- whole trees

  pub valid_written : (t : Tree) → name 0 ≡ codes "Document" → IsValid S t → (v : Value) × AdmitsAs g (g 0) v × WritesAs g S.namespace (g 0) v t
  valid_written t root h =
      let type : HasType S.types (shape_by name (base 0) (g 0)) t.attributes t.children (λ parts own. AreValid S parts own t.children) =
      subst (λ o. HasType S.types o t.attributes t.children (λ parts own. AreValid S parts own t.children))
      (ap (λ n. find_type n S.types) (sym root) ∙ agree.typed 0) h.valid in
      let r : Spelled (g 0) t.attributes t.children =
      of_type 0 (g 0) t.attributes t.children (λ parts own. AreValid S parts own t.children) refl (λ H d c. spelled_children H d t.children c) type in
      (r.0, r.1, record { name = h.name; attributes = r.2; holds = r.3; content = r.4 })

  pub written_valid : (t : Tree) (v : Value) → name 0 ≡ codes "Document" → AdmitsAs g (g 0) v → WritesAs g S.namespace (g 0) v t → IsValid S t
  written_valid t v root a w =
      let type : HasType S.types (shape_by name (base 0) (g 0)) t.attributes t.children (λ parts own. AreValid S parts own t.children) =
      to_type 0 (g 0) v t.attributes t.children (λ parts own. AreValid S parts own t.children) refl (λ H children c d. valid_children H children t.children c d) a w.attributes w.holds w.content in
      record {
        name = w.name;
        valid = subst (λ o. HasType S.types o t.attributes t.children (λ parts own. AreValid S parts own t.children))
            (sym (ap (λ n. find_type n S.types) (sym root) ∙ agree.typed 0)) type;
      }
