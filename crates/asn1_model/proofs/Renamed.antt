-- What types admit, and the DER of values, where types have other names.
use Rattle.std.proofs.Common.{◌≡◌, ℕ, suc, List, [], ◌∷◌, map, Option, Some, None, refl, sym, ap, ap₂, subst, ◌∙◌}
use Rattle.std.specs.Prelude.{slice_get, if◌then◌else◌, ◌==◌}
use Rattle.std.specs.Option.{option_map}
use Rattle.std.proofs.lemmas.List.{length-map}
use Rattle.std.proofs.lemmas.Option.{slice_get-map}
use Rattle.lexical_core.specs.Tree.{Tree}
use Rattle.data_types.specs.Leaf.{Leaf}
use Rattle.data_types.specs.Value.{Value, Children}
use Rattle.data_types.specs.Value as value
use Rattle.facets.specs.declared.simple.Simple.{Simple}
use Rattle.der_octets.specs.Octets.{Values, Nothing, Constructed, universal, context, octets}
use Rattle.reference_check.specs.Forms.{Graph, Form, Slot, form_to, slot_to}
use Rattle.reference_check.specs.Forms as form
use Rattle.reference_check.specs.Words.{IsOrderedFrom, MayComeTimes, IsSequence, IsChoice}
use Rattle.message_model.specs.Admits.{AdmitsAs, AdmitsChildren, FitsCode, numbers_of}
use Rattle.der_model.specs.DerMessage.{DerMessage}
use Rattle.der_model.specs.Structures.{is_single}
use Rattle.der_model.specs.Der.{Body, Octets, Inner, under, inner_of, item, placed_value, slot_values, all_slots, chosen_slot, form_values, body, values_at, der_of}
use Rattle.xsd_model.proofs.Sequences.{slice_get-part, slice_get-back}

module _ {P Q : Type 0} (h : P → Q) where
  abbrev renamed : Form P Simple → Form Q Simple
  renamed F = form_to h (λ x. x) F

  -- ---- what is admitted

  sequence_there : (slots : List (Slot P)) (d : List ℕ) → IsSequence slots d → IsSequence (map (slot_to h) slots) d
  sequence_there slots d w = record {
    ordered = subst (λ n. IsOrderedFrom 0 n d) (sym (length-map slots (slot_to h))) w.ordered;
    within = λ k s e. (let r = slice_get-back (slot_to h) slots k s e in rw (← r.2) (w.within k r.0 r.1));
  }

  sequence_here : (slots : List (Slot P)) (d : List ℕ) → IsSequence (map (slot_to h) slots) d → IsSequence slots d
  sequence_here slots d w = record {
    ordered = subst (λ n. IsOrderedFrom 0 n d) (length-map slots (slot_to h)) w.ordered;
    within = λ k s e. w.within k (slot_to h s) (slice_get-part (slot_to h) slots k s e);
  }

  choice_there : (slots : List (Slot P)) (d : List ℕ) → IsChoice slots d → IsChoice (map (slot_to h) slots) d
  choice_there slots d (k, n, s, e, w, at) = (k, n, slot_to h s, slice_get-part (slot_to h) slots k s e, w, at)

  choice_here : (slots : List (Slot P)) (d : List ℕ) → IsChoice (map (slot_to h) slots) d → IsChoice slots d
  choice_here slots d (k, n, s, e, w, at) = (let r = slice_get-back (slot_to h) slots k s e in (k, n, r.0, r.1, subst (λ x. MayComeTimes n x) (sym r.2) w, at))

  code_there : (F : Form P Simple) (l : Leaf) → FitsCode F l → FitsCode (renamed F) l
  code_there (form.Simple s) l fits = fits
  code_there F l fits = absurd fits

  code_here : (F : Form P Simple) (l : Leaf) → FitsCode (renamed F) l → FitsCode F l
  code_here (form.Simple s) l fits = fits
  code_here F l fits = absurd fits

  module _ (g : Graph P Simple) (k : Graph Q Simple) (like : (p : P) → k (h p) ≡ renamed (g p)) where
    mutual
      pub admits_there : (F : Form P Simple) (v : Value) → AdmitsAs g F v → AdmitsAs k (renamed F) v
      admits_there (form.Sequence slots) (value.Component children) (word, each) = (sequence_there slots (numbers_of children) word, children_there slots children each)
      admits_there (form.Choice slots) (value.Component children) (word, each) = (choice_there slots (numbers_of children) word, children_there slots children each)
      admits_there (form.Simple s) (value.Simple l) a = a
      admits_there (form.Money c s) (value.Amount l n) (a, b) = (subst (λ F. FitsCode F l) (sym (like c)) (code_there (g c) l a), b)
      admits_there form.Envelope (value.External t) a = a
      admits_there F v a = absurd a

      children_there : (slots : List (Slot P)) (children : Children) → AdmitsChildren g slots children → AdmitsChildren k (map (slot_to h) slots) children
      children_there slots value.Nothing a = a
      children_there slots (value.Child j v rest) ((s, e, a), each) =
          ((slot_to h s, slice_get-part (slot_to h) slots j s e, subst (λ F. AdmitsAs k F v) (sym (like s.target)) (admits_there (g s.target) v a)), children_there slots rest each)

    mutual
      pub admits_here : (F : Form P Simple) (v : Value) → AdmitsAs k (renamed F) v → AdmitsAs g F v
      admits_here (form.Sequence slots) (value.Component children) (word, each) = (sequence_here slots (numbers_of children) word, children_here slots children each)
      admits_here (form.Choice slots) (value.Component children) (word, each) = (choice_here slots (numbers_of children) word, children_here slots children each)
      admits_here (form.Simple s) (value.Simple l) a = a
      admits_here (form.Money c s) (value.Amount l n) (a, b) = (code_here (g c) l (subst (λ F. FitsCode F l) (like c) a), b)
      admits_here form.Envelope (value.External t) a = a
      admits_here F v a = absurd a

      children_here : (slots : List (Slot P)) (children : Children) → AdmitsChildren k (map (slot_to h) slots) children → AdmitsChildren g slots children
      children_here slots value.Nothing a = a
      children_here slots (value.Child j v rest) ((s, e, a), each) =
          (let r = slice_get-back (slot_to h) slots j s e in
          ((r.0, r.1, admits_here (g r.0.target) v (subst (λ F. AdmitsAs k F v) (like r.0.target) (subst (λ (x : Slot Q). AdmitsAs k (k x.target) v) (sym r.2) a))), children_here slots rest each))

  -- ---- the DER of values

  item_alike : (F : Form P Simple) (b : Body) (rest : Values) → item F b rest ≡ item (renamed F) b rest
  item_alike (form.Sequence slots) b rest = refl
  item_alike (form.Choice slots) b rest = refl
  item_alike (form.Simple s) b rest = refl
  item_alike (form.Money c s) b rest = refl
  item_alike form.Envelope b rest = refl
  item_alike form.LeftOut b rest = refl
  item_alike form.Missing b rest = refl

  slots_alike : (k : ℕ) (slots : List (Slot P)) (at : ℕ → Slot P → Values) (there : ℕ → Slot Q → Values) → ((j : ℕ) (s : Slot P) → at j s ≡ there j (slot_to h s))
      → all_slots k slots at ≡ all_slots k (map (slot_to h) slots) there
  slots_alike k [] at there same = refl
  slots_alike k (s ∷ slots) at there same = ap₂ (λ x rest. slot_values k s x rest) (same k s) (slots_alike (suc k) slots at there same)

  chosen_alike : (k : ℕ) (o : Option (Slot P)) (at : ℕ → Slot P → Values) (there : ℕ → Slot Q → Values) → ((j : ℕ) (s : Slot P) → at j s ≡ there j (slot_to h s))
      → chosen_slot k o at ≡ chosen_slot k (option_map (slot_to h) o) there
  chosen_alike k None at there same = refl
  chosen_alike k (Some s) at there same = ap (λ x. slot_values k s x Nothing) (same k s)

  form_alike : (F : Form P Simple) (came : List ℕ) (at : ℕ → Slot P → Values) (there : ℕ → Slot Q → Values) → ((j : ℕ) (s : Slot P) → at j s ≡ there j (slot_to h s))
      → form_values F came at ≡ form_values (renamed F) came there
  form_alike (form.Sequence slots) came at there same = slots_alike 0 slots at there same
  form_alike (form.Choice slots) [] at there same = refl
  form_alike (form.Choice slots) (k ∷ came) at there same =
      chosen_alike k (slice_get slots k) at there same ∙ ap (λ o. chosen_slot k o there) (sym (slice_get-map (slot_to h) slots k))
  form_alike (form.Simple s) came at there same = refl
  form_alike (form.Money c s) came at there same = refl
  form_alike form.Envelope came at there same = refl
  form_alike form.LeftOut came at there same = refl
  form_alike form.Missing came at there same = refl

  module _ (one : DerMessage P) (two : DerMessage Q) (like : (p : P) → two.forms (h p) ≡ renamed (one.forms p)) (fragments : (t : Tree) → one.fragment t ≡ two.fragment t) where
    placed_alike : (k : ℕ) (s : Slot P) (a b : Body) (x y : Values) → a ≡ b → x ≡ y → placed_value one.forms k s a x ≡ placed_value two.forms k (slot_to h s) b y
    placed_alike k s a b x y e f =
        ap₂ (λ b y. placed_value one.forms k s b y) e f
        ∙ ap (λ z. if is_single s then under (context k) b y else z) (item_alike (one.forms s.target) b y ∙ ap (λ F. item F b y) (sym (like s.target)))

    child_alike : (j k : ℕ) (s : Slot P) (v : Value) (rest : Children) → body one (one.forms s.target) v ≡ body two (renamed (one.forms s.target)) v → values_at one k s rest ≡ values_at two k (slot_to h s) rest
        → values_at one k s (value.Child j v rest) ≡ values_at two k (slot_to h s) (value.Child j v rest)
    child_alike j k s v rest e f =
        ap₂ (λ (a b : Values). if j == k then a else b)
        (placed_alike k s (body one (one.forms s.target) v) (body two (two.forms (h s.target)) v) (values_at one k s rest) (values_at two k (slot_to h s) rest)
        (e ∙ ap (λ F. body two F v) (sym (like s.target))) f)
        f

    mutual
      body_alike : (F : Form P Simple) (v : Value) → body one F v ≡ body two (renamed F) v
      body_alike F (value.Component children) =
          ap Inner (form_alike F (numbers_of children) (λ k s. values_at one k s children) (λ k s. values_at two k s children) (λ k s. values_alike k s children))
      body_alike F (value.Simple leaf) = refl
      body_alike F (value.Amount code number) = refl
      body_alike F (value.External tree) = ap Octets (fragments tree)

      values_alike : (k : ℕ) (s : Slot P) (children : Children) → values_at one k s children ≡ values_at two k (slot_to h s) children
      values_alike k s value.Nothing = refl
      values_alike k s (value.Child j v rest) = child_alike j k s v rest (body_alike (one.forms s.target) v) (values_alike k s rest)

    -- the DER of the same value
    pub der_alike : (v : Value) → two.root ≡ h one.root → der_of one v ≡ der_of two v
    der_alike v root =
        ap (λ b. octets (Constructed (universal 16) (inner_of b) Nothing))
        (body_alike (one.forms one.root) v ∙ (ap (λ F. body two F v) (sym (like one.root)) ∙ ap (λ p. body two (two.forms p) v) (sym root)))
