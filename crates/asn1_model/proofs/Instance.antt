-- The value of the module that an admitted value is: it is of the type, and its contents are the value's.
use Rattle.std.proofs.Common.{◌≡◌, ◌≢◌, ◌⊎◌, inl, inr, ℕ, zero, suc, ◌+◌, ◌<◌, ◌≤◌, Bool, true, false, cond, List, [], ◌∷◌, map, replicate, Option, Some, None, refl, sym, ap, ap₂, subst, ◌∙◌, arith, eqb, zero-add}
use Rattle.std.specs.Prelude.{slice_get, if◌then◌else◌, ◌==◌}
use Rattle.std.proofs.lemmas.Bool.Decides.{nat_tests, eqb_tells}
use Rattle.lexical_core.specs.Decimals.{Number as DecimalNumber}
use Rattle.data_types.specs.Leaf.{Leaf, Number}
use Rattle.data_types.specs.Value.{Value, Children}
use Rattle.data_types.specs.Value as value
use Rattle.data_types.specs.declared.kind.Kind.{Kind}
use Rattle.data_types.specs.declared.kind.Kind.TheVariants as kind
use Rattle.facets.specs.declared.simple.Simple.{Simple}
use Rattle.facets.specs.LeafUnder.{Fits}
use Rattle.der_octets.specs.Octets.{context, universal, Values, Nothing, Constructed, then_values}
use Rattle.reference_check.specs.Forms.{Form, Slot}
use Rattle.reference_check.specs.Forms as form
use Rattle.reference_check.specs.Words.{times, UpTo, MayComeTimes}
use Rattle.reference_check.proofs.Words.{times-replicate}
use Rattle.message_model.specs.Admits.{AdmitsAs, AdmitsChildren, FitsCode, numbers_of}
use Rattle.der_model.specs.DerMessage.{DerMessage}
use Rattle.der_model.specs.LeafContents.{leaf_contents}
use Rattle.der_model.specs.Structures.{is_single, simple_number}
use Rattle.der_model.specs.Der.{Body, Octets, Inner, under, body, values_at, placed_value, slot_values, all_slots, chosen_slot, alternative}
use Rattle.der_model.specs.Der as der
use Rattle.der_model.proofs.Spelled.{at_most_one, then_under}
use Rattle.asn1_model.specs.declared.module.Module.{Module}
use Rattle.asn1_model.specs.declared.module.AsnShape.{AsnShape}
use Rattle.asn1_model.specs.declared.module.AsnShape.TheVariants as shape
use Rattle.asn1_model.specs.Constraints.{IsRealValue}
use Rattle.asn1_model.specs.Values.{AsnValue, Components, Items, Chosen, Listed, NoItem, Item, AsnPart, Due, One, Many, AsnHas, HasComponents, HasItems, contents, component_values, item_values, ArePresent, component_numbers, count_of, HasCount, values_of_item, tagged_values, asn_part_of, find_asn_type}
use Rattle.asn1_model.specs.Values as asn
use Rattle.asn1_model.specs.InstanceValues.{asn_value, items_at, components_by, with_values, with_single, chosen_value, single_value, chosen_by, in_form, leaf_value}
use Rattle.asn1_model.specs.ModuleOf.{shape_of, shape_by, fields_of, step_of, step_by}
use Rattle.asn1_model.specs.Sound.{IsSoundType}
use Rattle.asn1_model.proofs.Leaves.{number_there}
use Rattle.asn1_model.proofs.Parts.{part, IsTyped, HasTargets, parts_are, part_at, due_single, due_list, optional_none}
use Rattle.asn1_model.proofs.Primitives.{leaf_there}

-- ---- tags

-- an item stands in the DER of the module as in that of the value
item_same : {P : Type 0} (name : P → List ℕ) (f : Form P Simple) (b : Body) (rest : Values) → values_of_item (shape_of name f) b rest ≡ der.item f b rest
item_same name (form.Sequence fs) b rest = refl
item_same name (form.Choice fs) b rest = refl
item_same name (form.Simple s) b rest = by_kind s.kind s.codes
  where
    by_kind : (k : Kind) (codes : Option (List (List ℕ))) → values_of_item (Some (shape_by k codes s)) b rest ≡ under (universal (simple_number k codes)) b rest
    by_kind kind.Text None = refl
    by_kind kind.Text (Some codes) = refl
    by_kind k codes = refl
item_same name (form.Money k f) b rest = refl
item_same name form.Envelope b rest = refl
item_same name form.LeftOut b rest = refl
item_same name form.Missing b rest = refl

count_within : (min : ℕ) (max : Option ℕ) (n : ℕ) → min ≤ n → UpTo n max → HasCount min max n
count_within min None n low high = (low, tt)
count_within min (Some top) n low high = (low, high)

module _ {P : Type 0} (May : P → Type 0) (message : DerMessage P) (name : P → List ℕ) (M : Module) (typed : IsTyped May message.forms name M) where
  abbrev sh : Slot P → Option AsnShape
  sh s = shape_of name (message.forms s.target)

  -- what stands at slot j, as items and as DER
  data Stands (j : ℕ) (s : Slot P) (a : Items) (x : Values) : Type 0 where
    listed : is_single s ≡ false → AsnHas message.fragment M (Many s.min s.max (sh s)) (Listed a) → item_values M (sh s) a ≡ x → Stands j s a x
    absent : is_single s ≡ true → s.min ≡ 0 → a ≡ NoItem → x ≡ Nothing → Stands j s a x
    single : is_single s ≡ true → (v : AsnValue) → a ≡ Item v NoItem → AsnHas message.fragment M (One (sh s)) v → x ≡ under (context j) (contents M (One (sh s)) v) Nothing → Stands j s a x

  -- components from slot i on
  abbrev Held : List (Slot P) → ℕ → List (Slot P) → Components → Values → Type 0
  Held all i fs cs x = ArePresent i (map (part message.forms name) fs) (component_numbers cs) × HasComponents message.fragment M (map (part message.forms name) all) cs × (component_values M (map (part message.forms name) all) cs ≡ x)

  at_slot : (all : List (Slot P)) (i : ℕ) (s : Slot P) (inside : Due → Body) (rest : Values) → slice_get all i ≡ Some s → tagged_values i (slice_get (map (part message.forms name) all) i) inside rest ≡ under (context i) (inside (part message.forms name s).due) rest
  at_slot all i s inside rest e = ap (λ o. tagged_values i o inside rest) (part_at message.forms name all i s e)

  slot_step : (all fs : List (Slot P)) (i : ℕ) (s : Slot P) (a : Items) (v : Values) (cs : Components) (x : Values) → slice_get all i ≡ Some s → Stands i s a v → Held all (suc i) fs cs x
      → Held all i (s ∷ fs) (with_values (is_single s) i a cs) (slot_values i s v x)
  slot_step all fs i s a v cs x here (listed h has same) (present, held, values) = subst (λ b. Held all i (s ∷ fs) (with_values b i a cs) (if b then then_values v x else Constructed (context i) v x)) (sym h) (
    inl (component_numbers cs, refl, present),
    ((part message.forms name s, part_at message.forms name all i s here, subst (λ d. AsnHas message.fragment M d (Listed a)) (sym (due_list message.forms name s h)) has), held),
    at_slot all i s (λ e. contents M e (Listed a)) (component_values M (map (part message.forms name) all) cs) here
        ∙ (ap (λ d. under (context i) (contents M d (Listed a)) (component_values M (map (part message.forms name) all) cs)) (due_list message.forms name s h)
        ∙ ap₂ (λ y z. Constructed (context i) y z) same values),
  )
  slot_step all fs i s a v cs x here (absent h none is are) (present, held, values) =
      subst (λ b. Held all i (s ∷ fs) (with_values b i a cs) (if b then then_values v x else Constructed (context i) v x)) (sym h)
      (subst (λ y. Held all i (s ∷ fs) (with_single i y cs) (then_values v x)) (sym is)
      (subst (λ y. Held all i (s ∷ fs) cs (then_values y x)) (sym are) (inr (optional_none message.forms name s h none, present), held, values)))
  slot_step all fs i s a v cs x here (single h w is has are) (present, held, values) =
      subst (λ b. Held all i (s ∷ fs) (with_values b i a cs) (if b then then_values v x else Constructed (context i) v x)) (sym h)
      (subst (λ y. Held all i (s ∷ fs) (with_single i y cs) (then_values v x)) (sym is) (
        inl (component_numbers cs, refl, present),
        ((part message.forms name s, part_at message.forms name all i s here, subst (λ d. AsnHas message.fragment M d w) (sym (due_single message.forms name s h)) has), held),
        at_slot all i s (λ e. contents M e w) (component_values M (map (part message.forms name) all) cs) here
            ∙ (ap (λ d. under (context i) (contents M d w) (component_values M (map (part message.forms name) all) cs)) (due_single message.forms name s h)
            ∙ (ap (λ z. under (context i) (contents M (One (sh s)) w) z) values
            ∙ (sym (then_under (context i) (contents M (One (sh s)) w) x) ∙ ap (λ y. then_values y x) (sym are)))),
      ))

  slots_stand : (all : List (Slot P)) (i : ℕ) (fs : List (Slot P)) (A : ℕ → Slot P → Items) (V : ℕ → Slot P → Values)
      → ((k j : ℕ) (s : Slot P) → j ≡ i + k → slice_get fs k ≡ Some s → (slice_get all j ≡ Some s) × Stands j s (A j s) (V j s)) → Held all i fs (components_by i fs A) (all_slots i fs V)
  slots_stand all i [] A V h = (refl, tt, refl)
  slots_stand all i (s ∷ fs) A V h =
      let first = h 0 i s (omega arith) refl in
      slot_step all fs i s (A i s) (V i s) (components_by (suc i) fs A) (all_slots (suc i) fs V) first.0 first.1
      (slots_stand all (suc i) fs A V (λ k j t e q. h (suc k) j t (omega arith) q))

  -- ---- the values of one slot

  none_same : (k : ℕ) (s : Slot P) (ks : Children) → times k (numbers_of ks) ≡ 0 → (items_at message k s ks ≡ NoItem) × (values_at message k s ks ≡ Nothing)
  none_same k s value.Nothing h = (refl, refl)
  none_same k s (value.Child j v rest) h = go (eqb_tells j k) (none_same k s rest)
    where
      none_more : (j k n : ℕ) → cond (j == k) 1 0 + n ≡ 0 → (j ≢ k) × (n ≡ 0)
      none_more j k n h = grind (arith, nat_tests)

      go : ((eqb j k ≡ true) × (j ≡ k)) ⊎ ((eqb j k ≡ false) × (j ≢ k)) → (times k (numbers_of rest) ≡ 0 → (items_at message k s rest ≡ NoItem) × (values_at message k s rest ≡ Nothing))
          → (items_at message k s (value.Child j v rest) ≡ NoItem) × (values_at message k s (value.Child j v rest) ≡ Nothing)
      go (inl t) r = absurd ((none_more j k _ h).0 t.1)
      go (inr t) r = (rw t.0 (r (none_more j k _ h).1).0, rw t.0 (r (none_more j k _ h).1).1)

  placed_list : (k : ℕ) (s : Slot P) (b : Body) (rest : Values) → is_single s ≡ false → placed_value message.forms k s b rest ≡ der.item (message.forms s.target) b rest
  placed_list k s b rest h = rw h refl

  placed_single : (k : ℕ) (s : Slot P) (b : Body) (rest : Values) → is_single s ≡ true → placed_value message.forms k s b rest ≡ under (context k) b rest
  placed_single k s b rest h = rw h refl

  one_more : (m n : ℕ) → m ≡ n → suc m ≡ 1 + n
  one_more m n e = omega (arith, e)

  last_one : (j k n : ℕ) → j ≡ k → cond (j == k) 1 0 + n ≤ 1 → n ≡ 0
  last_one j k n e h = grind (arith, nat_tests)

  passed : (j k n : ℕ) → cond (j == k) 1 0 + n ≤ 1 → n ≤ 1
  passed j k n h = omega arith

  -- all the items of a slot that is a list
  abbrev AllItems : ℕ → Slot P → Children → Type 0
  AllItems k s ks = HasItems message.fragment M (sh s) (items_at message k s ks) × (item_values M (sh s) (items_at message k s ks) ≡ values_at message k s ks) × (count_of (items_at message k s ks) ≡ times k (numbers_of ks))

  -- the one item of a slot that is none, if any
  abbrev OneItem : ℕ → Slot P → Children → Type 0
  OneItem k s ks = ((items_at message k s ks ≡ NoItem) × (values_at message k s ks ≡ Nothing) × (times k (numbers_of ks) ≡ 0))
      ⊎ ((v : AsnValue) × (items_at message k s ks ≡ Item v NoItem) × AsnHas message.fragment M (One (sh s)) v × (values_at message k s ks ≡ under (context k) (contents M (One (sh s)) v) Nothing))

  -- the value of the module is of the type, and has the contents of the value
  abbrev Agrees : Form P Simple → Value → Type 0
  Agrees f v = AsnHas message.fragment M (One (shape_of name f)) (asn_value message f v) × (contents M (One (shape_of name f)) (asn_value message f v) ≡ body message f v)

  list_step : (fs : List (Slot P)) (k : ℕ) (s : Slot P) (j : ℕ) (v : Value) (rest : Children) → slice_get fs k ≡ Some s → is_single s ≡ false
      → (t : Slot P) → slice_get fs j ≡ Some t → Agrees (message.forms t.target) v → AllItems k s rest → AllItems k s (value.Child j v rest)
  list_step fs k s j v rest e h t found agrees (has, values, count) = go (eqb_tells j k)
    where
      go : ((eqb j k ≡ true) × (j ≡ k)) ⊎ ((eqb j k ≡ false) × (j ≢ k)) → AllItems k s (value.Child j v rest)
      go (inl q) =
          let here : slice_get fs k ≡ Some t = rw q.1 at found in
          let same : t ≡ s = cc in
          let a : Agrees (message.forms s.target) v = rw same at agrees in
          (rw q.0 (a.0, has), rw q.0 (item_same name (message.forms s.target) _ _ ∙ (ap₂ (λ b r. der.item (message.forms s.target) b r) a.1 values ∙ sym (placed_list k s _ _ h))), rw q.0 (one_more _ _ count))
      go (inr q) = (rw q.0 has, rw q.0 values, rw q.0 (count ∙ sym (zero-add _)))

  single_step : (fs : List (Slot P)) (k : ℕ) (s : Slot P) (j : ℕ) (v : Value) (rest : Children) → slice_get fs k ≡ Some s → is_single s ≡ true → times k (numbers_of (value.Child j v rest)) ≤ 1
      → (t : Slot P) → slice_get fs j ≡ Some t → Agrees (message.forms t.target) v → (times k (numbers_of rest) ≤ 1 → OneItem k s rest) → OneItem k s (value.Child j v rest)
  single_step fs k s j v rest e h most t found agrees more = go (eqb_tells j k)
    where
      go : ((eqb j k ≡ true) × (j ≡ k)) ⊎ ((eqb j k ≡ false) × (j ≢ k)) → OneItem k s (value.Child j v rest)
      go (inl q) =
          let here : slice_get fs k ≡ Some t = rw q.1 at found in
          let same : t ≡ s = cc in
          let a : Agrees (message.forms s.target) v = rw same at agrees in
          let none = none_same k s rest (last_one j k _ q.1 most) in
          inr (asn_value message (message.forms s.target) v, rw (q.0, none.0) refl, a.0, rw (q.0, none.1) (placed_single k s _ Nothing h ∙ ap (λ b. under (context k) b Nothing) (sym a.1)))
      go (inr q) = elim (more (passed j k _ most)) [
        | inl (a, x, n) ↦ inl (rw q.0 a, rw q.0 x, rw q.0 (zero-add _ ∙ n))
        | inr (w, a, has, x) ↦ inr (w, rw q.0 a, has, rw q.0 x)
      ]

  stands_by : (k : ℕ) (s : Slot P) (ks : Children) → MayComeTimes (times k (numbers_of ks)) s → (is_single s ≡ false → AllItems k s ks) → (is_single s ≡ true → times k (numbers_of ks) ≤ 1 → OneItem k s ks)
      → Stands k s (items_at message k s ks) (values_at message k s ks)
  stands_by k s ks (low, high) all one = go (is_single s) refl
    where
      go : (b : Bool) → is_single s ≡ b → Stands k s (items_at message k s ks) (values_at message k s ks)
      go false h =
          let a = all h in
          listed h (count_within s.min s.max (count_of (items_at message k s ks)) (rw a.2 low) (rw a.2 high), a.0) a.1
      go true h = elim (one h (at_most_one (times k (numbers_of ks)) s.max h high)) [
        | inl (a, x, n) ↦ absent h (omega (arith, low, n)) a x
        | inr (w, a, has, x) ↦ single h w a has x
      ]

  -- ---- forms

  sequence_step : (fs : List (Slot P)) → HasTargets May fs → (ks : Children) → Held fs 0 fs (components_by 0 fs (λ k s. items_at message k s ks)) (all_slots 0 fs (λ k s. values_at message k s ks)) → Agrees (form.Sequence fs) (value.Component ks)
  sequence_step fs targets ks h = subst (λ ps. (Unit {0} × ArePresent 0 ps (component_numbers cs) × HasComponents message.fragment M ps cs) × (Inner (component_values M ps cs) ≡ Inner x)) (sym (parts_are May message.forms name M typed fs targets)) ((tt, h.0, h.1), ap Inner h.2)
    where
      cs : Components
      cs = components_by 0 fs (λ k s. items_at message k s ks)

      x : Values
      x = all_slots 0 fs (λ k s. values_at message k s ks)

  -- what stands at the one slot of a choice is there
  abbrev Chose : List (Slot P) → ℕ → Slot P → Items → Values → Type 0
  Chose fs k s a x = AsnHas message.fragment M (One (Some (shape.Choice (fields_of name fs)))) (Chosen k (chosen_value (is_single s) a)) × (contents M (One (Some (shape.Choice (fields_of name fs)))) (Chosen k (chosen_value (is_single s) a)) ≡ Inner (slot_values k s x Nothing))

  choice_parts : (fs : List (Slot P)) → HasTargets May fs → (k : ℕ) (w : AsnValue) (b : Body) → (p : AsnPart) → slice_get (map (part message.forms name) fs) k ≡ Some p → AsnHas message.fragment M p.due w
      → AsnHas message.fragment M (One (Some (shape.Choice (fields_of name fs)))) (Chosen k w) × (contents M (One (Some (shape.Choice (fields_of name fs)))) (Chosen k w) ≡ Inner (under (context k) (contents M p.due w) Nothing))
  choice_parts fs targets k w b p e h =
      let at : slice_get (map (asn_part_of M) (fields_of name fs)) k ≡ Some p = ap (λ ps. slice_get ps k) (parts_are May message.forms name M typed fs targets) ∙ e in
      ((tt, p, at, h), ap (λ o. Inner (tagged_values k o (λ e. contents M e w) Nothing)) at)

  chose : (fs : List (Slot P)) → HasTargets May fs → (k : ℕ) (s : Slot P) (a : Items) (x : Values) → slice_get fs k ≡ Some s → 0 < s.min → Stands k s a x → Chose fs k s a x
  chose fs targets k s a x e some (listed h has same) = subst (λ b. AsnHas message.fragment M (One (Some (shape.Choice (fields_of name fs)))) (Chosen k (chosen_value b a)) × (contents M (One (Some (shape.Choice (fields_of name fs)))) (Chosen k (chosen_value b a)) ≡ Inner (if b then then_values x Nothing else Constructed (context k) x Nothing))) (sym h)
      (let c = choice_parts fs targets k (Listed a) (Inner x) (part message.forms name s) (part_at message.forms name fs k s e) (subst (λ d. AsnHas message.fragment M d (Listed a)) (sym (due_list message.forms name s h)) has) in
      (c.0, c.1 ∙ (ap (λ d. Inner (under (context k) (contents M d (Listed a)) Nothing)) (due_list message.forms name s h) ∙ ap (λ y. Inner (Constructed (context k) y Nothing)) same)))
  chose fs targets k s a x e some (absent h none is are) = absurd (omega (arith, some, none))
  chose fs targets k s a x e some (single h w is has are) = subst (λ b. AsnHas message.fragment M (One (Some (shape.Choice (fields_of name fs)))) (Chosen k (chosen_value b a)) × (contents M (One (Some (shape.Choice (fields_of name fs)))) (Chosen k (chosen_value b a)) ≡ Inner (if b then then_values x Nothing else Constructed (context k) x Nothing))) (sym h)
      (subst (λ y. AsnHas message.fragment M (One (Some (shape.Choice (fields_of name fs)))) (Chosen k (single_value y)) × (contents M (One (Some (shape.Choice (fields_of name fs)))) (Chosen k (single_value y)) ≡ Inner (then_values x Nothing))) (sym is)
      (let c = choice_parts fs targets k w (Inner x) (part message.forms name s) (part_at message.forms name fs k s e) (subst (λ d. AsnHas message.fragment M d w) (sym (due_single message.forms name s h)) has) in (
        c.0,
        c.1 ∙ (ap (λ d. Inner (under (context k) (contents M d w) Nothing)) (due_single message.forms name s h)
            ∙ ap Inner (sym (then_under (context k) (contents M (One (sh s)) w) Nothing) ∙ ap (λ y. then_values y Nothing) (sym are))),
      )))

  choice_step : (fs : List (Slot P)) → HasTargets May fs → (k n : ℕ) (s : Slot P) (ks : Children) → slice_get fs k ≡ Some s → numbers_of ks ≡ replicate n k → 0 < n → 0 < s.min
      → Stands k s (items_at message k s ks) (values_at message k s ks) → Agrees (form.Choice fs) (value.Component ks)
  choice_step fs targets k zero s ks e is more some stands = absurd (omega (arith, more))
  choice_step fs targets k (suc n) s ks e is more some stands =
      let c = chose fs targets k s (items_at message k s ks) (values_at message k s ks) e some stands in
      subst (λ d. AsnHas message.fragment M (One (Some (shape.Choice (fields_of name fs)))) (in_form (form.Choice fs) d (λ k s. items_at message k s ks)) × (contents M (One (Some (shape.Choice (fields_of name fs)))) (in_form (form.Choice fs) d (λ k s. items_at message k s ks)) ≡ Inner (alternative fs d (λ k s. values_at message k s ks)))) (sym is)
      (subst (λ o. AsnHas message.fragment M (One (Some (shape.Choice (fields_of name fs)))) (chosen_by k o (λ k s. items_at message k s ks)) × (contents M (One (Some (shape.Choice (fields_of name fs)))) (chosen_by k o (λ k s. items_at message k s ks)) ≡ Inner (chosen_slot k o (λ k s. values_at message k s ks)))) (sym e) c)

  real_there : (s : Simple) (l : Leaf) → s.kind ≡ kind.Decimal → Fits s l → AsnHas message.fragment M (One (Some (shape.Plain kind.Decimal (step_of s) None))) (asn.Primitive l)
  real_there s l e f = subst (λ x. IsRealValue x l) (sym (ap (λ (k : Kind). step_by k s) e)) (number_there s l e f)

  amount_step : (c : P) (s : Simple) (l : Leaf) (n : DecimalNumber) → IsSoundType May message.forms (form.Money c s) → FitsCode (message.forms c) l → Fits s (Number n) → Agrees (form.Money c s) (value.Amount l n)
  amount_step c s l n (may, decimal, x, is, sound) code number = (
    (tt, (inl (1 ∷ [], refl, inl ([], refl, refl))), ((record { optional = false; due = One (find_asn_type (name c) M.types) }, refl, first.0), ((record { optional = false; due = One (Some (shape.Plain kind.Decimal (step_of s) None)) }, refl, real_there s (Number n) decimal number), tt))),
    ap (λ b. Inner (under (context 0) b (under (context 1) (Octets (leaf_contents (Number n))) Nothing))) first.1,
  )
    where
      first : AsnHas message.fragment M (One (find_asn_type (name c) M.types)) (leaf_value (message.forms c) l) × (contents M (One (find_asn_type (name c) M.types)) (leaf_value (message.forms c) l) ≡ Octets (leaf_contents l))
      first = subst (λ o. AsnHas message.fragment M (One o) (leaf_value (message.forms c) l) × (contents M (One o) (leaf_value (message.forms c) l) ≡ Octets (leaf_contents l))) (sym (typed c may))
          (subst (λ (f : Form P Simple). AsnHas message.fragment M (One (shape_of name f)) (leaf_value f l) × (contents M (One (shape_of name f)) (leaf_value f l) ≡ Octets (leaf_contents l))) (sym is)
          (leaf_there message.fragment M x l sound (subst (λ (f : Form P Simple). FitsCode f l) is code)))

  module _ (sound : (p : P) → IsSoundType May message.forms (message.forms p)) where
    mutual
      -- of an admitted value the value of the module is of the type, with the same contents
      pub agrees : (f : Form P Simple) → IsSoundType May message.forms f → (v : Value) → AdmitsAs message.forms f v → Agrees f v
      agrees (form.Sequence fs) ok (value.Component ks) (word, each) =
          sequence_step fs (λ k s e. (ok k s e).0) ks (slots_stand fs 0 fs (λ k s. items_at message k s ks) (λ k s. values_at message k s ks)
          (λ k j s at e. (let same : k ≡ j = omega arith in let here : slice_get fs j ≡ Some s = rw same at e in
          (here, stands_by j s ks (word.within j s here) (list_items fs j s ks here each) (single_item fs j s ks here each)))))
      agrees (form.Choice fs) ok (value.Component ks) ((k, n, s, e, within, is), each) =
          choice_step fs (λ k s e. (ok k s e).0) k n s ks e is (let some = (ok k s e).2 in let low = within.0 in omega arith) (ok k s e).2
          (stands_by k s ks (subst (λ (m : ℕ). MayComeTimes m s) (sym (ap (times k) is ∙ times-replicate k n)) within) (list_items fs k s ks e each) (single_item fs k s ks e each))
      agrees (form.Simple s) ok (value.Simple l) a = leaf_there message.fragment M s l ok a
      agrees (form.Money c s) ok (value.Amount l n) (code, number) = amount_step c s l n ok code number
      agrees form.Envelope ok (value.External t) a = ((t, a, refl), refl)
      agrees (form.Sequence fs) ok v a = absurd a
      agrees (form.Choice fs) ok v a = absurd a
      agrees (form.Simple s) ok v a = absurd a
      agrees (form.Money c s) ok v a = absurd a
      agrees form.Envelope ok v a = absurd a
      agrees form.LeftOut ok v a = absurd a
      agrees form.Missing ok v a = absurd a

      list_items : (fs : List (Slot P)) (k : ℕ) (s : Slot P) (ks : Children) → slice_get fs k ≡ Some s → AdmitsChildren message.forms fs ks → is_single s ≡ false → AllItems k s ks
      list_items fs k s value.Nothing e each h = (tt, refl, refl)
      list_items fs k s (value.Child j v rest) e ((t, found, a), each) h = list_step fs k s j v rest e h t found (agrees (message.forms t.target) (sound t.target) v a) (list_items fs k s rest e each h)

      single_item : (fs : List (Slot P)) (k : ℕ) (s : Slot P) (ks : Children) → slice_get fs k ≡ Some s → AdmitsChildren message.forms fs ks → is_single s ≡ true → times k (numbers_of ks) ≤ 1 → OneItem k s ks
      single_item fs k s value.Nothing e each h most = inl (refl, refl, refl)
      single_item fs k s (value.Child j v rest) e ((t, found, a), each) h most = single_step fs k s j v rest e h most t found (agrees (message.forms t.target) (sound t.target) v a) (single_item fs k s rest e each h)
