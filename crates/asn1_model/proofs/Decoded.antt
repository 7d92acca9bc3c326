-- Each value of the module's types is the value of one that the metamodel admits.
use Rattle.std.proofs.Common.{◌≡◌, ◌≢◌, ◌⊎◌, inl, inr, ℕ, zero, suc, ◌+◌, ◌<◌, ◌≤◌, Bool, true, false, cond, List, [], ◌∷◌, ◌++◌, map, length, replicate, Option, Some, None, refl, sym, ap, ap₂, subst, ◌∙◌, arith, eqb, zero-add}
use Rattle.std.specs.Prelude.{slice_get, if◌then◌else◌, ◌==◌}
use Rattle.std.proofs.lemmas.Bool.Decides.{nat_tests, eqb_tells}
use Rattle.lexical_core.specs.Decimals.{Number as DecimalNumber}
use Rattle.data_types.specs.Leaf.{Leaf, Bytes, Number}
use Rattle.data_types.specs.Value.{Value, Children}
use Rattle.data_types.specs.Value as value
use Rattle.data_types.specs.declared.kind.Kind.{Kind}
use Rattle.data_types.specs.declared.kind.Kind.TheVariants as kind
use Rattle.facets.specs.declared.simple.Simple.{Simple}
use Rattle.facets.specs.LeafUnder.{Fits}
use Rattle.reference_check.specs.Forms.{Graph, Form, Slot}
use Rattle.reference_check.specs.Forms as form
use Rattle.reference_check.specs.Words.{times, UpTo, MayComeTimes, IsOrderedFrom}
use Rattle.reference_check.proofs.Words.{times-replicate, ordered-weaken, times-append}
use Rattle.message_model.specs.Admits.{AdmitsAs, AdmitsChildren, FitsCode, numbers_of}
use Rattle.der_model.specs.DerMessage.{DerMessage}
use Rattle.der_model.specs.Structures.{is_single, is_once}
use Rattle.der_model.proofs.Spelled.{at_most_one}
use Rattle.der_model.proofs.ChildLists.{then_children, slots_then, admits_then, times_none, times_other, ordered_then}
use Rattle.asn1_model.specs.declared.module.Module.{Module}
use Rattle.asn1_model.specs.declared.module.AsnShape.{AsnShape}
use Rattle.asn1_model.specs.declared.module.AsnShape.TheVariants as shape
use Rattle.asn1_model.specs.Constraints.{IsRealValue}
use Rattle.asn1_model.specs.Values.{AsnValue, Components, Items, Sequence, Chosen, Listed, Enumerated, NoComponent, Component, NoItem, Item, AsnPart, Due, One, Many, AsnHas, HasComponents, HasItems, ArePresent, component_numbers, count_of, HasCount, find_asn_type, amount_parts}
use Rattle.asn1_model.specs.Values as asn
use Rattle.asn1_model.specs.InstanceValues.{asn_value, items_at, components_by, with_values, with_single, chosen_value, chosen_by, in_form, leaf_value}
use Rattle.asn1_model.specs.ModuleOf.{shape_of, simple_shape, step_of, step_by}
use Rattle.asn1_model.specs.Sound.{IsSoundType, IsSoundSimpleType}
use Rattle.asn1_model.proofs.Leaves.{number_back}
use Rattle.asn1_model.proofs.Parts.{part, IsTyped, parts_are, part_at, slot_of_part, due_single, due_list, none_optional}
use Rattle.asn1_model.proofs.Primitives.{leaf_back}

-- ---- children

within_bounds : (min : ℕ) (max : Option ℕ) (n : ℕ) → HasCount min max n → (min ≤ n) × UpTo n max
within_bounds min None n (low, high) = (low, tt)
within_bounds min (Some top) n (low, high) = (low, high)

none_more : (j k n : ℕ) → cond (j == k) 1 0 + n ≡ 0 → (j ≢ k) × (n ≡ 0)
none_more j k n h = grind (arith, nat_tests)

one_within : {P : Type 0} (s : Slot P) (n : ℕ) → is_single s ≡ true → n ≤ 1 → UpTo n s.max
one_within s n h le = go s.max h
  where
    go : (max : Option ℕ) → is_once max ≡ true → UpTo n max
    go None e = tt
    go (Some m) e = by_test (eqb_tells m 1)
      where
        by_test : ((eqb m 1 ≡ true) × (m ≡ 1)) ⊎ ((eqb m 1 ≡ false) × (m ≢ 1)) → n ≤ m
        by_test (inl (t, is)) = omega (arith, le, is)
        by_test (inr (f, other)) = (let x : false ≡ true = rw f at e in absurd cc)

slot_same : {P : Type 0} (g : Graph P Simple) (name : P → List ℕ) (fs : List (Slot P)) (k : ℕ) (s : Slot P) (p : AsnPart) → slice_get fs k ≡ Some s → slice_get (map (part g name) fs) k ≡ Some p → p ≡ part g name s
slot_same g name fs k s p e at = (let both : Some p ≡ Some (part g name s) = sym at ∙ part_at g name fs k s e in cc)

module _ {P : Type 0} (May : P → Type 0) (message : DerMessage P) (name : P → List ℕ) (M : Module) (typed : IsTyped May message.forms name M) where
  abbrev sh : Slot P → Option AsnShape
  sh s = shape_of name (message.forms s.target)

  none_items : (k : ℕ) (s : Slot P) (ks : Children) → times k (numbers_of ks) ≡ 0 → items_at message k s ks ≡ NoItem
  none_items k s value.Nothing none = refl
  none_items k s (value.Child j v rest) none = go (eqb_tells j k) (none_items k s rest)
    where
      go : ((eqb j k ≡ true) × (j ≡ k)) ⊎ ((eqb j k ≡ false) × (j ≢ k)) → (times k (numbers_of rest) ≡ 0 → items_at message k s rest ≡ NoItem) → items_at message k s (value.Child j v rest) ≡ NoItem
      go (inl q) more = absurd ((none_more j k _ none).0 q.1)
      go (inr q) more = rw q.0 (more (none_more j k _ none).1)

  -- the items of children of other slots behind are none
  items-join : (k : ℕ) (s : Slot P) (a b : Children) → times k (numbers_of b) ≡ 0 → items_at message k s (then_children a b) ≡ items_at message k s a
  items-join k s value.Nothing b none = none_items k s b none
  items-join k s (value.Child j v rest) b none = (let more = items-join k s rest b none in ap (λ r. if j == k then Item (asn_value message (message.forms s.target) v) r else r) more)

  items_behind : (k : ℕ) (s : Slot P) (a b : Children) → times k (numbers_of a) ≡ 0 → items_at message k s (then_children a b) ≡ items_at message k s b
  items_behind k s value.Nothing b none = refl
  items_behind k s (value.Child j v rest) b none = go (eqb_tells j k) (items_behind k s rest b)
    where
      go : ((eqb j k ≡ true) × (j ≡ k)) ⊎ ((eqb j k ≡ false) × (j ≢ k)) → (times k (numbers_of rest) ≡ 0 → items_at message k s (then_children rest b) ≡ items_at message k s b) → items_at message k s (then_children (value.Child j v rest) b) ≡ items_at message k s b
      go (inl q) more = absurd ((none_more j k _ none).0 q.1)
      go (inr q) more = rw q.0 (more (none_more j k _ none).1)

  components_same : (i : ℕ) (fs : List (Slot P)) (A B : ℕ → Slot P → Items) → ((k : ℕ) (s : Slot P) → i ≤ k → A k s ≡ B k s) → components_by i fs A ≡ components_by i fs B
  components_same i [] A B h = refl
  components_same i (s ∷ fs) A B h = ap₂ (λ a r. with_values (is_single s) i a r) (h i s (omega arith)) (components_same (suc i) fs A B (λ k t le. h k t (omega arith)))

  -- what a component at slot k is made of: children of this slot alone, admitted, as many as may be
  record IsRead (fs : List (Slot P)) (k : ℕ) (s : Slot P) (a : AsnValue) (ks : Children) (n : ℕ) : Type 0 where
    alike : numbers_of ks ≡ replicate n k
    admits : AdmitsChildren message.forms fs ks
    within : MayComeTimes n s
    there : (after : Components) → with_values (is_single s) k (items_at message k s ks) after ≡ Component k a after
    value : chosen_value (is_single s) (items_at message k s ks) ≡ a

  abbrev Read : List (Slot P) → ℕ → Slot P → AsnValue → Type 0
  Read fs k s a = (ks : Children) × (n : ℕ) × IsRead fs k s a ks n

  abbrev AllRead : List (Slot P) → Components → Type 0
  AllRead fs NoComponent = Unit {0}
  AllRead fs (Component k a rest) = ((s : Slot P) → slice_get fs k ≡ Some s → Read fs k s a) × AllRead fs rest

  -- children for the components from slot i on
  record IsBuilt (all : List (Slot P)) (i : ℕ) (fs : List (Slot P)) (cs : Components) (ks : Children) : Type 0 where
    ordered : IsOrderedFrom i (length all) (numbers_of ks)
    admits : AdmitsChildren message.forms all ks
    within : (k : ℕ) (s : Slot P) → slice_get fs k ≡ Some s → MayComeTimes (times (i + k) (numbers_of ks)) s
    same : components_by i fs (λ k s. items_at message k s ks) ≡ cs

  abbrev Built : List (Slot P) → ℕ → List (Slot P) → Components → Type 0
  Built all i fs cs = (ks : Children) × IsBuilt all i fs cs ks

  built_none : (all : List (Slot P)) (i : ℕ) (cs : Components) → component_numbers cs ≡ [] → Built all i [] cs
  built_none all i NoComponent e = (value.Nothing, record { ordered = tt; admits = tt; within = λ k s at. absurd cc; same = refl })
  built_none all i (Component k a rest) e = absurd cc

  built_with : (all : List (Slot P)) (i : ℕ) (s : Slot P) (fs : List (Slot P)) (a : AsnValue) (cs : Components) → i < length all → Read all i s a → Built all (suc i) fs cs → Built all i (s ∷ fs) (Component i a cs)
  built_with all i s fs a cs lt (own, n, r) (more, b) = (
    then_children own more,
    record {
      ordered = subst (IsOrderedFrom i (length all)) (sym are) (ordered_then n i i (length all) (replicate n i) (numbers_of more) refl (omega arith) lt b.ordered);
      admits = admits_then message.forms all own more r.admits b.admits;
      within = λ k t at. within k t at;
      same = same;
    },
  )
    where
      are : numbers_of (then_children own more) ≡ replicate n i ++ numbers_of more
      are = slots_then own more ∙ ap (λ d. d ++ numbers_of more) r.alike

      count : (k : ℕ) → times k (numbers_of (then_children own more)) ≡ times k (replicate n i) + times k (numbers_of more)
      count k = ap (times k) are ∙ times-append k (replicate n i) (numbers_of more)

      here : times i (numbers_of more) ≡ 0
      here = times_none (suc i) (length all) i (numbers_of more) b.ordered (omega arith)

      within : (k : ℕ) (t : Slot P) → slice_get (s ∷ fs) k ≡ Some t → MayComeTimes (times (i + k) (numbers_of (then_children own more))) t
      within zero t at =
          let is : s ≡ t = cc in
          let c : times (i + 0) (numbers_of (then_children own more)) ≡ n = (let x = count (i + 0) in let z : i + 0 ≡ i = omega arith in ap (λ (m : ℕ). times m (numbers_of (then_children own more))) z ∙ (count i ∙ (ap₂ (λ (x y : ℕ). x + y) (times-replicate i n) here ∙ add_none n))) in
          subst (λ u. MayComeTimes (times (i + 0) (numbers_of (then_children own more))) u) is (subst (λ (m : ℕ). MayComeTimes m s) (sym c) r.within)
        where
          add_none : (m : ℕ) → m + 0 ≡ m
          add_none m = omega arith
      within (suc k) t at =
          let c : times (i + suc k) (numbers_of (then_children own more)) ≡ times (suc i + k) (numbers_of more) =
          (let z : i + suc k ≡ suc i + k = omega arith in ap (λ (m : ℕ). times m (numbers_of (then_children own more))) z ∙ (count (suc i + k) ∙ (ap (λ (x : ℕ). x + times (suc i + k) (numbers_of more)) (times_other (suc i + k) i n (λ q. let w : suc i + k ≡ i = q in omega arith)) ∙ zero-add _))) in
          subst (λ (m : ℕ). MayComeTimes m t) (sym c) (b.within k t at)

      same : components_by i (s ∷ fs) (λ k s. items_at message k s (then_children own more)) ≡ Component i a cs
      same = ap₂ (λ x r. with_values (is_single s) i x r) (items-join i s own more here)
          (components_same (suc i) fs (λ k t. items_at message k t (then_children own more)) (λ k t. items_at message k t more)
          (λ k t le. items_behind k t own more (ap (times k) r.alike ∙ times_other k i n (λ q. let w : k ≡ i = q in omega arith))) ∙ b.same)
          ∙ r.there cs

  built_without : (all : List (Slot P)) (i : ℕ) (s : Slot P) (fs : List (Slot P)) (cs : Components) → is_single s ≡ true → s.min ≡ 0 → Built all (suc i) fs cs → Built all i (s ∷ fs) cs
  built_without all i s fs cs h none (ks, b) = (
    ks,
    record {
      ordered = ordered-weaken (suc i) i (length all) (numbers_of ks) (omega arith) b.ordered;
      admits = b.admits;
      within = λ k t at. within k t at;
      same = ap (λ y. with_values y i (items_at message i s ks) (components_by (suc i) fs (λ k s. items_at message k s ks))) h ∙ (ap (λ y. with_single i y (components_by (suc i) fs (λ k s. items_at message k s ks))) no_items ∙ b.same);
    },
  )
    where
      here : times i (numbers_of ks) ≡ 0
      here = times_none (suc i) (length all) i (numbers_of ks) b.ordered (omega arith)

      no_items : items_at message i s ks ≡ NoItem
      no_items = none_items i s ks here

      within : (k : ℕ) (t : Slot P) → slice_get (s ∷ fs) k ≡ Some t → MayComeTimes (times (i + k) (numbers_of ks)) t
      within zero t at =
          let is : s ≡ t = cc in
          let c : times (i + 0) (numbers_of ks) ≡ 0 = (let z : i + 0 ≡ i = omega arith in ap (λ (m : ℕ). times m (numbers_of ks)) z ∙ here) in
          subst (λ u. MayComeTimes (times (i + 0) (numbers_of ks)) u) is (subst (λ (m : ℕ). MayComeTimes m s) (sym c) (omega (arith, none), one_within s 0 h (omega arith)))
      within (suc k) t at = (let z : i + suc k ≡ suc i + k = omega arith in subst (λ (m : ℕ). MayComeTimes (times m (numbers_of ks)) t) (sym z) (b.within k t at))

  component_step : (all : List (Slot P)) (i : ℕ) (s : Slot P) (fs : List (Slot P)) (d rest : List ℕ) (cs : Components) → slice_get all i ≡ Some s → i < length all → component_numbers cs ≡ i ∷ rest → AllRead all cs
      → ((more : Components) → component_numbers more ≡ rest → AllRead all more → Built all (suc i) fs more) → Built all i (s ∷ fs) cs
  component_step all i s fs d rest NoComponent here lt e read next = absurd cc
  component_step all i s fs d rest (Component k a more) here lt e (first, reads) next =
      let at : k ≡ i = cc in
      let tails : component_numbers more ≡ rest = cc in
      subst (λ (j : ℕ). Built all i (s ∷ fs) (Component j a more)) (sym at)
      (built_with all i s fs a more lt (subst (λ (j : ℕ). Read all j s a) at (first s (rw at here))) (next more tails reads))

  built : (all : List (Slot P)) (i : ℕ) (fs : List (Slot P)) (cs : Components) → i + length fs ≡ length all → ((k : ℕ) (s : Slot P) → slice_get fs k ≡ Some s → slice_get all (i + k) ≡ Some s)
      → ArePresent i (map (part message.forms name) fs) (component_numbers cs) → AllRead all cs → Built all i fs cs
  built all i [] cs long tail present read = built_none all i cs present
  built all i (s ∷ fs) cs long tail (inl (rest, e, present)) read =
      component_step all i s fs rest rest cs (let at = tail 0 s refl in let z : i + 0 ≡ i = omega arith in subst (λ (m : ℕ). slice_get all m ≡ Some s) z at) (omega (arith, long)) e read
      (λ more tails reads. built all (suc i) fs more (omega (arith, long)) (shifted all i s fs tail) (subst (ArePresent (suc i) (map (part message.forms name) fs)) (sym tails) present) reads)
    where
      shifted : (all : List (Slot P)) (i : ℕ) (s : Slot P) (fs : List (Slot P)) → ((k : ℕ) (t : Slot P) → slice_get (s ∷ fs) k ≡ Some t → slice_get all (i + k) ≡ Some t) → (k : ℕ) (t : Slot P) → slice_get fs k ≡ Some t → slice_get all (suc i + k) ≡ Some t
      shifted all i s fs tail k t e = (let z : i + suc k ≡ suc i + k = omega arith in subst (λ (m : ℕ). slice_get all m ≡ Some t) z (tail (suc k) t e))
  built all i (s ∷ fs) cs long tail (inr (may, present)) read =
      let o = none_optional message.forms name s may in
      built_without all i s fs cs o.0 o.1 (built all (suc i) fs cs (omega (arith, long)) (shifted all i s fs tail) present read)
    where
      shifted : (all : List (Slot P)) (i : ℕ) (s : Slot P) (fs : List (Slot P)) → ((k : ℕ) (t : Slot P) → slice_get (s ∷ fs) k ≡ Some t → slice_get all (i + k) ≡ Some t) → (k : ℕ) (t : Slot P) → slice_get fs k ≡ Some t → slice_get all (suc i + k) ≡ Some t
      shifted all i s fs tail k t e = (let z : i + suc k ≡ suc i + k = omega arith in subst (λ (m : ℕ). slice_get all m ≡ Some t) z (tail (suc k) t e))

  -- ---- one component

  -- a value that the form admits, which is this value of the module
  abbrev Comes : Form P Simple → AsnValue → Type 0
  Comes f a = (v : Value) × AdmitsAs message.forms f v × (asn_value message f v ≡ a)

  -- children of slot k that are these items
  abbrev ItemsRead : List (Slot P) → ℕ → Slot P → Items → Type 0
  ItemsRead fs k s is = (ks : Children) × (numbers_of ks ≡ replicate (count_of is) k) × AdmitsChildren message.forms fs ks × (items_at message k s ks ≡ is)

  no_items_read : (fs : List (Slot P)) (k : ℕ) (s : Slot P) → ItemsRead fs k s NoItem
  no_items_read fs k s = (value.Nothing, refl, tt, refl)

  itself : (k : ℕ) → eqb k k ≡ true
  itself k = go (eqb_tells k k)
    where
      go : ((eqb k k ≡ true) × (k ≡ k)) ⊎ ((eqb k k ≡ false) × (k ≢ k)) → eqb k k ≡ true
      go (inl q) = q.0
      go (inr q) = absurd (q.1 refl)

  item_read : (fs : List (Slot P)) (k : ℕ) (s : Slot P) (a : AsnValue) (is : Items) → slice_get fs k ≡ Some s → Comes (message.forms s.target) a → ItemsRead fs k s is → ItemsRead fs k s (Item a is)
  item_read fs k s a is e (v, admits, same) (ks, alike, each, there) = (
    value.Child k v ks,
    ap (λ d. k ∷ d) alike,
    ((s, e, admits), each),
    rw (itself k) (ap₂ Item same there),
  )

  read_single : (fs : List (Slot P)) (k : ℕ) (s : Slot P) (a : AsnValue) → slice_get fs k ≡ Some s → is_single s ≡ true → s.min ≤ 1 → Comes (message.forms s.target) a → Read fs k s a
  read_single fs k s a e h low come = go (item_read fs k s a NoItem e come (no_items_read fs k s))
    where
      go : ItemsRead fs k s (Item a NoItem) → Read fs k s a
      go (ks, alike, each, there) = (
        ks,
        1,
        record {
          alike = alike;
          admits = each;
          within = (low, one_within s 1 h (omega arith));
          there = λ after. ap₂ (λ y z. with_values y k z after) h there;
          value = ap₂ (λ y z. chosen_value y z) h there;
        },
      )

  read_list : (fs : List (Slot P)) (k : ℕ) (s : Slot P) (is : Items) → is_single s ≡ false → HasCount s.min s.max (count_of is) → ItemsRead fs k s is → Read fs k s (Listed is)
  read_list fs k s is h count (ks, alike, each, there) = (
    ks,
    count_of is,
    record {
      alike = alike;
      admits = each;
      within = within_bounds s.min s.max (count_of is) count;
      there = λ after. ap₂ (λ y z. with_values y k z after) h there;
      value = ap₂ (λ y z. chosen_value y z) h there;
    },
  )

  -- what a value in the place of a list is
  abbrev ListRead : AsnValue → Type 0
  ListRead a = (fs : List (Slot P)) (k : ℕ) (s : Slot P) → slice_get fs k ≡ Some s → is_single s ≡ false → AsnHas message.fragment M (Many s.min s.max (sh s)) a → Read fs k s a

  part_read : (fs : List (Slot P)) (k : ℕ) (s : Slot P) (a : AsnValue) → UpTo s.min s.max → slice_get fs k ≡ Some s → AsnHas message.fragment M (part message.forms name s).due a → (AsnHas message.fragment M (One (sh s)) a → Comes (message.forms s.target) a) → ListRead a → Read fs k s a
  part_read fs k s a low e has one many = go (is_single s) refl
    where
      go : (b : Bool) → is_single s ≡ b → Read fs k s a
      go true h = read_single fs k s a e h (at_most_one s.min s.max h low) (one (subst (λ d. AsnHas message.fragment M d a) (due_single message.forms name s h) has))
      go false h = many fs k s e h (subst (λ d. AsnHas message.fragment M d a) (due_list message.forms name s h) has)

  -- ---- forms

  sequence_read : (fs : List (Slot P)) (cs : Components) → ArePresent 0 (map (part message.forms name) fs) (component_numbers cs) → AllRead fs cs → Comes (form.Sequence fs) (Sequence cs)
  sequence_read fs cs present read = go (built fs 0 fs cs (zero-add _) (λ k s e. let z : k ≡ 0 + k = omega arith in subst (λ (m : ℕ). slice_get fs m ≡ Some s) z e) present read)
    where
      go : Built fs 0 fs cs → Comes (form.Sequence fs) (Sequence cs)
      go (ks, b) = (value.Component ks, (record { ordered = b.ordered; within = λ k s e. let z : 0 + k ≡ k = omega arith in subst (λ (m : ℕ). MayComeTimes (times m (numbers_of ks)) s) z (b.within k s e) }, b.admits), ap Sequence b.same)

  choice_read : (fs : List (Slot P)) (k : ℕ) (s : Slot P) (a : AsnValue) → slice_get fs k ≡ Some s → 0 < s.min → Read fs k s a → Comes (form.Choice fs) (Chosen k a)
  choice_read fs k s a e some (ks, n, r) = (value.Component ks, ((k, n, s, e, r.within, r.alike), r.admits), chosen n r.alike (let low = r.within.0 in omega arith))
    where
      chosen : (n : ℕ) → numbers_of ks ≡ replicate n k → 0 < n → asn_value message (form.Choice fs) (value.Component ks) ≡ Chosen k a
      chosen zero alike more = absurd (omega (arith, more))
      chosen (suc n) alike more =
          ap (λ d. in_form (form.Choice fs) d (λ k s. items_at message k s ks)) alike
          ∙ (ap (λ o. chosen_by k o (λ k s. items_at message k s ks)) e ∙ ap (Chosen k) r.value)

  real_back : (s : Simple) (a : AsnValue) → s.kind ≡ kind.Decimal → AsnHas message.fragment M (One (Some (shape.Plain kind.Decimal (step_of s) None))) a → (n : DecimalNumber) × Fits s (Number n) × (a ≡ asn.Primitive (Number n))
  real_back s (asn.Primitive (Number n)) e h = (n, number_back s (Number n) e (subst (λ x. IsRealValue x (Number n)) (ap (λ (k : Kind). step_by k s) e) h), refl)
  real_back s (asn.Primitive l) e h = absurd h
  real_back s (Sequence cs) e h = absurd h.0
  real_back s (Chosen k a) e h = absurd h.0
  real_back s (Listed is) e h = absurd h.0
  real_back s (Enumerated n) e h = absurd h

  -- the code of an amount
  CodeBack : P → AsnValue → Type 0
  CodeBack c a = (l : Leaf) × FitsCode (message.forms c) l × (leaf_value (message.forms c) l ≡ a)

  code_read : (c : P) → May c → (x : Simple) (a : AsnValue) → message.forms c ≡ form.Simple x → IsSoundSimpleType x → AsnHas message.fragment M (One (find_asn_type (name c) M.types)) a → CodeBack c a
  unfolding CodeBack
  code_read c may x a is sound h =
      let b = leaf_back message.fragment M x a sound (subst (λ (f : Form P Simple). AsnHas message.fragment M (One (shape_of name f)) a) is (subst (λ o. AsnHas message.fragment M (One o) a) (typed c may) h)) in
      subst (λ (f : Form P Simple). (l : Leaf) × FitsCode f l × (leaf_value f l ≡ a)) (sym is) b

  no_components : (cs : Components) → component_numbers cs ≡ [] → cs ≡ NoComponent
  no_components NoComponent e = refl
  no_components (Component k a rest) e = absurd cc

  amount_made : (c : P) (s : Simple) (a b : AsnValue) → IsSoundType May message.forms (form.Money c s) → (p : AsnPart) → slice_get (amount_parts M (name c) (step_of s)) 0 ≡ Some p → AsnHas message.fragment M p.due a
      → (q : AsnPart) → slice_get (amount_parts M (name c) (step_of s)) 1 ≡ Some q → AsnHas message.fragment M q.due b → Comes (form.Money c s) (Sequence (Component 0 a (Component 1 b NoComponent)))
  unfolding CodeBack
  amount_made c s a b (may, decimal, x, is, sound) p at first q there second =
      go (code_read c may x a is sound (subst (λ d. AsnHas message.fragment M d a) (sym (ap due_of at)) first)) (real_back s b decimal (subst (λ d. AsnHas message.fragment M d b) (sym (ap due_of there)) second))
    where
      due_of : Option AsnPart → Due
      due_of None = One None
      due_of (Some p) = p.due

      go : CodeBack c a → (n : DecimalNumber) × Fits s (Number n) × (b ≡ asn.Primitive (Number n)) → Comes (form.Money c s) (Sequence (Component 0 a (Component 1 b NoComponent)))
      go (l, code, same) (n, number, e) = (value.Amount l n, (code, number), ap₂ (λ y z. Sequence (Component 0 y (Component 1 z NoComponent))) same (sym e))

  amount_read : (c : P) (s : Simple) (cs : Components) → IsSoundType May message.forms (form.Money c s) → ArePresent 0 (amount_parts M (name c) (step_of s)) (component_numbers cs) → HasComponents message.fragment M (amount_parts M (name c) (step_of s)) cs
      → Comes (form.Money c s) (Sequence cs)
  unfolding CodeBack
  amount_read c s cs ok (inr (no_option, more)) has = absurd cc
  amount_read c s cs ok (inl (rest, e, inr (no_option, more))) has = absurd cc
  amount_read c s NoComponent ok (inl (rest, e, inl (last, f, end))) has = absurd cc
  amount_read c s (Component i a NoComponent) ok (inl (rest, e, inl (last, f, end))) has = absurd (let x : [] ≡ 1 ∷ last = (let t : [] ≡ rest = cc in t ∙ f) in cc)
  amount_read c s (Component i a (Component j b more)) (may, decimal, x, is, sound) (inl (rest, e, inl (last, f, end))) ((p, at, first), ((q, there, second), others)) =
      let zero_is : i ≡ 0 = cc in
      let rests : j ∷ component_numbers more ≡ rest = cc in
      let one_is : j ≡ 1 = (let w : j ∷ component_numbers more ≡ 1 ∷ last = rests ∙ f in cc) in
      let ended : component_numbers more ≡ [] = (let w : j ∷ component_numbers more ≡ 1 ∷ last = rests ∙ f in let tails : component_numbers more ≡ last = cc in tails ∙ end) in
      let all : more ≡ NoComponent = no_components more ended in
      subst (λ r. Comes (form.Money c s) (Sequence (Component i a (Component j b r)))) (sym all)
      (subst (λ (m : ℕ). Comes (form.Money c s) (Sequence (Component i a (Component m b NoComponent)))) (sym one_is)
      (subst (λ (m : ℕ). Comes (form.Money c s) (Sequence (Component m a (Component 1 b NoComponent)))) (sym zero_is)
      (amount_made c s a b (may, decimal, x, is, sound) p (rw zero_is at at) first q (rw one_is at there) second)))

  envelope_read : (l : Leaf) → asn.IsFragmentLeaf message.fragment l → Comes form.Envelope (asn.Primitive l)
  envelope_read (Bytes b) (t, plain, e) = (value.External t, plain, ap (λ x. asn.Primitive (Bytes x)) (sym e))
  envelope_read l h = absurd h

  simple_read : (s : Simple) (a : AsnValue) → IsSoundSimpleType s → AsnHas message.fragment M (One (Some (simple_shape s))) a → Comes (form.Simple s) a
  simple_read s a sound h = (let b = leaf_back message.fragment M s a sound h in (value.Simple b.0, b.1, b.2))

  module _ (sound : (p : P) → IsSoundType May message.forms (message.forms p)) where
    mutual
      -- a value of the type is that of a value that the form admits
      pub comes : (f : Form P Simple) → IsSoundType May message.forms f → (a : AsnValue) → AsnHas message.fragment M (One (shape_of name f)) a → Comes f a
      comes (form.Sequence fs) ok (Sequence cs) (is, present, has) =
          let ps = parts_are May message.forms name M typed fs (λ k s e. (ok k s e).0) in
          sequence_read fs cs (subst (λ x. ArePresent 0 x (component_numbers cs)) ps present) (components_read fs (λ k s e. (ok k s e).1) cs (subst (λ x. HasComponents message.fragment M x cs) ps has))
      comes (form.Choice fs) ok (Chosen k a) (is, p, at, has) =
          let ps = parts_are May message.forms name M typed fs (λ k s e. (ok k s e).0) in
          let s = slot_of_part message.forms name fs k p (sym (ap (λ x. slice_get x k) ps) ∙ at) in
          choice_read fs k s.0 a s.1 (ok k s.0 s.1).2 (part_read fs k s.0 a (ok k s.0 s.1).1 s.1 (subst (λ q. AsnHas message.fragment M q.due a) s.2 has) (λ h. comes (message.forms s.0.target) (sound s.0.target) a h) (list_read a))
      comes (form.Simple s) ok a h = simple_read s a ok h
      comes (form.Money c s) ok (Sequence cs) (is, present, has) = amount_read c s cs ok present has
      comes form.Envelope ok (asn.Primitive l) h = envelope_read l h
      comes (form.Sequence fs) ok (Chosen k a) h = absurd h.0
      comes (form.Sequence fs) ok (Listed is) h = absurd h.0
      comes (form.Sequence fs) ok (Enumerated n) h = absurd h
      comes (form.Sequence fs) ok (asn.Primitive l) h = absurd h
      comes (form.Choice fs) ok (Sequence cs) h = absurd h.0
      comes (form.Choice fs) ok (Listed is) h = absurd h.0
      comes (form.Choice fs) ok (Enumerated n) h = absurd h
      comes (form.Choice fs) ok (asn.Primitive l) h = absurd h
      comes (form.Money c s) ok (Chosen k a) h = absurd h.0
      comes (form.Money c s) ok (Listed is) h = absurd h.0
      comes (form.Money c s) ok (Enumerated n) h = absurd h
      comes (form.Money c s) ok (asn.Primitive l) h = absurd h
      comes form.Envelope ok (Sequence cs) h = absurd h.0
      comes form.Envelope ok (Chosen k a) h = absurd h.0
      comes form.Envelope ok (Listed is) h = absurd h.0
      comes form.Envelope ok (Enumerated n) h = absurd h
      comes form.LeftOut ok (Sequence cs) h = absurd h.0
      comes form.LeftOut ok (Chosen k a) h = absurd h.0
      comes form.LeftOut ok (Listed is) h = absurd h.0
      comes form.LeftOut ok (Enumerated n) h = absurd h
      comes form.LeftOut ok (asn.Primitive l) h = absurd h
      comes form.Missing ok (Sequence cs) h = absurd h.0
      comes form.Missing ok (Chosen k a) h = absurd h.0
      comes form.Missing ok (Listed is) h = absurd h.0
      comes form.Missing ok (Enumerated n) h = absurd h
      comes form.Missing ok (asn.Primitive l) h = absurd h

      components_read : (fs : List (Slot P)) → ((k : ℕ) (s : Slot P) → slice_get fs k ≡ Some s → UpTo s.min s.max) → (cs : Components) → HasComponents message.fragment M (map (part message.forms name) fs) cs → AllRead fs cs
      components_read fs ok NoComponent has = tt
      components_read fs ok (Component k a rest) ((p, at, has), more) = (
        λ s e. part_read fs k s a (ok k s e) e (subst (λ q. AsnHas message.fragment M q.due a) (slot_same message.forms name fs k s p e at) has) (λ h. comes (message.forms s.target) (sound s.target) a h) (list_read a),
        components_read fs ok rest more,
      )

      list_read : (a : AsnValue) → ListRead a
      list_read (Listed is) fs k s e h (count, has) = read_list fs k s is h count (items_read is fs k s e has)
      list_read (Sequence cs) fs k s e h has = absurd has.0
      list_read (Chosen j a) fs k s e h has = absurd has.0
      list_read (Enumerated n) fs k s e h has = absurd has
      list_read (asn.Primitive l) fs k s e h has = absurd has

      items_read : (is : Items) (fs : List (Slot P)) (k : ℕ) (s : Slot P) → slice_get fs k ≡ Some s → HasItems message.fragment M (sh s) is → ItemsRead fs k s is
      items_read NoItem fs k s e has = no_items_read fs k s
      items_read (Item a rest) fs k s e (has, more) = item_read fs k s a rest e (comes (message.forms s.target) (sound s.target) a has) (items_read rest fs k s e more)
