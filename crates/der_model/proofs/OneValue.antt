-- Octets are the DER of at most one instance.
use Rattle.std.proofs.Common.{◌≡◌, ◌≢◌, ℕ, zero, suc, ◌+◌, ◌≤◌, ◌<◌, Bool, true, false, List, [], ◌∷◌, length, replicate, Some, refl, sym, ap, ◌∙◌, subst, arith, eqb, ◌⊎◌, inl, inr}
use Rattle.std.specs.Prelude.{◌==◌, if◌then◌else◌, slice_get}
use Rattle.std.proofs.lemmas.Bool.Decides.{nat_tests, eqb_tells}
use Rattle.std.proofs.lemmas.Bool.{cond-true, cond-false}
use Rattle.lexical_core.specs.Decimals.{Number as DecimalNumber}
use Rattle.data_types.specs.Leaf.{Leaf}
use Rattle.data_types.specs.Leaf as leaf
use Rattle.data_types.specs.Value.{Value, Children, IsOrdered, AreOrderedFrom}
use Rattle.data_types.specs.Value as value
use Rattle.data_types.proofs.ValueLemmas.{children_same}
use Rattle.facets.specs.declared.simple.Simple.{Simple}
use Rattle.der_octets.specs.Octets.{Tag, context, Values, Nothing, Primitive, Constructed, then_values}
use Rattle.reference_check.specs.Forms.{Graph, Form, Slot}
use Rattle.reference_check.specs.Forms as form
use Rattle.reference_check.specs.Words.{times, UpTo, IsOrderedFrom, IsSequence}
use Rattle.reference_check.proofs.Words.{times-replicate}
use Rattle.message_model.specs.Admits.{numbers_of}
use Rattle.message_model.specs.Admits.{AdmitsAs, AdmitsChildren, FitsCode}
use Rattle.message_model.specs.Sound.{IsNoOption}
use Rattle.der_model.specs.LeafContents.{leaf_contents}
use Rattle.der_model.specs.DerMessage.{DerMessage}
use Rattle.der_model.specs.Structures.{Component, components, is_single}
use Rattle.der_model.specs.Der.{Body, Octets, Inner, under, inner_of, item, placed_value, slot_values, all_slots, alternative, body, values_at}
use Rattle.der_model.specs.Sound.{FragmentsApart}
use Rattle.der_model.proofs.SoundMessages.{HaveNoOptions}
use Rattle.der_model.proofs.ContentsLaws.{contents_same}
use Rattle.der_model.proofs.Spelled.{FitsAs, IsOneOf, value_fits, then_under, at_most_one, chosen_is, none_is_no_value, IsSingle, children_single}

-- an admitted value has its children in order
mutual
  pub ordered_value : {P : Type 0} (g : Graph P Simple) (f : Form P Simple) (v : Value) → AdmitsAs g f v → IsOrdered v
  ordered_value g (form.Sequence fs) (value.Component ks) (word, a) = ordered_children g fs 0 (length fs) ks word.ordered a
  ordered_value g (form.Choice fs) (value.Component ks) ((k, n, s, found, within, is), a) = alike_children g fs 0 k n ks is (omega arith) a
  ordered_value g (form.Simple s) (value.Simple l) a = tt
  ordered_value g (form.Money c s) (value.Amount l n) a = tt
  ordered_value g form.Envelope (value.External t) a = tt
  ordered_value g (form.Sequence fs) v a = absurd a
  ordered_value g (form.Choice fs) v a = absurd a
  ordered_value g (form.Simple s) v a = absurd a
  ordered_value g (form.Money c s) v a = absurd a
  ordered_value g form.Envelope v a = absurd a
  ordered_value g form.LeftOut v a = absurd a
  ordered_value g form.Missing v a = absurd a

  pub ordered_children : {P : Type 0} (g : Graph P Simple) (fs : List (Slot P)) (low top : ℕ) (ks : Children) → IsOrderedFrom low top (numbers_of ks) → AdmitsChildren g fs ks → AreOrderedFrom low ks
  ordered_children g fs low top value.Nothing o a = tt
  ordered_children g fs low top (value.Child j v rest) (l, below, o) ((t, found, a), more) = (l, ordered_value g (g t.target) v a, ordered_children g fs j top rest o more)

  pub alike_children : {P : Type 0} (g : Graph P Simple) (fs : List (Slot P)) (low k n : ℕ) (ks : Children) → numbers_of ks ≡ replicate n k → low ≤ k → AdmitsChildren g fs ks → AreOrderedFrom low ks
  alike_children g fs low k n value.Nothing is l a = tt
  alike_children g fs low k zero (value.Child j v rest) is l a = absurd cc
  alike_children g fs low k (suc n) (value.Child j v rest) is l ((t, found, a), more) =
      let same : j ≡ k = cc in
      let tails : numbers_of rest ≡ replicate n k = cc in
      (omega arith, ordered_value g (g t.target) v a, alike_children g fs j k n rest tails (omega arith) more)

-- the first child in a slot, with the rest, or none
abbrev pub Found : {P : Type 0} → DerMessage P → List (Slot P) → ℕ → Slot P → Children → Type 0
Found m fs k s ks = (w : Value) × (rest : Children) × AdmitsAs m.forms (m.forms s.target) w × AdmitsChildren m.forms fs rest × (value.values_at k ks ≡ w ∷ value.values_at k rest) × (values_at m k s ks ≡ placed_value m.forms k s (body m (m.forms s.target) w) (values_at m k s rest))

found_or_none : {P : Type 0} (m : DerMessage P) (fs : List (Slot P)) (k : ℕ) (s : Slot P) (ks : Children) → slice_get fs k ≡ Some s → AdmitsChildren m.forms fs ks → Found m fs k s ks ⊎ ((value.values_at k ks ≡ []) × (values_at m k s ks ≡ Nothing))
found_or_none m fs k s value.Nothing here a = inr (refl, refl)
found_or_none m fs k s (value.Child j v rest) here ((t, there, a), more) = go (eqb_tells j k) (found_or_none m fs k s rest here more)
  where
    go : ((eqb j k ≡ true) × (j ≡ k)) ⊎ ((eqb j k ≡ false) × (j ≢ k)) → Found m fs k s rest ⊎ ((value.values_at k rest ≡ []) × (values_at m k s rest ≡ Nothing)) → Found m fs k s (value.Child j v rest) ⊎ ((value.values_at k (value.Child j v rest) ≡ []) × (values_at m k s (value.Child j v rest) ≡ Nothing))
    go (inl e) r =
        let found : slice_get fs k ≡ Some t = subst (λ z. slice_get fs z ≡ Some t) e.1 there in
        let same : t ≡ s = cc in
        inl (v, rest, subst (λ z. AdmitsAs m.forms (m.forms z.target) v) same a, more, cond-true (j == k) _ _ e.0, cond-true (j == k) _ _ e.0)
    go (inr e) (inl (w, others, b, c, p, q)) = inl (w, others, b, c, cond-false (j == k) _ _ e.0 ∙ p, cond-false (j == k) _ _ e.0 ∙ q)
    go (inr e) (inr (p, q)) = inr (cond-false (j == k) _ _ e.0 ∙ p, cond-false (j == k) _ _ e.0 ∙ q)

pub under_same : (t u : Tag) (b c : Body) (r q : Values) → under t b r ≡ under u c q → (t ≡ u) × (b ≡ c) × (r ≡ q)
under_same t u (Octets x) (Octets y) r q e = (let o : x ≡ y = cc in (cc, ap Octets o, cc))
under_same t u (Inner x) (Inner y) r q e = (let o : x ≡ y = cc in (cc, ap Inner o, cc))
under_same t u (Octets x) (Inner y) r q e = absurd cc
under_same t u (Inner x) (Octets y) r q e = absurd cc

pub under_some : (t : Tag) (b : Body) (r : Values) → under t b r ≡ Nothing → ⊥
under_some t (Octets x) r e = absurd cc
under_some t (Inner x) r e = absurd cc

one_under : {P : Type 0} (m : DerMessage P) (cs : List (Component P)) (a : Values) → IsOneOf m cs a → (t : Tag) × (b : Body) × (a ≡ under t b Nothing)
one_under m cs a (inl (t, o, k, c, is, begins, held)) = (t, Octets o, is)
one_under m cs a (inr (t, inner, k, c, is, begins, held)) = (t, Inner inner, is)

-- one value before others
then_same : (a c x y : Values) (t u : Tag) (b d : Body) → a ≡ under t b Nothing → c ≡ under u d Nothing → then_values a x ≡ then_values c y → (a ≡ c) × (x ≡ y)
then_same a c x y t u b d p q e =
    let r = under_same t u b d x y (sym (then_under t b x) ∙ (ap (λ z. then_values z x) (sym p) ∙ (e ∙ (ap (λ z. then_values z y) q ∙ then_under u d y)))) in
    (p ∙ (ap (λ z. under z b Nothing) r.0 ∙ (ap (λ z. under u z Nothing) r.1 ∙ sym q)), r.2)

-- an item before others
item_same : {P : Type 0} (m : DerMessage P) (p : P) (f : Form P Simple) (b c : Body) (x y : Values) → FitsAs m p f b → FitsAs m p f c → item f b x ≡ item f c y → (b ≡ c) × (x ≡ y)
item_same m p (form.Choice fs) (Octets o) c x y fb fc e = absurd (none_is_no_value m (components m.forms p 0 fs) fb)
item_same m p (form.Choice fs) (Inner v) (Octets o) x y fb fc e = absurd (none_is_no_value m (components m.forms p 0 fs) fc)
item_same m p (form.Choice fs) (Inner v) (Inner w) x y fb fc e =
    let a = one_under m (components m.forms p 0 fs) v fb in
    let b = one_under m (components m.forms p 0 fs) w fc in
    let r = then_same v w x y a.0 b.0 a.1 b.1 a.2 b.2 e in
    (ap Inner r.0, r.1)
item_same m p (form.Sequence fs) b c x y fb fc e = (let r = under_same _ _ b c x y e in (r.1, r.2))
item_same m p (form.Simple s) b c x y fb fc e = (let r = under_same _ _ b c x y e in (r.1, r.2))
item_same m p (form.Money q s) b c x y fb fc e = (let r = under_same _ _ b c x y e in (r.1, r.2))
item_same m p form.Envelope b c x y fb fc e = (let r = under_same _ _ b c x y e in (r.1, r.2))
item_same m p form.LeftOut b c x y fb fc e = (let r = under_same _ _ b c x y e in (r.1, r.2))
item_same m p form.Missing b c x y fb fc e = (let r = under_same _ _ b c x y e in (r.1, r.2))

item_some : {P : Type 0} (m : DerMessage P) (p : P) (f : Form P Simple) (b : Body) (x : Values) → FitsAs m p f b → item f b x ≡ Nothing → ⊥
item_some m p (form.Choice fs) b x fb e =
    let a = one_under m (components m.forms p 0 fs) (inner_of b) fb in
    under_some a.0 a.1 x (sym (then_under a.0 a.1 x) ∙ (ap (λ z. then_values z x) (sym a.2) ∙ e))
item_some m p (form.Sequence fs) b x fb e = under_some _ b x e
item_some m p (form.Simple s) b x fb e = under_some _ b x e
item_some m p (form.Money q s) b x fb e = under_some _ b x e
item_some m p form.Envelope b x fb e = under_some _ b x e
item_some m p form.LeftOut b x fb e = under_some _ b x e
item_some m p form.Missing b x fb e = under_some _ b x e

placed_same : {P : Type 0} (m : DerMessage P) (k : ℕ) (s : Slot P) (b c : Body) (x y : Values) → FitsAs m s.target (m.forms s.target) b → FitsAs m s.target (m.forms s.target) c → placed_value m.forms k s b x ≡ placed_value m.forms k s c y → (b ≡ c) × (x ≡ y)
placed_same m k s b c x y fb fc e = go (is_single s) refl
  where
    go : (z : Bool) → is_single s ≡ z → (b ≡ c) × (x ≡ y)
    go true h = (let r = under_same (context k) (context k) b c x y (sym (cond-true (is_single s) _ _ h) ∙ (e ∙ cond-true (is_single s) _ _ h)) in (r.1, r.2))
    go false h = item_same m s.target (m.forms s.target) b c x y fb fc (sym (cond-false (is_single s) _ _ h) ∙ (e ∙ cond-false (is_single s) _ _ h))

placed_some : {P : Type 0} (m : DerMessage P) (k : ℕ) (s : Slot P) (b : Body) (x : Values) → FitsAs m s.target (m.forms s.target) b → placed_value m.forms k s b x ≡ Nothing → ⊥
placed_some m k s b x fb e = go (is_single s) refl
  where
    go : (z : Bool) → is_single s ≡ z → ⊥
    go true h = under_some (context k) b x (sym (cond-true (is_single s) _ _ h) ∙ e)
    go false h = item_some m s.target (m.forms s.target) b x fb (sym (cond-false (is_single s) _ _ h) ∙ e)

-- what a slot that comes at most once has
abbrev pub OneAt : ℕ → Values → Type 0
OneAt i vs = (vs ≡ Nothing) ⊎ ((b : Body) × (vs ≡ under (context i) b Nothing))

-- nothing, or a value under a tag from there on
abbrev pub After : ℕ → Values → Type 0
After i vs = (vs ≡ Nothing) ⊎ ((j : ℕ) × (b : Body) × (rest : Values) × (i ≤ j) × (vs ≡ under (context j) b rest))

weaker : (i : ℕ) (vs : Values) → After (suc i) vs → After i vs
weaker i vs (inl e) = inl e
weaker i vs (inr (j, b, rest, l, e)) = inr (j, b, rest, omega arith, e)

abbrev AreOneAt : {P : Type 0} → ℕ → List (Slot P) → (ℕ → Slot P → Values) → Type 0
AreOneAt {P} i fs at = (j k : ℕ) (s : Slot P) → k ≡ i + j → slice_get fs j ≡ Some s → is_single s ≡ true → OneAt k (at k s)

slots_after : {P : Type 0} (i : ℕ) (fs : List (Slot P)) (at : ℕ → Slot P → Values) → AreOneAt i fs at → After i (all_slots i fs at)
slots_after i [] at one = inl refl
slots_after {P} i (s ∷ fs) at one = go (is_single s) refl (slots_after (suc i) fs at (λ j k t e f h. one (suc j) k t (omega (arith, e)) f h))
  where
    go : (z : Bool) → is_single s ≡ z → After (suc i) (all_slots (suc i) fs at) → After i (slot_values i s (at i s) (all_slots (suc i) fs at))
    go false h r = inr (i, Inner (at i s), all_slots (suc i) fs at, omega arith, cond-false (is_single s) _ _ h)
    go true h r = by (one 0 i s (omega arith) refl h)
      where
        by : OneAt i (at i s) → After i (slot_values i s (at i s) (all_slots (suc i) fs at))
        by (inl e) = subst (After i) (sym (cond-true (is_single s) _ _ h ∙ ap (λ z. then_values z (all_slots (suc i) fs at)) e)) (weaker i _ r)
        by (inr (b, e)) = inr (i, b, all_slots (suc i) fs at, omega arith, cond-true (is_single s) _ _ h ∙ (ap (λ z. then_values z (all_slots (suc i) fs at)) e ∙ then_under (context i) b (all_slots (suc i) fs at)))

not_after : (i : ℕ) (b : Body) (x y : Values) → After (suc i) y → under (context i) b x ≡ y → ⊥
not_after i b x y (inl n) e = under_some (context i) b x (e ∙ n)
not_after i b x y (inr (j, c, rest, l, n)) e = (let r = under_same (context i) (context j) b c x rest (e ∙ n) in let same = ap (λ (t : Tag). t.number) r.0 in absurd (omega arith))

one_split : (i : ℕ) (v w x y : Values) → OneAt i v → OneAt i w → After (suc i) x → After (suc i) y → then_values v x ≡ then_values w y → (v ≡ w) × (x ≡ y)
one_split i v w x y (inl p) (inl q) ax ay e = (p ∙ sym q, ap (λ z. then_values z x) (sym p) ∙ (e ∙ ap (λ z. then_values z y) q))
one_split i v w x y (inl p) (inr (b, q)) ax ay e = absurd (not_after i b y x ax (sym (then_under (context i) b y) ∙ (ap (λ z. then_values z y) (sym q) ∙ (sym e ∙ ap (λ z. then_values z x) p))))
one_split i v w x y (inr (b, p)) (inl q) ax ay e = absurd (not_after i b x y ay (sym (then_under (context i) b x) ∙ (ap (λ z. then_values z x) (sym p) ∙ (e ∙ ap (λ z. then_values z y) q))))
one_split i v w x y (inr (b, p)) (inr (c, q)) ax ay e = then_same v w x y (context i) (context i) b c p q e

slot_split : {P : Type 0} (i : ℕ) (s : Slot P) (v w x y : Values) → (is_single s ≡ true → OneAt i v) → (is_single s ≡ true → OneAt i w) → After (suc i) x → After (suc i) y → slot_values i s v x ≡ slot_values i s w y → (v ≡ w) × (x ≡ y)
slot_split i s v w x y ov ow ax ay e = go (is_single s) refl
  where
    lists : (v w x y : Values) → Constructed (context i) v x ≡ Constructed (context i) w y → (v ≡ w) × (x ≡ y)
    lists v w x y e = (cc, cc)

    go : (z : Bool) → is_single s ≡ z → (v ≡ w) × (x ≡ y)
    go true h = one_split i v w x y (ov h) (ow h) ax ay (sym (cond-true (is_single s) _ _ h) ∙ (e ∙ cond-true (is_single s) _ _ h))
    go false h = lists v w x y (sym (cond-false (is_single s) _ _ h) ∙ (e ∙ cond-false (is_single s) _ _ h))

slots_split : {P : Type 0} (i : ℕ) (fs : List (Slot P)) (V W : ℕ → Slot P → Values) → AreOneAt i fs V → AreOneAt i fs W → all_slots i fs V ≡ all_slots i fs W → (j k : ℕ) (s : Slot P) → k ≡ i + j → slice_get fs j ≡ Some s → V k s ≡ W k s
slots_split i [] V W ov ow e j k s at found = absurd cc
slots_split i (f ∷ fs) V W ov ow e j k s at found =
    go j at found (slot_split i f (V i f) (W i f) (all_slots (suc i) fs V) (all_slots (suc i) fs W) (ov 0 i f (omega arith) refl) (ow 0 i f (omega arith) refl)
    (slots_after (suc i) fs V (λ j k t e f h. ov (suc j) k t (omega (arith, e)) f h)) (slots_after (suc i) fs W (λ j k t e f h. ow (suc j) k t (omega (arith, e)) f h)) e)
    (λ more j at found. slots_split (suc i) fs V W (λ j k t e f h. ov (suc j) k t (omega (arith, e)) f h) (λ j k t e f h. ow (suc j) k t (omega (arith, e)) f h) more j k s at found)
  where
    go : (j : ℕ) → k ≡ i + j → slice_get (f ∷ fs) j ≡ Some s → (V i f ≡ W i f) × (all_slots (suc i) fs V ≡ all_slots (suc i) fs W)
        → (all_slots (suc i) fs V ≡ all_slots (suc i) fs W → (j : ℕ) → k ≡ suc i + j → slice_get fs j ≡ Some s → V k s ≡ W k s) → V k s ≡ W k s
    go zero at found r again =
        let same : f ≡ s = cc in
        let here : i ≡ k = omega arith in
        subst (λ z. V z s ≡ W z s) here (subst (λ z. V i z ≡ W i z) same r.0)
    go (suc j) at found r again = again r.1 j (omega arith) found

octets_inj : (x y : List ℕ) → Octets x ≡ Octets y → x ≡ y
octets_inj x y e = cc

inner_inj : (x y : Values) → Inner x ≡ Inner y → x ≡ y
inner_inj x y e = cc

amount_inj : (a b c d : List ℕ) → Inner (Primitive (context 0) a (Primitive (context 1) b Nothing)) ≡ Inner (Primitive (context 0) c (Primitive (context 1) d Nothing)) → (a ≡ c) × (b ≡ d)
amount_inj a b c d e = (cc, cc)

number_inj : (m n : DecimalNumber) → leaf.Number m ≡ leaf.Number n → m ≡ n
number_inj m n e = cc

code_same : {P : Type 0} (f : Form P Simple) (a b : Leaf) → FitsCode f a → FitsCode f b → leaf_contents a ≡ leaf_contents b → a ≡ b
code_same (form.Simple s) a b p q e = contents_same s a b p q e
code_same (form.Sequence fs) a b p q e = absurd p
code_same (form.Choice fs) a b p q e = absurd p
code_same (form.Money c s) a b p q e = absurd p
code_same form.Envelope a b p q e = absurd p
code_same form.LeftOut a b p q e = absurd p
code_same form.Missing a b p q e = absurd p

amount_same : (a b : Leaf) (m n : DecimalNumber) → a ≡ b → m ≡ n → value.Amount a m ≡ value.Amount b n
amount_same a b m n p q = cc

-- of a slot that comes at most once
one_at : {P : Type 0} (m : DerMessage P) (k : ℕ) (s : Slot P) (count : ℕ) (vs : Values) → IsSingle m k s count vs → OneAt k vs
one_at m k s count vs (inl h) = inl h.1
one_at m k s count vs (inr (some, b, is, fits)) = inr (b, is)

are_one_at : {P : Type 0} (m : DerMessage P) → HaveNoOptions m → (fs : List (Slot P)) (ks : Children) → IsSequence fs (numbers_of ks) → AdmitsChildren m.forms fs ks → AreOneAt 0 fs (λ k s. values_at m k s ks)
are_one_at m opts fs ks word a j k s at found single =
    let there : slice_get fs k ≡ Some s = subst (λ z. slice_get fs z ≡ Some s) (let q : j ≡ k = omega (arith, at) in q) found in
    one_at m k s (times k (numbers_of ks)) (values_at m k s ks) (children_single m opts fs k s ks there a single (at_most_one (times k (numbers_of ks)) s.max single (word.within k s there).1))

-- the tag of what a slot of a choice is written under
slot_under : {P : Type 0} (m : DerMessage P) (k : ℕ) (s : Slot P) (count : ℕ) (vs : Values) → 0 < count → (is_single s ≡ true → IsSingle m k s count vs) → (b : Body) × (slot_values k s vs Nothing ≡ under (context k) b Nothing)
slot_under {P} m k s count vs some single = go (is_single s) refl
  where
    one : IsSingle m k s count vs → is_single s ≡ true → (b : Body) × (slot_values k s vs Nothing ≡ under (context k) b Nothing)
    one (inl h) e = absurd (omega (arith, h.0))
    one (inr (low, b, is, fits)) e = (b, cond-true (is_single s) _ _ e ∙ (ap (λ z. then_values z Nothing) is ∙ then_under (context k) b Nothing))

    go : (z : Bool) → is_single s ≡ z → (b : Body) × (slot_values k s vs Nothing ≡ under (context k) b Nothing)
    go true e = one (single e) e
    go false e = (Inner vs, cond-false (is_single s) _ _ e)

-- in a slot that is no slot of the form there is nothing
none_past : (k n j : ℕ) (ks : Children) → numbers_of ks ≡ replicate n k → j ≢ k → value.values_at j ks ≡ []
none_past k n j value.Nothing is other = refl
none_past k zero j (value.Child i v rest) is other = absurd cc
none_past k (suc n) j (value.Child i v rest) is other =
    let head : i ≡ k = cc in
    let tails : numbers_of rest ≡ replicate n k = cc in
    skip i j v (value.values_at j rest) (λ e. other (sym e ∙ head)) (none_past k n j rest tails other)
  where
    skip : (i j : ℕ) (v : Value) (r : List Value) → i ≢ j → r ≡ [] → (if i == j then v ∷ r else r) ≡ []
    skip i j v r h e = grind (arith, nat_tests)

none_above : (low top j : ℕ) (ks : Children) → IsOrderedFrom low top (numbers_of ks) → top ≤ j → value.values_at j ks ≡ []
none_above low top j value.Nothing o l = refl
none_above low top j (value.Child i v rest) (a, b, o) l = skip i j v (value.values_at j rest) (omega arith) (none_above i top j rest o l)
  where
    skip : (i j : ℕ) (v : Value) (r : List Value) → i < j → r ≡ [] → (if i == j then v ∷ r else r) ≡ []
    skip i j v r h e = grind (arith, nat_tests)

slot_there : {A : Type 0} (fs : List A) (k : ℕ) → ((s : A) × (slice_get fs k ≡ Some s)) ⊎ (length fs ≤ k)
slot_there [] k = inr (omega arith)
slot_there (f ∷ fs) zero = inl (f, refl)
slot_there {A} (f ∷ fs) (suc k) = by (slot_there fs k)
  where
    by : ((s : A) × (slice_get fs k ≡ Some s)) ⊎ (length fs ≤ k) → ((s : A) × (slice_get (f ∷ fs) (suc k) ≡ Some s)) ⊎ (length (f ∷ fs) ≤ suc k)
    by (inl h) = inl h
    by (inr h) = inr (omega arith)

each_slot : {P : Type 0} (fs : List (Slot P)) (k : ℕ) (ks ls : Children) → IsOrderedFrom 0 (length fs) (numbers_of ks) → IsOrderedFrom 0 (length fs) (numbers_of ls)
    → ((s : Slot P) → slice_get fs k ≡ Some s → value.values_at k ks ≡ value.values_at k ls) → value.values_at k ks ≡ value.values_at k ls
each_slot {P} fs k ks ls o p same = by (slot_there fs k)
  where
    by : ((s : Slot P) × (slice_get fs k ≡ Some s)) ⊎ (length fs ≤ k) → value.values_at k ks ≡ value.values_at k ls
    by (inl h) = same h.0 h.1
    by (inr h) = none_above 0 (length fs) k ks o h ∙ sym (none_above 0 (length fs) k ls p h)

-- two words of a choice that are written alike
choice_same : {P : Type 0} (m : DerMessage P) → HaveNoOptions m → (p : P) (fs : List (Slot P)) (ks ls : Children) → m.forms p ≡ form.Choice fs → AdmitsAs m.forms (form.Choice fs) (value.Component ks) → AdmitsAs m.forms (form.Choice fs) (value.Component ls)
    → alternative fs (numbers_of ks) (λ k s. values_at m k s ks) ≡ alternative fs (numbers_of ls) (λ k s. values_at m k s ls)
    → ((k : ℕ) (s : Slot P) → slice_get fs k ≡ Some s → values_at m k s ks ≡ values_at m k s ls → value.values_at k ks ≡ value.values_at k ls) → value.Component ks ≡ value.Component ls
choice_same m opts p fs ks ls at ((k, zero, s, found, within, is), a) q e kids = absurd (let some : 0 < s.min = subst IsNoOption at (opts p) k s found in omega (arith, within.0))
choice_same m opts p fs ks ls at ((k, suc n, s, found, within, is), a) ((j, zero, t, found2, within2, is2), b) e kids = absurd (let some : 0 < t.min = subst IsNoOption at (opts p) j t found2 in omega (arith, within2.0))
choice_same {P} m opts p fs ks ls at ((k, suc n, s, found, within, is), a) ((j, suc n2, t, found2, within2, is2), b) e kids =
    let counted : times k (numbers_of ks) ≡ suc n = ap (times k) is ∙ times-replicate k (suc n) in
    let counted2 : times j (numbers_of ls) ≡ suc n2 = ap (times j) is2 ∙ times-replicate j (suc n2) in
    let few1 : is_single s ≡ true → times k (numbers_of ks) ≤ 1 = λ h. at_most_one (times k (numbers_of ks)) s.max h (subst (λ z. UpTo z s.max) (sym counted) within.1) in
    let few2 : is_single t ≡ true → times j (numbers_of ls) ≤ 1 = λ h. at_most_one (times j (numbers_of ls)) t.max h (subst (λ z. UpTo z t.max) (sym counted2) within2.1) in
    let s1 : is_single s ≡ true → IsSingle m k s (times k (numbers_of ks)) (values_at m k s ks) = λ h. children_single m opts fs k s ks found a h (few1 h) in
    let s2 : is_single t ≡ true → IsSingle m j t (times j (numbers_of ls)) (values_at m j t ls) = λ h. children_single m opts fs j t ls found2 b h (few2 h) in
    let u1 = slot_under m k s (times k (numbers_of ks)) (values_at m k s ks) (omega (arith, counted)) s1 in
    let u2 = slot_under m j t (times j (numbers_of ls)) (values_at m j t ls) (omega (arith, counted2)) s2 in
    let written : slot_values k s (values_at m k s ks) Nothing ≡ slot_values j t (values_at m j t ls) Nothing =
    sym (chosen_is fs (numbers_of ks) k n s (λ k s. values_at m k s ks) found is) ∙ (e ∙ chosen_is fs (numbers_of ls) j n2 t (λ k s. values_at m k s ls) found2 is2) in
    let heads = under_same (context k) (context j) u1.0 u2.0 Nothing Nothing (sym u1.1 ∙ (written ∙ u2.1)) in
    let same_k : k ≡ j = ap (λ (t : Tag). t.number) heads.0 in
    let found3 : slice_get fs k ≡ Some t = subst (λ z. slice_get fs z ≡ Some t) (sym same_k) found2 in
    let same_s : t ≡ s = cc in
    let written2 : slot_values k s (values_at m k s ks) Nothing ≡ slot_values k s (values_at m k s ls) Nothing =
    written ∙ subst (λ z. slot_values j t (values_at m j t ls) Nothing ≡ slot_values z s (values_at m z s ls) Nothing) (sym same_k) (ap (λ (z : Slot P). slot_values j z (values_at m j z ls) Nothing) same_s) in
    let o1 : is_single s ≡ true → OneAt k (values_at m k s ks) = λ h. one_at m k s _ _ (s1 h) in
    let o2 : is_single s ≡ true → OneAt k (values_at m k s ls) = λ h. subst (λ z. OneAt z (values_at m z s ls)) (sym same_k) (subst (λ (z : Slot P). OneAt j (values_at m j z ls)) same_s (one_at m j t _ _ (s2 (subst (λ (z : Slot P). is_single z ≡ true) (sym same_s) h)))) in
    let r = slot_split k s (values_at m k s ks) (values_at m k s ls) Nothing Nothing o1 o2 (inl refl) (inl refl) written2 in
    let is3 : numbers_of ls ≡ replicate (suc n2) k = subst (λ z. numbers_of ls ≡ replicate (suc n2) z) (sym same_k) is2 in
    ap value.Component (children_same ks ls (alike_children m.forms fs 0 k (suc n) ks is (omega arith) a) (alike_children m.forms fs 0 k (suc n2) ls is3 (omega arith) b)
    (λ i. by i (eqb_tells i k) (kids k s found r.0) is3))
  where
    by : (i : ℕ) → ((eqb i k ≡ true) × (i ≡ k)) ⊎ ((eqb i k ≡ false) × (i ≢ k)) → value.values_at k ks ≡ value.values_at k ls → numbers_of ls ≡ replicate (suc n2) k → value.values_at i ks ≡ value.values_at i ls
    by i (inl h) same is3 = subst (λ z. value.values_at z ks ≡ value.values_at z ls) (sym h.1) same
    by i (inr h) same is3 = none_past k (suc n) i ks is h.1 ∙ sym (none_past k (suc n2) i ls is3 h.1)

nothing_same : {P : Type 0} (m : DerMessage P) → HaveNoOptions m → (fs : List (Slot P)) (k : ℕ) (s : Slot P) (ls : Children) → Found m fs k s ls ⊎ ((value.values_at k ls ≡ []) × (values_at m k s ls ≡ Nothing)) → Nothing ≡ values_at m k s ls → [] ≡ value.values_at k ls
nothing_same m opts fs k s ls (inr r) e = sym r.0
nothing_same m opts fs k s ls (inl (w, rest, a, more, values, written)) e =
    absurd (placed_some m k s (body m (m.forms s.target) w) (values_at m k s rest) (value_fits m opts s.target (m.forms s.target) w refl a) (sym (e ∙ written)))

kid_same : {P : Type 0} (m : DerMessage P) → HaveNoOptions m → (fs : List (Slot P)) (k : ℕ) (s : Slot P) (j : ℕ) (v : Value) (t : Slot P) (rest ls : Children) → slice_get fs k ≡ Some s → slice_get fs j ≡ Some t → AdmitsAs m.forms (m.forms t.target) v → AdmitsChildren m.forms fs rest → AdmitsChildren m.forms fs ls
    → values_at m k s (value.Child j v rest) ≡ values_at m k s ls → ((eqb j k ≡ true) × (j ≡ k)) ⊎ ((eqb j k ≡ false) × (j ≢ k)) → Found m fs k s ls ⊎ ((value.values_at k ls ≡ []) × (values_at m k s ls ≡ Nothing))
    → (body m (m.forms s.target) v ≡ body m (m.forms s.target) v → (w : Value) → AdmitsAs m.forms (m.forms s.target) v → AdmitsAs m.forms (m.forms s.target) w → body m (m.forms s.target) v ≡ body m (m.forms s.target) w → v ≡ w)
    → ((others : Children) → AdmitsChildren m.forms fs others → values_at m k s rest ≡ values_at m k s others → value.values_at k rest ≡ value.values_at k others)
    → value.values_at k (value.Child j v rest) ≡ value.values_at k ls
kid_same m opts fs k s j v t rest ls found there a more b e (inr h) r first again =
    cond-false (j == k) _ _ h.0 ∙ again ls b (sym (cond-false (j == k) _ _ h.0) ∙ e)
kid_same m opts fs k s j v t rest ls found there a more b e (inl h) (inr r) first again =
    let here : slice_get fs k ≡ Some t = subst (λ z. slice_get fs z ≡ Some t) h.1 there in
    let same : t ≡ s = cc in
    let av = subst (λ z. AdmitsAs m.forms (m.forms z.target) v) same a in
    absurd (placed_some m k s (body m (m.forms s.target) v) (values_at m k s rest) (value_fits m opts s.target (m.forms s.target) v refl av) (sym (cond-true (j == k) _ _ h.0) ∙ (e ∙ r.1)))
kid_same m opts fs k s j v t rest ls found there a more b e (inl h) (inl (w, others, aw, admits, values, written)) first again =
    let here : slice_get fs k ≡ Some t = subst (λ z. slice_get fs z ≡ Some t) h.1 there in
    let same : t ≡ s = cc in
    let av = subst (λ z. AdmitsAs m.forms (m.forms z.target) v) same a in
    let r = placed_same m k s (body m (m.forms s.target) v) (body m (m.forms s.target) w) (values_at m k s rest) (values_at m k s others)
    (value_fits m opts s.target (m.forms s.target) v refl av) (value_fits m opts s.target (m.forms s.target) w refl aw) (sym (cond-true (j == k) _ _ h.0) ∙ (e ∙ written)) in
    let heads : v ≡ w = first refl w av aw r.0 in
    let tails = again others admits r.1 in
    cond-true (j == k) _ _ h.0 ∙ (ap (λ z. z ∷ value.values_at k rest) heads ∙ (ap (λ z. w ∷ z) tails ∙ sym values))

mutual
  -- values that a form admits are the same where their bodies are
  pub body_same : {P : Type 0} → (m : DerMessage P) → ((q : P) → m.forms q ≡ form.Envelope → FragmentsApart m) → HaveNoOptions m → (p : P) (f : Form P Simple) (v w : Value) → m.forms p ≡ f → AdmitsAs m.forms f v → AdmitsAs m.forms f w → body m f v ≡ body m f w → v ≡ w
  body_same m apart opts p (form.Sequence fs) (value.Component ks) (value.Component ls) at (word, a) (word2, b) e =
      let split = slots_split 0 fs (λ k s. values_at m k s ks) (λ k s. values_at m k s ls) (are_one_at m opts fs ks word a) (are_one_at m opts fs ls word2 b) (inner_inj _ _ e) in
      ap value.Component (children_same ks ls (ordered_children m.forms fs 0 (length fs) ks word.ordered a) (ordered_children m.forms fs 0 (length fs) ls word2.ordered b)
      (λ k. each_slot fs k ks ls word.ordered word2.ordered (λ s found. kids_same m apart opts fs k s ks ls found a b (split k k s (omega arith) found))))
  body_same m apart opts p (form.Choice fs) (value.Component ks) (value.Component ls) at a b e = choice_same m opts p fs ks ls at a b (inner_inj _ _ e) (λ k s found. kids_same m apart opts fs k s ks ls found a.1 b.1)
  body_same m apart opts p (form.Simple s) (value.Simple l) (value.Simple n) at a b e = ap value.Simple (contents_same s l n a b (octets_inj _ _ e))
  body_same m apart opts p (form.Money c s) (value.Amount l n) (value.Amount l2 n2) at a b e =
      let r = amount_inj _ _ _ _ e in
      amount_same l l2 n n2 (code_same (m.forms c) l l2 a.0 b.0 r.0) (number_inj n n2 (contents_same s (leaf.Number n) (leaf.Number n2) a.1 b.1 r.1))
  body_same m apart opts p form.Envelope (value.External t) (value.External u) at a b e = ap value.External (apart p at t u a b (octets_inj _ _ e))
  body_same m apart opts p (form.Sequence fs) (value.Component ks) w at a b e = absurd b
  body_same m apart opts p (form.Choice fs) (value.Component ks) w at a b e = absurd b
  body_same m apart opts p (form.Simple s) (value.Simple l) w at a b e = absurd b
  body_same m apart opts p (form.Money c s) (value.Amount l n) w at a b e = absurd b
  body_same m apart opts p form.Envelope (value.External t) w at a b e = absurd b
  body_same m apart opts p (form.Sequence fs) v w at a b e = absurd a
  body_same m apart opts p (form.Choice fs) v w at a b e = absurd a
  body_same m apart opts p (form.Simple s) v w at a b e = absurd a
  body_same m apart opts p (form.Money c s) v w at a b e = absurd a
  body_same m apart opts p form.Envelope v w at a b e = absurd a
  body_same m apart opts p form.LeftOut v w at a b e = absurd a
  body_same m apart opts p form.Missing v w at a b e = absurd a

  pub kids_same : {P : Type 0} → (m : DerMessage P) → ((q : P) → m.forms q ≡ form.Envelope → FragmentsApart m) → HaveNoOptions m → (fs : List (Slot P)) (k : ℕ) (s : Slot P) (ks ls : Children) → slice_get fs k ≡ Some s → AdmitsChildren m.forms fs ks → AdmitsChildren m.forms fs ls → values_at m k s ks ≡ values_at m k s ls → value.values_at k ks ≡ value.values_at k ls
  kids_same m apart opts fs k s value.Nothing ls found a b e = nothing_same m opts fs k s ls (found_or_none m fs k s ls found b) e
  kids_same m apart opts fs k s (value.Child j v rest) ls found ((t, there, a), more) b e =
      kid_same m opts fs k s j v t rest ls found there a more b e (eqb_tells j k) (found_or_none m fs k s ls found b)
      (λ z w c d q. body_same m apart opts s.target (m.forms s.target) v w refl c d q) (λ others c q. kids_same m apart opts fs k s rest others found more c q)
