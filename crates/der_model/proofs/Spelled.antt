-- The DER of an instance that a message admits may stand there: each value begins a component, and nothing is missing.
use Rattle.std.proofs.Common.{◌≡◌, ◌≢◌, ℕ, zero, suc, ◌+◌, ◌≤◌, ◌<◌, Bool, true, false, cond, List, [], ◌∷◌, length, replicate, drop, Option, Some, None, refl, sym, ap, ◌∙◌, subst, arith, eqb, ◌⊎◌, inl, inr}
use Rattle.std.specs.Prelude.{◌==◌, if◌then◌else◌, slice_get, nat_lt}
use Rattle.std.proofs.lemmas.Bool.Decides.{nat_tests, eqb_tells}
use Rattle.std.proofs.lemmas.Bool.{cond-true, cond-false}
use Rattle.data_types.specs.Leaf.{Leaf}
use Rattle.data_types.specs.Leaf as leaf
use Rattle.data_types.specs.Value.{Value, Children}
use Rattle.data_types.specs.Value as value
use Rattle.facets.specs.declared.simple.Simple.{Simple}
use Rattle.der_octets.specs.Octets.{Tag, context, Values, Nothing, Primitive, Constructed, then_values}
use Rattle.reference_check.specs.Forms.{Form, Slot}
use Rattle.reference_check.specs.Forms as form
use Rattle.reference_check.specs.Words.{times, UpTo, MayComeTimes}
use Rattle.reference_check.specs.Steps.{has_room}
use Rattle.reference_check.proofs.Words.{times-replicate, up_to_less}
use Rattle.message_model.specs.Admits.{numbers_of}
use Rattle.message_model.specs.Admits.{AdmitsAs, AdmitsChildren, FitsCode}
use Rattle.message_model.specs.Sound.{IsNoOption}
use Rattle.der_model.specs.LeafContents.{leaf_contents}
use Rattle.der_model.specs.DerMessage.{DerMessage}
use Rattle.der_model.specs.Structures.{Instance, ListOf, Component, Structure, Fields, OneOf, Items, structure, form_structure, component, components, item_components, number_structure, is_once, is_single, is_constructed, universal_tag}
use Rattle.der_model.specs.Structures as structures
use Rattle.der_model.specs.Der.{Body, Octets, Inner, under, inner_of, item, placed_value, slot_values, all_slots, chosen_slot, alternative, body, values_at}
use Rattle.der_model.specs.States.{Begins, Fine, is_under, field_answer, any_answer, field_end, item_answer, item_end, next_number}
use Rattle.der_model.specs.Faults.{IsHeldIn}
use Rattle.der_model.specs.inner.Conforms.{Conforms}
use Rattle.der_model.proofs.SoundMessages.{HaveNoOptions}
use Rattle.der_model.proofs.ContentsLaws.{written_contents}
use Rattle.der_model.proofs.Fields.{Skips, skips_none, skips_more, begins_here, any_found, under_own, drop_more}

-- one value, which is a component
abbrev pub IsOneOf : {P : Type 0} → DerMessage P → List (Component P) → Values → Type 0
IsOneOf {P} m cs vs =
    ((tag : Tag) × (o : List ℕ) × (k : ℕ) × (c : Component P) × (vs ≡ Primitive tag o Nothing) × (any_answer 0 cs false tag ≡ Begins k c) × IsHeldIn m (structure m c.spot) o)
    ⊎ ((tag : Tag) × (inner : Values) × (k : ℕ) × (c : Component P) × (vs ≡ Constructed tag inner Nothing) × (any_answer 0 cs true tag ≡ Begins k c) × Conforms m (structure m c.spot) [] inner)

-- what a value of a form holds is what its structure may
abbrev pub FitsShape : {P : Type 0} → DerMessage P → Structure P → Bool → Body → Type 0
FitsShape m sh constructed (Octets o) = (constructed ≡ false) × IsHeldIn m sh o
FitsShape m sh constructed (Inner vs) = (constructed ≡ true) × Conforms m sh [] vs

-- the same, and of a choice that it is one of its alternatives
abbrev pub FitsAs : {P : Type 0} → DerMessage P → P → Form P Simple → Body → Type 0
FitsAs m p (form.Choice fs) b = IsOneOf m (components m.forms p 0 fs) (inner_of b)
FitsAs m p f b = FitsShape m (form_structure m.forms p f) (is_constructed f) b

one_conforms : {P : Type 0} (m : DerMessage P) (cs : List (Component P)) (vs : Values) → IsOneOf m cs vs → Conforms m (OneOf cs) [] vs
one_conforms m cs vs (inl (tag, o, k, c, is, begins, held)) = subst (Conforms m (OneOf cs) []) (sym is) (k, c, begins, held, refl)
one_conforms m cs vs (inr (tag, inner, k, c, is, begins, held)) = subst (Conforms m (OneOf cs) []) (sym is) (k, c, begins, held, refl)

-- a value under the tag of its slot is the component of the slot
pub single_component : {P : Type 0} (m : DerMessage P) (p : P) (k : ℕ) (s : Slot P) → is_single s ≡ true → ((component m.forms p k s).constructed ≡ is_constructed (m.forms s.target)) × (structure m (component m.forms p k s).spot ≡ form_structure m.forms s.target (m.forms s.target))
single_component m p k s e = (cond-true (is_single s) (is_constructed (m.forms s.target)) true e, ap (structure m) (cond-true (is_single s) (structures.Value s.target) (ListOf p k s) e))

pub list_component : {P : Type 0} (m : DerMessage P) (p : P) (k : ℕ) (s : Slot P) → is_single s ≡ false → ((component m.forms p k s).constructed ≡ true) × (structure m (component m.forms p k s).spot ≡ Items s (item_components m.forms s.target (m.forms s.target)))
list_component m p k s e = (cond-false (is_single s) (is_constructed (m.forms s.target)) true e, ap (structure m) (cond-false (is_single s) (structures.Value s.target) (ListOf p k s) e))

-- the values of a slot that comes at most once
abbrev pub IsSingle : {P : Type 0} → DerMessage P → ℕ → Slot P → ℕ → Values → Type 0
IsSingle m k s count vs =
    ((count ≡ 0) × (vs ≡ Nothing))
    ⊎ ((0 < count) × (b : Body) × (vs ≡ under (context k) b Nothing) × FitsShape m (form_structure m.forms s.target (m.forms s.target)) (is_constructed (m.forms s.target)) b)

-- the values of a slot
abbrev pub IsSlot : {P : Type 0} → DerMessage P → ℕ → Slot P → ℕ → Values → Type 0
IsSlot m k s count vs = (is_single s ≡ true → IsSingle m k s count vs) × (is_single s ≡ false → Conforms m (Items s (item_components m.forms s.target (m.forms s.target))) [] vs)

-- a body under a tag, which begins a component, before others that conform
under_conforms : {P : Type 0} (m : DerMessage P) (cs : List (Component P)) (came : List ℕ) (k : ℕ) (c : Component P) (tag : Tag) (sh : Structure P) (b : Bool) (bd : Body) (rest : Values)
    → c.constructed ≡ b → structure m c.spot ≡ sh → field_answer (next_number came) (drop (next_number came) cs) c.constructed tag ≡ Begins k c → FitsShape m sh b bd → Conforms m (Fields cs) (k ∷ came) rest → Conforms m (Fields cs) came (under tag bd rest)
under_conforms m cs came k c tag sh b (Octets o) rest e d begins (prim, held) more =
    (k, c, subst (λ z. field_answer (next_number came) (drop (next_number came) cs) z tag ≡ Begins k c) (e ∙ prim) begins, subst (λ z. IsHeldIn m z o) (sym d) held, more)
under_conforms m cs came k c tag sh b (Inner vs) rest e d begins (cons, held) more =
    (k, c, subst (λ z. field_answer (next_number came) (drop (next_number came) cs) z tag ≡ Begins k c) (e ∙ cons) begins, subst (λ z. Conforms m z [] vs) (sym d) held, more)

pub then_under : (tag : Tag) (b : Body) (rest : Values) → then_values (under tag b Nothing) rest ≡ under tag b rest
then_under tag (Octets o) rest = refl
then_under tag (Inner vs) rest = refl

zero_min : (n : ℕ) → n ≤ 0 → nat_lt 0 n ≡ false
zero_min n h = grind (arith, nat_tests)

-- one slot, before others
slot_step : {P : Type 0} (m : DerMessage P) (p : P) (cs more : List (Component P)) (k n : ℕ) (s : Slot P) (came : List ℕ) (vs rest : Values) (count : ℕ)
    → next_number came ≡ n → Skips cs n k → drop k cs ≡ component m.forms p k s ∷ more → IsSlot m k s count vs → s.min ≤ count
    → ((j : ℕ) (d : List ℕ) → next_number d ≡ j → Skips cs j (suc k) → Conforms m (Fields cs) d rest)
    → Conforms m (Fields cs) came (slot_values k s vs rest)
slot_step {P} m p cs more k n s came vs rest count next skips is slot low again = go (is_single s) refl
  where
    begins : field_answer (next_number came) (drop (next_number came) cs) (component m.forms p k s).constructed (context k) ≡ Begins k (component m.forms p k s)
    begins = subst (λ z. field_answer z (drop z cs) (component m.forms p k s).constructed (context k) ≡ Begins k (component m.forms p k s)) (sym next) (begins_here cs more n k (component m.forms p k s) skips is refl)

    single : is_single s ≡ true → IsSingle m k s count vs → Conforms m (Fields cs) came (then_values vs rest)
    single e (inl (none, nothing)) =
        let free : (component m.forms p k s).required ≡ false = cond-true (is_single s) (nat_lt 0 s.min) true e ∙ zero_min s.min (omega (arith, low, none)) in
        subst (λ z. Conforms m (Fields cs) came (then_values z rest)) (sym nothing) (again n came next (skips_more cs more n k (component m.forms p k s) skips is refl free))
    single e (inr (some, b, under_is, fits)) =
        let c = single_component m p k s e in
        let one = under_conforms m cs came k (component m.forms p k s) (context k) (form_structure m.forms s.target (m.forms s.target)) (is_constructed (m.forms s.target)) b rest c.0 c.1 begins fits (again (suc k) (k ∷ came) refl (skips_none cs (suc k))) in
        subst (λ z. Conforms m (Fields cs) came z) (sym (ap (λ z. then_values z rest) under_is ∙ then_under (context k) b rest)) one

    go : (b : Bool) → is_single s ≡ b → Conforms m (Fields cs) came (slot_values k s vs rest)
    go true e = subst (Conforms m (Fields cs) came) (sym (cond-true (is_single s) (then_values vs rest) (Constructed (context k) vs rest) e)) (single e (slot.0 e))
    go false e =
        let c = list_component m p k s e in
        let one : Conforms m (Fields cs) came (Constructed (context k) vs rest) =
        (k, component m.forms p k s, subst (λ z. field_answer (next_number came) (drop (next_number came) cs) z (context k) ≡ Begins k (component m.forms p k s)) c.0 begins, subst (λ z. Conforms m z [] vs) (sym c.1) (slot.1 e), again (suc k) (k ∷ came) refl (skips_none cs (suc k))) in
        subst (Conforms m (Fields cs) came) (sym (cond-false (is_single s) (then_values vs rest) (Constructed (context k) vs rest) e)) one

-- all slots from one on
slots_conform : {P : Type 0} (m : DerMessage P) (p : P) (cs : List (Component P)) (fs : List (Slot P)) (k n : ℕ) (came : List ℕ) (at : ℕ → Slot P → Values) (count : ℕ → ℕ)
    → next_number came ≡ n → Skips cs n k → drop k cs ≡ components m.forms p k fs
    → ((j i : ℕ) (s : Slot P) → i ≡ k + j → slice_get fs j ≡ Some s → IsSlot m i s (count i) (at i s) × (s.min ≤ count i))
    → Conforms m (Fields cs) came (all_slots k fs at)
slots_conform m p cs [] k n came at count next skips is each = subst (λ z. field_end (drop z cs) ≡ Fine) (sym next) (skips.end ∙ ap field_end is)
slots_conform {P} m p cs (s ∷ fs) k n came at count next skips is each =
    let here = each 0 k s (omega arith) refl in
    slot_step m p cs (components m.forms p (suc k) fs) k n s came (at k s) (all_slots (suc k) fs at) (count k) next skips is here.0 here.1
    (λ j d e q. slots_conform m p cs fs (suc k) j d at count e q (drop_more k cs (components m.forms p (suc k) fs) (component m.forms p k s) is) (λ a i t u v. each (suc a) i t (omega (arith, u)) v))

-- the items of a list
true_room : (n : ℕ) (o : Option ℕ) → UpTo (suc n) o → has_room n o ≡ true
true_room n None h = refl
true_room n (Some most) h = lt n most h
  where
    lt : (n most : ℕ) → suc n ≤ most → nat_lt n most ≡ true
    lt n most h = grind (arith, nat_tests)

enough : (n low : ℕ) → low ≤ n → nat_lt n low ≡ false
enough n low h = grind (arith, nat_tests)

own_item : {P : Type 0} (c : Component P) → any_answer 0 (c ∷ []) c.constructed c.tag ≡ Begins 0 c
own_item c = cond-true (is_under c c.constructed c.tag) (Begins 0 c) _ (under_own c)

-- an item, before others
item_step : {P : Type 0} (m : DerMessage P) (s : Slot P) (f : Form P Simple) (b : Body) (came : List ℕ) (rest : Values) → m.forms s.target ≡ f → has_room (length came) s.max ≡ true → FitsAs m s.target f b
    → ((q : ℕ) → Conforms m (Items s (item_components m.forms s.target f)) (q ∷ came) rest) → Conforms m (Items s (item_components m.forms s.target f)) came (item f b rest)
item_step {P} m s f b came rest at room fits again = go f b at fits again
  where
    answer : (cs : List (Component P)) (c : Bool) (tag : Tag) (k : ℕ) (x : Component P) → any_answer 0 cs c tag ≡ Begins k x → item_answer (has_room (length came) s.max) (any_answer 0 cs c tag) ≡ Begins k x
    answer cs c tag k x e = ap (λ z. item_answer z (any_answer 0 cs c tag)) room ∙ e

    plain : (f : Form P Simple) (b : Body) → m.forms s.target ≡ f → FitsShape m (form_structure m.forms s.target f) (is_constructed f) b
        → ((q : ℕ) → Conforms m (Items s (record { constructed = is_constructed f; tag = universal_tag f; required = false; label = structures.Unnamed; spot = structures.Value s.target } ∷ [])) (q ∷ came) rest)
        → Conforms m (Items s (record { constructed = is_constructed f; tag = universal_tag f; required = false; label = structures.Unnamed; spot = structures.Value s.target } ∷ [])) came (under (universal_tag f) b rest)
    plain f (Octets o) at (prim, held) again =
        let c : Component P = record { constructed = is_constructed f; tag = universal_tag f; required = false; label = structures.Unnamed; spot = structures.Value s.target } in
        (0, c, answer (c ∷ []) false (universal_tag f) 0 c (subst (λ z. any_answer 0 (c ∷ []) z (universal_tag f) ≡ Begins 0 c) prim (own_item c)), subst (λ z. IsHeldIn m (form_structure m.forms s.target z) o) (sym at) held, again 0)
    plain f (Inner vs) at (cons, held) again =
        let c : Component P = record { constructed = is_constructed f; tag = universal_tag f; required = false; label = structures.Unnamed; spot = structures.Value s.target } in
        (0, c, answer (c ∷ []) true (universal_tag f) 0 c (subst (λ z. any_answer 0 (c ∷ []) z (universal_tag f) ≡ Begins 0 c) cons (own_item c)), subst (λ z. Conforms m (form_structure m.forms s.target z) [] vs) (sym at) held, again 0)

    chosen : (cs : List (Component P)) (vs : Values) → IsOneOf m cs vs → ((q : ℕ) → Conforms m (Items s cs) (q ∷ came) rest) → Conforms m (Items s cs) came (then_values vs rest)
    chosen cs vs (inl (tag, o, k, c, is, begins, held)) again = subst (λ z. Conforms m (Items s cs) came (then_values z rest)) (sym is) (k, c, answer cs false tag k c begins, held, again k)
    chosen cs vs (inr (tag, inner, k, c, is, begins, held)) again = subst (λ z. Conforms m (Items s cs) came (then_values z rest)) (sym is) (k, c, answer cs true tag k c begins, held, again k)

    go : (f : Form P Simple) (b : Body) → m.forms s.target ≡ f → FitsAs m s.target f b → ((q : ℕ) → Conforms m (Items s (item_components m.forms s.target f)) (q ∷ came) rest) → Conforms m (Items s (item_components m.forms s.target f)) came (item f b rest)
    go (form.Choice fs) b at fits again = chosen (components m.forms s.target 0 fs) (inner_of b) fits again
    go (form.Sequence fs) b at fits again = plain (form.Sequence fs) b at fits again
    go (form.Simple x) b at fits again = plain (form.Simple x) b at fits again
    go (form.Money c x) b at fits again = plain (form.Money c x) b at fits again
    go form.Envelope b at fits again = plain form.Envelope b at fits again
    go form.LeftOut b at fits again = plain form.LeftOut b at fits again
    go form.Missing b at fits again = plain form.Missing b at fits again

pub none_is_no_value : {P : Type 0} (m : DerMessage P) (cs : List (Component P)) → IsOneOf m cs Nothing → ⊥
none_is_no_value m cs (inl (tag, o, k, c, is, begins, held)) = absurd cc
none_is_no_value m cs (inr (tag, inner, k, c, is, begins, held)) = absurd cc

-- what fits as an alternative fits as a choice
fits_shape : {P : Type 0} (m : DerMessage P) (p : P) (f : Form P Simple) (b : Body) → FitsAs m p f b → FitsShape m (form_structure m.forms p f) (is_constructed f) b
fits_shape m p (form.Choice fs) (Octets o) fits = absurd (none_is_no_value m (components m.forms p 0 fs) fits)
fits_shape m p (form.Choice fs) (Inner vs) fits = (refl, one_conforms m (components m.forms p 0 fs) vs fits)
fits_shape m p (form.Sequence fs) b fits = fits
fits_shape m p (form.Simple x) b fits = fits
fits_shape m p (form.Money c x) b fits = fits
fits_shape m p form.Envelope b fits = fits
fits_shape m p form.LeftOut b fits = fits
fits_shape m p form.Missing b fits = fits

pub at_most_one : (n : ℕ) (o : Option ℕ) → is_once o ≡ true → UpTo n o → n ≤ 1
at_most_one n None e h = absurd (let f : false ≡ true = e in cc)
at_most_one n (Some most) e h = one n most e h
  where
    one : (n most : ℕ) → (most == 1) ≡ true → n ≤ most → n ≤ 1
    one n most e h = grind (arith, nat_tests)

pub some_child : (j k : ℕ) (n : ℕ) → eqb j k ≡ true → cond (j == k) 1 0 + n ≡ suc n
some_child j k n e = rw e (omega arith)

pub no_child : (j k : ℕ) (n : ℕ) → eqb j k ≡ false → cond (j == k) 1 0 + n ≡ n
no_child j k n e = rw e (omega arith)

-- a child in the slot, or in another, before the rest
single_child : {P : Type 0} (m : DerMessage P) (fs : List (Slot P)) (k j : ℕ) (s t : Slot P) (b : Slot P → Body) (count : ℕ) (vs : Values) → slice_get fs k ≡ Some s → slice_get fs j ≡ Some t → is_single s ≡ true
    → FitsAs m t.target (m.forms t.target) (b t) → cond (j == k) 1 0 + count ≤ 1 → (count ≤ 1 → IsSingle m k s count vs) → IsSingle m k s (cond (j == k) 1 0 + count) (if j == k then placed_value m.forms k s (b s) vs else vs)
single_child m fs k j s t b count vs here there single fits few rest = go (eqb_tells j k)
  where
    go : ((eqb j k ≡ true) × (j ≡ k)) ⊎ ((eqb j k ≡ false) × (j ≢ k)) → IsSingle m k s (cond (j == k) 1 0 + count) (if j == k then placed_value m.forms k s (b s) vs else vs)
    go (inl e) =
        let more : cond (j == k) 1 0 + count ≡ suc count = some_child j k count e.0 in
        let none : count ≡ 0 = omega arith in
        let found : slice_get fs k ≡ Some t = subst (λ z. slice_get fs z ≡ Some t) e.1 there in
        let same : t ≡ s = cc in
        let fit = fits_shape m s.target (m.forms s.target) (b s) (subst (λ z. FitsAs m z.target (m.forms z.target) (b z)) same fits) in
        let empty : vs ≡ Nothing = nothing (rest (omega arith)) none in
        inr (omega arith, b s, cond-true (j == k) _ vs e.0 ∙ (cond-true (is_single s) (under (context k) (b s) vs) (item (m.forms s.target) (b s) vs) single ∙ ap (under (context k) (b s)) empty), fit)
      where
        nothing : IsSingle m k s count vs → count ≡ 0 → vs ≡ Nothing
        nothing (inl h) z = h.1
        nothing (inr h) z = absurd (omega (arith, h.0))
    go (inr e) = rw (e.0, zero_plus count) (rest (omega (arith, no_child j k count e.0)))
      where
        zero_plus : (n : ℕ) → 0 + n ≡ n
        zero_plus n = omega arith

-- an item in the slot, or a child in another, before the rest
list_child : {P : Type 0} (m : DerMessage P) (fs : List (Slot P)) (k j : ℕ) (s t : Slot P) (b : Slot P → Body) (count : ℕ) (came : List ℕ) (vs : Values) → slice_get fs k ≡ Some s → slice_get fs j ≡ Some t → is_single s ≡ false
    → FitsAs m t.target (m.forms t.target) (b t) → UpTo (length came + (cond (j == k) 1 0 + count)) s.max → s.min ≤ length came + (cond (j == k) 1 0 + count)
    → ((d : List ℕ) → UpTo (length d + count) s.max → s.min ≤ length d + count → Conforms m (Items s (item_components m.forms s.target (m.forms s.target))) d vs)
    → Conforms m (Items s (item_components m.forms s.target (m.forms s.target))) came (if j == k then placed_value m.forms k s (b s) vs else vs)
list_child {P} m fs k j s t b count came vs here there list fits most least rest = go (eqb_tells j k)
  where
    again : cond (j == k) 1 0 + count ≡ suc count → (q : ℕ) → Conforms m (Items s (item_components m.forms s.target (m.forms s.target))) (q ∷ came) vs
    again more q =
        let sum : length came + (cond (j == k) 1 0 + count) ≡ suc (length came) + count = omega arith in
        rest (q ∷ came) (subst (λ z. UpTo z s.max) sum most) (omega arith)

    go : ((eqb j k ≡ true) × (j ≡ k)) ⊎ ((eqb j k ≡ false) × (j ≢ k)) → Conforms m (Items s (item_components m.forms s.target (m.forms s.target))) came (if j == k then placed_value m.forms k s (b s) vs else vs)
    go (inl e) =
        let more = some_child j k count e.0 in
        let found : slice_get fs k ≡ Some t = subst (λ z. slice_get fs z ≡ Some t) e.1 there in
        let same : t ≡ s = cc in
        let fit : FitsAs m s.target (m.forms s.target) (b s) = subst (λ z. FitsAs m z.target (m.forms z.target) (b z)) same fits in
        let room = true_room (length came) s.max (up_to_less (suc (length came)) (length came + (cond (j == k) 1 0 + count)) s.max (omega arith) most) in
        let one = item_step m s (m.forms s.target) (b s) came vs refl room fit (again more) in
        subst (Conforms m (Items s (item_components m.forms s.target (m.forms s.target))) came) (sym (cond-true (j == k) (placed_value m.forms k s (b s) vs) vs e.0 ∙ cond-false (is_single s) (under (context k) (b s) vs) (item (m.forms s.target) (b s) vs) list)) one
    go (inr e) =
        let none = no_child j k count e.0 in
        let same = ap (λ z. length came + z) none in
        subst (Conforms m (Items s (item_components m.forms s.target (m.forms s.target))) came) (sym (cond-false (j == k) (placed_value m.forms k s (b s) vs) vs e.0))
        (rest came (subst (λ z. UpTo z s.max) same most) (omega arith))

-- the code of an amount
code_held : {P : Type 0} (m : DerMessage P) (p : P) (f : Form P Simple) (l : Leaf) → FitsCode f l → IsHeldIn m (form_structure m.forms p f) (leaf_contents l)
code_held m p (form.Simple s) l fits = (l, written_contents s l fits)
code_held m p (form.Sequence fs) l fits = absurd fits
code_held m p (form.Choice fs) l fits = absurd fits
code_held m p (form.Money c x) l fits = absurd fits
code_held m p form.Envelope l fits = absurd fits
code_held m p form.LeftOut l fits = absurd fits
code_held m p form.Missing l fits = absurd fits

-- the alternative that is chosen
pub chosen_is : {P : Type 0} (fs : List (Slot P)) (d : List ℕ) (k n : ℕ) (s : Slot P) (at : ℕ → Slot P → Values) → slice_get fs k ≡ Some s → d ≡ replicate (suc n) k → alternative fs d at ≡ slot_values k s (at k s) Nothing
chosen_is fs d k n s at found is = ap (λ z. alternative fs z at) is ∙ ap (λ z. chosen_slot k z at) found

pub alternative_fits : {P : Type 0} (m : DerMessage P) (p : P) (fs : List (Slot P)) (k count : ℕ) (s : Slot P) (vs : Values) → slice_get fs k ≡ Some s → 0 < count → IsSlot m k s count vs → IsOneOf m (components m.forms p 0 fs) (slot_values k s vs Nothing)
alternative_fits {P} m p fs k count s vs found some slot = go (is_single s) refl
  where
    zero_plus : 0 + k ≡ k
    zero_plus = omega arith

    begins : any_answer 0 (components m.forms p 0 fs) (component m.forms p k s).constructed (context k) ≡ Begins k (component m.forms p k s)
    begins = subst (λ z. any_answer 0 (components m.forms p 0 fs) (component m.forms p z s).constructed (context z) ≡ Begins z (component m.forms p z s)) zero_plus (any_found m.forms p 0 k fs s found)

    one : is_single s ≡ true → (b : Body) → FitsShape m (form_structure m.forms s.target (m.forms s.target)) (is_constructed (m.forms s.target)) b → IsOneOf m (components m.forms p 0 fs) (under (context k) b Nothing)
    one e (Octets o) (prim, held) =
        let c = single_component m p k s e in
        inl (context k, o, k, component m.forms p k s, refl, subst (λ z. any_answer 0 (components m.forms p 0 fs) z (context k) ≡ Begins k (component m.forms p k s)) (c.0 ∙ prim) begins, subst (λ z. IsHeldIn m z o) (sym c.1) held)
    one e (Inner is) (cons, held) =
        let c = single_component m p k s e in
        inr (context k, is, k, component m.forms p k s, refl, subst (λ z. any_answer 0 (components m.forms p 0 fs) z (context k) ≡ Begins k (component m.forms p k s)) (c.0 ∙ cons) begins, subst (λ z. Conforms m z [] is) (sym c.1) held)

    single : is_single s ≡ true → IsSingle m k s count vs → IsOneOf m (components m.forms p 0 fs) (then_values vs Nothing)
    single e (inl h) = absurd (omega (arith, h.0))
    single e (inr (low, b, is, fits)) = subst (IsOneOf m (components m.forms p 0 fs)) (sym (ap (λ z. then_values z Nothing) is ∙ then_under (context k) b Nothing)) (one e b fits)

    go : (b : Bool) → is_single s ≡ b → IsOneOf m (components m.forms p 0 fs) (slot_values k s vs Nothing)
    go true e = subst (IsOneOf m (components m.forms p 0 fs)) (sym (cond-true (is_single s) (then_values vs Nothing) (Constructed (context k) vs Nothing) e)) (single e (slot.0 e))
    go false e =
        let c = list_component m p k s e in
        subst (IsOneOf m (components m.forms p 0 fs)) (sym (cond-false (is_single s) (then_values vs Nothing) (Constructed (context k) vs Nothing) e))
        (inr (context k, vs, k, component m.forms p k s, refl, subst (λ z. any_answer 0 (components m.forms p 0 fs) z (context k) ≡ Begins k (component m.forms p k s)) c.0 begins, subst (λ z. Conforms m z [] vs) (sym c.1) (slot.1 e)))

-- a slot, by the two ways in which its values may stand
pub slot_by : {P : Type 0} (m : DerMessage P) (k : ℕ) (s : Slot P) (count : ℕ) (vs : Values) → MayComeTimes count s → (is_single s ≡ true → count ≤ 1 → IsSingle m k s count vs)
    → (is_single s ≡ false → UpTo (length {A = ℕ} [] + count) s.max → s.min ≤ length {A = ℕ} [] + count → Conforms m (Items s (item_components m.forms s.target (m.forms s.target))) [] vs) → IsSlot m k s count vs
slot_by m k s count vs within single list =
    (λ e. single e (at_most_one count s.max e within.1), λ e. list e (subst (λ z. UpTo z s.max) (let q : count ≡ length {A = ℕ} [] + count = omega arith in q) within.1) (omega (arith, within.0)))

mutual
  -- the body of a value that a form admits fits
  pub value_fits : {P : Type 0} (m : DerMessage P) → HaveNoOptions m → (p : P) (f : Form P Simple) (v : Value) → m.forms p ≡ f → AdmitsAs m.forms f v → FitsAs m p f (body m f v)
  value_fits m opts p (form.Sequence fs) (value.Component ks) at (word, admits) = (
    refl,
    slots_conform m p (components m.forms p 0 fs) fs 0 0 [] (λ k s. values_at m k s ks) (λ k. times k (numbers_of ks)) refl (skips_none (components m.forms p 0 fs) 0) refl
        (λ j i s e found. let there : slice_get fs i ≡ Some s = subst (λ z. slice_get fs z ≡ Some s) (let q : j ≡ i = omega (arith, e) in q) found in
        (slot_by m i s (times i (numbers_of ks)) (values_at m i s ks) (word.within i s there) (λ e l. children_single m opts fs i s ks there admits e l) (λ e u l. children_list m opts fs i s ks [] there admits e u l), (word.within i s there).0)),
  )
  value_fits m opts p (form.Choice fs) (value.Component ks) at ((k, zero, s, found, within, is), admits) =
      absurd (let some : 0 < s.min = subst IsNoOption at (opts p) k s found in omega (arith, within.0))
  value_fits m opts p (form.Choice fs) (value.Component ks) at ((k, suc n, s, found, within, is), admits) =
      let counted : times k (numbers_of ks) ≡ suc n = ap (times k) is ∙ times-replicate k (suc n) in
      let slot = slot_by m k s (times k (numbers_of ks)) (values_at m k s ks) (subst (λ z. MayComeTimes z s) (sym counted) within) (λ e l. children_single m opts fs k s ks found admits e l) (λ e u l. children_list m opts fs k s ks [] found admits e u l) in
      subst (IsOneOf m (components m.forms p 0 fs)) (sym (chosen_is fs (numbers_of ks) k n s (λ k s. values_at m k s ks) found is))
      (alternative_fits m p fs k (times k (numbers_of ks)) s (values_at m k s ks) found (omega (arith, counted)) slot)
  value_fits m opts p (form.Simple s) (value.Simple l) at fits = (refl, (l, written_contents s l fits))
  value_fits m opts p (form.Money c x) (value.Amount l n) at (code, number) =
      (refl, (0, _, refl, code_held m c (m.forms c) l code, (1, _, refl, subst (λ z. IsHeldIn m (number_structure z) (leaf_contents (leaf.Number n))) (sym at) (leaf.Number n, written_contents x (leaf.Number n) number), refl)))
  value_fits m opts p form.Envelope (value.External tree) at a = (refl, (tree, a, refl))
  value_fits m opts p (form.Sequence fs) v at a = absurd a
  value_fits m opts p (form.Choice fs) v at a = absurd a
  value_fits m opts p (form.Simple s) v at a = absurd a
  value_fits m opts p (form.Money c x) v at a = absurd a
  value_fits m opts p form.Envelope v at a = absurd a
  value_fits m opts p form.LeftOut v at a = absurd a
  value_fits m opts p form.Missing v at a = absurd a

  pub children_single : {P : Type 0} (m : DerMessage P) → HaveNoOptions m → (fs : List (Slot P)) (k : ℕ) (s : Slot P) (ks : Children) → slice_get fs k ≡ Some s → AdmitsChildren m.forms fs ks → is_single s ≡ true → times k (numbers_of ks) ≤ 1 → IsSingle m k s (times k (numbers_of ks)) (values_at m k s ks)
  children_single m opts fs k s value.Nothing found admits e few = inl (refl, refl)
  children_single m opts fs k s (value.Child j v rest) found ((t, there, a), more) e few =
      single_child m fs k j s t (λ u. body m (m.forms u.target) v) (times k (numbers_of rest)) (values_at m k s rest) found there e (value_fits m opts t.target (m.forms t.target) v refl a) few
      (λ l. children_single m opts fs k s rest found more e l)

  children_list : {P : Type 0} (m : DerMessage P) → HaveNoOptions m → (fs : List (Slot P)) (k : ℕ) (s : Slot P) (ks : Children) (came : List ℕ) → slice_get fs k ≡ Some s → AdmitsChildren m.forms fs ks → is_single s ≡ false
      → UpTo (length came + times k (numbers_of ks)) s.max → s.min ≤ length came + times k (numbers_of ks) → Conforms m (Items s (item_components m.forms s.target (m.forms s.target))) came (values_at m k s ks)
  children_list m opts fs k s value.Nothing came found admits e most least = ap item_end (enough (length came) s.min (omega arith))
  children_list m opts fs k s (value.Child j v rest) came found ((t, there, a), more) e most least =
      list_child m fs k j s t (λ u. body m (m.forms u.target) v) (times k (numbers_of rest)) came (values_at m k s rest) found there e (value_fits m opts t.target (m.forms t.target) v refl a) most least
      (λ d u l. children_list m opts fs k s rest d found more e u l)

-- the inner values of an instance may stand there
pub instance_conforms : {P : Type 0} (m : DerMessage P) → HaveNoOptions m → (fs : List (Slot P)) (v : Value) → m.forms m.root ≡ form.Sequence fs → AdmitsAs m.forms (m.forms m.root) v → Conforms m (structure m Instance) [] (inner_of (body m (m.forms m.root) v))
instance_conforms m opts fs v root admits =
    subst (λ f. Conforms m (form_structure m.forms m.root f) [] (inner_of (body m f v))) (sym root) (go (body m (form.Sequence fs) v) (value_fits m opts m.root (form.Sequence fs) v root (subst (λ f. AdmitsAs m.forms f v) root admits)))
  where
    go : (b : Body) → FitsShape m (Fields (components m.forms m.root 0 fs)) true b → Conforms m (Fields (components m.forms m.root 0 fs)) [] (inner_of b)
    go (Octets o) h = absurd (let e : true ≡ false = h.0 in cc)
    go (Inner vs) h = h.1
