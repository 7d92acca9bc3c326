-- Identifier octets and ends among the components of slots.
use Rattle.std.proofs.Common.{◌≡◌, ℕ, zero, suc, ◌+◌, ◌-◌, ◌≤◌, ◌<◌, Bool, true, false, List, [], ◌∷◌, length, drop, Some, None, Option, refl, sym, ap, ◌∙◌, subst, arith}
use Rattle.std.specs.Prelude.{if◌then◌else◌, slice_get, slice_index_or}
use Rattle.std.proofs.Math.ListN.{length-drop}
use Rattle.std.proofs.lemmas.Bool.{cond-true, cond-false}
use Rattle.std.proofs.lemmas.Bool.Decides.{nat_tests}
use Rattle.std.proofs.lemmas.Option.{slice_get_within}
use Rattle.lexical_core.specs.declared.rule.Rule.TheVariants.{UnexpectedTag, DerMissing}
use Rattle.facets.specs.declared.simple.Simple.{Simple}
use Rattle.der_octets.specs.Octets.{Tag, Context, context}
use Rattle.der_octets.specs.TagSteps.{class_view}
use Rattle.der_octets.specs.declared.tag_step.TagClass.{TagClass}
use Rattle.der_octets.specs.declared.tag_step.TagClass.TheVariants as class
use Rattle.reference_check.specs.Forms.{Graph, Slot}
use Rattle.message_model.specs.Options.{AreOptions, IsFirmAt, is_option}
use Rattle.der_model.specs.Structures.{Component, Label, Element, Listed, is_single, component, components, amount_components}
use Rattle.der_model.specs.States.{IdentifierAnswer, Begins, Breaks, Fine, EndBreaks, is_under, field_answer, any_answer, field_end, skipping, missing_text}
use Rattle.der_model.proofs.Fields.{under_own, under_other, any_found}
use Rattle.der_model.proofs.WholeValues.{under_same}
use Rattle.message_model.proofs.Ahead.{drop_get}
use Rattle.der_codec.specs.Components.{has_to_come, NoneDue, IsDue}

pub drop_components : {P : Type 0} (g : Graph P Simple) (p : P) (n i j : ℕ) (fs : List (Slot P)) → i + n ≡ j → drop n (components g p i fs) ≡ components g p j (drop n fs)
drop_components g p zero i j fs e = (let same : i ≡ j = omega arith in ap (λ z. components g p z fs) same)
drop_components g p (suc n) i j [] e = refl
drop_components g p (suc n) i j (s ∷ fs) e = drop_components g p n (suc i) j fs (omega arith)

-- no component is under the identifier
abbrev pub NoneUnder : {P : Type 0} → Graph P Simple → P → ℕ → List (Slot P) → Bool → Tag → Type 0
NoneUnder {P} g p i fs b t = (d : ℕ) (s : Slot P) → slice_get fs d ≡ Some s → is_under (component g p (i + d) s) b t ≡ true → ⊥

later_under : {P : Type 0} (g : Graph P Simple) (p : P) (i : ℕ) (f : Slot P) (fs : List (Slot P)) (b : Bool) (t : Tag) → NoneUnder g p i (f ∷ fs) b t → NoneUnder g p (suc i) fs b t
later_under g p i f fs b t none d s e u = none (suc d) s e (let same : i + suc d ≡ suc i + d = omega arith in rw same u)

first_under : {P : Type 0} (g : Graph P Simple) (p : P) (i : ℕ) (f : Slot P) (fs : List (Slot P)) (b : Bool) (t : Tag) → NoneUnder g p i (f ∷ fs) b t → is_under (component g p i f) b t ≡ false
first_under g p i f fs b t none = go (is_under (component g p i f) b t) refl
  where
    go : (v : Bool) → is_under (component g p i f) b t ≡ v → is_under (component g p i f) b t ≡ false
    go true e = absurd (none 0 f refl (let same : i + 0 ≡ i = omega arith in rw same e))
    go false e = e

either_way : {P : Type 0} (r : Bool) → (let unexpected : IdentifierAnswer P = Breaks UnexpectedTag [] in if r then unexpected else unexpected) ≡ Breaks UnexpectedTag []
either_way true = refl
either_way false = refl

pub field_none : {P : Type 0} (g : Graph P Simple) (p : P) (i : ℕ) (fs : List (Slot P)) (b : Bool) (t : Tag) → NoneUnder g p i fs b t → field_answer i (components g p i fs) b t ≡ Breaks UnexpectedTag []
field_none g p i [] b t none = refl
field_none g p i (s ∷ fs) b t none =
    let rest = field_none g p (suc i) fs b t (later_under g p i s fs b t none) in
    cond-false (is_under (component g p i s) b t) _ _ (first_under g p i s fs b t none)
    ∙ (ap (λ z. if (component g p i s).required then skipping (component g p i s).label z else z) rest ∙ either_way (component g p i s).required)

pub any_none : {P : Type 0} (g : Graph P Simple) (p : P) (i : ℕ) (fs : List (Slot P)) (b : Bool) (t : Tag) → NoneUnder g p i fs b t → any_answer i (components g p i fs) b t ≡ Breaks UnexpectedTag []
any_none g p i [] b t none = refl
any_none g p i (s ∷ fs) b t none =
    cond-false (is_under (component g p i s) b t) _ _ (first_under g p i s fs b t none) ∙ any_none g p (suc i) fs b t (later_under g p i s fs b t none)

-- what is added for a slot's component
pub missing_slot : {P : Type 0} (g : Graph P Simple) (p : P) (i : ℕ) (s : Slot P) → missing_text (component g p i s).label ≡ 47 ∷ s.tag
missing_slot g p i s = go (is_single s)
  where
    go : (b : Bool) → missing_text (if b then Element s.tag else Listed s.tag) ≡ 47 ∷ s.tag
    go true = refl
    go false = refl

none_later : (d : ℕ) (f : Slot ℕ) (fs : List (Slot ℕ)) → NoneDue (f ∷ fs) 0 (suc d) → NoneDue fs 0 d
none_later d f fs none i s low high e = none (suc i) s (omega arith) (omega arith) e

first_none : (d : ℕ) (f : Slot ℕ) (fs : List (Slot ℕ)) → NoneDue (f ∷ fs) 0 (suc d) → has_to_come f ≡ false
first_none d f fs none = none 0 f (omega arith) (omega arith) refl

-- the component of a slot is the answer where none before it has to come
pub field_found : (g : Graph ℕ Simple) (p : ℕ) (fs : List (Slot ℕ)) (i d j : ℕ) (s : Slot ℕ) → i + d ≡ j → slice_get fs d ≡ Some s → NoneDue fs 0 d → field_answer i (components g p i fs) (component g p j s).constructed (context j) ≡ Begins j (component g p j s)
field_found g p [] i d j s e is none = absurd cc
field_found g p (f ∷ fs) i zero j s e is none =
    let same : f ≡ s = cc in
    let here : i ≡ j = omega arith in
    rw (here, same) (cond-true (is_under (component g p j s) (component g p j s).constructed (context j)) (Begins j (component g p j s)) _ (under_own (component g p j s)))
field_found g p (f ∷ fs) i (suc d) j s e is none =
    cond-false (is_under (component g p i f) (component g p j s).constructed (context j)) _ _ (under_other (component g p i f) i j (component g p j s).constructed refl (omega arith))
    ∙ (cond-false (has_to_come f) _ _ (first_none d f fs none) ∙ field_found g p fs (suc i) d j s (omega arith) is (none_later d f fs none))

-- what is found behind some that have to come
pub data Behind (x : IdentifierAnswer ℕ) : Type 0 where
  begins : (k : ℕ) (c : Component ℕ) → x ≡ Begins k c → Behind x
  breaks : (text : List ℕ) → x ≡ Breaks DerMissing text → Behind x

skipped : (label : Label) (x : IdentifierAnswer ℕ) → Behind x → skipping label x ≡ Breaks DerMissing (missing_text label)
skipped label x (begins k c e) = ap (skipping label) e
skipped label x (breaks text e) = ap (skipping label) e

behind : (g : Graph ℕ Simple) (p : ℕ) (fs : List (Slot ℕ)) (i d j : ℕ) (s : Slot ℕ) → i + d ≡ j → slice_get fs d ≡ Some s → Behind (field_answer i (components g p i fs) (component g p j s).constructed (context j))
behind g p [] i d j s e is = absurd cc
behind g p (f ∷ fs) i zero j s e is = begins j (component g p j s) (
    let same : f ≡ s = cc in
    let here : i ≡ j = omega arith in
    rw (here, same) (cond-true (is_under (component g p j s) (component g p j s).constructed (context j)) (Begins j (component g p j s)) _ (under_own (component g p j s))))
behind g p (f ∷ fs) i (suc d) j s e is =
    let rest = behind g p fs (suc i) d j s (omega arith) is in
    let later = field_answer (suc i) (components g p (suc i) fs) (component g p j s).constructed (context j) in
    let here : field_answer i (components g p i (f ∷ fs)) (component g p j s).constructed (context j) ≡ (if has_to_come f then skipping (component g p i f).label later else later) =
    cond-false (is_under (component g p i f) (component g p j s).constructed (context j)) _ _ (under_other (component g p i f) i j (component g p j s).constructed refl (omega arith)) in
    subst Behind (sym here) (either (has_to_come f) (component g p i f).label later rest)
  where
    either : (r : Bool) (label : Label) (x : IdentifierAnswer ℕ) → Behind x → Behind (if r then skipping label x else x)
    either true label x b = breaks (missing_text label) (skipped label x b)
    either false label x b = b

-- the first slot that has to come is missing
pub field_due : (g : Graph ℕ Simple) (p : ℕ) (fs : List (Slot ℕ)) (i d j e : ℕ) (s q : Slot ℕ) → i + d ≡ j → slice_get fs d ≡ Some s → e < d → slice_get fs e ≡ Some q → has_to_come q ≡ true → NoneDue fs 0 e → field_answer i (components g p i fs) (component g p j s).constructed (context j) ≡ Breaks DerMissing (47 ∷ q.tag)
field_due g p [] i d j e s q sum is low due comes none = absurd cc
field_due g p (f ∷ fs) i zero j e s q sum is low due comes none = absurd (omega arith)
field_due g p (f ∷ fs) i (suc d) j zero s q sum is low due comes none =
    let same : f ≡ q = cc in
    let later = field_answer (suc i) (components g p (suc i) fs) (component g p j s).constructed (context j) in
    let text : missing_text (component g p i f).label ≡ 47 ∷ q.tag = missing_slot g p i f ∙ ap (λ (z : Slot ℕ). 47 ∷ z.tag) same in
    cond-false (is_under (component g p i f) (component g p j s).constructed (context j)) _ _ (under_other (component g p i f) i j (component g p j s).constructed refl (omega arith))
    ∙ (cond-true (has_to_come f) _ _ (ap has_to_come same ∙ comes) ∙ (skipped (component g p i f).label later (behind g p fs (suc i) d j s (omega arith) is) ∙ ap (Breaks DerMissing) text))
field_due g p (f ∷ fs) i (suc d) j (suc e) s q sum is low due comes none =
    cond-false (is_under (component g p i f) (component g p j s).constructed (context j)) _ _ (under_other (component g p i f) i j (component g p j s).constructed refl (omega arith))
    ∙ (cond-false (has_to_come f) _ _ (first_none e f fs none) ∙ field_due g p fs (suc i) d j e s q (omega arith) is (omega arith) due comes (none_later e f fs none))

-- the end of a sequence
pub end_none : (g : Graph ℕ Simple) (p : ℕ) (fs : List (Slot ℕ)) (i : ℕ) → NoneDue fs 0 (length fs) → field_end (components g p i fs) ≡ Fine
end_none g p [] i none = refl
end_none g p (f ∷ fs) i none = cond-false (has_to_come f) _ _ (none 0 f (omega arith) (omega arith) refl) ∙ end_none g p fs (suc i) (λ k s low high e. none (suc k) s (omega arith) (omega arith) e)

pub end_due : (g : Graph ℕ Simple) (p : ℕ) (fs : List (Slot ℕ)) (i e : ℕ) (q : Slot ℕ) → slice_get fs e ≡ Some q → has_to_come q ≡ true → NoneDue fs 0 e → field_end (components g p i fs) ≡ EndBreaks DerMissing (47 ∷ q.tag)
end_due g p [] i e q is comes none = absurd cc
end_due g p (f ∷ fs) i zero q is comes none =
    let same : f ≡ q = cc in
    let text : missing_text (component g p i f).label ≡ 47 ∷ q.tag = missing_slot g p i f ∙ ap (λ (z : Slot ℕ). 47 ∷ z.tag) same in
    cond-true (has_to_come f) _ _ (ap has_to_come same ∙ comes) ∙ ap (EndBreaks DerMissing) text
end_due g p (f ∷ fs) i (suc e) q is comes none = cond-false (has_to_come f) _ _ (first_none e f fs none) ∙ end_due g p fs (suc i) e q is comes (none_later e f fs none)

-- the same from the number that is next
pub due_from : (fs : List (Slot ℕ)) (n d : ℕ) → NoneDue fs n (n + d) → NoneDue (drop n fs) 0 d
due_from fs n d none i s low high e = none (n + i) s (omega arith) (omega arith) (sym (drop_get n i fs) ∙ e)

-- over the tables: what the code finds
open_under : (g : Graph ℕ Simple) (p : ℕ) (fs : List (Slot ℕ)) (n d : ℕ) (s : Slot ℕ) (b : Bool) (t : Tag) → slice_get (drop n fs) d ≡ Some s → is_under (component g p (n + d) s) b t ≡ true → (t ≡ context (n + d)) × (slice_get fs (n + d) ≡ Some s) × ((component g p (n + d) s).constructed ≡ b)
open_under g p fs n d s b t e u = (let r = under_same (component g p (n + d) s) b t u in (sym r.1, sym (drop_get n d fs) ∙ e, r.0))

dropped : (g : Graph ℕ Simple) (p : ℕ) (fs : List (Slot ℕ)) (n : ℕ) (b : Bool) (t : Tag) → field_answer n (drop n (components g p 0 fs)) b t ≡ field_answer n (components g p n (drop n fs)) b t
dropped g p fs n b t = ap (λ z. field_answer n z b t) (drop_components g p n 0 n fs (omega arith))

-- no slot is under the identifier
abbrev pub NoSlot : Graph ℕ Simple → ℕ → List (Slot ℕ) → Bool → Tag → Type 0
NoSlot g p fs b t = (at : ℕ) (s : Slot ℕ) → t ≡ context at → slice_get fs at ≡ Some s → (component g p at s).constructed ≡ b → ⊥

pub fields_none : (g : Graph ℕ Simple) (p : ℕ) (fs : List (Slot ℕ)) (n : ℕ) (b : Bool) (t : Tag) → NoSlot g p fs b t → field_answer n (drop n (components g p 0 fs)) b t ≡ Breaks UnexpectedTag []
fields_none g p fs n b t none = dropped g p fs n b t ∙ field_none g p n (drop n fs) b t (λ d s e u. let r = open_under g p fs n d s b t e u in none (n + d) s r.0 r.1 r.2)

number_of_tag : (a b : ℕ) → context a ≡ context b → a ≡ b
number_of_tag a b e = ap (λ (t : Tag). t.number) e

pub fields_before : (g : Graph ℕ Simple) (p : ℕ) (fs : List (Slot ℕ)) (n at : ℕ) (b : Bool) (t : Tag) → t ≡ context at → at < n → field_answer n (drop n (components g p 0 fs)) b t ≡ Breaks UnexpectedTag []
fields_before g p fs n at b t tag low = dropped g p fs n b t ∙ field_none g p n (drop n fs) b t (λ d s e u. let r = open_under g p fs n d s b t e u in let same = number_of_tag at (n + d) (sym tag ∙ r.0) in absurd (omega arith))

apart : (n at : ℕ) → n ≤ at → (d : ℕ) × (n + d ≡ at)
apart n at low = (at - n, omega arith)

pub fields_found : (g : Graph ℕ Simple) (p : ℕ) (fs : List (Slot ℕ)) (n at : ℕ) (s : Slot ℕ) (b : Bool) (t : Tag) → t ≡ context at → n ≤ at → slice_get fs at ≡ Some s → (component g p at s).constructed ≡ b → NoneDue fs n at → field_answer n (drop n (components g p 0 fs)) b t ≡ Begins at (component g p at s)
fields_found g p fs n at s b t tag low is form none =
    let d = apart n at low in
    let here : slice_get (drop n fs) d.0 ≡ Some s = drop_get n d.0 fs ∙ (ap (slice_get fs) d.1 ∙ is) in
    let due : NoneDue (drop n fs) 0 d.0 = due_from fs n d.0 (subst (NoneDue fs n) (sym d.1) none) in
    dropped g p fs n b t ∙ (ap (λ z. field_answer n (components g p n (drop n fs)) b z) tag ∙ (ap (λ z. field_answer n (components g p n (drop n fs)) z (context at)) (sym form) ∙ field_found g p (drop n fs) n d.0 at s d.1 here due))

pub fields_due : (g : Graph ℕ Simple) (p : ℕ) (fs : List (Slot ℕ)) (n at : ℕ) (s : Slot ℕ) (b : Bool) (t : Tag) → t ≡ context at → n ≤ at → slice_get fs at ≡ Some s → (component g p at s).constructed ≡ b → (e : ℕ) (due : IsDue fs n at e) → field_answer n (drop n (components g p 0 fs)) b t ≡ Breaks DerMissing (47 ∷ due.slot.tag)
fields_due g p fs n at s b t tag low is form e due =
    let d = apart n at low in
    let k = apart n e due.low in
    let high = due.high in
    let here : slice_get (drop n fs) d.0 ≡ Some s = drop_get n d.0 fs ∙ (ap (slice_get fs) d.1 ∙ is) in
    let there : slice_get (drop n fs) k.0 ≡ Some due.slot = drop_get n k.0 fs ∙ (ap (slice_get fs) k.1 ∙ due.found) in
    let first : NoneDue (drop n fs) 0 k.0 = due_from fs n k.0 (subst (NoneDue fs n) (sym k.1) due.first) in
    dropped g p fs n b t ∙ (ap (λ z. field_answer n (components g p n (drop n fs)) b z) tag ∙ (ap (λ z. field_answer n (components g p n (drop n fs)) z (context at)) (sym form)
    ∙ field_due g p (drop n fs) n d.0 at k.0 s due.slot d.1 here (let one = d.1 in let two = k.1 in omega arith) there due.due first))

pub anys_none : (g : Graph ℕ Simple) (p : ℕ) (fs : List (Slot ℕ)) (b : Bool) (t : Tag) → NoSlot g p fs b t → any_answer 0 (components g p 0 fs) b t ≡ Breaks UnexpectedTag []
anys_none g p fs b t none = any_none g p 0 fs b t (λ d s e u.
    let r = under_same (component g p (0 + d) s) b t u in
    let same : 0 + d ≡ d = omega arith in
    none d s (sym r.1 ∙ ap context same) e (ap (λ z. (component g p z s).constructed) (sym same) ∙ r.0))

pub anys_found : (g : Graph ℕ Simple) (p : ℕ) (fs : List (Slot ℕ)) (at : ℕ) (s : Slot ℕ) (b : Bool) (t : Tag) → t ≡ context at → slice_get fs at ≡ Some s → (component g p at s).constructed ≡ b → any_answer 0 (components g p 0 fs) b t ≡ Begins at (component g p at s)
anys_found g p fs at s b t tag is form =
    let same : 0 + at ≡ at = omega arith in
    ap (λ z. any_answer 0 (components g p 0 fs) b z) tag ∙ (ap (λ z. any_answer 0 (components g p 0 fs) z (context at)) (sym form)
    ∙ subst (λ z. any_answer 0 (components g p 0 fs) (component g p z s).constructed (context z) ≡ Begins z (component g p z s)) same (any_found g p 0 at fs s is))

field_nothing : (k : ℕ) (cs : List (Component ℕ)) (b : Bool) (t : Tag) → ((d : ℕ) (c : Component ℕ) → slice_get cs d ≡ Some c → is_under c b t ≡ false) → field_answer k cs b t ≡ Breaks UnexpectedTag []
field_nothing k [] b t none = refl
field_nothing k (c ∷ cs) b t none =
    cond-false (is_under c b t) _ _ (none 0 c refl)
    ∙ (ap (λ z. if c.required then skipping c.label z else z) (field_nothing (suc k) cs b t (λ d e is. none (suc d) e is)) ∙ either_way c.required)

refused : (c : Component ℕ) (b : Bool) (t : Tag) → (c.constructed ≡ b → c.tag ≡ t → ⊥) → is_under c b t ≡ false
refused c b t h = go (is_under c b t) refl
  where
    go : (v : Bool) → is_under c b t ≡ v → is_under c b t ≡ false
    go true e = (let r = under_same c b t e in absurd (h r.0 r.1))
    go false e = e

pub amount_none : (p c n : ℕ) (b : Bool) (t : Tag) → ((k : ℕ) → n ≤ k → k < 2 → context k ≡ t → false ≡ b → ⊥) → field_answer n (drop n (amount_components p c)) b t ≡ Breaks UnexpectedTag []
amount_none p c n b t h = field_nothing n (drop n (amount_components p c)) b t (λ d x is. by d x (sym (drop_get n d (amount_components p c)) ∙ is))
  where
    at : (k : ℕ) (x : Component ℕ) → n ≤ k → slice_get (amount_components p c) k ≡ Some x → is_under x b t ≡ false
    at zero x low is = refused x b t (λ f e. h 0 low (omega arith) (ap (λ (y : Component ℕ). y.tag) (the_first x is) ∙ e) (ap (λ (y : Component ℕ). y.constructed) (the_first x is) ∙ f))
      where
        the_first : (x : Component ℕ) → slice_get (amount_components p c) 0 ≡ Some x → slice_index_or (amount_components p c) 0 x ≡ x
        the_first x e = cc
    at (suc zero) x low is = refused x b t (λ f e. h 1 low (omega arith) (ap (λ (y : Component ℕ). y.tag) (the_second x is) ∙ e) (ap (λ (y : Component ℕ). y.constructed) (the_second x is) ∙ f))
      where
        the_second : (x : Component ℕ) → slice_get (amount_components p c) 1 ≡ Some x → slice_index_or (amount_components p c) 1 x ≡ x
        the_second x e = cc
    at (suc (suc k)) x low is = absurd cc

    by : (d : ℕ) (x : Component ℕ) → slice_get (amount_components p c) (n + d) ≡ Some x → is_under x b t ≡ false
    by d x e = at (n + d) x (omega arith) e

-- the end of a sequence from the number that is next
pub ends_none : (g : Graph ℕ Simple) (p : ℕ) (fs : List (Slot ℕ)) (n : ℕ) → NoneDue fs n (length fs) → field_end (drop n (components g p 0 fs)) ≡ Fine
ends_none g p fs n none = ap field_end (drop_components g p n 0 n fs (omega arith)) ∙ end_none g p (drop n fs) n (λ i s low high e. none (n + i) s (omega arith) (within i high) (sym (drop_get n i fs) ∙ e))
  where
    within : (i : ℕ) → i < length (drop n fs) → n + i < length fs
    within i h = (let l = length-drop n fs in omega arith)

pub ends_due : (g : Graph ℕ Simple) (p : ℕ) (fs : List (Slot ℕ)) (n e : ℕ) (due : IsDue fs n (length fs) e) → field_end (drop n (components g p 0 fs)) ≡ EndBreaks DerMissing (47 ∷ due.slot.tag)
ends_due g p fs n e due =
    let k = apart n e due.low in
    let there : slice_get (drop n fs) k.0 ≡ Some due.slot = drop_get n k.0 fs ∙ (ap (slice_get fs) k.1 ∙ due.found) in
    let first : NoneDue (drop n fs) 0 k.0 = due_from fs n k.0 (subst (NoneDue fs n) (sym k.1) due.first) in
    ap field_end (drop_components g p n 0 n fs (omega arith)) ∙ end_due g p (drop n fs) n k.0 due.slot there due.due first

pub context_class : (k : TagClass) → class_view k ≡ Context → k ≡ class.Context
context_class class.Universal e = absurd cc
context_class class.Application e = absurd cc
context_class class.Context e = refl
context_class class.Private e = absurd cc

-- a slot has to come where it is no option, and there alone
comes : (s : Slot ℕ) → has_to_come s ≡ (if is_option s then false else true)
comes s = by s.tag s.min s.max s.target
  where
    by : (tag : List ℕ) (min : ℕ) (max : Option ℕ) (target : ℕ) → (let s : Slot ℕ = record { tag = tag; min = min; max = max; target = target } in has_to_come s ≡ (if is_option s then false else true))
    by tag min None target = grind (arith, nat_tests)
    by tag min (Some most) target = grind (arith, nat_tests)

comes_firm : (s : Slot ℕ) → is_option s ≡ false → has_to_come s ≡ true
comes_firm s firm = comes s ∙ ap (λ b. if b then false else true) firm

-- options need not come
none_first : (fs : List (Slot ℕ)) (from to : ℕ) → AreOptions fs from to → NoneDue fs from to
none_first fs from to options i s low high e = comes s ∙ ap (λ b. if b then false else true) (options i s low high e)

pub due_firm : (fs : List (Slot ℕ)) (from to at : ℕ) → IsFirmAt fs from at → at < to → IsDue fs from to at
due_firm fs from to at h high = record { low = h.above; high = high; slot = h.slot; found = h.is; due = comes_firm h.slot h.firm; first = none_first fs from at h.first }

pub due_behind : (fs : List (Slot ℕ)) (from at : ℕ) → IsFirmAt fs from at → IsDue fs from (length fs) at
due_behind fs from at h = due_firm fs from (length fs) at h (slice_get_within fs at h.slot h.is)

pub none_before : (fs : List (Slot ℕ)) (from to at : ℕ) → IsFirmAt fs from at → to ≤ at → NoneDue fs from to
none_before fs from to at h past = none_first fs from to (λ i s low high e. h.first i s low (omega arith) e)

pub none_of_options : (fs : List (Slot ℕ)) (from to : ℕ) → AreOptions fs from (length fs) → NoneDue fs from to
none_of_options fs from to options = none_first fs from to (λ i s low high e. options i s low (slice_get_within fs i s e) e)

pub none_between : (fs : List (Slot ℕ)) (from to : ℕ) → to ≤ from → NoneDue fs from to
none_between fs from to past i s low high e = absurd (omega arith)
