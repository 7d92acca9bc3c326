-- One open value: identifier octets, or the end, may come exactly where the components that it may hold go on so.
use Rattle.std.proofs.Common.{◌≡◌, ℕ, zero, suc, ◌+◌, ◌-◌, ◌≤◌, Bool, true, false, List, [], ◌∷◌, length, drop, replicate, Option, Some, None, refl, sym, ap, ◌∙◌, subst, arith, inl, inr, drop-drop}
use Rattle.std.specs.Prelude.{slice_get, nat_lt}
use Rattle.std.specs.List.{AllByRecursion}
use Rattle.std.proofs.lemmas.Bool.Decides.{nat_tests}
use Rattle.std.proofs.lemmas.Bool.{cond-true, cond-false}
use Rattle.std.proofs.lemmas.List.{length-replicate}
use Rattle.lexical_core.specs.declared.rule.Rule.TheVariants as rule
use Rattle.der_octets.specs.Octets.{Tag}
use Rattle.reference_check.proofs.Words.{has_room_of, up_to_filled, up_to_less}
use Rattle.reference_check.specs.Words.{UpTo}
use Rattle.reference_check.specs.Steps.{has_room}
use Rattle.message_model.proofs.Ahead.{drop_get}
use Rattle.der_model.specs.Structures.{Component, Structure, Holds, Fields, OneOf, Items, Empty}
use Rattle.der_model.specs.States.{IdentifierAnswer, Begins, Breaks, Fine, EndBreaks, is_under, field_answer, any_answer, next_number, item_answer, identifier_answer, field_end, item_end, end_answer, missing_text}
use Rattle.der_model.specs.OpenParts.{AreInOrder, MayHoldComponents, components_of}
use Rattle.der_model.proofs.Fields.{under_own}
use Rattle.der_model.proofs.WholeValues.{under_same}
use Rattle.der_model.proofs.BegunSlots.{no_begin}

-- no component has the form and tag of a later one
abbrev pub AreApart : {P : Type 0} → List (Component P) → Type 0
AreApart [] = Unit {0}
AreApart {P} (c ∷ cs) = ((j : ℕ) (e : Component P) → slice_get cs j ≡ Some e → is_under c e.constructed e.tag ≡ false) × AreApart cs

-- the components that may still come behind these, the latest first
abbrev pub Remain : {P : Type 0} → Structure P → List ℕ → List ℕ → Type 0
Remain (Fields cs) came d = AreInOrder (next_number came) (drop (next_number came) cs) d
Remain (OneOf cs) [] d = (k : ℕ) × (d ≡ k ∷ [])
Remain (OneOf cs) (j ∷ came) d = d ≡ []
Remain (Items s cs) came d = (s.min ≤ length came + length d) × UpTo (length came + length d) s.max
Remain _ came d = d ≡ []

-- not too many have come
abbrev pub HasRoom : {P : Type 0} → Structure P → List ℕ → Type 0
HasRoom (Items s cs) came = UpTo (length came) s.max
HasRoom _ came = Unit {0}

apart_drop : {P : Type 0} (n : ℕ) (cs : List (Component P)) → AreApart cs → AreApart (drop n cs)
apart_drop zero cs h = h
apart_drop (suc n) [] h = h
apart_drop (suc n) (c ∷ cs) h = apart_drop n cs h.1

-- ---- components in order

order_low : {P : Type 0} (n k : ℕ) (cs : List (Component P)) (d : List ℕ) → AreInOrder n cs (k ∷ d) → n ≤ k
order_low n k [] d h = absurd cc
order_low n k (c ∷ cs) d (inl (rest, e, o)) = (let same : k ≡ n = cc in omega arith)
order_low n k (c ∷ cs) d (inr (free, o)) = (let r : suc n ≤ k = order_low (suc n) k cs d o in omega arith)

-- the component that comes next is found
field_begins : {P : Type 0} (n k i : ℕ) (cs : List (Component P)) (d : List ℕ) (c : Component P) → AreApart cs → AreInOrder n cs (k ∷ d) → k ≡ n + i → slice_get cs i ≡ Some c
    → (field_answer n cs c.constructed c.tag ≡ Begins k c) × AreInOrder (suc k) (drop (suc i) cs) d
field_begins n k i [] d c apart h e found = absurd cc
field_begins n k zero (x ∷ cs) d c apart (inl (rest, e', o)) e found =
    let at : k ≡ n = cc in
    let same : x ≡ c = cc in
    let tail : d ≡ rest = cc in
    rw (at, ← same, tail) (cond-true (is_under x x.constructed x.tag) (Begins n x) _ (under_own x), o)
field_begins n k (suc i) (x ∷ cs) d c apart (inl (rest, e', o)) e found = (let at : k ≡ n = cc in absurd (omega arith))
field_begins n k zero (x ∷ cs) d c apart (inr (free, o)) e found = (let low : suc n ≤ k = order_low (suc n) k cs d o in absurd (omega arith))
field_begins n k (suc i) (x ∷ cs) d c apart (inr (free, o)) e found =
    let r : (field_answer (suc n) cs c.constructed c.tag ≡ Begins k c) × AreInOrder (suc k) (drop (suc i) cs) d = field_begins (suc n) k i cs d c apart.1 o (omega arith) found in
    (cond-false (is_under x c.constructed c.tag) _ _ (apart.0 i c found) ∙ (cond-false x.required _ _ free ∙ r.0), r.1)

-- a component that begins: it is there under its own form and tag, and what may come behind it may come with it
pub record Found {P : Type 0} (n : ℕ) (cs : List (Component P)) (b : Bool) (t : Tag) (k : ℕ) (c : Component P) : Type 0 where
  pub off : ℕ
  pub number : k ≡ n + off
  pub there : slice_get cs off ≡ Some c
  pub form : c.constructed ≡ b
  pub tag : c.tag ≡ t

field_found : {P : Type 0} (n k : ℕ) (cs : List (Component P)) (b : Bool) (t : Tag) (c : Component P) → field_answer n cs b t ≡ Begins k c
    → (f : Found n cs b t k c) × ((d : List ℕ) → AreInOrder (suc k) (drop (suc f.off) cs) d → AreInOrder n cs (k ∷ d))
field_found n k [] b t c e = absurd cc
field_found {P} n k (x ∷ cs) b t c e = go (is_under x b t) refl x.required refl (λ h. field_found (suc n) k cs b t c h)
  where
    go : (u : Bool) → is_under x b t ≡ u → (r : Bool) → x.required ≡ r
        → (field_answer (suc n) cs b t ≡ Begins k c → (f : Found (suc n) cs b t k c) × ((d : List ℕ) → AreInOrder (suc k) (drop (suc f.off) cs) d → AreInOrder (suc n) cs (k ∷ d))) → (f : Found n (x ∷ cs) b t k c) × ((d : List ℕ) → AreInOrder (suc k) (drop (suc f.off) (x ∷ cs)) d → AreInOrder n (x ∷ cs) (k ∷ d))
    go true h r q again = here (sym (cond-true (is_under x b t) _ _ h) ∙ e)
      where
        here : ◌≡◌ {A = IdentifierAnswer P} (Begins n x) (Begins k c) → (f : Found n (x ∷ cs) b t k c) × ((d : List ℕ) → AreInOrder (suc k) (drop (suc f.off) (x ∷ cs)) d → AreInOrder n (x ∷ cs) (k ∷ d))
        here d =
            let at : n ≡ k = cc in
            let same : x ≡ c = cc in
            let u : (x.constructed ≡ b) × (x.tag ≡ t) = under_same x b t h in (
              record { off = 0; number = omega arith; there = ap Some same; form = subst (λ (z : Component P). z.constructed ≡ b) same u.0; tag = subst (λ (z : Component P). z.tag ≡ t) same u.1 },
              λ d o. inl (d, ap (λ z. z ∷ d) (sym at), subst (λ z. AreInOrder (suc z) cs d) (sym at) o),
            )
    go false h true q again = absurd (no_begin _ _ k c (sym (cond-true x.required _ _ q) ∙ (sym (cond-false (is_under x b t) _ _ h) ∙ e)))
    go false h false q again = more (again (sym (cond-false x.required _ _ q) ∙ (sym (cond-false (is_under x b t) _ _ h) ∙ e)))
      where
        more : ((f : Found (suc n) cs b t k c) × ((d : List ℕ) → AreInOrder (suc k) (drop (suc f.off) cs) d → AreInOrder (suc n) cs (k ∷ d))) → (f : Found n (x ∷ cs) b t k c) × ((d : List ℕ) → AreInOrder (suc k) (drop (suc f.off) (x ∷ cs)) d → AreInOrder n (x ∷ cs) (k ∷ d))
        more (f, later) = (let at : k ≡ suc n + f.off = f.number in (record { off = suc f.off; number = omega arith; there = f.there; form = f.form; tag = f.tag }, λ d o. inr (q, later d o)))

order_ends : {P : Type 0} (n : ℕ) (cs : List (Component P)) → AreInOrder n cs [] → field_end cs ≡ Fine
order_ends n [] h = refl
order_ends n (c ∷ cs) (inl (rest, e, o)) = absurd cc
order_ends n (c ∷ cs) (inr (free, o)) = cond-false c.required _ _ free ∙ order_ends (suc n) cs o

ends_order : {P : Type 0} (n : ℕ) (cs : List (Component P)) → field_end cs ≡ Fine → AreInOrder n cs []
ends_order n [] e = refl
ends_order {P} n (c ∷ cs) e = go c.required refl (λ h. ends_order (suc n) cs h)
  where
    go : (r : Bool) → c.required ≡ r → (field_end cs ≡ Fine → AreInOrder (suc n) cs []) → AreInOrder n (c ∷ cs) []
    go true h again = absurd (let q : EndBreaks rule.DerMissing (missing_text c.label) ≡ Fine = sym (cond-true c.required _ _ h) ∙ e in cc)
    go false h again = inr (h, again (sym (cond-false c.required _ _ h) ∙ e))

-- ---- one of several

any_begins : {P : Type 0} (n i : ℕ) (cs : List (Component P)) (c : Component P) → AreApart cs → slice_get cs i ≡ Some c → any_answer n cs c.constructed c.tag ≡ Begins (n + i) c
any_begins n i [] c apart found = absurd cc
any_begins n zero (x ∷ cs) c apart found =
    let same : x ≡ c = cc in
    let at : n + 0 ≡ n = omega arith in
    rw (at, ← same) (cond-true (is_under x x.constructed x.tag) (Begins n x) _ (under_own x))
any_begins n (suc i) (x ∷ cs) c apart found =
    let at : n + suc i ≡ suc n + i = omega arith in
    rw at (cond-false (is_under x c.constructed c.tag) _ _ (apart.0 i c found) ∙ any_begins (suc n) i cs c apart.1 found)

any_found : {P : Type 0} (n k : ℕ) (cs : List (Component P)) (b : Bool) (t : Tag) (c : Component P) → any_answer n cs b t ≡ Begins k c → Found n cs b t k c
any_found n k [] b t c e = absurd cc
any_found {P} n k (x ∷ cs) b t c e = go (is_under x b t) refl (λ h. any_found (suc n) k cs b t c h)
  where
    go : (u : Bool) → is_under x b t ≡ u → (any_answer (suc n) cs b t ≡ Begins k c → Found (suc n) cs b t k c) → Found n (x ∷ cs) b t k c
    go true h again = here (sym (cond-true (is_under x b t) _ _ h) ∙ e)
      where
        here : ◌≡◌ {A = IdentifierAnswer P} (Begins n x) (Begins k c) → Found n (x ∷ cs) b t k c
        here d =
            let at : n ≡ k = cc in
            let same : x ≡ c = cc in
            let u : (x.constructed ≡ b) × (x.tag ≡ t) = under_same x b t h in
            record { off = 0; number = omega arith; there = ap Some same; form = subst (λ (z : Component P). z.constructed ≡ b) same u.0; tag = subst (λ (z : Component P). z.tag ≡ t) same u.1 }
    go false h again = (let f : Found (suc n) cs b t k c = again (sym (cond-false (is_under x b t) _ _ h) ∙ e) in let at : k ≡ suc n + f.off = f.number in record { off = suc f.off; number = omega arith; there = f.there; form = f.form; tag = f.tag })

pub room_in : {P : Type 0} (r : Bool) (a : IdentifierAnswer P) (k : ℕ) (c : Component P) → item_answer r a ≡ Begins k c → (r ≡ true) × (a ≡ Begins k c)
room_in true a k c e = (refl, e)
room_in false (Begins j d) k c e = absurd cc
room_in false (Breaks r x) k c e = absurd cc

pub room_less : (n : ℕ) (max : Option ℕ) → has_room n max ≡ true → UpTo (suc n) max
room_less n None e = tt
room_less n (Some top) e = less n top e
  where
    less : (n top : ℕ) → nat_lt n top ≡ true → suc n ≤ top
    less n top e = grind (arith, nat_tests)

pub up_to_same : (n m : ℕ) (max : Option ℕ) → n ≡ m → UpTo n max → UpTo m max
up_to_same n m max e u = rw (← e) u

-- ---- a value of any structure

begins_as : {P : Type 0} (i k : ℕ) (c : Component P) (a : IdentifierAnswer P) → i ≡ k → a ≡ Begins i c → a ≡ Begins k c
begins_as i k c a e h = rw e at h

-- a component that remains begins
pub remains_begins : {P : Type 0} (sh : Structure P) (came : List ℕ) (k : ℕ) (d : List ℕ) (c : Component P) → AreApart (components_of sh) → Remain sh came (k ∷ d) → slice_get (components_of sh) k ≡ Some c
    → (identifier_answer sh came c.constructed c.tag ≡ Begins k c) × Remain sh (k ∷ came) d
remains_begins {P} (Fields cs) came k d c apart h found =
    let n : ℕ = next_number came in
    let low : n ≤ k = order_low n k (drop n cs) d h in
    let at : k ≡ n + (k - n) = omega arith in
    let behind : n + suc (k - n) ≡ suc k = omega arith in
    let there : slice_get (drop n cs) (k - n) ≡ Some c = drop_get n (k - n) cs ∙ (ap (slice_get cs) (sym at) ∙ found) in
    let r : (field_answer n (drop n cs) c.constructed c.tag ≡ Begins k c) × AreInOrder (suc k) (drop (suc (k - n)) (drop n cs)) d = field_begins n k (k - n) (drop n cs) d c (apart_drop n cs apart) h at there in
    let same : drop (suc (k - n)) (drop n cs) ≡ drop (suc k) cs = drop-drop (suc (k - n)) n cs ∙ ap (λ j. drop j cs) behind in
    (r.0, subst (λ (z : List (Component P)). AreInOrder (suc k) z d) same r.1)
remains_begins {P} (OneOf cs) [] k d c apart (j, e) found =
    let r : any_answer 0 cs c.constructed c.tag ≡ Begins (0 + k) c = any_begins 0 k cs c apart found in
    let at : 0 + k ≡ k = omega arith in
    (begins_as (0 + k) k c _ at r, cc)
remains_begins (OneOf cs) (j ∷ came) k d c apart h found = absurd cc
remains_begins {P} (Items s cs) came k d c apart (low, top) found =
    let r : any_answer 0 cs c.constructed c.tag ≡ Begins (0 + k) c = any_begins 0 k cs c apart found in
    let at : 0 + k ≡ k = omega arith in
    let room : has_room (length came) s.max ≡ true = has_room_of (length came) (length came + length (k ∷ d)) s.max (omega arith) top in
    (rw room (begins_as (0 + k) k c _ at r), (omega arith, up_to_same _ _ s.max (omega arith) top))
remains_begins (Holds contents) came k d c apart h found = absurd cc
remains_begins Empty came k d c apart h found = absurd cc

-- what begins is a component, behind which what remains may come
pub begins_remains : {P : Type 0} (sh : Structure P) (came : List ℕ) (b : Bool) (t : Tag) (k : ℕ) (c : Component P) → identifier_answer sh came b t ≡ Begins k c
    → (slice_get (components_of sh) k ≡ Some c) × (c.constructed ≡ b) × (c.tag ≡ t) × HasRoom sh (k ∷ came) × ((d : List ℕ) → Remain sh (k ∷ came) d → Remain sh came (k ∷ d))
begins_remains {P} (Fields cs) came b t k c e =
    let n : ℕ = next_number came in
    let r : (f : Found n (drop n cs) b t k c) × ((d : List ℕ) → AreInOrder (suc k) (drop (suc f.off) (drop n cs)) d → AreInOrder n (drop n cs) (k ∷ d)) = field_found n k (drop n cs) b t c e in
    let at : k ≡ n + r.0.off = r.0.number in
    let behind : n + suc r.0.off ≡ suc k = omega arith in
    let same : drop (suc r.0.off) (drop n cs) ≡ drop (suc k) cs = drop-drop (suc r.0.off) n cs ∙ ap (λ j. drop j cs) behind in
    (ap (slice_get cs) at ∙ (sym (drop_get n r.0.off cs) ∙ r.0.there), r.0.form, r.0.tag, tt, λ d o. r.1 d (subst (λ (z : List (Component P)). AreInOrder (suc k) z d) (sym same) o))
begins_remains (OneOf cs) [] b t k c e =
    let f : Found 0 cs b t k c = any_found 0 k cs b t c e in
    let at : k ≡ 0 + f.off = f.number in
    let same : k ≡ f.off = omega arith in
    (ap (slice_get cs) same ∙ f.there, f.form, f.tag, tt, λ d o. (k, ap (λ z. k ∷ z) o))
begins_remains (OneOf cs) (j ∷ came) b t k c e = absurd cc
begins_remains (Items s cs) came b t k c e =
    let q : (has_room (length came) s.max ≡ true) × (any_answer 0 cs b t ≡ Begins k c) = room_in (has_room (length came) s.max) (any_answer 0 cs b t) k c e in
    let f : Found 0 cs b t k c = any_found 0 k cs b t c q.1 in
    let at : k ≡ 0 + f.off = f.number in
    let same : k ≡ f.off = omega arith in
    (ap (slice_get cs) same ∙ f.there, f.form, f.tag, room_less (length came) s.max q.0, λ d o. (omega (arith, o.0), up_to_same _ _ s.max (omega arith) o.1))
begins_remains (Holds contents) came b t k c e = absurd cc
begins_remains Empty came b t k c e = absurd cc

item_ends : (n m : ℕ) → m ≤ n → item_end (nat_lt n m) ≡ Fine
item_ends n m l = (let e : nat_lt n m ≡ false = ge n m l in rw e refl)
  where
    ge : (n m : ℕ) → m ≤ n → nat_lt n m ≡ false
    ge n m l = grind (arith, nat_tests)

pub ends_item : (n m : ℕ) → item_end (nat_lt n m) ≡ Fine → m ≤ n
ends_item n m e = go (nat_lt n m) refl e
  where
    go : (b : Bool) → nat_lt n m ≡ b → item_end b ≡ Fine → m ≤ n
    go true h e = absurd cc
    go false h e = grind (arith, nat_tests)

-- where nothing has to remain the end may come
pub none_remains : {P : Type 0} (sh : Structure P) (came : List ℕ) → Remain sh came [] → end_answer sh came ≡ Fine
none_remains (Fields cs) came h = order_ends (next_number came) (drop (next_number came) cs) h
none_remains (OneOf cs) [] (k, e) = absurd cc
none_remains (OneOf cs) (j ∷ came) h = refl
none_remains (Items s cs) came h = item_ends (length came) s.min (omega (arith, h.0))
none_remains (Holds contents) came h = refl
none_remains Empty came h = refl

pub ends_remain : {P : Type 0} (sh : Structure P) (came : List ℕ) → HasRoom sh came → end_answer sh came ≡ Fine → Remain sh came []
ends_remain (Fields cs) came room e = ends_order (next_number came) (drop (next_number came) cs) e
ends_remain (OneOf cs) [] room e = absurd cc
ends_remain (OneOf cs) (j ∷ came) room e = refl
ends_remain (Items s cs) came room e = (let low : s.min ≤ length came = ends_item (length came) s.min e in (omega arith, up_to_same _ _ s.max (omega arith) room))
ends_remain (Holds contents) came room e = refl
ends_remain Empty came room e = refl

-- ---- from the beginning, and to the end

pub hold_remain : {P : Type 0} (sh : Structure P) (d : List ℕ) → MayHoldComponents sh d → Remain sh [] d
hold_remain (Fields cs) d h = h
hold_remain (OneOf cs) d h = h
hold_remain (Items s cs) d h = (omega (arith, h.0), up_to_same _ _ s.max (omega arith) h.1)
hold_remain (Holds contents) d h = h
hold_remain Empty d h = h

pub remain_hold : {P : Type 0} (sh : Structure P) (d : List ℕ) → Remain sh [] d → MayHoldComponents sh d
remain_hold (Fields cs) d h = h
remain_hold (OneOf cs) d h = h
remain_hold (Items s cs) d h = (omega (arith, h.0), up_to_same _ _ s.max (omega arith) h.1)
remain_hold (Holds contents) d h = h
remain_hold Empty d h = h

pub room_first : {P : Type 0} (sh : Structure P) → HasRoom sh []
room_first (Fields cs) = tt
room_first (OneOf cs) = tt
room_first (Items s cs) = none s.max
  where
    none : (max : Option ℕ) → UpTo 0 max
    none None = tt
    none (Some top) = omega arith
room_first (Holds contents) = tt
room_first Empty = tt

abbrev pub AreComponents : {P : Type 0} → List (Component P) → List ℕ → Type 0
AreComponents {P} cs d = AllByRecursion (λ k. (c : Component P) × (slice_get cs k ≡ Some c)) d

all_in_order : {P : Type 0} (all : List (Component P)) (n : ℕ) (cs : List (Component P)) → ((i : ℕ) (c : Component P) → slice_get cs i ≡ Some c → slice_get all (n + i) ≡ Some c) → (d : List ℕ) × AreInOrder n cs d × AreComponents all d
all_in_order all n [] here = ([], refl, tt)
all_in_order all n (c ∷ cs) here =
    let r : (d : List ℕ) × AreInOrder (suc n) cs d × AreComponents all d = all_in_order all (suc n) cs (λ i e f. (let at : n + suc i ≡ suc n + i = omega arith in rw at at (here (suc i) e f))) in
    (n ∷ r.0, inl (r.0, refl, r.1), ((c, (let at : n + 0 ≡ n = omega arith in rw at at (here 0 c refl))), r.2))

same_components : {P : Type 0} (cs : List (Component P)) (k n : ℕ) (c : Component P) → slice_get cs k ≡ Some c → AreComponents cs (replicate n k)
same_components cs k zero c found = tt
same_components cs k (suc n) c found = ((c, found), same_components cs k n c found)

-- some components may come behind those that have, up to the end
pub remain_some : {P : Type 0} (sh : Structure P) (came d : List ℕ) → MayHoldComponents sh d → AreComponents (components_of sh) d → HasRoom sh came → (more : List ℕ) × Remain sh came more × AreComponents (components_of sh) more
remain_some (Fields cs) came d h each room =
    all_in_order cs (next_number came) (drop (next_number came) cs) (λ i c found. sym (drop_get (next_number came) i cs) ∙ found)
remain_some (OneOf cs) [] d h each room = (d, h, each)
remain_some (OneOf cs) (j ∷ came) d h each room = ([], refl, tt)
remain_some (Items s cs) came [] h each room = ([], (omega (arith, h.0), up_to_same _ _ s.max (omega arith) room), tt)
remain_some (Items s cs) came (k ∷ d) h ((c, found), each) room =
    let count : length (replicate (s.min - length came) k) ≡ s.min - length came = length-replicate (s.min - length came) k in (
      replicate (s.min - length came) k,
      (omega (arith, count), up_to_same _ _ s.max (ap (λ z. length came + z) (sym count)) (up_to_filled (length came) s.min s.max room (up_to_less s.min (length (k ∷ d)) s.max h.0 h.1))),
      same_components cs k (s.min - length came) c found,
    )
remain_some (Holds contents) came d h each room = ([], refl, tt)
remain_some Empty came d h each room = ([], refl, tt)
