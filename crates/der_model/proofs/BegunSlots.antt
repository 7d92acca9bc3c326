-- Which slot the component is that identifier octets begin.
use Rattle.std.proofs.Common.{◌≡◌, ℕ, zero, suc, ◌+◌, ◌≤◌, ◌<◌, Bool, true, false, List, [], ◌∷◌, length, drop, Some, refl, sym, ap, ◌∙◌, subst, arith}
use Rattle.std.specs.Prelude.{slice_get}
use Rattle.std.proofs.lemmas.Bool.{cond-true, cond-false}
use Rattle.std.proofs.lemmas.Option.{slice_get_within}
use Rattle.lexical_core.specs.declared.rule.Rule.TheVariants as rule
use Rattle.facets.specs.declared.simple.Simple.{Simple}
use Rattle.der_octets.specs.Octets.{Tag, context}
use Rattle.reference_check.specs.Forms.{Graph, Slot}
use Rattle.der_model.specs.DerMessage.{DerMessage}
use Rattle.der_model.specs.Structures.{Label, Component, component, components, is_single}
use Rattle.der_model.specs.States.{IdentifierAnswer, Begins, Breaks, is_under, field_answer, any_answer, skipping, next_number}
use Rattle.der_model.proofs.WholeValues.{under_same}
use Rattle.der_model.proofs.ChildLists.{free_slot}

-- identifier octets that begin a component of slots in order
pub record Next {P : Type 0} (g : Graph P Simple) (p : P) (i : ℕ) (fs : List (Slot P)) (b : Bool) (t : Tag) (k : ℕ) (c : Component P) : Type 0 where
  pub off : ℕ
  pub slot : Slot P
  pub number : k ≡ i + off
  pub there : slice_get fs off ≡ Some slot
  pub is : c ≡ component g p k slot
  pub own : is_under c b t ≡ true
  pub free : (a : ℕ) (u : Slot P) → a < off → slice_get fs a ≡ Some u → (component g p (i + a) u).required ≡ false

pub no_begin : {P : Type 0} (l : Label) (a : IdentifierAnswer P) (k : ℕ) (c : Component P) → skipping l a ≡ Begins k c → ⊥
no_begin l (Begins j d) k c e = absurd cc
no_begin l (Breaks rule.UnexpectedTag x) k c e = absurd cc
no_begin l (Breaks r x) k c e = absurd cc

next_slot : {P : Type 0} (g : Graph P Simple) (p : P) (i : ℕ) (fs : List (Slot P)) (b : Bool) (t : Tag) (k : ℕ) (c : Component P) → field_answer i (components g p i fs) b t ≡ Begins k c → Next g p i fs b t k c
next_slot g p i [] b t k c e = absurd cc
next_slot {P} g p i (s ∷ fs) b t k c e = go (is_under (component g p i s) b t) refl (component g p i s).required refl (λ h. next_slot g p (suc i) fs b t k c h)
  where
    later : IdentifierAnswer P
    later = field_answer (suc i) (components g p (suc i) fs) b t

    go : (u : Bool) → is_under (component g p i s) b t ≡ u → (r : Bool) → (component g p i s).required ≡ r → (field_answer (suc i) (components g p (suc i) fs) b t ≡ Begins k c → Next g p (suc i) fs b t k c) → Next g p i (s ∷ fs) b t k c
    go true h r q again = here (sym (cond-true (is_under (component g p i s) b t) _ _ h) ∙ e)
      where
        here : Begins i (component g p i s) ≡ Begins k c → Next g p i (s ∷ fs) b t k c
        here d =
            let same : i ≡ k = cc in
            let comp : component g p i s ≡ c = cc in
            record {
              off = 0;
              slot = s;
              number = omega arith;
              there = refl;
              is = sym comp ∙ ap (λ z. component g p z s) same;
              own = subst (λ z. is_under z b t ≡ true) comp h;
              free = λ a u l f. absurd (omega arith);
            }
    go false h true q again = absurd (no_begin _ _ k c (sym (cond-true (component g p i s).required _ _ q) ∙ (sym (cond-false (is_under (component g p i s) b t) _ _ h) ∙ e)))
    go false h false q again =
        let r = again (sym (cond-false (component g p i s).required _ _ q) ∙ (sym (cond-false (is_under (component g p i s) b t) _ _ h) ∙ e)) in
        let counted = r.number in
        record {
          off = suc r.off;
          slot = r.slot;
          number = omega arith;
          there = r.there;
          is = r.is;
          own = r.own;
          free = λ a u l f. free a u l f r.free;
        }
      where
        free : {off : ℕ} (a : ℕ) (u : Slot P) → a < suc off → slice_get (s ∷ fs) a ≡ Some u → ((a : ℕ) (u : Slot P) → a < off → slice_get fs a ≡ Some u → (component g p (suc i + a) u).required ≡ false) → (component g p (i + a) u).required ≡ false
        free zero u l f rest =
            let same : s ≡ u = cc in
            let here : i + 0 ≡ i = omega arith in
            subst (λ (z : Slot P). (component g p (i + 0) z).required ≡ false) same (subst (λ z. (component g p z s).required ≡ false) (sym here) q)
        free (suc a) u l f rest = (let there : i + suc a ≡ suc i + a = omega arith in subst (λ z. (component g p z u).required ≡ false) (sym there) (rest a u (omega arith) f))

-- one of several
pub any_slot : {P : Type 0} (g : Graph P Simple) (p : P) (i : ℕ) (fs : List (Slot P)) (b : Bool) (t : Tag) (k : ℕ) (c : Component P) → any_answer i (components g p i fs) b t ≡ Begins k c → (off : ℕ) × (s : Slot P) × (k ≡ i + off) × (slice_get fs off ≡ Some s) × (c ≡ component g p k s) × (is_under c b t ≡ true)
any_slot g p i [] b t k c e = absurd cc
any_slot {P} g p i (s ∷ fs) b t k c e = go (is_under (component g p i s) b t) refl (λ h. any_slot g p (suc i) fs b t k c h)
  where
    go : (u : Bool) → is_under (component g p i s) b t ≡ u → (any_answer (suc i) (components g p (suc i) fs) b t ≡ Begins k c → (off : ℕ) × (s : Slot P) × (k ≡ suc i + off) × (slice_get fs off ≡ Some s) × (c ≡ component g p k s) × (is_under c b t ≡ true))
        → (off : ℕ) × (u : Slot P) × (k ≡ i + off) × (slice_get (s ∷ fs) off ≡ Some u) × (c ≡ component g p k u) × (is_under c b t ≡ true)
    go true h again = here (sym (cond-true (is_under (component g p i s) b t) _ _ h) ∙ e)
      where
        here : Begins i (component g p i s) ≡ Begins k c → (off : ℕ) × (u : Slot P) × (k ≡ i + off) × (slice_get (s ∷ fs) off ≡ Some u) × (c ≡ component g p k u) × (is_under c b t ≡ true)
        here d =
            let same : i ≡ k = cc in
            let comp : component g p i s ≡ c = cc in
            (0, s, omega arith, refl, sym comp ∙ ap (λ z. component g p z s) same, subst (λ z. is_under z b t ≡ true) comp h)
    go false h again =
        let r = again (sym (cond-false (is_under (component g p i s) b t) _ _ h) ∙ e) in
        (suc r.0, r.1, omega (arith, r.2), r.3, r.4, r.5)

pub drop_get : {A : Type 0} (fs : List A) (k : ℕ) (s : A) → slice_get fs k ≡ Some s → drop k fs ≡ s ∷ drop (suc k) fs
drop_get [] k s e = absurd cc
drop_get (f ∷ fs) zero s e = cc
drop_get (f ∷ fs) (suc k) s e = drop_get fs k s e

pub get_drop : {A : Type 0} (n k : ℕ) (fs : List A) (s : A) → slice_get (drop n fs) k ≡ Some s → slice_get fs (n + k) ≡ Some s
get_drop zero k fs s e = (let q : k ≡ 0 + k = omega arith in subst (λ z. slice_get fs z ≡ Some s) q e)
get_drop (suc n) k [] s e = absurd cc
get_drop (suc n) k (f ∷ fs) s e = (let q : suc (n + k) ≡ suc n + k = omega arith in subst (λ z. slice_get (f ∷ fs) z ≡ Some s) q (get_drop n k fs s e))

pub drop_components : {P : Type 0} (g : Graph P Simple) (p : P) (i n : ℕ) (fs : List (Slot P)) → drop n (components g p i fs) ≡ components g p (i + n) (drop n fs)
drop_components g p i zero fs = (let e : i ≡ i + 0 = omega arith in ap (λ z. components g p z fs) e)
drop_components g p i (suc n) [] = refl
drop_components g p i (suc n) (f ∷ fs) = (let e : suc i + n ≡ i + suc n = omega arith in drop_components g p (suc i) n fs ∙ ap (λ z. components g p z (drop n fs)) e)

pub apart_by : (n i : ℕ) → n ≤ i → (a : ℕ) × (i ≡ n + a)
apart_by zero i l = (i, omega arith)
apart_by (suc n) zero l = absurd (omega arith)
apart_by (suc n) (suc i) l = (let r = apart_by n i (omega arith) in (r.0, let e : suc i ≡ suc n + r.0 = omega (arith, r.1) in e))

pub put_drop : {A : Type 0} (n k : ℕ) (fs : List A) (s : A) → slice_get fs (n + k) ≡ Some s → slice_get (drop n fs) k ≡ Some s
put_drop zero k fs s e = (let q : 0 + k ≡ k = omega arith in subst (λ z. slice_get fs z ≡ Some s) q e)
put_drop (suc n) k [] s e = absurd cc
put_drop (suc n) k (f ∷ fs) s e = (let q : suc n + k ≡ suc (n + k) = omega arith in put_drop n k fs s (subst (λ z. slice_get (f ∷ fs) z ≡ Some s) q e))

-- a component that begins, among those that may still come
pub record Begun {P : Type 0} (m : DerMessage P) (p : P) (fs : List (Slot P)) (n : ℕ) (b : Bool) (t : Tag) (k : ℕ) (c : Component P) : Type 0 where
  pub slot : Slot P
  pub off : ℕ
  pub number : k ≡ n + off
  pub there : slice_get fs k ≡ Some slot
  pub room : off ≤ length (drop n fs)
  pub is : c ≡ component m.forms p k slot
  pub form : (component m.forms p k slot).constructed ≡ b
  pub tag : context k ≡ t
  pub free : (i : ℕ) (u : Slot P) → n ≤ i → i < k → slice_get fs i ≡ Some u → (is_single u ≡ true) × (u.min ≡ 0)

pub begun_slot : {P : Type 0} (m : DerMessage P) (p : P) (fs : List (Slot P)) (n : ℕ) (came : List ℕ) (b : Bool) (t : Tag) (k : ℕ) (c : Component P) → next_number came ≡ n
    → field_answer (next_number came) (drop (next_number came) (components m.forms p 0 fs)) b t ≡ Begins k c → Begun m p fs n b t k c
begun_slot {P} m p fs n came b t k c next e =
    let g = m.forms in
    let zero_plus : 0 + n ≡ n = omega arith in
    let cs : drop n (components g p 0 fs) ≡ components g p n (drop n fs) = drop_components g p 0 n fs ∙ ap (λ z. components g p z (drop n fs)) zero_plus in
    let e2 : field_answer n (drop n (components g p 0 fs)) b t ≡ Begins k c = subst (λ z. field_answer z (drop z (components g p 0 fs)) b t ≡ Begins k c) next e in
    let r = next_slot g p n (drop n fs) b t k c (ap (λ z. field_answer n z b t) (sym cs) ∙ e2) in
    let same = under_same c b t r.own in
    let there = get_drop n r.off fs r.slot r.there in
    let room = slice_get_within (drop n fs) r.off r.slot r.there in
    record {
      slot = r.slot;
      off = r.off;
      number = r.number;
      there = subst (λ z. slice_get fs z ≡ Some r.slot) (sym r.number) there;
      room = omega arith;
      is = r.is;
      form = sym (ap (λ (z : Component P). z.constructed) r.is) ∙ same.0;
      tag = sym (ap (λ (z : Component P). z.tag) r.is) ∙ same.1;
      free = λ i u l h f. free i u l h f r.off r.number r.free;
    }
  where
    free : (i : ℕ) (u : Slot P) → n ≤ i → i < k → slice_get fs i ≡ Some u → (off : ℕ) → k ≡ n + off → ((a : ℕ) (u : Slot P) → a < off → slice_get (drop n fs) a ≡ Some u → (component m.forms p (n + a) u).required ≡ false) → (is_single u ≡ true) × (u.min ≡ 0)
    free i u l h f off number each =
        let a = apart_by n i l in
        let same = a.1 in
        free_slot m.forms p (n + a.0) u (each a.0 u (omega arith) (put_drop n a.0 fs u (subst (λ z. slice_get fs z ≡ Some u) a.1 f)))
