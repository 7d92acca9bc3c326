-- Identifier octets of a component find it among those that may still come.
use Rattle.std.proofs.Common.{◌≡◌, ◌≢◌, ℕ, zero, suc, ◌+◌, ◌≤◌, ◌<◌, Bool, true, false, List, [], ◌∷◌, drop, Some, refl, sym, ap, ◌∙◌, arith}
use Rattle.std.specs.Prelude.{◌==◌, if◌then◌else◌, slice_get}
use Rattle.std.proofs.lemmas.Bool.Decides.{nat_tests}
use Rattle.std.proofs.lemmas.Bool.{and_right, and_from, cond-true, cond-false}
use Rattle.lexical_core.proofs.Tests.{same_number}
use Rattle.facets.specs.declared.simple.Simple.{Simple}
use Rattle.der_octets.specs.Octets.{Tag, context, class_bits, form_bit}
use Rattle.reference_check.specs.Forms.{Graph, Slot}
use Rattle.der_model.specs.Structures.{Component, component, components}
use Rattle.der_model.specs.States.{Begins, is_under, field_answer, any_answer, field_end, skipping}

pub other_number : (i j : ℕ) → i ≢ j → (i == j) ≡ false
other_number i j h = grind (arith, nat_tests)

-- a component has its own identifier octets
pub under_own : {P : Type 0} (c : Component P) → is_under c c.constructed c.tag ≡ true
under_own c = and_from _ _ (same_number (class_bits c.tag.class + form_bit c.constructed)) (same_number c.tag.number)

-- and not those of another number
pub under_other : {P : Type 0} (c : Component P) (i j : ℕ) (b : Bool) → c.tag ≡ context i → i < j → is_under c b (context j) ≡ false
under_other c i j b e l = and_right _ _ (ap (λ (t : Tag). t.number == j) e ∙ other_number i j (λ q. absurd (omega arith)))

pub drop_more : {A : Type 0} (k : ℕ) (xs cs : List A) (c : A) → drop k xs ≡ c ∷ cs → drop (suc k) xs ≡ cs
drop_more zero [] cs c e = absurd cc
drop_more zero (x ∷ xs) cs c e = cc
drop_more (suc k) [] cs c e = absurd cc
drop_more (suc k) (x ∷ xs) cs c e = drop_more k xs cs c e

-- components from n on are as those from k on, to identifier octets of number k or above, and to the end
pub record Skips {P : Type 0} (cs : List (Component P)) (n k : ℕ) : Type 0 where
  pub answer : (b : Bool) (j : ℕ) → k ≤ j → field_answer n (drop n cs) b (context j) ≡ field_answer k (drop k cs) b (context j)
  pub end : field_end (drop n cs) ≡ field_end (drop k cs)

pub skips_none : {P : Type 0} (cs : List (Component P)) (n : ℕ) → Skips cs n n
skips_none cs n = record { answer = λ b j l. refl; end = refl }

-- one more that does not have to come
pub skips_more : {P : Type 0} (cs more : List (Component P)) (n k : ℕ) (c : Component P) → Skips cs n k → drop k cs ≡ c ∷ more → c.tag ≡ context k → c.required ≡ false → Skips cs n (suc k)
skips_more cs more n k c skips is tag free = record {
  answer = λ b j l.
      let later = field_answer (suc k) more b (context j) in
      skips.answer b j (omega arith)
      ∙ (ap (λ z. field_answer k z b (context j)) is
      ∙ (cond-false (is_under c b (context j)) (Begins k c) (if c.required then skipping c.label later else later) (under_other c k j b tag (omega arith))
      ∙ (cond-false c.required (skipping c.label later) later free ∙ ap (λ z. field_answer (suc k) z b (context j)) (sym (drop_more k cs more c is)))));
  end = skips.end ∙ (ap field_end is ∙ (cond-false c.required _ (field_end more) free ∙ ap field_end (sym (drop_more k cs more c is))));
}

-- the component that is next
pub begins_here : {P : Type 0} (cs more : List (Component P)) (n k : ℕ) (c : Component P) → Skips cs n k → drop k cs ≡ c ∷ more → c.tag ≡ context k → field_answer n (drop n cs) c.constructed (context k) ≡ Begins k c
begins_here cs more n k c skips is tag =
    skips.answer c.constructed k (omega arith)
    ∙ (ap (λ z. field_answer k z c.constructed (context k)) is
    ∙ cond-true (is_under c c.constructed (context k)) (Begins k c) _ (ap (is_under c c.constructed) (sym tag) ∙ under_own c))

-- a slot's component is found among all
pub any_found : {P : Type 0} (g : Graph P Simple) (p : P) (i j : ℕ) (fs : List (Slot P)) (s : Slot P) → slice_get fs j ≡ Some s → any_answer i (components g p i fs) (component g p (i + j) s).constructed (context (i + j)) ≡ Begins (i + j) (component g p (i + j) s)
any_found g p i j [] s e = absurd cc
any_found g p i zero (f ∷ fs) s e =
    let same : f ≡ s = cc in
    let here : i + 0 ≡ i = omega arith in
    rw (here, ← same) (cond-true (is_under (component g p i f) (component g p i f).constructed (context i)) (Begins i (component g p i f)) _ (under_own (component g p i f)))
any_found g p i (suc j) (f ∷ fs) s e =
    let there : i + suc j ≡ suc i + j = omega arith in
    let rest = any_found g p (suc i) j fs s e in
    cond-false (is_under (component g p i f) (component g p (i + suc j) s).constructed (context (i + suc j))) _ _ (under_other (component g p i f) i (i + suc j) (component g p (i + suc j) s).constructed refl (omega arith))
    ∙ rw there rest
