-- At a place, in a state, at most one part stands; and where one stands no header stops.
use Rattle.std.proofs.Common.{◌≡◌, ℕ, ◌<◌, Bool, List, [], ◌∷◌, ◌++◌, length, refl, sym, ap, ◌∙◌, subst, arith, append_assoc, append-nil, length-append, inl, inr}
use Rattle.std.proofs.lemmas.Bool.{cases_lt}
use Rattle.der_octets.specs.Octets.{Tag, identifier, length_octets}
use Rattle.der_octets.proofs.Headers.{identifier_end, length_octets_end, same_front}
use Rattle.der_model.specs.States.{Part, Identifier, Length, End, part_octets, State, Start, AwaitsLength, AwaitsContents, Within, IsHeader, Stands}
use Rattle.der_model.specs.States as states
use Rattle.der_model.specs.Faults.{IsHeaderFront, IsNoHeader}
use Rattle.der_model.proofs.Lists.{shorter_front}

same_identifier : (b c : Bool) (t u : Tag) → b ≡ c → t ≡ u → Identifier b t ≡ Identifier c u
same_identifier b c t u p q = cc

identifiers : (b c : Bool) (t u : Tag) (x y : List ℕ) → identifier b t ++ x ≡ identifier c u ++ y → (Identifier b t ≡ Identifier c u) × (x ≡ y)
identifiers b c t u x y e = (let r = identifier_end b c t u x y e in (same_identifier b c t u r.0 r.1, r.2))

-- at most one part stands
pub one_part : {P : Type 0} (s : State P) (place : ℕ) (p q : Part) (x y : List ℕ) → Stands s place p → Stands s place q → part_octets p ++ x ≡ part_octets q ++ y → (p ≡ q) × (x ≡ y)
one_part Start place (Identifier b t) (Identifier c u) x y h k e = identifiers b c t u x y e
one_part Start place (Identifier b t) q x y h k e = absurd k
one_part (AwaitsLength c spot names around) place (Length m) (Length n) x y h k e =
    let r = length_octets_end m n x y e in (ap Length r.0, r.1)
one_part (AwaitsLength c spot names around) place (Length m) q x y h k e = absurd k
one_part (AwaitsContents spot names count around) place (states.Contents a) (states.Contents b) x y h k e =
    let r = same_front a b x y (h ∙ sym k) e in (ap states.Contents r.0, r.1)
one_part (AwaitsContents spot names count around) place (states.Contents a) q x y h k e = absurd k
one_part (Within (l ∷ ls)) place (Identifier b t) (Identifier c u) x y h k e = identifiers b c t u x y e
one_part (Within (l ∷ ls)) place (Identifier b t) End x y h k e = absurd (let low = h.0 in omega arith)
one_part (Within (l ∷ ls)) place (Identifier b t) q x y h k e = absurd k
one_part (Within (l ∷ ls)) place End (Identifier c u) x y h k e = absurd (let low = k.0 in omega arith)
one_part (Within (l ∷ ls)) place End End x y h k e = (refl, e)
one_part (Within (l ∷ ls)) place End q x y h k e = absurd k
one_part s place p q x y h k e = absurd h

-- headers end by themselves
pub one_header : {P : Type 0} (s : State P) (place : ℕ) (a b x y : List ℕ) → IsHeader s place a → IsHeader s place b → a ++ x ≡ b ++ y → (a ≡ b) × (x ≡ y)
one_header Start place a b x y (c, t, short, is) (d, u, short2, is2) e =
    let r = identifier_end c d t u x y (ap (λ z. z ++ x) (sym is) ∙ (e ∙ ap (λ z. z ++ y) is2)) in
    (is ∙ (ap (λ f. identifier f t) r.0 ∙ (ap (identifier d) r.1 ∙ sym is2)), r.2)
one_header (AwaitsLength w spot names around) place a b x y (m, short, is) (n, short2, is2) e =
    let r = length_octets_end m n x y (ap (λ z. z ++ x) (sym is) ∙ (e ∙ ap (λ z. z ++ y) is2)) in
    (is ∙ (ap length_octets r.0 ∙ sym is2), r.1)
one_header (AwaitsContents spot names count around) place a b x y h k e = absurd h
one_header (Within []) place a b x y h k e = absurd h
one_header (Within (l ∷ ls)) place a b x y (low, c, t, short, is) (low2, d, u, short2, is2) e =
    let r = identifier_end c d t u x y (ap (λ z. z ++ x) (sym is) ∙ (e ∙ ap (λ z. z ++ y) is2)) in
    (is ∙ (ap (λ f. identifier f t) r.0 ∙ (ap (identifier d) r.1 ∙ sym is2)), r.2)

-- where a header may come, the part that stands is one
pub part_is_header : {P : Type 0} (s : State P) (place : ℕ) (p : Part) (header : List ℕ) → Stands s place p → IsHeader s place header → IsHeader s place (part_octets p)
part_is_header Start place (Identifier b t) header h k = (b, t, h, refl)
part_is_header (AwaitsLength c spot names around) place (Length n) header h k = (n, h, refl)
part_is_header (Within (l ∷ ls)) place (Identifier b t) header h k = (h.0, b, t, h.1, refl)
part_is_header (Within (l ∷ ls)) place End header h k = absurd (let low = k.0 in omega arith)
part_is_header (AwaitsContents spot names count around) place (states.Contents a) header h k = absurd k
part_is_header s place p header h k = absurd h

-- a whole header is no longer than what begins one
pub no_longer : {P : Type 0} (s : State P) (place : ℕ) (header front x y : List ℕ) → IsHeader s place header → IsHeaderFront s place front → header ++ x ≡ front ++ y → length front < length header
no_longer s place header front x y h f e = elim (cases_lt (length front) (length header)) [
  | inl below ↦ below
  | inr above ↦ absurd (
      let r = shorter_front header front x y above e in
      let joined : header ++ (r.0 ++ f.more) ≡ (front ++ f.more) ++ [] = sym (append_assoc header r.0 f.more) ∙ (ap (λ z. z ++ f.more) (sym r.1) ∙ sym (append-nil (front ++ f.more))) in
      let same = one_header s place header (front ++ f.more) (r.0 ++ f.more) [] h f.header joined in
      let some = f.some in
      let long = ap length same.1 ∙ refl in
      let sum = length-append r.0 f.more in
      omega arith)
]

-- a header that stands begins with what no header begins with: this cannot be
pub goes_on : {P : Type 0} (s : State P) (place : ℕ) (header front x after : List ℕ) (octet : ℕ) → IsHeader s place header → IsHeaderFront s place front → IsNoHeader s place (front ++ octet ∷ []) → header ++ x ≡ front ++ octet ∷ after → ⊥
goes_on s place header front x after octet h f none e =
    let longer = no_longer s place header front x (octet ∷ after) h f e in
    let regrouped : (front ++ octet ∷ []) ++ after ≡ header ++ x = append_assoc front (octet ∷ []) after ∙ sym e in
    let sum = length-append front (octet ∷ []) in
    let r = shorter_front (front ++ octet ∷ []) header after x (omega arith) regrouped in
    none r.0 (subst (IsHeader s place) r.1 h)
