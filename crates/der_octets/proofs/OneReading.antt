-- Octets are at most one list of values.
use Rattle.std.proofs.Common.{◌≡◌, ℕ, List, [], ◌++◌, refl, sym, ap, ◌∙◌, append-nil}
use Rattle.std.specs.Prelude.{true, false}
use Rattle.der_octets.specs.Octets.{Values, Nothing, Primitive, Constructed, Tag, IsOne, octets}
use Rattle.der_octets.proofs.Headers.{wrapped_end, wrapped_some}

primitive_same : (t u : Tag) (c d : List ℕ) (v w : Values) → t ≡ u → c ≡ d → v ≡ w → Primitive t c v ≡ Primitive u d w
primitive_same t u c d v w p q r = cc

constructed_same : (t u : Tag) (a b : Values) (v w : Values) → t ≡ u → a ≡ b → v ≡ w → Constructed t a v ≡ Constructed u b w
constructed_same t u a b v w p q r = cc

pub not_false : true ≡ false → ⊥
not_false e = cc

-- the octets of values determine them
pub octets_same : (v w : Values) → octets v ≡ octets w → v ≡ w
octets_same Nothing Nothing e = refl
octets_same Nothing (Primitive u d w) e = absurd (wrapped_some false u d (octets w) (sym e))
octets_same Nothing (Constructed u b w) e = absurd (wrapped_some true u (octets b) (octets w) (sym e))
octets_same (Primitive t c v) Nothing e = absurd (wrapped_some false t c (octets v) e)
octets_same (Constructed t a v) Nothing e = absurd (wrapped_some true t (octets a) (octets v) e)
octets_same (Primitive t c v) (Primitive u d w) e =
    let r = wrapped_end false false t u c d (octets v) (octets w) e in
    primitive_same t u c d v w r.1 r.2 (octets_same v w r.3)
octets_same (Constructed t a v) (Constructed u b w) e =
    let r = wrapped_end true true t u (octets a) (octets b) (octets v) (octets w) e in
    constructed_same t u a b v w r.1 (octets_same a b r.2) (octets_same v w r.3)
octets_same (Primitive t c v) (Constructed u b w) e =
    absurd (let r = wrapped_end false true t u c (octets b) (octets v) (octets w) e in not_false (sym r.0))
octets_same (Constructed t a v) (Primitive u d w) e =
    absurd (let r = wrapped_end true false t u (octets a) d (octets v) (octets w) e in not_false r.0)

none_behind : (rest : Values) → rest ≡ Nothing → octets rest ≡ []
none_behind rest e = ap octets e

-- a value's octets and what follows, next to another value's
at_end : (a r x b s : List ℕ) → (a ++ r) ++ x ≡ b ++ s → r ≡ [] → s ≡ [] → a ++ x ≡ b ++ []
at_end a r x b s e p q = ap (λ z. z ++ x) (sym (append-nil a)) ∙ (ap (λ z. (a ++ z) ++ x) (sym p) ∙ (e ∙ ap (λ z. b ++ z) q))

-- no octets of one value begin those of another
pub no_front : (v w : Values) (x : List ℕ) → IsOne v → IsOne w → octets v ++ x ≡ octets w → (v ≡ w) × (x ≡ [])
no_front Nothing w x p q e = absurd p
no_front (Primitive t c v) Nothing x p q e = absurd q
no_front (Constructed t a v) Nothing x p q e = absurd q
no_front (Primitive t c v) (Primitive u d w) x p q e =
    let r = wrapped_end false false t u c d x [] (at_end _ (octets v) x _ (octets w) e (none_behind v p) (none_behind w q)) in
    (primitive_same t u c d v w r.1 r.2 (p ∙ sym q), r.3)
no_front (Constructed t a v) (Constructed u b w) x p q e =
    let r = wrapped_end true true t u (octets a) (octets b) x [] (at_end _ (octets v) x _ (octets w) e (none_behind v p) (none_behind w q)) in
    (constructed_same t u a b v w r.1 (octets_same a b r.2) (p ∙ sym q), r.3)
no_front (Primitive t c v) (Constructed u b w) x p q e =
    absurd (let r = wrapped_end false true t u c (octets b) x [] (at_end _ (octets v) x _ (octets w) e (none_behind v p) (none_behind w q)) in not_false (sym r.0))
no_front (Constructed t a v) (Primitive u d w) x p q e =
    absurd (let r = wrapped_end true false t u (octets a) d x [] (at_end _ (octets v) x _ (octets w) e (none_behind v p) (none_behind w q)) in not_false r.0)
