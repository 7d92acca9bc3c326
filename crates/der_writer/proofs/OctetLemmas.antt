-- The octets of values: of a value and what follows, of a slot, of slots in which nothing stands.
use Rattle.std.proofs.Common.{◌≡◌, ℕ, zero, suc, ◌+◌, ◌≤◌, ◌<◌, Bool, true, false, List, [], ◌∷◌, ◌++◌, length, take, drop, Some, refl, sym, ap, ◌∙◌, arith, append_assoc}
use Rattle.std.specs.Prelude.{if◌then◌else◌}
use Rattle.data_types.specs.Value as value
use Rattle.data_types.specs.Value.{Value}
use Rattle.facets.specs.declared.simple.Simple.{Simple}
use Rattle.der_octets.specs.Octets.{Tag, context, Values, Nothing, Primitive, Constructed, then_values, octets, wrapped, identifier}
use Rattle.reference_check.specs.Forms.{Graph, Form, Slot}
use Rattle.reference_check.specs.Forms as form
use Rattle.message_model.specs.Admits.{AdmitsAs}
use Rattle.der_model.specs.DerMessage.{DerMessage}
use Rattle.der_model.specs.Structures.{is_single, is_constructed, universal_tag}
use Rattle.der_model.specs.Der.{Body, Octets, Inner, under, item, placed_value, slot_values, all_slots, body}
use Rattle.der_writer.specs.Measured.{contents_octets}
use Rattle.der_writer.specs.inner.PieceOctets.{head, empty_slot, empty_slots, item_head, element_head}

-- a value is its head and its contents
pub wrapped_is : (c : Bool) (t : Tag) (x : List ℕ) → wrapped (identifier c t) x ≡ head c t (length x) ++ x
unfolding wrapped
wrapped_is c t x = sym (append_assoc (identifier c t) _ x)

value_is : (c : Bool) (t : Tag) (x y : List ℕ) → wrapped (identifier c t) x ++ y ≡ head c t (length x) ++ (x ++ y)
value_is c t x y = ap (λ z. z ++ y) (wrapped_is c t x) ∙ append_assoc (head c t (length x)) x y

pub octets_then : (a b : Values) → octets (then_values a b) ≡ octets a ++ octets b
octets_then Nothing b = refl
octets_then (Primitive tag contents rest) b = ap (λ z. wrapped (identifier false tag) contents ++ z) (octets_then rest b) ∙ sym (append_assoc (wrapped (identifier false tag) contents) (octets rest) (octets b))
octets_then (Constructed tag inner rest) b = ap (λ z. wrapped (identifier true tag) (octets inner) ++ z) (octets_then rest b) ∙ sym (append_assoc (wrapped (identifier true tag) (octets inner)) (octets rest) (octets b))

-- a value of the form has this body: octets, or values where it is constructed
abbrev pub IsBodyOf : Form ℕ Simple → Body → Type 0
IsBodyOf f (Octets contents) = is_constructed f ≡ false
IsBodyOf f (Inner inner) = is_constructed f ≡ true

pub body_fits : (m : DerMessage ℕ) (f : Form ℕ Simple) (v : Value) → AdmitsAs m.forms f v → IsBodyOf f (body m f v)
body_fits m (form.Sequence slots) (value.Component children) a = refl
body_fits m (form.Choice slots) (value.Component children) a = refl
body_fits m (form.Simple simple) (value.Simple leaf) a = refl
body_fits m (form.Money code number) (value.Amount leaf x) a = refl
body_fits m form.Envelope (value.External tree) a = refl
body_fits m (form.Sequence slots) v a = absurd a
body_fits m (form.Choice slots) v a = absurd a
body_fits m (form.Simple simple) v a = absurd a
body_fits m (form.Money code number) v a = absurd a
body_fits m form.Envelope v a = absurd a
body_fits m form.LeftOut v a = absurd a
body_fits m form.Missing v a = absurd a

under_octets : (f : Form ℕ Simple) (t : Tag) (b : Body) (rest : Values) → IsBodyOf f b → octets (under t b rest) ≡ head (is_constructed f) t (length (contents_octets b)) ++ (contents_octets b ++ octets rest)
under_octets f t (Octets o) rest e = value_is false t o (octets rest) ∙ ap (λ z. head z t (length o) ++ (o ++ octets rest)) (sym e)
under_octets f t (Inner vs) rest e = value_is true t (octets vs) (octets rest) ∙ ap (λ z. head z t (length (octets vs)) ++ (octets vs ++ octets rest)) (sym e)

abbrev pub form_tag : Form ℕ Simple → Tag
form_tag f = universal_tag f

item_octets : (f : Form ℕ Simple) (b : Body) (rest : Values) → IsBodyOf f b → octets (item f b rest) ≡ item_head f (length (contents_octets b)) ++ (contents_octets b ++ octets rest)
item_octets (form.Choice slots) (Octets o) rest e = absurd cc
item_octets (form.Choice slots) (Inner vs) rest e = octets_then vs rest
item_octets (form.Sequence slots) b rest e = under_octets (form.Sequence slots) (form_tag (form.Sequence slots)) b rest e
item_octets (form.Simple simple) b rest e = under_octets (form.Simple simple) (form_tag (form.Simple simple)) b rest e
item_octets (form.Money code number) b rest e = under_octets (form.Money code number) (form_tag (form.Money code number)) b rest e
item_octets form.Envelope b rest e = under_octets form.Envelope (form_tag form.Envelope) b rest e
item_octets form.LeftOut b rest e = under_octets form.LeftOut (form_tag form.LeftOut) b rest e
item_octets form.Missing b rest e = under_octets form.Missing (form_tag form.Missing) b rest e

pub placed_octets : (g : Graph ℕ Simple) (k : ℕ) (s : Slot ℕ) (b : Body) (rest : Values) → IsBodyOf (g s.target) b
    → octets (placed_value g k s b rest) ≡ element_head (Some s) (g s.target) k (length (contents_octets b)) ++ (contents_octets b ++ octets rest)
placed_octets g k s b rest e = go (is_single s)
  where
    go : (z : Bool) → octets (if z then under (context k) b rest else item (g s.target) b rest)
        ≡ (if z then head (is_constructed (g s.target)) (context k) (length (contents_octets b)) else item_head (g s.target) (length (contents_octets b))) ++ (contents_octets b ++ octets rest)
    go true = under_octets (g s.target) (context k) b rest e
    go false = item_octets (g s.target) b rest e

-- a slot is the head of its list, where it has one, what stands in it, and what follows
pub slot_is : (k : ℕ) (s : Slot ℕ) (here rest : Values) → octets (slot_values k s here rest) ≡ (if is_single s then [] else head true (context k) (length (octets here))) ++ (octets here ++ octets rest)
slot_is k s here rest = go (is_single s)
  where
    go : (z : Bool) → octets (if z then then_values here rest else Constructed (context k) here rest) ≡ (if z then [] else head true (context k) (length (octets here))) ++ (octets here ++ octets rest)
    go true = octets_then here rest
    go false = value_is true (context k) (octets here) (octets rest)

-- so many slots in which nothing stands
pub slots_skipped : (i c : ℕ) (fs : List (Slot ℕ)) (at : ℕ → Slot ℕ → Values) → ((j : ℕ) (s : Slot ℕ) → i ≤ j → j < i + c → at j s ≡ Nothing)
    → octets (all_slots i fs at) ≡ empty_slots i (take c fs) ++ octets (all_slots (i + c) (drop c fs) at)
slots_skipped i zero fs at none = (let e : i ≡ i + 0 = omega arith in ap (λ z. octets (all_slots z fs at)) e)
slots_skipped i (suc c) [] at none = refl
slots_skipped i (suc c) (s ∷ fs) at none =
    let here : at i s ≡ Nothing = none i s (omega arith) (omega arith) in
    let sum : suc i + c ≡ i + suc c = omega arith in
    let later = slots_skipped (suc i) c fs at (λ j t l u. none j t (omega arith) (omega arith)) in
    ap (λ z. octets (slot_values i s z (all_slots (suc i) fs at))) here
    ∙ (slot_is i s Nothing (all_slots (suc i) fs at)
    ∙ (ap (λ z. empty_slot i s ++ z) (later ∙ ap (λ z. empty_slots (suc i) (take c fs) ++ octets (all_slots z (drop c fs) at)) sum)
    ∙ sym (append_assoc (empty_slot i s) (empty_slots (suc i) (take c fs)) (octets (all_slots (i + suc c) (drop c fs) at)))))

-- all slots are empty
pub slots_empty : (i : ℕ) (fs : List (Slot ℕ)) (at : ℕ → Slot ℕ → Values) → ((j : ℕ) (s : Slot ℕ) → at j s ≡ Nothing) → octets (all_slots i fs at) ≡ empty_slots i fs
slots_empty i [] at none = refl
slots_empty i (s ∷ fs) at none =
    ap (λ z. octets (slot_values i s z (all_slots (suc i) fs at))) (none i s)
    ∙ (slot_is i s Nothing (all_slots (suc i) fs at) ∙ ap (λ z. empty_slot i s ++ z) (slots_empty (suc i) fs at none))
