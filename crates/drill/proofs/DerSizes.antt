-- The DER of a value has no more octets than its bulk.
use Rattle.std.proofs.Common.{◌≡◌, inl, inr, ℕ, ◌+◌, ◌^◌, ◌≤◌, ◌<◌, Bool, true, false, ◌==◌, List, [], ◌∷◌, ◌++◌, Option, Some, None, length, refl, ap, ◌∙◌, arith, length-append}
use Rattle.std.specs.Prelude.{if◌then◌else◌, nat_lt}
use Rattle.std.proofs.lemmas.Bool.{cases_Bool, eqb-true, ne_eqb}
use Rattle.std.proofs.lemmas.Int.Digits.{length-digits_of-le}
use Rattle.data_types.specs.Leaf.{Number}
use Rattle.data_types.specs.Value.{Value, Children, Child}
use Rattle.data_types.specs.Value as value
use Rattle.data_types.specs.declared.kind.Kind.{Kind}
use Rattle.data_types.specs.declared.kind.Kind.TheVariants as kind
use Rattle.facets.specs.declared.simple.Simple.{Simple}
use Rattle.der_octets.specs.Octets.{Tag, universal, context, Values, Nothing, Primitive, then_values, octets, identifier, length_octets, wrapped}
use Rattle.fragments.specs.Fragment.{fragment}
use Rattle.reference_check.specs.Forms.{Graph, Form, Slot}
use Rattle.reference_check.specs.Forms as form
use Rattle.message_model.specs.Admits.{numbers_of}
use Rattle.der_model.specs.DerMessage.{DerMessage}
use Rattle.der_model.specs.LeafContents.{leaf_contents}
use Rattle.der_model.specs.Structures.{is_single, kind_number, simple_number}
use Rattle.der_model.specs.Der.{Body, Octets, Inner, under, inner_of, item, placed_value, slot_values, all_slots, form_values, body, values_at, der_of}
use Rattle.der_writer.specs.Measured.{contents_octets}
use Rattle.der_writer.proofs.OctetLemmas.{octets_then, form_tag}
use Rattle.drill.proofs.Bulks.{bulk, bulks}

-- ---- heads

-- so few octets that their number takes eight octets at most
abbrev pub IsLow : ℕ → Type 0
IsLow n = n < 256 ^ 8

identifier_size : (constructed : Bool) (tag : Tag) → nat_lt tag.number 31 ≡ true → length (identifier constructed tag) ≡ 1
unfolding identifier
identifier_size constructed tag h = rw h refl

length_size : (n : ℕ) → IsLow n → length (length_octets n) ≤ 9
unfolding length_octets
length_size n low = elim (cases_Bool (nat_lt n 128)) as (λ _. length (length_octets n) ≤ 9) [
  | inl h ↦ rw h (omega arith)
  | inr h ↦ (let digits = length-digits_of-le 256 8 n (omega arith) low in rw h (omega arith))
]

-- a value, and what follows
head_size : (constructed : Bool) (tag : Tag) (contents rest : List ℕ) → nat_lt tag.number 31 ≡ true → IsLow (length contents)
    → length (wrapped (identifier constructed tag) contents ++ rest) ≤ 10 + (length contents + length rest)
unfolding wrapped
head_size constructed tag contents rest h low =
    let head = identifier constructed tag in
    let len = length_octets (length contents) in
    let one = identifier_size constructed tag h in
    let nine = length_size (length contents) low in
    let all = length-append (head ++ (len ++ contents)) rest in
    let own = length-append head (len ++ contents) in
    let inner = length-append len contents in
    omega arith

under_size : (tag : Tag) (b : Body) (rest : Values) → nat_lt tag.number 31 ≡ true → IsLow (length (contents_octets b))
    → length (octets (under tag b rest)) ≤ 10 + (length (contents_octets b) + length (octets rest))
under_size tag (Octets contents) rest h low = head_size false tag contents (octets rest) h low
under_size tag (Inner inner) rest h low = head_size true tag (octets inner) (octets rest) h low

then_size : (a b : Values) → length (octets (then_values a b)) ≡ length (octets a) + length (octets b)
then_size a b = ap length (octets_then a b) ∙ length-append (octets a) (octets b)

inner_size : (b : Body) → length (octets (inner_of b)) ≤ length (contents_octets b)
inner_size (Octets contents) = omega arith
inner_size (Inner inner) = omega arith

-- ---- a value in its slot

kind_small : (k : Kind) → nat_lt (kind_number k) 31 ≡ true
kind_small kind.Text = refl
kind_small kind.Decimal = refl
kind_small kind.Boolean = refl
kind_small kind.Binary = refl
kind_small k = refl

simple_small : (k : Kind) (texts : Option (List (List ℕ))) → nat_lt (simple_number k texts) 31 ≡ true
simple_small kind.Text (Some texts) = refl
simple_small kind.Text None = refl
simple_small k texts = kind_small k

item_size : (f : Form ℕ Simple) (b : Body) (rest : Values) → IsLow (length (contents_octets b)) → length (octets (item f b rest)) ≤ 10 + (length (contents_octets b) + length (octets rest))
item_size (form.Choice slots) b rest low = let own = then_size (inner_of b) rest in let inner = inner_size b in omega arith
item_size (form.Sequence slots) b rest low = under_size (form_tag (form.Sequence slots)) b rest refl low
item_size (form.Simple simple) b rest low = under_size (form_tag (form.Simple simple)) b rest (simple_small simple.kind simple.codes) low
item_size (form.Money code number) b rest low = under_size (form_tag (form.Money code number)) b rest refl low
item_size form.Envelope b rest low = under_size (form_tag form.Envelope) b rest refl low
item_size form.LeftOut b rest low = under_size (form_tag form.LeftOut) b rest refl low
item_size form.Missing b rest low = under_size (form_tag form.Missing) b rest refl low

placed_size : (types : Graph ℕ Simple) (k : ℕ) (s : Slot ℕ) (b : Body) (rest : Values) → nat_lt k 31 ≡ true → IsLow (length (contents_octets b))
    → length (octets (placed_value types k s b rest)) ≤ 10 + (length (contents_octets b) + length (octets rest))
placed_size types k s b rest small low =
    elim (cases_Bool (is_single s)) as (λ _. length (octets (placed_value types k s b rest)) ≤ 10 + (length (contents_octets b) + length (octets rest))) [
      | inl h ↦ rw h (under_size (context k) b rest small low)
      | inr h ↦ rw h (item_size (types s.target) b rest low)
    ]

slot_size : (k : ℕ) (s : Slot ℕ) (here rest : Values) → nat_lt k 31 ≡ true → IsLow (length (octets here)) → length (octets (slot_values k s here rest)) ≤ 10 + (length (octets here) + length (octets rest))
slot_size k s here rest small low =
    elim (cases_Bool (is_single s)) as (λ _. length (octets (slot_values k s here rest)) ≤ 10 + (length (octets here) + length (octets rest))) [
      | inl h ↦ rw h (let own = then_size here rest in omega arith)
      | inr h ↦ rw h (head_size true (context k) (octets here) (octets rest) small low)
    ]

-- ---- the children of a slot

abbrev bulks_at : ℕ → Children → ℕ
bulks_at k value.Nothing = 0
bulks_at k (Child slot v rest) = if slot == k then bulk v + bulks_at k rest else bulks_at k rest

bulks_part : (k : ℕ) (children : Children) → bulks_at k children ≤ bulks children
bulks_part k value.Nothing = omega arith
bulks_part k (Child slot v rest) =
    let more = bulks_part k rest in
    elim (cases_Bool (slot == k)) as (λ _. bulks_at k (Child slot v rest) ≤ bulk v + bulks rest) [
      | inl h ↦ rw h (omega arith)
      | inr h ↦ rw h (omega arith)
    ]

bulks_two : (children : Children) → bulks_at 0 children + bulks_at 1 children ≤ bulks children
bulks_two value.Nothing = omega arith
bulks_two (Child slot v rest) =
    let more = bulks_two rest in
    elim (cases_Bool (slot == 0)) as (λ _. bulks_at 0 (Child slot v rest) + bulks_at 1 (Child slot v rest) ≤ bulk v + bulks rest) [
      | inl h ↦ (let zero_is = eqb-true slot 0 h in let other : (slot == 1) ≡ false = ne_eqb slot 1 (λ e. omega arith) in rw (h, other) (omega arith))
      | inr h ↦ elim (cases_Bool (slot == 1)) as (λ _. bulks_at 0 (Child slot v rest) + bulks_at 1 (Child slot v rest) ≤ bulk v + bulks rest) [
        | inl g ↦ rw (h, g) (omega arith)
        | inr g ↦ rw (h, g) (omega arith)
      ]
    ]

-- at most two slots, and no choice
abbrev pub HasTwoSlots : Form ℕ Simple → Type 0
HasTwoSlots (form.Sequence slots) = length slots ≤ 2
HasTwoSlots (form.Choice slots) = ⊥
HasTwoSlots f = Unit {0}

slots_size : (slots : List (Slot ℕ)) (children : Children) (at : ℕ → Slot ℕ → Values) → length slots ≤ 2 → IsLow (bulks children)
    → ((k : ℕ) (s : Slot ℕ) → nat_lt k 31 ≡ true → length (octets (at k s)) ≤ bulks_at k children) → length (octets (all_slots 0 slots at)) ≤ 20 + bulks children
slots_size [] children at two low each = omega arith
slots_size (s ∷ []) children at two low each =
    let part = bulks_part 0 children in
    let own = each 0 s refl in
    let slot = slot_size 0 s (at 0 s) Nothing refl (omega arith) in
    omega arith
slots_size (s ∷ t ∷ []) children at two low each =
    let both = bulks_two children in
    let first = each 0 s refl in
    let second = each 1 t refl in
    let last = slot_size 1 t (at 1 t) Nothing refl (omega arith) in
    let all = slot_size 0 s (at 0 s) (slot_values 1 t (at 1 t) Nothing) refl (omega arith) in
    omega arith
slots_size (s ∷ t ∷ u ∷ slots) children at two low each = absurd (omega arith)

form_size : (f : Form ℕ Simple) (children : Children) (at : ℕ → Slot ℕ → Values) → HasTwoSlots f → IsLow (bulks children)
    → ((k : ℕ) (s : Slot ℕ) → nat_lt k 31 ≡ true → length (octets (at k s)) ≤ bulks_at k children) → length (octets (form_values f (numbers_of children) at)) ≤ 20 + bulks children
form_size (form.Sequence slots) children at two low each = slots_size slots children at two low each
form_size (form.Choice slots) children at two low each = absurd two
form_size f children at two low each = omega arith

-- ---- values

module _ (m : DerMessage ℕ) (fragments : (t : _) → m.fragment t ≡ fragment t) (two : (p : ℕ) → HasTwoSlots (m.forms p)) where
  mutual
    contents_size : (p : ℕ) (v : Value) → IsLow (bulk v) → length (contents_octets (body m (m.forms p) v)) + 64 ≤ bulk v
    contents_size p (value.Component children) low =
        let inner = form_size (m.forms p) children (λ k s. values_at m k s children) (two p) (omega arith) (λ k s small. children_size k s children small (omega arith)) in
        omega arith
    contents_size p (value.Simple leaf) low = omega arith
    contents_size p (value.Amount code number) low =
        let a = leaf_contents code in
        let b = leaf_contents (Number number) in
        let last = head_size false (context 1) b [] refl (omega arith) in
        let all = head_size false (context 0) a (octets (Primitive (context 1) b Nothing)) refl (omega arith) in
        omega arith
    contents_size p (value.External tree) low = (let same = ap length (fragments tree) in omega arith)

    children_size : (k : ℕ) (s : Slot ℕ) (children : Children) → nat_lt k 31 ≡ true → IsLow (bulks children) → length (octets (values_at m k s children)) ≤ bulks_at k children
    children_size k s value.Nothing small low = omega arith
    children_size k s (Child slot v rest) small low =
        let more = children_size k s rest small (omega arith) in
        let own = contents_size s.target v (omega arith) in
        let whole = placed_size m.forms k s (body m (m.forms s.target) v) (values_at m k s rest) small (omega arith) in
        elim (cases_Bool (slot == k)) as (λ _. length (octets (values_at m k s (Child slot v rest))) ≤ bulks_at k (Child slot v rest)) [
          | inl h ↦ rw h (omega arith)
          | inr h ↦ rw h (omega arith)
        ]

  pub der_size : (v : Value) → IsLow (bulk v) → length (der_of m v) ≤ bulk v
  der_size v low =
      let b = body m (m.forms m.root) v in
      let own = contents_size m.root v low in
      let inner = inner_size b in
      let all = head_size true (universal 16) (octets (inner_of b)) [] refl (omega arith) in
      omega arith
