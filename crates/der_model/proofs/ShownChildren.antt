-- Which pieces the children in one slot show.
use Rattle.std.proofs.Common.{◌≡◌, ◌≢◌, ℕ, ◌≤◌, Bool, true, false, List, [], ◌∷◌, ◌++◌, length, Some, refl, sym, ap, ◌∙◌, subst, arith, eqb, append-nil, ◌⊎◌, inl, inr}
use Rattle.std.specs.Prelude.{◌==◌, if◌then◌else◌, slice_get}
use Rattle.std.proofs.lemmas.Bool.Decides.{eqb_tells}
use Rattle.std.proofs.lemmas.Bool.{cond-true, cond-false}
use Rattle.data_types.specs.Value.{Piece, Children}
use Rattle.data_types.specs.Value as value
use Rattle.facets.specs.declared.simple.Simple.{Simple}
use Rattle.der_octets.specs.Octets.{context, Values, Nothing, then_values}
use Rattle.reference_check.specs.Forms.{Form, Slot}
use Rattle.reference_check.specs.Forms as form
use Rattle.reference_check.specs.Words.{times}
use Rattle.reference_check.specs.Steps.{has_room}
use Rattle.message_model.specs.Admits.{numbers_of}
use Rattle.message_model.specs.Tables.{edge_at, pieces}
use Rattle.der_model.specs.DerMessage.{DerMessage}
use Rattle.der_model.specs.Structures.{Value, ListOf, Component, structure, component, item_components, is_single, is_constructed, universal_tag}
use Rattle.der_model.specs.Structures as structures
use Rattle.der_model.specs.Der.{Body, Octets, Inner, under, inner_of, item, slot_values, body, values_at}
use Rattle.der_model.specs.States.{Begins, is_under, any_answer, item_answer}
use Rattle.der_model.specs.ShownPieces.{alternatives_of, slot_elements, component_elements, IsLeafIn}
use Rattle.der_model.proofs.Spelled.{then_under, some_child, no_child}
use Rattle.der_model.proofs.OneValue.{under_some}
use Rattle.der_model.proofs.ShownParts.{framed, framed_then, ValuesShow}
use Rattle.der_model.proofs.ShownSlots.{BodyShows, AlternativeShows, ShowsAs, ShownThen, under_shown, choice_finds, item_finds, item_begun}

-- each child shows its pieces
abbrev pub ChildrenShow : DerMessage ℕ → List (Slot ℕ) → Children → Type 0
ChildrenShow m fs value.Nothing = Unit {0}
ChildrenShow m fs (value.Child j v rest) =
    ((s : Slot ℕ) → slice_get fs j ≡ Some s → ShowsAs m s.target (m.forms s.target) (body m (m.forms s.target) v) (pieces m.fragment m.forms s.target v)) × ChildrenShow m fs rest

-- the pieces of the children in slot k of a value of the type p
abbrev pub slot_pieces : DerMessage ℕ → ℕ → ℕ → Slot ℕ → Children → List Piece
slot_pieces m p k s value.Nothing = []
slot_pieces m p k s (value.Child j v rest) =
    if j == k then framed (edge_at p k (Some s) ∷ []) (pieces m.fragment m.forms s.target v) (slot_pieces m p k s rest) else slot_pieces m p k s rest

-- a choice as the value of an element
choice_shows : (m : DerMessage ℕ) (p : ℕ) (fs : List (Slot ℕ)) (b : Body) (here : List Piece) → m.forms p ≡ form.Choice fs → AlternativeShows m p fs (inner_of b) here → BodyShows m (Value p) b here
choice_shows m p fs (Octets o) here at a = absurd (under_some (context a.number) a.held Nothing (sym a.values))
choice_shows m p fs (Inner vs) here at a = λ shown values.
    let r = under_shown m (Value p) p fs [] (choice_finds m p fs at) a.number a.slot a.there a.held a.here a.shows [] Nothing shown (subst (λ z. ValuesShow m (Value p) [] z shown) a.values values) in
    r.is ∙ (ap (λ z. framed [] (framed (slot_elements p a.number (Some a.slot)) a.here []) [] ++ z) r.others ∙ (append-nil _ ∙ (append-nil _ ∙ sym a.is)))

value_shows_as : (m : DerMessage ℕ) (p : ℕ) (f : Form ℕ Simple) (b : Body) (here : List Piece) → m.forms p ≡ f → ShowsAs m p f b here → BodyShows m (Value p) b here
value_shows_as m p (form.Choice fs) b here at shows = choice_shows m p fs b here at shows
value_shows_as m p (form.Sequence fs) b here at shows = shows
value_shows_as m p (form.Simple s) b here at shows = shows
value_shows_as m p (form.Money c s) b here at shows = shows
value_shows_as m p form.Envelope b here at shows = shows
value_shows_as m p form.LeftOut b here at shows = shows
value_shows_as m p form.Missing b here at shows = shows

-- The values of a slot, where so many come, are none, or one under its tag, which shows the pieces.
abbrev pub SlotShows : DerMessage ℕ → ℕ → ℕ → Slot ℕ → ℕ → Values → List Piece → Type 0
SlotShows m p k s count vs shown =
    ((count ≡ 0) × (vs ≡ Nothing) × (shown ≡ []))
    ⊎ ((b : Body) × (here : List Piece) × (vs ≡ under (context k) b Nothing) × BodyShows m (component m.forms p k s).spot b here × (shown ≡ framed (slot_elements p k (Some s)) here []))

-- no child in the slot
none_shown : (m : DerMessage ℕ) (p k : ℕ) (s : Slot ℕ) (ks : Children) → times k (numbers_of ks) ≡ 0 → (values_at m k s ks ≡ Nothing) × (slot_pieces m p k s ks ≡ [])
none_shown m p k s value.Nothing none = (refl, refl)
none_shown m p k s (value.Child j v rest) none = go (eqb_tells j k) (λ l. none_shown m p k s rest l)
  where
    go : ((eqb j k ≡ true) × (j ≡ k)) ⊎ ((eqb j k ≡ false) × (j ≢ k)) → (times k (numbers_of rest) ≡ 0 → (values_at m k s rest ≡ Nothing) × (slot_pieces m p k s rest ≡ []))
        → (values_at m k s (value.Child j v rest) ≡ Nothing) × (slot_pieces m p k s (value.Child j v rest) ≡ [])
    go (inl e) again = absurd (let more = some_child j k (times k (numbers_of rest)) e.0 in omega (arith, none))
    go (inr e) again =
        let fewer = no_child j k (times k (numbers_of rest)) e.0 in
        let r = again (omega (arith, none)) in
        (cond-false (j == k) _ _ e.0 ∙ r.0, cond-false (j == k) _ _ e.0 ∙ r.1)

-- the child in a slot that comes at most once
single_shown : (m : DerMessage ℕ) (p : ℕ) (fs : List (Slot ℕ)) (k : ℕ) (s : Slot ℕ) (ks : Children) → slice_get fs k ≡ Some s → is_single s ≡ true → times k (numbers_of ks) ≤ 1 → ChildrenShow m fs ks
    → SlotShows m p k s (times k (numbers_of ks)) (values_at m k s ks) (slot_pieces m p k s ks)
single_shown m p fs k s value.Nothing there single few shows = inl (refl, refl, refl)
single_shown m p fs k s (value.Child j v rest) there single few (first, others) = go (eqb_tells j k) (λ l. single_shown m p fs k s rest there single l others)
  where
    go : ((eqb j k ≡ true) × (j ≡ k)) ⊎ ((eqb j k ≡ false) × (j ≢ k))
        → (times k (numbers_of rest) ≤ 1 → SlotShows m p k s (times k (numbers_of rest)) (values_at m k s rest) (slot_pieces m p k s rest))
        → SlotShows m p k s (times k (numbers_of (value.Child j v rest))) (values_at m k s (value.Child j v rest)) (slot_pieces m p k s (value.Child j v rest))
    go (inl e) again =
        let more = some_child j k (times k (numbers_of rest)) e.0 in
        let none = none_shown m p k s rest (omega (arith, few)) in
        let here = pieces m.fragment m.forms s.target v in
        let b = body m (m.forms s.target) v in
        let shows = value_shows_as m s.target (m.forms s.target) b here refl (first s (subst (λ z. slice_get fs z ≡ Some s) (sym e.1) there)) in
        let written = cond-true (j == k) _ _ e.0 ∙ (cond-true (is_single s) _ _ single ∙ ap (under (context k) b) none.0) in
        let edges : edge_at p k (Some s) ∷ [] ≡ slot_elements p k (Some s) = sym (cond-true (is_single s) _ _ single) in
        let spot : structures.Value s.target ≡ (component m.forms p k s).spot = sym (cond-true (is_single s) _ _ single) in
        inr (b, here, written, subst (λ z. BodyShows m z b here) spot shows, cond-true (j == k) _ _ e.0 ∙ (ap (framed (edge_at p k (Some s) ∷ []) here) none.1 ∙ ap (λ z. framed z here []) edges))
    go (inr e) again =
        let fewer = no_child j k (times k (numbers_of rest)) e.0 in
        or (cond-false (j == k) _ _ e.0) (cond-false (j == k) _ _ e.0) fewer (again (omega (arith, few)))
      where
        or : {vs ws : Values} {x y : List Piece} {n c : ℕ} → vs ≡ ws → x ≡ y → n ≡ c → SlotShows m p k s c ws y → SlotShows m p k s n vs x
        or q r t (inl (none, nothing, shown)) = inl (t ∙ none, q ∙ nothing, r ∙ shown)
        or q r t (inr (b, here, is, shows, shown)) = inr (b, here, q ∙ is, shows, r ∙ shown)

-- an item before others, whose type is no choice
plain_item : (m : DerMessage ℕ) (p n : ℕ) (s : Slot ℕ) (f : Form ℕ Simple) (b : Body) (here : List Piece) (came : List ℕ) (rest : Values) (shown : List Piece)
    → item_components m.forms s.target (m.forms s.target) ≡ record { constructed = is_constructed f; tag = universal_tag f; required = false; label = structures.Unnamed; spot = structures.Value s.target } ∷ [] → alternatives_of (m.forms s.target) ≡ []
    → BodyShows m (Value s.target) b here → ValuesShow m (ListOf p n s) came (under (universal_tag f) b rest) shown → ShownThen m (ListOf p n s) rest (framed (edge_at p n (Some s) ∷ []) here []) shown
plain_item m p n s f b here came rest shown alone no_choice shows values = go b shows values
  where
    only : Component ℕ
    only = record { constructed = is_constructed f; tag = universal_tag f; required = false; label = structures.Unnamed; spot = structures.Value s.target }

    spot_is : (z : Bool) (k : ℕ) (c : Component ℕ) → item_answer (has_room (length came) s.max) (any_answer 0 (item_components m.forms s.target (m.forms s.target)) z (universal_tag f)) ≡ Begins k c → c.spot ≡ structures.Value s.target
    spot_is z k c e = by (is_under only z (universal_tag f)) refl (subst (λ x. any_answer 0 x z (universal_tag f) ≡ Begins k c) alone (item_begun (has_room (length came) s.max) (any_answer 0 (item_components m.forms s.target (m.forms s.target)) z (universal_tag f)) k c e))
      where
        same : Begins 0 only ≡ Begins k c → only ≡ c
        same q = cc

        by : (u : Bool) → is_under only z (universal_tag f) ≡ u → any_answer 0 (only ∷ []) z (universal_tag f) ≡ Begins k c → c.spot ≡ structures.Value s.target
        by true h q = sym (ap (λ (x : Component ℕ). x.spot) (same (sym (cond-true (is_under only z (universal_tag f)) _ _ h) ∙ q)))
        by false h q = absurd (let r = sym (cond-false (is_under only z (universal_tag f)) _ _ h) ∙ q in cc)

    edges : (k : ℕ) → component_elements m (ListOf p n s) k ≡ edge_at p n (Some s) ∷ []
    edges k = ap (λ z. edge_at p n (Some s) ∷ slot_elements s.target k (slice_get z k)) no_choice

    go : (b : Body) → BodyShows m (Value s.target) b here → ValuesShow m (ListOf p n s) came (under (universal_tag f) b rest) shown → ShownThen m (ListOf p n s) rest (framed (edge_at p n (Some s) ∷ []) here []) shown
    go (Octets o) shows (k, c, leaf, behind, e, held, others, is) =
        let told = shows leaf (subst (λ z. IsLeafIn (structure m z) o leaf) (spot_is false k c e) held) in
        record { came = k ∷ came; behind = behind; others = others; is = is ∙ (ap (λ z. framed z (value.Holds leaf ∷ []) behind) (edges k) ∙ (ap (λ z. framed (edge_at p n (Some s) ∷ []) z behind) (sym told) ∙ sym (framed_then (edge_at p n (Some s) ∷ []) here [] behind))) }
    go (Inner vs) shows (k, c, held, behind, e, inner, others, is) =
        let told = shows held (subst (λ z. ValuesShow m z [] vs held) (spot_is true k c e) inner) in
        record { came = k ∷ came; behind = behind; others = others; is = is ∙ (ap (λ z. framed z held behind) (edges k) ∙ (ap (λ z. framed (edge_at p n (Some s) ∷ []) z behind) told ∙ sym (framed_then (edge_at p n (Some s) ∷ []) here [] behind))) }

-- an item before others
item_shown : (m : DerMessage ℕ) (p n : ℕ) (s : Slot ℕ) (f : Form ℕ Simple) (b : Body) (here : List Piece) (came : List ℕ) (rest : Values) (shown : List Piece) → m.forms s.target ≡ f → ShowsAs m s.target f b here → ValuesShow m (ListOf p n s) came (item f b rest) shown
    → ShownThen m (ListOf p n s) rest (framed (edge_at p n (Some s) ∷ []) here []) shown
item_shown m p n s (form.Choice fs) b here came rest shown at a values =
    let under_is : then_values (inner_of b) rest ≡ under (context a.number) a.held rest = ap (λ z. then_values z rest) a.values ∙ then_under (context a.number) a.held rest in
    let r = under_shown m (ListOf p n s) s.target fs (edge_at p n (Some s) ∷ []) (item_finds m p n s fs at) a.number a.slot a.there a.held a.here a.shows came rest shown (subst (λ z. ValuesShow m (ListOf p n s) came z shown) under_is values) in
    record { came = r.came; behind = r.behind; others = r.others; is = r.is ∙ ap (λ z. framed (edge_at p n (Some s) ∷ []) z [] ++ r.behind) (sym a.is) }
item_shown m p n s (form.Sequence fs) b here came rest shown at shows values = plain_item m p n s (form.Sequence fs) b here came rest shown (ap (item_components m.forms s.target) at) (ap alternatives_of at) shows values
item_shown m p n s (form.Simple x) b here came rest shown at shows values = plain_item m p n s (form.Simple x) b here came rest shown (ap (item_components m.forms s.target) at) (ap alternatives_of at) shows values
item_shown m p n s (form.Money c x) b here came rest shown at shows values = plain_item m p n s (form.Money c x) b here came rest shown (ap (item_components m.forms s.target) at) (ap alternatives_of at) shows values
item_shown m p n s form.Envelope b here came rest shown at shows values = plain_item m p n s form.Envelope b here came rest shown (ap (item_components m.forms s.target) at) (ap alternatives_of at) shows values
item_shown m p n s form.LeftOut b here came rest shown at shows values = plain_item m p n s form.LeftOut b here came rest shown (ap (item_components m.forms s.target) at) (ap alternatives_of at) shows values
item_shown m p n s form.Missing b here came rest shown at shows values = plain_item m p n s form.Missing b here came rest shown (ap (item_components m.forms s.target) at) (ap alternatives_of at) shows values

-- the items of a list
items_shown : (m : DerMessage ℕ) (p : ℕ) (fs : List (Slot ℕ)) (k : ℕ) (s : Slot ℕ) (ks : Children) (came : List ℕ) (shown : List Piece) → slice_get fs k ≡ Some s → is_single s ≡ false → ChildrenShow m fs ks → ValuesShow m (ListOf p k s) came (values_at m k s ks) shown
    → shown ≡ slot_pieces m p k s ks
items_shown m p fs k s value.Nothing came shown there list shows values = values
items_shown m p fs k s (value.Child j v rest) came shown there list (first, others) values = go (eqb_tells j k) (λ c x h. items_shown m p fs k s rest c x there list others h)
  where
    go : ((eqb j k ≡ true) × (j ≡ k)) ⊎ ((eqb j k ≡ false) × (j ≢ k)) → ((c : List ℕ) (x : List Piece) → ValuesShow m (ListOf p k s) c (values_at m k s rest) x → x ≡ slot_pieces m p k s rest) → shown ≡ slot_pieces m p k s (value.Child j v rest)
    go (inl e) again =
        let here = pieces m.fragment m.forms s.target v in
        let b = body m (m.forms s.target) v in
        let written : values_at m k s (value.Child j v rest) ≡ item (m.forms s.target) b (values_at m k s rest) = cond-true (j == k) _ _ e.0 ∙ cond-false (is_single s) _ _ list in
        let r = item_shown m p k s (m.forms s.target) b here came (values_at m k s rest) shown refl (first s (subst (λ z. slice_get fs z ≡ Some s) (sym e.1) there)) (subst (λ z. ValuesShow m (ListOf p k s) came z shown) written values) in
        r.is ∙ (framed_then (edge_at p k (Some s) ∷ []) here [] r.behind ∙ (ap (framed (edge_at p k (Some s) ∷ []) here) (again r.came r.behind r.others) ∙ sym (cond-true (j == k) _ _ e.0)))
    go (inr e) again = again came shown (subst (λ z. ValuesShow m (ListOf p k s) came z shown) (cond-false (j == k) _ _ e.0) values) ∙ sym (cond-false (j == k) _ _ e.0)

-- the values of a slot, alone
pub slot_shown : (m : DerMessage ℕ) (p : ℕ) (fs : List (Slot ℕ)) (k : ℕ) (s : Slot ℕ) (ks : Children) → slice_get fs k ≡ Some s → (is_single s ≡ true → times k (numbers_of ks) ≤ 1) → ChildrenShow m fs ks
    → SlotShows m p k s (times k (numbers_of ks)) (slot_values k s (values_at m k s ks) Nothing) (slot_pieces m p k s ks)
slot_shown m p fs k s ks there few shows = go (is_single s) refl
  where
    alone : {c : ℕ} {vs : Values} {x : List Piece} → SlotShows m p k s c vs x → SlotShows m p k s c (then_values vs Nothing) x
    alone (inl (none, nothing, shown)) = inl (none, ap (λ z. then_values z Nothing) nothing, shown)
    alone (inr (b, here, is, body_shows, shown)) = inr (b, here, ap (λ z. then_values z Nothing) is ∙ then_under (context k) b Nothing, body_shows, shown)

    go : (z : Bool) → is_single s ≡ z → SlotShows m p k s (times k (numbers_of ks)) (slot_values k s (values_at m k s ks) Nothing) (slot_pieces m p k s ks)
    go true e = subst (λ z. SlotShows m p k s (times k (numbers_of ks)) z (slot_pieces m p k s ks)) (sym (cond-true (is_single s) _ _ e)) (alone (single_shown m p fs k s ks there e (few e) shows))
    go false e =
        let edges : slot_elements p k (Some s) ≡ [] = cond-false (is_single s) _ _ e in
        let spot : ListOf p k s ≡ (component m.forms p k s).spot = sym (cond-false (is_single s) _ _ e) in
        let all : BodyShows m (ListOf p k s) (Inner (values_at m k s ks)) (slot_pieces m p k s ks) = λ x values. items_shown m p fs k s ks [] x there e shows values in
        inr (
          Inner (values_at m k s ks),
          slot_pieces m p k s ks,
          cond-false (is_single s) _ _ e,
          subst (λ z. BodyShows m z (Inner (values_at m k s ks)) (slot_pieces m p k s ks)) spot all,
          sym (ap (λ z. framed z (slot_pieces m p k s ks) []) edges ∙ append-nil _),
        )
