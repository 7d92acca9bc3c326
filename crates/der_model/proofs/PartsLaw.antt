-- Parts that break nothing are those that go on to an instance.
use Rattle.std.proofs.Common.{◌≡◌, ℕ, zero, suc, ◌+◌, ◌-◌, ◌≤◌, ◌<◌, Bool, true, false, List, [], ◌∷◌, ◌++◌, length, Some, refl, sym, ap, ◌∙◌, arith, inl, inr}
use Rattle.std.specs.Prelude.{slice_get}
use Rattle.facets.specs.declared.simple.Simple.{Simple}
use Rattle.der_octets.specs.Octets.{Tag, universal, context, Values, Nothing, Primitive, Constructed}
use Rattle.reference_check.specs.Forms.{Graph, Form, Slot}
use Rattle.reference_check.specs.Forms as form
use Rattle.der_model.specs.DerMessage.{DerMessage}
use Rattle.der_model.specs.Structures.{Spot, Instance, Component, Structure, structure, form_structure, number_structure, components, item_components, amount_components}
use Rattle.der_model.specs.Structures as structures
use Rattle.der_model.specs.States.{Part, Identifier, End, Begins, is_under}
use Rattle.der_model.specs.States as states
use Rattle.der_model.specs.Faults.{outermost}
use Rattle.der_model.specs.OpenParts.{parts_of, MayHoldComponents, components_of, IsPrimitive, ValuesSoFar, ArePartsOpen, HasValues, IsFilled, AreFilled, Occurs, outermost as first, within}
use Rattle.der_model.proofs.Fields.{under_own, under_other}
use Rattle.der_model.proofs.WholeValues.{under_same}
use Rattle.der_model.proofs.OneLevel.{AreApart, Remain, HasRoom, begins_remains, hold_remain, remain_hold, room_first, AreComponents, remain_some}
use Rattle.der_model.proofs.Stages.{Cell, cell, Stage, Outside, Held, In, begun_stage, after, MayAt, MayFollow, AreFine, over, values_may, values_so, ValuesOf, parse}

-- ---- no component of a message's value has the tag of a later one

later_tag : {P : Type 0} (g : Graph P Simple) (p : P) (k j : ℕ) (fs : List (Slot P)) (c : Component P) → slice_get (components g p k fs) j ≡ Some c → c.tag ≡ context (k + j)
later_tag g p k j [] c e = absurd cc
later_tag g p k zero (s ∷ fs) c e =
    let at : k + 0 ≡ k = omega arith in
    let same : structures.component g p k s ≡ c = cc in
    rw (at, ← same) refl
later_tag g p k (suc j) (s ∷ fs) c e = (let at : k + suc j ≡ suc k + j = omega arith in rw at (later_tag g p (suc k) j fs c e))

components_apart : {P : Type 0} (g : Graph P Simple) (p : P) (k : ℕ) (fs : List (Slot P)) → AreApart (components g p k fs)
components_apart g p k [] = tt
components_apart g p k (s ∷ fs) =
    ((λ j e found. rw (later_tag g p (suc k) j fs e found) (under_other (structures.component g p k s) k (suc k + j) e.constructed refl (omega arith))), components_apart g p (suc k) fs)

item_apart : {P : Type 0} (g : Graph P Simple) (p : P) (f : Form P Simple) → AreApart (item_components g p f)
item_apart g p (form.Choice fs) = components_apart g p 0 fs
item_apart g p (form.Sequence fs) = ((λ j e found. absurd cc), tt)
item_apart g p (form.Simple s) = ((λ j e found. absurd cc), tt)
item_apart g p (form.Money c s) = ((λ j e found. absurd cc), tt)
item_apart g p form.Envelope = ((λ j e found. absurd cc), tt)
item_apart g p form.LeftOut = ((λ j e found. absurd cc), tt)
item_apart g p form.Missing = ((λ j e found. absurd cc), tt)

amount_apart : {P : Type 0} (p c : P) → AreApart (amount_components p c)
amount_apart {P} p c = (first, ((λ j e found. absurd cc), tt))
  where
    first : (j : ℕ) (e : Component P) → slice_get (record { constructed = false; tag = context 1; required = true; label = structures.Unnamed; spot = structures.NumberOf p } ∷ []) j ≡ Some e → is_under (record { constructed = false; tag = context 0; required = true; label = structures.Attribute (Rattle.std.specs.Prelude.codes "Ccy"); spot = structures.Value c }) e.constructed e.tag ≡ false
    first zero e found = (let same : record { constructed = false; tag = context 1; required = true; label = structures.Unnamed; spot = structures.NumberOf p } ≡ e = cc in rw (← same) refl)
    first (suc j) e found = absurd cc

form_apart : {P : Type 0} (g : Graph P Simple) (p : P) (f : Form P Simple) → AreApart (components_of (form_structure g p f))
form_apart g p (form.Sequence fs) = components_apart g p 0 fs
form_apart g p (form.Choice fs) = components_apart g p 0 fs
form_apart g p (form.Simple s) = tt
form_apart g p (form.Money c s) = amount_apart p c
form_apart g p form.Envelope = tt
form_apart g p form.LeftOut = tt
form_apart g p form.Missing = tt

number_apart : {P : Type 0} (f : Form P Simple) → AreApart (components_of (number_structure f))
number_apart (form.Money c s) = tt
number_apart _ = tt

pub all_apart : {P : Type 0} (m : DerMessage P) (spot : Spot P) → AreApart (components_of (structure m spot))
all_apart m Instance = form_apart m.forms m.root (m.forms m.root)
all_apart m (structures.Value p) = form_apart m.forms p (m.forms p)
all_apart m (structures.ListOf p k s) = item_apart m.forms s.target (m.forms s.target)
all_apart m (structures.NumberOf p) = number_apart (m.forms p)

-- ---- values of which nothing has come

module _ {P : Type 0} (m : DerMessage P) where
  pub less_none : (n : ℕ) (sh : Structure P) (d : List ℕ) (vs : Values) → n ≡ 0 → ValuesSoFar m 0 sh d vs → ValuesSoFar m n sh d vs
  less_none n sh d vs e h = rw e h

  -- a component before others
  pub component_values : (sh : Structure P) (k : ℕ) (c : Component P) (d : List ℕ) → slice_get (components_of sh) k ≡ Some c → IsFilled m c → ((vs : Values) × ValuesSoFar m 0 sh d vs) → (vs : Values) × ValuesSoFar m 0 sh (k ∷ d) vs
  component_values sh k c d found (inl (form, primitive)) (vs, h) =
      (Primitive c.tag [] vs, ((c, found, form, refl, primitive, λ some. absurd (omega arith)), less_none (0 - 2) sh d vs (omega arith) h))
  component_values sh k c d found (inr (form, (held, inner, may, so_far))) (vs, h) =
      (Constructed c.tag inner vs, ((c, found, form, refl, held, may, less_none (0 - 1) (structure m c.spot) held inner (omega arith) so_far), less_none (0 - (length (parts_of inner) + 2)) sh d vs (omega arith) h))

-- ---- what is open can be completed

module _ {P : Type 0} (m : DerMessage P) (filled : AreFilled m) where
  components_in : (come : ℕ) (sh : Structure P) (d : List ℕ) (vs : Values) → ValuesSoFar m come sh d vs → AreComponents (components_of sh) d
  components_in come sh [] vs h = tt
  components_in come sh (k ∷ d) Nothing h = absurd h
  components_in come sh (k ∷ d) (Primitive t contents more) ((c, found, a, b, e, f), h) = ((c, found), components_in (come - 2) sh d more h)
  components_in come sh (k ∷ d) (Constructed t inner more) ((c, found, a, b, e, f, g), h) = ((c, found), components_in (come - (length (parts_of inner) + 2)) sh d more h)

  -- an open value can hold components, and not too many have come
  abbrev pub Stands : Cell P → Type 0
  Stands x = (held : List ℕ) × Occurs m x.spot × MayHoldComponents (structure m x.spot) held × AreComponents (components_of (structure m x.spot)) held × HasRoom (structure m x.spot) x.came

  abbrev pub AllHold : List (Cell P) → Type 0
  AllHold [] = Unit {0}
  AllHold (x ∷ xs) = Stands x × AllHold xs

  abbrev pub StageHolds : Stage P → Type 0
  StageHolds Outside = Unit {0}
  StageHolds (Held spot xs) = IsPrimitive (structure m spot) × AllHold xs
  StageHolds (In xs) = AllHold xs

  values_stand : (spot : Spot P) → Occurs m spot → HasValues m (structure m spot) → Stands (cell spot [])
  values_stand spot occurs (held, inner, may, so_far) = (held, occurs, may, components_in 0 (structure m spot) held inner so_far, room_first (structure m spot))

  component_stands : (b : Bool) (c : Component P) (x : Cell P) (xs : List (Cell P)) (k : ℕ) → c.constructed ≡ b → Occurs m c.spot → IsFilled m c → Stands (cell x.spot (k ∷ x.came)) → AllHold xs → StageHolds (begun_stage x xs b (Begins k c))
  component_stands true c x xs k e occurs (inl (f, primitive)) here above = (let q : true ≡ false = sym e ∙ f in absurd cc)
  component_stands true c x xs k e occurs (inr (f, values)) here above = (values_stand c.spot occurs values, (here, above))
  component_stands false c x xs k e occurs (inl (f, primitive)) here above = (primitive, (here, above))
  component_stands false c x xs k e occurs (inr (f, values)) here above = (let q : false ≡ true = sym e ∙ f in absurd cc)

  after_stands : (come : ℕ) (stage : Stage P) (p : Part) → StageHolds stage → MayAt m come stage p → StageHolds (after m stage p)
  after_stands come Outside (Identifier b t) stands h = (values_stand Instance first filled.instance, tt)
  after_stands come (In (x ∷ xs)) (Identifier b t) ((held, occurs, may, each, room), above) (k, c, begins) =
      let q : (slice_get (components_of (structure m x.spot)) k ≡ Some c) × (c.constructed ≡ b) × (c.tag ≡ t) × HasRoom (structure m x.spot) (k ∷ x.came) × ((d : List ℕ) → Remain (structure m x.spot) (k ∷ x.came) d → Remain (structure m x.spot) x.came (k ∷ d)) = begins_remains (structure m x.spot) x.came b t k c begins in
      rw begins (component_stands b c x xs k q.1 (within x.spot k c occurs q.0) (filled.components x.spot k c occurs q.0) (held, occurs, may, each, q.3) above)
  after_stands come (Held spot xs) (states.Contents octets) stands h = stands.1
  after_stands come (In (x ∷ xs)) End stands h = stands.1
  after_stands come stage p stands h = absurd h

  over_stands : (stage : Stage P) (ps : List Part) → StageHolds stage → AreFine m stage ps → StageHolds (over m stage ps)
  over_stands stage [] stands h = stands
  over_stands stage (p ∷ ps) stands h = over_stands (after m stage p) ps (after_stands 1 stage p stands h.0) h.1

  some_values : (spot : Spot P) (d : List ℕ) → Occurs m spot → AreComponents (components_of (structure m spot)) d → (vs : Values) × ValuesSoFar m 0 (structure m spot) d vs
  some_values spot [] occurs h = (Nothing, tt)
  some_values spot (k ∷ d) occurs ((c, found), h) = component_values m (structure m spot) k c d found (filled.components spot k c occurs found) (some_values spot d occurs h)

  abbrev pub Completed : Stage P → Type 0
  Completed stage = (rest : List Part) × MayFollow m 0 stage rest

  less_follow : (n : ℕ) (stage : Stage P) (ps : List Part) → n ≡ 0 → MayFollow m 0 stage ps → MayFollow m n stage ps
  less_follow n stage ps e h = rw e h

  complete_cell : (x : Cell P) (xs : List (Cell P)) → Stands x → Completed (In xs) → Completed (In (x ∷ xs))
  complete_cell x xs (held, occurs, may, each, room) (rest, follow) =
      let r : (more : List ℕ) × Remain (structure m x.spot) x.came more × AreComponents (components_of (structure m x.spot)) more = remain_some (structure m x.spot) x.came held may each room in
      let v : (vs : Values) × ValuesSoFar m 0 (structure m x.spot) r.0 vs = some_values x.spot r.0 occurs r.2 in
      (parts_of v.0 ++ (End ∷ rest), values_may m (all_apart m) v.0 0 0 x.spot x.came r.0 xs rest (omega arith) r.1 v.1 follow)

  complete_cells : (xs : List (Cell P)) → AllHold xs → Completed (In xs)
  complete_cells [] h = ([], refl)
  complete_cells (x ∷ xs) h = complete_cell x xs h.0 (complete_cells xs h.1)

  complete : (stage : Stage P) → StageHolds stage → Completed stage
  complete Outside stands = of_instance filled.instance
    where
      of_instance : HasValues m (structure m Instance) → Completed Outside
      of_instance (held, inner, may, so_far) = (
        Identifier true (universal 16) ∷ (parts_of inner ++ (End ∷ [])),
        (
          under_own (outermost m),
          values_may m (all_apart m) inner (0 - 1) 0 Instance [] held [] [] (omega arith) (hold_remain (structure m Instance) held may) (less_none m (0 - 1) (structure m Instance) held inner (omega arith) so_far) refl,
        ),
      )
  complete (Held spot xs) (primitive, above) = (let r : Completed (In xs) = complete_cells xs above in (states.Contents [] ∷ r.0, ((primitive, λ some. absurd (omega arith)), less_follow (0 - 1) (In xs) r.0 (omega arith) r.1)))
  complete (In xs) stands = complete_cells xs stands

  -- ---- the parts that have come

  fine_more : (come : ℕ) (stage : Stage P) (p : Part) → MayAt m 1 stage p → MayAt m come stage p
  fine_more come Outside (Identifier b t) h = h
  fine_more come (In (x ∷ xs)) (Identifier b t) h = h
  fine_more come (Held spot xs) (states.Contents octets) h = (h.0, λ some. h.1 (omega arith))
  fine_more come (In (x ∷ xs)) End h = h
  fine_more come stage p h = absurd h

  more_fine : (come : ℕ) (stage : Stage P) (p : Part) → 0 < come → MayAt m come stage p → MayAt m 1 stage p
  more_fine come Outside (Identifier b t) some h = h
  more_fine come (In (x ∷ xs)) (Identifier b t) some h = h
  more_fine come (Held spot xs) (states.Contents octets) some h = (h.0, λ one. h.1 some)
  more_fine come (In (x ∷ xs)) End some h = h
  more_fine come stage p some h = absurd h

  fine_may : (come left : ℕ) (stage : Stage P) (ps rest : List Part) → left ≡ come - length ps → AreFine m stage ps → MayFollow m left (over m stage ps) rest → MayFollow m come stage (ps ++ rest)
  fine_may come left stage [] rest e fine h = (let same : left ≡ come = omega arith in rw (← same) h)
  fine_may come left stage (p ∷ ps) rest e fine h = (fine_more come stage p fine.0, fine_may (come - 1) left (after m stage p) ps rest (omega arith) fine.1 h)

  may_is_fine : (come : ℕ) (stage : Stage P) (ps rest : List Part) → length ps ≤ come → MayFollow m come stage (ps ++ rest) → AreFine m stage ps
  may_is_fine come stage [] rest few h = tt
  may_is_fine come stage (p ∷ ps) rest few h = (more_fine come stage p (omega arith) h.0, may_is_fine (come - 1) (after m stage p) ps rest (omega arith) h.1)

  pub fine_is_open : (ps : List Part) → AreFine m Outside ps → ArePartsOpen m ps
  fine_is_open ps fine = of_rest (complete (over m Outside ps) (over_stands Outside ps tt fine))
    where
      of_values : (rest : List Part) (inner : Values) → ps ++ rest ≡ Identifier true (universal 16) ∷ parts_of inner ++ End ∷ [] → ValuesOf m (all_apart m) (length ps - 1) Instance [] inner [] [] → ArePartsOpen m ps
      of_values rest inner e (held, remain, so_far, b) = record { held = held; may_hold = remain_hold (structure m Instance) held remain; inner = inner; behind = rest; goes_on = e; so_far = so_far }

      of_closed : (rest : List Part) → MayFollow m (length ps) Outside (ps ++ rest) → ((inner : Values) × (b : Bool) × (t : Tag) × (ps ++ rest ≡ Identifier b t ∷ parts_of inner ++ End ∷ [])) → ArePartsOpen m ps
      of_closed rest follow (inner, b, t, e) =
          let h : MayFollow m (length ps) Outside (Identifier b t ∷ parts_of inner ++ End ∷ []) = rw e at follow in
          let u : (true ≡ b) × (universal 16 ≡ t) = under_same (outermost m) b t h.0 in
          of_values rest inner (e ∙ (ap (λ z. Identifier z t ∷ parts_of inner ++ End ∷ []) (sym u.0) ∙ ap (λ z. Identifier true z ∷ parts_of inner ++ End ∷ []) (sym u.1)))
          (values_so m (all_apart m) inner (length ps - 1) Instance [] [] [] (room_first (structure m Instance)) h.1)

      of_rest : Completed (over m Outside ps) → ArePartsOpen m ps
      of_rest (rest, follow) =
          let all : MayFollow m (length ps) Outside (ps ++ rest) = fine_may (length ps) 0 Outside ps rest (omega arith) fine follow in
          of_closed rest all (parse m (length ps) Outside (ps ++ rest) all)

  pub open_is_fine : (ps : List Part) → ArePartsOpen m ps → AreFine m Outside ps
  open_is_fine ps o =
      may_is_fine (length ps) Outside ps o.behind (omega arith)
      (rw o.goes_on (under_own (outermost m), values_may m (all_apart m) o.inner (length ps - 1) (length ps - 1 - (length (parts_of o.inner) + 1)) Instance [] o.held [] [] refl (hold_remain (structure m Instance) o.held o.may_hold) o.so_far refl))
