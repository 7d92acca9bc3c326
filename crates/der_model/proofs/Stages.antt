-- Parts without lengths, one after the other: those that break nothing are those of values, as far as they have come.
use Rattle.std.proofs.Common.{◌≡◌, ℕ, ◌+◌, ◌-◌, ◌<◌, Bool, true, false, List, [], ◌∷◌, ◌++◌, length, Option, Some, refl, sym, ap, ◌∙◌, subst, arith, append_assoc, length-append}
use Rattle.std.specs.Prelude.{slice_get}
use Rattle.der_octets.specs.Octets.{Tag, Values, Nothing, Primitive, Constructed}
use Rattle.der_model.specs.DerMessage.{DerMessage}
use Rattle.der_model.specs.Structures.{Spot, Instance, Component, structure}
use Rattle.der_model.specs.States.{Part, Identifier, End, IdentifierAnswer, Begins, Breaks, Fine, is_under, identifier_answer, end_answer}
use Rattle.der_model.specs.States as states
use Rattle.der_model.specs.Faults.{IsHeldIn, outermost}
use Rattle.der_model.specs.OpenParts.{parts_of, components_of, IsPrimitive, ValuesSoFar}
use Rattle.der_model.proofs.OneLevel.{AreApart, Remain, HasRoom, remains_begins, begins_remains, none_remains, ends_remain, hold_remain, remain_hold, room_first}

-- an open value: what it is, and the components that have come, the latest first
pub record Cell (P : Type 0) : Type 0 where
  pub spot : Spot P
  pub came : List ℕ

abbrev pub cell : {P : Type 0} → Spot P → List ℕ → Cell P
cell spot came = record { spot = spot; came = came }

-- nothing yet; a primitive value whose contents are due; or the open values
pub data Stage (P : Type 0) : Type 0 where
  Outside : Stage P
  Held : (spot : Spot P) (cells : List (Cell P)) → Stage P
  In : (cells : List (Cell P)) → Stage P

abbrev pub begun_stage : {P : Type 0} → Cell P → List (Cell P) → Bool → IdentifierAnswer P → Stage P
begun_stage x xs b (Breaks rule added) = In (x ∷ xs)
begun_stage x xs true (Begins k c) = In (cell c.spot [] ∷ cell x.spot (k ∷ x.came) ∷ xs)
begun_stage x xs false (Begins k c) = Held c.spot (cell x.spot (k ∷ x.came) ∷ xs)

abbrev pub after : {P : Type 0} → DerMessage P → Stage P → Part → Stage P
after m Outside (Identifier b t) = In (cell Instance [] ∷ [])
after m (In (x ∷ xs)) (Identifier b t) = begun_stage x xs b (identifier_answer (structure m x.spot) x.came b t)
after m (Held spot xs) (states.Contents octets) = In xs
after m (In (x ∷ xs)) End = In xs
after m stage part = stage

abbrev pub MayAt : {P : Type 0} → DerMessage P → ℕ → Stage P → Part → Type 0
MayAt m come Outside (Identifier b t) = is_under (outermost m) b t ≡ true
MayAt {P} m come (In (x ∷ xs)) (Identifier b t) = (k : ℕ) × (c : Component P) × (identifier_answer (structure m x.spot) x.came b t ≡ Begins k c)
MayAt m come (Held spot xs) (states.Contents octets) = IsPrimitive (structure m spot) × (0 < come → IsHeldIn m (structure m spot) octets)
MayAt m come (In (x ∷ xs)) End = end_answer (structure m x.spot) x.came ≡ Fine
MayAt m come stage part = ⊥

-- the parts may follow, up to the end of the instance; so many have come
abbrev pub MayFollow : {P : Type 0} → DerMessage P → ℕ → Stage P → List Part → Type 0
MayFollow m come stage [] = stage ≡ In []
MayFollow m come stage (p ∷ ps) = MayAt m come stage p × MayFollow m (come - 1) (after m stage p) ps

abbrev pub over : {P : Type 0} → DerMessage P → Stage P → List Part → Stage P
over m stage [] = stage
over m stage (p ∷ ps) = over m (after m stage p) ps

-- parts that break nothing, one after the other
abbrev pub AreFine : {P : Type 0} → DerMessage P → Stage P → List Part → Type 0
AreFine m stage [] = Unit {0}
AreFine m stage (p ∷ ps) = MayAt m 1 stage p × AreFine m (after m stage p) ps

pub parts_size : (t : Tag) (inner rest : Values) → length (parts_of (Constructed t inner rest)) ≡ length (parts_of inner) + (length (parts_of rest) + 2)
parts_size t inner rest = omega (arith, length-append (parts_of inner) (End ∷ parts_of rest))

module _ {P : Type 0} (m : DerMessage P) (apart : (spot : Spot P) → AreApart (components_of (structure m spot))) where
  may_at : (come : ℕ) (stage other : Stage P) (ps : List Part) → stage ≡ other → MayFollow m come other ps → MayFollow m come stage ps
  may_at come stage other ps e h = rw e h

  may_come : (come left : ℕ) (stage : Stage P) (ps : List Part) → left ≡ come → MayFollow m left stage ps → MayFollow m come stage ps
  may_come come left stage ps e h = rw (← e) h

  some_is : {A : Type 0} (a b : A) → ◌≡◌ {A = Option A} (Some a) (Some b) → a ≡ b
  some_is a b e = cc

  identified : (x : Cell P) (b : Bool) (t : Tag) (k : ℕ) (c : Component P) → c.constructed ≡ b → c.tag ≡ t → identifier_answer (structure m x.spot) x.came c.constructed c.tag ≡ Begins k c → identifier_answer (structure m x.spot) x.came b t ≡ Begins k c
  identified x b t k c e f h = subst (λ z. identifier_answer (structure m x.spot) x.came z t ≡ Begins k c) e (subst (λ z. identifier_answer (structure m x.spot) x.came c.constructed z ≡ Begins k c) f h)

  -- values that have come so far may follow, up to the end of the value round them
  pub values_may : (vs : Values) (come left : ℕ) (spot : Spot P) (came d : List ℕ) (xs : List (Cell P)) (rest : List Part) → left ≡ come - (length (parts_of vs) + 1) → Remain (structure m spot) came d
      → ValuesSoFar m come (structure m spot) d vs → MayFollow m left (In xs) rest → MayFollow m come (In (cell spot came ∷ xs)) (parts_of vs ++ (End ∷ rest))
  values_may Nothing come left spot came [] xs rest e remain so_far may = (none_remains (structure m spot) came remain, may_come (come - 1) left (In xs) rest (omega arith) may)
  values_may Nothing come left spot came (k ∷ d) xs rest e remain so_far may = absurd so_far
  values_may (Primitive tag contents more) come left spot came [] xs rest e remain so_far may = absurd so_far
  values_may (Primitive tag contents more) come left spot came (k ∷ d) xs rest e remain ((c, found, form, is, primitive, held), so_far) may =
      let both : (identifier_answer (structure m spot) came c.constructed c.tag ≡ Begins k c) × Remain (structure m spot) (k ∷ came) d = remains_begins (structure m spot) came k d c (apart spot) remain found in
      let begins : identifier_answer (structure m spot) came false tag ≡ Begins k c = identified (cell spot came) false tag k c form is both.0 in
      let less : come - 2 ≡ come - 1 - 1 = omega arith in (
        (k, c, begins),
        may_at (come - 1) (begun_stage (cell spot came) xs false (identifier_answer (structure m spot) came false tag)) (Held c.spot (cell spot (k ∷ came) ∷ xs)) (states.Contents contents ∷ (parts_of more ++ (End ∷ rest))) (ap (begun_stage (cell spot came) xs false) begins) (
          (primitive, λ some. held (omega arith)),
          values_may more (come - 1 - 1) left spot (k ∷ came) d xs rest (omega arith) both.1 (subst (λ z. ValuesSoFar m z (structure m spot) d more) less so_far) may,
        ),
      )
  values_may (Constructed tag inner more) come left spot came [] xs rest e remain so_far may = absurd so_far
  values_may (Constructed tag inner more) come left spot came (k ∷ d) xs rest e remain ((c, found, form, is, held, holds, inside), so_far) may =
      let both : (identifier_answer (structure m spot) came c.constructed c.tag ≡ Begins k c) × Remain (structure m spot) (k ∷ came) d = remains_begins (structure m spot) came k d c (apart spot) remain found in
      let begins : identifier_answer (structure m spot) came true tag ≡ Begins k c = identified (cell spot came) true tag k c form is both.0 in (
        (k, c, begins),
        may_at (come - 1) (begun_stage (cell spot came) xs true (identifier_answer (structure m spot) came true tag)) (In (cell c.spot [] ∷ cell spot (k ∷ came) ∷ xs)) ((parts_of inner ++ (End ∷ parts_of more)) ++ (End ∷ rest)) (ap (begun_stage (cell spot came) xs true) begins)
            (rw (append_assoc (parts_of inner) (End ∷ parts_of more) (End ∷ rest))
            (values_may inner (come - 1) (come - (length (parts_of inner) + 2)) c.spot [] held (cell spot (k ∷ came) ∷ xs) (parts_of more ++ (End ∷ rest)) (omega arith) (hold_remain (structure m c.spot) held holds) inside
            (values_may more (come - (length (parts_of inner) + 2)) left spot (k ∷ came) d xs rest (omega (arith, parts_size tag inner more)) both.1 so_far may))),
      )

  -- and back
  abbrev pub Behind : ℕ → ℕ → List (Cell P) → List Part → Type 0
  Behind come size xs rest = (left : ℕ) × (left ≡ come - size) × MayFollow m left (In xs) rest

  abbrev pub ValuesOf : ℕ → Spot P → List ℕ → Values → List (Cell P) → List Part → Type 0
  ValuesOf come spot came vs xs rest = (d : List ℕ) × Remain (structure m spot) came d × ValuesSoFar m come (structure m spot) d vs × Behind come (length (parts_of vs) + 1) xs rest

  follow_by : (come : ℕ) (stage other : Stage P) (ps : List Part) → stage ≡ other → MayFollow m come stage ps → MayFollow m come other ps
  follow_by come stage other ps e h = rw e at h

  primitive_of : (come : ℕ) (spot : Spot P) (came : List ℕ) (tag : Tag) (contents : List ℕ) (more : Values) (xs : List (Cell P)) (rest : List Part) (k : ℕ) (c : Component P) → identifier_answer (structure m spot) came false tag ≡ Begins k c
      → MayFollow m (come - 1) (Held c.spot (cell spot (k ∷ came) ∷ xs)) (states.Contents contents ∷ (parts_of more ++ (End ∷ rest))) → ValuesOf (come - 1 - 1) spot (k ∷ came) more xs rest → ValuesOf come spot came (Primitive tag contents more) xs rest
  primitive_of come spot came tag contents more xs rest k c begins may (d, remain, so_far, (left, count, behind)) =
      let q : (slice_get (components_of (structure m spot)) k ≡ Some c) × (c.constructed ≡ false) × (c.tag ≡ tag) × HasRoom (structure m spot) (k ∷ came) × ((d : List ℕ) → Remain (structure m spot) (k ∷ came) d → Remain (structure m spot) came (k ∷ d)) = begins_remains (structure m spot) came false tag k c begins in
      let less : come - 1 - 1 ≡ come - 2 = omega arith in
      (k ∷ d, q.4 d remain, ((c, q.0, q.1, q.2, may.0.0, λ some. may.0.1 (omega arith)), subst (λ z. ValuesSoFar m z (structure m spot) d more) less so_far), (left, omega (arith, count), behind))

  constructed_of : (come : ℕ) (spot : Spot P) (came : List ℕ) (tag : Tag) (inner more : Values) (xs : List (Cell P)) (rest : List Part) (k : ℕ) (c : Component P) (left : ℕ) → identifier_answer (structure m spot) came true tag ≡ Begins k c
      → (held : List ℕ) → Remain (structure m c.spot) [] held → ValuesSoFar m (come - 1) (structure m c.spot) held inner → left ≡ come - 1 - (length (parts_of inner) + 1) → ValuesOf left spot (k ∷ came) more xs rest → ValuesOf come spot came (Constructed tag inner more) xs rest
  constructed_of come spot came tag inner more xs rest k c left begins held holds inside e (d, remain, so_far, (left', count, behind)) =
      let q : (slice_get (components_of (structure m spot)) k ≡ Some c) × (c.constructed ≡ true) × (c.tag ≡ tag) × HasRoom (structure m spot) (k ∷ came) × ((d : List ℕ) → Remain (structure m spot) (k ∷ came) d → Remain (structure m spot) came (k ∷ d)) = begins_remains (structure m spot) came true tag k c begins in
      let less : left ≡ come - (length (parts_of inner) + 2) = omega arith in
      (k ∷ d, q.4 d remain, ((c, q.0, q.1, q.2, held, remain_hold (structure m c.spot) held holds, inside), subst (λ z. ValuesSoFar m z (structure m spot) d more) less so_far), (left', omega (arith, parts_size tag inner more, count), behind))

  pub values_so : (vs : Values) (come : ℕ) (spot : Spot P) (came : List ℕ) (xs : List (Cell P)) (rest : List Part) → HasRoom (structure m spot) came
      → MayFollow m come (In (cell spot came ∷ xs)) (parts_of vs ++ (End ∷ rest)) → ValuesOf come spot came vs xs rest
  values_so Nothing come spot came xs rest room h = ([], ends_remain (structure m spot) came room h.0, tt, (come - 1, refl, h.1))
  values_so (Primitive tag contents more) come spot came xs rest room ((k, c, begins), h) =
      let may : MayFollow m (come - 1) (Held c.spot (cell spot (k ∷ came) ∷ xs)) (states.Contents contents ∷ (parts_of more ++ (End ∷ rest))) = follow_by (come - 1) (begun_stage (cell spot came) xs false (identifier_answer (structure m spot) came false tag)) (Held c.spot (cell spot (k ∷ came) ∷ xs)) (states.Contents contents ∷ (parts_of more ++ (End ∷ rest))) (ap (begun_stage (cell spot came) xs false) begins) h in
      primitive_of come spot came tag contents more xs rest k c begins may (values_so more (come - 1 - 1) spot (k ∷ came) xs rest (begins_remains (structure m spot) came false tag k c begins).3 may.1)
  values_so (Constructed tag inner more) come spot came xs rest room ((k, c, begins), h) =
      let q : (slice_get (components_of (structure m spot)) k ≡ Some c) × (c.constructed ≡ true) × (c.tag ≡ tag) × HasRoom (structure m spot) (k ∷ came) × ((d : List ℕ) → Remain (structure m spot) (k ∷ came) d → Remain (structure m spot) came (k ∷ d)) = begins_remains (structure m spot) came true tag k c begins in
      let may : MayFollow m (come - 1) (In (cell c.spot [] ∷ cell spot (k ∷ came) ∷ xs)) ((parts_of inner ++ (End ∷ parts_of more)) ++ (End ∷ rest)) = follow_by (come - 1) (begun_stage (cell spot came) xs true (identifier_answer (structure m spot) came true tag)) (In (cell c.spot [] ∷ cell spot (k ∷ came) ∷ xs)) ((parts_of inner ++ (End ∷ parts_of more)) ++ (End ∷ rest)) (ap (begun_stage (cell spot came) xs true) begins) h in
      let i : ValuesOf (come - 1) c.spot [] inner (cell spot (k ∷ came) ∷ xs) (parts_of more ++ (End ∷ rest)) = values_so inner (come - 1) c.spot [] (cell spot (k ∷ came) ∷ xs) (parts_of more ++ (End ∷ rest)) (room_first (structure m c.spot)) (rw (append_assoc (parts_of inner) (End ∷ parts_of more) (End ∷ rest)) at may) in
      constructed_of come spot came tag inner more xs rest k c i.3.0 begins i.0 i.1 i.2 i.3.1 (values_so more i.3.0 spot (k ∷ came) xs rest q.3 i.3.2)

-- ---- the parts that close what is open are values and ends

abbrev pub ClosedIn : {P : Type 0} → List (Cell P) → List Part → Type 0
ClosedIn [] ps = ps ≡ []
ClosedIn (x ∷ xs) ps = (vs : Values) × (rest : List Part) × (ps ≡ parts_of vs ++ End ∷ rest) × ClosedIn xs rest

abbrev pub Closed : {P : Type 0} → Stage P → List Part → Type 0
Closed Outside ps = (inner : Values) × (b : Bool) × (t : Tag) × (ps ≡ Identifier b t ∷ parts_of inner ++ End ∷ [])
Closed (Held spot xs) ps = (contents : List ℕ) × (rest : List Part) × (ps ≡ states.Contents contents ∷ rest) × ClosedIn xs rest
Closed (In xs) ps = ClosedIn xs ps

constructed_closed : {P : Type 0} (x y : Cell P) (xs : List (Cell P)) (t : Tag) (ps : List Part) → ClosedIn (x ∷ y ∷ xs) ps → ClosedIn (y ∷ xs) (Identifier true t ∷ ps)
constructed_closed x y xs t ps (inner, rest, e, (more, behind, e', closed)) =
    (Constructed t inner more, behind, ap (λ z. Identifier true t ∷ z) (e ∙ (ap (λ z. parts_of inner ++ End ∷ z) e' ∙ sym (append_assoc (parts_of inner) (End ∷ parts_of more) (End ∷ behind)))), closed)

primitive_closed : {P : Type 0} (y : Cell P) (xs : List (Cell P)) (t : Tag) (ps : List Part) → ((contents : List ℕ) × (rest : List Part) × (ps ≡ states.Contents contents ∷ rest) × ClosedIn (y ∷ xs) rest) → ClosedIn (y ∷ xs) (Identifier false t ∷ ps)
primitive_closed y xs t ps (contents, rest, e, (more, behind, e', closed)) =
    (Primitive t contents more, behind, ap (λ z. Identifier false t ∷ z) (e ∙ ap (λ z. states.Contents contents ∷ z) e'), closed)

root_closed : {P : Type 0} (x : Cell P) (b : Bool) (t : Tag) (ps : List Part) → ClosedIn (x ∷ []) ps → (inner : Values) × (c : Bool) × (u : Tag) × (Identifier b t ∷ ps ≡ Identifier c u ∷ parts_of inner ++ End ∷ [])
root_closed x b t ps (inner, rest, e, none) = (inner, b, t, ap (λ z. Identifier b t ∷ z) (e ∙ ap (λ z. parts_of inner ++ End ∷ z) none))

module _ {P : Type 0} (m : DerMessage P) where
  pub parse : (come : ℕ) (stage : Stage P) (ps : List Part) → MayFollow m come stage ps → Closed stage ps
  parse come Outside [] h = absurd cc
  parse come (Held spot xs) [] h = absurd cc
  parse come (In []) [] h = refl
  parse come (In (x ∷ xs)) [] h = absurd cc
  parse come Outside (Identifier b t ∷ ps) h = root_closed {P = P} (cell Instance []) b t ps (parse (come - 1) (In (cell Instance [] ∷ [])) ps h.1)
  parse come (In (x ∷ xs)) (Identifier true t ∷ ps) ((k, c, begins), h) =
      constructed_closed (cell c.spot []) (cell x.spot (k ∷ x.came)) xs t ps (parse (come - 1) (In (cell c.spot [] ∷ cell x.spot (k ∷ x.came) ∷ xs)) ps (rw begins at h))
  parse come (In (x ∷ xs)) (Identifier false t ∷ ps) ((k, c, begins), h) =
      primitive_closed (cell x.spot (k ∷ x.came)) xs t ps (parse (come - 1) (Held c.spot (cell x.spot (k ∷ x.came) ∷ xs)) ps (rw begins at h))
  parse come (Held spot xs) (states.Contents contents ∷ ps) h = (contents, ps, refl, parse (come - 1) (In xs) ps h.1)
  parse come (In (x ∷ xs)) (End ∷ ps) h = (Nothing, ps, refl, parse (come - 1) (In xs) ps h.1)
  parse come stage (p ∷ ps) h = absurd h.0
