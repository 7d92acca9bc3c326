-- Whether a type is finite is decided: so a message that breaks no rule of structure reaches finite objects alone.
use Rattle.std.proofs.Common.{◌≡◌, ℕ, zero, suc, ◌+◌, ◌≤◌, ◌<◌, Bool, true, false, cond, ◌||◌, ◌&&◌, List, [], ◌∷◌, Option, Some, None, map, refl, sym, ◌∙◌, subst, arith, eqb, ◌⊎◌, inl, inr, length}
use Rattle.std.specs.Prelude.{IsTrue, slice_get, ◌==◌, nat_lt, not, Contains, ◌↔◌}
use Rattle.std.specs.List.{AllByRecursion}
use Rattle.std.specs.Str.{bytes_eq}
use Rattle.std.proofs.lemmas.Bool.{and_parts, and_from, or_cases, or_left, or_right}
use Rattle.std.proofs.lemmas.Bool.Decides.{nat_tests, eqb_tells}
use Rattle.std.proofs.lemmas.Slice.Eq.{bytes_eq-Decides}
use Rattle.lexical_core.proofs.Tests.{zero_told}
use native.Mathlib.Decide.{dec_lt}
use Rattle.repo_objects.specs.declared.objects.ElementDef.{ElementDef}
use Rattle.repo_objects.specs.declared.objects.MessageDef.{MessageDef}
use Rattle.repo_objects.specs.declared.objects.Object.{Object}
use Rattle.repo_objects.specs.declared.objects.ObjectKind.{ObjectKind}
use Rattle.repo_objects.specs.declared.objects.ObjectKind.TheVariants.{Simple, Component, Choice, External, Other}
use Rattle.repo_objects.specs.Repository.{Contents, DictionaryEntry}
use Rattle.repo_objects.specs.declared.objects.Kinds.TheVariants as kinds
use Rattle.reference_check.specs.Forms.{Slot, Form, Graph, form_slots}
use Rattle.reference_check.specs.Graph.{Place, document, message, entry, nowhere, graph, references, slot_of, find_entry}
use Rattle.reference_check.specs.Forms as form
use Rattle.reference_check.specs.Words.{UpTo}
use Rattle.reference_check.specs.Shapes.{IsFinite, MayBeFound, IsReached}
use Rattle.reference_check.specs.Reach.{elements_of, kind_elements, Reaches, currency}
use Rattle.reference_check.specs.Rules.{Endless, BadBounds, NotOneReference, IsSound, IsBelowEndless}
use Rattle.reference_check.specs.Laws.{ReadyAreFinite}
use Rattle.reference_check.proofs.Words.{IsProper}
use Rattle.reference_check.proofs.FiniteForms.{finite_form}
use Rattle.reference_check.proofs.FiniteMarks.{finds_the_finite, later_in}
use Rattle.reference_check.proofs.Lookups.{first_in}

-- ---- tests of lists

abbrev pub every : {A : Type 0} → (A → Bool) → List A → Bool
every f [] = true
every f (x ∷ xs) = f x && every f xs

abbrev some : {A : Type 0} → (A → Bool) → List A → Bool
some f [] = false
some f (x ∷ xs) = f x || some f xs

zero_of : (n : ℕ) → n ≡ 0 → (n == 0) ≡ true
zero_of n e = grind (arith, nat_tests)

abbrev pub up_to : ℕ → Option ℕ → Bool
up_to n None = true
up_to n (Some top) = not (nat_lt top n)

up_to_in : (n : ℕ) (max : Option ℕ) → up_to n max ≡ true → UpTo n max
up_to_in n None e = tt
up_to_in n (Some top) e = go n top e
  where
    go : (n top : ℕ) → not (nat_lt top n) ≡ true → n ≤ top
    go n top e = grind (arith, nat_tests)

up_to_of : (n : ℕ) (max : Option ℕ) → UpTo n max → up_to n max ≡ true
up_to_of n None u = refl
up_to_of n (Some top) u = go n top u
  where
    go : (n top : ℕ) → n ≤ top → not (nat_lt top n) ≡ true
    go n top l = grind (arith, nat_tests)

abbrev pub bounds_test : {P : Type 0} → Slot P → Bool
bounds_test s = up_to s.min s.max

abbrev slot_test : {P : Type 0} → (P → Bool) → Slot P → Bool
slot_test S s = (s.min == 0) || S s.target

abbrev form_test : {P L : Type 0} → (P → Bool) → Form P L → Bool
form_test S (form.Sequence fs) = every bounds_test fs && every (slot_test S) fs
form_test S (form.Choice fs) = every bounds_test fs && some (slot_test S) fs
form_test S form.Missing = false
form_test S _ = true

pub bounds_in : {P : Type 0} (fs : List (Slot P)) → every bounds_test fs ≡ true → IsProper fs
bounds_in [] e k s found = absurd cc
bounds_in (f ∷ fs) e zero s found =
    let same : f ≡ s = cc in
    rw (← same) (up_to_in f.min f.max (and_parts (bounds_test f) (every bounds_test fs) e).0)
bounds_in (f ∷ fs) e (suc k) s found = bounds_in fs (and_parts (bounds_test f) (every bounds_test fs) e).1 k s found

module _ {P L : Type 0} (g : Graph P L) where
  abbrev SoundMarks : (P → Bool) → Type 0
  SoundMarks S = (p : P) → S p ≡ true → IsFinite g p

  reached_in : (S : P → Bool) (s : Slot P) → SoundMarks S → slot_test S s ≡ true → IsReached (IsFinite g) s
  reached_in S s sound e = go (or_cases (s.min == 0) (S s.target) e)
    where
      go : ((s.min == 0) ≡ true) ⊎ (S s.target ≡ true) → IsReached (IsFinite g) s
      go (inl z) = inl (zero_told s.min z)
      go (inr h) = inr (sound s.target h)

  every_in : (S : P → Bool) (fs : List (Slot P)) → SoundMarks S → every (slot_test S) fs ≡ true → AllByRecursion (IsReached (IsFinite g)) fs
  every_in S [] sound e = tt
  every_in S (s ∷ fs) sound e = (let r : (slot_test S s ≡ true) × (every (slot_test S) fs ≡ true) = and_parts (slot_test S s) (every (slot_test S) fs) e in (reached_in S s sound r.0, every_in S fs sound r.1))

  some_in : (S : P → Bool) (fs : List (Slot P)) → SoundMarks S → some (slot_test S) fs ≡ true → (k : ℕ) × (s : Slot P) × (slice_get fs k ≡ Some s) × IsReached (IsFinite g) s
  some_in S [] sound e = absurd cc
  some_in S (s ∷ fs) sound e = go (or_cases (slot_test S s) (some (slot_test S) fs) e) (λ h. some_in S fs sound h)
    where
      go : (slot_test S s ≡ true) ⊎ (some (slot_test S) fs ≡ true) → (some (slot_test S) fs ≡ true → (k : ℕ) × (t : Slot P) × (slice_get fs k ≡ Some t) × IsReached (IsFinite g) t) → (k : ℕ) × (t : Slot P) × (slice_get (s ∷ fs) k ≡ Some t) × IsReached (IsFinite g) t
      go (inl h) later = (0, s, refl, reached_in S s sound h)
      go (inr h) later = (let r : (k : ℕ) × (t : Slot P) × (slice_get fs k ≡ Some t) × IsReached (IsFinite g) t = later h in (suc r.0, r.1, r.2, r.3))

  test_finite : (S : P → Bool) (p : P) (f : Form P L) → SoundMarks S → g p ≡ f → form_test S f ≡ true → IsFinite g p
  test_finite S p (form.Sequence fs) sound at e =
      let r : (every bounds_test fs ≡ true) × (every (slot_test S) fs ≡ true) = and_parts (every bounds_test fs) (every (slot_test S) fs) e in
      rw at (finite_form g (form.Sequence fs) (bounds_in fs r.0) (every_in S fs sound r.1))
  test_finite S p (form.Choice fs) sound at e =
      let r : (every bounds_test fs ≡ true) × (some (slot_test S) fs ≡ true) = and_parts (every bounds_test fs) (some (slot_test S) fs) e in
      rw at (finite_form g (form.Choice fs) (bounds_in fs r.0) (some_in S fs sound r.1))
  test_finite S p (form.Simple x) sound at e = rw at (finite_form g (form.Simple x) (λ k s found. absurd cc) tt)
  test_finite S p (form.Money c x) sound at e = rw at (finite_form g (form.Money c x) (λ k s found. absurd cc) tt)
  test_finite S p form.Envelope sound at e = rw at (finite_form g form.Envelope (λ k s found. absurd cc) tt)
  test_finite S p form.LeftOut sound at e = rw at (finite_form g form.LeftOut (λ k s found. absurd cc) tt)
  test_finite S p form.Missing sound at e = absurd cc

  -- a round
  abbrev grow : (P → Bool) → P → Bool
  grow S p = S p || form_test S (g p)

  grow_sound : (S : P → Bool) → SoundMarks S → SoundMarks (grow S)
  grow_sound S sound p e = go (or_cases (S p) (form_test S (g p)) e)
    where
      go : (S p ≡ true) ⊎ (form_test S (g p) ≡ true) → IsFinite g p
      go (inl h) = sound p h
      go (inr h) = test_finite S p (g p) sound refl h

  abbrev missing_of : (P → Bool) → List P → ℕ
  missing_of S [] = 0
  missing_of S (k ∷ ks) = cond (S k) 0 1 + missing_of S ks

  abbrev IsStable : (P → Bool) → List P → Type 0
  IsStable S ks = AllByRecursion (λ k. grow S k ≡ S k) ks

  one_less : (a b : Bool) (m n : ℕ) → m ≤ n → cond (a || b) 0 1 + m ≤ cond a 0 1 + n
  one_less true b m n h = omega arith
  one_less false true m n h = omega arith
  one_less false false m n h = omega arith

  fewer : (S : P → Bool) (ks : List P) → missing_of (grow S) ks ≤ missing_of S ks
  fewer S [] = omega arith
  fewer S (k ∷ ks) = one_less (S k) (form_test S (g k)) _ _ (fewer S ks)

  none_less : (a b : Bool) (m n : ℕ) → m ≤ n → cond a 0 1 + n ≤ cond (a || b) 0 1 + m → ((a || b) ≡ a) × (n ≤ m)
  none_less true b m n h e = (refl, omega arith)
  none_less false true m n h e = absurd (omega arith)
  none_less false false m n h e = (refl, omega arith)

  at_rest : (S : P → Bool) (ks : List P) → missing_of S ks ≤ missing_of (grow S) ks → IsStable S ks
  at_rest S [] h = tt
  at_rest S (k ∷ ks) h = (let r : ((S k || form_test S (g k)) ≡ S k) × (missing_of S ks ≤ missing_of (grow S) ks) = none_less (S k) (form_test S (g k)) _ _ (fewer S ks) h in (r.0, at_rest S ks r.1))

  abbrev Rest : List P → Type 0
  Rest all = (T : P → Bool) × SoundMarks T × IsStable T all

  -- some round changes nothing
  rest : (fuel : ℕ) (all : List P) (S : P → Bool) → missing_of S all ≤ fuel → SoundMarks S → Rest all
  rest zero all S h sound = (S, sound, at_rest S all (omega arith))
  rest (suc fuel) all S h sound = go (dec_lt (missing_of (grow S) all) (missing_of S all)) (λ l. rest fuel all (grow S) l (grow_sound S sound))
    where
      go : Dec (missing_of (grow S) all < missing_of S all) → (missing_of (grow S) all ≤ fuel → Rest all) → Rest all
      go (yes l) later = later (omega arith)
      go (no l) later = (S, sound, at_rest S all (omega arith))

  pub comes_to_rest : (all : List P) → Rest all
  comes_to_rest all = rest (missing_of (λ p. false) all) all (λ p. false) (omega arith) (λ p e. absurd cc)

-- ---- of a message that breaks no rule of structure

module _ (R : Contents) (m : List ℕ) (sound : IsSound R m IsBelowEndless) where
  own_bounds : (p : Place) → Reaches R m p → (e : ElementDef) → Contains (elements_of R m p) e → up_to e.min e.max ≡ true
  own_bounds p reach e here = go (up_to e.min e.max) refl
    where
      go : (b : Bool) → up_to e.min e.max ≡ b → up_to e.min e.max ≡ true
      go true h = h
      go false h = absurd (sound BadBounds p (omega arith) reach (e, here, none e.min e.max h))
        where
          none : (n : ℕ) (max : Option ℕ) → up_to n max ≡ false → Rattle.reference_check.specs.Rules.UpToMax n max → ⊥
          none n None h u = absurd cc
          none n (Some top) h u = (let q : up_to n (Some top) ≡ true = up_to_of n (Some top) u.0 in absurd cc)

  every_bounds : (es : List ElementDef) → ((e : ElementDef) → Contains es e → up_to e.min e.max ≡ true) → every bounds_test (map slot_of es) ≡ true
  every_bounds [] h = refl
  every_bounds (e ∷ es) h = and_from (up_to e.min e.max) _ (h e (first_in e es)) (every_bounds es (λ f k. h f (later_in e f es k)))

  every_of : (S : Place → Bool) (fs : List (Slot Place)) → AllByRecursion (IsReached (λ q. S q ≡ true)) fs → every (slot_test S) fs ≡ true
  every_of S [] h = refl
  every_of S (s ∷ fs) (inl z, h) = and_from (slot_test S s) _ (or_left (s.min == 0) (S s.target) (zero_of s.min z)) (every_of S fs h)
  every_of S (s ∷ fs) (inr y, h) = and_from (slot_test S s) _ (or_right (s.min == 0) (S s.target) y) (every_of S fs h)

  slot_of_reached : (S : Place → Bool) (s : Slot Place) → IsReached (λ q. S q ≡ true) s → slot_test S s ≡ true
  slot_of_reached S s (inl z) = or_left (s.min == 0) (S s.target) (zero_of s.min z)
  slot_of_reached S s (inr y) = or_right (s.min == 0) (S s.target) y

  some_of : (S : Place → Bool) (fs : List (Slot Place)) (k : ℕ) (s : Slot Place) → slice_get fs k ≡ Some s → slot_test S s ≡ true → some (slot_test S) fs ≡ true
  some_of S [] k s found e = absurd cc
  some_of S (f ∷ fs) zero s found e = (let same : f ≡ s = cc in or_left (slot_test S f) _ (rw same e))
  some_of S (f ∷ fs) (suc k) s found e = or_right (slot_test S f) _ (some_of S fs k s found e)

  test_of : (S : Place → Bool) (f : Form Place Object) → every bounds_test (form_slots f) ≡ true → MayBeFound (λ q. S q ≡ true) f → form_test S f ≡ true
  test_of S (form.Sequence fs) b h = and_from _ _ b (every_of S fs h)
  test_of S (form.Choice fs) b (k, s, found, r) = and_from _ _ b (some_of S fs k s found (slot_of_reached S s r))
  test_of S (form.Simple x) b h = refl
  test_of S (form.Money c x) b h = refl
  test_of S form.Envelope b h = refl
  test_of S form.LeftOut b h = refl
  test_of S form.Missing b h = absurd h

  message_bounds : (d : Option MessageDef) → ((e : ElementDef) → Contains (Rattle.reference_check.specs.Reach.blocks_or_none d) e → up_to e.min e.max ≡ true) → every bounds_test (form_slots (Rattle.reference_check.specs.Graph.message_form d)) ≡ true
  message_bounds None h = refl
  message_bounds (Some d) h = every_bounds d.blocks h

  simple_bounds : (o : Object) (k : Rattle.repo_objects.specs.declared.objects.Kinds.Kinds) (c : Option (List ℕ)) → every bounds_test (form_slots (Rattle.reference_check.specs.Graph.simple_form R o k c)) ≡ true
  simple_bounds o kinds.Amount None = refl
  simple_bounds o kinds.Amount (Some c) = refl
  simple_bounds o _ c = refl

  kind_bounds : (o : Object) (k : ObjectKind) → ((e : ElementDef) → Contains (kind_elements k o.elements) e → up_to e.min e.max ≡ true) → every bounds_test (form_slots (Rattle.reference_check.specs.Graph.object_form R o k)) ≡ true
  kind_bounds o (Simple k) h = simple_bounds o k o.currency
  kind_bounds o Component h = every_bounds o.elements h
  kind_bounds o Choice h = every_bounds o.elements h
  kind_bounds o External h = refl
  kind_bounds o Other h = refl

  object_bounds : (o : Option Object) → ((e : ElementDef) → Contains (Rattle.reference_check.specs.Reach.elements_or_none o) e → up_to e.min e.max ≡ true) → every bounds_test (form_slots (Rattle.reference_check.specs.Graph.entry_form R o)) ≡ true
  object_bounds None h = refl
  object_bounds (Some o) h = kind_bounds o o.kind h

  no_document : Reaches R m document → ⊥
  no_document h = elim h [ ]

  pub form_bounds : (p : Place) → Reaches R m p → every bounds_test (form_slots (graph R m p)) ≡ true
  form_bounds document reach = absurd (no_document reach)
  form_bounds message reach = message_bounds (Rattle.reference_check.specs.Graph.find_message m R.messages) (own_bounds message reach)
  form_bounds (entry id) reach = object_bounds (find_entry id R.objects) (own_bounds (entry id) reach)
  form_bounds nowhere reach = refl

  pub one_reference : (p : Place) (e : ElementDef) → Reaches R m p → Contains (elements_of R m p) e → length (references e) ≡ 1
  one_reference p e reach here = go (eqb_tells (length (references e)) 1)
    where
      go : ((eqb (length (references e)) 1 ≡ true) × (length (references e) ≡ 1)) ⊎ ((eqb (length (references e)) 1 ≡ false) × (length (references e) ≡ 1 → ⊥)) → length (references e) ≡ 1
      go (inl h) = h.1
      go (inr h) = absurd (sound NotOneReference p (omega arith) reach (e, here, h.1))

  abbrev places : List DictionaryEntry → List Place
  places [] = []
  places (e ∷ es) = entry e.id ∷ places es

  module _ (T : Place → Bool) where
    entry_stable : (id : List ℕ) (es : List DictionaryEntry) (o : Object) → find_entry id es ≡ Some o → IsStable (graph R m) T (places es) → grow (graph R m) T (entry id) ≡ T (entry id)
    entry_stable id [] o e h = absurd cc
    entry_stable id (x ∷ es) o e h = go (bytes_eq x.id id) refl (λ k. entry_stable id es o k h.1)
      where
        go : (b : Bool) → bytes_eq x.id id ≡ b → (find_entry id es ≡ Some o → grow (graph R m) T (entry id) ≡ T (entry id)) → grow (graph R m) T (entry id) ≡ T (entry id)
        go true k later = (let same : x.id ≡ id = (bytes_eq-Decides x.id id).0 k in subst (λ z. grow (graph R m) T (entry z) ≡ T (entry z)) same h.0)
        go false k later = later (rw k at e)

    by_growth : (p : Place) → grow (graph R m) T p ≡ T p → form_test T (graph R m p) ≡ true → T p ≡ true
    by_growth p still e = sym still ∙ or_right (T p) (form_test T (graph R m p)) e

    stable : IsStable (graph R m) T (message ∷ places R.objects) → (p : Place) → Reaches R m p → MayBeFound (λ q. T q ≡ true) (graph R m p) → T p ≡ true
    stable h document reach found = absurd (no_document reach)
    stable h message reach found = by_growth message h.0 (test_of T (graph R m message) (form_bounds message reach) found)
    stable h nowhere reach found = absurd found
    stable h (entry id) reach found = go (find_entry id R.objects) refl
      where
        go : (o : Option Object) → find_entry id R.objects ≡ o → T (entry id) ≡ true
        go None e = absurd (subst (λ (o : Option Object). MayBeFound (λ q. T q ≡ true) (Rattle.reference_check.specs.Graph.entry_form R o)) e found)
        go (Some o) e = by_growth (entry id) (entry_stable id R.objects o e h.1) (test_of T (graph R m (entry id)) (form_bounds (entry id) reach) found)

  finite_reached : ((p : Place) → Reaches R m p → (IsFinite (graph R m) p → ⊥) → ⊥) → (p : Place) → Reaches R m p → IsFinite (graph R m) p
  finite_reached endless p reach = of_rest (comes_to_rest (graph R m) (message ∷ places R.objects))
    where
      of_rest : Rest (graph R m) (message ∷ places R.objects) → IsFinite (graph R m) p
      of_rest (T, marks, h) = go (T p) refl
        where
          both : IsTrue (T p) ↔ IsFinite (graph R m) p
          both = finds_the_finite R m T marks (stable T h) one_reference p reach

          go : (b : Bool) → T p ≡ b → IsFinite (graph R m) p
          go true e = both.0 e
          go false e = absurd (endless p reach (λ f. (let q : T p ≡ true = both.1 f in absurd cc)))

pub ready_are_finite : ReadyAreFinite
ready_are_finite R m sound p reach = finite_reached R m (λ r q asked. sound r q (omega arith)) (λ q. sound Endless q (omega arith)) p reach
