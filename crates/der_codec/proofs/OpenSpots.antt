-- A leaf that is judged as its octets come, by the form of its type.
use Rattle.std.proofs.Common.{◌≡◌, ℕ, ◌+◌, List, [], ◌∷◌, ◌++◌, length, drop, ◌≤◌, inl, inr, Option, Some, None, Result, Ok, Err, refl, sym, ap, ◌∙◌, subst, arith}
use Rattle.std.specs.Global.{Box}
use Rattle.std.specs.Prelude.{IfOk, OnOk}
use Rattle.base64.specs.GeneralPurpose.{IsBytes}
use Rattle.data_types.proofs.OctetLemmas.{join_bytes}
use Rattle.lexical_core.specs.declared.rule.Rule.TheVariants.{BadContents}
use Rattle.data_types.specs.Leaf.{Bytes}
use Rattle.data_types.specs.LeafSteps.{HasBody, HasValue, body_in_place, memory_of}
use Rattle.data_types.specs.Value.{Holds as HoldsPiece}
use Rattle.data_types.specs.declared.collapsed_step.Value.{Value}
use Rattle.data_types.specs.declared.collapsed_step.Value.TheVariants as values
use Rattle.data_types.specs.declared.kind.Kind.{Kind}
use Rattle.data_types.specs.declared.kind.Kind.TheVariants as kind
use Rattle.data_types.specs.declared.leaf_step.Body.{Body}
use Rattle.data_types.specs.declared.leaf_step.Body.TheVariants as bodies
use Rattle.facets.specs.declared.simple.Simple.{Simple}
use Rattle.facets.proofs.HeldLemmas.{free_seen}
use Rattle.inst_pool.specs.Pieces.{Region}
use Rattle.reference_check.specs.Forms as graph
use Rattle.respell.specs.FragmentChecks.{HasTakenBytes}
use Rattle.message_model.specs.Tables.{Tables, types_of}
use Rattle.der_model.specs.DerMessage.{DerMessage, der_message}
use Rattle.der_model.specs.Faults.{IsHeldIn, BreaksIn}
use Rattle.der_model.specs.Structures as structures
use Rattle.der_model.specs.Structures.{Holds, LeafOf, Fragment, structure, form_structure}
use Rattle.der_model.specs.States as states
use Rattle.der_model.specs.States.{State, AwaitsContents}
use Rattle.der_codec.specs.Checking.{KeepsContents, held_by_leaf}
use Rattle.der_codec.specs.Decoding.{Reads, IsOpenState}
use Rattle.der_codec.specs.Judging.{HoldsLeaf, IsVerdictFor}
use Rattle.der_codec.specs.KeptOctets.{IsKeptAt}
use Rattle.der_codec.specs.KeptPieces.{HoldsLeafAt, GoesOnByLeaf, PiecesGoOn}
use Rattle.der_codec.specs.Levels.{IsSpot}
use Rattle.der_codec.specs.Limits.{IsFreeForm, IsBinaryForm, IsEnvelopeForm, OpensForm, OpensFreeText, OpensBinary, OpensEnvelope}
use Rattle.der_codec.specs.OpenLeaves.{IsOpenForm, IsOpenLeaf, IsOpenEnvelope, IsOpenUnder, IsOpenAt, HoldsAt, HoldsAlone, IsToldUnder, IsToldIn, IsHeldByCheck, held_by_envelope, held_with_check}
use Rattle.der_codec.specs.declared.checks.Refusal.{Refusal}
use Rattle.der_codec.specs.declared.checks.Refusal.TheVariants as refused
use Rattle.der_codec.specs.declared.decoder.Due.{Due}
use Rattle.der_codec.specs.declared.decoder.Due.TheVariants as due
use Rattle.der_codec.specs.declared.held.Held.{Held}
use Rattle.der_codec.specs.declared.level.Level.{Level}
use Rattle.der_codec.specs.declared.level.Spot.{Spot}
use Rattle.der_codec.specs.declared.level.Spot.TheVariants as spots
use Rattle.der_codec.specs.declared.open_envelope.OpenEnvelope.{OpenEnvelope}
use Rattle.der_codec.specs.declared.open_leaf.OpenLeaf.{OpenLeaf}
use Rattle.der_codec.specs.declared.open_leaf.OpenLeaf.TheVariants as opens
use Rattle.der_codec.proofs.ContentsJudged.{holds}
use Rattle.der_codec.proofs.ContentsSteps.{rest_from}
use Rattle.der_codec.proofs.CutSpots.{held_then, simple_none, under_few}
use Rattle.der_codec.proofs.OpenTexts.{none_more, none_told}

-- ---- a leaf behind more octets

pub none_passed : (f : graph.Form ℕ Simple) (rest before octets : List ℕ) → IsOpenUnder f opens.NoText rest before → IsOpenUnder f opens.NoText rest (before ++ octets)
none_passed (graph.Simple simple) rest before octets (free, none, bad) = (free, none, none_more before octets bad)
none_passed graph.Envelope rest before octets (none, is) = absurd is
none_passed f rest before octets h = absurd h

pub binary_passed : (f : graph.Form ℕ Simple) (rest before octets : List ℕ) → IsBytes octets → IsOpenUnder f opens.Binary rest before → IsOpenUnder f opens.Binary rest (before ++ octets)
binary_passed (graph.Simple simple) rest before octets are (binary, none, old) = (binary, none, join_bytes before octets old are)
binary_passed graph.Envelope rest before octets are (none, is) = absurd is
binary_passed f rest before octets are h = absurd h

pub envelope_taken : (f : graph.Form ℕ Simple) (check : Box OpenEnvelope) (rest octets : List ℕ) → IsOpenUnder f (opens.Envelope check) rest octets → HasTakenBytes check.value.check octets
envelope_taken graph.Envelope check rest octets (none, taken) = taken
envelope_taken (graph.Simple simple) check rest octets h = absurd h
envelope_taken f check rest octets h = absurd h

pub envelope_passed : {E : Type 0} (f : graph.Form ℕ Simple) (check : Box OpenEnvelope) (rest before after : List ℕ) (result : Result OpenLeaf E) → IsOpenUnder f (opens.Envelope check) rest before → IfOk result (λ now. IsOpenEnvelope now after) → IfOk result (λ now. IsOpenUnder f now rest after)
envelope_passed graph.Envelope check rest before after (Ok now) (none, taken) h = (none, h)
envelope_passed graph.Envelope check rest before after (Err e) (none, taken) h = tt
envelope_passed (graph.Simple simple) check rest before after result is h = absurd is
envelope_passed f check rest before after result is h = absurd is

-- a leaf that is open under a simple type
pub leaf_under : (f : graph.Form ℕ Simple) (simple : Simple) (opened now : OpenLeaf) (rest octets : List ℕ) → f ≡ graph.Simple simple → opened ≡ now → IsOpenUnder f opened rest octets → IsOpenLeaf simple now rest octets
leaf_under f simple opened now rest octets form is h = subst (λ z. IsOpenLeaf simple z rest octets) is (subst (λ z. IsOpenUnder z opened rest octets) form h)

-- ---- what is held

-- octets at a spot where no leaf is judged as its octets come, with more behind them
pub alone_kept : {A E : Type 0} (m : DerMessage ℕ) (spot : Spot) (before after : Option OpenLeaf) (kept octets front less : List ℕ) (result : Result A E) → before ≡ None → after ≡ before → HoldsAlone m spot before kept octets
    → OnOk result (IsKeptAt m spot less (kept ++ front)) → OnOk result (HoldsAlone m spot after less (octets ++ front))
alone_kept m spot before after kept octets front less (Ok x) none same h k =
    let old = subst (λ o. HoldsAlone m spot o kept octets) none h in
    subst (λ o. HoldsAlone m spot o less (octets ++ front)) (sym (same ∙ none)) (held_then m spot kept octets front less old.0 k, old.1)
alone_kept m spot before after kept octets front less (Err e) none same h k = tt

-- ---- an open leaf keeps no pieces

pub opened_of : (m : DerMessage ℕ) (spot : Spot) (pieces : Option Region) (opened : Option OpenLeaf) (leaf : OpenLeaf) (kept octets : List ℕ) → opened ≡ Some leaf → HoldsAt m spot pieces opened kept octets → IsOpenAt m spot leaf kept octets × (pieces ≡ None)
opened_of m spot pieces opened leaf kept octets is h = subst (λ o. HoldsAt m spot pieces o kept octets) is h

pub opened_shown : {A E : Type 0} (m : DerMessage ℕ) (spot : Spot) (octets : List ℕ) (old new : Option Region) (result : Result A E) → old ≡ None → new ≡ old → IfOk result (λ _. HoldsLeafAt m spot octets (Bytes octets)) → IfOk result (λ _. GoesOnByLeaf m spot octets old new)
opened_shown m spot octets old new (Ok x) none same h = (Bytes octets, h, subst (λ o. PiecesGoOn o new (HoldsPiece (Bytes octets) ∷ [])) (sym none) (subst (λ o. PiecesGoOn None o (HoldsPiece (Bytes octets) ∷ [])) (sym (same ∙ none)) tt))
opened_shown m spot octets old new (Err e) none same h = tt

-- ---- how little is held where no pieces are kept

-- a spot that is that of a value
spot_value : (m : DerMessage ℕ) (spot : Spot) (p : ℕ) → IsSpot m.forms spot (structures.Value p) → spot ≡ spots.Value p
spot_value m (spots.Value n) p is = (let same : n ≡ p = cc in ap spots.Value same)
spot_value m spots.Instance p is = absurd cc
spot_value m (spots.List n k) p (s, there, is) = absurd cc
spot_value m (spots.Number n) p is = absurd cc

free_opens : (f : graph.Form ℕ Simple) → IsFreeForm f → IsOpenForm f
free_opens (graph.Simple simple) free = inl free
free_opens f free = absurd free

binary_opens : (f : graph.Form ℕ Simple) → IsBinaryForm f → IsOpenForm f
binary_opens (graph.Simple simple) binary = inr binary
binary_opens f binary = absurd binary

envelope_opens : (f : graph.Form ℕ Simple) → IsEnvelopeForm f → IsOpenForm f
envelope_opens graph.Envelope is = tt
envelope_opens f is = absurd is

free_bare : (f : graph.Form ℕ Simple) → IsFreeForm f → IsEnvelopeForm f → ⊥
free_bare (graph.Simple simple) free is = is
free_bare f free is = free

binary_bare : (f : graph.Form ℕ Simple) → IsBinaryForm f → IsEnvelopeForm f → ⊥
binary_bare (graph.Simple simple) binary is = is
binary_bare f binary is = binary

none_little : (m : DerMessage ℕ) (p : ℕ) (kept octets : List ℕ) (pieces : Option Region) → HoldsAt m (spots.Value p) pieces None kept octets → pieces ≡ None → IsOpenForm (m.forms p) → length kept ≡ 0
none_little m p kept octets pieces h none opens = (let few = h.0.few in let size = ap length (h.1 none opens) in omega (arith, few, size))

free_at : (m : DerMessage ℕ) (p : ℕ) (pieces : Option Region) (opened : Option OpenLeaf) (kept octets : List ℕ) → HoldsAt m (spots.Value p) pieces opened kept octets → pieces ≡ None → IsFreeForm (m.forms p) → length kept + held_by_envelope opened ≤ 3
free_at m p pieces None kept octets h none free = (let size = none_little m p kept octets pieces h none (free_opens (m.forms p) free) in omega (arith, size))
free_at m p pieces (Some opened) kept octets h none free =
    (let few = (under_few (m.forms p) opened kept octets h.0).0 in let bare = simple_none (m.forms p) opened kept octets (free_bare (m.forms p) free) h.0 in omega (arith, few, bare))

binary_none : (simple : Simple) (opened : OpenLeaf) (rest octets : List ℕ) → simple.kind ≡ kind.Binary → IsOpenLeaf simple opened rest octets → length rest ≡ 0
binary_none simple (opens.Text check) rest octets binary (free, t) = absurd (let both = sym free.0 ∙ binary in cc)
binary_none simple opens.NoText rest octets binary (free, none, bad) = ap length none
binary_none simple opens.Binary rest octets binary (is, none, are) = ap length none
binary_none simple (opens.Envelope check) rest octets binary h = absurd h

binary_under : (f : graph.Form ℕ Simple) (opened : OpenLeaf) (rest octets : List ℕ) → IsBinaryForm f → IsOpenUnder f opened rest octets → length rest ≡ 0
binary_under (graph.Simple simple) opened rest octets binary h = binary_none simple opened rest octets binary h
binary_under f opened rest octets binary h = absurd binary

binary_at : (m : DerMessage ℕ) (p : ℕ) (pieces : Option Region) (opened : Option OpenLeaf) (kept octets : List ℕ) → HoldsAt m (spots.Value p) pieces opened kept octets → pieces ≡ None → IsBinaryForm (m.forms p) → length kept + held_by_envelope opened ≡ 0
binary_at m p pieces None kept octets h none binary = (let size = none_little m p kept octets pieces h none (binary_opens (m.forms p) binary) in omega (arith, size))
binary_at m p pieces (Some opened) kept octets h none binary =
    (let few = binary_under (m.forms p) opened kept octets binary h.0 in let bare = simple_none (m.forms p) opened kept octets (binary_bare (m.forms p) binary) h.0 in omega (arith, few, bare))

envelope_under : (f : graph.Form ℕ Simple) (opened : OpenLeaf) (rest octets : List ℕ) → IsEnvelopeForm f → IsOpenUnder f opened rest octets → IsHeldByCheck (Some opened) octets (length rest + held_by_envelope (Some opened))
envelope_under graph.Envelope (opens.Envelope check) rest octets is (none, taken) = (taken, (let size = ap length none in omega (arith, size)))
envelope_under graph.Envelope opened rest octets is (none, other) = absurd other
envelope_under f opened rest octets is h = absurd is

envelope_at : (m : DerMessage ℕ) (p : ℕ) (pieces : Option Region) (opened : Option OpenLeaf) (kept octets : List ℕ) → HoldsAt m (spots.Value p) pieces opened kept octets → pieces ≡ None → IsEnvelopeForm (m.forms p) → IsHeldByCheck opened octets (length kept + held_by_envelope opened)
envelope_at m p pieces None kept octets h none is = (h.1 none (envelope_opens (m.forms p) is), (let size = none_little m p kept octets pieces h none (envelope_opens (m.forms p) is) in omega (arith, size)))
envelope_at m p pieces (Some opened) kept octets h none is = envelope_under (m.forms p) opened kept octets is h.0

-- what holds of a value of such a form, of which these octets have come, holds of the leaf that is open
opened_by : (F : graph.Form ℕ Simple → Type 0) (G : Option OpenLeaf → List ℕ → ℕ → Type 0) (T : Tables) (xs : List Level) (d : Due) (start place : ℕ) (bytes : List ℕ) (pieces : Option Region) (kept : Held) (r : Reads (der_message T) xs d start place bytes)
    → ((p : ℕ) → HoldsAt (der_message T) (spots.Value p) pieces kept.leaf kept.octets.items r.rest → F (types_of T p) → G kept.leaf r.rest (held_with_check kept))
    → KeepsContents T d pieces start bytes kept → OpensForm F (der_message T) r.state → G kept.leaf r.rest (held_with_check kept)
opened_by F G T xs d start place bytes pieces kept r each keeps is = by d r.state r.is_open keeps is (rest_from (der_message T) xs d start place bytes r)
  where
    m : DerMessage ℕ
    m = der_message T

    at : (spot : Spot) (of : structures.Spot ℕ) (names : List states.PathName) (count : ℕ) (ls : List (states.DerLevel ℕ)) → IsSpot m.forms spot of → HoldsAt m spot pieces kept.leaf kept.octets.items r.rest → OpensForm F m (AwaitsContents of names count ls) → G kept.leaf r.rest (held_with_check kept)
    at spot (structures.Value p) names count ls same h is = each p (subst (λ z. HoldsAt m z pieces kept.leaf kept.octets.items r.rest) (spot_value m spot p same) h) is
    at spot of names count ls same h is = absurd is

    by : (d : Due) (s : State ℕ) → IsOpenState m xs d s → KeepsContents T d pieces start bytes kept → OpensForm F m s → drop start bytes ≡ r.rest → G kept.leaf r.rest (held_with_check kept)
    by (due.Contents spot left) (AwaitsContents of names count ls) op k is e = at spot of names count ls op.0 (subst (HoldsAt m spot pieces kept.leaf kept.octets.items) e k) is
    by d (AwaitsContents of names count ls) op k is e = absurd op
    by d s op k is e = absurd is

pub free_held : (T : Tables) (xs : List Level) (d : Due) (start place : ℕ) (bytes : List ℕ) (pieces : Option Region) (kept : Held) (r : Reads (der_message T) xs d start place bytes) → KeepsContents T d pieces start bytes kept → pieces ≡ None
    → OpensFreeText (der_message T) r.state → held_with_check kept ≤ 3
free_held T xs d start place bytes pieces kept r keeps none = opened_by IsFreeForm (λ o octets held. held ≤ 3) T xs d start place bytes pieces kept r (λ p h free. free_at (der_message T) p pieces kept.leaf kept.octets.items r.rest h none free) keeps

pub binary_held : (T : Tables) (xs : List Level) (d : Due) (start place : ℕ) (bytes : List ℕ) (pieces : Option Region) (kept : Held) (r : Reads (der_message T) xs d start place bytes) → KeepsContents T d pieces start bytes kept → pieces ≡ None
    → OpensBinary (der_message T) r.state → held_with_check kept ≡ 0
binary_held T xs d start place bytes pieces kept r keeps none = opened_by IsBinaryForm (λ o octets held. held ≡ 0) T xs d start place bytes pieces kept r (λ p h binary. binary_at (der_message T) p pieces kept.leaf kept.octets.items r.rest h none binary) keeps

pub envelope_held : (T : Tables) (xs : List Level) (d : Due) (start place : ℕ) (bytes : List ℕ) (pieces : Option Region) (kept : Held) (r : Reads (der_message T) xs d start place bytes) → KeepsContents T d pieces start bytes kept → pieces ≡ None
    → OpensEnvelope (der_message T) r.state → IsHeldByCheck kept.leaf r.rest (held_with_check kept)
envelope_held T xs d start place bytes pieces kept r keeps none = opened_by IsEnvelopeForm IsHeldByCheck T xs d start place bytes pieces kept r (λ p h is. envelope_at (der_message T) p pieces kept.leaf kept.octets.items r.rest h none is) keeps

-- ---- the check of a text keeps no bytes

kept_none_by : (k : Kind) (body : Body) (chars : List ℕ) → k ≡ kind.Text → HasBody k body (Some 0) chars → length (memory_of body).held + body_in_place body ≡ 0
kept_none_by k (bodies.Text text) chars is (same, h) = (let few = h.1.bound in let used = h.1.within in omega (arith, few, used))
kept_none_by k (bodies.Collapsed step) chars is (collapsed, c, h) = absurd (by step.value h)
  where
    by : (v : Value) → HasValue k v (Some 0) chars collapsed → ⊥
    by (values.Decimal s) h = (let both = sym is ∙ h.0 in cc)
    by (values.Short s) h = h.0.no_text is
    by (values.Octets s) h = (let both = sym is ∙ h.0 in cc)

leaf_keeps : (simple : Simple) (opened : OpenLeaf) (rest octets : List ℕ) → IsOpenLeaf simple opened rest octets → held_by_leaf (Some opened) ≡ 0
leaf_keeps simple (opens.Text check) rest octets (free, t) = kept_none_by simple.kind check.value.progress.step.body t.chars free.0 (free_seen check.value.progress simple t.chars free t.taken.seen).step.1
leaf_keeps simple opens.NoText rest octets h = refl
leaf_keeps simple opens.Binary rest octets h = refl
leaf_keeps simple (opens.Envelope check) rest octets h = absurd h

opened_keeps : (f : graph.Form ℕ Simple) (opened : OpenLeaf) (rest octets : List ℕ) → (IsEnvelopeForm f → ⊥) → IsOpenUnder f opened rest octets → held_by_leaf (Some opened) ≡ 0
opened_keeps (graph.Simple simple) opened rest octets other h = leaf_keeps simple opened rest octets h
opened_keeps graph.Envelope opened rest octets other h = absurd (other tt)
opened_keeps f opened rest octets other h = absurd h

-- only that of an envelope does
pub check_none : (T : Tables) (xs : List Level) (d : Due) (start place : ℕ) (bytes : List ℕ) (pieces : Option Region) (kept : Held) (r : Reads (der_message T) xs d start place bytes) → KeepsContents T d pieces start bytes kept
    → (OpensEnvelope (der_message T) r.state → ⊥) → held_by_leaf kept.leaf ≡ 0
check_none T xs d start place bytes pieces kept r keeps other = by d r.state r.is_open keeps other
  where
    m : DerMessage ℕ
    m = der_message T

    at : (spot : Spot) (of : structures.Spot ℕ) (names : List states.PathName) (count : ℕ) (ls : List (states.DerLevel ℕ)) (o : Option OpenLeaf) → IsSpot m.forms spot of → HoldsAt m spot pieces o kept.octets.items (drop start bytes)
        → (OpensEnvelope m (AwaitsContents of names count ls) → ⊥) → held_by_leaf o ≡ 0
    at spot of names count ls None same h other = refl
    at (spots.Value n) of names count ls (Some opened) same h other = opened_keeps (m.forms n) opened kept.octets.items (drop start bytes) (subst (λ z. OpensEnvelope m (AwaitsContents z names count ls) → ⊥) same other) h.0
    at spot of names count ls (Some opened) same h other = absurd h.0

    by : (d : Due) (s : State ℕ) → IsOpenState m xs d s → KeepsContents T d pieces start bytes kept → (OpensEnvelope m s → ⊥) → held_by_leaf kept.leaf ≡ 0
    by (due.Contents spot left) (AwaitsContents of names count ls) op k other = at spot of names count ls kept.leaf op.0 k other
    by (due.Contents spot left) s op k other = absurd op
    by (due.Tag step) s op k other = ap held_by_leaf k.1
    by (due.Length c spot step) s op k other = ap held_by_leaf k.1
    by due.Over s op k other = ap held_by_leaf k.1

-- ---- what is told of the octets of an open leaf

pub told_verdict : {X : Type 0} (m : DerMessage ℕ) (n : ℕ) (octets : List ℕ) (result : Result X Refusal) → IsToldIn m (structure m (structures.Value n)) octets result → IsVerdictFor m (spots.Value n) octets result
told_verdict m n octets (Ok x) h = λ of same. subst (λ z. IsHeldIn m (structure m z) octets) (sym same) (holds m (structure m (structures.Value n)) octets (Bytes octets) h)
told_verdict m n octets (Err (refused.Breaks rule)) h = λ of same. subst (λ z. BreaksIn m (structure m z) octets rule) (sym same) h
told_verdict m n octets (Err refused.Memory) h = tt

pub told_leaf : {X : Type 0} (m : DerMessage ℕ) (n : ℕ) (octets : List ℕ) (result : Result X Refusal) → IsToldIn m (structure m (structures.Value n)) octets result → IfOk result (λ _. HoldsLeafAt m (spots.Value n) octets (Bytes octets))
told_leaf m n octets (Ok x) h = λ of same. subst (λ z. HoldsLeaf m (structure m z) octets (Bytes octets)) (sym same) h
told_leaf m n octets (Err e) h = tt

-- that of a value of the form
told_form : {X : Type 0} (T : Tables) (n : ℕ) (f : graph.Form ℕ Simple) (octets : List ℕ) (result : Result X Refusal) → types_of T n ≡ f → IsToldIn (der_message T) (form_structure (types_of T) n f) octets result → IsToldIn (der_message T) (structure (der_message T) (structures.Value n)) octets result
told_form T n f octets result is h = subst (λ z. IsToldIn (der_message T) (form_structure (types_of T) n z) octets result) (sym is) h

pub told_simple : {X : Type 0} (T : Tables) (n : ℕ) (simple : Simple) (octets : List ℕ) (result : Result X Refusal) → types_of T n ≡ graph.Simple simple → IsToldUnder simple octets result → IsToldIn (der_message T) (structure (der_message T) (structures.Value n)) octets result
told_simple {X} T n simple octets result is told = told_form T n (graph.Simple simple) octets result is (by result told)
  where
    by : (result : Result X Refusal) → IsToldUnder simple octets result → IsToldIn (der_message T) (Holds (LeafOf simple)) octets result
    by (Ok x) h = h
    by (Err (refused.Breaks rule)) h = h
    by (Err refused.Memory) h = tt

-- an envelope is open in a value of no other form
pub told_envelope : {X : Type 0} (T : Tables) (n : ℕ) (check : Box OpenEnvelope) (rest octets : List ℕ) (result : Result X Refusal) → IsOpenUnder (types_of T n) (opens.Envelope check) rest octets → IsToldIn (der_message T) (Holds Fragment) octets result
    → IsToldIn (der_message T) (structure (der_message T) (structures.Value n)) octets result
told_envelope {X} T n check rest octets result h told = by (types_of T n) h
  where
    by : (f : graph.Form ℕ Simple) → IsOpenUnder f (opens.Envelope check) rest octets → IsToldIn (der_message T) (form_structure (types_of T) n f) octets result
    by graph.Envelope h = told
    by (graph.Simple simple) h = absurd h
    by f h = absurd h

-- octets of which no text comes, in the place of one
pub told_no_text : (T : Tables) (n : ℕ) (rest octets : List ℕ) → IsOpenUnder (types_of T n) opens.NoText rest octets → BreaksIn (der_message T) (structure (der_message T) (structures.Value n)) octets BadContents
told_no_text T n rest octets h = by (types_of T n) h
  where
    by : (f : graph.Form ℕ Simple) → IsOpenUnder f opens.NoText rest octets → BreaksIn (der_message T) (form_structure (types_of T) n f) octets BadContents
    by (graph.Simple simple) (free, none, bad) = none_told simple octets free bad
    by graph.Envelope (none, h) = absurd h
    by f h = absurd h
