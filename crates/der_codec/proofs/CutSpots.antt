-- What is kept of contents in values, and what is held of what is open.
use Rattle.std.proofs.Common.{◌≡◌, ℕ, zero, suc, ◌+◌, ◌-◌, ◌*◌, ◌≤◌, List, [], ◌∷◌, ◌++◌, length, drop, Option, Some, None, Ok, Err, refl, sym, ap, ◌∙◌, subst, arith, append_assoc, length-append, Bor, encode_utf8_all}
use Rattle.data_types.specs.Leaf.{Leaf}
use Rattle.facets.specs.LeafChecks.{IsHeldWithin}
use Rattle.facets.specs.declared.simple.Simple.{Simple}
use Rattle.inst_pool.specs.Pieces.{Region}
use Rattle.der_octets.specs.TagSteps as tags
use Rattle.der_octets.specs.LengthSteps as lengths
use Rattle.reference_check.specs.Forms as graph
use Rattle.reference_check.specs.Forms.{Graph}
use Rattle.message_model.specs.Sound.{AreSound, HaveSortedCodes}
use Rattle.message_model.specs.Tables.{Tables, types_of}
use Rattle.message_model.specs.Views.{IsFormOf}
use Rattle.message_model.specs.declared.model.Form.TheVariants as form
use Rattle.der_model.specs.DerMessage.{DerMessage, der_message}
use Rattle.der_model.specs.Faults.{IsHeldIn, BreaksIn}
use Rattle.der_model.specs.Structures as structures
use Rattle.der_model.specs.Structures.{Structure, Holds, LeafOf, structure, form_structure, number_structure}
use Rattle.der_model.specs.States.{State, Start, AwaitsLength, AwaitsContents, Within}
use Rattle.der_codec.specs.Judging.{HoldsLeaf}
use Rattle.der_codec.specs.KeptPieces.{HoldsLeafAt}
use Rattle.der_codec.specs.Levels.{IsSpot}
use Rattle.der_codec.specs.OpenLeaves.{IsOpenLeaf, IsOpenEnvelope, IsOpenUnder, IsOpenAt, HoldsAt, held_by_envelope, held_with_check}
use Rattle.der_codec.specs.KeptOctets.{IsKeptUnder, IsKeptIn, IsKeptAt, IsLeafAt}
use Rattle.der_codec.specs.Limits.{IsEnvelopeForm, contents_limit, open_limit, leaf_come, token_come}
use Rattle.der_codec.specs.Decoding.{Reads, IsOpenState, IsBegun, header_come}
use Rattle.der_codec.specs.Checking.{KeepsContents}
use Rattle.der_codec.specs.declared.held.Held.{Held}
use Rattle.der_codec.specs.declared.open_leaf.OpenLeaf.{OpenLeaf}
use Rattle.der_codec.specs.declared.open_leaf.OpenLeaf.TheVariants as opens
use Rattle.der_codec.specs.declared.level.Spot.{Spot}
use Rattle.der_codec.specs.declared.level.Spot.TheVariants as spots
use Rattle.der_codec.specs.declared.level.Level.{Level}
use Rattle.der_codec.specs.declared.decoder.Due.{Due}
use Rattle.der_codec.specs.declared.decoder.Due.TheVariants as due
use Rattle.der_codec.proofs.ContentsJudged.{simple_text, money_text}
use Rattle.der_codec.proofs.ContentsSteps.{rest_from}
use Rattle.der_codec.proofs.CutContents.{held_within_few}

held_more : (o : Option ℕ) (n k held : ℕ) → n ≤ k → IsHeldWithin o n held → IsHeldWithin o k held
held_more None n k held more h = omega (arith, more, h)
held_more (Some m) n k held more h = omega (arith, more, h)

held_none : (o : Option ℕ) (n : ℕ) → IsHeldWithin o n 0
held_none None n = omega arith
held_none (Some m) n = omega arith

-- ---- by the value

same_kept : (m : DerMessage ℕ) (s : Structure ℕ) (octets : List ℕ) → IsHeldWithin (contents_limit s) (length octets) (length octets) → IsKeptIn m s octets octets
same_kept m s octets within = record { held = λ more h. h; leaf = λ more leaf h. h; broken = λ more rule h. h; within = within }

-- nothing is kept of nothing
pub none_held : (m : DerMessage ℕ) (spot : Spot) (kept octets : List ℕ) → kept ≡ [] → octets ≡ [] → IsKeptAt m spot kept octets
none_held m spot kept octets e f = subst (λ z. IsKeptAt m spot z octets) (sym e) (subst (λ z. IsKeptAt m spot [] z) (sym f) (record { few = omega arith; stands = λ of is. same_kept m (structure m of) [] (held_none (contents_limit (structure m of)) 0) }))

pub nothing_held : (m : DerMessage ℕ) (spot : Spot) (pieces : Option Region) (opened : Option OpenLeaf) (kept octets : List ℕ) → kept ≡ [] → opened ≡ None → octets ≡ [] → HoldsAt m spot pieces opened kept octets
nothing_held m spot pieces opened kept octets e f g = subst (λ o. HoldsAt m spot pieces o kept octets) (sym f) (none_held m spot kept octets e g, λ alone is. g)

-- what is kept under a simple type is kept of the leaf
under_kept : (m : DerMessage ℕ) (simple : Simple) (kept octets : List ℕ) → IsKeptUnder simple kept octets → IsKeptIn m (Holds (LeafOf simple)) kept octets
under_kept m simple kept octets k = record {
  held = λ more h. (h.0, k.stands more (Ok h.0) h.1);
  leaf = λ more leaf h. k.stands more (Ok leaf) h;
  broken = λ more rule h. k.stands more (Err rule) h;
  within = k.within;
}

pub leaf_held : (m : DerMessage ℕ) (spot : Spot) (simple : Simple) (kept octets : List ℕ) → IsLeafAt m spot simple → IsKeptUnder simple kept octets → IsKeptAt m spot kept octets
leaf_held m spot simple kept octets l k = record {
  few = k.few;
  stands = λ of is. subst (λ s. IsKeptIn m s kept octets) (sym (l.leaf of is)) (under_kept m simple kept octets k);
}

-- what is kept with more behind it, of which again so many are kept
pub held_then : (m : DerMessage ℕ) (spot : Spot) (kept octets front less : List ℕ) → IsKeptAt m spot kept octets → IsKeptAt m spot less (kept ++ front) → IsKeptAt m spot less (octets ++ front)
held_then m spot kept octets front less k l = record {
  few = (let a = k.few in let b = l.few in let s = length-append kept front in let t = length-append octets front in omega (arith, a, b, s, t));
  stands = λ of is.
      let x = k.stands of is in let y = l.stands of is in record {
        held = λ more h. subst (IsHeldIn m (structure m of)) (sym (append_assoc octets front more)) (x.held (front ++ more) (subst (IsHeldIn m (structure m of)) (append_assoc kept front more) (y.held more h)));
        leaf = λ more leaf h. subst (λ z. HoldsLeaf m (structure m of) z leaf) (sym (append_assoc octets front more)) (x.leaf (front ++ more) leaf (subst (λ z. HoldsLeaf m (structure m of) z leaf) (append_assoc kept front more) (y.leaf more leaf h)));
        broken = λ more rule h. subst (λ z. BreaksIn m (structure m of) z rule) (sym (append_assoc octets front more)) (x.broken (front ++ more) rule (subst (λ z. BreaksIn m (structure m of) z rule) (append_assoc kept front more) (y.broken more rule h)));
        within = held_more (contents_limit (structure m of)) (length (kept ++ front)) (length (octets ++ front)) (length less)
            (let a = k.few in let s = length-append kept front in let t = length-append octets front in omega (arith, a, s, t)) y.within;
      };
}

-- ---- what is held

-- of an open leaf a few octets are held, and no more than have come
leaf_few : (simple : Simple) (opened : OpenLeaf) (rest octets : List ℕ) → IsOpenLeaf simple opened rest octets → (length rest ≤ 3) × (length rest ≤ length octets)
leaf_few simple (opens.Text check) rest octets (free, t) = (t.few, (let all = ap length t.octets_are in let sum = length-append (encode_utf8_all t.chars) rest in omega (arith, all, sum)))
leaf_few simple opens.NoText rest octets (free, none, bad) = (let size = ap length none in (omega (arith, size), omega (arith, size)))
leaf_few simple opens.Binary rest octets (binary, none, are) = (let size = ap length none in (omega (arith, size), omega (arith, size)))
leaf_few simple (opens.Envelope check) rest octets h = absurd h

pub under_few : (f : graph.Form ℕ Simple) (opened : OpenLeaf) (rest octets : List ℕ) → IsOpenUnder f opened rest octets → (length rest ≤ 3) × (length rest ≤ length octets)
under_few (graph.Simple simple) opened rest octets h = leaf_few simple opened rest octets h
under_few graph.Envelope opened rest octets (none, is) = (let size = ap length none in (omega (arith, size), omega (arith, size)))
under_few f opened rest octets h = absurd h

open_few : (m : DerMessage ℕ) (spot : Spot) (opened : OpenLeaf) (rest octets : List ℕ) → IsOpenAt m spot opened rest octets → (length rest ≤ 3) × (length rest ≤ length octets)
open_few m (spots.Value n) opened rest octets h = under_few (m.forms n) opened rest octets h
open_few m spot opened rest octets h = absurd h

pub held_few : (m : DerMessage ℕ) (spot : Spot) (pieces : Option Region) (opened : Option OpenLeaf) (kept octets : List ℕ) → HoldsAt m spot pieces opened kept octets → length kept ≤ length octets
held_few m spot pieces None kept octets h = h.0.few
held_few m spot pieces (Some opened) kept octets h = (open_few m spot opened kept octets h.0).1

-- where pieces are kept no leaf is open
pub none_open : (m : DerMessage ℕ) (spot : Spot) (pieces : Option Region) (region : Region) (opened : Option OpenLeaf) (kept octets : List ℕ) → pieces ≡ Some region → HoldsAt m spot pieces opened kept octets → opened ≡ None
none_open m spot pieces region None kept octets is h = refl
none_open m spot pieces region (Some opened) kept octets is h = absurd (let both = sym is ∙ h.1 in cc)

-- what is kept in the place of octets
pub stands_kept : (m : DerMessage ℕ) (spot : Spot) (pieces : Option Region) (opened : Option OpenLeaf) (kept octets : List ℕ) → opened ≡ None → HoldsAt m spot pieces opened kept octets → IsKeptAt m spot kept octets
stands_kept m spot pieces opened kept octets none h = (subst (λ o. HoldsAt m spot pieces o kept octets) none h).0

pub stands_leaf : (m : DerMessage ℕ) (spot : Spot) (kept octets front : List ℕ) (leaf : Leaf) → IsKeptAt m spot kept octets → HoldsLeafAt m spot (kept ++ front) leaf → HoldsLeafAt m spot (octets ++ front) leaf
stands_leaf m spot kept octets front leaf k h = λ of at. (k.stands of at).leaf front leaf (h of at)

-- ---- the simple type at a spot

simple_structure : (g : Graph ℕ Simple) (p : ℕ) (f : graph.Form ℕ Simple) (told : Bor Simple) → IsFormOf (Some (form.Simple told)) f → form_structure g p f ≡ Holds (LeafOf told.now)
simple_structure g p (graph.Simple simple) told is = ap (λ z. Holds (LeafOf z)) (sym is)
simple_structure g p f told is = absurd is

money_structure : (f : graph.Form ℕ Simple) (told : ℕ) (base : Bor Simple) → IsFormOf (Some (form.Money told base)) f → number_structure f ≡ Holds (LeafOf base.now)
money_structure (graph.Money code number) told base is = ap (λ z. Holds (LeafOf z)) (sym is.1)
money_structure f told base is = absurd is

pub value_leaf : (T : Tables) (p : ℕ) (told : Bor Simple) → AreSound (types_of T) → HaveSortedCodes (types_of T) → IsFormOf (Some (form.Simple told)) (types_of T p) → IsLeafAt (der_message T) (spots.Value p) told.now
value_leaf T p told sound sorted is = record {
  leaf = λ of e. ap (structure (der_message T)) e ∙ simple_structure (types_of T) p (types_of T p) told is;
  limits = (sound p).limits told.now (simple_text (types_of T p) told is);
  sorted = sorted p told.now (simple_text (types_of T p) told is);
}

pub number_leaf : (T : Tables) (p told : ℕ) (base : Bor Simple) → AreSound (types_of T) → HaveSortedCodes (types_of T) → IsFormOf (Some (form.Money told base)) (types_of T p) → IsLeafAt (der_message T) (spots.Number p) base.now
number_leaf T p told base sound sorted is = record {
  leaf = λ of e. ap (structure (der_message T)) e ∙ money_structure (types_of T p) told base is;
  limits = (sound p).limits base.now (money_text (types_of T p) told base is);
  sorted = sorted p base.now (money_text (types_of T p) told base is);
}

-- ---- what is held of what is open

-- what the check of an open envelope holds is at most twice what has come
abbrev pub HoldsTwice : Option OpenLeaf → List ℕ → ℕ → ℕ → Type 0
HoldsTwice opened octets few held = (leaf : OpenLeaf) → opened ≡ Some leaf → IsOpenEnvelope leaf octets → held ≤ few + 2 * length octets

-- of any other none is held
leaf_held_none : (simple : Simple) (opened : OpenLeaf) (rest octets : List ℕ) → IsOpenLeaf simple opened rest octets → held_by_envelope (Some opened) ≡ 0
leaf_held_none simple (opens.Text check) rest octets h = refl
leaf_held_none simple opens.NoText rest octets h = refl
leaf_held_none simple opens.Binary rest octets h = refl
leaf_held_none simple (opens.Envelope check) rest octets h = absurd h

pub simple_none : (f : graph.Form ℕ Simple) (opened : OpenLeaf) (rest octets : List ℕ) → (IsEnvelopeForm f → ⊥) → IsOpenUnder f opened rest octets → held_by_envelope (Some opened) ≡ 0
simple_none (graph.Simple simple) opened rest octets other h = leaf_held_none simple opened rest octets h
simple_none graph.Envelope opened rest octets other h = absurd (other tt)
simple_none f opened rest octets other h = absurd h

value_within : (m : DerMessage ℕ) (n : ℕ) (f : graph.Form ℕ Simple) (opened : OpenLeaf) (rest octets : List ℕ) (held : ℕ) → IsOpenUnder f opened rest octets → held ≡ length rest + held_by_envelope (Some opened) → HoldsTwice (Some opened) octets (length rest) held
    → IsHeldWithin (contents_limit (form_structure m.forms n f)) (length octets) held
value_within m n (graph.Simple simple) opened rest octets held h is twice =
    (let few = (leaf_few simple opened rest octets h).0 in let none = leaf_held_none simple opened rest octets h in held_within_few (contents_limit (form_structure m.forms n (graph.Simple simple))) (length octets) held (omega (arith, few, none, is)))
value_within m n graph.Envelope opened rest octets held (none, e) is twice = (let size = ap length none in let most = twice opened refl e in omega (arith, size, most))
value_within m n f opened rest octets held h is twice = absurd h

opened_within : (m : DerMessage ℕ) (spot : Spot) (opened : OpenLeaf) (rest octets : List ℕ) (held : ℕ) (of : structures.Spot ℕ) → IsOpenAt m spot opened rest octets → held ≡ length rest + held_by_envelope (Some opened) → HoldsTwice (Some opened) octets (length rest) held → IsSpot m.forms spot of
    → IsHeldWithin (contents_limit (structure m of)) (length octets) held
opened_within m (spots.Value n) opened rest octets held of h is twice at = subst (λ z. IsHeldWithin (contents_limit (structure m z)) (length octets) held) (sym at) (value_within m n (m.forms n) opened rest octets held h is twice)
opened_within m spot opened rest octets held of h is twice at = absurd h

held_at : (m : DerMessage ℕ) (spot : Spot) (pieces : Option Region) (opened : Option OpenLeaf) (kept octets : List ℕ) (held : ℕ) (of : structures.Spot ℕ) → HoldsAt m spot pieces opened kept octets → held ≡ length kept + held_by_envelope opened → HoldsTwice opened octets (length kept) held → IsSpot m.forms spot of
    → IsHeldWithin (contents_limit (structure m of)) (length octets) held
held_at m spot pieces None kept octets held of h is twice at = (let same : length kept ≡ held = omega (arith, is) in subst (IsHeldWithin (contents_limit (structure m of)) (length octets)) same (h.0.stands of at).within)
held_at m spot pieces (Some opened) kept octets held of h is twice at = opened_within m spot opened kept octets held of h.0 is twice at

pub held_open : (T : Tables) (xs : List Level) (d : Due) (start place : ℕ) (bytes : List ℕ) (pieces : Option Region) (kept : Held) (held : ℕ) (r : Reads (der_message T) xs d start place bytes) → KeepsContents T d pieces start bytes kept
    → held ≡ held_with_check kept → HoldsTwice kept.leaf r.rest (length kept.octets.items) held → IsHeldWithin (open_limit (der_message T) r.state) (leaf_come r.state r.rest) held
held_open T xs d start place bytes pieces kept held r keeps is twice = by d r.state r.is_open keeps (rest_from (der_message T) xs d start place bytes r)
  where
    nothing : (s : State ℕ) → kept.octets.items ≡ [] → kept.leaf ≡ None → IsHeldWithin (open_limit (der_message T) s) (leaf_come s r.rest) held
    nothing s e f = (let none = ap length e in let closed = ap held_by_envelope f in held_within_few (open_limit (der_message T) s) (leaf_come s r.rest) held (omega (arith, none, closed, is)))

    by : (d : Due) (s : State ℕ) → IsOpenState (der_message T) xs d s → KeepsContents T d pieces start bytes kept → drop start bytes ≡ r.rest → IsHeldWithin (open_limit (der_message T) s) (leaf_come s r.rest) held
    by (due.Contents spot left) (AwaitsContents of names count ls) op k e =
        held_at (der_message T) spot pieces kept.leaf kept.octets.items r.rest held of (subst (HoldsAt (der_message T) spot pieces kept.leaf kept.octets.items) e k) is twice op.0
    by (due.Contents spot left) s op k e = absurd op
    by (due.Tag step) s op k e = nothing s k.0 k.1
    by (due.Length c spot step) s op k e = nothing s k.0 k.1
    by due.Over s op k e = nothing s k.0 k.1

tag_few : (come first high : ℕ) (rest : List ℕ) → tags.HasTakenTagIn come first high rest → length rest ≤ 8
tag_few zero first high rest h = (let none = ap length h in omega (arith, none))
tag_few (suc zero) first high rest h = (let one = ap length h.octets_are in omega (arith, one))
tag_few (suc (suc come)) first high rest h = (let two = ap length h.octets_are in omega (arith, two))

length_few : (count come value : ℕ) (rest : List ℕ) → lengths.HasTakenLengthIn count come value rest → length rest ≤ 8
length_few zero come value rest h = (let none = ap length h in omega (arith, none))
length_few (suc count) come value rest h = (let all = ap length h.octets_are in let others = h.come_is in let few = h.fewer in let most = h.most in omega (arith, all, others, few, most))

-- the octets of a header that have come are as many as there are of the part that has begun, and few
pub token_open : (m : DerMessage ℕ) (xs : List Level) (d : Due) (start place : ℕ) (bytes : List ℕ) (r : Reads m xs d start place bytes) → (header_come d start place ≡ token_come r.state r.rest) × (header_come d start place ≤ 8)
token_open m xs d start place bytes r = by d r.state r.is_open r.is_begun
  where
    come : place - start ≡ length r.rest
    come = (let a = r.start_is in let b = r.place_is in omega (arith, a, b))

    by : (d : Due) (s : State ℕ) → IsOpenState m xs d s → IsBegun d s r.rest → (header_come d start place ≡ token_come s r.rest) × (header_come d start place ≤ 8)
    by (due.Tag step) Start op beg = (come, (let few = tag_few step.come step.first step.high r.rest beg in let c = come in omega (arith, few, c)))
    by (due.Tag step) (Within (l ∷ ls)) op beg = (come, (let few = tag_few step.come step.first step.high r.rest beg in let c = come in omega (arith, few, c)))
    by (due.Length c spot step) (AwaitsLength b of names ls) op beg = (come, (let few = length_few step.count step.come step.value r.rest beg in let c = come in omega (arith, few, c)))
    by (due.Contents spot left) (AwaitsContents of names count ls) op beg = (refl, omega arith)
    by due.Over (Within []) op beg = (sym (ap length beg), omega arith)
    by d s op beg = absurd op
