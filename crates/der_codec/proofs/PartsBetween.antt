-- The parts that come between those that were read and those that were read with more bytes.
use Rattle.std.proofs.Common.{◌≡◌, ℕ, ◌+◌, ◌<◌, Bool, List, [], ◌∷◌, ◌++◌, length, refl, sym, ap, ◌∙◌, subst, arith, append_assoc, append-nil, length-append, ◌⊎◌, inl, inr}
use Rattle.std.proofs.lemmas.Bool.{cases_lt}
use Rattle.std.proofs.lemmas.List.{nil_from_length}
use Rattle.lexical_core.proofs.Lists.{nothing_behind}
use Rattle.der_octets.specs.Octets.{Tag, identifier, length_octets}
use Rattle.der_octets.specs.TagSteps as tags
use Rattle.der_octets.specs.LengthSteps as lengths
use Rattle.der_octets.specs.declared.tag_step.TagStep.{TagStep}
use Rattle.der_octets.specs.declared.length_step.LengthStep.{LengthStep}
use Rattle.der_octets.proofs.Headers.{identifier_end, length_octets_end, some_identifier}
use Rattle.der_octets.proofs.StepFronts.{tag_goes_on, length_goes_on}
use Rattle.der_octets.proofs.TagStepLemmas.{taken_none}
use Rattle.der_model.specs.DerMessage.{DerMessage}
use Rattle.der_model.specs.Structures as structures
use Rattle.der_model.specs.States as states
use Rattle.der_model.specs.States.{Part, Identifier, Length, End, part_octets, PathName, State, Start, AwaitsLength, AwaitsContents, Within, state_after}
use Rattle.der_model.specs.Faults.{DerFront}
use Rattle.der_model.proofs.Lists.{shorter_front}
use Rattle.der_model.proofs.OnePart.{one_part}
use Rattle.der_model.proofs.SomeHeader.{some_length}
use Rattle.der_codec.specs.Checking.{open_count}
use Rattle.der_codec.specs.Decoding.{IsOpenState, IsBegun, Reads, IsBelowEnd, IsSettled, BeginsContents, end_of_first}
use Rattle.der_codec.specs.declared.level.Level.{Level}
use Rattle.der_codec.specs.declared.decoder.Due.{Due}
use Rattle.der_codec.specs.declared.decoder.Due.TheVariants as due
use Rattle.der_codec.proofs.Nested.{front_rest}
use Rattle.der_codec.proofs.Steps.{open_limit}

-- ---- headers that are whole

no_whole_tag : (step : TagStep) (rest after : List ℕ) (c : Bool) (t : Tag) → tags.HasTakenTag step rest → rest ≡ identifier c t ++ after → ⊥
no_whole_tag step rest after c t taken is =
    let g = tag_goes_on step.come step.first step.high rest taken in
    let e : identifier c t ++ (after ++ g.more) ≡ identifier g.constructed g.tag ++ [] = sym (append_assoc (identifier c t) after g.more) ∙ (ap (λ z. z ++ g.more) (sym is) ∙ (g.is ∙ sym (append-nil (identifier g.constructed g.tag)))) in
    let same = identifier_end c g.constructed t g.tag (after ++ g.more) [] e in
    let none = ap length same.2 in let sum = length-append after g.more in let some = g.some in
    absurd (omega (arith, none, sum, some))

no_whole_length : (step : LengthStep) (rest after : List ℕ) (n : ℕ) → lengths.HasTakenLength step rest → rest ≡ length_octets n ++ after → ⊥
no_whole_length step rest after n taken is =
    let g = length_goes_on step.count step.come step.value rest taken in
    let e : length_octets n ++ (after ++ g.more) ≡ length_octets g.n ++ [] = sym (append_assoc (length_octets n) after g.more) ∙ (ap (λ z. z ++ g.more) (sym is) ∙ (g.is ∙ sym (append-nil (length_octets g.n)))) in
    let same = length_octets_end n g.n (after ++ g.more) [] e in
    let none = ap length same.1 in let sum = length-append after g.more in let some = g.some in
    absurd (omega (arith, none, sum, some))

-- octets of which one more ends what stands in front
front_ends : (header rest after : List ℕ) (o : ℕ) → rest ++ o ∷ [] ≡ header ++ after → ((z : List ℕ) → rest ≡ header ++ z → ⊥) → after ≡ []
front_ends header rest after o is none = elim (cases_lt (length rest) (length header)) [
  | inl below ↦ nil_from_length after (let a = ap length is in let b = length-append rest (o ∷ []) in let c = length-append header after in omega (arith, a, b, c, below))
  | inr above ↦ absurd (let r = shorter_front header rest after (o ∷ []) above (sym is) in none r.0 r.1)
]

pub tag_ends : (step : TagStep) (rest after : List ℕ) (o : ℕ) (c : Bool) (t : Tag) → tags.HasTakenTag step rest → rest ++ o ∷ [] ≡ identifier c t ++ after → after ≡ []
tag_ends step rest after o c t taken is = front_ends (identifier c t) rest after o is (λ z e. no_whole_tag step rest z c t taken e)

pub length_ends : (step : LengthStep) (rest after : List ℕ) (o n : ℕ) → lengths.HasTakenLength step rest → rest ++ o ∷ [] ≡ length_octets n ++ after → after ≡ []
length_ends step rest after o n taken is = front_ends (length_octets n) rest after o is (λ z e. no_whole_length step rest z n taken e)

-- ---- parts of no octets

pub no_identifier : (c : Bool) (t : Tag) (bytes after : List ℕ) → bytes ≡ [] → bytes ≡ identifier c t ++ after → ⊥
no_identifier c t bytes after none is = absurd (let some = some_identifier c t in let sum = length-append (identifier c t) after in let a = ap length is in let b = ap length none in omega (arith, some, sum, a, b))

pub no_length : (n : ℕ) (bytes after : List ℕ) → bytes ≡ [] → bytes ≡ length_octets n ++ after → ⊥
no_length n bytes after none is = absurd (let some = some_length n in let sum = length-append (length_octets n) after in let a = ap length is in let b = ap length none in omega (arith, some, sum, a, b))

-- each of them ends a value
pub ends_alone : (m : DerMessage ℕ) (s : State ℕ) (place : ℕ) (bytes : List ℕ) (ps : List Part) (last : State ℕ) (at : ℕ) (rest : List ℕ) → bytes ≡ [] → DerFront m s place bytes ps last at rest → open_count last + length ps ≡ open_count s
ends_alone m s place bytes [] last at rest none (p, q, r) = (let e : open_count s ≡ open_count last = ap open_count p in omega (arith, e))
ends_alone m Start place bytes (Identifier c t ∷ ps) last at rest none (after, is, st, u, cl, f) = absurd (no_identifier c t bytes after none is)
ends_alone m (Within (l ∷ ls)) place bytes (Identifier c t ∷ ps) last at rest none (after, is, st, u, cl, f) = absurd (no_identifier c t bytes after none is)
ends_alone m (AwaitsLength c of names ls) place bytes (Length n ∷ ps) last at rest none (after, is, st, u, cl, f) = absurd (no_length n bytes after none is)
ends_alone m (AwaitsContents of names count ls) place bytes (states.Contents o ∷ ps) last at rest none (after, is, st, u, cl, f) =
    let others = ends_alone m (Within ls) (place + length o) after ps last at rest (nothing_behind o after (sym none ∙ is)) f in
    omega (arith, others)
ends_alone m (Within (l ∷ ls)) place bytes (End ∷ ps) last at rest none (after, is, st, u, cl, f) =
    let others = ends_alone m (Within ls) (place + 0) after ps last at rest (sym is ∙ none) f in
    omega (arith, others)
ends_alone m s place bytes (p ∷ ps) last at rest none (after, is, st, u, cl, f) = absurd st

-- none comes where a length is awaited
pub none_awaited : (m : DerMessage ℕ) (c : Bool) (of : structures.Spot ℕ) (names : List PathName) (ls : List (states.DerLevel ℕ)) (place : ℕ) (bytes : List ℕ) (ps : List Part) (last : State ℕ) (at : ℕ) (rest : List ℕ) → bytes ≡ []
    → DerFront m (AwaitsLength c of names ls) place bytes ps last at rest → (ps ≡ []) × (AwaitsLength c of names ls ≡ last)
none_awaited m c of names ls place bytes [] last at rest none (p, q, r) = (refl, p)
none_awaited m c of names ls place bytes (Length n ∷ ps) last at rest none (after, is, st, u, cl, f) = absurd (no_length n bytes after none is)
none_awaited m c of names ls place bytes (p ∷ ps) last at rest none (after, is, st, u, cl, f) = absurd st

-- before the first byte
pub none_first : (m : DerMessage ℕ) (place : ℕ) (ps : List Part) (last : State ℕ) (at : ℕ) (rest : List ℕ) → DerFront m Start place [] ps last at rest → ps ≡ []
none_first m place [] last at rest f = refl
none_first m place (Identifier c t ∷ ps) last at rest (after, is, st, u, cl, f) = absurd (no_identifier c t [] after refl is)
none_first m place (p ∷ ps) last at rest (after, is, st, u, cl, f) = absurd st

-- ---- which of two fronts goes further

-- The second front goes on from the first.
pub record Between (m : DerMessage ℕ) (ps : List Part) (s : State ℕ) (at : ℕ) (left : List ℕ) (qs : List Part) (last : State ℕ) (end : ℕ) (rest : List ℕ) : Type 0 where
  pub parts : List Part
  pub are : qs ≡ ps ++ parts
  pub front : DerFront m s at left parts last end rest

-- The first front goes further than the second.
pub record Behind (m : DerMessage ℕ) (s : State ℕ) (at : ℕ) (left : List ℕ) (last : State ℕ) (end : ℕ) (rest : List ℕ) : Type 0 where
  pub part : Part
  pub others : List Part
  pub front : DerFront m last end rest (part ∷ others) s at left

one_more : (m : DerMessage ℕ) (p q : Part) (ps qs : List Part) (s : State ℕ) (at : ℕ) (left : List ℕ) (last : State ℕ) (end : ℕ) (rest : List ℕ) → p ≡ q → Between m ps s at left qs last end rest ⊎ Behind m s at left last end rest
    → Between m (p ∷ ps) s at left (q ∷ qs) last end rest ⊎ Behind m s at left last end rest
one_more m p q ps qs s at left last end rest e (inl b) = inl (record { parts = b.parts; are = ap (λ z. z ∷ qs) (sym e) ∙ ap (λ z. p ∷ z) b.are; front = b.front })
one_more m p q ps qs s at left last end rest e (inr b) = inr b

pub either_further : (m : DerMessage ℕ) (s : State ℕ) (place : ℕ) (bytes : List ℕ) (ps qs : List Part) (one two : State ℕ) (at end : ℕ) (left rest : List ℕ) → DerFront m s place bytes ps one at left → DerFront m s place bytes qs two end rest
    → Between m ps one at left qs two end rest ⊎ Behind m one at left two end rest
either_further m s place bytes [] qs one two at end left rest (e, d, r) g =
    inl (record { parts = qs; are = refl; front = subst (λ z. DerFront m z at left qs two end rest) e (subst (λ z. DerFront m s z left qs two end rest) d (subst (λ z. DerFront m s place z qs two end rest) r g)) })
either_further m s place bytes (p ∷ ps) [] one two at end left rest f (e, d, r) =
    inr (record { part = p; others = ps; front = subst (λ z. DerFront m z end rest (p ∷ ps) one at left) e (subst (λ z. DerFront m s z rest (p ∷ ps) one at left) d (subst (λ z. DerFront m s place z (p ∷ ps) one at left) r f)) })
either_further m s place bytes (p ∷ ps) (q ∷ qs) one two at end left rest (after, is, h, u, c, f) (after2, is2, h2, u2, c2, g) =
    let same = one_part s place p q after after2 h h2 (sym is ∙ is2) in
    let other : DerFront m (state_after m s place p) (place + length (part_octets p)) after qs two end rest =
    subst (λ z. DerFront m (state_after m s place z) (place + length (part_octets z)) after qs two end rest) (sym same.0) (subst (λ z. DerFront m (state_after m s place q) (place + length (part_octets q)) z qs two end rest) (sym same.1) g) in
    one_more m p q ps qs one at left two end rest same.0 (either_further m (state_after m s place p) (place + length (part_octets p)) after ps qs one two at end left rest f other)

-- Behind a header, or octets of one, no part stands behind which octets are left.
pub none_further : (m : DerMessage ℕ) (xs : List Level) (d : Due) (start place : ℕ) (bytes : List ℕ) (r : Reads m xs d start place bytes) → IsSettled d place (end_of_first xs) → BeginsContents d start place
    → (s : State ℕ) (at : ℕ) (left : List ℕ) → 0 < length left → Behind m s at left r.state r.at r.rest → ⊥
none_further m xs d start place bytes r settled begun s at left some b = by d r.state r.is_open r.is_begun settled begun b.part b.others b.front
  where
    more : (v : State ℕ) (ps : List Part) → DerFront m v r.at r.rest ps s at left → 0 < length r.rest
    more v ps f = (let t = front_rest m v r.at r.rest ps s at left f in let a = ap length t.1 in let sum = length-append t.0 left in omega (arith, a, sum, some))

    by : (d : Due) (v : State ℕ) → IsOpenState m xs d v → IsBegun d v r.rest → IsSettled d place (end_of_first xs) → BeginsContents d start place → (p : Part) (ps : List Part) → DerFront m v r.at r.rest (p ∷ ps) s at left → ⊥
    by (due.Tag step) Start op beg low new (Identifier c t) ps (after, is, st, u, cl, f) = no_whole_tag step r.rest after c t beg is
    by (due.Tag step) Start op beg low new p ps (after, is, st, u, cl, f) = absurd st
    by (due.Tag step) (Within (l ∷ ls)) op beg low new (Identifier c t) ps (after, is, st, u, cl, f) = no_whole_tag step r.rest after c t beg is
    by (due.Tag step) (Within (l ∷ ls)) op beg low new End ps (after, is, st, u, cl, f) =
        let size = more (Within (l ∷ ls)) (End ∷ ps) (after, is, st, u, cl, f) in
        let below : IsBelowEnd place (end_of_first xs) = low (λ none. (let e = ap length (taken_none step.come step.first step.high r.rest none beg) in omega (arith, e, size))) in
        let inside : place < l.end = subst (IsBelowEnd place) (sym (open_limit m xs (due.Tag step) (Within (l ∷ ls)) op)) below in
        let there = r.place_is in
        omega (arith, inside, there, st)
    by (due.Tag step) (Within (l ∷ ls)) op beg low new p ps (after, is, st, u, cl, f) = absurd st
    by (due.Length c spot step) (AwaitsLength b of names ls) op beg low new (Length n) ps (after, is, st, u, cl, f) = no_whole_length step r.rest after n beg is
    by (due.Length c spot step) (AwaitsLength b of names ls) op beg low new p ps (after, is, st, u, cl, f) = absurd st
    by (due.Contents spot count) (AwaitsContents of names n ls) op beg low new p ps f =
        let size = more (AwaitsContents of names n ls) (p ∷ ps) f in
        let a = r.start_is in let b = r.place_is in
        omega (arith, size, a, b, new)
    by due.Over (Within []) op beg low new p ps (after, is, st, u, cl, f) = absurd st
    by d v op beg low new p ps f = absurd op
