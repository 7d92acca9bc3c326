-- Whole parts that break no rule are those of values that may stand there.
use Rattle.std.proofs.Common.{◌≡◌, ℕ, zero, suc, ◌+◌, ◌≤◌, ◌<◌, Bool, true, false, List, [], ◌∷◌, ◌++◌, length, refl, sym, ap, ◌∙◌, subst, arith, append_assoc, append-nil, length-append}
use Rattle.std.specs.Prelude.{◌==◌, codes}
use Rattle.std.proofs.lemmas.Bool.{and_parts}
use Rattle.std.proofs.lemmas.Bool.Decides.{nat_tests}
use Rattle.der_octets.specs.Octets.{Tag, universal, Values, Nothing, Primitive, Constructed, octets, wrapped, identifier, length_octets, IsShortTag, IsShortLength}
use Rattle.der_octets.proofs.Headers.{wrapped_nested, bits_tell, some_identifier}
use Rattle.der_octets.specs.Octets.{class_bits, form_bit}
use Rattle.der_model.specs.DerMessage.{DerMessage}
use Rattle.der_model.specs.Structures.{Spot, Instance, Component, structure}
use Rattle.der_model.specs.States.{Part, Identifier, Length, End, part_octets, DerLevel, State, Start, AwaitsLength, AwaitsContents, Within, PathName, Numbered, Begins, begun_state, level_answer, end_from, names_in, state_after}
use Rattle.der_model.specs.States as states
use Rattle.der_model.specs.States.{is_under}
use Rattle.der_model.specs.Faults.{IsHeldIn, DerFront, IsWholeDer, outermost}
use Rattle.der_model.specs.inner.Conforms.{Conforms, AreShort, AreInstanceValues}

-- a front of the state, place and bytes that are told otherwise
pub front_from : {P : Type 0} (m : DerMessage P) (s t : State P) (place at : ℕ) (x y : List ℕ) (ps : List Part) (last : State P) (end : ℕ) (rest : List ℕ) → s ≡ t → place ≡ at → x ≡ y → DerFront m t at y ps last end rest → DerFront m s place x ps last end rest
front_from m s t place at x y ps last end rest p q r f =
    subst (λ z. DerFront m z place x ps last end rest) (sym p) (subst (λ z. DerFront m t z x ps last end rest) (sym q) (subst (λ z. DerFront m t at z ps last end rest) (sym r) f))

-- one front behind another
pub front_then : {P : Type 0} (m : DerMessage P) (s : State P) (place : ℕ) (bytes : List ℕ) (ps qs : List Part) (t : State P) (at : ℕ) (x : List ℕ) (last : State P) (end : ℕ) (rest : List ℕ)
    → DerFront m s place bytes ps t at x → DerFront m t at x qs last end rest → DerFront m s place bytes (ps ++ qs) last end rest
front_then m s place bytes [] qs t at x last end rest (p, q, r) f = front_from m s t place at bytes x qs last end rest p q r f
front_then m s place bytes (p ∷ ps) qs t at x last end rest (after, is, h, u, c, f) g =
    (after, is, h, u, c, front_then m (state_after m s place p) (place + length (part_octets p)) after ps qs t at x last end rest f g)

abbrev pub came_more : {P : Type 0} → DerLevel P → ℕ → DerLevel P
came_more l k = record l { came = k ∷ l.came }

state_begun : {P : Type 0} (m : DerMessage P) (l : DerLevel P) (ls : List (DerLevel P)) (b : Bool) (t : Tag) (k : ℕ) (c : Component P) → level_answer m l b t ≡ Begins k c
    → begun_state m l ls b (level_answer m l b t) ≡ AwaitsLength b c.spot (names_in (structure m l.spot) l.came c.label) (came_more l k ∷ ls)
state_begun m l ls b t k c e = ap (begun_state m l ls b) e

-- the identifier octets and the length octets of a component
header_front : {P : Type 0} (m : DerMessage P) (l : DerLevel P) (ls : List (DerLevel P)) (b : Bool) (t : Tag) (n k : ℕ) (c : Component P) (place : ℕ) (x : List ℕ) (ps : List Part) (last : State P) (end : ℕ) (rest : List ℕ)
    → level_answer m l b t ≡ Begins k c → IsShortTag t → IsShortLength n
    → place < l.end → end_from (place + length (identifier b t)) n ≤ l.end
    → DerFront m (state_after m (AwaitsLength b c.spot (names_in (structure m l.spot) l.came c.label) (came_more l k ∷ ls)) (place + length (identifier b t)) (Length n)) (place + length (identifier b t) + length (length_octets n)) x ps last end rest
    → DerFront m (Within (l ∷ ls)) place (identifier b t ++ (length_octets n ++ x)) (Identifier b t ∷ Length n ∷ ps) last end rest
header_front m l ls b t n k c place x ps last end rest e short short2 low fits f =
    let names = names_in (structure m l.spot) l.came c.label in
    let inner : DerFront m (AwaitsLength b c.spot names (came_more l k ∷ ls)) (place + length (identifier b t)) (length_octets n ++ x) (Length n ∷ ps) last end rest =
    (x, refl, short2, omega arith, fits, f) in
    (length_octets n ++ x, refl, (low, short), omega arith, (k, c, e), front_from m _ _ _ _ _ _ (Length n ∷ ps) last end rest (state_begun m l ls b t k c e) refl refl inner)

pub length-wrapped : (h c : List ℕ) → length (wrapped h c) ≡ length h + length (length_octets (length c)) + length c
unfolding wrapped
length-wrapped h c = (let p = length-append h (length_octets (length c) ++ c) in let q = length-append (length_octets (length c)) c in omega arith)

pub nested : (h c x y : List ℕ) → (wrapped h c ++ x) ++ y ≡ h ++ (length_octets (length c) ++ (c ++ (x ++ y)))
nested h c x y = append_assoc (wrapped h c) x y ∙ wrapped_nested h c (x ++ y)

-- values that may stand in an open value, up to its end, are clean parts
pub values_front : {P : Type 0} (m : DerMessage P) (vs : Values) (l : DerLevel P) (ls : List (DerLevel P)) (place : ℕ) (after : List ℕ) → l.end ≡ place + length (octets vs) → AreShort vs → Conforms m (structure m l.spot) l.came vs
    → (ps : List Part) × DerFront m (Within (l ∷ ls)) place (octets vs ++ after) ps (Within ls) l.end after
values_front m Nothing l ls place after end short fine =
    (End ∷ [], (after, refl, omega (arith, end), omega (arith, end), fine, (refl, omega (arith, end), refl)))
values_front {P} m (Primitive tag contents rest) l ls place after end (s1, s2, s3) (k, c, e, held, more) =
    let id = identifier false tag in
    let lo = length_octets (length contents) in
    let size = length-wrapped id contents in
    let sum = length-append (wrapped id contents) (octets rest) in
    let some = some_identifier false tag in
    let names = names_in (structure m l.spot) l.came c.label in
    let next = place + length id + length lo + length contents in
    let r = values_front m rest (came_more l k) ls next after (omega (arith, end)) s3 more in
    let held_front : DerFront m (AwaitsContents c.spot names (length contents) (came_more l k ∷ ls)) (place + length id + length lo) (contents ++ (octets rest ++ after)) (states.Contents contents ∷ r.0) (Within ls) l.end after =
    (octets rest ++ after, refl, refl, omega (arith, end), held, r.1) in
    let all = header_front m l ls false tag (length contents) k c place (contents ++ (octets rest ++ after)) (states.Contents contents ∷ r.0) (Within ls) l.end after e s1 s2 (omega (arith, end)) (omega (arith, end)) held_front in
    (Identifier false tag ∷ Length (length contents) ∷ states.Contents contents ∷ r.0, subst (λ z. DerFront m (Within (l ∷ ls)) place z (Identifier false tag ∷ Length (length contents) ∷ states.Contents contents ∷ r.0) (Within ls) l.end after) (sym (nested id contents (octets rest) after)) all)
values_front {P} m (Constructed tag inner rest) l ls place after end (s1, s2, s3, s4) (k, c, e, held, more) =
    let id = identifier true tag in
    let n = length (octets inner) in
    let lo = length_octets n in
    let size = length-wrapped id (octets inner) in
    let sum = length-append (wrapped id (octets inner)) (octets rest) in
    let some = some_identifier true tag in
    let names = names_in (structure m l.spot) l.came c.label in
    let opened : DerLevel P = record { spot = c.spot; names = names; came = []; end = end_from (place + length id) n } in
    let i = values_front m inner opened (came_more l k ∷ ls) (place + length id + length lo) (octets rest ++ after) (omega arith) s3 held in
    let r = values_front m rest (came_more l k) ls (end_from (place + length id) n) after (omega (arith, end)) s4 more in
    let both = front_then m (Within (opened ∷ came_more l k ∷ ls)) (place + length id + length lo) (octets inner ++ (octets rest ++ after)) i.0 r.0 (Within (came_more l k ∷ ls)) (end_from (place + length id) n) (octets rest ++ after) (Within ls) l.end after i.1 r.1 in
    let all = header_front m l ls true tag n k c place (octets inner ++ (octets rest ++ after)) (i.0 ++ r.0) (Within ls) l.end after e s1 s2 (omega (arith, end)) (omega (arith, end)) both in
    (Identifier true tag ∷ Length n ∷ (i.0 ++ r.0), subst (λ z. DerFront m (Within (l ∷ ls)) place z (Identifier true tag ∷ Length n ∷ (i.0 ++ r.0)) (Within ls) l.end after) (sym (nested id (octets inner) (octets rest) after)) all)

-- What clean parts, up to the instance's end, begin with in an open value: values that may stand there, up to its end.
pub record Read {P : Type 0} (m : DerMessage P) (l : DerLevel P) (ls : List (DerLevel P)) (place : ℕ) (bytes : List ℕ) (count at : ℕ) (rest : List ℕ) : Type 0 where
  pub values : Values
  pub after : List ℕ
  pub parts : List Part
  pub bytes_are : bytes ≡ octets values ++ after
  pub end_is : l.end ≡ place + length (octets values)
  pub short : AreShort values
  pub conforms : Conforms m (structure m l.spot) l.came values
  pub front : DerFront m (Within ls) l.end after parts (Within []) at rest
  pub fewer : length parts < count

abbrev pub Reads : {P : Type 0} → ℕ → DerMessage P → ℕ → List ℕ → Type 0
Reads {P} fuel m at rest = (l : DerLevel P) (ls : List (DerLevel P)) (place : ℕ) (bytes : List ℕ) (ps : List Part) → length ps ≤ fuel → DerFront m (Within (l ∷ ls)) place bytes ps (Within []) at rest → Read m l ls place bytes (length ps) at rest

-- behind identifier octets come length octets
record LengthNext {P : Type 0} (m : DerMessage P) (b : Bool) (spot : Spot P) (names : List PathName) (around : List (DerLevel P)) (place : ℕ) (bytes : List ℕ) (ps : List Part) (at : ℕ) (rest : List ℕ) : Type 0 where
  count : ℕ
  after : List ℕ
  parts : List Part
  parts_are : ps ≡ Length count ∷ parts
  short : IsShortLength count
  bytes_are : bytes ≡ length_octets count ++ after
  front : DerFront m (state_after m (AwaitsLength b spot names around) place (Length count)) (place + length (length_octets count)) after parts (Within []) at rest

length_next : {P : Type 0} (m : DerMessage P) (b : Bool) (spot : Spot P) (names : List PathName) (around : List (DerLevel P)) (place : ℕ) (bytes : List ℕ) (ps : List Part) (at : ℕ) (rest : List ℕ) → DerFront m (AwaitsLength b spot names around) place bytes ps (Within []) at rest → LengthNext m b spot names around place bytes ps at rest
length_next m b spot names around place bytes [] at rest (e, d, r) = absurd cc
length_next m b spot names around place bytes (Length n ∷ ps) at rest (after, is, h, u, c, f) =
    record { count = n; after = after; parts = ps; parts_are = refl; short = h; bytes_are = is; front = f }
length_next m b spot names around place bytes (Identifier x t ∷ ps) at rest (after, is, h, u, c, f) = absurd h
length_next m b spot names around place bytes (states.Contents o ∷ ps) at rest (after, is, h, u, c, f) = absurd h
length_next m b spot names around place bytes (End ∷ ps) at rest (after, is, h, u, c, f) = absurd h

-- behind the length octets of a primitive value come its contents
record ContentsNext {P : Type 0} (m : DerMessage P) (spot : Spot P) (count : ℕ) (around : List (DerLevel P)) (place : ℕ) (bytes : List ℕ) (ps : List Part) (at : ℕ) (rest : List ℕ) : Type 0 where
  contents : List ℕ
  after : List ℕ
  parts : List Part
  parts_are : ps ≡ states.Contents contents ∷ parts
  size : length contents ≡ count
  bytes_are : bytes ≡ contents ++ after
  held : IsHeldIn m (structure m spot) contents
  front : DerFront m (Within around) (place + length contents) after parts (Within []) at rest

contents_next : {P : Type 0} (m : DerMessage P) (spot : Spot P) (names : List PathName) (count : ℕ) (around : List (DerLevel P)) (place : ℕ) (bytes : List ℕ) (ps : List Part) (at : ℕ) (rest : List ℕ) → DerFront m (AwaitsContents spot names count around) place bytes ps (Within []) at rest → ContentsNext m spot count around place bytes ps at rest
contents_next m spot names count around place bytes [] at rest (e, d, r) = absurd cc
contents_next m spot names count around place bytes (states.Contents o ∷ ps) at rest (after, is, h, u, c, f) =
    record { contents = o; after = after; parts = ps; parts_are = refl; size = h; bytes_are = is; held = c; front = f }
contents_next m spot names count around place bytes (Identifier x t ∷ ps) at rest (after, is, h, u, c, f) = absurd h
contents_next m spot names count around place bytes (Length n ∷ ps) at rest (after, is, h, u, c, f) = absurd h
contents_next m spot names count around place bytes (End ∷ ps) at rest (after, is, h, u, c, f) = absurd h

-- a component that has begun, and the values behind it
begun_read : {P : Type 0} (fuel : ℕ) (m : DerMessage P) (at : ℕ) (rest : List ℕ) → Reads fuel m at rest → (l : DerLevel P) (ls : List (DerLevel P)) (b : Bool) (t : Tag) (k : ℕ) (c : Component P) (place : ℕ) (bytes : List ℕ) (ps : List Part)
    → IsShortTag t → level_answer m l b t ≡ Begins k c → length ps ≤ fuel
    → DerFront m (AwaitsLength b c.spot (names_in (structure m l.spot) l.came c.label) (came_more l k ∷ ls)) (place + length (identifier b t)) bytes ps (Within []) at rest
    → Read m l ls place (identifier b t ++ bytes) (suc (length ps)) at rest
begun_read {P} fuel m at rest again l ls false t k c place bytes ps short e few f =
    let id = identifier false t in
    let names = names_in (structure m l.spot) l.came c.label in
    let ln = length_next m false c.spot names (came_more l k ∷ ls) (place + length id) bytes ps at rest f in
    let cn = contents_next m c.spot names ln.count (came_more l k ∷ ls) (place + length id + length (length_octets ln.count)) ln.after ln.parts at rest ln.front in
    let size1 = ap length ln.parts_are in
    let size2 = ap length cn.parts_are in
    let r = again (came_more l k) ls (place + length id + length (length_octets ln.count) + length cn.contents) cn.after cn.parts (omega arith) cn.front in
    let size = length-wrapped id cn.contents in
    let sum = length-append (wrapped id cn.contents) (octets r.values) in
    let counts : length_octets ln.count ≡ length_octets (length cn.contents) = ap length_octets (sym cn.size) in
    let lens = ap length counts in
    let ends = r.end_is in
    let low = r.fewer in
    let all : id ++ bytes ≡ octets (Primitive t cn.contents r.values) ++ r.after =
    ap (λ z. id ++ z) (ln.bytes_are ∙ (ap (λ z. z ++ ln.after) counts ∙ ap (λ z. length_octets (length cn.contents) ++ z) (cn.bytes_are ∙ ap (λ z. cn.contents ++ z) r.bytes_are)))
    ∙ sym (nested id cn.contents (octets r.values) r.after) in
    record {
      values = Primitive t cn.contents r.values;
      after = r.after;
      parts = r.parts;
      bytes_are = all;
      end_is = omega arith;
      short = (short, subst IsShortLength (sym cn.size) ln.short, r.short);
      conforms = (k, c, e, cn.held, r.conforms);
      front = r.front;
      fewer = omega arith;
    }
begun_read {P} fuel m at rest again l ls true t k c place bytes ps short e few f =
    let id = identifier true t in
    let names = names_in (structure m l.spot) l.came c.label in
    let ln = length_next m true c.spot names (came_more l k ∷ ls) (place + length id) bytes ps at rest f in
    let size1 = ap length ln.parts_are in
    let opened : DerLevel P = record { spot = c.spot; names = names; came = []; end = end_from (place + length id) ln.count } in
    let i = again opened (came_more l k ∷ ls) (place + length id + length (length_octets ln.count)) ln.after ln.parts (omega arith) ln.front in
    let low1 = i.fewer in
    let r = again (came_more l k) ls opened.end i.after i.parts (omega arith) i.front in
    let low2 = r.fewer in
    let counted = i.end_is in
    let same : length (octets i.values) ≡ ln.count = omega arith in
    let size = length-wrapped id (octets i.values) in
    let sum = length-append (wrapped id (octets i.values)) (octets r.values) in
    let counts : length_octets ln.count ≡ length_octets (length (octets i.values)) = ap length_octets (sym same) in
    let lens = ap length counts in
    let ends = r.end_is in
    let all : id ++ bytes ≡ octets (Constructed t i.values r.values) ++ r.after =
    ap (λ z. id ++ z) (ln.bytes_are ∙ (ap (λ z. z ++ ln.after) counts ∙ ap (λ z. length_octets (length (octets i.values)) ++ z) (i.bytes_are ∙ ap (λ z. octets i.values ++ z) r.bytes_are)))
    ∙ sym (nested id (octets i.values) (octets r.values) r.after) in
    record {
      values = Constructed t i.values r.values;
      after = r.after;
      parts = r.parts;
      bytes_are = all;
      end_is = omega arith;
      short = (short, subst IsShortLength (sym same) ln.short, i.short, r.short);
      conforms = (k, c, e, i.conforms, r.conforms);
      front = r.front;
      fewer = omega arith;
    }

pub reads : {P : Type 0} (fuel : ℕ) (m : DerMessage P) (at : ℕ) (rest : List ℕ) → Reads fuel m at rest
reads fuel m at rest l ls place bytes [] few (e, d, r) = absurd cc
reads zero m at rest l ls place bytes (p ∷ ps) few f = absurd (omega arith)
reads (suc fuel) m at rest l ls place bytes (End ∷ ps) few (after, is, h, u, c, f) =
    record {
      values = Nothing;
      after = after;
      parts = ps;
      bytes_are = is;
      end_is = omega (arith, h);
      short = tt;
      conforms = c;
      front = front_from m _ (Within ls) l.end (place + 0) after after ps (Within []) at rest refl (omega (arith, h)) refl f;
      fewer = omega arith;
    }
reads (suc fuel) m at rest l ls place bytes (Identifier b t ∷ ps) few (after, is, (low, short), u, (k, c, e), f) =
    let r = begun_read fuel m at rest (reads fuel m at rest) l ls b t k c place after ps short e (omega arith)
    (front_from m _ _ (place + length (identifier b t)) _ after after ps (Within []) at rest (sym (state_begun m l ls b t k c e)) refl refl f) in
    subst (λ z. Read m l ls place z (suc (length ps)) at rest) (sym is) r
reads (suc fuel) m at rest l ls place bytes (Length n ∷ ps) few (after, is, h, u, c, f) = absurd h
reads (suc fuel) m at rest l ls place bytes (states.Contents o ∷ ps) few (after, is, h, u, c, f) = absurd h

number_same : (a b : ℕ) → (a == b) ≡ true → a ≡ b
number_same a b e = grind (arith, nat_tests)

-- the form and tag that a component's identifier octets have
pub under_same : {P : Type 0} (c : Component P) (b : Bool) (t : Tag) → is_under c b t ≡ true → (c.constructed ≡ b) × (c.tag ≡ t)
under_same c b t e =
    let both = and_parts _ _ e in
    let bits = number_same (class_bits c.tag.class + form_bit c.constructed) (class_bits t.class + form_bit b) both.0 in
    let r = bits_tell c.constructed b c.tag.class t.class 0 0 (omega arith) (omega arith) (ap (λ z. z + 0) bits) in
    (r.0, tag_same c.tag t r.1 (number_same c.tag.number t.number both.1))
  where
    tag_same : (t u : Tag) → t.class ≡ u.class → t.number ≡ u.number → t ≡ u
    tag_same t u c n = ap (λ k. record { class = k; number = t.number }) c ∙ ap (λ m. record { class = u.class; number = m }) n

abbrev pub whole_values_of : Values → Values
whole_values_of inner = Constructed (universal 16) inner Nothing

-- the values of whole bytes
pub values_of_whole : {P : Type 0} (m : DerMessage P) (bytes : List ℕ) → IsWholeDer m bytes → (inner : Values) × AreInstanceValues m inner × AreShort (whole_values_of inner) × (bytes ≡ octets (whole_values_of inner))
values_of_whole {P} m bytes w = go w.parts w.front
  where
    over : (place : ℕ) (bytes : List ℕ) (ps : List Part) → DerFront {P = P} m (Within []) place bytes ps (Within []) w.at [] → bytes ≡ []
    over place bytes [] (e, d, r) = r
    over place bytes (Identifier x t ∷ ps) (after, is, h, u, c, f) = absurd h
    over place bytes (Length n ∷ ps) (after, is, h, u, c, f) = absurd h
    over place bytes (states.Contents o ∷ ps) (after, is, h, u, c, f) = absurd h
    over place bytes (End ∷ ps) (after, is, h, u, c, f) = absurd h

    go : (ps : List Part) → DerFront {P = P} m Start 0 bytes ps (Within []) w.at [] → (inner : Values) × AreInstanceValues m inner × AreShort (whole_values_of inner) × (bytes ≡ octets (whole_values_of inner))
    go [] (e, d, r) = absurd cc
    go (Length n ∷ ps) (after, is, h, u, c, f) = absurd h
    go (states.Contents o ∷ ps) (after, is, h, u, c, f) = absurd h
    go (End ∷ ps) (after, is, h, u, c, f) = absurd h
    go (Identifier b t ∷ ps) (after, is, h, u, c, f) =
        let id = identifier true (universal 16) in
        let head = under_same (outermost m) b t c in
        let first : identifier b t ≡ id = ap (λ z. identifier z t) (sym head.0) ∙ ap (identifier true) (sym head.1) in
        let place = 0 + length (identifier b t) in
        let ln = length_next m true Instance (Numbered (codes "Document") 1 ∷ []) [] place after ps w.at [] f in
        let opened : DerLevel P = record { spot = Instance; names = Numbered (codes "Document") 1 ∷ []; came = []; end = end_from place ln.count } in
        let i = reads (length ln.parts) m w.at [] opened [] (place + length (length_octets ln.count)) ln.after ln.parts (omega arith) ln.front in
        let none = over opened.end i.after i.parts i.front in
        let counted = i.end_is in
        let same : length (octets i.values) ≡ ln.count = omega arith in
        let all : bytes ≡ id ++ (length_octets (length (octets i.values)) ++ (octets i.values ++ ([] ++ []))) =
        is ∙ (ap (λ z. z ++ after) first ∙ ap (λ z. id ++ z) (ln.bytes_are ∙ (ap (λ z. length_octets z ++ ln.after) (sym same) ∙ ap (λ z. length_octets (length (octets i.values)) ++ z) (i.bytes_are ∙ ap (λ z. octets i.values ++ z) none)))) in
        (i.values, i.conforms, (omega arith, subst IsShortLength (sym same) ln.short, i.short, tt), all ∙ (sym (nested id (octets i.values) [] []) ∙ append-nil _))

-- values of an instance are whole bytes
pub whole_of_values : {P : Type 0} (m : DerMessage P) (inner : Values) → AreInstanceValues m inner → AreShort (whole_values_of inner) → IsWholeDer m (octets (whole_values_of inner))
whole_of_values {P} m inner conf (s1, s2, s3, s4) =
    let id = identifier true (universal 16) in
    let n = length (octets inner) in
    let place = 0 + length id in
    let opened : DerLevel P = record { spot = Instance; names = Numbered (codes "Document") 1 ∷ []; came = []; end = end_from place n } in
    let i = values_front m inner opened [] (place + length (length_octets n)) [] (omega arith) s3 conf in
    let lengths : DerFront m (AwaitsLength true Instance (Numbered (codes "Document") 1 ∷ []) []) place (length_octets n ++ (octets inner ++ [])) (Length n ∷ i.0) (Within []) opened.end [] =
    (octets inner ++ [], refl, s2, tt, tt, i.1) in
    let all : DerFront m Start 0 (id ++ (length_octets n ++ (octets inner ++ []))) (Identifier true (universal 16) ∷ Length n ∷ i.0) (Within []) opened.end [] =
    (length_octets n ++ (octets inner ++ []), refl, s1, tt, refl, lengths) in
    record {
      parts = Identifier true (universal 16) ∷ Length n ∷ i.0;
      at = opened.end;
      front = subst (λ z. DerFront m Start 0 z (Identifier true (universal 16) ∷ Length n ∷ i.0) (Within []) opened.end []) (sym (wrapped_nested id (octets inner) [])) all;
    }
