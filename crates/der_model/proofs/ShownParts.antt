-- The parts of values, and which pieces they show.
use Rattle.std.proofs.Common.{◌≡◌, ℕ, ◌+◌, ◌<◌, Bool, true, false, List, [], ◌∷◌, ◌++◌, length, refl, sym, ap, ◌∙◌, subst, arith, append_assoc, length-append}
use Rattle.data_types.specs.Leaf.{Leaf}
use Rattle.data_types.specs.Value.{Piece, Edge}
use Rattle.data_types.specs.Value as value
use Rattle.der_octets.specs.Octets.{Tag, Values, Nothing, Primitive, Constructed, octets, wrapped, identifier, length_octets, IsShortTag, IsShortLength}
use Rattle.der_octets.proofs.Headers.{some_identifier}
use Rattle.der_model.specs.DerMessage.{DerMessage}
use Rattle.der_model.specs.Structures.{Spot, Component, structure}
use Rattle.der_model.specs.States.{Part, Identifier, Length, End, part_octets, DerLevel, State, AwaitsLength, AwaitsContents, Within, Begins, begun_state, level_answer, identifier_answer, end_from, names_in, state_after, Stands}
use Rattle.der_model.specs.States as states
use Rattle.der_model.specs.Faults.{DerFront}
use Rattle.der_model.specs.inner.Conforms.{Conforms, AreShort}
use Rattle.der_model.specs.ShownPieces.{begin_each, end_each, component_elements, elements_begun, elements_ended, IsLeafIn, PartsShow}
use Rattle.der_model.proofs.OnePart.{one_part}
use Rattle.der_model.proofs.WholeValues.{came_more, length-wrapped, nested}

-- the parts of values, the end of the value round them, and others behind
abbrev pub parts_then : Values → List Part → List Part
parts_then Nothing behind = End ∷ behind
parts_then (Primitive tag contents rest) behind = Identifier false tag ∷ Length (length contents) ∷ states.Contents contents ∷ parts_then rest behind
parts_then (Constructed tag inner rest) behind = Identifier true tag ∷ Length (length (octets inner)) ∷ parts_then inner (parts_then rest behind)

-- The first of clean parts is the one that stands at the front of the bytes.
pub record FirstPart {P : Type 0} (m : DerMessage P) (s : State P) (place : ℕ) (part : Part) (after : List ℕ) (parts : List Part) (at : ℕ) (rest : List ℕ) : Type 0 where
  pub others : List Part
  pub are : parts ≡ part ∷ others
  pub front : DerFront m (state_after m s place part) (place + length (part_octets part)) after others (Within []) at rest

pub first_part : {P : Type 0} (m : DerMessage P) (s : State P) (place : ℕ) (bytes : List ℕ) (part : Part) (after : List ℕ) (parts : List Part) (at : ℕ) (rest : List ℕ)
    → (s ≡ Within [] → ⊥) → Stands s place part → bytes ≡ part_octets part ++ after → DerFront m s place bytes parts (Within []) at rest → FirstPart m s place part after parts at rest
first_part m s place bytes part after [] at rest goes stands e (a, b, c) = absurd (goes a)
first_part m s place bytes part after (p ∷ ps) at rest goes stands e (behind, is, h, u, c, f) =
    let same = one_part s place p part behind after h stands (sym is ∙ e) in
    let there = subst (λ z. DerFront m (state_after m s place p) (place + length (part_octets p)) z ps (Within []) at rest) same.1 f in
    record {
      others = ps;
      are = ap (λ z. z ∷ ps) same.0;
      front = subst (λ z. DerFront m (state_after m s place z) (place + length (part_octets z)) after ps (Within []) at rest) same.0 there;
    }

-- identifier octets and length octets
pub record FirstHeader {P : Type 0} (m : DerMessage P) (b : Bool) (spot : Spot P) (t : Tag) (n : ℕ) (around : List (DerLevel P)) (names : List states.PathName) (place : ℕ) (after : List ℕ) (parts : List Part) (at : ℕ) (rest : List ℕ) : Type 0 where
  pub others : List Part
  pub are : parts ≡ Identifier b t ∷ Length n ∷ others
  pub front : DerFront m (state_after m (AwaitsLength b spot names around) (place + length (identifier b t)) (Length n)) (place + length (identifier b t) + length (length_octets n)) after others (Within []) at rest

first_header : {P : Type 0} (m : DerMessage P) (l : DerLevel P) (ls : List (DerLevel P)) (b : Bool) (t : Tag) (n k : ℕ) (c : Component P) (place : ℕ) (bytes after : List ℕ) (parts : List Part) (at : ℕ) (rest : List ℕ)
    → level_answer m l b t ≡ Begins k c → IsShortTag t → IsShortLength n → place < l.end → bytes ≡ identifier b t ++ (length_octets n ++ after) → DerFront m (Within (l ∷ ls)) place bytes parts (Within []) at rest
    → FirstHeader m b c.spot t n (came_more l k ∷ ls) (names_in (structure m l.spot) l.came c.label) place after parts at rest
first_header {P} m l ls b t n k c place bytes after parts at rest e short size low is f =
    let one = first_part m (Within (l ∷ ls)) place bytes (Identifier b t) (length_octets n ++ after) parts at rest (λ q. absurd cc) (low, short) is f in
    let names = names_in (structure m l.spot) l.came c.label in
    let state : begun_state m l ls b (level_answer m l b t) ≡ AwaitsLength b c.spot names (came_more l k ∷ ls) = ap (begun_state m l ls b) e in
    let there = subst (λ z. DerFront m z (place + length (identifier b t)) (length_octets n ++ after) one.others (Within []) at rest) state one.front in
    let two = first_part m (AwaitsLength b c.spot names (came_more l k ∷ ls)) (place + length (identifier b t)) (length_octets n ++ after) (Length n) after one.others at rest (λ q. absurd cc) size refl there in
    record { others = two.others; are = one.are ∙ ap (λ z. Identifier b t ∷ z) two.are; front = two.front }

-- Clean parts of an open value whose bytes are those of values are the parts of the values, its end, and others.
pub record PartsBehind {P : Type 0} (m : DerMessage P) (vs : Values) (ls : List (DerLevel P)) (end : ℕ) (after : List ℕ) (parts : List Part) (at : ℕ) (rest : List ℕ) : Type 0 where
  pub behind : List Part
  pub are : parts ≡ parts_then vs behind
  pub front : DerFront m (Within ls) end after behind (Within []) at rest

pub parts_of_values : {P : Type 0} (m : DerMessage P) (vs : Values) (l : DerLevel P) (ls : List (DerLevel P)) (place : ℕ) (bytes after : List ℕ) (parts : List Part) (at : ℕ) (rest : List ℕ)
    → bytes ≡ octets vs ++ after → l.end ≡ place + length (octets vs) → AreShort vs → Conforms m (structure m l.spot) l.came vs → DerFront m (Within (l ∷ ls)) place bytes parts (Within []) at rest → PartsBehind m vs ls l.end after parts at rest
parts_of_values m Nothing l ls place bytes after parts at rest is end short fine f =
    let here : place ≡ l.end = omega (arith, end) in
    let one = first_part m (Within (l ∷ ls)) place bytes End after parts at rest (λ q. absurd cc) here is f in
    let ends : place + 0 ≡ l.end = omega (arith, end) in
    record { behind = one.others; are = one.are; front = subst (λ z. DerFront m (Within ls) z after one.others (Within []) at rest) ends one.front }
parts_of_values {P} m (Primitive tag contents others) l ls place bytes after parts at rest is end (s1, s2, s3) (k, c, e, held, more) f =
    let id = identifier false tag in
    let lo = length_octets (length contents) in
    let size = length-wrapped id contents in
    let sum = length-append (wrapped id contents) (octets others) in
    let some = some_identifier false tag in
    let names = names_in (structure m l.spot) l.came c.label in
    let around = came_more l k ∷ ls in
    let head = first_header m l ls false tag (length contents) k c place bytes (contents ++ (octets others ++ after)) parts at rest e s1 s2 (omega (arith, end)) (is ∙ nested id contents (octets others) after) f in
    let held_part = first_part m (AwaitsContents c.spot names (length contents) around) (place + length id + length lo) (contents ++ (octets others ++ after)) (states.Contents contents) (octets others ++ after) head.others at rest (λ q. absurd cc) refl refl head.front in
    let r = parts_of_values m others (came_more l k) ls (place + length id + length lo + length contents) (octets others ++ after) after held_part.others at rest refl (omega (arith, end)) s3 more held_part.front in
    record {
      behind = r.behind;
      are = head.are ∙ (ap (λ z. Identifier false tag ∷ Length (length contents) ∷ z) held_part.are ∙ ap (λ z. Identifier false tag ∷ Length (length contents) ∷ states.Contents contents ∷ z) r.are);
      front = r.front;
    }
parts_of_values {P} m (Constructed tag inner others) l ls place bytes after parts at rest is end (s1, s2, s3, s4) (k, c, e, held, more) f =
    let id = identifier true tag in
    let n = length (octets inner) in
    let lo = length_octets n in
    let size = length-wrapped id (octets inner) in
    let sum = length-append (wrapped id (octets inner)) (octets others) in
    let some = some_identifier true tag in
    let names = names_in (structure m l.spot) l.came c.label in
    let opened : DerLevel P = record { spot = c.spot; names = names; came = []; end = end_from (place + length id) n } in
    let head = first_header m l ls true tag n k c place bytes (octets inner ++ (octets others ++ after)) parts at rest e s1 s2 (omega (arith, end)) (is ∙ nested id (octets inner) (octets others) after) f in
    let i = parts_of_values m inner opened (came_more l k ∷ ls) (place + length id + length lo) (octets inner ++ (octets others ++ after)) (octets others ++ after) head.others at rest refl refl s3 held head.front in
    let r = parts_of_values m others (came_more l k) ls (end_from (place + length id) n) (octets others ++ after) after i.behind at rest refl (omega (arith, end)) s4 more i.front in
    record {
      behind = r.behind;
      are = head.are ∙ (ap (λ z. Identifier true tag ∷ Length n ∷ z) i.are ∙ ap (λ z. Identifier true tag ∷ Length n ∷ parts_then inner z) r.are);
      front = r.front;
    }

-- what stands in elements, between those that begin and those that end, before others
abbrev pub framed : List Edge → List Piece → List Piece → List Piece
framed edges here behind = begin_each edges ++ (here ++ (end_each edges ++ behind))

pub framed_then : (edges : List Edge) (here behind more : List Piece) → framed edges here behind ++ more ≡ framed edges here (behind ++ more)
framed_then edges here behind more =
    append_assoc (begin_each edges) _ more ∙ ap (λ z. begin_each edges ++ z) (append_assoc here _ more ∙ ap (λ z. here ++ z) (append_assoc (end_each edges) behind more))

-- The values, in an open value in which these components have come, show the pieces.
abbrev pub ValuesShow : DerMessage ℕ → Spot ℕ → List ℕ → Values → List Piece → Type 0
ValuesShow m spot came Nothing shown = shown ≡ []
ValuesShow m spot came (Primitive tag contents rest) shown =
    (k : ℕ) × (c : Component ℕ) × (leaf : Leaf) × (behind : List Piece) × (identifier_answer (structure m spot) came false tag ≡ Begins k c) × IsLeafIn (structure m c.spot) contents leaf
    × ValuesShow m spot (k ∷ came) rest behind × (shown ≡ framed (component_elements m spot k) (value.Holds leaf ∷ []) behind)
ValuesShow m spot came (Constructed tag inner rest) shown =
    (k : ℕ) × (c : Component ℕ) × (here : List Piece) × (behind : List Piece) × (identifier_answer (structure m spot) came true tag ≡ Begins k c) × ValuesShow m c.spot [] inner here
    × ValuesShow m spot (k ∷ came) rest behind × (shown ≡ framed (component_elements m spot k) here behind)

-- What the parts of values, the end of the value round them and others show: the pieces of the values, those of the end, and others.
pub record ShownBehind (m : DerMessage ℕ) (l : DerLevel ℕ) (ls : List (DerLevel ℕ)) (vs : Values) (behind : List Part) (shown : List Piece) : Type 0 where
  pub here : List Piece
  pub more : List Piece
  pub place : ℕ
  pub values : ValuesShow m l.spot l.came vs here
  pub others : PartsShow m (Within ls) place behind more
  pub is : shown ≡ here ++ (end_each (elements_ended m ls) ++ more)

pub shown_by_values : (m : DerMessage ℕ) (vs : Values) (l : DerLevel ℕ) (ls : List (DerLevel ℕ)) (place : ℕ) (behind : List Part) (shown : List Piece) → Conforms m (structure m l.spot) l.came vs → PartsShow m (Within (l ∷ ls)) place (parts_then vs behind) shown → ShownBehind m l ls vs behind shown
shown_by_values m Nothing l ls place behind shown fine (first, more, one, rest, is) =
    record { here = []; more = more; place = place + 0; values = refl; others = rest; is = is ∙ ap (λ z. z ++ more) one }
shown_by_values m (Primitive tag contents others) l ls place behind shown (k, c, e, held, conf) (first, more, one, rest, is) =
    let edges = component_elements m l.spot k in
    let at = place + length (identifier false tag) in
    let begins : first ≡ begin_each edges = one ∙ ap (λ z. begin_each (elements_begun m l z)) e in
    let (f2, m2, o2, (f3, m3, (leaf, is_leaf, o3), rest3, is3), is2) = subst (λ z. PartsShow m z at (Length (length contents) ∷ states.Contents contents ∷ parts_then others behind) more) (ap (begun_state m l ls false) e) rest in
    let r = shown_by_values m others (came_more l k) ls _ behind m3 conf rest3 in
    let told : more ≡ (value.Holds leaf ∷ []) ++ (end_each edges ++ m3) = is2 ∙ (ap (λ z. z ++ m2) o2 ∙ (is3 ∙ ap (λ z. z ++ m3) o3)) in
    record {
      here = framed edges (value.Holds leaf ∷ []) r.here;
      more = r.more;
      place = r.place;
      values = (k, c, leaf, r.here, e, is_leaf, r.values, refl);
      others = r.others;
      is = is ∙ (ap (λ z. z ++ more) begins ∙ (ap (λ z. begin_each edges ++ z) (told ∙ ap (λ z. value.Holds leaf ∷ (end_each edges ++ z)) r.is) ∙ sym (framed_then edges (value.Holds leaf ∷ []) r.here _)));
    }
shown_by_values m (Constructed tag inner others) l ls place behind shown (k, c, e, held, conf) (first, more, one, rest, is) =
    let edges = component_elements m l.spot k in
    let at = place + length (identifier true tag) in
    let begins : first ≡ begin_each edges = one ∙ ap (λ z. begin_each (elements_begun m l z)) e in
    let (f2, m2, o2, rest2, is2) = subst (λ z. PartsShow m z at (Length (length (octets inner)) ∷ parts_then inner (parts_then others behind)) more) (ap (begun_state m l ls true) e) rest in
    let opened : DerLevel ℕ = record { spot = c.spot; names = names_in (structure m l.spot) l.came c.label; came = []; end = end_from at (length (octets inner)) } in
    let i = shown_by_values m inner opened (came_more l k ∷ ls) _ (parts_then others behind) m2 held rest2 in
    let r = shown_by_values m others (came_more l k) ls i.place behind i.more conf i.others in
    let told : more ≡ i.here ++ (end_each edges ++ i.more) = is2 ∙ (ap (λ z. z ++ m2) o2 ∙ i.is) in
    record {
      here = framed edges i.here r.here;
      more = r.more;
      place = r.place;
      values = (k, c, i.here, r.here, e, i.values, r.values, refl);
      others = r.others;
      is = is ∙ (ap (λ z. z ++ more) begins ∙ (ap (λ z. begin_each edges ++ z) (told ∙ ap (λ z. i.here ++ (end_each edges ++ z)) r.is) ∙ sym (framed_then edges i.here r.here _)));
    }
