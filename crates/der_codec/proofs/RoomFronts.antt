-- What the room is enough for. Bytes that begin the DER of an instance show a front of its pieces and of its parts.
use Rattle.std.proofs.Common.{◌≡◌, ℕ, suc, ◌+◌, ◌-◌, ◌≤◌, ◌<◌, ◌^◌, true, false, List, [], ◌∷◌, ◌++◌, length, Option, Some, None, refl, sym, ap, ◌∙◌, subst, arith, append_assoc, length-append}
use Rattle.std.proofs.lemmas.List.{length-take}
use Rattle.data_types.specs.Leaf.{Leaf, Bytes, Number, Flag, Code, octet_count}
use Rattle.data_types.specs.Value.{Value, Edge, Piece}
use Rattle.data_types.specs.Value as value
use Rattle.data_types.specs.declared.kind.Kind.{Kind}
use Rattle.data_types.specs.declared.kind.Kind.TheVariants as kind
use Rattle.der_octets.specs.Octets.{Values, Nothing, Primitive, Constructed, universal}
use Rattle.der_octets.proofs.OneReading.{octets_same}
use Rattle.fragments.specs.Fragment.{fragment}
use Rattle.inst_pool.specs.Pieces.{Region, bytes_of}
use Rattle.inst_pool.proofs.ContentLemmas.{bytes_of-append}
use Rattle.message_model.specs.Tables.{Tables, pieces_of}
use Rattle.der_model.specs.DerMessage.{DerMessage, der_message}
use Rattle.der_model.specs.Der.{SpellsDer, der_values}
use Rattle.der_model.specs.Faults.{DerFront, IsWholeDer, IsCleanPart}
use Rattle.der_model.specs.LeafContents.{IsContents}
use Rattle.der_model.specs.OpenParts.{parts_of, without_lengths}
use Rattle.der_model.specs.ShownPieces.{PartShows, PartsShow, IsLeafIn, begin_each, end_each, elements_ended}
use Rattle.der_model.specs.Sound.{IsSoundDer}
use Rattle.der_model.specs.States.{Part, Identifier, Length, End, part_octets, State, Start, AwaitsLength, AwaitsContents, Within, begun_state, state_after, Stands}
use Rattle.der_model.specs.States as states
use Rattle.der_model.specs.Structures.{Structure, Holds, LeafOf, Fragment, Fields, OneOf, Items, Empty, structure}
use Rattle.der_model.proofs.Answered.{spelled_is_whole, one_value}
use Rattle.der_model.proofs.Continued.{front_more}
use Rattle.der_model.proofs.ShownParts.{parts_then, first_part}
use Rattle.der_model.proofs.ShownPieces.{instance_are, whole_shows_pieces, front_shows_pieces, show_one_pieces, parts_show_then}
use Rattle.der_model.proofs.WholeValues.{values_of_whole, whole_values_of}
use Rattle.der_model.proofs.OneFault.{nothing_over}
use Rattle.der_codec.specs.Checking.{HasFedDer, open_count}
use Rattle.der_codec.specs.KeptPieces.{Shows}
use Rattle.der_codec.specs.Levels.{inwards}
use Rattle.der_codec.specs.Rooms.{contents_size, contents_come, StaysOpen, IsEnoughSoFar, BeginsEnough, ShowsEnough}
use Rattle.der_codec.specs.declared.checker.DerChecker.{DerChecker}
use Rattle.der_codec.specs.declared.room.Room.{Room}

-- ---- the parts of an instance

without_then : (vs : Values) (behind : List Part) → without_lengths (parts_then vs behind) ≡ parts_of vs ++ End ∷ without_lengths behind
without_then Nothing behind = refl
without_then (Primitive tag contents rest) behind = ap (λ z. Identifier false tag ∷ states.Contents contents ∷ z) (without_then rest behind)
without_then (Constructed tag inner rest) behind =
    ap (λ z. Identifier true tag ∷ z)
    (without_then inner (parts_then rest behind) ∙ (ap (λ z. parts_of inner ++ End ∷ z) (without_then rest behind) ∙ sym (append_assoc (parts_of inner) (End ∷ parts_of rest) (End ∷ without_lengths behind))))

-- whole bytes are these parts, which show the pieces
pub record WholeParts (T : Tables) (bytes : List ℕ) (v : Value) : Type 0 where
  pub whole : IsWholeDer (der_message T) bytes
  pub are : without_lengths whole.parts ≡ parts_of (der_values (der_message T) v)
  pub show : PartsShow (der_message T) Start 0 whole.parts (pieces_of fragment T v)

whole_parts : (T : Tables) (bytes : List ℕ) (v : Value) → IsSoundDer (der_message T) → length bytes < 2 ^ 63 → SpellsDer (der_message T) bytes v → WholeParts T bytes v
whole_parts T bytes v sound short spelled =
    let m = der_message T in
    let w = spelled_is_whole m sound bytes v short spelled in
    let s = front_shows_pieces m Start (Within []) 0 w.at bytes [] w.parts w.front in
    let (u, also, shown) = whole_shows_pieces m sound bytes w.parts w.at s.0 w.front s.1 in
    let same : u ≡ v = one_value m sound bytes u v also spelled in
    let (inner, conf, small, is) = values_of_whole m bytes w in
    let values : whole_values_of inner ≡ der_values m v = octets_same (whole_values_of inner) (der_values m v) (sym is ∙ spelled.1) in
    let parts = instance_are m bytes inner w.parts w.at conf small is w.front in
    record {
      whole = w;
      are = ap without_lengths parts ∙ (ap (λ z. Identifier true (universal 16) ∷ z) (without_then inner []) ∙ ap parts_of values);
      show = subst (PartsShow m Start 0 w.parts) (shown ∙ ap (pieces_of fragment T) same) s.1;
    }

-- ---- parts further

pub record Further {P : Type 0} (m : DerMessage P) (ps all : List Part) (state : State P) (at : ℕ) (rest : List ℕ) (end : ℕ) : Type 0 where
  pub later : List Part
  pub are : all ≡ ps ++ later
  pub front : DerFront m state at rest later (Within []) end []

further : {P : Type 0} (m : DerMessage P) (s : State P) (place : ℕ) (bytes : List ℕ) (ps all : List Part) (state : State P) (at : ℕ) (rest : List ℕ) (end : ℕ) → DerFront m s place bytes ps state at rest → DerFront m s place bytes all (Within []) end []
    → Further m ps all state at rest end
further m s place bytes [] all state at rest end (p, q, r) whole = record {
  later = all;
  are = refl;
  front = subst (λ z. DerFront m z at rest all (Within []) end []) p (subst (λ z. DerFront m s z rest all (Within []) end []) q (subst (λ z. DerFront m s place z all (Within []) end []) r whole));
}
further m s place bytes (p ∷ ps) all state at rest end (after, is, stands, up, clean, f) whole =
    let one = first_part m s place bytes p after all end [] (λ e. nothing_over s place p e stands) stands is whole in
    let r = further m (state_after m s place p) (place + length (part_octets p)) after ps one.others state at rest end f one.front in
    record { later = r.later; are = one.are ∙ ap (λ z. p ∷ z) r.are; front = r.front }

-- ---- how much they are

contents_append : (ps qs : List Part) → contents_size (ps ++ qs) ≡ contents_size ps + contents_size qs
contents_append [] qs = omega arith
contents_append (Identifier b t ∷ ps) qs = contents_append ps qs
contents_append (Length n ∷ ps) qs = contents_append ps qs
contents_append (states.Contents o ∷ ps) qs = (let rest = contents_append ps qs in omega (arith, rest))
contents_append (End ∷ ps) qs = contents_append ps qs

contents_without : (ps : List Part) → contents_size (without_lengths ps) ≡ contents_size ps
contents_without [] = refl
contents_without (Identifier b t ∷ ps) = contents_without ps
contents_without (Length n ∷ ps) = contents_without ps
contents_without (states.Contents o ∷ ps) = ap (λ z. length o + z) (contents_without ps)
contents_without (End ∷ ps) = contents_without ps

leaf_small : (k : Kind) (codes : Option (List (List ℕ))) (o : List ℕ) (leaf : Leaf) → IsContents k codes o leaf → octet_count leaf ≤ length o
leaf_small k codes o (Number x) h = omega arith
leaf_small k codes o (Flag x) h = omega arith
leaf_small k codes o (Code x) h = omega arith
leaf_small kind.Text None o (Bytes b) h = (let e = ap length h.1 in omega (arith, e))
leaf_small kind.Text (Some codes) o (Bytes b) h = absurd h
leaf_small kind.Decimal codes o (Bytes b) h = absurd h
leaf_small kind.Boolean codes o (Bytes b) h = absurd h
leaf_small kind.Binary codes o (Bytes b) h = (let e = ap length h.1 in omega (arith, e))
leaf_small kind.Envelope codes o (Bytes b) h = absurd h
leaf_small kind.Date codes o (Bytes b) h = (let e = ap length h.1 in omega (arith, e))
leaf_small kind.DateTime codes o (Bytes b) h = (let e = ap length h.1 in omega (arith, e))
leaf_small kind.Time codes o (Bytes b) h = (let e = ap length h.1 in omega (arith, e))
leaf_small kind.Year codes o (Bytes b) h = (let e = ap length h.1 in omega (arith, e))
leaf_small kind.YearMonth codes o (Bytes b) h = (let e = ap length h.1 in omega (arith, e))
leaf_small kind.MonthDay codes o (Bytes b) h = (let e = ap length h.1 in omega (arith, e))
leaf_small kind.Month codes o (Bytes b) h = (let e = ap length h.1 in omega (arith, e))
leaf_small kind.Day codes o (Bytes b) h = (let e = ap length h.1 in omega (arith, e))

held_small : {P : Type 0} (s : Structure P) (o : List ℕ) (leaf : Leaf) → IsLeafIn s o leaf → octet_count leaf ≤ length o
held_small (Holds (LeafOf simple)) o leaf h = leaf_small simple.kind simple.codes o leaf h.0
held_small (Holds Fragment) o leaf h = (let e : octet_count leaf ≡ length o = ap octet_count h in omega (arith, e))
held_small (Fields cs) o leaf h = absurd h
held_small (OneOf cs) o leaf h = absurd h
held_small (Items s cs) o leaf h = absurd h
held_small Empty o leaf h = absurd h

none_begun : (edges : List Edge) → bytes_of (begin_each edges) ≡ 0
none_begun [] = refl
none_begun (e ∷ edges) = (let rest = none_begun edges in omega (arith, rest))

none_ended : (edges : List Edge) → bytes_of (end_each edges) ≡ 0
none_ended [] = refl
none_ended (e ∷ edges) = (let sum = bytes_of-append (end_each edges) (value.Ends e ∷ []) in let rest = none_ended edges in omega (arith, sum, rest))

part_bytes : (m : DerMessage ℕ) (s : State ℕ) (p : Part) (shown : List Piece) → PartShows m s p shown → bytes_of shown ≤ contents_size (p ∷ [])
part_bytes m Start p shown h = none shown h
  where
    none : (shown : List Piece) → shown ≡ [] → bytes_of shown ≤ contents_size (p ∷ [])
    none shown e = (let z = ap bytes_of e in omega (arith, z))
part_bytes m (AwaitsLength b spot names around) p shown h = (let z = ap bytes_of h in omega (arith, z))
part_bytes m (AwaitsContents spot names count around) (states.Contents o) shown (leaf, is, e) =
    let z = ap bytes_of e in let few = held_small (structure m spot) o leaf is in let none = none_ended (elements_ended m around) in omega (arith, z, few, none)
part_bytes m (AwaitsContents spot names count around) (Identifier b t) shown h = (let z = ap bytes_of h in omega (arith, z))
part_bytes m (AwaitsContents spot names count around) (Length n) shown h = (let z = ap bytes_of h in omega (arith, z))
part_bytes m (AwaitsContents spot names count around) End shown h = (let z = ap bytes_of h in omega (arith, z))
part_bytes m (Within []) p shown h = (let z = ap bytes_of h in omega (arith, z))
part_bytes m (Within (l ∷ ls)) (Identifier b t) shown h = (let z = ap bytes_of h ∙ none_begun _ in omega (arith, z))
part_bytes m (Within (l ∷ ls)) End shown h = (let z = ap bytes_of h ∙ none_ended (elements_ended m ls) in omega (arith, z))
part_bytes m (Within (l ∷ ls)) (Length n) shown h = (let z = ap bytes_of h in omega (arith, z))
part_bytes m (Within (l ∷ ls)) (states.Contents o) shown h = (let z = ap bytes_of h in omega (arith, z))

parts_bytes : (m : DerMessage ℕ) (s : State ℕ) (place : ℕ) (ps : List Part) (shown : List Piece) → PartsShow m s place ps shown → bytes_of shown ≤ contents_size ps
parts_bytes m s place [] shown h = (let z = ap bytes_of h in omega (arith, z))
parts_bytes m s place (p ∷ ps) shown (first, behind, one, rest, is) =
    let z = ap bytes_of is ∙ bytes_of-append first behind in
    let a = part_bytes m s p first one in
    let b = parts_bytes m (state_after m s place p) (place + length (part_octets p)) ps behind rest in
    let sum = contents_append (p ∷ []) ps in
    omega (arith, z, a, b, sum)

-- ---- how many are open

stays_first : (depth n : ℕ) (ps : List Part) → StaysOpen depth n ps → n ≤ depth
stays_first depth n [] h = h
stays_first depth n (p ∷ ps) h = h.0

-- one part on
stays_next : (m : DerMessage ℕ) (s : State ℕ) (place depth : ℕ) (p : Part) (ps : List Part) → Stands s place p → IsCleanPart m s place p → StaysOpen depth (open_count s) (without_lengths (p ∷ ps)) → StaysOpen depth (open_count (state_after m s place p)) (without_lengths ps)
stays_next m Start place depth (Identifier b t) ps st cl h = h.1
stays_next m (Within (l ∷ ls)) place depth (Identifier b t) ps st (k, c, e) h = subst (λ z. StaysOpen depth (open_count (begun_state m l ls b z)) (without_lengths ps)) (sym e) h.1
stays_next m (AwaitsLength true spot names around) place depth (Length n) ps st cl h = h
stays_next m (AwaitsLength false spot names around) place depth (Length n) ps st cl h = h
stays_next m (AwaitsContents spot names count around) place depth (states.Contents o) ps st cl h = (let one : suc (length around) - 1 ≡ length around = omega arith in subst (λ z. StaysOpen depth z (without_lengths ps)) one h.1)
stays_next m (Within (l ∷ ls)) place depth End ps st cl h = (let one : suc (length ls) - 1 ≡ length ls = omega arith in subst (λ z. StaysOpen depth z (without_lengths ps)) one h.1)
stays_next m s place depth p ps st cl h = absurd st

open_front : (m : DerMessage ℕ) (s : State ℕ) (place depth : ℕ) (bytes : List ℕ) (ps : List Part) (state : State ℕ) (at : ℕ) (rest : List ℕ) → DerFront m s place bytes ps state at rest → StaysOpen depth (open_count s) (without_lengths ps) → open_count state ≤ depth
open_front m s place depth bytes [] state at rest (p, q, r) h = subst (λ z. open_count z ≤ depth) p h
open_front m s place depth bytes (p ∷ ps) state at rest (after, is, st, up, cl, f) h =
    open_front m (state_after m s place p) (place + length (part_octets p)) depth after ps state at rest f (stays_next m s place depth p ps st cl h)

-- of the parts at the front
stays_front : (depth n : ℕ) (ps later : List Part) → StaysOpen depth n (without_lengths (ps ++ later)) → StaysOpen depth n (without_lengths ps)
stays_front depth n [] later h = stays_first depth n (without_lengths later) h
stays_front depth n (Identifier b t ∷ ps) later h = (h.0, stays_front depth (suc n) ps later h.1)
stays_front depth n (Length k ∷ ps) later h = stays_front depth n ps later h
stays_front depth n (states.Contents o ∷ ps) later h = (h.0, stays_front depth (n - 1) ps later h.1)
stays_front depth n (End ∷ ps) later h = (h.0, stays_front depth (n - 1) ps later h.1)

-- ---- contents that are due

come_small : (m : DerMessage ℕ) (state : State ℕ) (at : ℕ) (rest all : List ℕ) (later : List Part) (end : ℕ) → DerFront m state at all later (Within []) end [] → contents_come state rest ≤ contents_size later
come_small m (AwaitsContents spot names count around) at rest all [] end (p, q, r) = absurd (let e : AwaitsContents spot names count around ≡ Within [] = p in cc)
come_small m (AwaitsContents spot names count around) at rest all (states.Contents o ∷ later) end (after, is, st, up, cl, f) = (let few = length-take count rest in omega (arith, st, few))
come_small m (AwaitsContents spot names count around) at rest all (p ∷ later) end (after, is, st, up, cl, f) = absurd st
come_small m Start at rest all later end f = omega arith
come_small m (AwaitsLength b spot names around) at rest all later end f = omega arith
come_small m (Within levels) at rest all later end f = omega arith

-- ---- what is kept

-- What parts show that were read is a front of the pieces of each instance whose DER begins so.
shown_front : (T : Tables) (bytes more : List ℕ) (ps : List Part) (state : State ℕ) (at : ℕ) (rest : List ℕ) (shown : List Piece) (v : Value) → IsSoundDer (der_message T) → length (bytes ++ more) < 2 ^ 63 → SpellsDer (der_message T) (bytes ++ more) v
    → DerFront (der_message T) Start 0 bytes ps state at rest → PartsShow (der_message T) Start 0 ps shown → (later : List Piece) × (pieces_of fragment T v ≡ shown ++ later)
shown_front T bytes more ps state at rest shown v sound short spelled front show =
    let m = der_message T in
    let parts = whole_parts T (bytes ++ more) v sound short spelled in
    let whole = parts.whole in
    let f = further m Start 0 (bytes ++ more) ps whole.parts state at (rest ++ more) whole.at (front_more m Start 0 bytes ps state at rest more front) whole.front in
    let last = front_shows_pieces m state (Within []) at whole.at (rest ++ more) [] f.later f.front in
    (last.0, show_one_pieces m Start 0 (ps ++ f.later) _ _ (subst (λ z. PartsShow m Start 0 z (pieces_of fragment T v)) f.are parts.show) (parts_show_then m Start state 0 at bytes rest ps f.later shown last.0 front show last.1))

pub kept_front : (T : Tables) (checker : DerChecker) (bytes behind : List ℕ) (kept : Region) (v : Value) → IsSoundDer (der_message T) → HasFedDer checker T bytes → checker.pieces ≡ Some kept
    → length (bytes ++ behind) < 2 ^ 63 → SpellsDer (der_message T) (bytes ++ behind) v → (later : List Piece) × (pieces_of fragment T v ≡ kept.pieces ++ later)
kept_front T checker bytes behind kept v sound h is short spelled =
    let r = h.reading.read in
    let d = checker.decoder in
    let shows = subst (λ z. Shows (der_message T) (inwards d.levels.items) d.due d.start d.place z bytes) is h.reading.shows in
    shown_front T bytes behind r.parts r.state r.at r.rest kept.pieces v sound short spelled r.front (shows r)

-- ---- what the room is enough for

-- Bytes that begin the DER of an instance show no more than it.
pub begins_show : (T : Tables) (room : Room) (bytes : List ℕ) → IsSoundDer (der_message T) → BeginsEnough T room bytes → ShowsEnough T room bytes
begins_show T room bytes sound b = record { plain = b.plain; enough = shows }
  where
    m : DerMessage ℕ
    m = der_message T

    all : List ℕ
    all = bytes ++ b.behind

    parts : WholeParts T all b.value
    parts = whole_parts T all b.value sound b.short b.spelled

    shows : (front behind : List ℕ) → bytes ≡ front ++ behind → (ps : List Part) (state : State ℕ) (at : ℕ) (rest : List ℕ) (shown : List Piece) → DerFront m Start 0 front ps state at rest → PartsShow m Start 0 ps shown
        → IsEnoughSoFar room shown ps (contents_come state rest)
    shows front behind is ps state at rest shown f show = record {
      nodes = (let e = ap length is_front.1 in let sum = length-append shown is_front.0 in let few = b.enough.nodes in omega (arith, e, sum, few));
      bytes = (let come = come_small m state at rest (rest ++ others) further_parts.later parts.whole.at further_parts.front in let sum = contents_append ps further_parts.later in let few = b.enough.bytes in let e = size in omega (arith, come, sum, few, e));
      depth = stays_front room.depth 0 ps further_parts.later (subst (StaysOpen room.depth 0) (sym same) b.enough.depth);
    }
      where
        others : List ℕ
        others = behind ++ b.behind

        one : all ≡ front ++ others
        one = ap (λ z. z ++ b.behind) is ∙ append_assoc front behind b.behind

        further_parts : Further m ps parts.whole.parts state at (rest ++ others) parts.whole.at
        further_parts = further m Start 0 all ps parts.whole.parts state at (rest ++ others) parts.whole.at (subst (λ z. DerFront m Start 0 z ps state at (rest ++ others)) (sym one) (front_more m Start 0 front ps state at rest others f)) parts.whole.front

        same : without_lengths (ps ++ further_parts.later) ≡ parts_of (der_values m b.value)
        same = ap without_lengths (sym further_parts.are) ∙ parts.are

        size : contents_size (ps ++ further_parts.later) ≡ contents_size (parts_of (der_values m b.value))
        size = sym (contents_without (ps ++ further_parts.later)) ∙ ap contents_size same

        is_front : (later : List Piece) × (pieces_of fragment T b.value ≡ shown ++ later)
        is_front = shown_front T front others ps state at rest shown b.value sound (subst (λ z. length z < 2 ^ 63) one b.short) (subst (λ z. SpellsDer m z b.value) one b.spelled) f show

-- The room is enough for what was read, which shows these pieces, and for the octets that have come of contents that are due.
pub record FrontEnough (room : Room) (state : State ℕ) (rest : List ℕ) (shown : List Piece) : Type 0 where
  pub nodes : length shown ≤ room.nodes
  pub bytes : bytes_of shown + contents_come state rest ≤ room.bytes
  pub depth : open_count state ≤ room.depth

pub front_enough : (T : Tables) (room : Room) (bytes more : List ℕ) (ps : List Part) (state : State ℕ) (at : ℕ) (rest : List ℕ) (shown : List Piece) → ShowsEnough T room (bytes ++ more) → DerFront (der_message T) Start 0 bytes ps state at rest
    → PartsShow (der_message T) Start 0 ps shown → FrontEnough room state rest shown
front_enough T room bytes more ps state at rest shown s front show =
    let e = s.enough bytes more refl ps state at rest shown front show in
    let few = parts_bytes (der_message T) Start 0 ps shown show in
    let all = e.bytes in
    record { nodes = e.nodes; bytes = omega (arith, few, all); depth = open_front (der_message T) Start 0 room.depth bytes ps state at rest front e.depth }
