-- The laws on the pieces that parts of DER show.
use Rattle.std.proofs.Common.{◌≡◌, ℕ, ◌+◌, true, List, [], ◌∷◌, ◌++◌, length, refl, sym, ap, ◌∙◌, subst, append_assoc, append-nil}
use Rattle.std.specs.Prelude.{codes}
use Rattle.data_types.specs.Leaf.{Leaf, Bytes}
use Rattle.data_types.specs.Value.{Piece}
use Rattle.data_types.specs.Value as value
use Rattle.der_octets.specs.Octets.{universal, Values, octets, identifier, length_octets}
use Rattle.der_octets.proofs.Headers.{wrapped_nested}
use Rattle.der_octets.proofs.OneReading.{octets_same}
use Rattle.der_model.specs.DerMessage.{DerMessage}
use Rattle.der_model.specs.Structures.{Instance, LeafOf, Fragment, Structure, Holds, Fields, OneOf, Items, Empty, structure}
use Rattle.der_model.specs.Der.{body, inner_of, der_values}
use Rattle.der_model.specs.States.{Part, Identifier, Length, End, part_octets, DerLevel, State, Start, AwaitsLength, AwaitsContents, Within, PathName, Numbered, end_from, state_after}
use Rattle.der_model.specs.States as states
use Rattle.der_model.specs.Faults.{IsHeldIn, IsCleanPart, DerFront, IsWholeDer}
use Rattle.der_model.specs.inner.Conforms.{AreShort, AreInstanceValues}
use Rattle.der_model.specs.Sound.{IsSoundDer}
use Rattle.der_model.specs.ShownPieces.{IsLeafIn, PartShows, PartsShow, elements_ended, end_each}
use Rattle.der_model.specs.ShownLaws.{WholeShowsPieces, FrontShowsPieces, ShowOnePieces, OneMoreShows}
use Rattle.der_model.proofs.SoundMessages.{no_options}
use Rattle.der_model.proofs.ContentsLaws.{one_leaf}
use Rattle.der_model.proofs.WholeValues.{values_of_whole, whole_values_of}
use Rattle.der_model.proofs.Answered.{whole_spells, inner_same}
use Rattle.der_model.proofs.ShownParts.{parts_then, FirstPart, first_part, PartsBehind, parts_of_values, shown_by_values, ValuesShow}
use Rattle.der_model.proofs.ShownValues.{root_shows}

-- no parts come behind the end of an instance
nothing_over : (m : DerMessage ℕ) (place at : ℕ) (bytes rest : List ℕ) (ps : List Part) → DerFront m (Within []) place bytes ps (Within []) at rest → ps ≡ []
nothing_over m place at bytes rest [] f = refl
nothing_over m place at bytes rest (Identifier x t ∷ ps) (after, is, h, u, c, f) = absurd h
nothing_over m place at bytes rest (Length n ∷ ps) (after, is, h, u, c, f) = absurd h
nothing_over m place at bytes rest (states.Contents o ∷ ps) (after, is, h, u, c, f) = absurd h
nothing_over m place at bytes rest (End ∷ ps) (after, is, h, u, c, f) = absurd h

-- the parts of an instance
pub instance_are : (m : DerMessage ℕ) (bytes : List ℕ) (inner : Values) (parts : List Part) (at : ℕ) → AreInstanceValues m inner → AreShort (whole_values_of inner) → bytes ≡ octets (whole_values_of inner) → DerFront m Start 0 bytes parts (Within []) at []
    → parts ≡ Identifier true (universal 16) ∷ Length (length (octets inner)) ∷ parts_then inner []
instance_are m bytes inner parts at conf (s1, s2, s3, s4) is f = one.are ∙ (ap (λ z. Identifier true (universal 16) ∷ z) two.are ∙ ap (λ z. Identifier true (universal 16) ∷ Length n ∷ z) (held.are ∙ ap (parts_then inner) (nothing_over m opened.end at [] [] held.behind held.front)))
  where
    id : List ℕ
    id = identifier true (universal 16)

    n : ℕ
    n = length (octets inner)

    names : List PathName
    names = Numbered (codes "Document") 1 ∷ []

    opened : DerLevel ℕ
    opened = record { spot = Instance; names = names; came = []; end = end_from (0 + length id) n }

    one : FirstPart {P = ℕ} m Start 0 (Identifier true (universal 16)) (length_octets n ++ (octets inner ++ [])) parts at []
    one = first_part m Start 0 bytes (Identifier true (universal 16)) (length_octets n ++ (octets inner ++ [])) parts at [] (λ q. absurd cc) s1 (is ∙ wrapped_nested id (octets inner) []) f

    two : FirstPart {P = ℕ} m (AwaitsLength true Instance names []) (0 + length id) (Length n) (octets inner ++ []) one.others at []
    two = first_part m (AwaitsLength true Instance names []) (0 + length id) (length_octets n ++ (octets inner ++ [])) (Length n) (octets inner ++ []) one.others at [] (λ q. absurd cc) s2 refl one.front

    held : PartsBehind {P = ℕ} m inner [] opened.end [] two.others at []
    held = parts_of_values m inner opened [] (0 + length id + length (length_octets n)) (octets inner ++ []) [] two.others at [] refl refl s3 conf two.front

-- what the parts of an instance show, by its values
instance_parts : (m : DerMessage ℕ) (bytes : List ℕ) (inner : Values) (parts : List Part) (at : ℕ) (shown : List Piece) → AreInstanceValues m inner → AreShort (whole_values_of inner) → bytes ≡ octets (whole_values_of inner)
    → DerFront m Start 0 bytes parts (Within []) at [] → PartsShow m Start 0 parts shown → ValuesShow m Instance [] inner shown
instance_parts m bytes inner parts at shown conf short is f told = go (subst (λ z. PartsShow m Start 0 z shown) (instance_are m bytes inner parts at conf short is f) told)
  where
    n : ℕ
    n = length (octets inner)

    opened : DerLevel ℕ
    opened = record { spot = Instance; names = Numbered (codes "Document") 1 ∷ []; came = []; end = end_from (0 + length (identifier true (universal 16))) n }

    go : PartsShow m Start 0 (Identifier true (universal 16) ∷ Length n ∷ parts_then inner []) shown → ValuesShow m Instance [] inner shown
    go (f1, m1, o1, (f2, m2, o2, rest, is2), is1) =
        let r = shown_by_values m inner opened [] (0 + length (identifier true (universal 16)) + length (length_octets n)) [] m2 conf rest in
        let here : m2 ≡ r.here = r.is ∙ (ap (λ z. r.here ++ z) r.others ∙ append-nil r.here) in
        subst (ValuesShow m Instance [] inner) (sym (is1 ∙ (ap (λ z. z ++ m1) o1 ∙ (is2 ∙ (ap (λ z. z ++ m2) o2 ∙ here))))) r.values

pub whole_shows_pieces : (m : DerMessage ℕ) → IsSoundDer m → WholeShowsPieces m
whole_shows_pieces m sound bytes parts at shown front told =
    let whole : IsWholeDer m bytes = record { parts = parts; at = at; front = front } in
    let (inner, conf, short, is) = values_of_whole m bytes whole in
    let (v, (admits, spelled)) = whole_spells m sound bytes whole in
    let same : inner ≡ inner_of (body m (m.forms m.root) v) = inner_same _ _ (octets_same (whole_values_of inner) (der_values m v) (sym is ∙ spelled)) in
    let values = instance_parts m bytes inner parts at shown conf short is front told in
    (v, (admits, spelled), root_shows m (no_options m sound) sound.root.0 v shown sound.root.1 admits (subst (λ z. ValuesShow m Instance [] z shown) same values))

-- contents that a value may hold have a leaf
held_leaf : (m : DerMessage ℕ) (layout : Structure ℕ) (o : List ℕ) → IsHeldIn m layout o → (leaf : Leaf) × IsLeafIn layout o leaf
held_leaf m (Holds (LeafOf simple)) o held = held
held_leaf m (Holds Fragment) o held = (Bytes o, refl)
held_leaf m (Fields cs) o held = absurd held
held_leaf m (OneOf cs) o held = absurd held
held_leaf m (Items s cs) o held = absurd held
held_leaf m Empty o held = absurd held

clean_shows : (m : DerMessage ℕ) (state : State ℕ) (place : ℕ) (part : Part) → IsCleanPart m state place part → (shown : List Piece) × PartShows m state part shown
clean_shows m Start place part clean = ([], refl)
clean_shows m (AwaitsLength constructed spot names around) place part clean = ([], refl)
clean_shows m (AwaitsContents spot names count around) place (states.Contents o) clean =
    let r = held_leaf m (structure m spot) o clean in
    (value.Holds r.0 ∷ end_each (elements_ended m around), (r.0, r.1, refl))
clean_shows m (AwaitsContents spot names count around) place part clean = ([], refl)
clean_shows m (Within []) place part clean = ([], refl)
clean_shows m (Within (l ∷ around)) place (Identifier constructed tag) clean = (_, refl)
clean_shows m (Within (l ∷ around)) place End clean = (_, refl)
clean_shows m (Within (l ∷ around)) place part clean = ([], refl)

pub front_shows_pieces : (m : DerMessage ℕ) → FrontShowsPieces m
front_shows_pieces m before state place at bytes rest [] front = ([], refl)
front_shows_pieces m before state place at bytes rest (part ∷ parts) (after, is, stands, within, clean, front) =
    let first = clean_shows m before place part clean in
    let behind = front_shows_pieces m (state_after m before place part) state (place + length (part_octets part)) at after rest parts front in
    (first.0 ++ behind.0, (first.0, behind.0, first.1, behind.1, refl))

-- contents have one leaf
one_held : (layout : Structure ℕ) (o : List ℕ) (a b : Leaf) → IsLeafIn layout o a → IsLeafIn layout o b → a ≡ b
one_held (Holds (LeafOf simple)) o a b p q = one_leaf simple.kind simple.codes o a b p.0 q.0
one_held (Holds Fragment) o a b p q = p ∙ sym q
one_held (Fields cs) o a b p q = absurd p
one_held (OneOf cs) o a b p q = absurd p
one_held (Items s cs) o a b p q = absurd p
one_held Empty o a b p q = absurd p

part_shows_one : (m : DerMessage ℕ) (state : State ℕ) (part : Part) (a b : List Piece) → PartShows m state part a → PartShows m state part b → a ≡ b
part_shows_one m Start part a b p q = p ∙ sym q
part_shows_one m (AwaitsLength constructed spot names around) part a b p q = p ∙ sym q
part_shows_one m (AwaitsContents spot names count around) (states.Contents o) a b (x, hx, p) (y, hy, q) = p ∙ (ap (λ z. value.Holds z ∷ end_each (elements_ended m around)) (one_held (structure m spot) o x y hx hy) ∙ sym q)
part_shows_one m (AwaitsContents spot names count around) part a b p q = p ∙ sym q
part_shows_one m (Within []) part a b p q = p ∙ sym q
part_shows_one m (Within (l ∷ around)) (Identifier constructed tag) a b p q = p ∙ sym q
part_shows_one m (Within (l ∷ around)) End a b p q = p ∙ sym q
part_shows_one m (Within (l ∷ around)) part a b p q = p ∙ sym q

pub show_one_pieces : (m : DerMessage ℕ) → ShowOnePieces m
show_one_pieces m before place [] a b p q = p ∙ sym q
show_one_pieces m before place (part ∷ parts) a b (x, xs, first, behind, is) (y, ys, other, others, also) =
    is ∙ (ap (λ z. z ++ xs) (part_shows_one m before part x y first other) ∙ (ap (λ z. y ++ z) (show_one_pieces m (state_after m before place part) (place + length (part_octets part)) parts xs ys behind others) ∙ sym also))

-- parts in the state behind others show their pieces behind those
pub parts_show_then : (m : DerMessage ℕ) (before state : State ℕ) (place at : ℕ) (bytes rest : List ℕ) (parts others : List Part) (shown more : List Piece) → DerFront m before place bytes parts state at rest → PartsShow m before place parts shown → PartsShow m state at others more
    → PartsShow m before place (parts ++ others) (shown ++ more)
parts_show_then m before state place at bytes rest [] others shown more (s, p, r) none behind =
    subst (PartsShow m before place others) (ap (λ z. z ++ more) (sym none)) (subst (λ z. PartsShow m z place others more) (sym s) (subst (λ z. PartsShow m state z others more) (sym p) behind))
parts_show_then m before state place at bytes rest (part ∷ parts) others shown more (after, is, stands, within, clean, front) (first, behind, one, these, told) those = (
  first,
  behind ++ more,
  one,
  parts_show_then m (state_after m before place part) state (place + length (part_octets part)) at after rest parts others behind more front these those,
  ap (λ z. z ++ more) told ∙ append_assoc first behind more,
)

pub one_more_shows : (m : DerMessage ℕ) → OneMoreShows m
one_more_shows m before state place at bytes rest parts part shown more front these one = parts_show_then m before state place at bytes rest parts (part ∷ []) shown more front these (more, [], one, refl, sym (append-nil more))
