-- The pieces that parts of DER show nest.
use Rattle.std.proofs.Common.{◌≡◌, ℕ, suc, ◌+◌, Bool, true, false, List, [], ◌∷◌, ◌++◌, length, reverse, refl, sym, ap, ◌∙◌, subst, append_assoc}
use Rattle.std.proofs.lemmas.List.{reverse-append}
use Rattle.data_types.specs.Leaf.{Leaf}
use Rattle.data_types.specs.Value.{Edge, Piece, Begins, Holds, Ends}
use Rattle.der_model.specs.DerMessage.{DerMessage}
use Rattle.der_model.specs.Structures.{Spot}
use Rattle.der_model.specs.States.{Part, Identifier, Length, Contents, End, part_octets, DerLevel, State, Start, AwaitsLength, AwaitsContents, Within, IdentifierAnswer, Breaks, begun_state, level_answer, next_number, state_after}
use Rattle.der_model.specs.States as states
use Rattle.der_model.specs.ShownPieces.{begin_each, end_each, component_elements, last_elements, elements_begun, elements_ended, PartShows}
use Rattle.der_model.specs.NestedPieces.{Nests, elements_around, open_elements}
use Rattle.der_model.specs.ShownLaws.{FrontNests}

pub nests_then : (outer : List Edge) (shown more : List Piece) (middle inner : List Edge) → Nests outer shown middle → Nests middle more inner → Nests outer (shown ++ more) inner
nests_then outer [] more middle inner e n = subst (λ z. Nests z more inner) (sym e) n
nests_then outer (Begins edge ∷ shown) more middle inner h n = nests_then (edge ∷ outer) shown more middle inner h n
nests_then outer (Holds leaf ∷ shown) more middle inner h n = nests_then outer shown more middle inner h n
nests_then [] (Ends edge ∷ shown) more middle inner h n = absurd h
nests_then (e ∷ outer) (Ends edge ∷ shown) more middle inner (same, h) n = (same, nests_then outer shown more middle inner h n)

one_more : (e : Edge) (edges outer : List Edge) → reverse (e ∷ edges) ++ outer ≡ reverse edges ++ (e ∷ outer)
one_more e edges outer = ap (λ z. z ++ outer) (reverse-append (e ∷ []) edges) ∙ append_assoc (reverse edges) (e ∷ []) outer

nests_begin : (edges outer : List Edge) → Nests outer (begin_each edges) (reverse edges ++ outer)
nests_begin [] outer = refl
nests_begin (e ∷ edges) outer = subst (Nests (e ∷ outer) (begin_each edges)) (sym (one_more e edges outer)) (nests_begin edges (e ∷ outer))

nests_end : (edges outer : List Edge) → Nests (reverse edges ++ outer) (end_each edges) outer
nests_end [] outer = refl
nests_end (e ∷ edges) outer =
    subst (λ z. Nests z (end_each edges ++ Ends e ∷ []) outer) (sym (one_more e edges outer))
    (nests_then (reverse edges ++ (e ∷ outer)) (end_each edges) (Ends e ∷ []) (e ∷ outer) outer (nests_end edges (e ∷ outer)) (refl, refl))

-- the elements that end with a value are those of the level round it
ended_nests : (m : DerMessage ℕ) (around : List (DerLevel ℕ)) → Nests (elements_around m around) (end_each (elements_ended m around)) (open_elements m (Within around))
ended_nests m [] = refl
ended_nests m (l ∷ ls) = nests_end (last_elements m l.spot l.came) (elements_around m ls)

begun_nests : (m : DerMessage ℕ) (l : DerLevel ℕ) (ls : List (DerLevel ℕ)) (b : Bool) (a : IdentifierAnswer ℕ) → Nests (elements_around m ls) (begin_each (elements_begun m l a)) (open_elements m (begun_state m l ls b a))
begun_nests m l ls b (Breaks rule added) = refl
begun_nests m l ls b (states.Begins k c) = nests_begin (component_elements m l.spot k) (elements_around m ls)

silent : (outer : List Edge) (shown : List Piece) → shown ≡ [] → Nests outer shown outer
silent outer shown e = subst (λ z. Nests outer z outer) (sym e) refl

pub part_nests : (m : DerMessage ℕ) (state : State ℕ) (place : ℕ) (part : Part) (shown : List Piece) → PartShows m state part shown → Nests (open_elements m state) shown (open_elements m (state_after m state place part))
part_nests m Start place (Identifier b t) shown e = silent [] shown e
part_nests m Start place (Length n) shown e = silent [] shown e
part_nests m Start place (Contents o) shown e = silent [] shown e
part_nests m Start place End shown e = silent [] shown e
part_nests m (AwaitsLength true spot names around) place (Length n) shown e = silent (elements_around m around) shown e
part_nests m (AwaitsLength false spot names around) place (Length n) shown e = silent (elements_around m around) shown e
part_nests m (AwaitsLength true spot names around) place (Identifier b t) shown e = silent (elements_around m around) shown e
part_nests m (AwaitsLength false spot names around) place (Identifier b t) shown e = silent (elements_around m around) shown e
part_nests m (AwaitsLength true spot names around) place (Contents o) shown e = silent (elements_around m around) shown e
part_nests m (AwaitsLength false spot names around) place (Contents o) shown e = silent (elements_around m around) shown e
part_nests m (AwaitsLength true spot names around) place End shown e = silent (elements_around m around) shown e
part_nests m (AwaitsLength false spot names around) place End shown e = silent (elements_around m around) shown e
part_nests m (AwaitsContents spot names count around) place (Contents o) shown (leaf, held, e) = subst (λ z. Nests (elements_around m around) z (open_elements m (Within around))) (sym e) (ended_nests m around)
part_nests m (AwaitsContents spot names count around) place (Identifier b t) shown e = silent (elements_around m around) shown e
part_nests m (AwaitsContents spot names count around) place (Length n) shown e = silent (elements_around m around) shown e
part_nests m (AwaitsContents spot names count around) place End shown e = silent (elements_around m around) shown e
part_nests m (Within []) place (Identifier b t) shown e = silent [] shown e
part_nests m (Within []) place (Length n) shown e = silent [] shown e
part_nests m (Within []) place (Contents o) shown e = silent [] shown e
part_nests m (Within []) place End shown e = silent [] shown e
part_nests m (Within (l ∷ ls)) place (Identifier b t) shown e = subst (λ z. Nests (elements_around m ls) z (open_elements m (begun_state m l ls b (level_answer m l b t)))) (sym e) (begun_nests m l ls b (level_answer m l b t))
part_nests m (Within (l ∷ ls)) place End shown e = subst (λ z. Nests (elements_around m ls) z (open_elements m (Within ls))) (sym e) (ended_nests m ls)
part_nests m (Within (l ∷ ls)) place (Length n) shown e = silent (elements_around m ls) shown e
part_nests m (Within (l ∷ ls)) place (Contents o) shown e = silent (elements_around m ls) shown e

pub front_nests : (m : DerMessage ℕ) → FrontNests m
front_nests m before state place at bytes rest [] shown (s, p, r) none =
    subst (λ z. Nests (open_elements m before) shown (open_elements m z)) s (silent (open_elements m before) shown none)
front_nests m before state place at bytes rest (part ∷ parts) shown (after, is, stands, within, clean, front) (first, behind, one, others, told) =
    subst (λ z. Nests (open_elements m before) z (open_elements m state)) (sym told)
    (nests_then (open_elements m before) first behind (open_elements m (state_after m before place part)) (open_elements m state) (part_nests m before place part first one)
    (front_nests m (state_after m before place part) state (place + length (part_octets part)) at after rest parts behind front others))

-- What takes pieces one by one, and puts an element that begins before those that are open, finds the same that are open.
pub nests_found : (f : List Edge → List Piece → List Edge) → ((outer : List Edge) → f outer [] ≡ outer) → ((outer : List Edge) (edge : Edge) (shown : List Piece) → f outer (Begins edge ∷ shown) ≡ f (edge ∷ outer) shown)
    → ((outer : List Edge) (leaf : Leaf) (shown : List Piece) → f outer (Holds leaf ∷ shown) ≡ f outer shown) → ((one edge : Edge) (outer : List Edge) (shown : List Piece) → f (one ∷ outer) (Ends edge ∷ shown) ≡ f outer shown)
    → (outer : List Edge) (shown : List Piece) (inner : List Edge) → Nests outer shown inner → f outer shown ≡ inner
nests_found f none begins holds ends outer [] inner e = none outer ∙ e
nests_found f none begins holds ends outer (Begins edge ∷ shown) inner h = begins outer edge shown ∙ nests_found f none begins holds ends (edge ∷ outer) shown inner h
nests_found f none begins holds ends outer (Holds leaf ∷ shown) inner h = holds outer leaf shown ∙ nests_found f none begins holds ends outer shown inner h
nests_found f none begins holds ends [] (Ends edge ∷ shown) inner h = absurd h
nests_found f none begins holds ends (one ∷ outer) (Ends edge ∷ shown) inner h = ends one edge outer shown ∙ nests_found f none begins holds ends outer shown inner h.1

-- the last component by the number that may come next
pub last_is : (m : DerMessage ℕ) (spot : Spot ℕ) (came : List ℕ) (k : ℕ) → next_number came ≡ suc k → last_elements m spot came ≡ component_elements m spot k
last_is m spot [] k e = absurd cc
last_is m spot (j ∷ came) k e = (let same : j ≡ k = cc in ap (component_elements m spot) same)
