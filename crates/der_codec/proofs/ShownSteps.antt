-- Which pieces are shown with each step of the reader.
use Rattle.std.specs.Prelude.{codes}
use Rattle.std.proofs.Common.{◌≡◌, ℕ, suc, ◌+◌, ◌<◌, Bool, true, false, List, [], ◌∷◌, ◌++◌, length, drop, Option, Some, None, refl, sym, ap, ◌∙◌, subst, arith, append_assoc, append-nil, length-append, ◌⊎◌, inl, inr}
use Rattle.std.proofs.lemmas.List.{nil_from_length}
use Rattle.data_types.specs.Leaf.{Leaf}
use Rattle.data_types.specs.Value.{Piece, Holds}
use Rattle.der_octets.specs.Octets.{identifier, length_octets}
use Rattle.der_octets.specs.LengthSteps as lengths
use Rattle.der_octets.specs.declared.tag_step.TagStep.{TagStep}
use Rattle.der_octets.specs.declared.length_step.LengthStep.{LengthStep}
use Rattle.inst_pool.specs.Pieces.{Region, edges_open_behind}
use Rattle.der_model.specs.DerMessage.{DerMessage}
use Rattle.der_model.specs.Structures as structures
use Rattle.der_model.specs.Structures.{structure, Structure, Holds as HoldsOctets, Fields, OneOf, Items, Empty, LeafOf, Fragment}
use Rattle.der_model.specs.States as states
use Rattle.der_model.specs.States.{Part, Identifier, Length, End, PathName, Numbered, State, Start, AwaitsLength, AwaitsContents, Within, level_answer, begun_state, names_in, end_from}
use Rattle.der_model.specs.Faults.{DerFront}
use Rattle.der_model.specs.ShownPieces.{PartsShow, IsLeafIn, begin_each, end_each, elements_begun, elements_ended}
use Rattle.der_model.specs.NestedPieces.{open_elements, elements_around}
use Rattle.der_model.proofs.Continued.{front_more}
use Rattle.der_model.proofs.NestedPieces.{front_nests, nests_found}
use Rattle.der_model.proofs.ShownPieces.{parts_show_then}
use Rattle.der_codec.specs.Checking.{open_count}
use Rattle.der_codec.specs.Decoding.{IsOpenState, IsBegun, Reads, IsBelowEnd, IsSettled, BeginsContents, end_of_first}
use Rattle.der_codec.specs.Judging.{HoldsLeaf}
use Rattle.der_codec.specs.KeptPieces.{Shows, PiecesGoOn, AreOpen, HoldsLeafAt, around_of, begun_pieces}
use Rattle.der_codec.specs.Levels.{IsSpot, AreLevels}
use Rattle.der_codec.specs.declared.level.Level.{Level}
use Rattle.der_codec.specs.declared.level.Spot.{Spot}
use Rattle.der_codec.specs.declared.decoder.Due.{Due}
use Rattle.der_codec.specs.declared.decoder.Due.TheVariants as due
use Rattle.der_codec.proofs.ContentsSteps.{rest_from}
use Rattle.der_codec.proofs.Steps.{open_limit}
use Rattle.der_codec.proofs.PartsBetween.{Between, Behind, either_further, none_further, ends_alone, none_awaited, tag_ends, length_ends, no_identifier}

-- Parts come behind those that were read, and show these pieces.
pub record Adds (m : DerMessage ℕ) (before : List Part) (s : State ℕ) (at : ℕ) (all : List Part) (more : List Piece) : Type 0 where
  pub parts : List Part
  pub are : all ≡ before ++ parts
  pub show : PartsShow m s at parts more

-- the pieces that are kept go on
pub shows_on : (m : DerMessage ℕ) (xs ys : List Level) (d e : Due) (start place begin end : ℕ) (bytes all : List ℕ) (old new : Option Region) (r : Reads m xs d start place bytes) → Shows m xs d start place old bytes
    → ((t : Reads m ys e begin end all) → (more : List Piece) × PiecesGoOn old new more × Adds m r.parts r.state r.at t.parts more) → Shows m ys e begin end new all
shows_on m xs ys d e start place begin end bytes all old None r shows adds = tt
shows_on m xs ys d e start place begin end bytes all None (Some new) r shows adds = λ t. absurd (adds t).1
shows_on m xs ys d e start place begin end bytes all (Some old) (Some new) r shows adds = λ t.
    let (more, goes, a) = adds t in
    subst (λ z. PartsShow m Start 0 z new.pieces) (sym a.are) (subst (λ z. PartsShow m Start 0 (r.parts ++ a.parts) z) (sym goes)
    (parts_show_then m Start r.state 0 r.at bytes r.rest r.parts a.parts old.pieces more r.front (shows r) a.show))

-- nothing comes behind them
pub goes_same : (old new : Option Region) → new ≡ old → PiecesGoOn old new []
goes_same None None e = tt
goes_same (Some old) (Some new) e = (let same : new ≡ old = cc in ap (λ (z : Region). z.pieces) same ∙ sym (append-nil old.pieces))
goes_same None (Some new) e = absurd cc
goes_same (Some old) None e = absurd cc

-- two times
pub goes_twice : (old mid new : Option Region) (more others : List Piece) → PiecesGoOn old mid more → PiecesGoOn mid new others → PiecesGoOn old new (more ++ others)
goes_twice None None None more others a b = tt
goes_twice (Some old) (Some mid) (Some new) more others a b = b ∙ (ap (λ z. z ++ others) a ∙ append_assoc old.pieces more others)
goes_twice None None (Some new) more others a b = absurd b
goes_twice None (Some mid) new more others a b = absurd a
goes_twice (Some old) None new more others a b = absurd a
goes_twice (Some old) (Some mid) None more others a b = absurd b

-- the elements that are open are those of the state
pub shown_open : (m : DerMessage ℕ) (xs : List Level) (d : Due) (start place : ℕ) (bytes : List ℕ) (kept : Option Region) (r : Reads m xs d start place bytes) → Shows m xs d start place kept bytes → AreOpen kept (open_elements m r.state)
shown_open m xs d start place bytes None r shows = tt
shown_open m xs d start place bytes (Some kept) r shows =
    nests_found edges_open_behind (λ outer. refl) (λ outer edge more. refl) (λ outer leaf more. refl) (λ one edge outer more. refl) [] kept.pieces (open_elements m r.state)
    (front_nests m Start r.state 0 r.at bytes r.rest r.parts kept.pieces r.front (shows r))

-- the values that are open are the levels of the reader
pub levels_open : (m : DerMessage ℕ) (xs : List Level) (d : Due) (s : State ℕ) → IsOpenState m xs d s → AreLevels m.forms xs (around_of s)
levels_open m xs (due.Tag step) Start op = subst (λ z. AreLevels m.forms z []) (sym op) tt
levels_open m xs (due.Tag step) (Within (l ∷ ls)) op = op
levels_open m xs (due.Length c spot step) (AwaitsLength b of names ls) op = op.2
levels_open m xs (due.Contents spot left) (AwaitsContents of names count ls) op = op.1
levels_open m xs due.Over (Within []) op = subst (λ z. AreLevels m.forms z []) (sym op) tt
levels_open m xs d s op = absurd op

-- ---- identifier octets

none_begun : (m : DerMessage ℕ) (xs : List Level) (step : TagStep) (s : State ℕ) → IsOpenState m xs (due.Tag step) s → begun_pieces m s ≡ []
none_begun m xs step Start op = refl
none_begun m xs step (Within (l ∷ ls)) op = refl
none_begun m xs step s op = absurd op

pub tag_adds : (m : DerMessage ℕ) (xs ys : List Level) (step : TagStep) (e : Due) (start place begin end : ℕ) (bytes : List ℕ) (o : ℕ) (r : Reads m xs (due.Tag step) start place bytes) → IsBelowEnd place (end_of_first xs) → IsSettled e end (end_of_first ys) → BeginsContents e begin end
    → (t : Reads m ys e begin end (bytes ++ o ∷ [])) → Adds m r.parts r.state r.at t.parts (begun_pieces m t.state)
tag_adds m xs ys step e start place begin end bytes o r below settled new t =
    by (either_further m Start 0 (bytes ++ o ∷ []) r.parts t.parts r.state t.state r.at t.at (r.rest ++ o ∷ []) t.rest (front_more m Start 0 bytes r.parts r.state r.at r.rest (o ∷ []) r.front) t.front)
  where
    go : (s : State ℕ) → IsOpenState m xs (due.Tag step) s → (v : State ℕ) (ps : List Part) → DerFront m s r.at (r.rest ++ o ∷ []) ps v t.at t.rest → PartsShow m s r.at ps (begun_pieces m v)
    go s op v [] (p, q, z) = ap (begun_pieces m) (sym p) ∙ none_begun m xs step s op
    go Start op v (Identifier c g ∷ ps) (after, is, st, up, cl, f) =
        let names : List PathName = Numbered (codes "Document") 1 ∷ [] in
        let at = r.at + length (identifier c g) in
        let n = none_awaited m true structures.Instance names [] at after ps v t.at t.rest (tag_ends step r.rest after o c g r.is_begun is) f in
        ([], [], refl, subst (λ z. PartsShow m (AwaitsLength true structures.Instance names []) at z []) (sym n.0) refl, ap (begun_pieces m) (sym n.1))
    go Start op v (p ∷ ps) (after, is, st, up, cl, f) = absurd st
    go (Within (l ∷ ls)) op v (Identifier c g ∷ ps) (after, is, st, up, (k, x, answer), f) =
        let around : List (states.DerLevel ℕ) = record l { came = k ∷ l.came } ∷ ls in
        let names = names_in (structure m l.spot) l.came x.label in
        let first = begin_each (elements_begun m l (level_answer m l c g)) in
        let at = r.at + length (identifier c g) in
        let n = none_awaited m c x.spot names around at after ps v t.at t.rest (tag_ends step r.rest after o c g r.is_begun is) (subst (λ z. DerFront m (begun_state m l ls c z) at after ps v t.at t.rest) answer f) in
        (first, [], refl, subst (λ z. PartsShow m (begun_state m l ls c (level_answer m l c g)) at z []) (sym n.0) refl, ap (begun_pieces m) (sym n.1) ∙ (ap (λ z. begin_each (elements_begun m l z)) (sym answer) ∙ sym (append-nil first)))
    go (Within (l ∷ ls)) op v (End ∷ ps) (after, is, st, up, cl, f) =
        let inside : place < l.end = subst (IsBelowEnd place) (sym (open_limit m xs (due.Tag step) (Within (l ∷ ls)) op)) below in
        let there = r.place_is in
        absurd (omega (arith, inside, there, st))
    go (Within (l ∷ ls)) op v (p ∷ ps) (after, is, st, up, cl, f) = absurd st
    go s op v (p ∷ ps) f = absurd op

    by : Between m r.parts r.state r.at (r.rest ++ o ∷ []) t.parts t.state t.at t.rest ⊎ Behind m r.state r.at (r.rest ++ o ∷ []) t.state t.at t.rest → Adds m r.parts r.state r.at t.parts (begun_pieces m t.state)
    by (inl b) = record { parts = b.parts; are = b.are; show = go r.state r.is_open t.state b.parts b.front }
    by (inr b) = absurd (none_further m ys e begin end (bytes ++ o ∷ []) t settled new r.state r.at (r.rest ++ o ∷ []) (let sum = length-append r.rest (o ∷ []) in omega (arith, sum)) b)

-- ---- length octets

-- the last of which comes behind those that the step has taken
pub lengths_add : (m : DerMessage ℕ) (xs ys : List Level) (c : Bool) (spot : Spot) (step taken : LengthStep) (e : Due) (start place begin end : ℕ) (bytes octets front : List ℕ) (last : ℕ) (r : Reads m xs (due.Length c spot step) start place bytes) → r.rest ++ octets ≡ front ++ last ∷ [] → lengths.HasTakenLength taken front
    → 0 < length octets → IsSettled e end (end_of_first ys) → BeginsContents e begin end → (t : Reads m ys e begin end (bytes ++ octets)) → open_count t.state ≡ open_count r.state → Adds m r.parts r.state r.at t.parts []
lengths_add m xs ys c spot step taken e start place begin end bytes octets front last r are come some settled new t same =
    by (either_further m Start 0 (bytes ++ octets) r.parts t.parts r.state t.state r.at t.at (r.rest ++ octets) t.rest (front_more m Start 0 bytes r.parts r.state r.at r.rest octets r.front) t.front)
  where
    none : (ps : List Part) (s : State ℕ) (at : ℕ) → length ps ≡ 0 → PartsShow m s at ps []
    none [] s at z = refl
    none (p ∷ ps) s at z = absurd (omega (arith, z))

    go : (s : State ℕ) → IsOpenState m xs (due.Length c spot step) s → open_count t.state ≡ open_count s → (ps : List Part) → DerFront m s r.at (r.rest ++ octets) ps t.state t.at t.rest → PartsShow m s r.at ps []
    go s op count [] f = refl
    go (AwaitsLength true of names ls) op count (Length n ∷ ps) (after, is, st, up, cl, f) =
        let at = r.at + length (length_octets n) in
        let next : State ℕ = Within (record { spot = of; names = names; came = []; end = end_from r.at n } ∷ ls) in
        let alone = ends_alone m next at after ps t.state t.at t.rest (length_ends taken front after last n come (sym are ∙ is)) f in
        ([], [], refl, none ps next at (omega (arith, alone, count)), refl)
    go (AwaitsLength false of names ls) op count (Length n ∷ ps) (after, is, st, up, cl, f) =
        let at = r.at + length (length_octets n) in
        let next : State ℕ = AwaitsContents of names n ls in
        let alone = ends_alone m next at after ps t.state t.at t.rest (length_ends taken front after last n come (sym are ∙ is)) f in
        ([], [], refl, none ps next at (omega (arith, alone, count)), refl)
    go (AwaitsLength b of names ls) op count (p ∷ ps) (after, is, st, up, cl, f) = absurd st
    go s op count (p ∷ ps) f = absurd op

    by : Between m r.parts r.state r.at (r.rest ++ octets) t.parts t.state t.at t.rest ⊎ Behind m r.state r.at (r.rest ++ octets) t.state t.at t.rest → Adds m r.parts r.state r.at t.parts []
    by (inl b) = record { parts = b.parts; are = b.are; show = go r.state r.is_open same b.parts b.front }
    by (inr b) = absurd (none_further m ys e begin end (bytes ++ octets) t settled new r.state r.at (r.rest ++ octets) (let sum = length-append r.rest octets in omega (arith, sum, some)) b)

-- the next one
pub length_adds : (m : DerMessage ℕ) (xs ys : List Level) (c : Bool) (spot : Spot) (step : LengthStep) (e : Due) (start place begin end : ℕ) (bytes : List ℕ) (o : ℕ) (r : Reads m xs (due.Length c spot step) start place bytes) → IsSettled e end (end_of_first ys) → BeginsContents e begin end
    → (t : Reads m ys e begin end (bytes ++ o ∷ [])) → open_count t.state ≡ open_count r.state → Adds m r.parts r.state r.at t.parts []
length_adds m xs ys c spot step e start place begin end bytes o r settled new t same = lengths_add m xs ys c spot step step e start place begin end bytes (o ∷ []) r.rest o r refl r.is_begun (omega arith) settled new t same

-- ---- contents octets

-- more of them
pub pass_adds : (m : DerMessage ℕ) (xs ys : List Level) (one two : Spot) (left less : ℕ) (start place begin end : ℕ) (bytes more : List ℕ) (r : Reads m xs (due.Contents one left) start place bytes) → length more < left → 0 < less
    → (t : Reads m ys (due.Contents two less) begin end (bytes ++ more)) → Adds m r.parts r.state r.at t.parts []
pass_adds m xs ys one two left less start place begin end bytes more r few some t =
    by (either_further m Start 0 (bytes ++ more) r.parts t.parts r.state t.state r.at t.at (r.rest ++ more) t.rest (front_more m Start 0 bytes r.parts r.state r.at r.rest more r.front) t.front)
  where
    go : (s : State ℕ) → IsOpenState m xs (due.Contents one left) s → IsBegun (due.Contents one left) s r.rest → (ps : List Part) → DerFront m s r.at (r.rest ++ more) ps t.state t.at t.rest → PartsShow m s r.at ps []
    go s op beg [] f = refl
    go (AwaitsContents of names count ls) op beg (states.Contents x ∷ ps) (after, is, st, up, cl, f) =
        absurd (let a = ap length is in let b = length-append r.rest more in let c = length-append x after in omega (arith, a, b, c, st, beg, few))
    go (AwaitsContents of names count ls) op beg (p ∷ ps) (after, is, st, up, cl, f) = absurd st
    go s op beg (p ∷ ps) f = absurd op

    back : (s : State ℕ) → IsOpenState m ys (due.Contents two less) s → IsBegun (due.Contents two less) s t.rest → (p : Part) (ps : List Part) → DerFront m s t.at t.rest (p ∷ ps) r.state r.at (r.rest ++ more) → ⊥
    back (AwaitsContents of names count ls) op beg (states.Contents x) ps (after, is, st, up, cl, f) = (let a = ap length is in let c = length-append x after in omega (arith, a, c, st, beg, some))
    back (AwaitsContents of names count ls) op beg p ps (after, is, st, up, cl, f) = absurd st
    back s op beg p ps f = absurd op

    by : Between m r.parts r.state r.at (r.rest ++ more) t.parts t.state t.at t.rest ⊎ Behind m r.state r.at (r.rest ++ more) t.state t.at t.rest → Adds m r.parts r.state r.at t.parts []
    by (inl b) = record { parts = b.parts; are = b.are; show = go r.state r.is_open r.is_begun b.parts b.front }
    by (inr b) = absurd (back t.state t.is_open t.is_begun b.part b.others b.front)

leaf_in : (m : DerMessage ℕ) (s : Structure ℕ) (o : List ℕ) (leaf : Leaf) → HoldsLeaf m s o leaf → IsLeafIn s o leaf
leaf_in m (HoldsOctets (LeafOf simple)) o leaf h = h
leaf_in m (HoldsOctets Fragment) o leaf h = h.1
leaf_in m (Fields cs) o leaf h = absurd h
leaf_in m (OneOf cs) o leaf h = absurd h
leaf_in m (Items s cs) o leaf h = absurd h
leaf_in m Empty o leaf h = absurd h

-- A value ends: parts come that show these pieces, behind those that are open round it.
pub record Closes (m : DerMessage ℕ) (before : List Part) (s : State ℕ) (at : ℕ) (all : List Part) (last : State ℕ) (more : List Piece) : Type 0 where
  pub adds : Adds m before s at all more
  pub around_are : open_elements m s ≡ elements_around m (around_of last)

-- the last of them
pub contents_close : (m : DerMessage ℕ) (xs ys : List Level) (spot : Spot) (left : ℕ) (e : Due) (start place begin end : ℕ) (bytes more : List ℕ) (leaf : Leaf) (r : Reads m xs (due.Contents spot left) start place bytes) → length more ≡ left
    → HoldsLeafAt m spot (drop start bytes ++ more) leaf → (t : Reads m ys e begin end (bytes ++ more)) → t.rest ≡ [] → suc (open_count t.state) ≡ open_count r.state
    → Closes m r.parts r.state r.at t.parts t.state (Holds leaf ∷ end_each (elements_ended m (around_of t.state)))
contents_close m xs ys spot left e start place begin end bytes more leaf r size held t none fewer =
    by (either_further m Start 0 (bytes ++ more) r.parts t.parts r.state t.state r.at t.at (r.rest ++ more) t.rest (front_more m Start 0 bytes r.parts r.state r.at r.rest more r.front) t.front)
  where
    pieces : State ℕ → List Piece
    pieces v = Holds leaf ∷ end_each (elements_ended m (around_of v))

    here : (of : structures.Spot ℕ) → IsSpot m.forms spot of → HoldsLeaf m (structure m of) (r.rest ++ more) leaf
    here of is = subst (λ z. HoldsLeaf m (structure m of) (z ++ more) leaf) (rest_from m xs (due.Contents spot left) start place bytes r) (held of is)

    alone : (of : structures.Spot ℕ) (names : List PathName) (count : ℕ) (ls : List (states.DerLevel ℕ)) (x : List ℕ) (at : ℕ) (v : State ℕ) (ps : List Part) → IsLeafIn (structure m of) x leaf → length ps ≡ 0 → (Within ls ≡ v)
        → PartsShow m (AwaitsContents of names count ls) at (states.Contents x ∷ ps) (pieces v) × (open_elements m (AwaitsContents of names count ls) ≡ elements_around m (around_of v))
    alone of names count ls x at v [] one z same = (
      (pieces (Within ls), [], (leaf, one, refl), refl, ap pieces (sym same) ∙ sym (append-nil (pieces (Within ls)))),
      ap (λ q. elements_around m (around_of q)) same,
    )
    alone of names count ls x at v (p ∷ ps) one z same = absurd (omega (arith, z))

    last_is : (s v : State ℕ) (ps : List Part) (at end : ℕ) (left rest : List ℕ) → length ps ≡ 0 → DerFront m s at left ps v end rest → s ≡ v
    last_is s v [] at end left rest z (p, q, w) = p
    last_is s v (p ∷ ps) at end left rest z f = absurd (omega (arith, z))

    go : (s : State ℕ) → IsOpenState m xs (due.Contents spot left) s → IsBegun (due.Contents spot left) s r.rest → suc (open_count t.state) ≡ open_count s → (ps : List Part) → DerFront m s r.at (r.rest ++ more) ps t.state t.at t.rest
        → PartsShow m s r.at ps (pieces t.state) × (open_elements m s ≡ elements_around m (around_of t.state))
    go s op beg count [] (p, q, z) = absurd (let same : open_count s ≡ open_count t.state = ap open_count p in omega (arith, same, count))
    go (AwaitsContents of names n ls) op beg count (states.Contents x ∷ ps) (after, is, st, up, cl, f) =
        let a = ap length is in let b = length-append r.rest more in let c = length-append x after in
        let nothing : after ≡ [] = nil_from_length after (omega (arith, a, b, c, st, beg, size)) in
        let whole : r.rest ++ more ≡ x = is ∙ (ap (λ z. x ++ z) nothing ∙ append-nil x) in
        let ends = ends_alone m (Within ls) (r.at + length x) after ps t.state t.at t.rest nothing f in
        let few : length ps ≡ 0 = omega (arith, ends, count) in
        alone of names n ls x r.at t.state ps (leaf_in m (structure m of) x leaf (subst (λ z. HoldsLeaf m (structure m of) z leaf) whole (here of op.0))) few (last_is (Within ls) t.state ps (r.at + length x) t.at after t.rest few f)
    go (AwaitsContents of names n ls) op beg count (p ∷ ps) (after, is, st, up, cl, f) = absurd st
    go s op beg count (p ∷ ps) f = absurd op

    by : Between m r.parts r.state r.at (r.rest ++ more) t.parts t.state t.at t.rest ⊎ Behind m r.state r.at (r.rest ++ more) t.state t.at t.rest
        → Closes m r.parts r.state r.at t.parts t.state (Holds leaf ∷ end_each (elements_ended m (around_of t.state)))
    by (inl b) = (let g = go r.state r.is_open r.is_begun fewer b.parts b.front in record { adds = record { parts = b.parts; are = b.are; show = g.0 }; around_are = g.1 })
    by (inr b) = absurd (let back = ends_alone m t.state t.at t.rest (b.part ∷ b.others) r.state r.at (r.rest ++ more) none b.front in omega (arith, back, fewer))

-- ---- the end of a constructed value

pub end_closes : (m : DerMessage ℕ) (xs ys : List Level) (step : TagStep) (e : Due) (start place begin end : ℕ) (bytes : List ℕ) (r : Reads m xs (due.Tag step) start place bytes) → r.rest ≡ [] → (t : Reads m ys e begin end bytes) → t.rest ≡ []
    → suc (open_count t.state) ≡ open_count r.state → Closes m r.parts r.state r.at t.parts t.state (end_each (elements_ended m (around_of t.state)))
end_closes m xs ys step e start place begin end bytes r bare t none fewer =
    by (either_further m Start 0 bytes r.parts t.parts r.state t.state r.at t.at r.rest t.rest r.front t.front)
  where
    pieces : State ℕ → List Piece
    pieces v = end_each (elements_ended m (around_of v))

    alone : (l : states.DerLevel ℕ) (ls : List (states.DerLevel ℕ)) (at : ℕ) (v : State ℕ) (ps : List Part) → length ps ≡ 0 → (Within ls ≡ v)
        → PartsShow m (Within (l ∷ ls)) at (End ∷ ps) (pieces v) × (open_elements m (Within (l ∷ ls)) ≡ elements_around m (around_of v))
    alone l ls at v [] z same = (
      (pieces (Within ls), [], refl, refl, ap pieces (sym same) ∙ sym (append-nil (pieces (Within ls)))),
      ap (λ q. elements_around m (around_of q)) same,
    )
    alone l ls at v (p ∷ ps) z same = absurd (omega (arith, z))

    last_is : (s v : State ℕ) (ps : List Part) (at end : ℕ) (left rest : List ℕ) → length ps ≡ 0 → DerFront m s at left ps v end rest → s ≡ v
    last_is s v [] at end left rest z (p, q, w) = p
    last_is s v (p ∷ ps) at end left rest z f = absurd (omega (arith, z))

    go : (s : State ℕ) → IsOpenState m xs (due.Tag step) s → suc (open_count t.state) ≡ open_count s → (ps : List Part) → DerFront m s r.at r.rest ps t.state t.at t.rest → PartsShow m s r.at ps (pieces t.state) × (open_elements m s ≡ elements_around m (around_of t.state))
    go s op count [] (p, q, z) = absurd (let same : open_count s ≡ open_count t.state = ap open_count p in omega (arith, same, count))
    go Start op count (Identifier c g ∷ ps) (after, is, st, up, cl, f) = absurd (no_identifier c g r.rest after bare is)
    go (Within (l ∷ ls)) op count (Identifier c g ∷ ps) (after, is, st, up, cl, f) = absurd (no_identifier c g r.rest after bare is)
    go (Within (l ∷ ls)) op count (End ∷ ps) (after, is, st, up, cl, f) =
        let ends = ends_alone m (Within ls) (r.at + 0) after ps t.state t.at t.rest (sym is ∙ bare) f in
        let few : length ps ≡ 0 = omega (arith, ends, count) in
        alone l ls r.at t.state ps few (last_is (Within ls) t.state ps (r.at + 0) t.at after t.rest few f)
    go Start op count (p ∷ ps) (after, is, st, up, cl, f) = absurd st
    go (Within (l ∷ ls)) op count (p ∷ ps) (after, is, st, up, cl, f) = absurd st
    go s op count (p ∷ ps) f = absurd op

    by : Between m r.parts r.state r.at r.rest t.parts t.state t.at t.rest ⊎ Behind m r.state r.at r.rest t.state t.at t.rest → Closes m r.parts r.state r.at t.parts t.state (end_each (elements_ended m (around_of t.state)))
    by (inl b) = (let g = go r.state r.is_open fewer b.parts b.front in record { adds = record { parts = b.parts; are = b.are; show = g.0 }; around_are = g.1 })
    by (inr b) = absurd (let back = ends_alone m t.state t.at t.rest (b.part ∷ b.others) r.state r.at r.rest none b.front in omega (arith, back, fewer))
