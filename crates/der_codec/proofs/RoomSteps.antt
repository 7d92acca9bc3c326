-- Where a step of a checker wants room, there is some.
use Rattle.std.proofs.Common.{◌≡◌, ℕ, suc, ◌+◌, ◌-◌, ◌≤◌, ◌<◌, Bool, false, List, [], ◌∷◌, ◌++◌, length, drop, take, Option, Some, None, refl, sym, ap, ◌∙◌, subst, arith}
use Rattle.std.specs.Vec.{with_item}
use Rattle.data_types.specs.Leaf.{Leaf}
use Rattle.data_types.specs.Value.{Piece, Holds}
use Rattle.facets.specs.declared.simple.Simple.{Simple}
use Rattle.der_octets.specs.declared.length_step.LengthStep.{LengthStep}
use Rattle.der_octets.specs.declared.tag_step.TagStep.{TagStep}
use Rattle.der_octets.proofs.TagStepLemmas.{taken_none}
use Rattle.inst_pool.specs.Pieces.{Region, bytes_of}
use Rattle.reference_check.specs.Forms.{Graph}
use Rattle.message_model.specs.Tables.{Tables, types_of}
use Rattle.der_model.specs.DerMessage.{DerMessage, der_message}
use Rattle.der_model.specs.ShownPieces.{begin_each, end_each, elements_ended, last_elements}
use Rattle.der_model.specs.States as states
use Rattle.der_model.specs.States.{State, AwaitsLength, next_number}
use Rattle.der_model.specs.Structures as structures
use Rattle.der_model.specs.Structures.{structure}
use Rattle.der_codec.specs.Checking.{KeepsRead, open_count}
use Rattle.der_codec.specs.Decoding.{Reads, HasReadParts, IsOpenState, IsRefusedAs, IsBelowEnd, IsSettled, BeginsContents, end_of_levels}
use Rattle.der_codec.specs.KeptPieces.{Shows, KeepsShown, PiecesGoOn, HoldsLeafAt, GoOnByLeaf, GoesOnByLast, EndsLeaf, around_of, begun_pieces}
use Rattle.der_codec.specs.Levels.{IsSpot, AreLevels, inwards, rest_of}
use Rattle.der_codec.specs.Reserved.{HasChecks, HasEnough, HoldsMore, HoldMore, HoldBegun, HoldLeafWithin, HoldsWhole}
use Rattle.der_codec.specs.inner.Entering.{HasBegunComponent, StandsFirst}
use Rattle.der_codec.specs.declared.begun.Begun.{Begun}
use Rattle.der_codec.specs.declared.checker.DerChecker.{DerChecker}
use Rattle.der_codec.specs.declared.checks.Refusal.{Refusal}
use Rattle.der_codec.specs.declared.checks.Refusal.TheVariants as refused
use Rattle.der_codec.specs.declared.decoder.Decoder.{Decoder}
use Rattle.der_codec.specs.declared.decoder.Due.TheVariants as due
use Rattle.der_codec.specs.declared.decoder.Stop.{Stop}
use Rattle.der_codec.specs.declared.decoder.Stop.TheVariants as stop
use Rattle.der_codec.specs.declared.level.Level.{Level}
use Rattle.der_codec.specs.declared.level.Spot.{Spot}
use Rattle.der_codec.specs.declared.level.Spot.TheVariants as spots
use Rattle.der_codec.proofs.ContentsJudged.{holds}
use Rattle.der_codec.proofs.ContentsSteps.{contents_clean}
use Rattle.der_codec.proofs.CutSpots.{held_few, none_open, stands_kept, stands_leaf}
use Rattle.der_codec.proofs.Fed.{kept_at, joined}
use Rattle.der_codec.proofs.Inwards.{set_inwards}
use Rattle.der_codec.proofs.Growing.{holds_first}
use Rattle.der_codec.proofs.Keeping.{adds_enough, contents_enough, enough_less, shown_enough, behind_is}
use Rattle.der_codec.proofs.ShownFed.{open_length}
use Rattle.der_codec.proofs.ShownSteps.{Closes, levels_open, tag_adds, contents_close}
use Rattle.der_codec.proofs.ShownUsual.{begun_shows}
use Rattle.der_codec.proofs.UsualFed.{passed}

hold_first : (o : Option Region) (a b : List Piece) → HoldMore o (a ++ b) → HoldMore o a
hold_first None a b h = tt
hold_first (Some r) a b h = holds_first r a b h

-- ---- identifier octets

pub tag_enough : (T : Tables) (c : DerChecker) (e : Decoder) (bytes : List ℕ) (o : ℕ) (step : TagStep) → c.decoder.due ≡ due.Tag step → IsBelowEnd c.decoder.place (end_of_levels c.decoder.levels.items) → HasReadParts (der_message T) c.decoder bytes → KeepsShown (der_message T) c.decoder c.pieces bytes
    → IsSettled e.due e.place (end_of_levels e.levels.items) → BeginsContents e.due e.start e.place → (t : HasReadParts (der_message T) e (bytes ++ o ∷ [])) → HasEnough c T (bytes ++ o ∷ []) → HoldMore c.pieces (begun_pieces (der_message T) t.state)
tag_enough T c e bytes o step is below read shows settled begins t h =
    let m = der_message T in
    let d = c.decoder in
    let xs = inwards d.levels.items in
    let ys = inwards e.levels.items in
    let r = subst (λ z. Reads m xs z d.start d.place bytes) is read in
    adds_enough T c xs ys (due.Tag step) e.due d.start d.place e.start e.place bytes (bytes ++ o ∷ []) (begun_pieces m t.state) r t h (subst (λ z. Shows m xs z d.start d.place c.pieces bytes) is shows)
    (tag_adds m xs ys step e.due d.start d.place e.start e.place bytes o r below settled begins t)

-- the elements that begin there
pub begun_levels : (m : DerMessage ℕ) (xs : List Level) (c : Bool) (spot : Spot) (step : LengthStep) (s : State ℕ) → IsOpenState m xs (due.Length c spot step) s → (ls : List (states.DerLevel ℕ)) × AreLevels m.forms xs ls × (begun_pieces m s ≡ begin_each (elements_ended m ls))
begun_levels m xs c spot step (AwaitsLength b of names ls) op = (ls, op.2, refl)
begun_levels m xs c spot step s op = absurd op

-- ---- contents octets

checks_less : (types : Graph ℕ Simple) (few many : ℕ) (c : DerChecker) → few ≤ many → HasChecks types many c.checks → HasChecks types few c.checks
checks_less types few many c low h = λ n simple is wants. (let k = h n simple is wants in let room = k.roomy in record { check = k.check; there = k.there; roomy = omega (arith, low, room) })

pub kept_enough : (T : Tables) (c : DerChecker) (spot : Spot) (left : ℕ) (bytes front : List ℕ) → c.decoder.due ≡ due.Contents spot left → length front ≤ left → KeepsRead T c.decoder c.kept c.pieces bytes → KeepsShown (der_message T) c.decoder c.pieces bytes → HasEnough c T (bytes ++ front)
    → length c.kept.octets.items + length front ≤ c.room.bytes
kept_enough T c spot left bytes front is few h shows e =
    let all = (contents_enough T c spot left bytes front is few h.0 shows e).0 in
    let kept = held_few (der_message T) spot c.pieces c.kept.leaf c.kept.octets.items (drop c.decoder.start bytes) (kept_at T c.decoder.due c.pieces spot left c.decoder.start bytes c.kept is h.1) in
    omega (arith, all, kept)

abbrev fresh_tag : TagStep
fresh_tag = record { come = 0; first = 0; high = 0 }

-- a leaf whose pieces are kept is not open
kept_closed : {front : List ℕ} (T : Tables) (c : DerChecker) (spot : Spot) (left : ℕ) (bytes : List ℕ) → c.decoder.due ≡ due.Contents spot left → KeepsRead T c.decoder c.kept c.pieces bytes → HasEnough c T front → c.kept.leaf ≡ None
kept_closed T c spot left bytes is h e =
    none_open (der_message T) spot c.pieces e.keeping.region c.kept.leaf c.kept.octets.items (drop c.decoder.start bytes) e.keeping.is (kept_at T c.decoder.due c.pieces spot left c.decoder.start bytes c.kept is h.1)

leaf_held : (T : Tables) (c : DerChecker) (spot : Spot) (left : ℕ) (bytes front : List ℕ) (leaf : Leaf) → c.decoder.due ≡ due.Contents spot left → length front ≡ left → KeepsRead T c.decoder c.kept c.pieces bytes → KeepsShown (der_message T) c.decoder c.pieces bytes → HasEnough c T (bytes ++ front)
    → HoldsLeafAt (der_message T) spot (c.kept.octets.items ++ front) leaf → HoldMore c.pieces (Holds leaf ∷ [])
leaf_held T c spot left bytes front leaf is size h shows e at = hold_first c.pieces (Holds leaf ∷ []) (end_each (elements_ended m (around_of t.state))) (adds_enough T c xs xs (due.Contents spot left) (due.Tag fresh_tag) d.start d.place (d.place + left) (d.place + left) bytes (bytes ++ front) (Holds leaf ∷ end_each (elements_ended m (around_of t.state))) r t e (subst (λ z. Shows m xs z d.start d.place c.pieces bytes) is shows) (contents_close m xs xs spot left (due.Tag fresh_tag) d.start d.place (d.place + left) (d.place + left) bytes front leaf r size there t (taken_none 0 0 0 t.rest refl t.is_begun) counts).adds)
  where
    m : DerMessage ℕ
    m = der_message T

    d : Decoder
    d = c.decoder

    xs : List Level
    xs = inwards d.levels.items

    r : Reads m xs (due.Contents spot left) d.start d.place bytes
    r = subst (λ z. Reads m xs z d.start d.place bytes) is h.0

    there : HoldsLeafAt m spot (drop d.start bytes ++ front) leaf
    there = stands_leaf m spot c.kept.octets.items (drop d.start bytes) front leaf (stands_kept m spot c.pieces c.kept.leaf c.kept.octets.items (drop d.start bytes) (kept_closed T c spot left bytes is h e) (kept_at T d.due c.pieces spot left d.start bytes c.kept is h.1)) at

    t : Reads m xs (due.Tag fresh_tag) (d.place + left) (d.place + left) (bytes ++ front)
    t = contents_clean m xs spot left fresh_tag d.start d.place bytes front r size (λ of is. holds m (structure m of) (drop d.start bytes ++ front) leaf (there of is)) refl

    counts : suc (open_count t.state) ≡ open_count r.state
    counts = (let a = open_length m xs (due.Contents spot left) r.state r.is_open in let b = open_length m xs (due.Tag fresh_tag) t.state t.is_open in omega (arith, a, b))

pub whole_enough : (T : Tables) (c : DerChecker) (spot : Spot) (left : ℕ) (bytes front : List ℕ) → c.decoder.due ≡ due.Contents spot left → length front ≡ left → KeepsRead T c.decoder c.kept c.pieces bytes → KeepsShown (der_message T) c.decoder c.pieces bytes → HasEnough c T (bytes ++ front)
    → HoldsWhole c T spot front
whole_enough T c spot left bytes front is size h shows e =
    let all = contents_enough T c spot left bytes front is (omega (arith, size)) h.0 shows e in
    let few = kept_enough T c spot left bytes front is (omega (arith, size)) h shows e in
    let octets = e.keeping.reserved.octets in
    record {
      opened = kept_closed T c spot left bytes is h e;
      plain = e.shows.plain;
      checks = checks_less (types_of T) (length c.kept.octets.items + length front) c.room.bytes c few (e.keeping.reserved.checks all.2);
      room = omega (arith, few, octets);
      primitive = all.1;
      leaf = λ leaf at. leaf_held T c spot left bytes front leaf is size h shows e at;
    }

pub refused_memory : (start : ℕ) (refusal : Refusal) (s : Stop) → IsRefusedAs start refusal s → s ≡ stop.Memory → refusal ≡ refused.Memory
refused_memory start (refused.Breaks rule) s is e = absurd (let both = sym is ∙ e in cc)
refused_memory start refused.Memory s is e = refl

-- ---- the ends of elements

same_spot : (types : Graph ℕ Simple) (spot : Spot) (a b : structures.Spot ℕ) → IsSpot types spot a → IsSpot types spot b → a ≡ b
same_spot types spots.Instance a b p q = p ∙ sym q
same_spot types (spots.Value n) a b p q = p ∙ sym q
same_spot types (spots.List n k) a b (s, f, p) (t, g, q) = (let same : s ≡ t = (let both = sym f ∙ g in cc) in p ∙ (ap (structures.ListOf n k) same ∙ sym q))
same_spot types (spots.Number n) a b p q = p ∙ sym q

pub last_same : (m : DerMessage ℕ) (spot : structures.Spot ℕ) (a b : List ℕ) → next_number a ≡ next_number b → last_elements m spot a ≡ last_elements m spot b
last_same m spot [] [] e = refl
last_same m spot [] (k ∷ b) e = absurd (omega (arith, e))
last_same m spot (k ∷ a) [] e = absurd (omega (arith, e))
last_same m spot (k ∷ a) (j ∷ b) e = (let same : k ≡ j = omega (arith, e) in ap (λ z. last_elements m spot (z ∷ [])) same)

ended_same : (m : DerMessage ℕ) (xs : List Level) (ls ks : List (states.DerLevel ℕ)) → AreLevels m.forms xs ls → AreLevels m.forms xs ks → elements_ended m ls ≡ elements_ended m ks
ended_same m [] [] [] a b = refl
ended_same m (x ∷ xs) (l ∷ ls) (k ∷ ks) a b = ap (λ z. last_elements m z l.came) (same_spot m.forms x.spot l.spot k.spot a.0.spot b.0.spot) ∙ last_same m k.spot l.came k.came (sym a.0.next ∙ b.0.next)
ended_same m [] (l ∷ ls) ks a b = absurd a
ended_same m [] [] (k ∷ ks) a b = absurd b
ended_same m (x ∷ xs) [] ks a b = absurd a
ended_same m (x ∷ xs) (l ∷ ls) [] a b = absurd b

-- behind a leaf
pub leaf_end_enough : (T : Tables) (c : DerChecker) (bytes : List ℕ) (g : EndsLeaf (der_message T) c.decoder c.pieces bytes) → HasEnough c T bytes → HoldMore c.pieces (end_each (elements_ended (der_message T) (around_of g.read.state)))
leaf_end_enough T c bytes g h = subst (λ z. HoldMore z more) (sym h.keeping.is) room
  where
    m : DerMessage ℕ
    m = der_message T

    d : Decoder
    d = c.decoder

    xs : List Level
    xs = inwards d.levels.items

    region : Region
    region = h.keeping.region

    more : List Piece
    more = end_each (elements_ended m (around_of g.read.state))

    then_kept : Region
    then_kept = record region { pieces = region.pieces ++ more }

    shows : KeepsShown m d (Some then_kept) bytes
    shows = g.closes (Some then_kept) (λ t. subst (λ z. PiecesGoOn z (Some then_kept) (end_each (elements_ended m (around_of t.state)))) (sym h.keeping.is) (ap (λ z. region.pieces ++ end_each z) (ended_same m xs (around_of g.read.state) (around_of t.state) (levels_open m xs d.due g.read.state g.read.is_open) (levels_open m xs d.due t.state t.is_open))))

    few : (length then_kept.pieces ≤ c.room.nodes) × (bytes_of then_kept.pieces ≤ c.room.bytes)
    few = shown_enough T c xs d.due d.start d.place bytes then_kept g.read h shows

    room : HoldsMore region more
    room = (let a = few.0 in let b = few.1 in let n = h.keeping.reserved.nodes in let o = h.keeping.reserved.bytes in (omega (arith, a, n), omega (arith, b, o)))

-- behind a constructed value
pub value_end_enough : (T : Tables) (c : DerChecker) (e : Decoder) (bytes : List ℕ) (r : HasReadParts (der_message T) c.decoder bytes) (t : HasReadParts (der_message T) e bytes) → KeepsShown (der_message T) c.decoder c.pieces bytes
    → Closes (der_message T) r.parts r.state r.at t.parts t.state (end_each (elements_ended (der_message T) (around_of t.state))) → HasEnough c T bytes → HoldMore c.pieces (end_each (elements_ended (der_message T) (around_of t.state)))
value_end_enough T c e bytes r t shows closes h =
    let d = c.decoder in
    adds_enough T c (inwards d.levels.items) (inwards e.levels.items) d.due e.due d.start d.place e.start e.place bytes bytes (end_each (elements_ended (der_message T) (around_of t.state))) r t h shows closes.adds

-- ---- components of the usual form

pub component_enough : (T : Tables) (c : DerChecker) (b : Begun) (o n : ℕ) (bytes : List ℕ) → HasReadParts (der_message T) c.decoder bytes → KeepsShown (der_message T) c.decoder c.pieces bytes → HasBegunComponent (der_message T) c.decoder bytes o n b → HasEnough c T (bytes ++ o ∷ []) → HoldBegun (der_message T) b.around c.pieces
component_enough T c b o n bytes read shows begun less = by c.pieces refl
  where
    m : DerMessage ℕ
    m = der_message T

    d : Decoder
    d = c.decoder

    xs : List Level
    xs = inwards d.levels.items

    ys : List Level
    ys = rest_of xs

    r : Reads m xs (due.Tag begun.tag_step) d.start d.place bytes
    r = subst (λ z. Reads m xs z d.start d.place bytes) begun.due_is read

    all : HoldMore c.pieces (begun_pieces m begun.read.state)
    all =
        let e = due.Length b.constructed b.spot begun.step in
        let ends = begun.end_is in
        let fits = begun.fits in
        adds_enough T c xs (b.around ∷ ys) (due.Tag begun.tag_step) e d.start d.place (d.place + 1) (d.place + 1) bytes (bytes ++ o ∷ []) (begun_pieces m begun.read.state) r begun.read less (subst (λ z. Shows m xs z d.start d.place c.pieces bytes) begun.due_is shows)
        (tag_adds m xs (b.around ∷ ys) begun.tag_step e d.start d.place (d.place + 1) (d.place + 1) bytes o r begun.below (omega (arith, ends, fits)) tt begun.read)

    by : (o : Option Region) → c.pieces ≡ o → HoldBegun m b.around o
    by None e = tt
    by (Some region) e = λ edges are. subst (HoldsMore region) (sym (begun_shows m b.around ys b.constructed b.spot begun.step edges are begun.read.state begun.read.is_open)) (subst (λ z. HoldMore z (begun_pieces m begun.read.state)) e all)

pub begun_enough : (T : Tables) (c : DerChecker) (b : Begun) (n : ℕ) (behind piece bytes : List ℕ) → HasReadParts (der_message T) c.decoder bytes → KeepsShown (der_message T) c.decoder c.pieces bytes → StandsFirst (der_message T) c.decoder bytes b n behind piece → HasEnough c T (bytes ++ piece) → HoldBegun (der_message T) b.around c.pieces
begun_enough T c b n behind piece bytes read shows s h =
    component_enough T c b s.first n bytes read shows s.begun (enough_less T c (bytes ++ s.first ∷ []) (n ∷ behind) (bytes ++ piece) (behind_is bytes piece (s.first ∷ []) (n ∷ behind) s.piece_is) h)

-- with the leaf that is passed
pub leaf_enough : (T : Tables) (c : DerChecker) (b : Begun) (n : ℕ) (behind piece bytes contents : List ℕ) (leaf : Leaf) → HasReadParts (der_message T) c.decoder bytes → KeepsShown (der_message T) c.decoder c.pieces bytes → StandsFirst (der_message T) c.decoder bytes b n behind piece → b.constructed ≡ false → contents ≡ take n behind → n ≤ length behind
    → 0 < length c.decoder.levels.items → HoldsLeafAt (der_message T) b.spot contents leaf → HasEnough c T (bytes ++ piece) → HoldLeafWithin (der_message T) b.around leaf c.pieces
leaf_enough T c b n behind piece bytes contents leaf read shows s primitive is within some at h = by c.pieces refl
  where
    m : DerMessage ℕ
    m = der_message T

    d : Decoder
    d = c.decoder

    new : Decoder
    new = record d { levels = with_item d.levels (length d.levels.items - 1) b.around; place = b.end; start = b.end; due = due.Tag fresh_tag }

    front : List ℕ
    front = take (2 + n) piece

    less : HasEnough c T (bytes ++ front)
    less = enough_less T c (bytes ++ front) (drop (2 + n) piece) (bytes ++ piece) (behind_is bytes piece front (drop (2 + n) piece) (joined (2 + n) piece)) h

    by : (o : Option Region) → c.pieces ≡ o → HoldLeafWithin m b.around leaf o
    by None e = tt
    by (Some region) e = λ edges are.
        let more = begin_each edges ++ Holds leaf ∷ end_each edges in
        let kept : Region = record region { pieces = region.pieces ++ more } in
        let goes : GoesOnByLast m b.around b.spot contents c.pieces (Some kept) = (leaf, at, subst (λ z. GoOnByLeaf m b.around leaf z (Some kept)) (sym e) (edges, are, refl)) in
        let both = passed T c new b n behind piece bytes contents (Some kept) read shows s primitive is within (λ of there. holds m (structure m of) contents leaf (at of there)) goes (set_inwards d.levels.items b.around some) refl refl (fresh_tag, refl, refl) refl in
        let few = shown_enough T c (inwards new.levels.items) new.due new.start new.place (bytes ++ front) kept both.0 less both.1 in
        let same : h.keeping.region ≡ region = (let twice = sym h.keeping.is ∙ e in cc) in
        let n = subst (λ (z : Region). c.room.nodes ≤ z.node_room) same h.keeping.reserved.nodes in
        let o = subst (λ (z : Region). c.room.bytes ≤ z.byte_room) same h.keeping.reserved.bytes in
        let few0 = few.0 in
        let few1 = few.1 in
        (omega (arith, few0, n), omega (arith, few1, o))
