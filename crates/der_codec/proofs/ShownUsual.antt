-- A component of the usual form that is taken at once, and the pieces that are kept behind it.
use Rattle.std.proofs.Common.{◌≡◌, ℕ, ◌+◌, Bool, false, List, [], ◌∷◌, ◌++◌, length, drop, Option, Some, None, refl, sym, ap, ◌∙◌, subst, arith, append_assoc}
use Rattle.data_types.specs.Leaf.{Leaf}
use Rattle.data_types.specs.Value.{Edge, Piece, Holds}
use Rattle.der_octets.specs.TagSteps as tags
use Rattle.der_octets.specs.declared.tag_step.TagStep.{TagStep}
use Rattle.der_octets.specs.declared.length_step.LengthStep.{LengthStep}
use Rattle.inst_pool.specs.Pieces.{Region}
use Rattle.der_model.specs.DerMessage.{DerMessage}
use Rattle.der_model.specs.ShownPieces.{begin_each, end_each, elements_ended}
use Rattle.der_model.specs.States as states
use Rattle.der_model.specs.States.{State, AwaitsLength}
use Rattle.der_codec.specs.Decoding.{Reads, HasReadParts, IsOpenState, IsFresh, IsSettled, BeginsContents, due_depth, end_of_first, level_at}
use Rattle.der_codec.specs.Judging.{HoldsContents}
use Rattle.der_codec.specs.KeptPieces.{Shows, KeepsShown, PiecesGoOn, AreLast, GoOnByBegun, GoOnByLeaf, HoldsLeafAt, around_of, begun_pieces}
use Rattle.der_codec.specs.Levels.{AreLevels, inwards, rest_of}
use Rattle.der_codec.specs.inner.Entering.{Awaits, HasBegunComponent}
use Rattle.der_codec.specs.declared.begun.Begun.{Begun}
use Rattle.der_codec.specs.declared.decoder.Decoder.{Decoder}
use Rattle.der_codec.specs.declared.decoder.Due.{Due}
use Rattle.der_codec.specs.declared.decoder.Due.TheVariants as due
use Rattle.der_codec.specs.declared.level.Level.{Level}
use Rattle.der_codec.specs.declared.level.Spot.{Spot}
use Rattle.der_codec.proofs.ContentsSteps.{contents_clean, none_kept}
use Rattle.der_codec.proofs.StepTies.{reads_as}
use Rattle.der_codec.proofs.ShownFed.{open_length, leaf_ends}
use Rattle.der_codec.proofs.ShownSteps.{shows_on, goes_same, levels_open, tag_adds, length_adds}
use Rattle.der_codec.proofs.UsualSteps.{length_read}

-- ---- what has been read

-- the header
pub header_read : (m : DerMessage ℕ) (d new : Decoder) (b : Begun) (bytes : List ℕ) (o n : ℕ) → HasBegunComponent m d bytes o n b → new.place ≡ d.place + 2 → new.start ≡ d.place + 2
    → Awaits new b.constructed b.spot (d.place + 2) n (b.around ∷ rest_of (inwards d.levels.items)) → HasReadParts m new (bytes ++ o ∷ n ∷ [])
header_read m d new b bytes o n h placed started awaits =
    let two : d.place + 2 ≡ d.place + 1 + 1 = omega arith in
    let ends = h.end_is in
    let fits = h.fits in
    subst (HasReadParts m new) (append_assoc bytes (o ∷ []) (n ∷ []))
    (length_read m new (b.around ∷ rest_of (inwards d.levels.items)) b.constructed b.spot h.step (d.place + 1) (d.place + 2) n (bytes ++ o ∷ []) h.read h.short two (omega (arith, ends, fits)) placed started awaits)

-- with a leaf
pub leaf_taken : (m : DerMessage ℕ) (d new : Decoder) (b : Begun) (bytes contents : List ℕ) (o n : ℕ) (fresh : TagStep) → HasBegunComponent m d bytes o n b → b.constructed ≡ false → length contents ≡ n → HoldsContents m b.spot contents
    → inwards new.levels.items ≡ b.around ∷ rest_of (inwards d.levels.items) → new.place ≡ b.end → new.start ≡ b.end → new.due ≡ due.Tag fresh → tags.HasTakenTag fresh [] → HasReadParts m new (bytes ++ o ∷ n ∷ contents)
leaf_taken m d new b bytes contents o n fresh h primitive size holds levels placed started due_is none =
    let at = d.place + 2 in
    let xs = inwards new.levels.items in
    let ys = b.around ∷ rest_of (inwards d.levels.items) in
    let mid : Decoder = record new { place = at; start = at; due = due.Contents b.spot n } in
    let octets = bytes ++ o ∷ n ∷ [] in
    let awaits : Awaits mid b.constructed b.spot at n ys = subst (λ z. Awaits mid z b.spot at n ys) (sym primitive) (levels, refl) in
    let begun : Reads m xs (due.Contents b.spot n) at at octets = header_read m d mid b bytes o n h refl refl awaits in
    let empty = none_kept m xs (due.Contents b.spot n) at at octets begun refl in
    let held : HoldsContents m b.spot (drop at octets ++ contents) = subst (λ z. HoldsContents m b.spot (z ++ contents)) (sym empty) holds in
    let clean = contents_clean m xs b.spot n fresh at at octets contents begun size held none in
    subst (HasReadParts m new) (append_assoc bytes (o ∷ n ∷ []) contents)
    (reads_as m xs xs new.due (due.Tag fresh) new.start (at + n) new.place (at + n) (octets ++ contents) refl due_is (started ∙ h.end_is) (placed ∙ h.end_is) clean)

-- ---- the pieces that are kept

-- the same, told otherwise
pub shows_as : (m : DerMessage ℕ) (xs ys : List Level) (d e : Due) (start start2 place place2 : ℕ) (kept : Option Region) (bytes : List ℕ) → xs ≡ ys → d ≡ e → start ≡ start2 → place ≡ place2 → Shows m ys e start2 place2 kept bytes → Shows m xs d start place kept bytes
shows_as m xs ys d e start start2 place place2 kept bytes a b c f s =
    subst (λ z. Shows m z d start place kept bytes) (sym a) (subst (λ z. Shows m ys z start place kept bytes) (sym b) (subst (λ z. Shows m ys e z place kept bytes) (sym c) (subst (λ z. Shows m ys e start2 z kept bytes) (sym f) s)))

-- the elements of the component
pub begun_shows : (m : DerMessage ℕ) (x : Level) (xs : List Level) (c : Bool) (spot : Spot) (step : LengthStep) (edges : List Edge) → AreLast m x edges → (s : State ℕ) → IsOpenState m (x ∷ xs) (due.Length c spot step) s → begin_each edges ≡ begun_pieces m s
begun_shows m x xs c spot step edges are (AwaitsLength b of names []) op = absurd op.2
begun_shows m x xs c spot step edges are (AwaitsLength b of names (l ∷ ls)) op = ap begin_each (are l op.2.0)
begun_shows m x xs c spot step edges are s op = absurd op

last_ended : (m : DerMessage ℕ) (x : Level) (xs : List Level) (edges : List Edge) → AreLast m x edges → (ls : List (states.DerLevel ℕ)) → AreLevels m.forms (x ∷ xs) ls → edges ≡ elements_ended m ls
last_ended m x xs edges are [] h = absurd h
last_ended m x xs edges are (l ∷ ls) h = are l h.0

-- behind the identifier octet
pub identifier_shown : (m : DerMessage ℕ) (d : Decoder) (b : Begun) (old new : Option Region) (bytes : List ℕ) (o n : ℕ) (edges : List Edge) → HasReadParts m d bytes → KeepsShown m d old bytes → (h : HasBegunComponent m d bytes o n b) → AreLast m b.around edges → PiecesGoOn old new (begin_each edges)
    → Shows m (b.around ∷ rest_of (inwards d.levels.items)) (due.Length b.constructed b.spot h.step) (d.place + 1) (d.place + 1) new (bytes ++ o ∷ [])
identifier_shown m d b old new bytes o n edges r shows h are goes =
    let xs = inwards d.levels.items in
    let ys = rest_of xs in
    let e = due.Length b.constructed b.spot h.step in
    let ends = h.end_is in
    let fits = h.fits in
    let read = subst (λ z. Reads m xs z d.start d.place bytes) h.due_is r in
    shows_on m xs (b.around ∷ ys) (due.Tag h.tag_step) e d.start d.place (d.place + 1) (d.place + 1) bytes (bytes ++ o ∷ []) old new read (subst (λ z. Shows m xs z d.start d.place old bytes) h.due_is shows) (λ t. (
      begun_pieces m t.state,
      subst (PiecesGoOn old new) (begun_shows m b.around ys b.constructed b.spot h.step edges are t.state t.is_open) goes,
      tag_adds m xs (b.around ∷ ys) h.tag_step e d.start d.place (d.place + 1) (d.place + 1) bytes o read h.below (omega (arith, ends, fits)) tt t,
    ))

-- and behind the length octet
length_kept : (m : DerMessage ℕ) (ys zs : List Level) (c : Bool) (spot : Spot) (step : LengthStep) (e : Due) (place : ℕ) (bytes : List ℕ) (n : ℕ) (kept : Option Region) → IsSettled e (place + 1) (end_of_first zs) → BeginsContents e (place + 1) (place + 1) → length zs + due_depth e ≡ length ys + 1
    → Reads m ys (due.Length c spot step) place place bytes → Shows m ys (due.Length c spot step) place place kept bytes → Shows m zs e (place + 1) (place + 1) kept (bytes ++ n ∷ [])
length_kept m ys zs c spot step e place bytes n kept settled begins depth r shows =
    shows_on m ys zs (due.Length c spot step) e place place (place + 1) (place + 1) bytes (bytes ++ n ∷ []) kept kept r shows (λ t. (
      [],
      goes_same kept kept refl,
      length_adds m ys zs c spot step e place place (place + 1) (place + 1) bytes n r settled begins t
          (let after = open_length m zs e t.state t.is_open in let before = open_length m ys (due.Length c spot step) r.state r.is_open in sym after ∙ (depth ∙ before)),
    ))

-- a constructed value
pub entered_shown : (m : DerMessage ℕ) (d new : Decoder) (b : Begun) (old kept : Option Region) (bytes : List ℕ) (o n : ℕ) (fresh : TagStep) → HasReadParts m d bytes → KeepsShown m d old bytes → HasBegunComponent m d bytes o n b → GoOnByBegun m b.around old kept
    → inwards new.levels.items ≡ level_at b.spot b.end ∷ b.around ∷ rest_of (inwards d.levels.items) → new.place ≡ d.place + 2 → new.start ≡ d.place + 2 → new.due ≡ due.Tag fresh → IsFresh new.due → KeepsShown m new kept (bytes ++ o ∷ n ∷ [])
entered_shown m d new b None None bytes o n fresh r shows h goes levels placed started due_is clean = tt
entered_shown m d new b None (Some kept) bytes o n fresh r shows h goes levels placed started due_is clean = absurd goes
entered_shown m d new b (Some old) None bytes o n fresh r shows h goes levels placed started due_is clean = absurd goes
entered_shown m d new b (Some old) (Some kept) bytes o n fresh r shows h (edges, are, is) levels placed started due_is clean =
    let ys = b.around ∷ rest_of (inwards d.levels.items) in
    let zs = level_at b.spot b.end ∷ ys in
    let two : d.place + 2 ≡ d.place + 1 + 1 = omega arith in
    let none : IsFresh (due.Tag fresh) = subst IsFresh due_is clean in
    let one = identifier_shown m d b (Some old) (Some kept) bytes o n edges r shows h are is in
    let both = length_kept m ys zs b.constructed b.spot h.step (due.Tag fresh) (d.place + 1) (bytes ++ o ∷ []) n (Some kept) (λ some. absurd (some none)) tt (omega arith) h.read one in
    subst (KeepsShown m new (Some kept)) (append_assoc bytes (o ∷ []) (n ∷ []))
    (shows_as m (inwards new.levels.items) zs new.due (due.Tag fresh) new.start (d.place + 1 + 1) new.place (d.place + 1 + 1) (Some kept) ((bytes ++ o ∷ []) ++ n ∷ []) levels due_is (started ∙ two) (placed ∙ two) both)

pub pieces_join : (p q z : List Piece) (x : Piece) → ((p ++ q) ++ x ∷ []) ++ z ≡ p ++ (q ++ x ∷ z)
pieces_join p q z x = append_assoc (p ++ q) (x ∷ []) z ∙ append_assoc p q (x ∷ z)

-- a leaf
pub leaf_shown : (m : DerMessage ℕ) (d new : Decoder) (b : Begun) (old kept : Option Region) (bytes contents : List ℕ) (o n : ℕ) (leaf : Leaf) → HasReadParts m d bytes → KeepsShown m d old bytes → HasBegunComponent m d bytes o n b → b.constructed ≡ false → length contents ≡ n
    → HoldsLeafAt m b.spot contents leaf → GoOnByLeaf m b.around leaf old kept → inwards new.levels.items ≡ b.around ∷ rest_of (inwards d.levels.items) → IsFresh new.due → HasReadParts m new (bytes ++ o ∷ n ∷ contents) → KeepsShown m new kept (bytes ++ o ∷ n ∷ contents)
leaf_shown m d new b None None bytes contents o n leaf r shows h primitive size held goes levels clean taken = tt
leaf_shown m d new b None (Some kept) bytes contents o n leaf r shows h primitive size held goes levels clean taken = absurd goes
leaf_shown m d new b (Some old) None bytes contents o n leaf r shows h primitive size held goes levels clean taken = absurd goes
leaf_shown m d new b (Some old) (Some kept) bytes contents o n leaf r shows h primitive size held (edges, are, is) levels clean taken =
    let at = d.place + 2 in
    let xs = inwards new.levels.items in
    let ys = b.around ∷ rest_of (inwards d.levels.items) in
    let e = due.Contents b.spot n in
    let mid : Decoder = record new { place = at; start = at; due = due.Contents b.spot n } in
    let first = begin_each edges in
    let begun : Option Region = Some (record old { pieces = old.pieces ++ first }) in
    let holds : Option Region = Some (record old { pieces = (old.pieces ++ first) ++ Holds leaf ∷ [] }) in
    let octets = bytes ++ o ∷ n ∷ [] in
    let awaits : Awaits mid b.constructed b.spot at n ys = subst (λ z. Awaits mid z b.spot at n ys) (sym primitive) (levels, refl) in
    let read : Reads m xs e at at octets = header_read m d mid b bytes o n h refl refl awaits in
    let two : d.place + 2 ≡ d.place + 1 + 1 = omega arith in
    let one = identifier_shown m d b (Some old) begun bytes o n edges r shows h are refl in
    let both = length_kept m ys ys b.constructed b.spot h.step e (d.place + 1) (bytes ++ o ∷ []) n begun tt refl refl h.read one in
    let there : Shows m xs e at at begun octets = subst (Shows m xs e at at begun) (append_assoc bytes (o ∷ []) (n ∷ [])) (shows_as m xs ys e e at (d.place + 1 + 1) at (d.place + 1 + 1) begun ((bytes ++ o ∷ []) ++ n ∷ []) levels refl two two both) in
    let empty = none_kept m xs e at at octets read refl in
    let here : HoldsLeafAt m b.spot (drop at octets ++ contents) leaf = subst (λ z. HoldsLeafAt m b.spot (z ++ contents) leaf) (sym empty) held in
    let all = sym (append_assoc bytes (o ∷ n ∷ []) contents) in
    let ends = leaf_ends m mid new begun holds octets contents b.spot n leaf refl clean refl size here refl read there (subst (HasReadParts m new) all taken) in
    subst (KeepsShown m new (Some kept)) (sym all) (ends.closes (Some kept) (λ t.
    let last = last_ended m b.around (rest_of (inwards d.levels.items)) edges are (around_of t.state) (subst (λ z. AreLevels m.forms z (around_of t.state)) levels (levels_open m xs new.due t.state t.is_open)) in
    subst (λ z. PiecesGoOn holds (Some kept) (end_each z)) last (is ∙ sym (pieces_join old.pieces first (end_each edges) (Holds leaf)))))
