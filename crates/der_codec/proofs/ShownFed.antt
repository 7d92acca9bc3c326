-- The pieces that are kept behind each step of a checker.
use Rattle.std.proofs.Common.{◌≡◌, ℕ, zero, suc, ◌+◌, ◌-◌, ◌≤◌, ◌<◌, List, [], ◌∷◌, ◌++◌, length, take, drop, Option, Some, None, refl, sym, ap, ◌∙◌, subst, arith, append-nil, length-append}
use Rattle.data_types.specs.Leaf.{Leaf}
use Rattle.data_types.specs.Value.{Edge, Piece, Holds}
use Rattle.facets.specs.declared.simple.Simple.{Simple}
use Rattle.der_octets.specs.declared.tag_step.TagStep.{TagStep}
use Rattle.der_octets.proofs.TagStepLemmas.{taken_none}
use Rattle.inst_pool.specs.Pieces.{Region, open_in}
use Rattle.inst_pool.proofs.BuildingLemmas.{open-hold}
use Rattle.reference_check.specs.Forms.{Graph}
use Rattle.message_model.specs.Tables.{Tables}
use Rattle.der_model.specs.DerMessage.{DerMessage, der_message}
use Rattle.der_model.specs.Faults.{DerFront}
use Rattle.der_model.specs.ShownPieces.{PartsShow, end_each, elements_ended}
use Rattle.der_model.specs.Sound.{IsSoundDer}
use Rattle.der_model.specs.States as states
use Rattle.der_model.specs.States.{State, Start, AwaitsLength, AwaitsContents, Within}
use Rattle.der_model.specs.NestedPieces.{open_elements, elements_around}
use Rattle.der_model.proofs.ShownPieces.{whole_shows_pieces}
use Rattle.der_codec.specs.Checking.{open_count}
use Rattle.der_codec.specs.Decoding.{Reads, HasReadParts, IsOpenState, IsBegun, IsBelowEnd, IsSettled, BeginsContents, IsFresh, IsFreshOrOver, IsHeaderDue, IsLengthDue, IsOver, depth_of, due_depth, end_of_levels}
use Rattle.der_codec.specs.KeptPieces.{Shows, KeepsShown, PiecesGoOn, AreOpen, AreNone, EndsLeaf, HoldsLeafAt, around_of, begun_pieces}
use Rattle.der_codec.specs.Levels.{AreLevels, inwards}
use Rattle.der_codec.specs.ReadInstances.{IsSpelledDerAs}
use Rattle.der_codec.specs.declared.level.Level.{Level}
use Rattle.der_codec.specs.declared.level.Spot.{Spot}
use Rattle.der_codec.specs.declared.decoder.Decoder.{Decoder}
use Rattle.der_codec.specs.declared.decoder.Due.{Due}
use Rattle.der_codec.specs.declared.decoder.Due.TheVariants as due
use Rattle.der_codec.proofs.PartsBetween.{none_first}
use Rattle.der_codec.proofs.ShownSteps.{shows_on, goes_same, goes_twice, shown_open, tag_adds, length_adds, pass_adds, Closes, contents_close, end_closes}

-- ---- how deep it is

same_length : (types : Graph ℕ Simple) (xs : List Level) (ls : List (states.DerLevel ℕ)) → AreLevels types xs ls → length xs ≡ length ls
same_length types [] [] are = refl
same_length types (x ∷ xs) (l ∷ ls) are = ap suc (same_length types xs ls are.1)
same_length types [] (l ∷ ls) are = absurd are
same_length types (x ∷ xs) [] are = absurd are

inwards_length : (xs : List Level) → length (inwards xs) ≡ length xs
inwards_length [] = refl
inwards_length (x ∷ xs) = (let sum = length-append (inwards xs) (x ∷ []) in let rest = inwards_length xs in omega (arith, sum, rest))

pub open_length : (m : DerMessage ℕ) (xs : List Level) (d : Due) (s : State ℕ) → IsOpenState m xs d s → length xs + due_depth d ≡ open_count s
open_length m xs (due.Tag step) Start op = (let e = ap length op in omega (arith, e))
open_length m xs (due.Tag step) (Within (l ∷ ls)) op = (let e = same_length m.forms xs (l ∷ ls) op in omega (arith, e))
open_length m xs (due.Length c spot step) (AwaitsLength b of names ls) op = (let e = same_length m.forms xs ls op.2 in omega (arith, e))
open_length m xs (due.Contents spot left) (AwaitsContents of names count ls) op = (let e = same_length m.forms xs ls op.1 in omega (arith, e))
open_length m xs due.Over (Within []) op = (let e = ap length op in omega (arith, e))
open_length m xs d s op = absurd op

pub depth_counts : (m : DerMessage ℕ) (items : List Level) (d : Due) (start place : ℕ) (bytes : List ℕ) (r : Reads m (inwards items) d start place bytes) → length items + due_depth d ≡ open_count r.state
depth_counts m items d start place bytes r = ap (λ n. n + due_depth d) (sym (inwards_length items)) ∙ open_length m (inwards items) d r.state r.is_open

-- ---- before the first byte

pub first_shows : (m : DerMessage ℕ) (d : Decoder) (kept : Option Region) → AreNone kept → KeepsShown m d kept []
first_shows m d None none = tt
first_shows m d (Some kept) none = λ r. subst (λ z. Shown z kept.pieces) (sym (none_first m 0 r.parts r.state r.at r.rest r.front)) none
  where
    Shown : List states.Part → List Piece → Type 0
    Shown parts pieces = PartsShow m Start 0 parts pieces

-- ---- an octet of a header

pub length_due : (d : Due) → IsHeaderDue d → ((step : TagStep) → d ≡ due.Tag step → ⊥) → IsLengthDue d
length_due (due.Tag step) header other = absurd (other step refl)
length_due (due.Length c spot step) header other = tt
length_due (due.Contents spot left) header other = absurd header
length_due due.Over header other = absurd header

pub tag_shown : (m : DerMessage ℕ) (d e : Decoder) (old new : Option Region) (bytes : List ℕ) (o : ℕ) (step : TagStep) → d.due ≡ due.Tag step → IsBelowEnd d.place (end_of_levels d.levels.items) → HasReadParts m d bytes → KeepsShown m d old bytes
    → IsSettled e.due e.place (end_of_levels e.levels.items) → BeginsContents e.due e.start e.place → ((s : State ℕ) → IsOpenState m (inwards e.levels.items) e.due s → PiecesGoOn old new (begun_pieces m s)) → KeepsShown m e new (bytes ++ o ∷ [])
tag_shown m d e old new bytes o step is below read shows settled begins goes =
    let xs = inwards d.levels.items in
    let ys = inwards e.levels.items in
    let r = subst (λ z. Reads m xs z d.start d.place bytes) is read in
    shows_on m xs ys (due.Tag step) e.due d.start d.place e.start e.place bytes (bytes ++ o ∷ []) old new r (subst (λ z. Shows m xs z d.start d.place old bytes) is shows)
    (λ t. (begun_pieces m t.state, goes t.state t.is_open, tag_adds m xs ys step e.due d.start d.place e.start e.place bytes o r below settled begins t))

pub length_shown : (m : DerMessage ℕ) (d e : Decoder) (kept : Option Region) (bytes : List ℕ) (o : ℕ) → IsLengthDue d.due → HasReadParts m d bytes → KeepsShown m d kept bytes
    → IsSettled e.due e.place (end_of_levels e.levels.items) → BeginsContents e.due e.start e.place → depth_of e ≡ depth_of d → KeepsShown m e kept (bytes ++ o ∷ [])
length_shown m d e kept bytes o is read shows settled begins depth = by d.due is read shows (depth_counts m d.levels.items d.due d.start d.place bytes) depth
  where
    by : (x : Due) → IsLengthDue x → (r : Reads m (inwards d.levels.items) x d.start d.place bytes) → Shows m (inwards d.levels.items) x d.start d.place kept bytes
        → ((r : Reads m (inwards d.levels.items) x d.start d.place bytes) → length d.levels.items + due_depth x ≡ open_count r.state) → depth_of e ≡ length d.levels.items + due_depth x → KeepsShown m e kept (bytes ++ o ∷ [])
    by (due.Length c spot step) is r shows count depth =
        let xs = inwards d.levels.items in
        let ys = inwards e.levels.items in
        let before = count r in
        shows_on m xs ys (due.Length c spot step) e.due d.start d.place e.start e.place bytes (bytes ++ o ∷ []) kept kept r shows
        (λ t. ([], goes_same kept kept refl, length_adds m xs ys c spot step e.due d.start d.place e.start e.place bytes o r settled begins t (let after = depth_counts m e.levels.items e.due e.start e.place (bytes ++ o ∷ []) t in sym after ∙ (depth ∙ before))))
    by (due.Tag step) is r shows count depth = absurd is
    by (due.Contents spot left) is r shows count depth = absurd is
    by due.Over is r shows count depth = absurd is

pub short_shown : (m : DerMessage ℕ) (d e : Decoder) (kept : Option Region) (bytes octets : List ℕ) (n : ℕ) → n ≤ 1 → n ≤ length octets → (n ≡ 0 → e ≡ d) → (0 < n → IsLengthDue d.due) → HasReadParts m d bytes → KeepsShown m d kept bytes
    → IsSettled e.due e.place (end_of_levels e.levels.items) → BeginsContents e.due e.start e.place → depth_of e ≡ depth_of d → KeepsShown m e kept (bytes ++ take n octets)
short_shown m d e kept bytes octets zero few within same is read shows settled begins depth =
    subst (KeepsShown m e kept) (sym (append-nil bytes)) (subst (λ (z : Decoder). KeepsShown m z kept bytes) (sym (same refl)) shows)
short_shown m d e kept bytes [] (suc n) few within same is read shows settled begins depth = absurd (omega (arith, within))
short_shown m d e kept bytes (o ∷ octets) (suc zero) few within same is read shows settled begins depth = length_shown m d e kept bytes o (is (omega arith)) read shows settled begins depth
short_shown m d e kept bytes (o ∷ octets) (suc (suc n)) few within same is read shows settled begins depth = absurd (omega (arith, few))

-- ---- contents octets

pub pass_shown : (m : DerMessage ℕ) (d e : Decoder) (kept : Option Region) (bytes more : List ℕ) (spot : Spot) (left : ℕ) → d.due ≡ due.Contents spot left → e.due ≡ due.Contents spot (left - length more) → length more < left
    → HasReadParts m d bytes → KeepsShown m d kept bytes → KeepsShown m e kept (bytes ++ more)
pass_shown m d e kept bytes more spot left is now few read shows =
    let xs = inwards d.levels.items in
    let ys = inwards e.levels.items in
    let less = left - length more in
    let r = subst (λ z. Reads m xs z d.start d.place bytes) is read in
    subst (λ z. Shows m ys z e.start e.place kept (bytes ++ more)) (sym now)
    (shows_on m xs ys (due.Contents spot left) (due.Contents spot less) d.start d.place e.start e.place bytes (bytes ++ more) kept kept r (subst (λ z. Shows m xs z d.start d.place kept bytes) is shows)
    (λ t. ([], goes_same kept kept refl, pass_adds m xs ys spot spot left less d.start d.place e.start e.place bytes more r few (omega (arith, few)) t)))

leaf_open : (old mid : Option Region) (leaf : Leaf) (edges : List Edge) → PiecesGoOn old mid (Holds leaf ∷ []) → AreOpen old edges → AreOpen mid edges
leaf_open None None leaf edges goes open_are = tt
leaf_open (Some old) (Some mid) leaf edges goes open_are = ap open_in goes ∙ (open-hold old.pieces leaf ∙ open_are)
leaf_open None (Some mid) leaf edges goes open_are = absurd goes
leaf_open (Some old) None leaf edges goes open_are = absurd goes

none_begun : (m : DerMessage ℕ) (xs : List Level) (d : Due) (start place : ℕ) (bytes : List ℕ) (r : Reads m xs d start place bytes) → IsFreshOrOver d → (r.rest ≡ []) × (due_depth d ≡ 0)
none_begun m xs d start place bytes r fresh = by d fresh r.is_begun
  where
    by : (x : Due) → IsFreshOrOver x → IsBegun x r.state r.rest → (r.rest ≡ []) × (due_depth x ≡ 0)
    by (due.Tag step) f beg = (taken_none step.come step.first step.high r.rest f beg, refl)
    by due.Over f beg = (beg, refl)
    by (due.Length c spot step) f beg = absurd f
    by (due.Contents spot left) f beg = absurd f

fresh_or_over : (d : Due) → IsFresh d → IsFreshOrOver d
fresh_or_over (due.Tag step) f = f
fresh_or_over (due.Length c spot step) f = absurd f
fresh_or_over (due.Contents spot left) f = absurd f
fresh_or_over due.Over f = tt

pub leaf_ends : (m : DerMessage ℕ) (d e : Decoder) (old mid : Option Region) (bytes more : List ℕ) (spot : Spot) (left : ℕ) (leaf : Leaf) → d.due ≡ due.Contents spot left → IsFresh e.due → e.levels ≡ d.levels → length more ≡ left
    → HoldsLeafAt m spot (drop d.start bytes ++ more) leaf → PiecesGoOn old mid (Holds leaf ∷ []) → HasReadParts m d bytes → KeepsShown m d old bytes → HasReadParts m e (bytes ++ more) → EndsLeaf m e mid (bytes ++ more)
leaf_ends m d e old mid bytes more spot left leaf is fresh same size held goes read shows now = record {
  read = now;
  around = λ t. leaf_open old mid leaf (elements_around m (around_of t.state)) goes (subst (AreOpen old) (closed t).around_are (shown_open m xs (due.Contents spot left) d.start d.place bytes old r told));
  closes = λ new ends.
      shows_on m xs ys (due.Contents spot left) e.due d.start d.place e.start e.place bytes (bytes ++ more) old new r told
      (λ t. (Holds leaf ∷ end_each (elements_ended m (around_of t.state)), goes_twice old mid new (Holds leaf ∷ []) (end_each (elements_ended m (around_of t.state))) goes (ends t), (closed t).adds));
}
  where
    xs : List Level
    xs = inwards d.levels.items

    ys : List Level
    ys = inwards e.levels.items

    r : Reads m xs (due.Contents spot left) d.start d.place bytes
    r = subst (λ z. Reads m xs z d.start d.place bytes) is read

    told : Shows m xs (due.Contents spot left) d.start d.place old bytes
    told = subst (λ z. Shows m xs z d.start d.place old bytes) is shows

    closed : (t : HasReadParts m e (bytes ++ more)) → Closes m r.parts r.state r.at t.parts t.state (Holds leaf ∷ end_each (elements_ended m (around_of t.state)))
    closed t =
        let n = none_begun m ys e.due e.start e.place (bytes ++ more) t (fresh_or_over e.due fresh) in
        let before = depth_counts m d.levels.items (due.Contents spot left) d.start d.place bytes r in
        let after = depth_counts m e.levels.items e.due e.start e.place (bytes ++ more) t in
        let levels = ap (λ v. length v.items) same in
        let depth = n.1 in
        contents_close m xs ys spot left e.due d.start d.place e.start e.place bytes more leaf r size held t n.0 (omega (arith, before, after, levels, depth))

-- ---- the end of a constructed value

pub value_ends : (m : DerMessage ℕ) (d e : Decoder) (bytes : List ℕ) → IsFresh d.due → IsFreshOrOver e.due → length e.levels.items + 1 ≡ length d.levels.items → (r : HasReadParts m d bytes) (t : HasReadParts m e bytes)
    → Closes m r.parts r.state r.at t.parts t.state (end_each (elements_ended m (around_of t.state)))
value_ends m d e bytes fresh after one r t = by d.due fresh r
  where
    xs : List Level
    xs = inwards d.levels.items

    ys : List Level
    ys = inwards e.levels.items

    by : (x : Due) → IsFresh x → (r : Reads m xs x d.start d.place bytes) → Closes m r.parts r.state r.at t.parts t.state (end_each (elements_ended m (around_of t.state)))
    by (due.Tag step) f r =
        let n = none_begun m ys e.due e.start e.place bytes t after in
        let before = depth_counts m d.levels.items (due.Tag step) d.start d.place bytes r in
        let left = depth_counts m e.levels.items e.due e.start e.place bytes t in
        let depth = n.1 in
        end_closes m xs ys step e.due d.start d.place e.start e.place bytes r (none_begun m xs (due.Tag step) d.start d.place bytes r f).0 t n.0 (omega (arith, before, left, depth, one))
    by (due.Length c spot step) f r = absurd f
    by (due.Contents spot left) f r = absurd f
    by due.Over f r = absurd f

pub end_open : (m : DerMessage ℕ) (d e : Decoder) (kept : Option Region) (bytes : List ℕ) → IsFresh d.due → IsFreshOrOver e.due → length e.levels.items + 1 ≡ length d.levels.items → HasReadParts m d bytes → KeepsShown m d kept bytes → (t : HasReadParts m e bytes)
    → AreOpen kept (elements_around m (around_of t.state))
end_open m d e kept bytes fresh after one r shows t =
    subst (AreOpen kept) (value_ends m d e bytes fresh after one r t).around_are (shown_open m (inwards d.levels.items) d.due d.start d.place bytes kept r shows)

pub end_shown : (m : DerMessage ℕ) (d e : Decoder) (old new : Option Region) (bytes : List ℕ) → IsFresh d.due → IsFreshOrOver e.due → length e.levels.items + 1 ≡ length d.levels.items → HasReadParts m d bytes → KeepsShown m d old bytes
    → ((t : HasReadParts m e bytes) → PiecesGoOn old new (end_each (elements_ended m (around_of t.state)))) → KeepsShown m e new bytes
end_shown m d e old new bytes fresh after one r shows goes =
    shows_on m (inwards d.levels.items) (inwards e.levels.items) d.due e.due d.start d.place e.start e.place bytes bytes old new r shows
    (λ t. (end_each (elements_ended m (around_of t.state)), goes t, (value_ends m d e bytes fresh after one r t).adds))

-- ---- the whole

whole_front : (m : DerMessage ℕ) (xs : List Level) (d : Due) (start place : ℕ) (bytes : List ℕ) (r : Reads m xs d start place bytes) → IsOver d → DerFront m Start 0 bytes r.parts (Within []) r.at []
whole_front m xs d start place bytes r over = by d r.state r.is_open r.is_begun over r.front
  where
    by : (x : Due) (s : State ℕ) → IsOpenState m xs x s → IsBegun x s r.rest → IsOver x → DerFront m Start 0 bytes r.parts s r.at r.rest → DerFront m Start 0 bytes r.parts (Within []) r.at []
    by due.Over (Within []) op beg ov front = subst (λ z. DerFront m Start 0 bytes r.parts (Within []) r.at z) beg front
    by due.Over s op beg ov front = absurd op
    by (due.Tag step) s op beg ov front = absurd ov
    by (due.Length c spot step) s op beg ov front = absurd ov
    by (due.Contents spot left) s op beg ov front = absurd ov

pub whole_shown : (T : Tables) (d : Decoder) (kept : Region) (bytes : List ℕ) → IsSoundDer (der_message T) → IsOver d.due → HasReadParts (der_message T) d bytes → KeepsShown (der_message T) d (Some kept) bytes → IsSpelledDerAs T bytes kept.pieces
whole_shown T d kept bytes sound over r shows =
    let m = der_message T in
    whole_shows_pieces m sound bytes r.parts r.at kept.pieces (whole_front m (inwards d.levels.items) d.due d.start d.place bytes r over) (shows r)

over_elements : (m : DerMessage ℕ) (xs : List Level) (d : Due) (s : State ℕ) → IsOpenState m xs d s → IsOver d → open_elements m s ≡ []
over_elements m xs due.Over (Within []) op over = refl
over_elements m xs due.Over s op over = absurd op
over_elements m xs (due.Tag step) s op over = absurd over
over_elements m xs (due.Length c spot step) s op over = absurd over
over_elements m xs (due.Contents spot left) s op over = absurd over

pub whole_closed : (m : DerMessage ℕ) (d : Decoder) (kept : Region) (bytes : List ℕ) → IsOver d.due → HasReadParts m d bytes → KeepsShown m d (Some kept) bytes → open_in kept.pieces ≡ []
whole_closed m d kept bytes over r shows =
    let xs = inwards d.levels.items in
    shown_open m xs d.due d.start d.place bytes (Some kept) r shows ∙ over_elements m xs d.due r.state r.is_open over
