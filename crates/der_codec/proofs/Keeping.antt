-- What is reserved is kept, and is enough: of a checker that goes on, and of what it is given.
use Rattle.std.proofs.Common.{◌≡◌, ℕ, ◌+◌, ◌≤◌, ◌<◌, false, true, List, [], ◌++◌, length, drop, Option, Some, None, refl, sym, ap, ◌∙◌, subst, arith, append_assoc, append-nil, length-append}
use Rattle.std.proofs.lemmas.List.{take_all}
use Rattle.std.specs.Prelude.{vec_capacity, Result, Ok, Err, IsOk, IfOk, IfErr, IsErrOf}
use Rattle.std.specs.Global.{Vec}
use Rattle.data_types.specs.Value.{Piece}
use Rattle.facets.specs.declared.simple.Simple.{Simple}
use Rattle.inst_pool.specs.Pieces.{Region, bytes_of}
use Rattle.reference_check.specs.Forms.{Graph}
use Rattle.message_model.specs.Tables.{Tables, types_of}
use Rattle.message_model.specs.Errors.{IsAgain}
use Rattle.message_model.specs.declared.fault.InstanceError.{InstanceError}
use Rattle.message_model.specs.declared.fault.InstanceError.TheVariants as errors
use Rattle.der_model.specs.DerMessage.{DerMessage, der_message}
use Rattle.der_model.specs.Faults.{FaultInDer, DerFault}
use Rattle.der_model.specs.Sound.{IsSoundDer}
use Rattle.der_model.specs.Paths.{path_of}
use Rattle.der_model.specs.ShownPieces.{PartsShow}
use Rattle.der_model.specs.States.{State, Start, AwaitsContents}
use Rattle.der_model.proofs.Answered.{spelled_has_none}
use Rattle.der_model.proofs.Continued.{fault_stays, front_more}
use Rattle.der_model.proofs.ShownPieces.{parts_show_then}
use Rattle.der_codec.specs.Checking.{StopsWithin, DerStops, HaveDerFault, open_count, der_failure, der_fault_of}
use Rattle.der_codec.specs.Components.{added_text}
use Rattle.der_codec.specs.Decoding.{Reads, HasReadParts, IsOpenState, IsBegun, IsFull, IsLengthDue, due_depth}
use Rattle.der_codec.specs.KeptPieces.{Shows, KeepsShown}
use Rattle.der_codec.specs.Levels.{inwards}
use Rattle.der_codec.specs.Reserved.{HasChecks, GrowsRoom, IsKeeping, HasEnough, HoldsMore, HoldMore, IsPrimitiveAt}
use Rattle.der_codec.specs.Rooms.{BeginsEnough, ShowsEnough}
use Rattle.der_codec.specs.declared.checker.DerChecker.{DerChecker}
use Rattle.der_codec.specs.declared.checks.Checks.{Checks}
use Rattle.der_codec.specs.declared.decoder.Decoder.{Decoder}
use Rattle.der_codec.specs.declared.decoder.Due.{Due}
use Rattle.der_codec.specs.declared.decoder.Due.TheVariants as due
use Rattle.der_codec.specs.declared.decoder.Stop.{Stop}
use Rattle.der_codec.specs.declared.decoder.Stop.TheVariants as stop
use Rattle.der_codec.specs.declared.level.Level.{Level}
use Rattle.der_codec.specs.declared.level.Spot.{Spot}
use Rattle.der_codec.specs.declared.room.Room.{Room}
use Rattle.der_codec.proofs.ContentsSteps.{rest_from}
use Rattle.der_codec.proofs.DueContents.{IsOfThere, due_primitive}
use Rattle.der_codec.proofs.Fed.{fault_at}
use Rattle.der_codec.proofs.RoomFronts.{FrontEnough, front_enough}
use Rattle.der_codec.proofs.ShownFed.{depth_counts}
use Rattle.der_codec.proofs.ShownSteps.{Adds}

-- ---- it is kept

pub keeping_as : (T : Tables) (old new : DerChecker) → new.room ≡ old.room → vec_capacity old.decoder.levels ≤ vec_capacity new.decoder.levels → vec_capacity old.kept.octets ≤ vec_capacity new.kept.octets
    → ((bytes : ℕ) → HasChecks (types_of T) bytes old.checks → HasChecks (types_of T) bytes new.checks) → GrowsRoom old.pieces new.pieces → IsKeeping old T → IsKeeping new T
keeping_as T old new room levels kept checks grows k = go new.pieces refl
  where
    go : (o : Option Region) → new.pieces ≡ o → IsKeeping new T
    go None e = absurd (subst (GrowsRoom (Some k.region)) e (subst (λ z. GrowsRoom z new.pieces) k.is grows))
    go (Some r) e =
        let g : GrowsRoom (Some k.region) (Some r) = subst (GrowsRoom (Some k.region)) e (subst (λ z. GrowsRoom z new.pieces) k.is grows) in
        let d = ap (λ (z : Room). z.depth) room in
        let n = ap (λ (z : Room). z.nodes) room in
        let b = ap (λ (z : Room). z.bytes) room in
        let s = k.reserved in
        let s1 = s.depth in
        let s2 = s.octets in
        let s3 = s.nodes in
        let s4 = s.bytes in
        let g1 = g.0 in
        let g2 = g.1 in
        record {
          region = r;
          is = e;
          reserved = record {
            depth = omega (arith, d, s1, levels);
            octets = omega (arith, b, s2, kept);
            nodes = omega (arith, n, s3, g1);
            bytes = omega (arith, b, s4, g2);
            checks = λ some. subst (λ z. HasChecks (types_of T) z new.checks) (sym b) (checks old.room.bytes (s.checks (omega (arith, some, d))));
          };
        }

-- where the pieces grow, or no other thing
pub grows_same : (o : Option Region) → GrowsRoom o o
grows_same None = tt
grows_same (Some r) = (omega arith, omega arith)

pub grows_as : (old new : Option Region) → new ≡ old → GrowsRoom old new
grows_as old new e = subst (GrowsRoom old) (sym e) (grows_same old)

-- ---- and enough

pub enough_less : (T : Tables) (c : DerChecker) (bytes more all : List ℕ) → all ≡ bytes ++ more → HasEnough c T all → HasEnough c T bytes
enough_less T c bytes more all e h = record {
  keeping = h.keeping;
  sound = h.sound;
  linked = h.linked;
  shows = record { plain = h.shows.plain; enough = λ front behind is. h.shows.enough front (behind ++ more) (e ∙ (ap (λ z. z ++ more) is ∙ append_assoc front behind more)) };
}

pub enough_then : (T : Tables) (old new : DerChecker) (bytes all : List ℕ) → all ≡ bytes → (IsKeeping old T → IsKeeping new T) → new.room ≡ old.room → HasEnough old T all → HasEnough new T bytes
enough_then T old new bytes all e keeps same h = record {
  keeping = keeps h.keeping;
  sound = h.sound;
  linked = h.linked;
  shows = subst (λ (z : Room). ShowsEnough T z bytes) (sym same) (subst (ShowsEnough T old.room) e h.shows);
}

-- what stops it shows a fault, but for want of memory
pub stop_shows : (T : Tables) (d : Decoder) (bytes : List ℕ) (s : Stop) → StopsWithin T d bytes s → (s ≡ stop.Memory → ⊥) → HaveDerFault T bytes
stop_shows T d bytes stop.Memory w none = absurd (none refl)
stop_shows T d bytes (stop.Fault rule place added) (front, behind, is, f, other) none = record {
  fault = told;
  has_fault = λ more. subst (λ z. DerFault m z told) (sym (ap (λ z. z ++ more) is ∙ append_assoc front behind more)) (fault_stays m front (behind ++ more) told other (fault_at T d front rule place added told.path f refl));
  no_cut = other;
}
  where
    m : DerMessage ℕ
    m = der_message T

    told : FaultInDer
    told = record { rule = rule; place = place; path = path_of f.state ++ added_text (types_of T) added }

-- bytes that begin the DER of an instance have no fault
pub begins_fit : {A : Type 0} (T : Tables) (room : Room) (bytes : List ℕ) (result : Result A InstanceError) → IsSoundDer (der_message T) → BeginsEnough T room bytes → IfErr result (λ e. DerStops T bytes e) → (IsErrOf result errors.Memory → HaveDerFault T bytes) → IsOk result
begins_fit {A} T room bytes result sound b stops memory = by result stops memory
  where
    none : HaveDerFault T bytes → ⊥
    none h = spelled_has_none (der_message T) sound (bytes ++ b.behind) b.value h.fault b.short b.spelled (h.has_fault b.behind)

    by : (r : Result A InstanceError) → IfErr r (λ e. DerStops T bytes e) → (IsErrOf r errors.Memory → HaveDerFault T bytes) → IsOk r
    by (Ok a) stops memory = refl
    by (Err errors.Memory) stops memory = absurd (none (memory refl))
    by (Err (errors.Refused fault)) stops memory = absurd (none (record { fault = der_fault_of fault; has_fault = stops.has_fault; no_cut = stops.no_cut }))

-- ---- what was read

read_enough : (T : Tables) (c : DerChecker) (xs : List Level) (d : Due) (start place : ℕ) (bytes more : List ℕ) (shown : List Piece) (r : Reads (der_message T) xs d start place bytes) → HasEnough c T (bytes ++ more)
    → PartsShow (der_message T) Start 0 r.parts shown → FrontEnough c.room r.state r.rest shown
read_enough T c xs d start place bytes more shown r h shows = front_enough T c.room bytes more r.parts r.state r.at r.rest shown h.shows r.front shows

-- pieces that come behind those that are kept
pub adds_enough : (T : Tables) (c : DerChecker) (xs ys : List Level) (d e : Due) (start place begin end : ℕ) (bytes all : List ℕ) (more : List Piece) (r : Reads (der_message T) xs d start place bytes) (t : Reads (der_message T) ys e begin end all)
    → HasEnough c T all → Shows (der_message T) xs d start place c.pieces bytes → Adds (der_message T) r.parts r.state r.at t.parts more → HoldMore c.pieces more
adds_enough T c xs ys d e start place begin end bytes all more r t h shows adds = subst (λ z. HoldMore z more) (sym h.keeping.is) room
  where
    m : DerMessage ℕ
    m = der_message T

    region : Region
    region = h.keeping.region

    told : Shows m xs d start place (Some region) bytes
    told = subst (λ z. Shows m xs d start place z bytes) h.keeping.is shows

    shown : PartsShow m Start 0 t.parts (region.pieces ++ more)
    shown = subst (λ z. PartsShow m Start 0 z (region.pieces ++ more)) (sym adds.are) (parts_show_then m Start r.state 0 r.at bytes r.rest r.parts adds.parts region.pieces more r.front (told r) adds.show)

    f : FrontEnough c.room t.state t.rest (region.pieces ++ more)
    f = read_enough T c ys e begin end all [] (region.pieces ++ more) t (subst (HasEnough c T) (sym (append-nil all)) h) shown

    f1 : length (region.pieces ++ more) ≤ c.room.nodes
    f1 = f.nodes

    f2 : bytes_of (region.pieces ++ more) ≤ c.room.bytes
    f2 = (let all = f.bytes in omega (arith, all))

    n : c.room.nodes ≤ region.node_room
    n = h.keeping.reserved.nodes

    b : c.room.bytes ≤ region.byte_room
    b = h.keeping.reserved.bytes

    room : HoldsMore region more
    room = (omega (arith, n, f1), omega (arith, b, f2))

-- the same with what is kept then
pub shown_enough : (T : Tables) (c : DerChecker) (ys : List Level) (e : Due) (begin end : ℕ) (all : List ℕ) (kept : Region) (t : Reads (der_message T) ys e begin end all) → HasEnough c T all → Shows (der_message T) ys e begin end (Some kept) all
    → (length kept.pieces ≤ c.room.nodes) × (bytes_of kept.pieces ≤ c.room.bytes)
shown_enough T c ys e begin end all kept t h shows =
    let f = read_enough T c ys e begin end all [] kept.pieces t (subst (HasEnough c T) (sym (append-nil all)) h) (shows t) in
    (f.nodes, (let few = f.bytes in omega (arith, few)))

-- no value more can be open than there is room for
pub length_enough : (T : Tables) (c : DerChecker) (bytes more : List ℕ) → HasReadParts (der_message T) c.decoder bytes → KeepsShown (der_message T) c.decoder c.pieces bytes → HasEnough c T (bytes ++ more) → IsLengthDue c.decoder.due → IsFull c.decoder.levels → ⊥
length_enough T c bytes more r shows h is full = by c.decoder.due is (depth_counts m c.decoder.levels.items c.decoder.due c.decoder.start c.decoder.place bytes r)
  where
    m : DerMessage ℕ
    m = der_message T

    told : KeepsShown m c.decoder (Some h.keeping.region) bytes
    told = subst (λ z. KeepsShown m c.decoder z bytes) h.keeping.is shows

    f : FrontEnough c.room r.state r.rest h.keeping.region.pieces
    f = read_enough T c (inwards c.decoder.levels.items) c.decoder.due c.decoder.start c.decoder.place bytes more h.keeping.region.pieces r h (told r)

    by : (d : Due) → IsLengthDue d → length c.decoder.levels.items + due_depth d ≡ open_count r.state → ⊥
    by (due.Length x spot step) l count =
        let a = f.depth in
        let b = h.keeping.reserved.depth in
        let s = c.decoder.levels.ok.0 in
        absurd (omega (arith, a, b, count, full, s))
    by (due.Tag step) l count = absurd l
    by (due.Contents spot left) l count = absurd l
    by due.Over l count = absurd l

-- the contents octets that come have room, behind those that have come of a primitive value
pub contents_enough : (T : Tables) (c : DerChecker) (spot : Spot) (left : ℕ) (bytes front : List ℕ) → c.decoder.due ≡ due.Contents spot left → length front ≤ left → (r : HasReadParts (der_message T) c.decoder bytes) → KeepsShown (der_message T) c.decoder c.pieces bytes → HasEnough c T (bytes ++ front)
    → (length (drop c.decoder.start bytes) + length front ≤ c.room.bytes) × IsPrimitiveAt T spot × (0 < c.room.depth)
contents_enough T c spot left bytes front is within r shows h = go t.state t.is_open t.is_begun (due_primitive T h.sound h.linked bytes t.parts t.state t.at t.rest t.front) f
  where
    m : DerMessage ℕ
    m = der_message T

    d : Decoder
    d = c.decoder

    xs : List Level
    xs = inwards d.levels.items

    t : Reads m xs (due.Contents spot left) d.start d.place bytes
    t = subst (λ z. Reads m xs z d.start d.place bytes) is r

    told : Shows m xs (due.Contents spot left) d.start d.place (Some h.keeping.region) bytes
    told = subst (λ z. Shows m xs z d.start d.place (Some h.keeping.region) bytes) is (subst (λ z. KeepsShown m d z bytes) h.keeping.is shows)

    f : FrontEnough c.room t.state (t.rest ++ front) h.keeping.region.pieces
    f = front_enough T c.room (bytes ++ front) [] t.parts t.state t.at (t.rest ++ front) h.keeping.region.pieces (subst (ShowsEnough T c.room) (sym (append-nil (bytes ++ front))) h.shows) (front_more m Start 0 bytes t.parts t.state t.at t.rest front t.front) (told t)

    go : (s : State ℕ) → IsOpenState m xs (due.Contents spot left) s → IsBegun (due.Contents spot left) s t.rest → IsOfThere T h.sound h.linked s → FrontEnough c.room s (t.rest ++ front) h.keeping.region.pieces
        → (length (drop d.start bytes) + length front ≤ c.room.bytes) × IsPrimitiveAt T spot × (0 < c.room.depth)
    go (AwaitsContents of names count ls) op beg there enough =
        let few = enough.bytes in
        let sum = length-append t.rest front in
        let whole = ap length (take_all count (t.rest ++ front) (omega (arith, beg, within, sum))) in
        let size = ap length (rest_from m xs (due.Contents spot left) d.start d.place bytes t) in
        let depth = enough.depth in
        (omega (arith, few, sum, whole, size), (of, op.0, there.0), omega (arith, depth))
    go s op beg there enough = absurd op

-- ---- answers

pub err_as : {A B E : Type 0} (s t : E) → IsErrOf {T = A} (Err s) t → IsErrOf {T = B} (Err s) t
err_as s t e = (let same : s ≡ t = cc in ap Err same)

pub not_ok : false ≡ true → ⊥
not_ok e = absurd cc

pub ok_no_err : {A E : Type 0} (r : Result A E) (t : E) → IsOk r → IsErrOf r t → ⊥
ok_no_err (Ok a) t ok e = absurd cc
ok_no_err (Err s) t ok e = not_ok ok

pub behind_is : (bytes piece front rest : List ℕ) → piece ≡ front ++ rest → bytes ++ piece ≡ (bytes ++ front) ++ rest
behind_is bytes piece front rest is = ap (λ z. bytes ++ z) is ∙ sym (append_assoc bytes front rest)

-- ---- what stays

pub levels_same : (d mid e : Decoder) → mid ≡ d → e.levels ≡ mid.levels → vec_capacity d.levels ≤ vec_capacity e.levels
levels_same d mid e same levels = subst (λ (z : Vec Level). vec_capacity d.levels ≤ vec_capacity z) (sym (levels ∙ ap (λ (z : Decoder). z.levels) same)) (omega arith)

pub checks_same : (types : Graph ℕ Simple) (bytes : ℕ) (old new : Checks) → new ≡ old → HasChecks types bytes old → HasChecks types bytes new
checks_same types bytes old new e h = subst (HasChecks types bytes) (sym e) h

pub none_keeping : (T : Tables) (c : DerChecker) → c.pieces ≡ None → IsKeeping c T → ⊥
none_keeping T c none k = absurd (let both : None ≡ Some k.region = sym none ∙ k.is in cc)

-- a reader that has not refused its bytes keeps pieces
pub made_keeps : {A : Type 0} (T : Tables) (result : Result A InstanceError) (old new : DerChecker) → der_failure new ≡ None → (der_failure old ≡ None → IsKeeping old T) → (IsKeeping old T → IfOk result (λ x. IsKeeping new T)) → (der_failure old ≡ None → IfErr result (λ e. der_failure new ≡ Some e))
    → ((e : InstanceError) → der_failure old ≡ Some e → IsAgain e result × (der_failure new ≡ der_failure old)) → IsKeeping new T
made_keeps T (Ok x) old new none before keeps fails again = keeps (before (old_none (der_failure old) refl))
  where
    old_none : (o : Option InstanceError) → der_failure old ≡ o → der_failure old ≡ None
    old_none None e = e
    old_none (Some x) e = absurd (let both : Some x ≡ None = sym e ∙ (sym (again x e).1 ∙ none) in cc)
made_keeps T (Err e) old new none before keeps fails again = by (der_failure old) refl
  where
    by : (o : Option InstanceError) → der_failure old ≡ o → IsKeeping new T
    by None was = absurd (let both : Some e ≡ None = sym (fails was) ∙ none in cc)
    by (Some x) was = absurd (let both : Some x ≡ None = sym was ∙ (sym (again x was).1 ∙ none) in cc)
