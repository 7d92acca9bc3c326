-- What a checker was given, and what it then tells.
use Rattle.std.specs.Prelude.{Ok, Err}
use Rattle.std.proofs.Common.{◌≡◌, ◌≢◌, ℕ, zero, suc, ◌+◌, ◌-◌, ◌≤◌, ◌<◌, ◌^◌, List, [], ◌∷◌, ◌++◌, length, take, drop, Option, Some, None, refl, sym, ap, ◌∙◌, subst, arith, append-nil, append_assoc, length-append, ◌⊎◌, inl, inr}
use Rattle.std.proofs.Math.Seq.{take-add}
use Rattle.lexical_core.specs.declared.rule.Rule.{Rule}
use Rattle.lexical_core.specs.declared.rule.Rule.TheVariants.{DerTruncated}
use Rattle.facets.specs.LeafChecks.{IsHeldWithin}
use Rattle.inst_pool.specs.Pieces.{Region}
use Rattle.message_model.specs.Tables.{Tables, types_of}
use Rattle.message_model.specs.declared.fault.InstanceError.{InstanceError}
use Rattle.message_model.specs.declared.fault.InstanceError.TheVariants.{Refused}
use Rattle.message_model.specs.Errors.{IsSameOrMemory}
use Rattle.der_model.specs.DerMessage.{DerMessage, der_message}
use Rattle.der_model.specs.Faults.{FaultInDer, DerFault}
use Rattle.der_model.specs.Paths.{path_of}
use Rattle.der_model.specs.Sound.{IsSoundDer}
use Rattle.der_model.specs.Structures.{structure}
use Rattle.der_model.specs.States.{State, Start, AwaitsContents}
use Rattle.der_model.proofs.Continued.{fault_stays}
use Rattle.der_model.proofs.Answered.{spelled_has_none}
use Rattle.der_codec.specs.Levels.{inwards}
use Rattle.der_codec.specs.Components.{added_text}
use Rattle.der_codec.specs.Decoding.{due_depth, Reads, Fails, HasReadParts, IsOpenState, IsFresh, IsFault, IsStopped, IsOver, IsOctetAwaited, IsWaiting, IsNoCut, IsRefusedAs, end_of_levels}
use Rattle.der_codec.specs.Judging.{HoldsContents, BreaksContentsAt, IsVerdictFor}
use Rattle.der_codec.specs.inner.OpenNames.{IsNamed}
use Rattle.der_codec.specs.Checking.{IsReading, KeepsContents, KeepsRead, HoldsAllOf, HasFedDer, TakesDerFront, StopsWithin, DerStops, IsSpelledDer, DerEndsAs, open_count, der_bytes_fed, token_held}
use Rattle.der_codec.specs.declared.checks.Refusal.{Refusal}
use Rattle.der_codec.specs.declared.checks.Refusal.TheVariants as refused
use Rattle.der_codec.specs.declared.components.Added.TheVariants as added
use Rattle.der_codec.specs.declared.level.Spot.{Spot}
use Rattle.der_codec.specs.declared.level.Level.{Level}
use Rattle.der_codec.specs.declared.checker.DerChecker.{DerChecker}
use Rattle.der_codec.specs.declared.components.Added.{Added}
use Rattle.der_codec.specs.declared.decoder.Decoder.{Decoder}
use Rattle.der_codec.specs.declared.held.Held.{Held}
use Rattle.der_codec.specs.declared.open_leaf.OpenLeaf.{OpenLeaf}
use Rattle.der_codec.specs.declared.decoder.Due.{Due}
use Rattle.der_codec.specs.declared.decoder.Due.TheVariants as due
use Rattle.der_codec.specs.declared.decoder.Stop.{Stop}
use Rattle.der_codec.specs.declared.decoder.Stop.TheVariants as stop
use Rattle.der_codec.proofs.InputEnds.{goes_on, is_spelled}
use Rattle.der_codec.proofs.Named.{front_named}
use Rattle.der_codec.specs.OpenLeaves.{HoldsAt, HoldsNothing, held_with_check}
use Rattle.der_codec.specs.KeptPieces.{KeepsShown, GoesOnByLeaf, EndsLeaf}
use Rattle.der_codec.specs.Limits.{open_limit, leaf_come, token_come}
use Rattle.der_codec.proofs.CutSpots.{HoldsTwice, nothing_held, held_open, token_open}
use Rattle.der_codec.proofs.ContentsSteps.{place_counts, kept_more, none_kept, rest_from, some_before, contents_break}
use Rattle.der_codec.proofs.NoCuts.{contents_stay}
use Rattle.der_codec.proofs.Nested.{ready_waits}
use Rattle.der_codec.proofs.ShownFed.{depth_counts, pass_shown, leaf_ends}

-- ---- what is told

-- what the path is for every state that is open so
abbrev pub TellsPath : Tables → Decoder → Added → List ℕ → Type 0
TellsPath T d added path = (s : State ℕ) → IsOpenState (der_message T) (inwards d.levels.items) d.due s → IsNamed (der_message T) s → path ≡ path_of s ++ added_text (types_of T) added

-- a fault with the path to where it is, is one of the definitions
pub fault_at : (T : Tables) (d : Decoder) (bytes : List ℕ) (rule : Rule) (place : ℕ) (added : Added) (path : List ℕ) (f : IsFault (der_message T) d bytes rule place (added_text (types_of T) added)) → path ≡ path_of f.state ++ added_text (types_of T) added
    → DerFault (der_message T) bytes (record { rule = rule; place = place; path = path })
fault_at T d bytes rule place added path f is = record {
  parts = f.parts;
  state = f.state;
  at = f.at;
  rest = f.rest;
  off = f.off;
  added = added_text (types_of T) added;
  front = f.front;
  next = f.next;
  place = f.place_is;
  path = is;
}

-- and so is one with what is told
fault_told : (T : Tables) (d : Decoder) (bytes : List ℕ) (rule : Rule) (place : ℕ) (added : Added) (path : List ℕ) → TellsPath T d added path → IsFault (der_message T) d bytes rule place (added_text (types_of T) added)
    → DerFault (der_message T) bytes (record { rule = rule; place = place; path = path })
fault_told T d bytes rule place added path tells f =
    fault_at T d bytes rule place added path f (tells f.state f.is_open (front_named (der_message T) Start 0 bytes f.parts f.state f.at f.rest tt f.front))

pub end_told : (T : Tables) (d : Decoder) (bytes : List ℕ) (rule : Rule) (place : ℕ) (added : Added) (path : List ℕ) → TellsPath T d added path → IsStopped (der_message T) d bytes (stop.Fault rule place added)
    → DerEndsAs T bytes (Refused (record { rule = rule; place = place; path = path }))
end_told T d bytes rule place added path tells f = fault_told T d bytes rule place added path tells f

pub stop_told : (T : Tables) (d : Decoder) (bytes : List ℕ) (rule : Rule) (place : ℕ) (added : Added) (path : List ℕ) → TellsPath T d added path → StopsWithin T d bytes (stop.Fault rule place added)
    → DerStops T bytes (Refused (record { rule = rule; place = place; path = path }))
stop_told T d bytes rule place added path tells (front, behind, is, f, other) = record {
  has_fault = λ more.
      subst (λ z. DerFault (der_message T) z (record { rule = rule; place = place; path = path })) (sym (ap (λ z. z ++ more) is ∙ append_assoc front behind more))
      (fault_stays (der_message T) front (behind ++ more) (record { rule = rule; place = place; path = path }) other (fault_told T d front rule place added path tells f));
  no_cut = other;
}

-- ---- what was given has no fault but a cut

over_or_not : (d : Due) → (IsOver d) ⊎ (IsOver d → ⊥)
over_or_not (due.Tag step) = inr (λ h. h)
over_or_not (due.Length c spot step) = inr (λ h. h)
over_or_not (due.Contents spot left) = inr (λ h. h)
over_or_not due.Over = inl tt

pub spelled : (T : Tables) (checker : DerChecker) (bytes : List ℕ) → IsSoundDer (der_message T) → HasFedDer checker T bytes → IsOver checker.decoder.due → IsSpelledDer T bytes
spelled T checker bytes sound h over =
    let d = checker.decoder in let few = h.short in
    is_spelled (der_message T) (inwards d.levels.items) d.due d.start d.place bytes sound (omega (arith, few)) h.reading.read over

pub only_cut : (T : Tables) (checker : DerChecker) (bytes : List ℕ) → IsSoundDer (der_message T) → HasFedDer checker T bytes → (f : FaultInDer) → DerFault (der_message T) bytes f → f.rule ≡ DerTruncated
only_cut T checker bytes sound h f fault = by (over_or_not checker.decoder.due)
  where
    by : (IsOver checker.decoder.due) ⊎ (IsOver checker.decoder.due → ⊥) → f.rule ≡ DerTruncated
    by (inl over) = (let v = spelled T checker bytes sound h over in let few = h.short in absurd (spelled_has_none (der_message T) sound bytes v.0 f (omega (arith, few)) v.1 fault))
    by (inr going) = (let d = checker.decoder in goes_on (der_message T) (inwards d.levels.items) d.due d.start d.place bytes sound h.reading.read h.reading.waits going f fault)

-- ---- what stops at the front of bytes

pub stop_within : (T : Tables) (d : Decoder) (front behind bytes : List ℕ) (s : Stop) → bytes ≡ front ++ behind → IsStopped (der_message T) d front s → IsNoCut s → StopsWithin T d bytes s
stop_within T d front behind bytes (stop.Fault rule place added) e f other = (front, behind, e, f, other)
stop_within T d front behind bytes stop.Memory e f other = tt

-- more bytes
pub within_more : (T : Tables) (d : Decoder) (bytes more all : List ℕ) (s : Stop) → all ≡ bytes ++ more → StopsWithin T d bytes s → StopsWithin T d all s
within_more T d bytes more all (stop.Fault rule place added) e (front, behind, is, f, other) =
    (front, behind ++ more, e ∙ (ap (λ z. z ++ more) is ∙ append_assoc front behind more), f, other)
within_more T d bytes more all stop.Memory e h = tt

-- ---- the reader goes on

keeps_ready : (T : Tables) (d : Due) (place : ℕ) (o : Option ℕ) (pieces : Option Region) (start : ℕ) (bytes : List ℕ) (kept : Held) → IsOctetAwaited d place o → HoldsNothing kept → KeepsContents T d pieces start bytes kept
keeps_ready T (due.Tag step) place o pieces start bytes kept h e = e
keeps_ready T (due.Length c spot step) place o pieces start bytes kept h e = e
keeps_ready T (due.Contents spot left) place o pieces start bytes kept h e = absurd h
keeps_ready T due.Over place o pieces start bytes kept h e = e

pub over_ready : (d : Due) (place : ℕ) (o : Option ℕ) → IsOver d → IsOctetAwaited d place o
over_ready due.Over place o over = tt
over_ready (due.Tag step) place o over = absurd over
over_ready (due.Length c spot step) place o over = absurd over
over_ready (due.Contents spot left) place o over = absurd over

pub ready_reading : (T : Tables) (d : Decoder) (kept : Held) (pieces : Option Region) (bytes : List ℕ) → HasReadParts (der_message T) d bytes → KeepsShown (der_message T) d pieces bytes → IsOctetAwaited d.due d.place (end_of_levels d.levels.items) → HoldsNothing kept → IsReading T d kept pieces bytes
ready_reading T d kept pieces bytes read shows ready none = record {
  read = read;
  waits = ready_waits d.due d.place (end_of_levels d.levels.items) ready;
  keeps = keeps_ready T d.due d.place (end_of_levels d.levels.items) pieces d.start bytes kept ready none;
  shows = shows;
}

pub kept_at : (T : Tables) (d : Due) (pieces : Option Region) (spot : Spot) (left start : ℕ) (bytes : List ℕ) (kept : Held) → d ≡ due.Contents spot left → KeepsContents T d pieces start bytes kept → HoldsAt (der_message T) spot pieces kept.leaf kept.octets.items (drop start bytes)
kept_at T d pieces spot left start bytes kept is h = subst (λ z. KeepsContents T z pieces start bytes kept) is h

-- the contents octets that have come, and what is held of them
pub all_kept : (T : Tables) (d : Decoder) (kept : Held) (pieces : Option Region) (bytes : List ℕ) (spot : Spot) (left : ℕ) → d.due ≡ due.Contents spot left → KeepsRead T d kept pieces bytes → HoldsAllOf (der_message T) spot d kept pieces (drop d.start bytes)
all_kept T d kept pieces bytes spot left is (r, keeps) =
    let size = ap length (rest_from (der_message T) (inwards d.levels.items) d.due d.start d.place bytes r) in
    let at = r.start_is in let place = r.place_is in
    (omega (arith, size, at, place), kept_at T d.due pieces spot left d.start bytes kept is keeps)

pub keep_reading : (T : Tables) (d e : Decoder) (kept less : Held) (pieces : Option Region) (bytes front : List ℕ) (spot : Spot) (left : ℕ) → d.due ≡ due.Contents spot left → length front < left → IsReading T d kept pieces bytes → HasReadParts (der_message T) e (bytes ++ front)
    → e.due ≡ due.Contents spot (left - length front) → e.start ≡ d.start → HoldsAt (der_message T) spot pieces less.leaf less.octets.items (drop d.start bytes ++ front) → IsReading T e less pieces (bytes ++ front)
keep_reading T d e kept less pieces bytes front spot left is more h read now start holds = record {
  read = read;
  shows = pass_shown (der_message T) d e pieces bytes front spot left is now more h.read h.shows;
  waits = subst (λ z. IsWaiting z e.place (end_of_levels e.levels.items)) (sym now) (omega (arith, more));
  keeps =
      let m = der_message T in
      let octets : drop d.start bytes ++ front ≡ drop e.start (bytes ++ front) = sym (kept_more m (inwards d.levels.items) d.due d.start d.place bytes front h.read) ∙ ap (λ z. drop z (bytes ++ front)) (sym start) in
      subst (λ z. KeepsContents T z pieces e.start (bytes ++ front) less) (sym now) (subst (HoldsAt m spot pieces less.leaf less.octets.items) octets holds);
}

-- before the first byte
pub keeps_none : (T : Tables) (d : Due) (pieces : Option Region) (start : ℕ) (kept : Held) → HoldsNothing kept → KeepsContents T d pieces start [] kept
keeps_none T (due.Tag step) pieces start kept e = e
keeps_none T (due.Length c spot step) pieces start kept e = e
keeps_none T (due.Contents spot left) pieces zero kept e = nothing_held (der_message T) spot pieces kept.leaf kept.octets.items [] e.0 e.1 refl
keeps_none T (due.Contents spot left) pieces (suc start) kept e = nothing_held (der_message T) spot pieces kept.leaf kept.octets.items [] e.0 e.1 refl
keeps_none T due.Over pieces start kept e = e

-- contents of which none has come
pub fresh_keeps : (T : Tables) (d : Decoder) (kept : Held) (pieces : Option Region) (bytes : List ℕ) (spot : Spot) (left : ℕ) → d.due ≡ due.Contents spot left → d.start ≡ d.place → HoldsNothing kept → HasReadParts (der_message T) d bytes → KeepsContents T d.due pieces d.start bytes kept
fresh_keeps T d kept pieces bytes spot left is begun none r =
    subst (λ z. KeepsContents T z pieces d.start bytes kept) (sym is) (nothing_held (der_message T) spot pieces kept.leaf kept.octets.items (drop d.start bytes) none.0 none.1 (none_kept (der_message T) (inwards d.levels.items) d.due d.start d.place bytes r begun))

pub fresh_reading : (T : Tables) (d : Decoder) (kept : Held) (pieces : Option Region) (bytes : List ℕ) (spot : Spot) (left : ℕ) → d.due ≡ due.Contents spot left → 0 < left → d.start ≡ d.place → HoldsNothing kept → HasReadParts (der_message T) d bytes → KeepsShown (der_message T) d pieces bytes → IsReading T d kept pieces bytes
fresh_reading T d kept pieces bytes spot left is some begun none r shows = record {
  read = r;
  shows = shows;
  waits = subst (λ z. IsWaiting z d.place (end_of_levels d.levels.items)) (sym is) some;
  keeps = fresh_keeps T d kept pieces bytes spot left is begun none r;
}

-- ---- the last octets of contents

-- fewer octets of contents have come than were given
pub come_short : (T : Tables) (d : Decoder) (bytes : List ℕ) (spot : Spot) (left : ℕ) → d.due ≡ due.Contents spot left → HasReadParts (der_message T) d bytes → length (drop d.start bytes) < d.place
come_short T d bytes spot left is r =
    let m = der_message T in
    let xs = inwards d.levels.items in
    let before = some_before m xs spot left d.start d.place bytes (subst (λ z. Reads m xs z d.start d.place bytes) is r) in
    let size = ap length (rest_from m xs d.due d.start d.place bytes r) in
    let at = r.start_is in let place = r.place_is in
    omega (arith, before, size, at, place)

-- behind the last contents octets of a leaf
pub last_has : (T : Tables) (d j e : Decoder) (bytes front : List ℕ) (spot : Spot) (left : ℕ) → j ≡ d → HasReadParts (der_message T) d bytes → length front ≡ left → HoldsContents (der_message T) spot (drop d.start bytes ++ front)
    → ((m : DerMessage ℕ) (bytes more : List ℕ) → HasReadParts m j bytes → length more ≡ left → HoldsContents m spot (drop j.start bytes ++ more) → HasReadParts m e (bytes ++ more)) → HasReadParts (der_message T) e (bytes ++ front)
last_has T d j e bytes front spot left same r size held reads =
    reads (der_message T) bytes front (subst (λ (z : Decoder). HasReadParts (der_message T) z bytes) (sym same) r) size
    (subst (λ (z : Decoder). HoldsContents (der_message T) spot (drop z.start bytes ++ front)) (sym same) held)

pub last_ends : (T : Tables) (d j e : Decoder) (old mid : Option Region) (bytes front : List ℕ) (spot : Spot) (left : ℕ) → j ≡ d → d.due ≡ due.Contents spot left → HasReadParts (der_message T) d bytes → KeepsShown (der_message T) d old bytes
    → length front ≡ left → HoldsContents (der_message T) spot (drop d.start bytes ++ front) → GoesOnByLeaf (der_message T) spot (drop d.start bytes ++ front) old mid → IsFresh e.due → e.levels ≡ j.levels
    → ((m : DerMessage ℕ) (bytes more : List ℕ) → HasReadParts m j bytes → length more ≡ left → HoldsContents m spot (drop j.start bytes ++ more) → HasReadParts m e (bytes ++ more)) → EndsLeaf (der_message T) e mid (bytes ++ front)
last_ends T d j e old mid bytes front spot left same is r shows size held (leaf, at, goes) fresh levels reads =
    leaf_ends (der_message T) d e old mid bytes front spot left leaf is fresh (levels ∙ ap (λ (z : Decoder). z.levels) same) size at goes r shows
    (last_has T d j e bytes front spot left same r size held reads)

pub at_memory : (T : Tables) (d : Decoder) (bytes : List ℕ) (s : Stop) → s ≡ stop.Memory → StopsWithin T d bytes s
at_memory T d bytes s is = subst (StopsWithin T d bytes) (sym is) tt

rule_stays : (m : DerMessage ℕ) (xs : List Level) (spot : Spot) (left start place : ℕ) (bytes octets : List ℕ) (rule : Rule) → Reads m xs (due.Contents spot left) start place bytes → BreaksContentsAt m spot octets rule → rule ≢ DerTruncated
rule_stays m xs spot left start place bytes octets rule r breaks = by r.state r.is_open
  where
    by : (s : State ℕ) → IsOpenState m xs (due.Contents spot left) s → rule ≢ DerTruncated
    by (AwaitsContents of names count ls) op = contents_stay m (structure m of) octets rule (breaks of op.0)
    by s op = absurd op

breaks_within : (T : Tables) (d : Decoder) (bytes front : List ℕ) (spot : Spot) (left : ℕ) (rule : Rule) → d.due ≡ due.Contents spot left → HasReadParts (der_message T) d bytes → length front ≡ left → BreaksContentsAt (der_message T) spot (drop d.start bytes ++ front) rule
    → StopsWithin T d (bytes ++ front) (stop.Fault rule d.start added.Nothing)
breaks_within T d bytes front spot left rule is r size breaks =
    let m = der_message T in
    let xs = inwards d.levels.items in
    let reads = subst (λ z. Reads m xs z d.start d.place bytes) is r in (
      bytes ++ front,
      [],
      sym (append-nil (bytes ++ front)),
      subst (λ z. Fails m xs z (bytes ++ front) rule d.start []) (sym is) (contents_break m xs spot left d.start d.place bytes front rule reads size breaks),
      rule_stays m xs spot left d.start d.place bytes (drop d.start bytes ++ front) rule reads breaks,
    )

pub refused_within : (T : Tables) (d e : Decoder) (bytes front : List ℕ) (spot : Spot) (left : ℕ) (refusal : Refusal) (s : Stop) → e ≡ d → d.due ≡ due.Contents spot left → HasReadParts (der_message T) d bytes → length front ≡ left
    → IsVerdictFor {T = Unit {0}} (der_message T) spot (drop d.start bytes ++ front) (Err refusal) → IsRefusedAs e.start refusal s → StopsWithin T e (bytes ++ front) s
refused_within T d e bytes front spot left (refused.Breaks rule) s same is h size breaks told =
    subst (λ z. StopsWithin T e (bytes ++ front) z) (sym told)
    (subst (λ (z : Decoder). StopsWithin T z (bytes ++ front) (stop.Fault rule z.start added.Nothing)) (sym same) (breaks_within T d bytes front spot left rule is h size breaks))
refused_within T d e bytes front spot left refused.Memory s same is h size breaks told = subst (λ z. StopsWithin T e (bytes ++ front) z) (sym told) tt

-- ---- the front of a piece

few : (n : ℕ) (xs : List ℕ) → length (take n xs) ≤ length xs
few zero xs = omega arith
few (suc n) [] = omega arith
few (suc n) (x ∷ xs) = (let rest = few n xs in omega arith)

pub fed_is : (T : Tables) (checker : DerChecker) (bytes : List ℕ) → HasFedDer checker T bytes → der_bytes_fed checker ≡ length bytes
fed_is T checker bytes h = (let d = checker.decoder in place_counts (der_message T) (inwards d.levels.items) d.due d.start d.place bytes h.reading.read)

pub taken_front : (T : Tables) (old new : DerChecker) (piece front : List ℕ) (n : ℕ) → front ≡ take n piece → n ≤ length piece → der_bytes_fed old + length piece ≤ 2 ^ 40 → new.failed ≡ old.failed
    → ((bytes : List ℕ) → HasFedDer old T bytes → IsReading T new.decoder new.kept new.pieces (bytes ++ front)) → TakesDerFront T old new piece (Ok n)
taken_front T old new piece front n is within room same go = record {
  ok = λ bytes h. record {
    reading = subst (λ z. IsReading T new.decoder new.kept new.pieces (bytes ++ z)) is (go bytes h);
    short = (let sum = length-append bytes (take n piece) in let part = few n piece in let size = fed_is T old bytes h in omega (arith, sum, part, size, room));
    sound = same ∙ h.sound;
  };
  err = λ bytes h. tt;
  within = within;
}

pub stopped_front : (T : Tables) (old new : DerChecker) (piece front behind : List ℕ) (s : Stop) → piece ≡ front ++ behind → ((bytes : List ℕ) → HasFedDer old T bytes → StopsWithin T new.decoder (bytes ++ front) s) → TakesDerFront T old new piece (Err s)
stopped_front T old new piece front behind s is stops = record {
  ok = λ bytes h. tt;
  err = λ bytes h. within_more T new.decoder (bytes ++ front) behind (bytes ++ piece) s (ap (λ z. bytes ++ z) is ∙ sym (append_assoc bytes front behind)) (stops bytes h);
  within = tt;
}

pub over_front : (T : Tables) (old new : DerChecker) (piece : List ℕ) (s : Stop) → 0 < length piece → new.decoder ≡ old.decoder → ((bytes : List ℕ) (octet : ℕ) → HasReadParts (der_message T) old.decoder bytes → IsStopped (der_message T) old.decoder (bytes ++ octet ∷ []) s) → IsNoCut s
    → TakesDerFront T old new piece (Err s)
over_front T old new [] s some same stops other = absurd (omega (arith, some))
over_front T old new (x ∷ xs) s some same stops other =
    stopped_front T old new (x ∷ xs) (x ∷ []) xs s refl
    (λ bytes h. subst (λ (z : Decoder). StopsWithin T z (bytes ++ x ∷ []) s) (sym same) (stop_within T old.decoder (bytes ++ x ∷ []) [] (bytes ++ x ∷ []) s (sym (append-nil (bytes ++ x ∷ []))) (stops bytes x h.reading.read) other))

pub joined : (n : ℕ) (xs : List ℕ) → xs ≡ take n xs ++ drop n xs
joined zero xs = refl
joined (suc n) [] = refl
joined (suc n) (x ∷ xs) = ap (λ z. x ∷ z) (joined n xs)

-- ---- what is taken behind a byte of a header

pub none_more : (T : Tables) (d : Decoder) (kept : Held) (pieces : Option Region) (bytes behind : List ℕ) → IsReading T d kept pieces bytes → IsReading T d kept pieces (bytes ++ take 0 behind)
none_more T d kept pieces bytes behind h = subst (IsReading T d kept pieces) (sym (append-nil bytes)) h

pub further_stops : (T : Tables) (d : Decoder) (bytes front behind all : List ℕ) (s : Stop) → all ≡ front ++ behind → StopsWithin T d (bytes ++ front) s → StopsWithin T d (bytes ++ all) s
further_stops T d bytes front behind all s is h = within_more T d (bytes ++ front) behind (bytes ++ all) s (ap (λ z. bytes ++ z) is ∙ sym (append_assoc bytes front behind)) h

pub taken_further : (T : Tables) (d : Decoder) (kept : Held) (pieces : Option Region) (bytes behind left : List ℕ) (n k : ℕ) → left ≡ drop n behind → IsReading T d kept pieces ((bytes ++ take n behind) ++ take k left)
    → IsReading T d kept pieces (bytes ++ take (n + k) behind)
taken_further T d kept pieces bytes behind left n k is h =
    subst (IsReading T d kept pieces) (append_assoc bytes (take n behind) (take k left) ∙ ap (λ z. bytes ++ z) (ap (λ z. take n behind ++ take k z) is ∙ sym (take-add n k behind))) h

pub stopped_further : (T : Tables) (d : Decoder) (bytes behind left : List ℕ) (n : ℕ) (s : Stop) → left ≡ drop n behind → StopsWithin T d ((bytes ++ take n behind) ++ left) s → StopsWithin T d (bytes ++ behind) s
stopped_further T d bytes behind left n s is h =
    subst (λ z. StopsWithin T d z s) (append_assoc bytes (take n behind) left ∙ ap (λ z. bytes ++ z) (ap (λ z. take n behind ++ z) is ∙ sym (joined n behind))) h

pub stopped_early : (T : Tables) (d : Decoder) (bytes behind : List ℕ) (n : ℕ) (s : Stop) → IsStopped (der_message T) d (bytes ++ take n behind) s → IsNoCut s → StopsWithin T d (bytes ++ behind) s
stopped_early T d bytes behind n s stops other =
    stop_within T d (bytes ++ take n behind) (drop n behind) (bytes ++ behind) s (ap (λ z. bytes ++ z) (joined n behind) ∙ sym (append_assoc bytes (take n behind) (drop n behind))) stops other

-- a byte, and a front of what is behind it
pub taken_behind : (T : Tables) (old new : DerChecker) (piece behind : List ℕ) (o n : ℕ) → piece ≡ o ∷ behind → n ≤ length behind → der_bytes_fed old + length piece ≤ 2 ^ 40 → new.failed ≡ old.failed
    → ((bytes : List ℕ) → HasFedDer old T bytes → IsReading T new.decoder new.kept new.pieces ((bytes ++ o ∷ []) ++ take n behind)) → TakesDerFront T old new piece (Ok (1 + n))
taken_behind T old new piece behind o n is within room same go =
    let e : suc n ≡ 1 + n = omega arith in
    let size = ap length is in
    taken_front T old new piece (o ∷ take n behind) (1 + n) (ap (λ z. take z (o ∷ behind)) e ∙ ap (take (1 + n)) (sym is)) (omega (arith, size, within)) room same
    (λ bytes h. subst (IsReading T new.decoder new.kept new.pieces) (append_assoc bytes (o ∷ []) (take n behind)) (go bytes h))

pub stopped_behind : (T : Tables) (old new : DerChecker) (piece behind : List ℕ) (o : ℕ) (s : Stop) → piece ≡ o ∷ behind → ((bytes : List ℕ) → HasFedDer old T bytes → StopsWithin T new.decoder ((bytes ++ o ∷ []) ++ behind) s) → TakesDerFront T old new piece (Err s)
stopped_behind T old new piece behind o s is stops =
    stopped_front T old new piece piece [] s (sym (append-nil piece)) (λ bytes h. subst (λ z. StopsWithin T new.decoder z s) (append_assoc bytes (o ∷ []) behind ∙ ap (λ z. bytes ++ z) (sym is)) (stops bytes h))

-- ---- a whole piece

-- these bytes and a front of the piece were given, and the rest is left
pub record GivenSoFar (T : Tables) (checker : DerChecker) (bytes piece rest : List ℕ) : Type 0 where
  pub seen : List ℕ
  pub piece_is : piece ≡ seen ++ rest
  pub fed_are : HasFedDer checker T (bytes ++ seen)

pub none_given : (T : Tables) (checker : DerChecker) (bytes piece : List ℕ) → HasFedDer checker T bytes → GivenSoFar T checker bytes piece piece
none_given T checker bytes piece h = record { seen = []; piece_is = refl; fed_are = subst (HasFedDer checker T) (sym (append-nil bytes)) h }

pub all_given : (T : Tables) (checker : DerChecker) (bytes piece : List ℕ) → GivenSoFar T checker bytes piece [] → HasFedDer checker T (bytes ++ piece)
all_given T checker bytes piece s = subst (λ z. HasFedDer checker T (bytes ++ z)) (sym (s.piece_is ∙ append-nil s.seen)) s.fed_are

pub more_given : (T : Tables) (old new : DerChecker) (bytes piece rest behind : List ℕ) (n : ℕ) (s : GivenSoFar T old bytes piece rest) → rest ≡ take n rest ++ behind → HasFedDer new T ((bytes ++ s.seen) ++ take n rest) → GivenSoFar T new bytes piece behind
more_given T old new bytes piece rest behind n s is h = record {
  seen = s.seen ++ take n rest;
  piece_is = s.piece_is ∙ (ap (λ z. s.seen ++ z) is ∙ sym (append_assoc s.seen (take n rest) behind));
  fed_are = subst (HasFedDer new T) (append_assoc bytes s.seen (take n rest)) h;
}

pub stops_given : (T : Tables) (old : DerChecker) (d : Decoder) (bytes piece rest : List ℕ) (s : Stop) (g : GivenSoFar T old bytes piece rest) → StopsWithin T d ((bytes ++ g.seen) ++ rest) s → StopsWithin T d (bytes ++ piece) s
stops_given T old d bytes piece rest s g h = subst (λ z. StopsWithin T d z s) (append_assoc bytes g.seen rest ∙ ap (λ z. bytes ++ z) (sym g.piece_is)) h

pub room_left : (T : Tables) (first checker : DerChecker) (bytes piece rest : List ℕ) → HasFedDer first T bytes → der_bytes_fed first + length piece ≤ 2 ^ 40 → GivenSoFar T checker bytes piece rest → der_bytes_fed checker + length rest ≤ 2 ^ 40
room_left T first checker bytes piece rest h room g =
    let a = fed_is T first bytes h in let b = fed_is T checker (bytes ++ g.seen) g.fed_are in let c = length-append bytes g.seen in let d = ap length g.piece_is in let e = length-append g.seen rest in
    omega (arith, a, b, c, d, e, room)

pub count_is : (T : Tables) (old new : DerChecker) (bytes piece : List ℕ) → HasFedDer old T bytes → HasFedDer new T (bytes ++ piece) → der_bytes_fed new ≡ der_bytes_fed old + length piece
count_is T old new bytes piece h k =
    let a = fed_is T old bytes h in let b = fed_is T new (bytes ++ piece) k in let c = length-append bytes piece in omega (arith, a, b, c)

pub stops_same : (T : Tables) (bytes : List ℕ) (e told : InstanceError) → IsSameOrMemory e told → DerStops T bytes e → DerStops T bytes told
stops_same T bytes e told (inl same) h = subst (DerStops T bytes) (sym same) h
stops_same T bytes e told (inr none) h = subst (DerStops T bytes) (sym none) tt

-- ---- how deep it is

pub depth_is : (T : Tables) (checker : DerChecker) (bytes : List ℕ) (h : HasFedDer checker T bytes) → length checker.decoder.levels.items + due_depth checker.decoder.due ≡ open_count h.reading.read.state
depth_is T checker bytes h = (let d = checker.decoder in depth_counts (der_message T) d.levels.items d.due d.start d.place bytes h.reading.read)

-- ---- what is held

-- where a leaf is open the octets that have come of it are fewer than 2^40
pub open_short : (T : Tables) (checker : DerChecker) (bytes : List ℕ) (leaf : OpenLeaf) (h : HasFedDer checker T bytes) → checker.kept.leaf ≡ Some leaf → length h.reading.read.rest < 2 ^ 40
open_short T checker bytes leaf h opened = by d.due refl h.reading.keeps
  where
    d : Decoder
    d = checker.decoder

    other : checker.kept.leaf ≡ None → length h.reading.read.rest < 2 ^ 40
    other none = absurd (let both = sym none ∙ opened in cc)

    by : (x : Due) → d.due ≡ x → KeepsContents T x checker.pieces d.start bytes checker.kept → length h.reading.read.rest < 2 ^ 40
    by (due.Contents spot left) is k =
        let m = der_message T in
        let xs = inwards d.levels.items in
        let few = come_short T d bytes spot left is h.reading.read in
        let place = place_counts m xs d.due d.start d.place bytes h.reading.read in
        let size = ap length (rest_from m xs d.due d.start d.place bytes h.reading.read) in
        let most = h.short in
        omega (arith, few, place, size, most)
    by (due.Tag step) is k = other k.1
    by (due.Length c spot step) is k = other k.1
    by due.Over is k = other k.1

pub scratch_is : (T : Tables) (checker : DerChecker) (bytes : List ℕ) (held : ℕ) (h : HasFedDer checker T bytes) → held ≡ held_with_check checker.kept → HoldsTwice checker.kept.leaf h.reading.read.rest (length checker.kept.octets.items) held
    → IsHeldWithin (open_limit (der_message T) h.reading.read.state) (leaf_come h.reading.read.state h.reading.read.rest) held
scratch_is T checker bytes held h is twice = (let d = checker.decoder in held_open T (inwards d.levels.items) d.due d.start d.place bytes checker.pieces checker.kept held h.reading.read h.reading.keeps is twice)

pub token_is : (T : Tables) (checker : DerChecker) (bytes : List ℕ) (h : HasFedDer checker T bytes) → (token_held checker ≡ token_come h.reading.read.state h.reading.read.rest) × (token_held checker ≤ 8)
token_is T checker bytes h = (let d = checker.decoder in token_open (der_message T) (inwards d.levels.items) d.due d.start d.place bytes h.reading.read)
