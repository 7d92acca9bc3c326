-- Runs of components where pieces are kept.
use Rattle.std.specs.Prelude.{slice_set}
use Rattle.std.proofs.Common.{◌≡◌, ℕ, zero, suc, ◌+◌, ◌-◌, ◌<◌, ◌≤◌, true, false, List, [], ◌∷◌, ◌++◌, length, take, Option, Some, refl, sym, ap, ◌∙◌, subst, arith}
use Rattle.data_types.specs.Leaf.{Leaf}
use Rattle.der_octets.specs.TagSteps.{tag_view}
use Rattle.der_octets.specs.declared.tag_step.Identifier as ids
use Rattle.inst_pool.specs.Pieces.{Region}
use Rattle.message_model.specs.Tables.{Tables}
use Rattle.der_model.specs.DerMessage.{DerMessage, der_message}
use Rattle.der_model.specs.States as states
use Rattle.der_model.specs.States.{level_answer}
use Rattle.der_model.specs.ShownPieces.{end_each, elements_ended}
use Rattle.der_model.specs.NestedPieces.{elements_around}
use Rattle.der_codec.specs.Components.{IsFound}
use Rattle.der_codec.specs.Decoding.{Reads, HasReadParts, IsFresh, IsFreshOrOver, IsBelowEnd, IsAdvanced, end_of_first, level_at}
use Rattle.der_codec.specs.Judging.{HoldsContents}
use Rattle.der_codec.specs.KeptPieces.{KeepsShown, GoOnByBegun, GoesOnByLast, HoldsLeafAt, IsLastSpot, PiecesGoOn, AreOpen, around_of}
use Rattle.der_codec.specs.Levels.{IsLevel, inwards, first_of, rest_of}
use Rattle.der_codec.specs.Reserved.{HasEnough, HoldMore, HoldBegun, HoldLeafWithin}
use Rattle.der_codec.specs.inner.Entering.{HasBegunComponent, StandsFirst}
use Rattle.der_codec.specs.inner.KeptRuns.{run_at, decoder_at, checker_at, RunKeeps, StaysInRun}
use Rattle.der_codec.specs.inner.Runs.{RunReads, IsOneOctet}
use Rattle.der_codec.specs.declared.begun.Begun.{Begun}
use Rattle.der_codec.specs.declared.checker.DerChecker.{DerChecker}
use Rattle.der_codec.specs.declared.components.Found.TheVariants as found
use Rattle.der_codec.specs.declared.decoder.Decoder.{Decoder}
use Rattle.der_codec.specs.declared.decoder.Due.{Due}
use Rattle.der_codec.specs.declared.decoder.Due.TheVariants as due
use Rattle.der_codec.specs.declared.level.Level.{Level}
use Rattle.der_codec.specs.declared.level.Spot.{Spot}
use Rattle.der_codec.specs.declared.usual.Run.{Run}
use Rattle.der_codec.proofs.Inwards.{set_inwards}
use Rattle.der_codec.proofs.Keeping.{keeping_as, grows_same, enough_then}
use Rattle.der_codec.proofs.LastSpots.{last_begun_spot, last_open_spot}
use Rattle.der_codec.proofs.RoomSteps.{begun_enough, leaf_enough, value_end_enough}
use Rattle.der_codec.proofs.Runs.{run_begins, first_rest, fresh_is, fresh_start, begun}
use Rattle.der_codec.proofs.ShownFed.{end_open, end_shown, value_ends}
use Rattle.der_codec.proofs.ShownUsual.{shows_as}
use Rattle.der_codec.proofs.UsualFed.{entered, passed}
use Rattle.der_codec.proofs.UsualSteps.{none_taken}
use Rattle.der_codec.proofs.StepTies.{reads_as}

-- ---- the reader where the run ends

size_set : (xs : List Level) (k : ℕ) (x : Level) → length (slice_set xs k x) ≡ length xs
size_set [] k x = refl
size_set (y ∷ xs) zero x = refl
size_set (y ∷ xs) (suc k) x = ap suc (size_set xs k x)

pub levels_at : (d : Decoder) (run : Run) → 0 < length d.levels.items → inwards (decoder_at d run).levels.items ≡ run.level ∷ rest_of (inwards d.levels.items)
levels_at d run some = set_inwards d.levels.items run.level some

pub size_at : (d : Decoder) (run : Run) → length (decoder_at d run).levels.items ≡ length d.levels.items
size_at d run = size_set d.levels.items (length d.levels.items - 1) run.level

pub first_at : (d : Decoder) (run : Run) → 0 < length d.levels.items → Some run.level ≡ first_of (inwards (decoder_at d run).levels.items)
first_at d run some = sym (ap first_of (levels_at d run some))

pub run_reads : (m : DerMessage ℕ) (d : Decoder) (run : Run) (bytes : List ℕ) → 0 < length d.levels.items → HasReadParts m (decoder_at d run) bytes → RunReads m d run bytes
run_reads m d run bytes some r = subst (λ z. Reads m z d.due run.place run.place bytes) (levels_at d run some) r

pub parts_read : (m : DerMessage ℕ) (d : Decoder) (run : Run) (bytes : List ℕ) → 0 < length d.levels.items → RunReads m d run bytes → HasReadParts m (decoder_at d run) bytes
parts_read m d run bytes some r = subst (λ z. Reads m z d.due run.place run.place bytes) (sym (levels_at d run some)) r

-- what is enough for the checker is so there
pub enough_at : (T : Tables) (c : DerChecker) (run : Run) (bytes : List ℕ) → HasEnough c T bytes → HasEnough (checker_at c run) T bytes
enough_at T c run bytes h = enough_then T c (checker_at c run) bytes bytes refl (λ k. keeping_as T c (checker_at c run) refl (omega arith) (omega arith) (λ bytes h. h) (grows_same c.pieces) k) refl h

-- ---- a run begins and ends

pub keeps_begin : (T : Tables) (c : DerChecker) (run : Run) (bytes : List ℕ) → 0 < length c.decoder.levels.items → IsFresh c.decoder.due → Some run.level ≡ first_of (inwards c.decoder.levels.items) → run.place ≡ c.decoder.place
    → HasReadParts (der_message T) c.decoder bytes → KeepsShown (der_message T) c.decoder c.pieces bytes → RunKeeps T c run bytes
keeps_begin T c run bytes some fresh first at r shows =
    let m = der_message T in
    let d = c.decoder in
    let xs = inwards d.levels.items in
    let start : run.place ≡ d.start = at ∙ sym (fresh_start m xs d.due d.start d.place bytes fresh r) in (
      parts_read m d run bytes some (run_begins m d run bytes fresh first at r),
      shows_as m (inwards (decoder_at d run).levels.items) xs d.due d.due run.place d.start run.place d.place c.pieces bytes (levels_at d run some ∙ first_rest xs run.level first) refl start at shows,
    )

pub keeps_left : (T : Tables) (c : DerChecker) (run : Run) (new : Decoder) (bytes : List ℕ) → 0 < length c.decoder.levels.items → inwards new.levels.items ≡ run.level ∷ rest_of (inwards c.decoder.levels.items) → new.place ≡ run.place → new.start ≡ run.place → new.due ≡ c.decoder.due
    → RunKeeps T c run bytes → HasReadParts (der_message T) new bytes × KeepsShown (der_message T) new c.pieces bytes
keeps_left T c run new bytes some levels placed started same (r, shows) =
    let m = der_message T in
    let d = c.decoder in
    let xs = inwards new.levels.items in
    let ys = inwards (decoder_at d run).levels.items in
    let there : xs ≡ ys = levels ∙ sym (levels_at d run some) in (
      reads_as m xs ys new.due d.due new.start run.place new.place run.place bytes there same started placed r,
      shows_as m xs ys new.due d.due new.start run.place new.place run.place c.pieces bytes there same started placed shows,
    )

-- ---- a component begins

pub begun_at : (m : DerMessage ℕ) (d : Decoder) (run : Run) (around : Level) (bytes : List ℕ) (o n number : ℕ) (id : ids.Identifier) (spot : Spot) → 0 < length d.levels.items → IsFresh d.due → IsOneOctet o id → run.place < run.level.end → n < 128
    → ((l : states.DerLevel ℕ) → IsLevel m.forms run.level l → IsFound m.forms (found.Begins number spot) (level_answer m l id.constructed (tag_view id))) → IsAdvanced run.level number around → run.place + 2 + n ≤ run.level.end → HasReadParts m (decoder_at d run) bytes
    → HasBegunComponent m (decoder_at d run) bytes o n (record { around = around; spot = spot; constructed = id.constructed; end = run.place + 2 + n })
begun_at m d run around bytes o n number id spot some fresh one low short h advanced fits r =
    let t = none_taken in
    let f = fresh_is d.due fresh in
    let at = run.place + 1 in
    let ends = advanced.end in
    record {
      step = t.0;
      none_taken = t.1;
      read =
          subst (λ z. Reads m (around ∷ rest_of z) (due.Length id.constructed spot t.0) at at (bytes ++ o ∷ [])) (sym (levels_at d run some))
          (begun m d run around bytes o number id spot t.0 (run_reads m d run bytes some r) fresh one low h advanced t.1 id.constructed refl);
      short = short;
      tag_step = f.0;
      due_is = f.1;
      below = subst (λ z. IsBelowEnd run.place (end_of_first z)) (sym (levels_at d run some)) low;
      end_is = refl;
      fits = omega (arith, fits, ends);
    }

-- ---- it is entered

pub entered_at : (T : Tables) (c : DerChecker) (run : Run) (new : Decoder) (b : Begun) (n : ℕ) (behind piece bytes : List ℕ) (kept : Option Region) → 0 < length c.decoder.levels.items → 0 < length new.levels.items → IsFresh c.decoder.due → new.due ≡ c.decoder.due
    → inwards new.levels.items ≡ level_at b.spot b.end ∷ b.around ∷ rest_of (inwards c.decoder.levels.items) → StandsFirst (der_message T) (decoder_at c.decoder run) bytes b n behind piece → b.constructed ≡ true → GoOnByBegun (der_message T) b.around c.pieces kept → RunKeeps T c run bytes
    → HasReadParts (der_message T) (decoder_at new (run_at (level_at b.spot b.end) (run.place + 2))) (bytes ++ take 2 piece) × KeepsShown (der_message T) (decoder_at new (run_at (level_at b.spot b.end) (run.place + 2))) kept (bytes ++ take 2 piece)
entered_at T c run new b n behind piece bytes kept some open_now fresh same levels stands constructed goes (r, shows) =
    let inner = level_at b.spot b.end in
    let after = run_at inner (run.place + 2) in
    let clean : IsFresh new.due = subst IsFresh (sym same) fresh in
    let there : inwards (decoder_at new after).levels.items ≡ inner ∷ b.around ∷ rest_of (inwards (decoder_at c.decoder run).levels.items) =
    levels_at new after open_now ∙ (ap (λ z. inner ∷ rest_of z) levels ∙ ap (λ z. inner ∷ b.around ∷ rest_of z) (sym (levels_at c.decoder run some))) in
    entered T (checker_at c run) (decoder_at new after) b n behind piece bytes kept r shows stands constructed goes there refl refl (fresh_is new.due clean) clean

pub enters_enough : (T : Tables) (c : DerChecker) (run : Run) (b : Begun) (n : ℕ) (behind piece bytes : List ℕ) → StandsFirst (der_message T) (decoder_at c.decoder run) bytes b n behind piece → RunKeeps T c run bytes → HasEnough c T (bytes ++ piece) → HoldBegun (der_message T) b.around c.pieces
enters_enough T c run b n behind piece bytes stands (r, shows) h = begun_enough T (checker_at c run) b n behind piece bytes r shows stands (enough_at T c run (bytes ++ piece) h)

-- ---- a leaf, which is passed

pub passed_at : (T : Tables) (c : DerChecker) (run : Run) (b : Begun) (n : ℕ) (behind piece bytes contents : List ℕ) (kept : Option Region) → 0 < length c.decoder.levels.items → IsFresh c.decoder.due → StandsFirst (der_message T) (decoder_at c.decoder run) bytes b n behind piece → b.constructed ≡ false
    → contents ≡ take n behind → n ≤ length behind → HoldsContents (der_message T) b.spot contents → GoesOnByLast (der_message T) b.around b.spot contents c.pieces kept → RunKeeps T c run bytes
    → HasReadParts (der_message T) (decoder_at c.decoder (run_at b.around b.end)) (bytes ++ take (2 + n) piece) × KeepsShown (der_message T) (decoder_at c.decoder (run_at b.around b.end)) kept (bytes ++ take (2 + n) piece)
passed_at T c run b n behind piece bytes contents kept some fresh stands primitive is within held goes (r, shows) =
    let after = run_at b.around b.end in
    let there : inwards (decoder_at c.decoder after).levels.items ≡ b.around ∷ rest_of (inwards (decoder_at c.decoder run).levels.items) =
    levels_at c.decoder after some ∙ ap (λ z. b.around ∷ rest_of z) (sym (levels_at c.decoder run some)) in
    passed T (checker_at c run) (decoder_at c.decoder after) b n behind piece bytes contents kept r shows stands primitive is within held goes there refl refl (fresh_is c.decoder.due fresh) fresh

pub passes_enough : (T : Tables) (c : DerChecker) (run : Run) (b : Begun) (n : ℕ) (behind piece bytes contents : List ℕ) (leaf : Leaf) → 0 < length c.decoder.levels.items → StandsFirst (der_message T) (decoder_at c.decoder run) bytes b n behind piece → b.constructed ≡ false
    → contents ≡ take n behind → n ≤ length behind → HoldsLeafAt (der_message T) b.spot contents leaf → RunKeeps T c run bytes → HasEnough c T (bytes ++ piece) → HoldLeafWithin (der_message T) b.around leaf c.pieces
passes_enough T c run b n behind piece bytes contents leaf some stands primitive is within at (r, shows) h =
    leaf_enough T (checker_at c run) b n behind piece bytes contents leaf r shows stands primitive is within (subst (λ z. 0 < z) (sym (size_at c.decoder run)) some) at (enough_at T c run (bytes ++ piece) h)

-- the component is the last of the value round it
pub last_at : (m : DerMessage ℕ) (d : Decoder) (b : Begun) (n : ℕ) (behind piece bytes : List ℕ) → StandsFirst m d bytes b n behind piece → IsLastSpot m b.around b.spot
last_at m d b n behind piece bytes stands = last_begun_spot m b.around _ b.constructed b.spot stands.begun.step _ _ _ stands.begun.read

-- ---- a value ends

-- The value ends in which the run stands, and that round it goes on, with these levels and this piece of the run.
pub record EndsInRun (T : Tables) (c : DerChecker) (run : Run) (new : Decoder) (after : Run) (bytes : List ℕ) : Type 0 where
  pub here : RunKeeps T c run bytes
  pub read : HasReadParts (der_message T) (decoder_at new after) bytes
  pub fresh : IsFresh c.decoder.due
  pub same : new.due ≡ c.decoder.due
  pub one : length new.levels.items + 1 ≡ length c.decoder.levels.items

pub ends_in : (T : Tables) (c : DerChecker) (run : Run) (new : Decoder) (after : Run) (bytes : List ℕ) → 0 < length c.decoder.levels.items → 0 < length new.levels.items → IsFresh c.decoder.due → new.due ≡ c.decoder.due → length new.levels.items + 1 ≡ length c.decoder.levels.items
    → (RunReads (der_message T) c.decoder run bytes → RunReads (der_message T) new after bytes) → RunKeeps T c run bytes → EndsInRun T c run new after bytes
ends_in T c run new after bytes some open_now fresh same one goes k = record {
  here = k;
  read = parts_read (der_message T) new after bytes open_now (goes (run_reads (der_message T) c.decoder run bytes some k.0));
  fresh = fresh;
  same = same;
  one = one;
}

fewer_at : (d new : Decoder) (run after : Run) → length new.levels.items + 1 ≡ length d.levels.items → length (decoder_at new after).levels.items + 1 ≡ length (decoder_at d run).levels.items
fewer_at d new run after one = (let a = size_at d run in let b = size_at new after in omega (arith, a, b, one))

fresh_after : (c : DerChecker) (new : Decoder) → IsFresh c.decoder.due → new.due ≡ c.decoder.due → IsFreshOrOver new.due
fresh_after c new fresh same = subst IsFreshOrOver (sym same) (either c.decoder.due fresh)
  where
    either : (d : Due) → IsFresh d → IsFreshOrOver d
    either (due.Tag step) f = f
    either d f = absurd f

pub ends_open : (T : Tables) (c : DerChecker) (run : Run) (new : Decoder) (after : Run) (bytes : List ℕ) → (e : EndsInRun T c run new after bytes) → AreOpen c.pieces (elements_around (der_message T) (around_of e.read.state))
ends_open T c run new after bytes e =
    end_open (der_message T) (decoder_at c.decoder run) (decoder_at new after) c.pieces bytes e.fresh (fresh_after c new e.fresh e.same) (fewer_at c.decoder new run after e.one) e.here.0 e.here.1 e.read

pub ends_shown : (T : Tables) (c : DerChecker) (run : Run) (new : Decoder) (after : Run) (kept : Option Region) (bytes : List ℕ) → (e : EndsInRun T c run new after bytes)
    → ((t : HasReadParts (der_message T) (decoder_at new after) bytes) → AreOpen c.pieces (elements_around (der_message T) (around_of t.state)) → PiecesGoOn c.pieces kept (end_each (elements_ended (der_message T) (around_of t.state)))) → KeepsShown (der_message T) (decoder_at new after) kept bytes
ends_shown T c run new after kept bytes e goes =
    let m = der_message T in
    let d = decoder_at c.decoder run in
    let clean = fresh_after c new e.fresh e.same in
    let fewer = fewer_at c.decoder new run after e.one in
    end_shown m d (decoder_at new after) c.pieces kept bytes e.fresh clean fewer e.here.0 e.here.1 (λ t. goes t (end_open m d (decoder_at new after) c.pieces bytes e.fresh clean fewer e.here.0 e.here.1 t))

pub ends_enough : (T : Tables) (c : DerChecker) (run : Run) (new : Decoder) (after : Run) (bytes : List ℕ) → (e : EndsInRun T c run new after bytes) → HasEnough c T bytes → HoldMore c.pieces (end_each (elements_ended (der_message T) (around_of e.read.state)))
ends_enough T c run new after bytes e h =
    let m = der_message T in
    value_end_enough T (checker_at c run) (decoder_at new after) bytes e.here.0 e.read e.here.1
    (value_ends m (decoder_at c.decoder run) (decoder_at new after) bytes e.fresh (fresh_after c new e.fresh e.same) (fewer_at c.decoder new run after e.one) e.here.0 e.read) (enough_at T c run bytes h)

-- it is the last component of that round it
pub last_ended : (m : DerMessage ℕ) (d : Decoder) (run : Run) (new : Decoder) (after : Run) (bytes : List ℕ) → 0 < length d.levels.items → IsFresh d.due → after.level ∷ rest_of (inwards new.levels.items) ≡ rest_of (inwards d.levels.items) → HasReadParts m (decoder_at d run) bytes → IsLastSpot m after.level run.level.spot
last_ended m d run new after bytes some fresh levels r =
    last_open_spot m run.level after.level (rest_of (inwards new.levels.items)) d.due run.place run.place bytes fresh (subst (λ z. Reads m (run.level ∷ z) d.due run.place run.place bytes) (sym levels) (run_reads m d run bytes some r))

-- ---- what stays

-- where nothing of it is changed, it keeps the same
pub keeps_as : (T : Tables) (old new : DerChecker) (run after : Run) (bytes : List ℕ) → new.decoder ≡ old.decoder → new.pieces ≡ old.pieces → after ≡ run → RunKeeps T old run bytes → RunKeeps T new after bytes
keeps_as T old new run after bytes d p e k =
    let m = der_message T in
    subst (λ (z : Run). RunKeeps T new z bytes) (sym e)
    (subst (λ (z : Decoder). HasReadParts m (decoder_at z run) bytes × KeepsShown m (decoder_at z run) new.pieces bytes) (sym d)
    (subst (λ z. HasReadParts m (decoder_at old.decoder run) bytes × KeepsShown m (decoder_at old.decoder run) z bytes) (sym p) k))

pub stays_same : (T : Tables) (c : DerChecker) → StaysInRun T c c
stays_same T c = record { kept = refl; sound = refl; room = refl; due = refl; keeps = λ k. k; alone = λ none. none }

pub stays_then : (T : Tables) (old mid new : DerChecker) → StaysInRun T old mid → StaysInRun T mid new → StaysInRun T old new
stays_then T old mid new a b = record {
  kept = b.kept ∙ a.kept;
  sound = b.sound ∙ a.sound;
  room = b.room ∙ a.room;
  due = b.due ∙ a.due;
  keeps = λ k. b.keeps (a.keeps k);
  alone = λ none. b.alone (a.alone none);
}

-- ---- at the end of a run

pub run_kept_left : (T : Tables) (c : DerChecker) (run : Run) (new : Decoder) (bytes piece : List ℕ) (n taken : ℕ) → n ≡ taken → 0 < length c.decoder.levels.items → inwards new.levels.items ≡ run.level ∷ rest_of (inwards c.decoder.levels.items) → new.place ≡ run.place → new.start ≡ run.place → new.due ≡ c.decoder.due
    → RunKeeps T c run (bytes ++ take taken piece) → HasReadParts (der_message T) new (bytes ++ take n piece) × KeepsShown (der_message T) new c.pieces (bytes ++ take n piece)
run_kept_left T c run new bytes piece n taken size some levels placed started same k =
    let m = der_message T in
    subst (λ z. HasReadParts m new (bytes ++ take z piece) × KeepsShown m new c.pieces (bytes ++ take z piece)) (sym size) (keeps_left T c run new (bytes ++ take taken piece) some levels placed started same k)
