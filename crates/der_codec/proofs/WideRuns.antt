-- A component in a run whose length has more octets than one, where pieces are kept.
use Rattle.std.proofs.Common.{◌≡◌, ℕ, ◌+◌, ◌<◌, true, List, [], ◌∷◌, ◌++◌, length, take, Option, Some, None, refl, sym, ap, ◌∙◌, subst, arith, append_assoc}
use Rattle.std.proofs.lemmas.List.{nil_from_length, length-take-le}
use Rattle.der_octets.specs.TagSteps as tags
use Rattle.der_octets.specs.declared.tag_step.TagStep.{TagStep}
use Rattle.der_octets.specs.declared.length_step.LengthStep.{LengthStep}
use Rattle.inst_pool.specs.Pieces.{Region}
use Rattle.message_model.specs.Tables.{Tables}
use Rattle.der_model.specs.DerMessage.{DerMessage, der_message}
use Rattle.der_codec.specs.Decoding.{Reads, HasReadParts, IsFresh, level_at}
use Rattle.der_codec.specs.KeptPieces.{Shows, KeepsShown, GoOnByBegun}
use Rattle.der_codec.specs.Levels.{inwards, rest_of}
use Rattle.der_codec.specs.inner.Entering.{HasBegunComponent, StandsFirst}
use Rattle.der_codec.specs.inner.KeptRuns.{run_at, decoder_at, checker_at, HasBegunWide, EntersBy, RunKeeps}
use Rattle.der_codec.specs.inner.Runs.{AreLengthOctets}
use Rattle.der_codec.specs.declared.begun.Begun.{Begun}
use Rattle.der_codec.specs.declared.checker.DerChecker.{DerChecker}
use Rattle.der_codec.specs.declared.decoder.Decoder.{Decoder}
use Rattle.der_codec.specs.declared.decoder.Due.TheVariants as due
use Rattle.der_codec.specs.declared.level.Level.{Level}
use Rattle.der_codec.specs.declared.level.Spot.{Spot}
use Rattle.der_codec.specs.declared.usual.Run.{Run}
use Rattle.der_codec.specs.declared.wide.WideBegun.{WideBegun}
use Rattle.der_codec.proofs.KeptRuns.{levels_at, enough_at, last_at, enters_enough, entered_at}
use Rattle.der_codec.proofs.Keeping.{enough_less, behind_is}
use Rattle.der_codec.proofs.LastSpots.{last_begun_spot}
use Rattle.der_codec.proofs.RoomSteps.{component_enough}
use Rattle.der_codec.proofs.Runs.{fresh_is, wide_opens}
use Rattle.der_codec.proofs.ShownFed.{open_length}
use Rattle.der_codec.proofs.ShownSteps.{shows_on, goes_same, lengths_add}
use Rattle.der_codec.proofs.ShownUsual.{identifier_shown, shows_as}
use Rattle.der_codec.proofs.StepTies.{reads_as}
use Rattle.der_codec.proofs.UsualSteps.{front_more as two_more}

-- ---- which pieces are shown with length octets: none

wide_shown : (m : DerMessage ℕ) (x : Level) (ys : List Level) (spot : Spot) (step : LengthStep) (f : TagStep) (at end first n : ℕ) (bytes more : List ℕ) (kept : Option Region) → (b : Reads m ys (due.Length true spot step) at at bytes) → Shows m ys (due.Length true spot step) at at kept bytes
    → AreLengthOctets first more n → IsFresh (due.Tag f) → Shows m (x ∷ ys) (due.Tag f) end end kept (bytes ++ first ∷ more)
wide_shown m x ys spot step f at end first n bytes more kept b shows l fresh =
    let none : b.rest ≡ [] = nil_from_length b.rest (let a = b.start_is in let p = b.place_is in omega arith) in
    let are : b.rest ++ first ∷ more ≡ l.front ++ l.last ∷ [] = ap (λ z. z ++ first ∷ more) none ∙ l.are in
    shows_on m ys (x ∷ ys) (due.Length true spot step) (due.Tag f) at at end end bytes (bytes ++ first ∷ more) kept kept b shows (λ t. (
      [],
      goes_same kept kept refl,
      lengths_add m ys (x ∷ ys) true spot step l.step (due.Tag f) at at end end bytes (first ∷ more) l.front l.last b are l.taken (omega arith) (λ some. absurd (some fresh)) tt t
          (let after = open_length m (x ∷ ys) (due.Tag f) t.state t.is_open in let before = open_length m ys (due.Length true spot step) b.state b.is_open in omega (arith, after, before)),
    ))

-- ---- it is entered

-- the elements that begin with it
elements_shown : (m : DerMessage ℕ) (d : Decoder) (b : Begun) (bytes : List ℕ) (o n : ℕ) (h : HasBegunComponent m d bytes o n b) → HasReadParts m d bytes → (old new : Option Region) → KeepsShown m d old bytes → GoOnByBegun m b.around old new
    → Shows m (b.around ∷ rest_of (inwards d.levels.items)) (due.Length b.constructed b.spot h.step) (d.place + 1) (d.place + 1) new (bytes ++ o ∷ [])
elements_shown m d b bytes o n h r None None shows goes = tt
elements_shown m d b bytes o n h r None (Some kept) shows goes = absurd goes
elements_shown m d b bytes o n h r (Some old) None shows goes = absurd goes
elements_shown m d b bytes o n h r (Some old) (Some kept) shows (edges, are, is) = identifier_shown m d b (Some old) (Some kept) bytes o n edges r shows h are is

pub wide_entered : (T : Tables) (c : DerChecker) (run : Run) (new : Decoder) (w : WideBegun) (o n : ℕ) (behind piece bytes : List ℕ) (kept : Option Region) → 0 < length c.decoder.levels.items → 0 < length new.levels.items → IsFresh c.decoder.due → new.due ≡ c.decoder.due
    → inwards new.levels.items ≡ level_at w.begun.spot w.begun.end ∷ w.begun.around ∷ rest_of (inwards c.decoder.levels.items) → HasBegunWide (der_message T) (decoder_at c.decoder run) bytes o n behind w → piece ≡ o ∷ n ∷ behind → GoOnByBegun (der_message T) w.begun.around c.pieces kept → RunKeeps T c run bytes
    → HasReadParts (der_message T) (decoder_at new (run_at (level_at w.begun.spot w.begun.end) (run.place + (2 + w.more)))) (bytes ++ take (2 + w.more) piece)
    × KeepsShown (der_message T) (decoder_at new (run_at (level_at w.begun.spot w.begun.end) (run.place + (2 + w.more)))) kept (bytes ++ take (2 + w.more) piece)
wide_entered T c run new w o n behind piece bytes kept some open_now fresh same levels h is goes (r, shows) = (
  subst (HasReadParts m e) all (reads_as m zs (inner ∷ ys) new.due (due.Tag f.0) end (at + (1 + length more)) end (at + (1 + length more)) octets there (same ∙ f.1) ends ends (subst (λ z. Reads m (level_at b.spot z ∷ ys) (due.Tag f.0) (at + (1 + length more)) (at + (1 + length more)) octets) (sym ends_at) opened)),
  subst (KeepsShown m e kept) all (shows_as m zs (inner ∷ ys) new.due (due.Tag f.0) end end end end kept octets there (same ∙ f.1) refl refl shown),
)
  where
    m : DerMessage ℕ
    m = der_message T

    d : Decoder
    d = decoder_at c.decoder run

    b : Begun
    b = w.begun

    more : List ℕ
    more = take w.more behind

    inner : Level
    inner = level_at b.spot b.end

    ys : List Level
    ys = b.around ∷ rest_of (inwards d.levels.items)

    end : ℕ
    end = run.place + (2 + w.more)

    at : ℕ
    at = run.place + 1

    e : Decoder
    e = decoder_at new (run_at inner end)

    zs : List Level
    zs = inwards e.levels.items

    octets : List ℕ
    octets = (bytes ++ o ∷ []) ++ n ∷ more

    f : (step : TagStep) × (c.decoder.due ≡ due.Tag step) × tags.HasTakenTag step []
    f = fresh_is c.decoder.due fresh

    size : length more ≡ w.more
    size = length-take-le w.more behind h.within

    ends : end ≡ at + (1 + length more)
    ends = omega (arith, size)

    ends_at : b.end ≡ at + (1 + length more) + h.count
    ends_at = (let is = h.end_is in omega (arith, is, size))

    there : zs ≡ inner ∷ ys
    there = levels_at new (run_at inner end) open_now ∙ (ap (λ z. inner ∷ rest_of z) levels ∙ ap (λ z. inner ∷ b.around ∷ rest_of z) (sym (levels_at c.decoder run some)))

    opened : Reads m (level_at b.spot (at + (1 + length more) + h.count) ∷ ys) (due.Tag f.0) (at + (1 + length more)) (at + (1 + length more)) octets
    opened = wide_opens m ys b.spot h.begun.step f.0 at n h.count (bytes ++ o ∷ []) more h.begun.read h.octets (let is = h.end_is in let fits = h.fits in omega (arith, is, fits, size)) f.2

    clean : IsFresh (due.Tag f.0)
    clean = subst IsFresh f.1 fresh

    shown : Shows m (inner ∷ ys) (due.Tag f.0) end end kept octets
    shown = wide_shown m inner ys b.spot h.begun.step f.0 at end n h.count (bytes ++ o ∷ []) more kept h.begun.read (elements_shown m d _ bytes o 0 h.begun r c.pieces kept shows goes) h.octets clean

    all : octets ≡ bytes ++ take (2 + w.more) piece
    all = append_assoc bytes (o ∷ []) (n ∷ more) ∙ ap (λ z. bytes ++ z) (sym (two_more piece (n ∷ behind) behind o n w.more is refl))

-- ---- as a component is entered

pub enters_short : (T : Tables) (c : DerChecker) (run : Run) (b : Begun) (n : ℕ) (behind piece bytes : List ℕ) → 0 < length c.decoder.levels.items → IsFresh c.decoder.due → StandsFirst (der_message T) (decoder_at c.decoder run) bytes b n behind piece → b.constructed ≡ true → RunKeeps T c run bytes → EntersBy T c run bytes b 2 piece
enters_short T c run b n behind piece bytes some fresh stands constructed k = record {
  last = last_at (der_message T) (decoder_at c.decoder run) b n behind piece bytes stands;
  within = (let size = ap length stands.piece_is in omega (arith, size));
  room = λ h. enters_enough T c run b n behind piece bytes stands k h;
  goes = λ new kept open_now same levels goes. entered_at T c run new b n behind piece bytes kept some open_now fresh same levels stands constructed goes k;
}

pub enters_wide : (T : Tables) (c : DerChecker) (run : Run) (w : WideBegun) (o n : ℕ) (behind piece bytes : List ℕ) → 0 < length c.decoder.levels.items → IsFresh c.decoder.due → HasBegunWide (der_message T) (decoder_at c.decoder run) bytes o n behind w → piece ≡ o ∷ n ∷ behind → RunKeeps T c run bytes → EntersBy T c run bytes w.begun (2 + w.more) piece
enters_wide T c run w o n behind piece bytes some fresh h is k = record {
  last = last_begun_spot (der_message T) w.begun.around _ true w.begun.spot h.begun.step _ _ _ h.begun.read;
  within = (let size = ap length is in let few = h.within in omega (arith, size, few));
  room = λ e. component_enough T (checker_at c run) _ o 0 bytes k.0 k.1 h.begun (enough_less T (checker_at c run) (bytes ++ o ∷ []) (n ∷ behind) (bytes ++ piece) (behind_is bytes piece (o ∷ []) (n ∷ behind) is) (enough_at T c run (bytes ++ piece) e));
  goes = λ new kept open_now same levels goes. wide_entered T c run new w o n behind piece bytes kept some open_now fresh same levels h is goes k;
}
