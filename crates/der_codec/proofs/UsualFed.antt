-- Components of the usual form, in a checker: where it keeps no pieces, and where it keeps them.
use Rattle.std.specs.Prelude.{Ok, Err, Result}
use Rattle.std.proofs.lemmas.List.{length-take-le}
use Rattle.std.proofs.Common.{◌≡◌, ℕ, zero, suc, ◌+◌, ◌≤◌, ◌<◌, ◌^◌, true, false, List, [], ◌∷◌, ◌++◌, length, take, Option, None, refl, sym, ap, ◌∙◌, subst, arith, append-nil}
use Rattle.der_octets.specs.TagSteps as tags
use Rattle.der_octets.specs.declared.tag_step.TagStep.{TagStep}
use Rattle.inst_pool.specs.Pieces.{Region}
use Rattle.message_model.specs.Tables.{Tables}
use Rattle.der_model.specs.DerMessage.{DerMessage, der_message}
use Rattle.der_codec.specs.Decoding.{HasReadParts, IsFresh, level_at}
use Rattle.der_codec.specs.Judging.{HoldsContents}
use Rattle.der_codec.specs.KeptPieces.{KeepsShown, GoOnByBegun, GoesOnByLast}
use Rattle.der_codec.specs.Levels.{inwards, rest_of}
use Rattle.der_codec.specs.inner.Entering.{Awaits, StandsFirst}
use Rattle.der_codec.specs.Checking.{IsReading, HasFedDer, TakesDerFront, StopsWithin, der_bytes_fed}
use Rattle.der_codec.specs.declared.begun.Begun.{Begun}
use Rattle.der_codec.specs.declared.checker.DerChecker.{DerChecker}
use Rattle.der_codec.specs.declared.decoder.Decoder.{Decoder}
use Rattle.der_codec.specs.declared.decoder.Due.TheVariants as due
use Rattle.der_codec.specs.declared.decoder.Stop.{Stop}
use Rattle.der_codec.proofs.Fed.{taken_front, stopped_front, joined}
use Rattle.der_codec.proofs.ShownUsual.{header_read, leaf_taken, entered_shown, leaf_shown}
use Rattle.der_codec.proofs.UsualSteps.{front_more}

pub none_shown : (m : DerMessage ℕ) (d : Decoder) (kept : Option Region) (bytes : List ℕ) → kept ≡ None → KeepsShown m d kept bytes
none_shown m d kept bytes none = subst (λ z. KeepsShown m d z bytes) (sym none) tt

-- where nothing but checks is changed, the same bytes were given
pub fed_as : (T : Tables) (old new : DerChecker) (bytes : List ℕ) → new.decoder ≡ old.decoder → new.kept ≡ old.kept → new.pieces ≡ old.pieces → new.failed ≡ old.failed → HasFedDer old T bytes → HasFedDer new T bytes
fed_as T old new bytes decoder kept pieces failed h = record {
  reading =
      subst (λ z. IsReading T new.decoder new.kept z bytes) (sym pieces)
      (subst (λ z. IsReading T new.decoder z old.pieces bytes) (sym kept) (subst (λ (z : Decoder). IsReading T z old.kept old.pieces bytes) (sym decoder) h.reading));
  short = h.short;
  sound = failed ∙ h.sound;
}

pub front_as : (T : Tables) (old mid new : DerChecker) (piece : List ℕ) (result : Result ℕ Stop) → ((bytes : List ℕ) → HasFedDer old T bytes → HasFedDer mid T bytes) → TakesDerFront T mid new piece result → TakesDerFront T old new piece result
front_as T old mid new piece result given t = record {
  ok = λ bytes h. t.ok bytes (given bytes h);
  err = λ bytes h. t.err bytes (given bytes h);
  within = t.within;
}

-- so many bytes are taken, and the values end behind them
pub usual_taken : (T : Tables) (old mid new : DerChecker) (piece : List ℕ) (n : ℕ) → n ≤ length piece → der_bytes_fed old + length piece ≤ 2 ^ 40 → mid.failed ≡ old.failed → new.failed ≡ mid.failed
    → ((bytes : List ℕ) → HasReadParts (der_message T) old.decoder bytes → HasReadParts (der_message T) mid.decoder (bytes ++ take n piece)) → mid.pieces ≡ None
    → ((bytes : List ℕ) → HasReadParts (der_message T) mid.decoder bytes → KeepsShown (der_message T) mid.decoder mid.pieces bytes → IsReading T new.decoder new.kept new.pieces bytes) → TakesDerFront T old new piece (Ok n)
usual_taken T old mid new piece n within room same then read none go =
    taken_front T old new piece (take n piece) n refl within room (then ∙ same)
    (λ bytes h. let bytes2 = bytes ++ take n piece in go bytes2 (read bytes h.reading.read) (none_shown (der_message T) mid.decoder mid.pieces bytes2 none))

pub usual_stopped : (T : Tables) (old mid new : DerChecker) (piece : List ℕ) (n : ℕ) (s : Stop) → ((bytes : List ℕ) → HasReadParts (der_message T) old.decoder bytes → HasReadParts (der_message T) mid.decoder (bytes ++ take n piece))
    → ((bytes : List ℕ) → HasReadParts (der_message T) mid.decoder bytes → StopsWithin T new.decoder bytes s) → TakesDerFront T old new piece (Err s)
usual_stopped T old mid new piece n s read stops =
    stopped_front T old new piece (take n piece) _ s (joined n piece) (λ bytes h. stops (bytes ++ take n piece) (read bytes h.reading.read))

pub some_taken : (n : ℕ) → (n ≡ 0 → ⊥) → 0 < n
some_taken zero none = absurd (none refl)
some_taken (suc n) none = omega arith

-- ---- where pieces are kept

-- where no byte was taken, the same bytes were given
pub none_fed : (T : Tables) (old new : DerChecker) (bytes piece : List ℕ) (n : ℕ) → n ≡ 0 → TakesDerFront T old new piece (Ok n) → HasFedDer old T bytes → HasFedDer new T bytes
none_fed T old new bytes piece n none t h = subst (HasFedDer new T) (ap (λ z. bytes ++ take z piece) none ∙ append-nil bytes) (t.ok bytes h)

-- identifier octets are due, of which none has come
abbrev pub AwaitsTag : Decoder → Type 0
AwaitsTag d = (step : TagStep) × (d.due ≡ due.Tag step) × tags.HasTakenTag step []

-- a constructed value was entered
pub entered : (T : Tables) (old : DerChecker) (new : Decoder) (b : Begun) (n : ℕ) (behind piece bytes : List ℕ) (kept : Option Region) → HasReadParts (der_message T) old.decoder bytes → KeepsShown (der_message T) old.decoder old.pieces bytes → StandsFirst (der_message T) old.decoder bytes b n behind piece → b.constructed ≡ true
    → GoOnByBegun (der_message T) b.around old.pieces kept → inwards new.levels.items ≡ level_at b.spot b.end ∷ b.around ∷ rest_of (inwards old.decoder.levels.items) → new.place ≡ old.decoder.place + 2 → new.start ≡ old.decoder.place + 2 → AwaitsTag new → IsFresh new.due
    → HasReadParts (der_message T) new (bytes ++ take 2 piece) × KeepsShown (der_message T) new kept (bytes ++ take 2 piece)
entered T old new b n behind piece bytes kept r shows h constructed goes levels placed started (fresh, due_is, none) clean =
    let m = der_message T in
    let d = old.decoder in
    let ys = b.around ∷ rest_of (inwards d.levels.items) in
    let front : take 2 piece ≡ h.first ∷ n ∷ [] = ap (take 2) h.piece_is in
    let there : inwards new.levels.items ≡ level_at b.spot (d.place + 2 + n) ∷ ys = levels ∙ ap (λ z. level_at b.spot z ∷ ys) h.begun.end_is in
    let awaits : Awaits new b.constructed b.spot (d.place + 2) n ys = subst (λ z. Awaits new z b.spot (d.place + 2) n ys) (sym constructed) (there, fresh, due_is, none) in
    subst (λ z. HasReadParts m new (bytes ++ z) × KeepsShown m new kept (bytes ++ z)) (sym front) (
      header_read m d new b bytes h.first n h.begun placed started awaits,
      entered_shown m d new b old.pieces kept bytes h.first n fresh r shows h.begun goes levels placed started due_is clean,
    )

-- a leaf was passed
pub passed : (T : Tables) (old : DerChecker) (new : Decoder) (b : Begun) (n : ℕ) (behind piece bytes contents : List ℕ) (kept : Option Region) → HasReadParts (der_message T) old.decoder bytes → KeepsShown (der_message T) old.decoder old.pieces bytes → StandsFirst (der_message T) old.decoder bytes b n behind piece → b.constructed ≡ false
    → contents ≡ take n behind → n ≤ length behind → HoldsContents (der_message T) b.spot contents → GoesOnByLast (der_message T) b.around b.spot contents old.pieces kept → inwards new.levels.items ≡ b.around ∷ rest_of (inwards old.decoder.levels.items)
    → new.place ≡ b.end → new.start ≡ b.end → AwaitsTag new → IsFresh new.due → HasReadParts (der_message T) new (bytes ++ take (2 + n) piece) × KeepsShown (der_message T) new kept (bytes ++ take (2 + n) piece)
passed T old new b n behind piece bytes contents kept r shows h primitive is within held (leaf, at, goes) levels placed started (fresh, due_is, none) clean =
    let m = der_message T in
    let d = old.decoder in
    let size : length contents ≡ n = ap length is ∙ length-take-le n behind within in
    let front : take (2 + n) piece ≡ h.first ∷ n ∷ contents = front_more piece (n ∷ behind) behind h.first n n h.piece_is refl ∙ ap (λ z. h.first ∷ n ∷ z) (sym is) in
    let read = leaf_taken m d new b bytes contents h.first n fresh h.begun primitive size held levels placed started due_is none in
    subst (λ z. HasReadParts m new (bytes ++ z) × KeepsShown m new kept (bytes ++ z)) (sym front) (
      read,
      leaf_shown m d new b old.pieces kept bytes contents h.first n leaf r shows h.begun primitive size at goes levels clean read,
    )
