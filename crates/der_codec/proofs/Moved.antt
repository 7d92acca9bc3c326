-- What is read, and what is told, is the same wherever the first byte stands.
use Rattle.std.proofs.Common.{◌≡◌, ℕ, ◌+◌, List, ◌++◌, refl, sym, subst, arith}
use Rattle.message_model.specs.Tables.{Tables}
use Rattle.message_model.specs.declared.fault.InstanceError.{InstanceError}
use Rattle.message_model.specs.declared.fault.InstanceError.TheVariants.{Refused, Memory}
use Rattle.der_model.specs.DerMessage.{der_message}
use Rattle.der_model.specs.States.{Start}
use Rattle.der_model.specs.Faults.{DerFront}
use Rattle.der_model.specs.MovedPlaces.{moved_state}
use Rattle.der_model.proofs.MovedFaults.{front_moves, places_move, whole_moves, whole_ends}
use Rattle.der_codec.specs.Levels.{inwards}
use Rattle.der_codec.specs.Decoding.{HasReadParts, IsOver}
use Rattle.der_codec.specs.Checking.{HasFedDer, DerStops, DerEndsAs, der_fault_of}
use Rattle.der_codec.specs.Moved.{ReadsFrom, DerStopsFrom, DerEndsFrom, IsWholeFrom}
use Rattle.der_codec.specs.declared.checker.DerChecker.{DerChecker}
use Rattle.der_codec.specs.declared.decoder.Decoder.{Decoder}
use Rattle.der_codec.proofs.InputEnds.{is_whole}

reads_from : (T : Tables) (base : ℕ) (d : Decoder) (bytes : List ℕ) → HasReadParts (der_message T) d bytes → ReadsFrom T base d bytes
reads_from T base d bytes r =
    let m = der_message T in
    let there : DerFront m Start (base + 0) bytes r.parts (moved_state base r.state) (base + r.at) r.rest = (front_moves m base Start 0 bytes r.parts (moved_state base r.state) (base + r.at) r.rest).1 (r.state, r.at, refl, refl, r.front) in
    let begins : base + 0 ≡ base = omega arith in
    let begun = r.start_is in
    let placed = r.place_is in
    record {
      parts = r.parts;
      state = r.state;
      rest = r.rest;
      front = subst (λ z. DerFront m Start base bytes r.parts (moved_state base r.state) (base + z) r.rest) (sym r.start_is)
          (subst (λ z. DerFront m Start z bytes r.parts (moved_state base r.state) (base + r.at) r.rest) begins there);
      is_open = r.is_open;
      is_begun = r.is_begun;
      place_is = omega arith;
    }

pub fed_from : (T : Tables) (base : ℕ) (checker : DerChecker) (bytes : List ℕ) → HasFedDer checker T bytes → ReadsFrom T base checker.decoder bytes
fed_from T base checker bytes h = reads_from T base checker.decoder bytes h.reading.read

pub stops_from : (T : Tables) (base : ℕ) (bytes : List ℕ) (e : InstanceError) → DerStops T bytes e → DerStopsFrom T base bytes e
stops_from T base bytes (Refused fault) h = λ behind. (places_move (der_message T) base (bytes ++ behind) (der_fault_of fault)).0 (h.has_fault behind)
stops_from T base bytes Memory h = tt

pub ends_from : (T : Tables) (base : ℕ) (bytes : List ℕ) (e : InstanceError) → DerEndsAs T bytes e → DerEndsFrom T base bytes e
ends_from T base bytes (Refused fault) h = (places_move (der_message T) base bytes (der_fault_of fault)).0 h
ends_from T base bytes Memory h = tt

pub whole_from : (T : Tables) (base : ℕ) (checker : DerChecker) (bytes : List ℕ) → HasFedDer checker T bytes → IsOver checker.decoder.due → IsWholeFrom T base bytes
whole_from T base checker bytes h over =
    let m = der_message T in
    let d = checker.decoder in
    let whole = (whole_moves m base bytes).0 (is_whole m (inwards d.levels.items) d.due d.start d.place bytes h.reading.read over) in
    (whole, whole_ends m base bytes whole)
