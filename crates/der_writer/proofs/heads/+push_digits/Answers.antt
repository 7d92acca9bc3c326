use Rattle.std.proofs.Common.{◌∷◌, [], ◌/◌, ◌%◌, arith}
use Rattle.std.specs.Int.Digits.{digits_of}
use Rattle.der_writer.proofs.HeadLemmas.{digits_more}
use Rattle.der_writer.proofs.Pairs.{pair_stops, pair_ends, same_text}
use Rattle.der_writer.proofs.heads.+push_digits.Goals as goal

pub returns-in-Err : goal.returns-in-Err
returns-in-Err g t c =
    pair_stops g.O.Sink.held g.O.Sink.faults g.O.Sink.room (digits_of 256 (c.args.number / 256)) (c.args.number % 256 ∷ []) _ (digits_more c.args.number (omega (arith, c.if-number-eq0.false))) _ _ c.in-Err.error c.in-Err.ensures

pub returns : goal.returns
returns g t c =
    pair_ends g.O.Sink.held g.O.Sink.faults g.O.Sink.room (digits_of 256 (c.args.number / 256)) (c.args.number % 256 ∷ []) _ (digits_more c.args.number (omega (arith, c.if-number-eq0.false))) _ _ _ c.push_bytes.result c.in_default.ensures
    (same_text g.O.Sink.held g.O.Sink.faults g.O.Sink.room _ _ c.as_slice.ensures _ _ c.push_bytes.result c.push_bytes.ensures.push)
