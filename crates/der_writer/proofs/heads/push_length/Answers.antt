use Rattle.std.proofs.Common.{◌≡◌, ◌∷◌, [], ◌+◌, ◌∙◌, length, ap}
use Rattle.std.specs.Int.Digits.{digits_of}
use Rattle.der_octets.specs.Octets.{length_octets}
use Rattle.der_writer.proofs.HeadLemmas.{short_is, long_is}
use Rattle.der_writer.proofs.Pairs.{pair_stops, pair_ends, same_text}
use Rattle.der_writer.proofs.heads.push_length.Goals as goal

pub returns-then-len-lt128 : goal.returns-then-len-lt128
returns-then-len-lt128 g c =
    same_text g.O.Sink.held g.O.Sink.faults g.O.Sink.room _ _ (c.as_slice.ensures ∙ short_is c.args.len c.if-len-lt128.true) _ _ c.push_bytes.result c.push_bytes.ensures.push

counted : (count n : _) → count ≡ length (digits_of 256 n) → (128 + count) ∷ digits_of 256 n ≡ (128 + length (digits_of 256 n)) ∷ digits_of 256 n
counted count n e = ap (λ z. (128 + z) ∷ digits_of 256 n) e

pub returns-in-Err : goal.returns-in-Err
returns-in-Err g c =
    pair_stops g.O.Sink.held g.O.Sink.faults g.O.Sink.room ((128 + c.digit_count.result) ∷ []) (digits_of 256 c.args.len) (length_octets c.args.len) (counted c.digit_count.result c.args.len c.digit_count.ensures.count ∙ long_is c.args.len c.if-len-lt128.false)
    _ _ c.in-Err.error (same_text g.O.Sink.held g.O.Sink.faults g.O.Sink.room _ _ c.as_slice-2.ensures _ _ _ c.in-Err.ensures.push)

pub returns : goal.returns
returns g c =
    pair_ends g.O.Sink.held g.O.Sink.faults g.O.Sink.room ((128 + c.digit_count.result) ∷ []) (digits_of 256 c.args.len) (length_octets c.args.len) (counted c.digit_count.result c.args.len c.digit_count.ensures.count ∙ long_is c.args.len c.if-len-lt128.false)
    _ _ _ c.push_digits.result (same_text g.O.Sink.held g.O.Sink.faults g.O.Sink.room _ _ c.as_slice-2.ensures _ _ _ c.in_default.ensures.push) c.push_digits.ensures
