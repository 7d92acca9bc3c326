use Rattle.std.proofs.Common.{◌≡◌, ◌++◌, length, arith}
use Rattle.der_model.specs.DerMessage.{der_message}
use Rattle.der_codec.proofs.ContentsSteps.{place_counts}
use Rattle.transcoder.proofs.DerFaults.{stops_at}
use Rattle.transcoder.proofs.der.DerReaderIntakeInstance.feed.Goals as goal

pub feed-requires-clause-room : goal.feed-requires-clause-room
feed-requires-clause-room c sound =
    let (bytes, h, room) = c.requires.fed in
    let counted : c.args.self.now.checker.decoder.place ≡ length bytes = place_counts (der_message c.args.model.now) _ _ _ _ bytes h.given.reading.read in
    omega (arith, room, counted)

pub returns-clause-err : goal.returns-clause-err
returns-clause-err c bytes h = stops_at c.args.model.now (bytes ++ c.args.piece.now) c.feed.result (c.feed.ensures.err bytes h)
