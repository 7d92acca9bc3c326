use Rattle.std.proofs.Common.{◌≡◌, ◌++◌, ◌%◌, List, ℕ, length, ap, ◌∙◌}
use Rattle.base64.specs.Engines.{standard}
use Rattle.base64.specs.GeneralPurpose.{encode_of}
use Rattle.base64.proofs.EngineFacts.{encode_of-append}
use Rattle.data_types.proofs.PushedTexts.{pushed_none, pushed_more, pushed_bytes, piece_fails, piece_room}
use Rattle.data_types.proofs.octet_writer.push_octets.Goals as goal

-- the text of a chunk, and of what is behind it
split : (rest chunk behind : List ℕ) → rest ≡ chunk ++ behind → length chunk ≡ 48 → encode_of standard rest ≡ encode_of standard chunk ++ encode_of standard behind
split rest chunk behind e size = ap (encode_of standard) e ∙ encode_of-append standard chunk behind (ap (λ n. n % 3) size)

pub returns-in-Err-clause-bytes : goal.returns-in-Err-clause-bytes
returns-in-Err-clause-bytes g c =
    let rest = c.loop-rest.rest.now in
    let chunk = c.split_at.result.0.now in
    let behind = c.split_at.result.1.now in
    piece_fails _ _ _ _ _ _ _ _ (encode_of standard rest) (encode_of standard chunk) (encode_of standard behind) c.loop-rest.invariant
    (split rest chunk behind c.split_at.ensures.by_index.0 c.split_at.ensures.front_len) c.in-Err.ensures.bytes

pub returns-in-Err-clause-room : goal.returns-in-Err-clause-room
returns-in-Err-clause-room g c =
    let rest = c.loop-rest.rest.now in
    let chunk = c.split_at.result.0.now in
    let behind = c.split_at.result.1.now in
    piece_room _ _ _ _ _ _ _ _ (encode_of standard rest) (encode_of standard chunk) (encode_of standard behind) _ c.loop-rest.invariant
    (split rest chunk behind c.split_at.ensures.by_index.0 c.split_at.ensures.front_len) c.in-Err.ensures.room

pub loop-rest-preserved : goal.loop-rest-preserved
loop-rest-preserved g c =
    let rest = c.loop-rest.rest.now in
    let chunk = c.split_at.result.0.now in
    let behind = c.split_at.result.1.now in
    pushed_more _ _ _ _ _ _ _ _ _ _ (encode_of standard rest) (encode_of standard chunk) (encode_of standard behind) c.loop-rest.invariant
    (split rest chunk behind c.split_at.ensures.by_index.0 c.split_at.ensures.front_len)
    c.in_default.ensures.bytes (c.in_default.ensures.cause.same (λ e. absurd (cc))) c.in_default.ensures.room.falls

pub returns-clause-bytes : goal.returns-clause-bytes
returns-clause-bytes g c =
    pushed_bytes _ _ _ _ _ _ _ (encode_of standard c.args.octets.now) (encode_of standard c.loop-rest.rest.now) c.push_chunk-2.result c.loop-rest.invariant c.push_chunk-2.ensures.bytes

pub loop-rest-init : goal.loop-rest-init
loop-rest-init g c = pushed_none _ _ _ _
