use Rattle.std.proofs.Common.{◌≡◌, ◌==◌, ◌++◌, Bool, true, length, List, ℕ, drop, take, ap, sym, ◌∙◌}
use Rattle.std.proofs.lemmas.Bool.{eqb-true}
use Rattle.std.proofs.lemmas.List.{nil_from_length}
use Rattle.data_types.specs.Escaping.{escaped_bytes}
use Rattle.data_types.proofs.PushedTexts.{pushed_none, pushed_all, pushed_more, piece_fails, piece_room}
use Rattle.data_types.proofs.EscapeLemmas.{escaped_split, escaped_by_chars}
use Rattle.data_types.proofs.text_writer.push_escaped.Goals as goal

-- the piece, and what is behind it
split : (attribute : Bool) (rest spelled : List ℕ) (count : ℕ) → spelled ≡ escaped_bytes attribute (take count rest) → escaped_bytes attribute rest ≡ spelled ++ escaped_bytes attribute (drop count rest)
split attribute rest spelled count e = escaped_split attribute rest count ∙ ap (λ t. t ++ escaped_bytes attribute (drop count rest)) (sym e)

pub returns-in-Err-clause-bytes : goal.returns-in-Err-clause-bytes
returns-in-Err-clause-bytes g c =
    let rest = c.loop-rest.rest.now in
    let piece = c.first_piece-piece.result in
    piece_fails _ _ _ _ _ _ _ _ (escaped_bytes c.args.attribute rest) piece.spelled.now (escaped_bytes c.args.attribute (drop piece.count rest)) c.loop-rest.invariant
    (split c.args.attribute rest piece.spelled.now piece.count c.first_piece-piece.ensures.spelled) c.in-Err.ensures.bytes

pub returns-in-Err-clause-room : goal.returns-in-Err-clause-room
returns-in-Err-clause-room g c =
    let rest = c.loop-rest.rest.now in
    let piece = c.first_piece-piece.result in
    piece_room _ _ _ _ _ _ _ _ (escaped_bytes c.args.attribute rest) piece.spelled.now (escaped_bytes c.args.attribute (drop piece.count rest)) _ c.loop-rest.invariant
    (split c.args.attribute rest piece.spelled.now piece.count c.first_piece-piece.ensures.spelled) c.in-Err.ensures.room

pub loop-rest-preserved : goal.loop-rest-preserved
loop-rest-preserved g c =
    let rest = c.loop-rest.rest.now in
    let piece = c.first_piece-piece.result in
    let parts : escaped_bytes c.args.attribute rest ≡ piece.spelled.now ++ escaped_bytes c.args.attribute c.split_at.result.1.now =
    split c.args.attribute rest piece.spelled.now piece.count c.first_piece-piece.ensures.spelled ∙ ap (λ t. piece.spelled.now ++ escaped_bytes c.args.attribute t) (sym c.split_at.ensures.back) in
    pushed_more _ _ _ _ _ _ _ _ _ _ (escaped_bytes c.args.attribute rest) piece.spelled.now (escaped_bytes c.args.attribute c.split_at.result.1.now) c.loop-rest.invariant parts
    c.in_default.ensures.bytes (c.in_default.ensures.cause.same (λ e. absurd (cc))) c.in_default.ensures.room.falls

pub returns-clause-chars : goal.returns-clause-chars
returns-clause-chars g c = λ chars e. ap (escaped_bytes c.args.attribute) e ∙ escaped_by_chars c.args.attribute chars

pub returns-in-Err-clause-chars : goal.returns-in-Err-clause-chars
returns-in-Err-clause-chars g c = λ chars e. ap (escaped_bytes c.args.attribute) e ∙ escaped_by_chars c.args.attribute chars

pub loop-rest-init : goal.loop-rest-init
loop-rest-init g c = pushed_none _ _ _ _

pub returns-clause-bytes : goal.returns-clause-bytes
returns-clause-bytes g c =
    let rest = c.loop-rest.rest.now in
    let ended : (length rest == 0) ≡ true = (let test = c.loop-rest-test.false in let says = c.is_empty.ensures in cc) in
    pushed_all _ _ _ _ _ _ _ _ c.loop-rest.invariant (ap (escaped_bytes c.args.attribute) (nil_from_length rest (eqb-true _ 0 ended)))
