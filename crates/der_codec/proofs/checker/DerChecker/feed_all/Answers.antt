use Rattle.std.proofs.Common.{rules, ◌≡◌, ◌++◌, ◌∙◌, sym, ap, take, subst, refl, append_assoc}
use Rattle.std.proofs.lemmas.List.{nil_from_length}
use Rattle.der_codec.proofs.Fed.{GivenSoFar, none_given, all_given, more_given, stops_given, room_left, joined}
use Rattle.der_codec.proofs.Keeping.{enough_then, err_as}
use Rattle.der_codec.proofs.checker.DerChecker.feed_all.Goals as goal

pub loop-rest-init : goal.loop-rest-init
loop-rest-init c = (c.requires.checks, λ bytes h. none_given c.args.model.now c.args.self.now bytes c.args.piece.now h, λ k. k, refl, λ none. none)

pub take_front-requires-clause-room : goal.take_front-requires-clause-room
take_front-requires-clause-room c =
    let g = c.requires.given in
    room_left c.args.model.now c.args.self.now c.loop-rest.self g.0 c.args.piece.now c.loop-rest.rest.now g.1 c.requires.room (c.loop-rest.invariant.1 g.0 g.1)

pub loop-rest-preserved : goal.loop-rest-preserved
loop-rest-preserved c = (
  c.take_front.ensures.checks,
  λ bytes h.
      let s = c.loop-rest.invariant.1 bytes h in
      let rest = c.loop-rest.rest.now in
      let whole : rest ≡ take c.in-Ok.count rest ++ c.split_at.result.1.now = joined c.in-Ok.count rest ∙ ap (λ z. take c.in-Ok.count rest ++ z) (sym c.split_at.ensures.back) in
      more_given c.args.model.now c.loop-rest.self c.take_front.new.self bytes c.args.piece.now rest c.split_at.result.1.now c.in-Ok.count s whole (c.in-Ok.ensures.front.ok (bytes ++ s.seen) s.fed_are),
  λ k. c.take_front.ensures.keeps (c.loop-rest.invariant.2 k),
  c.take_front.ensures.same ∙ c.loop-rest.invariant.3,
  λ none. c.take_front.ensures.alone (c.loop-rest.invariant.4 none),
)

pub returns-in-Err-clause-err : goal.returns-in-Err-clause-err
returns-in-Err-clause-err c = λ bytes h.
    let s = c.loop-rest.invariant.1 bytes h in
    stops_given c.args.model.now c.loop-rest.self c.take_front.new.self.decoder bytes c.args.piece.now c.loop-rest.rest.now c.in-Err.stop s (c.in-Err.ensures.front.err (bytes ++ s.seen) s.fed_are)

pub returns-clause-ok : goal.returns-clause-ok
returns-clause-ok c = λ bytes h.
    let none = nil_from_length c.loop-rest.rest.now (search rules) in
    all_given c.args.model.now c.loop-rest.self bytes c.args.piece.now (subst (GivenSoFar c.args.model.now c.loop-rest.self bytes c.args.piece.now) none (c.loop-rest.invariant.1 bytes h))

pub returns-in-Err-clause-keeps : goal.returns-in-Err-clause-keeps
returns-in-Err-clause-keeps c = λ k. c.in-Err.ensures.keeps (c.loop-rest.invariant.2 k)

pub returns-in-Err-clause-same : goal.returns-in-Err-clause-same
returns-in-Err-clause-same c = c.in-Err.ensures.same ∙ c.loop-rest.invariant.3

pub returns-clause-keeps : goal.returns-clause-keeps
returns-clause-keeps c = c.loop-rest.invariant.2

pub returns-clause-same : goal.returns-clause-same
returns-clause-same c = c.loop-rest.invariant.3

pub returns-in-Err-clause-memory : goal.returns-in-Err-clause-memory
returns-in-Err-clause-memory c = λ bytes h e is.
    let i = c.loop-rest.invariant in
    let s = i.1 bytes h in
    let rest = c.loop-rest.rest.now in
    let all = ap (λ z. bytes ++ z) s.piece_is ∙ sym (append_assoc bytes s.seen rest) in
    c.in-Err.ensures.memory (bytes ++ s.seen) s.fed_are (enough_then c.args.model.now c.args.self.now c.loop-rest.self ((bytes ++ s.seen) ++ rest) (bytes ++ c.args.piece.now) all i.2 i.3 e) (err_as _ _ is)
