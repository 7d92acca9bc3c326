use Rattle.std.proofs.Common.{◌≡◌, sym, refl, Some}
use Rattle.message_model.specs.Tables.{message_of}
use Rattle.der_model.specs.DerMessage.{in_der}
use Rattle.der_codec.specs.Levels.{inwards, first_of}
use Rattle.der_codec.specs.Decoding.{end_of_first, due_after}
use Rattle.der_codec.proofs.Inwards.{end_first}
use Rattle.der_codec.proofs.Nested.{fresh_within, not_at_end}
use Rattle.der_codec.proofs.Ends.{end_stops, end_goes}
use Rattle.der_codec.proofs.NoCuts.{end_stays}
use Rattle.der_codec.proofs.StepTies.{reads_as}
use Rattle.der_codec.proofs.decoder.Decoder.end.Goals as goal

pub returns-then-level-self-clause-open : goal.returns-then-level-self-clause-open
returns-then-level-self-clause-open c = λ fragment bytes r e.
    let s = c.args.self.now in
    let xs = inwards s.levels.items in
    let first : Some c.in-Some.level ≡ first_of xs = c.in-Some.ensures in
    (refl, not_at_end (end_of_first xs) s.place c.in-Some.level.end (end_first xs c.in-Some.level (sym first)) (fresh_within (in_der fragment (message_of c.args.model.now)) xs s.due s.start s.place bytes c.requires r) c.if-level-self.true)

pub returns-in-Breaks-clause-err : goal.returns-in-Breaks-clause-err
returns-in-Breaks-clause-err c = λ fragment bytes r.
    let s = c.args.self.now in
    let xs = inwards s.levels.items in
    let first : Some c.in-Some.level ≡ first_of xs = c.in-Some.ensures in
    end_stops (in_der fragment (message_of c.args.model.now)) xs c.in-Some.level s.due s.start s.place bytes c.in-Breaks.rule c.in-Breaks.added first c.requires r c.if-level-self.false (c.in-Breaks.ensures fragment)

pub returns-in-Fine-clause-ok : goal.returns-in-Fine-clause-ok
returns-in-Fine-clause-ok c = λ fragment bytes r.
    let m = in_der fragment (message_of c.args.model.now) in
    let s = c.args.self.now in
    let new = c.close.new.self in
    let xs = inwards s.levels.items in
    let first : Some c.in-Some.level ≡ first_of xs = c.in-Some.ensures in
    reads_as m (inwards new.levels.items) (inwards new.levels.items) new.due (due_after s.due new.levels.items) new.start s.start new.place s.place bytes refl c.close.ensures.due c.close.ensures.start c.close.ensures.place
    (end_goes m xs c.in-Some.level s.due s.start s.place bytes new.levels.items first c.requires r c.if-level-self.false (c.in-Fine.ensures fragment) c.close.ensures.levels)

pub returns-in-Breaks-clause-stays : goal.returns-in-Breaks-clause-stays
returns-in-Breaks-clause-stays c = λ fragment bytes r.
    let s = c.args.self.now in
    let xs = inwards s.levels.items in
    let first : Some c.in-Some.level ≡ first_of xs = c.in-Some.ensures in
    end_stays (in_der fragment (message_of c.args.model.now)) xs c.in-Some.level s.due s.start s.place bytes c.in-Breaks.rule c.in-Breaks.added r first (c.in-Breaks.ensures fragment)
