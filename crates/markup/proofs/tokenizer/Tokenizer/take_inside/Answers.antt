use Rattle.std.proofs.Common.{length, sym, ◌∙◌}
use Rattle.markup.proofs.InsideLemmas.{goes_front}
use Rattle.markup.proofs.StartsFound.{front_begins, text_within}
use Rattle.markup.proofs.tokenizer.Tokenizer.take_inside.Goals as goal

pub returns-clause-inside : goal.returns-clause-inside
returns-clause-inside c = goes_front c.args.self.now c.go_over.new.self c.args.piece.now c.split_at.result.0.now c.room-room.result c.in_ok-count.count
    (sym c.is_inside.ensures ∙ c.if-not-is_inside.false) (c.is_whole.ensures.0 c.if-not-is_whole.false) c.room-room.ensures.within c.split_at.ensures.front c.in_ok-count.ensures.within c.room-room.ensures.short c.in_ok-count.ensures.over

pub returns-clause-all : goal.returns-clause-all
returns-clause-all c more rest e g i w s =
    let f = front_begins c.args.piece.now c.split_at.result.0.now more rest c.room-room.result e c.split_at.ensures.front (c.room-room.ensures.all (length more) (text_within c.args.piece.now more rest e) s) in
    c.in_ok-count.ensures.all more f.0 f.1 g
