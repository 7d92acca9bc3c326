use Rattle.markup.proofs.InsideLemmas.{takes_inside}
use Rattle.markup.proofs.InsideFound.{open_goes, open_inside, open_whole, open_short}
use Rattle.markup.proofs.reader.Reader.take_inside.Goals as goal

pub returns-in-Ok-clause-taken : goal.returns-in-Ok-clause-taken
returns-in-Ok-clause-taken c limit bytes told h some = takes_inside c.args.self.now c.take_inside.new.self bytes c.args.piece.now told c.in-Ok.count c.in-Ok.ensures.within some c.in-Ok.ensures.place (c.in-Ok.ensures.inside some) h

pub returns-in-Ok-clause-all : goal.returns-in-Ok-clause-all
returns-in-Ok-clause-all c limit bytes told more rest m e =
    c.in-Ok.ensures.all more rest e (open_goes c.args.self.now bytes told more m) (open_inside c.args.self.now bytes told more m) (open_whole c.args.self.now bytes told more m) (open_short c.args.self.now bytes told more m)
