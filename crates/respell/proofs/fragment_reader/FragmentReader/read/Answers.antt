use Rattle.std.proofs.Common.{◌≡◌, ◌++◌, ℕ, List, [], refl, sym, ap, subst, take}
use Rattle.respell.proofs.FragmentPieces.{no_items}
use Rattle.respell.specs.inner.FragmentReading.{HasReadAll, IsFragment, ReadsWaitingSo}
use Rattle.respell.proofs.FragmentParts.{front_taken}
use Rattle.respell.proofs.FragmentSteps.{if_ok}
use Rattle.respell.proofs.fragment_reader.FragmentReader.read.Goals as goal

pub returns-clause-goes_on : goal.returns-clause-goes_on
returns-clause-goes_on c before h =
    let n = c.in-Taken.count in
    let piece = c.args.piece.now in
    let so_far = subst (λ a. ReadsWaitingSo c.args.self.now c.read_waiting.new.self c.args.waiting.now.items c.read_waiting.new.waiting.items piece a) c.in-Taken.is c.in_ok-count.ensures in
    let none : c.read_waiting.new.waiting.items ≡ [] = no_items c.read_waiting.new.waiting c.is_empty.result c.is_empty.ensures c.if-not-is_empty.false in
    let now : HasReadAll c.read_waiting.new.self [] (before ++ take n piece) = subst (λ (l : List ℕ). HasReadAll c.read_waiting.new.self l (before ++ take n piece)) none (so_far.1.reads before h) in
    if_ok _ _ c.read_ahead.result (c.read_ahead.ensures.goes_on (before ++ take n piece) now)
    (λ b k met. subst (λ (l : List ℕ). HasReadAll c.read_ahead.new.self c.read_ahead.new.waiting.items l) (front_taken before (before ++ piece) piece c.split_at.result.1.now n refl c.split_at.ensures.back) (k met))

pub returns-clause-stops : goal.returns-clause-stops
returns-clause-stops c before behind h =
    let n = c.in-Taken.count in
    let piece = c.args.piece.now in
    let so_far = subst (λ a. ReadsWaitingSo c.args.self.now c.read_waiting.new.self c.args.waiting.now.items c.read_waiting.new.waiting.items piece a) c.in-Taken.is c.in_ok-count.ensures in
    let none : c.read_waiting.new.waiting.items ≡ [] = no_items c.read_waiting.new.waiting c.is_empty.result c.is_empty.ensures c.if-not-is_empty.false in
    let now : HasReadAll c.read_waiting.new.self [] (before ++ take n piece) = subst (λ (l : List ℕ). HasReadAll c.read_waiting.new.self l (before ++ take n piece)) none (so_far.1.reads before h) in
    if_ok _ _ c.read_ahead.result (c.read_ahead.ensures.stops (before ++ take n piece) behind now)
    (λ b k unmet f. k unmet (subst IsFragment (ap (λ (l : List ℕ). l ++ behind) (sym (front_taken before (before ++ piece) piece c.split_at.result.1.now n refl c.split_at.ensures.back))) f))
