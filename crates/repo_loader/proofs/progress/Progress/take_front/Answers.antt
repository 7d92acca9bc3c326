-- Where neither a character came nor what goes on with a token, a tag or a byte.
use Rattle.std.proofs.Common.{◌≡◌, sym, ◌∙◌, arith}
use Rattle.repo_loader.proofs.ReadSteps.{none_read, none_front}
use Rattle.repo_loader.proofs.progress.Progress.take_front.Goals as goal

pub take_start_tag-requires-clause-read : goal.take_start_tag-requires-clause-read
take_start_tag-requires-clause-read c = (_, c.in_ok-inside.ensures.read _ (c.take_characters-characters.ensures.read c.requires.read.0 c.requires.read.1))

pub returns-then-is_front-clause-read : goal.returns-then-is_front-clause-read
returns-then-is_front-clause-read c bytes h =
    let xs = c.args.piece.now in
    let no_characters : c.take_characters-characters.result ≡ 0 = omega (arith, c.if-characters-gt0.false) in
    let no_others : c.in_ok-inside.inside ≡ 0 = omega (arith, c.if-inside-gt0.false) in
    let read = none_read c.take_characters-characters.new.self bytes xs c.take_characters-characters.result no_characters (c.take_characters-characters.ensures.read bytes h) in
    c.in_ok-tag.ensures.read bytes (none_read c.take_inside.new.self bytes xs c.in_ok-inside.inside no_others (c.in_ok-inside.ensures.read bytes read))

pub take_one-requires-clause-read : goal.take_one-requires-clause-read
take_one-requires-clause-read c =
    let before = c.in_ok-inside.ensures.read _ (c.take_characters-characters.ensures.read c.requires.read.0 c.requires.read.1) in
    (_, none_front c.take_start_tag.new.self _ c.args.piece.now c.in_ok-tag.tag (sym c.is_front.ensures ∙ c.if-is_front.false) (c.in_ok-tag.ensures.read _ before))

pub returns-clause-read : goal.returns-clause-read
returns-clause-read c bytes h =
    let xs = c.args.piece.now in
    let no_characters : c.take_characters-characters.result ≡ 0 = omega (arith, c.if-characters-gt0.false) in
    let no_others : c.in_ok-inside.inside ≡ 0 = omega (arith, c.if-inside-gt0.false) in
    let read = none_read c.take_characters-characters.new.self bytes xs c.take_characters-characters.result no_characters (c.take_characters-characters.ensures.read bytes h) in
    let inside = none_read c.take_inside.new.self bytes xs c.in_ok-inside.inside no_others (c.in_ok-inside.ensures.read bytes read) in
    c.take_one.ensures.read bytes (none_front c.take_start_tag.new.self bytes xs c.in_ok-tag.tag (sym c.is_front.ensures ∙ c.if-is_front.false) (c.in_ok-tag.ensures.read bytes inside))
