use Rattle.std.proofs.Common.{◌∙◌, ap, sym, drop, drop_of_length-le}
use Rattle.std.proofs.lemmas.List.{drop-drop}
use Rattle.pattern_match.specs.Marks.{first_place_or}
use Rattle.pattern_match.proofs.marks.second_place.Goals as goal

pub returns-then-passed-places : goal.returns-then-passed-places
returns-then-passed-places c =
    ap (λ xs. first_place_or (drop 1 xs) c.args.end) (sym (drop_of_length-le c.args.places.now c.if-passed-places.true))

pub returns : goal.returns
returns c = c.first_place.ensures ∙ ap (λ xs. first_place_or xs c.args.end) (sym (drop-drop 1 c.args.passed c.args.places.now))
