-- What begins with a byte that a name may begin with, and goes on with such bytes, is a name.
use Rattle.std.proofs.Common.{◌≡◌, false, length, refl, sym, ◌∙◌, rules}
use Rattle.std.proofs.lemmas.Bool.{both_ways}
use Rattle.markup.proofs.StartScans.{name_is_plain}
use Rattle.markup.proofs.NamesFound.{name_size, no_name, name_begins}
use Rattle.markup.proofs.start_tag.part_at.Goals as goal

pub returns-in_default-clause-all : goal.returns-in_default-clause-all
returns-in_default-clause-all c name behind p e s = let z : length c.args.bytes.now ≡ 0 = search rules in absurd (no_name c.args.bytes.now name behind p e z)

pub returns-then-not-begins_plain-clause-all : goal.returns-then-not-begins_plain-clause-all
returns-then-not-begins_plain-clause-all c name behind p e s =
    absurd (both_ways false refl (sym c.if-not-begins_plain.true ∙ (c.begins_plain.ensures ∙ name_begins c.args.bytes.now c.in-Some.field-0-1.now name behind c.in-Some.first.now c.in-Some.ensures.cases.0 p e)))

pub returns-clause-named : goal.returns-clause-named
returns-clause-named c some = name_is_plain c.in-Some.first.now c.args.bytes.now c.in-Some.field-0-1.now c.name_length.result c.in-Some.ensures.cases.0 (sym c.begins_plain.ensures ∙ c.if-not-begins_plain.false) c.name_length.ensures.count

pub returns-clause-all : goal.returns-clause-all
returns-clause-all c name behind p e s = name_size c.args.bytes.now name behind c.name_length.result p e s c.name_length.ensures.count
