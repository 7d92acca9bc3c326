use Rattle.std.proofs.Common.{rules}
use Rattle.xml_instances.proofs.checker.XmlChecker.end.Goals as goal

pub returns-clause-err : goal.returns-clause-err
returns-clause-err c bytes h = c.finish_all.ensures.err bytes (record {
  told = h.told;
  given = h.given;
  counted = h.counted;
  placed = h.placed;
  fine = h.fine;
  open_are = h.open_are;
  built = h.built;
  none = h.none;
  sound = search rules;
})

pub returns-clause-ok : goal.returns-clause-ok
returns-clause-ok c bytes h = c.finish_all.ensures.ok bytes (record {
  told = h.told;
  given = h.given;
  counted = h.counted;
  placed = h.placed;
  fine = h.fine;
  open_are = h.open_are;
  built = h.built;
  none = h.none;
  sound = search rules;
})

pub returns-clause-spelled_by : goal.returns-clause-spelled_by
returns-clause-spelled_by c bytes h = c.finish_all.ensures.spelled_by bytes (record {
  told = h.told;
  given = h.given;
  counted = h.counted;
  placed = h.placed;
  fine = h.fine;
  open_are = h.open_are;
  built = h.built;
  none = h.none;
  sound = search rules;
})
