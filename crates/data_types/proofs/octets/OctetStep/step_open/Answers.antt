use Rattle.std.proofs.Common.{◌≤◌, ◌∷◌, take, arith}
use Rattle.std.proofs.lemmas.Bool.Decides.{nat_tests}
use Rattle.data_types.proofs.OctetLemmas.{no_ascii, at_open}
use Rattle.data_types.proofs.octets.OctetStep.step_open.Goals as goal

pub returns-then-not-is_ascii-clause-ok : goal.returns-then-not-is_ascii-clause-ok
returns-then-not-is_ascii-clause-ok c =
    let s = c.args.self.now in
    let begun = take s.count s.group in
    let past : 128 ≤ c.args.c = grind (arith, nat_tests, c.if-not-is_ascii.ensures) in
    λ most octets has. (
      octets,
      has,
      λ more all bytes. at_open s.stage octets begun (c.args.c ∷ more) all ⊥ c.requires (no_ascii octets begun c.args.c past more all, λ none. absurd none),
    )
