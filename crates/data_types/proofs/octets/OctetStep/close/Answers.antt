use Rattle.std.proofs.Common.{◌≡◌, ◌<◌, ◌∷◌, ◌++◌, take, set, length, refl, arith, rules}
use Rattle.std.proofs.lemmas.List.{length-take-le}
use Rattle.data_types.proofs.OctetLemmas.{group_whole, group_of_none, close_three, close_fewer, join_bytes, at_open}
use Rattle.data_types.proofs.KeptLemmas.{joined_size, joined_count}
use Rattle.data_types.proofs.octets.OctetStep.close.Goals as goal

pub returns-in_default-clause-ok : goal.returns-in_default-clause-ok
returns-in_default-clause-ok c =
    let s = c.args.self.now in
    let begun = take s.count s.group in
    let four : length s.group ≡ 4 = search rules in
    let whole = group_whole s.group c.args.last s.count four c.requires.full in
    λ most octets has. (
      octets,
      has,
      λ more all bytes. at_open s.stage octets begun (c.args.last ∷ more) all ⊥ c.requires.open
          (group_of_none octets begun (set s.group 3 c.args.last) c.args.last whole.0 whole.1 c.in_default.ensures.none more all bytes, λ none. absurd none),
    )

pub returns-then-decoded-lt3-clause-ok : goal.returns-then-decoded-lt3-clause-ok
returns-then-decoded-lt3-clause-ok c =
    let s = c.args.self.now in
    let begun = take s.count s.group in
    let group = set s.group 3 c.args.last in
    let found = take c.in-Some.decoded.count c.in-Some.decoded.octets in
    let four : length s.group ≡ 4 = search rules in
    let whole = group_whole s.group c.args.last s.count four c.requires.full in
    let size : length found ≡ c.in-Some.decoded.count = length-take-le c.in-Some.decoded.count c.in-Some.decoded.octets (omega (arith, c.in-Some.decoded.few)) in
    let few : length found < 3 = omega (arith, size, c.if-decoded-lt3.true) in
    λ most octets (bytes, holds, counted). (
      octets ++ found,
      (
        join_bytes octets found bytes c.in-Some.ensures.bytes,
        joined_size c.take.new.self most octets found c.in-Some.decoded.count size (c.in_ok-take.ensures.ok most (length octets) octets holds),
        joined_count c.with_more-self.result octets found c.in-Some.decoded.count size (c.with_more-self.ensures (length octets) counted),
      ),
      close_fewer s.stage octets begun group found (octets ++ found) c.args.last c.requires.open whole.0 whole.1 c.in-Some.ensures.bytes c.in-Some.ensures.some few refl,
    )

pub returns-else-decoded-lt3-clause-ok : goal.returns-else-decoded-lt3-clause-ok
returns-else-decoded-lt3-clause-ok c =
    let s = c.args.self.now in
    let begun = take s.count s.group in
    let group = set s.group 3 c.args.last in
    let found = take c.in-Some.decoded.count c.in-Some.decoded.octets in
    let four : length s.group ≡ 4 = search rules in
    let whole = group_whole s.group c.args.last s.count four c.requires.full in
    let size : length found ≡ c.in-Some.decoded.count = length-take-le c.in-Some.decoded.count c.in-Some.decoded.octets (omega (arith, c.in-Some.decoded.few)) in
    let three : length found ≡ 3 = let few = c.in-Some.decoded.few in omega (arith, size, c.if-decoded-lt3.false, few) in
    λ most octets (bytes, holds, counted). (
      octets ++ found,
      (
        join_bytes octets found bytes c.in-Some.ensures.bytes,
        joined_size c.take.new.self most octets found c.in-Some.decoded.count size (c.in_ok-take.ensures.ok most (length octets) octets holds),
        joined_count c.with_more-self.result octets found c.in-Some.decoded.count size (c.with_more-self.ensures (length octets) counted),
      ),
      close_three s.stage octets begun group found (octets ++ found) c.args.last c.requires.open whole.0 whole.1 c.in-Some.ensures.bytes c.in-Some.ensures.some three refl,
    )
