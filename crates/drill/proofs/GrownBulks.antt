-- How the bound grows with an instance.
use Rattle.std.proofs.Common.{◌≡◌, ◌<◌, ℕ, zero, suc, ◌+◌, ◌*◌, ◌%◌, ◌≤◌, ◌^◌, List, [], ◌∷◌, ◌++◌, length, refl, ap, ◌∙◌, arith, length-append, codes}
use Rattle.std.proofs.lemmas.Fmt.{length-decimal-le}
use Rattle.std.specs.Fmt.{decimal}
use Rattle.rand_pcg.specs.Lcg.{Lcg}
use Rattle.rand_pcg.specs.Pcg.{pcg32}
use Rattle.data_types.specs.Value.{Value}
use Rattle.drill.specs.Growing.{most_beside, node_name, below, node, OpenNode, with_below, Path, path_outside_from, path_outside, path_after, path_under, Growth, next_growth, growth_of, generator_of, tree_of_from, instance}
use Rattle.drill.proofs.Bulks.{bulk, bulks}

-- of an open node, so far
abbrev weight : OpenNode → ℕ
weight o = 192 + (5 * length (node_name o.number) + bulks (below o.values))

abbrev weights : List OpenNode → ℕ
weights [] = 0
weights (o ∷ os) = weight o + weights os

abbrev total : Path → ℕ
total p = weight p.inner + weights p.outers

below-append : (vs ws : List Value) → bulks (below (vs ++ ws)) ≡ bulks (below vs) + bulks (below ws)
below-append [] ws = omega arith
below-append (v ∷ vs) ws = let more = below-append vs ws in omega arith

node_bulk : (o : OpenNode) → bulk (node o.number o.values) ≡ weight o
node_bulk o = omega arith

with_below_weight : (outer inner : OpenNode) → weight (with_below outer inner) ≡ weight outer + weight inner
with_below_weight outer inner =
    let more = below-append outer.values (node inner.number inner.values ∷ []) in
    let own = node_bulk inner in omega arith

left_one_total : (inner : OpenNode) (outers : List OpenNode) → total (path_outside_from inner outers) ≡ weight inner + weights outers
left_one_total inner [] = refl
left_one_total inner (outer ∷ outers) = let one = with_below_weight outer inner in omega arith

left_total : (n : ℕ) (p : Path) → total (path_after n p) ≡ total p
left_total zero p = refl
left_total (suc n) p = left_total n (path_outside p) ∙ left_one_total p.inner p.outers

closed_bulk : (inner : OpenNode) (outers : List OpenNode) → bulk (tree_of_from inner outers) ≡ weight inner + weights outers
closed_bulk inner [] = let own = node_bulk inner in omega arith
closed_bulk inner (outer ∷ outers) = let one = with_below_weight outer inner in let more = closed_bulk (with_below outer inner) outers in omega arith

under_total : (number : ℕ) (p : Path) → total (path_under number p) ≡ 192 + 5 * length (node_name number) + total p
under_total number p = omega arith

grown_one_total : (number : ℕ) (g : Growth) → total (next_growth number g).path ≡ 192 + 5 * length (node_name number) + total g.path
grown_one_total number g =
    let steps = (pcg32 g.generator).0 % 3 in
    let before = left_total steps g.path in
    under_total number (path_after steps g.path) ∙ ap (λ n. 192 + 5 * length (node_name number) + n) before

-- ---- names

name_length : (number : ℕ) → length (node_name number) ≡ length (decimal number) + 1
unfolding lib.Utf8.encode
name_length number = omega (arith, length-append (codes "n") (decimal number))

name_short : (most number : ℕ) → most < 10 ^ 7 → number ≤ most → length (node_name number) ≤ 8
name_short most number low h =
    let digits = length-decimal-le 7 number (omega arith) (omega arith) (omega arith) in
    let all = name_length number in
    omega arith

-- ---- the instance

grown_total : (most size : ℕ) (generator : Lcg) → most < 10 ^ 7 → size ≤ most → total (growth_of size generator).path ≤ 232 * (size + 1)
grown_total most zero generator low h = let name = name_short most 0 low (omega arith) in omega arith
grown_total most (suc size) generator low h =
    let before = grown_total most size generator low (omega arith) in
    let one = grown_one_total (suc size) (growth_of size generator) in
    let name = name_short most (suc size) low h in
    omega arith

-- of the instance of two numbers
pub instance_bulk : (most number size : ℕ) → most < 10 ^ 7 → size ≤ most → bulk (instance number size) ≤ 232 * (size + 1) + 192
instance_bulk most number size low h =
    let grown_path = (growth_of size (generator_of number)).path in
    let all = grown_total most size (generator_of number) low h in
    let whole = closed_bulk grown_path.inner grown_path.outers in
    omega arith

pub instance_small : (number size : ℕ) → size ≤ most_beside → bulk (instance number size) + 4096 ≤ 2 ^ 40
instance_small number size h = let all = instance_bulk most_beside number size (omega arith) h in omega arith
