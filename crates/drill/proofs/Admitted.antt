-- The message admits what grows.
use Rattle.std.proofs.Common.{◌≡◌, ℕ, zero, suc, ◌%◌, ◌<◌, ◌≤◌, ◌^◌, List, [], ◌∷◌, Some, None, refl, sym, subst, arith, slice_get, codes, Option}
use Rattle.std.specs.List.{AllByRecursion}
use Rattle.std.proofs.lemmas.Option.{same_Some}
use Rattle.rand_pcg.specs.Lcg.{Lcg}
use Rattle.rand_pcg.specs.Pcg.{pcg32}
use Rattle.data_types.specs.Value.{Value}
use Rattle.data_types.proofs.CollapseLemmas.{all_push}
use Rattle.reference_check.specs.Forms.{Slot}
use Rattle.reference_check.specs.Forms as form
use Rattle.reference_check.specs.Words.{times, UpTo, MayComeTimes, IsOrderedFrom, IsSequence}
use Rattle.message_model.specs.Admits.{AdmitsAs, AdmitsChildren, numbers_of}
use Rattle.message_model.specs.Tables.{types_of}
use Rattle.drill.specs.BuiltIn.{drill_tables, node_slots}
use Rattle.drill.specs.Growing.{OpenNode, Path, below, node, with_below, path_outside_from, path_outside, path_after, path_under, growth_of, tree_of_from, tree_of, document, instance, generator_of, most_beside}
use Rattle.drill.proofs.NameLemmas.{name_fits}

abbrev name_slot : Slot ℕ
name_slot = record { tag = codes "Nm"; min = 1; max = Some 1; target = 2 }

abbrev child_slot : Slot ℕ
child_slot = record { tag = codes "Chld"; min = 0; max = None; target = 3 }

abbrev message_slot : Slot ℕ
message_slot = record { tag = codes "Nd"; min = 1; max = Some 1; target = 3 }

abbrev document_slot : Slot ℕ
document_slot = record { tag = codes "Tree"; min = 1; max = Some 1; target = 1 }

-- ---- the children of a node

ones_ordered : (low : ℕ) (values : List Value) → low ≤ 1 → IsOrderedFrom low 2 (numbers_of (below values))
ones_ordered low [] le = tt
ones_ordered low (v ∷ values) le = (le, omega arith, ones_ordered 1 values (omega arith))

no_name : (values : List Value) → times 0 (numbers_of (below values)) ≡ 0
no_name [] = refl
no_name (v ∷ values) = let rest = no_name values in omega (arith, rest)

node_within : (values : List Value) (k : ℕ) (s : Slot ℕ) → slice_get node_slots k ≡ Some s → MayComeTimes (times k (0 ∷ numbers_of (below values))) s
node_within values zero s e =
    let rest = no_name values in
    subst (λ (t : Slot ℕ). MayComeTimes (times 0 (0 ∷ numbers_of (below values))) t) (same_Some name_slot s e) (omega (arith, rest), omega (arith, rest))
node_within values (suc zero) s e = subst (λ (t : Slot ℕ). MayComeTimes (times 1 (0 ∷ numbers_of (below values))) t) (same_Some child_slot s e) (omega arith, tt)
node_within values (suc (suc k)) s e = absurd (let none : None ≡ Some s = e in cc)

node_word : (values : List Value) → IsSequence node_slots (0 ∷ numbers_of (below values))
node_word values = record { ordered = (omega arith, omega arith, ones_ordered 0 values (omega arith)); within = node_within values }

-- ---- nodes

-- the type of nodes admits the value
abbrev IsNode : Value → Type 0
IsNode v = AdmitsAs (types_of drill_tables) (form.Sequence node_slots) v

below_admitted : (values : List Value) → AllByRecursion IsNode values → AdmitsChildren (types_of drill_tables) node_slots (below values)
below_admitted [] all = tt
below_admitted (v ∷ values) all = ((child_slot, refl, all.0), below_admitted values all.1)

node_admitted : (number : ℕ) (values : List Value) → number < 2 ^ 64 → AllByRecursion IsNode values → IsNode (node number values)
node_admitted number values small all = (node_word values, ((name_slot, refl, name_fits number small), below_admitted values all))

-- ---- open nodes

-- an open node has a name that fits, and nodes below it
record IsOpenNode (o : OpenNode) : Type 0 where
  small : o.number < 2 ^ 64
  values : AllByRecursion IsNode o.values

with_admitted : (outer inner : OpenNode) → IsOpenNode outer → IsOpenNode inner → IsOpenNode (with_below outer inner)
with_admitted outer inner a b = record {
  small = a.small;
  values = all_push IsNode outer.values (node inner.number inner.values) a.values (node_admitted inner.number inner.values b.small b.values);
}

record IsOpenPath (p : Path) : Type 0 where
  inner : IsOpenNode p.inner
  outers : AllByRecursion IsOpenNode p.outers

left_admitted : (inner : OpenNode) (outers : List OpenNode) → IsOpenNode inner → AllByRecursion IsOpenNode outers → IsOpenPath (path_outside_from inner outers)
left_admitted inner [] a all = record { inner = a; outers = tt }
left_admitted inner (outer ∷ outers) a all = record { inner = with_admitted outer inner all.0 a; outers = all.1 }

some_left : (n : ℕ) (p : Path) → IsOpenPath p → IsOpenPath (path_after n p)
some_left zero p h = h
some_left (suc n) p h = some_left n (path_outside p) (left_admitted p.inner p.outers h.inner h.outers)

under_admitted : (number : ℕ) (p : Path) → number < 2 ^ 64 → IsOpenPath p → IsOpenPath (path_under number p)
under_admitted number p small h = record { inner = record { small = small; values = tt }; outers = (h.inner, h.outers) }

grown_admitted : (size : ℕ) (generator : Lcg) → size < 2 ^ 64 → IsOpenPath (growth_of size generator).path
grown_admitted zero generator small = record { inner = record { small = small; values = tt }; outers = tt }
grown_admitted (suc size) generator small =
    let g = growth_of size generator in
    let count = (pcg32 g.generator).0 % 3 in
    under_admitted (suc size) (path_after count g.path) small (some_left count g.path (grown_admitted size generator (omega (arith, small))))

closed_admitted : (inner : OpenNode) (outers : List OpenNode) → IsOpenNode inner → AllByRecursion IsOpenNode outers → IsNode (tree_of_from inner outers)
closed_admitted inner [] a all = node_admitted inner.number inner.values a.small a.values
closed_admitted inner (outer ∷ outers) a all = closed_admitted (with_below outer inner) outers (with_admitted outer inner all.0 a) all.1

-- ---- the message

one_within : (slot : Slot ℕ) (k : ℕ) (s : Slot ℕ) → slot.min ≡ 1 → slot.max ≡ Some 1 → slice_get (slot ∷ []) k ≡ Some s → MayComeTimes (times k (0 ∷ [])) s
one_within slot zero s min max e =
    subst (λ (t : Slot ℕ). MayComeTimes 1 t) (same_Some slot s e) (omega (arith, min), subst (λ (m : Option ℕ). UpTo 1 m) (sym max) (omega arith))
one_within slot (suc k) s min max e = absurd (let none : None ≡ Some s = e in cc)

one_word : (slot : Slot ℕ) → slot.min ≡ 1 → slot.max ≡ Some 1 → IsSequence (slot ∷ []) (0 ∷ [])
one_word slot min max = record { ordered = (omega arith, omega arith, tt); within = λ k s e. one_within slot k s min max e }

document_admitted : (tree : Value) → IsNode tree → AdmitsAs (types_of drill_tables) (types_of drill_tables 0) (document tree)
document_admitted tree a = (one_word document_slot refl refl, ((document_slot, refl, (one_word message_slot refl refl, ((message_slot, refl, a), tt))), tt))

instance_admitted : (number size : ℕ) → size < 2 ^ 64 → AdmitsAs (types_of drill_tables) (types_of drill_tables 0) (instance number size)
instance_admitted number size small =
    let p = (growth_of size (generator_of number)).path in
    let h = grown_admitted size (generator_of number) small in
    document_admitted (tree_of p) (closed_admitted p.inner p.outers h.inner h.outers)

pub admitted : (number size : ℕ) → size ≤ most_beside → AdmitsAs (types_of drill_tables) (types_of drill_tables 0) (instance number size)
admitted number size few = instance_admitted number size (omega (arith, few))
