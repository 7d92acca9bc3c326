-- An element of a simple type, the three pieces of which are measured at once.
use Rattle.std.proofs.Common.{◌≡◌, ℕ, suc, ◌+◌, ◌-◌, ◌≤◌, ◌<◌, Bool, true, false, List, ◌∷◌, ◌++◌, length, drop, Some, refl, sym, ap, ap₂, ◌∙◌, subst, arith, add-one, length-append}
use Rattle.std.specs.Prelude.{slice_get, slice_index}
use Rattle.data_types.specs.Value.{Edge, Piece, Begins, Holds, Ends}
use Rattle.facets.specs.declared.simple.Simple.{Simple}
use Rattle.inst_pool.specs.Pieces.{Held, piece_bytes, bytes_of}
use Rattle.reference_check.specs.Forms.{Graph}
use Rattle.der_writer.specs.Measured.{Free, Counts, counts_of, ArePairsKept}
use Rattle.der_writer.specs.inner.PieceOctets.{Before, Begun, Filled, before_of, begin_octets, leaf_octets, octets_before, plain_edge, slots_behind, slots_between}
use Rattle.der_writer.specs.inner.Passes.{Stage, following, piece_step, stage}
use Rattle.der_writer.specs.inner.Measuring.{IsSimpleAt, Knows, before_place, behind_piece, following_at}
use Rattle.der_writer.proofs.PlainHeads.{head_same}
use Rattle.der_writer.proofs.StageBounds.{stage_beside, stage_within}
use Rattle.der_writer.proofs.KnownStages.{SameBut, awaited_same, bytes_from, following_is, kept_same, stage_at}

-- what is known behind three pieces, of which the first has its numbers, and none belong to the others
pub knows_three : (p : Bool) (held new : Held) (at kept ended total sum : ℕ) (s : Stage) → p ≡ false → Knows held (at + 3) kept ended total s → SameBut kept held new → (len group : ℕ) → slice_index new.lens kept ≡ len → slice_index new.groups kept ≡ group
    → (y : ℕ) → sum ≡ y → Knows new at (kept + 1) ended sum (record { sum = y; frames = s.frames; beside = counts_of p len group ∷ Free ∷ Free ∷ s.beside })
knows_three true held new at kept ended total sum s paired k same len group l g y e = absurd cc
knows_three false held new at kept ended total sum s paired k same len group l g y e =
    let room = k.room in
    let less : kept + ended < length held.region.pieces = omega (arith, room) in
    let all : kept ≤ kept = omega arith in
    record {
      total_is = e;
      numbers = subst (λ n. ArePairsKept new n (Counts len group ∷ Free ∷ Free ∷ s.beside)) (sym (add-one kept)) (l, g, kept_same kept held new kept s.beside same all k.numbers);
      awaited = awaited_same kept held new ended s.frames same less k.awaited;
      room = (let all = ap (λ r. length r.pieces) same.region in omega (arith, room, all));
    }

-- the same where the first is a plain element's: nothing is kept
pub knows_three_plain : (p : Bool) (held : Held) (at kept ended total sum : ℕ) (s : Stage) → p ≡ true → Knows held (at + 3) kept ended total s → (len group y : ℕ) → sum ≡ y
    → Knows held at kept ended sum (record { sum = y; frames = s.frames; beside = counts_of p len group ∷ Free ∷ Free ∷ s.beside })
knows_three_plain false held at kept ended total sum s plain k len group y e = absurd cc
knows_three_plain true held at kept ended total sum s plain k len group y e = record {
  total_is = e;
  numbers = k.numbers;
  awaited = k.awaited;
  room = (let room = k.room in omega (arith, room));
}

-- the stage at a piece, by that behind it
stage_next : (g : Graph ℕ Simple) (ps : List Piece) (at next : ℕ) (p : Piece) → next ≡ at + 1 → slice_get ps at ≡ Some p
    → stage g (before_place ps at) (drop at ps) ≡ piece_step g (before_place ps at) p (drop next ps) (stage g (before_place ps next) (drop next ps))
stage_next g ps at next p e there = stage_at g ps at p there ∙ ap (λ n. piece_step g (before_place ps at) p (drop n ps) (stage g (before_place ps n) (drop n ps))) (sym e)

before_next : (ps : List Piece) (at next : ℕ) (p : Piece) → next ≡ at + 1 → slice_get ps at ≡ Some p → before_place ps next ≡ before_of p
before_next ps at next p e there = (let same : next ≡ suc at = omega (arith, e) in ap (before_place ps) same ∙ ap behind_piece there)

-- the stage in front of such an element, by that behind it
pub simple_stage : (g : Graph ℕ Simple) (ps : List Piece) (at : ℕ) (edge : Edge) (size : ℕ) → (is : IsSimpleAt g ps at edge size)
    → stage g (before_place ps at) (drop at ps)
    ≡ piece_step g (before_place ps at) (Begins edge) (drop (at + 1) ps) (piece_step g (Begun edge) (Holds is.leaf) (drop (at + 2) ps) (piece_step g Filled (Ends edge) (drop (at + 3) ps) (stage g (before_place ps (at + 3)) (drop (at + 3) ps))))
simple_stage g ps at edge size is =
    let second : at + 2 ≡ at + 1 + 1 = omega arith in
    let third : at + 3 ≡ at + 2 + 1 = omega arith in
    let last = stage_next g ps (at + 2) (at + 3) (Ends edge) third is.there.ends
    ∙ ap (λ b. piece_step g b (Ends edge) (drop (at + 3) ps) (stage g (before_place ps (at + 3)) (drop (at + 3) ps))) (before_next ps (at + 1) (at + 2) (Holds is.leaf) second is.there.holds) in
    let leaf = stage_next g ps (at + 1) (at + 2) (Holds is.leaf) second is.there.holds
    ∙ ap₂ (λ b s. piece_step g b (Holds is.leaf) (drop (at + 2) ps) s) (before_next ps at (at + 1) (Begins edge) refl is.there.begins) last in
    stage_next g ps at (at + 1) (Begins edge) refl is.there.begins ∙ ap (λ s. piece_step g (before_place ps at) (Begins edge) (drop (at + 1) ps) s) leaf

-- what follows such an element is no more than there is
pub follows_within : (g : Graph ℕ Simple) (held : Held) (at kept ended total k : ℕ) → Knows held at kept ended total (stage g (before_place held.region.pieces at) (drop at held.region.pieces)) → following_at g held at kept k ≤ total
follows_within g held at kept ended total k known =
    let ps = held.region.pieces in
    let s = stage g (before_place ps at) (drop at ps) in
    let is = following_is g held at kept k s.beside (stage_beside g (before_place ps at) (drop at ps)) known.numbers in
    let most = (stage_within g (before_place ps at) (drop at ps)).1 k in
    let same = known.total_is in
    omega (arith, is, most, same)

module _ (g : Graph ℕ Simple) (held : Held) (at kept ended total sum : ℕ) (edge : Edge) (size between list head : ℕ) (is : IsSimpleAt g held.region.pieces at edge size)
    (k : Knows held (at + 3) kept ended total (stage g (before_place held.region.pieces (at + 3)) (drop (at + 3) held.region.pieces))) where
  abbrev ps : List Piece
  ps = held.region.pieces

  abbrev before : Before
  before = before_place ps at

  abbrev s : Stage
  s = stage g (before_place ps (at + 3)) (drop (at + 3) ps)

  abbrev len : ℕ
  len = (length (leaf_octets g (Begun edge) is.leaf) + (length (slots_behind g edge.target Filled) + s.sum)) - s.sum

  abbrev group : ℕ
  group = length (begin_octets g edge len) + len + following (drop (at + 3) ps) s.beside edge.slot

  len_is : size ≡ len
  len_is = (let octets = is.octets in let none = is.none in omega (arith, octets, none))

  begin_is : head ≡ length (begin_octets g edge size) → head ≡ length (begin_octets g edge len)
  begin_is head_is = head_is ∙ ap (λ z. length (begin_octets g edge z)) len_is

  -- the sum in front of the element, by that behind it
  sum_at : head ≡ length (begin_octets g edge size) → between + list ≡ length (octets_before g before edge group) → sum ≡ total + size + between + list + head
      → sum ≡ length (octets_before g before edge group ++ begin_octets g edge len) + (length (leaf_octets g (Begun edge) is.leaf) + (length (slots_behind g edge.target Filled) + s.sum))
  sum_at head_is list_is e =
      let split = length-append (octets_before g before edge group) (begin_octets g edge len) in
      let own = begin_is head_is in
      let octets = is.octets in
      let none = is.none in
      let same = k.total_is in
      omega (arith, e, same, octets, none, own, list_is, split)

  -- the pass knows what the stage in front of the element says, where its numbers are set
  pub knows_simple : (new : Held) → plain_edge g edge ≡ false → SameBut kept held new → slice_index new.lens kept ≡ size → slice_index new.groups kept ≡ head + size + following_at g held (at + 3) kept edge.slot
      → head ≡ length (begin_octets g edge size) → between + list ≡ length (octets_before g before edge (head + size + following_at g held (at + 3) kept edge.slot)) → sum ≡ total + size + between + list + head
      → Knows new at (kept + 1) ended sum (stage g before (drop at ps))
  knows_simple new paired same lens groups head_is before_is e =
      let follow : following_at g held (at + 3) kept edge.slot ≡ following (drop (at + 3) ps) s.beside edge.slot =
      sym (following_is g held (at + 3) kept edge.slot s.beside (stage_beside g (before_place ps (at + 3)) (drop (at + 3) ps)) k.numbers) in
      let group_is : head + size + following_at g held (at + 3) kept edge.slot ≡ group = ap₂ (λ a b. a + b) (ap₂ (λ a b. a + b) (begin_is head_is) len_is) follow in
      let list_is : between + list ≡ length (octets_before g before edge group) = before_is ∙ ap (λ z. length (octets_before g before edge z)) group_is in
      subst (Knows new at (kept + 1) ended sum) (sym (simple_stage g ps at edge size is))
      (knows_three (plain_edge g edge) held new at kept ended total sum s paired k same len group (lens ∙ len_is) (groups ∙ group_is) _ (sum_at head_is list_is e))

  -- the same of a plain element, of which none are kept
  pub knows_simple_plain : plain_edge g edge ≡ true → (any : ℕ) → head ≡ length (begin_octets g edge size) → between + list ≡ length (octets_before g before edge any) → sum ≡ total + size + between + list + head
      → Knows held at kept ended sum (stage g before (drop at ps))
  knows_simple_plain plain any head_is before_is e =
      let list_is : between + list ≡ length (octets_before g before edge group) = before_is ∙ ap (λ z. length (slots_between g edge.parent before edge.slot ++ z)) (head_same g before edge any group plain) in
      subst (Knows held at kept ended sum) (sym (simple_stage g ps at edge size is)) (knows_three_plain (plain_edge g edge) held at kept ended total sum s plain k len group _ (sum_at head_is list_is e))

-- the bytes of such an element
pub simple_bytes : (g : Graph ℕ Simple) (ps : List Piece) (at : ℕ) (edge : Edge) (size : ℕ) → IsSimpleAt g ps at edge size → size + bytes_of (drop (at + 3) ps) ≤ 32 + bytes_of (drop at ps)
simple_bytes g ps at edge size is =
    let second : at + 1 + 1 ≡ at + 2 = omega arith in
    let third : at + 2 + 1 ≡ at + 3 = omega arith in
    let a = bytes_from ps at (Begins edge) is.there.begins in
    let b = bytes_from ps (at + 1) (Holds is.leaf) is.there.holds ∙ ap (λ n. piece_bytes (Holds is.leaf) + bytes_of (drop n ps)) second in
    let c = bytes_from ps (at + 2) (Ends edge) is.there.ends ∙ ap (λ n. piece_bytes (Ends edge) + bytes_of (drop n ps)) third in
    let few = is.few in
    omega (arith, a, b, c, few)
