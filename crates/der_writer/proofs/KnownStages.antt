-- The pass knows one piece more: what it kept of the pieces behind stays, and what it keeps of this one is known.
use Rattle.std.proofs.Common.{◌≡◌, ◌≢◌, ℕ, zero, suc, ◌+◌, ◌-◌, ◌≤◌, ◌<◌, Bool, true, false, List, [], ◌∷◌, length, drop, Option, Some, None, refl, sym, ap, ◌∙◌, subst, arith, add-one}
use Rattle.std.specs.Prelude.{slice_get, slice_index, slice_set, ◌==◌, if◌then◌else◌}
use Rattle.std.proofs.lemmas.List.{get_or-set_same, get_or-set_other}
use Rattle.std.proofs.lemmas.Bool.Decides.{nat_tests}
use Rattle.std.proofs.lemmas.Bool.{cond-true, cond-false}
use Rattle.data_types.specs.Leaf.{Leaf}
use Rattle.data_types.specs.Value.{Edge, Piece, Begins, Holds, Ends}
use Rattle.facets.specs.declared.simple.Simple.{Simple}
use Rattle.inst_pool.specs.Pieces.{Held, piece_bytes, bytes_of}
use Rattle.reference_check.specs.Forms.{Graph}
use Rattle.der_model.proofs.BegunSlots.{drop_get}
use Rattle.der_writer.specs.Measured.{Beside, Free, Sized, Counts, counts_of, ArePairsKept}
use Rattle.der_writer.specs.inner.PieceOctets.{Begun, Filled, Ended, before_of, plain_edge}
use Rattle.der_writer.specs.inner.Passes.{Frame, Stage, following, innermost_frame, piece_step, stage}
use Rattle.der_writer.proofs.PlainHeads.{no_other}
use Rattle.der_writer.proofs.Whole.{is_there}
use Rattle.der_writer.specs.inner.Measuring.{AreBeside, following_piece, following_at, AreAwaited, Knows, before_place, behind_piece, IsSizeOf, IsSizeAt}

tests : (n k : ℕ) → n ≡ k → (n == k) ≡ true
tests n k same = subst (λ z. (n == z) ≡ true) same (own n)
  where
    own : (n : ℕ) → (n == n) ≡ true
    own n = grind (arith, nat_tests)

apart : (a b : ℕ) → a < b → a ≢ b
apart a b l e = absurd (omega (arith, l, e))

beyond : (a b : ℕ) → b < a → a ≢ b
beyond a b l e = absurd (omega (arith, l, e))

-- the same pieces, and the same numbers at every place but one
pub record SameBut (place : ℕ) (old new : Held) : Type 0 where
  pub region : new.region ≡ old.region
  pub lens : (q : ℕ) → q ≢ place → slice_index new.lens q ≡ slice_index old.lens q
  pub groups : (q : ℕ) → q ≢ place → slice_index new.groups q ≡ slice_index old.groups q

-- pairs of numbers stay where the place is behind them
pub kept_same : (place : ℕ) (old new : Held) (n : ℕ) (bs : List Beside) → SameBut place old new → n ≤ place → ArePairsKept old n bs → ArePairsKept new n bs
kept_same place old new zero [] s l k = tt
kept_same place old new (suc n) [] s l k = absurd k
kept_same place old new n (Free ∷ bs) s l k = kept_same place old new n bs s l k
kept_same place old new n (Sized len ∷ bs) s l k = kept_same place old new n bs s l k
kept_same place old new zero (Counts len group ∷ bs) s l k = absurd k
kept_same place old new (suc n) (Counts len group ∷ bs) s l (a, b, k) =
    let before : n < place = omega (arith, l) in
    let less : n ≤ place = omega (arith, l) in
    (s.lens n (apart n place before) ∙ a, s.groups n (apart n place before) ∙ b, kept_same place old new n bs s less k)

-- what is known of elements stays where the place is before that
pub awaited_same : (place : ℕ) (old new : Held) (ended : ℕ) (fs : List Frame) → SameBut place old new → place + ended < length old.region.pieces → AreAwaited old ended fs → AreAwaited new ended fs
awaited_same place old new zero [] s l h = tt
awaited_same place old new zero (f ∷ fs) s l h = absurd h
awaited_same place old new (suc ended) [] s l h = absurd h
awaited_same place old new (suc ended) (f ∷ fs) s l (a, b, h) =
    let behind : place < length old.region.pieces - suc ended = omega (arith, l) in
    let less : place + ended < length old.region.pieces = omega (arith, l) in
    let other = beyond (length old.region.pieces - suc ended) place behind in (
      ap (λ r. slice_index new.lens (length r.pieces - suc ended)) s.region ∙ (s.lens (length old.region.pieces - suc ended) other ∙ a),
      ap (λ r. slice_index new.groups (length r.pieces - suc ended)) s.region ∙ (s.groups (length old.region.pieces - suc ended) other ∙ b),
      awaited_same place old new ended fs s less h,
    )

pub awaited_behind : (held : Held) (ended : ℕ) (fs : List Frame) → AreAwaited held ended fs → AreAwaited held (ended - 1) (drop 1 fs)
awaited_behind held zero [] h = tt
awaited_behind held zero (f ∷ fs) h = absurd h
awaited_behind held (suc ended) [] h = absurd h
awaited_behind held (suc ended) (f ∷ fs) (a, b, h) = (let less : ended ≡ suc ended - 1 = omega arith in subst (λ n. AreAwaited held n fs) less h)

pub index_set : (xs : List ℕ) (at x : ℕ) → at < length xs → slice_index (slice_set xs at x) at ≡ x
index_set xs at x l = grind (arith, get_or-set_same)

pub index_other : (xs : List ℕ) (at q x : ℕ) → q ≢ at → slice_index (slice_set xs at x) q ≡ slice_index xs q
index_other xs at q x l = grind (arith, get_or-set_other)

get_drop : (ps : List Piece) (at : ℕ) → drop at ps ≡ [] → slice_get ps at ≡ None
get_drop [] zero e = refl
get_drop [] (suc at) e = refl
get_drop (p ∷ ps) zero e = absurd cc
get_drop (p ∷ ps) (suc at) e = get_drop ps at e

get_drop_some : (ps qs : List Piece) (at : ℕ) (p : Piece) → drop at ps ≡ p ∷ qs → slice_get ps at ≡ Some p
get_drop_some [] qs zero p e = absurd cc
get_drop_some [] qs (suc at) p e = absurd cc
get_drop_some (x ∷ ps) qs zero p e = (let h : x ≡ p = cc in ap (λ z. Some z) h)
get_drop_some (x ∷ ps) qs (suc at) p e = get_drop_some ps qs at p e

-- what follows is known by the last pair of numbers
pub following_is : (g : Graph ℕ Simple) (held : Held) (at kept k : ℕ) (bs : List Beside) → AreBeside g (drop at held.region.pieces) bs → ArePairsKept held kept bs → following (drop at held.region.pieces) bs k ≡ following_at g held at kept k
following_is g held at kept k bs are numbers = go kept (drop at held.region.pieces) bs refl are numbers
  where
    there : (n : ℕ) (ps : List Piece) (p : Piece) → drop at held.region.pieces ≡ p ∷ ps → following_piece g (Some p) (slice_index held.groups n) k ≡ following_at g held at (suc n) k
    there n ps p e = ap (λ z. following_piece g z (slice_index held.groups n) k) (sym (get_drop_some held.region.pieces ps at p e))

    go : (n : ℕ) (ps : List Piece) (bs : List Beside) → drop at held.region.pieces ≡ ps → AreBeside g ps bs → ArePairsKept held n bs → following ps bs k ≡ following_at g held at n k
    go zero [] bs e are numbers = refl
    go (suc n) [] bs e are numbers = ap (λ z. following_piece g z (slice_index held.groups n) k) (sym (get_drop held.region.pieces at e))
    go n (p ∷ ps) [] e are numbers = absurd are
    go n (Begins edge ∷ ps) (Free ∷ bs) e are numbers = absurd are
    go zero (Begins edge ∷ ps) (Sized len ∷ bs) e are numbers = refl
    go (suc n) (Begins edge ∷ ps) (Sized len ∷ bs) e (plain, are) numbers =
        sym (no_other (edge.slot == k)) ∙ (ap (λ z. if edge.slot == k then z else 0) (sym (cond-true (plain_edge g edge) 0 (slice_index held.groups n) plain)) ∙ there n ps (Begins edge) e)
    go zero (Begins edge ∷ ps) (Counts len group ∷ bs) e are numbers = absurd numbers
    go (suc n) (Begins edge ∷ ps) (Counts len group ∷ bs) e (plain, are) (a, b, numbers) =
        ap (λ z. if edge.slot == k then z else 0) (sym b ∙ sym (cond-false (plain_edge g edge) 0 (slice_index held.groups n) plain)) ∙ there n ps (Begins edge) e
    go zero (Holds l ∷ ps) (b ∷ bs) e are numbers = refl
    go (suc n) (Holds l ∷ ps) (b ∷ bs) e are numbers = there n ps (Holds l) e
    go zero (Ends edge ∷ ps) (b ∷ bs) e are numbers = refl
    go (suc n) (Ends edge ∷ ps) (b ∷ bs) e are numbers = there n ps (Ends edge) e

-- a leaf: no number belongs to it
pub knows_free : (held : Held) (at kept ended total sum : ℕ) (s : Stage) → Knows held (at + 1) kept ended total s → (x : ℕ) → sum ≡ total + x → Knows held at kept ended sum (record { sum = x + s.sum; frames = s.frames; beside = Free ∷ s.beside })
knows_free held at kept ended total sum s k x e = record {
  total_is = (let same = k.total_is in omega (arith, e, same));
  numbers = k.numbers;
  awaited = k.awaited;
  room = (let room = k.room in omega (arith, room));
}

-- an end, of which the sum and what follows are kept
pub knows_end : (g : Graph ℕ Simple) (held new : Held) (at kept ended total sum place : ℕ) (s : Stage) (edge : Edge) → Knows held (at + 1) kept ended total s → place ≡ length held.region.pieces - suc ended → SameBut place held new
    → slice_index new.lens place ≡ total → slice_index new.groups place ≡ following_at g held (at + 1) kept edge.slot → AreBeside g (drop (at + 1) held.region.pieces) s.beside → (x : ℕ) → sum ≡ total + x
    → Knows new at kept (ended + 1) sum (record { sum = x + s.sum; frames = record { behind = s.sum; following = following (drop (at + 1) held.region.pieces) s.beside edge.slot } ∷ s.frames; beside = Free ∷ s.beside })
knows_end g held new at kept ended total sum place s edge k where_is same len group are x e =
    let room = k.room in
    let free : kept ≤ place = omega (arith, room, where_is) in
    let less : place + ended < length held.region.pieces = omega (arith, room, where_is) in
    let place_is : length new.region.pieces - suc ended ≡ place = ap (λ r. length r.pieces - suc ended) same.region ∙ sym where_is in
    record {
      total_is = (let t = k.total_is in omega (arith, e, t));
      numbers = kept_same place held new kept s.beside same free k.numbers;
      awaited = subst (λ n. AreAwaited new n (record { behind = s.sum; following = following (drop (at + 1) held.region.pieces) s.beside edge.slot } ∷ s.frames)) (sym (add-one ended)) (
        ap (slice_index new.lens) place_is ∙ (len ∙ k.total_is),
        ap (slice_index new.groups) place_is ∙ (group ∙ sym (following_is g held (at + 1) kept edge.slot s.beside are k.numbers)),
        awaited_same place held new ended s.frames same less k.awaited,
      );
      room = (let all = ap (λ r. length r.pieces) same.region in omega (arith, room, all));
    }

-- a beginning, of which both numbers are kept
pub knows_begin : (p : Bool) (held new : Held) (at kept ended less total sum : ℕ) (s : Stage) → p ≡ false → Knows held (at + 1) kept ended total s → less ≡ ended - 1 → SameBut kept held new → (len group : ℕ)
    → slice_index new.lens kept ≡ len → slice_index new.groups kept ≡ group → (x : ℕ) → sum ≡ total + x
    → Knows new at (kept + 1) less sum (record { sum = x + s.sum; frames = drop 1 s.frames; beside = counts_of p len group ∷ s.beside })
knows_begin true held new at kept ended less total sum s paired k less_is same len group l g x e = absurd cc
knows_begin false held new at kept ended less total sum s paired k less_is same len group l g x e =
    let room = k.room in
    let free : kept + less < length held.region.pieces = omega (arith, room, less_is) in
    let all : kept ≤ kept = omega arith in
    record {
      total_is = (let t = k.total_is in omega (arith, e, t));
      numbers = subst (λ n. ArePairsKept new n (Counts len group ∷ s.beside)) (sym (add-one kept)) (l, g, kept_same kept held new kept s.beside same all k.numbers);
      awaited = awaited_same kept held new less (drop 1 s.frames) same free (subst (λ n. AreAwaited held n (drop 1 s.frames)) (sym less_is) (awaited_behind held ended s.frames k.awaited));
      room = (let all = ap (λ r. length r.pieces) same.region in omega (arith, room, all, less_is));
    }

-- a plain beginning: nothing is kept of it
pub knows_plain : (p : Bool) (held : Held) (at kept ended less total sum : ℕ) (s : Stage) → p ≡ true → Knows held (at + 1) kept ended total s → less ≡ ended - 1 → (len group x : ℕ) → sum ≡ total + x
    → Knows held at kept less sum (record { sum = x + s.sum; frames = drop 1 s.frames; beside = counts_of p len group ∷ s.beside })
knows_plain false held at kept ended less total sum s plain k less_is len group x e = absurd cc
knows_plain true held at kept ended less total sum s plain k less_is len group x e = record {
  total_is = (let t = k.total_is in omega (arith, e, t));
  numbers = k.numbers;
  awaited = subst (λ n. AreAwaited held n (drop 1 s.frames)) (sym less_is) (awaited_behind held ended s.frames k.awaited);
  room = (let room = k.room in omega (arith, room, less_is));
}

-- what was kept of the innermost element
pub innermost_none : (held : Held) (ended : ℕ) (fs : List Frame) → ended ≡ 0 → AreAwaited held ended fs → (0 ≡ (innermost_frame fs).behind) × (0 ≡ (innermost_frame fs).following)
innermost_none held ended [] e h = (refl, refl)
innermost_none held zero (f ∷ fs) e h = absurd h
innermost_none held (suc ended) (f ∷ fs) e h = absurd cc

pub innermost_some : (held : Held) (ended place behind following : ℕ) (fs : List Frame) → ended ≢ 0 → place ≡ length held.region.pieces - ended → behind ≡ slice_index held.lens place → following ≡ slice_index held.groups place
    → AreAwaited held ended fs → (behind ≡ (innermost_frame fs).behind) × (following ≡ (innermost_frame fs).following)
innermost_some held zero place behind following fs some e b f h = absurd (some refl)
innermost_some held (suc ended) place behind following [] some e b f h = absurd h
innermost_some held (suc ended) place behind following (frame ∷ fs) some e b f (x, y, h) = (b ∙ (ap (slice_index held.lens) e ∙ x), f ∙ (ap (slice_index held.groups) e ∙ y))

-- both numbers at a place are set
pub sets_same : (old mid new : Held) (at x y : ℕ) → at < length old.lens → at < length old.groups → mid.lens ≡ slice_set old.lens at x → (mid.region ≡ old.region) × (mid.groups ≡ old.groups)
    → new.groups ≡ slice_set mid.groups at y → (new.region ≡ mid.region) × (new.lens ≡ mid.lens) → SameBut at old new × (slice_index new.lens at ≡ x) × (slice_index new.groups at ≡ y)
sets_same old mid new at x y l k lens (r, g) groups (r2, l2) =
    let all : new.lens ≡ slice_set old.lens at x = l2 ∙ lens in
    let both : new.groups ≡ slice_set old.groups at y = groups ∙ ap (λ z. slice_set z at y) g in (
      record { region = r2 ∙ r; lens = λ q h. ap (λ z. slice_index z q) all ∙ index_other old.lens at q x h; groups = λ q h. ap (λ z. slice_index z q) both ∙ index_other old.groups at q y h },
      ap (λ z. slice_index z at) all ∙ index_set old.lens at x l,
      ap (λ z. slice_index z at) both ∙ index_set old.groups at y k,
    )

-- the piece that is there, by what stands before the one behind it
pub piece_there : (ps : List Piece) (at : ℕ) → at < length ps → (p : Piece) × (slice_get ps at ≡ Some p) × (before_place ps (at + 1) ≡ before_of p)
piece_there ps at l = go (slice_get ps at) refl
  where
    go : (o : Option Piece) → slice_get ps at ≡ o → (p : Piece) × (slice_get ps at ≡ Some p) × (before_place ps (at + 1) ≡ before_of p)
    go None e = absurd (is_there at ps l e)
    go (Some p) e = (p, e, ap (before_place ps) (add-one at) ∙ ap behind_piece e)

pub begins_there : (p : Piece) (e : Edge) → before_of p ≡ Begun e → p ≡ Begins e
begins_there (Begins x) e h = cc
begins_there (Holds l) e h = absurd cc
begins_there (Ends x) e h = absurd cc

pub ends_there : (p : Piece) (e : Edge) → before_of p ≡ Ended e → p ≡ Ends e
ends_there (Begins x) e h = absurd cc
ends_there (Holds l) e h = absurd cc
ends_there (Ends x) e h = cc

pub holds_there : (p : Piece) → before_of p ≡ Filled → (l : Leaf) × (p ≡ Holds l)
holds_there (Begins x) h = absurd cc
holds_there (Holds l) h = (l, refl)
holds_there (Ends x) h = absurd cc

-- an element that begins there, and has a pair of numbers
pub following_begun : (g : Graph ℕ Simple) (held : Held) (at kept k : ℕ) (e : Edge) → slice_get held.region.pieces at ≡ Some (Begins e) → e.slot ≡ k → plain_edge g e ≡ false → kept ≢ 0
    → slice_index held.groups (kept - 1) ≡ following_at g held at kept k
following_begun g held at zero k e there same plain some = absurd (some refl)
following_begun g held at (suc n) k e there same plain some =
    let last : suc n - 1 ≡ n = omega arith in
    ap (slice_index held.groups) last
    ∙ (sym (cond-false (plain_edge g e) 0 (slice_index held.groups n) plain)
    ∙ sym (ap (λ z. following_piece g z (slice_index held.groups n) k) there ∙ cond-true (e.slot == k) _ 0 (tests e.slot k same)))

-- a plain element that begins there
pub following_plain : (g : Graph ℕ Simple) (held : Held) (at kept k : ℕ) (e : Edge) → slice_get held.region.pieces at ≡ Some (Begins e) → e.slot ≡ k → plain_edge g e ≡ true → 0 ≡ following_at g held at kept k
following_plain g held at zero k e there same plain = refl
following_plain g held at (suc n) k e there same plain =
    sym (cond-true (plain_edge g e) 0 (slice_index held.groups n) plain) ∙ sym (ap (λ z. following_piece g z (slice_index held.groups n) k) there ∙ cond-true (e.slot == k) _ 0 (tests e.slot k same))

-- an element of another slot that begins there
pub following_other : (g : Graph ℕ Simple) (held : Held) (at kept k : ℕ) (e : Edge) → slice_get held.region.pieces at ≡ Some (Begins e) → e.slot ≢ k → 0 ≡ following_at g held at kept k
following_other g held at zero k e there other = refl
following_other g held at (suc n) k e there other =
    let test : (e.slot == k) ≡ false = grind (arith, nat_tests) in
    sym (ap (λ z. following_piece g z (slice_index held.groups n) k) there ∙ cond-false (e.slot == k) _ 0 test)

-- the size of the leaf that was read
pub size_there : (ps : List Piece) (at size : ℕ) (p : Piece) → slice_get ps at ≡ Some p → IsSizeAt (slice_get ps at) size → IsSizeOf p size
size_there ps at size p there h = subst (λ z. IsSizeAt z size) there h

pub size_within : (p : Piece) (size : ℕ) → IsSizeOf p size → size ≤ piece_bytes p + 32
size_within (Begins e) size h = omega (arith, h)
size_within (Holds l) size h = h.1
size_within (Ends e) size h = omega (arith, h)

pub stage_at : (g : Graph ℕ Simple) (ps : List Piece) (at : ℕ) (p : Piece) → slice_get ps at ≡ Some p
    → stage g (before_place ps at) (drop at ps) ≡ piece_step g (before_place ps at) p (drop (at + 1) ps) (stage g (before_place ps (at + 1)) (drop (at + 1) ps))
stage_at g ps at p e =
    let next = add-one at in
    let before : before_of p ≡ before_place ps (at + 1) = sym (ap (before_place ps) next ∙ ap behind_piece e) in
    ap (stage g (before_place ps at)) (drop_get ps at p e ∙ ap (λ z. p ∷ drop z ps) (sym next))
    ∙ ap (λ z. piece_step g (before_place ps at) p (drop (at + 1) ps) (stage g z (drop (at + 1) ps))) before

-- the bytes of one piece, and of those from a place on
pub bytes_at : (ps : List Piece) (at : ℕ) (p : Piece) → slice_get ps at ≡ Some p → piece_bytes p ≤ bytes_of ps
bytes_at [] at p e = absurd cc
bytes_at (x ∷ ps) zero p e = (let same : x ≡ p = cc in subst (λ z. piece_bytes z ≤ piece_bytes x + bytes_of ps) same (omega arith))
bytes_at (x ∷ ps) (suc at) p e = (let r = bytes_at ps at p e in omega arith)

pub bytes_from : (ps : List Piece) (at : ℕ) (p : Piece) → slice_get ps at ≡ Some p → bytes_of (drop at ps) ≡ piece_bytes p + bytes_of (drop (at + 1) ps)
bytes_from ps at p e = ap bytes_of (drop_get ps at p e) ∙ ap (λ z. piece_bytes p + bytes_of (drop z ps)) (sym (add-one at))

pub bytes_within : (ps : List Piece) (at : ℕ) → bytes_of (drop at ps) ≤ bytes_of ps
bytes_within [] zero = omega arith
bytes_within [] (suc at) = omega arith
bytes_within (p ∷ ps) zero = omega arith
bytes_within (p ∷ ps) (suc at) = (let r = bytes_within ps at in omega arith)
