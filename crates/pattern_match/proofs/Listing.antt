-- The places of the marks that are set, as a pass goes over the marks.
use Rattle.std.proofs.Common.{suc-add, ◌-◌, ◌≡◌, ◌≢◌, ℕ, zero, suc, ◌+◌, ◌≤◌, ◌<◌, Bool, false, if◌then◌else◌, List, [], ◌∷◌, ◌++◌, length, take, drop, replicate, refl, sym, ap, ◌∙◌, subst, arith, append_assoc, append-nil, length-append, length-drop, drop_of_length-le, zero-add}
use Rattle.std.proofs.lemmas.Bool.{eq-eqb, ne_eqb}
use Rattle.std.proofs.lemmas.List.{length-replicate, replicate-append-replicate, drop_at, drop-drop, drop-append-le, nil_from_length}
use Rattle.pattern_match.specs.declared.instruction.Instruction.{Instruction}
use Rattle.pattern_match.specs.declared.instruction.Instruction.TheVariants.{Take, Open, Bar, Close}
use Rattle.pattern_match.specs.Marks.{IsGroupEnded, AreEnded, ListsPlaces, first_place_or, past}

-- groups that end
pub ended_more : (i : Instruction) (n m : ℕ) → n ≤ m → IsGroupEnded i n → IsGroupEnded i m
ended_more (Take at o r) n m l h = tt
ended_more (Open length o r) n m l h = omega arith
ended_more Bar n m l h = tt
ended_more Close n m l h = tt

-- the first n instructions tell it alone
pub ended_front : (n : ℕ) (code more : List Instruction) → n ≤ length code → AreEnded n code → AreEnded n (code ++ more)
ended_front zero code more l h = tt
ended_front (suc n) [] more l h = absurd (omega arith)
ended_front (suc n) (i ∷ code) more l h = (h.0, ended_front n code more (omega arith) h.1)

pub ended_take : (n : ℕ) (code : List Instruction) → n ≤ length code → AreEnded n code → AreEnded n (take n code)
ended_take zero code l h = tt
ended_take (suc n) [] l h = tt
ended_take (suc n) (i ∷ code) l h = (h.0, ended_take n code (omega arith) h.1)

pub ended_append : (front code : List Instruction) (n : ℕ) → AreEnded (length front) front → AreEnded n code → AreEnded (length front + n) (front ++ code)
ended_append [] code n f h = subst (λ k. AreEnded k code) (sym (zero-add n)) h
ended_append (i ∷ front) code n f h =
    subst (λ k. AreEnded k (i ∷ (front ++ code))) (let z : suc (length front + n) ≡ suc (length front) + n = omega arith in z)
    (ended_more i (length front) (length front + n) (omega arith) f.0, ended_append front code n f.1 h)

-- the first place is one of theirs
pub lists_first : (from : ℕ) (code : List Instruction) (marks : List Bool) (places : List ℕ) → ListsPlaces from code marks places
    → (from ≤ first_place_or places (from + length code)) × (first_place_or places (from + length code) ≤ from + length code)
lists_first from code marks [] h = (omega arith, omega arith)
lists_first from code marks (place ∷ places) (unset, mark, later, p, l, e, h, r) = (omega arith, omega arith)

-- more marks behind those of the code
pub lists_longer : (from : ℕ) (code : List Instruction) (marks more : List Bool) (places : List ℕ) → ListsPlaces from code marks places → ListsPlaces from code (marks ++ more) places
lists_longer from code marks more [] (rest, e, h) = (rest ++ more, ap (λ x. x ++ more) e ∙ append_assoc (replicate (length code) false) rest more, h)
lists_longer from code marks more (place ∷ places) (unset, mark, later, p, l, e, h, r) = (
  unset,
  mark,
  later ++ more,
  p,
  l,
  ap (λ x. x ++ more) e ∙ append_assoc (replicate unset false) (mark ∷ later) more,
  h,
  lists_longer (place + 1) (drop (suc unset) code) later more places r,
)

-- the first place follows marks that are not set
pub lists_skip : (from : ℕ) (code : List Instruction) (marks : List Bool) (places : List ℕ) (n : ℕ) → from + n ≡ first_place_or places (from + length code) → ListsPlaces from code marks places
    → (marks ≡ replicate n false ++ drop n marks) × AreEnded n code × ListsPlaces (from + n) (drop n code) (drop n marks) places
lists_skip from code marks [] n f (more, e, h) =
    let k : n ≡ length code = omega arith in
    let t : marks ≡ replicate n false ++ more = e ∙ ap (λ j. replicate j false ++ more) (sym k) in
    let d : drop n marks ≡ more = ap (λ x. drop n x) t ∙ drop_at (replicate n false) more n (length-replicate n false) in
    let c : drop n code ≡ [] = drop_of_length-le code (let z : length code ≤ n = omega arith in z) in (
      t ∙ ap (λ x. replicate n false ++ x) (sym d),
      subst (λ j. AreEnded j code) (sym k) h,
      subst (λ x. ListsPlaces (from + n) x (drop n marks) []) (sym c) (drop n marks, refl, tt),
    )
lists_skip from code marks (place ∷ places) n f (unset, mark, later, p, l, e, h, r) =
    let k : n ≡ unset = omega arith in
    let t : marks ≡ replicate n false ++ mark ∷ later = e ∙ ap (λ j. replicate j false ++ mark ∷ later) (sym k) in
    let d : drop n marks ≡ mark ∷ later = ap (λ x. drop n x) t ∙ drop_at (replicate n false) (mark ∷ later) n (length-replicate n false) in
    let c : drop 1 (drop n code) ≡ drop (suc unset) code = drop-drop 1 n code ∙ ap (λ j. drop j code) (let z : n + 1 ≡ suc unset = omega arith in z) in
    let b = length-drop n code in (
      t ∙ ap (λ x. replicate n false ++ x) (sym d),
      subst (λ j. AreEnded j code) (sym k) h,
      (0, mark, later, (let z : place ≡ from + n + 0 = omega arith in z), (let z : 0 < length (drop n code) = omega arith in z), d, tt, subst (λ x. ListsPlaces (place + 1) x later places) (sym c) r),
    )

-- so do fewer of these
ended_behind : (n m : ℕ) (code : List Instruction) → AreEnded (n + m) code → AreEnded m (drop n code)
ended_behind zero m code h = subst (λ k. AreEnded k code) (zero-add m) h
ended_behind (suc n) m [] h = none m
  where
    none : (k : ℕ) → AreEnded k []
    none zero = tt
    none (suc k) = tt
ended_behind (suc n) m (i ∷ code) h = ended_behind n m code (subst (λ k. AreEnded k (i ∷ code)) (suc-add n m) h).1

pub lists_part : (from : ℕ) (code : List Instruction) (marks : List Bool) (places : List ℕ) (n : ℕ) → from + n ≤ first_place_or places (from + length code) → ListsPlaces from code marks places
    → (marks ≡ replicate n false ++ drop n marks) × ListsPlaces (from + n) (drop n code) (drop n marks) places
lists_part from code marks [] n f (more, e, h) =
    let r = length code - n in
    let k : length code ≡ n + r = omega arith in
    let t : marks ≡ replicate n false ++ (replicate r false ++ more) =
    e ∙ ap (λ j. replicate j false ++ more) k ∙ ap (λ x. x ++ more) (sym (replicate-append-replicate n r false)) ∙ append_assoc (replicate n false) (replicate r false) more in
    let d : drop n marks ≡ replicate r false ++ more = ap (λ x. drop n x) t ∙ drop_at (replicate n false) (replicate r false ++ more) n (length-replicate n false) in
    let c : r ≡ length (drop n code) = sym (length-drop n code) in (
      t ∙ ap (λ x. replicate n false ++ x) (sym d),
      (more, d ∙ ap (λ j. replicate j false ++ more) c, subst (λ j. AreEnded j (drop n code)) c (ended_behind n r code (subst (λ j. AreEnded j code) k h))),
    )
lists_part from code marks (place ∷ places) n f (unset, mark, later, p, l, e, h, q) =
    let r = unset - n in
    let k : unset ≡ n + r = omega arith in
    let t : marks ≡ replicate n false ++ (replicate r false ++ mark ∷ later) =
    e ∙ ap (λ j. replicate j false ++ mark ∷ later) k ∙ ap (λ x. x ++ mark ∷ later) (sym (replicate-append-replicate n r false)) ∙ append_assoc (replicate n false) (replicate r false) (mark ∷ later) in
    let d : drop n marks ≡ replicate r false ++ mark ∷ later = ap (λ x. drop n x) t ∙ drop_at (replicate n false) (replicate r false ++ mark ∷ later) n (length-replicate n false) in
    let c : drop (suc r) (drop n code) ≡ drop (suc unset) code = drop-drop (suc r) n code ∙ ap (λ j. drop j code) (let z : n + suc r ≡ suc unset = omega arith in z) in
    let b = length-drop n code in (
      t ∙ ap (λ x. replicate n false ++ x) (sym d),
      (
        r,
        mark,
        later,
        (let z : place ≡ from + n + r = omega arith in z),
        (let z : r < length (drop n code) = omega arith in z),
        d,
        ended_behind n r code (subst (λ j. AreEnded j code) k h),
        subst (λ x. ListsPlaces (place + 1) x later places) (sym c) q,
      ),
    )

-- a pass leaves an instruction behind
past_first : (from place : ℕ) (places : List ℕ) → place ≡ from → past from (place ∷ places) ≡ places
past_first from place places e = ap (λ b. if b then places else place ∷ places) (eq-eqb place from e)

past_other : (from place : ℕ) (places : List ℕ) → place ≢ from → past from (place ∷ places) ≡ place ∷ places
past_other from place places n = ap (λ b. if b then places else place ∷ places) (ne_eqb place from n)

pub lists_past : (from : ℕ) (i : Instruction) (code : List Instruction) (mark : Bool) (marks : List Bool) (places : List ℕ) → ListsPlaces from (i ∷ code) (mark ∷ marks) places
    → ListsPlaces (from + 1) code marks (past from places)
lists_past from i code mark marks [] (more, e, h) = (more, ap (λ x. drop 1 x) e, h.1)
lists_past from i code mark marks (place ∷ places) (zero, first, later, p, l, e, h, r) =
    let q : place ≡ from = omega arith in
    let t : marks ≡ later = ap (λ x. drop 1 x) e in
    subst (λ x. ListsPlaces (from + 1) code marks x) (sym (past_first from place places q))
    (subst (λ x. ListsPlaces (from + 1) code x places) (sym t) (subst (λ k. ListsPlaces (k + 1) code later places) q r))
lists_past from i code mark marks (place ∷ places) (suc unset, first, later, p, l, e, h, r) =
    let q : place ≢ from = λ y. omega arith in
    subst (λ x. ListsPlaces (from + 1) code marks x) (sym (past_other from place places q))
    (unset, first, later, (let z : place ≡ from + 1 + unset = omega arith in z), (let z : unset < length code = omega arith in z), ap (λ x. drop 1 x) e, h.1, r)

-- a group none of whose marks is listed need not be listed
pub lists_forget : (from : ℕ) (i : Instruction) (code : List Instruction) (marks : List Bool) (place : ℕ) (places : List ℕ) → ListsPlaces from (i ∷ code) (false ∷ marks) (place ∷ places)
    → place ≡ from → (n : ℕ) → from + 1 + n ≡ first_place_or places (from + 1 + length code) → IsGroupEnded i n → ListsPlaces from (i ∷ code) (false ∷ marks) places
lists_forget from i code marks place places (zero, first, later, p, l, e, h, r) q n f g =
    forget places f (subst (λ x. ListsPlaces (from + 1) code x places) (sym t) (subst (λ k. ListsPlaces (k + 1) code later places) q r))
  where
    t : marks ≡ later
    t = ap (λ x. drop 1 x) e

    forget : (ps : List ℕ) → from + 1 + n ≡ first_place_or ps (from + 1 + length code) → ListsPlaces (from + 1) code marks ps → ListsPlaces from (i ∷ code) (false ∷ marks) ps
    forget [] f2 (more, e2, h2) = (more, ap (λ x. false ∷ x) e2, (ended_more i n (length code) (omega arith) g, h2))
    forget (p2 ∷ ps) f2 (unset, mark2, later2, q2, l2, e2, h2, r2) = (
      suc unset,
      mark2,
      later2,
      (let z : p2 ≡ from + suc unset = omega arith in z),
      (let z : suc unset < suc (length code) = omega arith in z),
      ap (λ x. false ∷ x) e2,
      (ended_more i n unset (omega arith) g, h2),
      r2,
    )
lists_forget from i code marks place places (suc unset, first, later, p, l, e, h, r) q n f g = absurd (omega arith)

-- more instructions, none of which is marked
pub lists_none : (from : ℕ) (code more : List Instruction) (marks : List Bool) (places : List ℕ) → length marks ≡ length code → AreEnded (length more) more → ListsPlaces from code marks places
    → ListsPlaces from (code ++ more) (marks ++ replicate (length more) false) places
lists_none from code more marks [] n a (rest, e, h) = (
  [],
  ap (λ x. x ++ replicate (length more) false) full ∙ replicate-append-replicate (length code) (length more) false
      ∙ ap (λ k. replicate k false) (sym (length-append code more)) ∙ sym (append-nil (replicate (length (code ++ more)) false)),
  subst (λ k. AreEnded k (code ++ more)) (sym (length-append code more)) (ended_append code more (length more) h a),
)
  where
    full : marks ≡ replicate (length code) false
    full =
        let b : length marks ≡ length (replicate (length code) false ++ rest) = ap length e in
        let c = length-append (replicate (length code) false) rest in
        let d = length-replicate (length code) false in
        e ∙ ap (λ r. replicate (length code) false ++ r) (nil_from_length rest (omega arith)) ∙ append-nil (replicate (length code) false)
lists_none from code more marks (place ∷ places) n a (unset, mark, later, p, l, e, h, r) = (
  unset,
  mark,
  later ++ replicate (length more) false,
  p,
  (let z = length-append code more in omega arith),
  ap (λ x. x ++ replicate (length more) false) e ∙ append_assoc (replicate unset false) (mark ∷ later) (replicate (length more) false),
  ended_front unset code more (omega arith) h,
  subst (λ x. ListsPlaces (place + 1) x (later ++ replicate (length more) false) places) (sym (drop-append-le (suc unset) code more (omega arith)))
      (lists_none (place + 1) (drop (suc unset) code) more later places long a r),
)
  where
    long : length later ≡ length (drop (suc unset) code)
    long =
        let b : length marks ≡ length (replicate unset false ++ mark ∷ later) = ap length e in
        let c = length-append (replicate unset false) (mark ∷ later) in
        let d = length-replicate unset false in
        let f = length-drop (suc unset) code in
        omega arith

-- one instruction more, which is listed
pub lists_one : (from : ℕ) (code : List Instruction) (i : Instruction) (marks : List Bool) (mark : Bool) (places : List ℕ) → length marks ≡ length code → ListsPlaces from code marks places
    → ListsPlaces from (code ++ i ∷ []) (marks ++ mark ∷ []) (places ++ (from + length code) ∷ [])
lists_one from code i marks mark [] n (rest, e, h) = (
  length code,
  mark,
  [],
  refl,
  (let z = length-append code (i ∷ []) in omega arith),
  ap (λ x. x ++ mark ∷ []) full,
  ended_front (length code) code (i ∷ []) (omega arith) h,
  subst (λ x. ListsPlaces (from + length code + 1) x [] []) (sym d) ([], refl, tt),
)
  where
    d : drop (suc (length code)) (code ++ i ∷ []) ≡ []
    d = drop_of_length-le (code ++ i ∷ []) (let y = length-append code (i ∷ []) in let z : length (code ++ i ∷ []) ≤ suc (length code) = omega arith in z)

    full : marks ≡ replicate (length code) false
    full =
        let b : length marks ≡ length (replicate (length code) false ++ rest) = ap length e in
        let c = length-append (replicate (length code) false) rest in
        let f = length-replicate (length code) false in
        e ∙ ap (λ r. replicate (length code) false ++ r) (nil_from_length rest (omega arith)) ∙ append-nil (replicate (length code) false)
lists_one from code i marks mark (place ∷ places) n (unset, first, later, p, l, e, h, r) = (
  unset,
  first,
  later ++ mark ∷ [],
  p,
  (let z = length-append code (i ∷ []) in omega arith),
  ap (λ x. x ++ mark ∷ []) e ∙ append_assoc (replicate unset false) (first ∷ later) (mark ∷ []),
  ended_front unset code (i ∷ []) (omega arith) h,
  subst (λ x. ListsPlaces (place + 1) x (later ++ mark ∷ []) (places ++ (from + length code) ∷ [])) (sym (drop-append-le (suc unset) code (i ∷ []) (omega arith)))
      (subst (λ k. ListsPlaces (place + 1) (drop (suc unset) code ++ i ∷ []) (later ++ mark ∷ []) (places ++ k ∷ [])) same
      (lists_one (place + 1) (drop (suc unset) code) i later mark places long r)),
)
  where
    long : length later ≡ length (drop (suc unset) code)
    long =
        let b : length marks ≡ length (replicate unset false ++ first ∷ later) = ap length e in
        let c = length-append (replicate unset false) (first ∷ later) in
        let d = length-replicate unset false in
        let f = length-drop (suc unset) code in
        omega arith

    same : place + 1 + length (drop (suc unset) code) ≡ from + length code
    same = let f = length-drop (suc unset) code in omega arith
