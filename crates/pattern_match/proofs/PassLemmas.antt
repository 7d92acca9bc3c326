-- What the two passes over the instructions of a plan leave, by induction on the plan.
use Rattle.std.proofs.Common.{◌≡◌, ℕ, suc, ◌+◌, ◌⊎◌, ◌↔◌, inl, inr, Bool, true, false, ◌||◌, ◌&&◌, IsTrue, List, [], ◌∷◌, ◌++◌, refl, sym, ap, ◌∙◌, subst, ⊎_elim, get_or, arith, zero-add, add-zero, suc-add, append-nil, append_assoc}
use Rattle.lexical_core.proofs.Tests.{either}
use Rattle.pattern_match.specs.Language.{IsBoth}
use Rattle.pattern_match.specs.inner.Plan.{Plan, Nothing, One, Many, Either, size, code_then, Flagged, IsTakenAt, PlanLang, BeginsPart, Ends, Marked, IsOneBranch, IsPlan}
use Rattle.pattern_match.specs.Marking.{frame, with_group, first_pass, second_pass}
use Rattle.pattern_match.specs.declared.instruction.Instruction.{Instruction}
use Rattle.pattern_match.specs.declared.instruction.Instruction.TheVariants.{Bar, Close}
use Rattle.pattern_match.specs.declared.instruction.Frame.{Frame}
use Rattle.pattern_match.proofs.Groups.{first_bar, first_close, second_bar, second_close}
use Rattle.pattern_match.proofs.Words.{both_ends, ends_both, begins_cases, begins_first, begins_again, flagged_ends, ends_flagged, flagged_empty, empty_flagged, then_ends, ends_then, then_empty, empty_then, taken_ends, ends_taken}

pub true_or : (a b : Bool) → IsTrue a ⊎ IsTrue b → IsTrue (a || b)
true_or true b h = refl
true_or false b (inl h) = absurd (cc)
true_or false b (inr h) = h

pub and_true : (a b : Bool) → IsTrue (a && b) → IsTrue a × IsTrue b
and_true true b h = (refl, h)
and_true false b h = absurd (cc)

pub true_and : (a b : Bool) → IsTrue a → IsTrue b → IsTrue (a && b)
true_and true b h k = k
true_and false b h k = absurd (cc)

-- one part that may be left out or repeated, and then the rest
pub item_out : (o r : Bool) (A P : List ℕ → Type 0) (w : List ℕ) (out now : Bool)
    → (IsTrue out ↔ (IsTrue (o && now) ⊎ (Ends (BeginsPart r A P) P w ⊎ (IsTrue now × P []))))
    → (IsTrue out ↔ (Ends A (Flagged o r P) w ⊎ (IsTrue now × Flagged o r P [])))
item_out o r A P w out now h = (λ t. forth (h.0 t), λ t. h.1 (back t))
  where
    forth : IsTrue (o && now) ⊎ (Ends (BeginsPart r A P) P w ⊎ (IsTrue now × P [])) → Ends A (Flagged o r P) w ⊎ (IsTrue now × Flagged o r P [])
    forth (inl t) = inr ((and_true o now t).1, empty_flagged o r P (inl (and_true o now t).0))
    forth (inr (inl e)) = inl (ends_flagged o r A P w e)
    forth (inr (inr (n, p))) = inr (n, empty_flagged o r P (inr p))

    back : Ends A (Flagged o r P) w ⊎ (IsTrue now × Flagged o r P []) → IsTrue (o && now) ⊎ (Ends (BeginsPart r A P) P w ⊎ (IsTrue now × P []))
    back (inl e) = inr (inl (flagged_ends o r A P w e))
    back (inr (n, f)) = ⊎_elim (λ t. inl (true_and o now t n)) (λ p. inr (inr (n, p))) (flagged_empty o r P f)

pub out_both : (A P : List ℕ → Type 0) (w : List ℕ) (out now : Bool) → (IsTrue now → A w)
    → (IsTrue out ↔ (Ends A P w ⊎ (IsTrue now × P []))) → IsTrue out → IsBoth A P w
out_both A P w out now a h t = ends_both A P w (⊎_elim (λ e. inl e) (λ n. inr (a n.0, n.1)) (h.0 t))

pub both_out : (A P : List ℕ → Type 0) (w : List ℕ) (out now : Bool) → (A w → IsTrue now)
    → (IsTrue out ↔ (Ends A P w ⊎ (IsTrue now × P []))) → IsBoth A P w → IsTrue out
both_out A P w out now a h b = h.1 (⊎_elim (λ e. inl e) (λ n. inr (a n.0, n.1)) (both_ends A P w b))

pub then_out : (A P Q : List ℕ → Type 0) (w : List ℕ) (now out after : Bool)
    → (IsTrue out ↔ (Ends A P w ⊎ (IsTrue now × P [])))
    → (IsTrue after ↔ (Ends (IsBoth A P) Q w ⊎ (IsTrue out × Q [])))
    → (IsTrue after ↔ (Ends A (IsBoth P Q) w ⊎ (IsTrue now × IsBoth P Q [])))
then_out A P Q w now out after h k = (λ t. forth (k.0 t), λ t. k.1 (back t))
  where
    forth : Ends (IsBoth A P) Q w ⊎ (IsTrue out × Q []) → Ends A (IsBoth P Q) w ⊎ (IsTrue now × IsBoth P Q [])
    forth (inl e) = inl (ends_then A P Q w (inl e))
    forth (inr (t, q)) = ⊎_elim (λ e. inl (ends_then A P Q w (inr (e, q)))) (λ n. inr (n.0, empty_then P Q n.1 q)) (h.0 t)

    back : Ends A (IsBoth P Q) w ⊎ (IsTrue now × IsBoth P Q []) → Ends (IsBoth A P) Q w ⊎ (IsTrue out × Q [])
    back (inl e) = ⊎_elim (λ x. inl x) (λ x. inr (h.1 (inl x.0), x.1)) (then_ends A P Q w e)
    back (inr (n, b)) = let pq = then_empty P Q b in inr (h.1 (inr (n, pq.0)), pq.1)

module _ (admits : ℕ → ℕ → Bool) where
  -- the atom at a token takes the character
  abbrev pub Takes : ℕ → ℕ → Type 0
  Takes at c = IsTrue (admits at c)

  -- after the first pass: each Take has whether its atom ends the word, and the end of a group whether the group may end it
  abbrev pub Hit : Plan → (List ℕ → Type 0) → List ℕ → List Bool → List Bool → Type 0
  Hit Nothing A w hits more = hits ≡ more
  Hit (One at o r rest) A w hits more =
      (hit : Bool) × (later : List Bool) × (hits ≡ hit ∷ later) × (IsTrue hit ↔ Ends (BeginsPart r A (IsTakenAt Takes at)) (IsTakenAt Takes at) w)
      × Hit rest (IsBoth A (Flagged o r (IsTakenAt Takes at))) w later more
  Hit (Many inner o r rest) A w hits more =
      (mark : Bool) × (within : List Bool) × (end : Bool) × (later : List Bool) × (hits ≡ mark ∷ within)
      × Hit inner (BeginsPart r A (PlanLang Takes inner)) w within (end ∷ later)
      × (Ends (BeginsPart r A (PlanLang Takes inner)) (PlanLang Takes inner) w → IsTrue end)
      × (IsTrue end → A w ⊎ Ends (BeginsPart r A (PlanLang Takes inner)) (PlanLang Takes inner) w)
      × Hit rest (IsBoth A (Flagged o r (PlanLang Takes inner))) w later more
  Hit (Either branch rest) A w hits more =
      (mark : Bool) × (later : List Bool) × Hit branch A w hits (mark ∷ later) × Hit rest A w later more

  -- the first pass over one branch, from a start where a word may go on or not
  abbrev pub BranchAt : ℕ → Plan → (List ℕ → Type 0) → List ℕ → List Bool → List Bool → List Instruction → Bool → List Frame → Type 0
  BranchAt c t A w marks more code now frames =
      (after : Bool)
      × Hit t A (w ++ c ∷ []) (first_pass (λ at. admits at c) (code_then t code) marks now frames) (first_pass (λ at. admits at c) code more after frames)
      × (IsTrue after ↔ (Ends A (PlanLang Takes t) (w ++ c ∷ []) ⊎ (IsTrue now × PlanLang Takes t [])))

  -- the same over the branches of a group
  abbrev pub PatternAt : ℕ → Plan → (List ℕ → Type 0) → List ℕ → List Bool → List Bool → List Instruction → Bool → Bool → List Frame → Type 0
  PatternAt c t A w marks more code now left frames =
      (after : Bool) × (leaves : Bool)
      × Hit t A (w ++ c ∷ []) (first_pass (λ at. admits at c) (code_then t code) marks now (with_group (frame now left) frames))
      (first_pass (λ at. admits at c) code more after (with_group (frame now leaves) frames))
      × ((IsTrue leaves ⊎ IsTrue after) ↔ (IsTrue left ⊎ (Ends A (PlanLang Takes t) (w ++ c ∷ []) ⊎ (IsTrue now × PlanLang Takes t []))))

  abbrev pub FirstBranch : ℕ → Plan → Type 1
  FirstBranch c t = (A : List ℕ → Type 0) (w : List ℕ) (marks more : List Bool) (code : List Instruction) (now : Bool) (frames : List Frame)
      → Marked Takes t A w marks more → (IsTrue now → A (w ++ c ∷ [])) → BranchAt c t A w marks more code now frames

  abbrev pub FirstPattern : ℕ → Plan → Type 1
  FirstPattern c t = (A : List ℕ → Type 0) (w : List ℕ) (marks more : List Bool) (code : List Instruction) (now left : Bool) (frames : List Frame)
      → Marked Takes t A w marks more → (IsTrue now → A (w ++ c ∷ [])) → PatternAt c t A w marks more code now left frames

  pub record First (c : ℕ) (t : Plan) : Type 1 where
    pub branch : IsOneBranch t → FirstBranch c t
    pub pattern : FirstPattern c t

  pattern_of_branch : (c : ℕ) (t : Plan) → FirstBranch c t → FirstPattern c t
  pattern_of_branch c t b A w marks more code now left frames m a =
      let r = b A w marks more code now (with_group (frame now left) frames) m a in
      (r.0, left, r.1, (λ x. ⊎_elim (λ l. inl l) (λ n. inr (r.2.0 n)) x, λ x. ⊎_elim (λ l. inl l) (λ n. inr (r.2.1 n)) x))

  both : (c : ℕ) (t : Plan) → FirstBranch c t → First c t
  both c t b = record { branch = λ h. b; pattern = pattern_of_branch c t b }

  first_nothing : (c : ℕ) → FirstBranch c Nothing
  first_nothing c A w marks more code now frames m a =
      (now, ap (λ ms. first_pass (λ at. admits at c) code ms now frames) m, (λ t. inr (t, refl), λ x. ⊎_elim (λ e. absurd (e.3 e.5)) (λ n. n.0) x))

  no_empty : {at : ℕ} → IsTakenAt Takes at [] → ⊥
  no_empty (d, e, t) = cc

  first_one : (c at : ℕ) (o r : Bool) (rest : Plan) → FirstBranch c rest → FirstBranch c (One at o r rest)
  first_one c at o r rest b A w marks more code now frames (mark, later, e, h, m) a =
      subst (λ ms. BranchAt c (One at o r rest) A w ms more code now frames) (sym e) (
        k.0,
        (mark && admits at c, first_pass (λ at. admits at c) (code_then rest code) later out frames, refl, hits, k.1),
        then_out A (Flagged o r P) (PlanLang Takes rest) (w ++ c ∷ []) now out k.0 i k.2,
      )
    where
      P : List ℕ → Type 0
      P = IsTakenAt Takes at

      out : Bool
      out = (mark && admits at c) || (o && now)

      hits : IsTrue (mark && admits at c) ↔ Ends (BeginsPart r A (IsTakenAt Takes at)) (IsTakenAt Takes at) (w ++ c ∷ [])
      hits = (
        λ t. ends_taken (BeginsPart r A (IsTakenAt Takes at)) (Takes at) w c (h.0 (and_true mark (admits at c) t).0) (and_true mark (admits at c) t).1,
        λ z. let x = taken_ends (BeginsPart r A (IsTakenAt Takes at)) (Takes at) w c z in true_and mark (admits at c) (h.1 x.0) x.1,
      )

      i : IsTrue out ↔ (Ends A (Flagged o r P) (w ++ c ∷ []) ⊎ (IsTrue now × Flagged o r P []))
      i = item_out o r A P (w ++ c ∷ []) out now (
        λ t. ⊎_elim (λ x. inr (inl (hits.0 x))) (λ x. inl x) (either (mark && admits at c) (o && now) t),
        λ x. true_or (mark && admits at c) (o && now) (⊎_elim (λ y. inr y) (λ y. inl (⊎_elim (λ z. hits.1 z) (λ z. absurd (no_empty z.1)) y)) x),
      )

      k : BranchAt c rest (IsBoth A (Flagged o r P)) w later more code out frames
      k = b (IsBoth A (Flagged o r P)) w later more code out frames m (out_both A (Flagged o r P) (w ++ c ∷ []) out now a i)

  first_many : (c : ℕ) (inner : Plan) (o r : Bool) (rest : Plan) → FirstPattern c inner → FirstBranch c rest → FirstBranch c (Many inner o r rest)
  first_many c inner o r rest g b A w marks more code now frames (mark, within, end, later, e, mi, m) a =
      subst (λ ms. BranchAt c (Many inner o r rest) A w ms more code now frames) (sym e) (
        k.0,
        (
          mark,
          first_pass (λ at. admits at c) (code_then inner (Close ∷ code_then rest code)) within start (with_group (frame start (o && now)) frames),
          out,
          first_pass (λ at. admits at c) (code_then rest code) later out frames,
          refl,
          subst (λ ms. Hit inner (BeginsPart r A P) (w ++ c ∷ []) (first_pass (λ at. admits at c) (code_then inner (Close ∷ code_then rest code)) within start (with_group (frame start (o && now)) frames)) ms)
              (first_close (λ at. admits at c) (code_then rest code) end later q.0 start q.1 frames) q.2,
          (λ z. i0.1 (inr (inl z))),
          ended,
          k.1,
        ),
        then_out A (Flagged o r P) (PlanLang Takes rest) (w ++ c ∷ []) now out k.0 i k.2,
      )
    where
      P : List ℕ → Type 0
      P = PlanLang Takes inner

      start : Bool
      start = now || false

      started : IsTrue start ↔ IsTrue now
      started = (λ t. ⊎_elim (λ x. x) (λ x. absurd (cc)) (either now false t), λ t. true_or now false (inl t))

      q : PatternAt c inner (BeginsPart r A (PlanLang Takes inner)) w within (end ∷ later) (Close ∷ code_then rest code) start (o && now) frames
      q = g (BeginsPart r A P) w within (end ∷ later) (Close ∷ code_then rest code) start (o && now) frames mi (λ t. begins_first r A P (w ++ c ∷ []) (a (started.0 t)))

      out : Bool
      out = q.1 || q.0

      i0 : IsTrue out ↔ (IsTrue (o && now) ⊎ (Ends (BeginsPart r A P) P (w ++ c ∷ []) ⊎ (IsTrue now × P [])))
      i0 = (
        λ t. ⊎_elim (λ x. inl x) (λ x. inr (⊎_elim (λ y. inl y) (λ y. inr (started.0 y.0, y.1)) x)) (q.3.0 (either q.1 q.0 t)),
        λ x. true_or q.1 q.0 (q.3.1 (⊎_elim (λ y. inl y) (λ y. inr (⊎_elim (λ z. inl z) (λ z. inr (started.1 z.0, z.1)) y)) x)),
      )

      i : IsTrue out ↔ (Ends A (Flagged o r P) (w ++ c ∷ []) ⊎ (IsTrue now × Flagged o r P []))
      i = item_out o r A P (w ++ c ∷ []) out now i0

      ended : IsTrue out → A (w ++ c ∷ []) ⊎ Ends (BeginsPart r A P) P (w ++ c ∷ [])
      ended t = ⊎_elim (λ x. inl (a (and_true o now x).1)) (λ x. ⊎_elim (λ y. inr y) (λ y. inl (a y.0)) x) (i0.0 t)

      k : BranchAt c rest (IsBoth A (Flagged o r P)) w later more code out frames
      k = b (IsBoth A (Flagged o r P)) w later more code out frames m (out_both A (Flagged o r P) (w ++ c ∷ []) out now a i)

  first_either : (c : ℕ) (branch rest : Plan) → FirstBranch c branch → FirstPattern c rest → FirstPattern c (Either branch rest)
  first_either c branch rest b g A w marks more code now left frames (mark, later, mb, mr) a =
      (q.0, q.1, (mark, first_pass (λ at. admits at c) (code_then rest code) later now (with_group (frame now (left || k.0)) frames), b1, q.2), i)
    where
      k : BranchAt c branch A w marks (mark ∷ later) (Bar ∷ code_then rest code) now (with_group (frame now left) frames)
      k = b A w marks (mark ∷ later) (Bar ∷ code_then rest code) now (with_group (frame now left) frames) mb a

      b1 : Hit branch A (w ++ c ∷ []) (first_pass (λ at. admits at c) (code_then branch (Bar ∷ code_then rest code)) marks now (with_group (frame now left) frames))
          (mark ∷ first_pass (λ at. admits at c) (code_then rest code) later now (with_group (frame now (left || k.0)) frames))
      b1 = subst (λ ms. Hit branch A (w ++ c ∷ []) (first_pass (λ at. admits at c) (code_then branch (Bar ∷ code_then rest code)) marks now (with_group (frame now left) frames)) ms)
          (first_bar (λ at. admits at c) (code_then rest code) mark later k.0 now left frames) k.1

      q : PatternAt c rest A w later more code now (left || k.0) frames
      q = g A w later more code now (left || k.0) frames mr a

      i : (IsTrue q.1 ⊎ IsTrue q.0) ↔ (IsTrue left ⊎ (Ends A (PlanLang Takes (Either branch rest)) (w ++ c ∷ []) ⊎ (IsTrue now × PlanLang Takes (Either branch rest) [])))
      i = (λ x. forth (q.3.0 x), λ x. q.3.1 (back x))
        where
          forth : IsTrue (left || k.0) ⊎ (Ends A (PlanLang Takes rest) (w ++ c ∷ []) ⊎ (IsTrue now × PlanLang Takes rest []))
              → IsTrue left ⊎ (Ends A (PlanLang Takes (Either branch rest)) (w ++ c ∷ []) ⊎ (IsTrue now × PlanLang Takes (Either branch rest) []))
          forth (inl t) = ⊎_elim (λ y. inl y) (λ y. inr (⊎_elim (λ z. inl (z.0, z.1, z.2, z.3, z.4, inl z.5)) (λ z. inr (z.0, inl z.1)) (k.2.0 y))) (either left k.0 t)
          forth (inr (inl z)) = inr (inl (z.0, z.1, z.2, z.3, z.4, inr z.5))
          forth (inr (inr z)) = inr (inr (z.0, inr z.1))

          back : IsTrue left ⊎ (Ends A (PlanLang Takes (Either branch rest)) (w ++ c ∷ []) ⊎ (IsTrue now × PlanLang Takes (Either branch rest) []))
              → IsTrue (left || k.0) ⊎ (Ends A (PlanLang Takes rest) (w ++ c ∷ []) ⊎ (IsTrue now × PlanLang Takes rest []))
          back (inl t) = inl (true_or left k.0 (inl t))
          back (inr (inl (u, v, e, n, x, inl p))) = inl (true_or left k.0 (inr (k.2.1 (inl (u, v, e, n, x, p)))))
          back (inr (inl (u, v, e, n, x, inr p))) = inr (inl (u, v, e, n, x, p))
          back (inr (inr (t, inl p))) = inl (true_or left k.0 (inr (k.2.1 (inr (t, p)))))
          back (inr (inr (t, inr p))) = inr (inr (t, p))

  pub first_holds : (c : ℕ) (t : Plan) → IsPlan t → First c t
  first_holds c Nothing v = both c Nothing (first_nothing c)
  first_holds c (One at o r rest) v = both c (One at o r rest) (first_one c at o r rest ((first_holds c rest v.1).branch v.0))
  first_holds c (Many inner o r rest) v =
      both c (Many inner o r rest) (first_many c inner o r rest (first_holds c inner v.0).pattern ((first_holds c rest v.2).branch v.1))
  first_holds c (Either branch rest) v = record {
    branch = λ h. absurd h;
    pattern = first_either c branch rest ((first_holds c branch v.1).branch v.0) (first_holds c rest v.2).pattern;
  }

  -- the mark that stands behind a plan's
  pub get-behind_hits : (t : Plan) (A : List ℕ → Type 0) (w : List ℕ) (hits more : List Bool) (k : ℕ)
      → Hit t A w hits more → get_or hits (size t + k) false ≡ get_or more k false
  get-behind_hits Nothing A w hits more k h = ap (λ ms. get_or ms (0 + k) false) h ∙ ap (λ n. get_or more n false) (zero-add k)
  get-behind_hits (One at o r rest) A w hits more k (hit, later, e, i, h) =
      ap (λ ms. get_or ms (suc (size rest) + k) false) e
      ∙ ap (λ n. get_or (hit ∷ later) n false) (suc-add (size rest) k)
      ∙ get-behind_hits rest (IsBoth A (Flagged o r (IsTakenAt Takes at))) w later more k h
  get-behind_hits (Many inner o r rest) A w hits more k (mark, within, end, later, e, hi, x, y, h) =
      ap (λ ms. get_or ms (suc (size inner + suc (size rest)) + k) false) e
      ∙ ap (λ n. get_or (mark ∷ within) n false) (let z : suc (size inner + suc (size rest)) + k ≡ suc (size inner + suc (size rest + k)) = omega arith in z)
      ∙ get-behind_hits inner (BeginsPart r A (PlanLang Takes inner)) w within (end ∷ later) (suc (size rest + k)) hi
      ∙ get-behind_hits rest (IsBoth A (Flagged o r (PlanLang Takes inner))) w later more k h
  get-behind_hits (Either branch rest) A w hits more k (mark, later, hb, h) =
      ap (λ n. get_or hits n false) (let z : size branch + suc (size rest) + k ≡ size branch + suc (size rest + k) = omega arith in z)
      ∙ get-behind_hits branch A w hits (mark ∷ later) (suc (size rest + k)) hb
      ∙ get-behind_hits rest A w later more k h

  -- the second pass over one branch, from a start where a word may go on or not
  abbrev pub MarkedBranchAt : Plan → (List ℕ → Type 0) → List ℕ → List Bool → List Bool → List Instruction → Bool → List Frame → Type 0
  MarkedBranchAt t A w hits more code now frames =
      (after : Bool)
      × Marked Takes t A w (second_pass (code_then t code) hits now frames) (second_pass code more after frames)
      × (IsTrue after ↔ IsBoth A (PlanLang Takes t) w)

  -- the same over the branches of a group
  abbrev pub MarkedPatternAt : Plan → (List ℕ → Type 0) → List ℕ → List Bool → List Bool → List Instruction → Bool → Bool → List Frame → Type 0
  MarkedPatternAt t A w hits more code now left frames =
      (after : Bool) × (leaves : Bool)
      × Marked Takes t A w (second_pass (code_then t code) hits now (with_group (frame now left) frames)) (second_pass code more after (with_group (frame now leaves) frames))
      × ((IsTrue leaves ⊎ IsTrue after) ↔ (IsTrue left ⊎ IsBoth A (PlanLang Takes t) w))

  abbrev pub SecondBranch : Plan → Type 1
  SecondBranch t = (A : List ℕ → Type 0) (w : List ℕ) (hits more : List Bool) (code : List Instruction) (now : Bool) (frames : List Frame)
      → Hit t A w hits more → (IsTrue now ↔ A w) → MarkedBranchAt t A w hits more code now frames

  abbrev pub SecondPattern : Plan → Type 1
  SecondPattern t = (A : List ℕ → Type 0) (w : List ℕ) (hits more : List Bool) (code : List Instruction) (now left : Bool) (frames : List Frame)
      → Hit t A w hits more → (IsTrue now ↔ A w) → MarkedPatternAt t A w hits more code now left frames

  pub record Second (t : Plan) : Type 1 where
    pub branch : IsOneBranch t → SecondBranch t
    pub pattern : SecondPattern t

  marked_pattern_of_branch : (t : Plan) → SecondBranch t → SecondPattern t
  marked_pattern_of_branch t b A w hits more code now left frames m a =
      let r = b A w hits more code now (with_group (frame now left) frames) m a in
      (r.0, left, r.1, (λ x. ⊎_elim (λ l. inl l) (λ n. inr (r.2.0 n)) x, λ x. ⊎_elim (λ l. inl l) (λ n. inr (r.2.1 n)) x))

  marked_both : (t : Plan) → SecondBranch t → Second t
  marked_both t b = record { branch = λ h. b; pattern = marked_pattern_of_branch t b }

  second_nothing : SecondBranch Nothing
  second_nothing A w hits more code now frames m a = (
    now,
    ap (λ ms. second_pass code ms now frames) m,
    (λ t. (w, [], sym (append-nil w), a.0 t, refl), λ x. a.1 (let e : w ≡ x.0 = x.2 ∙ ap (λ y. x.0 ++ y) x.4 ∙ append-nil x.0 in subst A (sym e) x.3)),
  )

  out_iff : (A P : List ℕ → Type 0) (w : List ℕ) (out now : Bool) → (IsTrue now ↔ A w)
      → (IsTrue out ↔ (Ends A P w ⊎ (IsTrue now × P []))) → (IsTrue out ↔ IsBoth A P w)
  out_iff A P w out now a h = (out_both A P w out now a.0 h, both_out A P w out now a.1 h)

  both_assoc : (A P Q : List ℕ → Type 0) (w : List ℕ) (after : Bool) → (IsTrue after ↔ IsBoth (IsBoth A P) Q w) → (IsTrue after ↔ IsBoth A (IsBoth P Q) w)
  both_assoc A P Q w after h = (λ t. forth (h.0 t), λ x. h.1 (back x))
    where
      forth : IsBoth (IsBoth A P) Q w → IsBoth A (IsBoth P Q) w
      forth (u, v, e, (u1, v1, e1, a, p), q) = (u1, v1 ++ v, (e ∙ ap (λ y. y ++ v) e1 ∙ append_assoc u1 v1 v), a, (v1, v, refl, p, q))

      back : IsBoth A (IsBoth P Q) w → IsBoth (IsBoth A P) Q w
      back (u, v, e, a, (v1, v2, e2, p, q)) = (u ++ v1, v2, (e ∙ ap (λ y. u ++ y) e2 ∙ sym (append_assoc u v1 v2)), (u, v1, refl, a, p), q)

  -- whether a part may begin, from whether the first may and whether one ends
  begin_iff : (r : Bool) (A P : List ℕ → Type 0) (w : List ℕ) (now end : Bool) → (IsTrue now ↔ A w)
      → (Ends (BeginsPart r A P) P w → IsTrue end) → (IsTrue end → A w ⊎ Ends (BeginsPart r A P) P w)
      → (IsTrue (now || (r && end)) ↔ BeginsPart r A P w)
  begin_iff r A P w now end a e d = (
    λ t. ⊎_elim (λ x. begins_first r A P w (a.0 x)) (λ x. again r (and_true r end x).0 (d (and_true r end x).1)) (either now (r && end) t),
    λ b. true_or now (r && end) (⊎_elim (λ x. inl (a.1 x)) (λ x. inr (true_and r end x.0 (e x.1))) (begins_cases r A P w b)),
  )
    where
      again : (r : Bool) → IsTrue r → A w ⊎ Ends (BeginsPart r A P) P w → BeginsPart r A P w
      again true t (inl x) = begins_first true A P w x
      again true t (inr x) = begins_again A P w x
      again false t x = absurd (cc)

  second_one : (at : ℕ) (o r : Bool) (rest : Plan) → SecondBranch rest → SecondBranch (One at o r rest)
  second_one at o r rest b A w hits more code now frames (hit, later, e, h, m) a =
      subst (λ ms. MarkedBranchAt (One at o r rest) A w ms more code now frames) (sym e) (
        k.0,
        (
          now || (r && hit),
          second_pass (code_then rest code) later out frames,
          refl,
          begin_iff r A P w now hit a h.1 (λ t. inr (h.0 t)),
          k.1,
        ),
        both_assoc A (Flagged o r P) (PlanLang Takes rest) w k.0 k.2,
      )
    where
      P : List ℕ → Type 0
      P = IsTakenAt Takes at

      out : Bool
      out = hit || (o && now)

      i : IsTrue out ↔ (Ends A (Flagged o r P) w ⊎ (IsTrue now × Flagged o r P []))
      i = item_out o r A P w out now (
        λ t. ⊎_elim (λ x. inr (inl (h.0 x))) (λ x. inl x) (either hit (o && now) t),
        λ x. true_or hit (o && now) (⊎_elim (λ y. inr y) (λ y. inl (⊎_elim (λ z. h.1 z) (λ z. absurd (no_empty z.1)) y)) x),
      )

      k : MarkedBranchAt rest (IsBoth A (Flagged o r P)) w later more code out frames
      k = b (IsBoth A (Flagged o r P)) w later more code out frames m (out_iff A (Flagged o r P) w out now a i)

  second_many : (inner : Plan) (o r : Bool) (rest : Plan) → SecondPattern inner → SecondBranch rest → SecondBranch (Many inner o r rest)
  second_many inner o r rest g b A w hits more code now frames (mark, within, end, later, e, hi, x, y, m) a =
      subst (λ ms. MarkedBranchAt (Many inner o r rest) A w ms more code now frames) (sym e) (
        k.0,
        (
          mark,
          second_pass (code_then inner (Close ∷ code_then rest code)) within start (with_group (frame start (o && now)) frames),
          false,
          second_pass (code_then rest code) later out frames,
          refl,
          subst (λ ms. Marked Takes inner (BeginsPart r A P) w (second_pass (code_then inner (Close ∷ code_then rest code)) within start (with_group (frame start (o && now)) frames)) ms)
              (second_close (code_then rest code) end later q.0 start q.1 frames) q.2,
          k.1,
        ),
        both_assoc A (Flagged o r P) (PlanLang Takes rest) w k.0 k.2,
      )
    where
      P : List ℕ → Type 0
      P = PlanLang Takes inner

      start : Bool
      start = now || (r && get_or within (size inner) false)

      behind : get_or within (size inner) false ≡ end
      behind = ap (λ n. get_or within n false) (sym (add-zero (size inner))) ∙ get-behind_hits inner (BeginsPart r A P) w within (end ∷ later) 0 hi

      started : IsTrue start ↔ BeginsPart r A P w
      started = subst (λ z. IsTrue (now || (r && z)) ↔ BeginsPart r A P w) (sym behind) (begin_iff r A P w now end a x y)

      q : MarkedPatternAt inner (BeginsPart r A (PlanLang Takes inner)) w within (end ∷ later) (Close ∷ code_then rest code) start (o && now) frames
      q = g (BeginsPart r A P) w within (end ∷ later) (Close ∷ code_then rest code) start (o && now) frames hi started

      out : Bool
      out = q.1 || q.0

      i0 : IsTrue out ↔ (IsTrue (o && now) ⊎ (Ends (BeginsPart r A P) P w ⊎ (IsTrue now × P [])))
      i0 = (
        λ t. ⊎_elim (λ z. inl z) (λ z. inr (forth (both_ends (BeginsPart r A P) P w z))) (q.3.0 (either q.1 q.0 t)),
        λ z. true_or q.1 q.0 (q.3.1 (⊎_elim (λ l. inl l) (λ l. inr (back l)) z)),
      )
        where
          forth : Ends (BeginsPart r A P) P w ⊎ (BeginsPart r A P w × P []) → Ends (BeginsPart r A P) P w ⊎ (IsTrue now × P [])
          forth (inl z) = inl z
          forth (inr (bg, p)) = ⊎_elim (λ z. inr (a.1 z, p)) (λ z. inl z.1) (begins_cases r A P w bg)

          back : Ends (BeginsPart r A P) P w ⊎ (IsTrue now × P []) → IsBoth (BeginsPart r A P) P w
          back (inl z) = ends_both (BeginsPart r A P) P w (inl z)
          back (inr (n, p)) = ends_both (BeginsPart r A P) P w (inr (begins_first r A P w (a.0 n), p))

      i : IsTrue out ↔ (Ends A (Flagged o r P) w ⊎ (IsTrue now × Flagged o r P []))
      i = item_out o r A P w out now i0

      k : MarkedBranchAt rest (IsBoth A (Flagged o r P)) w later more code out frames
      k = b (IsBoth A (Flagged o r P)) w later more code out frames m (out_iff A (Flagged o r P) w out now a i)

  second_either : (branch rest : Plan) → SecondBranch branch → SecondPattern rest → SecondPattern (Either branch rest)
  second_either branch rest b g A w hits more code now left frames (mark, later, mb, mr) a =
      (q.0, q.1, (mark, second_pass (code_then rest code) later now (with_group (frame now (left || k.0)) frames), b1, q.2), i)
    where
      k : MarkedBranchAt branch A w hits (mark ∷ later) (Bar ∷ code_then rest code) now (with_group (frame now left) frames)
      k = b A w hits (mark ∷ later) (Bar ∷ code_then rest code) now (with_group (frame now left) frames) mb a

      b1 : Marked Takes branch A w (second_pass (code_then branch (Bar ∷ code_then rest code)) hits now (with_group (frame now left) frames))
          (mark ∷ second_pass (code_then rest code) later now (with_group (frame now (left || k.0)) frames))
      b1 = subst (λ ms. Marked Takes branch A w (second_pass (code_then branch (Bar ∷ code_then rest code)) hits now (with_group (frame now left) frames)) ms)
          (second_bar (code_then rest code) mark later k.0 now left frames) k.1

      q : MarkedPatternAt rest A w later more code now (left || k.0) frames
      q = g A w later more code now (left || k.0) frames mr a

      i : (IsTrue q.1 ⊎ IsTrue q.0) ↔ (IsTrue left ⊎ IsBoth A (PlanLang Takes (Either branch rest)) w)
      i = (λ x. forth (q.3.0 x), λ x. q.3.1 (back x))
        where
          forth : IsTrue (left || k.0) ⊎ IsBoth A (PlanLang Takes rest) w → IsTrue left ⊎ IsBoth A (PlanLang Takes (Either branch rest)) w
          forth (inl t) = ⊎_elim (λ y. inl y) (λ y. inr (let z = k.2.0 y in (z.0, z.1, z.2, z.3, inl z.4))) (either left k.0 t)
          forth (inr z) = inr (z.0, z.1, z.2, z.3, inr z.4)

          back : IsTrue left ⊎ IsBoth A (PlanLang Takes (Either branch rest)) w → IsTrue (left || k.0) ⊎ IsBoth A (PlanLang Takes rest) w
          back (inl t) = inl (true_or left k.0 (inl t))
          back (inr (u, v, e, x, inl p)) = inl (true_or left k.0 (inr (k.2.1 (u, v, e, x, p))))
          back (inr (u, v, e, x, inr p)) = inr (u, v, e, x, p)

  pub second_holds : (t : Plan) → IsPlan t → Second t
  second_holds Nothing v = marked_both Nothing second_nothing
  second_holds (One at o r rest) v = marked_both (One at o r rest) (second_one at o r rest ((second_holds rest v.1).branch v.0))
  second_holds (Many inner o r rest) v =
      marked_both (Many inner o r rest) (second_many inner o r rest (second_holds inner v.0).pattern ((second_holds rest v.2).branch v.1))
  second_holds (Either branch rest) v = record {
    branch = λ h. absurd h;
    pattern = second_either branch rest ((second_holds branch v.1).branch v.0) (second_holds rest v.2).pattern;
  }
