-- The scan reads the grammar exactly.
use Rattle.std.proofs.Common.{◌≡◌, ℕ, true, false, ◌==◌, ◌⊎◌, inl, inr, List, [], ◌∷◌, ◌++◌, refl, sym, ◌∙◌, ap, subst, append-nil}
use Rattle.std.proofs.lemmas.Bool.{and_parts, not-false, both_ways, cases_Bool, eqb-true}
use Rattle.markup.specs.Token.{Token, LineEnd, Character, Lf, Cr, CrLf, token_text}
use Rattle.markup.specs.Marks.{in_cdata, stands}
use Rattle.markup.specs.Faults.{TokenGoesOn}
use Rattle.markup.specs.inner.Drafts.{no_draft, note_character}
use Rattle.markup.specs.inner.Scans.{step}
use Rattle.markup.specs.inner.ScanRuns.{Run, At, Over, Failed, turn_run, run, position, ended_of, draft_of, ends_itself, ReadToken, ReadsGrammar}
use Rattle.markup.specs.declared.draft.Draft.{Draft}
use Rattle.markup.specs.declared.scan.Scan.{Scan}
use Rattle.markup.specs.declared.scan.Scan.TheVariants.{Begin, AfterReturn, Bracket}
use Rattle.markup.specs.declared.scan.Ended.{Ended}
use Rattle.markup.specs.declared.scan.Turn.{Turn}
use Rattle.markup.specs.declared.scan.Turn.TheVariants.{Goes, Whole, Stuck}
use Rattle.markup.proofs.Complete.{complete, return_run, bracket_run}
use Rattle.markup.proofs.Residuals.{Rest, Then}
use Rattle.markup.proofs.Sound.{Completed, sound, run_sound}
use Rattle.markup.proofs.Alive.{good, alive, step_good_at}

-- runs over more characters
pub run_on : (s t : Scan) (d e : Draft) (cs w : List ℕ) → run s d cs ≡ At t e → run s d (cs ++ w) ≡ run t e w
run_on s t d e [] w h = at_same s t d e h where
  at_same : (s t : Scan) (d e : Draft) → At s d ≡ At t e → run s d w ≡ run t e w
  at_same s t d e h = ap (λ r. from r) h where
    from : Run → Run
    from (At s d) = run s d w
    from _ = Failed
run_on s t d e (c ∷ cs) w h = by (λ u k. run_on u t (note_character s u c d) e cs w k) (step s c) h where
  by : ((u : Scan) → run u (note_character s u c d) cs ≡ At t e → run u (note_character s u c d) (cs ++ w) ≡ run t e w) → (k : Turn) → turn_run (λ u. run u (note_character s u c d) cs) d cs k ≡ At t e → turn_run (λ u. run u (note_character s u c d) (cs ++ w)) d (cs ++ w) k ≡ run t e w
  by f (Goes u) h = f u h
  by f (Whole k) h = absurd (cc)
  by f Stuck h = absurd (cc)

pub run_over : (s : Scan) (k : Ended) (d e : Draft) (cs v w : List ℕ) → run s d cs ≡ Over k e v → run s d (cs ++ w) ≡ Over k e (v ++ w)
run_over s k d e [] v w h = absurd (cc)
run_over s k d e (c ∷ cs) v w h = by (λ u h. run_over u k (note_character s u c d) e cs v w h) (step s c) h where
  over_same : (a b : Ended) (d e : Draft) (x y w : List ℕ) → Over a d x ≡ Over b e y → Over a d (x ++ w) ≡ Over b e (y ++ w)
  over_same a b d e x y w h = ap (λ r. from r) h where
    from : Run → Run
    from (Over a d x) = Over a d (x ++ w)
    from _ = Failed

  by : ((u : Scan) → run u (note_character s u c d) cs ≡ Over k e v → run u (note_character s u c d) (cs ++ w) ≡ Over k e (v ++ w)) → (t : Turn) → turn_run (λ u. run u (note_character s u c d) cs) d cs t ≡ Over k e v → turn_run (λ u. run u (note_character s u c d) (cs ++ w)) d (cs ++ w) t ≡ Over k e (v ++ w)
  by f (Goes u) h = f u h
  by f (Whole a) h = over_same a k d e cs v w h
  by f Stuck h = absurd (cc)

pub run_failed : (s : Scan) (d : Draft) (cs w : List ℕ) → run s d cs ≡ Failed → run s d (cs ++ w) ≡ Failed
run_failed s d [] w h = absurd (cc)
run_failed s d (c ∷ cs) w h = by (λ u h. run_failed u (note_character s u c d) cs w h) (step s c) h where
  by : ((u : Scan) → run u (note_character s u c d) cs ≡ Failed → run u (note_character s u c d) (cs ++ w) ≡ Failed) → (t : Turn) → turn_run (λ u. run u (note_character s u c d) cs) d cs t ≡ Failed → turn_run (λ u. run u (note_character s u c d) (cs ++ w)) d (cs ++ w) t ≡ Failed
  by f (Goes u) h = f u h
  by f (Whole a) h = absurd (cc)
  by f Stuck h = refl

-- what completes the scan that a run comes to completes the one that it begins with
prefix_rest : (s t : Scan) (d e : Draft) (cs w : List ℕ) → run s d cs ≡ At t e → Rest Completed t w → Rest Completed s (cs ++ w)
prefix_rest s t d e [] w h r = subst (λ u. Rest Completed u w) (sym (scan_same s t d e h)) r where
  scan_same : (s t : Scan) (d e : Draft) → At s d ≡ At t e → s ≡ t
  scan_same s t d e h = cc
prefix_rest s t d e (c ∷ cs) w h r = by (λ u h. prefix_rest u t (note_character s u c d) e cs w h r) (step s c) refl h where
  by : ((u : Scan) → run u (note_character s u c d) cs ≡ At t e → Rest Completed u (cs ++ w)) → (k : Turn) → step s c ≡ k → turn_run (λ u. run u (note_character s u c d) cs) d cs k ≡ At t e → Rest Completed s (c ∷ (cs ++ w))
  by f (Goes u) g h = sound s c (cs ++ w) (subst (Then Completed (cs ++ w)) (sym g) (f u h))
  by f (Whole a) g h = absurd (cc)
  by f Stuck g h = absurd (cc)

run_good : (s t : Scan) (d e : Draft) (cs : List ℕ) → run s d cs ≡ At t e → good s ≡ true → good t ≡ true
run_good s t d e [] h k = subst (λ u. good u ≡ true) (scan_same s t d e h) k where
  scan_same : (s t : Scan) (d e : Draft) → At s d ≡ At t e → s ≡ t
  scan_same s t d e h = cc
run_good s t d e (c ∷ cs) h k = by (λ u h k. run_good u t (note_character s u c d) e cs h k) (step s c) refl h where
  by : ((u : Scan) → run u (note_character s u c d) cs ≡ At t e → good u ≡ true → good t ≡ true) → (a : Turn) → step s c ≡ a → turn_run (λ u. run u (note_character s u c d) cs) d cs a ≡ At t e → good t ≡ true
  by f (Goes u) g h = f u h (step_good_at s u c g)
  by f (Whole a) g h = absurd (cc)
  by f Stuck g h = absurd (cc)

-- as far as the scan goes some token begins so
pub goes_on : (before : List Token) (cs : List ℕ) (s : Scan) (d : Draft) → run (Begin (position before)) no_draft cs ≡ At s d → TokenGoesOn before cs
goes_on before cs s d h =
    let w = alive s (run_good (Begin (position before)) s no_draft d cs h refl) in
    by w.0 (prefix_rest (Begin (position before)) s no_draft d cs w.0 h w.1) where
      by : (w : List ℕ) → Completed (position before) (cs ++ w) → TokenGoesOn before cs
      by w k = record { token = k.token; more = w; after = []; text = k.text; is = k.is before refl [] }

-- the scan does not fail in a token
abbrev NotFailed : Run → Type 0
NotFailed Failed = ⊥
NotFailed _ = Unit {0}

-- a token that does not end itself is a CR, or a `]` in a CDATA section
open_token : (before : List Token) (t : Token) → ends_itself (in_cdata before) t ≡ false → NotFailed (run (Begin (position before)) no_draft (token_text t))
open_token before (LineEnd Cr) h = subst NotFailed (sym (return_run before [])) tt
open_token before (LineEnd Lf) h = absurd (both_ways true h refl)
open_token before (LineEnd CrLf) h = absurd (both_ways true h refl)
open_token before (Character c) h =
    let k = and_parts (in_cdata before) (c == 93) (not-false _ h) in
    subst (λ (x : ℕ). NotFailed (run (Begin (position before)) no_draft (x ∷ []))) (sym (eqb-true c 93 k.1)) (subst NotFailed (sym (bracket_run before [] k.0)) tt)
open_token before _ h = absurd (both_ways true h refl)

pub not_failed : (before : List Token) (t : Token) (after : List ℕ) → stands before t after ≡ true → NotFailed (run (Begin (position before)) no_draft (token_text t))
not_failed before t after h = elim (cases_Bool (ends_itself (in_cdata before) t)) as (λ _. NotFailed (run (Begin (position before)) no_draft (token_text t))) [
  | inl k ↦ subst NotFailed (sym (ap (run (Begin (position before)) no_draft) (sym (append-nil (token_text t))) ∙ complete before t after [] h k)) tt
  | inr k ↦ open_token before t k
]

-- where it fails no token begins so
pub no_more : (before : List Token) (cs : List ℕ) → run (Begin (position before)) no_draft cs ≡ Failed → TokenGoesOn before cs → ⊥
no_more before cs h g = subst NotFailed (ap (run (Begin (position before)) no_draft) g.text ∙ run_failed (Begin (position before)) no_draft cs g.more h) (not_failed before g.token g.after g.is)

-- a token whose text is read to its end ends itself
over_ends : (before : List Token) (t : Token) (k : Ended) (d : Draft) → ends_itself (in_cdata before) t ≡ false → run (Begin (position before)) no_draft (token_text t) ≡ Over k d [] → ⊥
over_ends before (LineEnd Cr) k d h e = at_over (sym (return_run before []) ∙ e) where
  at_over : At AfterReturn no_draft ≡ Over k d [] → ⊥
  at_over e = cc
over_ends before (LineEnd Lf) k d h e = both_ways true h refl
over_ends before (LineEnd CrLf) k d h e = both_ways true h refl
over_ends before (Character c) k d h e =
    let a = and_parts (in_cdata before) (c == 93) (not-false _ h) in
    at_over (sym (bracket_run before [] a.0) ∙ (ap (λ (x : ℕ). run (Begin (position before)) no_draft (x ∷ [])) (sym (eqb-true c 93 a.1)) ∙ e)) where
      at_over : At Bracket no_draft ≡ Over k d [] → ⊥
      at_over e = cc
over_ends before _ k d h e = both_ways true h refl

-- what is read to its end is a token, and the scan says what it is
pub found : (before : List Token) (cs : List ℕ) (k : Ended) (d : Draft) → run (Begin (position before)) no_draft cs ≡ Over k d [] → ReadToken before cs k d
found before cs k d h = by (run_sound (Begin (position before)) no_draft d k cs h) where
  by : Completed (position before) cs → ReadToken before cs k d
  by c = with_end (cases_Bool (ends_itself (in_cdata before) c.token)) where
    same : (a b : Ended) (d e : Draft) → Over a d [] ≡ Over b e [] → (a ≡ b) × (d ≡ e)
    same a b d e h = (cc, cc)

    with_end : (ends_itself (in_cdata before) c.token ≡ true) ⊎ (ends_itself (in_cdata before) c.token ≡ false) → ReadToken before cs k d
    with_end (inl e) =
        let r = same (ended_of c.token) k (draft_of c.token) d (sym (complete before c.token [] [] (c.is before refl []) e) ∙ (ap (run (Begin (position before)) no_draft) (append-nil (token_text c.token) ∙ c.text) ∙ h)) in
        record { token = c.token; is = c.is before refl; text = c.text; ended_is = r.0; draft_is = r.1 }
    with_end (inr e) = absurd (over_ends before c.token k d e (ap (run (Begin (position before)) no_draft) c.text ∙ h))

-- the scan reads the grammar
pub reads_grammar : ReadsGrammar
reads_grammar = record { complete = complete; sound = found; goes_on = goes_on; no_more = no_more }
