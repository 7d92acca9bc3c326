-- What a matcher has read after a step, and after it begins anew.
use Rattle.std.proofs.Common.{◌≡◌, ℕ, ◌+◌, ◌<◌, Bool, Option, Some, None, List, [], ◌∷◌, ◌++◌, chars, length, refl, sym, ap, ap₂, ◌∙◌, subst}
use Rattle.pattern_match.specs.Marks.{IsDone}
use Rattle.pattern_match.specs.Recall.{Known, row, marks_behind, IsRightTable, IsRow, Matching, marks_at, reached_marks}
use Rattle.pattern_match.specs.Compiled.{tokens_of_text, code_of_text, first_marks, marks_from, follows, IsMarked, IsStart, HasReadWord, IsMadeFor}
use Rattle.pattern_match.proofs.Recalling.{Grows, row_stays, reached_is}
use Rattle.pattern_match.proofs.Matching.{marked_more, marked_length}

-- what is remembered, and its number for the first marks, stay right
kept_first : (bytes : List ℕ) (old new : Matching) → new.known ≡ old.known → new.first ≡ old.first
    → IsRow old.known old.first (first_marks (code_of_text (chars bytes))) → IsRow new.known new.first (first_marks (code_of_text (chars bytes)))
kept_first bytes old new k f h =
    subst (λ x. IsRow new.known x (first_marks (code_of_text (chars bytes)))) (sym f)
    (subst (λ x. IsRow x old.first (first_marks (code_of_text (chars bytes)))) (sym k) h)

-- a step that is remembered
pub read_known : (bytes : List ℕ) (old new : Matching) (x : ℕ) (w : List ℕ) → new.known ≡ old.known → new.first ≡ old.first → new.walk ≡ old.walk → new.start ≡ old.start
    → (reached_marks new ≡ follows bytes x (reached_marks old)) × IsRow new.known new.at (reached_marks new) → HasReadWord bytes old w → HasReadWord bytes new (w ++ x ∷ [])
read_known bytes old new x w k f v z r h = record {
  marked = marked_more bytes (reached_marks old) (reached_marks new) x w r.0 h.marked;
  table = subst (λ y. IsRightTable (follows bytes) y) (sym k) h.table;
  at = r.1;
  first = kept_first bytes old new k f h.first;
  done = subst (λ y. IsDone (code_of_text (chars bytes)) y) (sym v) h.done;
  start = subst (λ y. IsStart bytes y) (sym z) h.start;
}

-- the marks behind a word and more
marks_behind_more : (bytes : List ℕ) (marks : List Bool) (w more : List ℕ)
    → marks_from (tokens_of_text (chars bytes)) (code_of_text (chars bytes)) marks (w ++ more)
    ≡ marks_behind (follows bytes) (marks_from (tokens_of_text (chars bytes)) (code_of_text (chars bytes)) marks w) more
marks_behind_more bytes marks [] [] = refl
marks_behind_more bytes marks [] (c ∷ more) = marks_behind_more bytes (follows bytes c marks) [] more
marks_behind_more bytes marks (x ∷ w) more = marks_behind_more bytes (follows bytes x marks) w more

-- steps that are remembered
pub read_behind : (bytes : List ℕ) (old new : Matching) (s t : ℕ) (w more : List ℕ) → new.known ≡ old.known → new.first ≡ old.first → new.walk ≡ old.walk → new.start ≡ old.start
    → old.at ≡ Some s → new.at ≡ Some t
    → ((next : ℕ → List Bool → List Bool) (marks : List Bool) → IsRightTable next old.known → IsRow old.known (Some s) marks → IsRow old.known (Some t) (marks_behind next marks more))
    → HasReadWord bytes old w → HasReadWord bytes new (w ++ more)
read_behind bytes old new s t w more k f v z i j g h = record {
  marked = record {
    marks_are = same ∙ ap (λ m. marks_behind (follows bytes) m more) h.marked.marks_are ∙ sym (marks_behind_more bytes (first_marks (code_of_text (chars bytes))) w more);
  };
  table = subst (λ y. IsRightTable (follows bytes) y) (sym k) h.table;
  at = subst (λ y. IsRow new.known new.at y) (sym same) r;
  first = kept_first bytes old new k f h.first;
  done = subst (λ y. IsDone (code_of_text (chars bytes)) y) (sym v) h.done;
  start = subst (λ y. IsStart bytes y) (sym z) h.start;
}
  where
    behind : List Bool
    behind = marks_behind (follows bytes) (reached_marks old) more

    r : IsRow new.known new.at behind
    r = subst (λ y. IsRow new.known y behind) (sym j)
        (subst (λ y. IsRow y (Some t) behind) (sym k) (g (follows bytes) (reached_marks old) h.table (subst (λ y. IsRow old.known y (reached_marks old)) i h.at)))

    reached_row : (at : Option ℕ) → at ≡ Some t → IsRow new.known at behind → marks_at at new.known new.walk.cells ≡ behind
    reached_row None e q = absurd (cc)
    reached_row (Some x) e q = (q x refl).1

    same : reached_marks new ≡ behind
    same = reached_row new.at j r

-- a step that is learned: the marks that are seen are the new ones
pub read_learned : (bytes : List ℕ) (old new : Matching) (seen : List Bool) (x : ℕ) (w : List ℕ) → seen ≡ new.walk.cells → new.first ≡ old.first → new.start ≡ old.start → new.walk.cells ≡ follows bytes x (reached_marks old)
    → Grows old.known new.known seen
    → ((next : ℕ → List Bool → List Bool) → IsRightTable next old.known → ((s : ℕ) → old.at ≡ Some s → (s < length old.known.rows) × (seen ≡ next x (row old.known s))) → IsRightTable next new.known)
    → IsRow new.known new.at seen → IsDone (code_of_text (chars bytes)) new.walk → HasReadWord bytes old w → HasReadWord bytes new (w ++ x ∷ [])
read_learned bytes old new seen x w v f z e g t r d h = record {
  marked = marked_more bytes (reached_marks old) (reached_marks new) x w (same ∙ v ∙ e) h.marked;
  table = t (follows bytes) h.table (λ s a. let q = h.at s a in (q.0, v ∙ e ∙ ap (λ y. follows bytes x y) (sym q.1)));
  at = subst (λ y. IsRow new.known new.at y) (sym same) r;
  first = subst (λ y. IsRow new.known y (first_marks (code_of_text (chars bytes)))) (sym f)
      (row_stays old.known new.known seen g old.first (first_marks (code_of_text (chars bytes))) h.first);
  done = d;
  start = subst (λ y. IsStart bytes y) (sym z) h.start;
}
  where
    same : reached_marks new ≡ seen
    same = reached_is new.at new.known new.walk.cells seen (sym v) r

-- the beginning
pub begun : (bytes : List ℕ) (m : Matching) (seen : List Bool) → seen ≡ first_marks (code_of_text (chars bytes)) → seen ≡ m.walk.cells → IsRightTable (follows bytes) m.known
    → IsRow m.known m.at seen → IsRow m.known m.first seen → IsDone (code_of_text (chars bytes)) m.walk → IsStart bytes m.start → HasReadWord bytes m []
begun bytes m seen e v t r f d z = record {
  marked = record { marks_are = same ∙ e };
  table = t;
  at = subst (λ y. IsRow m.known m.at y) (sym same) r;
  first = subst (λ y. IsRow m.known m.first y) e f;
  done = d;
  start = z;
}
  where
    same : reached_marks m ≡ seen
    same = reached_is m.at m.known m.walk.cells seen (sym v) r

-- it begins anew, with what it remembers
pub begun_known : (bytes : List ℕ) (old new : Matching) (s : ℕ) (w : List ℕ) → new.known ≡ old.known → new.first ≡ old.first → new.walk ≡ old.walk → new.start ≡ old.start
    → old.first ≡ Some s → new.at ≡ Some s → HasReadWord bytes old w → HasReadWord bytes new []
begun_known bytes old new s w k f v z i j h = record {
  marked = record { marks_are = same };
  table = subst (λ y. IsRightTable (follows bytes) y) (sym k) h.table;
  at = subst (λ y. IsRow new.known new.at y) (sym same) r;
  first = kept_first bytes old new k f h.first;
  done = subst (λ y. IsDone (code_of_text (chars bytes)) y) (sym v) h.done;
  start = subst (λ y. IsStart bytes y) (sym z) h.start;
}
  where
    r : IsRow new.known new.at (first_marks (code_of_text (chars bytes)))
    r = subst (λ y. IsRow new.known y (first_marks (code_of_text (chars bytes)))) (f ∙ i ∙ sym j) (kept_first bytes old new k f h.first)

    reached_row : (at : Option ℕ) → at ≡ Some s → IsRow new.known at (first_marks (code_of_text (chars bytes))) → marks_at at new.known new.walk.cells ≡ first_marks (code_of_text (chars bytes))
    reached_row None e q = absurd (cc)
    reached_row (Some z) e q = (q z refl).1

    same : reached_marks new ≡ first_marks (code_of_text (chars bytes))
    same = reached_row new.at j r

pub begun_again : (bytes : List ℕ) (old new : Matching) (w : List ℕ) → new.known ≡ old.known → new.first ≡ old.first → new.start ≡ old.start → new.at ≡ None
    → new.walk.cells ≡ first_marks (code_of_text (chars bytes)) → IsDone (code_of_text (chars bytes)) new.walk → HasReadWord bytes old w → HasReadWord bytes new []
begun_again bytes old new w k f z a e d h = record {
  marked = record { marks_are = same };
  table = subst (λ y. IsRightTable (follows bytes) y) (sym k) h.table;
  at = none;
  first = kept_first bytes old new k f h.first;
  done = d;
  start = subst (λ y. IsStart bytes y) (sym z) h.start;
}
  where
    none : IsRow new.known new.at (reached_marks new)
    none s i = absurd (cc)

    same : reached_marks new ≡ first_marks (code_of_text (chars bytes))
    same = ap (λ y. marks_at y new.known new.walk.cells) a ∙ e

-- the marks that were reached are one for each instruction, and one more
pub reached_length : (bytes : List ℕ) (m : Matching) → IsMadeFor bytes m → length (reached_marks m) ≡ length (code_of_text (chars bytes)) + 1
reached_length bytes m (w, h) = marked_length bytes (reached_marks m) w h.marked

-- the marks that were reached are set where only their number was known
marks_again : (at : Option ℕ) (known : Known) (old new : List Bool) → new ≡ marks_at at known old → marks_at at known new ≡ new
marks_again None known old new e = refl
marks_again (Some s) known old new e = sym e

pub recollected : (bytes : List ℕ) (old new : Matching) (w : List ℕ) → IsDone (code_of_text (chars bytes)) new.walk → new.walk.cells ≡ reached_marks old → new.at ≡ old.at → new.first ≡ old.first
    → new.known ≡ old.known → new.start ≡ old.start → HasReadWord bytes old w → HasReadWord bytes new w × (reached_marks new ≡ new.walk.cells)
recollected bytes old new w d e a f k z h = (
  record {
    marked = subst (λ y. IsMarked bytes y w) (sym (same ∙ e)) h.marked;
    table = subst (λ y. IsRightTable (follows bytes) y) (sym k) h.table;
    at = subst (λ y. IsRow new.known new.at y) (sym (same ∙ e)) (subst (λ y. IsRow y new.at (reached_marks old)) (sym k) (subst (λ y. IsRow old.known y (reached_marks old)) (sym a) h.at));
    first = kept_first bytes old new k f h.first;
    done = d;
    start = subst (λ y. IsStart bytes y) (sym z) h.start;
  },
  same,
)
  where
    same : reached_marks new ≡ new.walk.cells
    same = ap₂ (λ x y. marks_at x y new.walk.cells) a k ∙ marks_again old.at old.known old.walk.cells new.walk.cells e

-- a word that is remembered, from the beginning on
pub known_word : (bytes : List ℕ) (m : Matching) (s t : ℕ) (w codes : List ℕ) → m.first ≡ Some s
    → ((next : ℕ → List Bool → List Bool) (marks : List Bool) → IsRightTable next m.known → IsRow m.known (Some s) marks → IsRow m.known (Some t) (marks_behind next marks codes))
    → HasReadWord bytes m w → HasReadWord bytes (record m { at = Some t }) codes
known_word bytes m s t w codes f g h =
    read_behind bytes (record m { at = Some s }) (record m { at = Some t }) s t [] codes refl refl refl refl refl refl g
    (begun_known bytes m (record m { at = Some s }) s w refl refl refl refl f refl h)

-- it has marks, which are those behind that word
pub known_reached : (bytes : List ℕ) (m : Matching) (k : Known) (s t : ℕ) (codes : List ℕ) → k ≡ m.known → m.first ≡ Some s
    → ((next : ℕ → List Bool → List Bool) (marks : List Bool) → IsRightTable next k → IsRow k (Some s) marks → IsRow k (Some t) (marks_behind next marks codes))
    → IsMadeFor bytes m → (t < length k.rows) × IsMarked bytes (row k t) codes
known_reached bytes m k s t codes e f g (w, h) =
    let r = known_word bytes m s t w codes f
    (subst (λ y. (next : ℕ → List Bool → List Bool) (marks : List Bool) → IsRightTable next y → IsRow y (Some s) marks → IsRow y (Some t) (marks_behind next marks codes)) e g) h in
    (subst (λ y. t < length y.rows) (sym e) (r.at t refl).0, subst (λ y. IsMarked bytes (row y t) codes) (sym e) r.marked)
