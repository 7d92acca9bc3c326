-- A reader of a fragment whose bytes come in pieces.
use Rattle.std.proofs.Common.{◌≡◌, ℕ, ◌+◌, ◌-◌, ◌<◌, ◌≤◌, List, [], ◌++◌, length, take, drop, refl, sym, ap, subst, ◌∙◌, append_assoc, append-nil, arith}
use Rattle.std.specs.Global.{Vec}
use Rattle.std.specs.Prelude.{Bool, ◌==◌, IsTrue, vec_len}
use Rattle.std.proofs.lemmas.List.{append_cancel_left, take-append-drop, drop-drop, length-drop}
use Rattle.std.proofs.Math.Seq.{take-add}
use Rattle.lexical_core.proofs.Lists.{none_left}
use Rattle.markup.specs.Marks.{no_limit}
use Rattle.markup.specs.Reading.{bytes_taken, open_token_held, token_length, HasTakenUnder}
use Rattle.markup.specs.Events.{Placed}
use Rattle.markup.specs.declared.reader.Reader.{Reader}
use Rattle.markup.proofs.ExpandedLemmas.{counted}
use Rattle.markup.proofs.HeldBytes.{token_within}
use Rattle.respell.specs.Respelling.{respelled_text}
use Rattle.respell.specs.inner.FragmentReading.{HasReadFront, HasReadAll, IsFragment, AdvancesSo, ReadsBehind, RefusesPiece}
use Rattle.respell.specs.declared.fragment_reader.FragmentReader.{FragmentReader}
use Rattle.respell.specs.declared.fragment_reader.Advance.TheVariants.{Taken, NoFragment}
use Rattle.respell.proofs.FragmentFronts.{items}
use Rattle.respell.proofs.FragmentSteps.{text_front, rest_uncompared}
use Rattle.respell.proofs.ToldText.{text_within, behind_text}

-- ---- the text of the events that have come

-- The text is a front of the bytes that were read, where a fragment goes on with them.
text_read : (r : FragmentReader) (front forgotten others : List ℕ) → HasReadFront r front forgotten → IsFragment (front ++ others) → (rest : List ℕ) × ((forgotten ++ r.respell.text) ++ rest ≡ front)
text_read r front forgotten others h f =
    let m = text_front r front forgotten others h f in
    let t = text_within r.reader front others m.0 h.told h.reads h.inside (ap (λ (l : List ℕ). l ++ m.0) (sym h.writes.text_is) ∙ m.1) in
    (t.0, ap (λ (l : List ℕ). l ++ t.0) h.writes.text_is ∙ t.1)

-- where bytes that are not compared do not begin with it, no fragment goes on
pub front_differs : (r : FragmentReader) (front forgotten others ahead uncompared : List ℕ) → HasReadFront r front forgotten → forgotten ++ uncompared ≡ front ++ ahead → ((rest : List ℕ) → uncompared ≡ r.respell.text ++ rest → ⊥) → IsFragment (front ++ others) → ⊥
front_differs r front forgotten others ahead uncompared h u k f =
    let (rest, is) = text_read r front forgotten others h f in
    k (rest ++ ahead) (append_cancel_left forgotten uncompared (r.respell.text ++ (rest ++ ahead)) (u ∙ (ap (λ (l : List ℕ). l ++ ahead) (sym is) ∙ (append_assoc (forgotten ++ r.respell.text) rest ahead ∙ append_assoc forgotten r.respell.text (rest ++ ahead)))))

-- ---- what waits

written_all : (r : FragmentReader) (waiting bytes : List ℕ) (h : HasReadAll r waiting bytes) → h.forgotten ≡ respelled_text [] (items h.front.told)
written_all r waiting bytes h = sym (append-nil h.forgotten) ∙ (ap (λ (l : List ℕ). h.forgotten ++ l) (sym h.compared) ∙ h.front.writes.text_is)

-- What waits is no more than the open token.
pub waiting_open : (r : FragmentReader) (waiting bytes : List ℕ) → HasReadAll r waiting bytes → length waiting ≤ token_length r.reader
waiting_open r waiting bytes h = behind_text r.reader bytes waiting h.front.told h.front.reads h.front.inside (ap (λ (l : List ℕ). l ++ waiting) (sym (written_all r waiting bytes h)) ∙ h.waiting_are)

-- how many bytes were taken
pub all_taken : (r : FragmentReader) (waiting bytes : List ℕ) → HasReadAll r waiting bytes → bytes_taken r.reader ≡ length bytes
all_taken r waiting bytes h = h.front.reads.1.place

-- and the open token has no more
pub open_within : (r : FragmentReader) (waiting bytes : List ℕ) → HasReadAll r waiting bytes → token_length r.reader ≤ length bytes
open_within r waiting bytes h = (let e = all_taken r waiting bytes h in omega (arith, e))

-- nothing is held of an open token where nothing has come
pub none_held : (r : Reader) (told : List Placed) → HasTakenUnder no_limit r [] told → open_token_held r ≡ 0
none_held r told h = (let w = token_within r [] told h in let e = h.1.place in omega (arith, w, e))

-- ---- a part of a piece

pub refused_piece : (old new : FragmentReader) (waiting piece : List ℕ) → AdvancesSo old new piece NoFragment → RefusesPiece old waiting piece
refused_piece old new waiting piece refused before behind h f = refused before h.forgotten behind h.front (subst IsFragment (append_assoc before piece behind) f)

-- the bytes that wait, with those taken
with_taken : (forgotten waiting before taken piece : List ℕ) (count : ℕ) → forgotten ++ waiting ≡ before → taken ≡ take count piece → forgotten ++ (waiting ++ taken) ≡ before ++ take count piece
with_taken forgotten waiting before taken piece count e t = ap (λ (l : List ℕ). forgotten ++ (waiting ++ l)) t ∙ (sym (append_assoc forgotten waiting (take count piece)) ∙ ap (λ (l : List ℕ). l ++ take count piece) e)

pub some_read : (old between new : FragmentReader) (waiting taken extended rest piece : List ℕ) (count : ℕ) → AdvancesSo old between piece (Taken count) → taken ≡ take count piece → extended ≡ waiting ++ taken → between.respell.text ++ rest ≡ extended
    → ((front forgotten : List ℕ) → HasReadFront between front forgotten → HasReadFront new front (forgotten ++ between.respell.text)) → new.respell.text ≡ [] → bytes_taken new.reader ≡ bytes_taken between.reader → (0 < count) × ReadsBehind old new waiting rest piece count
some_read old between new waiting taken extended rest piece count a t x e written compared place = (
  a.0,
  record {
    within = a.1.within;
    moved = place ∙ a.1.moved;
    reads = λ before h. record {
      forgotten = h.forgotten ++ between.respell.text;
      front = written (before ++ take count piece) h.forgotten (a.1.reads before h.forgotten h.front);
      compared = compared;
      waiting_are = rest_uncompared h.forgotten between.respell.text rest extended (before ++ take count piece) e (ap (λ (l : List ℕ). h.forgotten ++ l) x ∙ with_taken h.forgotten waiting before taken piece count h.waiting_are t);
    };
  },
)

-- all of a piece that has come in two parts
parts_joined : (before piece behind : List ℕ) (count : ℕ) → (before ++ piece) ++ behind ≡ (before ++ take count piece) ++ (drop count piece ++ behind)
parts_joined before piece behind count =
    ap (λ (l : List ℕ). (before ++ l) ++ behind) (sym (take-append-drop count piece)) ∙ (ap (λ (l : List ℕ). l ++ behind) (sym (append_assoc before (take count piece) (drop count piece))) ∙ append_assoc (before ++ take count piece) (drop count piece) behind)

pub some_refused : (old between : FragmentReader) (waiting taken extended piece : List ℕ) (count : ℕ) → AdvancesSo old between piece (Taken count) → taken ≡ take count piece → extended ≡ waiting ++ taken → ((rest : List ℕ) → extended ≡ between.respell.text ++ rest → ⊥)
    → RefusesPiece old waiting piece
some_refused old between waiting taken extended piece count a t x k before behind h f =
    front_differs between (before ++ take count piece) h.forgotten (drop count piece ++ behind) [] extended (a.1.reads before h.forgotten h.front)
    (ap (λ (l : List ℕ). h.forgotten ++ l) x ∙ (with_taken h.forgotten waiting before taken piece count h.waiting_are t ∙ sym (append-nil (before ++ take count piece)))) k
    (subst IsFragment (parts_joined before piece behind count) f)

-- ---- one part after another

-- what is left of the piece
abbrev pub IsLeft : ℕ → List ℕ → List ℕ → Type 0
IsLeft count piece left = left ≡ drop count piece

pub left_length : (count : ℕ) (piece left : List ℕ) → IsLeft count piece left → length left ≡ length piece - count
left_length count piece left e = ap length e ∙ length-drop count piece

two_parts : (before piece : List ℕ) (n m : ℕ) → (before ++ take n piece) ++ take m (drop n piece) ≡ before ++ take (n + m) piece
two_parts before piece n m = append_assoc before (take n piece) (take m (drop n piece)) ∙ ap (λ (l : List ℕ). before ++ l) (sym (take-add n m piece))

pub then_read : (old between new : FragmentReader) (waiting middle rest piece left behind : List ℕ) (n m : ℕ) → IsLeft n piece left → ReadsBehind old between waiting middle piece n → ReadsBehind between new middle rest left m → behind ≡ drop m left
    → IsLeft (n + m) piece behind × ReadsBehind old new waiting rest piece (n + m)
then_read old between new waiting middle rest piece left behind n m is a b e = (
  e ∙ (ap (λ (l : List ℕ). drop m l) is ∙ drop-drop m n piece),
  record {
    within = (let l = left_length n piece left is in let w = a.within in let v = b.within in omega (arith, l, w, v));
    moved = (let i = a.moved in let j = b.moved in omega (arith, i, j));
    reads = λ before h. subst (λ (l : List ℕ). HasReadAll new rest l) (two_parts before piece n m) (subst (λ (l : List ℕ). HasReadAll new rest ((before ++ take n piece) ++ take m l)) is (b.reads (before ++ take n piece) (a.reads before h)));
  },
)

pub then_refused : (old between : FragmentReader) (waiting middle piece left : List ℕ) (n : ℕ) → IsLeft n piece left → ReadsBehind old between waiting middle piece n → RefusesPiece between middle left → RefusesPiece old waiting piece
then_refused old between waiting middle piece left n is a k before behind h f =
    k (before ++ take n piece) behind (a.reads before h) (subst IsFragment (parts_joined before piece behind n ∙ (ap (λ (l : List ℕ). (before ++ take n piece) ++ (l ++ behind)) (sym is) ∙ sym (append_assoc (before ++ take n piece) left behind))) f)

-- ---- a piece where nothing waits

pub no_items : (v : Vec ℕ) (b : Bool) → b ≡ (vec_len v == 0) → IsTrue b → v.items ≡ []
no_items v b is met = none_left v.items (ap (λ (n : ℕ). n == 0) (sym (counted v (vec_len v) refl)) ∙ (sym is ∙ met))

pub cut_behind : (front left behind all : List ℕ) → front ++ left ≡ all → all ++ behind ≡ front ++ (left ++ behind)
cut_behind front left behind all e = ap (λ (l : List ℕ). l ++ behind) (sym e) ∙ append_assoc front left behind
