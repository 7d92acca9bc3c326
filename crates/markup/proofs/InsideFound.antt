-- The bytes with which an open token goes on are not missed.
use Rattle.std.proofs.Common.{◌≡◌, ℕ, Bool, true, false, ◌+◌, ◌-◌, ◌<◌, ◌≤◌, ◌⊎◌, inl, inr, List, [], ◌∷◌, ◌++◌, length, reverse, Some, refl, sym, ◌∙◌, ap, append-nil, length-append, arith}
use Rattle.std.specs.List.{list_all}
use Rattle.std.proofs.lemmas.Bool.{and_parts, both_ways, cases_Bool}
use Rattle.std.proofs.lemmas.List.Folds.{list_all-append}
use Rattle.lexical_core.proofs.Lists.{same_first, same_rest}
use Rattle.markup.specs.Ascii.{is_ascii}
use Rattle.markup.specs.Token.{Token, LineEnd, Character, Lf, Cr, CrLf, token_text}
use Rattle.markup.specs.Marks.{in_cdata}
use Rattle.markup.specs.Events.{Placed}
use Rattle.markup.specs.inner.Drafts.{no_draft, note_character}
use Rattle.markup.specs.Reading.{MayTakeInsideUnder}
use Rattle.markup.specs.inner.Scans.{step}
use Rattle.markup.specs.inner.ScanRuns.{Run, At, Over, Failed, turn_run, run, position, ended_of, draft_of, ends_itself}
use Rattle.markup.specs.inner.Tokenizers.{IsTokenOpen}
use Rattle.markup.specs.inner.Inside.{GoesByOne, GoesByAll, is_inside}
use Rattle.markup.specs.declared.draft.Draft.{Draft}
use Rattle.markup.specs.declared.reader.Reader.{Reader}
use Rattle.markup.specs.declared.scan.Ended.{Ended}
use Rattle.markup.specs.declared.scan.Scan.{Scan}
use Rattle.markup.specs.declared.scan.Scan.TheVariants.{Begin}
use Rattle.markup.specs.declared.scan.Turn.{Turn}
use Rattle.markup.specs.declared.scan.Turn.TheVariants.{Goes, Whole, Stuck}
use Rattle.markup.specs.declared.tokenizer.Tokenizer.{Tokenizer}
use Rattle.markup.proofs.Complete.{complete}
use Rattle.markup.proofs.Exact.{run_on, run_over, no_more}
use Rattle.markup.proofs.InsideLemmas.{IsOverFront}
use Rattle.markup.proofs.Pending.{run_inside}

-- ---- over a piece

-- what a list begins with is within its front, or goes on behind that
abbrev GoesBehind : List ℕ → List ℕ → List ℕ → List ℕ → Type 0
GoesBehind xs ys more rest = (y : ℕ) × (zs : List ℕ) × (more ≡ xs ++ y ∷ zs) × (ys ≡ y ∷ (zs ++ rest))

splits : (xs ys more rest : List ℕ) → xs ++ ys ≡ more ++ rest → (length more ≤ length xs) ⊎ GoesBehind xs ys more rest
splits xs ys [] rest e = inl (omega arith)
splits [] ys (y ∷ zs) rest e = inr (y, zs, refl, e)
splits (x ∷ xs) ys (y ∷ zs) rest e = by (splits xs ys zs rest (same_rest x y (xs ++ ys) (zs ++ rest) e)) where
  by : (length zs ≤ length xs) ⊎ GoesBehind xs ys zs rest → (length (y ∷ zs) ≤ length (x ∷ xs)) ⊎ GoesBehind (x ∷ xs) ys (y ∷ zs) rest
  by (inl l) = inl (omega (arith, l))
  by (inr g) = inr (g.0, g.1, ap (λ v. v ∷ zs) (sym (same_first x y (xs ++ ys) (zs ++ rest) e)) ∙ ap (λ v. x ∷ v) g.2, g.3)

-- a run over some characters goes on with the first
first_goes : (s t : Scan) (d e : Draft) (y : ℕ) (ys : List ℕ) → run s d (y ∷ ys) ≡ At t e → (u : Scan) × (step s y ≡ Goes u)
first_goes s t d e y ys h = by (step s y) refl h where
  by : (a : Turn) → step s y ≡ a → turn_run (λ u. run u (note_character s u y d) ys) d ys a ≡ At t e → (u : Scan) × (step s y ≡ Goes u)
  by (Goes u) q h = (u, q)
  by (Whole k) q h = absurd (cc)
  by Stuck q h = absurd (cc)

-- Bytes are left with which the token does not go on.
pub left_behind : (old now : Tokenizer) (piece left more rest : List ℕ) (count : ℕ) → IsOverFront old now piece left → ((byte : ℕ) (behind : List ℕ) → left ≡ byte ∷ behind → GoesByOne now byte → 0 < count) → count ≡ 0
    → piece ≡ more ++ rest → GoesByAll old more → length more ≤ length piece - length left
left_behind old now piece left more rest count f next none e g = by (splits f.seen left more rest (sym f.joined ∙ e)) where
  by : (length more ≤ length f.seen) ⊎ GoesBehind f.seen left more rest → length more ≤ length piece - length left
  by (inl l) = omega (arith, l, ap length f.joined, length-append f.seen left)
  by (inr b) =
      let k = first_goes now.scan g.scan now.draft g.draft b.0 b.1 (sym (run_on old.scan now.scan old.draft now.draft f.seen (b.0 ∷ b.1) f.over.scans) ∙ (ap (run old.scan old.draft) (sym b.2) ∙ g.goes)) in
      let a = and_parts (list_all is_ascii f.seen) (list_all is_ascii (b.0 ∷ b.1)) (sym (list_all-append is_ascii f.seen (b.0 ∷ b.1)) ∙ (ap (list_all is_ascii) (sym b.2) ∙ g.ascii)) in
      absurd (omega (arith, none, next b.0 (b.1 ++ rest) b.3 (record { ascii = (and_parts (is_ascii b.0) (list_all is_ascii b.1) a.1).0; scan = k.0; goes = k.1 })))

-- ---- a token of the grammar

-- a token that ends with what follows it is one character
alone : (cdata : Bool) (t : Token) → ends_itself cdata t ≡ false → length (token_text t) ≡ 1
alone cdata (LineEnd Cr) h = refl
alone cdata (LineEnd Lf) h = absurd (both_ways true h refl)
alone cdata (LineEnd CrLf) h = absurd (both_ways true h refl)
alone cdata (Character c) h = refl
alone cdata _ h = absurd (both_ways true h refl)

left_over : (a b : Ended) (d e : Draft) (v w : List ℕ) → Over a d v ≡ Over b e w → v ≡ w
left_over a b d e v w h = cc

module _ {limit : ℕ} (r : Reader) (bytes : List ℕ) (told : List Placed) (more : List ℕ) (m : MayTakeInsideUnder limit r bytes told more) where
  abbrev before : List Token
  before = reverse m.tokens

  abbrev z : Tokenizer
  z = r.tokenizer

  abbrev o : IsTokenOpen limit z before m.keeps.reads.bytes
  o = m.keeps.reads.opens

  abbrev chars : List ℕ
  chars = m.first ∷ m.others

  run_is : run (Begin (position before)) no_draft chars ≡ At z.scan z.draft
  run_is = ap (run (Begin (position before)) no_draft) (sym m.begun) ∙ o.scan_is

  pub open_inside : is_inside z.scan ≡ true
  open_inside = run_inside (position before) m.first m.others z.scan no_draft z.draft m.no_return m.no_bracket run_is

  pub open_whole : z.utf8 ≡ Some []
  open_whole = o.utf8_is ∙ ap Some m.whole

  pub open_short : (z.place - z.start) + length more < z.limit
  open_short = omega (arith, o.place_is, o.limit_is, m.short)

  not_over : (k : Ended) (d : Draft) (v : List ℕ) → run (Begin (position before)) no_draft (chars ++ more) ≡ Over k d v → ⊥
  not_over k d v h = by (cases_Bool (ends_itself (in_cdata before) m.token)) where
    text_run : run (Begin (position before)) no_draft (token_text m.token) ≡ Over k d (v ++ m.next ∷ m.behind)
    text_run = ap (run (Begin (position before)) no_draft) m.text ∙ run_over (Begin (position before)) k no_draft d (chars ++ more) v (m.next ∷ m.behind) h

    by : (ends_itself (in_cdata before) m.token ≡ true) ⊎ (ends_itself (in_cdata before) m.token ≡ false) → ⊥
    by (inl q) =
        let e = left_over (ended_of m.token) k (draft_of m.token) d [] (v ++ m.next ∷ m.behind) (sym (complete before m.token m.after [] m.is q) ∙ (ap (run (Begin (position before)) no_draft) (append-nil (token_text m.token)) ∙ text_run)) in
        omega (arith, ap length e, length-append v (m.next ∷ m.behind))
    by (inr q) = omega (arith, alone (in_cdata before) m.token q, ap length m.text, length-append (chars ++ more) (m.next ∷ m.behind))

  pub open_goes : GoesByAll z more
  open_goes = by (run (Begin (position before)) no_draft (chars ++ more)) refl where
    by : (q : Run) → run (Begin (position before)) no_draft (chars ++ more) ≡ q → GoesByAll z more
    by (At s d) e = record { ascii = m.ascii; scan = s; draft = d; goes = sym (run_on (Begin (position before)) z.scan no_draft z.draft chars more run_is) ∙ e }
    by (Over k d v) e = absurd (not_over k d v e)
    by Failed e = absurd (no_more before (chars ++ more) e (record { token = m.token; more = m.next ∷ m.behind; after = m.after; text = m.text; is = m.is }))
