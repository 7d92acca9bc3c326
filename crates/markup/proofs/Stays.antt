-- What a reader has told stays, whatever follows.
use Rattle.std.proofs.Common.{◌≡◌, ℕ, Bool, true, false, List, [], ◌∷◌, ◌++◌, reverse, refl, sym, ◌∙◌, ap, subst, arith}
use Rattle.std.specs.Prelude.{if◌then◌else◌, not, ◌==◌}
use Rattle.std.proofs.lemmas.Bool.Decides.{nat_tests}
use Rattle.markup.specs.Token.{Token, Mark, Declaration, Comment, Instruction, Opener, Closer, TypeDeclaration, Start, End, Refer, LineEnd, Character, Lf, Cr, CrLf, token_bytes}
use Rattle.markup.specs.Reference.{Named, Numbered}
use Rattle.markup.specs.Marks.{Cell, Front, stands, begins_with, in_cdata, tag_limit}
use Rattle.markup.specs.Events.{Placed, events}
use Rattle.markup.specs.Faults.{IsClean}
use Rattle.markup.specs.inner.Inputs.{with_pending}
use Rattle.markup.specs.Reading.{HasTakenUnder, AreEventsUnder}
use Rattle.markup.specs.declared.reader.Reader.{Reader}
use Rattle.markup.specs.Standing.{NothingAtClean, OneNext, NothingBehindWhole, NoTokenBehindAll, TokensHaveBytes}
use Rattle.markup.specs.inner.Tokenizers.{Finishes, FinishesBy, open_at}
use Rattle.markup.specs.declared.tokenizer.Finish.{Finish}
use Rattle.markup.specs.declared.tokenizer.Finish.TheVariants.{Nothing, Return, Open}
use Rattle.markup.proofs.SettleLemmas.{finishes_by}
use Rattle.markup.proofs.InputLemmas.{front_snoc, clean_snoc}
use Rattle.markup.proofs.InputEnds.{reads_longest, clean_pending}
use Rattle.markup.proofs.OneFault.{next_none, next_same, next_over, nothing_stands, some_bytes}
use Rattle.markup.proofs.LineEnds.{crlf_stands, line_bytes}
use Rattle.markup.proofs.EventLemmas.{events_return}
use Rattle.markup.proofs.TokensBehind.{behind}

cr_stands : (before : List Token) (after : List ℕ) → begins_with 10 after ≡ false → stands before (LineEnd Cr) after ≡ true
cr_stands before after e = by (in_cdata before) where
  by : (b : Bool) → (if b then not (begins_with 10 after) else not (begins_with 10 after)) ≡ true
  by true = rw e refl
  by false = rw e refl

abbrev pub StaysAt : ℕ → List ℕ → List ℕ → List Placed → Type 0
StaysAt limit bytes more told = (tokens : List Token) × (rest : List ℕ) × Front limit [] (bytes ++ more) tokens rest × IsClean [] tokens × (told ≡ events [] 0 tokens)

pub events_stay : {limit : ℕ} (reader : Reader) (bytes : List ℕ) (told : List Placed) → HasTakenUnder limit reader bytes told → (behind : List ℕ) → StaysAt limit bytes behind told
events_stay {limit} reader bytes told (ts, k) more = by finish (finishes limit (reverse ts) k.reads.bytes k.reads.opens) (k.told_are finish finishes) where
  finish : Finish
  finish = open_at reader.tokenizer.scan reader.tokenizer

  finishes : FinishesBy reader.tokenizer finish
  finishes = finishes_by reader.tokenizer finish refl

  of_return : (f : List ℕ) → f ≡ more → k.reads.bytes ≡ token_bytes (LineEnd Cr) → told ≡ events [] 0 (ts ++ LineEnd Cr ∷ []) → StaysAt limit bytes more told
  of_return f same one told_are = go (begins_with 10 f) refl where
    alone : begins_with 10 more ≡ false → StaysAt limit bytes more told
    alone e = (
      ts ++ LineEnd Cr ∷ [],
      more,
      front_snoc limit [] (bytes ++ more) (k.reads.bytes ++ more) more ts (LineEnd Cr) (k.reads.front more tt)
          (subst (λ b. Cell b (LineEnd Cr) (k.reads.bytes ++ more) more) (behind ts) (record { spelled = ap (λ v. v ++ more) one; is = cr_stands (reverse ts) more e })) refl,
      clean_snoc ts (LineEnd Cr) k.clean refl,
      told_are,
    )

    joined : (rest : List ℕ) → more ≡ 10 ∷ rest → k.reads.bytes ++ more ≡ token_bytes (LineEnd CrLf) ++ rest
    joined rest e = ap (λ v. v ++ more) one ∙ (ap (λ v. v ++ more) line_bytes.2 ∙ (ap (λ v. (13 ∷ []) ++ v) e ∙ ap (λ v. v ++ rest) (sym line_bytes.1)))

    with_lf : (rest : List ℕ) → more ≡ 10 ∷ rest → StaysAt limit bytes more told
    with_lf rest e = (
      ts ++ LineEnd CrLf ∷ [],
      rest,
      front_snoc limit [] (bytes ++ more) (k.reads.bytes ++ more) rest ts (LineEnd CrLf) (k.reads.front more tt)
          (subst (λ b. Cell b (LineEnd CrLf) (k.reads.bytes ++ more) rest) (behind ts) (record { spelled = joined rest e; is = crlf_stands (reverse ts) rest })) refl,
      clean_snoc ts (LineEnd CrLf) k.clean refl,
      told_are ∙ events_return ts,
    )

    go : (b : Bool) → begins_with 10 f ≡ b → StaysAt limit bytes more told
    go false e = alone (rw same at e)
    go true e = first f same e where
      first : (f : List ℕ) → f ≡ more → begins_with 10 f ≡ true → StaysAt limit bytes more told
      first [] same e = absurd cc
      first (c ∷ rest) same e = with_lf rest (sym same ∙ ap (λ v. v ∷ rest) (is_ten c e)) where
        is_ten : (c : ℕ) → (c == 10) ≡ true → c ≡ 10
        is_ten c e = grind (arith, nat_tests)

  by : (f : Finish) → Finishes limit (reverse ts) k.reads.bytes f → told ≡ events [] 0 (with_pending f ts) → StaysAt limit bytes more told
  by Nothing h e = (ts, k.reads.bytes ++ more, k.reads.front more tt, k.clean, e)
  by Open h e = (ts, k.reads.bytes ++ more, k.reads.front more tt, k.clean, e)
  by Return h e = of_return more refl h.0 e

pub events_are_all : {limit : ℕ} (reader : Reader) (bytes : List ℕ) (told : List Placed) → HasTakenUnder limit reader bytes told → AreEventsUnder limit bytes told
events_are_all reader bytes told (ts, k) =
    (with_pending finish ts, reads_longest reader.tokenizer bytes ts k.reads finish finishes, clean_pending finish ts k.clean, k.told_are finish finishes) where
      finish : Finish
      finish = open_at reader.tokenizer.scan reader.tokenizer

      finishes : FinishesBy reader.tokenizer finish
      finishes = finishes_by reader.tokenizer finish refl

pub nothing_at_clean : NothingAtClean
nothing_at_clean before bytes t after rule at n c s r = next_none tag_limit before bytes t after rule at n c s r

pub one_next : OneNext
one_next before bytes r q a b m n = (let s = next_same tag_limit before bytes r q a b m n in (s.rule, s.at))

pub nothing_behind_whole : NothingBehindWhole
nothing_behind_whole before rule at n over = next_over tag_limit before [] rule at n refl over

pub no_token_behind_all : NoTokenBehindAll
no_token_behind_all before t after c = nothing_stands before t after c

pub tokens_have_bytes : TokensHaveBytes
tokens_have_bytes Mark e = some_bytes _ _ (sym e)
tokens_have_bytes (Declaration fields gap) e = some_bytes _ _ (sym e)
tokens_have_bytes (Comment text) e = some_bytes _ _ (sym e)
tokens_have_bytes (Instruction target text) e = some_bytes _ _ (sym e)
tokens_have_bytes Opener e = some_bytes _ _ (sym e)
tokens_have_bytes Closer e = some_bytes _ _ (sym e)
tokens_have_bytes TypeDeclaration e = some_bytes _ _ (sym e)
tokens_have_bytes (Start tag) e = some_bytes _ _ (sym e)
tokens_have_bytes (End name gap) e = some_bytes _ _ (sym e)
tokens_have_bytes (Refer (Named entity)) e = some_bytes _ _ (sym e)
tokens_have_bytes (Refer (Numbered radix digits)) e = some_bytes _ _ (sym e)
tokens_have_bytes (LineEnd Lf) e = some_bytes _ _ (sym e)
tokens_have_bytes (LineEnd Cr) e = some_bytes _ _ (sym e)
tokens_have_bytes (LineEnd CrLf) e = some_bytes _ _ (sym e)
tokens_have_bytes (Character c) e = some_bytes _ _ (sym e)
