-- A whole token that tells only that something is skipped, at the front of a piece, is the token of its place.
use Rattle.std.proofs.Common.{◌≡◌, ℕ, Bool, true, false, ◌≤◌, List, [], ◌∷◌, ◌++◌, length, take, reverse, None, Some, if◌then◌else◌, refl, sym, ◌∙◌, ap, subst, length-append, arith}
use Rattle.std.proofs.lemmas.Bool.{and_parts, both_ways}
use Rattle.std.proofs.Math.Seq.{take-append_seam}
use Rattle.lexical_core.specs.Tree.{Skipped}
use Rattle.lexical_core.specs.declared.rule.Rule.TheVariants.{TextOutside}
use Rattle.markup.specs.Token.{Token, Comment, Instruction, Opener, Closer, is_comment, is_instruction, token_bytes}
use Rattle.markup.specs.Marks.{in_cdata, stands, is_short}
use Rattle.markup.specs.Events.{Placed, items_of, open_tags}
use Rattle.markup.specs.Faults.{is_outside, rule_of}
use Rattle.markup.specs.Asides.{is_aside_in, MayTakeAsideUnder}
use Rattle.markup.specs.Scopes.{placed_at}
use Rattle.markup.specs.inner.ScanRuns.{ended_of}
use Rattle.markup.specs.inner.Contexts.{IsContext, without_brackets}
use Rattle.markup.specs.inner.TokenRules.{is_cdata}
use Rattle.markup.specs.inner.Inputs.{Any}
use Rattle.markup.specs.Reading.{HasTakenUnder, HasToldUnder}
use Rattle.markup.specs.inner.AsideTexts.{IsAsideAt, passed_aside}
use Rattle.markup.specs.inner.ReaderSteps.{IsReaderReady}
use Rattle.markup.specs.declared.context.Context.{Context}
use Rattle.markup.specs.declared.reader.Reader.{Reader}
use Rattle.markup.specs.declared.scan.Ended.{Ended}
use Rattle.markup.proofs.FollowedTokens.{IsPlaced, keeps_placed}
use Rattle.markup.proofs.ReaderLemmas.{told_so_far}
use Rattle.markup.proofs.TokenLaw.{one_token}
use Rattle.markup.proofs.TokenRuleLemmas.{in_cdata-open}

-- what such a token is and tells
pub record IsSkipped (cdata : Bool) (t : Token) : Type 0 where
  pub stands_there : (before : List Token) (after : List ℕ) → in_cdata before ≡ cdata → stands before t after ≡ true
  pub short : (limit : ℕ) → is_short limit t ≡ true
  pub clean : (before : List Token) → is_outside before ≡ false → rule_of before t ≡ None
  pub items : (before : List Token) → items_of before t ≡ Skipped ∷ []
  pub context : (before : List Token) (c : Context) → IsContext c before → IsContext (without_brackets c) (t ∷ before)

skipped : (cdata : Bool) (t : Token) → is_aside_in cdata t ≡ true → IsSkipped cdata t
skipped false (Comment text) h = record {
  stands_there = λ before after e. ap (λ (b : Bool). if b then false else is_comment text) e ∙ h;
  short = λ limit. refl;
  clean = λ before o. refl;
  items = λ before. refl;
  context = λ before c i. record { scope = i.scope; root = i.root; brackets_are = refl };
}
skipped false (Instruction target text) h = record {
  stands_there = λ before after e. ap (λ (b : Bool). if b then false else is_instruction target text) e ∙ h;
  short = λ limit. refl;
  clean = λ before o. refl;
  items = λ before. refl;
  context = λ before c i. record { scope = i.scope; root = i.root; brackets_are = refl };
}
skipped false Opener h = record {
  stands_there = λ before after e. ap (λ (b : Bool). if b then false else true) e;
  short = λ limit. refl;
  clean = λ before o. ap (λ (b : Bool). if b then Some TextOutside else None) o;
  items = λ before. refl;
  context = λ before c i. record { scope = i.scope; root = i.root; brackets_are = refl };
}
skipped true Closer h = record {
  stands_there = λ before after e. ap (λ (b : Bool). if b then true else false) e;
  short = λ limit. refl;
  clean = λ before o. refl;
  items = λ before. refl;
  context = λ before c i. record { scope = i.scope; root = i.root; brackets_are = refl };
}
skipped true _ h = absurd (both_ways false refl h)
skipped false _ h = absurd (both_ways false refl h)

module _ {limit : ℕ} (r : Reader) (bytes piece : List ℕ) (told : List Placed) (e : Ended) (n : ℕ) (h : HasTakenUnder limit r bytes told) (ready : IsReaderReady r) (a : IsAsideAt (is_cdata r.tokenizer.position) piece e n) where
  abbrev before : List Token
  before = reverse h.0

  facts : IsSkipped (is_cdata r.tokenizer.position) a.token
  facts = skipped (is_cdata r.tokenizer.position) a.token a.is

  placed : IsPlaced limit Any before a.token
  placed = record {
    is = λ after _. facts.stands_there before after (in_cdata-open r.tokenizer before h.1.reads.bytes h.1.reads.opens);
    short = facts.short limit;
    clean = facts.clean before (ready.inside (open_tags before) h.1.context.scope);
  }

  taken : HasTakenUnder limit (passed_aside r (ended_of a.token) n) (bytes ++ token_bytes a.token) (told ++ placed_at (length bytes) (items_of before a.token))
  taken = (
    h.0 ++ a.token ∷ [],
    keeps_placed Any [] tt r bytes h.0 told h.1 (and_parts _ _ ready.ready).0 (and_parts _ _ ready.ready).1 Any [] tt a.token (λ more _. tt) n (without_brackets r.context) placed a.size_is (facts.context before r.context h.1.context),
  )

  front : take n piece ≡ token_bytes a.token
  front = ap (λ m. take m piece) a.size_is ∙ (ap (take (length (token_bytes a.token))) a.spelled ∙ take-append_seam (token_bytes a.token) a.after)

  pub takes_aside : HasToldUnder limit (passed_aside r e n) (bytes ++ take n piece) (told ++ placed_at (length bytes) (Skipped ∷ []))
  takes_aside = told_so_far (passed_aside r e n) (bytes ++ take n piece) (told ++ placed_at (length bytes) (Skipped ∷ []))
      (subst (λ v. HasTakenUnder limit (passed_aside r e n) (bytes ++ v) (told ++ placed_at (length bytes) (Skipped ∷ []))) (sym front)
      (subst (λ v. HasTakenUnder limit (passed_aside r v n) (bytes ++ token_bytes a.token) (told ++ placed_at (length bytes) (Skipped ∷ []))) a.ended_is
      (subst (λ v. HasTakenUnder limit (passed_aside r (ended_of a.token) n) (bytes ++ token_bytes a.token) (told ++ placed_at (length bytes) v)) (facts.items before) taken)))

-- it is within the piece
pub aside_within : (cdata : Bool) (piece : List ℕ) (e : Ended) (n : ℕ) → IsAsideAt cdata piece e n → n ≤ length piece
aside_within cdata piece e n a = omega (arith, a.size_is, ap length a.spelled, length-append (token_bytes a.token) a.after)

-- where the reader may take one, it stands as the tokenizer says
pub aside_here : {limit : ℕ} (r : Reader) (bytes : List ℕ) (told : List Placed) (t : Token) → MayTakeAsideUnder limit r bytes told t → is_aside_in (is_cdata r.tokenizer.position) t ≡ true
aside_here r bytes told t m = subst (λ b. is_aside_in b t ≡ true) (in_cdata-open r.tokenizer (reverse m.before.0) m.before.1.reads.bytes m.before.1.reads.opens) m.is.0

-- and the one that is found is that one
pub aside_is : {limit : ℕ} (r : Reader) (bytes piece : List ℕ) (told : List Placed) (t : Token) (rest : List ℕ) (e : Ended) (n : ℕ) → MayTakeAsideUnder limit r bytes told t → piece ≡ token_bytes t ++ rest → IsAsideAt (is_cdata r.tokenizer.position) piece e n → n ≡ length (token_bytes t)
aside_is r bytes piece told t rest e n m p a =
    let before = reverse m.before.0 in
    let k = in_cdata-open r.tokenizer before m.before.1.reads.bytes m.before.1.reads.opens in
    let there = λ (u : Token) (x : is_aside_in (is_cdata r.tokenizer.position) u ≡ true) (after : List ℕ). (skipped (is_cdata r.tokenizer.position) u x).stands_there before after k in
    a.size_is ∙ ap (λ u. length (token_bytes u)) (one_token before a.token t piece a.after rest
    (record { spelled = a.spelled; is = there a.token a.is a.after }) (record { spelled = p; is = there t (aside_here r bytes told t m) rest })).0
