-- A reader behind a whole token, where what follows it shows that it stands there.
use Rattle.std.proofs.Common.{◌≡◌, ℕ, true, false, ◌==◌, ◌+◌, List, [], ◌∷◌, ◌++◌, length, reverse, None, refl, sym, ◌∙◌, ap, subst, append_assoc, add-zero, length-append, arith}
use Rattle.std.specs.List.{flat_map}
use Rattle.std.specs.Bool.{if◌then◌else◌}
use Rattle.std.proofs.lemmas.Bool.{eqb-true, both_ways}
use Rattle.markup.specs.Token.{Token, token_bytes}
use Rattle.markup.specs.Marks.{Cell, Front, stands, is_short}
use Rattle.markup.specs.Events.{Placed, events, items_of}
use Rattle.markup.specs.Faults.{rule_of}
use Rattle.markup.specs.Scopes.{placed_at}
use Rattle.markup.specs.inner.Contexts.{IsContext}
use Rattle.markup.specs.inner.Drafts.{no_draft}
use Rattle.markup.specs.inner.ScanRuns.{At, position, ended_of}
use Rattle.markup.specs.inner.Tokenizers.{after_other, behind_token, is_between, after_whole_tokens, IsTokenOpen, open_at, FinishesBy}
use Rattle.markup.specs.inner.Inputs.{ReadsTokens, with_pending}
use Rattle.markup.specs.Reading.{Keeps}
use Rattle.markup.specs.inner.AsideTexts.{after_token}
use Rattle.markup.specs.declared.context.Context.{Context}
use Rattle.markup.specs.declared.reader.Reader.{Reader}
use Rattle.markup.specs.declared.scan.Position.{Position}
use Rattle.markup.specs.declared.scan.Scan.{Scan}
use Rattle.markup.specs.declared.scan.Scan.TheVariants.{Begin}
use Rattle.markup.specs.declared.tokenizer.Finish.{Finish}
use Rattle.markup.specs.declared.tokenizer.Finish.TheVariants.{Nothing, Open}
use Rattle.markup.specs.declared.tokenizer.Tokenizer.{Tokenizer}
use Rattle.markup.proofs.EventLemmas.{events_snoc}
use Rattle.markup.proofs.InputEvents.{none_pending, not_return, no_return_none}
use Rattle.markup.proofs.InputLemmas.{front_snoc, reverse_snoc, clean_snoc, reads_start}
use Rattle.markup.proofs.PlainLemmas.{IsFresh, is_fresh}
use Rattle.markup.proofs.SettleLemmas.{finishes_by}
use Rattle.markup.proofs.TokenizerLemmas.{none_front, position_behind}
use Rattle.markup.proofs.TokensBehind.{behind}

no_bytes : (bytes : List ℕ) (place start : ℕ) → place ≡ start + length bytes → place ≡ start → bytes ≡ []
no_bytes [] place start e s = refl
no_bytes (b ∷ bytes) place start e s = absurd (omega (arith, e, s))

-- a token that stands there before what may follow it, and breaks no rule
pub record IsNextBefore (limit : ℕ) (Then : List ℕ → Type 0) (before : List Token) (t : Token) : Type 0 where
  pub is : (after : List ℕ) → Then after → stands before t after ≡ true
  pub short : is_short limit t ≡ true
  pub clean : rule_of before t ≡ None
  pub stays : (p : Position) → behind_token p (ended_of t) ≡ after_other p

-- a token that stands there so, whatever it opens or closes
pub record IsPlaced (limit : ℕ) (Then : List ℕ → Type 0) (before : List Token) (t : Token) : Type 0 where
  pub is : (after : List ℕ) → Then after → stands before t after ≡ true
  pub short : is_short limit t ≡ true
  pub clean : rule_of before t ≡ None

-- where no token is open
module _ {limit : ℕ} (Follows : List ℕ → Type 0) (some : List ℕ) (follows : Follows some) (r : Reader) (bytes : List ℕ) (ts : List Token) (told : List Placed) (h : Keeps limit Follows r bytes ts told) (between : is_between r.tokenizer.scan ≡ true) (starts : (r.tokenizer.place == r.tokenizer.start) ≡ true) where
  abbrev z : Tokenizer
  z = r.tokenizer

  fresh : IsFresh z
  fresh = is_fresh z between starts (reverse ts) h.reads.bytes h.reads.opens

  pub none_open_then : h.reads.bytes ≡ []
  none_open_then = no_bytes h.reads.bytes z.place z.start h.reads.opens.place_is (eqb-true z.place z.start starts)

  pub begins_there : length (flat_map token_bytes ts) ≡ length bytes
  begins_there = sym (reads_start Follows z bytes ts some follows h.reads h.place) ∙ (sym (eqb-true z.place z.start starts) ∙ h.place)

  pub all_told_then : told ≡ events [] 0 ts
  all_told_then = h.told_are (open_at z.scan z) (finishes_by z (open_at z.scan z) refl) ∙ by z.scan between where
    by : (s : Scan) → is_between s ≡ true → events [] 0 (with_pending (open_at s z) ts) ≡ events [] 0 ts
    by (Begin p) b = ap (λ v. events [] 0 (with_pending (if v then Nothing else Open) ts)) starts
    by _ b = absurd (both_ways false refl b)

  module _ (Then : List ℕ → Type 0) (some_then : List ℕ) (may : Then some_then) (t : Token) (leads : (more : List ℕ) → Then more → Follows (token_bytes t ++ more)) (n : ℕ) (c : Context) (next : IsPlaced limit Then (reverse ts) t) (size : n ≡ length (token_bytes t)) (context : IsContext c (t ∷ reverse ts)) where
    abbrev after : Tokenizer
    after = after_token z (ended_of t) n

    place_now : z.place + n ≡ length (bytes ++ token_bytes t)
    place_now = ap (λ v. v + n) h.place ∙ (ap (λ v. length bytes + v) size ∙ sym (length-append bytes (token_bytes t)))

    position_is : behind_token z.position (ended_of t) ≡ position (t ∷ reverse ts)
    position_is = ap (λ p. behind_token p (ended_of t)) h.reads.opens.position_is ∙ sym (position_behind (reverse ts) t some_then (next.is some_then may))

    opens : IsTokenOpen limit after (t ∷ reverse ts) []
    opens = record {
      chars = [];
      part = [];
      bytes_are = refl;
      utf8_is = fresh.utf8_none;
      front = none_front;
      scan_is = ap (λ p. At (Begin p) no_draft) (sym position_is) ∙ ap (λ d. At (Begin (behind_token z.position (ended_of t))) d) fresh.draft_none;
      position_is = position_is;
      place_is = sym (add-zero (z.place + n));
      limit_is = h.reads.opens.limit_is;
      limited = h.reads.opens.limited;
      short = λ b. absurd b;
      settled = λ _. refl;
    }

    front : (more : List ℕ) → Then more → Front limit [] ((bytes ++ token_bytes t) ++ more) (ts ++ t ∷ []) more
    front more f =
        let old : Front limit [] (bytes ++ (token_bytes t ++ more)) ts (token_bytes t ++ more) = subst (λ v. Front limit [] (bytes ++ (token_bytes t ++ more)) ts (v ++ (token_bytes t ++ more))) none_open_then (h.reads.front (token_bytes t ++ more) (leads more f)) in
        subst (λ v. Front limit [] v (ts ++ t ∷ []) more) (sym (append_assoc bytes (token_bytes t) more))
        (front_snoc limit [] (bytes ++ (token_bytes t ++ more)) (token_bytes t ++ more) more ts t old (subst (λ b. Cell b t (token_bytes t ++ more) more) (behind ts) (record { spelled = refl; is = next.is more f })) next.short)

    reads : ReadsTokens limit Then after (bytes ++ token_bytes t) (ts ++ t ∷ [])
    reads = record { bytes = []; front = front; opens = subst (λ b. IsTokenOpen limit after b []) (sym (reverse_snoc ts t)) opens }

    told_now : (f : Finish) → FinishesBy after f → told ++ placed_at (length bytes) (items_of (reverse ts) t) ≡ events [] 0 (with_pending f (ts ++ t ∷ []))
    told_now f q =
        ap (λ v. v ++ placed_at (length bytes) (items_of (reverse ts) t)) all_told_then
        ∙ (ap (λ v. events [] 0 ts ++ placed_at v (items_of (reverse ts) t)) (sym begins_there)
        ∙ (sym (events_snoc ts t)
        ∙ ap (events [] 0) (sym (none_pending f (ts ++ t ∷ []) (not_return after (t ∷ reverse ts) [] f opens q no_return_none)))))

    pub keeps_placed : Keeps limit Then (record { tokenizer = after; context = c; failed = r.failed }) (bytes ++ token_bytes t) (ts ++ t ∷ []) (told ++ placed_at (length bytes) (items_of (reverse ts) t))
    keeps_placed = record {
      reads = reads;
      clean = clean_snoc ts t h.clean next.clean;
      place = place_now;
      context = subst (IsContext c) (sym (reverse_snoc ts t)) context;
      told_are = told_now;
      sound = h.sound;
    }

  module _ (Then : List ℕ → Type 0) (some_then : List ℕ) (may : Then some_then) (t : Token) (leads : (more : List ℕ) → Then more → Follows (token_bytes t ++ more)) (n : ℕ) (c : Context) (next : IsNextBefore limit Then (reverse ts) t) (size : n ≡ length (token_bytes t)) (context : IsContext c (t ∷ reverse ts)) where
    abbrev at_position : Position → Scan → Tokenizer
    at_position p s = record { alloc = z.alloc; limit = z.limit; utf8 = z.utf8; position = p; scan = s; draft = z.draft; start = z.place + n; place = z.place + n }

    stays_there : after_token z (ended_of t) n ≡ after_whole_tokens z n
    stays_there = ap (λ p. at_position p (Begin p)) (next.stays z.position ∙ fresh.position_stays) ∙ ap (λ s. at_position z.position s) fresh.scan_here

    pub keeps_next : Keeps limit Then (record { tokenizer = after_whole_tokens z n; context = c; failed = r.failed }) (bytes ++ token_bytes t) (ts ++ t ∷ []) (told ++ placed_at (length bytes) (items_of (reverse ts) t))
    keeps_next = subst (λ z. Keeps limit Then (record { tokenizer = z; context = c; failed = r.failed }) (bytes ++ token_bytes t) (ts ++ t ∷ []) (told ++ placed_at (length bytes) (items_of (reverse ts) t))) stays_there
        (keeps_placed Then some_then may t leads n c (record { is = next.is; short = next.short; clean = next.clean }) size context)
