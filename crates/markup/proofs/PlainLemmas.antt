-- A character of one byte that is a token by itself is taken as any byte is.
use Rattle.std.proofs.Common.{◌≡◌, ℕ, Bool, true, false, ◌==◌, ◌&&◌, ◌+◌, ◌<◌, List, [], ◌∷◌, ◌++◌, length, Option, Some, if◌then◌else◌, refl, sym, ◌∙◌, ap, subst, length-append, arith}
use Rattle.std.specs.Char.{encode_utf8}
use Rattle.std.specs.Prelude.{Result, IfOk, IfErr}
use Rattle.std.specs.Str.{encode_utf8_all}
use Rattle.std.proofs.lemmas.Bool.{and_parts, both_ways, eqb-true}
use Rattle.std.proofs.lemmas.Bool.Decides.{nat_tests}
use Rattle.std.proofs.lemmas.Str.{encode_ascii, length-encode, len_utf8_bounds}
use Rattle.lexical_core.specs.Utf8.{Steps}
use Rattle.lexical_core.specs.declared.utf8.Utf8.TheVariants.{Char}
use Rattle.markup.specs.Chars.{is_xml_char}
use Rattle.markup.specs.Token.{Token}
use Rattle.markup.specs.Marks.{in_cdata}
use Rattle.markup.specs.Events.{Placed}
use Rattle.markup.specs.inner.Drafts.{no_draft}
use Rattle.markup.specs.inner.Scans.{line_step, goes_if, step}
use Rattle.markup.specs.inner.ScanRuns.{At, run, position, ended_of}
use Rattle.markup.specs.inner.Contexts.{IsContext}
use Rattle.markup.specs.inner.TokenRules.{is_cdata}
use Rattle.markup.specs.inner.Tokenizers.{EndedToken, after_other, on_turn, token_ended, after_character, byte_counted, is_plain_in, is_between, is_text, starts_plain, TakesAlone, TakesPlain, AdvancedBy, is_pending, IsAwaited, IsTokenOpen, Advances, SettlesBy, open_at, FinishesBy}
use Rattle.markup.specs.inner.Inputs.{is_return}
use Rattle.markup.specs.Reading.{HasTakenUnder, GoesOnUnder, StopsUnder}
use Rattle.markup.specs.inner.ReaderSteps.{SettlesEvents, TokenAnswered}
use Rattle.markup.specs.declared.draft.Draft.{Draft}
use Rattle.markup.specs.declared.event.Event.{Event}
use Rattle.markup.specs.declared.reader.MarkError.{MarkError}
use Rattle.markup.specs.declared.reader.Reader.{Reader}
use Rattle.markup.specs.declared.reference.ReferenceScan.TheVariants.{Begun}
use Rattle.markup.specs.declared.scan.Ended.TheVariants.{LineEnd, Character}
use Rattle.markup.specs.declared.scan.Position.{Position}
use Rattle.markup.specs.declared.scan.Position.TheVariants.{Start, AfterMark, Text, Cdata}
use Rattle.markup.specs.declared.scan.Scan.{Scan}
use Rattle.markup.specs.declared.scan.Scan.TheVariants.{Begin, AfterReturn, Bracket, Brackets, Opened, Reference}
use Rattle.markup.specs.declared.scan.Turn.TheVariants.{Goes, Whole}
use Rattle.markup.specs.declared.tokenizer.Finish.{Finish}
use Rattle.markup.specs.declared.tokenizer.Settled.TheVariants.{Nothing}
use Rattle.markup.specs.declared.tokenizer.Tokenizer.{Tokenizer}
use Rattle.markup.proofs.CharLemmas.{xml_scalar}
use Rattle.markup.proofs.EventTells.{tells_none}
use Rattle.markup.proofs.ReaderLemmas.{settle_ok, token_here, answered, token_stopped, step_ok, step_stops}
use Rattle.markup.proofs.ResultLemmas.{match_ok, match_err}
use Rattle.markup.proofs.SettleLemmas.{finishes_by}
use Rattle.markup.proofs.TokenizerLemmas.{advances_by}

-- a plain byte is ASCII, a character of XML, and none that opens or ends a line, a reference, markup or a section
pub plain_ascii : (text : Bool) (c : ℕ) → is_plain_in text c ≡ true → c < 128
plain_ascii text c h = grind (arith, nat_tests)

plain_xml : (text : Bool) (c : ℕ) → is_plain_in text c ≡ true → is_xml_char c ≡ true
unfolding is_xml_char
plain_xml text c h = grind (arith, nat_tests)

plain_not : (text : Bool) (c : ℕ) → is_plain_in text c ≡ true → ((c == 60) ≡ false) × ((c == 38) ≡ false) × ((c == 13) ≡ false) × ((c == 10) ≡ false)
plain_not text c h = (grind (arith, nat_tests), grind (arith, nat_tests), grind (arith, nat_tests), grind (arith, nat_tests))

-- in a CDATA section it begins no end of the section
plain_inside : (c : ℕ) → is_plain_in false c ≡ true → (c == 93) ≡ false
plain_inside c h = grind (arith, nat_tests)

-- so it is a token where one begins
line_plain : (text : Bool) (c : ℕ) → is_plain_in text c ≡ true → line_step c ≡ Whole (Character c)
line_plain text c h =
    let n = plain_not text c h in
    subst (λ (b : Bool). (if b then Goes AfterReturn else (if c == 10 then Whole LineEnd else goes_if (is_xml_char c) (Whole (Character c)))) ≡ Whole (Character c)) (sym n.2)
    (subst (λ (b : Bool). (if b then Whole LineEnd else goes_if (is_xml_char c) (Whole (Character c))) ≡ Whole (Character c)) (sym n.3)
    (subst (λ (b : Bool). goes_if b (Whole (Character c)) ≡ Whole (Character c)) (sym (plain_xml text c h)) refl))

plain_step : (s : Scan) (c : ℕ) → is_between s ≡ true → is_plain_in (is_text s) c ≡ true → step s c ≡ Whole (Character c)
plain_step (Begin Text) c b h =
    let n = plain_not true c h in
    subst (λ (b : Bool). (if b then Goes (Opened false) else (if c == 38 then Goes (Reference Begun) else line_step c)) ≡ Whole (Character c)) (sym n.0)
    (subst (λ (b : Bool). (if b then Goes (Reference Begun) else line_step c) ≡ Whole (Character c)) (sym n.1) (line_plain true c h))
plain_step (Begin Cdata) c b h = subst (λ (b : Bool). (if b then Goes Bracket else line_step c) ≡ Whole (Character c)) (sym (plain_inside c h)) (line_plain false c h)
plain_step _ c b h = absurd (both_ways false refl b)

-- no byte is open
pub no_chars : (cs part : List ℕ) → length (encode_utf8_all cs ++ part) ≡ 0 → (cs ≡ []) × (part ≡ [])
no_chars [] [] h = (refl, refl)
no_chars [] (x ∷ part) h = absurd (omega (arith, h))
no_chars (c ∷ cs) part h = absurd (omega (arith, h, length-append (encode_utf8 c ++ encode_utf8_all cs) part, length-append (encode_utf8 c) (encode_utf8_all cs), length-encode c, len_utf8_bounds c))

pub at_same : (s t : Scan) (d e : Draft) → At s d ≡ At t e → (s ≡ t) × (d ≡ e)
at_same s t d e h = (cc, cc)

-- in character data a token begins in no CDATA section, and between two tokens
pub text_place : (s : Scan) (p : Position) → is_text s ≡ true → Begin p ≡ s → is_cdata p ≡ false
text_place s Cdata h e = absurd (both_ways false refl (ap is_text e ∙ h))
text_place s Start h e = refl
text_place s AfterMark h e = refl
text_place s Text h e = refl

pub text_between : (s : Scan) → is_text s ≡ true → is_between s ≡ true
text_between (Begin Text) h = refl
text_between _ h = absurd (both_ways false refl h)

stays : (p : Position) → is_between (Begin p) ≡ true → after_other p ≡ p
stays Start h = absurd (both_ways false refl h)
stays AfterMark h = absurd (both_ways false refl h)
stays Text h = refl
stays Cdata h = refl

-- and no token waits for a byte
pub not_waiting : (s : Scan) → is_between s ≡ true → is_pending s ≡ false
not_waiting AfterReturn h = absurd (both_ways false refl h)
not_waiting Bracket h = absurd (both_ways false refl h)
not_waiting Brackets h = absurd (both_ways false refl h)
not_waiting _ h = refl

-- where a token begins, nothing of it has come
pub record IsFresh (z : Tokenizer) : Type 0 where
  pub utf8_none : z.utf8 ≡ Some []
  pub draft_none : no_draft ≡ z.draft
  pub scan_here : Begin z.position ≡ z.scan
  pub position_stays : after_other z.position ≡ z.position

pub is_fresh : {limit : ℕ} (z : Tokenizer) → is_between z.scan ≡ true → (z.place == z.start) ≡ true → (before : List Token) (bytes : List ℕ) → IsTokenOpen limit z before bytes → IsFresh z
is_fresh z between starts before bytes o = record { utf8_none = o.utf8_is ∙ ap (λ v. Some v) none.1; draft_none = same.1; scan_here = here; position_stays = stays z.position (ap is_between here ∙ between) } where
  none : (o.chars ≡ []) × (o.part ≡ [])
  none = no_chars o.chars o.part (ap length (sym o.bytes_are) ∙ count z.place z.start (length bytes) o.place_is (eqb-true z.place z.start starts)) where
    count : (p s n : ℕ) → p ≡ s + n → p ≡ s → n ≡ 0
    count p s n h k = omega arith

  same : (Begin (position before) ≡ z.scan) × (no_draft ≡ z.draft)
  same = at_same (Begin (position before)) z.scan no_draft z.draft (ap (run (Begin (position before)) no_draft) (sym none.0) ∙ o.scan_is)

  here : Begin z.position ≡ z.scan
  here = ap (λ p. Begin p) o.position_is ∙ same.0

-- the reader of tokens behind a character
abbrev pub made : Tokenizer → Option (List ℕ) → Position → Scan → Draft → Tokenizer
made z u p s d = record { alloc = z.alloc; limit = z.limit; utf8 = u; position = p; scan = s; draft = d; start = z.place + 1; place = z.place + 1 }

-- it begins the next token as it began that one
pub behind_same : (z : Tokenizer) (u : Option (List ℕ)) → after_other z.position ≡ z.position → Begin z.position ≡ z.scan → no_draft ≡ z.draft → made z u (after_other z.position) (Begin (after_other z.position)) no_draft ≡ made z u z.position z.scan z.draft
behind_same z u p s d =
    ap (λ p. made z u p (Begin p) no_draft) p
    ∙ (ap (λ s. made z u z.position s no_draft) s
    ∙ ap (λ d. made z u z.position z.scan d) d)

-- behind a byte by itself
abbrev behind_plain : Tokenizer → Tokenizer
behind_plain z = made z z.utf8 z.position z.scan z.draft

module _ (z : Tokenizer) (byte : ℕ) (between : is_between z.scan ≡ true) (starts : (z.place == z.start) ≡ true) (plain : is_plain_in (is_text z.scan) byte ≡ true) where
  module _ (limit : ℕ) (before : List Token) (bytes : List ℕ) (o : IsTokenOpen limit z before bytes) (w : IsAwaited z.scan byte) where
    fresh : IsFresh z
    fresh = is_fresh z between starts before bytes o

    advanced : AdvancedBy z (after_character (byte_counted z (Some [])) byte).1 byte (after_character (byte_counted z (Some [])) byte).0
    advanced = record {
      utf8 = Char byte;
      begun = Some [];
      steps = subst (λ u. Steps u byte (Char byte) (Some [])) (sym fresh.utf8_none) (xml_scalar byte (plain_xml (is_text z.scan) byte plain), encode_ascii byte (plain_ascii (is_text z.scan) byte plain), refl);
      value = refl;
      after = refl;
    }

    turn : after_character (byte_counted z (Some [])) byte ≡ token_ended (byte_counted z (Some [])) (Character byte)
    turn = ap (on_turn (byte_counted z (Some [])) byte) (plain_step z.scan byte between plain)

    behind_is : (token_ended (byte_counted z (Some [])) (Character byte)).1 ≡ behind_plain z
    behind_is = ap (λ u. made z u (after_other z.position) (Begin (after_other z.position)) no_draft) (sym fresh.utf8_none)
        ∙ behind_same z z.utf8 fresh.position_stays fresh.scan_here fresh.draft_none

    plain_here : Advances limit (behind_plain z) before (bytes ++ byte ∷ []) (EndedToken (Character byte) no_draft)
    plain_here =
        subst (λ y. Advances limit y before (bytes ++ byte ∷ []) (EndedToken (Character byte) no_draft)) behind_is
        (subst (λ d. Advances limit (token_ended (byte_counted z (Some [])) (Character byte)).1 before (bytes ++ byte ∷ []) (EndedToken (Character byte) d)) (sym fresh.draft_none)
        (subst (λ r. Advances limit r.1 before (bytes ++ byte ∷ []) r.0) turn
        (advances_by z (after_character (byte_counted z (Some [])) byte).1 byte (after_character (byte_counted z (Some [])) byte).0 advanced limit before bytes o w)))

  takes_parts : TakesPlain z (behind_plain z) byte
  takes_parts = record { advances = plain_here; settled = not_waiting z.scan between; leaves = not_waiting z.scan between; place = refl }

pub takes_plain : (z : Tokenizer) (byte : ℕ) → starts_plain z byte ≡ true → TakesPlain z (behind_plain z) byte
takes_plain z byte h =
    let a = and_parts (is_between z.scan && z.place == z.start) (is_plain_in (is_text z.scan) byte) h in
    let b = and_parts (is_between z.scan) (z.place == z.start) a.0 in
    takes_parts z byte b.0 b.1 a.1

-- nothing waits for a byte, and no CR is open
pub awaits_any : (s : Scan) (byte : ℕ) → is_pending s ≡ false → IsAwaited s byte
awaits_any AfterReturn byte h = absurd (both_ways true h refl)
awaits_any Bracket byte h = absurd (both_ways true h refl)
awaits_any Brackets byte h = absurd (both_ways true h refl)
awaits_any _ byte h = tt

pub no_return : (s : Scan) (z : Tokenizer) → is_pending s ≡ false → is_return (open_at s z) ≡ false
no_return AfterReturn z h = absurd (both_ways true h refl)
no_return s z h = by (z.place == z.start) where
  by : (b : Bool) → is_return (if b then Finish.Nothing else Finish.Open) ≡ false
  by true = refl
  by false = refl

-- the byte settles nothing
pub settles_none : {limit : ℕ} (r : Reader) (bytes : List ℕ) (told : List Placed) (byte : ℕ) (old : List Event) → HasTakenUnder limit r bytes told → is_pending r.tokenizer.scan ≡ false → SettlesEvents limit r bytes told byte old old
settles_none r bytes told byte old h n = settle_ok r bytes h.0 told r.tokenizer r.context byte Nothing old old h.1 nothing refl h.1.context (tells_none old old refl) where
  nothing : SettlesBy r.tokenizer r.tokenizer byte Nothing
  nothing limit before v o = (refl, awaits_any r.tokenizer.scan byte n)

-- the reader behind the byte, which ends a character
module _ {T : Type 0} {limit : ℕ} (r1 r2 : Reader) (bytes : List ℕ) (told : List Placed) (byte c : ℕ) (old new : List Event) (result : Result T MarkError) (h : HasTakenUnder limit r1 bytes told) (p : TakesAlone r1.tokenizer r2.tokenizer byte (EndedToken (Character c) no_draft)) (same : r2.failed ≡ r1.failed)
    (token : (before : List Token) (t : Token) → IsContext r1.context before → ended_of t ≡ Character c → in_cdata before ≡ is_cdata r1.tokenizer.position → TokenAnswered before t r1.tokenizer.start old new r2.context result) where
  s : SettlesEvents limit r1 bytes told byte old old
  s = settles_none r1 bytes told byte old h p.settled

  abbrev f : Finish
  f = open_at r1.tokenizer.scan r1.tokenizer

  ends : FinishesBy r1.tokenizer f
  ends = finishes_by r1.tokenizer f refl

  n : is_return f ≡ false
  n = no_return r1.tokenizer.scan r1.tokenizer p.settled

  pub alone_ok : IfOk result (λ _. GoesOnUnder limit r2 (bytes ++ byte ∷ []) told old new)
  alone_ok = match_ok result _ _ _
      (λ _ a. step_ok r1 r2 bytes told byte old old new s (token_here r1 bytes s.tells.tokens (told ++ s.tells.more) r2.tokenizer byte old new s.tells.keeps s.awaited p.place (Character c) no_draft p.advances f ends n r2 refl same a))
      (answered r1 bytes s.tells.tokens (told ++ s.tells.more) r2.tokenizer byte old new s.tells.keeps s.awaited p.place (Character c) no_draft p.advances f ends n
      (λ before t i x y v. TokenAnswered before t r1.tokenizer.start old new r2.context result) (λ before t i x y v. token before t i x v))

  pub alone_err : IfErr result (λ e. StopsUnder limit (bytes ++ byte ∷ []) told old new e)
  alone_err = match_err result _ _ _
      (λ e a. step_stops limit (bytes ++ byte ∷ []) told s.tells.more old old new e s.tells.tells (token_stopped r1 bytes s.tells.tokens (told ++ s.tells.more) r2.tokenizer byte old new s.tells.keeps s.awaited p.place (Character c) no_draft p.advances f ends n e a))
      (answered r1 bytes s.tells.tokens (told ++ s.tells.more) r2.tokenizer byte old new s.tells.keeps s.awaited p.place (Character c) no_draft p.advances f ends n
      (λ before t i x y v. TokenAnswered before t r1.tokenizer.start old new r2.context result) (λ before t i x y v. token before t i x v))
