-- What a byte does not go on with are tokens that stand before it.
use Rattle.std.proofs.Common.{◌≡◌, ℕ, Bool, true, false, not, ◌==◌, ◌+◌, ◌-◌, List, [], ◌∷◌, ◌++◌, length, Some, if◌then◌else◌, refl, sym, ◌∙◌, ap, subst, append-nil, add-zero, arith}
use Rattle.std.specs.Str.{encode_utf8_all}
use Rattle.std.specs.Char.{encode_utf8}
use Rattle.std.proofs.lemmas.Bool.{and_left, not_from_false, both_ways, eqb-true, eq-eqb}
use Rattle.std.proofs.lemmas.List.{nil_from_length}
use Rattle.lexical_core.specs.declared.rule.Rule.TheVariants.{Truncated}
use Rattle.markup.specs.Chars.{is_xml_char}
use Rattle.markup.specs.Token.{Token, LineEnd, Character, Cr, token_bytes}
use Rattle.markup.specs.Marks.{in_cdata, shows_no_closer, stands}
use Rattle.markup.specs.Faults.{NoToken, Next, cut}
use Rattle.markup.specs.inner.Drafts.{no_draft}
use Rattle.markup.specs.inner.ScanRuns.{At, run, position, placed_by}
use Rattle.markup.specs.inner.Tokenizers.{after_other, is_pending, IsAwaited, IsTokenOpen, at_next_token, second_bracket, settled_at, settle_character, SettlesOne, SettlesTwo, Settles, SettlesBy, open_at, Finishes, FinishesBy}
use Rattle.markup.specs.declared.draft.Draft.{Draft}
use Rattle.markup.specs.declared.scan.Position.TheVariants.{Cdata}
use Rattle.markup.specs.declared.scan.Scan.{Scan}
use Rattle.markup.specs.declared.scan.Scan.TheVariants.{Begin, AfterReturn, Bracket, Brackets, Reference as InReference, Opened, Bang, BangHyphen, CommentText, CommentHyphen, CommentEnd, Fixed, Question, TargetX, TargetXm, TargetXml, Target, TargetMark, InstructionText, InstructionMark, DeclarationGap, FieldName, FieldBefore, FieldAfter, FieldValue, FieldWord, FieldEnd, FieldGap, DeclarationMark, StartName, Gap, AttributeName, BeforeEquals, AfterEquals, Value, ValueReference, AfterValue, Slash, EndOpened, EndName, EndGap}
use Rattle.markup.specs.declared.tokenizer.Finish.{Finish}
use Rattle.markup.specs.declared.tokenizer.Finish.TheVariants.{Nothing as NothingOpen, Open}
use Rattle.markup.proofs.Exact.{goes_on}
use Rattle.markup.proofs.NoTokens.{Settled as SettledAt, no_token, no_whole}
use Rattle.markup.specs.declared.tokenizer.Tokenizer.{Tokenizer}
use Rattle.markup.specs.declared.tokenizer.Settled.{Settled}
use Rattle.markup.specs.declared.tokenizer.Settled.TheVariants.{Nothing, Return, Bracket as OneBracket, Brackets as TwoBrackets}
use Rattle.markup.proofs.Complete.{return_run, bracket_run}
use Rattle.markup.proofs.Sound.{at_cdata}
use Rattle.markup.proofs.Pending.{Waits, run_waits}
use Rattle.markup.proofs.TokenizerLemmas.{none_front, other_place}

line_end_stands : (before : List Token) (byte : ℕ) (more : List ℕ) → (byte == 10) ≡ false → stands before (LineEnd Cr) (byte ∷ more) ≡ true
line_end_stands before byte more h = by (in_cdata before) where
  by : (b : Bool) → (if b then not (byte == 10) else not (byte == 10)) ≡ true
  by true = not_from_false _ h
  by false = not_from_false _ h

bracket_stands : (before : List Token) (x : List ℕ) → in_cdata before ≡ true → shows_no_closer x ≡ true → stands before (Character 93) x ≡ true
unfolding is_xml_char
bracket_stands before x h k = rw (h, k) refl

shows_by : (byte : ℕ) (more : List ℕ) → (byte == 93) ≡ false → shows_no_closer (byte ∷ more) ≡ true
shows_by byte [] h = not_from_false _ h
shows_by byte (c ∷ more) h = not_from_false _ (and_left _ _ h)

shows_second : (byte : ℕ) (more : List ℕ) → (byte == 62) ≡ false → shows_no_closer (93 ∷ byte ∷ more) ≡ true
shows_second byte more h = not_from_false _ h

brackets_are : (encode_utf8_all (93 ∷ []) ≡ 93 ∷ []) × (encode_utf8_all (93 ∷ 93 ∷ []) ≡ 93 ∷ 93 ∷ [])
unfolding encode_utf8
brackets_are = (refl, refl)

draft_same : (s t : Scan) (d e : Draft) → At s d ≡ At t e → d ≡ e
draft_same s t d e h = cc

-- what has been settled and what is left fit together
abbrev Fits : ℕ → Tokenizer → List Token → List ℕ → ℕ → Settled × Tokenizer → Type 0
Fits limit z before bytes byte r = Settles limit z r.1 before bytes byte r.0 × IsAwaited r.1.scan byte

module _ {limit : ℕ} (z : Tokenizer) (before : List Token) (bytes : List ℕ) (byte : ℕ) (o : IsTokenOpen limit z before bytes) where
  whole_bytes : (cs v : List ℕ) → o.part ≡ [] → o.chars ≡ cs → encode_utf8_all cs ≡ v → bytes ≡ v
  whole_bytes cs v p c e = o.bytes_are ∙ (ap (λ x. encode_utf8_all o.chars ++ x) p ∙ (append-nil (encode_utf8_all o.chars) ∙ (ap encode_utf8_all c ∙ e)))

  -- the next token is open behind one that opens and closes nothing
  reopened : (ts : List Token) → o.part ≡ [] → z.draft ≡ no_draft → after_other z.position ≡ position ts → IsTokenOpen limit (at_next_token z) ts []
  reopened ts p d q = record {
    chars = [];
    part = [];
    bytes_are = refl;
    utf8_is = o.utf8_is ∙ ap (λ x. Some x) p;
    front = none_front;
    scan_is = at_next (sym q) (sym d);
    position_is = q;
    place_is = sym (add-zero z.place);
    limit_is = o.limit_is;
    limited = o.limited;
    short = λ t. absurd t;
    settled = λ _. refl;
  } where
    at_next : position ts ≡ after_other z.position → no_draft ≡ z.draft → At (Begin (position ts)) no_draft ≡ At (Begin (after_other z.position)) z.draft
    at_next e f = ap (λ p. At (Begin p) no_draft) e ∙ ap (At (Begin (after_other z.position))) f

  place_behind : after_other z.position ≡ placed_by false (in_cdata before)
  place_behind = ap after_other o.position_is ∙ sym (other_place before)

  waits : Waits (position before) o.chars z.scan
  waits = run_waits (position before) o.chars z.scan no_draft z.draft o.scan_is

  settle_return : z.scan ≡ AfterReturn → (byte == 10) ≡ false → SettlesOne limit (at_next_token z) before bytes byte (LineEnd Cr)
  settle_return e n =
      let w : o.chars ≡ 13 ∷ [] = subst (Waits (position before) o.chars) e waits in
      let p = o.settled (ap is_pending e) in
      record {
        rest = [];
        bytes_are = whole_bytes (13 ∷ []) (token_bytes (LineEnd Cr) ++ []) p w (sym (append-nil (encode_utf8_all (13 ∷ []))));
        is = λ more. line_end_stands before byte more n;
        next = reopened (LineEnd Cr ∷ before) p (sym (draft_same AfterReturn z.scan no_draft z.draft (sym (return_run before []) ∙ (ap (run (Begin (position before)) no_draft) (sym w) ∙ o.scan_is)))) place_behind;
      }

  in_section : (position before ≡ Cdata) → in_cdata before ≡ true
  in_section e = at_cdata before e

  settle_bracket : z.scan ≡ Bracket → (byte == 93) ≡ false → SettlesOne limit (at_next_token z) before bytes byte (Character 93)
  settle_bracket e n =
      let w : (o.chars ≡ 93 ∷ []) × (position before ≡ Cdata) = subst (Waits (position before) o.chars) e waits in
      let p = o.settled (ap is_pending e) in
      record {
        rest = [];
        bytes_are = whole_bytes (93 ∷ []) (token_bytes (Character 93) ++ []) p w.0 (sym (append-nil (encode_utf8_all (93 ∷ []))));
        is = λ more. bracket_stands before (byte ∷ more) (in_section w.1) (shows_by byte more n);
        next = reopened (Character 93 ∷ before) p (sym (draft_same Bracket z.scan no_draft z.draft (sym (bracket_run before [] (in_section w.1)) ∙ (ap (run (Begin (position before)) no_draft) (sym w.0) ∙ o.scan_is)))) place_behind;
      }

  two_run : in_cdata before ≡ true → run (Begin (position before)) no_draft (93 ∷ 93 ∷ []) ≡ At Brackets no_draft
  two_run h = bracket_run before (93 ∷ []) h

  settle_brackets : z.scan ≡ Brackets → (byte == 62) ≡ false → (byte == 93) ≡ false → SettlesTwo limit (at_next_token z) before bytes byte
  settle_brackets e n m =
      let w : (o.chars ≡ 93 ∷ 93 ∷ []) × (position before ≡ Cdata) = subst (Waits (position before) o.chars) e waits in
      let p = o.settled (ap is_pending e) in
      record {
        bytes_are = whole_bytes (93 ∷ 93 ∷ []) (93 ∷ 93 ∷ []) p w.0 brackets_are.1;
        first = λ more. bracket_stands before (93 ∷ byte ∷ more) (in_section w.1) (shows_second byte more n);
        second = λ more. bracket_stands (Character 93 ∷ before) (byte ∷ more) (in_section w.1) (shows_by byte more m);
        next = reopened (Character 93 ∷ Character 93 ∷ before) p (sym (draft_same Brackets z.scan no_draft z.draft (sym (two_run (in_section w.1)) ∙ (ap (run (Begin (position before)) no_draft) (sym w.0) ∙ o.scan_is)))) place_behind;
      }

  settle_first : z.scan ≡ Brackets → (byte == 93) ≡ true → SettlesOne limit (second_bracket z) before bytes byte (Character 93)
  settle_first e n =
      let w : (o.chars ≡ 93 ∷ 93 ∷ []) × (position before ≡ Cdata) = subst (Waits (position before) o.chars) e waits in
      let p = o.settled (ap is_pending e) in
      let b : bytes ≡ 93 ∷ 93 ∷ [] = whole_bytes (93 ∷ 93 ∷ []) (93 ∷ 93 ∷ []) p w.0 brackets_are.1 in
      record {
        rest = 93 ∷ [];
        bytes_are = b ∙ ap (λ v. v ++ 93 ∷ []) (sym brackets_are.0);
        is = λ more. bracket_stands before (93 ∷ byte ∷ more) (in_section w.1) (shows_second byte more (other n));
        next = record {
          chars = 93 ∷ [];
          part = [];
          bytes_are = sym brackets_are.0 ∙ sym (append-nil (encode_utf8_all (93 ∷ [])));
          utf8_is = o.utf8_is ∙ ap (λ x. Some x) p;
          front = none_front;
          scan_is = bracket_run (Character 93 ∷ before) [] (in_section w.1) ∙ ap (At Bracket) (draft_same Brackets z.scan no_draft z.draft (sym (two_run (in_section w.1)) ∙ (ap (run (Begin (position before)) no_draft) (sym w.0) ∙ o.scan_is)));
          position_is = o.position_is ∙ (w.1 ∙ ap (placed_by false) (sym (in_section w.1)));
          place_is = place_one z.place z.start bytes o.place_is b;
          limit_is = o.limit_is;
          limited = o.limited;
          short = λ t. absurd t;
          settled = λ _. refl;
        };
      } where
        other : (byte == 93) ≡ true → (byte == 62) ≡ false
        other h = subst (λ (x : ℕ). (x == 62) ≡ false) (sym (eqb-true byte 93 h)) refl

        place_one : (p q : ℕ) (v : List ℕ) → p ≡ q + length v → v ≡ 93 ∷ 93 ∷ [] → p ≡ (p - 1) + 1
        place_one p q v h k = omega (arith, h, ap length k)

  settles : (s : Scan) → z.scan ≡ s → Fits limit z before bytes byte (settled_at s z byte)
  settles AfterReturn e = by (byte == 10) refl where
    by : (b : Bool) → (byte == 10) ≡ b → Fits limit z before bytes byte (if b then (Nothing, z) else (Return, at_next_token z))
    by true h = (refl, subst (λ s. IsAwaited s byte) (sym e) (eqb-true byte 10 h))
    by false h = (settle_return e h, tt)
  settles Bracket e = by (byte == 93) refl where
    by : (b : Bool) → (byte == 93) ≡ b → Fits limit z before bytes byte (if b then (Nothing, z) else (OneBracket, at_next_token z))
    by true h = (refl, subst (λ s. IsAwaited s byte) (sym e) (eqb-true byte 93 h))
    by false h = (settle_bracket e h, tt)
  settles Brackets e = by (byte == 62) (byte == 93) refl refl where
    by : (b c : Bool) → (byte == 62) ≡ b → (byte == 93) ≡ c → Fits limit z before bytes byte (if b then (Nothing, z) else (if c then (OneBracket, second_bracket z) else (TwoBrackets, at_next_token z)))
    by true c h k = (refl, subst (λ s. IsAwaited s byte) (sym e) (eqb-true byte 62 h))
    by false true h k = (settle_first e k, eqb-true byte 93 k)
    by false false h k = (settle_brackets e h k, tt)
  settles s e = (refl, subst (λ u. IsAwaited u byte) (sym e) tt)

pub settles_by : (old new : Tokenizer) (byte : ℕ) (result : Settled) → result ≡ (settle_character old byte).0 → new ≡ (settle_character old byte).1 → SettlesBy old new byte result
settles_by old new byte result e f limit before bytes o =
    subst (λ r. Settles limit old new before bytes byte r × IsAwaited new.scan byte) (sym e)
    (subst (λ y. Settles limit old y before bytes byte (settle_character old byte).0 × IsAwaited y.scan byte) (sym f) (settles old before bytes byte o old.scan refl))

-- a CR at the end of the input
pub end_stands : (before : List Token) → stands before (LineEnd Cr) [] ≡ true
end_stands before = by (in_cdata before) where
  by : (b : Bool) → (if b then true else true) ≡ true
  by true = refl
  by false = refl

-- what is open at the end of the input leaves no token
cut_settled : (s : Scan) (part : List ℕ) → (s ≡ AfterReturn → ⊥) → (is_pending s ≡ true → part ≡ []) → SettledAt s part
cut_settled AfterReturn part n p = absurd (n refl)
cut_settled Bracket part n p = subst (λ v. shows_no_closer v ≡ false) (sym (p refl)) refl
cut_settled Brackets part n p = subst (λ v. shows_no_closer (93 ∷ v) ≡ false) (sym (p refl)) refl
cut_settled _ part n p = tt

module _ {limit : ℕ} (z : Tokenizer) (before : List Token) (bytes : List ℕ) (o : IsTokenOpen limit z before bytes) where
  cut_here : (z.scan ≡ AfterReturn → ⊥) → (bytes ≡ [] → ⊥) → Next limit before bytes Truncated (length bytes)
  cut_here n m = cut o.chars o.part o.bytes_are
      (subst (NoToken before) (sym o.bytes_are) (no_token before o.chars o.part z.scan z.draft o.scan_is (cut_settled z.scan o.part n o.settled) (λ c m after e g x. no_whole o.part after c o.front e)))
      (goes_on before o.chars z.scan z.draft o.scan_is) o.front o.short (λ e. absurd (m e)) refl refl

  none_open : (p q n : ℕ) → p ≡ q + n → (p == q) ≡ true → n ≡ 0
  none_open p q n h k = let e : p ≡ q = eqb-true p q k in omega arith

  some_open : (p q : ℕ) (v : List ℕ) → p ≡ q + length v → (p == q) ≡ false → v ≡ [] → ⊥
  some_open p q v h k e = both_ways (p == q) k (eq-eqb p q (h ∙ (ap (λ u. q + length u) e ∙ add-zero q)))

  other_open : (s : Scan) → z.scan ≡ s → (s ≡ AfterReturn → ⊥) → Finishes limit before bytes (if z.place == z.start then NothingOpen else Open)
  other_open s e n = by (z.place == z.start) refl where
    by : (b : Bool) → (z.place == z.start) ≡ b → Finishes limit before bytes (if b then NothingOpen else Open)
    by true h = nil_from_length bytes (none_open z.place z.start (length bytes) o.place_is h)
    by false h = cut_here (λ k. n (sym e ∙ k)) (some_open z.place z.start bytes o.place_is h)

  pub finish_return : z.scan ≡ AfterReturn → (bytes ≡ token_bytes (LineEnd Cr)) × (stands before (LineEnd Cr) [] ≡ true)
  finish_return e =
      let w : o.chars ≡ 13 ∷ [] = subst (Waits (position before) o.chars) e (run_waits (position before) o.chars z.scan no_draft z.draft o.scan_is) in
      (whole_bytes z before bytes 0 o (13 ∷ []) (token_bytes (LineEnd Cr)) (o.settled (ap is_pending e)) w refl, end_stands before)

  finishes : (s : Scan) → z.scan ≡ s → Finishes limit before bytes (open_at s z)
  finishes AfterReturn e = finish_return e
  finishes (Begin p) e = other_open (Begin p) e (λ k. cc)
  finishes Bracket e = other_open Bracket e (λ k. cc)
  finishes Brackets e = other_open Brackets e (λ k. cc)
  finishes (InReference r) e = other_open (InReference r) e (λ k. cc)
  finishes (Opened f) e = other_open (Opened f) e (λ k. cc)
  finishes Bang e = other_open Bang e (λ k. cc)
  finishes BangHyphen e = other_open BangHyphen e (λ k. cc)
  finishes CommentText e = other_open CommentText e (λ k. cc)
  finishes CommentHyphen e = other_open CommentHyphen e (λ k. cc)
  finishes CommentEnd e = other_open CommentEnd e (λ k. cc)
  finishes (Fixed w at) e = other_open (Fixed w at) e (λ k. cc)
  finishes (Question f) e = other_open (Question f) e (λ k. cc)
  finishes (TargetX f) e = other_open (TargetX f) e (λ k. cc)
  finishes (TargetXm f) e = other_open (TargetXm f) e (λ k. cc)
  finishes (TargetXml f) e = other_open (TargetXml f) e (λ k. cc)
  finishes Target e = other_open Target e (λ k. cc)
  finishes TargetMark e = other_open TargetMark e (λ k. cc)
  finishes InstructionText e = other_open InstructionText e (λ k. cc)
  finishes InstructionMark e = other_open InstructionMark e (λ k. cc)
  finishes DeclarationGap e = other_open DeclarationGap e (λ k. cc)
  finishes (FieldName f at) e = other_open (FieldName f at) e (λ k. cc)
  finishes (FieldBefore f) e = other_open (FieldBefore f) e (λ k. cc)
  finishes (FieldAfter f) e = other_open (FieldAfter f) e (λ k. cc)
  finishes (FieldValue f q) e = other_open (FieldValue f q) e (λ k. cc)
  finishes (FieldWord f w q at) e = other_open (FieldWord f w q at) e (λ k. cc)
  finishes (FieldEnd f) e = other_open (FieldEnd f) e (λ k. cc)
  finishes (FieldGap f) e = other_open (FieldGap f) e (λ k. cc)
  finishes DeclarationMark e = other_open DeclarationMark e (λ k. cc)
  finishes (StartName n) e = other_open (StartName n) e (λ k. cc)
  finishes Gap e = other_open Gap e (λ k. cc)
  finishes (AttributeName n) e = other_open (AttributeName n) e (λ k. cc)
  finishes BeforeEquals e = other_open BeforeEquals e (λ k. cc)
  finishes AfterEquals e = other_open AfterEquals e (λ k. cc)
  finishes (Value q r) e = other_open (Value q r) e (λ k. cc)
  finishes (ValueReference q r) e = other_open (ValueReference q r) e (λ k. cc)
  finishes AfterValue e = other_open AfterValue e (λ k. cc)
  finishes Slash e = other_open Slash e (λ k. cc)
  finishes EndOpened e = other_open EndOpened e (λ k. cc)
  finishes (EndName n) e = other_open (EndName n) e (λ k. cc)
  finishes EndGap e = other_open EndGap e (λ k. cc)

pub finishes_by : (z : Tokenizer) (result : Finish) → result ≡ open_at z.scan z → FinishesBy z result
finishes_by z result e limit before bytes o = subst (Finishes limit before bytes) (sym e) (finishes z before bytes o z.scan refl)

-- the byte is not taken
abbrev place_of : Settled × Tokenizer → ℕ
place_of r = r.1.place

settled_at_place : (s : Scan) (z : Tokenizer) (byte : ℕ) → place_of (settled_at s z byte) ≡ z.place
settled_at_place AfterReturn z byte = by (byte == 10) where
  by : (b : Bool) → place_of (if b then (Nothing, z) else (Return, at_next_token z)) ≡ z.place
  by true = refl
  by false = refl
settled_at_place Bracket z byte = by (byte == 93) where
  by : (b : Bool) → place_of (if b then (Nothing, z) else (OneBracket, at_next_token z)) ≡ z.place
  by true = refl
  by false = refl
settled_at_place Brackets z byte = by (byte == 62) (byte == 93) where
  by : (b c : Bool) → place_of (if b then (Nothing, z) else (if c then (OneBracket, second_bracket z) else (TwoBrackets, at_next_token z))) ≡ z.place
  by true c = refl
  by false true = refl
  by false false = refl
settled_at_place s z byte = refl

pub settled_place : (old new : Tokenizer) (byte : ℕ) → new ≡ (settle_character old byte).1 → new.place ≡ old.place
settled_place old new byte e = ap (λ (z : Tokenizer). z.place) e ∙ settled_at_place old.scan old byte
