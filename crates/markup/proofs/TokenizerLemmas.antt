-- A byte gives the next token where it ends it, and the next fault where it shows it.
use Rattle.std.proofs.Common.{◌≡◌, ℕ, Bool, true, false, not, ◌&&◌, ◌+◌, ◌-◌, ◌<◌, ◌≤◌, ◌⊎◌, inl, inr, List, [], ◌∷◌, ◌++◌, length, nat_le, Option, Some, if◌then◌else◌, refl, sym, ◌∙◌, ap, subst, append_assoc, append-nil, length-append, add-zero, arith}
use Rattle.std.specs.List.{flat_map, list_all}
use Rattle.std.specs.Prelude.{Result, Ok, Err, IfOk}
use Rattle.std.specs.declared.alloc.AllocError.{AllocError}
use Rattle.std.specs.Char.{encode_utf8, IsScalar}
use Rattle.std.specs.Str.{encode_utf8_all}
use Rattle.std.proofs.lemmas.Bool.{both_ways, cases_Bool, eqb-true, eqb-false, leb-true, leb-false, le-leb}
use Rattle.std.proofs.lemmas.Str.{encode_same, encodes-append, encode_ascii, length-encode, len_utf8_bounds}
use Rattle.lexical_core.specs.Utf8.{Steps, IsFront, IsNoFront}
use Rattle.lexical_core.specs.declared.utf8.Utf8.{Utf8}
use Rattle.lexical_core.specs.declared.utf8.Utf8.TheVariants.{More as MoreBytes, Char, Bad}
use Rattle.lexical_core.specs.declared.rule.Rule.TheVariants.{BadUtf8, BadMarkup, BadReference, BadChar}
use Rattle.markup.specs.Chars.{is_xml_char}
use Rattle.markup.specs.Name.{name_text}
use Rattle.markup.specs.Attribute.{attribute_text}
use Rattle.markup.specs.Token.{Token, Mark, Declaration, Comment, Instruction, Opener, Closer, TypeDeclaration, Start, End, Refer, LineEnd, Character, token_text, token_bytes}
use Rattle.markup.specs.Marks.{in_cdata, is_first, stands, is_short, IsLimit}
use Rattle.markup.specs.Faults.{TokenGoesOn, NoToken, IsTagBegun, no_char, bad_char, stuck, Next, halts, too_long}
use Rattle.markup.specs.inner.Drafts.{no_draft, note_character}
use Rattle.markup.specs.inner.Scans.{step}
use Rattle.markup.specs.inner.ScanRuns.{At, turn_run, run, placed_by, position, ended_of, ReadToken}
use Rattle.markup.specs.inner.Tokenizers.{Outcome, More, Refused, outcome, after_other, behind_token, is_tag, is_reference_open, stuck_rule, bound_outcome, token_ended, with_scan, on_turn, after_character, byte_counted, on_utf8, AdvancedBy, is_pending, IsAwaited, IsTokenOpen, EndsToken, Advances, AdvancesBy}
use Rattle.markup.specs.declared.scan.Scan.{Scan}
use Rattle.markup.specs.declared.scan.Scan.TheVariants.{Begin, AfterReturn, Bracket, Brackets, Value, ValueReference}
use Rattle.markup.specs.declared.scan.Ended.{Ended}
use Rattle.markup.specs.declared.scan.Turn.{Turn}
use Rattle.markup.specs.declared.scan.Turn.TheVariants.{Goes, Whole, Stuck}
use Rattle.markup.specs.declared.tokenizer.Tokenizer.{Tokenizer}
use Rattle.markup.specs.declared.tokenizer.Progress.{Progress}
use Rattle.markup.specs.declared.tokenizer.Progress.TheVariants.{More as Continues, Token as Ends, Refused as Refuses}
use Rattle.markup.proofs.CharLemmas.{xml_scalar, start_not}
use Rattle.markup.proofs.NameLemmas.{name_begins, BeginsName}
use Rattle.markup.proofs.Spans.{heads, tails}
use Rattle.markup.proofs.TokenKinds.{never_in, first_outside}
use Rattle.markup.proofs.TokenLemmas.{close, start_tag_facts, start_tag_then}
use Rattle.markup.proofs.TokenLaw.{end_then}
use Rattle.markup.proofs.TokenChars.{last_xml}
use Rattle.markup.proofs.Exact.{run_on, goes_on, no_more, found}
use Rattle.markup.proofs.NoTokens.{Settled, no_whole, none_within, no_token, char_no_front}
use Rattle.markup.proofs.ReferencePlaces.{in_tag}
use Rattle.markup.proofs.Placed.{Placed, run_placed}

-- nothing is a front of some character
pub none_front : IsFront []
none_front = record { char = 65; rest = 65 ∷ []; scalar = refl; more = omega arith; spelled = a_bytes } where
  a_bytes : encode_utf8 65 ≡ 65 ∷ []
  a_bytes = ascii 65 (omega arith) where
    ascii : (c : ℕ) → c < 128 → encode_utf8 c ≡ c ∷ []
    ascii c h = encode_ascii c h

-- a scan in a tag
pub tag_scan : (s : Scan) → in_tag s ≡ true → is_tag s ≡ true
tag_scan (Value q r) h = refl
tag_scan (ValueReference q r) h = refl
tag_scan _ h = h

-- a scan that waits for nothing leaves nothing open
not_pending : (s : Scan) (tail : List ℕ) → is_pending s ≡ false → Settled s tail
not_pending AfterReturn tail h = absurd (both_ways true h refl)
not_pending Bracket tail h = absurd (both_ways true h refl)
not_pending Brackets tail h = absurd (both_ways true h refl)
not_pending _ tail h = tt

tag_not_pending : (s : Scan) → is_tag s ≡ true → is_pending s ≡ false
tag_not_pending AfterReturn h = absurd (both_ways false refl h)
tag_not_pending Bracket h = absurd (both_ways false refl h)
tag_not_pending Brackets h = absurd (both_ways false refl h)
tag_not_pending _ h = refl

-- behind a token that opens and closes nothing
pub other_place : (before : List Token) → placed_by false (in_cdata before) ≡ after_other (position before)
other_place [] = refl
other_place (t ∷ before) = by (is_first (t ∷ before)) (in_cdata (t ∷ before)) (first_outside (t ∷ before)) where
  by : (f g : Bool) → (f ≡ true → g ≡ false) → placed_by false g ≡ after_other (placed_by f g)
  by true true h = absurd (both_ways true (h refl) refl)
  by true false h = refl
  by false true h = refl
  by false false h = refl

-- where the next token begins
pub position_behind : (before : List Token) (t : Token) (after : List ℕ) → stands before t after ≡ true → position (t ∷ before) ≡ behind_token (position before) (ended_of t)
position_behind [] Mark after h = refl
position_behind (b ∷ before) Mark after h = absurd (omega (arith, eqb-true (length (b ∷ before)) 0 h))
position_behind before Opener after h = refl
position_behind before Closer after h = refl
position_behind before (Declaration fs g) after h = other_place before
position_behind before (Comment s) after h = other_place before
position_behind before (Instruction p s) after h = other_place before
position_behind before TypeDeclaration after h = other_place before
position_behind before (Start t) after h = other_place before
position_behind before (End n g) after h = other_place before
position_behind before (Refer r) after h = other_place before
position_behind before (LineEnd l) after h = other_place before
position_behind before (Character c) after h = other_place before

-- the characters of a tag but its last
tag_front : (chars : List ℕ) (c d x : ℕ) (m : List ℕ) → chars ++ c ∷ [] ≡ 60 ∷ d ∷ x ∷ m → (d ≡ 33 → ⊥) → (d ≡ 63 → ⊥) → IsTagBegun chars
tag_front [] c d x m e n k = absurd (cc)
tag_front (a ∷ []) c d x m e n k = absurd (cc)
tag_front (a ∷ b ∷ chars) c d x m e n k = (heads a 60 _ _ e, (λ q. n (sym (heads b d _ _ (tails a 60 _ _ e)) ∙ q)), (λ q. k (sym (heads b d _ _ (tails a 60 _ _ e)) ∙ q)))

nonempty : (v : List ℕ) (x : ℕ) (w : List ℕ) → (y : ℕ) × (m : List ℕ) × (v ++ x ∷ w ≡ y ∷ m)
nonempty [] x w = (x, w, refl)
nonempty (y ∷ v) x w = (y, v ++ x ∷ w, refl)

-- a tag that has ended is short where it was before its last character
ended_short : {limit : ℕ} (before : List Token) (t : Token) (chars : List ℕ) (c : ℕ) → stands before t [] ≡ true → token_text t ≡ chars ++ c ∷ [] → (IsTagBegun chars → length (token_bytes t) ≤ limit) → is_short limit t ≡ true
ended_short before (Start t) chars c h e f = le-leb _ _ (f (begun (name_text t.name) (name_begins t.name (start_tag_facts t (never_in (in_cdata before) _ h).1).name) (sym (append-nil (token_text (Start t))) ∙ start_tag_then t []))) where
  begun : (n : List ℕ) → BeginsName n → token_text (Start t) ≡ 60 ∷ (n ++ (flat_map attribute_text t.attributes ++ (t.gap ++ (close t.is_empty ++ [])))) → IsTagBegun chars
  begun n b q =
      let k = start_not b.char b.starts in
      let r = last_some (b.more ++ (flat_map attribute_text t.attributes ++ t.gap)) t.is_empty in
      tag_front chars c b.char r.0 r.1 (sym e ∙ (q ∙ ap (λ u. 60 ∷ u) (ap (λ u. u ++ (flat_map attribute_text t.attributes ++ (t.gap ++ (close t.is_empty ++ [])))) b.text_is ∙ ap (λ u. b.char ∷ u) (regroup b.more (flat_map attribute_text t.attributes) t.gap (close t.is_empty ++ []) ∙ r.2))))
      (λ x. eqb-false b.char 33 k.0 x) (λ x. eqb-false b.char 63 k.3 x) where
        regroup : (a f g w : List ℕ) → a ++ (f ++ (g ++ w)) ≡ (a ++ (f ++ g)) ++ w
        regroup a f g w = sym (append_assoc a (f ++ g) w ∙ ap (λ u. a ++ u) (append_assoc f g w))

        last_some : (v : List ℕ) (b : Bool) → (y : ℕ) × (m : List ℕ) × (v ++ (close b ++ []) ≡ y ∷ m)
        last_some v true = nonempty v 47 (62 ∷ [])
        last_some v false = nonempty v 62 []
ended_short before (End n g) chars c h e f =
    let r = nonempty (name_text n ++ g) 62 [] in
    le-leb _ _ (f (tag_front chars c 47 r.0 r.1 (sym e ∙ (sym (append-nil (token_text (End n g))) ∙ (end_then n g [] ∙ ap (λ u. 60 ∷ 47 ∷ u) (sym (append_assoc (name_text n) g (62 ∷ [])) ∙ r.2)))) (λ x. eqb-false 47 33 refl x) (λ x. eqb-false 47 63 refl x)))
ended_short before _ chars c h e f = refl

-- the token that is open behind a byte that does not end it, or a tag that is too long
open_bounded : {limit : ℕ} (y : Tokenizer) (before : List Token) (bytes chars part : List ℕ) → bytes ≡ encode_utf8_all chars ++ part → y.utf8 ≡ Some part → IsFront part → run (Begin (position before)) no_draft chars ≡ At y.scan y.draft → y.position ≡ position before → y.place ≡ y.start + length bytes → (IsTagBegun chars → length bytes ≤ limit) → (is_pending y.scan ≡ true → part ≡ []) → y.limit ≡ limit → IsLimit limit → Advances limit y before bytes (bound_outcome y)
open_bounded {limit} y before bytes chars part e u f r p l t q m i =
    subst (λ (n : ℕ). Advances limit y before bytes (if is_tag y.scan && nat_le n (y.place - y.start) then Refused BadMarkup else More)) (sym m) (by (is_tag y.scan) (nat_le limit (y.place - y.start)) refl refl) where
      here : Placed chars y.scan
      here = run_placed (position before) chars y.scan no_draft y.draft r

      far : (place start n limit : ℕ) → place ≡ start + n → limit ≤ place - start → n ≤ limit → n ≡ limit
      far place start n limit h k m = omega arith

      near : (place start n limit : ℕ) → place ≡ start + n → place - start < limit → n < limit
      near place start n limit h k = omega arith

      long : is_tag y.scan ≡ true → nat_le limit (y.place - y.start) ≡ true → (more : List ℕ) → Next limit before (bytes ++ more) BadMarkup 0
      long a b more = too_long chars part more (ap (λ v. v ++ more) e) (goes_on before chars y.scan y.draft r)
          (λ v after h k. none_within before v chars [] after y.scan y.draft r (not_pending y.scan after (tag_not_pending y.scan a)) (sym k ∙ sym (append-nil (token_text v))) h)
          (here.tag (here.same a)) f (ap length (sym e) ∙ far y.place y.start (length bytes) limit l (leb-true _ _ b) (t (here.tag (here.same a)))) refl refl

      opened : (IsTagBegun chars → length bytes < limit) → IsTokenOpen limit y before bytes
      opened s = record { chars = chars; part = part; bytes_are = e; utf8_is = u; front = f; scan_is = r; position_is = p; place_is = l; limit_is = m; limited = i; short = s; settled = q }

      tag_here : IsTagBegun chars → is_tag y.scan ≡ true
      tag_here b = in_one (cases_Bool (in_tag y.scan)) where
        in_one : (in_tag y.scan ≡ true) ⊎ (in_tag y.scan ≡ false) → is_tag y.scan ≡ true
        in_one (inl h) = tag_scan y.scan h
        in_one (inr h) = absurd (here.no_tag h b)

      by : (a b : Bool) → is_tag y.scan ≡ a → nat_le limit (y.place - y.start) ≡ b → Advances limit y before bytes (if a && b then Refused BadMarkup else More)
      by true true a b = long a b
      by true false a b = opened (λ _. near y.place y.start (length bytes) limit l (leb-false _ _ b))
      by false b a _ = opened (λ k. absurd (both_ways _ a (tag_here k)))

-- a limit is not nothing
pub some_limit : {limit : ℕ} (z : Tokenizer) (before : List Token) (bytes : List ℕ) → IsTokenOpen limit z before bytes → 0 < limit
some_limit z before bytes o = omega (arith, o.limited.0)

-- the scans that wait for a byte take it
pending_step : (s : Scan) (byte : ℕ) → is_pending s ≡ true → IsAwaited s byte → step s byte ≡ Stuck → ⊥
pending_step AfterReturn byte h w e = not_stuck (sym (ap (step AfterReturn) w) ∙ e) where
  not_stuck : step AfterReturn 10 ≡ Stuck → ⊥
  not_stuck e = cc
pending_step Bracket byte h w e = not_stuck (sym (ap (step Bracket) w) ∙ e) where
  not_stuck : step Bracket 93 ≡ Stuck → ⊥
  not_stuck e = cc
pending_step Brackets byte h w e = not_stuck (sym (ap (step Brackets) w) ∙ e) where
  not_stuck : step Brackets 62 ≡ Stuck → ⊥
  not_stuck e = cc
pending_step _ byte h w e = both_ways false refl h

-- a tag that is begun with one more character was begun, or is not yet long
tag_or_short : (chars : List ℕ) (c : ℕ) → IsTagBegun (chars ++ c ∷ []) → IsTagBegun chars ⊎ (length chars ≤ 1)
tag_or_short [] c h = inr (omega arith)
tag_or_short (a ∷ []) c h = inr (omega arith)
tag_or_short (a ∷ b ∷ chars) c h = inl h

one_char : (chars : List ℕ) → length chars ≤ 1 → length (encode_utf8_all chars) ≤ 4
one_char [] h = omega arith
one_char (c ∷ []) h = omega (arith, length-append (encode_utf8 c) [], length-encode c, len_utf8_bounds c)
one_char (c ∷ d ∷ chars) h = absurd (omega arith)

part_short : (part : List ℕ) → IsFront part → length part ≤ 4
part_short part f = omega (arith, ap length f.spelled, length-append part f.rest, length-encode f.char, len_utf8_bounds f.char)

module _ {limit : ℕ} (z : Tokenizer) (before : List Token) (bytes : List ℕ) (byte : ℕ) (o : IsTokenOpen limit z before bytes) (w : IsAwaited z.scan byte) where
  here : Placed o.chars z.scan
  here = run_placed (position before) o.chars z.scan no_draft z.draft o.scan_is

  goes : TokenGoesOn before o.chars
  goes = goes_on before o.chars z.scan z.draft o.scan_is

  -- the bytes with one more
  more_bytes : (more : List ℕ) → (bytes ++ byte ∷ []) ++ more ≡ encode_utf8_all o.chars ++ (o.part ++ byte ∷ more)
  more_bytes more = append_assoc bytes (byte ∷ []) more ∙ (ap (λ v. v ++ byte ∷ more) o.bytes_are ∙ append_assoc (encode_utf8_all o.chars) o.part (byte ∷ more))

  -- a byte that is awaited is a whole character
  awaited : is_pending z.scan ≡ true → (o.part ≡ []) × ((byte ≡ 10) ⊎ ((byte ≡ 93) ⊎ (byte ≡ 62)))
  awaited h = (o.settled h, by z.scan h w) where
    by : (s : Scan) → is_pending s ≡ true → IsAwaited s byte → (byte ≡ 10) ⊎ ((byte ≡ 93) ⊎ (byte ≡ 62))
    by AfterReturn h w = inl w
    by Bracket h w = inr (inl w)
    by Brackets h w = inr (inr w)
    by _ h w = absurd (both_ways false refl h)

  -- so it is no bytes that begin none, and no front of another
  awaited_char : is_pending z.scan ≡ true → (o.part ++ byte ∷ [] ≡ encode_utf8 byte) × IsScalar byte
  awaited_char h = by (awaited h) where
    made : (k : ℕ) → byte ≡ k → k < 128 → IsScalar k → o.part ≡ [] → (o.part ++ byte ∷ [] ≡ encode_utf8 byte) × IsScalar byte
    made k e l s p = (ap (λ v. v ++ byte ∷ []) p ∙ sym (encode_ascii byte (subst (λ x. x < 128) (sym e) l)), subst IsScalar (sym e) s)

    by : (o.part ≡ []) × ((byte ≡ 10) ⊎ ((byte ≡ 93) ⊎ (byte ≡ 62))) → (o.part ++ byte ∷ [] ≡ encode_utf8 byte) × IsScalar byte
    by (p, inl e) = made 10 e (omega arith) refl p
    by (p, inr (inl e)) = made 93 e (omega arith) refl p
    by (p, inr (inr e)) = made 62 e (omega arith) refl p

  pending_or : {R : Type 0} → (is_pending z.scan ≡ true → R) → (is_pending z.scan ≡ false → R) → R
  pending_or {R = R} f g = by (cases_Bool (is_pending z.scan)) where
    by : (is_pending z.scan ≡ true) ⊎ (is_pending z.scan ≡ false) → R
    by (inl h) = f h
    by (inr h) = g h

  -- the bytes so far are within a tag's limit
  within : (shown : ℕ) → shown ≡ length o.part + 1 → IsTagBegun o.chars → length (encode_utf8_all o.chars) + shown ≤ limit
  within shown h t = count (length (encode_utf8_all o.chars)) (length o.part) (length bytes) limit shown h (ap length o.bytes_are ∙ length-append (encode_utf8_all o.chars) o.part) (o.short t) where
    count : (a b n limit shown : ℕ) → shown ≡ b + 1 → n ≡ a + b → n < limit → a + shown ≤ limit
    count a b n limit shown h k m = omega arith

  xml_next : (c : ℕ) (m : List ℕ) → list_all is_xml_char (o.chars ++ c ∷ m) ≡ true → is_xml_char c ≡ true
  xml_next c m x = last_xml o.chars m c (subst (λ v. list_all is_xml_char v ≡ true) (sym (append_assoc o.chars (c ∷ []) m)) x)

  -- a byte with which no character goes on
  no_utf8 : IsNoFront (o.part ++ byte ∷ []) → (more : List ℕ) → Next limit before ((bytes ++ byte ∷ []) ++ more) BadUtf8 0
  no_utf8 n more = halts o.chars (o.part ++ byte ∷ more) (length o.part + 1) (more_bytes more)
      (subst (NoToken before) (sym (more_bytes more)) (no_token before o.chars (o.part ++ byte ∷ more) z.scan z.draft o.scan_is
      (pending_or (λ h. absurd (n byte [] (awaited_char h).1 (sym (awaited_char h).0 ∙ sym (append-nil (o.part ++ byte ∷ []))))) (not_pending z.scan (o.part ++ byte ∷ more)))
      (λ c m after e g x. char_no_front o.part more after byte c o.front n (xml_scalar c (xml_next c m x)) (sym e))))
      goes (no_char o.part more byte refl o.front n refl refl) (within (length o.part + 1) refl) refl

  module _ (c : ℕ) (scalar : IsScalar c) (spelled : encode_utf8 c ≡ o.part ++ byte ∷ []) where
    tail_is : (more : List ℕ) → o.part ++ byte ∷ more ≡ encode_utf8 c ++ more
    tail_is more = sym (append_assoc o.part (byte ∷ []) more) ∙ ap (λ v. v ++ more) (sym spelled)

    shown_is : length (encode_utf8 c) ≡ length o.part + 1
    shown_is = ap length spelled ∙ length-append o.part (byte ∷ [])

    pending_char : is_pending z.scan ≡ true → c ≡ byte
    pending_char h = (encode_same c byte [] [] (ap (λ v. v ++ []) (spelled ∙ (awaited_char h).0))).0

    run_more : (t : Turn) → step z.scan c ≡ t → run (Begin (position before)) no_draft (o.chars ++ c ∷ []) ≡ turn_run (λ u. run u (note_character z.scan u c z.draft) []) z.draft [] t
    run_more t e = run_on (Begin (position before)) z.scan no_draft z.draft o.chars (c ∷ []) o.scan_is ∙ ap (turn_run (λ u. run u (note_character z.scan u c z.draft) []) z.draft []) e

    char_bytes : bytes ++ byte ∷ [] ≡ encode_utf8_all (o.chars ++ c ∷ [])
    char_bytes = ap (λ v. v ++ byte ∷ []) o.bytes_are ∙ (append_assoc (encode_utf8_all o.chars) o.part (byte ∷ []) ∙ (ap (λ v. encode_utf8_all o.chars ++ v) (sym spelled ∙ sym (append-nil (encode_utf8 c))) ∙ sym (encodes-append o.chars (c ∷ []))))

    -- a character with which no token goes on
    stuck_here : step z.scan c ≡ Stuck → (more : List ℕ) → Next limit before ((bytes ++ byte ∷ []) ++ more) (stuck_rule z.scan c) 0
    stuck_here e more = by (is_xml_char c) refl where
      settled : Settled z.scan (o.part ++ byte ∷ more)
      settled = pending_or (λ h. absurd (pending_step z.scan byte h w (ap (step z.scan) (sym (pending_char h)) ∙ e))) (not_pending z.scan (o.part ++ byte ∷ more))

      same : (x : ℕ) (after : List ℕ) → o.part ++ byte ∷ more ≡ encode_utf8 x ++ after → x ≡ c
      same x after k = (encode_same x c after more (sym k ∙ tail_is more)).0

      no_more_here : TokenGoesOn before (o.chars ++ c ∷ []) → ⊥
      no_more_here = no_more before (o.chars ++ c ∷ []) (run_more Stuck e)

      none : ((x : ℕ) (m after : List ℕ) → o.part ++ byte ∷ more ≡ encode_utf8 x ++ after → TokenGoesOn before (o.chars ++ x ∷ []) → list_all is_xml_char (o.chars ++ x ∷ m) ≡ true → ⊥) → NoToken before ((bytes ++ byte ∷ []) ++ more)
      none f = subst (NoToken before) (sym (more_bytes more)) (no_token before o.chars (o.part ++ byte ∷ more) z.scan z.draft o.scan_is settled f)

      by : (b : Bool) → is_xml_char c ≡ b → Next limit before ((bytes ++ byte ∷ []) ++ more) (if not b then BadChar else (if is_reference_open z.scan then BadReference else BadMarkup)) 0
      by false k = halts o.chars (o.part ++ byte ∷ more) (length (encode_utf8 c)) (more_bytes more)
          (none (λ x m after q g a. both_ways (is_xml_char c) k (subst (λ v. is_xml_char v ≡ true) (same x after q) (xml_next x m a))))
          goes (bad_char c more (tail_is more) scalar k refl refl) (within (length (encode_utf8 c)) shown_is) refl
      by true k = halts o.chars (o.part ++ byte ∷ more) (length (encode_utf8 c)) (more_bytes more)
          (none (λ x m after q g a. no_more_here (subst (λ v. TokenGoesOn before (o.chars ++ v ∷ [])) (same x after q) g)))
          goes (stuck c more (tail_is more) k no_more_here (ap (λ (b : Bool). if b then BadReference else BadMarkup) (sym here.reference)) refl) (within (length (encode_utf8 c)) shown_is) refl

    -- the token goes on
    goes_here : (s : Scan) → step z.scan c ≡ Goes s → Advances limit (with_scan (byte_counted z (Some [])) s (note_character z.scan s c z.draft)) before (bytes ++ byte ∷ []) (bound_outcome (with_scan (byte_counted z (Some [])) s (note_character z.scan s c z.draft)))
    goes_here s e = open_bounded (with_scan (byte_counted z (Some [])) s (note_character z.scan s c z.draft)) before (bytes ++ byte ∷ []) (o.chars ++ c ∷ []) [] (char_bytes ∙ sym (append-nil (encode_utf8_all (o.chars ++ c ∷ [])))) refl none_front (run_more (Goes s) e) o.position_is (place_more z.place z.start bytes byte o.place_is) (λ t. limited (tag_or_short o.chars c t)) (λ _. refl) o.limit_is o.limited where
      place_more : (p q : ℕ) (v : List ℕ) (x : ℕ) → p ≡ q + length v → p + 1 ≡ q + length (v ++ x ∷ [])
      place_more p q v x h = omega (arith, length-append v (x ∷ []))

      limited : IsTagBegun o.chars ⊎ (length o.chars ≤ 1) → length (bytes ++ byte ∷ []) ≤ limit
      limited (inl t) = count (length bytes) (o.short t) where
        count : (n : ℕ) → n < limit → length (bytes ++ byte ∷ []) ≤ limit
        count n h = omega (arith, length-append bytes (byte ∷ []), o.short t)
      limited (inr l) = omega (arith, length-append bytes (byte ∷ []), ap length o.bytes_are, length-append (encode_utf8_all o.chars) o.part, one_char o.chars l, part_short o.part o.front, o.limited.0)

    -- the token has ended
    whole_here : (e : Ended) → step z.scan c ≡ Whole e → EndsToken limit (token_ended (byte_counted z (Some [])) e).1 before (bytes ++ byte ∷ []) e z.draft
    whole_here e k = by (found before (o.chars ++ c ∷ []) e z.draft (run_more (Whole e) k)) where
      count : (n m limit : ℕ) → m ≡ n + 1 → n < limit → m ≤ limit
      count n m limit h l = omega arith

      by : ReadToken before (o.chars ++ c ∷ []) e z.draft → EndsToken limit (token_ended (byte_counted z (Some [])) e).1 before (bytes ++ byte ∷ []) e z.draft
      by r = record {
        token = r.token;
        is = r.is;
        bytes_are = ap encode_utf8_all r.text ∙ sym char_bytes;
        short = ended_short before r.token o.chars c (r.is []) r.text (λ t. count (length bytes) (length (token_bytes r.token)) limit (ap length (ap encode_utf8_all r.text ∙ sym char_bytes) ∙ length-append bytes (byte ∷ [])) (o.short t));
        ended_is = r.ended_is;
        draft_is = r.draft_is;
        next = record {
          chars = [];
          part = [];
          bytes_are = refl;
          utf8_is = refl;
          front = none_front;
          scan_is = ap (λ p. At (Begin p) no_draft) place_next;
          position_is = sym place_next;
          place_is = sym (add-zero _);
          limit_is = o.limit_is;
          limited = o.limited;
          short = λ t. absurd t;
          settled = λ _. refl;
        };
      } where
        place_next : position (r.token ∷ before) ≡ behind_token z.position e
        place_next = position_behind before r.token [] (r.is []) ∙ (ap (λ p. behind_token p (ended_of r.token)) (sym o.position_is) ∙ ap (behind_token z.position) r.ended_is)

    char_here : Advances limit (after_character (byte_counted z (Some [])) c).1 before (bytes ++ byte ∷ []) (after_character (byte_counted z (Some [])) c).0
    char_here = by (step z.scan c) refl where
      by : (t : Turn) → step z.scan c ≡ t → Advances limit (on_turn (byte_counted z (Some [])) c t).1 before (bytes ++ byte ∷ []) (on_turn (byte_counted z (Some [])) c t).0
      by (Goes s) e = goes_here s e
      by (Whole e) k = whole_here e k
      by Stuck e = stuck_here e

  -- a byte that does not end its character
  more_here : IsFront (o.part ++ byte ∷ []) → Advances limit (byte_counted z (Some (o.part ++ byte ∷ []))) before (bytes ++ byte ∷ []) (bound_outcome (byte_counted z (Some (o.part ++ byte ∷ []))))
  more_here f = open_bounded (byte_counted z (Some (o.part ++ byte ∷ []))) before (bytes ++ byte ∷ []) o.chars (o.part ++ byte ∷ [])
      (ap (λ v. v ++ byte ∷ []) o.bytes_are ∙ append_assoc (encode_utf8_all o.chars) o.part (byte ∷ [])) refl f o.scan_is o.position_is
      (place_more z.place z.start bytes byte o.place_is)
      (λ t. count (length bytes) (length (bytes ++ byte ∷ [])) limit (length-append bytes (byte ∷ [])) (o.short t))
      (λ h. absurd (whole_front h)) o.limit_is o.limited where
        place_more : (p q : ℕ) (v : List ℕ) (x : ℕ) → p ≡ q + length v → p + 1 ≡ q + length (v ++ x ∷ [])
        place_more p q v x h = omega (arith, length-append v (x ∷ []))

        count : (n m limit : ℕ) → m ≡ n + 1 → n < limit → m ≤ limit
        count n m limit h l = omega arith

        whole_front : is_pending z.scan ≡ true → ⊥
        whole_front h = no_whole (o.part ++ byte ∷ []) [] byte f ((awaited_char h).0 ∙ sym (append-nil (encode_utf8 byte)))

  utf8_here : (u : Utf8) (begun : Option (List ℕ)) → Steps (Some o.part) byte u begun → Advances limit (on_utf8 (byte_counted z begun) u).1 before (bytes ++ byte ∷ []) (on_utf8 (byte_counted z begun) u).0
  utf8_here MoreBytes begun s = subst (λ v. Advances limit (byte_counted z v) before (bytes ++ byte ∷ []) (bound_outcome (byte_counted z v))) (sym s.1) (more_here s.0)
  utf8_here Bad begun s = no_utf8 s.0
  utf8_here (Char c) begun s = subst (λ v. Advances limit (after_character (byte_counted z v) c).1 before (bytes ++ byte ∷ []) (after_character (byte_counted z v) c).0) (sym s.2) (char_here c s.0 s.1)

-- a byte gives the next token, or the next fault
pub advances_by : (old new : Tokenizer) (byte : ℕ) (progress : Outcome) → AdvancedBy old new byte progress → AdvancesBy old new byte progress
advances_by old new byte progress a limit before bytes o w =
    subst (λ p. Advances limit new before (bytes ++ byte ∷ []) p) (sym a.value)
    (subst (λ y. Advances limit y before (bytes ++ byte ∷ []) (on_utf8 (byte_counted old a.begun) a.utf8).0) (sym a.after)
    (utf8_here old before bytes byte o w a.utf8 a.begun (subst (λ u. Steps u byte a.utf8 a.begun) o.utf8_is a.steps)))

pub if_advanced : (r : Result Progress AllocError) (old new : Tokenizer) (byte : ℕ) → IfOk r (λ p. AdvancedBy old (outcome p new).1 byte (outcome p new).0) → IfOk r (λ p. AdvancesBy old (outcome p new).1 byte (outcome p new).0)
if_advanced (Ok p) old new byte h = advances_by old (outcome p new).1 byte (outcome p new).0 h
if_advanced (Err e) old new byte h = tt

-- a byte is counted
turned_place : (z : Tokenizer) (c : ℕ) (t : Turn) → (on_turn z c t).1.place ≡ z.place
turned_place z c (Goes s) = refl
turned_place z c (Whole e) = refl
turned_place z c Stuck = refl

utf8_place : (z : Tokenizer) (u : Utf8) → (on_utf8 z u).1.place ≡ z.place
utf8_place z MoreBytes = refl
utf8_place z Bad = refl
utf8_place z (Char c) = turned_place z c (step z.scan c)

pub advanced_place : (old new : Tokenizer) (byte : ℕ) (progress : Outcome) → AdvancedBy old new byte progress → new.place ≡ old.place + 1
advanced_place old new byte progress a = ap (λ (z : Tokenizer). z.place) a.after ∙ utf8_place (byte_counted old a.begun) a.utf8

outcome_place : (p : Progress) (z : Tokenizer) → (outcome p z).1.place ≡ z.place
outcome_place Continues z = refl
outcome_place (Ends e) z = refl
outcome_place (Refuses rule) z = refl

pub if_place : (r : Result Progress AllocError) (old new : Tokenizer) (byte : ℕ) → IfOk r (λ p. AdvancedBy old (outcome p new).1 byte (outcome p new).0) → IfOk r (λ _. new.place ≡ old.place + 1)
if_place (Ok p) old new byte h = sym (outcome_place p new) ∙ advanced_place old (outcome p new).1 byte (outcome p new).0 h
if_place (Err e) old new byte h = tt
