-- A run of characters by themselves is taken as each of them is.
use Rattle.std.proofs.Common.{◌≡◌, ℕ, zero, suc, Bool, true, false, cond, ◌==◌, ◌&&◌, ◌||◌, not, nat_le, ◌+◌, ◌<◌, ◌≤◌, inl, inr, List, [], ◌∷◌, ◌++◌, length, take, reverse, None, Some, if◌then◌else◌, refl, sym, ◌∙◌, ap, subst, append_assoc, append-nil, add-zero, length-append, arith}
use Rattle.std.specs.Char.{encode_utf8}
use Rattle.std.specs.Str.{encode_utf8_all}
use Rattle.std.specs.List.{AllByRecursion, list_all, prefix_len}
use Rattle.std.proofs.lemmas.Bool.{and_parts, and_from, both_ways, eqb-true}
use Rattle.std.proofs.lemmas.List.{length-take-le}
use Rattle.std.proofs.lemmas.Str.{encode_ascii}
use Rattle.std.proofs.lemmas.Bool.Decides.{nat_tests}
use Rattle.lexical_core.specs.Tree.{Char}
use Rattle.lexical_core.specs.declared.rule.Rule.TheVariants.{BadMarkup, TextOutside}
use Rattle.lexical_core.proofs.Tests.{suc_not_zero, same_number}
use Rattle.markup.specs.Chars.{is_space, is_xml_char}
use Rattle.markup.specs.Token.{Token, Mark, LineEnd, Lf, Character, token_bytes}
use Rattle.markup.specs.Marks.{begins_with, in_cdata, is_first, shows_no_closer, stands_in_cdata, stands_outside, stands}
use Rattle.markup.specs.Events.{Placed, items_of, open_tags}
use Rattle.markup.specs.Faults.{is_outside, is_bracket, behind_brackets, rule_of}
use Rattle.markup.specs.Literals.{is_literal, is_still_literal, literal_front, IsLiteral, IsRun, characters_from}
use Rattle.markup.specs.Scopes.{placed_at}
use Rattle.markup.specs.inner.ScanRuns.{run, position, placed_by}
use Rattle.markup.specs.inner.Drafts.{no_draft}
use Rattle.markup.specs.inner.Contexts.{IsContext, HasOpen, without_brackets}
use Rattle.markup.specs.inner.TokenRules.{one_more, brackets, is_cdata}
use Rattle.markup.specs.inner.Tokenizers.{is_between, is_ready}
use Rattle.markup.specs.Reading.{HasTakenUnder, HasToldUnder, IsInsideUnder}
use Rattle.markup.specs.inner.ReaderSteps.{IsReaderReady, bars_closer, passed_over}
use Rattle.markup.specs.declared.context.Context.{Context}
use Rattle.markup.specs.declared.reader.Reader.{Reader}
use Rattle.markup.specs.declared.scan.Scan.TheVariants.{Begin}
use Rattle.markup.specs.declared.tokenizer.Tokenizer.{Tokenizer}
use Rattle.markup.proofs.PlainLemmas.{no_chars, at_same}
use Rattle.markup.proofs.ReaderLemmas.{told_so_far, starts}
use Rattle.markup.proofs.TokenRuleLemmas.{in_cdata-open}
use Rattle.markup.proofs.WholeTokens.{IsNext, takes_next}

-- a literal byte is one behind another too
pub literal_still : (c : ℕ) → is_literal c ≡ true → is_still_literal c ≡ true
literal_still c h = grind (arith, nat_tests)

literal_no_closer : (c : ℕ) → is_literal c ≡ true → (c == 62) ≡ false
literal_no_closer c h = grind (arith, nat_tests)

-- ---- a character as a token

pub plain_not : (c : ℕ) → is_still_literal c ≡ true → (is_xml_char c ≡ true) × ((c == 13) ≡ false) × ((c == 60) ≡ false) × ((c == 38) ≡ false) × ((c == 93) ≡ false)
unfolding is_xml_char
plain_not c h = (grind (arith, nat_tests), grind (arith, nat_tests), grind (arith, nat_tests), grind (arith, nat_tests), grind (arith, nat_tests))

wide_not : (c : ℕ) → nat_le 128 c ≡ true → ((c == 13) ≡ false) × ((c == 60) ≡ false) × ((c == 38) ≡ false) × ((c == 93) ≡ false)
wide_not c h = (grind (arith, nat_tests), grind (arith, nat_tests), grind (arith, nat_tests), grind (arith, nat_tests))

literal_facts : (c : ℕ) → IsLiteral c → (is_xml_char c ≡ true) × ((c == 13) ≡ false) × ((c == 60) ≡ false) × ((c == 38) ≡ false) × ((c == 93) ≡ false)
literal_facts c (inl h) = plain_not c h
literal_facts c (inr h) = let w = wide_not c h.0 in (h.1, w.0, w.1, w.2, w.3)

cdata_test : (a l r b s : Bool) → a ≡ true → l ≡ false → r ≡ false → b ≡ false → (a && not l && not r && (not b || s)) ≡ true
cdata_test a l r b s e f g h = cc

text_test : (a l r m n o p : Bool) → a ≡ true → l ≡ false → r ≡ false → m ≡ false → n ≡ false → o ≡ false → ((a && not l && not r && not m && not n) && not (o && p)) ≡ true
text_test a l r m n o p e f g h i j = cc

pub some_before : (before : List Token) → is_outside before ≡ false → (length before == 0) ≡ false
some_before [] h = h
some_before (t ∷ before) h = suc_not_zero (length before)

-- how many literal `]` stand last tells whether two do
two_brackets : (before : List Token) → (brackets before == 2) ≡ behind_brackets before
two_brackets [] = refl
two_brackets (t ∷ []) = by (is_bracket t) where
  by : (b : Bool) → ((if b then 1 else 0) == 2) ≡ false
  by true = refl
  by false = refl
two_brackets (t ∷ u ∷ before) = by (is_bracket t) (is_bracket u) (brackets before == 0) where
  by : (a b e : Bool) → ((if a then one_more (if b then (if e then 1 else 2) else 0) else 0) == 2) ≡ (a && b)
  by true true true = refl
  by true true false = refl
  by true false e = refl
  by false b e = refl

-- a `>` ends no `]]>` in a CDATA section or behind other characters
all_of : (a x y : Bool) → (x && y) ≡ false → (a && x && y) ≡ false
all_of true true y h = h
all_of true false y h = refl
all_of false x y h = refl

pub no_closer_there : (c : ℕ) (x y : Bool) → (c == 62) ≡ false → (c == 62 && x && y) ≡ false
no_closer_there c x y e = ap (λ (b : Bool). b && x && y) e

module _ (before : List Token) (inside : is_outside before ≡ false) (c : ℕ) (l : IsLiteral c) (free : (c == 62 && not (in_cdata before) && behind_brackets before) ≡ false) where
  character_stands : (c == 10) ≡ false → (after : List ℕ) → stands before (Character c) after ≡ true
  character_stands n after = by (in_cdata before) where
    f : (is_xml_char c ≡ true) × ((c == 13) ≡ false) × ((c == 60) ≡ false) × ((c == 38) ≡ false) × ((c == 93) ≡ false)
    f = literal_facts c l

    by : (b : Bool) → (if b then stands_in_cdata (Character c) after else stands_outside (Character c) after && not (length before == 0 && c == 0xFEFF)) ≡ true
    by true = cdata_test (is_xml_char c) (c == 10) (c == 13) (c == 93) (shows_no_closer after) f.0 n f.1 f.4
    by false = text_test (is_xml_char c) (c == 10) (c == 13) (c == 60) (c == 38) (length before == 0) (c == 0xFEFF) f.0 n f.1 f.2 f.3 (some_before before inside)

  character_clean : rule_of before (Character c) ≡ None
  character_clean =
      ap (λ (b : Bool). if b then Some BadMarkup else (if is_space c then None else (if is_outside before then Some TextOutside else None))) free
      ∙ (ap (λ (b : Bool). if is_space c then None else (if b then Some TextOutside else None)) inside
      ∙ by (is_space c)) where
        by : (b : Bool) → (if b then None else (if false then Some TextOutside else None)) ≡ None
        by true = refl
        by false = refl

  pub character_next : {limit : ℕ} → (c == 10) ≡ false → IsNext limit before (Character c)
  character_next n = record { is = character_stands n; short = refl; clean = character_clean; stays = λ p. refl }

line_stands : (before : List Token) (after : List ℕ) → stands before (LineEnd Lf) after ≡ true
line_stands before after = by (in_cdata before) where
  by : (b : Bool) → (if b then stands_in_cdata (LineEnd Lf) after else stands_outside (LineEnd Lf) after) ≡ true
  by true = refl
  by false = refl

pub line_next : {limit : ℕ} (before : List Token) → IsNext limit before (LineEnd Lf)
line_next before = record { is = line_stands before; short = refl; clean = refl; stays = λ p. refl }

pub character_context : (before : List Token) (k : Context) (c : ℕ) → (c == 93) ≡ false → IsContext k before → IsContext (without_brackets k) (Character c ∷ before)
character_context before k c n i = record { scope = i.scope; root = i.root; brackets_are = sym (ap (λ (b : Bool). if b then one_more (brackets before) else 0) n) }

pub line_context : (before : List Token) (k : Context) → IsContext k before → IsContext (without_brackets k) (LineEnd Lf ∷ before)
line_context before k i = record { scope = i.scope; root = i.root; brackets_are = refl }

-- ---- a reader behind them

abbrev pub at_place : Tokenizer → ℕ → Tokenizer
at_place z p = record { alloc = z.alloc; limit = z.limit; utf8 = z.utf8; position = z.position; scan = z.scan; draft = z.draft; start = p; place = p }

-- the reader at a place between tokens, behind so many literal `]`
abbrev at : Reader → ℕ → ℕ → Reader
at r p b = record {
  tokenizer = at_place r.tokenizer p;
  context = record { scope = r.context.scope; has_root = r.context.has_root; brackets = b };
  failed = r.failed;
}

-- the count of literal `]` behind these characters
abbrev after : ℕ → List ℕ → ℕ
after b [] = b
after b (c ∷ cs) = 0

-- the first of them is no `>` that ends a `]]>`
abbrev FirstFree : Bool → ℕ → List ℕ → Type 0
FirstFree cdata b [] = Unit {0}
FirstFree cdata b (c ∷ cs) = (c == 62 && not cdata && b == 2) ≡ false

free_behind : (cdata : Bool) (cs : List ℕ) → FirstFree cdata 0 cs
free_behind cdata [] = tt
free_behind cdata (c ∷ cs) = by (c == 62) (not cdata) where
  by : (x y : Bool) → (x && y && false) ≡ false
  by true true = refl
  by true false = refl
  by false y = refl

after_none : (cs : List ℕ) → after 0 cs ≡ 0
after_none [] = refl
after_none (c ∷ cs) = refl

module _ {limit : ℕ} (r : Reader) (between : is_between r.tokenizer.scan ≡ true) (within : HasOpen r.context) where
  module _ (p b c : ℕ) (bytes : List ℕ) (told : List Placed) (l : IsLiteral c) (free : (c == 62 && not (is_cdata r.tokenizer.position) && b == 2) ≡ false) (h : HasTakenUnder limit (at r p b) bytes told) where
    abbrev before : List Token
    before = reverse h.0

    inside : is_outside before ≡ false
    inside = within (open_tags before) h.1.context.scope

    free_here : (c == 62 && not (in_cdata before) && behind_brackets before) ≡ false
    free_here = ap (λ (x : Bool). c == 62 && not x && behind_brackets before) (in_cdata-open (at_place r.tokenizer p) before h.1.reads.bytes h.1.reads.opens)
        ∙ (ap (λ (x : Bool). c == 62 && not (is_cdata r.tokenizer.position) && x) (sym (two_brackets before) ∙ ap (λ (n : ℕ). n == 2) (sym h.1.context.brackets_are)) ∙ free)

    -- the token of the character
    behind_token : (t : Token) → IsNext limit before t → token_bytes t ≡ encode_utf8 c → items_of before t ≡ Char c ∷ [] → IsContext (without_brackets (at r p b).context) (t ∷ before)
        → HasTakenUnder limit (at r (p + length (encode_utf8 c)) 0) (bytes ++ encode_utf8 c) (told ++ record { place = p; item = Char c } ∷ [])
    behind_token t next e i k =
        subst (λ q. HasTakenUnder limit (at r (p + length (encode_utf8 c)) 0) (bytes ++ encode_utf8 c) (told ++ record { place = q; item = Char c } ∷ [])) (sym h.1.place)
        (subst (λ v. HasTakenUnder limit (at r (p + length (encode_utf8 c)) 0) (bytes ++ encode_utf8 c) (told ++ placed_at (length bytes) v)) i
        (subst (λ v. HasTakenUnder limit (at r (p + length (encode_utf8 c)) 0) (bytes ++ v) (told ++ placed_at (length bytes) (items_of before t))) e
        (takes_next (at r p b) bytes told h between (same_number p) t (length (encode_utf8 c)) (without_brackets (at r p b).context) next (ap length (sym e)) k)))

    step_literal : HasTakenUnder limit (at r (p + length (encode_utf8 c)) 0) (bytes ++ encode_utf8 c) (told ++ record { place = p; item = Char c } ∷ [])
    step_literal = by (c == 10) refl where
      by : (n : Bool) → (c == 10) ≡ n → HasTakenUnder limit (at r (p + length (encode_utf8 c)) 0) (bytes ++ encode_utf8 c) (told ++ record { place = p; item = Char c } ∷ [])
      by true e = behind_token (LineEnd Lf) (line_next before) (append-nil (encode_utf8 10) ∙ ap encode_utf8 (sym (eqb-true c 10 e))) (ap (λ x. Char x ∷ []) (sym (eqb-true c 10 e))) (line_context before (at r p b).context h.1.context)
      by false e = behind_token (Character c) (character_next before inside c l free_here e) (append-nil (encode_utf8 c)) refl (character_context before (at r p b).context c (literal_facts c l).4 h.1.context)

  steps_all : (cs : List ℕ) (p b : ℕ) (bytes : List ℕ) (told : List Placed) → AllByRecursion IsLiteral cs → FirstFree (is_cdata r.tokenizer.position) b cs → HasTakenUnder limit (at r p b) bytes told → HasTakenUnder limit (at r (p + length (encode_utf8_all cs)) (after b cs)) (bytes ++ encode_utf8_all cs) (told ++ characters_from p cs)
  steps_all [] p b bytes told l f h =
      subst (λ q. HasTakenUnder limit (at r q b) (bytes ++ []) (told ++ [])) (sym (add-zero p))
      (subst (λ v. HasTakenUnder limit (at r p b) v (told ++ [])) (sym (append-nil bytes))
      (subst (λ v. HasTakenUnder limit (at r p b) bytes v) (sym (append-nil told)) h))
  steps_all (c ∷ cs) p b bytes told l f h =
      let d : Placed = record { place = p; item = Char c } in
      let n : ℕ = p + length (encode_utf8 c) in
      let m : List ℕ = encode_utf8_all cs in
      let k : HasTakenUnder limit (at r (n + length m) (after 0 cs)) ((bytes ++ encode_utf8 c) ++ m) ((told ++ d ∷ []) ++ characters_from n cs) = steps_all cs n 0 (bytes ++ encode_utf8 c) (told ++ d ∷ []) l.1 (free_behind (is_cdata r.tokenizer.position) cs) (step_literal p b c bytes told l.0 f h) in
      subst (λ q. HasTakenUnder limit (at r q 0) (bytes ++ encode_utf8_all (c ∷ cs)) (told ++ d ∷ characters_from n cs)) (count p (encode_utf8 c) m)
      (subst (λ v. HasTakenUnder limit (at r (n + length m) v) (bytes ++ encode_utf8_all (c ∷ cs)) (told ++ d ∷ characters_from n cs)) (after_none cs)
      (subst (λ v. HasTakenUnder limit (at r (n + length m) (after 0 cs)) v (told ++ d ∷ characters_from n cs)) (append_assoc bytes (encode_utf8 c) m)
      (subst (λ v. HasTakenUnder limit (at r (n + length m) (after 0 cs)) ((bytes ++ encode_utf8 c) ++ m) v) (append_assoc told (d ∷ []) (characters_from n cs)) k))) where
        count : (p : ℕ) (xs ys : List ℕ) → p + length xs + length ys ≡ p + length (xs ++ ys)
        count p xs ys = omega (arith, length-append xs ys)

after_some : (b : ℕ) (cs : List ℕ) → 0 < length (encode_utf8_all cs) → after b cs ≡ 0
after_some b [] h = absurd (omega arith)
after_some b (c ∷ cs) h = refl

-- what the bytes begin with tells it
first_free : (cdata : Bool) (b : ℕ) (xs cs : List ℕ) (n : ℕ) → take n xs ≡ encode_utf8_all cs → (begins_with 62 xs && not cdata && b == 2) ≡ false → FirstFree cdata b cs
first_free cdata b xs [] n e f = tt
first_free cdata b xs (c ∷ cs) n e f = by (c == 62) refl where
  front_is : (n : ℕ) (xs ys : List ℕ) → take n xs ≡ 62 ∷ ys → begins_with 62 xs ≡ true
  front_is zero xs ys h = absurd (omega (arith, ap length h))
  front_is (suc n) [] ys h = absurd (omega (arith, ap length h))
  front_is (suc n) (x ∷ xs) ys h = ap (begins_with 62) h

  by : (t : Bool) → (c == 62) ≡ t → (c == 62 && not cdata && b == 2) ≡ false
  by true k =
      let spelled : encode_utf8 c ≡ 62 ∷ [] = ap encode_utf8 (eqb-true c 62 k) ∙ encode_ascii 62 (omega arith) in
      let begins : begins_with 62 xs ≡ true = front_is n xs (encode_utf8_all cs) (e ∙ ap (λ v. v ++ encode_utf8_all cs) spelled) in
      ap (λ (t : Bool). t && not cdata && b == 2) (k ∙ sym begins) ∙ f
  by false k = no_closer_there c (not cdata) (b == 2) k

-- a run of them is taken
pub passes : {limit : ℕ} (r : Reader) (xs bytes : List ℕ) (told : List Placed) (n m : ℕ) → n ≤ length xs → (run : IsRun (take n xs) m) → AllByRecursion IsLiteral run.characters → IsReaderReady r → bars_closer r xs ≡ false → 0 < n → HasTakenUnder limit r bytes told → HasToldUnder limit (passed_over r n) (bytes ++ take n xs) (told ++ characters_from (length bytes) run.characters)
passes {limit} r xs bytes told n m w run free i f s h =
    let z = r.tokenizer in
    let k = r.context in
    let cs = run.characters in
    let a = and_parts (is_between z.scan) (z.place == z.start) i.ready in
    let b : HasTakenUnder limit (at r z.place k.brackets) bytes told =
    subst (λ v. HasTakenUnder limit (record { tokenizer = record { alloc = z.alloc; limit = z.limit; utf8 = z.utf8; position = z.position; scan = z.scan; draft = z.draft; start = v; place = z.place }; context = k; failed = r.failed }) bytes told) (sym (eqb-true z.place z.start a.1)) h in
    let t : HasTakenUnder limit (at r (z.place + length (encode_utf8_all cs)) (after k.brackets cs)) (bytes ++ encode_utf8_all cs) (told ++ characters_from z.place cs) = steps_all r a.0 i.inside cs z.place k.brackets bytes told free (first_free (is_cdata z.position) k.brackets xs cs n run.bytes_are f) b in
    let l : length (encode_utf8_all cs) ≡ n = ap length (sym run.bytes_are) ∙ length-take-le n xs w in
    told_so_far (passed_over r n) (bytes ++ take n xs) (told ++ characters_from (length bytes) cs)
    (subst (λ v. HasTakenUnder limit (passed_over r n) (bytes ++ v) (told ++ characters_from (length bytes) cs)) (sym run.bytes_are)
    (subst (λ v. HasTakenUnder limit (passed_over r n) (bytes ++ encode_utf8_all cs) (told ++ characters_from v cs)) h.1.place
    (subst (λ v. HasTakenUnder limit (at r (z.place + v) 0) (bytes ++ encode_utf8_all cs) (told ++ characters_from z.place cs)) l
    (subst (λ v. HasTakenUnder limit (at r (z.place + length (encode_utf8_all cs)) v) (bytes ++ encode_utf8_all cs) (told ++ characters_from z.place cs)) (after_some k.brackets cs (subst (λ v. 0 < v) (sym l) s)) t))))

-- ---- what bars a `>`

space_not : (x : ℕ) → is_space x ≡ true → (x == 62) ≡ false
unfolding is_space
space_not x h = grind (arith, nat_tests)

-- white space is none
pub blank_bars : (r : Reader) (xs : List ℕ) (n : ℕ) → 0 < n → list_all is_space (take n xs) ≡ true → bars_closer r xs ≡ false
blank_bars r xs n s b = ap (λ (t : Bool). t && not (is_cdata r.tokenizer.position) && r.context.brackets == 2) (begins xs n s b) where
  begins : (xs : List ℕ) (n : ℕ) → 0 < n → list_all is_space (take n xs) ≡ true → begins_with 62 xs ≡ false
  begins [] n s b = refl
  begins (x ∷ xs) zero s b = absurd (omega (arith, s))
  begins (x ∷ xs) (suc n) s b = space_not x (and_parts (is_space x) (list_all is_space (take n xs)) b).0

-- nor is what begins with a literal byte
pub literal_bars : (r : Reader) (xs : List ℕ) (n : ℕ) → (bars_closer r xs ≡ false → prefix_len is_still_literal xs ≤ n) → literal_front xs ≤ n
literal_bars r [] n h = omega arith
literal_bars r (x ∷ xs) n h = by (is_literal x) refl where
  by : (t : Bool) → is_literal x ≡ t → (if t then 1 + prefix_len is_still_literal xs else 0) ≤ n
  by true e = subst (λ (t : Bool). cond t (1 + prefix_len is_still_literal xs) 0 ≤ n) (literal_still x e) (h (no_closer_there x (not (is_cdata r.tokenizer.position)) (r.context.brackets == 2) (literal_no_closer x e)))
  by false e = omega arith

pub literal_within : (xs : List ℕ) (n : ℕ) → prefix_len is_still_literal xs ≤ n → literal_front xs ≤ n
literal_within [] n h = omega arith
literal_within (x ∷ xs) n h = by (is_literal x) refl where
  by : (t : Bool) → is_literal x ≡ t → (if t then 1 + prefix_len is_still_literal xs else 0) ≤ n
  by true e = subst (λ (t : Bool). cond t (1 + prefix_len is_still_literal xs) 0 ≤ n) (literal_still x e) h
  by false e = omega arith

-- nor any in a CDATA section or without two `]` before it
pub unbarred : {limit : ℕ} (r : Reader) (bytes piece : List ℕ) (told : List Placed) (inside : IsInsideUnder limit r bytes told) → (not (in_cdata (reverse inside.0)) && behind_brackets (reverse inside.0)) ≡ false → bars_closer r piece ≡ false
unbarred r bytes piece told inside h =
    let k = inside.1 in
    let before : List Token = reverse inside.0 in
    let cdata : in_cdata before ≡ is_cdata r.tokenizer.position = in_cdata-open r.tokenizer before k.reads.bytes k.reads.opens in
    let two : behind_brackets before ≡ (r.context.brackets == 2) = sym (two_brackets before) ∙ ap (λ (n : ℕ). n == 2) (sym k.context.brackets_are) in
    all_of (begins_with 62 piece) (not (is_cdata r.tokenizer.position)) (r.context.brackets == 2) (ap (λ (x : Bool). not x && (r.context.brackets == 2)) (sym cdata) ∙ (ap (λ (x : Bool). not (in_cdata before) && x) (sym two) ∙ h))

-- no character is told
no_characters : (cs : List ℕ) → [] ≡ encode_utf8_all cs → cs ≡ []
no_characters cs h = (no_chars cs [] (ap length (append-nil (encode_utf8_all cs) ∙ sym h))).0

pub passes_none : {limit : ℕ} (r : Reader) (xs bytes : List ℕ) (told : List Placed) (n m : ℕ) → n ≤ 0 → (run : IsRun (take n xs) m) → HasTakenUnder limit r bytes told → HasToldUnder limit r (bytes ++ take n xs) (told ++ characters_from (length bytes) run.characters)
passes_none {limit} r xs bytes told zero m w run h =
    subst (λ v. HasToldUnder limit r (bytes ++ []) (told ++ characters_from (length bytes) v)) (sym (no_characters run.characters run.bytes_are))
    (subst (λ v. HasToldUnder limit r v (told ++ [])) (sym (append-nil bytes))
    (subst (λ v. HasToldUnder limit r bytes v) (sym (append-nil told)) (told_so_far r bytes told h)))
passes_none r xs bytes told (suc n) m w run h = absurd (omega arith)

-- behind whole tokens, where an element is open, a token begins that may be such a character
pub first_is_outside : (before : List Token) → is_first before ≡ true → is_outside before ≡ true
first_is_outside [] h = refl
first_is_outside (Mark ∷ []) h = refl
first_is_outside (t ∷ before) h = first_two t before h where
  first_two : (t : Token) (before : List Token) → is_first (t ∷ before) ≡ true → is_outside (t ∷ before) ≡ true
  first_two Mark [] h = refl
  first_two _ _ h = absurd (both_ways false refl h)

inside_between : (before : List Token) → is_outside before ≡ false → is_between (Begin (position before)) ≡ true
inside_between [] h = absurd (both_ways true h refl)
inside_between (t ∷ before) h = by (is_first (t ∷ before)) (in_cdata (t ∷ before)) (λ f. both_ways (is_outside (t ∷ before)) h (first_is_outside (t ∷ before) f)) where
  by : (f g : Bool) → (f ≡ true → ⊥) → is_between (Begin (placed_by f g)) ≡ true
  by true g n = absurd (n refl)
  by false true n = refl
  by false false n = refl

pub inside_ready : {limit : ℕ} (r : Reader) (bytes : List ℕ) (told : List Placed) → IsInsideUnder limit r bytes told → is_ready r.tokenizer ≡ true
inside_ready r bytes told h =
    let ts = h.0 in
    let k = h.1 in
    let o = k.reads.opens in
    let begun : r.tokenizer.place ≡ r.tokenizer.start = k.place ∙ (ap length (sym h.2) ∙ sym (starts r bytes ts told k)) in
    let none = no_chars o.chars o.part (ap length (sym o.bytes_are) ∙ count r.tokenizer.place r.tokenizer.start (length k.reads.bytes) o.place_is begun) in
    let scan_is : (Begin (position (reverse ts)) ≡ r.tokenizer.scan) × (no_draft ≡ r.tokenizer.draft) = at_same (Begin (position (reverse ts))) r.tokenizer.scan no_draft r.tokenizer.draft (ap (run (Begin (position (reverse ts))) no_draft) (sym none.0) ∙ o.scan_is) in
    and_from (is_between r.tokenizer.scan) (r.tokenizer.place == r.tokenizer.start) (ap is_between (sym scan_is.0) ∙ inside_between (reverse ts) h.3) (subst (λ v. (r.tokenizer.place == v) ≡ true) begun (same_number r.tokenizer.place)) where
      count : (p s n : ℕ) → p ≡ s + n → p ≡ s → n ≡ 0
      count p s n h k = omega arith
