-- A run of `]` with a character behind it is taken as each of them is, in a CDATA section too.
use Rattle.std.proofs.Common.{◌≡◌, ℕ, Bool, true, false, ◌==◌, ◌&&◌, not, ◌+◌, ◌<◌, ◌≤◌, inl, inr, List, [], ◌∷◌, ◌++◌, length, take, drop, reverse, None, Some, refl, sym, ◌∙◌, ap, subst, append_assoc, append-nil, length-append, arith}
use Rattle.std.specs.Bool.{if◌then◌else◌}
use Rattle.std.specs.Char.{encode_utf8}
use Rattle.std.specs.Str.{encode_utf8_all}
use Rattle.std.specs.List.{AllByRecursion, list_all}
use Rattle.std.proofs.lemmas.Bool.{and_parts, eqb-true}
use Rattle.std.proofs.lemmas.Bool.Decides.{nat_tests}
use Rattle.std.proofs.lemmas.List.{length-take-le, take-append-drop}
use Rattle.std.proofs.lemmas.Str.{encode_ascii}
use Rattle.std.proofs.Math.Seq.{take-append_seam}
use Rattle.lexical_core.specs.Characters.{IsXmlChar}
use Rattle.lexical_core.specs.Tree.{Char}
use Rattle.lexical_core.specs.declared.rule.Rule.TheVariants.{TextOutside}
use Rattle.lexical_core.proofs.Tests.{same_number}
use Rattle.markup.specs.Chars.{is_space, is_xml_char}
use Rattle.markup.specs.Token.{Token, LineEnd, Lf, Character, token_bytes}
use Rattle.markup.specs.Marks.{in_cdata, shows_no_closer, stands_in_cdata, stands_outside}
use Rattle.markup.specs.Events.{Placed, items_of, open_tags}
use Rattle.markup.specs.Faults.{is_outside, behind_brackets}
use Rattle.markup.specs.Literals.{is_literal, IsOfText, IsBracketRun, characters_from}
use Rattle.markup.specs.Scopes.{placed_at}
use Rattle.markup.specs.inner.Contexts.{IsContext, HasOpen}
use Rattle.markup.specs.inner.TokenRules.{one_more}
use Rattle.markup.specs.inner.Tokenizers.{is_between}
use Rattle.markup.specs.inner.Inputs.{Any}
use Rattle.markup.specs.Reading.{Keeps, HasTakenUnder, HasToldUnder}
use Rattle.markup.specs.inner.ClosedBrackets.{IsClosedRun}
use Rattle.markup.specs.inner.ReaderSteps.{IsReaderReady, passed_over}
use Rattle.markup.specs.declared.reader.Reader.{Reader}
use Rattle.markup.proofs.BracketRuns.{IsBracket, AreBrackets, at, behind, bracket_no_space, text_test, encoded_all, are_xml}
use Rattle.markup.proofs.CharLemmas.{classes}
use Rattle.markup.proofs.CharacterRuns.{literal_still, no_closer_there, character_next, line_next, character_context, line_context, plain_not}
use Rattle.markup.proofs.FollowedTokens.{IsNextBefore, keeps_next}
use Rattle.markup.proofs.ReaderLemmas.{told_so_far}
use Rattle.markup.proofs.WholeTokens.{IsNext}

-- ---- what shows that a `]` begins no `]]>`

-- what follows begins so
abbrev pub StartsWith : List ℕ → List ℕ → Type 0
StartsWith xs more = (w : List ℕ) × (more ≡ xs ++ w)

starts_so : (xs : List ℕ) → StartsWith xs xs
starts_so xs = ([], sym (append-nil xs))

not_both : (x y : Bool) → x ≡ false → not (x && y) ≡ true
not_both x y e = cc

not_second : (x y : Bool) → y ≡ false → not (x && y) ≡ true
not_second true y e = ap not e
not_second false y e = refl

literal_not : (x : ℕ) → is_literal x ≡ true → ((x == 62) ≡ false) × ((x == 93) ≡ false)
literal_not x h = (grind (arith, nat_tests), grind (arith, nat_tests))

bracket_not : (x : ℕ) → IsBracket x → (x == 62) ≡ false
bracket_not x e = grind (arith, nat_tests, e)

no_closer : (cs : List ℕ) (x : ℕ) (w : List ℕ) → AllByRecursion IsBracket cs → is_literal x ≡ true → shows_no_closer ((cs ++ x ∷ []) ++ w) ≡ true
no_closer [] x [] a l = ap not (literal_not x l).1
no_closer [] x (y ∷ w) a l = not_both (x == 93) (y == 62) (literal_not x l).1
no_closer (c ∷ []) x w a l = not_second (c == 93) (x == 62) (literal_not x l).0
no_closer (c ∷ d ∷ cs) x w a l = not_second (c == 93) (d == 62) (bracket_not d a.1.0)

-- ---- a `]` as a token

module _ (before : List Token) where
  stands_here : (b : Bool) (after : List ℕ) → shows_no_closer after ≡ true → (if b then stands_in_cdata (Character 93) after else stands_outside (Character 93) after && not (length before == 0 && (93 == 0xFEFF))) ≡ true
  unfolding is_xml_char
  stands_here true after h = h
  stands_here false after h = text_test (length before == 0)

module _ {limit : ℕ} (before : List Token) (Then : List ℕ → Type 0) (shows : (after : List ℕ) → Then after → shows_no_closer after ≡ true) (inside : is_outside before ≡ false) where
  pub bracket_before : IsNextBefore limit Then before (Character 93)
  bracket_before = record {
    is = λ after f. stands_here before (in_cdata before) after (shows after f);
    short = refl;
    clean = ap (λ (b : Bool). if b then None else (if is_outside before then Some TextOutside else None)) bracket_no_space ∙ ap (λ (b : Bool). if b then Some TextOutside else None) inside;
    stays = λ p. refl;
  }

-- ---- a reader behind them

-- the count of literal `]` behind these
abbrev count_behind : ℕ → List ℕ → ℕ
count_behind b [] = b
count_behind b (c ∷ cs) = count_behind (one_more b) cs

module _ {limit : ℕ} (r : Reader) (between : is_between r.tokenizer.scan ≡ true) (within : HasOpen r.context) where
  module _ (p b : ℕ) (bytes : List ℕ) (ts : List Token) (told : List Placed) where
    inside : (Follows : List ℕ → Type 0) → Keeps limit Follows (at r p b) bytes ts told → is_outside (reverse ts) ≡ false
    inside Follows h = within (open_tags (reverse ts)) h.context.scope

    -- one token, which is this character
    one_token : (xs : List ℕ) (Then : List ℕ → Type 0) (some : List ℕ) → Then some → (c count : ℕ) (t : Token) → token_bytes t ≡ encode_utf8 c → items_of (reverse ts) t ≡ Char c ∷ [] → ((more : List ℕ) → Then more → StartsWith xs more) → IsNextBefore limit Then (reverse ts) t → IsContext (behind r.context count) (t ∷ reverse ts)
        → Keeps limit (StartsWith (encode_utf8 c ++ xs)) (at r p b) bytes ts told → Keeps limit Then (at r (p + length (encode_utf8 c)) count) (bytes ++ encode_utf8 c) (ts ++ t ∷ []) (told ++ record { place = p; item = Char c } ∷ [])
    one_token xs Then some may c count t e i leads next k h =
        subst (λ q. Keeps limit Then (at r (p + length (encode_utf8 c)) count) (bytes ++ encode_utf8 c) (ts ++ t ∷ []) (told ++ record { place = q; item = Char c } ∷ [])) (sym h.place)
        (subst (λ v. Keeps limit Then (at r (p + length (encode_utf8 c)) count) (bytes ++ encode_utf8 c) (ts ++ t ∷ []) (told ++ placed_at (length bytes) v)) i
        (subst (λ v. Keeps limit Then (at r (p + length (encode_utf8 c)) count) (bytes ++ v) (ts ++ t ∷ []) (told ++ placed_at (length bytes) (items_of (reverse ts) t))) e
        (keeps_next (StartsWith (encode_utf8 c ++ xs)) (encode_utf8 c ++ xs) (starts_so (encode_utf8 c ++ xs)) (at r p b) bytes ts told h between (same_number p) Then some may t
        (λ more f. let (w, g) = leads more f in (w, ap (λ v. v ++ more) e ∙ (ap (λ v. encode_utf8 c ++ v) g ∙ sym (append_assoc (encode_utf8 c) xs w))))
        (length (encode_utf8 c)) (behind r.context count) next (ap length (sym e)) k)))

    step_bracket : (c : ℕ) (xs : List ℕ) → IsBracket c → ((w : List ℕ) → shows_no_closer (xs ++ w) ≡ true) → Keeps limit (StartsWith (encode_utf8 c ++ xs)) (at r p b) bytes ts told → Keeps limit (StartsWith xs) (at r (p + length (encode_utf8 c)) (one_more b)) (bytes ++ encode_utf8 c) (ts ++ Character c ∷ []) (told ++ record { place = p; item = Char c } ∷ [])
    step_bracket c xs e s h = one_token xs (StartsWith xs) xs (starts_so xs) c (one_more b) (Character c) (append-nil (encode_utf8 c)) refl (λ more f. f) next context h where
      next : IsNextBefore limit (StartsWith xs) (reverse ts) (Character c)
      next = subst (λ (x : ℕ). IsNextBefore limit (StartsWith xs) (reverse ts) (Character x)) (sym e) (bracket_before (reverse ts) (StartsWith xs) (λ after f. ap shows_no_closer f.1 ∙ s f.0) (inside (StartsWith (encode_utf8 c ++ xs)) h))

      context : IsContext (behind r.context (one_more b)) (Character c ∷ reverse ts)
      context = subst (λ (x : ℕ). IsContext (behind r.context (one_more b)) (Character x ∷ reverse ts)) (sym e) (record { scope = h.context.scope; root = h.context.root; brackets_are = ap one_more h.context.brackets_are })

    step_last : (c : ℕ) → is_literal c ≡ true → Keeps limit (StartsWith (encode_utf8 c ++ [])) (at r p b) bytes ts told → HasTakenUnder limit (at r (p + length (encode_utf8 c)) 0) (bytes ++ encode_utf8 c) (told ++ record { place = p; item = Char c } ∷ [])
    step_last c l h = by (c == 10) refl where
      before : (t : Token) → IsNext limit (reverse ts) t → IsNextBefore limit Any (reverse ts) t
      before t n = record { is = λ after _. n.is after; short = n.short; clean = n.clean; stays = n.stays }

      outside_not : is_outside (reverse ts) ≡ false
      outside_not = inside (StartsWith (encode_utf8 c ++ [])) h

      by : (n : Bool) → (c == 10) ≡ n → HasTakenUnder limit (at r (p + length (encode_utf8 c)) 0) (bytes ++ encode_utf8 c) (told ++ record { place = p; item = Char c } ∷ [])
      by true e = (
        ts ++ LineEnd Lf ∷ [],
        one_token [] Any [] tt c 0 (LineEnd Lf) (append-nil (encode_utf8 10) ∙ ap encode_utf8 (sym (eqb-true c 10 e))) (ap (λ x. Char x ∷ []) (sym (eqb-true c 10 e))) (λ more f. (more, refl)) (before (LineEnd Lf) (line_next (reverse ts))) (line_context (reverse ts) (at r p b).context h.context) h,
      )
      by false e = (
        ts ++ Character c ∷ [],
        one_token [] Any [] tt c 0 (Character c) (append-nil (encode_utf8 c)) refl (λ more f. (more, refl)) (before (Character c) (character_next (reverse ts) outside_not c (inl (literal_still c l)) (no_closer_there c (not (in_cdata (reverse ts))) (behind_brackets (reverse ts)) (literal_not c l).0) e)) (character_context (reverse ts) (at r p b).context c (literal_not c l).1 h.context) h,
      )

  steps : (cs : List ℕ) (x p b : ℕ) (bytes : List ℕ) (ts : List Token) (told : List Placed) → AllByRecursion IsBracket cs → is_literal x ≡ true → Keeps limit (StartsWith (encode_utf8_all cs ++ (encode_utf8 x ++ []))) (at r p b) bytes ts told
      → HasTakenUnder limit (at r (p + length (encode_utf8_all (cs ++ x ∷ []))) 0) (bytes ++ encode_utf8_all (cs ++ x ∷ [])) (told ++ characters_from p (cs ++ x ∷ []))
  steps [] x p b bytes ts told a l h =
      subst (λ v. HasTakenUnder limit (at r (p + length v) 0) (bytes ++ v) (told ++ record { place = p; item = Char x } ∷ [])) (sym (append-nil (encode_utf8 x))) (step_last p b bytes ts told x l h)
  steps (c ∷ cs) x p b bytes ts told a l h =
      let d : Placed = record { place = p; item = Char c } in
      let n : ℕ = p + length (encode_utf8 c) in
      let rest : List ℕ = cs ++ x ∷ [] in
      let m : List ℕ = encode_utf8_all rest in
      let xs : List ℕ = encode_utf8_all cs ++ (encode_utf8 x ++ []) in
      let shows : (w : List ℕ) → shows_no_closer (xs ++ w) ≡ true = λ w. ap (λ v. shows_no_closer (v ++ w)) (ap (λ v. v ++ (encode_utf8 x ++ [])) (encoded_all cs a.1) ∙ ap (λ v. cs ++ v) (append-nil (encode_utf8 x) ∙ encode_ascii x (low x l))) ∙ no_closer cs x w a.1 l in
      let k : HasTakenUnder limit (at r (n + length m) 0) ((bytes ++ encode_utf8 c) ++ m) ((told ++ d ∷ []) ++ characters_from n rest) = steps cs x n (one_more b) (bytes ++ encode_utf8 c) (ts ++ Character c ∷ []) (told ++ d ∷ []) a.1 l
      (step_bracket p b bytes ts told c xs a.0 shows (subst (λ v. Keeps limit (StartsWith v) (at r p b) bytes ts told) (append_assoc (encode_utf8 c) (encode_utf8_all cs) (encode_utf8 x ++ [])) h)) in
      subst (λ q. HasTakenUnder limit (at r q 0) (bytes ++ encode_utf8_all (c ∷ rest)) (told ++ d ∷ characters_from n rest)) (count p (encode_utf8 c) m)
      (subst (λ v. HasTakenUnder limit (at r (n + length m) 0) v (told ++ d ∷ characters_from n rest)) (append_assoc bytes (encode_utf8 c) m)
      (subst (λ v. HasTakenUnder limit (at r (n + length m) 0) ((bytes ++ encode_utf8 c) ++ m) v) (append_assoc told (d ∷ []) (characters_from n rest)) k)) where
        count : (p : ℕ) (xs ys : List ℕ) → p + length xs + length ys ≡ p + length (xs ++ ys)
        count p xs ys = omega (arith, length-append xs ys)

        low : (x : ℕ) → is_literal x ≡ true → x < 128
        low x h = grind (arith, nat_tests)

-- such a run is taken
pub passes_closed : {limit : ℕ} (r : Reader) (xs bytes : List ℕ) (told : List Placed) (n : ℕ) → n ≤ length xs → (k : IsClosedRun (take n xs) n) → IsReaderReady r → HasTakenUnder limit r bytes told → HasToldUnder limit (passed_over r n) (bytes ++ take n xs) (told ++ characters_from (length bytes) k.run.characters)
passes_closed {limit} r xs bytes told n w k i h =
    let z = r.tokenizer in
    let a = and_parts (is_between z.scan) (z.place == z.start) i.ready in
    let cs : List ℕ = k.brackets ++ k.last ∷ [] in
    let b : HasTakenUnder limit (at r z.place r.context.brackets) bytes told =
    subst (λ v. HasTakenUnder limit (record { tokenizer = record { alloc = z.alloc; limit = z.limit; utf8 = z.utf8; position = z.position; scan = z.scan; draft = z.draft; start = v; place = z.place }; context = r.context; failed = r.failed }) bytes told) (sym (eqb-true z.place z.start a.1)) h in
    let f : Keeps limit (StartsWith (encode_utf8_all k.brackets ++ (encode_utf8 k.last ++ []))) (at r z.place r.context.brackets) bytes b.0 told = record {
      reads = record { bytes = b.1.reads.bytes; front = λ more _. b.1.reads.front more tt; opens = b.1.reads.opens };
      clean = b.1.clean;
      place = b.1.place;
      context = b.1.context;
      told_are = b.1.told_are;
      sound = b.1.sound;
    } in
    let t : HasTakenUnder limit (at r (z.place + length (encode_utf8_all cs)) 0) (bytes ++ encode_utf8_all cs) (told ++ characters_from z.place cs) = steps r a.0 i.inside k.brackets k.last z.place r.context.brackets bytes b.0 told k.are k.literal f in
    let e : take n xs ≡ encode_utf8_all cs = k.run.bytes_are ∙ ap encode_utf8_all k.split in
    let l : length (encode_utf8_all cs) ≡ n = ap length (sym e) ∙ length-take-le n xs w in
    told_so_far (passed_over r n) (bytes ++ take n xs) (told ++ characters_from (length bytes) k.run.characters)
    (subst (λ v. HasTakenUnder limit (passed_over r n) (bytes ++ take n xs) (told ++ characters_from (length bytes) v)) (sym k.split)
    (subst (λ v. HasTakenUnder limit (passed_over r n) (bytes ++ v) (told ++ characters_from (length bytes) cs)) (sym e)
    (subst (λ v. HasTakenUnder limit (passed_over r n) (bytes ++ encode_utf8_all cs) (told ++ characters_from v cs)) h.1.place
    (subst (λ v. HasTakenUnder limit (at r (z.place + v) 0) (bytes ++ encode_utf8_all cs) (told ++ characters_from z.place cs)) l t))))

-- ---- such a run, found at the front

low_text : (cs : List ℕ) (x : ℕ) → AllByRecursion IsBracket cs → is_literal x ≡ true → AllByRecursion IsOfText (cs ++ x ∷ [])
low_text [] x a l = (inl (inl (literal_still x l)), tt)
low_text (c ∷ cs) x a l = (inr a.0, low_text cs x a.1 l)

xml_all : (cs : List ℕ) (x : ℕ) → AllByRecursion IsBracket cs → is_literal x ≡ true → AllByRecursion IsXmlChar (cs ++ x ∷ [])
xml_all [] x a l = ((classes.xml x).0 (plain_not x (literal_still x l)).0, tt)
xml_all (c ∷ cs) x a l = ((are_xml (c ∷ []) (a.0, tt)).0, xml_all cs x a.1 l)

encoded_more : (cs : List ℕ) (x : ℕ) → AllByRecursion IsBracket cs → is_literal x ≡ true → encode_utf8_all (cs ++ x ∷ []) ≡ cs ++ x ∷ []
encoded_more [] x a l = append-nil (encode_utf8 x) ∙ encode_ascii x (low x l) where
  low : (x : ℕ) → is_literal x ≡ true → x < 128
  low x h = grind (arith, nat_tests)
encoded_more (c ∷ cs) x a l = ap (λ v. v ++ encode_utf8_all (cs ++ x ∷ [])) (one c a.0) ∙ ap (λ v. c ∷ v) (encoded_more cs x a.1 l) where
  one : (c : ℕ) → IsBracket c → encode_utf8 c ≡ c ∷ []
  one c e = encode_ascii c (omega (arith, e))

pub closed_run : (piece : List ℕ) (count next : ℕ) (rest after : List ℕ) → AreBrackets piece count rest → 0 < count → rest ≡ next ∷ after → is_literal next ≡ true → IsClosedRun (take (count + 1) piece) (count + 1)
closed_run piece count next rest after a s e l = subst (λ v. IsClosedRun v (count + 1)) (sym front) (subst (IsClosedRun (a.seen ++ next ∷ [])) size of_seen) where
  size : length (a.seen ++ next ∷ []) ≡ count + 1
  size = length-append a.seen (next ∷ []) ∙ ap (λ n. n + 1) a.count_is

  of_seen : IsClosedRun (a.seen ++ next ∷ []) (length (a.seen ++ next ∷ []))
  of_seen = record {
    run = record {
      characters = a.seen ++ next ∷ [];
      bytes_are = sym (encoded_more a.seen next a.are l);
      count_is = refl;
      literal = low_text a.seen next a.are l;
      allowed = xml_all a.seen next a.are l;
      blank_is = refl;
    };
    brackets = a.seen;
    last = next;
    are = a.are;
    some = omega (arith, s, a.count_is);
    literal = l;
    split = refl;
  }

  front : take (count + 1) piece ≡ a.seen ++ next ∷ []
  front = ap (λ n. take n piece) (sym size) ∙ (ap (take (length (a.seen ++ next ∷ []))) (a.joined ∙ (ap (λ v. a.seen ++ v) e ∙ sym (append_assoc a.seen (next ∷ []) after))) ∙ take-append_seam (a.seen ++ next ∷ []) after)

-- what is found by their number
pub brackets_before : (piece : List ℕ) (count : ℕ) → IsBracketRun (take count piece) count → AreBrackets piece count (drop count piece)
brackets_before piece count r = record {
  seen = r.0.characters;
  joined = sym (take-append-drop count piece) ∙ ap (λ v. v ++ drop count piece) (r.0.bytes_are ∙ encoded_all r.0.characters r.1);
  count_is = r.0.count_is;
  are = r.1;
}

-- they are no white space
pub closed_blank : (bytes : List ℕ) (count : ℕ) → IsClosedRun bytes count → false ≡ list_all is_space bytes
closed_blank bytes count k = by k.brackets k.are k.some ∙ sym (k.run.blank_is ∙ ap (list_all is_space) k.split) where
  by : (cs : List ℕ) → AllByRecursion IsBracket cs → 0 < length cs → false ≡ list_all is_space (cs ++ k.last ∷ [])
  by [] a s = absurd (omega (arith, s))
  by (c ∷ cs) a s = sym (ap (λ b. b && list_all is_space (cs ++ k.last ∷ [])) (ap is_space a.0 ∙ bracket_no_space))
