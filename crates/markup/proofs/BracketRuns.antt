-- A run of `]` in an element's text is taken as each of them is.
use Rattle.std.proofs.Common.{◌≡◌, ℕ, suc, Bool, true, false, ◌==◌, ◌&&◌, not, ◌+◌, ◌<◌, ◌≤◌, inr, List, [], ◌∷◌, ◌++◌, length, take, reverse, None, Some, refl, sym, ◌∙◌, ap, subst, append_assoc, append-nil, add-zero, length-append, arith}
use Rattle.std.specs.Bool.{if◌then◌else◌}
use Rattle.std.specs.Char.{encode_utf8}
use Rattle.std.specs.Str.{encode_utf8_all}
use Rattle.std.specs.List.{AllByRecursion, list_all}
use Rattle.std.proofs.lemmas.Bool.{and_parts, eqb-true}
use Rattle.std.proofs.lemmas.Bool.Decides.{nat_tests}
use Rattle.std.proofs.lemmas.List.{length-take-le}
use Rattle.std.proofs.lemmas.Str.{encode_ascii}
use Rattle.std.proofs.Math.Seq.{take-append_seam}
use Rattle.lexical_core.specs.Characters.{IsXmlChar}
use Rattle.lexical_core.specs.Tree.{Char}
use Rattle.lexical_core.specs.declared.rule.Rule.TheVariants.{TextOutside}
use Rattle.lexical_core.proofs.Tests.{same_number}
use Rattle.markup.specs.Chars.{is_space, is_xml_char}
use Rattle.markup.specs.Token.{Token, Character}
use Rattle.markup.specs.Marks.{in_cdata, stands_in_cdata, stands_outside}
use Rattle.markup.specs.Events.{Placed, open_tags}
use Rattle.markup.specs.Faults.{is_outside}
use Rattle.markup.specs.Literals.{IsOfText, IsRun, IsBracketRun, characters_from}
use Rattle.markup.specs.Scopes.{placed_at}
use Rattle.markup.specs.inner.Contexts.{IsContext, HasOpen, with_brackets}
use Rattle.markup.specs.inner.TokenRules.{one_more}
use Rattle.markup.specs.inner.Tokenizers.{is_text, is_in_text, after_whole_tokens}
use Rattle.markup.specs.Reading.{HasTakenUnder, HasToldUnder}
use Rattle.markup.specs.declared.context.Context.{Context}
use Rattle.markup.specs.declared.reader.Reader.{Reader}
use Rattle.markup.proofs.CharLemmas.{classes}
use Rattle.markup.proofs.PlainLemmas.{is_fresh, text_place, text_between}
use Rattle.markup.proofs.ReaderLemmas.{told_so_far}
use Rattle.markup.proofs.TokenRuleLemmas.{in_cdata-open}
use Rattle.markup.proofs.WholeTokens.{IsNext, takes_next}
use Rattle.markup.proofs.CharacterRuns.{at_place}

-- ---- a run of them, found from the front

abbrev pub IsBracket : ℕ → Type 0
IsBracket c = c ≡ 93

-- so many bytes of the piece have come, all of which are `]`
pub record AreBrackets (piece : List ℕ) (count : ℕ) (rest : List ℕ) : Type 0 where
  pub seen : List ℕ
  pub joined : piece ≡ seen ++ rest
  pub count_is : length seen ≡ count
  pub are : AllByRecursion IsBracket seen

pub brackets_none : (piece : List ℕ) → AreBrackets piece 0 piece
brackets_none piece = record { seen = []; joined = refl; count_is = refl; are = tt }

pub all_append : (cs ds : List ℕ) → AllByRecursion IsBracket cs → AllByRecursion IsBracket ds → AllByRecursion IsBracket (cs ++ ds)
all_append [] ds h k = k
all_append (c ∷ cs) ds h k = (h.0, all_append cs ds h.1 k)

pub brackets_more : (piece : List ℕ) (count byte : ℕ) (rest after : List ℕ) → AreBrackets piece count rest → rest ≡ byte ∷ after → byte ≡ 93 → AreBrackets piece (count + 1) after
brackets_more piece count byte rest after a e b = record {
  seen = a.seen ++ byte ∷ [];
  joined = a.joined ∙ (ap (λ v. a.seen ++ v) e ∙ sym (append_assoc a.seen (byte ∷ []) after));
  count_is = length-append a.seen (byte ∷ []) ∙ ap (λ n. n + 1) a.count_is;
  are = all_append a.seen (byte ∷ []) a.are (b, tt);
}

encoded_one : (c : ℕ) → IsBracket c → encode_utf8 c ≡ c ∷ []
encoded_one c e = encode_ascii c (omega (arith, e))

pub encoded_all : (cs : List ℕ) → AllByRecursion IsBracket cs → encode_utf8_all cs ≡ cs
encoded_all [] h = refl
encoded_all (c ∷ cs) h = ap (λ v. v ++ encode_utf8_all cs) (encoded_one c h.0) ∙ ap (λ v. c ∷ v) (encoded_all cs h.1)

pub of_text : (cs : List ℕ) → AllByRecursion IsBracket cs → AllByRecursion IsOfText cs
of_text [] h = tt
of_text (c ∷ cs) h = (inr h.0, of_text cs h.1)

bracket_xml : is_xml_char 93 ≡ true
unfolding is_xml_char
bracket_xml = refl

pub bracket_no_space : is_space 93 ≡ false
unfolding is_space
bracket_no_space = refl

pub are_xml : (cs : List ℕ) → AllByRecursion IsBracket cs → AllByRecursion IsXmlChar cs
are_xml [] h = tt
are_xml (c ∷ cs) h = ((classes.xml c).0 (subst (λ (x : ℕ). is_xml_char x ≡ true) (sym h.0) bracket_xml), are_xml cs h.1)

run_of : (cs : List ℕ) → AllByRecursion IsBracket cs → IsBracketRun cs (length cs)
run_of cs h = (
  record {
    characters = cs;
    bytes_are = sym (encoded_all cs h);
    count_is = refl;
    literal = of_text cs h;
    allowed = are_xml cs h;
    blank_is = refl;
  },
  h,
)

pub brackets_run : (piece : List ℕ) (count : ℕ) (rest : List ℕ) → AreBrackets piece count rest → IsBracketRun (take count piece) count
brackets_run piece count rest a = subst (λ v. IsBracketRun v count) (sym front) (subst (IsBracketRun a.seen) a.count_is (run_of a.seen a.are)) where
  front : take count piece ≡ a.seen
  front = ap (λ n. take n piece) (sym a.count_is) ∙ (ap (take (length a.seen)) a.joined ∙ take-append_seam a.seen rest)

pub no_brackets : IsBracketRun [] 0
no_brackets = run_of [] tt

-- they are no white space
pub brackets_blank : (bytes : List ℕ) (count : ℕ) → IsBracketRun bytes count → 0 < count → false ≡ list_all is_space bytes
brackets_blank bytes count r s = by r.0.characters r.1 (omega (arith, s, r.0.count_is)) ∙ sym r.0.blank_is where
  by : (cs : List ℕ) → AllByRecursion IsBracket cs → 0 < length cs → false ≡ list_all is_space cs
  by [] h k = absurd (omega (arith, k))
  by (c ∷ cs) h k = sym (ap (λ b. b && list_all is_space cs) (ap is_space h.0 ∙ bracket_no_space))

-- ---- a `]` as a token

pub text_test : (x : Bool) → (stands_outside (Character 93) [] && not (x && (93 == 0xFEFF))) ≡ true
unfolding is_xml_char
text_test true = refl
text_test false = refl

bracket_next : {limit : ℕ} (before : List Token) → in_cdata before ≡ false → is_outside before ≡ false → IsNext limit before (Character 93)
bracket_next before text inside = record {
  is = λ after. ap (λ (b : Bool). if b then stands_in_cdata (Character 93) after else stands_outside (Character 93) after && not (length before == 0 && (93 == 0xFEFF))) text ∙ text_test (length before == 0);
  short = refl;
  clean = ap (λ (b : Bool). if b then None else (if is_outside before then Some TextOutside else None)) bracket_no_space ∙ ap (λ (b : Bool). if b then Some TextOutside else None) inside;
  stays = λ p. refl;
}

-- ---- a reader behind them

abbrev pub behind : Context → ℕ → Context
behind k b = record { scope = k.scope; has_root = k.has_root; brackets = b }

-- the reader at a place between tokens, behind so many literal `]`
abbrev pub at : Reader → ℕ → ℕ → Reader
at r p b = record { tokenizer = at_place r.tokenizer p; context = behind r.context b; failed = r.failed }

-- the count of literal `]` behind these
abbrev count_behind : ℕ → List ℕ → ℕ
count_behind b [] = b
count_behind b (c ∷ cs) = count_behind (one_more b) cs

two_stay : (cs : List ℕ) → count_behind 2 cs ≡ 2
two_stay [] = refl
two_stay (c ∷ cs) = two_stay cs

abbrev one_or_two : Bool → ℕ
one_or_two z = if z then 1 else 2

abbrev count_by : ℕ → ℕ → ℕ
count_by b n = one_or_two (b == 0 && n == 1)

counted : (b n : ℕ) (cs : List ℕ) → length cs ≡ n → 0 < n → count_behind b cs ≡ count_by b n
counted b n [] e s = absurd (omega (arith, e, s))
counted b n (c ∷ []) e s = by (b == 0) ∙ ap (count_by b) e where
  by : (z : Bool) → one_or_two z ≡ one_or_two (z && true)
  by true = refl
  by false = refl
counted b n (c ∷ d ∷ cs) e s = ap (λ v. count_behind v cs) (twice (b == 0)) ∙ (two_stay cs ∙ (by (b == 0) (suc (suc (length cs)) == 1) (not_one (length cs)) ∙ ap (count_by b) e)) where
  twice : (z : Bool) → one_more (one_or_two z) ≡ 2
  twice true = refl
  twice false = refl

  not_one : (m : ℕ) → (suc (suc m) == 1) ≡ false
  not_one m = grind (arith, nat_tests)

  by : (z o : Bool) → o ≡ false → 2 ≡ one_or_two (z && o)
  by true o h = ap one_or_two (sym h)
  by false o h = refl

module _ {limit : ℕ} (r : Reader) (text : is_text r.tokenizer.scan ≡ true) (within : HasOpen r.context) where
  step_bracket : (p b c : ℕ) (bytes : List ℕ) (told : List Placed) → IsBracket c → HasTakenUnder limit (at r p b) bytes told → HasTakenUnder limit (at r (p + length (encode_utf8 c)) (one_more b)) (bytes ++ encode_utf8 c) (told ++ record { place = p; item = Char c } ∷ [])
  step_bracket p b c bytes told e h =
      subst (λ q. HasTakenUnder limit (at r (p + length (encode_utf8 c)) (one_more b)) (bytes ++ encode_utf8 c) (told ++ record { place = q; item = Char c } ∷ [])) (sym h.1.place)
      (subst (λ v. HasTakenUnder limit (at r (p + length (encode_utf8 c)) (one_more b)) (bytes ++ v) (told ++ placed_at (length bytes) (Char c ∷ []))) (append-nil (encode_utf8 c))
      (takes_next (at r p b) bytes told h (text_between r.tokenizer.scan text) (same_number p) (Character c) (length (encode_utf8 c)) (behind r.context (one_more b)) next (ap length (sym (append-nil (encode_utf8 c)))) context)) where
        inside : is_outside (reverse h.0) ≡ false
        inside = within (open_tags (reverse h.0)) h.1.context.scope

        no_cdata : in_cdata (reverse h.0) ≡ false
        no_cdata = in_cdata-open (at_place r.tokenizer p) (reverse h.0) h.1.reads.bytes h.1.reads.opens ∙ text_place r.tokenizer.scan r.tokenizer.position text (is_fresh (at_place r.tokenizer p) (text_between r.tokenizer.scan text) (same_number p) (reverse h.0) h.1.reads.bytes h.1.reads.opens).scan_here

        next : IsNext limit (reverse h.0) (Character c)
        next = subst (λ (x : ℕ). IsNext limit (reverse h.0) (Character x)) (sym e) (bracket_next (reverse h.0) no_cdata inside)

        context : IsContext (behind r.context (one_more b)) (Character c ∷ reverse h.0)
        context = subst (λ (x : ℕ). IsContext (behind r.context (one_more b)) (Character x ∷ reverse h.0)) (sym e) (record { scope = h.1.context.scope; root = h.1.context.root; brackets_are = ap one_more h.1.context.brackets_are })

  steps_all : (cs : List ℕ) (p b : ℕ) (bytes : List ℕ) (told : List Placed) → AllByRecursion IsBracket cs → HasTakenUnder limit (at r p b) bytes told → HasTakenUnder limit (at r (p + length (encode_utf8_all cs)) (count_behind b cs)) (bytes ++ encode_utf8_all cs) (told ++ characters_from p cs)
  steps_all [] p b bytes told l h =
      subst (λ q. HasTakenUnder limit (at r q b) (bytes ++ []) (told ++ [])) (sym (add-zero p))
      (subst (λ v. HasTakenUnder limit (at r p b) v (told ++ [])) (sym (append-nil bytes))
      (subst (λ v. HasTakenUnder limit (at r p b) bytes v) (sym (append-nil told)) h))
  steps_all (c ∷ cs) p b bytes told l h =
      let d : Placed = record { place = p; item = Char c } in
      let n : ℕ = p + length (encode_utf8 c) in
      let m : List ℕ = encode_utf8_all cs in
      let k : HasTakenUnder limit (at r (n + length m) (count_behind (one_more b) cs)) ((bytes ++ encode_utf8 c) ++ m) ((told ++ d ∷ []) ++ characters_from n cs) = steps_all cs n (one_more b) (bytes ++ encode_utf8 c) (told ++ d ∷ []) l.1 (step_bracket p b c bytes told l.0 h) in
      subst (λ q. HasTakenUnder limit (at r q (count_behind (one_more b) cs)) (bytes ++ encode_utf8_all (c ∷ cs)) (told ++ d ∷ characters_from n cs)) (count p (encode_utf8 c) m)
      (subst (λ v. HasTakenUnder limit (at r (n + length m) (count_behind (one_more b) cs)) v (told ++ d ∷ characters_from n cs)) (append_assoc bytes (encode_utf8 c) m)
      (subst (λ v. HasTakenUnder limit (at r (n + length m) (count_behind (one_more b) cs)) ((bytes ++ encode_utf8 c) ++ m) v) (append_assoc told (d ∷ []) (characters_from n cs)) k)) where
        count : (p : ℕ) (xs ys : List ℕ) → p + length xs + length ys ≡ p + length (xs ++ ys)
        count p xs ys = omega (arith, length-append xs ys)

-- so many bytes are taken, each of which is a `]`
abbrev pub bracketed_over : Reader → ℕ → Reader
bracketed_over r n = record { tokenizer = after_whole_tokens r.tokenizer n; context = with_brackets r.context n; failed = r.failed }

-- a run of them is taken
pub passes_brackets : {limit : ℕ} (r : Reader) (xs bytes : List ℕ) (told : List Placed) (n : ℕ) → n ≤ length xs → (run : IsRun (take n xs) n) → AllByRecursion IsBracket run.characters → is_in_text r.tokenizer ≡ true → HasOpen r.context → 0 < n → HasTakenUnder limit r bytes told → HasToldUnder limit (bracketed_over r n) (bytes ++ take n xs) (told ++ characters_from (length bytes) run.characters)
passes_brackets {limit} r xs bytes told n w run are text within s h =
    let z = r.tokenizer in
    let k = r.context in
    let cs = run.characters in
    let a = and_parts (is_text z.scan) (z.place == z.start) text in
    let b : HasTakenUnder limit (at r z.place k.brackets) bytes told =
    subst (λ v. HasTakenUnder limit (record { tokenizer = record { alloc = z.alloc; limit = z.limit; utf8 = z.utf8; position = z.position; scan = z.scan; draft = z.draft; start = v; place = z.place }; context = k; failed = r.failed }) bytes told) (sym (eqb-true z.place z.start a.1)) h in
    let t : HasTakenUnder limit (at r (z.place + length (encode_utf8_all cs)) (count_behind k.brackets cs)) (bytes ++ encode_utf8_all cs) (told ++ characters_from z.place cs) = steps_all r a.0 within cs z.place k.brackets bytes told are b in
    let l : length (encode_utf8_all cs) ≡ n = ap length (sym run.bytes_are) ∙ length-take-le n xs w in
    told_so_far (bracketed_over r n) (bytes ++ take n xs) (told ++ characters_from (length bytes) cs)
    (subst (λ v. HasTakenUnder limit (bracketed_over r n) (bytes ++ v) (told ++ characters_from (length bytes) cs)) (sym run.bytes_are)
    (subst (λ v. HasTakenUnder limit (bracketed_over r n) (bytes ++ encode_utf8_all cs) (told ++ characters_from v cs)) h.1.place
    (subst (λ v. HasTakenUnder limit (at r (z.place + v) (count_by k.brackets n)) (bytes ++ encode_utf8_all cs) (told ++ characters_from z.place cs)) l
    (subst (λ v. HasTakenUnder limit (at r (z.place + length (encode_utf8_all cs)) v) (bytes ++ encode_utf8_all cs) (told ++ characters_from z.place cs)) (counted k.brackets n cs run.count_is s) t))))
