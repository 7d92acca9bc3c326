-- Words and white space, a character at a time.
use Rattle.std.proofs.Common.{◌≡◌, ℕ, ◌<◌, ◌⊎◌, inl, inr, List, [], ◌∷◌, ◌++◌, length, flat_map, refl, sym, ap, subst, ◌∙◌, arith, append_assoc, length-append}
use Rattle.std.proofs.lemmas.List.{append-nil}
use Rattle.std.specs.List.{AllByRecursion}
use Rattle.lexical_core.specs.Characters.{IsSpace}
use Rattle.data_types.specs.declared.collapse.Place.{Place}
use Rattle.data_types.specs.declared.collapse.Place.TheVariants.{Before, Within, Behind}
use Rattle.data_types.specs.WhiteSpace.{IsWord, SpacedWord, IsLaterPart, AreSpacedWords, spaced_word_text, join_words, words_of, IsCollapsed}
use Rattle.data_types.specs.Collapsing.{HasWords, HasCollapsedAt}

pub all_push : {X : Type 0} (P : X → Type 0) (xs : List X) (x : X) → AllByRecursion P xs → P x → AllByRecursion P (xs ++ x ∷ [])
all_push P [] x a p = (p, tt)
all_push P (y ∷ ys) x a p = (a.0, all_push P ys x a.1 p)

flat_push : (parts : List SpacedWord) (part : SpacedWord) → flat_map spaced_word_text (parts ++ part ∷ []) ≡ flat_map spaced_word_text parts ++ spaced_word_text part
flat_push [] part = append-nil (spaced_word_text part)
flat_push (p ∷ parts) part = ap (λ t. spaced_word_text p ++ t) (flat_push parts part) ∙ sym (append_assoc (spaced_word_text p) (flat_map spaced_word_text parts) (spaced_word_text part))

words_push : (parts : List SpacedWord) (part : SpacedWord) → words_of (parts ++ part ∷ []) ≡ words_of parts ++ part.word ∷ []
words_push [] part = refl
words_push (p ∷ parts) part = ap (λ t. p.word ∷ t) (words_push parts part)

parts_push : (parts : List SpacedWord) (gap word : List ℕ) → AreSpacedWords parts → AllByRecursion IsSpace gap → IsWord word → (parts ≡ []) ⊎ (0 < length gap)
    → AreSpacedWords (parts ++ (record { gap = gap; word = word }) ∷ [])
parts_push [] gap word are spaces is apart = (spaces, is, tt)
parts_push (p ∷ parts) gap word are spaces is (inl none) = absurd (cc)
parts_push (p ∷ parts) gap word are spaces is (inr some) =
    (are.0, are.1, all_push IsLaterPart parts (record { gap = gap; word = word }) are.2 (record { some = some; gap = spaces; word = is }))

-- the last word grows
joined_grows : (words : List (List ℕ)) (word : List ℕ) (c : ℕ) → join_words (words ++ (word ++ c ∷ []) ∷ []) ≡ join_words (words ++ word ∷ []) ++ c ∷ []
joined_grows [] word c = refl
joined_grows (w ∷ []) word c = sym (append_assoc w (32 ∷ word) (c ∷ []))
joined_grows (w ∷ v ∷ words) word c =
    ap (λ t. w ++ 32 ∷ t) (joined_grows (v ∷ words) word c) ∙ sym (append_assoc w (32 ∷ join_words (v ∷ (words ++ word ∷ []))) (c ∷ []))

-- a word is begun behind others
joined_begins : (w : List ℕ) (words : List (List ℕ)) (c : ℕ) → join_words ((w ∷ words) ++ (c ∷ []) ∷ []) ≡ join_words (w ∷ words) ++ 32 ∷ c ∷ []
joined_begins w [] c = refl
joined_begins w (v ∷ words) c =
    ap (λ t. w ++ 32 ∷ t) (joined_begins v words c) ∙ sym (append_assoc w (32 ∷ join_words (v ∷ words)) (32 ∷ c ∷ []))

one_char : (c : ℕ) → (IsSpace c → ⊥) → IsWord (c ∷ [])
one_char c none = record { some = omega arith; no_space = (none, tt) }

pub space_within : (c : ℕ) (text collapsed : List ℕ) → IsSpace c → HasCollapsedAt Within text collapsed → HasCollapsedAt Behind (text ++ c ∷ []) collapsed
space_within c text collapsed space (parts, gap, word, h) =
    let part : SpacedWord = record { gap = gap; word = word } in (
      parts ++ part ∷ [],
      c ∷ [],
      record {
        are = parts_push parts gap word h.are h.spaces h.is_word h.apart;
        spaces = (space, tt);
        spelled = ap (λ t. t ++ c ∷ []) (h.spelled ∙ sym (flat_push parts part));
        joined_is = h.joined_is ∙ ap join_words (sym (words_push parts part));
      },
      omega (arith, length-append parts (part ∷ [])),
      omega arith,
    )

pub space_behind : (c : ℕ) (text collapsed : List ℕ) → IsSpace c → HasCollapsedAt Behind text collapsed → HasCollapsedAt Behind (text ++ c ∷ []) collapsed
space_behind c text collapsed space (parts, rest, h, some, gap) = (
  parts,
  rest ++ c ∷ [],
  record {
    are = h.are;
    spaces = all_push IsSpace rest c h.spaces space;
    spelled = ap (λ t. t ++ c ∷ []) h.spelled ∙ append_assoc (flat_map spaced_word_text parts) rest (c ∷ []);
    joined_is = h.joined_is;
  },
  some,
  omega (arith, length-append rest (c ∷ [])),
)

pub char_before : (c : ℕ) (text collapsed : List ℕ) → (IsSpace c → ⊥) → HasCollapsedAt Before text collapsed → HasCollapsedAt Within (text ++ c ∷ []) (collapsed ++ c ∷ [])
char_before c text collapsed none h = (
  [],
  text,
  c ∷ [],
  record {
    are = tt;
    spaces = h.0;
    apart = inl refl;
    is_word = one_char c none;
    spelled = refl;
    joined_is = ap (λ t. t ++ c ∷ []) h.1;
  },
)

pub char_within : (c : ℕ) (text collapsed : List ℕ) → (IsSpace c → ⊥) → HasCollapsedAt Within text collapsed → HasCollapsedAt Within (text ++ c ∷ []) (collapsed ++ c ∷ [])
char_within c text collapsed none (parts, gap, word, h) = (
  parts,
  gap,
  word ++ c ∷ [],
  record {
    are = h.are;
    spaces = h.spaces;
    apart = h.apart;
    is_word = record { some = omega (arith, length-append word (c ∷ [])); no_space = all_push (λ x. IsSpace x → ⊥) word c h.is_word.no_space none };
    spelled = ap (λ t. t ++ c ∷ []) h.spelled ∙ simp append_assoc;
    joined_is = ap (λ t. t ++ c ∷ []) h.joined_is ∙ sym (joined_grows (words_of parts) word c);
  },
)

char_behind_words : (c : ℕ) (text collapsed : List ℕ) (parts : List SpacedWord) (rest : List ℕ) → (IsSpace c → ⊥) → HasWords text collapsed parts rest → 0 < length parts
    → 0 < length rest → HasCollapsedAt Within (text ++ c ∷ []) (collapsed ++ 32 ∷ c ∷ [])
char_behind_words c text collapsed [] rest none h some gap = absurd (omega arith)
char_behind_words c text collapsed (p ∷ parts) rest none h some gap = (
  p ∷ parts,
  rest,
  c ∷ [],
  record {
    are = h.are;
    spaces = h.spaces;
    apart = inr gap;
    is_word = one_char c none;
    spelled = ap (λ t. t ++ c ∷ []) h.spelled ∙ append_assoc (flat_map spaced_word_text (p ∷ parts)) rest (c ∷ []);
    joined_is = ap (λ t. t ++ 32 ∷ c ∷ []) h.joined_is ∙ sym (joined_begins p.word (words_of parts) c);
  },
)

pub char_behind : (c : ℕ) (text collapsed : List ℕ) → (IsSpace c → ⊥) → HasCollapsedAt Behind text collapsed → HasCollapsedAt Within (text ++ c ∷ []) (collapsed ++ 32 ∷ c ∷ [])
char_behind c text collapsed none (parts, rest, h, some, gap) = char_behind_words c text collapsed parts rest none h some gap

pub is_collapsed : (place : Place) (text collapsed : List ℕ) → HasCollapsedAt place text collapsed → IsCollapsed text collapsed
is_collapsed Before text collapsed h = ([], text, tt, h.0, refl, h.1)
is_collapsed Within text collapsed (parts, gap, word, h) =
    let part : SpacedWord = record { gap = gap; word = word } in (
      parts ++ part ∷ [],
      [],
      parts_push parts gap word h.are h.spaces h.is_word h.apart,
      tt,
      h.spelled ∙ (sym (flat_push parts part) ∙ sym (append-nil (flat_map spaced_word_text (parts ++ part ∷ [])))),
      h.joined_is ∙ ap join_words (sym (words_push parts part)),
    )
is_collapsed Behind text collapsed (parts, rest, h, some, gap) = (parts, rest, h.are, h.spaces, h.spelled, h.joined_is)

pub at_place : (place place' : Place) (text collapsed : List ℕ) → place ≡ place' → HasCollapsedAt place text collapsed → HasCollapsedAt place' text collapsed
at_place place place' text collapsed e h = subst (λ (p : Place). HasCollapsedAt p text collapsed) e h

-- ---- several characters at once

all_on : {X : Type 0} (P : X → Type 0) (xs ys : List X) → AllByRecursion P xs → AllByRecursion P ys → AllByRecursion P (xs ++ ys)
all_on P [] ys a b = b
all_on P (x ∷ xs) ys a b = (a.0, all_on P xs ys a.1 b)

-- white space behind white space
spaces_more : (place : Place) (text collapsed spaces : List ℕ) → (place ≡ Within → ⊥) → AllByRecursion IsSpace spaces → HasCollapsedAt place text collapsed
    → HasCollapsedAt place (text ++ spaces) collapsed
spaces_more Before text collapsed spaces other are h = (all_on IsSpace text spaces h.0 are, h.1)
spaces_more Within text collapsed spaces other are h = absurd (other refl)
spaces_more Behind text collapsed spaces other are (parts, rest, h, some, gap) = (
  parts,
  rest ++ spaces,
  record {
    are = h.are;
    spaces = all_on IsSpace rest spaces h.spaces are;
    spelled = ap (λ t. t ++ spaces) h.spelled ∙ append_assoc (flat_map spaced_word_text parts) rest spaces;
    joined_is = h.joined_is;
  },
  some,
  omega (arith, length-append rest spaces, gap),
)

pub spaces_after : (old now : Place) (text collapsed spaces : List ℕ) → 0 < length spaces → AllByRecursion IsSpace spaces
    → ((c : ℕ) (text collapsed : List ℕ) → IsSpace c → HasCollapsedAt old text collapsed → HasCollapsedAt now (text ++ c ∷ []) collapsed)
    → (now ≡ Within → ⊥) → HasCollapsedAt old text collapsed → HasCollapsedAt now (text ++ spaces) collapsed
spaces_after old now text collapsed [] some are first other h = absurd (omega (arith, some))
spaces_after old now text collapsed (c ∷ spaces) some are first other h =
    subst (λ t. HasCollapsedAt now t collapsed) (append_assoc text (c ∷ []) spaces)
    (spaces_more now (text ++ c ∷ []) collapsed spaces other are.1 (first c text collapsed are.0 h))

-- the rest of a word
word_more : (text collapsed word : List ℕ) → AllByRecursion (λ c. IsSpace c → ⊥) word → HasCollapsedAt Within text collapsed
    → HasCollapsedAt Within (text ++ word) (collapsed ++ word)
word_more text collapsed [] are h = subst (λ t. HasCollapsedAt Within t (collapsed ++ [])) (sym (append-nil text)) (subst (λ t. HasCollapsedAt Within text t) (sym (append-nil collapsed)) h)
word_more text collapsed (c ∷ word) are h =
    subst (λ t. HasCollapsedAt Within t (collapsed ++ c ∷ word)) (append_assoc text (c ∷ []) word)
    (subst (λ t. HasCollapsedAt Within ((text ++ c ∷ []) ++ word) t) (append_assoc collapsed (c ∷ []) word)
    (word_more (text ++ c ∷ []) (collapsed ++ c ∷ []) word are.1 (char_within c text collapsed are.0 h)))

word_on : (text collapsed begun word : List ℕ) (c : ℕ) → AllByRecursion (λ c. IsSpace c → ⊥) word → HasCollapsedAt Within (text ++ c ∷ []) (collapsed ++ begun)
    → HasCollapsedAt Within (text ++ c ∷ word) (collapsed ++ (begun ++ word))
word_on text collapsed begun word c are h =
    subst (λ t. HasCollapsedAt Within t (collapsed ++ (begun ++ word))) (append_assoc text (c ∷ []) word)
    (subst (λ t. HasCollapsedAt Within ((text ++ c ∷ []) ++ word) t) (append_assoc collapsed begun word)
    (word_more (text ++ c ∷ []) (collapsed ++ begun) word are h))

pub word_at : (place : Place) (text collapsed word : List ℕ) → (place ≡ Behind → ⊥) → IsWord word → HasCollapsedAt place text collapsed
    → HasCollapsedAt Within (text ++ word) (collapsed ++ word)
word_at place text collapsed [] other is h = absurd (let some = is.some in omega (arith, some))
word_at Before text collapsed (c ∷ word) other is h = word_on text collapsed (c ∷ []) word c is.no_space.1 (char_before c text collapsed is.no_space.0 h)
word_at Within text collapsed (c ∷ word) other is h = word_on text collapsed (c ∷ []) word c is.no_space.1 (char_within c text collapsed is.no_space.0 h)
word_at Behind text collapsed (c ∷ word) other is h = absurd (other refl)

pub word_behind : (text collapsed word : List ℕ) → IsWord word → HasCollapsedAt Behind text collapsed
    → HasCollapsedAt Within (text ++ word) (collapsed ++ (32 ∷ [] ++ word))
word_behind text collapsed [] is h = absurd (let some = is.some in omega (arith, some))
word_behind text collapsed (c ∷ word) is h = word_on text collapsed (32 ∷ c ∷ []) word c is.no_space.1 (char_behind c text collapsed is.no_space.0 h)
