-- Bytes that leave the scan of an open token as it is.
use Rattle.std.proofs.Common.{◌≡◌, ℕ, zero, suc, Bool, true, false, ◌==◌, ◌+◌, ◌<◌, ◌≤◌, cond, List, [], ◌∷◌, ◌++◌, take, if◌then◌else◌, refl, sym, ◌∙◌, ap, append_assoc, append-nil, arith}
use Rattle.std.specs.Char.{encode_utf8}
use Rattle.std.specs.Str.{encode_utf8_all}
use Rattle.std.specs.List.{prefix_len}
use Rattle.std.proofs.lemmas.Bool.{both_ways}
use Rattle.std.proofs.lemmas.Bool.Decides.{nat_tests}
use Rattle.std.proofs.lemmas.Str.{encode_ascii}
use Rattle.markup.specs.Chars.{is_xml_char, is_space}
use Rattle.markup.specs.PlainTags.{continues_plain}
use Rattle.markup.specs.inner.Drafts.{note_character, literal_char, add_value}
use Rattle.markup.specs.PlainStarts.{is_literal_of}
use Rattle.markup.specs.inner.Inside.{is_passed, extend_name, noted_all, IsStill}
use Rattle.markup.specs.inner.Scans.{step}
use Rattle.markup.specs.inner.ScanRuns.{At, turn_run, run}
use Rattle.markup.specs.declared.draft.Draft.{Draft}
use Rattle.markup.specs.declared.tag.Spelled.{Spelled}
use Rattle.markup.specs.declared.scan.NameScan.{NameScan}
use Rattle.markup.specs.declared.scan.NameScan.TheVariants.{First, Colon, Second}
use Rattle.markup.specs.declared.scan.Scan.{Scan}
use Rattle.markup.specs.declared.scan.Scan.TheVariants.{CommentText, InstructionText, StartName, AttributeName, Value, EndName}
use Rattle.markup.specs.declared.scan.Turn.TheVariants.{Goes}
use Rattle.markup.proofs.PlainTagLemmas.{continues_name, plain_ascii}

-- a character that leaves the scan as it is, and says itself
pub record StaysBy (s : Scan) (c : ℕ) : Type 0 where
  pub ascii : c < 128
  pub goes : step s c ≡ Goes s
  pub says : (d : Draft) → note_character s s c d ≡ noted_all s (c ∷ []) d

-- ---- what bytes say, one after another

extended_more : (xs ys : List ℕ) (n : Spelled) → extend_name ys (extend_name xs n) ≡ extend_name (xs ++ ys) n
extended_more xs ys n = ap (λ v. record { prefix = n.prefix; local = v }) (append_assoc n.local xs ys)

noted_more : (s : Scan) (xs ys : List ℕ) (d : Draft) → noted_all s ys (noted_all s xs d) ≡ noted_all s (xs ++ ys) d
noted_more (StartName n) xs ys d = ap (λ v. record { name = v; given = d.given; attribute = d.attribute; value = d.value }) (extended_more xs ys d.name)
noted_more (EndName n) xs ys d = ap (λ v. record { name = v; given = d.given; attribute = d.attribute; value = d.value }) (extended_more xs ys d.name)
noted_more (AttributeName n) xs ys d = ap (λ v. record { name = d.name; given = d.given; attribute = v; value = d.value }) (extended_more xs ys d.attribute)
noted_more (Value q r) xs ys d = ap (λ v. record { name = d.name; given = d.given; attribute = d.attribute; value = v }) (append_assoc d.value xs ys)
noted_more _ xs ys d = refl

extended_none : (n : Spelled) → n ≡ extend_name [] n
extended_none n = ap (λ v. record { prefix = n.prefix; local = v }) (sym (append-nil n.local))

noted_none : (s : Scan) (d : Draft) → d ≡ noted_all s [] d
noted_none (StartName n) d = ap (λ v. record { name = v; given = d.given; attribute = d.attribute; value = d.value }) (extended_none d.name)
noted_none (EndName n) d = ap (λ v. record { name = v; given = d.given; attribute = d.attribute; value = d.value }) (extended_none d.name)
noted_none (AttributeName n) d = ap (λ v. record { name = d.name; given = d.given; attribute = v; value = d.value }) (extended_none d.attribute)
noted_none (Value q r) d = ap (λ v. record { name = d.name; given = d.given; attribute = d.attribute; value = v }) (sym (append-nil d.value))
noted_none _ d = refl

-- ---- such characters, one after another

pub still_none : (s : Scan) → IsStill s []
still_none s = record { encoded = refl; scans = λ d. ap (λ e. At s e) (noted_none s d) }

still_one_more : (s : Scan) (c : ℕ) (cs : List ℕ) → StaysBy s c → IsStill s cs → IsStill s (c ∷ cs)
still_one_more s c cs b k = record {
  encoded = ap (λ v. v ++ encode_utf8_all cs) (encode_ascii c b.ascii) ∙ ap (λ v. c ∷ v) k.encoded;
  scans = λ d. ap (turn_run (λ t. run t (note_character s t c d) cs) d cs) b.goes ∙ (k.scans (note_character s s c d) ∙ ap (λ e. At s e) (ap (noted_all s cs) (b.says d) ∙ noted_more s (c ∷ []) cs d));
}

still_front : (s : Scan) (p : ℕ → Bool) → ((c : ℕ) → p c ≡ true → StaysBy s c) → (xs : List ℕ) (n : ℕ) → n ≤ prefix_len p xs → IsStill s (take n xs)
still_front s p f xs zero h = still_none s
still_front s p f [] (suc n) h = still_none s
still_front s p f (x ∷ xs) (suc n) h = by (p x) refl h (λ k. still_front s p f xs n k) where
  by : (b : Bool) → p x ≡ b → suc n ≤ cond b (1 + prefix_len p xs) 0 → (n ≤ prefix_len p xs → IsStill s (take n xs)) → IsStill s (x ∷ take n xs)
  by true e h more = still_one_more s x (take n xs) (f x e) (more (omega arith))
  by false e h more = absurd (omega arith)

-- ---- a value

pub value_xml : (q c : ℕ) → is_literal_of q c ≡ true → is_xml_char c ≡ true
unfolding is_xml_char
value_xml q c h = grind (arith, nat_tests)

pub value_ascii : (q c : ℕ) → is_literal_of q c ≡ true → c < 128
value_ascii q c h = grind (arith, nat_tests)

pub value_not : (q c : ℕ) → is_literal_of q c ≡ true → ((c == q) ≡ false) × ((c == 38) ≡ false) × ((c == 60) ≡ false) × ((c == 13) ≡ false) × ((c == 10) ≡ false)
value_not q c h = (grind (arith, nat_tests), grind (arith, nat_tests), grind (arith, nat_tests), grind (arith, nat_tests), grind (arith, nat_tests))

value_goes : (q c : ℕ) → is_literal_of q c ≡ true → step (Value q false) c ≡ Goes (Value q false)
value_goes q c h = let n = value_not q c h in rw (n.0, n.1, value_xml q c h, n.2, n.3) refl

-- the one white space among them
pub space_is : (q c : ℕ) → is_literal_of q c ≡ true → is_space c ≡ true → 32 ≡ c
unfolding is_space
space_is q c h k = grind (arith, nat_tests)

value_char : (q c : ℕ) → is_literal_of q c ≡ true → literal_char false c ≡ c ∷ []
value_char q c h = rw (value_not q c h).4 (by (is_space c) refl) where
  by : (b : Bool) → is_space c ≡ b → (if b then encode_utf8 32 else encode_utf8 c) ≡ c ∷ []
  by true e = ap encode_utf8 (space_is q c h e) ∙ encode_ascii c (value_ascii q c h)
  by false e = encode_ascii c (value_ascii q c h)

value_stays : (q c : ℕ) → is_literal_of q c ≡ true → StaysBy (Value q false) c
value_stays q c h = record { ascii = value_ascii q c h; goes = value_goes q c h; says = λ d. ap (λ v. add_value v d) (value_char q c h) }

pub value_still : (q : ℕ) (xs : List ℕ) (n : ℕ) → n ≤ prefix_len (is_literal_of q) xs → IsStill (Value q false) (take n xs)
value_still q xs n h = still_front (Value q false) (is_literal_of q) (value_stays q) xs n h

-- ---- a comment and an instruction

passed_ascii : (end c : ℕ) → is_passed end c ≡ true → c < 128
passed_ascii end c h = grind (arith, nat_tests)

passed_xml : (end c : ℕ) → is_passed end c ≡ true → is_xml_char c ≡ true
unfolding is_xml_char
passed_xml end c h = grind (arith, nat_tests)

passed_not : (end c : ℕ) → 32 ≤ end → is_passed end c ≡ true → (c == end) ≡ false
passed_not end c l h = grind (arith, nat_tests)

pub comment_still : (xs : List ℕ) (n : ℕ) → n ≤ prefix_len (is_passed 45) xs → IsStill CommentText (take n xs)
comment_still xs n h = still_front CommentText (is_passed 45) stays xs n h where
  stays : (c : ℕ) → is_passed 45 c ≡ true → StaysBy CommentText c
  stays c h = record { ascii = passed_ascii 45 c h; goes = rw (passed_not 45 c (omega arith) h, passed_xml 45 c h) refl; says = λ d. refl }

pub instruction_still : (xs : List ℕ) (n : ℕ) → n ≤ prefix_len (is_passed 63) xs → IsStill InstructionText (take n xs)
instruction_still xs n h = still_front InstructionText (is_passed 63) stays xs n h where
  stays : (c : ℕ) → is_passed 63 c ≡ true → StaysBy InstructionText c
  stays c h = record { ascii = passed_ascii 63 c h; goes = rw (passed_not 63 c (omega arith) h, passed_xml 63 c h) refl; says = λ d. refl }

-- ---- names

-- not right behind the colon
abbrev pub is_in_part : NameScan → Bool
is_in_part Colon = false
is_in_part _ = true

pub in_part : (part : NameScan) → (part ≡ Colon → ⊥) → is_in_part part ≡ true
in_part First n = refl
in_part Colon n = absurd (n refl)
in_part Second n = refl

module _ (c : ℕ) (h : continues_plain c ≡ true) where
  encoded : encode_utf8 c ≡ c ∷ []
  encoded = encode_ascii c (plain_ascii c h)

  more : (n : Spelled) → record { prefix = n.prefix; local = n.local ++ encode_utf8 c } ≡ extend_name (c ∷ []) n
  more n = ap (λ v. record { prefix = n.prefix; local = n.local ++ v }) encoded

  start_stays : (part : NameScan) → is_in_part part ≡ true → StaysBy (StartName part) c
  start_stays First k = record { ascii = plain_ascii c h; goes = rw (continues_name c h) refl; says = λ d. ap (λ v. record { name = v; given = d.given; attribute = d.attribute; value = d.value }) (more d.name) }
  start_stays Second k = record { ascii = plain_ascii c h; goes = rw (continues_name c h) refl; says = λ d. ap (λ v. record { name = v; given = d.given; attribute = d.attribute; value = d.value }) (more d.name) }
  start_stays Colon k = absurd (both_ways false refl k)

  end_stays : (part : NameScan) → is_in_part part ≡ true → StaysBy (EndName part) c
  end_stays First k = record { ascii = plain_ascii c h; goes = rw (continues_name c h) refl; says = λ d. ap (λ v. record { name = v; given = d.given; attribute = d.attribute; value = d.value }) (more d.name) }
  end_stays Second k = record { ascii = plain_ascii c h; goes = rw (continues_name c h) refl; says = λ d. ap (λ v. record { name = v; given = d.given; attribute = d.attribute; value = d.value }) (more d.name) }
  end_stays Colon k = absurd (both_ways false refl k)

  attribute_stays : (part : NameScan) → is_in_part part ≡ true → StaysBy (AttributeName part) c
  attribute_stays First k = record { ascii = plain_ascii c h; goes = rw (continues_name c h) refl; says = λ d. ap (λ v. record { name = d.name; given = d.given; attribute = v; value = d.value }) (more d.attribute) }
  attribute_stays Second k = record { ascii = plain_ascii c h; goes = rw (continues_name c h) refl; says = λ d. ap (λ v. record { name = d.name; given = d.given; attribute = v; value = d.value }) (more d.attribute) }
  attribute_stays Colon k = absurd (both_ways false refl k)

module _ (part : NameScan) (k : is_in_part part ≡ true) (xs : List ℕ) (n : ℕ) (h : n ≤ prefix_len continues_plain xs) where
  pub start_still : IsStill (StartName part) (take n xs)
  start_still = still_front (StartName part) continues_plain (λ c e. start_stays c e part k) xs n h

  pub end_still : IsStill (EndName part) (take n xs)
  end_still = still_front (EndName part) continues_plain (λ c e. end_stays c e part k) xs n h

  pub attribute_still : IsStill (AttributeName part) (take n xs)
  attribute_still = still_front (AttributeName part) continues_plain (λ c e. attribute_stays c e part k) xs n h
