-- A text of a comment or an instruction up to its end, found from the front a character at a time.
use Rattle.std.proofs.Common.{◌≡◌, ℕ, zero, suc, Bool, true, false, ◌==◌, not, nat_le, cond, ◌+◌, ◌<◌, ◌≤◌, List, [], ◌∷◌, ◌++◌, length, drop, refl, sym, ◌∙◌, ap, subst, append_assoc, length-append, arith}
use Rattle.std.specs.Char.{encode_utf8}
use Rattle.std.specs.Str.{encode_utf8_all}
use Rattle.std.specs.List.{list_all, prefix_len}
use Rattle.std.proofs.lemmas.Bool.{and_parts, and_from, both_ways, eqb-true, eqb-false, ne_eqb}
use Rattle.std.proofs.lemmas.Bool.Decides.{nat_tests}
use Rattle.std.proofs.lemmas.Str.{encode_ascii, encode_same, encodes-append}
use Rattle.std.proofs.Math.Seq.{drop-append_seam}
use Rattle.markup.specs.Ascii.{is_ascii}
use Rattle.markup.specs.Chars.{is_xml_char}
use Rattle.markup.specs.Token.{Token, Comment as CommentToken, Instruction as InstructionToken, Opener, Closer, is_comment, is_instruction, is_instruction_text, token_bytes}
use Rattle.markup.specs.Asides.{is_aside_in, is_plain_aside}
use Rattle.markup.specs.PlainTags.{is_plain_name}
use Rattle.markup.specs.Literals.{IsWideAt}
use Rattle.markup.specs.inner.AsideTexts.{comment_end, instruction_end, text_end, is_text_of, behind_mark, IsTextEnded, IsEndedTextAt, IsAsideAt, LeadsToEnd}
use Rattle.markup.specs.declared.scan.Ended.TheVariants.{Passed as PassedEnded, Opener as OpenerEnded, Closer as CloserEnded}
use Rattle.markup.specs.inner.Inside.{is_passed, passed_end}
use Rattle.markup.specs.declared.classes.Passed.{Passed}
use Rattle.markup.specs.declared.classes.Passed.TheVariants.{Comment, Instruction}
use Rattle.markup.proofs.Spans.{heads, tails}
use Rattle.markup.proofs.TextSound.{comment_more, instruction_more, instruction_mark}

pub leads_none : (is : List ℕ → Bool) (end piece : List ℕ) → LeadsToEnd is end piece piece
leads_none is end piece = record { back = λ text after e. (text, e); on = λ text after a e. (text, a, e) }

pub leads_then : (is : List ℕ → Bool) (end piece left others : List ℕ) → LeadsToEnd is end piece left → LeadsToEnd is end left others → LeadsToEnd is end piece others
leads_then is end piece left others x y = record {
  back = λ text after e. (let k = y.back text after e in x.back k.0 after k.1);
  on = λ text after a e. (let k = x.on text after a e in y.on k.0 after k.1 k.2);
}

-- one character more
module _ (is : List ℕ → Bool) (end : List ℕ) (c : ℕ) (piece left : List ℕ) (front : piece ≡ encode_utf8 c ++ left)
    (joins : (text after : List ℕ) → IsTextEnded is end left text after → is (c ∷ text) ≡ true)
    (parts : (text : List ℕ) → is (c ∷ text) ≡ true → is text ≡ true)
    (no_end : (after : List ℕ) → piece ≡ end ++ after → ⊥) where
  step_on : (text after : List ℕ) → list_all is_ascii text ≡ true → IsTextEnded is end piece text after → (others : List ℕ) × (list_all is_ascii others ≡ true) × IsTextEnded is end left others after
  step_on [] after a e = absurd (no_end after e.spelled)
  step_on (d ∷ ds) after a e =
      let k = encode_same d c (encode_utf8_all ds ++ (end ++ after)) left (sym (append_assoc (encode_utf8 d) (encode_utf8_all ds) (end ++ after)) ∙ (sym e.spelled ∙ front)) in
      (ds, (and_parts _ _ a).1, record { allowed = parts ds (subst (λ x. is (x ∷ ds) ≡ true) k.0 e.allowed); spelled = sym k.1 })

  pub leads_step : LeadsToEnd is end piece left
  leads_step = record {
    back = λ text after e. (
      c ∷ text,
      record {
        allowed = joins text after e;
        spelled = front ∙ (ap (λ v. encode_utf8 c ++ v) e.spelled ∙ sym (append_assoc (encode_utf8 c) (encode_utf8_all text) (end ++ after)));
      },
    );
    on = step_on;
  }

-- a run of characters of a class that leads on
pub leads_run : (is : List ℕ → Bool) (end : List ℕ) (p : ℕ → Bool) → ((c : ℕ) (left : List ℕ) → p c ≡ true → LeadsToEnd is end (c ∷ left) left) → (xs : List ℕ) (n : ℕ) → n ≤ prefix_len p xs → LeadsToEnd is end xs (drop n xs)
leads_run is end p one xs zero h = leads_none is end xs
leads_run is end p one [] (suc n) h = leads_none is end []
leads_run is end p one (x ∷ xs) (suc n) h = by (p x) refl h (λ k. leads_run is end p one xs n k) where
  by : (b : Bool) → p x ≡ b → suc n ≤ cond b (1 + prefix_len p xs) 0 → (n ≤ prefix_len p xs → LeadsToEnd is end xs (drop n xs)) → LeadsToEnd is end (x ∷ xs) (drop n xs)
  by true e h more = leads_then is end (x ∷ xs) xs (drop n xs) (one x xs e) (more (omega arith))
  by false e h more = absurd (omega arith)

-- ---- characters of comments and instructions

none_of : (kind : Passed) → is_text_of kind [] ≡ true
none_of Comment = refl
none_of Instruction = refl

parts_of : (kind : Passed) (c : ℕ) (cs : List ℕ) → is_text_of kind (c ∷ cs) ≡ true → (is_xml_char c ≡ true) × (is_text_of kind cs ≡ true)
parts_of Comment c [] h = ((and_parts _ _ h).0, refl)
parts_of Comment c (d ∷ cs) h = ((and_parts _ _ (and_parts _ _ h).0).0, (and_parts _ _ h).1)
parts_of Instruction c [] h = (h, refl)
parts_of Instruction c (d ∷ cs) h = ((and_parts _ _ (and_parts _ _ h).0).0, (and_parts _ _ h).1)

more_of : (kind : Passed) (c : ℕ) (cs : List ℕ) → is_xml_char c ≡ true → (c == passed_end kind) ≡ false → is_text_of kind cs ≡ true → is_text_of kind (c ∷ cs) ≡ true
more_of Comment c cs x n h = comment_more c cs x n h
more_of Instruction c cs x n h = instruction_more c cs x n h

-- an end begins with its mark
no_mark : (kind : Passed) (c : ℕ) (left after : List ℕ) → (c == passed_end kind) ≡ false → encode_utf8 c ++ left ≡ text_end kind ++ after → ⊥
unfolding encode_utf8
no_mark Comment c left after n e = eqb-false c 45 n (encode_same c 45 left (45 ∷ 62 ∷ after) e).0
no_mark Instruction c left after n e = eqb-false c 63 n (encode_same c 63 left (62 ∷ after) e).0

other_leads : (kind : Passed) (c : ℕ) (piece left : List ℕ) → piece ≡ encode_utf8 c ++ left → is_xml_char c ≡ true → (c == passed_end kind) ≡ false → LeadsToEnd (is_text_of kind) (text_end kind) piece left
other_leads kind c piece left e x n = leads_step (is_text_of kind) (text_end kind) c piece left e (λ text after k. more_of kind c text x n k.allowed) (λ text k. (parts_of kind c text k).1) (λ after k. no_mark kind c left after n (sym e ∙ k))

passed_facts : (mark c : ℕ) → is_passed mark c ≡ true → mark < 128 → 32 < mark → (is_xml_char c ≡ true) × ((c == mark) ≡ false) × (c < 128)
unfolding is_xml_char
passed_facts mark c h l g = (grind (arith, nat_tests), grind (arith, nat_tests), grind (arith, nat_tests))

facts_of : (kind : Passed) (c : ℕ) → is_passed (passed_end kind) c ≡ true → (is_xml_char c ≡ true) × ((c == passed_end kind) ≡ false) × (c < 128)
facts_of Comment c h = passed_facts 45 c h (omega arith) (omega arith)
facts_of Instruction c h = passed_facts 63 c h (omega arith) (omega arith)

-- a character in ASCII that begins no end
pub one_passed : (kind : Passed) (c : ℕ) (piece left : List ℕ) → piece ≡ c ∷ left → is_passed (passed_end kind) c ≡ true → LeadsToEnd (is_text_of kind) (text_end kind) piece left
one_passed kind c piece left e h =
    let f = facts_of kind c h in
    other_leads kind c piece left (e ∙ ap (λ v. v ++ left) (sym (encode_ascii c f.2))) f.0 f.1

-- a run of them
pub run_passed : (kind : Passed) (xs : List ℕ) (n : ℕ) → n ≤ prefix_len (is_passed (passed_end kind)) xs → LeadsToEnd (is_text_of kind) (text_end kind) xs (drop n xs)
run_passed kind xs n h = leads_run (is_text_of kind) (text_end kind) (is_passed (passed_end kind)) (λ c left e. one_passed kind c (c ∷ left) left refl e) xs n h

-- a character of several bytes
pub wide_passed : (kind : Passed) (n : ℕ) (piece : List ℕ) → IsWideAt piece n → LeadsToEnd (is_text_of kind) (text_end kind) piece (drop n piece)
wide_passed kind n piece w = other_leads kind w.is_at.char piece (drop n piece) (w.is_at.joined ∙ ap (λ v. encode_utf8 w.is_at.char ++ v) (sym behind)) w.is_at.allowed (wide_other kind w.is_at.char w.wide) where
  behind : drop n piece ≡ w.is_at.rest
  behind = ap (λ m. drop m piece) (sym w.is_at.size_is) ∙ (ap (drop (length (encode_utf8 w.is_at.char))) w.is_at.joined ∙ drop-append_seam (encode_utf8 w.is_at.char) w.is_at.rest)

  wide_other : (kind : Passed) (c : ℕ) → nat_le 128 c ≡ true → (c == passed_end kind) ≡ false
  wide_other Comment c h = grind (arith, nat_tests)
  wide_other Instruction c h = grind (arith, nat_tests)

-- a mark behind which what makes it no character does not stand
mark_joins : (kind : Passed) (cs : List ℕ) → is_text_of kind cs ≡ true → (kind ≡ Comment → cs ≡ [] → ⊥) → ((d : ℕ) (ds : List ℕ) → cs ≡ d ∷ ds → (d == behind_mark kind) ≡ false) → is_text_of kind (passed_end kind ∷ cs) ≡ true
unfolding is_xml_char
mark_joins Comment [] h some other = absurd (some refl refl)
mark_joins Comment (d ∷ cs) h some other = and_from _ _ (and_from _ _ refl (ap not (other d cs refl))) h
mark_joins Instruction [] h some other = refl
mark_joins Instruction (d ∷ cs) h some other = instruction_mark d cs (other d cs refl) h

-- where the text ends right behind a hyphen, the end's hyphen stands there
behind_none : (kind : Passed) (after left : List ℕ) → ((rest : List ℕ) → left ≡ behind_mark kind ∷ rest → ⊥) → left ≡ text_end kind ++ after → kind ≡ Comment → ⊥
behind_none Comment after left other e k = other (45 ∷ 62 ∷ after) e
behind_none Instruction after left other e k = absurd (cc)

one_byte : (kind : Passed) (rest : List ℕ) → encode_utf8 (behind_mark kind) ++ rest ≡ behind_mark kind ∷ rest
unfolding encode_utf8
one_byte Comment rest = refl
one_byte Instruction rest = refl

mark_byte : (kind : Passed) (rest : List ℕ) → encode_utf8 (passed_end kind) ++ rest ≡ passed_end kind ∷ rest
unfolding encode_utf8
mark_byte Comment rest = refl
mark_byte Instruction rest = refl

second_byte : (kind : Passed) (after : List ℕ) → (rest : List ℕ) × (text_end kind ++ after ≡ passed_end kind ∷ behind_mark kind ∷ rest)
second_byte Comment after = (62 ∷ after, refl)
second_byte Instruction after = (after, refl)

module _ (kind : Passed) (piece left : List ℕ) (front : piece ≡ passed_end kind ∷ left) (other : (rest : List ℕ) → left ≡ behind_mark kind ∷ rest → ⊥) where
  joins : (text after : List ℕ) → IsTextEnded (is_text_of kind) (text_end kind) left text after → is_text_of kind (passed_end kind ∷ text) ≡ true
  joins text after e = mark_joins kind text e.allowed (λ k n. behind_none kind after left other (e.spelled ∙ ap (λ v. encode_utf8_all v ++ (text_end kind ++ after)) n) k) (λ d ds k. by d ds k (d == behind_mark kind) refl) where
    by : (d : ℕ) (ds : List ℕ) → text ≡ d ∷ ds → (b : Bool) → (d == behind_mark kind) ≡ b → (d == behind_mark kind) ≡ false
    by d ds k false h = h
    by d ds k true h = absurd (other (encode_utf8_all ds ++ (text_end kind ++ after))
        (e.spelled ∙ (ap (λ v. encode_utf8_all v ++ (text_end kind ++ after)) (k ∙ ap (λ x. x ∷ ds) (eqb-true d (behind_mark kind) h))
        ∙ (append_assoc (encode_utf8 (behind_mark kind)) (encode_utf8_all ds) (text_end kind ++ after) ∙ one_byte kind (encode_utf8_all ds ++ (text_end kind ++ after))))))

  pub one_mark : LeadsToEnd (is_text_of kind) (text_end kind) piece left
  one_mark = leads_step (is_text_of kind) (text_end kind) (passed_end kind) piece left (front ∙ sym (mark_byte kind left)) joins (λ text k. (parts_of kind (passed_end kind) text k).1)
      (λ after k. let s = second_byte kind after in other s.0 (tails (passed_end kind) (passed_end kind) left (behind_mark kind ∷ s.0) (sym front ∙ (k ∙ s.1))))

-- ---- where a text goes on, it is seen to

pub ascii_front : (kind : Passed) (c : ℕ) (text after piece : List ℕ) → is_ascii c ≡ true → IsTextEnded (is_text_of kind) (text_end kind) piece (c ∷ text) after → (is_xml_char c ≡ true) × (c < 128) × (piece ≡ c ∷ (encode_utf8_all text ++ (text_end kind ++ after)))
ascii_front kind c text after piece a e =
    let l : c < 128 = below c a in
    ((parts_of kind c text e.allowed).0, l, e.spelled ∙ ap (λ v. (v ++ encode_utf8_all text) ++ (text_end kind ++ after)) (encode_ascii c l)) where
      below : (c : ℕ) → is_ascii c ≡ true → c < 128
      below c h = grind (arith, nat_tests)

-- behind a mark in a text such a byte does not come
mark_alone : (kind : Passed) (text after left : List ℕ) → is_text_of kind (passed_end kind ∷ text) ≡ true → left ≡ encode_utf8_all text ++ (text_end kind ++ after) → (rest : List ℕ) → left ≡ behind_mark kind ∷ rest → ⊥
unfolding is_xml_char encode_utf8
mark_alone Comment [] after left h e rest k = both_ways false refl h
mark_alone Comment (d ∷ ds) after left h e rest k =
    let s = encode_same d 45 (encode_utf8_all ds ++ (comment_end ++ after)) rest (sym (append_assoc (encode_utf8 d) (encode_utf8_all ds) (comment_end ++ after)) ∙ (sym e ∙ k)) in
    both_ways (is_comment (45 ∷ d ∷ ds)) (subst (λ x. is_comment (45 ∷ x ∷ ds) ≡ false) (sym s.0) refl) h
mark_alone Instruction [] after left h e rest k = omega (heads 63 62 (62 ∷ after) rest (sym e ∙ k), arith)
mark_alone Instruction (d ∷ ds) after left h e rest k =
    let s = encode_same d 62 (encode_utf8_all ds ++ (instruction_end ++ after)) rest (sym (append_assoc (encode_utf8 d) (encode_utf8_all ds) (instruction_end ++ after)) ∙ (sym e ∙ k)) in
    both_ways (is_instruction_text (63 ∷ d ∷ ds)) (subst (λ x. is_instruction_text (63 ∷ x ∷ ds) ≡ false) (sym s.0) refl) h

passed_or_mark : (mark c : ℕ) → is_xml_char c ≡ true → c < 128 → (c == mark) ≡ false → is_passed mark c ≡ true
unfolding is_xml_char
passed_or_mark mark c h l n = grind (arith, nat_tests)

-- so a mark before it begins no character of the text
pub mark_at : (kind : Passed) (c : ℕ) (text after piece left rest : List ℕ) → is_ascii c ≡ true → IsTextEnded (is_text_of kind) (text_end kind) piece (c ∷ text) after → piece ≡ passed_end kind ∷ left → left ≡ behind_mark kind ∷ rest → ⊥
mark_at kind c text after piece left rest a e f k =
    let h = ascii_front kind c text after piece a e in
    let same : c ∷ (encode_utf8_all text ++ (text_end kind ++ after)) ≡ passed_end kind ∷ left = sym h.2 ∙ f in
    mark_alone kind text after left (subst (λ x. is_text_of kind (x ∷ text) ≡ true) (heads c (passed_end kind) _ _ same) e.allowed) (sym (tails c (passed_end kind) _ _ same)) rest k

-- nor does a byte of ASCII that is neither passed nor a mark
pub passed_at : (kind : Passed) (c x : ℕ) (text after piece left : List ℕ) → is_ascii c ≡ true → IsTextEnded (is_text_of kind) (text_end kind) piece (c ∷ text) after → piece ≡ x ∷ left → (x ≡ passed_end kind → ⊥) → is_passed (passed_end kind) x ≡ false → ⊥
passed_at kind c x text after piece left a e f n p =
    let h = ascii_front kind c text after piece a e in
    let same : c ≡ x = heads c x _ _ (sym h.2 ∙ f) in
    both_ways (is_passed (passed_end kind) c) (subst (λ v. is_passed (passed_end kind) v ≡ false) (sym same) p) (passed_or_mark (passed_end kind) c h.0 h.1 (ne_eqb c (passed_end kind) (λ k. n (sym same ∙ k))))

-- ---- a whole text

pub text_found : (kind : Passed) (piece left after : List ℕ) (n : ℕ) → LeadsToEnd (is_text_of kind) (text_end kind) piece left → left ≡ text_end kind ++ after → n + length after ≡ length piece → IsEndedTextAt (is_text_of kind) (text_end kind) piece n
text_found kind piece left after n l e size =
    let k = l.back [] after (record { allowed = none_of kind; spelled = e }) in
    record { text = k.0; after = after; ended = k.1; size_is = size }

-- where no character goes on and no end comes, no text in ASCII ends
pub goes_on : (kind : Passed) (piece left : List ℕ) (n : ℕ) → LeadsToEnd (is_text_of kind) (text_end kind) piece left → ((rest : List ℕ) → left ≡ text_end kind ++ rest → ⊥)
    → ((c : ℕ) (text after : List ℕ) → is_ascii c ≡ true → IsTextEnded (is_text_of kind) (text_end kind) left (c ∷ text) after → 0 < n) → n ≡ 0 → (text after : List ℕ) → list_all is_ascii text ≡ true → IsTextEnded (is_text_of kind) (text_end kind) piece text after → ⊥
goes_on kind piece left n l no_end more none text after a e = (let k = l.on text after a e in by k.0 k.1 k.2) where
  by : (others : List ℕ) → list_all is_ascii others ≡ true → IsTextEnded (is_text_of kind) (text_end kind) left others after → ⊥
  by [] b f = no_end after f.spelled
  by (c ∷ others) b f = omega (arith, more c others after (and_parts _ _ b).0 f, none)

-- ---- tokens

comment_bytes : (text after : List ℕ) → token_bytes (CommentToken text) ++ after ≡ 60 ∷ 33 ∷ 45 ∷ 45 ∷ (encode_utf8_all text ++ (comment_end ++ after))
unfolding encode_utf8
comment_bytes text after = ap (λ v. 60 ∷ 33 ∷ 45 ∷ 45 ∷ (v ++ after)) (encodes-append text comment_end) ∙ ap (λ v. 60 ∷ 33 ∷ 45 ∷ 45 ∷ v) (append_assoc (encode_utf8_all text) comment_end after)

pub comment_aside : (piece part : List ℕ) (n : ℕ) → piece ≡ 60 ∷ 33 ∷ 45 ∷ 45 ∷ part → IsEndedTextAt is_comment comment_end part n → IsAsideAt false piece PassedEnded (n + 4)
comment_aside piece part n e t =
    let whole : piece ≡ token_bytes (CommentToken t.text) ++ t.after = e ∙ (ap (λ v. 60 ∷ 33 ∷ 45 ∷ 45 ∷ v) t.ended.spelled ∙ sym (comment_bytes t.text t.after)) in
    record {
      token = CommentToken t.text;
      after = t.after;
      is = t.ended.allowed;
      ended_is = refl;
      spelled = whole;
      size_is = omega (arith, t.size_is, ap length e, ap length whole, length-append (token_bytes (CommentToken t.text)) t.after);
    }

pub comment_there : (piece text rest : List ℕ) → piece ≡ token_bytes (CommentToken text) ++ rest → piece ≡ 60 ∷ 33 ∷ 45 ∷ 45 ∷ (encode_utf8_all text ++ (comment_end ++ rest))
comment_there piece text rest e = e ∙ comment_bytes text rest

pub opener_aside : (piece rest : List ℕ) → piece ≡ 60 ∷ 33 ∷ 91 ∷ 67 ∷ 68 ∷ 65 ∷ 84 ∷ 65 ∷ 91 ∷ rest → IsAsideAt false piece OpenerEnded 9
unfolding encode_utf8
opener_aside piece rest e = record { token = Opener; after = rest; is = refl; ended_is = refl; spelled = e; size_is = refl }

pub closer_aside : (piece rest : List ℕ) → piece ≡ 93 ∷ 93 ∷ 62 ∷ rest → IsAsideAt true piece CloserEnded 3
unfolding encode_utf8
closer_aside piece rest e = record { token = Closer; after = rest; is = refl; ended_is = refl; spelled = e; size_is = refl }

-- which tokens may stand outside a section
pub by_aside : (P : Type 0) (piece : List ℕ) (t : Token) (rest : List ℕ) → is_aside_in false t ≡ true → is_plain_aside t ≡ true → piece ≡ token_bytes t ++ rest
    → ((text : List ℕ) → is_comment text ≡ true → list_all is_ascii text ≡ true → piece ≡ token_bytes (CommentToken text) ++ rest → P)
    → ((target text : List ℕ) → is_instruction target text ≡ true → is_plain_name target ≡ true → list_all is_ascii text ≡ true → piece ≡ token_bytes (InstructionToken target text) ++ rest → P)
    → (piece ≡ 60 ∷ 33 ∷ 91 ∷ 67 ∷ 68 ∷ 65 ∷ 84 ∷ 65 ∷ 91 ∷ rest → P) → P
unfolding encode_utf8
by_aside P piece (CommentToken text) rest h p e comment instruction opener = comment text h p e
by_aside P piece (InstructionToken target text) rest h p e comment instruction opener = let a = and_parts (is_plain_name target) (list_all is_ascii text) p in instruction target text h a.0 a.1 e
by_aside P piece Opener rest h p e comment instruction opener = opener e
by_aside P piece _ rest h p e comment instruction opener = absurd (both_ways false refl h)
