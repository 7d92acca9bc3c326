-- Whole instructions at the front of a piece: a plain target, and what stands behind it up to the end.
use Rattle.std.proofs.Common.{◌≡◌, ℕ, true, false, cond, not, ◌+◌, ◌<◌, List, [], ◌∷◌, ◌++◌, length, take, drop, refl, sym, ◌∙◌, ap, subst, append_assoc, length-append, arith}
use Rattle.std.specs.Char.{encode_utf8}
use Rattle.std.specs.Str.{encode_utf8_all}
use Rattle.std.specs.List.{prefix_len}
use Rattle.std.proofs.lemmas.Bool.{and_parts, and_from, not-true}
use Rattle.std.proofs.lemmas.Bool.Decides.{nat_tests}
use Rattle.std.proofs.lemmas.Str.{encode_ascii, encode_same, encodes-append}
use Rattle.std.proofs.Math.Seq.{take-append_seam}
use Rattle.markup.specs.Chars.{is_space}
use Rattle.markup.specs.PlainTags.{continues_plain, is_plain_name}
use Rattle.markup.specs.Token.{Instruction, is_instruction, is_instruction_text, is_xml_word, token_bytes}
use Rattle.markup.specs.inner.AsideTexts.{instruction_end, is_behind_target, is_plain_target, IsTextEnded, IsEndedTextAt, IsAsideAt}
use Rattle.markup.specs.declared.scan.Ended.TheVariants.{Passed}
use Rattle.markup.proofs.CharLemmas.{space_ascii}
use Rattle.markup.proofs.PlainTagLemmas.{plain_is_part, plain_encoded}
use Rattle.markup.proofs.NamesFound.{some_name, name_size, behind_front}

-- ---- the target

pub target_found : (piece target : List ℕ) (n : ℕ) → target ≡ take n piece → is_plain_name (take n piece) ≡ true → is_xml_word target ≡ false → is_plain_target (take n piece) ≡ true
target_found piece target n t p w = and_from _ _ p (ap not (ap is_xml_word (sym t) ∙ w))

-- the target at the front is the name that is found there, and not the word
pub target_is : (piece target behind found : List ℕ) (n : ℕ) → is_plain_target target ≡ true → piece ≡ target ++ behind → prefix_len continues_plain behind ≡ 0 → n ≡ prefix_len continues_plain piece → found ≡ take n piece → (n ≡ length target) × (0 < n) × (is_xml_word found ≡ false)
target_is piece target behind found n p e s c t =
    let a = and_parts (is_plain_name target) (not (is_xml_word target)) p in
    let k : n ≡ length target = name_size piece target behind n a.0 e s c in
    (k, omega (arith, k, some_name target a.0), ap is_xml_word (t ∙ (ap (λ m. take m piece) k ∙ (ap (take (length target)) e ∙ take-append_seam target behind))) ∙ not-true (is_xml_word target) a.1)

-- ---- what stands behind it

space_ends : (c : ℕ) → is_space c ≡ true → continues_plain c ≡ false
unfolding is_space
space_ends c h = grind (arith, nat_tests)

space_front : (c : ℕ) (text : List ℕ) → is_space c ≡ true → encode_utf8_all (c ∷ text) ≡ c ∷ encode_utf8_all text
space_front c text h = ap (λ v. v ++ encode_utf8_all text) (encode_ascii c (space_ascii c h))

pub end_alone : (piece rest : List ℕ) → piece ≡ 63 ∷ 62 ∷ rest → IsEndedTextAt is_behind_target instruction_end piece 2
end_alone piece rest e = record { text = []; after = rest; ended = record { allowed = refl; spelled = e }; size_is = omega (arith, ap length e) }

text_is_behind : (piece text after more : List ℕ) (first : ℕ) → piece ≡ first ∷ more → is_space first ≡ true → IsTextEnded is_instruction_text instruction_end piece text after → is_behind_target text ≡ true
text_is_behind piece [] after more first f s e = refl
text_is_behind piece (c ∷ text) after more first f s e =
    let k = encode_same c first (encode_utf8_all text ++ (instruction_end ++ after)) more
    (sym (append_assoc (encode_utf8 c) (encode_utf8_all text) (instruction_end ++ after)) ∙ (sym e.spelled ∙ (f ∙ ap (λ v. v ++ more) (sym (encode_ascii first (space_ascii first s)))))) in
    and_from _ _ (subst (λ v. is_space v ≡ true) (sym k.0) s) e.allowed

pub behind_found : (piece more : List ℕ) (first n : ℕ) → piece ≡ first ∷ more → is_space first ≡ true → IsEndedTextAt is_instruction_text instruction_end piece n → IsEndedTextAt is_behind_target instruction_end piece n
behind_found piece more first n f s t = record { text = t.text; after = t.after; ended = record { allowed = text_is_behind piece t.text t.after more first f s t.ended; spelled = t.ended.spelled }; size_is = t.size_is }

-- no name goes on there
stops_there : (text after : List ℕ) → is_behind_target text ≡ true → prefix_len continues_plain (encode_utf8_all text ++ (instruction_end ++ after)) ≡ 0
stops_there [] after h = refl
stops_there (c ∷ text) after h =
    let s = (and_parts (is_space c) (is_instruction_text (c ∷ text)) h).0 in
    ap (λ v. prefix_len continues_plain (v ++ (instruction_end ++ after))) (space_front c text s) ∙ ap (λ t. cond t (1 + prefix_len continues_plain (encode_utf8_all text ++ (instruction_end ++ after))) 0) (space_ends c s)

-- ---- the whole

instruction_made : (target text : List ℕ) → is_plain_target target ≡ true → is_behind_target text ≡ true → is_instruction target text ≡ true
instruction_made target [] p b = let a = and_parts (is_plain_name target) (not (is_xml_word target)) p in and_from _ _ (plain_is_part target a.0) a.1
instruction_made target (c ∷ text) p b =
    let a = and_parts (is_plain_name target) (not (is_xml_word target)) p in
    let t = and_parts (is_space c) (is_instruction_text (c ∷ text)) b in and_from _ _ (and_from _ _ (and_from _ _ (plain_is_part target a.0) a.1) t.0) t.1

instruction_parts : (target text : List ℕ) → is_instruction target text ≡ true → is_plain_name target ≡ true → (is_plain_target target ≡ true) × (is_behind_target text ≡ true)
instruction_parts target [] h p = (and_from _ _ p (and_parts _ _ h).1, refl)
instruction_parts target (c ∷ text) h p =
    let a = and_parts _ _ h in
    let b = and_parts _ _ a.0 in (and_from _ _ p (and_parts _ _ b.0).1, and_from _ _ b.1 a.1)

instruction_bytes : (target text after : List ℕ) → is_plain_name target ≡ true → token_bytes (Instruction target text) ++ after ≡ 60 ∷ 63 ∷ (target ++ (encode_utf8_all text ++ (instruction_end ++ after)))
unfolding encode_utf8
instruction_bytes target text after p =
    ap (λ v. 60 ∷ 63 ∷ (v ++ after)) (encodes-append (target ++ text) instruction_end ∙ ap (λ v. v ++ instruction_end) (encodes-append target text ∙ ap (λ v. v ++ encode_utf8_all text) (plain_encoded target p)))
    ∙ ap (λ v. 60 ∷ 63 ∷ v) (append_assoc (target ++ encode_utf8_all text) instruction_end after ∙ append_assoc target (encode_utf8_all text) (instruction_end ++ after))

pub instruction_aside : (piece named target behind : List ℕ) (n m : ℕ) → piece ≡ 60 ∷ 63 ∷ named → named ≡ target ++ behind → n ≡ length target → is_plain_target target ≡ true → IsEndedTextAt is_behind_target instruction_end behind m → IsAsideAt false piece Passed (n + m + 2)
instruction_aside piece named target behind n m e f k p t =
    let a = and_parts (is_plain_name target) (not (is_xml_word target)) p in
    let whole : piece ≡ token_bytes (Instruction target t.text) ++ t.after = e ∙ (ap (λ v. 60 ∷ 63 ∷ v) (f ∙ ap (λ v. target ++ v) t.ended.spelled) ∙ sym (instruction_bytes target t.text t.after a.0)) in
    record {
      token = Instruction target t.text;
      after = t.after;
      is = instruction_made target t.text p t.ended.allowed;
      ended_is = refl;
      spelled = whole;
      size_is = omega (arith, t.size_is, k, ap length e, ap length f, length-append target behind, ap length whole, length-append (token_bytes (Instruction target t.text)) t.after);
    }

-- What stands there where an instruction does that is in ASCII.
pub record IsInstructionThere (piece target text rest : List ℕ) : Type 0 where
  pub plain : is_plain_target target ≡ true
  pub behind : List ℕ
  pub spelled : piece ≡ 60 ∷ 63 ∷ (target ++ behind)
  pub stops : prefix_len continues_plain behind ≡ 0
  pub ended : IsTextEnded is_behind_target instruction_end behind text rest

pub instruction_there : (piece target text rest : List ℕ) → is_instruction target text ≡ true → is_plain_name target ≡ true → piece ≡ token_bytes (Instruction target text) ++ rest → IsInstructionThere piece target text rest
instruction_there piece target text rest h p e = let k = instruction_parts target text h p in record {
  plain = k.0;
  behind = encode_utf8_all text ++ (instruction_end ++ rest);
  spelled = e ∙ instruction_bytes target text rest p;
  stops = stops_there text rest k.1;
  ended = record { allowed = k.1; spelled = refl };
}

-- and what is left behind the target
pub behind_target : (piece target text rest named behind : List ℕ) (n : ℕ) → (t : IsInstructionThere piece target text rest) → named ≡ target ++ t.behind → n ≡ length target → behind ≡ drop n named → IsTextEnded is_behind_target instruction_end behind text rest
behind_target piece target text rest named behind n t e k d = subst (λ v. IsTextEnded is_behind_target instruction_end v text rest) (sym (behind_front named target t.behind behind n e k d)) t.ended
