-- The text of what a reader has told, where the bytes begin with it: it is within the bytes, and behind it is no more than the open token.
use Rattle.std.proofs.Common.{◌≡◌, ℕ, ◌+◌, ◌-◌, ◌≤◌, List, [], ◌∷◌, ◌++◌, length, refl, sym, ap, subst, ◌∙◌, append-nil, length-append, arith}
use Rattle.std.specs.List.{flat_map}
use Rattle.std.proofs.lemmas.List.{append_cancel_left}
use Rattle.lexical_core.specs.Tree.{Item}
use Rattle.markup.specs.Token.{Token, token_bytes}
use Rattle.markup.specs.Marks.{Front, no_limit}
use Rattle.markup.specs.Events.{Placed, events}
use Rattle.markup.specs.Faults.{IsClean}
use Rattle.markup.specs.Reading.{HasTakenUnder, token_length}
use Rattle.markup.specs.declared.reader.Reader.{Reader}
use Rattle.markup.proofs.InputLemmas.{front_bytes}
use Rattle.markup.proofs.Stays.{events_stay, events_are_all}
use Rattle.markup.proofs.TokensBehind.{items_in, events_items}
use Rattle.respell.specs.Respelling.{respelled_text}
use Rattle.respell.specs.inner.FragmentReading.{NoneForeign}
use Rattle.respell.proofs.FragmentFronts.{items}
use Rattle.respell.proofs.Runs.{tokens-append}
use Rattle.respell.proofs.SpelledTokens.{AreSpelled, all_spelled, spelled_text, spelled_within}
use Rattle.respell.proofs.WholePlain.{AllPlain, events_are_plain}

-- the tokens whose events were told
told_spelled : (bytes rest more : List ℕ) (told : List Placed) (ts : List Token) → Front no_limit [] bytes ts rest → IsClean [] ts → told ≡ events [] 0 ts → NoneForeign 0 (items told) → respelled_text [] (items told) ++ more ≡ bytes → AreSpelled [] [] ts
told_spelled bytes rest more told ts front clean is inside e =
    let i : items told ≡ items_in [] ts = ap items is ∙ events_items [] 0 ts in
    all_spelled no_limit ts bytes rest more front clean (subst AllPlain (events_items [] 0 ts) (events_are_plain no_limit bytes ts rest front clean)) (subst (λ (l : List Item). NoneForeign 0 l) i inside) (subst (λ (l : List Item). respelled_text [] l ++ more ≡ bytes) i e)

told_bytes : (told : List Placed) (ts : List Token) → told ≡ events [] 0 ts → AreSpelled [] [] ts → respelled_text [] (items told) ≡ flat_map token_bytes ts
told_bytes told ts is h = ap (λ (l : List Placed). respelled_text [] (items l)) is ∙ (ap (respelled_text []) (events_items [] 0 ts) ∙ spelled_text [] ts [] h)

-- bytes that are no longer are at the front
shorter_front : (a b c d : List ℕ) → a ++ b ≡ c ++ d → length c ≤ length a → (rest : List ℕ) × (c ++ rest ≡ a)
shorter_front a b [] d e h = (a, refl)
shorter_front [] b (x ∷ c) d e h = absurd (omega (arith, h))
shorter_front (y ∷ a) b (x ∷ c) d e h = (let r = shorter_front a b c d (tails e) (omega (arith, h)) in (r.0, both r.0 (firsts e) r.1))
  where
    firsts : y ∷ (a ++ b) ≡ x ∷ (c ++ d) → x ≡ y
    firsts e = cc

    tails : y ∷ (a ++ b) ≡ x ∷ (c ++ d) → a ++ b ≡ c ++ d
    tails e = cc

    both : (r : List ℕ) → x ≡ y → c ++ r ≡ a → x ∷ (c ++ r) ≡ y ∷ a
    both r e f = cc

-- The text is within the bytes, where they begin with it together with what follows them.
pub text_within : (reader : Reader) (bytes behind more : List ℕ) (told : List Placed) → HasTakenUnder no_limit reader bytes told → NoneForeign 0 (items told) → respelled_text [] (items told) ++ more ≡ bytes ++ behind
    → (rest : List ℕ) × (respelled_text [] (items told) ++ rest ≡ bytes)
text_within reader bytes behind more told h inside e =
    let (ts, rest, front, clean, is) = events_stay reader bytes told h behind in
    let (us, longest, whole, are) = events_are_all reader bytes told h in
    let spelled = told_spelled (bytes ++ behind) rest more told ts front clean is inside e in
    let same : items_in [] ts ≡ items_in [] us = sym (events_items [] 0 ts) ∙ (ap items (sym is ∙ are) ∙ events_items [] 0 us) in
    let within = spelled_within no_limit [] ts us [] bytes behind rest longest.rest spelled front longest.front same in
    let text = told_bytes told ts is spelled in
    let r = shorter_front bytes behind (flat_map token_bytes ts) rest (front_bytes no_limit [] (bytes ++ behind) rest ts front) within in
    (r.0, ap (λ (l : List ℕ). l ++ r.0) text ∙ r.1)

-- What is behind it is no more than the open token.
pub behind_text : (reader : Reader) (bytes behind : List ℕ) (told : List Placed) → HasTakenUnder no_limit reader bytes told → NoneForeign 0 (items told) → respelled_text [] (items told) ++ behind ≡ bytes → length behind ≤ token_length reader
behind_text reader bytes behind told h inside e =
    let (us, longest, clean, are) = events_are_all reader bytes told h in
    let k = h.1 in
    let text = told_bytes told us are (told_spelled bytes longest.rest behind told us longest.front clean are inside e) in
    let same : behind ≡ longest.rest = append_cancel_left (flat_map token_bytes us) behind longest.rest (ap (λ (l : List ℕ). l ++ behind) (sym text) ∙ (e ∙ front_bytes no_limit [] bytes longest.rest us longest.front)) in
    let front : Front no_limit [] bytes h.0 (k.reads.bytes ++ []) = subst (λ (l : List ℕ). Front no_limit [] l h.0 (k.reads.bytes ++ [])) (append-nil bytes) (k.reads.front [] tt) in
    let m = longest.longest h.0 (k.reads.bytes ++ []) front in
    count (length bytes) (length (flat_map token_bytes h.0)) (length (flat_map token_bytes m.0)) (length (flat_map token_bytes us)) (length longest.rest) (length k.reads.bytes) reader.tokenizer.place reader.tokenizer.start (length behind)
    (ap length (front_bytes no_limit [] bytes longest.rest us longest.front) ∙ length-append (flat_map token_bytes us) longest.rest)
    (ap (λ (l : List Token). length (flat_map token_bytes l)) m.1 ∙ (ap length (tokens-append h.0 m.0) ∙ length-append (flat_map token_bytes h.0) (flat_map token_bytes m.0)))
    (ap length (front_bytes no_limit [] bytes (k.reads.bytes ++ []) h.0 front) ∙ (length-append (flat_map token_bytes h.0) (k.reads.bytes ++ []) ∙ ap (λ (l : List ℕ). length (flat_map token_bytes h.0) + length l) (append-nil k.reads.bytes)))
    (ap length same) k.reads.opens.place_is
  where
    count : (all front more token rest last place start n : ℕ) → all ≡ token + rest → token ≡ front + more → all ≡ front + last → n ≡ rest → place ≡ start + last → n ≤ place - start
    count all front more token rest last place start n a b c d e = omega (arith, a, b, c, d, e)
