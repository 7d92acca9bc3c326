-- Tokens that spell bytes, and have no long tag, are the only ones: however long a tag may be, no other tokens spell the bytes.
use Rattle.std.proofs.Common.{◌≡◌, ℕ, true, List, [], ◌∷◌, ◌++◌, flat_map, refl, sym, subst, ◌∙◌, append-nil}
use Rattle.markup.specs.Token.{Token, token_bytes}
use Rattle.markup.specs.Marks.{Front, is_short, tag_limit}
use Rattle.markup.proofs.TokenLaw.{one_token}
use Rattle.markup.proofs.Stays.{tokens_have_bytes}
use Rattle.respell.proofs.Runs.{AllStand, AllShort, runs_front}
use Rattle.xml_writer.specs.SpellingLaw.{HasNoLongTag}

none_before : (a b : List ℕ) → [] ≡ a ++ b → a ≡ []
none_before [] b e = refl
none_before (x ∷ a) b e = absurd cc

same_short : (limit other : ℕ) (before : List Token) (bytes : List ℕ) (ts us : List Token) → Front limit before bytes ts [] → Front other before bytes us [] → AllShort limit us
same_short limit other before bytes ts [] f g = tt
same_short limit other before bytes [] (u ∷ us) f (after, cell, short, g) = absurd (tokens_have_bytes u (none_before (token_bytes u) after (sym f ∙ cell.spelled)))
same_short limit other before bytes (t ∷ ts) (u ∷ us) (x, cell, short, f) (y, there, fits, g) =
    let same = one_token before t u bytes x y cell there in
    let from : Front other (t ∷ before) x us [] = subst (λ b. Front other (t ∷ before) b us []) (sym same.1) (subst (λ (w : Token). Front other (w ∷ before) y us []) (sym same.0) g) in
    (subst (λ (w : Token). is_short limit w ≡ true) same.0 short, same_short limit other (t ∷ before) x ts us f from)

pub no_long_tag : (bytes : List ℕ) (ts : List Token) → flat_map token_bytes ts ≡ bytes → AllStand [] ts → AllShort tag_limit ts → HasNoLongTag bytes
no_long_tag bytes ts spelled stand short limit us f =
    let front : Front tag_limit [] bytes ts [] = subst (λ b. Front tag_limit [] b ts []) (append-nil (flat_map token_bytes ts) ∙ spelled) (runs_front tag_limit [] ts [] stand short) in
    same_short tag_limit limit [] bytes ts us front f
