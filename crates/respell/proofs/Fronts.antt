-- Tokens at the front of whole bytes.
use Rattle.std.proofs.Common.{◌≡◌, ℕ, inl, inr, List, [], ◌∷◌, ◌++◌, refl, sym, ap, ◌∙◌, append_assoc, append-nil}
use Rattle.std.specs.List.{flat_map}
use Rattle.std.proofs.lemmas.List.{append_cancel_left}
use Rattle.markup.specs.Token.{Token, token_bytes}
use Rattle.markup.specs.Marks.{Front}
use Rattle.markup.proofs.InputLemmas.{front_bytes}
use Rattle.markup.proofs.Stays.{tokens_have_bytes}
use Rattle.markup.proofs.TokenLaw.{fronts_agree}
use Rattle.respell.proofs.Runs.{tokens-append}

no_bytes : (ts : List Token) (rest : List ℕ) → flat_map token_bytes ts ++ rest ≡ [] → ts ≡ []
no_bytes [] rest e = refl
no_bytes (t ∷ ts) rest e = absurd (tokens_have_bytes t (none (token_bytes t) (flat_map token_bytes ts) rest e))
  where
    none : (a b c : List ℕ) → (a ++ b) ++ c ≡ [] → a ≡ []
    none [] b c e = refl
    none (x ∷ a) b c e = absurd cc

-- tokens at the front of whole bytes
pub front_of : (limit : ℕ) (bytes : List ℕ) (ts us : List Token) (rest : List ℕ) → Front limit [] bytes ts rest → Front limit [] bytes us [] → (more : List Token) × (us ≡ ts ++ more)
front_of limit bytes ts us rest f g = elim (fronts_agree limit [] bytes ts us rest [] f g) as (λ _. (more : List Token) × (us ≡ ts ++ more)) [
  | inl (more, is) ↦ (more, is)
  | inr (more, is) ↦ (let one : bytes ≡ (flat_map token_bytes us ++ flat_map token_bytes more) ++ rest = front_bytes limit [] bytes rest ts f ∙ ap (λ (l : List ℕ). l ++ rest) (ap (flat_map token_bytes) is ∙ tokens-append us more) in
      let two : bytes ≡ flat_map token_bytes us ++ [] = front_bytes limit [] bytes [] us g in
      let nothing : flat_map token_bytes more ++ rest ≡ [] = append_cancel_left (flat_map token_bytes us) (flat_map token_bytes more ++ rest) [] (sym (append_assoc (flat_map token_bytes us) (flat_map token_bytes more) rest) ∙ (sym one ∙ two)) in
      ([], sym (append-nil us) ∙ (sym (is ∙ ap (λ (l : List Token). us ++ l) (no_bytes more rest nothing)) ∙ sym (append-nil ts))))
]
