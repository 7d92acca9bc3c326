-- The events of a list of tokens that grows at its end.
use Rattle.std.proofs.Common.{◌≡◌, ℕ, ◌+◌, List, [], ◌∷◌, ◌++◌, length, reverse, sym, ◌∙◌, ap, append_assoc, append-nil, length-append, add-zero, arith}
use Rattle.std.specs.List.{flat_map}
use Rattle.lexical_core.specs.Tree.{Char}
use Rattle.markup.specs.Token.{Token, LineEnd, Character, Cr, CrLf, token_bytes}
use Rattle.markup.specs.Events.{items_of, events}
use Rattle.markup.specs.Scopes.{placed_at}
use Rattle.markup.proofs.InputLemmas.{bracket_bytes}
use Rattle.markup.proofs.TokensBehind.{tokens_behind, behind}

events_past : (before : List Token) (place : ℕ) (ts us : List Token) → events before place (ts ++ us) ≡ events before place ts ++ events (tokens_behind before ts) (place + length (flat_map token_bytes ts)) us
events_past before place [] us = ap (λ p. events before p us) (sym (add-zero place))
events_past before place (t ∷ ts) us =
    ap (λ v. placed_at place (items_of before t) ++ v) (events_past (t ∷ before) (place + length (token_bytes t)) ts us
    ∙ ap (λ p. events (t ∷ before) (place + length (token_bytes t)) ts ++ events (tokens_behind (t ∷ before) ts) p us) (count place (token_bytes t) (flat_map token_bytes ts)))
    ∙ sym (append_assoc (placed_at place (items_of before t)) (events (t ∷ before) (place + length (token_bytes t)) ts) (events (tokens_behind (t ∷ before) ts) (place + length (flat_map token_bytes (t ∷ ts))) us)) where
      count : (p : ℕ) (a b : List ℕ) → p + length a + length b ≡ p + length (a ++ b)
      count p a b = omega (arith, length-append a b)

zero_first : (n : ℕ) → 0 + n ≡ n
zero_first n = omega arith

-- the events of more tokens
pub events-append : (ts us : List Token) → events [] 0 (ts ++ us) ≡ events [] 0 ts ++ events (reverse ts) (length (flat_map token_bytes ts)) us
events-append ts us = events_past [] 0 ts us ∙ (ap (λ n. events [] 0 ts ++ events (tokens_behind [] ts) n us) (zero_first (length (flat_map token_bytes ts))) ∙ ap (λ b. events [] 0 ts ++ events b (length (flat_map token_bytes ts)) us) (sym (behind ts)))

-- the events of one more token
pub events_snoc : (ts : List Token) (t : Token) → events [] 0 (ts ++ t ∷ []) ≡ events [] 0 ts ++ placed_at (length (flat_map token_bytes ts)) (items_of (reverse ts) t)
events_snoc ts t = events-append ts (t ∷ []) ∙ ap (λ v. events [] 0 ts ++ v) (append-nil (placed_at (length (flat_map token_bytes ts)) (items_of (reverse ts) t)))

-- the events of two literal `]`
pub events_brackets : (ts : List Token) → events [] 0 (ts ++ Character 93 ∷ Character 93 ∷ []) ≡ events [] 0 ts ++ placed_at (length (flat_map token_bytes ts)) (Char 93 ∷ []) ++ placed_at (length (flat_map token_bytes ts) + 1) (Char 93 ∷ [])
events_brackets ts = events-append ts (Character 93 ∷ Character 93 ∷ [])
    ∙ (ap (λ n. events [] 0 ts ++ (placed_at (length (flat_map token_bytes ts)) (Char 93 ∷ []) ++ placed_at (length (flat_map token_bytes ts) + n) (Char 93 ∷ []))) (ap length bracket_bytes)
    ∙ sym (append_assoc (events [] 0 ts) (placed_at (length (flat_map token_bytes ts)) (Char 93 ∷ [])) (placed_at (length (flat_map token_bytes ts) + 1) (Char 93 ∷ []))))

-- a CR has the events of a CR LF
pub events_return : (ts : List Token) → events [] 0 (ts ++ LineEnd Cr ∷ []) ≡ events [] 0 (ts ++ LineEnd CrLf ∷ [])
events_return ts = events_snoc ts (LineEnd Cr) ∙ sym (events_snoc ts (LineEnd CrLf))
