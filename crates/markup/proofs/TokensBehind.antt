-- The tokens behind others, and their items.
use Rattle.std.proofs.Common.{◌≡◌, ℕ, ◌+◌, List, [], ◌∷◌, ◌++◌, length, map, reverse, refl, ap, ap₂, ◌∙◌}
use Rattle.std.proofs.lemmas.List.{map-append}
use Rattle.lexical_core.specs.Tree.{Item}
use Rattle.markup.specs.Token.{Token, token_bytes}
use Rattle.markup.specs.Events.{items_of, Placed, events}

-- the tokens behind more, the latest first
abbrev pub tokens_behind : List Token → List Token → List Token
tokens_behind before [] = before
tokens_behind before (t ∷ ts) = tokens_behind (t ∷ before) ts

abbrev pub items_in : List Token → List Token → List Item
items_in before [] = []
items_in before (t ∷ ts) = items_of before t ++ items_in (t ∷ before) ts

pub behind : (ts : List Token) → reverse ts ≡ tokens_behind [] ts
behind ts = refl

pub behind-append_before : (a b ts : List Token) → tokens_behind (a ++ b) ts ≡ tokens_behind a ts ++ b
behind-append_before a b [] = refl
behind-append_before a b (t ∷ ts) = behind-append_before (t ∷ a) b ts

pub behind_is : (before ts : List Token) → tokens_behind before ts ≡ reverse ts ++ before
behind_is before ts = behind-append_before [] before ts

-- the events without their places
pub events_items : (before : List Token) (place : ℕ) (ts : List Token) → map (λ (p : Placed). p.item) (events before place ts) ≡ items_in before ts
events_items before place [] = refl
events_items before place (t ∷ ts) = map-append (λ (p : Placed). p.item) (map (λ i. record { place = place; item = i }) (items_of before t)) (events (t ∷ before) (place + length (token_bytes t)) ts)
    ∙ ap₂ (λ (x y : List Item). x ++ y) (unplaced place (items_of before t)) (events_items (t ∷ before) (place + length (token_bytes t)) ts)
  where
    unplaced : (place : ℕ) (is : List Item) → map (λ (p : Placed). p.item) (map (λ (i : Item). record { place = place; item = i }) is) ≡ is
    unplaced place [] = refl
    unplaced place (i ∷ is) = ap (λ (l : List Item). i ∷ l) (unplaced place is)
