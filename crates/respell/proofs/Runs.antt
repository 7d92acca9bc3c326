-- Runs of tokens that stand whatever follows them.
use Rattle.std.proofs.Common.{◌≡◌, ℕ, ◌+◌, true, List, [], ◌∷◌, ◌++◌, length, ◌≤◌, refl, sym, ap, ap₂, subst, ◌∙◌, append_assoc}
use Rattle.std.specs.Prelude.{◌↔◌, nat_le}
use Rattle.std.specs.List.{flat_map, AllByRecursion}
use Rattle.std.proofs.lemmas.Bool.{le-leb, leb-true}
use Rattle.lexical_core.specs.Tree.{Item}
use Rattle.markup.specs.Token.{Token, token_bytes}
use Rattle.markup.specs.Marks.{stands, Front, is_short}
use Rattle.markup.specs.Events.{items_of}
use Rattle.markup.specs.Faults.{IsClean}
use Rattle.markup.proofs.TokensBehind.{items_in, tokens_behind}
use Rattle.respell.proofs.Lists.{flat_map-append}

-- each stands in its place, whatever follows
abbrev pub AllStand : List Token → List Token → Type 0
AllStand before [] = Unit {0}
AllStand before (t ∷ ts) = ((rest : List ℕ) → stands before t rest ≡ true) × AllStand (t ∷ before) ts

-- tokens that spell the text, keep all rules and have these events
pub record Runs (before : List Token) (items : List Item) (text : List ℕ) : Type 0 where
  pub tokens : List Token
  pub bytes : flat_map token_bytes tokens ≡ text
  pub stand : AllStand before tokens
  pub clean : IsClean before tokens
  pub told : items_in before tokens ≡ items

pub behind-append : (before ts us : List Token) → tokens_behind before (ts ++ us) ≡ tokens_behind (tokens_behind before ts) us
behind-append before [] us = refl
behind-append before (t ∷ ts) us = behind-append (t ∷ before) ts us

pub items-append : (before ts us : List Token) → items_in before (ts ++ us) ≡ items_in before ts ++ items_in (tokens_behind before ts) us
items-append before [] us = refl
items-append before (t ∷ ts) us = ap (λ (l : List Item). items_of before t ++ l) (items-append (t ∷ before) ts us) ∙ sym (append_assoc (items_of before t) (items_in (t ∷ before) ts) (items_in (tokens_behind (t ∷ before) ts) us))

pub stand-append : (before ts us : List Token) → AllStand before ts → AllStand (tokens_behind before ts) us → AllStand before (ts ++ us)
stand-append before [] us h g = g
stand-append before (t ∷ ts) us h g = (h.0, stand-append (t ∷ before) ts us h.1 g)

pub clean-append : (before ts us : List Token) → IsClean before ts → IsClean (tokens_behind before ts) us → IsClean before (ts ++ us)
clean-append before [] us h g = g
clean-append before (t ∷ ts) us h g = (h.0, clean-append (t ∷ before) ts us h.1 g)

pub tokens-append : (ts us : List Token) → flat_map token_bytes (ts ++ us) ≡ flat_map token_bytes ts ++ flat_map token_bytes us
tokens-append ts us = flat_map-append token_bytes ts us

abbrev pub runs-append : (before : List Token) (is js : List Item) (s t : List ℕ) (r : Runs before is s) → Runs (tokens_behind before r.tokens) js t → Runs before (is ++ js) (s ++ t)
runs-append before is js s t r q = record {
  tokens = r.tokens ++ q.tokens;
  bytes = tokens-append r.tokens q.tokens ∙ ap₂ (λ (x y : List ℕ). x ++ y) r.bytes q.bytes;
  stand = stand-append before r.tokens q.tokens r.stand q.stand;
  clean = clean-append before r.tokens q.tokens r.clean q.clean;
  told = items-append before r.tokens q.tokens ∙ ap₂ (λ (x y : List Item). x ++ y) r.told q.told;
}

-- they stand at the front of any bytes that begin with them
pub runs_front : (limit : ℕ) (before ts : List Token) (rest : List ℕ) → AllStand before ts → AllByRecursion (λ t. is_short limit t ≡ true) ts → Front limit before (flat_map token_bytes ts ++ rest) ts rest
runs_front limit before [] rest h s = refl
runs_front limit before (t ∷ ts) rest h s = (
  flat_map token_bytes ts ++ rest,
  record { spelled = append_assoc (token_bytes t) (flat_map token_bytes ts) rest; is = h.0 (flat_map token_bytes ts ++ rest) },
  s.0,
  runs_front limit (t ∷ before) ts rest h.1 s.1,
)

-- ---- how long their tags are

-- no tag among them is longer
abbrev pub AllShort : ℕ → List Token → Type 0
AllShort limit ts = AllByRecursion (λ t. is_short limit t ≡ true) ts

pub short-append : (limit : ℕ) (ts us : List Token) → AllShort limit ts → AllShort limit us → AllShort limit (ts ++ us)
short-append limit [] us h g = g
short-append limit (t ∷ ts) us h g = (h.0, short-append limit ts us h.1 g)

pub short_parts : (limit : ℕ) (ts us : List Token) → AllShort limit (ts ++ us) → AllShort limit ts × AllShort limit us
short_parts limit [] us h = (tt, h)
short_parts limit (t ∷ ts) us h = let r = short_parts limit ts us h.1 in ((h.0, r.0), r.1)

-- a tag by the text that it spells
pub short_text : (limit : ℕ) (bytes text : List ℕ) → bytes ≡ text → (length text ≤ limit) ↔ (nat_le (length bytes) limit ≡ true)
short_text limit bytes text e = (
  λ h. le-leb _ _ (subst (λ (l : List ℕ). length l ≤ limit) (sym e) h),
  λ h. subst (λ (l : List ℕ). length l ≤ limit) e (leb-true _ _ h),
)
