-- Short texts between their bounds.
use Rattle.std.proofs.Common.{◌≡◌, ℕ, zero, suc, ◌+◌, ◌<◌, List, [], ◌∷◌, ◌++◌, length, get_or, refl, sym, ap, ap₂, ◌∙◌, arith}
use Rattle.std.proofs.lemmas.List.{get_or_default}
use Rattle.inst_pool.specs.inner.Texts.{texts_from, texts_between, text_room}
use Rattle.inst_pool.specs.declared.content.Content.{Content}
use Rattle.inst_pool.specs.declared.content.Content.TheVariants.{Bytes}

length_texts : (start : ℕ) (ends : List ℕ) → length (texts_from start ends) ≡ length ends
length_texts start [] = refl
length_texts start (end ∷ ends) = ap suc (length_texts end ends)

-- a block of bounds with room for a text
pub record HasTextRoom (bounds : List ℕ) (capacity : ℕ) : Type 0 where
  pub count : length (texts_between bounds) + 1 ≡ length bounds
  pub room : length bounds < capacity

pub has_text_room : (bounds : List ℕ) (capacity : ℕ) → length (texts_between bounds) < text_room bounds capacity → HasTextRoom bounds capacity
has_text_room [] capacity h = absurd (omega (arith, h))
has_text_room (first ∷ ends) capacity h = (let n = length_texts first ends in record { count = omega (arith, n); room = omega (arith, n, h) })

-- the number of a text is below that of its end
pub text_bound : (bounds : List ℕ) (number : ℕ) → number < length (texts_between bounds) → number + 1 < length bounds
text_bound [] number h = absurd (omega (arith, h))
text_bound (first ∷ ends) number h = (let n = length_texts first ends in omega (arith, n, h))

text_from : (start : ℕ) (ends : List ℕ) (number : ℕ) (d : Content) → number < length (texts_from start ends)
    → get_or (texts_from start ends) number d ≡ Bytes (get_or (start ∷ ends) number 0) (get_or ends number 0)
text_from start [] number d h = absurd (omega (arith, h))
text_from start (end ∷ ends) zero d h = refl
text_from start (end ∷ ends) (suc number) d h = text_from end ends number d (omega (arith, h))

pub text_between : (bounds : List ℕ) (number : ℕ) (d : Content) → number < length (texts_between bounds)
    → get_or (texts_between bounds) number d ≡ Bytes (get_or bounds number 0) (get_or bounds (suc number) 0)
text_between [] number d h = absurd (omega (arith, h))
text_between (first ∷ ends) number d h = text_from first ends number d h

-- one text more
texts_push : (start : ℕ) (ends : List ℕ) (end : ℕ) → texts_from start (ends ++ end ∷ []) ≡ texts_from start ends ++ Bytes (get_or (start ∷ ends) (length ends) 0) end ∷ []
texts_push start [] end = refl
texts_push start (next ∷ ends) end = ap (λ (l : List Content). Bytes start next ∷ l) (texts_push next ends end)

pub texts_more : (bounds : List ℕ) (number start end : ℕ) → number + 1 ≡ length bounds → get_or bounds number 0 ≡ start
    → texts_between (bounds ++ end ∷ []) ≡ texts_between bounds ++ Bytes start end ∷ []
texts_more [] number start end count is = absurd (omega (arith, count))
texts_more (first ∷ ends) number start end count is =
    let last : number ≡ length ends = omega (arith, count) in
    let begins : get_or (first ∷ ends) (length ends) 0 ≡ start = rw last at is in
    rw (← begins) (texts_push first ends end)

pub room_more : (bounds : List ℕ) (number end capacity : ℕ) → number + 1 ≡ length bounds → text_room (bounds ++ end ∷ []) capacity ≡ text_room bounds capacity
room_more [] number end capacity count = absurd (omega (arith, count))
room_more (first ∷ ends) number end capacity count = refl

-- the text of a number, by the bounds that are read
pub text_is : (bounds : List ℕ) (number : ℕ) (d : Content) (start end : ℕ) → number < length (texts_between bounds) → start ≡ get_or bounds number start → end ≡ get_or bounds (number + 1) end
    → get_or (texts_between bounds) number d ≡ Bytes start end
text_is bounds number d start end h is_start is_end =
    let n = text_bound bounds number h in
    let first : get_or bounds number 0 ≡ start = get_or_default bounds number 0 start (omega (arith, n)) ∙ sym is_start in
    let last : get_or bounds (suc number) 0 ≡ end = get_or_default bounds (suc number) 0 end (omega (arith, n)) ∙ sym is_end' in
    text_between bounds number d h ∙ ap₂ (λ (s e : ℕ). Bytes s e) first last
  where
    is_end' : end ≡ get_or bounds (suc number) end
    is_end' = (let e : number + 1 ≡ suc number = omega arith in rw e at is_end)
