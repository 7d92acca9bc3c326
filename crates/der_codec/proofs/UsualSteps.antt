-- Headers of two octets, taken at once, and leaves with them.
use Rattle.std.proofs.Common.{◌≡◌, ℕ, zero, suc, ◌+◌, ◌<◌, Bool, true, false, List, [], ◌∷◌, ◌++◌, take, drop, refl, sym, ap, ◌∙◌, arith, append_assoc}
use Rattle.der_octets.specs.LengthSteps as lengths
use Rattle.der_octets.specs.declared.length_step.LengthStep.{LengthStep}
use Rattle.reference_check.specs.Words.{UpTo}
use Rattle.der_model.specs.DerMessage.{DerMessage}
use Rattle.der_codec.specs.Levels.{inwards}
use Rattle.der_codec.specs.Decoding.{Reads, HasReadParts, end_of_first, level_at}
use Rattle.der_codec.specs.inner.Entering.{Awaits}
use Rattle.der_codec.specs.declared.decoder.Decoder.{Decoder}
use Rattle.der_codec.specs.declared.decoder.Due.TheVariants as due
use Rattle.der_codec.specs.declared.level.Spot.{Spot}
use Rattle.der_codec.specs.declared.level.Level.{Level}
use Rattle.der_codec.proofs.StepTies.{reads_as, open_primitive, open_constructed, short_has}

-- a length octet below 128 opens the value whose length is due
pub length_read : (m : DerMessage ℕ) (new : Decoder) (ys : List Level) (c : Bool) (spot : Spot) (step : LengthStep) (place at n : ℕ) (bytes : List ℕ) → Reads m ys (due.Length c spot step) place place bytes → n < 128 → at ≡ place + 1 → UpTo (place + 1 + n) (end_of_first ys)
    → new.place ≡ at → new.start ≡ at → Awaits new c spot at n ys → HasReadParts m new (bytes ++ n ∷ [])
length_read m new ys true spot step place at n bytes r low is fits placed started a =
    let has = short_has m ys (due.Length true spot step) true spot step place place bytes n n r refl refl low refl in
    reads_as m (inwards new.levels.items) (level_at spot (at + n) ∷ ys) new.due (due.Tag a.1) new.start (place + 1) new.place (place + 1) (bytes ++ n ∷ []) a.0 a.2 (started ∙ is) (placed ∙ is)
    (open_constructed m (level_at spot (at + n)) ys (due.Length true spot step) spot a.1 place place n bytes n r true refl has fits refl refl refl (ap (λ z. z + n) is) a.3)
length_read m new ys false spot step place at n bytes r low is fits placed started a =
    let has = short_has m ys (due.Length false spot step) false spot step place place bytes n n r refl refl low refl in
    reads_as m (inwards new.levels.items) ys new.due (due.Contents spot n) new.start (place + 1) new.place (place + 1) (bytes ++ n ∷ []) a.0 a.1 (started ∙ is) (placed ∙ is)
    (open_primitive m ys (due.Length false spot step) spot place place n bytes n r false refl has fits)

-- of a length no octet has come
pub none_taken : (step : LengthStep) × lengths.HasTakenLength step []
none_taken = (record { count = 0; come = 0; value = 0 }, refl)

-- two octets and so many behind them
pub front_more : (piece behind others : List ℕ) (o n k : ℕ) → piece ≡ o ∷ behind → behind ≡ n ∷ others → take (2 + k) piece ≡ o ∷ n ∷ take k others
front_more piece behind others o n k a b =
    let two : 2 + k ≡ suc (suc k) = omega arith in
    ap (take (2 + k)) (a ∙ ap (λ z. o ∷ z) b) ∙ ap (λ z. take z (o ∷ n ∷ others)) two

-- ---- components behind components

take_none : (n : ℕ) → take {A = ℕ} n [] ≡ []
take_none zero = refl
take_none (suc n) = refl

take_then : (n k : ℕ) (xs : List ℕ) → take n xs ++ take k (drop n xs) ≡ take (n + k) xs
take_then zero k xs = (let same : 0 + k ≡ k = omega arith in ap (λ z. take z xs) (sym same))
take_then (suc n) k [] = take_none k ∙ sym (take_none (suc n + k))
take_then (suc n) k (x ∷ xs) = (let same : suc n + k ≡ suc (n + k) = omega arith in ap (λ z. x ∷ z) (take_then n k xs) ∙ ap (λ z. take z (x ∷ xs)) (sym same))

-- octets behind others
pub drop_then : (n k : ℕ) (xs : List ℕ) → drop k (drop n xs) ≡ drop (n + k) xs
drop_then zero k xs = (let same : 0 + k ≡ k = omega arith in ap (λ z. drop z xs) (sym same))
drop_then (suc n) k [] = drop_none k ∙ sym (drop_none (suc n + k))
  where
    drop_none : (n : ℕ) → drop {A = ℕ} n [] ≡ []
    drop_none zero = refl
    drop_none (suc n) = refl
drop_then (suc n) k (x ∷ xs) = (let same : suc n + k ≡ suc (n + k) = omega arith in drop_then n k xs ∙ ap (λ z. drop z (x ∷ xs)) (sym same))

pub run_more : (bytes piece rest : List ℕ) (taken count : ℕ) → rest ≡ drop taken piece → (bytes ++ take taken piece) ++ take count rest ≡ bytes ++ take (taken + count) piece
run_more bytes piece rest taken count is =
    append_assoc bytes (take taken piece) (take count rest) ∙ ap (λ z. bytes ++ z) (ap (λ z. take taken piece ++ take count z) is ∙ take_then taken count piece)
