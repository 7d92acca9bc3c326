-- A check of a fragment.
use Rattle.std.proofs.Common.{◌≡◌, ℕ, ◌+◌, ◌<◌, ◌^◌, List, [], ◌++◌, length, Option, Some, None, refl, sym, ap, subst, ◌∙◌, append-nil, append_assoc, length-append, arith}
use Rattle.std.specs.Prelude.{◌↔◌, IsTrue, false}
use Rattle.lexical_core.specs.Tree.{Tree}
use Rattle.markup.specs.Reading.{open_token_held, token_length}
use Rattle.fragments.specs.Plain.{IsPlain}
use Rattle.fragments.specs.Fragment.{fragment}
use Rattle.respell.specs.FragmentChecks.{IsReadBy, HasTakenBytes, fragment_held, open_token_length}
use Rattle.respell.specs.inner.FragmentReading.{HasReadAll, IsFragment}
use Rattle.respell.specs.declared.fragment_reader.FragmentReader.{FragmentReader}
use Rattle.respell.specs.declared.fragment_check.FragmentCheck.{FragmentCheck}
use Rattle.respell.proofs.FragmentSteps.{read_whole, never}

-- what a check with a reader has read
pub read_of : (check : FragmentCheck) (reader : FragmentReader) (bytes : List ℕ) → check.reading ≡ Some reader → HasTakenBytes check bytes → HasReadAll reader check.waiting.items bytes
read_of check reader bytes e h = subst (λ (o : Option FragmentReader). IsReadBy o check.waiting.items bytes) e h.read

-- and what one without a reader knows
pub unread_of : (check : FragmentCheck) (bytes : List ℕ) → check.reading ≡ None → HasTakenBytes check bytes → (check.waiting.items ≡ []) × ((behind : List ℕ) → IsFragment (bytes ++ behind) → ⊥)
unread_of check bytes e h = subst (λ (o : Option FragmentReader). IsReadBy o check.waiting.items bytes) e h.read

-- ---- what is held

pub held_open : (check : FragmentCheck) (reader : FragmentReader) → check.reading ≡ Some reader → fragment_held check ≡ length check.waiting.items + open_token_held reader.reader
unfolding fragment_held
held_open check reader e = rw e refl

pub held_none : (check : FragmentCheck) → check.reading ≡ None → check.waiting.items ≡ [] → fragment_held check ≡ 0
unfolding fragment_held
held_none check e none = (let w : length check.waiting.items ≡ 0 = ap length none in rw e (omega (arith, w)))

pub open_token_length_is : (check : FragmentCheck) (reader : FragmentReader) → check.reading ≡ Some reader → open_token_length check ≡ token_length reader.reader
unfolding open_token_length
open_token_length_is check reader e = rw e refl

-- ---- the next bytes

-- all bytes that came before are as many
pub same_place : (check : FragmentCheck) (a b : List ℕ) → HasTakenBytes check a → HasTakenBytes check b → length a ≡ length b
same_place check a b h g = sym h.place ∙ g.place

pub taken_more : (old new : FragmentCheck) (before bytes : List ℕ) → HasTakenBytes old before → new.place ≡ old.place + length bytes → length before + length bytes < 2 ^ 40 → IsReadBy new.reading new.waiting.items (before ++ bytes) → HasTakenBytes new (before ++ bytes)
taken_more old new before bytes h place short read =
    let n = length-append before bytes in
    let p = h.place in
    record { place = omega (arith, place, p, n); short = omega (arith, short, n); read = read }

-- where no fragment begins with bytes, none begins with more
pub none_more : (old : FragmentCheck) (before bytes : List ℕ) → old.reading ≡ None → HasTakenBytes old before → IsReadBy old.reading old.waiting.items (before ++ bytes)
none_more old before bytes e h =
    let (none, k) = unread_of old before e h in
    subst (λ (o : Option FragmentReader). IsReadBy o old.waiting.items (before ++ bytes)) (sym e) (none, λ behind f. k (bytes ++ behind) (subst IsFragment (append_assoc before bytes behind) f))

-- ---- the end

pub refused_whole : (bytes : List ℕ) → length bytes < 2 ^ 40 → ((behind : List ℕ) → IsFragment (bytes ++ behind) → ⊥) → IsTrue false ↔ ((t : Tree) × IsPlain t × (fragment t ≡ bytes))
refused_whole bytes short k = read_whole false bytes short (never bytes (λ f. k [] (subst IsFragment (sym (append-nil bytes)) f)))
