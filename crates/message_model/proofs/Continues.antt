-- What came step by step is the front of a word, for choices too; so a tag may come exactly where some word goes on with it.
use Rattle.std.proofs.Common.{◌≡◌, ℕ, zero, suc, ◌+◌, ◌-◌, ◌<◌, List, [], ◌∷◌, ◌++◌, replicate, Option, Some, None, sym, ap, ◌∙◌, arith, append_assoc}
use Rattle.std.specs.Prelude.{◌↔◌, slice_get}
use Rattle.facets.specs.declared.simple.Simple.{Simple}
use Rattle.reference_check.specs.Forms.{Form, Slot, form_slots}
use Rattle.reference_check.specs.Forms as form
use Rattle.reference_check.specs.Words.{UpTo, IsChoice}
use Rattle.reference_check.specs.Steps.{Slotted, next, next_of, next_at, next_found, Came}
use Rattle.reference_check.specs.Shapes.{WordGoesOn}
use Rattle.reference_check.proofs.Words.{up_to_filled}
use Rattle.message_model.specs.Sound.{IsSoundForm}
use Rattle.message_model.specs.Continued.{CameGoesOn, NextGoesOn, EndIsWord}
use Rattle.message_model.proofs.CameMore.{came_more}
use Rattle.message_model.proofs.Quick.{agrees, came_completes, all_same}

replicate_join : (n m k : ℕ) → replicate n k ++ replicate m k ≡ replicate (n + m) k
replicate_join zero m k = ap (λ x. replicate x k) (sym (zero_add m))
  where
    zero_add : (m : ℕ) → 0 + m ≡ m
    zero_add m = omega arith
replicate_join (suc n) m k = ap (λ x. k ∷ x) (replicate_join n m k) ∙ ap (λ x. replicate x k) (suc_add n m)
  where
    suc_add : (n m : ℕ) → suc (n + m) ≡ suc n + m
    suc_add n m = omega arith

one_of : (n : ℕ) (max : Option ℕ) → UpTo (suc n) max → UpTo 1 max
one_of n None u = tt
one_of n (Some top) u = omega arith

up_to_one : {P : Type 0} (k : ℕ) (s : Slot P) (fs : List (Slot P)) → IsSoundForm (form.Choice fs) → slice_get fs k ≡ Some s → UpTo 1 s.max
up_to_one k s fs sound found = go s.min s.max (sound.alternatives k s found) (sound.bounds k s found)
  where
    go : (n : ℕ) (max : Option ℕ) → 0 < n → UpTo n max → UpTo 1 max
    go n None h u = tt
    go n (Some top) h u = omega arith

choice_on : {P : Type 0} (fs : List (Slot P)) (k : ℕ) (d : List ℕ) (s : Slot P) → IsSoundForm (form.Choice fs) → slice_get fs k ≡ Some s
    → ((m : ℕ) × (replicate 1 k ++ d ≡ replicate (suc m) k) × UpTo (suc m) s.max) → (more : List ℕ) × IsChoice fs ((k ∷ d) ++ more)
choice_on fs k d s sound found (m, e, room) = (
  replicate (s.min - suc m) k,
  (
    k,
    suc m + (s.min - suc m),
    s,
    found,
    (omega arith, up_to_filled (suc m) s.min s.max room (sound.bounds k s found)),
    ap (λ x. x ++ replicate (s.min - suc m) k) e ∙ replicate_join (suc m) (s.min - suc m) k,
  ),
)

pub came_goes_on : {P : Type 0} (f : Form P Simple) (d : List ℕ) → IsSoundForm f → WordGoesOn f [] → Came f d → WordGoesOn f d
came_goes_on (form.Sequence fs) d sound start came = came_completes Simple fs [] d sound.bounds start came
came_goes_on (form.Choice fs) [] sound start came = start
came_goes_on (form.Choice fs) (k ∷ d) sound start ((s, found, first), came) =
    choice_on fs k d s sound found (all_same Simple fs k s zero d found (up_to_one k s fs sound found) came)
came_goes_on f d sound (e, w) came = absurd w

pub next_is : {P : Type 0} (f : Form P Simple) (d : List ℕ) (k : ℕ) (s : Slot P) → IsSoundForm f → slice_get (form_slots f) k ≡ Some s → next f d s.tag ≡ next_of f d k s
next_is f d k s sound found = ap (next_found f (form_slots f) d) (sound.tags k s found) ∙ ap (next_at f d k) found

pub next_goes_on : {P : Type 0} (f : Form P Simple) (d : List ℕ) (k : ℕ) (s : Slot P) → IsSoundForm f → WordGoesOn f [] → Came f d → slice_get (form_slots f) k ≡ Some s → (next f d s.tag ≡ Slotted k) ↔ WordGoesOn f (d ++ k ∷ [])
next_goes_on f d k s sound start came found = (to, back)
  where
    to : next f d s.tag ≡ Slotted k → WordGoesOn f (d ++ k ∷ [])
    to e = came_goes_on f (d ++ k ∷ []) sound start (came_more f d k s came found (sym (next_is f d k s sound found) ∙ e))

    back : WordGoesOn f (d ++ k ∷ []) → next f d s.tag ≡ Slotted k
    back (more, word) = next_is f d k s sound found ∙ (agrees f sound).goes_on d more k s found (rw append_assoc at word)

pub came_are : CameGoesOn
came_are f d sound start came = came_goes_on f d sound start came

pub next_are : NextGoesOn
next_are f d k s sound start came found = next_goes_on f d k s sound start came found

pub ends_are : EndIsWord
ends_are f d sound came = ((agrees f sound).whole d came, (agrees f sound).ends d)
