-- The first message of an identifier, and how many have it.
use Rattle.std.proofs.Common.{◌≡◌, ℕ, zero, suc, ◌+◌, ◌<◌, ◌≤◌, true, false, List, [], ◌∷◌, length, take, get_or, Option, Some, None, refl, sym, ap, subst, ◌∙◌, arith, ◌⊎◌, inl, inr, Bor}
use Rattle.std.specs.Prelude.{slice_get, IfSome, IfNone, is_some, count_by}
use Rattle.std.specs.Str.{bytes_eq}
use Rattle.std.proofs.lemmas.Option.{slice_get_cases, get_or_from_slice_get}
use Rattle.std.proofs.lemmas.List.Sums.{count_by_more_yes, count_by_more_no}
use Rattle.std.proofs.lemmas.Bool.{cases_lt}
use Rattle.repo_objects.specs.declared.objects.MessageDef.{MessageDef}
use Rattle.repo_objects.specs.Repository.{Contents}
use Rattle.reference_check.specs.declared.reached.ReadyError.{ReadyError}
use Rattle.reference_check.specs.declared.reached.ReadyError.TheVariants.{Broken, Memory}
use Rattle.reference_check.specs.Reach.{itself, rank_of}
use Rattle.reference_check.specs.Reached.{TellsBroken}
use Rattle.reference_check.specs.inner.Told.{IsRefusal, IsSoundBelow}
use Rattle.reference_check.specs.Graph.{Place, message, find_message}
use Rattle.reference_check.specs.Rules.{Rule, NoMessage, TwoMessages, object_rule_number, is_message_named, IsStructure}
use Rattle.reference_check.proofs.RuleNumbers.{sound_more, not_zero}
use Rattle.reference_check.proofs.Lookups.{none_there}

pub found_first : (id : List ℕ) (ms : List MessageDef) (k : ℕ) (d : MessageDef) → ((j : ℕ) (x : MessageDef) → j < k → slice_get ms j ≡ Some x → bytes_eq x.id id ≡ false)
    → slice_get ms k ≡ Some d → bytes_eq d.id id ≡ true → find_message id ms ≡ Some d
found_first id [] k d before at named = absurd (none_there k at)
found_first id (x ∷ ms) zero d before at named =
    let same : x ≡ d = cc in
    let here : bytes_eq x.id id ≡ true = subst (λ (z : MessageDef). bytes_eq z.id id ≡ true) (sym same) named in
    rw here at
found_first id (x ∷ ms) (suc k) d before at named =
    let other : bytes_eq x.id id ≡ false = before 0 x (omega arith) refl in
    rw other (found_first id ms k d (λ j y l there. before (suc j) y (omega arith) there) at named)

pub found_none : (id : List ℕ) (ms : List MessageDef) (n : ℕ) → length ms ≤ n → ((j : ℕ) (x : MessageDef) → j < n → slice_get ms j ≡ Some x → bytes_eq x.id id ≡ false) → find_message id ms ≡ None
found_none id [] n l all = refl
found_none id (x ∷ ms) zero l all = absurd (omega arith)
found_none id (x ∷ ms) (suc n) l all =
    let other : bytes_eq x.id id ≡ false = all 0 x (omega arith) refl in
    rw other (found_none id ms n (omega arith) (λ j y h there. all (suc j) y (omega arith) there))

-- a message that has the identifier is counted, and another is not
pub count_more : (id : List ℕ) (ms : List MessageDef) (n : ℕ) (r : Option (Bor MessageDef)) → n < length ms
    → IfSome r (λ d. (slice_get ms n ≡ Some d.now) × (bytes_eq d.now.id id ≡ true)) → is_some r ≡ true → count_by (is_message_named id) (take (n + 1) ms) ≡ count_by (is_message_named id) (take n ms) + 1
count_more id ms n None l some is = cc
count_more id ms n (Some d) l some is =
    count_by_more_yes (is_message_named id) ms n d.now l (ap (λ (x : MessageDef). bytes_eq x.id id) (get_or_from_slice_get ms n d.now d.now some.0) ∙ some.1)

pub count_not : (id : List ℕ) (ms : List MessageDef) (n : ℕ) (r : Option (Bor MessageDef)) → n < length ms
    → IfNone r ((d : MessageDef) → slice_get ms n ≡ Some d → bytes_eq d.id id ≡ false) → is_some r ≡ false → count_by (is_message_named id) (take (n + 1) ms) ≡ count_by (is_message_named id) (take n ms)
count_not id ms n (Some d) l none is = cc
count_not id ms n None l none is = by (slice_get_cases ms n).1
  where
    by : ((x : MessageDef) × (n < length ms) × (slice_get ms n ≡ Some x) × (get_or ms n x ≡ x)) ⊎ ((length ms ≤ n) × (slice_get ms n ≡ None)) → count_by (is_message_named id) (take (n + 1) ms) ≡ count_by (is_message_named id) (take n ms)
    by (inl (x, w, there, at)) = count_by_more_no (is_message_named id) ms n x l (ap (λ (y : MessageDef). bytes_eq y.id id) at ∙ none x there)
    by (inr (past, at)) = absurd (omega arith)

-- ---- what is told

-- the message comes last, so nothing comes before it that is the message
no_earlier : (R : Contents) (q : Place) → rank_of R q < rank_of R message → q ≡ message → ⊥
no_earlier R q less is = (let same : rank_of R q ≡ rank_of R message = ap (rank_of R) is in omega arith)

at_least_one : (r : Rule) → 1 ≤ object_rule_number r
at_least_one r = (elim (cases_lt (object_rule_number r) 1) [ inl lt ↦ absurd (not_zero r (omega arith)) | inr past ↦ omega arith ])

-- a message is there
pub sound_one : (R : Contents) (m : List ℕ) (d : MessageDef) → find_message m R.messages ≡ Some d → IsSoundBelow R m 2
sound_one R m d found = sound_more R m NoMessage 2 refl (λ r p less reach broken. (let some : 1 ≤ object_rule_number r = at_least_one r in omega arith))
    (λ p reach broken. (let none : find_message m R.messages ≡ None = broken.1 in cc))

pub refuses_none : (R : Contents) (m : List ℕ) (e : ReadyError) → find_message m R.messages ≡ None → IsRefusal 1 m e → TellsBroken R m IsStructure e
refuses_none R m (Broken n object) none (number, id) = (
  NoMessage,
  message,
  record {
    asked = omega arith;
    reached = itself;
    broken = (refl, none);
    lowest = λ r q asked less reach broken. absurd (never r less);
    first = λ q less reach broken. no_earlier R q less broken.0;
  },
  number,
  id,
)
  where
    never : (r : Rule) → object_rule_number r < 1 → ⊥
    never r less = (let some : 1 ≤ object_rule_number r = at_least_one r in omega arith)
refuses_none R m Memory none refusal = tt

pub refuses_two : (R : Contents) (m : List ℕ) (e : ReadyError) (d : MessageDef) → find_message m R.messages ≡ Some d → 2 ≤ count_by (is_message_named m) R.messages → IsRefusal 2 m e → TellsBroken R m IsStructure e
refuses_two R m (Broken n object) d found two (number, id) = (
  TwoMessages,
  message,
  record {
    asked = omega arith;
    reached = itself;
    broken = (refl, two);
    lowest = λ r q asked less reach broken. sound_one R m d found r q less reach broken;
    first = λ q less reach broken. no_earlier R q less broken.0;
  },
  number,
  id,
)
refuses_two R m Memory d found two refusal = tt

-- one message has the identifier
pub sound_two : (R : Contents) (m : List ℕ) (d : MessageDef) → find_message m R.messages ≡ Some d → count_by (is_message_named m) R.messages < 2 → IsSoundBelow R m 3
sound_two R m d found one = sound_more R m TwoMessages 3 refl (sound_one R m d found) (λ p reach broken. (let two : 2 ≤ count_by (is_message_named m) R.messages = broken.1 in omega arith))
