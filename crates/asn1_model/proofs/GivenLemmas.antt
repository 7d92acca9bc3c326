-- Names that are given one after the other, with the next ending to try kept for each.
use Rattle.std.proofs.Common.{◌≡◌, ℕ, zero, suc, ◌+◌, ◌≤◌, Bool, true, false, ◌||◌, List, ◌∷◌, length, Some, None, below_more, refl, sym, ap, subst, ◌∙◌, arith}
use Rattle.std.specs.Bool.{if◌then◌else◌}
use Rattle.std.specs.Option.{is_some}
use Rattle.std.specs.Str.{bytes_eq}
use Rattle.std.proofs.lemmas.Cmp.{nat_list_eq_equiv}
use Rattle.lexical_core.proofs.EqualBytes.{equal_bytes, same_bytes}
use Rattle.asn1_model.specs.declared.given.Given.{Given}
use Rattle.asn1_model.specs.Names.{is_name_among, candidate, first_free}
use Rattle.asn1_model.specs.inner.Given.{ending_of, AreAllGiven, HasGivenNames}

turned : (a b : List ℕ) → bytes_eq a b ≡ bytes_eq b a
turned a b = nat_list_eq_equiv.symm a b

-- the latest is among them
pub among_first : (name : List ℕ) (taken : List (List ℕ)) → is_name_among (name ∷ taken) name ≡ true
among_first name taken = ap (λ b. b || is_name_among taken name) (same_bytes name)

-- and so are those before
pub among_more : (given q : List ℕ) (taken : List (List ℕ)) → is_name_among taken q ≡ true → is_name_among (given ∷ taken) q ≡ true
among_more given q taken e = by (bytes_eq q given)
  where
    by : (b : Bool) → (b || is_name_among taken q) ≡ true
    by true = refl
    by false = e

among_others : (name q : List ℕ) (taken : List (List ℕ)) → bytes_eq name q ≡ false → is_name_among (name ∷ taken) q ≡ is_name_among taken q
among_others name q taken e = ap (λ b. b || is_name_among taken q) (turned q name ∙ e)

-- One name has another ending to try, and those that were given are still.
module _ (old new : Given) (taken more : List (List ℕ)) (name : List ℕ) (k : ℕ) (kept : HasGivenNames old taken)
    (is : (q : List ℕ) → ending_of new.endings q ≡ (if bytes_eq name q then Some k else ending_of old.endings q))
    (here : is_name_among more name ≡ true) (same : (q : List ℕ) → bytes_eq name q ≡ false → is_name_among more q ≡ is_name_among taken q)
    (still : (q : List ℕ) → is_name_among taken q ≡ true → is_name_among more q ≡ true) (longer : length taken ≤ length more)
    (all : AreAllGiven more name k) (low : k ≤ length more) where
  changed_kept : (q : List ℕ) → is_some (ending_of new.endings q) ≡ is_name_among more q
  changed_kept q = by (bytes_eq name q) refl
    where
      by : (b : Bool) → bytes_eq name q ≡ b → is_some (ending_of new.endings q) ≡ is_name_among more q
      by true e = ap is_some (is q ∙ ap (λ b. if b then Some k else ending_of old.endings q) e) ∙ sym here ∙ ap (is_name_among more) (equal_bytes name q e)
      by false e = ap is_some (is q ∙ ap (λ b. if b then Some k else ending_of old.endings q) e) ∙ kept.kept q ∙ sym (same q e)

  some_same : (x y : ℕ) → Some x ≡ Some y → x ≡ y
  some_same x y e = cc

  changed_below : (q : List ℕ) (m : ℕ) → ending_of new.endings q ≡ Some m → (m ≤ length more) × AreAllGiven more q m
  changed_below q m found = by (bytes_eq name q) refl
    where
      by : (b : Bool) → bytes_eq name q ≡ b → (m ≤ length more) × AreAllGiven more q m
      by true e =
          let now : k ≡ m = some_same k m (sym (is q ∙ ap (λ b. if b then Some k else ending_of old.endings q) e) ∙ found) in
          subst (λ n. (n ≤ length more) × AreAllGiven more q n) now (low, subst (λ (p : List ℕ). AreAllGiven more p k) (equal_bytes name q e) all)
      by false e =
          let before : ending_of old.endings q ≡ Some m = sym (is q ∙ ap (λ b. if b then Some k else ending_of old.endings q) e) ∙ found in
          (omega (arith, kept.short q m before), λ j lt. still (candidate q j) (kept.below q m before j lt))

  pub changed : HasGivenNames new more
  changed = record { kept = changed_kept; short = λ q m e. (changed_below q m e).0; below = λ q m e. (changed_below q m e).1 }

-- a name given as it is
pub given_plain : (old new : Given) (taken : List (List ℕ)) (name : List ℕ) → HasGivenNames old taken
    → ((q : List ℕ) → ending_of new.endings q ≡ (if bytes_eq name q then Some 1 else ending_of old.endings q)) → HasGivenNames new (name ∷ taken)
unfolding candidate
given_plain old new taken name kept is =
    changed old new taken (name ∷ taken) name 1 kept is (among_first name taken) (λ q e. among_others name q taken e) (λ q e. among_more name q taken e) (omega arith) first (omega arith)
  where
    first : AreAllGiven (name ∷ taken) name 1
    first zero lt = among_first name taken
    first (suc j) lt = absurd (omega arith)

-- the next ending of a name behind the one that was just given
pub next_kept : (old new : Given) (taken : List (List ℕ)) (name given : List ℕ) (from ending : ℕ) → HasGivenNames old (given ∷ taken) → is_name_among taken name ≡ true
    → given ≡ candidate name ending → AreAllGiven taken name ending → ending ≤ length taken
    → ((q : List ℕ) → ending_of new.endings q ≡ (if bytes_eq name q then Some (ending + 1) else ending_of old.endings q)) → HasGivenNames new (given ∷ taken)
next_kept old new taken name given from ending kept there is all low updates =
    changed old new (given ∷ taken) (given ∷ taken) name (ending + 1) kept updates (among_more given name taken there) (λ q e. refl) (λ q e. e) (omega arith) up_to (omega arith)
  where
    last : is_name_among (given ∷ taken) (candidate name ending) ≡ true
    last = subst (λ (c : List ℕ). is_name_among (given ∷ taken) c ≡ true) is (among_first given taken)

    up_to : AreAllGiven (given ∷ taken) name (ending + 1)
    up_to = below_more (λ (j : ℕ). is_name_among (given ∷ taken) (candidate name j) ≡ true) ending (λ j lt. among_more given (candidate name j) taken (all j lt)) last

-- ---- the first that is free

-- an ending that was given is passed
pub passed : (f : ℕ) (taken : List (List ℕ)) (name : List ℕ) (k : ℕ) → is_name_among taken (candidate name k) ≡ true → first_free (suc f) taken name k ≡ first_free f taken name (suc k)
passed f taken name k e = ap (λ b. if b then first_free f taken name (suc k) else candidate name k) e

-- one that was not is taken
pub taken_free : (f : ℕ) (taken : List (List ℕ)) (name : List ℕ) (k : ℕ) → is_name_among taken (candidate name k) ≡ false → first_free f taken name k ≡ candidate name k
taken_free zero taken name k e = refl
taken_free (suc f) taken name k e = ap (λ b. if b then first_free f taken name (suc k) else candidate name k) e

-- all that were given are passed
pub all_passed : (k f : ℕ) (taken : List (List ℕ)) (name : List ℕ) → AreAllGiven taken name k → first_free (k + f) taken name 0 ≡ first_free f taken name k
all_passed zero f taken name all = ap (λ n. first_free n taken name 0) (omega arith)
all_passed (suc k) f taken name all =
    let more : suc k + f ≡ k + suc f = omega arith in
    ap (λ n. first_free n taken name 0) more ∙ all_passed k (suc f) taken name (λ j lt. all j (omega arith)) ∙ passed f taken name k (all k (omega arith))

-- a name that is kept has been given
pub kept_given : (kept : Given) (taken : List (List ℕ)) (name : List ℕ) (k : ℕ) → HasGivenNames kept taken → ending_of kept.endings name ≡ Some k → is_name_among taken name ≡ true
kept_given kept taken name k has e = sym (has.kept name) ∙ ap is_some e

-- one that is not kept was not, and is given as it is
pub plain_free : (kept : Given) (taken : List (List ℕ)) (name : List ℕ) → HasGivenNames kept taken → ending_of kept.endings name ≡ None → name ≡ first_free (length taken) taken name 0
unfolding candidate
plain_free kept taken name has e = sym (taken_free (length taken) taken name 0 (sym (has.kept name) ∙ ap is_some e))
