-- What an answer brings, by the answer.
use Rattle.std.proofs.Common.{◌≡◌, Bool, true, false, Result, Ok, Err, IfOk, IfErr, OnOk, OnErr, MatchResult, IsTrue, IsFalse, refl, sym, ◌∙◌}
use Rattle.std.specs.Result.{is_err}
use Rattle.std.proofs.lemmas.Bool.{both_ways}

pub on_ok : {T E : Type 0} (r : Result T E) (P Q : Type 0) → (P → Q) → OnOk r P → OnOk r Q
on_ok (Ok x) P Q f h = f h
on_ok (Err e) P Q f h = tt

pub on_ok_if : {T E : Type 0} (r : Result T E) (P : Type 0) (Q : T → Type 0) → (P → (x : T) → Q x) → OnOk r P → IfOk r Q
on_ok_if (Ok x) P Q f h = f h x
on_ok_if (Err e) P Q f h = tt

pub on_ok_both : {T E : Type 0} (r : Result T E) (P R : Type 0) (Q : T → Type 0) → (P → R → (x : T) → Q x) → OnOk r P → OnOk r R → IfOk r Q
on_ok_both (Ok x) P R Q f h k = f h k x
on_ok_both (Err e) P R Q f h k = tt

pub on_err_if : {T E : Type 0} (r : Result T E) (P : Type 0) (Q : E → Type 0) → (P → (e : E) → Q e) → OnErr r P → IfErr r Q
on_err_if (Ok x) P Q f h = tt
on_err_if (Err e) P Q f h = f h e

pub if_ok_if : {T E : Type 0} (r : Result T E) (P Q : T → Type 0) → ((x : T) → P x → Q x) → IfOk r P → IfOk r Q
if_ok_if (Ok x) P Q f h = f x h
if_ok_if (Err e) P Q f h = tt

pub if_err_if : {T E : Type 0} (r : Result T E) (P Q : E → Type 0) → ((e : E) → P e → Q e) → IfErr r P → IfErr r Q
if_err_if (Ok x) P Q f h = tt
if_err_if (Err e) P Q f h = f e h

pub match_ok : {T E : Type 0} (r : Result T E) (P : T → Type 0) (Q : E → Type 0) (R : T → Type 0) → ((x : T) → P x → R x) → MatchResult r P Q → IfOk r R
match_ok (Ok x) P Q R f h = f x h
match_ok (Err e) P Q R f h = tt

pub match_err : {T E : Type 0} (r : Result T E) (P : T → Type 0) (Q R : E → Type 0) → ((e : E) → Q e → R e) → MatchResult r P Q → IfErr r R
match_err (Ok x) P Q R f h = tt
match_err (Err e) P Q R f h = f e h

-- an answer that is an error, and one that is none
pub at_err : {T E : Type 0} (r : Result T E) (Q : E → Type 0) (R : Type 0) → ((e : E) → Q e → R) → IfErr r Q → true ≡ is_err r → R
at_err (Ok x) Q R f h k = absurd (both_ways false refl (sym k))
at_err (Err e) Q R f h k = f e h

pub at_ok : {T E : Type 0} (r : Result T E) (P : T → Type 0) (R : Type 0) → ((x : T) → P x → R) → IfOk r P → false ≡ is_err r → R
at_ok (Ok x) P R f h k = f x h
at_ok (Err e) P R f h k = absurd (both_ways false refl k)

pub holds : {T E : Type 0} (r : Result T E) (P : Type 0) → is_err r ≡ false → OnOk r P → P
holds (Ok x) P e h = h
holds (Err x) P e h = absurd (both_ways _ e refl)

pub is_true : (b c : Bool) → b ≡ c → IsTrue b → c ≡ true
is_true b c e h = sym e ∙ h

pub is_false : (b c : Bool) → b ≡ c → IsFalse b → c ≡ false
is_false b c e h = sym e ∙ h
