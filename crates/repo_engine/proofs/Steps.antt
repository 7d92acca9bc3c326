-- The steps that read a repository and its codes, and those that give one verdict alone.
use Rattle.std.proofs.Common.{◌≡◌, inl, inr, ℕ, List, Result, Ok, Err}
use Rattle.std.specs.Prelude.{IfOk, IfErr}
use Rattle.repo_objects.specs.Repository.{Contents}
use Rattle.repo_engine.specs.Answer.{FromRepository, GivesRepository, RefusesRepository}
use Rattle.repo_engine.specs.inner.Arms.{StopsBy}
use Rattle.repo_engine.specs.Steps.{refused, goes_on}
use Rattle.repo_engine.specs.Verdict.{Verdict}
use Rattle.repo_engine.specs.declared.refusal.Stop.{Stop}
use Rattle.repo_engine.specs.declared.refusal.Stop.TheVariants.{Refused, ReadFault, WriteFault, Memory}

pub from_refused : (codes_word r c : List ℕ) (Next : Contents → Verdict → Type 0) (v : Verdict) → RefusesRepository codes_word r c v → FromRepository codes_word r c Next v
from_refused codes_word r c Next v (inl file) = refused file
from_refused codes_word r c Next v (inr (own, spells, codes)) = goes_on own spells (refused codes)

pub from_given : (codes_word r c : List ℕ) (Next : Contents → Verdict → Type 0) (R : Contents) (v : Verdict) → GivesRepository codes_word r c R → Next R v → FromRepository codes_word r c Next v
from_given codes_word r c Next R v (own, spells, joined) next = goes_on own spells (goes_on R joined next)

-- a stop that tells one thing tells another that follows
pub stops_by : (A B : Verdict → Type 0) (stop : Stop) → ((v : Verdict) → A v → B v) → StopsBy A stop → StopsBy B stop
stops_by A B (Refused refusal) f h = f _ h
stops_by A B ReadFault f h = tt
stops_by A B WriteFault f h = tt
stops_by A B Memory f h = tt

-- an answer has one error
pub same_error : {T E : Type 0} (r : Result T E) (a b : E) → r ≡ Err a → r ≡ Err b → a ≡ b
same_error r a b is at = cc

-- what follows of an answer
pub if_ok : {T E : Type 0} (A B : T → Type 0) (r : Result T E) → ((x : T) → A x → B x) → IfOk r A → IfOk r B
if_ok A B (Ok x) f h = f x h
if_ok A B (Err e) f h = tt

pub if_err : {T E : Type 0} (A B : E → Type 0) (r : Result T E) → ((e : E) → A e → B e) → IfErr r A → IfErr r B
if_err A B (Ok x) f h = tt
if_err A B (Err e) f h = f e h

pub if_both : {T E : Type 0} (A B C : E → Type 0) (r : Result T E) → ((e : E) → A e → B e → C e) → IfErr r A → IfErr r B → IfErr r C
if_both A B C (Ok x) f g h = tt
if_both A B C (Err e) f g h = f e g h
