-- What bytes give is a repository, with the codes that are handed in and without.
use Rattle.std.proofs.Common.{ℕ, List, inl, inr, sym, subst}
use Rattle.repo_objects.specs.Repository.{Contents, IsRepository}
use Rattle.repo_loader.specs.Laws.{SpelledIsARepository}
use Rattle.code_sets.specs.Laws.{JoinedIsARepository}
use Rattle.repo_engine.specs.Answer.{GivesRepository}

pub given_is_a_repository : SpelledIsARepository → JoinedIsARepository → (codes_word r c : List ℕ) (R : Contents) → GivesRepository codes_word r c R → IsRepository R
given_is_a_repository spelled joined codes_word r c R (own, spells, inl (none, same)) = subst IsRepository (sym same) (spelled r own spells)
given_is_a_repository spelled joined codes_word r c R (own, spells, inr (handed, joins)) = joined own c R (spelled r own spells) joins
