-- What a command does is what the words ask for.
use Rattle.std.proofs.Common.{◌≡◌, ◌⊎◌, inl, inr, ℕ, List, [], ◌∷◌, Option, Ok, Err, codes, length, refl, sym, ap, ◌∙◌, subst, arith}
use Rattle.std.specs.Prelude.{if◌then◌else◌}
use Rattle.std.specs.Str.{bytes_eq}
use Rattle.std.specs.Str.Parse.{digits_value}
use Rattle.repo_engine.specs.Answer.{Answer, HasCompiledMessage, IsVerdictOf}
use Rattle.repo_engine.specs.inner.Arms.{Carries}
use Rattle.repo_engine.specs.inner.Commands.{AsksFor, IsBoundedDrill}
use Rattle.repo_engine.specs.declared.command.Command as declared
use Rattle.repo_engine.specs.declared.command.Command.TheVariants as asked
use Rattle.repo_engine.specs.Command.{Command, list, message, drill, HasCommandForm, pulled_by, verb_word}
use Rattle.repo_engine.specs.Run.{End, HasFilesTold, Performs, TellsOfFiles, TellsVerdict}
use Rattle.repo_engine.specs.Sources.{Use, Untouched, AreUsed, source_ended_of}
use Rattle.repo_engine.specs.Verdict.{Verdict}
use Rattle.repo_engine.specs.declared.command.Verb.{Verb}
use Rattle.repo_engine.specs.declared.command.Verb.TheVariants.{Types, Xsd, Asn1, CheckXml, CheckDer, CanonXml, XmlToDer, DerToXml}
use Rattle.repo_engine.specs.declared.refusal.Stop.TheVariants.{Refused, ReadFault, WriteFault, Memory}
use Rattle.repo_engine.proofs.Pulls.{other_answers}
use Rattle.repo_engine.proofs.Steps.{if_err}

abbrev first_of : List (List ℕ) → List ℕ
first_of (a ∷ rest) = a
first_of [] = []

abbrev second_of : List (List ℕ) → List ℕ
second_of (a ∷ b ∷ rest) = b
second_of ws = []

abbrev third_of : List (List ℕ) → List ℕ
third_of (a ∷ b ∷ c ∷ rest) = c
third_of ws = []

abbrev fourth_of : List (List ℕ) → List ℕ
fourth_of (a ∷ b ∷ c ∷ d ∷ rest) = d
fourth_of ws = []

-- the command that a word is, and any where it is none
abbrev verb_of : List ℕ → Verb
verb_of word =
    if bytes_eq word (verb_word Types) then Types
    else (if bytes_eq word (verb_word Xsd) then Xsd
    else (if bytes_eq word (verb_word Asn1) then Asn1
    else (if bytes_eq word (verb_word CheckXml) then CheckXml
    else (if bytes_eq word (verb_word CheckDer) then CheckDer
    else (if bytes_eq word (verb_word CanonXml) then CanonXml
    else (if bytes_eq word (verb_word XmlToDer) then XmlToDer
    else DerToXml))))))

verb_is : (v : Verb) → verb_of (verb_word v) ≡ v
verb_is Types = refl
verb_is Xsd = refl
verb_is Asn1 = refl
verb_is CheckXml = refl
verb_is CheckDer = refl
verb_is CanonXml = refl
verb_is XmlToDer = refl
verb_is DerToXml = refl

one_verb : (v w : Verb) → verb_word v ≡ verb_word w → v ≡ w
one_verb v w e = sym (verb_is v) ∙ (ap verb_of e ∙ verb_is w)

-- words have the form of one command
pub one_command : (ws : List (List ℕ)) (a b : Command) → HasCommandForm ws a → HasCommandForm ws b → a ≡ b
one_command ws (list c) (list d) f g = ap list (ap third_of (sym f.1 ∙ g.1))
one_command ws (list c) (message verb d id) f g = absurd (let n : 3 ≡ 4 = ap length (sym f.1 ∙ g.1) in omega (arith, n))
one_command ws (message verb c id) (list d) f g = absurd (let n : 4 ≡ 3 = ap length (sym f.1 ∙ g.1) in omega (arith, n))
one_command ws (message verb c id) (message word d other) f g =
    let same = sym f.1 ∙ g.1 in
    let verbs : verb ≡ word = one_verb verb word (ap first_of same) in
    let words : c ≡ d = ap third_of same in
    let ids : id ≡ other = ap fourth_of same in
    λ i. message (verbs i) (words i) (ids i)
one_command ws (drill n s) (drill m t) (a, b, e, says_n, says_s, small) (c, d, also, says_m, says_t, within) =
    let same = sym e ∙ also in
    let numbers : n ≡ m = sym says_n.1 ∙ (ap (digits_value 10) (ap second_of same) ∙ says_m.1) in
    let sizes : s ≡ t = sym says_s.1 ∙ (ap (digits_value 10) (ap third_of same) ∙ says_t.1) in
    λ i. drill (numbers i) (sizes i)
one_command ws (drill n s) (list d) (a, b, e, x, y, z) g = absurd (let k : 5 ≡ 4 = ap (λ x. length (first_of x)) (sym e ∙ g.1) in omega (arith, k))
one_command ws (list c) (drill n s) f (a, b, e, x, y, z) = absurd (let k : 4 ≡ 5 = ap (λ x. length (first_of x)) (sym f.1 ∙ e) in omega (arith, k))
one_command ws (drill n s) (message verb d id) (a, b, e, x, y, z) g = absurd (let k : 3 ≡ 4 = ap length (sym e ∙ g.1) in omega (arith, k))
one_command ws (message verb c id) (drill n s) f (a, b, e, x, y, z) = absurd (let k : 4 ≡ 3 = ap length (sym f.1 ∙ e) in omega (arith, k))

pub tells_more : (A B : Verdict → Type 0) (end : End) (h h' : Option (List ℕ)) → ((v : Verdict) → A v → B v) → TellsVerdict A end h h' → TellsVerdict B end h h'
tells_more A B (Ok done) h h' f t = (t.0, f _ t.1, t.2)
tells_more A B (Err (Refused refusal)) h h' f t = (t.0, f _ t.1, t.2)
tells_more A B (Err ReadFault) h h' f t = tt
tells_more A B (Err WriteFault) h h' f t = (t.0, f _ t.1, t.2)
tells_more A B (Err Memory) h h' f (inl keeps) = inl keeps
tells_more A B (Err Memory) h h' f (inr t) = inr (t.0, f _ t.1, t.2)

-- words with the form of a command that is carried out
pub performs_command : {R C I O : Type 0} (ws : List (List ℕ)) (command : Command) (repo : Use R) (codes : Use C) (inst : Use I) (held : O → Option (List ℕ)) (faults : O → ℕ) (old new : O) (end : End)
    → HasCommandForm ws command → Carries command repo codes inst held faults old new end → Performs ws repo codes inst held faults old new end
performs_command ws command repo codes inst held faults old new end form carries = record {
  words = (λ u. absurd (u command form), λ e. absurd (carries.no_words e));
  untouched = λ u. absurd (u command form);
  sources = λ other same. subst (λ k. AreUsed (pulled_by k).repository (pulled_by k).codes (pulled_by k).instance (source_ended_of end) repo codes inst) (one_command ws command other form same) carries.sources;
  verdict = λ r c i left. tells_more (IsVerdictOf command r c i) (Answer ws r c i) end _ _ (λ v h. inr (command, form, h))
      (carries.verdict r c i (left command form));
  repository_verdict = carries.repository_verdict;
  files_verdict = λ other same r c. subst (λ k. HasFilesTold k (repo.left repo.old) (codes.left codes.old) r c → TellsOfFiles k r c end) (one_command ws command other form same) (carries.files_verdict r c);
  files_pulled = carries.files_pulled;
  instance_pulled = λ r c left. if_err _ _ end (other_answers (λ i. IsVerdictOf command r c i) inst (λ i. Answer ws r c i) (λ i v. asked r c i v))
      (carries.instance_pulled r c (left command form));
  codes_behind = carries.codes_behind;
  instance_behind = λ other same r c. subst (λ k. HasFilesTold k (repo.left repo.old) (codes.left codes.old) r c → Untouched inst ⊎ HasCompiledMessage k r c) (one_command ws command other form same) (carries.instance_behind r c);
  out = carries.out;
} where
  asked : (r c i : List ℕ) (v : Verdict) → Answer ws r c i v → IsVerdictOf command r c i v
  asked r c i v (inl (unlisted, is)) = absurd (unlisted command form)
  asked r c i v (inr (other, same, of)) = subst (λ k. IsVerdictOf k r c i v) (sym (one_command ws command other form same)) of

-- a command that words ask for is bounded
pub asked_bounded : (ws : List (List ℕ)) (command : declared.Command) → AsksFor ws command → IsBoundedDrill command
asked_bounded ws (asked.List codes_word) h = tt
asked_bounded ws (asked.Message verb codes_word id) h = tt
asked_bounded ws (asked.Drill number size) (one, other, is, x, y, small) = small
