-- The path of open elements.
use Rattle.std.proofs.Common.{◌≡◌, ℕ, suc, ◌+◌, ◌<◌, List, [], ◌∷◌, ◌++◌, Option, Some, None, take, get_or, length, refl, ap, ◌∙◌, sym, reverse, arith, append-nil, add-one, subst, take-suc}
use Rattle.std.specs.Prelude.{codes, Result, Ok, Err, IfOk}
use Rattle.std.proofs.lemmas.List.{reverse-append, length-reverse}
use Rattle.lexical_core.specs.declared.rule.Rule.{Rule}
use Rattle.facets.specs.declared.simple.Simple.{Simple}
use Rattle.reference_check.specs.Forms.{Graph, Form}
use Rattle.reference_check.specs.Words.{times}
use Rattle.reference_check.specs.Steps.{Came, EndsWith}
use Rattle.message_model.specs.Message.{Message}
use Rattle.xml_instances.specs.declared.opened.Refusal.{Refusal}
use Rattle.xml_instances.specs.declared.opened.Refusal.TheVariants.{Breaks, Memory}
use Rattle.xml_instances.specs.Levels.{Level, Parent, Leaf, Envelope, Foreign, path_in, levels_path, last_name, numbered_step}
use Rattle.xml_instances.specs.declared.content.OpenText.{OpenText}
use Rattle.xml_instances.specs.declared.opened.Opened.TheVariants as opened
use Rattle.xml_instances.specs.Open.{last_step_of, path_so_far, path_round, StandsOpen, StandFor, RefusesWith, IsPathTold}
use Rattle.xml_instances.specs.declared.opened.Opened.{Opened}

pub one_name : (types : Graph ℕ Simple) (es : List Opened) (i : ℕ) (d : Opened) → i < length es → path_round types (take (i + 1) es) ≡ path_round types (take i es) ++ last_step_of types (get_or es i d)
one_name types es i d h = rw add-one (ap (path_so_far types) (ap reverse (take-suc es i d h) ∙ reverse-append (take i es) (get_or es i d ∷ [])))

-- the names of what is open are the path
pub names_are : (m : Message ℕ) (es : List Opened) (ls : List (Level ℕ)) → StandFor m es ls → path_so_far m.forms es ≡ path_in ls
names_are m [] [] h = refl
names_are m [] (l ∷ ls) h = absurd h
names_are m (e ∷ es) [] h = absurd h
names_are m (opened.Parent n last count ∷ es) (Parent f d ∷ ls) h = ap (λ v. v ++ last_step_of m.forms (opened.Parent n last count)) (names_are m es ls h.1) ∙ ap (λ v. path_in ls ++ v) (of_last last h.0.1 h.0.2)
  where
    last_of : (f : Form ℕ Simple) (all b : List ℕ) (k : ℕ) → last_name f all (b ++ k ∷ []) ≡ numbered_step f k (times k all)
    last_of f all [] k = refl
    last_of f all (i ∷ []) k = refl
    last_of f all (i ∷ j ∷ b) k = last_of f all (j ∷ b) k

    of_last : (last : Option ℕ) → Came f d → EndsWith d last count → last_step_of m.forms (opened.Parent n last count) ≡ last_name f d d
    of_last None came (e, c) = rw e refl
    of_last (Some k) came (before, e, counted) = rw (h.0.0, ← counted) (sym (ap (last_name f d) e ∙ last_of f d before k))
names_are m (opened.Envelope filled ∷ es) (Envelope has ∷ ls) h = append-nil _ ∙ names_are m es ls h.1
names_are m (opened.Foreign ∷ es) (Foreign ∷ ls) h = append-nil _ ∙ names_are m es ls h.1
names_are m (opened.Text ∷ es) (Leaf simple text ∷ ls) h = absurd h.0
names_are m (opened.Parent n last count ∷ es) (Leaf simple text ∷ ls) h = absurd h.0
names_are m (opened.Parent n last count ∷ es) (Envelope has ∷ ls) h = absurd h.0
names_are m (opened.Parent n last count ∷ es) (Foreign ∷ ls) h = absurd h.0
names_are m (opened.Text ∷ es) (Parent f d ∷ ls) h = absurd h.0
names_are m (opened.Text ∷ es) (Envelope has ∷ ls) h = absurd h.0
names_are m (opened.Text ∷ es) (Foreign ∷ ls) h = absurd h.0
names_are m (opened.Envelope filled ∷ es) (Parent f d ∷ ls) h = absurd h.0
names_are m (opened.Envelope filled ∷ es) (Leaf simple text ∷ ls) h = absurd h.0
names_are m (opened.Envelope filled ∷ es) (Foreign ∷ ls) h = absurd h.0
names_are m (opened.Foreign ∷ es) (Parent f d ∷ ls) h = absurd h.0
names_are m (opened.Foreign ∷ es) (Leaf simple text ∷ ls) h = absurd h.0
names_are m (opened.Foreign ∷ es) (Envelope has ∷ ls) h = absurd h.0

-- of the innermost element the path is that of those round it
pub path_is : (m : Message ℕ) (text : Option OpenText) (e : Opened) (round : List Opened) (ls : List (Level ℕ)) → StandsOpen m text (Some e) round ls → path_round m.forms round ≡ levels_path ls
path_is m text e round [] h = absurd h
path_is m text e round (l ∷ ls) h = names_are m (reverse round) ls h.1

pub no_path : (m : Message ℕ) (text : Option OpenText) (round : List Opened) (ls : List (Level ℕ)) → StandsOpen m text None round ls → codes "/" ≡ levels_path ls
no_path m text round [] h = refl
no_path m text round (l ∷ ls) h = absurd h

pub told_of : {E : Type 0} (rule : Rule) (made : Result (List ℕ) E) (path : List ℕ) (r : Refusal) → IfOk made (λ t. t ≡ path) → IsPathTold rule made r → RefusesWith rule path r
told_of rule (Ok p) path (Breaks q t) e h = (h.0, h.1 ∙ e)
told_of rule (Ok p) path Memory e h = tt
told_of rule (Err x) path (Breaks q t) e h = absurd h
told_of rule (Err x) path Memory e h = tt

pub named_path : {E : Type 0} (m : Message ℕ) (text : Option OpenText) (o : Option Opened) (e : Opened) (round : List Opened) (ls : List (Level ℕ)) (r : Result (List ℕ) E) → o ≡ Some e → StandsOpen m text o round ls → IfOk r (λ t. t ≡ path_round m.forms round) → IfOk r (λ t. t ≡ levels_path ls)
named_path m text o e round ls (Ok t) is h k = k ∙ path_is m text e round ls (subst (λ (x : Option Opened). StandsOpen m text x round ls) is h)
named_path m text o e round ls (Err x) is h k = tt

-- how many elements are open
stand_length : (m : Message ℕ) (es : List Opened) (ls : List (Level ℕ)) → StandFor m es ls → length es ≡ length ls
stand_length m [] [] h = refl
stand_length m [] (l ∷ ls) h = absurd h
stand_length m (e ∷ es) [] h = absurd h
stand_length m (e ∷ es) (l ∷ ls) h = ap suc (stand_length m es ls h.1)

pub no_depth : (m : Message ℕ) (text : Option OpenText) (o : Option Opened) (round : List Opened) (ls : List (Level ℕ)) → o ≡ None → StandsOpen m text o round ls → 0 ≡ length ls
no_depth m text o round ls is h = go ls (subst (λ (x : Option Opened). StandsOpen m text x round ls) is h)
  where
    go : (ls : List (Level ℕ)) → StandsOpen m text None round ls → 0 ≡ length ls
    go [] h = refl
    go (l ∷ ls) h = absurd h

pub one_depth : (m : Message ℕ) (text : Option OpenText) (o : Option Opened) (e : Opened) (round : List Opened) (ls : List (Level ℕ)) → o ≡ Some e → StandsOpen m text o round ls → length round + 1 ≡ length ls
one_depth m text o e round ls is h = go ls (subst (λ (x : Option Opened). StandsOpen m text x round ls) is h)
  where
    one : (a b c : ℕ) → a ≡ c → a ≡ b → b + 1 ≡ suc c
    one a b c h k = omega (arith, h, k)

    go : (ls : List (Level ℕ)) → StandsOpen m text (Some e) round ls → length round + 1 ≡ length ls
    go [] h = absurd h
    go (l ∷ ls) h = one (length (reverse round)) (length round) (length ls) (stand_length m (reverse round) ls h.1) (length-reverse round)
