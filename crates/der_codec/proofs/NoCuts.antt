-- What breaks a rule of the message is no cut.
use Rattle.std.proofs.Common.{◌≡◌, ◌≢◌, ℕ, suc, Bool, true, false, List, [], ◌∷◌, length, drop, Some, Err, sym, ◌∙◌, subst, inl, inr}
use Rattle.std.specs.Prelude.{if◌then◌else◌, nat_lt}
use Rattle.lexical_core.specs.declared.rule.Rule.{Rule}
use Rattle.lexical_core.specs.declared.rule.Rule.TheVariants.{UnexpectedTag, DerMissing, DerTruncated}
use Rattle.der_octets.specs.Octets.{Tag}
use Rattle.reference_check.specs.Steps.{has_room}
use Rattle.der_model.specs.DerMessage.{DerMessage}
use Rattle.der_model.specs.Structures.{Component, Label, Structure, Holds, Fields, OneOf, Items, Empty, structure}
use Rattle.der_model.specs.States as states
use Rattle.der_model.specs.States.{State, Start, AwaitsLength, AwaitsContents, Within, IdentifierAnswer, Begins, Breaks, EndAnswer, Fine, EndBreaks, is_under, field_answer, any_answer, one_answer, item_answer, identifier_answer, next_number, skipping, missing_text, level_answer, field_end, one_end, item_end, end_answer}
use Rattle.der_model.specs.LeafContents.{ContentsUnder}
use Rattle.der_model.specs.Faults.{BreaksIn}
use Rattle.der_model.specs.Structures.{LeafOf, Fragment}
use Rattle.der_codec.specs.Levels.{IsLevel, AreLevels, first_of}
use Rattle.der_codec.specs.Components.{IsFound, IsEnded}
use Rattle.der_codec.specs.Decoding.{IsOpenState, Reads}
use Rattle.der_codec.specs.declared.components.Found.TheVariants as found
use Rattle.der_codec.specs.declared.value_ends.Ended.TheVariants as ended
use Rattle.der_codec.specs.declared.components.Added.{Added}
use Rattle.der_codec.specs.declared.level.Level as levels
use Rattle.der_codec.specs.declared.decoder.Due.{Due}
use Rattle.der_codec.specs.declared.decoder.Due.TheVariants as due

-- a rule that is told is no cut
abbrev NoCut : {P : Type 0} → IdentifierAnswer P → Type 0
NoCut (Begins k c) = Unit {0}
NoCut (Breaks rule added) = rule ≢ DerTruncated

skipped : {P : Type 0} (label : Label) (x : IdentifierAnswer P) → NoCut (skipping label x)
skipped label (Begins k c) = λ e. cc
skipped label (Breaks UnexpectedTag added) = λ e. cc
skipped label (Breaks rule added) = λ e. cc

field_case : {P : Type 0} (k : ℕ) (c : Component P) (later : IdentifierAnswer P) (u r : Bool) → NoCut later → NoCut (if u then Begins k c else (if r then skipping c.label later else later))
field_case k c later true r h = tt
field_case k c later false true h = skipped c.label later
field_case k c later false false h = h

fields : {P : Type 0} (k : ℕ) (cs : List (Component P)) (b : Bool) (t : Tag) → NoCut (field_answer k cs b t)
fields k [] b t = λ e. cc
fields k (c ∷ cs) b t = field_case k c (field_answer (suc k) cs b t) (is_under c b t) c.required (fields (suc k) cs b t)

any_case : {P : Type 0} (k : ℕ) (c : Component P) (later : IdentifierAnswer P) (u : Bool) → NoCut later → NoCut (if u then Begins k c else later)
any_case k c later true h = tt
any_case k c later false h = h

anys : {P : Type 0} (k : ℕ) (cs : List (Component P)) (b : Bool) (t : Tag) → NoCut (any_answer k cs b t)
anys k [] b t = λ e. cc
anys k (c ∷ cs) b t = any_case k c (any_answer (suc k) cs b t) (is_under c b t) (anys (suc k) cs b t)

ones : {P : Type 0} (came : List ℕ) (x : IdentifierAnswer P) → NoCut x → NoCut (one_answer came x)
ones [] x h = h
ones (k ∷ came) x h = λ e. cc

items : {P : Type 0} (r : Bool) (x : IdentifierAnswer P) → NoCut x → NoCut (item_answer r x)
items true x h = h
items false (Begins k c) h = λ e. cc
items false (Breaks rule added) h = h

answers : {P : Type 0} (s : Structure P) (came : List ℕ) (b : Bool) (t : Tag) → NoCut (identifier_answer s came b t)
answers (Fields cs) came b t = fields (next_number came) (drop (next_number came) cs) b t
answers (OneOf cs) came b t = ones came (any_answer 0 cs b t) (anys 0 cs b t)
answers (Items s cs) came b t = items (has_room (length came) s.max) (any_answer 0 cs b t) (anys 0 cs b t)
answers (Holds contents) came b t = λ e. cc
answers Empty came b t = λ e. cc

told : (m : DerMessage ℕ) (rule : Rule) (added : Added) (x : IdentifierAnswer ℕ) → NoCut x → IsFound m.forms (found.Breaks rule added) x → rule ≢ DerTruncated
told m rule added (Begins k c) h f = absurd f
told m rule added (Breaks r text) h f = λ e. h (sym f.0 ∙ e)

abbrev NoEndCut : EndAnswer → Type 0
NoEndCut Fine = Unit {0}
NoEndCut (EndBreaks rule added) = rule ≢ DerTruncated

end_case : {P : Type 0} (c : Component P) (later : EndAnswer) (r : Bool) → NoEndCut later → NoEndCut (if r then EndBreaks DerMissing (missing_text c.label) else later)
end_case c later true h = λ e. cc
end_case c later false h = h

field_ends : {P : Type 0} (cs : List (Component P)) → NoEndCut (field_end cs)
field_ends [] = tt
field_ends (c ∷ cs) = end_case c (field_end cs) c.required (field_ends cs)

one_ends : (came : List ℕ) → NoEndCut (one_end came)
one_ends [] = λ e. cc
one_ends (k ∷ came) = tt

item_ends : (b : Bool) → NoEndCut (item_end b)
item_ends true = λ e. cc
item_ends false = tt

end_answers : {P : Type 0} (s : Structure P) (came : List ℕ) → NoEndCut (end_answer s came)
end_answers (Fields cs) came = field_ends (drop (next_number came) cs)
end_answers (OneOf cs) came = one_ends came
end_answers (Items s cs) came = item_ends (nat_lt (length came) s.min)
end_answers (Holds contents) came = tt
end_answers Empty came = tt

end_told : (m : DerMessage ℕ) (rule : Rule) (added : Added) (x : EndAnswer) → NoEndCut x → IsEnded m.forms (ended.Breaks rule added) x → rule ≢ DerTruncated
end_told m rule added Fine h f = absurd f
end_told m rule added (EndBreaks r text) h f = λ e. h (sym f.0 ∙ e)

-- the innermost level stands for an open value
some_level : (m : DerMessage ℕ) (xs : List levels.Level) (level : levels.Level) (d : Due) (s : State ℕ) → IsOpenState m xs d s → Some level ≡ first_of xs → (l : states.DerLevel ℕ) × IsLevel m.forms level l
some_level m xs level d s op is = by xs is d s op
  where
    among : (xs : List levels.Level) → Some level ≡ first_of xs → (ls : List (states.DerLevel ℕ)) → AreLevels m.forms xs ls → (l : states.DerLevel ℕ) × IsLevel m.forms level l
    among [] e ls op = absurd cc
    among (x ∷ xs) e [] op = absurd op
    among (x ∷ xs) e (l ∷ ls) op = (let same : x ≡ level = cc in (l, subst (λ z. IsLevel m.forms z l) same op.0))

    none : (xs : List levels.Level) → xs ≡ [] → Some level ≡ first_of xs → (l : states.DerLevel ℕ) × IsLevel m.forms level l
    none [] q e = absurd cc
    none (x ∷ xs) q e = absurd cc

    by : (xs : List levels.Level) → Some level ≡ first_of xs → (d : Due) (s : State ℕ) → IsOpenState m xs d s → (l : states.DerLevel ℕ) × IsLevel m.forms level l
    by xs e (due.Tag step) Start op = none xs op e
    by xs e (due.Tag step) (Within (l ∷ ls)) op = among xs e (l ∷ ls) op
    by xs e (due.Length c spot step) (AwaitsLength b of names ls) op = among xs e ls op.2
    by xs e (due.Contents spot left) (AwaitsContents of names n ls) op = among xs e ls op.1
    by xs e due.Over (Within []) op = none xs op e
    by xs e d s op = absurd op

pub identifier_stays : (m : DerMessage ℕ) (xs : List levels.Level) (level : levels.Level) (d : Due) (start place : ℕ) (bytes : List ℕ) (b : Bool) (t : Tag) (rule : Rule) (added : Added) → Reads m xs d start place bytes → Some level ≡ first_of xs
    → ((l : states.DerLevel ℕ) → IsLevel m.forms level l → IsFound m.forms (found.Breaks rule added) (level_answer m l b t)) → rule ≢ DerTruncated
identifier_stays m xs level d start place bytes b t rule added r is h =
    let l = some_level m xs level d r.state r.is_open is in
    told m rule added (level_answer m l.0 b t) (answers (structure m l.0.spot) l.0.came b t) (h l.0 l.1)

pub end_stays : (m : DerMessage ℕ) (xs : List levels.Level) (level : levels.Level) (d : Due) (start place : ℕ) (bytes : List ℕ) (rule : Rule) (added : Added) → Reads m xs d start place bytes → Some level ≡ first_of xs
    → ((l : states.DerLevel ℕ) → IsLevel m.forms level l → IsEnded m.forms (ended.Breaks rule added) (end_answer (structure m l.spot) l.came)) → rule ≢ DerTruncated
end_stays m xs level d start place bytes rule added r is h =
    let l = some_level m xs level d r.state r.is_open is in
    end_told m rule added (end_answer (structure m l.0.spot) l.0.came) (end_answers (structure m l.0.spot) l.0.came) (h l.0 l.1)

-- contents break no such rule
pub contents_stay : {P : Type 0} (m : DerMessage P) (s : Structure P) (octets : List ℕ) (rule : Rule) → BreaksIn m s octets rule → rule ≢ DerTruncated
contents_stay m (Holds (LeafOf simple)) octets rule h = λ e. cut (subst (λ z. ContentsUnder simple octets (Err z)) e h)
  where
    cut : ContentsUnder simple octets (Err DerTruncated) → ⊥
    cut (codes, leaf, is, inl (text, canonical, first)) = first.broken
    cut (codes, leaf, is, inr (none, rule)) = cc
contents_stay m (Holds Fragment) octets rule h = λ e. (let both = sym h.0 ∙ e in cc)
contents_stay m s octets rule h = absurd h
