-- The steps of the reader: what it has read with one octet more, and the faults that it tells.
use Rattle.std.specs.Prelude.{codes}
use Rattle.std.proofs.Common.{◌≡◌, ℕ, ◌+◌, ◌≤◌, ◌<◌, Bool, true, false, List, [], ◌∷◌, ◌++◌, length, Option, Some, None, refl, sym, ap, ◌∙◌, subst, arith, append-nil, length-append}
use Rattle.lexical_core.specs.declared.rule.Rule.{Rule}
use Rattle.lexical_core.specs.declared.rule.Rule.TheVariants.{Overrun, UnexpectedTag, BadTagOctets, BadLengthOctets}
use Rattle.der_octets.specs.Octets.{Tag, universal, identifier, length_octets, IsShortTag, IsShortLength}
use Rattle.der_octets.specs.TagSteps as tags
use Rattle.der_octets.specs.LengthSteps as lengths
use Rattle.der_octets.specs.declared.tag_step.TagStep.{TagStep}
use Rattle.der_octets.specs.declared.length_step.LengthStep.{LengthStep}
use Rattle.der_octets.proofs.StepFronts.{tag_goes_on, length_goes_on}
use Rattle.der_octets.proofs.TagStepLemmas.{taken_none}
use Rattle.reference_check.specs.Words.{UpTo}
use Rattle.der_model.specs.Structures as structures
use Rattle.der_model.specs.DerMessage.{DerMessage}
use Rattle.der_model.specs.Structures.{structure}
use Rattle.der_model.specs.States as states
use Rattle.der_model.specs.States.{Identifier, Length, End, State, Start, AwaitsLength, AwaitsContents, Within, IdentifierAnswer, level_answer, begun_state, names_in, innermost_end, level_end, end_from, is_under, end_answer, EndAnswer, Fine, EndBreaks}
use Rattle.der_model.specs.Faults.{DerFront, broken, halts, overruns, IsHeaderFront, IsNoHeader, header_rule, outermost}
use Rattle.der_model.proofs.Continued.{front_more}
use Rattle.der_model.proofs.WholeValues.{front_then, under_same}
use Rattle.der_codec.specs.Levels.{IsSpot, IsLevel, AreLevels}
use Rattle.der_codec.specs.Components.{IsFound, IsEnded, added_text}
use Rattle.der_codec.specs.Decoding.{IsOpenState, IsBegun, Reads, Fails, IsBelowEnd, IsPastEnd, end_of_first, IsAdvanced}
use Rattle.der_codec.specs.declared.components.Found.TheVariants as found
use Rattle.der_codec.specs.declared.components.Added.{Added}
use Rattle.der_codec.specs.declared.value_ends.Ended.TheVariants as ended
use Rattle.der_codec.specs.declared.level.Spot.{Spot}
use Rattle.der_codec.specs.declared.level.Level.{Level}
use Rattle.der_codec.specs.declared.decoder.Due.{Due}
use Rattle.der_codec.specs.declared.decoder.Due.TheVariants as due

level_limits : (m : DerMessage ℕ) (xs : List Level) (ls : List (states.DerLevel ℕ)) → AreLevels m.forms xs ls → level_end ls ≡ end_of_first xs
level_limits m [] [] h = refl
level_limits m (x ∷ xs) (l ∷ ls) h = ap Some (sym h.0.end)
level_limits m xs ls h = absurd h

pub open_limit : (m : DerMessage ℕ) (xs : List Level) (d : Due) (s : State ℕ) → IsOpenState m xs d s → innermost_end s ≡ end_of_first xs
open_limit m xs (due.Tag step) Start h = ap end_of_first (sym h)
open_limit m xs (due.Tag step) (Within (l ∷ ls)) h = level_limits m xs (l ∷ ls) h
open_limit m xs (due.Length c spot step) (AwaitsLength b of names ls) h = level_limits m xs ls h.2
open_limit m xs (due.Contents spot left) (AwaitsContents of names n ls) h = level_limits m xs ls h.1
open_limit m xs due.Over (Within []) h = ap end_of_first (sym h)
open_limit m xs d s h = absurd h

up_to : (o : Option ℕ) (place p : ℕ) → IsBelowEnd place o → p ≤ place + 1 → UpTo p o
up_to None place p h l = tt
up_to (Some e) place p h l = omega arith

pub lower : (o : Option ℕ) (at place : ℕ) → at ≤ place → IsBelowEnd place o → IsBelowEnd at o
lower None at place l h = tt
lower (Some e) at place l h = omega arith

-- what has begun of a header is the front of one
pub tag_front : (m : DerMessage ℕ) (xs : List Level) (step : TagStep) (s : State ℕ) (at : ℕ) (rest : List ℕ) → IsOpenState m xs (due.Tag step) s → tags.HasTakenTag step rest → IsBelowEnd at (end_of_first xs) → IsHeaderFront s at rest
tag_front m xs step Start at rest h t low = (let g = tag_goes_on step.come step.first step.high rest t in record { more = g.more; some = g.some; header = (g.constructed, g.tag, g.short, g.is) })
tag_front m (x ∷ xs) step (Within (l ∷ ls)) at rest h t low =
    let g = tag_goes_on step.come step.first step.high rest t in
    let same = h.0.end in
    record { more = g.more; some = g.some; header = (omega arith, g.constructed, g.tag, g.short, g.is) }
tag_front m [] step (Within (l ∷ ls)) at rest h t low = absurd h
tag_front m xs step s at rest h t low = absurd h

pub length_front : (m : DerMessage ℕ) (xs : List Level) (c : Bool) (spot : Spot) (step : LengthStep) (s : State ℕ) (at : ℕ) (rest : List ℕ) → IsOpenState m xs (due.Length c spot step) s → lengths.HasTakenLength step rest → IsHeaderFront s at rest
length_front m xs c spot step (AwaitsLength b of names ls) at rest h t = (let g = length_goes_on step.count step.come step.value rest t in record { more = g.more; some = g.some; header = (g.n, g.short, g.is) })
length_front m xs c spot step s at rest h t = absurd h

-- and what no header begins with
pub no_tag : (m : DerMessage ℕ) (xs : List Level) (step : TagStep) (s : State ℕ) (at : ℕ) (octets : List ℕ) → IsOpenState m xs (due.Tag step) s → ((b : Bool) (t : Tag) (more : List ℕ) → IsShortTag t → identifier b t ≡ octets ++ more → ⊥) → IsNoHeader s at octets
no_tag m xs step Start at octets h none more k = none k.0 k.1 more k.2 (sym k.3)
no_tag m xs step (Within (l ∷ ls)) at octets h none more k = none k.1 k.2 more k.3 (sym k.4)
no_tag m xs step s at octets h none more k = absurd h

pub no_length : (m : DerMessage ℕ) (xs : List Level) (c : Bool) (spot : Spot) (step : LengthStep) (s : State ℕ) (at : ℕ) (octets : List ℕ) → IsOpenState m xs (due.Length c spot step) s → ((n : ℕ) (more : List ℕ) → IsShortLength n → length_octets n ≡ octets ++ more → ⊥) → IsNoHeader s at octets
no_length m xs c spot step (AwaitsLength b of names ls) at octets h none more k = none k.0 more k.1 (sym k.2)
no_length m xs c spot step s at octets h none more k = absurd h

tag_rule : (m : DerMessage ℕ) (xs : List Level) (step : TagStep) (s : State ℕ) → IsOpenState m xs (due.Tag step) s → BadTagOctets ≡ header_rule s
tag_rule m xs step Start h = refl
tag_rule m xs step (Within (l ∷ ls)) h = refl
tag_rule m xs step s h = absurd h

length_rule : (m : DerMessage ℕ) (xs : List Level) (c : Bool) (spot : Spot) (step : LengthStep) (s : State ℕ) → IsOpenState m xs (due.Length c spot step) s → BadLengthOctets ≡ header_rule s
length_rule m xs c spot step (AwaitsLength b of names ls) h = refl
length_rule m xs c spot step s h = absurd h

-- a header stops at the octet
halted : (m : DerMessage ℕ) (xs : List Level) (d : Due) (start place : ℕ) (bytes : List ℕ) (o : ℕ) (rule : Rule) (r : Reads m xs d start place bytes) → IsBelowEnd place (end_of_first xs) → IsHeaderFront r.state r.at r.rest → IsNoHeader r.state r.at (r.rest ++ o ∷ []) → rule ≡ header_rule r.state → Fails m xs d (bytes ++ o ∷ []) rule start []
halted m xs d start place bytes o rule r low front none is = record {
  parts = r.parts;
  state = r.state;
  at = r.at;
  rest = r.rest ++ o ∷ [];
  off = 0;
  front = front_more m Start 0 bytes r.parts r.state r.at r.rest (o ∷ []) r.front;
  next = halts r.rest o [] refl (subst (λ z. UpTo (r.at + length r.rest + 1) z) (sym (open_limit m xs d r.state r.is_open)) (up_to (end_of_first xs) place (r.at + length r.rest + 1) low (let e = r.place_is in omega arith))) front none is refl refl;
  place_is = (let e = r.start_is in omega arith);
  is_open = r.is_open;
}

pub bad_tag : (m : DerMessage ℕ) (xs : List Level) (step : TagStep) (start place : ℕ) (bytes : List ℕ) (o : ℕ) (r : Reads m xs (due.Tag step) start place bytes) → IsBelowEnd place (end_of_first xs)
    → ((b : Bool) (t : Tag) (more : List ℕ) → IsShortTag t → identifier b t ≡ (r.rest ++ o ∷ []) ++ more → ⊥) → Fails m xs (due.Tag step) (bytes ++ o ∷ []) BadTagOctets start []
bad_tag m xs step start place bytes o r low none =
    halted m xs (due.Tag step) start place bytes o BadTagOctets r low
    (tag_front m xs step r.state r.at r.rest r.is_open r.is_begun (lower (end_of_first xs) r.at place (let e = r.place_is in omega arith) low))
    (no_tag m xs step r.state r.at (r.rest ++ o ∷ []) r.is_open none) (tag_rule m xs step r.state r.is_open)

pub bad_length : (m : DerMessage ℕ) (xs : List Level) (c : Bool) (spot : Spot) (step : LengthStep) (start place : ℕ) (bytes : List ℕ) (o : ℕ) (r : Reads m xs (due.Length c spot step) start place bytes) → IsBelowEnd place (end_of_first xs)
    → ((n : ℕ) (more : List ℕ) → IsShortLength n → length_octets n ≡ (r.rest ++ o ∷ []) ++ more → ⊥) → Fails m xs (due.Length c spot step) (bytes ++ o ∷ []) BadLengthOctets start []
bad_length m xs c spot step start place bytes o r low none =
    halted m xs (due.Length c spot step) start place bytes o BadLengthOctets r low
    (length_front m xs c spot step r.state r.at r.rest r.is_open r.is_begun)
    (no_length m xs c spot step r.state r.at (r.rest ++ o ∷ []) r.is_open none) (length_rule m xs c spot step r.state r.is_open)

-- an octet more of what is begun
more_octets : (m : DerMessage ℕ) (xs : List Level) (d e : Due) (start place : ℕ) (bytes more : List ℕ) (r : Reads m xs d start place bytes) → IsOpenState m xs e r.state → IsBegun e r.state (r.rest ++ more) → (w : Reads m xs e start (place + length more) (bytes ++ more)) × (w.rest ≡ r.rest ++ more)
more_octets m xs d e start place bytes more r op beg = (
  record {
    parts = r.parts;
    state = r.state;
    at = r.at;
    rest = r.rest ++ more;
    front = front_more m Start 0 bytes r.parts r.state r.at r.rest more r.front;
    is_open = op;
    is_begun = beg;
    start_is = r.start_is;
    place_is = (let sum = length-append r.rest more in let p = r.place_is in omega arith);
  },
  refl,
)

more_read : (m : DerMessage ℕ) (xs : List Level) (d e : Due) (start place : ℕ) (bytes : List ℕ) (o : ℕ) (r : Reads m xs d start place bytes) → IsOpenState m xs e r.state → IsBegun e r.state (r.rest ++ o ∷ []) → Reads m xs e start (place + 1) (bytes ++ o ∷ [])
more_read m xs d e start place bytes o r op beg = (more_octets m xs d e start place bytes (o ∷ []) r op beg).0

same_tag : (m : DerMessage ℕ) (xs : List Level) (a b : TagStep) (s : State ℕ) → IsOpenState m xs (due.Tag a) s → IsOpenState m xs (due.Tag b) s
same_tag m xs a b Start h = h
same_tag m xs a b (Within (l ∷ ls)) h = h
same_tag m xs a b s h = absurd h

same_length : (m : DerMessage ℕ) (xs : List Level) (c : Bool) (spot : Spot) (a b : LengthStep) (s : State ℕ) → IsOpenState m xs (due.Length c spot a) s → IsOpenState m xs (due.Length c spot b) s
same_length m xs c spot a b (AwaitsLength d of names ls) h = h
same_length m xs c spot a b s h = absurd h

pub more_tag : (m : DerMessage ℕ) (xs : List Level) (a b : TagStep) (start place : ℕ) (bytes : List ℕ) (o : ℕ) (r : Reads m xs (due.Tag a) start place bytes) → tags.HasTakenTag b (r.rest ++ o ∷ []) → Reads m xs (due.Tag b) start (place + 1) (bytes ++ o ∷ [])
more_tag m xs a b start place bytes o r h = more_read m xs (due.Tag a) (due.Tag b) start place bytes o r (same_tag m xs a b r.state r.is_open) h

pub more_lengths : (m : DerMessage ℕ) (xs : List Level) (c : Bool) (spot : Spot) (a b : LengthStep) (start place : ℕ) (bytes more : List ℕ) (r : Reads m xs (due.Length c spot a) start place bytes) → lengths.HasTakenLength b (r.rest ++ more)
    → (w : Reads m xs (due.Length c spot b) start (place + length more) (bytes ++ more)) × (w.rest ≡ r.rest ++ more)
more_lengths m xs c spot a b start place bytes more r h = more_octets m xs (due.Length c spot a) (due.Length c spot b) start place bytes more r (same_length m xs c spot a b r.state r.is_open) h

pub more_length : (m : DerMessage ℕ) (xs : List Level) (c : Bool) (spot : Spot) (a b : LengthStep) (start place : ℕ) (bytes : List ℕ) (o : ℕ) (r : Reads m xs (due.Length c spot a) start place bytes) → lengths.HasTakenLength b (r.rest ++ o ∷ []) → Reads m xs (due.Length c spot b) start (place + 1) (bytes ++ o ∷ [])
more_length m xs c spot a b start place bytes o r h = more_read m xs (due.Length c spot a) (due.Length c spot b) start place bytes o r (same_length m xs c spot a b r.state r.is_open) h

-- the value ends within a header
past_end : (o : Option ℕ) (place : ℕ) → IsPastEnd (place + 1) o → IsBelowEnd place o → o ≡ Some (place + 1)
past_end None place p b = absurd p
past_end (Some e) place p b = ap Some (omega arith)

overrun : (m : DerMessage ℕ) (xs : List Level) (d : Due) (start place : ℕ) (bytes : List ℕ) (r : Reads m xs d start (place + 1) bytes) → IsHeaderFront r.state r.at r.rest → IsPastEnd (place + 1) (end_of_first xs) → IsBelowEnd place (end_of_first xs) → Fails m xs d bytes Overrun start []
overrun m xs d start place bytes r front past low = record {
  parts = r.parts;
  state = r.state;
  at = r.at;
  rest = r.rest;
  off = 0;
  front = r.front;
  next = overruns r.rest [] (sym (append-nil r.rest)) (open_limit m xs d r.state r.is_open ∙ (past_end (end_of_first xs) place past low ∙ ap Some r.place_is)) front refl refl refl;
  place_is = (let e = r.start_is in omega arith);
  is_open = r.is_open;
}

pub overrun_tag : (m : DerMessage ℕ) (xs : List Level) (step : TagStep) (start place : ℕ) (bytes : List ℕ) → Reads m xs (due.Tag step) start (place + 1) bytes → start ≤ place → IsPastEnd (place + 1) (end_of_first xs) → IsBelowEnd place (end_of_first xs) → Fails m xs (due.Tag step) bytes Overrun start []
overrun_tag m xs step start place bytes r early past low =
    overrun m xs (due.Tag step) start place bytes r (tag_front m xs step r.state r.at r.rest r.is_open r.is_begun (lower (end_of_first xs) r.at place (let e = r.start_is in omega arith) low)) past low

pub overrun_length : (m : DerMessage ℕ) (xs : List Level) (c : Bool) (spot : Spot) (step : LengthStep) (start place : ℕ) (bytes : List ℕ) → Reads m xs (due.Length c spot step) start (place + 1) bytes → IsPastEnd (place + 1) (end_of_first xs) → IsBelowEnd place (end_of_first xs) → Fails m xs (due.Length c spot step) bytes Overrun start []
overrun_length m xs c spot step start place bytes r past low =
    overrun m xs (due.Length c spot step) start place bytes r (length_front m xs c spot step r.state r.at r.rest r.is_open r.is_begun) past low

up_less : (o : Option ℕ) (a b : ℕ) → a ≤ b → UpTo b o → UpTo a o
up_less None a b l h = tt
up_less (Some e) a b l h = omega arith

end_front : (m : DerMessage ℕ) (x : Level) (l : states.DerLevel ℕ) (ls : List (states.DerLevel ℕ)) (step : TagStep) (start place at : ℕ) (rest : List ℕ) → IsLevel m.forms x l → step.come ≡ 0 → tags.HasTakenTag step rest → place ≡ at + length rest → x.end ≡ place
    → IsEnded m.forms ended.Fine (end_answer (structure m l.spot) l.came) → DerFront m (Within (l ∷ ls)) at rest (End ∷ []) (Within ls) at rest
end_front m x l ls step start place at rest is fresh taken p here h =
    let none = taken_none step.come step.first step.high rest fresh taken in
    let size = ap length none in
    let end_same = is.end in
    (rest, refl, omega arith, omega arith, fine (end_answer (structure m l.spot) l.came) h, (refl, omega arith, refl))
  where
    fine : (a : EndAnswer) → IsEnded m.forms ended.Fine a → a ≡ Fine
    fine Fine f = refl
    fine (EndBreaks rule text) f = absurd f

-- The identifier octets of a component have come.
pub begun_read : (m : DerMessage ℕ) (x x2 : Level) (xs : List Level) (step : TagStep) (start place : ℕ) (bytes : List ℕ) (o : ℕ) (b : Bool) (t : Tag) (n : ℕ) (spot : Spot) (fresh : LengthStep) (r : Reads m (x ∷ xs) (due.Tag step) start place bytes) → place < x.end → IsShortTag t → r.rest ++ o ∷ [] ≡ identifier b t
    → ((l : states.DerLevel ℕ) → IsLevel m.forms x l → IsFound m.forms (found.Begins n spot) (level_answer m l b t)) → IsAdvanced x n x2 → lengths.HasTakenLength fresh []
    → Reads m (x2 ∷ xs) (due.Length b spot fresh) (place + 1) (place + 1) (bytes ++ o ∷ [])
begun_read m x x2 xs step start place bytes o b t n spot fresh r low short is h adv new = by r.state r.front r.is_open
  where
    size : length r.rest + 1 ≡ length (identifier b t)
    size = sym (length-append r.rest (o ∷ [])) ∙ ap length is

    by : (s : State ℕ) → DerFront m Start 0 bytes r.parts s r.at r.rest → IsOpenState m (x ∷ xs) (due.Tag step) s → Reads m (x2 ∷ xs) (due.Length b spot fresh) (place + 1) (place + 1) (bytes ++ o ∷ [])
    by Start front op = absurd cc
    by (Within (l ∷ ls)) front op = answer (level_answer m l b t) refl (h l op.0)
      where
        answer : (a : IdentifierAnswer ℕ) → level_answer m l b t ≡ a → IsFound m.forms (found.Begins n spot) a → Reads m (x2 ∷ xs) (due.Length b spot fresh) (place + 1) (place + 1) (bytes ++ o ∷ [])
        answer (states.Breaks rule added) e f = absurd f
        answer (states.Begins k c) e f =
            let last : State ℕ = AwaitsLength b c.spot (names_in (structure m l.spot) l.came c.label) (record l { came = k ∷ l.came } ∷ ls) in
            let p = r.place_is in
            let end_same = op.0.end in
            let counted = op.0.count in
            let next_is = adv.next in
            let count_is = adv.count in
            let one : DerFront m (Within (l ∷ ls)) r.at (r.rest ++ o ∷ []) (Identifier b t ∷ []) last (r.at + length (identifier b t)) [] =
            ([], is ∙ sym (append-nil (identifier b t)), (omega arith, short), (let z = size in omega arith), (k, c, e), (ap (begun_state m l ls b) e, refl, refl)) in
            record {
              parts = r.parts ++ (Identifier b t ∷ []);
              state = last;
              at = r.at + length (identifier b t);
              rest = [];
              front = front_then m Start 0 (bytes ++ o ∷ []) r.parts (Identifier b t ∷ []) (Within (l ∷ ls)) r.at (r.rest ++ o ∷ []) last (r.at + length (identifier b t)) [] (front_more m Start 0 bytes r.parts (Within (l ∷ ls)) r.at r.rest (o ∷ []) front) one;
              is_open = (refl, f.1, (record { spot = subst (λ z. IsSpot m.forms z l.spot) (sym adv.spot) op.0.spot; next = (let number = f.0 in omega arith); count = omega arith; end = adv.end ∙ op.0.end }, op.1));
              is_begun = new;
              start_is = (let z = size in omega arith);
              place_is = (let z = size in omega arith);
            }
    by s front op = absurd op

pub tag_breaks : (m : DerMessage ℕ) (x : Level) (xs : List Level) (step : TagStep) (start place : ℕ) (bytes : List ℕ) (o : ℕ) (b : Bool) (t : Tag) (rule : Rule) (added : Added) (r : Reads m (x ∷ xs) (due.Tag step) start place bytes) → place < x.end → IsShortTag t → r.rest ++ o ∷ [] ≡ identifier b t
    → ((l : states.DerLevel ℕ) → IsLevel m.forms x l → IsFound m.forms (found.Breaks rule added) (level_answer m l b t))
    → Fails m (x ∷ xs) (due.Tag step) (bytes ++ o ∷ []) rule start (added_text m.forms added)
tag_breaks m x xs step start place bytes o b t rule added r low short is h = by r.state r.front r.is_open
  where
    size : length r.rest + 1 ≡ length (identifier b t)
    size = sym (length-append r.rest (o ∷ [])) ∙ ap length is

    by : (s : State ℕ) → DerFront m Start 0 bytes r.parts s r.at r.rest → IsOpenState m (x ∷ xs) (due.Tag step) s → Fails m (x ∷ xs) (due.Tag step) (bytes ++ o ∷ []) rule start (added_text m.forms added)
    by Start front op = absurd cc
    by (Within (l ∷ ls)) front op = answer (level_answer m l b t) refl (h l op.0)
      where
        answer : (a : IdentifierAnswer ℕ) → level_answer m l b t ≡ a → IsFound m.forms (found.Breaks rule added) a → Fails m (x ∷ xs) (due.Tag step) (bytes ++ o ∷ []) rule start (added_text m.forms added)
        answer (states.Begins k c) e f = absurd f
        answer (states.Breaks rule2 text) e f =
            let p = r.place_is in
            let end_same = op.0.end in
            record {
              parts = r.parts;
              state = Within (l ∷ ls);
              at = r.at;
              rest = r.rest ++ o ∷ [];
              off = 0;
              front = front_more m Start 0 bytes r.parts (Within (l ∷ ls)) r.at r.rest (o ∷ []) front;
              next = broken (Identifier b t) [] (is ∙ sym (append-nil (identifier b t))) (omega arith, short) (let z = size in omega arith) (e ∙ (ap (λ z. states.Breaks z text) (sym f.0) ∙ ap (states.Breaks rule) f.1)) refl;
              place_is = (let z = r.start_is in omega arith);
              is_open = op;
            }
    by s front op = absurd op

-- The identifier octets of the outermost value have come.
pub outermost_read : (m : DerMessage ℕ) (step : TagStep) (start place : ℕ) (bytes : List ℕ) (o : ℕ) (fresh : LengthStep) (spot : Spot) (r : Reads m [] (due.Tag step) start place bytes) → r.rest ++ o ∷ [] ≡ identifier true (universal 16) → IsSpot m.forms spot structures.Instance → lengths.HasTakenLength fresh []
    → Reads m [] (due.Length true spot fresh) (place + 1) (place + 1) (bytes ++ o ∷ [])
outermost_read m step start place bytes o fresh spot r is here new = by r.state r.front r.is_open
  where
    size : length r.rest + 1 ≡ length (identifier true (universal 16))
    size = sym (length-append r.rest (o ∷ [])) ∙ ap length is

    by : (s : State ℕ) → DerFront m Start 0 bytes r.parts s r.at r.rest → IsOpenState m [] (due.Tag step) s → Reads m [] (due.Length true spot fresh) (place + 1) (place + 1) (bytes ++ o ∷ [])
    by Start front op =
        let last : State ℕ = AwaitsLength true structures.Instance (states.Numbered (codes "Document") 1 ∷ []) [] in
        let p = r.place_is in
        let one : DerFront m Start r.at (r.rest ++ o ∷ []) (Identifier true (universal 16) ∷ []) last (r.at + length (identifier true (universal 16))) [] =
        ([], is ∙ sym (append-nil (identifier true (universal 16))), omega arith, tt, refl, (refl, refl, refl)) in
        record {
          parts = r.parts ++ (Identifier true (universal 16) ∷ []);
          state = last;
          at = r.at + length (identifier true (universal 16));
          rest = [];
          front = front_then m Start 0 (bytes ++ o ∷ []) r.parts (Identifier true (universal 16) ∷ []) Start r.at (r.rest ++ o ∷ []) last (r.at + length (identifier true (universal 16))) [] (front_more m Start 0 bytes r.parts Start r.at r.rest (o ∷ []) front) one;
          is_open = (refl, here, tt);
          is_begun = new;
          start_is = (let z = size in omega arith);
          place_is = (let z = size in omega arith);
        }
    by (Within (l ∷ ls)) front op = absurd op
    by s front op = absurd op

pub outermost_breaks : (m : DerMessage ℕ) (step : TagStep) (start place : ℕ) (bytes : List ℕ) (o : ℕ) (b : Bool) (t : Tag) (r : Reads m [] (due.Tag step) start place bytes) → IsShortTag t → r.rest ++ o ∷ [] ≡ identifier b t → (true ≡ b → universal 16 ≡ t → ⊥)
    → Fails m [] (due.Tag step) (bytes ++ o ∷ []) UnexpectedTag start []
outermost_breaks m step start place bytes o b t r short is other = by r.state r.front r.is_open
  where
    not_under : (v : Bool) → is_under (outermost m) b t ≡ v → is_under (outermost m) b t ≡ false
    not_under true e = (let u = under_same (outermost m) b t e in absurd (other u.0 u.1))
    not_under false e = e

    by : (s : State ℕ) → DerFront m Start 0 bytes r.parts s r.at r.rest → IsOpenState m [] (due.Tag step) s → Fails m [] (due.Tag step) (bytes ++ o ∷ []) UnexpectedTag start []
    by Start front op = record {
      parts = r.parts;
      state = Start;
      at = r.at;
      rest = r.rest ++ o ∷ [];
      off = 0;
      front = front_more m Start 0 bytes r.parts Start r.at r.rest (o ∷ []) front;
      next = broken (Identifier b t) [] (is ∙ sym (append-nil (identifier b t))) short tt (not_under (is_under (outermost m) b t) refl, refl, refl) refl;
      place_is = (let z = r.start_is in omega arith);
      is_open = op;
    }
    by (Within (l ∷ ls)) front op = absurd op
    by s front op = absurd op

-- The length of a constructed value has come.
pub opened_read : (m : DerMessage ℕ) (x : Level) (xs : List Level) (spot : Spot) (step : LengthStep) (fresh : TagStep) (start place n : ℕ) (bytes : List ℕ) (o : ℕ) (r : Reads m xs (due.Length true spot step) start place bytes) → IsShortLength n → r.rest ++ o ∷ [] ≡ length_octets n → UpTo (place + 1 + n) (end_of_first xs)
    → x.spot ≡ spot → x.next ≡ 0 → x.count ≡ 0 → x.end ≡ place + 1 + n → tags.HasTakenTag fresh []
    → Reads m (x ∷ xs) (due.Tag fresh) (place + 1) (place + 1) (bytes ++ o ∷ [])
opened_read m x xs spot step fresh start place n bytes o r short is fits x_spot x_next x_count x_end new = by r.state r.front r.is_open
  where
    size : length r.rest + 1 ≡ length (length_octets n)
    size = sym (length-append r.rest (o ∷ [])) ∙ ap length is

    by : (s : State ℕ) → DerFront m Start 0 bytes r.parts s r.at r.rest → IsOpenState m xs (due.Length true spot step) s → Reads m (x ∷ xs) (due.Tag fresh) (place + 1) (place + 1) (bytes ++ o ∷ [])
    by (AwaitsLength true of names ls) front op =
        let p = r.place_is in
        let z = size in
        let level : states.DerLevel ℕ = record { spot = of; names = names; came = []; end = end_from r.at n } in
        let limits = level_limits m xs ls op.2 in
        let end_is : place + 1 + n ≡ end_from r.at n = omega arith in
        let up : UpTo (end_from r.at n) (level_end ls) = subst (λ q. UpTo (end_from r.at n) q) (sym limits) (subst (λ q. UpTo q (end_of_first xs)) end_is fits) in
        let one : DerFront m (AwaitsLength true of names ls) r.at (r.rest ++ o ∷ []) (Length n ∷ []) (Within (level ∷ ls)) (r.at + length (length_octets n)) [] =
        ([], is ∙ sym (append-nil (length_octets n)), short, up_less (level_end ls) (r.at + length (length_octets n)) (end_from r.at n) (omega arith) up, up, (refl, refl, refl)) in
        record {
          parts = r.parts ++ (Length n ∷ []);
          state = Within (level ∷ ls);
          at = r.at + length (length_octets n);
          rest = [];
          front = front_then m Start 0 (bytes ++ o ∷ []) r.parts (Length n ∷ []) (AwaitsLength true of names ls) r.at (r.rest ++ o ∷ []) (Within (level ∷ ls)) (r.at + length (length_octets n)) [] (front_more m Start 0 bytes r.parts (AwaitsLength true of names ls) r.at r.rest (o ∷ []) front) one;
          is_open = (record { spot = subst (λ q. IsSpot m.forms q of) (sym x_spot) op.1; next = x_next; count = x_count; end = x_end ∙ end_is }, op.2);
          is_begun = new;
          start_is = omega arith;
          place_is = omega arith;
        }
    by (AwaitsLength false of names ls) front op = absurd cc
    by s front op = absurd op

-- The length of a primitive value has come.
pub primitive_read : (m : DerMessage ℕ) (xs : List Level) (spot : Spot) (step : LengthStep) (start place n : ℕ) (bytes : List ℕ) (o : ℕ) (r : Reads m xs (due.Length false spot step) start place bytes) → IsShortLength n → r.rest ++ o ∷ [] ≡ length_octets n → UpTo (place + 1 + n) (end_of_first xs)
    → Reads m xs (due.Contents spot n) (place + 1) (place + 1) (bytes ++ o ∷ [])
primitive_read m xs spot step start place n bytes o r short is fits = by r.state r.front r.is_open
  where
    size : length r.rest + 1 ≡ length (length_octets n)
    size = sym (length-append r.rest (o ∷ [])) ∙ ap length is

    by : (s : State ℕ) → DerFront m Start 0 bytes r.parts s r.at r.rest → IsOpenState m xs (due.Length false spot step) s → Reads m xs (due.Contents spot n) (place + 1) (place + 1) (bytes ++ o ∷ [])
    by (AwaitsLength false of names ls) front op =
        let p = r.place_is in
        let z = size in
        let limits = level_limits m xs ls op.2 in
        let end_is : place + 1 + n ≡ end_from r.at n = omega arith in
        let up : UpTo (end_from r.at n) (level_end ls) = subst (λ q. UpTo (end_from r.at n) q) (sym limits) (subst (λ q. UpTo q (end_of_first xs)) end_is fits) in
        let one : DerFront m (AwaitsLength false of names ls) r.at (r.rest ++ o ∷ []) (Length n ∷ []) (AwaitsContents of names n ls) (r.at + length (length_octets n)) [] =
        ([], is ∙ sym (append-nil (length_octets n)), short, up_less (level_end ls) (r.at + length (length_octets n)) (end_from r.at n) (omega arith) up, up, (refl, refl, refl)) in
        record {
          parts = r.parts ++ (Length n ∷ []);
          state = AwaitsContents of names n ls;
          at = r.at + length (length_octets n);
          rest = [];
          front = front_then m Start 0 (bytes ++ o ∷ []) r.parts (Length n ∷ []) (AwaitsLength false of names ls) r.at (r.rest ++ o ∷ []) (AwaitsContents of names n ls) (r.at + length (length_octets n)) [] (front_more m Start 0 bytes r.parts (AwaitsLength false of names ls) r.at r.rest (o ∷ []) front) one;
          is_open = (op.1, op.2);
          is_begun = omega arith;
          start_is = omega arith;
          place_is = omega arith;
        }
    by (AwaitsLength true of names ls) front op = absurd cc
    by s front op = absurd op

-- A length leads past the end of the value that is open.
pub too_long : (m : DerMessage ℕ) (xs : List Level) (c : Bool) (spot : Spot) (step : LengthStep) (start place n : ℕ) (bytes : List ℕ) (o : ℕ) (r : Reads m xs (due.Length c spot step) start place bytes) → IsBelowEnd place (end_of_first xs) → IsShortLength n → r.rest ++ o ∷ [] ≡ length_octets n → (end : ℕ) → end_of_first xs ≡ Some end → end < place + 1 + n
    → Fails m xs (due.Length c spot step) (bytes ++ o ∷ []) Overrun start []
too_long m xs c spot step start place n bytes o r low short is end limit_is past = by r.state r.front r.is_open
  where
    size : length r.rest + 1 ≡ length (length_octets n)
    size = sym (length-append r.rest (o ∷ [])) ∙ ap length is

    by : (s : State ℕ) → DerFront m Start 0 bytes r.parts s r.at r.rest → IsOpenState m xs (due.Length c spot step) s → Fails m xs (due.Length c spot step) (bytes ++ o ∷ []) Overrun start []
    by (AwaitsLength b of names ls) front op =
        let p = r.place_is in
        let z = size in
        let limits : level_end ls ≡ Some end = level_limits m xs ls op.2 ∙ limit_is in
        let below : place < end = subst (IsBelowEnd place) limit_is low in
        let fits : UpTo (r.at + length (length_octets n)) (level_end ls) = subst (λ q. UpTo (r.at + length (length_octets n)) q) (sym limits) (let h : r.at + length (length_octets n) ≤ end = omega arith in h) in
        record {
          parts = r.parts;
          state = AwaitsLength b of names ls;
          at = r.at;
          rest = r.rest ++ o ∷ [];
          off = 0;
          front = front_more m Start 0 bytes r.parts (AwaitsLength b of names ls) r.at r.rest (o ∷ []) front;
          next = broken (Length n) [] (is ∙ sym (append-nil (length_octets n))) short fits (λ u. (let h : end_from r.at n ≤ end = subst (λ q. UpTo (end_from r.at n) q) limits u in absurd (omega arith)), refl, refl) refl;
          place_is = (let q = r.start_is in omega arith);
          is_open = op;
        }
    by s front op = absurd op

-- An open value ends.
pub ended_read : (m : DerMessage ℕ) (x y : Level) (ys : List Level) (step : TagStep) (start place : ℕ) (bytes : List ℕ) → step.come ≡ 0 → Reads m (x ∷ y ∷ ys) (due.Tag step) start place bytes → x.end ≡ place
    → ((l : states.DerLevel ℕ) → IsLevel m.forms x l → IsEnded m.forms ended.Fine (end_answer (structure m l.spot) l.came))
    → Reads m (y ∷ ys) (due.Tag step) start place bytes
ended_read m x y ys step start place bytes fresh r here h = by r.state r.front r.is_open
  where
    by : (s : State ℕ) → DerFront m Start 0 bytes r.parts s r.at r.rest → IsOpenState m (x ∷ y ∷ ys) (due.Tag step) s → Reads m (y ∷ ys) (due.Tag step) start place bytes
    by Start front op = absurd cc
    by (Within (l ∷ k ∷ ks)) front op = record {
      parts = r.parts ++ (End ∷ []);
      state = Within (k ∷ ks);
      at = r.at;
      rest = r.rest;
      front = front_then m Start 0 bytes r.parts (End ∷ []) (Within (l ∷ k ∷ ks)) r.at r.rest (Within (k ∷ ks)) r.at r.rest front (end_front m x l (k ∷ ks) step start place r.at r.rest op.0 fresh r.is_begun r.place_is here (h l op.0));
      is_open = op.1;
      is_begun = r.is_begun;
      start_is = r.start_is;
      place_is = r.place_is;
    }
    by (Within (l ∷ [])) front op = absurd op.1
    by s front op = absurd op

-- The instance ends.
pub over_read : (m : DerMessage ℕ) (x : Level) (step : TagStep) (start place : ℕ) (bytes : List ℕ) → step.come ≡ 0 → Reads m (x ∷ []) (due.Tag step) start place bytes → x.end ≡ place
    → ((l : states.DerLevel ℕ) → IsLevel m.forms x l → IsEnded m.forms ended.Fine (end_answer (structure m l.spot) l.came))
    → Reads m [] due.Over start place bytes
over_read m x step start place bytes fresh r here h = by r.state r.front r.is_open
  where
    by : (s : State ℕ) → DerFront m Start 0 bytes r.parts s r.at r.rest → IsOpenState m (x ∷ []) (due.Tag step) s → Reads m [] due.Over start place bytes
    by Start front op = absurd cc
    by (Within (l ∷ [])) front op = record {
      parts = r.parts ++ (End ∷ []);
      state = Within [];
      at = r.at;
      rest = r.rest;
      front = front_then m Start 0 bytes r.parts (End ∷ []) (Within (l ∷ [])) r.at r.rest (Within []) r.at r.rest front (end_front m x l [] step start place r.at r.rest op.0 fresh r.is_begun r.place_is here (h l op.0));
      is_open = refl;
      is_begun = taken_none step.come step.first step.high r.rest fresh r.is_begun;
      start_is = r.start_is;
      place_is = r.place_is;
    }
    by (Within (l ∷ k ∷ ks)) front op = absurd op.1
    by s front op = absurd op

-- An open value ends too early.
pub end_breaks : (m : DerMessage ℕ) (x : Level) (xs : List Level) (step : TagStep) (start place : ℕ) (bytes : List ℕ) (rule : Rule) (added : Added) → step.come ≡ 0 → Reads m (x ∷ xs) (due.Tag step) start place bytes → x.end ≡ place
    → ((l : states.DerLevel ℕ) → IsLevel m.forms x l → IsEnded m.forms (ended.Breaks rule added) (end_answer (structure m l.spot) l.came))
    → Fails m (x ∷ xs) (due.Tag step) bytes rule place (added_text m.forms added)
end_breaks m x xs step start place bytes rule added fresh r here h = by r.state r.front r.is_open
  where
    by : (s : State ℕ) → DerFront m Start 0 bytes r.parts s r.at r.rest → IsOpenState m (x ∷ xs) (due.Tag step) s → Fails m (x ∷ xs) (due.Tag step) bytes rule place (added_text m.forms added)
    by Start front op = absurd cc
    by (Within (l ∷ ls)) front op = answer (end_answer (structure m l.spot) l.came) refl (h l op.0)
      where
        answer : (a : EndAnswer) → end_answer (structure m l.spot) l.came ≡ a → IsEnded m.forms (ended.Breaks rule added) a → Fails m (x ∷ xs) (due.Tag step) bytes rule place (added_text m.forms added)
        answer Fine e f = absurd f
        answer (EndBreaks rule2 text) e f =
            let none = taken_none step.come step.first step.high r.rest fresh r.is_begun in
            let size = ap length none in
            let p = r.place_is in
            let end_same = op.0.end in
            record {
              parts = r.parts;
              state = Within (l ∷ ls);
              at = r.at;
              rest = r.rest;
              off = 0;
              front = front;
              next = broken End r.rest refl (omega arith) (omega arith) (e ∙ (ap (λ z. EndBreaks z text) (sym f.0) ∙ ap (EndBreaks rule) f.1)) refl;
              place_is = omega arith;
              is_open = op;
            }
    by s front op = absurd op
