-- The steps of contents.
use Rattle.std.proofs.Common.{◌≡◌, ℕ, ◌+◌, ◌-◌, ◌≤◌, ◌<◌, true, false, List, [], ◌∷◌, ◌++◌, length, drop, refl, sym, ap, ◌∙◌, subst, arith, append-nil, append_assoc, length-append}
use Rattle.std.proofs.lemmas.List.{nil_from_length}
use Rattle.lexical_core.specs.declared.rule.Rule.{Rule}
use Rattle.der_octets.specs.TagSteps as tags
use Rattle.der_octets.specs.declared.tag_step.TagStep.{TagStep}
use Rattle.der_octets.proofs.Headers.{some_identifier}
use Rattle.reference_check.specs.Words.{UpTo}
use Rattle.der_model.specs.DerMessage.{DerMessage}
use Rattle.der_model.specs.Structures.{structure}
use Rattle.der_model.specs.States as states
use Rattle.der_model.specs.States.{Part, Identifier, Length, End, Contents, part_octets, State, Start, AwaitsLength, AwaitsContents, Within, level_end, begun_state, state_after, Stands}
use Rattle.der_model.specs.Faults.{DerFront, broken, IsCleanPart, IsHeldIn, BreaksIn}
use Rattle.der_model.proofs.Continued.{front_more}
use Rattle.der_model.proofs.WholeValues.{front_then}
use Rattle.der_codec.specs.inner.Nesting.{AreNested}
use Rattle.der_codec.specs.Judging.{HoldsContents, BreaksContentsAt}
use Rattle.der_codec.specs.Decoding.{IsOpenState, IsBegun, Reads, Fails}
use Rattle.der_codec.specs.declared.level.Spot.{Spot}
use Rattle.der_codec.specs.declared.level.Level.{Level}
use Rattle.der_codec.specs.declared.decoder.Due.{Due}
use Rattle.der_codec.specs.declared.decoder.Due.TheVariants as due
use Rattle.der_codec.proofs.Nested.{front_nested, front_rooted, front_rest}

-- more of the contents
pub contents_read : (m : DerMessage ℕ) (xs : List Level) (spot : Spot) (left : ℕ) (start place : ℕ) (bytes more : List ℕ) → length more ≤ left → Reads m xs (due.Contents spot left) start place bytes
    → Reads m xs (due.Contents spot (left - length more)) start (place + length more) (bytes ++ more)
contents_read m xs spot left start place bytes more fits r = by r.state r.front r.is_open r.is_begun
  where
    by : (s : State ℕ) → DerFront m Start 0 bytes r.parts s r.at r.rest → IsOpenState m xs (due.Contents spot left) s → IsBegun (due.Contents spot left) s r.rest → Reads m xs (due.Contents spot (left - length more)) start (place + length more) (bytes ++ more)
    by (AwaitsContents of names count ls) front op beg = record {
      parts = r.parts;
      state = AwaitsContents of names count ls;
      at = r.at;
      rest = r.rest ++ more;
      front = front_more m Start 0 bytes r.parts (AwaitsContents of names count ls) r.at r.rest more front;
      is_open = op;
      is_begun = (let sum = length-append r.rest more in omega arith);
      start_is = r.start_is;
      place_is = (let sum = length-append r.rest more in let p = r.place_is in omega arith);
    }
    by s front op beg = absurd op

-- the octets of the part that has begun are those from the start on
drop_taken : (taken rest : List ℕ) → drop (length taken) (taken ++ rest) ≡ rest
drop_taken [] rest = refl
drop_taken (x ∷ taken) rest = drop_taken taken rest

pub rest_from : (m : DerMessage ℕ) (xs : List Level) (d : Due) (start place : ℕ) (bytes : List ℕ) (r : Reads m xs d start place bytes) → drop start bytes ≡ r.rest
rest_from m xs d start place bytes r =
    let f = front_rest m Start 0 bytes r.parts r.state r.at r.rest r.front in
    let at : start ≡ length f.0 = (let a = r.start_is in let b = f.2 in omega arith) in
    ap (λ z. drop z bytes) at ∙ (ap (drop (length f.0)) f.1 ∙ drop_taken f.0 r.rest)

pub kept_more : (m : DerMessage ℕ) (xs : List Level) (d : Due) (start place : ℕ) (bytes more : List ℕ) → Reads m xs d start place bytes → drop start (bytes ++ more) ≡ drop start bytes ++ more
kept_more m xs d start place bytes more r =
    let f = front_rest m Start 0 bytes r.parts r.state r.at r.rest r.front in
    let at : start ≡ length f.0 = (let a = r.start_is in let b = f.2 in omega arith) in
    ap (λ z. drop z (bytes ++ more)) at
    ∙ (ap (λ z. drop (length f.0) (z ++ more)) f.1 ∙ (ap (drop (length f.0)) (append_assoc f.0 r.rest more) ∙ (drop_taken f.0 (r.rest ++ more) ∙ ap (λ z. z ++ more) (sym (rest_from m xs d start place bytes r)))))

-- the place is the number of bytes
pub place_counts : (m : DerMessage ℕ) (xs : List Level) (d : Due) (start place : ℕ) (bytes : List ℕ) → Reads m xs d start place bytes → place ≡ length bytes
place_counts m xs d start place bytes r =
    let f = front_rest m Start 0 bytes r.parts r.state r.at r.rest r.front in
    let size = ap length f.1 in let sum = length-append f.0 r.rest in let p = r.place_is in let q = f.2 in omega arith

-- none of them has come where the start is the place
pub none_kept : (m : DerMessage ℕ) (xs : List Level) (d : Due) (start place : ℕ) (bytes : List ℕ) → Reads m xs d start place bytes → start ≡ place → drop start bytes ≡ []
none_kept m xs d start place bytes r e = rest_from m xs d start place bytes r ∙ nil_from_length r.rest (let a = r.start_is in let b = r.place_is in omega arith)

-- ---- contents stand behind other octets

abbrev IsBehind : {P : Type 0} → ℕ → State P → Type 0
IsBehind place Start = Unit {0}
IsBehind place s = 0 < place

step_behind : {P : Type 0} (m : DerMessage P) (s : State P) (place : ℕ) (p : Part) → IsBehind place s → Stands s place p → IsCleanPart m s place p → IsBehind (place + length (part_octets p)) (state_after m s place p)
step_behind m Start place (Identifier b t) h st c = (let some = some_identifier b t in omega arith)
step_behind m (Within (l ∷ ls)) place (Identifier b t) h st (k, c, e) =
    subst (IsBehind (place + length (part_octets (Identifier b t)))) (ap (begun_state m l ls b) (sym e)) (omega arith)
step_behind m (AwaitsLength true spot names around) place (Length n) h st c = omega arith
step_behind m (AwaitsLength false spot names around) place (Length n) h st c = omega arith
step_behind m (AwaitsContents spot names count around) place (Contents octets) h st c = omega arith
step_behind m (Within (l ∷ ls)) place End h st c = omega arith
step_behind m s place p h st c = absurd st

front_behind : {P : Type 0} (m : DerMessage P) (s : State P) (place : ℕ) (bytes : List ℕ) (ps : List Part) (last : State P) (at : ℕ) (rest : List ℕ) → IsBehind place s → DerFront m s place bytes ps last at rest → IsBehind at last
front_behind m s place bytes [] last at rest h (p, q, r) = subst (λ z. IsBehind z last) q (subst (IsBehind place) p h)
front_behind m s place bytes (p ∷ ps) last at rest h (after, is, st, u, c, f) = front_behind m (state_after m s place p) (place + length (part_octets p)) after ps last at rest (step_behind m s place p h st c) f

pub some_before : (m : DerMessage ℕ) (xs : List Level) (spot : Spot) (left start place : ℕ) (bytes : List ℕ) → Reads m xs (due.Contents spot left) start place bytes → 0 < start
some_before m xs spot left start place bytes r = by r.state r.is_open (front_behind m Start 0 bytes r.parts r.state r.at r.rest tt r.front)
  where
    by : (s : State ℕ) → IsOpenState m xs (due.Contents spot left) s → IsBehind r.at s → 0 < start
    by (AwaitsContents of names count ls) op h = (let a = r.start_is in omega arith)
    by s op h = absurd op

nested_limit : (place : ℕ) (ls : List (states.DerLevel ℕ)) → AreNested place ls → UpTo place (level_end ls)
nested_limit place [] h = tt
nested_limit place (l ∷ ls) h = h.0

-- the rest of the contents, with which they are some
pub contents_clean : (m : DerMessage ℕ) (xs : List Level) (spot : Spot) (left : ℕ) (fresh : TagStep) (start place : ℕ) (bytes more : List ℕ) → Reads m xs (due.Contents spot left) start place bytes → length more ≡ left
    → HoldsContents m spot (drop start bytes ++ more) → tags.HasTakenTag fresh [] → Reads m xs (due.Tag fresh) (place + left) (place + left) (bytes ++ more)
contents_clean m xs spot left fresh start place bytes more r size held new = by xs r.state r.front r.is_open r.is_begun
  where
    by : (xs : List Level) (s : State ℕ) → DerFront m Start 0 bytes r.parts s r.at r.rest → IsOpenState m xs (due.Contents spot left) s → IsBegun (due.Contents spot left) s r.rest → Reads m xs (due.Tag fresh) (place + left) (place + left) (bytes ++ more)
    by xs (AwaitsContents of names count []) front op beg = absurd (let q = front_rooted m Start 0 bytes r.parts (AwaitsContents of names count []) r.at r.rest tt front in omega arith)
    by xs (AwaitsContents of names count (l ∷ ls)) front op beg =
        let sum = length-append r.rest more in
        let whole : length (r.rest ++ more) ≡ count = omega arith in
        let nested = front_nested m Start 0 bytes r.parts (AwaitsContents of names count (l ∷ ls)) r.at r.rest tt front in
        let here : IsHeldIn m (structure m of) (r.rest ++ more) = subst (λ z. IsHeldIn m (structure m of) (z ++ more)) (rest_from m _ _ start place bytes r) (held of op.0) in
        let up : r.at + length (r.rest ++ more) ≤ l.end = (let a = nested.0 in omega arith) in
        let one : DerFront m (AwaitsContents of names count (l ∷ ls)) r.at (r.rest ++ more) (Contents (r.rest ++ more) ∷ []) (Within (l ∷ ls)) (r.at + length (r.rest ++ more)) [] = ([], sym (append-nil (r.rest ++ more)), whole, up, here, (refl, refl, refl)) in
        record {
          parts = r.parts ++ (Contents (r.rest ++ more) ∷ []);
          state = Within (l ∷ ls);
          at = r.at + length (r.rest ++ more);
          rest = [];
          front = front_then m Start 0 (bytes ++ more) r.parts (Contents (r.rest ++ more) ∷ []) (AwaitsContents of names count (l ∷ ls)) r.at (r.rest ++ more) (Within (l ∷ ls)) (r.at + length (r.rest ++ more)) []
              (front_more m Start 0 bytes r.parts (AwaitsContents of names count (l ∷ ls)) r.at r.rest more front) one;
          is_open = op.1;
          is_begun = new;
          start_is = (let p = r.place_is in omega arith);
          place_is = (let p = r.place_is in omega arith);
        }
    by xs s front op beg = absurd op

-- the rest of the contents, with which they break a rule
pub contents_break : (m : DerMessage ℕ) (xs : List Level) (spot : Spot) (left : ℕ) (start place : ℕ) (bytes more : List ℕ) (rule : Rule) → Reads m xs (due.Contents spot left) start place bytes → length more ≡ left
    → BreaksContentsAt m spot (drop start bytes ++ more) rule → Fails m xs (due.Contents spot left) (bytes ++ more) rule start []
contents_break m xs spot left start place bytes more rule r size breaks = by r.state r.front r.is_open r.is_begun
  where
    by : (s : State ℕ) → DerFront m Start 0 bytes r.parts s r.at r.rest → IsOpenState m xs (due.Contents spot left) s → IsBegun (due.Contents spot left) s r.rest → Fails m xs (due.Contents spot left) (bytes ++ more) rule start []
    by (AwaitsContents of names count ls) front op beg =
        let sum = length-append r.rest more in
        let whole : length (r.rest ++ more) ≡ count = omega arith in
        let nested = front_nested m Start 0 bytes r.parts (AwaitsContents of names count ls) r.at r.rest tt front in
        let here : BreaksIn m (structure m of) (r.rest ++ more) rule = subst (λ z. BreaksIn m (structure m of) (z ++ more) rule) (rest_from m _ _ start place bytes r) (breaks of op.0) in
        record {
          parts = r.parts;
          state = AwaitsContents of names count ls;
          at = r.at;
          rest = r.rest ++ more;
          off = 0;
          front = front_more m Start 0 bytes r.parts (AwaitsContents of names count ls) r.at r.rest more front;
          next = broken (Contents (r.rest ++ more)) [] (sym (append-nil (r.rest ++ more))) whole (nested_limit (r.at + length (r.rest ++ more)) ls (subst (λ z. AreNested (r.at + z) ls) (sym whole) nested)) (here, refl) refl;
          place_is = (let p = r.start_is in omega arith);
          is_open = op;
        }
    by s front op beg = absurd op
