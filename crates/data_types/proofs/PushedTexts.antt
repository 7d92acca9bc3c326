-- A text that is pushed in pieces.
use Rattle.std.proofs.Common.{◌≡◌, ℕ, ◌+◌, ◌≤◌, List, [], ◌++◌, Option, Result, Ok, Err, length, refl, sym, ap, subst, ◌∙◌, arith, append_assoc, append-nil, length-append}
use Rattle.std.specs.Io.KnownBytes.{Appends}
use Rattle.std.proofs.KnownBytes.{Appends-nil, Appends-trans}
use Rattle.outside.specs.Sink.{AppendsFront, PushAppends, HasRoom}
use Rattle.outside.specs.declared.errors.SinkError.{SinkError}
use Rattle.outside.proofs.Pushing.{append_then_front, front_of_front}

-- some of the text was pushed, no fault was counted, and the rest is still to come
pub record HasPushed (old now : Option (List ℕ)) (faults faults' room room' : ℕ) (whole rest : List ℕ) : Type 0 where
  pub text : List ℕ
  pub written : Appends old now text
  pub same : faults' ≡ faults
  pub falls : room ≤ room' + length text
  pub whole_is : whole ≡ text ++ rest

-- before the first piece
pub pushed_none : (a : Option (List ℕ)) (fa ra : ℕ) (whole : List ℕ) → HasPushed a a fa fa ra ra whole whole
pushed_none a fa ra whole = record { text = []; written = Appends-nil a; same = refl; falls = omega arith; whole_is = refl }

-- behind the last one
pub pushed_all : (a b : Option (List ℕ)) (fa fb ra rb : ℕ) (whole rest : List ℕ) → HasPushed a b fa fb ra rb whole rest → rest ≡ [] → Appends a b whole
pushed_all a b fa fb ra rb whole rest h none = subst (Appends a b) (sym (h.whole_is ∙ (ap (λ t. h.text ++ t) none ∙ append-nil h.text))) h.written

-- a piece goes through
pub pushed_more : (a b c : Option (List ℕ)) (fa fb fc ra rb rc : ℕ) (whole rest piece behind : List ℕ) → HasPushed a b fa fb ra rb whole rest → rest ≡ piece ++ behind
    → Appends b c piece → fc ≡ fb → rb ≤ rc + length piece → HasPushed a c fa fc ra rc whole behind
pushed_more a b c fa fb fc ra rb rc whole rest piece behind h e more same falls = record {
  text = h.text ++ piece;
  written = Appends-trans a b c h.text piece h.written more;
  same = same ∙ h.same;
  falls = let f = h.falls in omega (arith, f, falls, length-append h.text piece);
  whole_is = h.whole_is ∙ (ap (λ t. h.text ++ t) e ∙ sym (append_assoc h.text piece behind));
}

-- the last piece, or one that does not go through
pub pushed_bytes : (a b c : Option (List ℕ)) (fa fb ra rb : ℕ) (whole rest : List ℕ) (r : Result (Unit {0}) SinkError) → HasPushed a b fa fb ra rb whole rest
    → PushAppends b c r rest → PushAppends a c r whole
pushed_bytes a b c fa fb ra rb whole rest (Ok x) h p = subst (Appends a c) (sym h.whole_is) (Appends-trans a b c h.text rest h.written p)
pushed_bytes a b c fa fb ra rb whole rest (Err e) h p = subst (AppendsFront a c) (sym h.whole_is) (append_then_front a b c h.text rest h.written p)

-- an error at a piece of what is left
pub piece_fails : (a b c : Option (List ℕ)) (fa fb ra rb : ℕ) (whole rest piece behind : List ℕ) → HasPushed a b fa fb ra rb whole rest → rest ≡ piece ++ behind
    → AppendsFront b c piece → AppendsFront a c whole
piece_fails a b c fa fb ra rb whole rest piece behind h e front =
    let more : AppendsFront b c rest = subst (AppendsFront b c) (sym e) (front_of_front b c piece behind front) in
    subst (AppendsFront a c) (sym h.whole_is) (append_then_front a b c h.text rest h.written more)

pub piece_room : (a b : Option (List ℕ)) (fa fb ra rb rc : ℕ) (whole rest piece behind : List ℕ) (r : Result (Unit {0}) SinkError) → HasPushed a b fa fb ra rb whole rest
    → rest ≡ piece ++ behind → HasRoom rb rc r piece → HasRoom ra rc r whole
piece_room a b fa fb ra rb rc whole rest piece behind r h e p =
    let len : length rest ≡ length piece + length behind = ap length e ∙ length-append piece behind in
    let all : length whole ≡ length h.text + length rest = ap length h.whole_is ∙ length-append h.text rest in
    let f = h.falls in
    let g = p.falls in
    record { falls = omega (arith, len, all, f, g); memory = λ m. let lt = p.memory m in omega (arith, len, all, f, lt) }
