-- What is known where the input ends, or goes on behind the instance.
use Rattle.std.proofs.Common.{◌≡◌, ℕ, ◌+◌, ◌^◌, ◌<◌, List, [], ◌∷◌, ◌++◌, length, Option, Some, None, refl, sym, ap, ◌∙◌, subst, arith, inl, inr}
use Rattle.lexical_core.specs.declared.rule.Rule.TheVariants.{DerTruncated, Trailing}
use Rattle.data_types.specs.Value.{Value}
use Rattle.der_octets.specs.TagSteps as tags
use Rattle.der_octets.specs.declared.tag_step.TagStep.{TagStep}
use Rattle.der_model.specs.States.{State, Start, AwaitsContents, Within, innermost_end}
use Rattle.der_model.specs.Der.{SpellsDer}
use Rattle.der_model.specs.Sound.{IsSoundDer}
use Rattle.der_model.specs.Faults as faults
use Rattle.der_model.specs.Faults.{DerFront, NextPart, cut, short, trailing, FaultInDer, DerFault}
use Rattle.der_model.proofs.Answered.{whole_is_spelled}
use Rattle.der_model.proofs.SoundMessages.{are_sorted}
use Rattle.der_model.proofs.Continued.{front_more, Waits, only_cut}
use Rattle.der_model.specs.DerMessage.{DerMessage}
use Rattle.der_codec.specs.Decoding.{IsOpenState, IsBegun, Reads, Fails, IsBelowEnd, IsWaiting, IsOver, end_of_first}
use Rattle.der_codec.specs.declared.level.Level.{Level}
use Rattle.der_codec.specs.declared.decoder.Due.{Due}
use Rattle.der_codec.specs.declared.decoder.Due.TheVariants as due
use Rattle.der_codec.proofs.Steps.{open_limit, tag_front, length_front, lower}

below_limit : (o : Option ℕ) (place end : ℕ) → IsBelowEnd place o → o ≡ Some end → place < end
below_limit None place end h e = absurd cc
below_limit (Some a) place end h e = (let same : a ≡ end = cc in omega arith)

under : (m : DerMessage ℕ) (xs : List Level) (d : Due) (start place : ℕ) (bytes : List ℕ) (r : Reads m xs d start place bytes) → IsBelowEnd place (end_of_first xs) → (end : ℕ) → innermost_end r.state ≡ Some end → r.at + length r.rest < end
under m xs d start place bytes r low end e =
    let p = r.place_is in
    let below = below_limit (end_of_first xs) place end low (sym (open_limit m xs d r.state r.is_open) ∙ e) in omega arith

pub waits : (m : DerMessage ℕ) (xs : List Level) (d : Due) (start place : ℕ) (bytes : List ℕ) (r : Reads m xs d start place bytes) → IsWaiting d place (end_of_first xs) → (IsOver d → ⊥) → Waits r.state r.at r.rest
waits m xs (due.Tag step) start place bytes r low going =
    inl (under m xs (due.Tag step) start place bytes r low, tag_front m xs step r.state r.at r.rest r.is_open r.is_begun (lower (end_of_first xs) r.at place (let p = r.place_is in omega arith) low))
waits m xs (due.Length c spot step) start place bytes r low going =
    inl (under m xs (due.Length c spot step) start place bytes r low, length_front m xs c spot step r.state r.at r.rest r.is_open r.is_begun)
waits m xs (due.Contents spot left) start place bytes r low going = by r.state r.is_open r.is_begun
  where
    by : (s : State ℕ) → IsOpenState m xs (due.Contents spot left) s → IsBegun (due.Contents spot left) s r.rest → Waits s r.at r.rest
    by (AwaitsContents of names count ls) op beg = inr (of, names, count, ls, refl, omega arith)
    by s op beg = absurd op
waits m xs due.Over start place bytes r low going = absurd (going tt)

waiting : (m : DerMessage ℕ) (s : State ℕ) (at : ℕ) (rest : List ℕ) → Waits s at rest → NextPart m s at rest DerTruncated (length rest) []
waiting m s at rest (inl (l, f)) = cut l f refl refl refl
waiting m s at rest (inr (spot, names, count, around, e, low)) = short spot names count around e low refl refl refl

-- where the reader waits, bytes that end are cut
pub is_cut : (m : DerMessage ℕ) (xs : List Level) (d : Due) (start place : ℕ) (bytes : List ℕ) → Reads m xs d start place bytes → IsWaiting d place (end_of_first xs) → (IsOver d → ⊥) → Fails m xs d bytes DerTruncated place []
is_cut m xs d start place bytes r low going = record {
  parts = r.parts;
  state = r.state;
  at = r.at;
  rest = r.rest;
  off = length r.rest;
  front = r.front;
  next = waiting m r.state r.at r.rest (waits m xs d start place bytes r low going);
  place_is = r.place_is;
  is_open = r.is_open;
}

-- and have no other fault
pub goes_on : (m : DerMessage ℕ) (xs : List Level) (d : Due) (start place : ℕ) (bytes : List ℕ) → IsSoundDer m → Reads m xs d start place bytes → IsWaiting d place (end_of_first xs) → (IsOver d → ⊥) → (f : FaultInDer) → DerFault m bytes f → f.rule ≡ DerTruncated
goes_on m xs d start place bytes sound r low going f h = only_cut m (are_sorted m sound) bytes r.parts r.state r.at r.rest r.front (waits m xs d start place bytes r low going) f h

-- where the instance has ended the bytes are whole
pub is_whole : (m : DerMessage ℕ) (xs : List Level) (d : Due) (start place : ℕ) (bytes : List ℕ) → Reads m xs d start place bytes → IsOver d → faults.IsWholeDer m bytes
is_whole m xs due.Over start place bytes r over = by r.state r.front r.is_open
  where
    by : (s : State ℕ) → DerFront m Start 0 bytes r.parts s r.at r.rest → IsOpenState m xs due.Over s → faults.IsWholeDer m bytes
    by (Within []) front op = record { parts = r.parts; at = r.at; front = subst (λ z. DerFront m Start 0 bytes r.parts (Within []) r.at z) r.is_begun front }
    by s front op = absurd op
is_whole m xs d start place bytes r over = absurd over

-- and an octet more is one too many
pub is_trailing : (m : DerMessage ℕ) (xs : List Level) (d : Due) (start place : ℕ) (bytes : List ℕ) (o : ℕ) → Reads m xs d start place bytes → IsOver d → Fails m xs d (bytes ++ o ∷ []) Trailing place []
is_trailing m xs due.Over start place bytes o r over = by r.state r.front r.is_open
  where
    by : (s : State ℕ) → DerFront m Start 0 bytes r.parts s r.at r.rest → IsOpenState m xs due.Over s → Fails m xs due.Over (bytes ++ o ∷ []) Trailing place []
    by (Within []) front op = record {
      parts = r.parts;
      state = Within [];
      at = r.at;
      rest = r.rest ++ o ∷ [];
      off = 0;
      front = front_more m Start 0 bytes r.parts (Within []) r.at r.rest (o ∷ []) front;
      next = trailing refl (subst (λ (z : List ℕ). 0 < length (z ++ o ∷ [])) (sym r.is_begun) (omega arith)) refl refl refl;
      place_is = (let p = r.place_is in let none = ap length r.is_begun in omega arith);
      is_open = op;
    }
    by s front op = absurd op
is_trailing m xs d start place bytes o r over = absurd over

pub is_spelled : (m : DerMessage ℕ) (xs : List Level) (d : Due) (start place : ℕ) (bytes : List ℕ) → IsSoundDer m → length bytes < 2 ^ 63 → Reads m xs d start place bytes → IsOver d → (v : Value) × SpellsDer m bytes v
is_spelled m xs d start place bytes sound small r over = (whole_is_spelled m sound bytes small).0 (is_whole m xs d start place bytes r over)

-- before the first octet
pub begins_so : (m : DerMessage ℕ) (step : TagStep) → tags.HasTakenTag step [] → Reads m [] (due.Tag step) 0 0 []
begins_so m step new = record { parts = []; state = Start; at = 0; rest = []; front = (refl, refl, refl); is_open = refl; is_begun = new; start_is = refl; place_is = refl }
