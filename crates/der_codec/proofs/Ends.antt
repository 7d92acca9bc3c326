-- Ends, as the reader's functions have them.
use Rattle.std.proofs.Common.{◌≡◌, ℕ, List, [], ◌∷◌, Some, sym, ap, ◌∙◌, subst}
use Rattle.lexical_core.specs.declared.rule.Rule.{Rule}
use Rattle.der_model.specs.Structures.{structure}
use Rattle.der_model.specs.States as states
use Rattle.der_model.specs.States.{end_answer}
use Rattle.der_model.specs.DerMessage.{DerMessage}
use Rattle.der_codec.specs.Levels.{IsLevel, first_of, rest_of, inwards}
use Rattle.der_codec.specs.Components.{IsEnded, added_text}
use Rattle.der_codec.specs.Decoding.{Reads, Fails, IsFresh, due_after}
use Rattle.der_codec.specs.declared.value_ends.Ended.TheVariants as ended
use Rattle.der_codec.specs.declared.components.Added.{Added}
use Rattle.der_codec.specs.declared.level.Level.{Level}
use Rattle.der_codec.specs.declared.decoder.Due.{Due}
use Rattle.der_codec.specs.declared.decoder.Due.TheVariants as due
use Rattle.der_codec.proofs.Inwards.{inwards_some}
use Rattle.der_codec.proofs.Steps.{ended_read, over_read, end_breaks}

pub end_stops : (m : DerMessage ℕ) (xs : List Level) (level : Level) (d : Due) (start place : ℕ) (bytes : List ℕ) (rule : Rule) (added : Added) → Some level ≡ first_of xs → IsFresh d → Reads m xs d start place bytes → level.end ≡ place
    → ((l : states.DerLevel ℕ) → IsLevel m.forms level l → IsEnded m.forms (ended.Breaks rule added) (end_answer (structure m l.spot) l.came)) → Fails m xs d bytes rule place (added_text m.forms added)
end_stops m [] level d start place bytes rule added is fresh r here h = absurd cc
end_stops m (y ∷ ys) level (due.Tag step) start place bytes rule added is fresh r here h =
    let same : y ≡ level = cc in
    end_breaks m y ys step start place bytes rule added fresh r (ap (λ (z : Level). z.end) same ∙ here) (λ l k. h l (subst (λ z. IsLevel m.forms z l) same k))
end_stops m xs level d start place bytes rule added is fresh r here h = absurd fresh

pub end_goes : (m : DerMessage ℕ) (xs : List Level) (level : Level) (d : Due) (start place : ℕ) (bytes : List ℕ) (items : List Level) → Some level ≡ first_of xs → IsFresh d → Reads m xs d start place bytes → level.end ≡ place
    → ((l : states.DerLevel ℕ) → IsLevel m.forms level l → IsEnded m.forms ended.Fine (end_answer (structure m l.spot) l.came)) → inwards items ≡ rest_of xs → Reads m (inwards items) (due_after d items) start place bytes
end_goes m [] level d start place bytes items is fresh r here h e = absurd cc
end_goes m (y ∷ []) level (due.Tag step) start place bytes [] is fresh r here h e =
    let same : y ≡ level = cc in
    over_read m y step start place bytes fresh r (ap (λ (z : Level). z.end) same ∙ here) (λ l k. h l (subst (λ z. IsLevel m.forms z l) same k))
end_goes m (y ∷ []) level (due.Tag step) start place bytes (x ∷ xs) is fresh r here h e =
    let s = inwards_some x xs in absurd (let q = sym s.2 ∙ e in cc)
end_goes m (y ∷ z ∷ zs) level (due.Tag step) start place bytes [] is fresh r here h e = absurd cc
end_goes m (y ∷ z ∷ zs) level (due.Tag step) start place bytes (x ∷ xs) is fresh r here h e =
    let same : y ≡ level = cc in
    subst (λ q. Reads m q (due.Tag step) start place bytes) (sym e) (ended_read m y z zs step start place bytes fresh r (ap (λ (q : Level). q.end) same ∙ here) (λ l k. h l (subst (λ q. IsLevel m.forms q l) same k)))
end_goes m xs level d start place bytes items is fresh r here h e = absurd fresh
