-- A text that is pushed part by part, by what is still to come.
use Rattle.std.proofs.Common.{◌≡◌, ℕ, List, [], ◌++◌, Option, Result, Ok, Err, refl, sym, ap, ◌∙◌, subst, append_assoc, append-nil}
use Rattle.outside.specs.Pushes.{Pushes}
use Rattle.outside.specs.declared.errors.SinkError.{SinkError}
use Rattle.outside.proofs.Pushing.{done, stopped, nothing, then_push, fails_push}
use Rattle.outside.specs.Gathering.{Gathers}

module _ {S : Type 0} (held : S → Option (List ℕ)) (faults room : S → ℕ) where
  -- all of the text but the rest went through
  pub record IsPushedTo (old now : S) (whole rest : List ℕ) : Type 0 where
    pub front : List ℕ
    pub push : Pushes held faults room old now done front
    pub whole_is : whole ≡ front ++ rest

  pub to_none : (s : S) (whole : List ℕ) → IsPushedTo s s whole whole
  to_none s whole = record { front = []; push = nothing held faults room s; whole_is = refl }

  pub to_more : (a b c : S) (whole rest one behind : List ℕ) → rest ≡ one ++ behind → IsPushedTo a b whole rest → Pushes held faults room b c done one → IsPushedTo a c whole behind
  to_more a b c whole rest one behind e h p = record {
    front = h.front ++ one;
    push = then_push held faults room a b c done h.front one h.push p;
    whole_is = h.whole_is ∙ (ap (λ t. h.front ++ t) e ∙ sym (append_assoc h.front one behind));
  }

  pub to_stops : (a b c : S) (whole rest one behind : List ℕ) (error : SinkError) → rest ≡ one ++ behind → IsPushedTo a b whole rest → Pushes held faults room b c (stopped error) one
      → Pushes held faults room a c (stopped error) whole
  to_stops a b c whole rest one behind error e h p =
      subst (λ t. Pushes held faults room a c (stopped error) t) (sym (h.whole_is ∙ ap (λ t. h.front ++ t) e))
      (then_push held faults room a b c (stopped error) h.front (one ++ behind) h.push (fails_push held faults room b c error one behind p))

  pub to_all : (a b : S) (whole rest : List ℕ) → rest ≡ [] → IsPushedTo a b whole rest → Pushes held faults room a b done whole
  to_all a b whole rest e h = subst (λ t. Pushes held faults room a b done t) (sym (h.whole_is ∙ (ap (λ t. h.front ++ t) e ∙ append-nil h.front))) h.push

  -- the rest is pushed at once
  pub to_ends : (a b c : S) (whole rest : List ℕ) (r : Result (Unit {0}) SinkError) → IsPushedTo a b whole rest → Pushes held faults room b c r rest → Pushes held faults room a c r whole
  to_ends a b c whole rest r h p = subst (λ t. Pushes held faults room a c r t) (sym h.whole_is) (then_push held faults room a b c r h.front rest h.push p)

  -- part by part by way of a buffer: what it has comes first of what is still to come
  pub to_gathered : (a b c : S) (whole rest buffer left one behind : List ℕ) → rest ≡ one ++ behind → IsPushedTo a b whole (buffer ++ rest) → Gathers held faults room b c buffer left done one
      → IsPushedTo a c whole (left ++ behind)
  to_gathered a b c whole rest buffer left one behind e h (front, both, push) =
      to_more a b c whole (buffer ++ rest) front (left ++ behind)
      (ap (λ t. buffer ++ t) e ∙ (sym (append_assoc buffer one behind) ∙ (ap (λ t. t ++ behind) both ∙ append_assoc front left behind))) h push

  pub to_stops_there : (a b c : S) (whole rest buffer left one behind : List ℕ) (error : SinkError) → rest ≡ one ++ behind → IsPushedTo a b whole (buffer ++ rest)
      → Gathers held faults room b c buffer left (stopped error) one → Pushes held faults room a c (stopped error) whole
  to_stops_there a b c whole rest buffer left one behind error e h push =
      to_stops a b c whole (buffer ++ rest) (buffer ++ one) behind error (ap (λ t. buffer ++ t) e ∙ sym (append_assoc buffer one behind)) h push

  -- the buffer and the piece go to the sink
  pub gathers_none : (a b c : S) (r : Result (Unit {0}) SinkError) (buffer bytes : List ℕ) → Pushes held faults room a b done buffer → Pushes held faults room b c r bytes
      → Gathers held faults room a c buffer [] r bytes
  gathers_none a b c (Ok x) buffer bytes p q = (buffer ++ bytes, sym (append-nil (buffer ++ bytes)), then_push held faults room a b c (Ok x) buffer bytes p q)
  gathers_none a b c (Err e) buffer bytes p q = then_push held faults room a b c (Err e) buffer bytes p q

  -- the same octets, written in another way
  pub gathers_same : (a b : S) (buffer left x y : List ℕ) (r : Result (Unit {0}) SinkError) → x ≡ y → Gathers held faults room a b buffer left r x → Gathers held faults room a b buffer left r y
  gathers_same a b buffer left x y r e p = subst (λ t. Gathers held faults room a b buffer left r t) e p
