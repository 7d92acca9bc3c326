-- No bytes are neither the DER of an instance nor have a first fault.
use Rattle.std.proofs.Common.{◌≡◌, ◌⊎◌, inl, inr, ℕ, zero, suc, ◌+◌, ◌≤◌, ◌<◌, Bool, true, false, List, [], ◌∷◌, ◌++◌, length, take, drop, Option, Some, None, refl, sym, ap, ◌∙◌, subst, arith, length-append}
use Rattle.std.proofs.lemmas.Bool.{cases_lt, cases_Bool}
use Rattle.std.proofs.lemmas.List.{take-append-drop, length-take-le}
use Rattle.lexical_core.specs.declared.rule.Rule.{Rule}
use Rattle.lexical_core.specs.declared.rule.Rule.TheVariants.{Overrun, UnexpectedTag, DerTruncated, Trailing}
use Rattle.der_octets.specs.Octets.{Tag, universal, identifier, length_octets, IsShortTag}
use Rattle.der_octets.proofs.Headers.{some_identifier}
use Rattle.reference_check.specs.Words.{UpTo}
use Rattle.der_model.specs.DerMessage.{DerMessage}
use Rattle.der_model.specs.Structures.{Spot, structure}
use Rattle.der_model.specs.States.{Part, Identifier, Length, End, part_octets, DerLevel, State, Start, AwaitsLength, AwaitsContents, Within, PathName, IdentifierAnswer, Begins, Breaks, is_under, level_answer, names_in, begun_state, EndAnswer, Fine, EndBreaks, end_answer, end_from, state_after, level_end, innermost_end, IsHeader, Stands}
use Rattle.der_model.specs.States as states
use Rattle.der_model.specs.OpenParts.{IsPrimitive}
use Rattle.der_model.specs.Sound.{IsSoundDer}
use Rattle.der_model.specs.SomeAnswers.{HaveKinds, DerSpelledOrFaulty}
use Rattle.der_model.specs.Paths.{path_of}
use Rattle.der_model.specs.Faults.{IsHeldIn, BreaksIn, outermost, IsCleanPart, BreaksRule, DerFront, broken, short, trailing}
use Rattle.der_model.proofs.Answered.{whole_spells}
use Rattle.der_model.proofs.WholeValues.{came_more}
use Rattle.der_model.proofs.EitherWay.{Told}
use Rattle.der_model.proofs.SomeContents.{some_held}
use Rattle.der_model.proofs.SomeHeader.{Wrong, HasHeader, some_header, some_length}
use Rattle.der_model.proofs.PrimitiveSpots.{OfKind, begun_good}

-- within a bound or not
fits_or_not : (at : ℕ) (o : Option ℕ) → UpTo at o ⊎ (UpTo at o → ⊥)
fits_or_not at None = inl tt
fits_or_not at (Some end) = elim (cases_lt end at) [ inl above ↦ inr (λ below. omega arith) | inr below ↦ inl (omega arith) ]

module _ {P : Type 0} (m : DerMessage P) where
  -- Each open value ends within the one round it.
  abbrev AreWithin : ℕ → List (DerLevel P) → Type 0
  AreWithin place [] = Unit {0}
  AreWithin place (l ∷ ls) = (place ≤ l.end) × OfKind m l.spot × AreWithin l.end ls

  -- So too of what has begun; contents are due only where the value holds some.
  abbrev IsOpen : State P → ℕ → Type 0
  IsOpen Start place = Unit {0}
  IsOpen (AwaitsLength b spot names around) place = OfKind m spot × (b ≡ false → IsPrimitive (structure m spot)) × AreWithin place around
  IsOpen (AwaitsContents spot names count around) place = IsPrimitive (structure m spot) × AreWithin (place + count) around
  IsOpen (Within levels) place = AreWithin place levels

  within_from : (at place : ℕ) (ls : List (DerLevel P)) → UpTo at (level_end ls) → AreWithin place ls → AreWithin at ls
  within_from at place [] u w = tt
  within_from at place (l ∷ ls) u w = (u, w.1, w.2)

  within_end : (place : ℕ) (ls : List (DerLevel P)) → AreWithin place ls → UpTo place (level_end ls)
  within_end place [] w = tt
  within_end place (l ∷ ls) w = w.0

  -- how many of the parts to come may need no octet: the contents that are due, and the ends of open values
  abbrev due : State P → ℕ
  due Start = 0
  due (AwaitsLength b spot names around) = length around
  due (AwaitsContents spot names count around) = suc (length around)
  due (Within levels) = length levels

  -- a number that falls with each part: a header takes an octet, and adds at most one part that needs none
  abbrev to_come : State P → List ℕ → ℕ
  to_come s bytes = length bytes + length bytes + due s

  -- clean parts, and behind them the end of the instance or what is wrong
  record HasAnswer (s : State P) (place : ℕ) (bytes : List ℕ) : Type 0 where
    parts : List Part
    last : State P
    at : ℕ
    rest : List ℕ
    front : DerFront m s place bytes parts last at rest
    end : ((last ≡ Within []) × (rest ≡ [])) ⊎ Wrong m last at rest

  here : (s : State P) (place : ℕ) (bytes : List ℕ) → ((s ≡ Within []) × (bytes ≡ [])) ⊎ Wrong m s place bytes → HasAnswer s place bytes
  here s place bytes end = record { parts = []; last = s; at = place; rest = bytes; front = (refl, refl, refl); end = end }

  one_more : (s : State P) (place : ℕ) (bytes : List ℕ) (p : Part) (after : List ℕ) → bytes ≡ part_octets p ++ after → Stands s place p → UpTo (place + length (part_octets p)) (innermost_end s) → IsCleanPart m s place p
      → HasAnswer (state_after m s place p) (place + length (part_octets p)) after → HasAnswer s place bytes
  one_more s place bytes p after is stands within clean a =
      record { parts = p ∷ a.parts; last = a.last; at = a.at; rest = a.rest; front = (after, is, stands, within, clean, a.front); end = a.end }

  abbrev Again : ℕ → Type 0
  Again n = (s : State P) (place : ℕ) (bytes : List ℕ) → to_come s bytes < n → IsOpen s place → Told (HasAnswer s place bytes)

  -- a part that stands breaks a rule, or there is an answer behind it
  judged : (n : ℕ) → Again n → (s : State P) (place : ℕ) (bytes : List ℕ) (p : Part) (after : List ℕ) → bytes ≡ part_octets p ++ after → Stands s place p → UpTo (place + length (part_octets p)) (innermost_end s)
      → (IsCleanPart m s place p → (to_come (state_after m s place p) after < n) × IsOpen (state_after m s place p) (place + length (part_octets p)))
      → IsCleanPart m s place p ⊎ ((rule : Rule) × (added : List ℕ) × BreaksRule m s place p rule added) → Told (HasAnswer s place bytes)
  judged n again s place bytes p after is stands within goes_on (inl clean) lacks =
      again (state_after m s place p) (place + length (part_octets p)) after (goes_on clean).0 (goes_on clean).1 (λ a. lacks (one_more s place bytes p after is stands within clean a))
  judged n again s place bytes p after is stands within goes_on (inr (rule, added, breaks)) lacks =
      lacks (here s place bytes (inr (record { rule = rule; off = 0; added = added; next = broken p after is stands within breaks refl })))

  -- ---- where a header may come

  start : (n : ℕ) → Again n → (place : ℕ) (bytes : List ℕ) → to_come Start bytes < suc n → Told (HasAnswer Start place bytes)
  start n again place bytes low lacks = some_header m Start place bytes (record { more = identifier false (universal 16); some = some_identifier false (universal 16); header = (false, universal 16, omega arith, refl) }) tt by
    where
      of : (b : Bool) (t : Tag) (after : List ℕ) → IsShortTag t → bytes ≡ identifier b t ++ after → (is_under (outermost m) b t ≡ true) ⊎ (is_under (outermost m) b t ≡ false) → ⊥
      of b t after small is own = judged n again Start place bytes (Identifier b t) after is small tt next (clean own) lacks
        where
          next : IsCleanPart m Start place (Identifier b t) → (to_come (state_after m Start place (Identifier b t)) after < n) × IsOpen (state_after m Start place (Identifier b t)) (place + length (identifier b t))
          next c =
              let size = ap length is in
              let sum = length-append (identifier b t) after in
              let some = some_identifier b t in
              (omega arith, (tt, (λ e. absurd cc), tt))

          clean : (is_under (outermost m) b t ≡ true) ⊎ (is_under (outermost m) b t ≡ false) → IsCleanPart m Start place (Identifier b t) ⊎ ((rule : Rule) × (added : List ℕ) × BreaksRule m Start place (Identifier b t) rule added)
          clean (inl e) = inl e
          clean (inr e) = inr (UnexpectedTag, [], (e, refl, refl))

      found : (octets after : List ℕ) → bytes ≡ octets ++ after → IsHeader {P = P} Start place octets → ⊥
      found octets after is (b, t, small, e) = of b t after small (is ∙ ap (λ z. z ++ after) e) (cases_Bool (is_under (outermost m) b t))

      by : HasHeader {P = P} Start place bytes ⊎ Wrong m Start place bytes → ⊥
      by (inl h) = found h.octets h.after h.bytes_are h.header
      by (inr w) = lacks (here Start place bytes (inr w))

  length_due : (n : ℕ) → Again n → (b : Bool) (spot : Spot P) (names : List PathName) (around : List (DerLevel P)) (place : ℕ) (bytes : List ℕ) → to_come (AwaitsLength b spot names around) bytes < suc n
      → IsOpen (AwaitsLength b spot names around) place → Told (HasAnswer (AwaitsLength b spot names around) place bytes)
  length_due n again b spot names around place bytes low (kind, primitive, within) lacks =
      some_header m (AwaitsLength b spot names around) place bytes (record { more = length_octets 0; some = some_length 0; header = (0, omega arith, refl) }) (within_end place around within) by
    where
      next : (b : Bool) (size : ℕ) (after : List ℕ) → bytes ≡ length_octets size ++ after → (b ≡ false → IsPrimitive (structure m spot)) → UpTo (end_from place size) (level_end around)
          → (to_come (state_after m (AwaitsLength b spot names around) place (Length size)) after < n) × IsOpen (state_after m (AwaitsLength b spot names around) place (Length size)) (place + length (length_octets size))
      next true size after is primitive fits =
          let count = ap length is in
          let sum = length-append (length_octets size) after in
          let some = some_length size in
          (omega arith, (omega arith, kind, within_from (end_from place size) place around fits within))
      next false size after is primitive fits =
          let count = ap length is in
          let sum = length-append (length_octets size) after in
          let some = some_length size in
          (omega arith, (primitive refl, within_from (end_from place size) place around fits within))

      clean : (size : ℕ) → UpTo (end_from place size) (level_end around) ⊎ (UpTo (end_from place size) (level_end around) → ⊥)
          → IsCleanPart m (AwaitsLength b spot names around) place (Length size) ⊎ ((rule : Rule) × (added : List ℕ) × BreaksRule m (AwaitsLength b spot names around) place (Length size) rule added)
      clean size (inl fits) = inl fits
      clean size (inr long) = inr (Overrun, [], (long, refl, refl))

      found : (octets after : List ℕ) → bytes ≡ octets ++ after → UpTo (place + length octets) (level_end around) → IsHeader (AwaitsLength b spot names around) place octets → ⊥
      found octets after is inside (size, small, e) =
          judged n again (AwaitsLength b spot names around) place bytes (Length size) after (is ∙ ap (λ z. z ++ after) e) small (subst (λ z. UpTo (place + length z) (level_end around)) e inside)
          (next b size after (is ∙ ap (λ z. z ++ after) e) primitive) (clean size (fits_or_not (end_from place size) (level_end around))) lacks

      by : HasHeader (AwaitsLength b spot names around) place bytes ⊎ Wrong m (AwaitsLength b spot names around) place bytes → ⊥
      by (inl h) = found h.octets h.after h.bytes_are h.within h.header
      by (inr w) = lacks (here (AwaitsLength b spot names around) place bytes (inr w))

  -- ---- where contents are due

  contents_due : (n : ℕ) → Again n → (spot : Spot P) (names : List PathName) (count : ℕ) (around : List (DerLevel P)) (place : ℕ) (bytes : List ℕ) → to_come (AwaitsContents spot names count around) bytes < suc n
      → IsOpen (AwaitsContents spot names count around) place → Told (HasAnswer (AwaitsContents spot names count around) place bytes)
  contents_due n again spot names count around place bytes low (primitive, within) lacks = by (cases_lt (length bytes) count)
    where
      octets : List ℕ
      octets = take count bytes

      after : List ℕ
      after = drop count bytes

      is : bytes ≡ octets ++ after
      is = sym (take-append-drop count bytes)

      all : count ≤ length bytes → IsHeldIn m (structure m spot) octets ⊎ ((rule : Rule) × BreaksIn m (structure m spot) octets rule) → ⊥
      all enough answer = judged n again (AwaitsContents spot names count around) place bytes (states.Contents octets) after is size (rw size (within_end (place + count) around within)) next (clean answer) lacks
        where
          size : length octets ≡ count
          size = length-take-le count bytes enough

          next : IsCleanPart m (AwaitsContents spot names count around) place (states.Contents octets) → (to_come (Within around) after < n) × AreWithin (place + length octets) around
          next c = (let whole = ap length is in let sum = length-append octets after in omega arith, rw size within)

          clean : IsHeldIn m (structure m spot) octets ⊎ ((rule : Rule) × BreaksIn m (structure m spot) octets rule)
              → IsCleanPart m (AwaitsContents spot names count around) place (states.Contents octets) ⊎ ((rule : Rule) × (added : List ℕ) × BreaksRule m (AwaitsContents spot names count around) place (states.Contents octets) rule added)
          clean (inl held) = inl held
          clean (inr (rule, breaks)) = inr (rule, [], (breaks, refl))

      by : (length bytes < count) ⊎ (count ≤ length bytes) → ⊥
      by (inl few) = lacks (here _ place bytes (inr (record { rule = DerTruncated; off = length bytes; added = []; next = short spot names count around refl few refl refl refl })))
      by (inr enough) = some_held m (structure m spot) primitive octets (all enough)

  -- ---- where the parts of a value, or its end, are due

  module _ (sound : IsSoundDer m) (kinds : HaveKinds m.forms) where
    part_due : (n : ℕ) → Again n → (l : DerLevel P) (ls : List (DerLevel P)) (place : ℕ) (bytes : List ℕ) → to_come (Within (l ∷ ls)) bytes < suc n → AreWithin place (l ∷ ls) → place < l.end
        → Told (HasAnswer (Within (l ∷ ls)) place bytes)
    part_due n again l ls place bytes low (inside, kind, within) more lacks =
        some_header m (Within (l ∷ ls)) place bytes (record { more = identifier false (universal 16); some = some_identifier false (universal 16); header = (more, false, universal 16, omega arith, refl) }) inside by
      where
        of : (b : Bool) (t : Tag) (after : List ℕ) → IsShortTag t → bytes ≡ identifier b t ++ after → place + length (identifier b t) ≤ l.end → (a : IdentifierAnswer P) → level_answer m l b t ≡ a → ⊥
        of b t after small is fits (Begins k c) e = judged n again (Within (l ∷ ls)) place bytes (Identifier b t) after is (more, small) fits (λ clean. next) (inl (k, c, e)) lacks
          where
            awaits : State P
            awaits = AwaitsLength b c.spot (names_in (structure m l.spot) l.came c.label) (came_more l k ∷ ls)

            state_is : state_after m (Within (l ∷ ls)) place (Identifier b t) ≡ awaits
            state_is = ap (begun_state m l ls b) e

            good : OfKind m c.spot × (b ≡ false → IsPrimitive (structure m c.spot))
            good = begun_good m sound kinds l.spot kind l.came b t k c e

            next : (to_come (state_after m (Within (l ∷ ls)) place (Identifier b t)) after < n) × IsOpen (state_after m (Within (l ∷ ls)) place (Identifier b t)) (place + length (identifier b t))
            next = subst (λ s. (to_come s after < n) × IsOpen s (place + length (identifier b t))) (sym state_is) (
              (let size = ap length is in let sum = length-append (identifier b t) after in let some = some_identifier b t in omega arith),
              (good.0, good.1, (fits, kind, within)),
            )
        of b t after small is fits (Breaks rule added) e =
            judged n again (Within (l ∷ ls)) place bytes (Identifier b t) after is (more, small) fits (λ (k, c, begins). absurd (let both : Breaks rule added ≡ Begins k c = sym e ∙ begins in cc)) (inr (rule, added, e)) lacks

        found : (octets after : List ℕ) → bytes ≡ octets ++ after → place + length octets ≤ l.end → IsHeader (Within (l ∷ ls)) place octets → ⊥
        found octets after is fits (inside, b, t, small, e) =
            of b t after small (is ∙ ap (λ z. z ++ after) e) (subst (λ z. place + length z ≤ l.end) e fits) (level_answer m l b t) refl

        by : HasHeader (Within (l ∷ ls)) place bytes ⊎ Wrong m (Within (l ∷ ls)) place bytes → ⊥
        by (inl h) = found h.octets h.after h.bytes_are h.within h.header
        by (inr w) = lacks (here (Within (l ∷ ls)) place bytes (inr w))

    end_due : (n : ℕ) → Again n → (l : DerLevel P) (ls : List (DerLevel P)) (place : ℕ) (bytes : List ℕ) → to_come (Within (l ∷ ls)) bytes < suc n → AreWithin place (l ∷ ls) → place ≡ l.end
        → Told (HasAnswer (Within (l ∷ ls)) place bytes)
    end_due n again l ls place bytes low (inside, kind, within) over = by (end_answer (structure m l.spot) l.came) refl
      where
        from_here : AreWithin (place + 0) ls
        from_here = (let same : l.end ≡ place + 0 = omega arith in subst (λ z. AreWithin z ls) same within)

        ends : IsCleanPart m (Within (l ∷ ls)) place End ⊎ ((rule : Rule) × (added : List ℕ) × BreaksRule m (Within (l ∷ ls)) place End rule added) → Told (HasAnswer (Within (l ∷ ls)) place bytes)
        ends = judged n again (Within (l ∷ ls)) place bytes End bytes refl over (omega arith) (λ clean. (omega arith, from_here))

        by : (a : EndAnswer) → end_answer (structure m l.spot) l.came ≡ a → Told (HasAnswer (Within (l ∷ ls)) place bytes)
        by Fine e = ends (inl e)
        by (EndBreaks rule added) e = ends (inr (rule, added, e))

    within_levels : (n : ℕ) → Again n → (levels : List (DerLevel P)) (place : ℕ) (bytes : List ℕ) → to_come (Within levels) bytes < suc n → AreWithin place levels → Told (HasAnswer (Within levels) place bytes)
    within_levels n again [] place [] low within = λ lacks. lacks (here (Within []) place [] (inl (refl, refl)))
    within_levels n again [] place (octet ∷ bytes) low within =
        λ lacks. lacks (here (Within []) place (octet ∷ bytes) (inr (record { rule = Trailing; off = 0; added = []; next = trailing refl (omega arith) refl refl refl })))
    within_levels n again (l ∷ ls) place bytes low within = by (cases_lt place l.end)
      where
        by : (place < l.end) ⊎ (l.end ≤ place) → Told (HasAnswer (Within (l ∷ ls)) place bytes)
        by (inl more) = part_due n again l ls place bytes low within more
        by (inr over) = end_due n again l ls place bytes low within (let inside = within.0 in omega arith)

    -- every state with what is left has an answer
    answered : (n : ℕ) → Again n
    answered zero s place bytes low is = absurd (omega arith)
    answered (suc n) Start place bytes low is = start n (answered n) place bytes low
    answered (suc n) (AwaitsLength b spot names around) place bytes low is = length_due n (answered n) b spot names around place bytes low is
    answered (suc n) (AwaitsContents spot names count around) place bytes low is = contents_due n (answered n) spot names count around place bytes low is
    answered (suc n) (Within levels) place bytes low is = within_levels n (answered n) levels place bytes low is

    pub spelled_or_faulty : DerSpelledOrFaulty m
    spelled_or_faulty bytes lacks = answered (suc (to_come Start bytes)) Start 0 bytes (omega arith) tt by
      where
        ends : (a : HasAnswer Start 0 bytes) → ((a.last ≡ Within []) × (a.rest ≡ [])) ⊎ Wrong m a.last a.at a.rest → ⊥
        ends a (inl (over, none)) =
            lacks (inl (whole_spells m sound bytes (record { parts = a.parts; at = a.at; front = subst (λ z. DerFront m Start 0 bytes a.parts (Within []) a.at z) none (subst (λ s. DerFront m Start 0 bytes a.parts s a.at a.rest) over a.front) })))
        ends a (inr w) =
            lacks (inr (
              record { rule = w.rule; place = a.at + w.off; path = path_of a.last ++ w.added },
              record { parts = a.parts; state = a.last; at = a.at; rest = a.rest; off = w.off; added = w.added; front = a.front; next = w.next; place = refl; path = refl },
            ))

        by : HasAnswer Start 0 bytes → ⊥
        by a = ends a a.end
