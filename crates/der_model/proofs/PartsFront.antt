-- Parts at the front of bytes are parts that break nothing, lengths left aside.
use Rattle.std.proofs.Common.{◌≡◌, ℕ, ◌+◌, Bool, true, false, List, [], ◌∷◌, ◌++◌, length, refl, sym, ap, ◌∙◌, subst, arith, ◌<◌}
use Rattle.std.specs.Prelude.{◌↔◌}
use Rattle.der_model.specs.DerMessage.{DerMessage}
use Rattle.der_model.specs.Structures.{Structure, Holds, Fields, OneOf, Items, Empty, structure}
use Rattle.der_model.specs.States.{Part, Identifier, Length, End, DerLevel, State, Start, AwaitsLength, AwaitsContents, Within, IdentifierAnswer, Begins, Breaks, begun_state, level_answer, state_after, Stands, part_octets}
use Rattle.der_model.specs.States as states
use Rattle.der_model.specs.Faults.{IsHeldIn, IsCleanPart, DerFront}
use Rattle.der_model.specs.OpenParts.{without_lengths, IsPrimitive, ArePartsOpen, AreFilled}
use Rattle.der_model.specs.OpenLaws.{KeepsLength, PartIsOpen, BrokenPartIsNotOpen, FrontIsOpen}
use Rattle.der_model.proofs.SoundMessages.{IsSorted}
use Rattle.der_model.proofs.OneFault.{clean_breaks}
use Rattle.der_model.proofs.Stages.{Cell, cell, Stage, Outside, Held, In, begun_stage, after, MayAt, AreFine, over}
use Rattle.der_model.proofs.PartsLaw.{fine_is_open, open_is_fine}

abbrev cells : {P : Type 0} → List (DerLevel P) → List (Cell P)
cells [] = []
cells (l ∷ ls) = cell l.spot l.came ∷ cells ls

abbrev stage_of : {P : Type 0} → State P → Stage P
stage_of Start = Outside
stage_of (AwaitsLength true spot names around) = In (cell spot [] ∷ cells around)
stage_of (AwaitsLength false spot names around) = Held spot (cells around)
stage_of (AwaitsContents spot names count around) = Held spot (cells around)
stage_of (Within levels) = In (cells levels)

pub held_primitive : {P : Type 0} (m : DerMessage P) (sh : Structure P) (octets : List ℕ) → IsHeldIn m sh octets → IsPrimitive sh
held_primitive m (Holds contents) octets h = tt
held_primitive m (Fields cs) octets h = absurd h
held_primitive m (OneOf cs) octets h = absurd h
held_primitive m (Items s cs) octets h = absurd h
held_primitive m Empty octets h = absurd h

module _ {P : Type 0} (m : DerMessage P) where
  stage_begun : (l : DerLevel P) (ls : List (DerLevel P)) (b : Bool) (a : IdentifierAnswer P) → stage_of (begun_state m l ls b a) ≡ begun_stage (cell l.spot l.came) (cells ls) b a
  stage_begun l ls true (Begins k c) = refl
  stage_begun l ls false (Begins k c) = refl
  stage_begun l ls b (Breaks rule added) = refl

  -- a part that is no length
  abbrev IsNoLength : Part → Type 0
  IsNoLength (Length n) = ⊥
  IsNoLength p = Unit {0}

  stage_after : (s : State P) (place : ℕ) (p : Part) → IsNoLength p → Stands s place p → stage_of (state_after m s place p) ≡ after m (stage_of s) p
  stage_after Start place (Identifier b t) n h = refl
  stage_after (Within (l ∷ ls)) place (Identifier b t) n h = stage_begun l ls b (level_answer m l b t)
  stage_after (AwaitsContents spot names count around) place (states.Contents octets) n h = refl
  stage_after (Within (l ∷ ls)) place End n h = refl
  stage_after s place (Length k) n h = absurd n
  stage_after s place p n h = absurd h

  stage_length : (s : State P) (place k : ℕ) → Stands s place (Length k) → stage_of (state_after m s place (Length k)) ≡ stage_of s
  stage_length (AwaitsLength true spot names around) place k h = refl
  stage_length (AwaitsLength false spot names around) place k h = refl
  stage_length Start place k h = absurd h
  stage_length (AwaitsContents spot names count around) place k h = absurd h
  stage_length (Within []) place k h = absurd h
  stage_length (Within (l ∷ ls)) place k h = absurd h

  clean_may : (s : State P) (place : ℕ) (p : Part) → IsNoLength p → Stands s place p → IsCleanPart m s place p → MayAt m 1 (stage_of s) p
  clean_may Start place (Identifier b t) n h c = c
  clean_may (Within (l ∷ ls)) place (Identifier b t) n h c = c
  clean_may (AwaitsContents spot names count around) place (states.Contents octets) n h c = (held_primitive m (structure m spot) octets c, λ one. c)
  clean_may (Within (l ∷ ls)) place End n h c = c
  clean_may s place (Length k) n h c = absurd n
  clean_may s place p n h c = absurd h

  may_clean : (s : State P) (place : ℕ) (p : Part) → IsNoLength p → Stands s place p → MayAt m 1 (stage_of s) p → IsCleanPart m s place p
  may_clean Start place (Identifier b t) n h c = c
  may_clean (Within (l ∷ ls)) place (Identifier b t) n h c = c
  may_clean (AwaitsContents spot names count around) place (states.Contents octets) n h c = c.1 one
    where
      one : 0 < 1
      one = omega arith
  may_clean (Within (l ∷ ls)) place End n h c = c
  may_clean s place (Length k) n h c = absurd n
  may_clean s place p n h c = absurd h

  over_append : (stage : Stage P) (ps qs : List Part) → AreFine m stage ps → AreFine m (over m stage ps) qs → AreFine m stage (ps ++ qs)
  over_append stage [] qs f g = g
  over_append stage (p ∷ ps) qs f g = (f.0, over_append (after m stage p) ps qs f.1 g)

  over_behind : (stage : Stage P) (ps qs : List Part) → AreFine m stage (ps ++ qs) → AreFine m (over m stage ps) qs
  over_behind stage [] qs f = f
  over_behind stage (p ∷ ps) qs f = over_behind (after m stage p) ps qs f.1

  abbrev Goes : State P → List Part → State P → Type 0
  Goes s ps last = AreFine m (stage_of s) (without_lengths ps) × (over m (stage_of s) (without_lengths ps) ≡ stage_of last)

  one_part : (s t : State P) (p : Part) (ps : List Part) (last : State P) → stage_of t ≡ after m (stage_of s) p → MayAt m 1 (stage_of s) p → Goes t ps last → (MayAt m 1 (stage_of s) p × AreFine m (after m (stage_of s) p) (without_lengths ps)) × (over m (after m (stage_of s) p) (without_lengths ps) ≡ stage_of last)
  one_part s t p ps last e may (fine, is) = ((may, subst (λ (x : Stage P). AreFine m x (without_lengths ps)) e fine), subst (λ (x : Stage P). over m x (without_lengths ps) ≡ stage_of last) e is)

  same_stage : (s t : State P) (ps : List Part) (last : State P) → stage_of t ≡ stage_of s → Goes t ps last → Goes s ps last
  same_stage s t ps last e (fine, is) = (subst (λ (x : Stage P). AreFine m x (without_lengths ps)) e fine, subst (λ (x : Stage P). over m x (without_lengths ps) ≡ stage_of last) e is)

  front_goes : (s : State P) (place : ℕ) (bytes : List ℕ) (ps : List Part) (last : State P) (at : ℕ) (rest : List ℕ) → DerFront m s place bytes ps last at rest → Goes s ps last
  front_goes s place bytes [] last at rest (e, f, g) = (tt, ap stage_of e)
  front_goes s place bytes (Identifier b t ∷ ps) last at rest (next, is, h, u, c, f) =
      one_part s (state_after m s place (Identifier b t)) (Identifier b t) ps last (stage_after s place (Identifier b t) tt h) (clean_may s place (Identifier b t) tt h c) (front_goes (state_after m s place (Identifier b t)) (place + length (part_octets (Identifier b t))) next ps last at rest f)
  front_goes s place bytes (Length k ∷ ps) last at rest (next, is, h, u, c, f) =
      same_stage s (state_after m s place (Length k)) ps last (stage_length s place k h) (front_goes (state_after m s place (Length k)) (place + length (part_octets (Length k))) next ps last at rest f)
  front_goes s place bytes (states.Contents octets ∷ ps) last at rest (next, is, h, u, c, f) =
      one_part s (state_after m s place (states.Contents octets)) (states.Contents octets) ps last (stage_after s place (states.Contents octets) tt h) (clean_may s place (states.Contents octets) tt h c) (front_goes (state_after m s place (states.Contents octets)) (place + length (part_octets (states.Contents octets))) next ps last at rest f)
  front_goes s place bytes (End ∷ ps) last at rest (next, is, h, u, c, f) =
      one_part s (state_after m s place End) End ps last (stage_after s place End tt h) (clean_may s place End tt h c) (front_goes (state_after m s place End) (place + length (part_octets End)) next ps last at rest f)

  lengths_append : (ps qs : List Part) → without_lengths (ps ++ qs) ≡ without_lengths ps ++ without_lengths qs
  lengths_append [] qs = refl
  lengths_append (Identifier b t ∷ ps) qs = ap (λ x. Identifier b t ∷ x) (lengths_append ps qs)
  lengths_append (Length k ∷ ps) qs = lengths_append ps qs
  lengths_append (states.Contents octets ∷ ps) qs = ap (λ x. states.Contents octets ∷ x) (lengths_append ps qs)
  lengths_append (End ∷ ps) qs = ap (λ x. End ∷ x) (lengths_append ps qs)

  -- a part that is no length, behind what breaks nothing
  last_part : AreFilled m → (ps : List Part) (p : Part) (s : State P) (at : ℕ) → IsNoLength p → without_lengths (p ∷ []) ≡ p ∷ [] → Goes Start ps s → Stands s at p → IsCleanPart m s at p ↔ ArePartsOpen m (without_lengths (ps ++ p ∷ []))
  last_part filled ps p s at n e (fine, is) h = (to, back)
    where
      all : without_lengths (ps ++ p ∷ []) ≡ without_lengths ps ++ p ∷ []
      all = lengths_append ps (p ∷ []) ∙ ap (λ x. without_lengths ps ++ x) e

      to : IsCleanPart m s at p → ArePartsOpen m (without_lengths (ps ++ p ∷ []))
      to c = subst (λ (x : List Part). ArePartsOpen m x) (sym all) (fine_is_open m filled (without_lengths ps ++ p ∷ []) (over_append Outside (without_lengths ps) (p ∷ []) fine (subst (λ (x : Stage P). AreFine m x (p ∷ [])) (sym is) (clean_may s at p n h c, tt))))

      back : ArePartsOpen m (without_lengths (ps ++ p ∷ [])) → IsCleanPart m s at p
      back o = may_clean s at p n h (subst (λ (x : Stage P). AreFine m x (p ∷ [])) is (over_behind Outside (without_lengths ps) (p ∷ []) (open_is_fine m filled (without_lengths ps ++ p ∷ []) (subst (λ (x : List Part). ArePartsOpen m x) all o)))).0

  length_clean : (s : State P) (at k : ℕ) → Stands s at (Length k) → KeepsLength s at (Length k) → IsCleanPart m s at (Length k)
  length_clean (AwaitsLength b spot names around) at k h fits = fits
  length_clean Start at k h fits = absurd h
  length_clean (AwaitsContents spot names count around) at k h fits = absurd h
  length_clean (Within []) at k h fits = absurd h
  length_clean (Within (l ∷ ls)) at k h fits = absurd h

  pub part_is_open : AreFilled m → PartIsOpen m
  part_is_open filled bytes ps s at rest (Identifier b t) f h fits = last_part filled ps (Identifier b t) s at tt refl (front_goes Start 0 bytes ps s at rest f) h
  part_is_open filled bytes ps s at rest (states.Contents octets) f h fits = last_part filled ps (states.Contents octets) s at tt refl (front_goes Start 0 bytes ps s at rest f) h
  part_is_open filled bytes ps s at rest End f h fits = last_part filled ps End s at tt refl (front_goes Start 0 bytes ps s at rest f) h
  part_is_open filled bytes ps s at rest (Length k) f h fits = (to, λ o. length_clean s at k h fits)
    where
      to : IsCleanPart m s at (Length k) → ArePartsOpen m (without_lengths (ps ++ Length k ∷ []))
      to c = subst (λ (x : List Part). ArePartsOpen m x) (sym (lengths_append ps (Length k ∷ []) ∙ append-none (without_lengths ps))) (fine_is_open m filled (without_lengths ps) (front_goes Start 0 bytes ps s at rest f).0)
        where
          append-none : (xs : List Part) → xs ++ [] ≡ xs
          append-none [] = refl
          append-none (x ∷ xs) = ap (λ z. x ∷ z) (append-none xs)

  pub front_is_open : AreFilled m → FrontIsOpen m
  front_is_open filled bytes ps s at rest f = fine_is_open m filled (without_lengths ps) (front_goes Start 0 bytes ps s at rest f).0

  pub broken_is_not_open : IsSorted m → AreFilled m → BrokenPartIsNotOpen m
  broken_is_not_open sorted filled bytes ps s at rest p rule added f h fits breaks o = clean_breaks m sorted s at p rule added h ((part_is_open filled bytes ps s at rest p f h fits).1 o) breaks
