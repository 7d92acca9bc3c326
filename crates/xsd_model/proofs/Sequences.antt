-- The words of a sequence by concatenation are those by order and counts.
use Rattle.std.proofs.Common.{◌≡◌, ℕ, zero, suc, List, [], ◌∷◌, length, map, Option, Some, None, refl, sym, ap, subst, ◌∙◌, arith, MatchOption, ◌≤◌}
use Rattle.std.specs.Prelude.{slice_get}
use Rattle.std.specs.Option.{option_map}
use Rattle.std.proofs.lemmas.Option.{slice_get-map}
use Rattle.reference_check.specs.Forms.{Slot}
use Rattle.reference_check.specs.Words.{UpTo, MayComeTimes, IsSequence, IsChoice}
use Rattle.reference_check.proofs.Concat.{IsConcatenationFrom, from_concatenation, to_concatenation}
use Rattle.xsd_model.specs.Trees.{OccursTimes, IsSequenceFrom, IsAlternative}
use Rattle.xsd_model.specs.SchemaOf.{part_of}

up_to : (o : Option ℕ) (n : ℕ) → MatchOption o (Unit {0}) (λ max. n ≤ max) → UpTo n o
up_to None n h = tt
up_to (Some max) n h = h

to_max : (o : Option ℕ) (n : ℕ) → UpTo n o → MatchOption o (Unit {0}) (λ max. n ≤ max)
to_max None n h = tt
to_max (Some max) n h = h

within_of : (name : ℕ → List ℕ) (s : Slot ℕ) (n : ℕ) → OccursTimes (part_of name s) n → MayComeTimes n s
within_of name s n h = (h.0, up_to s.max n h.1)

occurs_of : (name : ℕ → List ℕ) (s : Slot ℕ) (n : ℕ) → MayComeTimes n s → OccursTimes (part_of name s) n
occurs_of name s n h = (h.0, to_max s.max n h.1)

-- a word of the parts is one of the slots
concatenation_of : (name : ℕ → List ℕ) (k : ℕ) (slots : List (Slot ℕ)) (d : List ℕ) → IsSequenceFrom k (map (part_of name) slots) d → IsConcatenationFrom k slots d
concatenation_of name k [] d word = word
concatenation_of name k (s ∷ slots) d (n, rest, occurs, at, word) = (n, rest, within_of name s n occurs, at, concatenation_of name (suc k) slots rest word)

of_concatenation : (name : ℕ → List ℕ) (k : ℕ) (slots : List (Slot ℕ)) (d : List ℕ) → IsConcatenationFrom k slots d → IsSequenceFrom k (map (part_of name) slots) d
of_concatenation name k [] d word = word
of_concatenation name k (s ∷ slots) d (n, rest, within, at, word) = (n, rest, occurs_of name s n within, at, of_concatenation name (suc k) slots rest word)

pub sequence_from : (name : ℕ → List ℕ) (slots : List (Slot ℕ)) (d : List ℕ) → IsSequenceFrom 0 (map (part_of name) slots) d → IsSequence slots d
sequence_from name slots d word =
    let h = from_concatenation 0 (length slots) slots d (omega arith) (concatenation_of name 0 slots d word) in
    record { ordered = h.0; within = λ k s e. h.1 k k s (omega arith) e }

pub sequence_to : (name : ℕ → List ℕ) (slots : List (Slot ℕ)) (d : List ℕ) → IsSequence slots d → IsSequenceFrom 0 (map (part_of name) slots) d
sequence_to name slots d h =
    of_concatenation name 0 slots d
    (to_concatenation 0 (length slots) slots d (omega arith) h.ordered (λ i j s at e. (let same : j ≡ i = omega arith in rw same (h.within i s e))))

pub slice_get-part : {A B : Type 0} (f : A → B) (xs : List A) (k : ℕ) (x : A) → slice_get xs k ≡ Some x → slice_get (map f xs) k ≡ Some (f x)
slice_get-part f xs k x e = slice_get-map f xs k ∙ ap (option_map f) e

pub slice_get-back : {A B : Type 0} (f : A → B) (xs : List A) (k : ℕ) (y : B) → slice_get (map f xs) k ≡ Some y → (x : A) × (slice_get xs k ≡ Some x) × (f x ≡ y)
slice_get-back f [] k y e = cc
slice_get-back f (x ∷ xs) zero y e = (x, refl, cc)
slice_get-back f (x ∷ xs) (suc k) y e = slice_get-back f xs k y e

pub choice_from : (name : ℕ → List ℕ) (slots : List (Slot ℕ)) (d : List ℕ) → IsAlternative (map (part_of name) slots) d → IsChoice slots d
choice_from name slots d (k, n, part, e, occurs, at) = go (slice_get-back (part_of name) slots k part e)
  where
    go : (s : Slot ℕ) × (slice_get slots k ≡ Some s) × (part_of name s ≡ part) → IsChoice slots d
    go (s, found, same) = (let w : OccursTimes (part_of name s) n = subst (λ p. OccursTimes p n) (sym same) occurs in (k, n, s, found, within_of name s n w, at))

pub choice_to : (name : ℕ → List ℕ) (slots : List (Slot ℕ)) (d : List ℕ) → IsChoice slots d → IsAlternative (map (part_of name) slots) d
choice_to name slots d (k, n, s, e, within, at) = (k, n, part_of name s, slice_get-part (part_of name) slots k s e, occurs_of name s n within, at)
