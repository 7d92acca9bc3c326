-- The steps of the reader, as its functions have them.
use Rattle.std.specs.Prelude.{Result, Ok, Err, IfOk, IfErr}
use Rattle.std.proofs.Common.{◌≡◌, ℕ, ◌+◌, ◌<◌, Bool, true, false, List, [], ◌∷◌, ◌++◌, Some, None, refl, sym, ap, ◌∙◌, subst, arith}
use Rattle.std.proofs.lemmas.List.{nil_from_length}
use Rattle.lexical_core.specs.declared.rule.Rule.{Rule}
use Rattle.lexical_core.specs.declared.rule.Rule.TheVariants.{Overrun, UnexpectedTag}
use Rattle.der_octets.specs.Octets.{universal, identifier}
use Rattle.der_octets.specs.TagSteps as tags
use Rattle.der_octets.specs.TagSteps.{tag_view}
use Rattle.der_octets.specs.LengthSteps as lengths
use Rattle.der_octets.specs.declared.tag_step.TagStep.{TagStep}
use Rattle.der_octets.specs.declared.tag_step.Identifier as ids
use Rattle.der_octets.specs.declared.length_step.LengthStep.{LengthStep}
use Rattle.der_octets.proofs.LengthStepLemmas.{one_octet}
use Rattle.reference_check.specs.Words.{UpTo}
use Rattle.der_model.specs.States as states
use Rattle.der_model.specs.States.{level_answer}
use Rattle.der_model.specs.DerMessage.{DerMessage}
use Rattle.der_codec.specs.Levels.{IsLevel, first_of, rest_of}
use Rattle.der_codec.specs.Components.{IsFound, added_text}
use Rattle.der_codec.specs.Decoding.{Reads, Fails, IsBelowEnd, IsPastEnd, end_of_first, IsAdvanced, HasIdentifier, HasLengthOctets, IsOutermost, AwaitsInstance}
use Rattle.der_codec.specs.declared.components.Found.TheVariants as found
use Rattle.der_codec.specs.declared.components.Added.{Added}
use Rattle.der_codec.specs.declared.level.Spot.{Spot}
use Rattle.der_codec.specs.declared.level.Spot.TheVariants as spots
use Rattle.der_codec.specs.declared.level.Level.{Level}
use Rattle.der_codec.specs.declared.decoder.Due.{Due}
use Rattle.der_codec.specs.declared.decoder.Due.TheVariants as due
use Rattle.der_codec.proofs.Steps.{overrun_length, begun_read, tag_breaks, outermost_read, outermost_breaks, opened_read, primitive_read, too_long}

pub ok_always : {A E : Type 0} (r : Result A E) (Q : Type 0) → Q → IfOk r (λ _. Q)
ok_always (Ok a) Q q = q
ok_always (Err e) Q q = tt

pub ok_when : {A E : Type 0} (r : Result A E) (P Q : Type 0) → IfOk r (λ _. P) → (P → Q) → IfOk r (λ _. Q)
ok_when (Ok a) P Q p f = f p
ok_when (Err e) P Q p f = tt

pub err_when : {A E : Type 0} (r : Result A E) (P Q : E → Type 0) → IfErr r P → ((e : E) → P e → Q e) → IfErr r Q
err_when (Ok a) P Q p f = tt
err_when (Err e) P Q p f = f e p

-- the same, told otherwise
pub reads_as : (m : DerMessage ℕ) (xs ys : List Level) (d e : Due) (start start2 place place2 : ℕ) (bytes : List ℕ) → xs ≡ ys → d ≡ e → start ≡ start2 → place ≡ place2 → Reads m ys e start2 place2 bytes → Reads m xs d start place bytes
reads_as m xs ys d e start start2 place place2 bytes a b c f r =
    subst (λ z. Reads m z d start place bytes) (sym a) (subst (λ z. Reads m ys z start place bytes) (sym b) (subst (λ z. Reads m ys e z place bytes) (sym c) (subst (λ z. Reads m ys e start2 z bytes) (sym f) r)))

pub fails_as : (m : DerMessage ℕ) (xs ys : List Level) (d e : Due) (bytes : List ℕ) (rule : Rule) (place place2 : ℕ) (added : List ℕ) → xs ≡ ys → d ≡ e → place ≡ place2 → Fails m ys e bytes rule place2 added → Fails m xs d bytes rule place added
fails_as m xs ys d e bytes rule place place2 added a b c f =
    subst (λ z. Fails m z d bytes rule place added) (sym a) (subst (λ z. Fails m ys z bytes rule place added) (sym b) (subst (λ z. Fails m ys e bytes rule z added) (sym c) f))

-- identifier octets that begin nothing
pub begin_breaks : (m : DerMessage ℕ) (xs : List Level) (level : Level) (d : Due) (start place : ℕ) (bytes : List ℕ) (o : ℕ) (id : ids.Identifier) (rule : Rule) (added : Added) (r : Reads m xs d start place bytes) → Some level ≡ first_of xs → HasIdentifier d r.rest o id → IsBelowEnd place (end_of_first xs)
    → ((l : states.DerLevel ℕ) → IsLevel m.forms level l → IsFound m.forms (found.Breaks rule added) (level_answer m l id.constructed (tag_view id))) → Fails m xs d (bytes ++ o ∷ []) rule start (added_text m.forms added)
begin_breaks m [] level d start place bytes o id rule added r is has low h = absurd cc
begin_breaks m (y ∷ ys) level (due.Tag step) start place bytes o id rule added r is has low h =
    let same : y ≡ level = cc in
    tag_breaks m y ys step start place bytes o id.constructed (tag_view id) rule added r low has.0 has.1 (λ l k. h l (subst (λ z. IsLevel m.forms z l) same k))
begin_breaks m xs level d start place bytes o id rule added r is has low h = absurd has

-- identifier octets of a component
pub begin_read : (m : DerMessage ℕ) (xs : List Level) (level x2 : Level) (d : Due) (start place : ℕ) (bytes : List ℕ) (o : ℕ) (id : ids.Identifier) (n : ℕ) (spot : Spot) (fresh : LengthStep) (r : Reads m xs d start place bytes) → Some level ≡ first_of xs → HasIdentifier d r.rest o id → IsBelowEnd place (end_of_first xs)
    → ((l : states.DerLevel ℕ) → IsLevel m.forms level l → IsFound m.forms (found.Begins n spot) (level_answer m l id.constructed (tag_view id))) → IsAdvanced level n x2 → lengths.HasTakenLength fresh []
    → Reads m (x2 ∷ rest_of xs) (due.Length id.constructed spot fresh) (place + 1) (place + 1) (bytes ++ o ∷ [])
begin_read m [] level x2 d start place bytes o id n spot fresh r is has low h adv new = absurd cc
begin_read m (y ∷ ys) level x2 (due.Tag step) start place bytes o id n spot fresh r is has low h adv new =
    let same : y ≡ level = cc in
    begun_read m y x2 ys step start place bytes o id.constructed (tag_view id) n spot fresh r low has.0 has.1 (λ l k. h l (subst (λ z. IsLevel m.forms z l) same k)) (subst (λ z. IsAdvanced z n x2) (sym same) adv) new
begin_read m xs level x2 d start place bytes o id n spot fresh r is has low h adv new = absurd has

-- and the value round it ends there
pub begin_past : (m : DerMessage ℕ) (xs : List Level) (level x2 : Level) (d : Due) (start place : ℕ) (bytes : List ℕ) (o : ℕ) (id : ids.Identifier) (n : ℕ) (spot : Spot) (fresh : LengthStep) (r : Reads m xs d start place bytes) → Some level ≡ first_of xs → HasIdentifier d r.rest o id → IsBelowEnd place (end_of_first xs)
    → ((l : states.DerLevel ℕ) → IsLevel m.forms level l → IsFound m.forms (found.Begins n spot) (level_answer m l id.constructed (tag_view id))) → IsAdvanced level n x2 → lengths.HasTakenLength fresh [] → IsPastEnd (place + 1) (end_of_first (x2 ∷ rest_of xs))
    → Fails m (x2 ∷ rest_of xs) (due.Length id.constructed spot fresh) (bytes ++ o ∷ []) Overrun (place + 1) []
begin_past m xs level x2 d start place bytes o id n spot fresh r is has low h adv new past =
    overrun_length m (x2 ∷ rest_of xs) id.constructed spot fresh (place + 1) place (bytes ++ o ∷ []) (begin_read m xs level x2 d start place bytes o id n spot fresh r is has low h adv new) past (first xs is low)
  where
    first : (zs : List Level) → Some level ≡ first_of zs → IsBelowEnd place (end_of_first zs) → place < x2.end
    first [] e l = absurd cc
    first (y ∷ ys) e l = (let same : y ≡ level = cc in let ends : y.end ≡ level.end = ap (λ (z : Level). z.end) same in let adv_end = adv.end in omega arith)

-- the outermost value
pub outer_read : (m : DerMessage ℕ) (xs : List Level) (d e : Due) (start place : ℕ) (bytes : List ℕ) (o : ℕ) (id : ids.Identifier) (r : Reads m xs d start place bytes) → None ≡ first_of xs → HasIdentifier d r.rest o id → IsOutermost id → AwaitsInstance e → Reads m xs e (place + 1) (place + 1) (bytes ++ o ∷ [])
outer_read m (y ∷ ys) d e start place bytes o id r is has outer new = absurd cc
outer_read m [] (due.Tag step) (due.Length c spot fresh) start place bytes o id r is has outer new =
    let octets : r.rest ++ o ∷ [] ≡ identifier true (universal 16) = has.1 ∙ (ap (λ z. identifier z (tag_view id)) outer.0 ∙ ap (identifier true) outer.1) in
    let read = outermost_read m step start place bytes o fresh spots.Instance r octets refl new.2 in
    reads_as m [] [] (due.Length c spot fresh) (due.Length true spots.Instance fresh) (place + 1) (place + 1) (place + 1) (place + 1) (bytes ++ o ∷ []) refl (ap (λ z. due.Length z spot fresh) new.0 ∙ ap (λ z. due.Length true z fresh) new.1) refl refl read
outer_read m [] (due.Tag step) e start place bytes o id r is has outer new = absurd new
outer_read m [] d e start place bytes o id r is has outer new = absurd has

pub outer_breaks : (m : DerMessage ℕ) (xs : List Level) (d : Due) (start place : ℕ) (bytes : List ℕ) (o : ℕ) (id : ids.Identifier) (r : Reads m xs d start place bytes) → None ≡ first_of xs → HasIdentifier d r.rest o id → (IsOutermost id → ⊥) → Fails m xs d (bytes ++ o ∷ []) UnexpectedTag start []
outer_breaks m (y ∷ ys) d start place bytes o id r is has other = absurd cc
outer_breaks m [] (due.Tag step) start place bytes o id r is has other = outermost_breaks m step start place bytes o id.constructed (tag_view id) r has.0 has.1 (λ b t. other (sym b, sym t))
outer_breaks m [] d start place bytes o id r is has other = absurd has

-- lengths
pub open_past : (m : DerMessage ℕ) (xs : List Level) (d : Due) (c : Bool) (spot : Spot) (start place n : ℕ) (bytes : List ℕ) (o : ℕ) (r : Reads m xs d start place bytes) → HasLengthOctets d c spot r.rest o n → IsBelowEnd place (end_of_first xs) → (end : ℕ) → end_of_first xs ≡ Some end → end < place + 1 + n → Fails m xs d (bytes ++ o ∷ []) Overrun start []
open_past m xs (due.Length c1 spot1 step) c spot start place n bytes o r has low end is past = too_long m xs c1 spot1 step start place n bytes o r low has.2 has.3 end is past
open_past m xs d c spot start place n bytes o r has low end is past = absurd has

pub open_primitive : (m : DerMessage ℕ) (xs : List Level) (d : Due) (spot : Spot) (start place n : ℕ) (bytes : List ℕ) (o : ℕ) (r : Reads m xs d start place bytes) (c : Bool) → c ≡ false → HasLengthOctets d c spot r.rest o n → UpTo (place + 1 + n) (end_of_first xs) → Reads m xs (due.Contents spot n) (place + 1) (place + 1) (bytes ++ o ∷ [])
open_primitive m xs (due.Length true spot1 step) spot start place n bytes o r c is has fits = absurd (let e = has.0 ∙ is in cc)
open_primitive m xs (due.Length false spot1 step) spot start place n bytes o r c is has fits =
    reads_as m xs xs (due.Contents spot n) (due.Contents spot1 n) (place + 1) (place + 1) (place + 1) (place + 1) (bytes ++ o ∷ []) refl (ap (λ z. due.Contents z n) (sym has.1)) refl refl (primitive_read m xs spot1 step start place n bytes o r has.2 has.3 fits)
open_primitive m xs d spot start place n bytes o r c is has fits = absurd has

pub open_constructed : (m : DerMessage ℕ) (x : Level) (xs : List Level) (d : Due) (spot : Spot) (fresh : TagStep) (start place n : ℕ) (bytes : List ℕ) (o : ℕ) (r : Reads m xs d start place bytes) (c : Bool) → c ≡ true → HasLengthOctets d c spot r.rest o n → UpTo (place + 1 + n) (end_of_first xs)
    → x.spot ≡ spot → x.next ≡ 0 → x.count ≡ 0 → x.end ≡ place + 1 + n → tags.HasTakenTag fresh [] → Reads m (x ∷ xs) (due.Tag fresh) (place + 1) (place + 1) (bytes ++ o ∷ [])
open_constructed m x xs (due.Length false spot1 step) spot fresh start place n bytes o r c is has fits a b e f new = absurd (let q = has.0 ∙ is in cc)
open_constructed m x xs (due.Length true spot1 step) spot fresh start place n bytes o r c is has fits a b e f new = opened_read m x xs spot1 step fresh start place n bytes o r has.2 has.3 fits (a ∙ sym has.1) b e f new
open_constructed m x xs d spot fresh start place n bytes o r c is has fits a b e f new = absurd has

-- an octet below 128 is a whole length, where none of it has come
pub short_has : (m : DerMessage ℕ) (xs : List Level) (d : Due) (c : Bool) (spot : Spot) (step : LengthStep) (start place : ℕ) (bytes : List ℕ) (o n : ℕ) (r : Reads m xs d start place bytes) → d ≡ due.Length c spot step → start ≡ place → o < 128 → n ≡ o → HasLengthOctets d c spot r.rest o n
short_has m xs d c spot step start place bytes o n r is none low same =
    let rest : r.rest ≡ [] = nil_from_length r.rest (let a = r.start_is in let b = r.place_is in omega arith) in
    let one = one_octet o low in
    subst (λ z. HasLengthOctets d c spot r.rest o z) (sym same) (subst (λ z. HasLengthOctets z c spot r.rest o o) (sym is) (refl, refl, one.0, ap (λ z. z ++ o ∷ []) rest ∙ one.1))

pub ok_both : {A E : Type 0} (r : Result A E) (P Q : Type 0) → IfOk r (λ _. P) → IfOk r (λ _. Q) → IfOk r (λ _. P × Q)
ok_both (Ok a) P Q p q = (p, q)
ok_both (Err e) P Q p q = tt

pub ok_each : {A E : Type 0} (r : Result A E) (P Q : A → Type 0) → IfOk r P → ((a : A) → P a → Q a) → IfOk r Q
ok_each (Ok a) P Q p f = f a p
ok_each (Err e) P Q p f = tt
