-- Components of the usual form in a run, whose innermost level and place stand beside the decoder.
use Rattle.std.specs.Prelude.{IfSome}
use Rattle.std.proofs.lemmas.List.{length-take-le, nil_from_length}
use Rattle.std.proofs.Common.{◌≡◌, ℕ, zero, suc, ◌+◌, ◌<◌, ◌≤◌, ◌^◌, Bool, true, false, List, [], ◌∷◌, ◌++◌, length, take, drop, Option, Some, None, refl, sym, ap, ◌∙◌, subst, arith, append_assoc, append-nil, length-append}
use Rattle.der_octets.specs.TagSteps as tags
use Rattle.der_octets.specs.TagSteps.{tag_view}
use Rattle.der_octets.specs.LengthSteps as lengths
use Rattle.der_octets.specs.declared.tag_step.TagStep.{TagStep}
use Rattle.der_octets.specs.declared.tag_step.Identifier as ids
use Rattle.der_octets.specs.declared.length_step.LengthStep.{LengthStep}
use Rattle.der_octets.specs.Octets.{length_octets}
use Rattle.der_octets.proofs.LengthStepLemmas.{one_octet}
use Rattle.der_octets.proofs.TagStepLemmas.{taken_none}
use Rattle.reference_check.specs.Words.{UpTo}
use Rattle.der_model.specs.Structures.{structure}
use Rattle.der_model.specs.States as states
use Rattle.der_model.specs.States.{level_answer, end_answer}
use Rattle.der_model.specs.DerMessage.{DerMessage}
use Rattle.der_codec.specs.Levels.{IsLevel, inwards, first_of, rest_of}
use Rattle.der_codec.specs.Components.{IsFound, IsEnded}
use Rattle.der_codec.specs.Decoding.{Reads, HasReadParts, IsFresh, IsWaiting, IsBelowEnd, IsAdvanced, HasIdentifier, end_of_first, level_at, end_of_levels}
use Rattle.der_codec.specs.Judging.{HoldsContents}
use Rattle.der_codec.specs.inner.Runs.{RunReads, IsOneOctet, EntersRun, PassesInRun, AreLengthOctets}
use Rattle.der_codec.specs.declared.components.Found.TheVariants as found
use Rattle.der_codec.specs.declared.value_ends.Ended.TheVariants as ended
use Rattle.der_codec.specs.declared.decoder.Decoder.{Decoder}
use Rattle.der_codec.specs.declared.decoder.Due.{Due}
use Rattle.der_codec.specs.declared.decoder.Due.TheVariants as due
use Rattle.der_codec.specs.declared.level.Spot.{Spot}
use Rattle.der_codec.specs.declared.level.Level.{Level}
use Rattle.der_codec.specs.declared.usual.Run.{Run}
use Rattle.der_codec.proofs.ContentsSteps.{contents_clean, none_kept}
use Rattle.der_codec.proofs.Counted.{count_below}
use Rattle.der_codec.proofs.Inwards.{end_first}
use Rattle.der_codec.proofs.Nested.{fresh_within, not_at_end}
use Rattle.der_codec.proofs.StepTies.{reads_as, begin_read, open_primitive, short_has}
use Rattle.der_codec.proofs.Steps.{ended_read, more_lengths, opened_read}
use Rattle.der_codec.proofs.UsualSteps.{none_taken}

-- ---- where no identifier octet has come

pub fresh_is : (d : Due) → IsFresh d → (step : TagStep) × (d ≡ due.Tag step) × tags.HasTakenTag step []
fresh_is (due.Tag step) fresh = (step, refl, subst (λ z. tags.HasTakenTagIn z step.first step.high []) (sym fresh) refl)
fresh_is d fresh = absurd fresh

pub fresh_start : (m : DerMessage ℕ) (xs : List Level) (d : Due) (start place : ℕ) (bytes : List ℕ) → IsFresh d → Reads m xs d start place bytes → start ≡ place
fresh_start m xs (due.Tag step) start place bytes fresh r =
    let none = ap length (taken_none step.come step.first step.high r.rest fresh r.is_begun) in
    let p = r.place_is in
    let q = r.start_is in
    omega arith
fresh_start m xs d start place bytes fresh r = absurd fresh

pub one_identifier : (m : DerMessage ℕ) (xs : List Level) (d : Due) (start place : ℕ) (bytes : List ℕ) (o : ℕ) (id : ids.Identifier) (r : Reads m xs d start place bytes) → IsFresh d → IsOneOctet o id → HasIdentifier d r.rest o id
one_identifier m xs (due.Tag step) start place bytes o id r fresh one =
    (one.0, ap (λ z. z ++ o ∷ []) (taken_none step.come step.first step.high r.rest fresh r.is_begun) ∙ one.1)
one_identifier m xs d start place bytes o id r fresh one = absurd fresh

-- ---- a run begins

pub first_rest : (xs : List Level) (x : Level) → Some x ≡ first_of xs → x ∷ rest_of xs ≡ xs
first_rest [] x e = absurd cc
first_rest (y ∷ ys) x e = (let same : x ≡ y = cc in ap (λ z. z ∷ ys) same)

pub run_begins : (m : DerMessage ℕ) (d : Decoder) (run : Run) (bytes : List ℕ) → IsFresh d.due → Some run.level ≡ first_of (inwards d.levels.items) → run.place ≡ d.place → HasReadParts m d bytes → RunReads m d run bytes
run_begins m d run bytes fresh first at r =
    let xs = inwards d.levels.items in
    reads_as m (run.level ∷ rest_of xs) xs d.due d.due run.place d.start run.place d.place bytes (first_rest xs run.level first) refl (at ∙ sym (fresh_start m xs d.due d.start d.place bytes fresh r)) at r

pub run_low : (d : Decoder) (run : Run) → IsFresh d.due → IsWaiting d.due d.place (end_of_levels d.levels.items) → Some run.level ≡ first_of (inwards d.levels.items) → run.place ≡ d.place → run.place < run.level.end
run_low d run fresh waits first at = subst (λ z. z < run.level.end) (sym at) (by d.due fresh waits)
  where
    by : (e : Due) → IsFresh e → IsWaiting e d.place (end_of_levels d.levels.items) → d.place < run.level.end
    by (due.Tag step) fresh w = subst (IsBelowEnd d.place) (end_first (inwards d.levels.items) run.level (sym first)) w
    by e fresh w = absurd fresh

pub run_some : (items : List Level) (x : Level) → Some x ≡ first_of (inwards items) → 0 < length items
run_some [] x first = absurd cc
run_some (y ∷ ys) x first = omega arith

-- ---- a component begins

-- the count of the innermost level is within bounds
pub few_in_run : (m : DerMessage ℕ) (d : Decoder) (run : Run) (bytes : List ℕ) → run.place ≤ 2 ^ 40 → RunReads m d run bytes → run.level.count < 2 ^ 63
few_in_run m d run bytes room r =
    let low = count_below m (run.level ∷ rest_of (inwards d.levels.items)) run.level d.due run.place run.place bytes r refl in
    omega (arith, room, low)

pub begun : (m : DerMessage ℕ) (old : Decoder) (run : Run) (around : Level) (bytes : List ℕ) (o number : ℕ) (id : ids.Identifier) (spot : Spot) (step : LengthStep) → RunReads m old run bytes → IsFresh old.due → IsOneOctet o id → run.place < run.level.end
    → ((l : states.DerLevel ℕ) → IsLevel m.forms run.level l → IsFound m.forms (found.Begins number spot) (level_answer m l id.constructed (tag_view id))) → IsAdvanced run.level number around → lengths.HasTakenLength step [] → (c : Bool) → id.constructed ≡ c
    → Reads m (around ∷ rest_of (inwards old.levels.items)) (due.Length c spot step) (run.place + 1) (run.place + 1) (bytes ++ o ∷ [])
begun m old run around bytes o number id spot step r fresh one low h advanced none c is =
    let xs = rest_of (inwards old.levels.items) in
    let has = one_identifier m (run.level ∷ xs) old.due run.place run.place bytes o id r fresh one in
    subst (λ z. Reads m (around ∷ xs) (due.Length z spot step) (run.place + 1) (run.place + 1) (bytes ++ o ∷ [])) is
    (begin_read m (run.level ∷ xs) run.level around old.due run.place run.place bytes o id number spot step r refl has low h advanced none)

-- behind an identifier that reads so far, the octets of a length open a constructed value
pub wide_opens : (m : DerMessage ℕ) (ys : List Level) (spot : Spot) (step : LengthStep) (f : TagStep) (at first n : ℕ) (bytes more : List ℕ) → Reads m ys (due.Length true spot step) at at bytes → AreLengthOctets first more n → UpTo (at + (1 + length more) + n) (end_of_first ys) → tags.HasTakenTag f []
    → Reads m (level_at spot (at + (1 + length more) + n) ∷ ys) (due.Tag f) (at + (1 + length more)) (at + (1 + length more)) (bytes ++ first ∷ more)
wide_opens m ys spot step f at first n bytes more b l fits clean =
    let front = l.front in
    let last = l.last in
    let x = level_at spot (at + (1 + length more) + n) in
    let none : b.rest ≡ [] = nil_from_length b.rest (let a = b.start_is in let p = b.place_is in omega arith) in
    let w = more_lengths m ys true spot step l.step at at bytes front b (subst (λ z. lengths.HasTakenLength l.step (z ++ front)) (sym none) l.taken) in
    let rest : w.0.rest ++ last ∷ [] ≡ length_octets n = ap (λ z. z ++ last ∷ []) (w.1 ∙ ap (λ z. z ++ front) none) ∙ (sym l.are ∙ l.octets) in
    let size : suc (length more) ≡ length front + 1 = ap length l.are ∙ length-append front (last ∷ []) in
    let behind : at + length front + 1 ≡ at + (1 + length more) = omega (arith, size) in
    let opened = opened_read m x ys spot l.step f at (at + length front) n (bytes ++ front) last w.0 l.short rest (subst (λ z. UpTo (z + n) (end_of_first ys)) (sym behind) fits) refl refl refl (ap (λ z. z + n) (sym behind)) clean in
    let all : (bytes ++ front) ++ last ∷ [] ≡ bytes ++ first ∷ more = append_assoc bytes front (last ∷ []) ∙ ap (λ z. bytes ++ z) (sym l.are) in
    subst (λ z. Reads m (x ∷ ys) (due.Tag f) z z (bytes ++ first ∷ more)) behind
    (subst (Reads m (x ∷ ys) (due.Tag f) (at + length front + 1) (at + length front + 1)) all opened)

-- a constructed one of which the length is these octets, which is entered
pub wide_enters : (m : DerMessage ℕ) (old new : Decoder) (run after : Run) (bytes more : List ℕ) (o first n number : ℕ) (id : ids.Identifier) (spot : Spot) → RunReads m old run bytes → IsFresh old.due → IsOneOctet o id → run.place < run.level.end
    → ((l : states.DerLevel ℕ) → IsLevel m.forms run.level l → IsFound m.forms (found.Begins number spot) (level_answer m l id.constructed (tag_view id))) → AreLengthOctets first more n → id.constructed ≡ true → new.due ≡ old.due
    → EntersRun old new run after number spot (2 + length more) n → RunReads m new after (bytes ++ o ∷ first ∷ more)
wide_enters m old new run after bytes more o first n number id spot r fresh one low h l constructed same e =
    let ys = e.around ∷ rest_of (inwards old.levels.items) in
    let t = none_taken in
    let f = fresh_is old.due fresh in
    let at = run.place + 1 in
    let end = at + (1 + length more) in
    let b = begun m old run e.around bytes o number id spot t.0 r fresh one low h e.is_advanced t.1 true constructed in
    let ends = e.is_advanced.end in
    let fits = e.fits in
    let behind : run.place + (2 + length more) ≡ end = omega arith in
    let opened = wide_opens m ys spot t.0 f.0 at first n (bytes ++ o ∷ []) more b l (omega (arith, ends, fits)) f.2 in
    reads_as m (after.level ∷ rest_of (inwards new.levels.items)) (level_at spot (end + n) ∷ ys) new.due (due.Tag f.0) after.place end after.place end (bytes ++ o ∷ first ∷ more)
    (ap (λ z. z ∷ rest_of (inwards new.levels.items)) (e.level_is ∙ ap (λ z. level_at spot (z + n)) behind) ∙ ap (λ z. level_at spot (end + n) ∷ z) e.levels_are) (same ∙ f.1) (e.place_is ∙ behind) (e.place_is ∙ behind)
    (subst (Reads m (level_at spot (end + n) ∷ ys) (due.Tag f.0) end end) (append_assoc bytes (o ∷ []) (first ∷ more)) opened)

-- the same of a length of one octet
pub run_enters : (m : DerMessage ℕ) (old new : Decoder) (run after : Run) (bytes : List ℕ) (o n number : ℕ) (id : ids.Identifier) (spot : Spot) → RunReads m old run bytes → IsFresh old.due → IsOneOctet o id → run.place < run.level.end
    → ((l : states.DerLevel ℕ) → IsLevel m.forms run.level l → IsFound m.forms (found.Begins number spot) (level_answer m l id.constructed (tag_view id))) → n < 128 → id.constructed ≡ true → new.due ≡ old.due
    → EntersRun old new run after number spot 2 n → RunReads m new after (bytes ++ o ∷ n ∷ [])
run_enters m old new run after bytes o n number id spot r fresh one low h short constructed same e =
    let t = none_taken in
    let octet = one_octet n short in
    wide_enters m old new run after bytes [] o n n number id spot r fresh one low h (record { front = []; last = n; are = refl; step = t.0; taken = t.1; short = octet.0; octets = octet.1 }) constructed same e

-- a leaf, which is passed
pub run_passes : (m : DerMessage ℕ) (old : Decoder) (run after : Run) (bytes contents : List ℕ) (o n number : ℕ) (id : ids.Identifier) (spot : Spot) → RunReads m old run bytes → IsFresh old.due → IsOneOctet o id → run.place < run.level.end
    → ((l : states.DerLevel ℕ) → IsLevel m.forms run.level l → IsFound m.forms (found.Begins number spot) (level_answer m l id.constructed (tag_view id))) → n < 128 → id.constructed ≡ false → length contents ≡ n
    → PassesInRun m run after number spot contents → RunReads m old after (bytes ++ o ∷ n ∷ contents)
run_passes m old run after bytes contents o n number id spot r fresh one low h short primitive size p =
    let xs = rest_of (inwards old.levels.items) in
    let ys = after.level ∷ xs in
    let t = none_taken in
    let f = fresh_is old.due fresh in
    let at = run.place + 1 in
    let octets = (bytes ++ o ∷ []) ++ n ∷ [] in
    let b = begun m old run after.level bytes o number id spot t.0 r fresh one low h p.is_advanced t.1 false primitive in
    let has = short_has m ys (due.Length false spot t.0) false spot t.0 at at (bytes ++ o ∷ []) n n b refl refl short refl in
    let ends = p.is_advanced.end in
    let fits = p.fits in
    let opened = open_primitive m ys (due.Length false spot t.0) spot at at n (bytes ++ o ∷ []) n b false refl has (omega (arith, ends, fits, size)) in
    let empty = none_kept m ys (due.Contents spot n) (at + 1) (at + 1) octets opened refl in
    let held : HoldsContents m spot (drop (at + 1) octets ++ contents) = subst (λ z. HoldsContents m spot (z ++ contents)) (sym empty) p.holds in
    let clean = contents_clean m ys spot n f.0 (at + 1) (at + 1) octets contents opened size held f.2 in
    let there = p.place_is in
    let place : after.place ≡ at + 1 + n = omega (arith, there, size) in
    let all : octets ++ contents ≡ bytes ++ o ∷ n ∷ contents = ap (λ z. z ++ contents) (append_assoc bytes (o ∷ []) (n ∷ [])) ∙ append_assoc bytes (o ∷ n ∷ []) contents in
    reads_as m ys ys old.due (due.Tag f.0) after.place (at + 1 + n) after.place (at + 1 + n) (bytes ++ o ∷ n ∷ contents) refl f.1 place place
    (subst (Reads m ys (due.Tag f.0) (at + 1 + n) (at + 1 + n)) all clean)

-- ---- as the functions answer

pub some_each : {A : Type 0} {P Q : A → Type 0} (r : Option A) → IfSome r P → ((a : A) → P a → Q a) → IfSome r Q
some_each None p f = p
some_each (Some a) p f = f a p

pub entered_run : (m : DerMessage ℕ) (new : Decoder) (after : Run) (bytes behind : List ℕ) (o n : ℕ) (X : Type 0) (result : Option ℕ) → IfSome result (λ k. k ≡ 0) → IfSome result (λ k. X) → (X → RunReads m new after (bytes ++ o ∷ n ∷ []))
    → IfSome result (λ k. RunReads m new after (bytes ++ o ∷ n ∷ take k behind))
entered_run m new after bytes behind o n X None none x f = none
entered_run m new after bytes behind o n X (Some k) none x f = subst (λ z. RunReads m new after (bytes ++ o ∷ n ∷ take z behind)) (sym none) (f x)

pub passed_run : (m : DerMessage ℕ) (old : Decoder) (run after : Run) (spot : Spot) (bytes behind : List ℕ) (o n number : ℕ) (result : Option ℕ) → IfSome result (λ k. k ≡ n) → IfSome result (λ k. k ≤ length behind)
    → IfSome result (λ k. PassesInRun m run after number spot (take k behind)) → ((contents : List ℕ) → length contents ≡ n → PassesInRun m run after number spot contents → RunReads m old after (bytes ++ o ∷ n ∷ contents))
    → IfSome result (λ k. RunReads m old after (bytes ++ o ∷ n ∷ take k behind))
passed_run m old run after spot bytes behind o n number None same within p f = same
passed_run m old run after spot bytes behind o n number (Some k) same within p f = f (take k behind) (length-take-le k behind within ∙ same) p

-- ---- values end

level_ends : (m : DerMessage ℕ) (d : Due) (x : Level) (xs ys : List Level) (place : ℕ) (bytes : List ℕ) → IsFresh d → Reads m (x ∷ xs) d place place bytes → x.end ≡ place → ((l : states.DerLevel ℕ) → IsLevel m.forms x l → IsEnded m.forms ended.Fine (end_answer (structure m l.spot) l.came))
    → (y : Level) → y ∷ ys ≡ xs → Reads m (y ∷ ys) d place place bytes
level_ends m (due.Tag step) x xs ys place bytes fresh r here h y is =
    ended_read m x y ys step place place bytes fresh (subst (λ z. Reads m (x ∷ z) (due.Tag step) place place bytes) (sym is) r) here h
level_ends m d x xs ys place bytes fresh r here h y is = absurd fresh

pub run_goes_out : (m : DerMessage ℕ) (old new : Decoder) (run after : Run) (bytes : List ℕ) → RunReads m old run bytes → IsFresh old.due → run.level.end ≡ run.place → ((l : states.DerLevel ℕ) → IsLevel m.forms run.level l → IsEnded m.forms ended.Fine (end_answer (structure m l.spot) l.came))
    → after.level ∷ rest_of (inwards new.levels.items) ≡ rest_of (inwards old.levels.items) → after.place ≡ run.place → new.due ≡ old.due → RunReads m new after bytes
run_goes_out m old new run after bytes r fresh here h levels at same =
    let ys = rest_of (inwards new.levels.items) in
    reads_as m (after.level ∷ ys) (after.level ∷ ys) new.due old.due after.place run.place after.place run.place bytes refl same at at
    (level_ends m old.due run.level (rest_of (inwards old.levels.items)) ys run.place bytes fresh r here h after.level levels)

pub run_below : (m : DerMessage ℕ) (d : Decoder) (run : Run) (bytes : List ℕ) → RunReads m d run bytes → IsFresh d.due → (run.level.end ≡ run.place → ⊥) → run.place < run.level.end
run_below m d run bytes r fresh other =
    not_at_end (Some run.level.end) run.place run.level.end refl (fresh_within m (run.level ∷ rest_of (inwards d.levels.items)) d.due run.place run.place bytes fresh r) other

-- ---- at the end of a run

pub run_result : (m : DerMessage ℕ) (old new : Decoder) (bytes piece : List ℕ) (n : ℕ) → HasReadParts m old bytes → (n ≡ 0 → new ≡ old) → (0 < n → HasReadParts m new (bytes ++ take n piece)) → HasReadParts m new (bytes ++ take n piece)
run_result m old new bytes piece zero r none some = subst (λ (z : Decoder). HasReadParts m z (bytes ++ [])) (sym (none refl)) (subst (HasReadParts m old) (sym (append-nil bytes)) r)
run_result m old new bytes piece (suc n) r none some = some (omega arith)

pub run_left : (m : DerMessage ℕ) (old mid new : Decoder) (run after : Run) (bytes piece : List ℕ) (n k : ℕ) → mid ≡ old → after ≡ run → k ≡ n → 0 < k → RunReads m old run (bytes ++ take n piece) → (0 < n → (octets : List ℕ) → RunReads m mid after octets → HasReadParts m new octets)
    → HasReadParts m new (bytes ++ take k piece)
run_left m old mid new run after bytes piece n k same stays size some r left =
    let octets = bytes ++ take n piece in
    subst (λ z. HasReadParts m new (bytes ++ take z piece)) (sym size)
    (left (omega (arith, size, some)) octets (subst (λ (z : Decoder). RunReads m z after octets) (sym same) (subst (λ (z : Run). RunReads m old z octets) (sym stays) r)))
