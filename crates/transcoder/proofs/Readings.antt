-- What the bytes that were read of a source say of all that it had left.
use Rattle.std.proofs.Common.{◌≡◌, ℕ, ◌+◌, ◌-◌, ◌<◌, ◌≤◌, ◌⊎◌, inl, inr, List, [], ◌++◌, length, take, drop, Option, Some, None, IfSome, IfOk, IfErr, OnOk, refl, sym, ◌∙◌, ap, subst, append_assoc, append-nil, length-append, arith}
use Rattle.std.specs.Prelude.{Result, Ok, Err}
use Rattle.std.proofs.lemmas.Bool.{cases_lt}
use Rattle.std.proofs.lemmas.List.{take_all, take-append-drop, length-take, length-drop}
use Rattle.std.proofs.Math.Seq.{take-append_seam}
use Rattle.std.specs.Io.KnownBytes.{Consumes, IsAtEnd, Keeps}
use Rattle.std.proofs.KnownBytes.{Consumes-nil, Consumes-kept, Consumes-trans, Consumes-whole}
use Rattle.lexical_core.specs.declared.rule.Rule.{Rule}
use Rattle.lexical_core.proofs.Lists.{take_past}
use Rattle.outside.specs.Pulls.{pull_limit, StopsSoon}
use Rattle.message_model.specs.declared.fault.Fault.{Fault}
use Rattle.message_model.specs.declared.fault.InstanceError.{InstanceError}
use Rattle.message_model.specs.declared.fault.InstanceError.TheVariants as reader
use Rattle.transcoder.specs.declared.check_error.CheckError.{CheckError}
use Rattle.transcoder.specs.declared.check_error.CheckError.TheVariants.{Refused, ReadFault, Memory}
use Rattle.transcoder.specs.CheckErrors.{check_error, RefusesBy, IsOfSome}
use Rattle.transcoder.specs.Limited.{most_bytes, IsLimited, within, before, open_at, over_at}
use Rattle.transcoder.specs.inner.Reading.{ShowsFault, StopsAt, EndsBy, WasFed, HasReadSource, HasReadBeyond, SaysError, ReadsTo, EndsBeyond, end_told, Concludes, GivesSome}
use Rattle.transcoder.specs.Pulls.{MayBeFollowed, PullsToFault}
use Rattle.transcoder.specs.declared.reading.Extent.{Extent}
use Rattle.transcoder.specs.declared.reading.Extent.TheVariants.{Whole, Longer}

-- an error that says nothing of the bytes
pub says_nothing : (HasFault : List ℕ → Fault → Type 0) (old : Option (List ℕ)) (e : CheckError) → ((bytes : List ℕ) → RefusesBy HasFault bytes e) → IsOfSome HasFault e → SaysError HasFault old e
says_nothing HasFault old e k p = record { refused = of_left old; placed = p }
  where
    of_left : (a : Option (List ℕ)) → IfSome a (λ bytes. RefusesBy HasFault bytes e)
    of_left None = tt
    of_left (Some bytes) = k bytes

-- a fault of all bytes that begin so
says_fault : (HasFault : List ℕ → Fault → Type 0) (old now : Option (List ℕ)) (seen : List ℕ) (fault : Fault) → Consumes old now seen → ((rest : List ℕ) → HasFault (seen ++ rest) fault) → SaysError HasFault old (Refused fault)
says_fault HasFault old now seen fault p all = record { refused = of_left old now p; placed = (seen ++ [], all []) }
  where
    of_left : (a b : Option (List ℕ)) → Consumes a b seen → IfSome a (λ bytes. HasFault bytes fault)
    of_left None b p = tt
    of_left (Some x) None p = absurd p
    of_left (Some x) (Some y) p = subst (λ v. HasFault v fault) (sym p) (all y)

-- ---- bytes within the limit, and what follows them

limit_of : (seen rest : List ℕ) → length seen ≤ most_bytes → take most_bytes (seen ++ rest) ≡ seen ++ take (most_bytes - length seen) rest
limit_of seen rest h = take_past seen rest most_bytes h

limit_at : (seen rest : List ℕ) → length seen ≡ most_bytes → take most_bytes (seen ++ rest) ≡ seen
limit_at seen rest e = ap (λ n. take n (seen ++ rest)) (sym e) ∙ take-append_seam seen rest

module _ (Faulty : List ℕ → Fault → Type 0) (Given : List ℕ → Type 0) (c : Rule) where
  -- a fault that is shown, whatever follows
  shown_limited : (seen : List ℕ) (fault : Fault) (rest : List ℕ) → length seen ≤ most_bytes → ShowsFault Faulty c seen fault → IsLimited Faulty Given c (seen ++ rest) fault
  shown_limited seen fault rest fits s = of_length (cases_lt most_bytes (length (seen ++ rest)))
    where
      of_length : (most_bytes < length (seen ++ rest)) ⊎ (length (seen ++ rest) ≤ most_bytes) → IsLimited Faulty Given c (seen ++ rest) fault
      of_length (inl long) = before long (subst (λ v. Faulty v fault) (sym (limit_of seen rest fits)) (s.has_fault (take (most_bytes - length seen) rest))) s.no_cut
      of_length (inr short) = within short (s.has_fault rest)

  -- more bytes than the limit: what the end of those within it would be
  beyond_limited : {W : Type 0} (Gives : List ℕ → W → Type 0) (to_given : (bytes : List ℕ) (x : W) → Gives bytes x → Given bytes) (seen rest : List ℕ) (r : Result W InstanceError) (fault : Fault)
      → length seen ≡ most_bytes → 0 < length rest → ((f : Fault) → Faulty seen f → f.rule ≡ c) → IfOk r (λ x. Gives seen x) → IfErr r (λ e. EndsBy Faulty seen e) → EndsBeyond r (Refused fault)
      → IsLimited Faulty Given c (seen ++ rest) fault
  beyond_limited {W} Gives to_given seen rest r fault full more only_cut ok err told = of_end r ok err told
    where
      long : most_bytes < length (seen ++ rest)
      long = omega (arith, full, more, length-append seen rest)

      at : take most_bytes (seen ++ rest) ≡ seen
      at = limit_at seen rest full

      of_end : (r : Result W InstanceError) → IfOk r (λ x. Gives seen x) → IfErr r (λ e. EndsBy Faulty seen e) → EndsBeyond r (Refused fault) → IsLimited Faulty Given c (seen ++ rest) fault
      of_end (Ok x) ok err told = over_at long (subst Given (sym at) (to_given seen x ok)) told
      of_end (Err (reader.Refused first)) ok err told = open_at first long (subst (λ b. Faulty b first) (sym at) err) (only_cut first err) told
      of_end (Err reader.Memory) ok err told = absurd told

-- ---- the start, and the next bytes

module _ {S : Type 0} (Fed : S → List ℕ → Type 0) (Made : S → Type 0) where
  pub read_none : (old : Option (List ℕ)) (state : S) → Made state → Fed state [] → HasReadSource Fed Made old old most_bytes state
  read_none old state made fed_are = record { taken_are = []; front = none old; counted = omega arith; made = made; fed_are = fed_are }
    where
      none : (a : Option (List ℕ)) → Consumes a a []
      none None = tt
      none (Some x) = refl

  -- the end
  pub read_end : (old now next : Option (List ℕ)) (room : ℕ) (state : S) → HasReadSource Fed Made old now room state → Consumes now next [] → HasReadSource Fed Made old next room state
  read_end old now next room state h consumed = record {
    taken_are = h.taken_are;
    front = subst (λ v. Consumes old next v) (append-nil h.taken_are) (Consumes-trans old now next h.taken_are [] h.front consumed);
    counted = h.counted;
    made = h.made;
    fed_are = h.fed_are;
  }

  -- the bytes so far
  was_fed : (old now : Option (List ℕ)) (room : ℕ) (state : S) (h : HasReadSource Fed Made old now room state) → WasFed Fed h.taken_are
  was_fed old now room state h = let c = h.counted in (omega (arith, c), state, h.fed_are)

  -- the last piece, which may have been fed or not
  pub last_piece : (old now next : Option (List ℕ)) (xs : List ℕ) (room : ℕ) (state : S) → HasReadSource Fed Made old now room state → Consumes now next xs → length xs ≤ pull_limit → StopsSoon (WasFed Fed) old next
  last_piece old now next xs room state h consumed few = record {
    before = h.taken_are;
    last = xs;
    pulled = Consumes-trans old now next h.taken_are xs h.front consumed;
    short = few;
    shows_none = was_fed old now room state h;
  }

  -- a pull that failed gave none
  pub no_piece : (old now next : Option (List ℕ)) (room : ℕ) (state : S) → HasReadSource Fed Made old now room state → Keeps now next → StopsSoon (WasFed Fed) old next
  no_piece old now next room state h kept = last_piece old now next [] room state h (Consumes-kept now now next [] (Consumes-nil now) kept) (omega arith)

  -- all that the source gave before it was fed
  pub fed_before : (old now next : Option (List ℕ)) (room : ℕ) (state : S) → HasReadSource Fed Made old now room state → Keeps now next → (taken : List ℕ) × Consumes old next taken × WasFed Fed taken
  fed_before old now next room state h kept = (h.taken_are, Consumes-kept old now next h.taken_are h.front kept, was_fed old now room state h)

  module _ (old now next : Option (List ℕ)) (xs : List ℕ) (w room : ℕ) (state : S) (h : HasReadSource Fed Made old now room state) (consumed : Consumes now next xs) where
    pub read_more : (count : ℕ) (after : S) → length xs ≡ count → w ≡ count → count ≤ room → Made after → Fed after (h.taken_are ++ take w xs) → HasReadSource Fed Made old next (room - count) after
    read_more count after long e fits made fed_are =
        let c = h.counted in
        record {
          taken_are = h.taken_are ++ xs;
          front = Consumes-trans old now next h.taken_are xs h.front consumed;
          counted = omega (arith, c, long, fits, length-append h.taken_are xs);
          made = made;
          fed_are = subst (λ v. Fed after (h.taken_are ++ v)) (take_all w xs (omega (arith, long, e))) fed_are;
        }

    -- the bytes are those before the piece, the front of it, and what is behind that
    regrouped : (rest : List ℕ) → (h.taken_are ++ xs) ++ rest ≡ (h.taken_are ++ take w xs) ++ (drop w xs ++ rest)
    regrouped rest = ap (λ v. (h.taken_are ++ v) ++ rest) (sym (take-append-drop w xs)) ∙ joined h.taken_are (take w xs) (drop w xs) rest
      where
        joined : (a b c d : List ℕ) → (a ++ (b ++ c)) ++ d ≡ (a ++ b) ++ (c ++ d)
        joined a b c d = ap (λ v. v ++ d) (sym (append_assoc a b c)) ∙ append_assoc (a ++ b) c d

    seen_fits : w ≤ room → length (h.taken_are ++ take w xs) ≤ most_bytes
    seen_fits fits = let c = h.counted in omega (arith, c, fits, length-append h.taken_are (take w xs), length-take w xs)

    -- so many bytes may be fed
    pub feed_fits : w ≤ room → w ≤ length xs → length h.taken_are + length (take w xs) ≤ most_bytes
    feed_fits fits short = let c = h.counted in omega (arith, c, fits, short, length-take w xs)

    -- the reader does not go on
    pub refused_fed : (Faulty : List ℕ → Fault → Type 0) (Given : List ℕ → Type 0) (c : Rule) (e : InstanceError) → w ≤ room → StopsAt Faulty c (h.taken_are ++ take w xs) e → SaysError (IsLimited Faulty Given c) old (check_error e)
    refused_fed Faulty Given c reader.Memory fits s = says_nothing (IsLimited Faulty Given c) old Memory (λ bytes. tt) tt
    refused_fed Faulty Given c (reader.Refused fault) fits s =
        says_fault (IsLimited Faulty Given c) old next (h.taken_are ++ xs) fault (Consumes-trans old now next h.taken_are xs h.front consumed)
        (λ rest. subst (λ v. IsLimited Faulty Given c v fault) (sym (regrouped rest)) (shown_limited Faulty Given c (h.taken_are ++ take w xs) fault (drop w xs ++ rest) (seen_fits fits) s))

    -- more bytes than the limit came
    pub read_beyond : (after : S) → w ≡ room → room < length xs → Fed after (h.taken_are ++ take w xs) → HasReadBeyond Fed old next after
    read_beyond after full more fed_are =
        let c = h.counted in
        record {
          within = h.taken_are ++ take w xs;
          behind = drop w xs;
          front = subst (λ v. Consumes old next v) (ap (λ v. h.taken_are ++ v) (sym (take-append-drop w xs)) ∙ sym (append_assoc h.taken_are (take w xs) (drop w xs))) (Consumes-trans old now next h.taken_are xs h.front consumed);
          full = omega (arith, c, full, more, length-append h.taken_are (take w xs), length-take w xs);
          more = omega (arith, full, more, length-drop w xs);
          fed_are = fed_are;
        }

-- ---- the answer

-- what the answer says of the bytes that the source had left, and of its count of faults
pub record IsVerdict {W : Type 0} (Gives : List ℕ → W → Type 0) (HasFault : List ℕ → Fault → Type 0) (old now : Option (List ℕ)) (r : Result W CheckError) : Type 0 where
  pub ok : IfOk r (λ x. IfSome old (λ bytes. Gives bytes x × (length bytes ≤ most_bytes)))
  pub given : IfOk r (λ x. (bytes : List ℕ) × Gives bytes x)
  pub whole_is : OnOk r (IsAtEnd now)
  pub refused : IfErr r (λ e. IfSome old (λ bytes. RefusesBy HasFault bytes e))
  pub placed : IfErr r (λ e. IsOfSome HasFault e)

said : {W : Type 0} (Gives : List ℕ → W → Type 0) (HasFault : List ℕ → Fault → Type 0) (old now : Option (List ℕ)) (e : CheckError) → SaysError HasFault old e → IsVerdict Gives HasFault old now (Err e)
said Gives HasFault old now e s = record { ok = tt; given = tt; whole_is = tt; refused = s.refused; placed = s.placed }

module _ {S W : Type 0} (Fed : S → List ℕ → Type 0) (Made : S → Type 0) (Faulty : List ℕ → Fault → Type 0) (Gives : List ℕ → W → Type 0) (c : Rule) (old now : Option (List ℕ)) (state : S) where
  ended_verdict : (room : ℕ) (end : Result W InstanceError) (h : HasReadSource Fed Made old now room state) → IsAtEnd now
      → IfOk end (λ x. Gives h.taken_are x) → IfErr end (λ e. EndsBy Faulty h.taken_are e) → IsVerdict Gives (IsLimited Faulty (GivesSome Gives) c) old now (end_told end)
  ended_verdict room end h last ok err = of_end end ok err
    where
      short : length h.taken_are ≤ most_bytes
      short = let k = h.counted in omega (arith, k)

      of_end : (r : Result W InstanceError) → IfOk r (λ x. Gives h.taken_are x) → IfErr r (λ e. EndsBy Faulty h.taken_are e) → IsVerdict Gives (IsLimited Faulty (GivesSome Gives) c) old now (end_told r)
      of_end (Ok x) ok err = record { ok = Consumes-whole old now h.taken_are (λ bytes. Gives bytes x × (length bytes ≤ most_bytes)) h.front last (ok, short); given = (h.taken_are, ok); whole_is = last; refused = tt; placed = tt }
      of_end (Err (reader.Refused fault)) ok err =
          said Gives (IsLimited Faulty (GivesSome Gives) c) old now (Refused fault)
          (record { refused = Consumes-whole old now h.taken_are (λ bytes. IsLimited Faulty (GivesSome Gives) c bytes fault) h.front last (within short err); placed = (h.taken_are, within short err) })
      of_end (Err reader.Memory) ok err = said Gives (IsLimited Faulty (GivesSome Gives) c) old now Memory (says_nothing (IsLimited Faulty (GivesSome Gives) c) old Memory (λ bytes. tt) tt)

  module _ (only_cut : (x : S) (bytes : List ℕ) (fault : Fault) → Fed x bytes → Faulty bytes fault → fault.rule ≡ c) where
    beyond_says : (end : Result W InstanceError) (e : CheckError) (h : HasReadBeyond Fed old now state) → IfOk end (λ x. Gives h.within x) → IfErr end (λ e. EndsBy Faulty h.within e) → EndsBeyond end e
        → SaysError (IsLimited Faulty (GivesSome Gives) c) old e
    beyond_says end (Refused fault) h ok err told = says_fault (IsLimited Faulty (GivesSome Gives) c) old now (h.within ++ h.behind) fault h.front
        (λ rest. subst (λ v. IsLimited Faulty (GivesSome Gives) c v fault) (sym (append_assoc h.within h.behind rest))
        (let full = h.full in let more = h.more in
        beyond_limited Faulty (GivesSome Gives) c Gives (λ bytes x g. (x, g)) h.within (h.behind ++ rest) end fault full (omega (arith, more, length-append h.behind rest)) (λ f k. only_cut state h.within f h.fed_are k) ok err told))
    beyond_says end ReadFault h ok err told = says_nothing (IsLimited Faulty (GivesSome Gives) c) old ReadFault (λ bytes. tt) tt
    beyond_says end Memory h ok err told = says_nothing (IsLimited Faulty (GivesSome Gives) c) old Memory (λ bytes. tt) tt

    pub concluded_verdict : (read : Result Extent CheckError) (end : Result W InstanceError) (r : Result W CheckError) → ReadsTo Fed Made (IsLimited Faulty (GivesSome Gives) c) old now state read
        → ((bytes : List ℕ) → Fed state bytes → IfOk end (λ x. Gives bytes x)) → ((bytes : List ℕ) → Fed state bytes → IfErr end (λ e. EndsBy Faulty bytes e)) → Concludes read end r
        → IsVerdict Gives (IsLimited Faulty (GivesSome Gives) c) old now r
    concluded_verdict (Ok Whole) end r (room, h, last) ok err e =
        subst (λ (v : Result W CheckError). IsVerdict Gives (IsLimited Faulty (GivesSome Gives) c) old now v) (sym e) (ended_verdict room end h last (ok h.taken_are h.fed_are) (err h.taken_are h.fed_are))
    concluded_verdict (Ok Longer) end (Ok x) h ok err e = absurd e
    concluded_verdict (Ok Longer) end (Err error) h ok err e =
        said Gives (IsLimited Faulty (GivesSome Gives) c) old now error (beyond_says end error h (ok h.within h.fed_are) (err h.within h.fed_are) e)
    concluded_verdict (Err error) end r h ok err e =
        subst (λ (v : Result W CheckError). IsVerdict Gives (IsLimited Faulty (GivesSome Gives) c) old now v) (sym e) (said Gives (IsLimited Faulty (GivesSome Gives) c) old now error h)

-- ---- how far the source was pulled

-- bytes that a reader was fed have no fault but that they end too early
fed_followed : {S : Type 0} (Fed : S → List ℕ → Type 0) (Faulty : List ℕ → Fault → Type 0) (c : Rule) → ((x : S) (bytes : List ℕ) (fault : Fault) → Fed x bytes → Faulty bytes fault → fault.rule ≡ c)
    → (bytes : List ℕ) → WasFed Fed bytes → MayBeFollowed Faulty c bytes
fed_followed Fed Faulty c only_cut bytes h = (h.0, λ f k. only_cut h.1 bytes f h.2 k)

-- so an error says how far the source was pulled
pub pulls_for : {S W : Type 0} (Fed : S → List ℕ → Type 0) (Faulty : List ℕ → Fault → Type 0) (c : Rule) (old now : Option (List ℕ)) → ((x : S) (bytes : List ℕ) (fault : Fault) → Fed x bytes → Faulty bytes fault → fault.rule ≡ c)
    → StopsSoon (WasFed Fed) old now → (r : Result W CheckError) → (r ≡ Err ReadFault → (taken : List ℕ) × Consumes old now taken × WasFed Fed taken) → IfErr r (λ e. PullsToFault Faulty c old now e)
pulls_for Fed Faulty c old now only_cut h (Ok x) failed = tt
pulls_for Fed Faulty c old now only_cut h (Err (Refused fault)) failed = record { before = h.before; last = h.last; pulled = h.pulled; short = h.short; shows_none = fed_followed Fed Faulty c only_cut h.before h.shows_none }
pulls_for Fed Faulty c old now only_cut h (Err ReadFault) failed = let k = failed refl in (k.0, k.1, fed_followed Fed Faulty c only_cut k.0 k.2)
pulls_for Fed Faulty c old now only_cut h (Err Memory) failed = tt

-- the same by other faults, each of which is one of these where the bytes are within the limit
followed_as : (Faulty HasFault : List ℕ → Fault → Type 0) (c : Rule) → ((bytes : List ℕ) (fault : Fault) → length bytes ≤ most_bytes → HasFault bytes fault → Faulty bytes fault)
    → (bytes : List ℕ) → MayBeFollowed Faulty c bytes → MayBeFollowed HasFault c bytes
followed_as Faulty HasFault c is_one bytes h = (h.0, λ f k. h.1 f (is_one bytes f h.0 k))

pub pulls_as : {W : Type 0} (Faulty HasFault : List ℕ → Fault → Type 0) (c : Rule) (old now : Option (List ℕ)) → ((bytes : List ℕ) (fault : Fault) → length bytes ≤ most_bytes → HasFault bytes fault → Faulty bytes fault)
    → (r : Result W CheckError) → IfErr r (λ e. PullsToFault Faulty c old now e) → IfErr r (λ e. PullsToFault HasFault c old now e)
pulls_as Faulty HasFault c old now is_one (Ok x) h = tt
pulls_as Faulty HasFault c old now is_one (Err (Refused fault)) h = record { before = h.before; last = h.last; pulled = h.pulled; short = h.short; shows_none = followed_as Faulty HasFault c is_one h.before h.shows_none }
pulls_as Faulty HasFault c old now is_one (Err ReadFault) h = (h.0, h.1, followed_as Faulty HasFault c is_one h.0 h.2)
pulls_as Faulty HasFault c old now is_one (Err Memory) h = tt

-- ---- that the source failed is told where it was read alone

no_fault_at_end : {U : Type 0} (end : Result U InstanceError) → end_told end ≡ Err ReadFault → ⊥
no_fault_at_end (Ok x) e = cc
no_fault_at_end (Err (reader.Refused fault)) e = cc
no_fault_at_end (Err reader.Memory) e = cc

no_fault_beyond : {U : Type 0} (end : Result U InstanceError) → EndsBeyond end ReadFault → ⊥
no_fault_beyond (Ok x) h = h
no_fault_beyond (Err (reader.Refused fault)) h = h
no_fault_beyond (Err reader.Memory) h = h

same_error : {U : Type 0} (r : Result U CheckError) (a b : CheckError) → r ≡ Err a → r ≡ Err b → a ≡ b
same_error r a b e f = cc

pub read_fault : {U : Type 0} (read : Result Extent CheckError) (end : Result U InstanceError) (r : Result U CheckError) → Concludes read end r → r ≡ Err ReadFault → read ≡ Err ReadFault
read_fault (Ok Whole) end r e f = absurd (no_fault_at_end end (sym e ∙ f))
read_fault (Ok Longer) end (Ok x) e f = absurd e
read_fault (Ok Longer) end (Err error) e f = let same : error ≡ ReadFault = cc in absurd (no_fault_beyond end (subst (λ (v : CheckError). EndsBeyond end v) same e))
read_fault (Err error) end r e f = ap (λ v. Err v) (same_error r error ReadFault e f)

pub fault_read : {U : Type 0} (read : Result Extent CheckError) (end : Result U InstanceError) (r : Result U CheckError) → Concludes read end r → read ≡ Err ReadFault → r ≡ Err ReadFault
fault_read (Ok x) end r e f = cc
fault_read (Err error) end r e f = let same : error ≡ ReadFault = cc in e ∙ ap (λ v. Err v) same
