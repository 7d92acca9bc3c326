-- What the bytes that were read of a source say of all that it had left.
use Rattle.std.proofs.Common.{◌≡◌, ℕ, ◌-◌, ◌<◌, ◌≤◌, List, [], ◌∷◌, ◌++◌, length, take, drop, Option, Some, None, refl, sym, ap, ◌∙◌, subst, append_assoc, append-nil, length-append, arith}
use Rattle.std.specs.Prelude.{IfSome}
use Rattle.std.proofs.lemmas.List.{take_all, take-append-drop, length-take, length-drop}
use Rattle.std.proofs.Math.Seq.{take-append_seam}
use Rattle.std.specs.Io.KnownBytes.{Consumes, Keeps, IsAtEnd}
use Rattle.std.proofs.KnownBytes.{Consumes-trans, Consumes-kept}
use Rattle.lexical_core.specs.declared.rule.Rule.TheVariants.{Truncated}
use Rattle.outside.specs.Pulls.{pull_limit, StopsSoon}
use Rattle.outside.proofs.Consumed.{known}
use Rattle.markup.specs.Token.{Token}
use Rattle.markup.specs.Marks.{Front, tag_limit}
use Rattle.markup.specs.Events.{Placed, events}
use Rattle.markup.specs.Faults.{MarkFault}
use Rattle.markup.specs.Reading.{IsWholly, NoFaultTaken, AreEvents, fault_of}
use Rattle.markup.specs.Longest.{IsLongest}
use Rattle.markup.specs.declared.reader.MarkFault.{MarkFault as Told}
use Rattle.markup.proofs.Stays.{events_are_all}
use Rattle.repo_objects.specs.Repository.{Contents}
use Rattle.repo_loader.specs.declared.fault.LoadFault.{LoadFault}
use Rattle.repo_loader.specs.declared.progress.Progress.{Progress}
use Rattle.repo_loader.specs.declared.selection.Selection.{Selection}
use Rattle.repo_loader.specs.Selected.{FileTag, PlacedTag, event_tags}
use Rattle.repo_loader.specs.File.{contents_of}
use Rattle.repo_loader.specs.FileFaults.{AreSoundTags}
use Rattle.repo_loader.specs.Loaded.{file_limit, token_tags, Spells, HasLoadFault, broken, markup, long}
use Rattle.repo_loader.specs.LoadErrors.{ShowsNoLoadFault}
use Rattle.repo_loader.specs.inner.SelectionSteps.{HasLoaded, tags_told}
use Rattle.repo_loader.specs.inner.ProgressSteps.{markup_fault, HasReadFile, ReadsOn, ShowsLoadFault, HasWhole, HasAll, HasReadWithRoom}
use Rattle.repo_loader.proofs.OneLoadFault.{Rest, tags_append, not_sound}
use Rattle.repo_loader.proofs.ReadSteps.{markup_found}
use Rattle.repo_loader.proofs.TreeSelection.{selects_the_tree}
use Rattle.repo_loader.proofs.WholeTrees.{whole_tree}

-- ---- the end of the bytes

sound_front : (acc : List FileTag) (xs ys : List PlacedTag) → AreSoundTags acc (xs ++ ys) → AreSoundTags acc xs
sound_front acc [] ys h = tt
sound_front acc (x ∷ xs) ys h = (h.0, sound_front (acc ++ x.tag ∷ []) xs ys h.1)

sound_tokens : (ts us more : List Token) → us ≡ ts ++ more → AreSoundTags [] (token_tags us) → AreSoundTags [] (token_tags ts)
sound_tokens ts us more e s = sound_front [] (token_tags ts) (Rest ts more) (subst (AreSoundTags []) (ap token_tags e ∙ tags_append ts more) s)

-- The tokens of the longest list break no rule.
module _ (p : Progress) (bytes : List ℕ) (h : HasReadFile p bytes) where
  all_events : AreEvents bytes h.told
  all_events = events_are_all p.reader bytes h.told h.given

  all_sound : AreSoundTags [] (token_tags all_events.0)
  all_sound = subst (λ es. AreSoundTags [] (event_tags [] es)) all_events.3 h.loaded.sound

  -- the bytes end too early
  pub ends_early : (fault : Told) → MarkFault bytes (fault_of fault) → length bytes ≤ file_limit → HasLoadFault bytes (markup_fault fault)
  ends_early fault m short =
      let r = all_events.1.longest m.tokens m.rest m.front in
      markup_found bytes bytes fault (take_all file_limit bytes short) m (sound_tokens m.tokens all_events.0 r.0 r.1 all_sound) (λ t. short)

  -- there are more bytes than the limit
  pub more_follow : NoFaultTaken → (behind : List ℕ) → length bytes ≡ file_limit → 0 < length behind → HasLoadFault (bytes ++ behind) (record { rule = 6; markup = None; place = file_limit })
  more_follow none behind full more =
      let e : take file_limit (bytes ++ behind) ≡ bytes = ap (λ n. take n (bytes ++ behind)) (sym full) ∙ take-append_seam bytes behind in
      long all_events.0 (omega (arith, full, more, length-append bytes behind)) (subst (λ v. IsLongest v all_events.0) (sym e) all_events.1) all_events.2
      (λ f m. none p.reader bytes h.told h.given f (subst (λ v. MarkFault v f) e m)) all_sound refl

  -- what is read shows no fault
  pub shows_none : NoFaultTaken → length bytes ≤ file_limit → (fault : LoadFault) → HasLoadFault bytes fault → fault.markup ≡ Some Truncated
  shows_none none short fault k = by k
    where
      all : take file_limit bytes ≡ bytes
      all = take_all file_limit bytes short

      by : HasLoadFault bytes fault → fault.markup ≡ Some Truncated
      by (broken ts rest f clean first unmarked) =
          let r = all_events.1.longest ts rest (subst (λ v. Front tag_limit [] v ts rest) all f) in
          absurd (not_sound ts all_events.0 r.0 fault.rule fault.place r.1 first all_sound)
      by (markup f m counts s e) = ap (λ (x : LoadFault). x.markup) e ∙ ap Some (none p.reader bytes h.told h.given f (subst (λ v. MarkFault v f) all m))
      by (long us over l c only s e) = absurd (omega (arith, short, over))

-- they are whole
pub spelled : (s : Selection) (bytes : List ℕ) (told : List Placed) → HasLoaded s told → (w : IsWholly bytes told) → length bytes ≤ file_limit → (r : Contents) → r ≡ contents_of (tags_told told) → Spells bytes r
spelled s bytes told h w short r e =
    let tree = whole_tree w.0 w.2 w.3 in
    record {
      short = short;
      tokens = w.0;
      marks = w.1;
      clean = w.2;
      over = w.3;
      sound = subst (λ es. AreSoundTags [] (event_tags [] es)) w.4 h.sound;
      tree = tree.0;
      tree_is = tree.1;
      contents_are = e ∙ (ap (λ es. contents_of (tags_told es)) w.4 ∙ ap contents_of (selects_the_tree (events [] 0 w.0) tree.0 tree.1));
    }

-- ---- a source

if_some : (o : Option (List ℕ)) (P : List ℕ → Type 0) → ((bytes : List ℕ) → o ≡ Some bytes → P bytes) → IfSome o P
if_some None P f = tt
if_some (Some bytes) P f = f bytes refl

-- what was taken of a piece is its front
pub front_taken : (p : Progress) (before piece front : List ℕ) (o found : Option LoadFault) → piece ≡ front → o ≡ found → ReadsOn p (before ++ piece) o → ReadsOn p (before ++ front) found
front_taken p before piece front o found is same k = subst (λ v. ReadsOn p (before ++ v) found) is (subst (ReadsOn p (before ++ piece)) same k)

pub room_whole : (old : Option (List ℕ)) (p : Progress) → HasReadFile p [] → HasReadWithRoom old old file_limit p
room_whole old p read = record { taken_are = []; front = none old; counted = omega arith; read = read } where
  none : (a : Option (List ℕ)) → Consumes a a []
  none None = tt
  none (Some x) = refl

regrouped : (a b c d : List ℕ) → (a ++ (b ++ c)) ++ d ≡ (a ++ b) ++ (c ++ d)
regrouped a b c d = ap (λ v. v ++ d) (sym (append_assoc a b c)) ∙ append_assoc (a ++ b) c d

module _ (old now : Option (List ℕ)) (room : ℕ) (p : Progress) (h : HasReadWithRoom old now room p) (next : Option (List ℕ)) (xs : List ℕ) (consumes : Consumes now next xs) where
  -- the whole of what was left
  all_are : (w : ℕ) (bytes : List ℕ) → old ≡ Some bytes → (rest : List ℕ) × (bytes ≡ (h.taken_are ++ take w xs) ++ (drop w xs ++ rest))
  all_are w bytes e =
      let k = known old next (h.taken_are ++ xs) bytes (Consumes-trans old now next h.taken_are xs h.front consumes) e in
      (k.0, k.2 ∙ (ap (λ v. (h.taken_are ++ v) ++ k.0) (sym (take-append-drop w xs)) ∙ regrouped h.taken_are (take w xs) (drop w xs) k.0))

  within : (w : ℕ) → w ≤ room → length (h.taken_are ++ take w xs) ≤ file_limit
  within w fits = let c = h.counted in omega (arith, c, fits, length-append h.taken_are (take w xs), length-take w xs)

  -- the first bytes of what was pulled show a fault
  pub fault_found : (w : ℕ) (fault : LoadFault) → w ≤ room → ShowsLoadFault (h.taken_are ++ take w xs) fault → IfSome old (λ bytes. HasLoadFault bytes fault)
  fault_found w fault fits s = if_some old (λ bytes. HasLoadFault bytes fault) (λ bytes e.
      let k = all_are w bytes e in
      subst (λ v. HasLoadFault v fault) (sym k.1) (s (drop w xs ++ k.0) (within w fits)))

  pub fault_placed : (w : ℕ) (fault : LoadFault) → w ≤ room → ShowsLoadFault (h.taken_are ++ take w xs) fault → (bytes : List ℕ) × HasLoadFault bytes fault
  fault_placed w fault fits s = ((h.taken_are ++ take w xs) ++ [], s [] (within w fits))

  -- more bytes than the limit came
  full : (w : ℕ) → w ≡ room → room < length xs → length (h.taken_are ++ take w xs) ≡ file_limit
  full w e more = let c = h.counted in omega (arith, c, e, more, length-append h.taken_are (take w xs), length-take w xs)

  pub long_found : NoFaultTaken → (w : ℕ) (after : Progress) → w ≡ room → room < length xs → HasReadFile after (h.taken_are ++ take w xs)
      → IfSome old (λ bytes. HasLoadFault bytes (record { rule = 6; markup = None; place = file_limit }))
  long_found none w after e more read = if_some old (λ bytes. HasLoadFault bytes (record { rule = 6; markup = None; place = file_limit })) (λ bytes is.
      let k = all_are w bytes is in
      subst (λ v. HasLoadFault v (record { rule = 6; markup = None; place = file_limit })) (sym k.1)
      (more_follow after (h.taken_are ++ take w xs) read none (drop w xs ++ k.0) (full w e more) (omega (arith, e, more, length-drop w xs, length-append (drop w xs) k.0))))

  pub long_placed : NoFaultTaken → (w : ℕ) (after : Progress) → w ≡ room → room < length xs → HasReadFile after (h.taken_are ++ take w xs)
      → (bytes : List ℕ) × HasLoadFault bytes (record { rule = 6; markup = None; place = file_limit })
  long_placed none w after e more read =
      ((h.taken_are ++ take w xs) ++ drop w xs, more_follow after (h.taken_are ++ take w xs) read none (drop w xs) (full w e more) (omega (arith, e, more, length-drop w xs)))

  -- the next bytes are read
  pub room_left : (w count : ℕ) (after : Progress) → length xs ≡ count → w ≡ count → count ≤ room → HasReadFile after (h.taken_are ++ take w xs) → HasReadWithRoom old next (room - count) after
  room_left w count after many e fits read =
      let c = h.counted in
      record {
        taken_are = h.taken_are ++ xs;
        front = Consumes-trans old now next h.taken_are xs h.front consumes;
        counted = omega (arith, c, many, fits, length-append h.taken_are xs);
        read = subst (λ v. HasReadFile after (h.taken_are ++ v)) (take_all w xs (omega (arith, many, e))) read;
      }

  -- what was pulled before shows no fault
  pub last_piece : NoFaultTaken → length xs ≤ pull_limit → StopsSoon ShowsNoLoadFault old next
  last_piece none few = let c = h.counted in record {
    before = h.taken_are;
    last = xs;
    pulled = Consumes-trans old now next h.taken_are xs h.front consumes;
    short = few;
    shows_none = shows_none p h.taken_are h.read none (omega (arith, c));
  }

-- the end of the bytes, within the limit, or a failed pull
module _ (old now : Option (List ℕ)) (room : ℕ) (p : Progress) (h : HasReadWithRoom old now room p) where
  short : length h.taken_are ≤ file_limit
  short = let c = h.counted in omega (arith, c)

  -- a pull failed, and what was pulled before shows no fault
  pub none_shown : NoFaultTaken → (next : Option (List ℕ)) → Keeps now next → (taken : List ℕ) × Consumes old next taken × ShowsNoLoadFault taken
  none_shown none next kept = (h.taken_are, Consumes-kept old now next h.taken_are h.front kept, shows_none p h.taken_are h.read none short)

  all_taken : (next : Option (List ℕ)) → Consumes now next [] → IsAtEnd next → (bytes : List ℕ) → old ≡ Some bytes → bytes ≡ h.taken_are
  all_taken next consumes end bytes e =
      let k = known old next (h.taken_are ++ []) bytes (Consumes-trans old now next h.taken_are [] h.front consumes) e in
      let none : k.0 ≡ [] = let at : IsAtEnd (Some k.0) = subst IsAtEnd k.1 end in at in
      k.2 ∙ ap (λ l. (h.taken_are ++ []) ++ l) none ∙ (append-nil (h.taken_are ++ []) ∙ append-nil h.taken_are)

  pub end_found : (next : Option (List ℕ)) → Consumes now next [] → IsAtEnd next → (fault : LoadFault) → (length h.taken_are ≤ file_limit → HasLoadFault h.taken_are fault) → IfSome old (λ bytes. HasLoadFault bytes fault)
  end_found next consumes end fault k = if_some old (λ bytes. HasLoadFault bytes fault) (λ bytes e. subst (λ v. HasLoadFault v fault) (sym (all_taken next consumes end bytes e)) (k short))

  pub end_placed : (fault : LoadFault) → (length h.taken_are ≤ file_limit → HasLoadFault h.taken_are fault) → (bytes : List ℕ) × HasLoadFault bytes fault
  end_placed fault k = (h.taken_are, k short)

  pub end_whole : (next : Option (List ℕ)) → Consumes now next [] → IsAtEnd next → (after : Progress) → HasWhole after h.taken_are → HasAll old after
  end_whole next consumes end after w = record {
    bytes = h.taken_are;
    all = if_some old (λ known. known ≡ h.taken_are) (λ bytes e. all_taken next consumes end bytes e);
    short = short;
    whole = w;
  }
