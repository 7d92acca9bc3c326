-- A reader of a fragment that takes runs of characters and whole tags.
use Rattle.std.proofs.Common.{◌≡◌, ℕ, zero, suc, ◌+◌, ◌<◌, ◌≤◌, List, [], ◌∷◌, ◌++◌, map, take, drop, length, refl, sym, ap, subst, ◌∙◌, append_assoc, append-nil, arith}
use Rattle.std.specs.Prelude.{encode_utf8}
use Rattle.std.proofs.lemmas.List.{take-append-drop}
use Rattle.lexical_core.specs.Tree.{Expanded, Item, Starts, Char, Ends}
use Rattle.markup.specs.Marks.{no_limit}
use Rattle.markup.specs.Events.{Placed}
use Rattle.markup.specs.Literals.{IsRun, characters_from}
use Rattle.markup.specs.PlainTags.{tag_items, name_behind, open_behind, open_after, innermost_namespace}
use Rattle.markup.specs.Scopes.{placed_at}
use Rattle.markup.specs.Reading.{bytes_taken, HasTakenUnder, HasToldUnder}
use Rattle.markup.specs.declared.plain_tag.TagKind.{TagKind}
use Rattle.markup.specs.declared.plain_tag.TagKind.TheVariants as kind
use Rattle.markup.specs.declared.reader.Reader.{Reader}
use Rattle.respell.specs.Kept.{HasWritten, IsInDefault, opened_by}
use Rattle.respell.specs.inner.FragmentReading.{NoneForeign, HasReadFront, IsFragment, ReadsFragmentOn, AdvancesSo}
use Rattle.respell.specs.declared.respell.Respell.{Respell}
use Rattle.respell.specs.declared.fragment_reader.FragmentReader.{FragmentReader}
use Rattle.respell.specs.declared.fragment_reader.Advance.{Advance}
use Rattle.respell.specs.declared.fragment_reader.Advance.TheVariants.{Taken, NoFragment}
use Rattle.respell.proofs.FragmentFronts.{items, items-append_placed}
use Rattle.respell.proofs.Outside.{outside-append}

-- ---- more bytes, and their events

more_read : (old new : FragmentReader) (front forgotten more : List ℕ) (placed : List Placed) (is : List Item) (h : HasReadFront old front forgotten) → items placed ≡ is → HasTakenUnder no_limit new.reader (front ++ more) (h.told ++ placed)
    → HasWritten new.respell forgotten (items h.told ++ is) → NoneForeign 0 (items h.told ++ is) → HasReadFront new (front ++ more) forgotten
more_read old new front forgotten more placed is h same reads writes inside =
    let e : items h.told ++ is ≡ items (h.told ++ placed) = ap (λ (l : List Item). items h.told ++ l) (sym same) ∙ sym (items-append_placed h.told placed) in record {
      told = h.told ++ placed;
      reads = reads;
      writes = subst (λ (l : List Item). HasWritten new.respell forgotten l) e writes;
      inside = subst (λ (l : List Item). NoneForeign 0 l) e inside;
    }

-- ---- nothing

pub reads_none : (r : FragmentReader) (bytes : List ℕ) → ReadsFragmentOn r r bytes 0
reads_none r bytes = record {
  within = omega arith;
  moved = omega arith;
  reads = λ front forgotten h. subst (λ (l : List ℕ). HasReadFront r l forgotten) (sym (append-nil front)) h;
}

-- ---- runs of characters

items_run : (place : ℕ) (cs : List ℕ) → items (characters_from place cs) ≡ map (λ c. Char c) cs
items_run place [] = refl
items_run place (c ∷ cs) = ap (λ (l : List Item). Char c ∷ l) (items_run (place + length (encode_utf8 c)) cs)

run_within : (bytes : List ℕ) (n room : ℕ) → n ≤ length (take room bytes) → (take n (take room bytes) ≡ take n bytes) × (n ≤ length bytes)
run_within bytes zero room h = (refl, omega arith)
run_within [] (suc n) zero h = absurd (omega (arith, h))
run_within [] (suc n) (suc room) h = absurd (omega (arith, h))
run_within (b ∷ bytes) (suc n) zero h = absurd (omega (arith, h))
run_within (b ∷ bytes) (suc n) (suc room) h = let r = run_within bytes n room (omega (arith, h)) in (ap (λ (l : List ℕ). b ∷ l) r.0, (let w = r.1 in omega (arith, w)))

-- what the reader of XML tells of a run
abbrev pub RunRead : Reader → Reader → List ℕ → ℕ → Type 0
RunRead old new run count = (bytes : List ℕ) (told : List Placed) → HasTakenUnder no_limit old bytes told → (r : IsRun run count) × HasToldUnder no_limit new (bytes ++ run) (told ++ characters_from (length bytes) r.characters)

-- what is written of it
abbrev pub RunWritten : Respell → Respell → List ℕ → ℕ → Type 0
RunWritten old new run count = (forgotten : List ℕ) (is : List Item) (r : IsRun run count) → HasWritten old forgotten is → HasWritten new forgotten (is ++ map (λ c. Char c) r.characters)

-- characters would stand inside the root
abbrev pub HasRoot : Respell → Type 0
HasRoot r = (forgotten : List ℕ) (is : List Item) (characters : List ℕ) → HasWritten r forgotten is → NoneForeign 0 is → NoneForeign 0 (is ++ map (λ c. Char c) characters)

pub reads_run : (old new : FragmentReader) (bytes : List ℕ) (room n count : ℕ) → n ≤ length (take room bytes) → bytes_taken new.reader ≡ bytes_taken old.reader + n → RunRead old.reader new.reader (take n (take room bytes)) count
    → RunWritten old.respell new.respell (take n bytes) count → HasRoot old.respell → ReadsFragmentOn old new bytes n
reads_run old new bytes room n count within moved told written root =
    let w = run_within bytes n room within in
    let read : RunRead old.reader new.reader (take n bytes) count = subst (λ (l : List ℕ). RunRead old.reader new.reader l count) w.0 told in record {
      within = w.1;
      moved = moved;
      reads = λ front forgotten h. let t = read front h.told h.reads in
          more_read old new front forgotten (take n bytes) (characters_from (length front) t.0.characters) (map (λ c. Char c) t.0.characters) h (items_run (length front) t.0.characters) t.1.taken_are
          (written forgotten (items h.told) t.0 h.writes) (root forgotten (items h.told) t.0.characters h.writes h.inside);
    }

-- ---- whole tags

items_at : (place : ℕ) (is : List Item) → items (placed_at place is) ≡ is
items_at place [] = refl
items_at place (i ∷ is) = ap (λ (l : List Item). i ∷ l) (items_at place is)

opened_behind : (opened : List Expanded) (told : List Placed) → open_behind opened told ≡ opened_by opened (items told)
opened_behind opened [] = refl
opened_behind opened (p ∷ told) = opened_behind (open_after opened p.item) told

tag_inside : (k : TagKind) (n : Expanded) (is : List Item) → NoneForeign 0 is → NoneForeign 0 (is ++ tag_items k n)
tag_inside kind.Start n is h = outside-append 0 is (Starts n [] ∷ []) h tt
tag_inside kind.Empty n is h = outside-append 0 is (Starts n [] ∷ Ends n ∷ []) h tt
tag_inside kind.End n is h = outside-append 0 is (Ends n ∷ []) h tt

-- what the reader of XML tells of a tag
abbrev pub TagRead : Reader → Reader → List ℕ → TagKind → List ℕ → Type 0
TagRead old new tag k name = (bytes : List ℕ) (told : List Placed) → HasTakenUnder no_limit old bytes told → HasToldUnder no_limit new (bytes ++ tag) (told ++ placed_at (length bytes) (tag_items k (name_behind told name)))

-- what is written of it
abbrev pub TagWritten : Respell → Respell → TagKind → List ℕ → Type 0
TagWritten old new k name = (forgotten : List ℕ) (is : List Item) (n : Expanded) → n.local ≡ name → HasWritten old forgotten is → IsInDefault old n.namespace → HasWritten new forgotten (is ++ tag_items k n)

-- the innermost open element is in the default namespace so far
abbrev pub StandsInDefault : Respell → Type 0
StandsInDefault r = (forgotten : List ℕ) (is : List Item) → HasWritten r forgotten is → IsInDefault r (innermost_namespace (opened_by [] is))

pub reads_tag : (old new : FragmentReader) (bytes name : List ℕ) (k : TagKind) (n : ℕ) → n ≤ length bytes → bytes_taken new.reader ≡ bytes_taken old.reader + n → TagRead old.reader new.reader (take n bytes) k name → TagWritten old.respell new.respell k name → StandsInDefault old.respell → ReadsFragmentOn old new bytes n
reads_tag old new bytes name k n within moved told written default = record {
  within = within;
  moved = moved;
  reads = λ front forgotten h. let e : Expanded = name_behind h.told name in
      more_read old new front forgotten (take n bytes) (placed_at (length front) (tag_items k e)) (tag_items k e) h (items_at (length front) (tag_items k e)) (told front h.told h.reads).taken_are
      (written forgotten (items h.told) e refl h.writes (subst (λ (o : List Expanded). IsInDefault old.respell (innermost_namespace o)) (sym (opened_behind [] h.told)) (default forgotten (items h.told) h.writes)))
      (tag_inside k e (items h.told) h.inside);
}

-- ---- bytes inside a token

pub reads_inside : (old new : FragmentReader) (bytes : List ℕ) (n : ℕ) → n ≤ length bytes → bytes_taken new.reader ≡ bytes_taken old.reader + n → (n ≡ 0 → new.reader ≡ old.reader)
    → ((front : List ℕ) (told : List Placed) → HasTakenUnder no_limit old.reader front told → 0 < n → HasToldUnder no_limit new.reader (front ++ take n bytes) told) → new.respell ≡ old.respell → ReadsFragmentOn old new bytes n
reads_inside old new bytes n within moved none some same = record {
  within = within;
  moved = moved;
  reads = λ front forgotten h. record {
    told = h.told;
    reads = reads n none some front h.told h.reads;
    writes = subst (λ (r : Respell). HasWritten r forgotten (items h.told)) (sym same) h.writes;
    inside = h.inside;
  };
}
  where
    reads : (n : ℕ) → (n ≡ 0 → new.reader ≡ old.reader) → ((front : List ℕ) (told : List Placed) → HasTakenUnder no_limit old.reader front told → 0 < n → HasToldUnder no_limit new.reader (front ++ take n bytes) told)
        → (front : List ℕ) (told : List Placed) → HasTakenUnder no_limit old.reader front told → HasTakenUnder no_limit new.reader (front ++ take n bytes) told
    reads zero none some front told h = subst (λ (r : Reader). HasTakenUnder no_limit r (front ++ []) told) (sym (none refl)) (subst (λ (l : List ℕ). HasTakenUnder no_limit old.reader l told) (sym (append-nil front)) h)
    reads (suc n) none some front told h = (some front told h (omega arith)).taken_are

-- ---- one byte

pub reads_first : (old new : FragmentReader) (bytes behind : List ℕ) (byte : ℕ) → bytes ≡ byte ∷ behind → bytes_taken new.reader ≡ bytes_taken old.reader + 1
    → ((front forgotten : List ℕ) → HasReadFront old front forgotten → HasReadFront new (front ++ byte ∷ []) forgotten) → AdvancesSo old new bytes (Taken 1)
reads_first old new bytes behind byte e moved reads = rw e ((omega arith), record { within = omega arith; moved = moved; reads = reads })

pub refuses_first : (old new : FragmentReader) (bytes behind : List ℕ) (byte : ℕ) → bytes ≡ byte ∷ behind
    → ((front forgotten more : List ℕ) → HasReadFront old front forgotten → IsFragment ((front ++ byte ∷ []) ++ more) → ⊥) → AdvancesSo old new bytes NoFragment
refuses_first old new bytes behind byte e stops = rw e (λ front forgotten more h f. stops front forgotten (behind ++ more) h (subst IsFragment (sym (append_assoc front (byte ∷ []) (behind ++ more))) f))

-- ---- one after another

same_read : (old new : FragmentReader) (bytes : List ℕ) (n : ℕ) → n ≡ 0 → ReadsFragmentOn old new bytes n → (front forgotten : List ℕ) → HasReadFront old front forgotten → HasReadFront new front forgotten
same_read old new bytes n e a front forgotten h = subst (λ (l : List ℕ). HasReadFront new l forgotten) (append-nil front) (subst (λ (k : ℕ). HasReadFront new (front ++ take k bytes) forgotten) e (a.reads front forgotten h))

pub reads_then : (old between new : FragmentReader) (bytes : List ℕ) (n m : ℕ) → n ≡ 0 → ReadsFragmentOn old between bytes n → ReadsFragmentOn between new bytes m → ReadsFragmentOn old new bytes m
reads_then old between new bytes n m e a b = record {
  within = b.within;
  moved = (let i = a.moved in let j = b.moved in omega (arith, i, j, e));
  reads = λ front forgotten h. b.reads front forgotten (same_read old between bytes n e a front forgotten h);
}

pub advances_then : (old between new : FragmentReader) (bytes : List ℕ) (n : ℕ) (a : Advance) → n ≡ 0 → ReadsFragmentOn old between bytes n → AdvancesSo between new bytes a → AdvancesSo old new bytes a
advances_then old between new bytes n (Taken m) e a b = (b.0, reads_then old between new bytes n m e a b.1)
advances_then old between new bytes n NoFragment e a b = λ front forgotten behind h f. b front forgotten behind (same_read old between bytes n e a front forgotten h) f

-- what is behind a front that is taken
pub front_taken : (front bytes left behind : List ℕ) (n : ℕ) → front ++ left ≡ bytes → behind ≡ drop n left → (front ++ take n left) ++ behind ≡ bytes
front_taken front bytes left behind n e is =
    append_assoc front (take n left) behind ∙ (ap (λ (l : List ℕ). front ++ (take n left ++ l)) is ∙ (ap (λ (l : List ℕ). front ++ l) (take-append-drop n left) ∙ e))
