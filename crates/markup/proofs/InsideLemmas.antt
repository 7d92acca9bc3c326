-- A reader behind bytes that go on with the open token and end none.
use Rattle.std.proofs.Common.{◌≡◌, ℕ, true, false, ◌+◌, ◌-◌, ◌<◌, ◌≤◌, ◌⊎◌, inl, inr, List, [], ◌∷◌, ◌++◌, length, take, drop, reverse, Some, refl, sym, ◌∙◌, ap, subst, append_assoc, append-nil, length-append, arith}
use Rattle.std.specs.Str.{encode_utf8_all}
use Rattle.std.proofs.lemmas.Bool.{both_ways, cases_Bool}
use Rattle.std.proofs.lemmas.List.{length-take-le, take-append-drop, take-append-le}
use Rattle.std.proofs.lemmas.Str.{encodes-append}
use Rattle.markup.specs.Chars.{is_xml_char}
use Rattle.markup.specs.Token.{Token, LineEnd, Cr, token_bytes}
use Rattle.markup.specs.Marks.{Front}
use Rattle.markup.specs.Events.{Placed, events}
use Rattle.markup.specs.Faults.{IsTagBegun}
use Rattle.markup.specs.inner.Drafts.{no_draft}
use Rattle.markup.specs.inner.Inputs.{Any, with_pending}
use Rattle.markup.specs.inner.Inside.{GoesOver, is_inside, may_be_tag, after_count, GoesInside}
use Rattle.markup.specs.Reading.{HasTakenUnder, HasToldUnder}
use Rattle.markup.specs.inner.ScanRuns.{At, run, position}
use Rattle.markup.specs.inner.Tokenizers.{is_tag, with_scan, is_pending, IsTokenOpen, open_at, FinishesBy}
use Rattle.markup.specs.declared.draft.Draft.{Draft}
use Rattle.markup.specs.declared.reader.Reader.{Reader}
use Rattle.markup.specs.declared.scan.Position.{Position}
use Rattle.markup.specs.declared.scan.Position.TheVariants.{Start as AtStart, AfterMark, Text, Cdata}
use Rattle.markup.specs.declared.scan.Scan.{Scan}
use Rattle.markup.specs.declared.scan.Scan.TheVariants.{Begin, AfterReturn, Bracket, Brackets, Opened}
use Rattle.markup.specs.declared.tokenizer.Finish.{Finish}
use Rattle.markup.specs.declared.tokenizer.Tokenizer.{Tokenizer}
use Rattle.markup.proofs.Exact.{run_on}
use Rattle.markup.proofs.InputEvents.{none_pending, not_return}
use Rattle.markup.proofs.LineEnds.{line_bytes}
use Rattle.markup.proofs.Placed.{run_placed}
use Rattle.markup.proofs.PlainLemmas.{at_same, no_chars, no_return}
use Rattle.markup.proofs.ReaderLemmas.{told_so_far}
use Rattle.markup.proofs.ReferencePlaces.{in_tag}
use Rattle.markup.proofs.SettleLemmas.{finishes_by}
use Rattle.markup.proofs.TokenizerLemmas.{none_front, tag_scan}

-- ---- steps

pub over_then : (a b c : Tokenizer) (xs ys : List ℕ) → GoesOver a b xs → GoesOver b c ys → GoesOver a c (xs ++ ys)
over_then a b c xs ys g h = record {
  encoded = encodes-append xs ys ∙ (ap (λ v. v ++ encode_utf8_all ys) g.encoded ∙ ap (λ v. xs ++ v) h.encoded);
  scans = run_on a.scan b.scan a.draft b.draft xs ys g.scans ∙ h.scans;
  after = h.after ∙ ap (λ z. with_scan z c.scan c.draft) g.after;
}

-- ---- the bytes of a piece so far

pub record IsOverFront (old new : Tokenizer) (piece rest : List ℕ) : Type 0 where
  pub seen : List ℕ
  pub joined : piece ≡ seen ++ rest
  pub over : GoesOver old new seen

pub front_more : (a b c : Tokenizer) (piece rest behind : List ℕ) (n : ℕ) → IsOverFront a b piece rest → GoesOver b c (take n rest) → behind ≡ drop n rest → IsOverFront a c piece behind
front_more a b c piece rest behind n f g e = record {
  seen = f.seen ++ take n rest;
  joined = f.joined ∙ (ap (λ v. f.seen ++ v) (sym (take-append-drop n rest) ∙ ap (λ v. take n rest ++ v) (sym e)) ∙ sym (append_assoc f.seen (take n rest) behind));
  over = over_then a b c f.seen (take n rest) f.over g;
}

-- the front of a piece, so long that a tag stays shorter than its limit
pub goes_front : (old between : Tokenizer) (piece front : List ℕ) (room count : ℕ) → is_inside old.scan ≡ true → old.utf8 ≡ Some [] → room ≤ length piece → front ≡ take room piece → count ≤ length front → (may_be_tag old.scan ≡ true → 0 < room → (old.place - old.start) + room < old.limit) → GoesOver old between (take count front) → 0 < count → GoesInside old (after_count between count) (take count piece)
goes_front old between piece front room count i w r f c s g some = record {
  inside = i;
  whole = w;
  between = between;
  over = subst (GoesOver old between) (ap (take count) f ∙ take_within) g;
  after = ap (after_count between) (sym size);
  short = λ t. omega (arith, s t (omega (arith, some, short_front)), size, short_front);
} where
  short_front : count ≤ room
  short_front = omega (arith, c, ap length f, length-take-le room piece r)

  take_within : take count (take room piece) ≡ take count piece
  take_within = sym (ap (take count) (sym (take-append-drop room piece)) ∙ take-append-le count (take room piece) (drop room piece) (omega (arith, short_front, length-take-le room piece r)))

  size : length (take count piece) ≡ count
  size = length-take-le count piece (omega (arith, short_front, r))

-- ---- the open token

-- an open token that no CR and no bracket begins has a character
inside_some : (p : Position) (s : Scan) (d : Draft) (chars : List ℕ) → run (Begin p) no_draft chars ≡ At s d → is_inside s ≡ true → chars ≡ [] → ⊥
inside_some p s d chars r i e = by s (at_same (Begin p) s no_draft d (ap (run (Begin p) no_draft) (sym e) ∙ r)).0 i where
  by : (s : Scan) → Begin p ≡ s → is_inside s ≡ true → ⊥
  by s e i = both_ways (is_inside s) (ap is_inside (sym e)) i

-- where it is no tag, and may become none, no more characters make it one
no_tag_in_cdata : (s : Scan) (d : Draft) → run (Begin Cdata) no_draft (60 ∷ []) ≡ At s d → ⊥
unfolding is_xml_char
no_tag_in_cdata s d r = cc

opened_scan : (p : Position) (s : Scan) (d : Draft) → run (Begin p) no_draft (60 ∷ []) ≡ At s d → (is_inside s ≡ true → may_be_tag s ≡ true)
opened_scan AtStart s d r i = ap may_be_tag (sym (at_same (Opened true) s no_draft d r).0)
opened_scan AfterMark s d r i = ap may_be_tag (sym (at_same (Opened true) s no_draft d r).0)
opened_scan Text s d r i = ap may_be_tag (sym (at_same (Opened false) s no_draft d r).0)
opened_scan Cdata s d r i = absurd (no_tag_in_cdata s d r)

tag_may : (s : Scan) → is_tag s ≡ true → may_be_tag s ≡ true
tag_may (Opened first) h = refl
tag_may _ h = h

begun_may : (p : Position) (s : Scan) (d : Draft) (chars more : List ℕ) → run (Begin p) no_draft chars ≡ At s d → is_inside s ≡ true → IsTagBegun (chars ++ more) → may_be_tag s ≡ true
begun_may p s d [] more r i t = absurd (inside_some p s d [] r i refl)
begun_may p s d (c ∷ []) more r i t = opened_scan p s d (ap (λ x. run (Begin p) no_draft (x ∷ [])) (sym (first more t)) ∙ r) i where
  first : (more : List ℕ) → IsTagBegun (c ∷ more) → c ≡ 60
  first [] t = absurd t
  first (x ∷ more) t = t.0
begun_may p s d (a ∷ b ∷ chars) more r i t = tag_may s (by (cases_Bool (in_tag s))) where
  by : (in_tag s ≡ true) ⊎ (in_tag s ≡ false) → is_tag s ≡ true
  by (inl h) = tag_scan s h
  by (inr h) = absurd ((run_placed p (a ∷ b ∷ chars) s no_draft d r).no_tag h t)

module _ {limit : ℕ} (old new : Tokenizer) (before : List Token) (bytes more : List ℕ) (o : IsTokenOpen limit old before bytes) (g : GoesInside old new more) where
  abbrev z : Tokenizer
  z = g.between

  none_begun : [] ≡ o.part
  none_begun = by (sym g.whole ∙ o.utf8_is) where
    by : Some [] ≡ Some o.part → [] ≡ o.part
    by e = cc

  chars_are : bytes ≡ encode_utf8_all o.chars
  chars_are = o.bytes_are ∙ (ap (λ v. encode_utf8_all o.chars ++ v) (sym none_begun) ∙ append-nil (encode_utf8_all o.chars))

  more_are : bytes ++ more ≡ encode_utf8_all (o.chars ++ more)
  more_are = ap (λ v. v ++ more) chars_are ∙ (ap (λ v. encode_utf8_all o.chars ++ v) (sym g.over.encoded) ∙ sym (encodes-append o.chars more))

  some_bytes : 0 < length bytes
  some_bytes = by bytes refl where
    by : (v : List ℕ) → bytes ≡ v → 0 < length v
    by (x ∷ v) e = omega arith
    by [] e = absurd (inside_some (position before) old.scan old.draft o.chars o.scan_is g.inside (none o.chars (sym e ∙ chars_are))) where
      none : (cs : List ℕ) → [] ≡ encode_utf8_all cs → cs ≡ []
      none cs e = (no_chars cs [] (ap length (append-nil (encode_utf8_all cs) ∙ sym e))).0

  pub goes_open : IsTokenOpen limit new before (bytes ++ more)
  goes_open = subst (λ y. IsTokenOpen limit y before (bytes ++ more)) (sym g.after) (subst (λ y. IsTokenOpen limit (after_count y (length more)) before (bytes ++ more)) (sym g.over.after) (record {
    chars = o.chars ++ more;
    part = [];
    bytes_are = more_are ∙ sym (append-nil (encode_utf8_all (o.chars ++ more)));
    utf8_is = g.whole;
    front = none_front;
    scan_is = run_on (Begin (position before)) old.scan no_draft old.draft o.chars more o.scan_is ∙ g.over.scans;
    position_is = o.position_is;
    place_is = place_more old.place old.start bytes more o.place_is;
    limit_is = o.limit_is;
    limited = o.limited;
    short = λ t. short_more (subst (λ n. (old.place - old.start) + length more < n) o.limit_is (g.short (begun_may (position before) old.scan old.draft o.chars more o.scan_is g.inside t)));
    settled = λ _. refl;
  })) where
    place_more : (p q : ℕ) (v w : List ℕ) → p ≡ q + length v → p + length w ≡ q + length (v ++ w)
    place_more p q v w h = omega (arith, h, length-append v w)

    short_more : (old.place - old.start) + length more < limit → length (bytes ++ more) < limit
    short_more h = count old.place old.start (length bytes) (length more) (length (bytes ++ more)) limit o.place_is (length-append bytes more) h where
      count : (p q n m k limit : ℕ) → p ≡ q + n → k ≡ n + m → (p - q) + m < limit → k < limit
      count p q n m k limit e f h = omega arith

-- ---- the reader

inside_not_pending : (s : Scan) → is_inside s ≡ true → is_pending s ≡ false
inside_not_pending AfterReturn h = absurd (both_ways false refl h)
inside_not_pending Bracket h = absurd (both_ways false refl h)
inside_not_pending Brackets h = absurd (both_ways false refl h)
inside_not_pending _ h = refl

module _ {limit : ℕ} (r : Reader) (new : Tokenizer) (bytes more : List ℕ) (told : List Placed) (some : 0 < length more) (place : new.place ≡ r.tokenizer.place + length more) (g : GoesInside r.tokenizer new more) (h : HasTakenUnder limit r bytes told) where
  abbrev ts : List Token
  ts = h.0

  abbrev opened : List ℕ
  opened = h.1.reads.bytes

  opens : IsTokenOpen limit new (reverse ts) (opened ++ more)
  opens = goes_open r.tokenizer new (reverse ts) opened more h.1.reads.opens g

  front : (m : List ℕ) → Any m → Front limit [] ((bytes ++ more) ++ m) ts ((opened ++ more) ++ m)
  front m _ = subst (λ v. Front limit [] v ts ((opened ++ more) ++ m)) (sym (append_assoc bytes more m))
      (subst (λ v. Front limit [] (bytes ++ (more ++ m)) ts v) (sym (append_assoc opened more m)) (h.1.reads.front (more ++ m) tt))

  told_before : told ≡ events [] 0 ts
  told_before = h.1.told_are (open_at r.tokenizer.scan r.tokenizer) (finishes_by r.tokenizer (open_at r.tokenizer.scan r.tokenizer) refl)
      ∙ ap (events [] 0) (none_pending (open_at r.tokenizer.scan r.tokenizer) ts (no_return r.tokenizer.scan r.tokenizer (inside_not_pending r.tokenizer.scan g.inside)))

  no_line : opened ++ more ≡ token_bytes (LineEnd Cr) → ⊥
  no_line e = omega (arith, ap length (e ∙ line_bytes.2), length-append opened more, some, some_bytes r.tokenizer new (reverse ts) opened more h.1.reads.opens g)

  told_now : (f : Finish) → FinishesBy new f → told ≡ events [] 0 (with_pending f ts)
  told_now f q = told_before ∙ ap (events [] 0) (sym (none_pending f ts (not_return new (reverse ts) (opened ++ more) f opens q no_line)))

  -- nothing is told of the bytes
  pub goes_told : HasToldUnder limit (record { tokenizer = new; context = r.context; failed = r.failed }) (bytes ++ more) told
  goes_told = told_so_far (record { tokenizer = new; context = r.context; failed = r.failed }) (bytes ++ more) told (
    ts,
    record {
      reads = record { bytes = opened ++ more; front = front; opens = opens };
      clean = h.1.clean;
      place = place ∙ (ap (λ n. n + length more) h.1.place ∙ sym (length-append bytes more));
      context = h.1.context;
      told_are = told_now;
      sound = h.1.sound;
    },
  )

-- the front of a piece
pub takes_inside : {limit : ℕ} (r : Reader) (new : Tokenizer) (bytes piece : List ℕ) (told : List Placed) (count : ℕ) → count ≤ length piece → 0 < count → new.place ≡ r.tokenizer.place + count → GoesInside r.tokenizer new (take count piece) → HasTakenUnder limit r bytes told → HasToldUnder limit (record { tokenizer = new; context = r.context; failed = r.failed }) (bytes ++ take count piece) told
takes_inside r new bytes piece told count within some place g h = goes_told r new bytes (take count piece) told (omega (arith, size, some)) (place ∙ ap (λ n. r.tokenizer.place + n) (sym size)) g h where
  size : length (take count piece) ≡ count
  size = length-take-le count piece within
