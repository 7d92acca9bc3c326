-- White space inside a tag, and what stands behind it.
use Rattle.std.proofs.Common.{◌≡◌, ℕ, zero, suc, Bool, true, false, cond, ◌||◌, ◌==◌, ◌+◌, ◌<◌, ◌≤◌, List, [], ◌∷◌, ◌++◌, length, take, refl, sym, ◌∙◌, ap, arith}
use Rattle.std.specs.List.{list_all, prefix_len}
use Rattle.std.specs.Str.{encode_utf8_all}
use Rattle.std.proofs.lemmas.Bool.{and_parts, and_from, both_ways}
use Rattle.std.proofs.lemmas.Bool.Decides.{nat_tests}
use Rattle.std.proofs.lemmas.List.{take-append-drop}
use Rattle.std.proofs.lemmas.Str.{encode_ascii}
use Rattle.lexical_core.proofs.Lists.{same_first, same_rest}
use Rattle.markup.specs.Chars.{is_space, is_gap}
use Rattle.markup.specs.PlainTags.{begins_plain, continues_plain, is_plain_name}
use Rattle.markup.specs.PlainStarts.{is_plain_prefix, is_plain_qualified, qualified_text, start_end}
use Rattle.markup.specs.inner.WholeStarts.{past_spaces, goes_on_name, IsGapAt, IsEqualsAt}
use Rattle.markup.specs.declared.tag.Spelled.{Spelled}
use Rattle.markup.proofs.CharLemmas.{space_ascii, equals_no_space, quote_no_space}
use Rattle.markup.proofs.NamesFound.{behind_front, run_ends}

-- ---- a run

pub front_all : (p : ℕ → Bool) (xs : List ℕ) (n : ℕ) → n ≤ prefix_len p xs → list_all p (take n xs) ≡ true
front_all p xs zero h = refl
front_all p [] (suc n) h = refl
front_all p (x ∷ xs) (suc n) h = by (p x) refl h (λ k. front_all p xs n k) where
  by : (b : Bool) → p x ≡ b → suc n ≤ cond b (1 + prefix_len p xs) 0 → (n ≤ prefix_len p xs → list_all p (take n xs) ≡ true) → list_all p (x ∷ take n xs) ≡ true
  by true e h more = and_from _ _ e (more (omega arith))
  by false e h more = absurd (omega arith)

stops_at : (p : ℕ → Bool) (b : ℕ) (rest : List ℕ) → p b ≡ false → prefix_len p (b ∷ rest) ≡ 0
stops_at p b rest h = ap (λ t. cond t (1 + prefix_len p rest) 0) h

-- ---- white space

pub spaces_encoded : (xs : List ℕ) → list_all is_space xs ≡ true → encode_utf8_all xs ≡ xs
spaces_encoded [] h = refl
spaces_encoded (c ∷ xs) h = let a = and_parts _ _ h in
    ap (λ v. v ++ encode_utf8_all xs) (encode_ascii c (space_ascii c a.0)) ∙ ap (λ v. c ∷ v) (spaces_encoded xs a.1)

pub front_spaces : (bytes : List ℕ) → list_all is_space (take (prefix_len is_space bytes) bytes) ≡ true
front_spaces bytes = front_all is_space bytes (prefix_len is_space bytes) (omega arith)

pub spaces_apart : (bytes : List ℕ) → bytes ≡ take (prefix_len is_space bytes) bytes ++ past_spaces bytes
spaces_apart bytes = sym (take-append-drop (prefix_len is_space bytes) bytes)

-- what is behind white space, where no more follows
pub past_is : (bytes gap rest : List ℕ) → bytes ≡ gap ++ rest → list_all is_space gap ≡ true → prefix_len is_space rest ≡ 0 → past_spaces bytes ≡ rest
past_is bytes gap rest e h z = behind_front bytes gap rest (past_spaces bytes) (prefix_len is_space bytes) e (ap (prefix_len is_space) e ∙ run_ends is_space gap rest h z) refl

large_no_space : (b : ℕ) → 32 < b → is_space b ≡ false
unfolding is_space
large_no_space b h = grind (arith, nat_tests)

-- no white space stands there
pub none_passed : (bytes rest : List ℕ) (first : ℕ) → bytes ≡ first ∷ rest → 32 < first → bytes ≡ past_spaces bytes
none_passed bytes rest first e h = sym (past_is bytes [] bytes refl refl (ap (prefix_len is_space) e ∙ stops_at is_space first rest (large_no_space first h)))

-- ---- what no white space begins

plain_no_space : (b : ℕ) → begins_plain b ≡ true → is_space b ≡ false
unfolding is_space
plain_no_space b h = grind (arith, nat_tests)

pub stops_at_quote : (q : ℕ) (rest : List ℕ) → (q == 34 || q == 39) ≡ true → prefix_len is_space (q ∷ rest) ≡ 0
stops_at_quote q rest h = stops_at is_space q rest (quote_no_space q h)

pub stops_at_equals : (rest : List ℕ) → prefix_len is_space (61 ∷ rest) ≡ 0
stops_at_equals rest = stops_at is_space 61 rest equals_no_space

pub stops_at_end : (is_empty : Bool) (rest : List ℕ) → prefix_len is_space (start_end is_empty ++ rest) ≡ 0
unfolding is_space
stops_at_end true rest = refl
stops_at_end false rest = refl

-- a name begins with a byte that a plain name may begin with
pub name_first : (name : Spelled) (behind : List ℕ) → is_plain_qualified name ≡ true → (b : ℕ) × (rest : List ℕ) × (begins_plain b ≡ true) × (qualified_text name ++ behind ≡ b ∷ rest)
name_first name behind h = by name.prefix name.local (and_parts (is_plain_prefix name.prefix) (is_plain_name name.local) h) where
  by : (prefix local : List ℕ) → (is_plain_prefix prefix ≡ true) × (is_plain_name local ≡ true) → (b : ℕ) × (rest : List ℕ) × (begins_plain b ≡ true) × (qualified_text (record { prefix = prefix; local = local }) ++ behind ≡ b ∷ rest)
  by [] [] k = absurd (both_ways false refl k.1)
  by [] (b ∷ more) k = (b, more ++ behind, (and_parts (begins_plain b) (list_all continues_plain more) k.1).0, refl)
  by (b ∷ more) local k = (b, (more ++ 58 ∷ local) ++ behind, (and_parts (begins_plain b) (list_all continues_plain more) k.0).0, refl)

pub stops_at_name : (name : Spelled) (behind : List ℕ) → is_plain_qualified name ≡ true → prefix_len is_space (qualified_text name ++ behind) ≡ 0
stops_at_name name behind h = let f = name_first name behind h in ap (prefix_len is_space) f.3 ∙ stops_at is_space f.0 f.1 (plain_no_space f.0 f.2)

-- ---- a name ends there

space_ends_name : (c : ℕ) → is_space c ≡ true → goes_on_name c ≡ false
unfolding is_space
space_ends_name c h = grind (arith, nat_tests)

pub spaces_end_name : (gap rest : List ℕ) → list_all is_space gap ≡ true → prefix_len goes_on_name rest ≡ 0 → prefix_len goes_on_name (gap ++ rest) ≡ 0
spaces_end_name [] rest h z = z
spaces_end_name (c ∷ gap) rest h z = stops_at goes_on_name c (gap ++ rest) (space_ends_name c (and_parts (is_space c) (list_all is_space gap) h).0)

pub gap_ends_name : (gap rest : List ℕ) → is_gap gap ≡ true → prefix_len goes_on_name (gap ++ rest) ≡ 0
gap_ends_name [] rest h = absurd (both_ways false refl h)
gap_ends_name (c ∷ gap) rest h = stops_at goes_on_name c (gap ++ rest) (space_ends_name c (and_parts (is_space c) (list_all is_space gap) h).0)

-- ---- white space that may not be left out

pub gap_found : (bytes after behind : List ℕ) (first : ℕ) → bytes ≡ first ∷ after → is_space first ≡ true → behind ≡ past_spaces after → IsGapAt bytes behind
gap_found bytes after behind first e h b = record {
  gap = first ∷ take (prefix_len is_space after) after;
  spelled = e ∙ ap (λ w. first ∷ w) (spaces_apart after ∙ ap (λ w. take (prefix_len is_space after) after ++ w) (sym b));
  is = and_from _ _ h (front_spaces after);
}

pub behind_gap_is : (bytes after behind : List ℕ) (first : ℕ) → bytes ≡ first ∷ after → IsGapAt bytes behind → prefix_len is_space behind ≡ 0 → past_spaces after ≡ behind
behind_gap_is bytes after behind first e g z = by g.gap g.is (sym e ∙ g.spelled) where
  by : (gap : List ℕ) → is_gap gap ≡ true → first ∷ after ≡ gap ++ behind → past_spaces after ≡ behind
  by [] h f = absurd (both_ways false refl h)
  by (c ∷ gap) h f = past_is after gap behind (same_rest first c after (gap ++ behind) f) (and_parts (is_space c) (list_all is_space gap) h).1 z

-- ---- `=` in white space

pub equals_found : (bytes marked after behind : List ℕ) (mark : ℕ) → marked ≡ past_spaces bytes → marked ≡ mark ∷ after → mark ≡ 61 → behind ≡ past_spaces after → IsEqualsAt bytes behind
equals_found bytes marked after behind mark m e h b = record {
  before = take (prefix_len is_space bytes) bytes;
  after = take (prefix_len is_space after) after;
  spelled = spaces_apart bytes ∙ ap (λ w. take (prefix_len is_space bytes) bytes ++ w)
      (sym m ∙ (e ∙ (ap (λ x. x ∷ after) h ∙ ap (λ w. 61 ∷ w) (spaces_apart after ∙ ap (λ w. take (prefix_len is_space after) after ++ w) (sym b)))));
  before_is = front_spaces bytes;
  after_is = front_spaces after;
}

module _ (bytes marked behind : List ℕ) (m : marked ≡ past_spaces bytes) (s : IsEqualsAt bytes behind) where
  marked_is : marked ≡ 61 ∷ (s.after ++ behind)
  marked_is = m ∙ past_is bytes s.before (61 ∷ (s.after ++ behind)) s.spelled s.before_is (stops_at_equals (s.after ++ behind))

  pub some_mark : length marked ≡ 0 → ⊥
  some_mark z = omega (arith, ap length marked_is, z)

  module _ (mark : ℕ) (after : List ℕ) (e : marked ≡ mark ∷ after) where
    pub mark_is : mark ≡ 61
    mark_is = same_first mark 61 after (s.after ++ behind) (sym e ∙ marked_is)

    pub behind_equals_is : prefix_len is_space behind ≡ 0 → past_spaces after ≡ behind
    behind_equals_is z = past_is after s.after behind (same_rest mark 61 after (s.after ++ behind) (sym e ∙ marked_is)) s.after_is z
