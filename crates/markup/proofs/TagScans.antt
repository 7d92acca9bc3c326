-- A plain tag that is found at the front of a piece.
use Rattle.std.proofs.Common.{◌≡◌, ℕ, suc, Bool, true, false, ◌==◌, ◌||◌, ◌&&◌, cond, ◌+◌, ◌-◌, ◌<◌, ◌≤◌, List, [], ◌∷◌, ◌++◌, length, take, drop, Option, Some, None, refl, sym, ◌∙◌, ap, subst, append_assoc, length-append, arith}
use Rattle.std.specs.Bool.{if◌then◌else◌}
use Rattle.std.specs.Int.{is_in_range}
use Rattle.std.specs.List.{list_all, prefix_len}
use Rattle.std.proofs.lemmas.Bool.{and_parts, both_ways, eqb-true}
use Rattle.std.proofs.lemmas.List.{take-append-drop, length-drop}
use Rattle.std.proofs.Math.Seq.{take-append_seam, drop-append_seam}
use Rattle.std.specs.Option.{IfSome}
use Rattle.lexical_core.proofs.Lists.{same_first, same_rest}
use Rattle.markup.specs.Marks.{tag_limit}
use Rattle.markup.specs.PlainTags.{begins_plain, continues_plain, is_plain_name, joined_text, tag_text, mark_count, may_be_named, IsTagAt, closing, slash_kind}
use Rattle.markup.specs.declared.plain_tag.PlainTag.{PlainTag}
use Rattle.markup.specs.declared.plain_tag.TagKind.{TagKind}
use Rattle.markup.specs.declared.plain_tag.TagKind.TheVariants.{Start, Empty, End}

-- a tag has bytes
some_text : (kind : TagKind) (name : List ℕ) → 0 < length (tag_text kind name)
some_text Start name = omega arith
some_text Empty name = omega arith
some_text End name = omega arith

-- what stands behind a name stands behind that with its prefix
pub joined_then : (prefix name rest : List ℕ) → joined_text prefix (name ++ rest) ≡ joined_text prefix name ++ rest
joined_then [] name rest = refl
joined_then (b ∷ more) name rest = sym (append_assoc (b ∷ more) (58 ∷ name) rest)

-- a tag with what follows it
pub found : (piece prefix opened : List ℕ) (kind : TagKind) (name rest : List ℕ) (count : ℕ) → piece ≡ tag_text kind (joined_text prefix name) ++ rest → count ≡ length (tag_text kind (joined_text prefix name)) → count ≤ tag_limit → may_be_named kind opened name
    → IsTagAt piece prefix opened kind name count
found piece prefix opened kind name rest count e c s m = record {
  spelled = ap (λ v. take count v) e ∙ (ap (λ n. take n (tag_text kind (joined_text prefix name) ++ rest)) c ∙ take-append_seam (tag_text kind (joined_text prefix name)) rest);
  some = subst (λ n. 0 < n) (sym c) (some_text kind (joined_text prefix name));
  within = omega (arith, c, ap length e, length-append (tag_text kind (joined_text prefix name)) rest);
  short = s;
  named = m;
}

pub tag_size : (kind : TagKind) (name : List ℕ) → length name + mark_count kind ≡ length (tag_text kind name)
tag_size Start name = omega (arith, length-append name (62 ∷ []))
tag_size Empty name = omega (arith, length-append name (47 ∷ 62 ∷ []))
tag_size End name = omega (arith, length-append name (62 ∷ []))

if_some : {X : Type 0} (o : Option X) (P Q : X → Type 0) → ((x : X) → P x → Q x) → IfSome o P → IfSome o Q
if_some None P Q f h = h
if_some (Some x) P Q f h = f x h

-- what is found of a name
pub bounded_found : (result : Option PlainTag) (piece prefix opened : List ℕ) (kind : TagKind) (own name rest : List ℕ) → own ≡ prefix → piece ≡ tag_text kind (joined_text prefix name) ++ rest → may_be_named kind opened name
    → IfSome result (λ tag. (tag.kind ≡ kind) × (tag.prefix.now ≡ own) × (tag.name.now ≡ name) × (tag.bytes ≡ length (joined_text own name) + mark_count kind) × (tag.bytes ≤ tag_limit))
    → IfSome result (λ tag. IsTagAt piece prefix opened tag.kind tag.name.now tag.bytes)
bounded_found result piece prefix opened kind own name rest p e m h = if_some result _ _
    (λ tag f. subst (λ k. IsTagAt piece prefix opened k tag.name.now tag.bytes) (sym f.0) (subst (λ n. IsTagAt piece prefix opened kind n tag.bytes) (sym f.2)
    (found piece prefix opened kind name rest tag.bytes e (f.3 ∙ (ap (λ q. length (joined_text q name) + mark_count kind) p ∙ tag_size kind (joined_text prefix name))) f.4 m))) h

-- and its prefix is that of the bytes
pub prefix_kept : (result : Option PlainTag) (prefix : List ℕ) (kind : TagKind) (own name : List ℕ) → own ≡ prefix → IfSome result (λ tag. (tag.kind ≡ kind) × (tag.prefix.now ≡ own) × (tag.name.now ≡ name) × (tag.bytes ≡ length (joined_text own name) + mark_count kind) × (tag.bytes ≤ tag_limit))
    → IfSome result (λ tag. tag.prefix.now ≡ prefix)
prefix_kept result prefix kind own name p h = if_some result _ _ (λ tag f. f.1 ∙ p) h

-- ---- end tags

-- the bytes of the front and of the back of a list
pub two_parts : (xs front back : List ℕ) (n : ℕ) → front ≡ take n xs → back ≡ drop n xs → xs ≡ front ++ back
two_parts xs front back n f b = sym (take-append-drop n xs) ∙ (ap (λ v. v ++ drop n xs) (sym f) ∙ ap (λ v. front ++ v) (sym b))

pub end_parts : (bytes prefix behind name after rest : List ℕ) (n b : ℕ) → bytes ≡ joined_text prefix behind → name ≡ take n behind → after ≡ drop n behind → after ≡ b ∷ rest → b ≡ 62 → 60 ∷ 47 ∷ bytes ≡ tag_text End (joined_text prefix name) ++ rest
end_parts bytes prefix behind name after rest n b s t d a e =
    ap (λ v. 60 ∷ 47 ∷ v) (s ∙ (ap (joined_text prefix) (two_parts behind name after n t d ∙ ap (λ v. name ++ v) (a ∙ ap (λ x. x ∷ rest) e)) ∙ (joined_then prefix name (62 ∷ rest) ∙ sym (append_assoc (joined_text prefix name) (62 ∷ []) rest))))

-- an end tag of the name stands there
pub ends_there : (behind opened name after rest : List ℕ) → name ≡ take (length opened) behind → after ≡ drop (length opened) behind → behind ≡ opened ++ 62 ∷ rest → (name ≡ opened) × (after ≡ 62 ∷ rest)
ends_there behind opened name after rest t d e = (t ∙ (ap (take (length opened)) e ∙ take-append_seam opened (62 ∷ rest)), d ∙ (ap (drop (length opened)) e ∙ drop-append_seam opened (62 ∷ rest)))

-- ---- start tags

pub begins_continues : (c : ℕ) → begins_plain c ≡ true → continues_plain c ≡ true
begins_continues c h = ap (λ b. b || is_in_range 48 57 c || is_in_range 45 46 c) h

names_continue : (xs : List ℕ) → list_all continues_plain (take (prefix_len continues_plain xs) xs) ≡ true
names_continue [] = refl
names_continue (x ∷ xs) = by (continues_plain x) refl (names_continue xs) where
  by : (b : Bool) → continues_plain x ≡ b → list_all continues_plain (take (prefix_len continues_plain xs) xs) ≡ true → list_all continues_plain (take (cond b (1 + prefix_len continues_plain xs) 0) (x ∷ xs)) ≡ true
  by true e h = subst (λ n. list_all continues_plain (take n (x ∷ xs)) ≡ true) (one (prefix_len continues_plain xs)) (ap (λ b. b && list_all continues_plain (take (prefix_len continues_plain xs) xs)) e ∙ h) where
    one : (n : ℕ) → suc n ≡ 1 + n
    one n = omega arith
  by false e h = refl

-- the name at the front of a piece that begins with one
pub name_found : (b : ℕ) (behind xs name : List ℕ) (n : ℕ) → behind ≡ b ∷ xs → begins_plain b ≡ true → n ≡ prefix_len continues_plain behind → name ≡ take n behind → is_plain_name name ≡ true
name_found b behind xs name n e h c t = subst (λ v. is_plain_name v ≡ true) (sym (t ∙ (ap (λ m. take m behind) (c ∙ (ap (prefix_len continues_plain) e ∙ (ap (λ t. cond t (1 + prefix_len continues_plain xs) 0) (begins_continues b h) ∙ one (prefix_len continues_plain xs)))) ∙ ap (take (suc (prefix_len continues_plain xs))) e)))
    (ap (λ t. t && list_all continues_plain (take (prefix_len continues_plain xs) xs)) h ∙ names_continue xs) where
      one : (n : ℕ) → 1 + n ≡ suc n
      one n = omega arith

-- what closes a start tag
pub kind_same : (k l : TagKind) → Some k ≡ Some l → k ≡ l
kind_same k l h = cc

pub slashed_is : (after : List ℕ) (kind : TagKind) → slash_kind after ≡ Some kind → (rest : List ℕ) × (kind ≡ Empty) × (after ≡ 62 ∷ rest)
slashed_is [] kind h = absurd (cc)
slashed_is (b ∷ rest) kind h = by (b == 62) refl h where
  by : (t : Bool) → (b == 62) ≡ t → (if t then Some Empty else None) ≡ Some kind → (r : List ℕ) × (kind ≡ Empty) × (b ∷ rest ≡ 62 ∷ r)
  by true e h = (rest, sym (kind_same Empty kind h), ap (λ x. x ∷ rest) (eqb-true b 62 e))
  by false e h = absurd (cc)

pub closing_is : (name after : List ℕ) (kind : TagKind) → closing after ≡ Some kind → (rest : List ℕ) × (60 ∷ (name ++ after) ≡ tag_text kind name ++ rest) × ((opened : List ℕ) → is_plain_name name ≡ true → may_be_named kind opened name)
closing_is name [] kind h = absurd (cc)
closing_is name (b ∷ after) kind h = by (b == 62) (b == 47) refl refl h where
  by : (t u : Bool) → (b == 62) ≡ t → (b == 47) ≡ u → (if t then Some Start else (if u then slash_kind after else None)) ≡ Some kind
      → (rest : List ℕ) × (60 ∷ (name ++ b ∷ after) ≡ tag_text kind name ++ rest) × ((opened : List ℕ) → is_plain_name name ≡ true → may_be_named kind opened name)
  by true u e f h = (
    after,
    ap (λ x. 60 ∷ (name ++ x ∷ after)) (eqb-true b 62 e) ∙ (ap (λ v. 60 ∷ v) (sym (append_assoc name (62 ∷ []) after)) ∙ ap (λ k. tag_text k name ++ after) (kind_same Start kind h)),
    λ opened p. subst (λ k. may_be_named k opened name) (kind_same Start kind h) p,
  )
  by false true e f h = let s = slashed_is after kind h in (
    s.0,
    ap (λ x. 60 ∷ (name ++ x ∷ after)) (eqb-true b 47 f) ∙ (ap (λ v. 60 ∷ (name ++ 47 ∷ v)) s.2 ∙ (ap (λ v. 60 ∷ v) (sym (append_assoc name (47 ∷ 62 ∷ []) s.0)) ∙ ap (λ k. tag_text k name ++ s.0) (sym s.1))),
    λ opened p. subst (λ k. may_be_named k opened name) (sym s.1) p,
  )
  by false false e f h = absurd (cc)

-- a start tag stands there
ends_name : (after : List ℕ) (kind : TagKind) → closing after ≡ Some kind → prefix_len continues_plain after ≡ 0
ends_name [] kind h = refl
ends_name (b ∷ after) kind h = by (b == 62) (b == 47) refl refl h where
  by : (t u : Bool) → (b == 62) ≡ t → (b == 47) ≡ u → (if t then Some Start else (if u then slash_kind after else None)) ≡ Some kind → prefix_len continues_plain (b ∷ after) ≡ 0
  by true u e f h = ap (λ x. prefix_len continues_plain (x ∷ after)) (eqb-true b 62 e)
  by false true e f h = ap (λ x. prefix_len continues_plain (x ∷ after)) (eqb-true b 47 f)
  by false false e f h = absurd (cc)

name_length : (name after : List ℕ) (kind : TagKind) → list_all continues_plain name ≡ true → closing after ≡ Some kind → prefix_len continues_plain (name ++ after) ≡ length name
name_length [] after kind h k = ends_name after kind k
name_length (c ∷ cs) after kind h k = let a = and_parts _ _ h in
    ap (λ t. cond t (1 + prefix_len continues_plain (cs ++ after)) 0) a.0 ∙ (ap (λ n. 1 + n) (name_length cs after kind a.1 k) ∙ one (length cs)) where
      one : (n : ℕ) → 1 + n ≡ suc n
      one n = omega arith

pub all_continue : (name : List ℕ) → is_plain_name name ≡ true → list_all continues_plain name ≡ true
all_continue [] h = refl
all_continue (c ∷ cs) h = let a = and_parts _ _ h in ap (λ t. t && list_all continues_plain cs) (begins_continues c a.0) ∙ a.1

pub starts_there : (behind name after found rest : List ℕ) (n : ℕ) (kind : TagKind) → is_plain_name name ≡ true → behind ≡ name ++ after → closing after ≡ Some kind → n ≡ prefix_len continues_plain behind → found ≡ take n behind → rest ≡ drop n behind → (found ≡ name) × (rest ≡ after)
starts_there behind name after found rest n kind p e k c t d =
    let s : n ≡ length name = c ∙ (ap (prefix_len continues_plain) e ∙ name_length name after kind (all_continue name p) k) in
    (t ∙ (ap (λ m. take m behind) s ∙ (ap (take (length name)) e ∙ take-append_seam name after)), d ∙ (ap (λ m. drop m behind) s ∙ (ap (drop (length name)) e ∙ drop-append_seam name after)))

pub none_some : (kind : TagKind) → None ≡ Some kind → ⊥
none_some kind e = cc

-- what closes it is not missed
pub closed_there : (behind name after found rest : List ℕ) (n : ℕ) (kind : TagKind) → is_plain_name name ≡ true → behind ≡ name ++ after → closing after ≡ Some kind → n ≡ prefix_len continues_plain behind → found ≡ take n behind → rest ≡ drop n behind → closing rest ≡ None → ⊥
closed_there behind name after found rest n kind p e k c t d h = none_some kind (sym h ∙ (ap closing (starts_there behind name after found rest n kind p e k c t d).1 ∙ k))

-- and the tag is no longer than it is
pub start_short : (behind name after found rest : List ℕ) (n : ℕ) (kind k2 : TagKind) → is_plain_name name ≡ true → behind ≡ name ++ after → closing after ≡ Some kind → n ≡ prefix_len continues_plain behind → found ≡ take n behind → rest ≡ drop n behind → closing rest ≡ Some k2
    → (prefix : List ℕ) → length (tag_text kind (joined_text prefix name)) ≤ tag_limit → length (joined_text prefix found) + mark_count k2 ≤ tag_limit
start_short behind name after found rest n kind k2 p e k c t d h prefix l =
    let s = starts_there behind name after found rest n kind p e k c t d in
    let q : kind ≡ k2 = kind_same kind k2 (sym k ∙ (ap closing (sym s.1) ∙ h)) in
    subst (λ m. length (joined_text prefix found) + mark_count m ≤ tag_limit) q (subst (λ v. length (joined_text prefix v) + mark_count kind ≤ tag_limit) (sym s.0) (subst (λ m. m ≤ tag_limit) (sym (tag_size kind (joined_text prefix name))) l))

-- a start tag is what its bytes are
pub start_found : (result : Option PlainTag) (bytes prefix own behind opened xs found after : List ℕ) (n b : ℕ) (kind : TagKind) → own ≡ prefix → bytes ≡ joined_text prefix behind → behind ≡ b ∷ xs → begins_plain b ≡ true → n ≡ prefix_len continues_plain behind → found ≡ take n behind → after ≡ drop n behind → closing after ≡ Some kind
    → IfSome result (λ tag. (tag.kind ≡ kind) × (tag.prefix.now ≡ own) × (tag.name.now ≡ found) × (tag.bytes ≡ length (joined_text own found) + mark_count kind) × (tag.bytes ≤ tag_limit))
    → IfSome result (λ tag. IsTagAt (60 ∷ bytes) prefix opened tag.kind tag.name.now tag.bytes)
start_found result bytes prefix own behind opened xs found after n b kind p l e s c t d h r =
    let k = closing_is (joined_text prefix found) after kind h in
    bounded_found result (60 ∷ bytes) prefix opened kind own found k.0 p (ap (λ v. 60 ∷ v) (l ∙ (ap (joined_text prefix) (two_parts behind found after n t d) ∙ joined_then prefix found after)) ∙ k.1)
    ((closing_is found after kind h).2 opened (name_found b behind xs found n e s c t)) r

-- a start tag that is a tag there: what closes it is behind its name
pub start_there : (piece behind more prefix opened name rest : List ℕ) (kind : TagKind) (first second : ℕ) → piece ≡ first ∷ behind → behind ≡ second ∷ more → (second ≡ 47 → ⊥) → may_be_named kind opened name → piece ≡ tag_text kind (joined_text prefix name) ++ rest
    → (is_plain_name name ≡ true) × (ends : List ℕ) × (behind ≡ joined_text prefix (name ++ ends)) × (closing ends ≡ Some kind)
start_there piece behind more prefix opened name rest Start first second e f n m t =
    (m, 62 ∷ rest, same_rest first 60 behind ((joined_text prefix name ++ 62 ∷ []) ++ rest) (sym e ∙ t) ∙ (append_assoc (joined_text prefix name) (62 ∷ []) rest ∙ sym (joined_then prefix name (62 ∷ rest))), refl)
start_there piece behind more prefix opened name rest Empty first second e f n m t =
    (m, 47 ∷ 62 ∷ rest, same_rest first 60 behind ((joined_text prefix name ++ 47 ∷ 62 ∷ []) ++ rest) (sym e ∙ t) ∙ (append_assoc (joined_text prefix name) (47 ∷ 62 ∷ []) rest ∙ sym (joined_then prefix name (47 ∷ 62 ∷ rest))), refl)
start_there piece behind more prefix opened name rest End first second e f n m t =
    absurd (n (same_first second 47 more ((joined_text prefix name ++ 62 ∷ []) ++ rest) (sym f ∙ same_rest first 60 behind (47 ∷ ((joined_text prefix name ++ 62 ∷ []) ++ rest)) (sym e ∙ t))))

-- ---- a prefix

pub joined_some : (prefix local : List ℕ) → (length prefix == 0) ≡ false → joined_text prefix local ≡ prefix ++ 58 ∷ local
joined_some [] local z = absurd (both_ways true z refl)
joined_some (b ∷ more) local z = refl

-- a prefix and a colon stand there
pub colon_there : (bytes prefix front rest local : List ℕ) (mark : ℕ) → (length prefix == 0) ≡ false → front ≡ take (length prefix) bytes → rest ≡ drop (length prefix) bytes → front ≡ prefix → rest ≡ mark ∷ local → mark ≡ 58 → bytes ≡ joined_text prefix local
colon_there bytes prefix front rest local mark z t d same r m =
    two_parts bytes front rest (length prefix) t d ∙ (ap (λ v. v ++ rest) same ∙ ap (λ v. prefix ++ v) (r ∙ ap (λ x. x ∷ local) m)) ∙ sym (joined_some prefix local z)

-- where they stand, they are found
pub prefix_there : (bytes prefix front rest local : List ℕ) → (length prefix == 0) ≡ false → front ≡ take (length prefix) bytes → rest ≡ drop (length prefix) bytes → bytes ≡ joined_text prefix local → (front ≡ prefix) × (rest ≡ 58 ∷ local)
prefix_there bytes prefix front rest local z t d e =
    let w : bytes ≡ prefix ++ 58 ∷ local = e ∙ joined_some prefix local z in
    (t ∙ (ap (take (length prefix)) w ∙ take-append_seam prefix (58 ∷ local)), d ∙ (ap (drop (length prefix)) w ∙ drop-append_seam prefix (58 ∷ local)))

-- how many bytes they are, and what is behind them
module _ (bytes prefix rest : List ℕ) (n : ℕ) (z : (length prefix == 0) ≡ false) (fits : length prefix ≤ length bytes) (d : rest ≡ drop (length prefix) bytes) (n_is : n ≡ length bytes - length rest + 1) where
  colon_count : n ≡ length prefix + 1
  colon_count = omega (arith, n_is, ap length d, length-drop (length prefix) bytes, fits)

  colon_behind : (local : List ℕ) → bytes ≡ joined_text prefix local → drop n bytes ≡ local
  colon_behind local e = ap (drop n) (e ∙ (joined_some prefix local z ∙ sym (append_assoc prefix (58 ∷ []) local)))
      ∙ (ap (λ m. drop m ((prefix ++ 58 ∷ []) ++ local)) (omega (arith, colon_count, length-append prefix (58 ∷ []))) ∙ drop-append_seam (prefix ++ 58 ∷ []) local)

  pub colon_all : (local : List ℕ) → bytes ≡ joined_text prefix local → (0 < n) × (drop n bytes ≡ local)
  colon_all local e = (omega (arith, colon_count), colon_behind local e)

  pub colon_found : (front local : List ℕ) (mark : ℕ) → front ≡ take (length prefix) bytes → front ≡ prefix → rest ≡ mark ∷ local → mark ≡ 58 → (take (n - 1) bytes ≡ prefix) × (bytes ≡ joined_text prefix (drop n bytes))
  colon_found front local mark t same r m =
      let e = colon_there bytes prefix front rest local mark z t d same r m in
      (ap (λ k. take k bytes) (omega (arith, colon_count)) ∙ (sym t ∙ same), e ∙ ap (joined_text prefix) (sym (colon_behind local e)))

-- how many bytes a name has with its prefix
pub joined_size : (bytes prefix local name rest : List ℕ) (n : ℕ) → bytes ≡ joined_text prefix local → name ≡ take n local → rest ≡ drop n local → length bytes - length rest ≡ length (joined_text prefix name)
joined_size bytes prefix local name rest n e t d =
    omega (arith, ap length (e ∙ (ap (joined_text prefix) (two_parts local name rest n t d) ∙ joined_then prefix name rest)), length-append (joined_text prefix name) rest)
