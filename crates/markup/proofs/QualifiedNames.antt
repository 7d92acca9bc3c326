-- Plain names with a prefix or without one, as names of the grammar and at the front of bytes.
use Rattle.std.proofs.Common.{◌≡◌, ℕ, true, List, [], ◌∷◌, ◌++◌, refl, sym, ◌∙◌, ap, arith}
use Rattle.std.specs.Str.{encode_utf8_all}
use Rattle.std.proofs.lemmas.Bool.{and_parts, and_from}
use Rattle.std.proofs.lemmas.List.{append_cancel_right}
use Rattle.std.proofs.lemmas.Str.{encode_ascii, encodes-append}
use Rattle.markup.specs.Name.{Name, Plain, Prefixed, is_name, name_text}
use Rattle.markup.specs.Events.{spelled_name}
use Rattle.markup.specs.PlainTags.{is_plain_name, joined_text}
use Rattle.markup.specs.PlainStarts.{is_plain_prefix, is_plain_qualified, qualified_text}
use Rattle.markup.specs.inner.WholeStarts.{named_by, IsNameAt}
use Rattle.markup.specs.declared.tag.Spelled.{Spelled}
use Rattle.markup.proofs.NameLemmas.{name_agree}
use Rattle.markup.proofs.PlainTagLemmas.{plain_is_part, plain_encoded}

-- ---- as a name of the grammar

abbrev name_by : List ℕ → List ℕ → Name
name_by [] local = Plain local
name_by (b ∷ more) local = Prefixed (b ∷ more) local

abbrev pub name_of : Spelled → Name
name_of n = name_by n.prefix n.local

by_parts : (prefix local : List ℕ) → is_plain_prefix prefix ≡ true → is_plain_name local ≡ true → is_name (name_by prefix local) ≡ true
by_parts [] local p l = plain_is_part local l
by_parts (b ∷ more) local p l = and_from _ _ (plain_is_part (b ∷ more) p) (plain_is_part local l)

by_text : (prefix local : List ℕ) → name_text (name_by prefix local) ≡ joined_text prefix local
by_text [] local = refl
by_text (b ∷ more) local = refl

by_bytes : (prefix local : List ℕ) → is_plain_prefix prefix ≡ true → is_plain_name local ≡ true → encode_utf8_all (joined_text prefix local) ≡ joined_text prefix local
by_bytes [] local p l = plain_encoded local l
by_bytes (b ∷ more) local p l =
    encodes-append (b ∷ more) (58 ∷ local)
    ∙ (ap (λ v. v ++ encode_utf8_all (58 ∷ local)) (plain_encoded (b ∷ more) p) ∙ ap (λ v. (b ∷ more) ++ v) (ap (λ v. v ++ encode_utf8_all local) (encode_ascii 58 (omega arith)) ∙ ap (λ v. 58 ∷ v) (plain_encoded local l)))

by_spelled : (prefix local : List ℕ) → is_plain_prefix prefix ≡ true → is_plain_name local ≡ true → spelled_name (name_by prefix local) ≡ named_by prefix local
by_spelled [] local p l = ap (λ v. named_by [] v) (plain_encoded local l)
by_spelled (b ∷ more) local p l = ap (λ v. named_by v (encode_utf8_all local)) (plain_encoded (b ∷ more) p) ∙ ap (λ v. named_by (b ∷ more) v) (plain_encoded local l)

pub name_written : (n : Spelled) → name_text (name_of n) ≡ qualified_text n
name_written n = by_text n.prefix n.local

module _ (n : Spelled) (h : is_plain_qualified n ≡ true) where
  parts : (is_plain_prefix n.prefix ≡ true) × (is_plain_name n.local ≡ true)
  parts = and_parts (is_plain_prefix n.prefix) (is_plain_name n.local) h

  pub qualified_is : is_name (name_of n) ≡ true
  qualified_is = by_parts n.prefix n.local parts.0 parts.1

  pub qualified_encoded : encode_utf8_all (qualified_text n) ≡ qualified_text n
  qualified_encoded = by_bytes n.prefix n.local parts.0 parts.1

  pub qualified_says : spelled_name (name_of n) ≡ n
  qualified_says = by_spelled n.prefix n.local parts.0 parts.1

-- bytes begin with one name, where what is behind it is known
pub one_name : (bytes : List ℕ) (n m : Spelled) (behind : List ℕ) → IsNameAt bytes n behind → IsNameAt bytes m behind → n ≡ m
one_name bytes n m behind s t =
    let texts : qualified_text n ≡ qualified_text m = append_cancel_right (qualified_text n) (qualified_text m) behind (sym s.spelled ∙ t.spelled) in
    let names : name_of n ≡ name_of m = (name_agree (name_of n) (name_of m) [] [] (qualified_is n s.named) (qualified_is m t.named) refl refl (ap (λ v. v ++ []) (name_written n ∙ (texts ∙ sym (name_written m))))).0 in
    sym (qualified_says n s.named) ∙ (ap spelled_name names ∙ qualified_says m t.named)
