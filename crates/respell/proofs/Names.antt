-- Names, spelled: they are names to the grammar, and give their bytes back.
use Rattle.std.proofs.Common.{◌≡◌, ℕ, ◌<◌, ◌⊎◌, inl, inr, true, false, List, [], ◌∷◌, ◌++◌, length, refl, sym, ap, ap₂, ◌∙◌, arith}
use Rattle.std.specs.Prelude.{encode_utf8_all}
use Rattle.std.specs.List.{list_all, AllByRecursion}
use Rattle.std.specs.Str.{bytes_eq}
use Rattle.std.proofs.lemmas.Bool.{and_from}
use Rattle.std.proofs.lemmas.Str.{encode_ascii, length-le-encodes, encodes-append}
use Rattle.lexical_core.specs.Characters.{IsNameChar}
use Rattle.markup.specs.Chars.{is_name_char}
use Rattle.markup.specs.Name.{Name, Plain, Prefixed, is_part, is_name, name_text}
use Rattle.markup.specs.Events.{spelled_name}
use Rattle.markup.specs.declared.tag.Spelled.{Spelled}
use Rattle.markup.proofs.CharLemmas.{classes}
use Rattle.fragments.specs.Plain.{IsPart}
use Rattle.fragments.specs.Fragment.{Spelling, spelling_text}

-- the spelling as the reader keeps it
abbrev pub read_as : Spelling → Spelled
read_as s = record { prefix = s.prefix; local = s.local }

-- a spelling that stands for a name
pub record IsSpelling (s : Spelling) : Type 0 where
  pub prefix : (s.prefix ≡ []) ⊎ IsPart s.prefix
  pub local : IsPart s.local

pub record HasName (s : Spelling) : Type 0 where
  pub name : Name
  pub is : is_name name ≡ true
  pub bytes : encode_utf8_all (name_text name) ≡ spelling_text s
  pub reads : spelled_name name ≡ read_as s

all_name : (cs : List ℕ) → AllByRecursion IsNameChar cs → list_all is_name_char cs ≡ true
all_name [] h = refl
all_name (c ∷ cs) h = and_from _ _ ((classes.name c).1 h.0) (all_name cs h.1)

part_of : (bytes : List ℕ) (p : IsPart bytes) → is_part (p.first ∷ p.others) ≡ true
part_of bytes p = and_from _ _ ((classes.start p.first).1 p.start) (all_name p.others p.more)

some_bytes : (l : List ℕ) → 0 < length l → bytes_eq l [] ≡ false
some_bytes [] h = absurd (omega (arith, h))
some_bytes (x ∷ l) h = refl

pub part_some : (bytes : List ℕ) → IsPart bytes → bytes_eq bytes [] ≡ false
part_some bytes p = some_bytes bytes (let n = length-le-encodes (p.first ∷ p.others) in let e = ap length p.spelled in omega (arith, n, e))

plain_name : (s : Spelling) → s.prefix ≡ [] → IsPart s.local → HasName s
plain_name s none p = record {
  name = Plain (p.first ∷ p.others);
  is = part_of s.local p;
  bytes = p.spelled ∙ rw none refl;
  reads = ap₂ (λ (x y : List ℕ). record { prefix = x; local = y }) (sym none) p.spelled;
}

prefixed_name : (s : Spelling) → IsPart s.prefix → IsPart s.local → HasName s
prefixed_name s q p = record {
  name = Prefixed (q.first ∷ q.others) (p.first ∷ p.others);
  is = and_from _ _ (part_of s.prefix q) (part_of s.local p);
  bytes = encodes-append (q.first ∷ q.others) (58 ∷ p.first ∷ p.others) ∙ (ap₂ (λ (x y : List ℕ). x ++ y) q.spelled (ap₂ (λ (x y : List ℕ). x ++ y) (encode_ascii 58 (omega arith)) p.spelled) ∙ rw (part_some s.prefix q) refl);
  reads = ap₂ (λ (x y : List ℕ). record { prefix = x; local = y }) q.spelled p.spelled;
}

pub name_of : (s : Spelling) → IsSpelling s → HasName s
name_of s i = elim i.prefix [ inl none ↦ plain_name s none i.local | inr q ↦ prefixed_name s q i.local ]
