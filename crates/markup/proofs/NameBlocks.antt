-- A name more or less in the block of the names of the open elements.
use Rattle.std.proofs.Common.{◌≡◌, ℕ, ◌-◌, List, [], ◌∷◌, ◌++◌, length, take, drop, map, sym, ◌∙◌, ap, append_assoc, length-append, arith}
use Rattle.std.proofs.Math.Seq.{take-append_seam, drop-append_seam}
use Rattle.markup.specs.inner.OpenNames.{OpenName, all_bytes, name_size, KeepsNames, IsInnermost}
use Rattle.markup.specs.declared.open_names.NameSize.{NameSize}
use Rattle.markup.specs.declared.open_names.OpenNames.{OpenNames}
use Rattle.markup.specs.declared.tag.Spelled.{Spelled}
use Rattle.markup.proofs.BindingLemmas.{popped_first, popped_none}

-- the last bytes of a block
back_of : (front back : List ℕ) (n : ℕ) → n ≡ length back → drop (length (front ++ back) - n) (front ++ back) ≡ back
back_of front back n e = ap (λ m. drop m (front ++ back)) (count front back n e) ∙ drop-append_seam front back where
  count : (front back : List ℕ) (n : ℕ) → n ≡ length back → length (front ++ back) - n ≡ length front
  count front back n e = omega (arith, e, length-append front back)

front_of : (front back : List ℕ) (n : ℕ) → n ≡ length back → take (length (front ++ back) - n) (front ++ back) ≡ front
front_of front back n e = ap (λ m. take m (front ++ back)) (count front back n e) ∙ take-append_seam front back where
  count : (front back : List ℕ) (n : ℕ) → n ≡ length back → length (front ++ back) - n ≡ length front
  count front back n e = omega (arith, e, length-append front back)

-- the parts of the innermost name
module _ (bytes outer prefix local : List ℕ) (p l : ℕ) (b : bytes ≡ outer ++ (prefix ++ local)) (is_prefix : p ≡ length prefix) (is_local : l ≡ length local) where
  joined : bytes ≡ (outer ++ prefix) ++ local
  joined = b ∙ sym (append_assoc outer prefix local)

  pub its_local : drop (length bytes - l) bytes ≡ local
  its_local = ap (λ v. drop (length v - l) v) joined ∙ back_of (outer ++ prefix) local l is_local

  its_front : take (length bytes - l) bytes ≡ outer ++ prefix
  its_front = ap (λ v. take (length v - l) v) joined ∙ front_of (outer ++ prefix) local l is_local

  pub its_prefix : drop (length (take (length bytes - l) bytes) - p) (take (length bytes - l) bytes) ≡ prefix
  its_prefix = ap (λ v. drop (length v - p) v) its_front ∙ back_of outer prefix p is_prefix

same_parts : (n : Spelled) (prefix local : List ℕ) → prefix ≡ n.prefix → local ≡ n.local → n ≡ record { prefix = prefix; local = local }
same_parts n prefix local p l =
    let e : n ≡ record { prefix = prefix; local = n.local } = ap (λ v. let s : Spelled = record { prefix = v; local = n.local } in s) (sym p) in
    e ∙ ap (λ v. let s : Spelled = record { prefix = prefix; local = v } in s) (sym l)

-- the innermost name, by the last of the sizes
pub innermost_is : (kept : OpenNames) (names : List OpenName) (others : List NameSize) (size : NameSize) (prefix local : List ℕ) → KeepsNames kept names → kept.sizes.items ≡ others ++ size ∷ []
    → local ≡ drop (length kept.block - size.local) kept.block → prefix ≡ drop (length (take (length kept.block - size.local) kept.block) - size.prefix) (take (length kept.block - size.local) kept.block)
    → IsInnermost prefix local names
innermost_is kept [] others size prefix local k s l p = absurd (popped_none kept.sizes.items others size s k.sizes_are)
innermost_is kept (n ∷ outer) others size prefix local k s l p =
    let e = (popped_first kept.sizes.items others size (name_size n) (map name_size outer) s k.sizes_are).0 in
    same_parts n.name prefix local
    (p ∙ its_prefix kept.block (all_bytes outer) n.name.prefix n.name.local size.prefix size.local k.bytes_are (ap (λ (z : NameSize). z.prefix) e) (ap (λ (z : NameSize). z.local) e))
    (l ∙ its_local kept.block (all_bytes outer) n.name.prefix n.name.local size.prefix size.local k.bytes_are (ap (λ (z : NameSize). z.prefix) e) (ap (λ (z : NameSize). z.local) e))
