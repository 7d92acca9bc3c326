-- A text of plain bytes is spelled as it stands.
use Rattle.std.proofs.Common.{◌≡◌, ℕ, suc, ◌+◌, Bool, true, false, cond, flat_map, List, [], ◌∷◌, ◌++◌, length, refl, sym, ap, ap₂, ◌∙◌, arith}
use Rattle.std.proofs.lemmas.Bool.Decides.{nat_tests}
use Rattle.std.specs.Prelude.{encode_utf8_all}
use Rattle.std.specs.List.{prefix_len}
use Rattle.lexical_core.specs.Escapes.{escape_of}
use Rattle.data_types.specs.Escaping.{escaped_bytes, IsPlainByte}
use Rattle.data_types.proofs.EscapeLemmas.{escaped_by_chars}
use Rattle.xml_writer.specs.inner.PlainTexts.{is_plain_anywhere}

plain_byte : (attribute : Bool) (b : ℕ) → is_plain_anywhere b ≡ true → IsPlainByte attribute b
plain_byte true b plain = grind (arith, nat_tests, plain)
plain_byte false b plain = grind (arith, nat_tests, plain)

-- a run that is the whole list has its first and the rest of it
run_first : (b : Bool) (n l : ℕ) → cond b (1 + n) 0 ≡ suc l → (b ≡ true) × (n ≡ l)
run_first true n l e = (refl, omega (arith, e))
run_first false n l e = (let no : ⊥ = omega (arith, e) in absurd no)

plain_bytes : (attribute : Bool) (text : List ℕ) → prefix_len is_plain_anywhere text ≡ length text → escaped_bytes attribute text ≡ text
plain_bytes attribute [] e = refl
plain_bytes attribute (b ∷ text) e =
    let first = run_first (is_plain_anywhere b) (prefix_len is_plain_anywhere text) (length text) e in
    ap₂ (λ (x y : List ℕ). x ++ y) (plain_byte attribute b first.0) (plain_bytes attribute text first.1)

pub plain_text : (attribute : Bool) (text chars : List ℕ) → prefix_len is_plain_anywhere text ≡ length text → text ≡ encode_utf8_all chars → text ≡ flat_map (escape_of attribute) chars
plain_text attribute text chars plain e = sym (plain_bytes attribute text plain) ∙ (ap (escaped_bytes attribute) e ∙ escaped_by_chars attribute chars)
