-- The canonical XML of the example.
use Rattle.std.proofs.Common.{◌≡◌, ◌≤◌, inl, ℕ, [], ◌++◌, codes, refl, subst, arith}
use Rattle.std.specs.Fmt.{digits}
use Rattle.lexical_core.specs.Characters.{IsXmlChar}
use Rattle.lexical_core.specs.Decimals.{IsDecimal, IsCanonicalText, decimal_spelling}
use Rattle.lexical_core.specs.CanonicalDecimals.{canonical_parts}
use Rattle.lexical_core.proofs.Written.{canonical_is}
use Rattle.data_types.specs.Leaf.{Bytes, Code, Number as NumberLeaf}
use Rattle.xml_writer.specs.CanonXml.{IsLeafText, IsCodeText, IsCanonXml}
use Rattle.xml_writer.specs.CanonXmlExample.{example_text_type, code_form, number_type, example_number, example_message, example_value}

plain : (c : ℕ) → 32 ≤ c → c ≤ 127 → IsXmlChar c
plain c low high = inl (low, omega (arith, high))

name_written : IsLeafText example_text_type (Bytes (codes "A>\"B")) (codes "A&gt;\"B")
unfolding lib.Utf8.encode
name_written =
    (codes "A>\"B", ((plain 65 (omega arith) (omega arith), (plain 62 (omega arith) (omega arith), (plain 34 (omega arith) (omega arith), (plain 66 (omega arith) (omega arith), tt)))), refl), refl)

code_written : IsCodeText code_form (Code 1) (codes "EUR")
unfolding lib.Utf8.encode
code_written = (codes "EUR", ((plain 69 (omega arith) (omega arith), (plain 85 (omega arith) (omega arith), (plain 82 (omega arith) (omega arith), tt))), refl), refl)

number_is : IsDecimal example_number
number_is = record { small = omega arith; short = omega arith; least = λ some. omega arith }

number_text : decimal_spelling (canonical_parts example_number) ≡ codes "1.5"
unfolding digits
number_text = refl

number_written : IsLeafText number_type (NumberLeaf example_number) (codes "1.5")
unfolding lib.Utf8.encode
number_written = (codes "1.5", (number_is, subst (λ t. IsCanonicalText t example_number) number_text (canonical_is example_number number_is)), refl)

pub example_written : IsCanonXml example_message example_value (codes "<?xml version=\"1.0\" encoding=\"UTF-8\"?>\n<Document xmlns=\"urn:a\"><Note><Nm>A&gt;\"B</Nm><Amt Ccy=\"EUR\">1.5</Amt><Any><X xmlns=\"urn:a\"></X></Any></Note></Document>\n")
example_written =
    let envelope = codes "<Any><X xmlns=\"urn:a\"></X></Any>" in
    let amount = codes "<Amt Ccy=\"EUR\">1.5</Amt>" in
    let name = codes "<Nm>A&gt;\"B</Nm>" in
    let inner = name ++ (amount ++ envelope) in
    let note = codes "<Note>" ++ (inner ++ codes "</Note>") in (
      codes "<Document xmlns=\"urn:a\">" ++ (note ++ codes "</Document>"),
      (
        codes " xmlns=\"urn:a\"",
        note,
        ([], refl, refl),
        (
          note,
          [],
          (
            _,
            refl,
            (
              [],
              inner,
              refl,
              (
                name,
                amount ++ envelope,
                (_, refl, ([], codes "A&gt;\"B", refl, name_written, refl)),
                (
                  amount,
                  envelope,
                  (_, refl, (codes " Ccy=\"EUR\"", codes "1.5", (codes "EUR", code_written, refl), number_written, refl)),
                  (envelope, [], (_, refl, ([], codes "<X xmlns=\"urn:a\"></X>", refl, refl, refl)), refl, refl),
                  refl,
                ),
                refl,
              ),
              refl,
            ),
          ),
          refl,
          refl,
        ),
        refl,
      ),
      refl,
    )
