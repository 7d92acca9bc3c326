-- The canonical spelling of characters in XML: XML 1.0 §2.4, §2.11 and §3.3.3. Canonical XML 1.0 §2.3 has the same
-- references, but none to `>` in the value of an attribute, and its numbers are hexadecimal.
use Rattle.std.specs.Prelude.{ℕ, Bool, List, encode_utf8, codes, if◌then◌else◌, ◌==◌, ◌&&◌}

-- the reference to a character, in a text or in the value of an attribute; of one that has none, what is plain
abbrev pub reference_or : Bool → ℕ → List ℕ → List ℕ
reference_or attribute c plain =
    if c == 38 then codes "&amp;"
    else (if c == 60 then codes "&lt;"
    else (if c == 62 then codes "&gt;"
    else (if c == 13 then codes "&#13;"
    else (if attribute && (c == 34) then codes "&quot;"
    else (if attribute && (c == 9) then codes "&#9;"
    else (if attribute && (c == 10) then codes "&#10;"
    else plain))))))

-- the spelling of a character in a text, and in the value of an attribute
abbrev pub escape_of : Bool → ℕ → List ℕ
escape_of attribute c = reference_or attribute c (encode_utf8 c)
