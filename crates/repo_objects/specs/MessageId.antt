-- The form of a message identifier (ISO 20022-4), as `pacs.008.001.08`: a business area, a functionality, a flavour and a version.
use Rattle.std.specs.Prelude.{ℕ, Bool, IsTrue, ◌&&◌, ◌||◌, ◌==◌, nat_le, List, length, take, drop, get_or}
use Rattle.std.specs.List.{list_all}

-- an ASCII letter of lower case
abbrev pub is_lower_letter : ℕ → Bool
is_lower_letter byte = nat_le 97 byte && nat_le byte 122

-- an ASCII letter of upper case
abbrev pub is_upper_letter : ℕ → Bool
is_upper_letter byte = nat_le 65 byte && nat_le byte 90

-- an ASCII digit
abbrev pub is_digit : ℕ → Bool
is_digit byte = nat_le 48 byte && nat_le byte 57

-- an ASCII letter or digit
abbrev pub is_letter_or_digit : ℕ → Bool
is_letter_or_digit byte = is_lower_letter byte || is_upper_letter byte || is_digit byte

-- the byte there is a point
abbrev pub is_point_at : ℕ → List ℕ → Bool
is_point_at at bytes = get_or bytes at 0 == 46

-- four letters of lower case, three letters or digits, three digits and two digits, with points between them
abbrev pub is_message_id : List ℕ → Bool
is_message_id bytes =
    (length bytes == 15)
    && list_all is_lower_letter (take 4 bytes)
    && is_point_at 4 bytes
    && list_all is_letter_or_digit (take 3 (drop 5 bytes))
    && is_point_at 8 bytes
    && list_all is_digit (take 3 (drop 9 bytes))
    && is_point_at 12 bytes
    && list_all is_digit (take 2 (drop 13 bytes))

-- the bytes have that form
abbrev pub IsMessageId : List ℕ → Type 0
IsMessageId bytes = IsTrue (is_message_id bytes)
