-- The names of a module: identifiers and type references, X.680 §12.2 and §12.3, made from the names of message definitions.
use Rattle.std.specs.Prelude.{ℕ, zero, suc, ◌+◌, ◌-◌, Bool, true, false, List, [], ◌∷◌, ◌++◌, length, nat_le, ◌&&◌, ◌||◌, not, if◌then◌else◌, codes}
use Rattle.std.specs.Fmt.{decimal}
use Rattle.std.specs.Str.{bytes_eq}
use Rattle.std.specs.List.{list_any}

abbrev pub is_byte_between : ℕ → ℕ → ℕ → Bool
is_byte_between low high c = nat_le low c && nat_le c high

abbrev pub is_name_digit : ℕ → Bool
is_name_digit = is_byte_between 48 57

abbrev pub is_upper : ℕ → Bool
is_upper = is_byte_between 65 90

abbrev pub is_lower : ℕ → Bool
is_lower = is_byte_between 97 122

abbrev pub is_in_name : ℕ → Bool
is_in_name c = is_name_digit c || (is_upper c || is_lower c)

abbrev pub hyphen : ℕ
hyphen = 45

-- what is behind the bytes in front that stand in no name
abbrev pub without_gap : List ℕ → List ℕ
without_gap [] = []
without_gap (c ∷ cs) = if is_in_name c then c ∷ cs else without_gap cs

-- each run of bytes that stand in no name is one hyphen between two that do, and nothing at the end; the test says that a run has begun
abbrev pub with_hyphens : Bool → List ℕ → List ℕ
with_hyphens gap [] = []
with_hyphens gap (c ∷ cs) = if is_in_name c then (if gap then hyphen ∷ c ∷ with_hyphens false cs else c ∷ with_hyphens false cs) else with_hyphens true cs

-- a name begins with a letter
abbrev pub begun_with_letter : List ℕ → List ℕ
begun_with_letter [] = codes "x"
begun_with_letter (c ∷ cs) = if is_name_digit c then codes "x" ++ c ∷ cs else c ∷ cs

abbrev pub bare_name : List ℕ → List ℕ
bare_name text = begun_with_letter (with_hyphens false (without_gap text))

abbrev pub to_lower : ℕ → ℕ
to_lower c = if is_upper c then c + 32 else c

abbrev pub to_upper : ℕ → ℕ
to_upper c = if is_lower c then c - 32 else c

abbrev pub first_lower : List ℕ → List ℕ
first_lower [] = []
first_lower (c ∷ cs) = to_lower c ∷ cs

abbrev pub first_upper : List ℕ → List ℕ
first_upper [] = []
first_upper (c ∷ cs) = to_upper c ∷ cs

-- the identifier of a tag or a code: §12.3
unfoldable pub asn_identifier : List ℕ → List ℕ
asn_identifier text = first_lower (bare_name text)

-- the names of types of the standard that a type name could have: §12.38
abbrev pub reserved_names : List (List ℕ)
reserved_names =
    codes "UTF8String" ∷ codes "BMPString" ∷ codes "GeneralString" ∷ codes "GraphicString" ∷ codes "IA5String" ∷ codes "ISO646String" ∷ codes "NumericString"
    ∷ codes "PrintableString" ∷ codes "TeletexString" ∷ codes "T61String" ∷ codes "UniversalString" ∷ codes "VideotexString" ∷ codes "VisibleString"
    ∷ codes "GeneralizedTime" ∷ codes "UTCTime" ∷ codes "ObjectDescriptor" ∷ []

-- a name is among these
abbrev pub is_name_among : List (List ℕ) → List ℕ → Bool
is_name_among names name = list_any (bytes_eq name) names

abbrev pub with_one : List ℕ → List ℕ
with_one name = if not (list_any is_lower name) || is_name_among reserved_names name then name ++ codes "-1" else name

-- the name of a type: §12.2; one without a lower-case letter could be taken for a word of the standard
unfoldable pub asn_type_name : List ℕ → List ℕ
asn_type_name text = with_one (first_upper (bare_name text))

-- a name with its ending: none, then -1, -2 and so on
unfoldable pub candidate : List ℕ → ℕ → List ℕ
candidate name zero = name
candidate name (suc k) = name ++ (hyphen ∷ decimal (suc k))

-- the first ending from k on with which the name was not given yet; so many endings at most are tried
abbrev pub first_free : ℕ → List (List ℕ) → List ℕ → ℕ → List ℕ
first_free zero taken name k = candidate name k
first_free (suc more) taken name k = if is_name_among taken (candidate name k) then first_free more taken name (suc k) else candidate name k

-- names one after the other, each the first that was not given yet: of one more than were given, one is free
abbrev pub given_after : List (List ℕ) → List (List ℕ) → List (List ℕ)
given_after taken [] = []
given_after taken (n ∷ ns) = let given = first_free (length taken) taken n 0 in given ∷ given_after (given ∷ taken) ns

abbrev pub given_names : List (List ℕ) → List (List ℕ)
given_names names = given_after [] names
