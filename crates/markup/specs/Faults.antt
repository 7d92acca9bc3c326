-- The markup rule that a token or its events break, and the first fault of a text.
use Rattle.std.specs.Prelude.{◌≡◌, ◌≢◌, ◌⊎◌, ℕ, Bool, ◌==◌, ◌||◌, ◌&&◌, ◌+◌, ◌<◌, ◌≤◌, not, true, false, List, [], ◌∷◌, ◌++◌, length, reverse, codes, Option, Some, None, if◌then◌else◌, encode_utf8, encode_utf8_all, is_none}
use Rattle.std.specs.Char.{IsScalar}
use Rattle.std.specs.List.{list_any, flat_map}
use Rattle.std.specs.Str.{bytes_eq}
use Rattle.lexical_core.specs.declared.rule.Rule.{Rule}
use Rattle.lexical_core.specs.declared.rule.Rule.TheVariants.{BadUtf8, BadMarkup, Doctype, BadReference, BadChar, DuplicateAttribute, BadPrefix, TagMismatch, TextOutside, Truncated, AfterRoot}
use Rattle.lexical_core.specs.Names.{xmlns, xml_namespace, xmlns_namespace}
use Rattle.lexical_core.specs.Tree.{Expanded}
use Rattle.lexical_core.specs.Utf8.{IsFront, IsNoFront}
use Rattle.markup.specs.Ascii.{exclamation_mark, ampersand, semicolon, less_than, greater_than, question_mark, right_bracket}
use Rattle.markup.specs.declared.tag.Spelled.{Spelled}
use Rattle.markup.specs.declared.tag.Given.{Given}
use Rattle.markup.specs.declared.tag.Opening.{Opening}
use Rattle.markup.specs.Chars.{is_xml_char, is_space}
use Rattle.markup.specs.Token.{Token, Mark, Declaration, Comment, Instruction, Opener, Closer, TypeDeclaration, Start, End, Refer, LineEnd, Character, token_text, token_bytes}
use Rattle.markup.specs.Marks.{in_cdata, stands, Cell, Front, is_short, tag_limit}
use Rattle.markup.specs.Events.{spelled_name, opening, open_tags, declared_prefix, same_prefix, element_name, attribute_name}

-- a start tag is among the tokens
abbrev pub has_start : List Token → Bool
has_start [] = false
has_start (Start tag ∷ before) = true
has_start (_ ∷ before) = has_start before

-- no element is open
abbrev pub is_outside : List Token → Bool
is_outside before = length (open_tags before) == 0

-- The root has come and is closed.
abbrev pub is_over : List Token → Bool
is_over before = has_start before && is_outside before

-- two expanded names that are there and equal
abbrev pub same_expanded : Option Expanded → Option Expanded → Bool
same_expanded None y = false
same_expanded (Some x) None = false
same_expanded (Some x) (Some y) = bytes_eq x.namespace y.namespace && bytes_eq x.local y.local

-- two declared prefixes that are there and equal
abbrev pub same_declared : Option (List ℕ) → Option (List ℕ) → Bool
same_declared None y = false
same_declared (Some x) y = same_prefix y x

-- two names that may not stand in one tag: two declarations of one prefix or of the default, or two attributes of one expanded name (Namespaces §6.3; XML 1.0 §3.1, Unique Att Spec)
abbrev pub clash : List Opening → Spelled → Spelled → Bool
clash tags x y = same_declared (declared_prefix x) (declared_prefix y) || (is_none (declared_prefix x) && is_none (declared_prefix y) && same_expanded (attribute_name tags x) (attribute_name tags y))

-- two of these names clash
abbrev pub has_clash : List Opening → List Given → Bool
has_clash tags [] = false
has_clash tags (a ∷ more) = list_any (λ b. clash tags a.name b.name) more || has_clash tags more

-- a declaration that may not be: of `xmlns`, of `xml` as another name, of a reserved name, of an empty name for a prefix (Namespaces §3, Reserved Prefixes and Namespace Names; §5, No Prefix Undeclaring)
abbrev pub is_bad_declaration : Option (List ℕ) → List ℕ → Bool
is_bad_declaration None namespace = false
is_bad_declaration (Some prefix) namespace = bytes_eq prefix xmlns || (if bytes_eq prefix (codes "xml") then not (bytes_eq namespace xml_namespace) else bytes_eq namespace xml_namespace) || bytes_eq namespace xmlns_namespace || (not (bytes_eq prefix []) && bytes_eq namespace [])

-- a declaration that may not be, or an attribute whose prefix no declaration binds (Namespaces §5, Prefix Declared)
abbrev pub is_bad_attribute : List Opening → Given → Bool
is_bad_attribute tags a = is_bad_declaration (declared_prefix a.name) a.value || (is_none (declared_prefix a.name) && is_none (attribute_name tags a.name))

-- the least rule that a start tag breaks under the tags that are open before it; over: the root has come and is closed (XML 1.0 §2.1, document)
abbrev pub start_rule : Bool → List Opening → Opening → Option Rule
start_rule over tags tag = if has_clash (tag ∷ tags) tag.given then Some DuplicateAttribute else
    (if is_none (element_name (tag ∷ tags) tag.name) || list_any (is_bad_attribute (tag ∷ tags)) tag.given then Some BadPrefix else
    (if over then Some AfterRoot else None))

-- An end tag is spelled as the innermost open start tag (XML 1.0 §3, Element Type Match).
abbrev pub end_rule : List Opening → Spelled → Option Rule
end_rule [] n = Some TagMismatch
end_rule (tag ∷ tags) n = if bytes_eq tag.name.prefix n.prefix && bytes_eq tag.name.local n.local then None else Some TagMismatch

-- a literal `]`
abbrev pub is_bracket : Token → Bool
is_bracket (Character c) = c == right_bracket
is_bracket _ = false

-- The two tokens before are literal `]`.
abbrev pub behind_brackets : List Token → Bool
behind_brackets [] = false
behind_brackets (t ∷ []) = false
behind_brackets (t ∷ u ∷ before) = is_bracket t && is_bracket u

-- what stands inside the root alone
abbrev pub outside_rule : List Token → Option Rule
outside_rule before = if is_outside before then Some TextOutside else None

-- The least rule that a token or its events break, behind the tokens before it.
-- A literal `>` may not end `]]>` in character data (XML 1.0 §2.4); outside the root only white space stands (§2.8, Misc).
abbrev pub rule_of : List Token → Token → Option Rule
rule_of before Mark = None
rule_of before (Declaration fields gap) = None
rule_of before (Comment text) = None
rule_of before (Instruction target text) = None
rule_of before Opener = outside_rule before
rule_of before Closer = None
rule_of before TypeDeclaration = Some Doctype
rule_of before (Start tag) = start_rule (is_over before) (open_tags before) (opening tag)
rule_of before (End name gap) = end_rule (open_tags before) (spelled_name name)
rule_of before (Refer reference) = outside_rule before
rule_of before (LineEnd line) = None
rule_of before (Character c) = if c == greater_than && not (in_cdata before) && behind_brackets before then Some BadMarkup else (if is_space c then None else outside_rule before)

-- The tokens (behind those before) and their events break no rule.
abbrev pub IsClean : List Token → List Token → Type 0
IsClean before [] = Unit {0}
IsClean before (t ∷ ts) = (rule_of before t ≡ None) × IsClean (t ∷ before) ts

-- No token stands at the front of these bytes, whatever its length.
abbrev pub NoToken : List Token → List ℕ → Type 0
NoToken before bytes = (t : Token) (after : List ℕ) → Cell before t bytes after → ⊥

-- Some token begins with these characters, or is them; its length and the bytes that are there behind them are not asked.
pub record TokenGoesOn (before : List Token) (chars : List ℕ) : Type 0 where
  pub token : Token
  pub more : List ℕ
  pub after : List ℕ
  pub text : token_text token ≡ chars ++ more
  pub is : stands before token after ≡ true

-- The characters end within a reference, where they begin within one or not.
abbrev pub ends_in_reference : Bool → List ℕ → Bool
ends_in_reference inside [] = inside
ends_in_reference inside (c ∷ cs) = if c == ampersand then ends_in_reference true cs else (if c == semicolon then ends_in_reference false cs else ends_in_reference inside cs)

-- The characters so far of a token end within a reference: the token is one, or a start tag.
abbrev pub is_in_reference : List ℕ → Bool
is_in_reference [] = false
is_in_reference (c ∷ []) = c == ampersand
is_in_reference (c ∷ d ∷ cs) = (c == ampersand || (c == less_than && not (d == exclamation_mark) && not (d == question_mark))) && ends_in_reference false (c ∷ d ∷ cs)

-- The bytes behind the characters of a token that goes on show that none goes on so; the rule, and the number of bytes that show it.
pub data TokenStops (before : List Token) (chars tail : List ℕ) (rule : Rule) (shown : ℕ) : Type 0 where
  no_char : (part rest : List ℕ) (b : ℕ) → tail ≡ part ++ b ∷ rest → IsFront part → IsNoFront (part ++ b ∷ []) → rule ≡ BadUtf8 → shown ≡ length part + 1 → TokenStops before chars tail rule shown
  bad_char : (c : ℕ) (rest : List ℕ) → tail ≡ encode_utf8 c ++ rest → IsScalar c → is_xml_char c ≡ false → rule ≡ BadChar → shown ≡ length (encode_utf8 c) → TokenStops before chars tail rule shown
  stuck : (c : ℕ) (rest : List ℕ) → tail ≡ encode_utf8 c ++ rest → is_xml_char c ≡ true → (TokenGoesOn before (chars ++ c ∷ []) → ⊥) → rule ≡ (if is_in_reference chars then BadReference else BadMarkup) → shown ≡ length (encode_utf8 c) → TokenStops before chars tail rule shown

-- The characters begin a start tag or an end tag.
abbrev pub IsTagBegun : List ℕ → Type 0
IsTagBegun [] = ⊥
IsTagBegun (c ∷ []) = ⊥
IsTagBegun (c ∷ d ∷ cs) = (c ≡ less_than) × (d ≢ exclamation_mark) × (d ≢ question_mark)

-- No token is just these characters.
abbrev pub IsUnended : List Token → List ℕ → Type 0
IsUnended before chars = (t : Token) (after : List ℕ) → stands before t after ≡ true → token_text t ≡ chars → ⊥

-- Behind the tokens before, the next token breaks the rule, or none stands there; at is where in the bytes the fault stands.
-- broken: a token that is no longer than the limit breaks a rule.
-- halts: no token stands there, and bytes within a tag's limit show that none goes on.
-- cut: the bytes end before that, or before the root's end tag.
-- too_long: a tag has neither ended nor stopped with the last byte of the limit.
pub data Next (limit : ℕ) (before : List Token) (bytes : List ℕ) (rule : Rule) (at : ℕ) : Type 0 where
  broken : (t : Token) (after : List ℕ) → Cell before t bytes after → is_short limit t ≡ true → rule_of before t ≡ Some rule → at ≡ 0 → Next limit before bytes rule at
  halts : (chars tail : List ℕ) (shown : ℕ) → bytes ≡ encode_utf8_all chars ++ tail → NoToken before bytes → TokenGoesOn before chars → TokenStops before chars tail rule shown → (IsTagBegun chars → length (encode_utf8_all chars) + shown ≤ limit) → at ≡ 0 → Next limit before bytes rule at
  cut : (chars part : List ℕ) → bytes ≡ encode_utf8_all chars ++ part → NoToken before bytes → TokenGoesOn before chars → IsFront part → (IsTagBegun chars → length bytes < limit) → (bytes ≡ [] → is_over before ≡ false) → rule ≡ Truncated → at ≡ length bytes → Next limit before bytes rule at
  too_long : (chars part rest : List ℕ) → bytes ≡ encode_utf8_all chars ++ part ++ rest → TokenGoesOn before chars → IsUnended before chars → IsTagBegun chars → IsFront part → length (encode_utf8_all chars ++ part) ≡ limit → rule ≡ BadMarkup → at ≡ 0 → Next limit before bytes rule at

-- a rule and the place where it is broken, in bytes from the start of the input
pub record Fault : Type 0 where
  pub rule : Rule
  pub place : ℕ

-- The fault is the first of the bytes, where a tag has at most so many: the longest list of tokens from the front in which nothing breaks a rule, and what is wrong behind them.
pub record MarkFaultUnder (limit : ℕ) (bytes : List ℕ) (fault : Fault) : Type 0 where
  pub tokens : List Token
  pub rest : List ℕ
  pub at : ℕ
  pub front : Front limit [] bytes tokens rest
  pub clean : IsClean [] tokens
  pub next : Next limit (reverse tokens) rest fault.rule at
  pub place : fault.place ≡ length (flat_map token_bytes tokens) + at

-- in XML
abbrev pub MarkFault : List ℕ → Fault → Type 0
MarkFault bytes fault = MarkFaultUnder tag_limit bytes fault

-- The bytes are a list of tokens, in which tags have at most so many bytes and nothing breaks a rule, up to the root's end.
pub record IsWholeUnder (limit : ℕ) (bytes : List ℕ) : Type 0 where
  pub tokens : List Token
  pub marks : Front limit [] bytes tokens []
  pub clean : IsClean [] tokens
  pub over : is_over (reverse tokens) ≡ true

-- in XML
abbrev pub IsWhole : List ℕ → Type 0
IsWhole bytes = IsWholeUnder tag_limit bytes

-- A text has at most one first fault.
abbrev pub OneFault : Type 0
OneFault = (bytes : List ℕ) (f g : Fault) → MarkFault bytes f → MarkFault bytes g → f ≡ g

-- A whole text has none.
abbrev pub WholeHasNone : Type 0
WholeHasNone = (bytes : List ℕ) (f : Fault) → IsWhole bytes → MarkFault bytes f → ⊥

-- Every text is whole, or has a first fault.
abbrev pub WholeOrFaulty : Type 0
WholeOrFaulty = (bytes : List ℕ) → IsWhole bytes ⊎ ((f : Fault) × MarkFault bytes f)

-- A fault stands within the bytes or at their end.
abbrev pub FaultWithin : Type 0
FaultWithin = (bytes : List ℕ) (f : Fault) → MarkFault bytes f → f.place ≤ length bytes
