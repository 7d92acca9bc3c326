-- What a token breaks, tells and changes, by what the scan says of it.
use Rattle.std.specs.Prelude.{ℕ, Bool, ◌==◌, ◌&&◌, not, true, false, List, [], ◌∷◌, length, drop, Option, Some, None, if◌then◌else◌}
use Rattle.lexical_core.specs.declared.rule.Rule.{Rule}
use Rattle.lexical_core.specs.declared.rule.Rule.TheVariants.{BadMarkup, Doctype, TextOutside}
use Rattle.lexical_core.specs.Tree.{Item, Char, Skipped}
use Rattle.markup.specs.Chars.{is_space}
use Rattle.markup.specs.Token.{Token}
use Rattle.markup.specs.Events.{start_items, end_items}
use Rattle.markup.specs.Faults.{start_rule, end_rule, is_bracket}
use Rattle.markup.specs.declared.tag.Opening.{Opening}
use Rattle.markup.specs.declared.draft.Draft.{Draft}
use Rattle.markup.specs.declared.scan.Position.{Position}
use Rattle.markup.specs.declared.scan.Position.TheVariants.{Cdata}
use Rattle.markup.specs.declared.scan.Ended.{Ended}
use Rattle.markup.specs.declared.scan.Ended.TheVariants.{Opener, TypeDeclaration, Start, End, Refer, LineEnd, Character}
use Rattle.markup.specs.declared.tokenizer.Settled.{Settled}
use Rattle.markup.specs.declared.tokenizer.Settled.TheVariants.{Nothing as NothingSettled, Return as ReturnSettled, Bracket as BracketSettled, Brackets as BracketsSettled}

-- what a start tag has said
abbrev pub opening_of_draft : Bool → Draft → Opening
opening_of_draft is_empty d = record { name = d.name; given = d.given; is_empty = is_empty }

-- a start tag or an end tag has ended
abbrev pub ends_tag : Ended → Bool
ends_tag (Start is_empty) = true
ends_tag End = true
ends_tag _ = false

-- what stands inside the root alone
abbrev pub inside_alone : Bool → Option Rule
inside_alone outside = if outside then Some TextOutside else None

-- The rule that a token breaks which is no tag: in a CDATA section or not, outside the root or not, behind two literal `]` or not.
abbrev pub inner_rule : Bool → Bool → Bool → Ended → Option Rule
inner_rule cdata outside brackets TypeDeclaration = Some Doctype
inner_rule cdata outside brackets Opener = inside_alone outside
inner_rule cdata outside brackets (Refer c) = inside_alone outside
inner_rule cdata outside brackets (Character c) = if c == 62 && not cdata && brackets then Some BadMarkup else (if is_space c then None else inside_alone outside)
inner_rule cdata outside brackets _ = None

-- The rule that any token breaks: in a CDATA section or not, behind the root's end or not, under these open tags, behind two literal `]` or not.
abbrev pub rule_by : Bool → Bool → List Opening → Bool → Ended → Draft → Option Rule
rule_by cdata over tags brackets (Start is_empty) d = start_rule over tags (opening_of_draft is_empty d)
rule_by cdata over tags brackets End d = end_rule tags d.name
rule_by cdata over tags brackets e d = inner_rule cdata (length tags == 0) brackets e

-- the events of a token which is no tag
abbrev pub inner_items : Ended → List Item
inner_items (Refer c) = Char c ∷ []
inner_items LineEnd = Char 10 ∷ []
inner_items (Character c) = Char c ∷ []
inner_items _ = Skipped ∷ []

-- the events of any token, under these open tags
abbrev pub items_by : List Opening → Ended → Draft → List Item
items_by tags (Start is_empty) d = start_items tags (opening_of_draft is_empty d)
items_by tags End d = end_items tags
items_by tags e d = inner_items e

-- the open tags behind a token
abbrev pub tags_by : List Opening → Ended → Draft → List Opening
tags_by tags (Start is_empty) d = if is_empty then tags else opening_of_draft is_empty d ∷ tags
tags_by tags End d = drop 1 tags
tags_by tags e d = tags

-- one more literal `]`, of two at most
abbrev pub one_more : ℕ → ℕ
one_more n = if n == 0 then 1 else 2

-- how many literal `]` stand last, two at most
abbrev pub brackets : List Token → ℕ
brackets [] = 0
brackets (t ∷ before) = if is_bracket t then one_more (brackets before) else 0

-- their number behind a token
abbrev pub brackets_by : ℕ → Ended → ℕ
brackets_by n (Character c) = if c == 93 then one_more n else 0
brackets_by n e = 0

-- in a CDATA section
abbrev pub is_cdata : Position → Bool
is_cdata Cdata = true
is_cdata _ = false

-- the number of literal `]` behind the tokens that a byte has settled
abbrev pub settled_brackets : ℕ → Settled → ℕ
settled_brackets n NothingSettled = n
settled_brackets n ReturnSettled = 0
settled_brackets n BracketSettled = one_more n
settled_brackets n BracketsSettled = 2
