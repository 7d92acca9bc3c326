-- The rules of markup are the least: their numbers are up to 11.
use Rattle.std.proofs.Common.{ℕ, Bool, true, false, not, ◌==◌, ◌&&◌, ◌||◌, ◌≤◌, List, [], ◌∷◌, Option, Some, None, if◌then◌else◌, is_none, subst, arith}
use Rattle.std.specs.List.{list_any}
use Rattle.std.specs.Str.{bytes_eq}
use Rattle.lexical_core.specs.Rules.{number_of}
use Rattle.lexical_core.specs.declared.rule.Rule.{Rule}
use Rattle.lexical_core.specs.declared.rule.Rule.TheVariants.{BadMarkup, BadReference, DuplicateAttribute, BadPrefix, TagMismatch, TextOutside, AfterRoot}
use Rattle.markup.specs.declared.tag.Opening.{Opening}
use Rattle.markup.specs.declared.tag.Spelled.{Spelled}
use Rattle.markup.specs.Chars.{is_space}
use Rattle.markup.specs.Token.{Token, Mark, Declaration, Comment, Instruction, Opener, Closer, TypeDeclaration, Start, End, Refer, LineEnd, Character}
use Rattle.markup.specs.Marks.{in_cdata, tag_limit}
use Rattle.markup.specs.Events.{opening, spelled_name, open_tags, element_name}
use Rattle.markup.specs.Faults.{rule_of, start_rule, end_rule, outside_rule, is_outside, is_over, has_clash, is_bad_attribute, behind_brackets, TokenStops, no_char, bad_char, stuck, is_in_reference, Next, broken, halts, cut, too_long}

abbrev IsOfMarkup : Option Rule → Type 0
IsOfMarkup None = Unit {0}
IsOfMarkup (Some rule) = number_of rule ≤ 11

one_of : (b : Bool) (x y : Option Rule) → IsOfMarkup x → IsOfMarkup y → IsOfMarkup (if b then x else y)
one_of true x y p q = p
one_of false x y p q = q

outside_low : (before : List Token) → IsOfMarkup (outside_rule before)
outside_low before = one_of (is_outside before) (Some TextOutside) None (omega arith) tt

start_low : (over : Bool) (tags : List Opening) (tag : Opening) → IsOfMarkup (start_rule over tags tag)
start_low over tags tag = one_of (has_clash (tag ∷ tags) tag.given) (Some DuplicateAttribute) _ (omega arith)
    (one_of (is_none (element_name (tag ∷ tags) tag.name) || list_any (is_bad_attribute (tag ∷ tags)) tag.given) (Some BadPrefix) _ (omega arith)
    (one_of over (Some AfterRoot) None (omega arith) tt))

end_low : (tags : List Opening) (n : Spelled) → IsOfMarkup (end_rule tags n)
end_low [] n = omega arith
end_low (tag ∷ tags) n = one_of (bytes_eq tag.name.prefix n.prefix && bytes_eq tag.name.local n.local) None (Some TagMismatch) tt (omega arith)

token_low : (before : List Token) (t : Token) → IsOfMarkup (rule_of before t)
token_low before Mark = tt
token_low before (Declaration fields gap) = tt
token_low before (Comment text) = tt
token_low before (Instruction target text) = tt
token_low before Opener = outside_low before
token_low before Closer = tt
token_low before TypeDeclaration = omega arith
token_low before (Start tag) = start_low (is_over before) (open_tags before) (opening tag)
token_low before (End name gap) = end_low (open_tags before) (spelled_name name)
token_low before (Refer reference) = outside_low before
token_low before (LineEnd line) = tt
token_low before (Character c) = one_of (c == 62 && not (in_cdata before) && behind_brackets before) (Some BadMarkup) _ (omega arith)
    (one_of (is_space c) None (outside_rule before) tt (outside_low before))

stuck_low : (b : Bool) → number_of (if b then BadReference else BadMarkup) ≤ 11
stuck_low true = omega arith
stuck_low false = omega arith

stops_low : (before : List Token) (chars tail : List ℕ) (rule : Rule) (shown : ℕ) → TokenStops before chars tail rule shown → number_of rule ≤ 11
stops_low before chars tail rule shown (no_char p x b e f n r s) = rw r (omega arith)
stops_low before chars tail rule shown (bad_char c x e s n r h) = rw r (omega arith)
stops_low before chars tail rule shown (stuck c x e s n r h) = rw r (stuck_low (is_in_reference chars))

pub next_low : (before : List Token) (bytes : List ℕ) (rule : Rule) (at : ℕ) → Next tag_limit before bytes rule at → number_of rule ≤ 11
next_low before bytes rule at (broken t a c s b e) = subst IsOfMarkup b (token_low before t)
next_low before bytes rule at (halts cs tl n b m g s l e) = stops_low before cs tl rule n s
next_low before bytes rule at (cut cs p b n g f l o r e) = rw r (omega arith)
next_low before bytes rule at (too_long cs p x b g u t f l r e) = rw r (omega arith)
