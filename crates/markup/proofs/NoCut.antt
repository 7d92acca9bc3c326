-- A fault that the bytes show, whatever follows them, is not that they end too early.
use Rattle.std.proofs.Common.{◌≡◌, ◌≢◌, ℕ, Bool, true, false, not, ◌==◌, ◌&&◌, ◌||◌, ◌+◌, ◌≤◌, List, [], ◌∷◌, ◌++◌, length, reverse, Option, Some, None, if◌then◌else◌, is_none, refl, sym, ◌∙◌, ap, subst, length-append, arith}
use Rattle.std.specs.List.{flat_map, list_any}
use Rattle.std.specs.Str.{bytes_eq}
use Rattle.std.proofs.lemmas.Bool.{both_ways}
use Rattle.lexical_core.specs.declared.rule.Rule.{Rule}
use Rattle.lexical_core.specs.declared.rule.Rule.TheVariants.{BadMarkup, BadReference, DuplicateAttribute, BadPrefix, TagMismatch, TextOutside, Truncated, AfterRoot}
use Rattle.markup.specs.declared.tag.Opening.{Opening}
use Rattle.markup.specs.declared.tag.Spelled.{Spelled}
use Rattle.markup.specs.Chars.{is_space}
use Rattle.markup.specs.Token.{Token, Mark, Declaration, Comment, Instruction, Opener, Closer, TypeDeclaration, Start, End, Refer, LineEnd, Character, token_bytes}
use Rattle.markup.specs.Marks.{in_cdata}
use Rattle.markup.specs.Events.{opening, spelled_name, open_tags, element_name}
use Rattle.markup.specs.Faults.{rule_of, start_rule, end_rule, outside_rule, is_outside, is_over, has_clash, is_bad_attribute, behind_brackets, TokenStops, no_char, bad_char, stuck, is_in_reference, Next, broken, halts, cut, too_long, Fault, MarkFaultUnder}
use Rattle.markup.proofs.InputLemmas.{front_bytes}

-- the rule is that of an input that ends too early
abbrev pub is_cut_rule : Rule → Bool
is_cut_rule Truncated = true
is_cut_rule _ = false

abbrev pub NoCut : Option Rule → Type 0
NoCut None = Unit {0}
NoCut (Some rule) = is_cut_rule rule ≡ false

no_cut_if : (b : Bool) (x y : Option Rule) → NoCut x → NoCut y → NoCut (if b then x else y)
no_cut_if true x y p q = p
no_cut_if false x y p q = q

outside_no_cut : (before : List Token) → NoCut (outside_rule before)
outside_no_cut before = no_cut_if (is_outside before) (Some TextOutside) None refl tt

start_no_cut : (over : Bool) (tags : List Opening) (tag : Opening) → NoCut (start_rule over tags tag)
start_no_cut over tags tag = no_cut_if (has_clash (tag ∷ tags) tag.given) (Some DuplicateAttribute) _ refl
    (no_cut_if (is_none (element_name (tag ∷ tags) tag.name) || list_any (is_bad_attribute (tag ∷ tags)) tag.given) (Some BadPrefix) _ refl
    (no_cut_if over (Some AfterRoot) None refl tt))

end_no_cut : (tags : List Opening) (n : Spelled) → NoCut (end_rule tags n)
end_no_cut [] n = refl
end_no_cut (tag ∷ tags) n = no_cut_if (bytes_eq tag.name.prefix n.prefix && bytes_eq tag.name.local n.local) None (Some TagMismatch) tt refl

pub rule_no_cut : (before : List Token) (t : Token) → NoCut (rule_of before t)
rule_no_cut before Mark = tt
rule_no_cut before (Declaration fs g) = tt
rule_no_cut before (Comment s) = tt
rule_no_cut before (Instruction p s) = tt
rule_no_cut before Opener = outside_no_cut before
rule_no_cut before Closer = tt
rule_no_cut before TypeDeclaration = refl
rule_no_cut before (Start t) = start_no_cut (is_over before) (open_tags before) (opening t)
rule_no_cut before (End n g) = end_no_cut (open_tags before) (spelled_name n)
rule_no_cut before (Refer r) = outside_no_cut before
rule_no_cut before (LineEnd l) = tt
rule_no_cut before (Character c) = no_cut_if (c == 62 && not (in_cdata before) && behind_brackets before) (Some BadMarkup) _ refl
    (no_cut_if (is_space c) None (outside_rule before) tt (outside_no_cut before))

stuck_no_cut : (b : Bool) → is_cut_rule (if b then BadReference else BadMarkup) ≡ false
stuck_no_cut true = refl
stuck_no_cut false = refl

stops_no_cut : (before : List Token) (chars tail : List ℕ) (rule : Rule) (shown : ℕ) → TokenStops before chars tail rule shown → is_cut_rule rule ≡ false
stops_no_cut before chars tail rule shown (no_char p x b e f n r s) = ap is_cut_rule r
stops_no_cut before chars tail rule shown (bad_char c x e s n r h) = ap is_cut_rule r
stops_no_cut before chars tail rule shown (stuck c x e s n r h) = ap is_cut_rule r ∙ stuck_no_cut (is_in_reference chars)

-- a fault stands at the end of the bytes where they end too early
at_end : {limit : ℕ} (before : List Token) (bytes : List ℕ) (rule : Rule) (at : ℕ) → Next limit before bytes rule at → is_cut_rule rule ≡ true → at ≡ length bytes
at_end before bytes rule at (broken t a c s b e) k = absurd (both_ways (is_cut_rule rule) (subst NoCut b (rule_no_cut before t)) k)
at_end before bytes rule at (halts cs tl n b m g s l e) k = absurd (both_ways (is_cut_rule rule) (stops_no_cut before cs tl rule n s) k)
at_end before bytes rule at (cut cs p b n g f l o r e) k = e
at_end before bytes rule at (too_long cs p x b g u t f l r e) k = absurd (both_ways (is_cut_rule rule) (ap is_cut_rule r) k)

cut_place : {limit : ℕ} (bytes : List ℕ) (f : Fault) → MarkFaultUnder limit bytes f → is_cut_rule f.rule ≡ true → f.place ≡ length bytes
cut_place {limit} bytes f m k = m.place ∙ (ap (λ n. length (flat_map token_bytes m.tokens) + n) (at_end (reverse m.tokens) m.rest f.rule m.at m.next k)
    ∙ (sym (length-append (flat_map token_bytes m.tokens) m.rest) ∙ sym (ap length (front_bytes limit [] bytes m.rest m.tokens m.front))))

-- A fault that stays, whatever follows, is no cut.
pub stays_no_cut : {limit : ℕ} (bytes : List ℕ) (f : Fault) → ((more : List ℕ) → MarkFaultUnder limit (bytes ++ more) f) → f.rule ≢ Truncated
stays_no_cut bytes f m e =
    let k : is_cut_rule f.rule ≡ true = ap is_cut_rule e in
    let p : f.place ≡ length (bytes ++ []) = cut_place (bytes ++ []) f (m []) k in
    let q : f.place ≡ length (bytes ++ 0 ∷ []) = cut_place (bytes ++ 0 ∷ []) f (m (0 ∷ [])) k in
    omega (arith, p, q, length-append bytes [], length-append bytes (0 ∷ []))

-- a fault stands within the bytes or at their end
at_within : {limit : ℕ} (before : List Token) (bytes : List ℕ) (rule : Rule) (at : ℕ) → Next limit before bytes rule at → at ≤ length bytes
at_within before bytes rule at (broken t a c s b e) = omega (arith, e)
at_within before bytes rule at (halts cs tl n b m g s l e) = omega (arith, e)
at_within before bytes rule at (cut cs p b n g f l o r e) = omega (arith, e)
at_within before bytes rule at (too_long cs p x b g u t f l r e) = omega (arith, e)

pub fault_within : {limit : ℕ} (bytes : List ℕ) (f : Fault) → MarkFaultUnder limit bytes f → f.place ≤ length bytes
fault_within {limit} bytes f m = within f.place m.at (flat_map token_bytes m.tokens) m.rest bytes m.place (front_bytes limit [] bytes m.rest m.tokens m.front) (at_within (reverse m.tokens) m.rest f.rule m.at m.next) where
  within : (p a : ℕ) (x y b : List ℕ) → p ≡ length x + a → b ≡ x ++ y → a ≤ length y → p ≤ length b
  within p a x y b e f h = omega (arith, e, ap length f, length-append x y, h)
