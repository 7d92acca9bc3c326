-- What a matcher's answer says of the pattern of a simple type.
use Rattle.std.proofs.Common.{◌≡◌, ◌≢◌, ℕ, ◌≤◌, inl, inr, Bool, true, false, List, [], ◌∷◌, ◌++◌, length, Option, Some, None, refl, sym, subst, ◌∙◌, length-append, arith}
use Rattle.std.specs.Prelude.{◌↔◌, IsTrue, MatchOption}
use Rattle.std.specs.Str.{chars}
use Rattle.pattern_match.specs.Reading.{Matches}
use Rattle.pattern_match.specs.Compiled.{HasReadWord}
use Rattle.pattern_match.specs.Recall.{Matching}
use Rattle.data_types.specs.WhiteSpace.{IsCollapsed}
use Rattle.data_types.specs.Collapsing.{HasCollapsed}
use Rattle.data_types.specs.declared.collapse.Collapse.{Collapse}
use Rattle.data_types.specs.declared.kind.Kind.{Kind}
use Rattle.data_types.specs.declared.kind.Kind.TheVariants as kind
use Rattle.data_types.specs.LeafSteps.{IsShortKind}
use Rattle.facets.specs.declared.asked.Asked.{Asked}
use Rattle.facets.specs.declared.asked.Asked.TheVariants.{Text, Collapsed}
use Rattle.facets.specs.declared.simple.Simple.{Simple}
use Rattle.facets.specs.Rules.{IsAsked, BreaksPattern}
use Rattle.facets.specs.Facets.{HasLength}
use Rattle.facets.specs.Counts.{IsTooLong}
use Rattle.facets.specs.PatternChecks.{HasAsked, HasFollowed, IsDateKind, TellsPattern}

-- where the pattern is asked of one text alone, it is broken where that is none of its words
pub asked_once : (simple : Simple) (text asked pattern : List ℕ) (r : Bool) → simple.pattern ≡ Some pattern → IsAsked simple.kind simple.codes text asked
    → ((other : List ℕ) → IsAsked simple.kind simple.codes text other → other ≡ asked) → (IsTrue r ↔ Matches (chars pattern) asked)
    → TellsPattern r simple text
asked_once simple text asked pattern true has asks only test = λ (other, what, is, ask, none).
    let same : other ≡ pattern = let both : Some other ≡ Some pattern = sym is ∙ has in cc in
    none (subst (λ p. Matches (chars p) what) (sym same) (subst (Matches (chars pattern)) (sym (only what ask)) (test.0 refl)))
asked_once simple text asked pattern false has asks only test = (pattern, asked, has, asks, λ matches. let yes = test.1 matches in absurd cc)

pub text_asked : (k : Kind) (codes : Option (List (List ℕ))) (text asked : List ℕ) → k ≡ kind.Text → IsAsked k codes text asked → asked ≡ text
text_asked k codes text asked is = subst (λ (k : Kind). IsAsked k codes text asked → asked ≡ text) (sym is) (λ h. h.1)

pub asks_text : (k : Kind) (codes : Option (List (List ℕ))) (text : List ℕ) → k ≡ kind.Text → codes ≡ None → IsAsked k codes text text
asks_text k codes text is none = subst (λ (k : Kind). IsAsked k codes text text) (sym is) (none, refl)

pub date_asked : (k : Kind) (codes : Option (List (List ℕ))) (text asked : List ℕ) → IsDateKind k → IsAsked k codes text asked ↔ IsCollapsed text asked
date_asked kind.Text codes text asked date = absurd date
date_asked kind.Decimal codes text asked date = absurd date
date_asked kind.Boolean codes text asked date = absurd date
date_asked kind.Binary codes text asked date = absurd date
date_asked kind.Envelope codes text asked date = absurd date
date_asked k codes text asked date = (λ h. h, λ h. h)

pub accepts_text : (asked : Asked) (simple : Simple) (text : List ℕ) (matcher : Matching) (pattern : List ℕ) (r : Bool) → asked ≡ Text matcher → simple.pattern ≡ Some pattern
    → ((w : List ℕ) → HasReadWord pattern matcher w → IsTrue r ↔ Matches (chars pattern) w) → HasAsked asked simple text
    → TellsPattern r simple text
accepts_text asked simple text matcher pattern r is has test h = from (subst (λ a. HasAsked a simple text) is h)
  where
    from : HasAsked (Text matcher) simple text → TellsPattern r simple text
    from (text_kind, none, own, e, read) =
        let same : own ≡ pattern = let both : Some own ≡ Some pattern = sym e ∙ has in cc in
        asked_once simple text text pattern r has (asks_text simple.kind simple.codes text text_kind none) (λ other ask. text_asked simple.kind simple.codes text other text_kind ask)
        (test text (subst (λ p. HasReadWord p matcher text) same read))

pub accepts_collapsed : (asked : Asked) (simple : Simple) (text : List ℕ) (collapse : Collapse) (matcher : Matching) (pattern : List ℕ) (r : Bool)
    → asked ≡ Collapsed collapse matcher → simple.pattern ≡ Some pattern → ((w : List ℕ) → HasReadWord pattern matcher w → IsTrue r ↔ Matches (chars pattern) w)
    → ((t w : List ℕ) → HasCollapsed collapse t w → IsCollapsed t w) → ((t one two : List ℕ) → IsCollapsed t one → IsCollapsed t two → one ≡ two)
    → HasAsked asked simple text → TellsPattern r simple text
accepts_collapsed asked simple text collapse matcher pattern r is has test finish one_way h = from (subst (λ a. HasAsked a simple text) is h)
  where
    from : HasAsked (Collapsed collapse matcher) simple text → TellsPattern r simple text
    from (date, own, what, e, collapsed, read) =
        let same : own ≡ pattern = let both : Some own ≡ Some pattern = sym e ∙ has in cc in
        let whole = finish text what collapsed in
        asked_once simple text what pattern r has ((date_asked simple.kind simple.codes text what date).1 whole)
        (λ other ask. one_way text other what ((date_asked simple.kind simple.codes text other date).0 ask) whole) (test what (subst (λ p. HasReadWord p matcher what) same read))

pub takes_collapsed : (asked : Asked) (simple : Simple) (text : List ℕ) (c : ℕ) (collapse after : Collapse) (matcher : Matching) (pattern : List ℕ) (more : List ℕ) (next : Matching)
    → asked ≡ Collapsed collapse matcher → simple.pattern ≡ Some pattern
    → ((t w : List ℕ) → HasCollapsed collapse t w → HasCollapsed after (t ++ c ∷ []) (w ++ more)) → ((w : List ℕ) → HasReadWord pattern matcher w → HasReadWord pattern next (w ++ more))
    → HasAsked asked simple text → HasAsked (Collapsed after next) simple (text ++ c ∷ [])
takes_collapsed asked simple text c collapse after matcher pattern more next is has takes reads h = from (subst (λ a. HasAsked a simple text) is h)
  where
    from : HasAsked (Collapsed collapse matcher) simple text → HasAsked (Collapsed after next) simple (text ++ c ∷ [])
    from (date, own, what, e, collapsed, read) =
        let same : own ≡ pattern = let both : Some own ≡ Some pattern = sym e ∙ has in cc in
        (date, pattern, what ++ more, has, takes text what collapsed, reads what (subst (λ p. HasReadWord p matcher what) same read))

-- the same for more characters at once
pub takes_codes : (asked : Asked) (simple : Simple) (text codes : List ℕ) (collapse after : Collapse) (matcher : Matching) (pattern : List ℕ) (next : Matching)
    → asked ≡ Collapsed collapse matcher → simple.pattern ≡ Some pattern
    → ((t w : List ℕ) → HasCollapsed collapse t w → HasReadWord pattern matcher w → (more : List ℕ) × HasCollapsed after (t ++ codes) more × HasReadWord pattern next more)
    → HasAsked asked simple text → HasAsked (Collapsed after next) simple (text ++ codes)
takes_codes asked simple text codes collapse after matcher pattern next is has takes h = from (subst (λ a. HasAsked a simple text) is h)
  where
    from : HasAsked (Collapsed collapse matcher) simple text → HasAsked (Collapsed after next) simple (text ++ codes)
    from (date, own, what, e, collapsed, read) =
        let same : own ≡ pattern = let both : Some own ≡ Some pattern = sym e ∙ has in cc in
        let all = takes text what collapsed (subst (λ p. HasReadWord p matcher what) same read) in
        (date, pattern, all.0, has, all.1, all.2)

-- what was asked of a text that may be too long
pub was_asked : (check : Asked) (simple : Simple) (text : List ℕ) → HasFollowed check simple text → (some : List ℕ) × HasAsked check simple some
was_asked check simple text (inl h) = (text, h)
was_asked check simple text (inr (long, some, h)) = (some, h)

-- what comes behind a text that is too long is left out
pub skipped : (check : Asked) (simple : Simple) (text more : List ℕ) → IsTooLong simple (length (text ++ more)) → HasFollowed check simple text
    → HasFollowed check simple (text ++ more)
skipped check simple text more long h = let own = was_asked check simple text h in inr (long, own.0, own.1)

pub followed : (old new : Asked) (simple : Simple) (text more : List ℕ) → ((t : List ℕ) → HasAsked old simple t → HasAsked new simple (t ++ more))
    → HasFollowed old simple text → HasFollowed new simple (text ++ more)
followed old new simple text more takes (inl h) = inl (takes text h)
followed old new simple text more takes (inr ((is, most, has, long), some, h)) =
    let size = length-append text more in
    inr ((is, most, has, omega (arith, long, size)), some ++ more, takes some h)

-- a text of the right length is not too long, and one of another kind never
pub asked_within : (check : Asked) (simple : Simple) (text : List ℕ) → HasLength simple (length text) → HasFollowed check simple text → HasAsked check simple text
asked_within check simple text fits (inl h) = h
asked_within check simple text fits (inr ((is, most, has, long), some, h)) =
    absurd (let few : length text ≤ most = subst (λ o. MatchOption o (Unit {0}) (λ max. length text ≤ max)) has fits.most in omega (arith, long, few))

pub asked_other : (check : Asked) (simple : Simple) (text : List ℕ) → simple.kind ≢ kind.Text → HasFollowed check simple text → HasAsked check simple text
asked_other check simple text other (inl h) = h
asked_other check simple text other (inr (long, some, h)) = absurd (other long.0)

-- the text of a date or a time is kept as a short one
pub date_is_short : (k : Kind) → IsDateKind k → IsShortKind k
date_is_short k d = record {
  no_text = λ e. subst IsDateKind e d;
  no_decimal = λ e. subst IsDateKind e d;
  no_binary = λ e. subst IsDateKind e d;
}

-- a text that is known to be a word of the pattern does not break it
pub known_text : (asked : Asked) (simple : Simple) (text seen : List ℕ) (matcher : Matching) (pattern : List ℕ) → asked ≡ Text matcher → simple.pattern ≡ Some pattern
    → Matches (chars pattern) text → HasAsked asked simple seen → BreaksPattern simple text → ⊥
known_text asked simple text seen matcher pattern is has matches h = from (subst (λ a. HasAsked a simple seen) is h)
  where
    from : HasAsked (Text matcher) simple seen → BreaksPattern simple text → ⊥
    from (text_kind, none, own, e, read) =
        asked_once simple text text pattern true has (asks_text simple.kind simple.codes text text_kind none) (λ other ask. text_asked simple.kind simple.codes text other text_kind ask)
        (λ yes. matches, λ m. refl)
