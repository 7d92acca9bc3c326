-- What a start tag makes of the open elements where its parts are slices of the input.
use Rattle.std.specs.Prelude.{◌≡◌, ℕ, Bool, true, List, [], ◌∷◌, map, if◌then◌else◌, Option, Some, None, Result, MatchResult}
use Rattle.lexical_core.specs.declared.rule.Rule.{Rule}
use Rattle.markup.specs.Token.{Token, StartTag, Start}
use Rattle.markup.specs.Events.{namespace_of, entries, start_tag_items, items_of, open_tags}
use Rattle.markup.specs.Faults.{start_rule, rule_of}
use Rattle.markup.specs.inner.Contexts.{IsContext}
use Rattle.markup.specs.PlainTags.{IsInsideOf}
use Rattle.markup.specs.Scopes.{declarations, IsScope}
use Rattle.markup.specs.TagAttributes.{tag_entry}
use Rattle.markup.specs.declared.attributes.TagAttribute.{TagAttribute}
use Rattle.markup.specs.declared.context.Context.{Context}
use Rattle.markup.specs.declared.scope.Opened.{Opened}
use Rattle.markup.specs.declared.scope.Scope.{Scope}
use Rattle.markup.specs.declared.scope.Stop.{Stop}
use Rattle.markup.specs.declared.scope.Stop.TheVariants.{Rule as Breaks, Memory}
use Rattle.markup.specs.declared.tag.Opening.{Opening}
use Rattle.markup.specs.declared.tag.Spelled.{Spelled}

-- It stops for a rule that is broken first, or for want of memory.
abbrev pub StopsFor : Option Rule → Stop → Type 0
StopsFor first (Breaks rule) = first ≡ Some rule
StopsFor first Memory = Unit {0}

-- The innermost element has the prefix of the tag, which declares nothing.
abbrev pub HasSame : List Opening → Opening → Type 0
HasSame tags tag = (declarations tag.given ≡ []) × (opened : List ℕ) × IsInsideOf tags (record { prefix = tag.name.prefix; local = opened })

-- a start tag that breaks no rule, with the namespace of its element and the attributes that its event has
pub record Opens (over : Bool) (tags : List Opening) (tag : Opening) (attributes : List TagAttribute) (scope : Scope) (opened : Opened) : Type 0 where
  pub clean : start_rule over tags tag ≡ None
  pub namespace : namespace_of (tag ∷ tags) tag.name.prefix ≡ Some opened.ns
  pub same : opened.has_same_ns ≡ true → HasSame tags tag
  pub entries : map tag_entry attributes ≡ entries (tag ∷ tags) tag.given
  pub scope_is : IsScope scope (if tag.is_empty then tags else tag ∷ tags)

-- A start tag is opened, or the least rule that it breaks is told.
abbrev pub IsOpened : Bool → List Opening → Opening → List TagAttribute → Scope → Result Opened Stop → Type 0
IsOpened over tags tag attributes scope result = MatchResult result (λ opened. Opens over tags tag attributes scope opened) (λ stop. StopsFor (start_rule over tags tag) stop)

-- The innermost element has this namespace.
abbrev pub IsSameNamespace : List Opening → List ℕ → Type 0
IsSameNamespace tags ns = (inside : Spelled) × IsInsideOf tags inside × (namespace_of tags inside.prefix ≡ Some ns)

-- a start tag as a token that breaks no rule
pub record TakesStartTag (before : List Token) (t : StartTag) (name : List ℕ) (attributes : List TagAttribute) (is_empty : Bool) (context : Context) (opened : Opened) : Type 0 where
  pub clean : rule_of before (Start t) ≡ None
  pub items : items_of before (Start t) ≡ start_tag_items (Some (record { namespace = opened.ns; local = name })) (map tag_entry attributes) is_empty
  pub same : opened.has_same_ns ≡ true → IsSameNamespace (open_tags before) opened.ns
  pub context_is : IsContext context (Start t ∷ before)

-- A start tag as a token: it is taken, or the least rule that it breaks is told.
abbrev pub StartTaken : List Token → StartTag → List ℕ → List TagAttribute → Bool → Context → Result Opened Stop → Type 0
StartTaken before t name attributes is_empty context result = MatchResult result (λ opened. TakesStartTag before t name attributes is_empty context opened) (λ stop. StopsFor (rule_of before (Start t)) stop)
