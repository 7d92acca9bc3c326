-- The rules that a reached object or the message breaks, and the lowest, with the first that breaks it.
use Rattle.std.specs.Prelude.{◌≡◌, ◌≢◌, ℕ, ◌≤◌, ◌<◌, ◌⊎◌, Bool, false, List, [], ◌∷◌, ◌++◌, length, map, codes, Option, Some, None, slice_get, Contains, count_by, chars}
use Rattle.std.specs.Str.{bytes_eq}
use Rattle.repo_objects.specs.declared.objects.ElementDef.{ElementDef}
use Rattle.repo_objects.specs.declared.objects.CodeDef.{CodeDef}
use Rattle.repo_objects.specs.declared.objects.MessageDef.{MessageDef}
use Rattle.repo_objects.specs.declared.objects.Object.{Object}
use Rattle.repo_objects.specs.declared.objects.Kinds.TheVariants as kinds
use Rattle.repo_objects.specs.declared.objects.ObjectKind.{ObjectKind}
use Rattle.repo_objects.specs.declared.objects.ObjectKind.TheVariants.{Simple, Choice, Other}
use Rattle.repo_objects.specs.Repository.{Contents}
use Rattle.reference_check.specs.Graph.{Place, message, entry, graph, find_entry, find_message, references}
use Rattle.reference_check.specs.Shapes.{IsFinite}
use Rattle.reference_check.specs.Names.{is_profile_name}
use Rattle.reference_check.specs.CodeTexts.{text_of_code}
use Rattle.reference_check.specs.Reach.{elements_of, currency_of, Reaches, rank_of}

-- the rules, in order; those on facets and patterns stand with the compiled model
pub data Rule : Type 0 where
  NoMessage : Rule
  TwoMessages : Rule
  Dangling : Rule
  BadCurrency : Rule
  NotOneReference : Rule
  BadName : Rule
  TagTwice : Rule
  BadBounds : Rule
  OptionalAlternative : Rule
  NoAlternatives : Rule
  Endless : Rule
  BadCodes : Rule
  LeftOutKind : Rule
  NameTwice : Rule
  TooMany : Rule

-- the number that the program prints
abbrev pub object_rule_number : Rule → ℕ
object_rule_number NoMessage = 1
object_rule_number TwoMessages = 2
object_rule_number Dangling = 3
object_rule_number BadCurrency = 4
object_rule_number NotOneReference = 5
object_rule_number BadName = 6
object_rule_number TagTwice = 7
object_rule_number BadBounds = 8
object_rule_number OptionalAlternative = 9
object_rule_number NoAlternatives = 10
object_rule_number Endless = 11
object_rule_number BadCodes = 14
object_rule_number LeftOutKind = 15
object_rule_number NameTwice = 16
object_rule_number TooMany = 17

-- ---- of an object

-- no entry has the id
abbrev pub HasNoEntry : Contents → List ℕ → Type 0
HasNoEntry R id = find_entry id R.objects ≡ None

abbrev pub IsTextKind : ObjectKind → Type 0
IsTextKind (Simple kinds.Text) = Unit {0}
IsTextKind (Simple kinds.CodeSet) = Unit {0}
IsTextKind (Simple kinds.IdentifierSet) = Unit {0}
IsTextKind _ = ⊥

-- the kinds whose pattern is read
abbrev pub HasPatterns : ObjectKind → Type 0
HasPatterns (Simple kinds.Amount) = ⊥
HasPatterns (Simple kinds.Rate) = ⊥
HasPatterns (Simple kinds.Quantity) = ⊥
HasPatterns (Simple kinds.Indicator) = ⊥
HasPatterns (Simple kinds.Binary) = ⊥
HasPatterns (Simple kind) = Unit {0}
HasPatterns _ = ⊥

-- the kinds that have none and may not be given one
abbrev pub HasNoPatterns : ObjectKind → Type 0
HasNoPatterns (Simple kinds.Amount) = Unit {0}
HasNoPatterns (Simple kinds.Rate) = Unit {0}
HasNoPatterns (Simple kinds.Quantity) = Unit {0}
HasNoPatterns (Simple kinds.Indicator) = Unit {0}
HasNoPatterns (Simple kinds.Binary) = Unit {0}
HasNoPatterns _ = ⊥

-- what is said of the object at a place, where there is one
abbrev pub OfObject : Contents → Place → (Object → Type 0) → Type 0
OfObject R p Says = (id : List ℕ) × (o : Object) × (p ≡ entry id) × (find_entry id R.objects ≡ Some o) × Says o

-- a minimum is not above its maximum, which is not 0
abbrev pub UpToMax : ℕ → Option ℕ → Type 0
UpToMax n None = Unit {0}
UpToMax n (Some top) = (n ≤ top) × (0 < top)

-- the codes of a code set
abbrev pub set_codes : Object → List CodeDef
set_codes o = codes_at o.kind o.codes
  where
    codes_at : ObjectKind → List CodeDef → List CodeDef
    codes_at (Simple kinds.CodeSet) cs = cs
    codes_at _ cs = []

-- a code has no text, or two have one
abbrev pub HasBadCodes : Contents → Object → Type 0
HasBadCodes R o =
    ((c : CodeDef) × Contains (set_codes o) c × (text_of_code R.objects o c ≡ None))
    ⊎ ((i : ℕ) × (j : ℕ) × (a : CodeDef) × (b : CodeDef) × (text : List ℕ) × (i < j) × (slice_get (set_codes o) i ≡ Some a) × (slice_get (set_codes o) j ≡ Some b)
    × (text_of_code R.objects o a ≡ Some text) × (text_of_code R.objects o b ≡ Some text))

-- ---- names

-- the names that an object or the message has in a schema
abbrev pub with_currency : List ℕ → Option (List ℕ) → List (List ℕ)
with_currency name None = name ∷ []
with_currency name (Some id) = name ∷ ((name ++ codes "_SimpleType") ∷ [])

abbrev pub object_names : Option Object → Option (List ℕ) → List (List ℕ)
object_names None currency = []
object_names (Some o) currency = with_currency o.name currency

abbrev pub message_names : Option MessageDef → List (List ℕ)
message_names None = []
message_names (Some d) = d.name ∷ []

abbrev pub schema_names : Contents → List ℕ → Place → List (List ℕ)
schema_names R m message = message_names (find_message m R.messages)
schema_names R m (entry id) = object_names (find_entry id R.objects) (currency_of R (entry id))
schema_names R m _ = []

-- the names that are asked by themselves: of the object, and of the message with its tag
abbrev pub own_names : Contents → List ℕ → Place → List (List ℕ)
own_names R m message = message_own (find_message m R.messages)
  where
    message_own : Option MessageDef → List (List ℕ)
    message_own None = []
    message_own (Some d) = d.name ∷ (d.tag ∷ [])
own_names R m (entry id) = object_own (find_entry id R.objects)
  where
    object_own : Option Object → List (List ℕ)
    object_own None = []
    object_own (Some o) = o.name ∷ []
own_names R m _ = []

-- some name is none
abbrev pub HasBadName : List (List ℕ) → Type 0
HasBadName names = (name : List ℕ) × Contains names name × (is_profile_name name ≡ false)

-- ---- how many

-- the ids of reached objects, each once
abbrev pub AreReached : Contents → List ℕ → List (List ℕ) → Type 0
AreReached R m ids = ((i j : ℕ) (a : List ℕ) → i < j → slice_get ids i ≡ Some a → slice_get ids j ≡ Some a → ⊥)
    × ((id : List ℕ) → Contains ids id → Reaches R m (entry id) × (HasNoEntry R id → ⊥))

-- a text of more than 65,536 characters
abbrev pub IsLong : List ℕ → Type 0
IsLong text = 65536 < length (chars text)

abbrev pub IsLongIfAny : Option (List ℕ) → Type 0
IsLongIfAny None = ⊥
IsLongIfAny (Some text) = IsLong text

-- a set has too many codes or a code that is too long; or, without codes, its pattern is
abbrev pub HasTooMuch : Contents → Object → Type 0
HasTooMuch R o =
    (65536 < length (set_codes o))
    ⊎ ((c : CodeDef) × Contains (set_codes o) c × IsLongIfAny (text_of_code R.objects o c))
    ⊎ ((set_codes o ≡ []) × HasPatterns o.kind × IsLongIfAny o.facets.pattern)

-- ---- the rules

abbrev pub is_message_named : List ℕ → MessageDef → Bool
is_message_named m d = bytes_eq d.id m

-- the reached object or the message breaks the rule
abbrev pub Breaks : Contents → List ℕ → Rule → Place → Type 0
Breaks R m NoMessage p = (p ≡ message) × (find_message m R.messages ≡ None)
Breaks R m TwoMessages p = (p ≡ message) × (2 ≤ count_by (is_message_named m) R.messages)
Breaks R m Dangling p =
    ((e : ElementDef) × (id : List ℕ) × Contains (elements_of R m p) e × Contains (references e) id × HasNoEntry R id)
    ⊎ ((id : List ℕ) × (currency_of R p ≡ Some id) × HasNoEntry R id)
Breaks R m BadCurrency p = (id : List ℕ) × (o : Object) × (currency_of R p ≡ Some id) × (find_entry id R.objects ≡ Some o) × (IsTextKind o.kind → ⊥)
Breaks R m NotOneReference p = (e : ElementDef) × Contains (elements_of R m p) e × (length (references e) ≡ 1 → ⊥)
Breaks R m BadName p = HasBadName (own_names R m p ++ map (λ (e : ElementDef). e.tag) (elements_of R m p))
Breaks R m TagTwice p = (i : ℕ) × (j : ℕ) × (a : ElementDef) × (b : ElementDef) × (i < j) × (slice_get (elements_of R m p) i ≡ Some a) × (slice_get (elements_of R m p) j ≡ Some b) × (a.tag ≡ b.tag)
Breaks R m BadBounds p = (e : ElementDef) × Contains (elements_of R m p) e × (UpToMax e.min e.max → ⊥)
Breaks R m OptionalAlternative p = OfObject R p (λ o. (o.kind ≡ Choice) × (e : ElementDef) × Contains o.elements e × (e.min ≡ 0))
Breaks R m NoAlternatives p = OfObject R p (λ o. (o.kind ≡ Choice) × (o.elements ≡ []))
Breaks R m Endless p = IsFinite (graph R m) p → ⊥
Breaks R m BadCodes p = OfObject R p (HasBadCodes R)
Breaks R m LeftOutKind p = OfObject R p (λ o. (o.kind ≡ Other) ⊎ (HasNoPatterns o.kind × (o.facets.pattern ≢ None)))
Breaks R m NameTwice p = (name : List ℕ) × Contains (schema_names R m p) name
    × ((name ≡ codes "Document") ⊎ ((q : Place) × Reaches R m q × (q ≢ p) × Contains (schema_names R m q) name))
Breaks R m TooMany p =
    (4096 < length (elements_of R m p))
    ⊎ (OfObject R p (HasTooMuch R))
    ⊎ ((p ≡ message) × (ids : List (List ℕ)) × AreReached R m ids × (65536 < length ids))

-- The lowest rule that is broken, of those that are asked, and the first reached object that breaks it, the message behind all objects.
pub record IsBroken (R : Contents) (m : List ℕ) (IsAsked : Rule → Type 0) (rule : Rule) (p : Place) : Type 0 where
  pub asked : IsAsked rule
  pub reached : Reaches R m p
  pub broken : Breaks R m rule p
  pub lowest : (r : Rule) (q : Place) → IsAsked r → object_rule_number r < object_rule_number rule → Reaches R m q → Breaks R m r q → ⊥
  pub first : (q : Place) → rank_of R q < rank_of R p → Reaches R m q → Breaks R m rule q → ⊥

-- no rule of those that are asked is broken
abbrev pub IsSound : Contents → List ℕ → (Rule → Type 0) → Type 0
IsSound R m IsAsked = (r : Rule) (p : Place) → IsAsked r → Reaches R m p → Breaks R m r p → ⊥

-- the rules of structure but the last, all of them, and the others
abbrev pub IsBelowEndless : Rule → Type 0
IsBelowEndless r = object_rule_number r ≤ 10

abbrev pub IsStructure : Rule → Type 0
IsStructure r = object_rule_number r ≤ 11

abbrev pub IsTailRule : Rule → Type 0
IsTailRule r = 14 ≤ object_rule_number r
