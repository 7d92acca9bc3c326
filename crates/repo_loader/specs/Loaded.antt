-- What the bytes of a repository file say, or their first fault.
use Rattle.std.specs.Prelude.{◌≡◌, ℕ, ◌<◌, ◌≤◌, true, List, [], length, map, reverse, take, Some, None}
use Rattle.lexical_core.specs.Tree.{Tree, TreeIs}
use Rattle.lexical_core.specs.declared.rule.Rule.TheVariants.{Truncated}
use Rattle.markup.specs.Token.{Token}
use Rattle.markup.specs.Marks.{Front, Marks, tag_limit}
use Rattle.markup.specs.Events.{Placed, events}
use Rattle.markup.specs.Faults.{Fault, MarkFault, IsClean, is_over}
use Rattle.markup.specs.Longest.{IsLongest}
use Rattle.repo_objects.specs.Repository.{Contents}
use Rattle.repo_loader.specs.declared.fault.LoadFault.{LoadFault}
use Rattle.repo_loader.specs.Selected.{PlacedTag, tree_tags, event_tags}
use Rattle.repo_loader.specs.File.{contents_of}
use Rattle.repo_loader.specs.FileFaults.{AreSoundTags, IsFirstBroken}

-- how many bytes a repository file has at most
abbrev pub file_limit : ℕ
file_limit = 2147483648

-- the elements of a file that are read, by its tokens
abbrev pub token_tags : List Token → List PlacedTag
token_tags tokens = event_tags [] (events [] 0 tokens)

-- The bytes are XML whose tree says these contents, and break no rule.
pub record Spells (bytes : List ℕ) (contents : Contents) : Type 0 where
  pub short : length bytes ≤ file_limit
  pub tokens : List Token
  pub marks : Marks bytes tokens
  pub clean : IsClean [] tokens
  pub over : is_over (reverse tokens) ≡ true
  pub sound : AreSoundTags [] (token_tags tokens)
  pub tree : Tree
  pub tree_is : TreeIs (map (λ (e : Placed). e.item) (events [] 0 tokens)) tree
  pub contents_are : contents ≡ contents_of (tree_tags tree)

-- The bytes, as far as the limit, have this first fault.
-- broken: behind tokens that break no rule of markup an element breaks a rule.
-- markup: the elements before the first fault of markup break none. Where there are more bytes than the limit, that they end too early is no fault.
-- long: there are more bytes than the limit, and these have no other fault.
pub data HasLoadFault (bytes : List ℕ) (fault : LoadFault) : Type 0 where
  broken : (tokens : List Token) (rest : List ℕ) → Front tag_limit [] (take file_limit bytes) tokens rest → IsClean [] tokens
      → IsFirstBroken (token_tags tokens) fault.rule fault.place → fault.markup ≡ None → HasLoadFault bytes fault
  markup : (f : Fault) (h : MarkFault (take file_limit bytes) f) → (f.rule ≡ Truncated → length bytes ≤ file_limit) → AreSoundTags [] (token_tags h.tokens)
      → fault ≡ record { rule = 1; markup = Some f.rule; place = f.place } → HasLoadFault bytes fault
  long : (tokens : List Token) → file_limit < length bytes → IsLongest (take file_limit bytes) tokens → IsClean [] tokens
      → ((f : Fault) → MarkFault (take file_limit bytes) f → f.rule ≡ Truncated) → AreSoundTags [] (token_tags tokens)
      → fault ≡ record { rule = 6; markup = None; place = file_limit } → HasLoadFault bytes fault
