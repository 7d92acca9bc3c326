-- A start tag that is opened as a token, and a reader behind it.
use Rattle.std.proofs.Common.{◌≡◌, ℕ, Bool, true, List, [], ◌∷◌, ◌++◌, length, map, take, reverse, Option, Some, refl, sym, ◌∙◌, ap, subst}
use Rattle.std.specs.Bool.{if◌then◌else◌}
use Rattle.std.specs.Option.{option_or, IfSome, IsSome}
use Rattle.std.proofs.lemmas.Bool.{and_parts}
use Rattle.lexical_core.specs.Tree.{Expanded}
use Rattle.markup.specs.Token.{Token, StartTag}
use Rattle.markup.specs.Events.{Placed, opening, open_tags, bound_by, namespace_of, start_tag_items, start_items, events}
use Rattle.markup.specs.Faults.{start_rule, is_over}
use Rattle.markup.specs.inner.Contexts.{IsContext}
use Rattle.markup.specs.PlainTags.{open_behind, innermost_namespace, name_behind}
use Rattle.markup.specs.Reading.{HasTakenUnder, HasToldUnder}
use Rattle.markup.specs.Scopes.{declarations, all_declarations, IsScope, placed_at}
use Rattle.markup.specs.inner.Tokenizers.{is_in_text, after_whole_tokens}
use Rattle.markup.specs.TagAttributes.{tag_entry}
use Rattle.markup.specs.inner.StartTags.{Opens, IsSameNamespace, TakesStartTag}
use Rattle.markup.specs.inner.TagParts.{spelled_opening}
use Rattle.markup.specs.inner.WholeStarts.{IsStartAt}
use Rattle.markup.specs.declared.attributes.TagAttribute.{TagAttribute}
use Rattle.markup.specs.declared.context.Context.{Context}
use Rattle.markup.specs.declared.reader.Reader.{Reader}
use Rattle.markup.specs.declared.scope.Opened.{Opened}
use Rattle.markup.specs.declared.scope.Scope.{Scope}
use Rattle.markup.specs.declared.start_tag.StartTag.{StartTag as FoundTag}
use Rattle.markup.specs.declared.tag.Opening.{Opening}
use Rattle.markup.proofs.Lookups.{namespace_is}
use Rattle.markup.proofs.OpenTags.{open_expanded, innermost_bound}
use Rattle.markup.proofs.PlainLemmas.{text_between}
use Rattle.markup.proofs.ScopeLemmas.{its_items}
use Rattle.markup.proofs.StartsTold.{some_holds, told_behind}
use Rattle.markup.proofs.WholeTokens.{all_told}

-- what a prefix is bound to under a tag that declares nothing it is bound to without it
same_bound : (tags : List Opening) (tag : Opening) (prefix : List ℕ) → declarations tag.given ≡ [] → namespace_of (tag ∷ tags) prefix ≡ namespace_of tags prefix
same_bound tags tag prefix none = namespace_is (tag ∷ tags) prefix ∙ (ap (λ ds. option_or (bound_by (ds ++ all_declarations tags) prefix) (namespace_of [] prefix)) none ∙ sym (namespace_is tags prefix))

pub takes_tag : (context : Context) (before : List Token) (t : StartTag) → IsContext context before → (prefix name : List ℕ) (given : List TagAttribute) (is_empty : Bool) → opening t ≡ spelled_opening prefix name given is_empty
    → (over : Bool) → over ≡ is_over before → (attributes : List TagAttribute) (scope : Scope) (opened : Opened) → Opens over (open_tags before) (spelled_opening prefix name given is_empty) attributes scope opened
    → TakesStartTag before t name attributes is_empty (record { scope = scope; has_root = true; brackets = 0 }) opened
takes_tag context before t is prefix name given is_empty says over is_over_so attributes scope opened o =
    let tags : List Opening = open_tags before in
    let tag : Opening = spelled_opening prefix name given is_empty in
    record {
      clean = ap (start_rule (is_over before) tags) says ∙ (ap (λ b. start_rule b tags tag) (sym is_over_so) ∙ o.clean);
      items = ap (start_items tags) says ∙ sym (its_items over tags tag attributes scope opened o);
      same = λ h. let s = o.same h in (record { prefix = prefix; local = s.1 }, s.2, sym (same_bound tags tag prefix s.0) ∙ o.namespace);
      context_is = record {
        scope = subst (λ (o : Opening). IsScope scope (if o.is_empty then tags else o ∷ tags)) (sym says) o.scope_is;
        root = refl;
        brackets_are = refl;
      };
    }

same_some : (x y : List ℕ) → Some x ≡ Some y → x ≡ y
same_some x y h = cc

-- a start tag as it was found
abbrev found_tag : FoundTag → Opening
found_tag tag = spelled_opening tag.prefix.now tag.name.now tag.attributes.items tag.is_empty

-- it stands at the front where one was found
pub found_at : (piece : List ℕ) (o : Option FoundTag) (tag : FoundTag) → o ≡ Some tag → IfSome o (λ (t : FoundTag). IsStartAt piece (found_tag t) t.bytes) → IsStartAt piece (found_tag tag) tag.bytes
found_at piece o tag is found = some_holds (λ (t : FoundTag). IsStartAt piece (found_tag t) t.bytes) o tag is found

module _ {limit : ℕ} (r : Reader) (bytes piece : List ℕ) (told : List Placed) (h : HasTakenUnder limit r bytes told) (o : Option FoundTag) (tag : FoundTag) (is : o ≡ Some tag) (found : IfSome o (λ (t : FoundTag). IsStartAt piece (found_tag t) t.bytes))
    (ready : IsSome o → is_in_text r.tokenizer ≡ true) (context : Context) (attributes : List TagAttribute) (opened : Opened)
    (takes : (before : List Token) (t : StartTag) → IsContext r.context before → opening t ≡ found_tag tag → TakesStartTag before t tag.name.now attributes tag.is_empty context opened) where
  at : IsStartAt piece (found_tag tag) tag.bytes
  at = found_at piece o tag is found

  text : is_in_text r.tokenizer ≡ true
  text = ready (subst IsSome (sym is) refl)

  taken : TakesStartTag (reverse h.0) at.start tag.name.now attributes tag.is_empty context opened
  taken = takes (reverse h.0) at.start h.1.context at.says

  pub takes_told : HasToldUnder limit (record { tokenizer = after_whole_tokens r.tokenizer tag.bytes; context = context; failed = r.failed }) (bytes ++ take tag.bytes piece)
      (told ++ placed_at (length bytes) (start_tag_items (Some (record { namespace = opened.ns; local = tag.name.now })) (map tag_entry attributes) tag.is_empty))
  takes_told =
      subst (λ v. HasToldUnder limit (record { tokenizer = after_whole_tokens r.tokenizer tag.bytes; context = context; failed = r.failed }) (bytes ++ take tag.bytes piece) (told ++ placed_at (length bytes) v)) taken.items
      (told_behind r bytes piece told h [] [] (found_tag tag) tag.bytes text at context taken.clean taken.context_is)

  -- the namespace of the element round it, where that is known to be the same
  pub same_told : opened.has_same_ns ≡ true → opened.ns ≡ (name_behind told tag.name.now).namespace
  same_told s =
      let k : IsSameNamespace (open_tags (reverse h.0)) opened.ns = taken.same s in
      let es : List Expanded = open_behind [] (events [] 0 h.0) in
      same_some opened.ns (innermost_namespace es) (sym k.2 ∙ innermost_bound (open_tags (reverse h.0)) es k.0 (open_expanded h.0 h.1.clean) k.1)
      ∙ ap (λ v. innermost_namespace (open_behind [] v)) (sym (all_told r bytes told h (text_between r.tokenizer.scan (and_parts _ _ text).0) (and_parts _ _ text).1))
