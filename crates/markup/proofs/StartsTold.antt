-- A reader behind a start tag that it takes whole, and one that refuses it.
use Rattle.std.proofs.Common.{◌≡◌, ℕ, Bool, true, false, ◌+◌, codes, List, [], ◌∷◌, ◌++◌, length, take, drop, reverse, Option, Some, None, refl, sym, ◌∙◌, ap, ap₂, subst, append_assoc, append-nil, arith}
use Rattle.std.specs.Bool.{if◌then◌else◌}
use Rattle.std.specs.List.{flat_map}
use Rattle.std.specs.Option.{IfSome}
use Rattle.std.proofs.lemmas.Bool.{and_parts, le-leb}
use Rattle.std.proofs.lemmas.List.{length-take-le, take-append-drop}
use Rattle.std.proofs.lemmas.Str.{encode_ascii, encodes-append}
use Rattle.std.specs.Str.{encode_utf8_all}
use Rattle.lexical_core.specs.declared.rule.Rule.{Rule}
use Rattle.markup.specs.Attribute.{attribute_text}
use Rattle.markup.specs.Name.{name_text}
use Rattle.markup.specs.PlainTags.{joined_text}
use Rattle.markup.specs.Token.{Token, Start, token_bytes, is_start_tag}
use Rattle.markup.specs.Token.{StartTag as TagToken}
use Rattle.markup.specs.Marks.{in_cdata, stands, is_short, Cell, Front}
use Rattle.markup.specs.Events.{Placed, events, items_of}
use Rattle.markup.specs.Faults.{rule_of, MarkFaultUnder, broken}
use Rattle.markup.specs.Scopes.{placed_at}
use Rattle.markup.specs.inner.Contexts.{IsContext}
use Rattle.markup.specs.Reading.{HasTakenUnder, HasToldUnder, RefusesUnder, RunsOutUnder}
use Rattle.markup.specs.inner.Tokenizers.{is_between, is_in_text, after_whole_tokens}
use Rattle.markup.specs.inner.TagParts.{spelled_opening}
use Rattle.markup.specs.inner.WholeStarts.{IsStartAt}
use Rattle.markup.specs.declared.context.Context.{Context}
use Rattle.markup.specs.declared.event.Event.{Event}
use Rattle.markup.specs.declared.reader.Reader.{Reader}
use Rattle.markup.specs.declared.attributes.TagAttribute.{TagAttribute}
use Rattle.markup.specs.declared.tag.Opening.{Opening}
use Rattle.markup.specs.declared.tag.Spelled.{Spelled}
use Rattle.markup.proofs.EventTells.{tells_none}
use Rattle.markup.proofs.NoCut.{stays_no_cut}
use Rattle.markup.proofs.OpenTags.{IsSpelledName, written}
use Rattle.markup.proofs.PlainLemmas.{is_fresh, text_place, text_between}
use Rattle.markup.proofs.ReaderLemmas.{told_so_far, starts}
use Rattle.markup.proofs.StartScans.{tag_regrouped}
use Rattle.markup.proofs.TokenRuleLemmas.{in_cdata-open}
use Rattle.markup.proofs.WholeTokens.{IsNext, none_open, all_told, takes_next}

-- what holds of a tag that is there
pub some_holds : {A : Type 0} (Holds : A → Type 0) (o : Option A) (tag : A) → o ≡ Some tag → IfSome o Holds → Holds tag
some_holds Holds o tag e h = subst (λ v. IfSome v Holds) e h

-- the tag begins with its name
pub named_start : (piece prefix name : List ℕ) (attributes : List TagAttribute) (is_empty : Bool) (count : ℕ) → IsStartAt piece (spelled_opening prefix name attributes is_empty) count → (rest : List ℕ) × (piece ≡ 60 ∷ (joined_text prefix name ++ rest))
named_start piece prefix name attributes is_empty count at =
    let t : TagToken = at.start in
    let n : Spelled = record { prefix = prefix; local = name } in
    let s : IsSpelledName n = record { name = t.name; is = (and_parts _ _ (and_parts _ _ at.is).0).0; says = ap (λ (o : Opening). o.name) at.says } in
    let ends : List ℕ = if t.is_empty then codes "/>" else codes ">" in
    let behind : List ℕ = flat_map attribute_text t.attributes ++ (t.gap ++ ends) in
    let tag : token_bytes (Start t) ≡ 60 ∷ (joined_text prefix name ++ encode_utf8_all behind) =
    ap encode_utf8_all (tag_regrouped (name_text t.name) (flat_map attribute_text t.attributes) t.gap ends)
    ∙ ap₂ (λ (x y : List ℕ). x ++ y) (encode_ascii 60 (omega arith)) (encodes-append (name_text t.name) behind ∙ ap (λ (v : List ℕ). v ++ encode_utf8_all behind) (written n s)) in (
      encode_utf8_all behind ++ drop count piece,
      sym (take-append-drop count piece) ∙ (ap (λ (v : List ℕ). v ++ drop count piece) (at.spelled ∙ tag) ∙ ap (λ (v : List ℕ). 60 ∷ v) (append_assoc (joined_text prefix name) (encode_utf8_all behind) (drop count piece))),
    )

module _ {limit : ℕ} (r : Reader) (bytes piece : List ℕ) (told : List Placed) (h : HasTakenUnder limit r bytes told) (old new : List Event) where
  abbrev ts : List Token
  ts = h.0

  abbrev before : List Token
  before = reverse ts

  -- nothing of the piece is taken where memory runs out before its first token
  pub stays_out : is_in_text r.tokenizer ≡ true → new ≡ old → RunsOutUnder limit (bytes ++ piece) told old new
  stays_out text e = record {
    front = [];
    behind = [];
    tokens = ts;
    rest = h.1.reads.bytes ++ piece;
    front_is = h.1.reads.front piece tt;
    clean = h.1.clean;
    events_are = append-nil told ∙ all_told r bytes told h (text_between r.tokenizer.scan (and_parts _ _ text).0) (and_parts _ _ text).1;
    tells = tells_none old new e;
  }

  module _ (tag : Opening) (count : ℕ) (text : is_in_text r.tokenizer ≡ true) (at : IsStartAt piece tag count) where
    abbrev token : Token
    token = Start at.start

    between : is_between r.tokenizer.scan ≡ true
    between = text_between r.tokenizer.scan (and_parts _ _ text).0

    no_cdata : in_cdata before ≡ false
    no_cdata = in_cdata-open r.tokenizer before h.1.reads.bytes h.1.reads.opens ∙ text_place r.tokenizer.scan r.tokenizer.position (and_parts _ _ text).0 (is_fresh r.tokenizer between (and_parts _ _ text).1 before h.1.reads.bytes h.1.reads.opens).scan_here

    size : count ≡ length (token_bytes token)
    size = sym (length-take-le count piece at.within) ∙ ap length at.spelled

    stands_here : (after : List ℕ) → stands before token after ≡ true
    stands_here after = ap (λ b. if b then false else is_start_tag at.start) no_cdata ∙ at.is

    short : is_short limit token ≡ true
    short = le-leb _ _ (omega (arith, size, at.short, h.1.reads.opens.limited.0))

    next : rule_of before token ≡ None → IsNext limit before token
    next clean = record { is = stands_here; short = short; clean = clean; stays = λ p. refl }

    whole : piece ≡ token_bytes token ++ drop count piece
    whole = sym (take-append-drop count piece) ∙ ap (λ v. v ++ drop count piece) at.spelled

    fronts : (more : List ℕ) → Front limit [] ((bytes ++ piece) ++ more) ts (piece ++ more)
    fronts more = subst (λ v. Front limit [] v ts (piece ++ more)) (sym (append_assoc bytes piece more))
        (subst (λ v. Front limit [] (bytes ++ (piece ++ more)) ts (v ++ (piece ++ more))) (none_open r bytes told h between (and_parts _ _ text).1) (h.1.reads.front (piece ++ more) tt))

    cell : (more : List ℕ) → Cell before token (piece ++ more) (drop count piece ++ more)
    cell more = record { spelled = ap (λ v. v ++ more) whole ∙ append_assoc (token_bytes token) (drop count piece) more; is = stands_here (drop count piece ++ more) }

    so_far : told ≡ events [] 0 ts
    so_far = all_told r bytes told h between (and_parts _ _ text).1

    -- the tag breaks no rule
    pub told_behind : (c : Context) → rule_of before token ≡ None → IsContext c (token ∷ before) → HasToldUnder limit (record { tokenizer = after_whole_tokens r.tokenizer count; context = c; failed = r.failed }) (bytes ++ take count piece) (told ++ placed_at (length bytes) (items_of before token))
    told_behind c clean context_is =
        let after : Reader = record { tokenizer = after_whole_tokens r.tokenizer count; context = c; failed = r.failed } in
        let more : List Placed = placed_at (length bytes) (items_of before token) in
        subst (λ v. HasToldUnder limit after (bytes ++ v) (told ++ more)) (sym at.spelled)
        (told_so_far after (bytes ++ token_bytes token) (told ++ more) (takes_next r bytes told h between (and_parts _ _ text).1 token count c (next clean) size context_is))

    -- it breaks one
    pub refuses_start : (rule : Rule) → rule_of before token ≡ Some rule → new ≡ old → RefusesUnder limit (bytes ++ piece) told old new (record { rule = rule; place = r.tokenizer.start })
    refuses_start rule b e = record {
      more = [];
      tells = tells_none old new e;
      tokens = ts;
      rest = piece;
      front = fronts;
      clean = h.1.clean;
      before = sym (starts r bytes ts told h.1);
      events_are = append-nil told ∙ so_far;
      has_fault = shown;
      no_cut = stays_no_cut (bytes ++ piece) (record { rule = rule; place = r.tokenizer.start }) shown;
    } where
      shown : (more : List ℕ) → MarkFaultUnder limit ((bytes ++ piece) ++ more) (record { rule = rule; place = r.tokenizer.start })
      shown more = record {
        tokens = ts;
        rest = piece ++ more;
        at = 0;
        front = fronts more;
        clean = h.1.clean;
        next = broken token (drop count piece ++ more) (cell more) short b refl;
        place = starts r bytes ts told h.1 ∙ sym (zero_more (length (flat_map token_bytes ts)));
      } where
        zero_more : (n : ℕ) → n + 0 ≡ n
        zero_more n = omega arith
