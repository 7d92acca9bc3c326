-- A repository file has at most one first fault.
use Rattle.std.proofs.Common.{◌≡◌, ℕ, ◌<◌, ◌≤◌, List, [], ◌∷◌, ◌++◌, length, take, reverse, Some, refl, sym, ap, ◌∙◌, subst, arith, inl, inr}
use Rattle.std.specs.List.{flat_map}
use Rattle.lexical_core.specs.declared.rule.Rule.{Rule}
use Rattle.lexical_core.specs.declared.rule.Rule.TheVariants.{Truncated}
use Rattle.markup.specs.Token.{Token, token_bytes}
use Rattle.markup.specs.Marks.{Front, Agree, tag_limit}
use Rattle.markup.specs.Events.{events}
use Rattle.markup.specs.Faults.{Fault, MarkFault, IsClean, Next}
use Rattle.markup.specs.Longest.{IsLongest}
use Rattle.markup.proofs.TokenLaw.{one_token, fronts_agree}
use Rattle.markup.proofs.OneFault.{next_none, one_fault}
use Rattle.markup.proofs.EventLemmas.{events-append}
use Rattle.markup.proofs.TokensBehind.{tokens_behind, behind}
use Rattle.repo_loader.specs.declared.fault.LoadFault.{LoadFault}
use Rattle.repo_loader.specs.Selected.{PlacedTag, event_tags, parts_open_after}
use Rattle.repo_loader.specs.FileFaults.{AreSoundTags, IsFirstBroken}
use Rattle.repo_loader.specs.Loaded.{file_limit, token_tags, HasLoadFault, broken, markup, long}
use Rattle.repo_loader.proofs.EventTags.{event_tags_append}
use Rattle.repo_loader.proofs.FirstBroken.{one_first, first_of_more, sound_has_none}

-- a clean list of tokens goes no further than those before the fault
pub front_before : (n : ℕ) (before : List Token) (bytes x y : List ℕ) (ts us : List Token) (rule : Rule) (at : ℕ) → Front n before bytes ts x → IsClean before ts
    → Front n before bytes us y → Next n (tokens_behind before us) y rule at → (more : List Token) × (us ≡ ts ++ more)
front_before n' before bytes x y [] us rule at f c g n = (us, refl)
front_before n' before bytes x y (t ∷ ts) [] rule at f c g n =
    absurd (next_none n' before bytes t f.0 rule at (subst (λ v. Next n' before v rule at) (sym g) n) f.1 f.2 c.0)
front_before n' before bytes x y (t ∷ ts) (u ∷ us) rule at f c g n =
    let o = one_token before t u bytes f.0 g.0 f.1 g.1 in
    let r = front_before n' (t ∷ before) f.0 x y ts us rule at f.3 c.1
    (subst (λ (v : Token). Front n' (v ∷ before) f.0 us y) (sym o.0) (subst (λ (v : List ℕ). Front n' (u ∷ before) v us y) (sym o.1) g.3))
    (subst (λ (v : Token). Next n' (tokens_behind (v ∷ before) us) y rule at) (sym o.0) n) in
    (r.0, λ i. sym o.0 i ∷ r.1 i)

-- the elements of more tokens
abbrev pub Rest : List Token → List Token → List PlacedTag
Rest ts more = event_tags (parts_open_after [] (events [] 0 ts)) (events (reverse ts) (length (flat_map token_bytes ts)) more)

pub tags_append : (ts more : List Token) → token_tags (ts ++ more) ≡ token_tags ts ++ Rest ts more
tags_append ts more = ap (event_tags []) (events-append ts more) ∙ event_tags_append [] (events [] 0 ts) (events (reverse ts) _ more)

-- more tokens have the same first
first_more : (ts us more : List Token) (rule place : ℕ) → us ≡ ts ++ more → IsFirstBroken (token_tags ts) rule place → IsFirstBroken (token_tags us) rule place
first_more ts us more rule place e h =
    subst (λ l. IsFirstBroken l rule place) (sym (ap token_tags e ∙ tags_append ts more)) (first_of_more (token_tags ts) (Rest ts more) rule place h)

-- so the longer is not sound
pub not_sound : (ts us more : List Token) (rule place : ℕ) → us ≡ ts ++ more → IsFirstBroken (token_tags ts) rule place → AreSoundTags [] (token_tags us) → ⊥
not_sound ts us more rule place e h s =
    let k = first_more ts us more rule place e h in
    sound_has_none [] k.before k.tag k.after rule (subst (AreSoundTags []) k.split s) k.broken

same_fault : (f g : LoadFault) → f.rule ≡ g.rule → f.markup ≡ g.markup → f.place ≡ g.place → f ≡ g
same_fault f g a b c = λ i. record { rule = a i; markup = b i; place = c i }

both_broken : (ts us : List Token) (r s p q : ℕ) → Agree ts us → IsFirstBroken (token_tags ts) r p → IsFirstBroken (token_tags us) s q → (r ≡ s) × (p ≡ q)
both_broken ts us r s p q (inl (more, e)) h k = one_first (token_tags us) r s p q (first_more ts us more r p e h) k
both_broken ts us r s p q (inr (more, e)) h k = one_first (token_tags ts) r s p q h (first_more us ts more s q e k)

module _ (bytes : List ℕ) where
  broken_markup : {A : Type 0} (ts : List Token) (rest : List ℕ) (rule place : ℕ) (m : Fault) (h : MarkFault (take file_limit bytes) m) → Front tag_limit [] (take file_limit bytes) ts rest → IsClean [] ts
      → IsFirstBroken (token_tags ts) rule place → AreSoundTags [] (token_tags h.tokens) → A
  broken_markup ts rest rule place m h f c first s =
      let r = front_before tag_limit [] (take file_limit bytes) rest h.rest ts h.tokens m.rule h.at f c h.front (subst (λ v. Next tag_limit v h.rest m.rule h.at) (behind h.tokens) h.next) in
      absurd (not_sound ts h.tokens r.0 rule place r.1 first s)

  broken_long : {A : Type 0} (ts us : List Token) (rest : List ℕ) (rule place : ℕ) → Front tag_limit [] (take file_limit bytes) ts rest → IsFirstBroken (token_tags ts) rule place
      → IsLongest (take file_limit bytes) us → AreSoundTags [] (token_tags us) → A
  broken_long ts us rest rule place f first l s =
      let r = l.longest ts rest f in
      absurd (not_sound ts us r.0 rule place r.1 first s)

  markup_long : {A : Type 0} (m : Fault) → MarkFault (take file_limit bytes) m → (m.rule ≡ Truncated → length bytes ≤ file_limit) → file_limit < length bytes
      → ((f : Fault) → MarkFault (take file_limit bytes) f → f.rule ≡ Truncated) → A
  markup_long m h counts over only = absurd (let k : length bytes ≤ file_limit = counts (only m h) in omega (arith, k, over))

  pub one_load_fault : (f g : LoadFault) → HasLoadFault bytes f → HasLoadFault bytes g → f ≡ g
  one_load_fault f g (broken ts rest a b first none) (broken us rest' a' b' first' none') =
      let same = both_broken ts us f.rule g.rule f.place g.place (fronts_agree tag_limit [] (take file_limit bytes) ts us rest rest' a a') first first' in
      same_fault f g same.0 (none ∙ sym none') same.1
  one_load_fault f g (broken ts rest a b first none) (markup m h counts s e) = broken_markup ts rest f.rule f.place m h a b first s
  one_load_fault f g (broken ts rest a b first none) (long us over l c only s e) = broken_long ts us rest f.rule f.place a first l s
  one_load_fault f g (markup m h counts s e) (broken us rest' a' b' first' none') = broken_markup us rest' g.rule g.place m h a' b' first' s
  one_load_fault f g (markup m h counts s e) (markup m' h' counts' s' e') =
      e ∙ ap (λ (x : Fault). record { rule = 1; markup = Some x.rule; place = x.place }) (one_fault (take file_limit bytes) m m' h h') ∙ sym e'
  one_load_fault f g (markup m h counts s e) (long us over l c only s' e') = markup_long m h counts over only
  one_load_fault f g (long us over l c only s e) (broken ts rest a b first none) = broken_long ts us rest g.rule g.place a first l s
  one_load_fault f g (long us over l c only s e) (markup m h counts s' e') = markup_long m h counts over only
  one_load_fault f g (long us over l c only s e) (long us' over' l' c' only' s' e') = e ∙ sym e'
