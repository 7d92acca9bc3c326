-- Bytes spell at most one repository, and none where they have a fault.
use Rattle.std.proofs.Common.{◌≡◌, ℕ, ◌≤◌, List, [], ◌∷◌, ◌++◌, length, take, refl, sym, ap, ◌∙◌, subst, arith}
use Rattle.std.proofs.lemmas.List.{take_all}
use Rattle.markup.specs.Token.{Token}
use Rattle.markup.specs.Marks.{Front, Cell, tag_limit}
use Rattle.markup.specs.Events.{events}
use Rattle.markup.specs.Faults.{MarkFault}
use Rattle.markup.proofs.TokenLaw.{one_token}
use Rattle.markup.proofs.OneFault.{nothing_stands, whole_has_none}
use Rattle.markup.proofs.OneMarking.{one_marking}
use Rattle.repo_objects.specs.Repository.{Contents}
use Rattle.repo_loader.specs.declared.fault.LoadFault.{LoadFault}
use Rattle.repo_loader.specs.File.{contents_of}
use Rattle.repo_loader.specs.FileFaults.{tags_of}
use Rattle.repo_loader.specs.Loaded.{file_limit, token_tags, Spells, HasLoadFault, broken, markup, long}
use Rattle.repo_loader.proofs.TreeSelection.{selects_the_tree}
use Rattle.repo_loader.proofs.OneLoadFault.{not_sound}

-- no list of tokens goes further than all of the bytes
pub whole_longest : (n : ℕ) (before : List Token) (bytes x : List ℕ) (us ts : List Token) → Front n before bytes us [] → Front n before bytes ts x → (more : List Token) × (us ≡ ts ++ more)
whole_longest n before bytes x us [] f g = (us, refl)
whole_longest n before bytes x [] (t ∷ ts) f g = absurd (nothing_stands before t g.0 (subst (λ v. Cell before t v g.0) f g.1))
whole_longest n before bytes x (u ∷ us) (t ∷ ts) f g =
    let o = one_token before u t bytes f.0 g.0 f.1 g.1 in
    let r = whole_longest n (u ∷ before) f.0 x us ts f.3
    (subst (λ (v : Token). Front n (v ∷ before) f.0 ts x) (sym o.0) (subst (λ (v : List ℕ). Front n (t ∷ before) v ts x) (sym o.1) g.3)) in
    (r.0, λ i. o.0 i ∷ r.1 i)

-- the contents by the tokens
pub contents_by_tokens : (bytes : List ℕ) (x : Contents) (h : Spells bytes x) → x ≡ contents_of (tags_of (token_tags h.tokens))
contents_by_tokens bytes x h = h.contents_are ∙ ap contents_of (sym (selects_the_tree (events [] 0 h.tokens) h.tree h.tree_is))

pub one_repository : (bytes : List ℕ) (x y : Contents) → Spells bytes x → Spells bytes y → x ≡ y
one_repository bytes x y h k =
    contents_by_tokens bytes x h ∙ ap (λ ts. contents_of (tags_of (token_tags ts))) (one_marking bytes h.tokens k.tokens h.marks k.marks) ∙ sym (contents_by_tokens bytes y k)

pub spelled_has_none : (bytes : List ℕ) (x : Contents) (f : LoadFault) → Spells bytes x → HasLoadFault bytes f → ⊥
spelled_has_none bytes x f h k = by k
  where
    all : take file_limit bytes ≡ bytes
    all = take_all file_limit bytes h.short

    by : HasLoadFault bytes f → ⊥
    by (broken ts rest a b first none) =
        let r = whole_longest tag_limit [] bytes rest h.tokens ts h.marks (subst (λ v. Front tag_limit [] v ts rest) all a) in
        not_sound ts h.tokens r.0 f.rule f.place r.1 first h.sound
    by (markup m g counts s e) =
        whole_has_none bytes m (record { tokens = h.tokens; marks = h.marks; clean = h.clean; over = h.over }) (subst (λ v. MarkFault v m) all g)
    by (long us over l c only s e) = let short : length bytes ≤ file_limit = h.short in omega (arith, short, over)
