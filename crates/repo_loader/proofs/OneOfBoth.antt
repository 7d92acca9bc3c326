-- Every input spells a repository or has a first fault.
use Rattle.std.proofs.Common.{◌≡◌, ℕ, zero, suc, ◌<◌, ◌≤◌, Bool, true, false, true≢false, List, [], ◌∷◌, ◌++◌, length, take, Some, None, refl, sym, ap, ◌∙◌, subst, append_assoc, append-nil, ◌⊎◌, inl, inr, arith}
use Rattle.std.specs.Prelude.{nat_le}
use Rattle.std.proofs.lemmas.Bool.Decides.{nat_tests}
use Rattle.std.proofs.lemmas.List.{take_all}
use Rattle.lexical_core.specs.declared.rule.Rule.{Rule}
use Rattle.lexical_core.specs.declared.rule.Rule.TheVariants.{Truncated}
use Rattle.markup.specs.Token.{Token}
use Rattle.markup.specs.Marks.{Front, Cell, tag_limit}
use Rattle.markup.specs.Faults.{Fault, MarkFault, IsWhole, IsClean, Next, broken as next_broken, halts, cut, too_long, WholeOrFaulty}
use Rattle.markup.proofs.NoCut.{is_cut_rule, NoCut, rule_no_cut}
use Rattle.markup.proofs.TokenLaw.{one_token}
use Rattle.markup.proofs.OneFault.{one_fault, whole_has_none}
use Rattle.markup.proofs.TokensBehind.{tokens_behind, behind}
use Rattle.repo_objects.specs.Repository.{Contents}
use Rattle.repo_loader.specs.declared.fault.LoadFault.{LoadFault}
use Rattle.repo_loader.specs.Selected.{FileTag, PlacedTag, tree_tags}
use Rattle.repo_loader.specs.File.{contents_of}
use Rattle.repo_loader.specs.FileFaults.{BreaksTagRule, AreSoundTags, tags_of}
use Rattle.repo_loader.specs.Laws.{OneOfBoth}
use Rattle.repo_loader.specs.Loaded.{file_limit, token_tags, Spells, HasLoadFault, broken, markup, long}
use Rattle.repo_loader.proofs.OneRepository.{whole_longest}
use Rattle.repo_loader.proofs.WholeTrees.{whole_tree}

-- ---- the least rule

-- a number of some sort, and so a least one
has_least : (P : ℕ → Type 0) (n k : ℕ) → k ≤ n → P k → ((r : ℕ) → P r → ((o : ℕ) → P o → r ≤ o) → ⊥) → ⊥
has_least P zero k le p none = none k p (λ o q. omega (arith, le))
has_least P (suc n) k le p none = none k p (λ o q. by o (nat_le k o) refl (λ less. has_least P n o (omega (arith, less, le)) q none))
  where
    by : (o : ℕ) (b : Bool) → nat_le k o ≡ b → (o < k → ⊥) → k ≤ o
    by o true e later = grind (arith, nat_tests)
    by o false e later = let less : o < k = grind (arith, nat_tests) in absurd (later less)

-- ---- the first element that breaks a rule

-- an element that breaks a rule behind these, the first and its least rule
record Found (acc : List FileTag) (ts : List PlacedTag) : Type 0 where
  before : List PlacedTag
  tag : PlacedTag
  after : List PlacedTag
  rule : ℕ
  split : ts ≡ before ++ tag ∷ after
  sound : AreSoundTags acc before
  breaks : BreaksTagRule (acc ++ tags_of before) tag.tag rule
  least : (other : ℕ) → BreaksTagRule (acc ++ tags_of before) tag.tag other → rule ≤ other

sound_or_found : (acc : List FileTag) (ts : List PlacedTag) → (AreSoundTags acc ts → ⊥) → (Found acc ts → ⊥) → ⊥
sound_or_found acc [] s f = s tt
sound_or_found acc (t ∷ ts) s f =
    sound_or_found (acc ++ t.tag ∷ []) ts (λ later. s (head, later))
    (λ k. f (record {
      before = t ∷ k.before;
      tag = k.tag;
      after = k.after;
      rule = k.rule;
      split = ap (λ l. t ∷ l) k.split;
      sound = (head, k.sound);
      breaks = subst (λ a. BreaksTagRule a k.tag.tag k.rule) (append_assoc acc (t.tag ∷ []) (tags_of k.before)) k.breaks;
      least = λ o b. k.least o (subst (λ a. BreaksTagRule a k.tag.tag o) (sym (append_assoc acc (t.tag ∷ []) (tags_of k.before))) b);
    }))
  where
    head : (rule : ℕ) → BreaksTagRule acc t.tag rule → ⊥
    head rule b = has_least (BreaksTagRule acc t.tag) rule rule (omega arith) b (λ r p l. f (record {
      before = [];
      tag = t;
      after = ts;
      rule = r;
      split = refl;
      sound = tt;
      breaks = subst (λ a. BreaksTagRule a t.tag r) (sym (append-nil acc)) p;
      least = λ o q. l o (subst (λ a. BreaksTagRule a t.tag o) (append-nil acc) q);
    }))

-- ---- bytes that end too early

-- where bytes are cut no token stands
cut_none : (n : ℕ) (before : List Token) (bytes : List ℕ) (rule : Rule) (at : ℕ) → Next n before bytes rule at → rule ≡ Truncated → (t : Token) (after : List ℕ) → Cell before t bytes after → ⊥
cut_none n before bytes rule at (next_broken u more cell short is place) e t after k =
    true≢false (ap is_cut_rule (sym e) ∙ subst NoCut is (rule_no_cut before u))
cut_none n before bytes rule at (halts chars tail shown is none goes stops few place) e t after k = none t after k
cut_none n before bytes rule at (cut chars part is none goes front few over r place) e t after k = none t after k
cut_none n before bytes rule at (too_long chars part rest is goes unended tag front few r place) e t after k =
    true≢false (ap is_cut_rule (sym e ∙ r))

-- so no list of tokens goes further
cut_longest : (n : ℕ) (before : List Token) (bytes x y : List ℕ) (us ts : List Token) (rule : Rule) (at : ℕ) → Front n before bytes us y → Next n (tokens_behind before us) y rule at → rule ≡ Truncated
    → Front n before bytes ts x → (more : List Token) × (us ≡ ts ++ more)
cut_longest n before bytes x y us [] rule at f next e g = (us, refl)
cut_longest n before bytes x y [] (t ∷ ts) rule at f next e g = absurd (cut_none n before bytes rule at (subst (λ v. Next n before v rule at) (sym f) next) e t g.0 g.1)
cut_longest n before bytes x y (u ∷ us) (t ∷ ts) rule at f next e g =
    let o = one_token before u t bytes f.0 g.0 f.1 g.1 in
    let r = cut_longest n (u ∷ before) f.0 x y us ts rule at f.3 next e
    (subst (λ (v : Token). Front n (v ∷ before) f.0 ts x) (sym o.0) (subst (λ (v : List ℕ). Front n (t ∷ before) v ts x) (sym o.1) g.3)) in
    (r.0, λ i. o.0 i ∷ r.1 i)

-- ---- one of both

module _ (bytes : List ℕ) (none_spelled : (x : Contents) → Spells bytes x → ⊥) (none_fault : (f : LoadFault) → HasLoadFault bytes f → ⊥) where
  -- the elements of these tokens break no rule
  all_sound : (ts : List Token) (rest : List ℕ) → Front tag_limit [] (take file_limit bytes) ts rest → IsClean [] ts → (AreSoundTags [] (token_tags ts) → ⊥) → ⊥
  all_sound ts rest f c s = sound_or_found [] (token_tags ts) s (λ k. none_fault (record { rule = k.rule; markup = None; place = k.tag.place })
      (broken ts rest f c (record { before = k.before; tag = k.tag; after = k.after; split = k.split; sound = k.sound; broken = k.breaks; least = k.least; place_is = refl }) refl))

  whole : IsWhole (take file_limit bytes) → ⊥
  whole w = all_sound w.tokens [] w.marks w.clean (λ sound. by sound (nat_le (length bytes) file_limit) refl)
    where
      by : AreSoundTags [] (token_tags w.tokens) → (b : Bool) → nat_le (length bytes) file_limit ≡ b → ⊥
      by sound true e =
          let short : length bytes ≤ file_limit = grind (arith, nat_tests) in
          let tree = whole_tree w.tokens w.clean w.over in
          none_spelled (contents_of (tree_tags tree.0)) (record {
            short = short;
            tokens = w.tokens;
            marks = subst (λ v. Front tag_limit [] v w.tokens []) (take_all file_limit bytes short) w.marks;
            clean = w.clean;
            over = w.over;
            sound = sound;
            tree = tree.0;
            tree_is = tree.1;
            contents_are = refl;
          })
      by sound false e =
          let more : file_limit < length bytes = grind (arith, nat_tests) in
          none_fault (record { rule = 6; markup = None; place = file_limit })
          (long w.tokens more (record { rest = []; front = w.marks; longest = λ us y f. whole_longest tag_limit [] (take file_limit bytes) y w.tokens us w.marks f }) w.clean
          (λ f m. absurd (whole_has_none (take file_limit bytes) f w m)) sound refl)

  faulty : (f : Fault) → MarkFault (take file_limit bytes) f → ⊥
  faulty f m = all_sound m.tokens m.rest m.front m.clean (λ sound. none_fault (record { rule = 1; markup = Some f.rule; place = f.place }) (markup f m (λ e. by sound e (nat_le (length bytes) file_limit) refl) sound refl))
    where
      by : AreSoundTags [] (token_tags m.tokens) → f.rule ≡ Truncated → (b : Bool) → nat_le (length bytes) file_limit ≡ b → length bytes ≤ file_limit
      by sound e true k = grind (arith, nat_tests)
      by sound e false k =
          let more : file_limit < length bytes = grind (arith, nat_tests) in
          absurd (none_fault (record { rule = 6; markup = None; place = file_limit })
          (long m.tokens more (record { rest = m.rest; front = m.front; longest = λ us y g. cut_longest tag_limit [] (take file_limit bytes) y m.rest m.tokens us f.rule m.at m.front (subst (λ v. Next tag_limit v m.rest f.rule m.at) (behind m.tokens) m.next) e g }) m.clean
          (λ g k. ap (λ (x : Fault). x.rule) (one_fault (take file_limit bytes) g f k m) ∙ e) sound refl))

pub one_of_both : WholeOrFaulty → OneOfBoth
one_of_both given bytes none_spelled none_fault = by (given (take file_limit bytes))
  where
    by : IsWhole (take file_limit bytes) ⊎ ((f : Fault) × MarkFault (take file_limit bytes) f) → ⊥
    by (inl w) = whole bytes none_spelled none_fault w
    by (inr (f, m)) = faulty bytes none_spelled none_fault f m
