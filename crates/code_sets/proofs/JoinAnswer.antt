-- Bytes and a repository have one answer: the repository that they make, or their first fault.
use Rattle.std.proofs.Common.{◌≡◌, ℕ, ◌<◌, ◌≤◌, ◌⊎◌, Bool, true, false, ◌||◌, not, true≢false, leb, List, [], ◌∷◌, ◌++◌, length, IsTrue, refl, sym, ap, subst, ◌∙◌, inl, inr, arith}
use Rattle.std.specs.List.{list_any}
use Rattle.std.proofs.lemmas.Bool.Decides.{leb_tells}
use Rattle.repo_objects.specs.Repository.{Contents, DictionaryEntry}
use Rattle.code_sets.specs.declared.record.CodeRecord.{CodeRecord}
use Rattle.code_sets.specs.Codes.{CodesFault, HasCodesFault, long, reading, joining, JoinFault, Joins, JoinsAll, ReadsCodes, ReadFault, is_taken, joined_contents, codes_limit}
use Rattle.code_sets.proofs.OneAnswer.{one_reading, one_read_fault, read_has_none}
use Rattle.code_sets.proofs.SomeAnswer.{reads_or_has_fault}

not_true : (b : Bool) → IsTrue (not b) → b ≡ false
not_true true h = absurd (true≢false (sym h))
not_true false h = refl

head_taken : (entries : List DictionaryEntry) (r : CodeRecord) (rs : List CodeRecord) → is_taken entries r ≡ true → JoinsAll (r ∷ rs) entries → ⊥
head_taken entries r rs taken none = true≢false (sym (ap (λ b. b || list_any (is_taken entries) rs) taken) ∙ not_true (is_taken entries r || list_any (is_taken entries) rs) none)

tail_joins : (entries : List DictionaryEntry) (r : CodeRecord) (rs : List CodeRecord) → JoinsAll (r ∷ rs) entries → JoinsAll rs entries
tail_joins entries r rs none = by (is_taken entries r) none
  where
    by : (b : Bool) → IsTrue (not (b || list_any (is_taken entries) rs)) → IsTrue (not (list_any (is_taken entries) rs))
    by true h = absurd (true≢false (sym h))
    by false h = h

heads : (r s : CodeRecord) (rs ts : List CodeRecord) → r ∷ rs ≡ s ∷ ts → (r ≡ s) × (rs ≡ ts)
heads r s rs ts e = (cc, cc)

-- the first record that names one is one
first_taken : (entries : List DictionaryEntry) (a b : List CodeRecord) (r s : CodeRecord) (xs ys : List CodeRecord) → a ++ r ∷ xs ≡ b ++ s ∷ ys → JoinsAll a entries → JoinsAll b entries
    → is_taken entries r ≡ true → is_taken entries s ≡ true → r ≡ s
first_taken entries [] [] r s xs ys e na nb tr ts = (heads r s xs ys e).0
first_taken entries [] (c ∷ b) r s xs ys e na nb tr ts =
    absurd (head_taken entries c b (subst (λ x. is_taken entries x ≡ true) (heads r c xs (b ++ s ∷ ys) e).0 tr) nb)
first_taken entries (c ∷ a) [] r s xs ys e na nb tr ts =
    absurd (head_taken entries c a (subst (λ x. is_taken entries x ≡ true) (sym (heads c s (a ++ r ∷ xs) ys e).0) ts) na)
first_taken entries (c ∷ a) (d ∷ b) r s xs ys e na nb tr ts =
    first_taken entries a b r s xs ys (heads c d (a ++ r ∷ xs) (b ++ s ∷ ys) e).1 (tail_joins entries c a na) (tail_joins entries d b nb) tr ts

one_join_fault : (lists : List CodeRecord) (entries : List DictionaryEntry) (m n : ℕ) → JoinFault lists entries m → JoinFault lists entries n → m ≡ n
one_join_fault lists entries m n h k =
    h.number_is ∙ ap (λ (r : CodeRecord). r.number) (first_taken entries h.before k.before h.first k.first h.after k.after (sym h.split ∙ k.split) h.none k.none h.taken k.taken) ∙ sym k.number_is

taken_within : (entries : List DictionaryEntry) (a : List CodeRecord) (r : CodeRecord) (xs : List CodeRecord) → is_taken entries r ≡ true → JoinsAll (a ++ r ∷ xs) entries → ⊥
taken_within entries [] r xs t none = head_taken entries r xs t none
taken_within entries (c ∷ a) r xs t none = taken_within entries a r xs t (tail_joins entries c (a ++ r ∷ xs) none)

joins_no_fault : (lists : List CodeRecord) (entries : List DictionaryEntry) (n : ℕ) → JoinsAll lists entries → JoinFault lists entries n → ⊥
joins_no_fault lists entries n none h = taken_within entries h.before h.first h.after h.taken (subst (λ l. JoinsAll l entries) h.split none)

pub one_joined : (contents : Contents) (bytes : List ℕ) (a b : Contents) → Joins contents bytes a → Joins contents bytes b → a ≡ b
one_joined contents bytes a b h k = h.new_is ∙ ap (λ l. joined_contents l contents) (one_reading bytes h.lists k.lists h.reads k.reads) ∙ sym k.new_is

same_fault : (f g : CodesFault) → f.rule ≡ g.rule → f.number ≡ g.number → f ≡ g
same_fault f g e n = λ i. record { rule = e i; number = n i }

pub one_codes_fault : (contents : Contents) (bytes : List ℕ) (f g : CodesFault) → HasCodesFault contents bytes f → HasCodesFault contents bytes g → f ≡ g
one_codes_fault contents bytes f g (long h e) (long k e') = e ∙ sym e'
one_codes_fault contents bytes f g (long h e) (reading s r) = absurd (omega (arith, h, s))
one_codes_fault contents bytes f g (long h e) (joining s lists reads j r) = absurd (omega (arith, h, s))
one_codes_fault contents bytes f g (reading s r) (long k e) = absurd (omega (arith, k, s))
one_codes_fault contents bytes f g (reading s r) (reading s' r') = let one = one_read_fault bytes f.rule g.rule f.number g.number r r' in same_fault f g one.0 one.1
one_codes_fault contents bytes f g (reading s r) (joining s' lists reads j r') = absurd (read_has_none bytes lists f.rule f.number reads r)
one_codes_fault contents bytes f g (joining s lists reads j r) (long k e) = absurd (omega (arith, k, s))
one_codes_fault contents bytes f g (joining s lists reads j r) (reading s' r') = absurd (read_has_none bytes lists g.rule g.number reads r')
one_codes_fault contents bytes f g (joining s lists reads j r) (joining s' lists' reads' j' r') =
    same_fault f g (r ∙ sym r')
    (one_join_fault lists contents.objects f.number g.number j (subst (λ l. JoinFault l contents.objects g.number) (one_reading bytes lists' lists reads' reads) j'))

pub joined_has_none : (contents : Contents) (bytes : List ℕ) (new : Contents) (fault : CodesFault) → Joins contents bytes new → HasCodesFault contents bytes fault → ⊥
joined_has_none contents bytes new fault h (long k e) = omega (arith, h.short, k)
joined_has_none contents bytes new fault h (reading s r) = read_has_none bytes h.lists fault.rule fault.number h.reads r
joined_has_none contents bytes new fault h (joining s lists reads j r) =
    joins_no_fault h.lists contents.objects fault.number h.none (subst (λ l. JoinFault l contents.objects fault.number) (one_reading bytes lists h.lists reads h.reads) j)

-- no record names one, or a first one does
all_or_first : (entries : List DictionaryEntry) (lists : List CodeRecord) → JoinsAll lists entries ⊎ ((number : ℕ) × JoinFault lists entries number)
all_or_first entries [] = inl refl
all_or_first entries (r ∷ rs) = by (is_taken entries r) refl (all_or_first entries rs)
  where
    joins_more : (rs : List CodeRecord) → is_taken entries r ≡ false → JoinsAll rs entries → JoinsAll (r ∷ rs) entries
    joins_more rs e none = ap (λ b. not (b || list_any (is_taken entries) rs)) e ∙ none

    by : (b : Bool) → is_taken entries r ≡ b → JoinsAll rs entries ⊎ ((number : ℕ) × JoinFault rs entries number) → JoinsAll (r ∷ rs) entries ⊎ ((number : ℕ) × JoinFault (r ∷ rs) entries number)
    by true e later = inr (r.number, record { before = []; first = r; after = rs; split = refl; none = refl; taken = e; number_is = refl })
    by false e (inl none) = inl (joins_more rs e none)
    by false e (inr (number, h)) =
        inr (number, record { before = r ∷ h.before; first = h.first; after = h.after; split = ap (λ l. r ∷ l) h.split; none = joins_more h.before e h.none; taken = h.taken; number_is = h.number_is })

pub joins_or_has_fault : (contents : Contents) (bytes : List ℕ) → ((new : Contents) × Joins contents bytes new) ⊎ ((fault : CodesFault) × HasCodesFault contents bytes fault)
joins_or_has_fault contents bytes = by (leb_tells (length bytes) codes_limit) (reads_or_has_fault bytes)
  where
    join : length bytes ≤ codes_limit → (lists : List CodeRecord) → ReadsCodes bytes lists → JoinsAll lists contents.objects ⊎ ((number : ℕ) × JoinFault lists contents.objects number)
        → ((new : Contents) × Joins contents bytes new) ⊎ ((fault : CodesFault) × HasCodesFault contents bytes fault)
    join short lists reads (inl none) = inl (joined_contents lists contents, record { short = short; lists = lists; reads = reads; none = none; new_is = refl })
    join short lists reads (inr (number, h)) = inr (record { rule = 4; number = number }, joining short lists reads h refl)

    by : ((leb (length bytes) codes_limit ≡ true) × (length bytes ≤ codes_limit)) ⊎ ((leb (length bytes) codes_limit ≡ false) × (codes_limit < length bytes))
        → ((lists : List CodeRecord) × ReadsCodes bytes lists) ⊎ ((rule : ℕ) × (number : ℕ) × ReadFault bytes rule number)
        → ((new : Contents) × Joins contents bytes new) ⊎ ((fault : CodesFault) × HasCodesFault contents bytes fault)
    by (inr h) read = inr (record { rule = 5; number = 0 }, long h.1 refl)
    by (inl h) (inr (rule, number, fault)) = inr (record { rule = rule; number = number }, reading h.1 fault)
    by (inl h) (inl (lists, reads)) = join h.1 lists reads (all_or_first contents.objects lists)
