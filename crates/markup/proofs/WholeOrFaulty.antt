-- Every text is whole or has a first fault: the reader of tokens, as the definitions have it, finds one or the other.
use Rattle.std.proofs.Common.{◌≡◌, ℕ, zero, suc, Bool, true, false, ◌==◌, ◌+◌, ◌<◌, ◌^◌, ◌⊎◌, inl, inr, List, [], ◌∷◌, ◌++◌, length, reverse, Option, Some, None, refl, sym, ◌∙◌, ap, subst, append_assoc, append-nil, length-append, arith}
use Rattle.std.specs.Char.{encode_utf8, IsScalar}
use Rattle.std.proofs.lemmas.Bool.{both_ways, cases_lt, cases_Bool, eqb-true}
use Rattle.std.proofs.lemmas.Bool.Decides.{nat_tests}
use lib.Utf8.{scalar, scalar_fits}
use Rattle.lexical_core.specs.Utf8.{Steps, IsNoFront}
use Rattle.lexical_core.specs.declared.rule.Rule.{Rule}
use Rattle.lexical_core.specs.declared.utf8.Utf8.{Utf8}
use Rattle.lexical_core.specs.declared.utf8.Utf8.TheVariants.{More as MoreBytes, Char, Bad}
use Rattle.markup.specs.Token.{Token}
use Rattle.markup.specs.Marks.{tag_limit}
use Rattle.markup.specs.Faults.{rule_of, is_over, IsClean, Fault, MarkFault, IsWhole, WholeOrFaulty}
use Rattle.markup.specs.inner.Drafts.{no_draft}
use Rattle.markup.specs.inner.Tokenizers.{Outcome, More, EndedToken, Refused, AdvancedBy, on_utf8, byte_counted, settle_character, open_at, FinishesBy}
use Rattle.markup.specs.inner.Inputs.{ReadsTokens, Any, is_cut, AdvancesInput, SettlesInput, settled_tokens}
use Rattle.markup.specs.declared.scan.Position.TheVariants.{Start as AtStart}
use Rattle.markup.specs.declared.scan.Scan.TheVariants.{Begin}
use Rattle.markup.specs.declared.tokenizer.Settled.{Settled}
use Rattle.markup.specs.declared.tokenizer.Finish.{Finish}
use Rattle.markup.specs.declared.tokenizer.Finish.TheVariants.{Nothing, Return, Open}
use Rattle.markup.specs.declared.tokenizer.Tokenizer.{Tokenizer}
use Rattle.markup.proofs.InputEnds.{ends_whole, ends_open, ends_cut}
use Rattle.markup.proofs.InputLemmas.{reads_none}
use Rattle.markup.proofs.InputSteps.{settles_input, advances_input}
use Rattle.markup.proofs.SettleLemmas.{settles_by, settled_place, finishes_by}
use Rattle.markup.proofs.TokenizerLemmas.{advances_by, advanced_place, none_front}

-- ---- a byte goes on in a character or in none

-- the list begins so, and with what behind
front_of : (xs ys : List ℕ) → ((rest : List ℕ) × (ys ≡ xs ++ rest)) ⊎ ((rest : List ℕ) → ys ≡ xs ++ rest → ⊥)
front_of [] ys = inl (ys, refl)
front_of (x ∷ xs) [] = inr (λ rest e. nothing x (xs ++ rest) e) where
  nothing : (x : ℕ) (v : List ℕ) → [] ≡ x ∷ v → ⊥
  nothing x v e = cc
front_of (x ∷ xs) (y ∷ ys) = by (y == x) refl (front_of xs ys) where
  heads : (a b : ℕ) (v w : List ℕ) → a ∷ v ≡ b ∷ w → (a ≡ b) × (v ≡ w)
  heads a b v w e = (cc, cc)

  by : (t : Bool) → (y == x) ≡ t → ((rest : List ℕ) × (ys ≡ xs ++ rest)) ⊎ ((rest : List ℕ) → ys ≡ xs ++ rest → ⊥) → ((rest : List ℕ) × (y ∷ ys ≡ (x ∷ xs) ++ rest)) ⊎ ((rest : List ℕ) → y ∷ ys ≡ (x ∷ xs) ++ rest → ⊥)
  by true e (inl f) = inl (f.0, ap (λ v. v ∷ ys) (eqb-true y x e) ∙ ap (λ v. x ∷ v) f.1)
  by true e (inr n) = inr (λ rest q. n rest (heads y x ys (xs ++ rest) q).1)
  by false e f = inr (λ rest q. both_ways (y == x) e (same y x (heads y x ys (xs ++ rest) q).0)) where
    same : (a b : ℕ) → a ≡ b → (a == b) ≡ true
    same a b e = grind (arith, nat_tests)

-- a character that begins so
record BeginsSo (bytes : List ℕ) : Type 0 where
  char : ℕ
  rest : List ℕ
  scalar : IsScalar char
  spelled : encode_utf8 char ≡ bytes ++ rest

-- among the numbers below a limit there is one, or none
found_below : (bytes : List ℕ) (n : ℕ) → BeginsSo bytes ⊎ ((c : ℕ) (rest : List ℕ) → c < n → IsScalar c → encode_utf8 c ≡ bytes ++ rest → ⊥)
found_below bytes zero = inr (λ c rest l s e. absurd (omega arith))
found_below bytes (suc n) = by (found_below bytes n) (cases_Bool (scalar n)) (front_of bytes (encode_utf8 n)) where
  last : (c : ℕ) → c < suc n → (c < n) ⊎ (c ≡ n)
  last c l = elim (cases_lt c n) [ inl k ↦ inl k | inr k ↦ inr (omega arith) ]

  by : BeginsSo bytes ⊎ ((c : ℕ) (rest : List ℕ) → c < n → IsScalar c → encode_utf8 c ≡ bytes ++ rest → ⊥) → (scalar n ≡ true) ⊎ (scalar n ≡ false) → ((rest : List ℕ) × (encode_utf8 n ≡ bytes ++ rest)) ⊎ ((rest : List ℕ) → encode_utf8 n ≡ bytes ++ rest → ⊥)
      → BeginsSo bytes ⊎ ((c : ℕ) (rest : List ℕ) → c < suc n → IsScalar c → encode_utf8 c ≡ bytes ++ rest → ⊥)
  by (inl f) s e = inl f
  by (inr f) (inl s) (inl e) = inl (record { char = n; rest = e.0; scalar = s; spelled = e.1 })
  by (inr f) (inl s) (inr e) = inr (λ c rest l q p. elim (last c l) [ inl k ↦ f c rest k q p | inr k ↦ e rest (ap encode_utf8 (sym k) ∙ p) ])
  by (inr f) (inr s) e = inr (λ c rest l q p. elim (last c l) [ inl k ↦ f c rest k q p | inr k ↦ both_ways (scalar n) s (ap scalar (sym k) ∙ q) ])

begins_so : (bytes : List ℕ) → BeginsSo bytes ⊎ IsNoFront bytes
begins_so bytes = elim (found_below bytes (2 ^ 32)) [ inl f ↦ inl f | inr n ↦ inr (λ c rest s e. n c rest (scalar_fits c s) s e) ]

-- what a byte gives
record Stepped (begun : List ℕ) (byte : ℕ) : Type 0 where
  utf8 : Utf8
  new : Option (List ℕ)
  steps : Steps (Some begun) byte utf8 new

stepped : (begun : List ℕ) (byte : ℕ) → Stepped begun byte
stepped begun byte = by (begins_so (begun ++ byte ∷ [])) where
  some : (x : ℕ) (xs : List ℕ) → 0 < length (x ∷ xs)
  some x xs = omega arith

  begins : (c : ℕ) (rest : List ℕ) → IsScalar c → encode_utf8 c ≡ (begun ++ byte ∷ []) ++ rest → Stepped begun byte
  begins c [] s e = record { utf8 = Char c; new = Some []; steps = (s, e ∙ append-nil (begun ++ byte ∷ []), refl) }
  begins c (x ∷ xs) s e = record { utf8 = MoreBytes; new = Some (begun ++ byte ∷ []); steps = (record { char = c; rest = x ∷ xs; scalar = s; more = some x xs; spelled = e }, refl) }

  by : BeginsSo (begun ++ byte ∷ []) ⊎ IsNoFront (begun ++ byte ∷ []) → Stepped begun byte
  by (inl f) = begins f.char f.rest f.scalar f.spelled
  by (inr n) = record { utf8 = Bad; new = None; steps = (n, refl) }

-- ---- the reader of tokens

-- it has read the input, and no rule is broken
record HasRead (input : List ℕ) : Type 0 where
  z : Tokenizer
  tokens : List Token
  reads : ReadsTokens tag_limit Any z input tokens
  clean : IsClean [] tokens
  place : z.place ≡ length input

none_read : HasRead []
none_read = record {
  z = z;
  tokens = [];
  reads = reads_none z (record { chars = []; part = []; bytes_are = refl; utf8_is = refl; front = none_front; scan_is = refl; position_is = refl; place_is = refl; limit_is = refl; limited = (omega arith, omega arith); short = λ b. absurd b; settled = λ _. refl });
  clean = tt;
  place = refl;
} where
  z : Tokenizer
  z = record { alloc = record { memory = record { seal = tt } }; limit = tag_limit; utf8 = Some []; position = AtStart; scan = Begin AtStart; draft = no_draft; start = 0; place = 0 }

-- a fault is there, whatever follows
abbrev IsFaulty : List ℕ → Type 0
IsFaulty input = (more : List ℕ) → (f : Fault) × MarkFault (input ++ more) f

module _ (input : List ℕ) (byte : ℕ) (h : HasRead input) where
  abbrev s : Settled
  s = (settle_character h.z byte).0

  abbrev z1 : Tokenizer
  z1 = (settle_character h.z byte).1

  ready : SettlesInput tag_limit h.z z1 input h.tokens byte s
  ready = settles_input h.z z1 input h.tokens byte s (settles_by h.z z1 byte s refl refl) h.reads h.clean

  abbrev ts : List Token
  ts = settled_tokens s h.tokens

  -- what the byte makes of the open token
  advanced : (progress : Outcome) (z2 : Tokenizer) → z2.place ≡ length (input ++ byte ∷ []) → AdvancesInput tag_limit z1 z2 (input ++ byte ∷ []) ts progress → HasRead (input ++ byte ∷ []) ⊎ IsFaulty (input ++ byte ∷ [])
  advanced More z2 p a = inl (record { z = z2; tokens = ts; reads = a.reads; clean = ready.clean; place = p })
  advanced (EndedToken e d) z2 p a = by (rule_of (reverse ts) a.token) refl where
    by : (o : Option Rule) → rule_of (reverse ts) a.token ≡ o → HasRead (input ++ byte ∷ []) ⊎ IsFaulty (input ++ byte ∷ [])
    by None e = inl (record { z = z2; tokens = ts ++ a.token ∷ []; reads = a.reads; clean = a.clean e; place = p })
    by (Some rule) e = inr (λ more. (_, a.broken rule e more))
  advanced (Refused rule) z2 p a = inr (λ more. (_, a more))

  read_byte : HasRead (input ++ byte ∷ []) ⊎ IsFaulty (input ++ byte ∷ [])
  read_byte =
      let part : List ℕ = ready.reads.opens.part in
      let u : Stepped part byte = stepped part byte in
      let z2 : Tokenizer = (on_utf8 (byte_counted z1 u.new) u.utf8).1 in
      let progress : Outcome = (on_utf8 (byte_counted z1 u.new) u.utf8).0 in
      let a : AdvancedBy z1 z2 byte progress = record { utf8 = u.utf8; begun = u.new; steps = subst (λ v. Steps v byte u.utf8 u.new) (sym ready.reads.opens.utf8_is) u.steps; value = refl; after = refl } in
      advanced progress z2 (advanced_place z1 z2 byte progress a ∙ (ap (λ n. n + 1) (settled_place h.z z1 byte refl ∙ h.place) ∙ sym (length-append input (byte ∷ []))))
      (advances_input z1 z2 input ts byte progress (advances_by z1 z2 byte progress a) ready.reads ready.awaited ready.clean)

-- at the end of the input
ends_read : (input : List ℕ) (h : HasRead input) → IsWhole input ⊎ ((f : Fault) × MarkFault input f)
ends_read input h = by (open_at h.z.scan h.z) (finishes_by h.z (open_at h.z.scan h.z) refl) (cases_Bool (is_over (reverse h.tokens))) where
  over : (result : Finish) → FinishesBy h.z result → is_cut result ≡ false → (is_over (reverse h.tokens) ≡ true) ⊎ (is_over (reverse h.tokens) ≡ false) → IsWhole input ⊎ ((f : Fault) × MarkFault input f)
  over result q k (inl o) = inl (ends_whole h.z input h.tokens h.reads result q h.clean k o)
  over result q k (inr o) = inr (_, ends_cut h.z input h.tokens h.reads result q h.clean k o)

  by : (result : Finish) → FinishesBy h.z result → (is_over (reverse h.tokens) ≡ true) ⊎ (is_over (reverse h.tokens) ≡ false) → IsWhole input ⊎ ((f : Fault) × MarkFault input f)
  by Open q o = inr (_, ends_open h.z input h.tokens h.reads q h.clean)
  by Nothing q o = over Nothing q refl o
  by Return q o = over Return q refl o

-- more bytes behind an input
reads_on : (input behind : List ℕ) → HasRead input ⊎ IsFaulty input → IsWhole (input ++ behind) ⊎ ((f : Fault) × MarkFault (input ++ behind) f)
reads_on input behind (inr f) = inr (f behind)
reads_on input [] (inl h) = subst (λ v. IsWhole v ⊎ ((f : Fault) × MarkFault v f)) (sym (append-nil input)) (ends_read input h)
reads_on input (byte ∷ behind) (inl h) = subst (λ v. IsWhole v ⊎ ((f : Fault) × MarkFault v f)) (append_assoc input (byte ∷ []) behind) (reads_on (input ++ byte ∷ []) behind (read_byte input byte h))

pub whole_or_faulty : WholeOrFaulty
whole_or_faulty bytes = reads_on [] bytes (inl none_read)
