-- The tokens of a whole input, read a byte at a time.
use Rattle.std.proofs.Common.{◌≡◌, ℕ, true, ◌+◌, List, [], ◌∷◌, ◌++◌, length, reverse, refl, sym, ◌∙◌, ap, subst, append_assoc, length-append, arith, None}
use Rattle.std.specs.List.{flat_map}
use Rattle.std.specs.Char.{encode_utf8}
use Rattle.std.proofs.lemmas.List.{reverse-append}
use Rattle.lexical_core.specs.declared.rule.Rule.{Rule}
use Rattle.markup.specs.Token.{Token, Character, token_bytes}
use Rattle.markup.specs.Marks.{stands, Cell, Front, is_short}
use Rattle.markup.specs.Faults.{rule_of, IsClean, Next, MarkFaultUnder}
use Rattle.markup.specs.inner.Tokenizers.{IsTokenOpen, EndsToken, SettlesOne, SettlesTwo}
use Rattle.markup.specs.inner.Inputs.{ReadsTokens, Begins, Any}
use Rattle.markup.specs.declared.draft.Draft.{Draft}
use Rattle.markup.specs.declared.scan.Ended.{Ended}
use Rattle.markup.specs.declared.tokenizer.Tokenizer.{Tokenizer}
use Rattle.markup.proofs.TokensBehind.{tokens_behind, behind}

-- one more token behind a list of them
pub front_snoc : (limit : ℕ) (before : List Token) (b y z : List ℕ) (ts : List Token) (t : Token) → Front limit before b ts y → Cell (tokens_behind before ts) t y z → is_short limit t ≡ true → Front limit before b (ts ++ t ∷ []) z
front_snoc limit before b y z [] t f c s = (z, subst (λ v. Cell before t v z) (sym f) c, s, refl)
front_snoc limit before b y z (u ∷ ts) t f c s = (f.0, f.1, f.2, front_snoc limit (u ∷ before) f.0 y z ts t f.3 c s)

pub reverse_snoc : (ts : List Token) (t : Token) → reverse (ts ++ t ∷ []) ≡ t ∷ reverse ts
reverse_snoc ts t = reverse-append ts (t ∷ [])

clean_past : (before ts : List Token) (t : Token) → IsClean before ts → rule_of (tokens_behind before ts) t ≡ None → IsClean before (ts ++ t ∷ [])
clean_past before [] t c e = (e, tt)
clean_past before (u ∷ ts) t c e = (c.0, clean_past (u ∷ before) ts t c.1 e)

-- one more token that breaks no rule
pub clean_snoc : (ts : List Token) (t : Token) → IsClean [] ts → rule_of (reverse ts) t ≡ None → IsClean [] (ts ++ t ∷ [])
clean_snoc ts t c e = clean_past [] ts t c (subst (λ b. rule_of b t ≡ None) (behind ts) e)

-- one literal `]`
pub bracket_bytes : token_bytes (Character 93) ≡ 93 ∷ []
unfolding encode_utf8
bracket_bytes = refl

-- the bytes of a list of tokens
pub front_bytes : (limit : ℕ) (before : List Token) (b rest : List ℕ) (ts : List Token) → Front limit before b ts rest → b ≡ flat_map token_bytes ts ++ rest
front_bytes limit before b rest [] f = f
front_bytes limit before b rest (t ∷ ts) f = f.1.spelled ∙ (ap (λ v. token_bytes t ++ v) (front_bytes limit (t ∷ before) f.0 rest ts f.3) ∙ sym (append_assoc (token_bytes t) (flat_map token_bytes ts) rest))

-- the open token begins where the tokens end
pub reads_start : {limit : ℕ} (Follows : List ℕ → Type 0) (z : Tokenizer) (input : List ℕ) (ts : List Token) (m : List ℕ) → Follows m → ReadsTokens limit Follows z input ts → z.place ≡ length input → z.start ≡ length (flat_map token_bytes ts)
reads_start {limit} Follows z input ts m f r p = count input (flat_map token_bytes ts) r.bytes m z.start z.place p r.opens.place_is (front_bytes limit [] (input ++ m) (r.bytes ++ m) ts (r.front m f)) where
  count : (a b c m : List ℕ) (start place : ℕ) → place ≡ length a → place ≡ start + length c → a ++ m ≡ b ++ (c ++ m) → start ≡ length b
  count a b c m start place p q e = omega (arith, ap length e, length-append a m, length-append b (c ++ m), length-append c m)

-- nothing is read yet
pub reads_none : {limit : ℕ} (z : Tokenizer) → IsTokenOpen limit z [] [] → ReadsTokens limit Any z [] []
reads_none z o = record { bytes = []; front = λ more _. refl; opens = o }

module _ {limit : ℕ} (new : Tokenizer) (input : List ℕ) (byte : ℕ) (ts : List Token) where
  -- a byte that does not end the token
  pub reads_more : (old : Tokenizer) (r : ReadsTokens limit (Begins byte) old input ts) → IsTokenOpen limit new (reverse ts) (r.bytes ++ byte ∷ []) → ReadsTokens limit Any new (input ++ byte ∷ []) ts
  reads_more old r o = record {
    bytes = r.bytes ++ byte ∷ [];
    front = λ more _. subst (λ v. Front limit [] v ts ((r.bytes ++ byte ∷ []) ++ more)) (sym (append_assoc input (byte ∷ []) more))
        (subst (λ v. Front limit [] (input ++ byte ∷ more) ts v) (sym (append_assoc r.bytes (byte ∷ []) more)) (r.front (byte ∷ more) (more, refl)));
    opens = o;
  }

  -- a byte that ends it
  pub reads_token : (old : Tokenizer) (r : ReadsTokens limit (Begins byte) old input ts) (e : Ended) (d : Draft) (k : EndsToken limit new (reverse ts) (r.bytes ++ byte ∷ []) e d) → ReadsTokens limit Any new (input ++ byte ∷ []) (ts ++ k.token ∷ [])
  reads_token old r e d k = record {
    bytes = [];
    front = λ more _. subst (λ v. Front limit [] v (ts ++ k.token ∷ []) more) (sym (append_assoc input (byte ∷ []) more))
        (front_snoc limit [] (input ++ byte ∷ more) (r.bytes ++ byte ∷ more) more ts k.token (r.front (byte ∷ more) (more, refl))
        (subst (λ b. Cell b k.token (r.bytes ++ byte ∷ more) more) (behind ts) (record { spelled = sym (append_assoc r.bytes (byte ∷ []) more) ∙ ap (λ v. v ++ more) (sym k.bytes_are); is = k.is more }))
        k.short);
    opens = subst (λ b. IsTokenOpen limit new b []) (sym (reverse_snoc ts k.token)) k.next;
  }

  -- a byte that shows a fault
  pub reads_fault : (old : Tokenizer) (r : ReadsTokens limit (Begins byte) old input ts) (rule : Rule) (more : List ℕ) → IsClean [] ts → Next limit (reverse ts) ((r.bytes ++ byte ∷ []) ++ more) rule 0 → MarkFaultUnder limit ((input ++ byte ∷ []) ++ more) (record { rule = rule; place = length (flat_map token_bytes ts) + 0 })
  reads_fault old r rule more c n = record {
    tokens = ts;
    rest = (r.bytes ++ byte ∷ []) ++ more;
    at = 0;
    front = subst (λ v. Front limit [] v ts ((r.bytes ++ byte ∷ []) ++ more)) (sym (append_assoc input (byte ∷ []) more))
        (subst (λ v. Front limit [] (input ++ byte ∷ more) ts v) (sym (append_assoc r.bytes (byte ∷ []) more)) (r.front (byte ∷ more) (more, refl)));
    clean = c;
    next = n;
    place = refl;
  }

  -- a token that the byte does not go on with
  pub reads_settled : (old : Tokenizer) (t : Token) (r : ReadsTokens limit Any old input ts) → is_short limit t ≡ true → (k : SettlesOne limit new (reverse ts) r.bytes byte t) → ReadsTokens limit (Begins byte) new input (ts ++ t ∷ [])
  reads_settled old t r s k = record {
    bytes = k.rest;
    front = λ more b. front_snoc limit [] (input ++ more) (r.bytes ++ more) (k.rest ++ more) ts t (r.front more tt)
        (subst (λ c. Cell c t (r.bytes ++ more) (k.rest ++ more)) (behind ts)
        (record { spelled = ap (λ v. v ++ more) k.bytes_are ∙ append_assoc (token_bytes t) k.rest more; is = subst (λ v. stands (reverse ts) t (k.rest ++ v) ≡ true) (sym b.1) (k.is b.0) }))
        s;
    opens = subst (λ b. IsTokenOpen limit new b k.rest) (sym (reverse_snoc ts t)) k.next;
  }

  -- two brackets that the byte does not go on with
  pub reads_settled_two : (old : Tokenizer) (r : ReadsTokens limit Any old input ts) → SettlesTwo limit new (reverse ts) r.bytes byte → ReadsTokens limit (Begins byte) new input (ts ++ Character 93 ∷ Character 93 ∷ [])
  reads_settled_two old r k = record {
    bytes = [];
    front = λ more b. subst (λ v. Front limit [] (input ++ more) v more) (append_assoc ts (Character 93 ∷ []) (Character 93 ∷ []))
        (front_snoc limit [] (input ++ more) (93 ∷ more) more (ts ++ Character 93 ∷ []) (Character 93)
        (front_snoc limit [] (input ++ more) (r.bytes ++ more) (93 ∷ more) ts (Character 93) (r.front more tt)
        (subst (λ c. Cell c (Character 93) (r.bytes ++ more) (93 ∷ more)) (behind ts)
        (record { spelled = ap (λ v. v ++ more) k.bytes_are ∙ ap (λ v. v ++ 93 ∷ more) (sym bracket_bytes); is = subst (λ v. stands (reverse ts) (Character 93) (93 ∷ v) ≡ true) (sym b.1) (k.first b.0) })) refl)
        (subst (λ c. Cell c (Character 93) (93 ∷ more) more) (sym (reverse_snoc ts (Character 93)) ∙ behind (ts ++ Character 93 ∷ []))
        (record { spelled = ap (λ v. v ++ more) (sym bracket_bytes); is = subst (λ v. stands (Character 93 ∷ reverse ts) (Character 93) v ≡ true) (sym b.1) (k.second b.0) })) refl);
    opens = subst (λ b. IsTokenOpen limit new b []) (sym (reverse-append ts (Character 93 ∷ Character 93 ∷ []))) k.next;
  }

-- anything that may follow may follow with the byte first
pub reads_begins : {limit : ℕ} (z : Tokenizer) (input : List ℕ) (ts : List Token) (byte : ℕ) → ReadsTokens limit Any z input ts → ReadsTokens limit (Begins byte) z input ts
reads_begins z input ts byte r = record { bytes = r.bytes; front = λ more _. r.front more tt; opens = r.opens }
