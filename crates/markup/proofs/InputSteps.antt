-- What a byte makes of the tokens that have been read of an input.
use Rattle.std.proofs.Common.{ℕ, List, [], ◌∷◌, ◌++◌, length, reverse, refl, sym, ap, subst, add-zero}
use Rattle.std.specs.List.{flat_map}
use Rattle.lexical_core.specs.declared.rule.Rule.{Rule}
use Rattle.markup.specs.Token.{Token, LineEnd, Character, Cr, token_bytes}
use Rattle.markup.specs.Faults.{IsClean, Next, broken, MarkFaultUnder}
use Rattle.markup.specs.inner.Tokenizers.{Outcome, More, EndedToken, Refused, IsAwaited, EndsToken, Advances, AdvancesBy, Settles, SettlesBy}
use Rattle.markup.specs.inner.Inputs.{ReadsTokens, Begins, Any, settled_tokens, SettlesInput, ShowsRule, ReadsToken, AdvancesInput}
use Rattle.markup.specs.declared.draft.Draft.{Draft}
use Rattle.markup.specs.declared.scan.Ended.{Ended}
use Rattle.markup.specs.declared.tokenizer.Settled.{Settled}
use Rattle.markup.specs.declared.tokenizer.Settled.TheVariants.{Nothing as NothingSettled, Return as ReturnSettled, Bracket as BracketSettled, Brackets as BracketsSettled}
use Rattle.markup.specs.declared.tokenizer.Tokenizer.{Tokenizer}
use Rattle.markup.proofs.InputLemmas.{clean_snoc, reads_more, reads_token, reads_fault, reads_settled, reads_settled_two, reads_begins}
use Rattle.markup.proofs.InputEvents.{events-settled, events-more, events-ended}
use Rattle.markup.proofs.CdataLemmas.{settled_clean, settled_two_clean}

module _ {limit : ℕ} (old new : Tokenizer) (input : List ℕ) (ts : List Token) (byte : ℕ) where
  -- what a byte settles
  settled_input : (r : ReadsTokens limit Any old input ts) → IsClean [] ts → (result : Settled) → Settles limit old new (reverse ts) r.bytes byte result → ReadsTokens limit (Begins byte) new input (settled_tokens result ts) × IsClean [] (settled_tokens result ts)
  settled_input r c NothingSettled k = (subst (λ z. ReadsTokens limit (Begins byte) z input ts) (sym k) (reads_begins old input ts byte r), c)
  settled_input r c ReturnSettled k = (reads_settled new input byte ts old (LineEnd Cr) r refl k, clean_snoc ts (LineEnd Cr) c refl)
  settled_input r c BracketSettled k = (reads_settled new input byte ts old (Character 93) r refl k, settled_clean old new input ts byte r c k)
  settled_input r c BracketsSettled k = (reads_settled_two new input byte ts old r k, settled_two_clean old new input ts byte r c k)

  pub settles_input : (result : Settled) → SettlesBy old new byte result → ReadsTokens limit Any old input ts → IsClean [] ts → SettlesInput limit old new input ts byte result
  settles_input result s r c =
      let k = s limit (reverse ts) r.bytes r.opens in
      let i = settled_input r c result k.0 in
      record { reads = i.0; clean = i.1; awaited = k.1; adds = λ f g p q. events-settled old new ts r.bytes byte f g r.opens p q result s }

  -- what a byte that is taken shows
  fault_shown : (r : ReadsTokens limit (Begins byte) old input ts) (rule : Rule) → IsClean [] ts → ((more : List ℕ) → Next limit (reverse ts) ((r.bytes ++ byte ∷ []) ++ more) rule 0) → ShowsRule limit (input ++ byte ∷ []) ts rule
  fault_shown r rule c n more = subst (λ p. MarkFaultUnder limit ((input ++ byte ∷ []) ++ more) (record { rule = rule; place = p })) (add-zero (length (flat_map token_bytes ts))) (reads_fault new input byte ts old r rule more c (n more))

  token_read : (r : ReadsTokens limit (Begins byte) old input ts) → IsAwaited old.scan byte → IsClean [] ts → (e : Ended) (d : Draft) → EndsToken limit new (reverse ts) (r.bytes ++ byte ∷ []) e d → ReadsToken limit old new (input ++ byte ∷ []) ts e d
  token_read r w c e d k = record {
    token = k.token;
    ended_is = k.ended_is;
    draft_is = k.draft_is;
    reads = reads_token new input byte ts old r e d k;
    clean = clean_snoc ts k.token c;
    broken = λ rule b. fault_shown r rule c (λ more. broken k.token more (record { spelled = ap (λ v. v ++ more) (sym k.bytes_are); is = k.is more }) k.short b refl);
    adds = λ f g p q. events-ended old new ts r.bytes byte f g r.opens p q w e d k;
  }

  advanced_input : (r : ReadsTokens limit (Begins byte) old input ts) → IsAwaited old.scan byte → IsClean [] ts → (progress : Outcome) → Advances limit new (reverse ts) (r.bytes ++ byte ∷ []) progress → AdvancesInput limit old new (input ++ byte ∷ []) ts progress
  advanced_input r w c More k = record { reads = reads_more new input byte ts old r k; adds = λ f g p q. events-more old new ts r.bytes byte f g r.opens p q w k }
  advanced_input r w c (EndedToken e d) k = token_read r w c e d k
  advanced_input r w c (Refused rule) k = fault_shown r rule c k

  -- what a byte that is taken makes of the tokens
  pub advances_input : (progress : Outcome) → AdvancesBy old new byte progress → ReadsTokens limit (Begins byte) old input ts → IsAwaited old.scan byte → IsClean [] ts → AdvancesInput limit old new (input ++ byte ∷ []) ts progress
  advances_input progress a r w c = advanced_input r w c progress (a limit (reverse ts) r.bytes r.opens w)
