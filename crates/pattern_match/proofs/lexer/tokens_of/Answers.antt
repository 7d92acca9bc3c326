use Rattle.std.proofs.Common.{◌≡◌, ℕ, ◌+◌, ◌<◌, List, ◌∷◌, ◌++◌, drop, get_or, length, sym, ap, ◌∙◌, subst, Some, append_assoc}
use Rattle.std.proofs.lemmas.List.{at_drop_more}
use Rattle.pattern_match.specs.declared.control.Control.{Control}
use Rattle.pattern_match.specs.declared.token.Token.{Token}
use Rattle.pattern_match.specs.Control.{next_control}
use Rattle.pattern_match.specs.Tokens.{emits, emit_tokens}
use Rattle.pattern_match.proofs.ControlLemmas.{SoundIf, next_sound}
use Rattle.pattern_match.proofs.lexer.tokens_of.Goals as goal

one_more : (k after : Control) (text : List ℕ) (n c : ℕ) (old new : List Token) → n < length text → c ≡ get_or text n c → next_control k c ≡ Some after → new ≡ old ++ emits k c
    → new ++ emit_tokens (Some after) (drop (n + 1) text) ≡ old ++ emit_tokens (Some k) (drop n text)
one_more k after text n c old new l e s p =
    ap (λ x. x ++ emit_tokens (Some after) (drop (n + 1) text)) p
    ∙ append_assoc old (emits k c) (emit_tokens (Some after) (drop (n + 1) text))
    ∙ ap (λ o. old ++ (emits k c ++ emit_tokens o (drop (n + 1) text))) (sym s)
    ∙ ap (λ x. old ++ emit_tokens (Some k) (x ∷ drop (n + 1) text)) e
    ∙ ap (λ x. old ++ x) (sym (at_drop_more (λ cs. emit_tokens (Some k) cs) text n c l))

pub loop-c-preserved : goal.loop-c-preserved
loop-c-preserved c =
    let s : next_control c.loop-c.control c.c-item.result ≡ Some c.in-Some.after = sym c.control_after.ensures ∙ c.in-Some.is in
    record {
      tokens = one_more c.loop-c.control c.in-Some.after c.args.text.now c.loop-c.c-index c.c-item.result c.loop-c.tokens.items c.push_tokens.new.tokens.items
          c.loop-c-test.true c.c-item.is s c.in_ok-push_tokens.ensures ∙ c.loop-c.invariant.tokens;
      sound = subst SoundIf s (next_sound c.loop-c.control c.c-item.result c.loop-c.invariant.sound);
    }
