use Rattle.std.proofs.Common.{◌≡◌, refl, ap, ◌∙◌, ◌++◌, arith, ◌<◌, ◌-◌, ℕ, zero, suc, length, take}
use Rattle.message_model.specs.Tables.{message_of}
use Rattle.der_model.specs.DerMessage.{in_der}
use Rattle.der_model.specs.Paths.{path_text}
use Rattle.der_codec.specs.Components.{added_text}
use Rattle.der_codec.specs.inner.OpenNames.{names_over, document_names}
use Rattle.der_codec.proofs.PathsOpen.{begun_path, open_path, no_path}
use Rattle.der_codec.proofs.StepTies.{ok_each}
use Rattle.der_codec.proofs.decoder.Decoder.path.Goals as goal

pub returns-then-has_begun : goal.returns-then-has_begun
returns-then-has_begun c = λ fragment s op named.
    let m = in_der fragment (message_of c.args.model.now) in
    let d = c.args.self.now in
    ok_each c.path_within.result _ _ c.path_within.ensures (λ t e. e ∙ ap (λ z. z ++ added_text m.forms c.args.added)
    (ap (λ z. path_text (names_over m.forms document_names z)) c.as_slice.ensures.value ∙ begun_path m refl d.levels.items d.due s op named (c.if-has_begun.ensures.0 refl)))

pub returns-then-count-eq0 : goal.returns-then-count-eq0
returns-then-count-eq0 c = λ fragment s op named.
    let m = in_der fragment (message_of c.args.model.now) in
    let d = c.args.self.now in
    ok_each c.path_outside.result _ _ c.path_outside.ensures (λ t e. e ∙ ap (λ z. z ++ added_text m.forms c.args.added)
    (no_path m d.levels.items d.due s op (λ b. absurd (let both = c.if-has_begun.ensures.1 b in cc)) (let z = c.if-count-eq0.true in let l = c.len-count.ensures in omega arith)))

pub returns : goal.returns
returns c = λ fragment s op named.
    let m = in_der fragment (message_of c.args.model.now) in
    let d = c.args.self.now in
    let size = c.len-count.ensures in
    let count : c.len-count.result ≡ length d.levels.items = omega arith in
    let other = c.if-count-eq0.false in
    ok_each c.path_within-2.result _ _ c.path_within-2.ensures (λ t e. e ∙ ap (λ z. z ++ added_text m.forms c.args.added)
    (ap (λ z. path_text (names_over m.forms document_names (take (c.len-count.result - 1) z))) c.deref.ensures.value
    ∙ (ap (λ z. path_text (names_over m.forms document_names (take (z - 1) d.levels.items))) count
    ∙ open_path m refl d.levels.items d.due s op named (λ b. absurd (let both = c.if-has_begun.ensures.1 b in cc)) (some (length d.levels.items) (λ z. other (count ∙ z))))))
  where
    some : (n : ℕ) → (n ≡ 0 → ⊥) → 0 < n
    some zero h = absurd (h refl)
    some (suc n) h = omega arith
