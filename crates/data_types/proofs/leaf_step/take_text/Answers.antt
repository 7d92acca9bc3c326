use Rattle.std.proofs.Common.{[], ◌∷◌, ◌<◌, sym, arith, ◌∙◌}
use Rattle.std.proofs.lemmas.Bool.Decides.{nat_tests}
use Rattle.std.proofs.lemmas.Result.{on_ok_weaker}
use Rattle.std.proofs.lemmas.Str.{encode_ascii}
use Rattle.data_types.proofs.LeafLemmas.{text_taken}
use Rattle.data_types.proofs.leaf_step.take_text.Goals as goal

pub returns-then-is_ascii-clause-ok : goal.returns-then-is_ascii-clause-ok
returns-then-is_ascii-clause-ok c =
    let ascii : c.args.c < 128 = grind (arith, nat_tests, c.if-is_ascii.ensures) in
    on_ok_weaker c.take.result (text_taken c.args.text.now c.take.new.self (c.args.c ∷ []) c.args.c (sym (encode_ascii c.args.c ascii)) c.requires) c.take.ensures.ok

pub returns-clause-ok : goal.returns-clause-ok
returns-clause-ok c =
    on_ok_weaker c.take-2.result
    (text_taken c.args.text.now c.take-2.new.self c.as_bytes.result.now c.args.c (c.as_bytes.ensures.value ∙ c.encode_utf8.ensures.value) c.requires)
    c.take-2.ensures.ok
