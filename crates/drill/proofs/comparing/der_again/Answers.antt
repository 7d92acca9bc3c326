use Rattle.std.proofs.Common.{◌≡◌, ℕ, ◌≤◌, List, refl, ◌++◌, Some, length, sym, ap, ◌∙◌, subst}
use Rattle.message_model.specs.Tables.{message_of}
use Rattle.der_model.specs.Der.{der_of}
use Rattle.der_model.specs.DerMessage.{der_message}
use Rattle.xml_instances.specs.SpellsXml.{SpellsXml}
use Rattle.transcoder.specs.Limited.{most_bytes}
use Rattle.transcoder.specs.Checked.{IsDerOfXml, HasXmlFault}
use Rattle.drill.proofs.Transcoded.{no_rise, only_memory, pushed_text}
use Rattle.drill.proofs.comparing.der_again.Goals as goal

pub returns-in-Ok : goal.returns-in-Ok
returns-in-Ok c v spells =
    let T = c.args.model.now in
    let bytes = c.new-source.result in
    let same = c.new-source.ensures in
    let spelled = subst (λ b. SpellsXml (message_of T) b v) (sym same) spells in
    let empty = c.new-sink.ensures in
    let have = c.one_verdict.ensures T bytes (c.type_count.ensures.sound, c.type_count.ensures.codes, c.type_count.ensures.sorted, c.type_count.ensures.root) in
    let out = pushed_text (λ (s : List ℕ). Some s) (λ (s : List ℕ). 0) (λ (s : List ℕ). 0) (IsDerOfXml T) (HasXmlFault T) bytes _ c.new-sink.result c.xml_to_der.new.sink
    c.xml_to_der.result c.in-Ok.field-0 c.in-Ok.is c.xml_to_der.ensures.transcoded in
    let holds : c.xml_to_der.new.sink ≡ out.0 = out.2 ∙ ap (λ l. l ++ out.0) empty in
    let is = out.1 in
    let one = have.value is.0 v is.1 spelled in
    holds ∙ (is.3 ∙ ap (der_of (der_message T)) one)

pub wanting-requires : goal.wanting-requires
wanting-requires c =
    let T = c.args.model.now in
    let bytes = c.new-source.result in
    let same = c.new-source.ensures in
    let given = c.requires in
    let spelled = subst (λ b. SpellsXml (message_of T) b given.0) (sym same) given.1 in
    let within : length bytes ≤ most_bytes = subst (λ b. length b ≤ most_bytes) (sym same) given.2 in
    let have = c.one_verdict.ensures T bytes (c.type_count.ensures.sound, c.type_count.ensures.codes, c.type_count.ensures.sorted, c.type_count.ensures.root) in
    only_memory (λ (s : List ℕ). Some s) (λ (s : List ℕ). 0) (λ (s : List ℕ). 0) (IsDerOfXml T) (HasXmlFault T) bytes _ c.new-sink.result c.xml_to_der.new.sink
    c.xml_to_der.result c.in-Err.error (λ f h. have.none f ((given.0, spelled), within) h) (λ e. no_rise (c.xml_to_der.ensures.fault (rw e refl))) no_rise c.xml_to_der.ensures.transcoded c.in-Err.is
