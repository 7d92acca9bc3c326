use Rattle.std.proofs.Common.{◌≡◌, ℕ, ◌≤◌, List, refl, ◌++◌, Some, length, sym, ap, ◌∙◌, subst}
use Rattle.message_model.specs.Tables.{message_of}
use Rattle.der_model.specs.Der.{SpellsDer}
use Rattle.der_model.specs.DerMessage.{der_message}
use Rattle.xml_writer.specs.CanonXml.{IsCanonXml}
use Rattle.transcoder.specs.Limited.{most_bytes}
use Rattle.transcoder.specs.Checked.{IsXmlOfDer, HasDerFault}
use Rattle.drill.proofs.Transcoded.{no_rise, only_memory, pushed_text}
use Rattle.drill.proofs.comparing.xml_again.Goals as goal

pub returns-in-Ok : goal.returns-in-Ok
returns-in-Ok c v spells =
    let T = c.args.model.now in
    let bytes = c.new-source.result in
    let same = c.new-source.ensures in
    let spelled = subst (λ b. SpellsDer (der_message T) b v) (sym same) spells in
    let empty = c.new-sink.ensures in
    let have = c.one_der_verdict.ensures T bytes (c.type_count.ensures.sound, c.type_count.ensures.codes, c.type_count.ensures.sorted, c.type_count.ensures.root) in
    let out = pushed_text (λ (s : List ℕ). Some s) (λ (s : List ℕ). 0) (λ (s : List ℕ). 0) (IsXmlOfDer T) (HasDerFault T) bytes _ c.new-sink.result c.der_to_xml.new.sink
    c.der_to_xml.result c.in-Ok.field-0 c.in-Ok.is c.der_to_xml.ensures.transcoded in
    let holds : c.der_to_xml.new.sink ≡ out.0 = out.2 ∙ ap (λ l. l ++ out.0) empty in
    let is = out.1 in
    let one = have.value is.0 v is.1 spelled in
    subst (λ text. IsCanonXml (message_of T) v text) (sym holds) (subst (λ x. IsCanonXml (message_of T) x out.0) one is.3)

pub wanting-requires : goal.wanting-requires
wanting-requires c =
    let T = c.args.model.now in
    let bytes = c.new-source.result in
    let same = c.new-source.ensures in
    let given = c.requires in
    let spelled = subst (λ b. SpellsDer (der_message T) b given.0) (sym same) given.1 in
    let within : length bytes ≤ most_bytes = subst (λ b. length b ≤ most_bytes) (sym same) given.2 in
    let have = c.one_der_verdict.ensures T bytes (c.type_count.ensures.sound, c.type_count.ensures.codes, c.type_count.ensures.sorted, c.type_count.ensures.root) in
    only_memory (λ (s : List ℕ). Some s) (λ (s : List ℕ). 0) (λ (s : List ℕ). 0) (IsXmlOfDer T) (HasDerFault T) bytes _ c.new-sink.result c.der_to_xml.new.sink
    c.der_to_xml.result c.in-Err.error (λ f h. have.none f ((given.0, spelled), within) h) (λ e. no_rise (c.der_to_xml.ensures.fault (rw e refl))) no_rise c.der_to_xml.ensures.transcoded c.in-Err.is
