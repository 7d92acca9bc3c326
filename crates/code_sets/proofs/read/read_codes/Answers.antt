-- Each record is read behind those before.
use Rattle.std.proofs.Common.{◌≡◌, ℕ, List, [], ◌∷◌, ◌++◌, Some, Bor, refl, sym, ap, subst, ◌∙◌, rules, inl, inr}
use Rattle.std.proofs.lemmas.List.Elements.{All-nil, All-push}
use Rattle.csv.specs.Reading.{Reached, default_config, strip_bom}
use Rattle.csv.specs.Records.{fields_of}
use Rattle.csv.specs.declared.parser.State.TheVariants as st
use Rattle.csv.proofs.ReadFacts.{rows-more}
use Rattle.lexical_core.specs.Characters.{IsXmlText}
use Rattle.code_sets.specs.declared.record.CodeRecord.{CodeRecord}
use Rattle.code_sets.specs.CodesErrors.{AreCodes}
use Rattle.code_sets.proofs.Records.{sound_more, lists_more, number_of_next}
use Rattle.code_sets.proofs.read.read_codes.Goals as goal

pub loop-row-init : goal.loop-row-init
unfolding Reached
loop-row-init c =
    let fr = c.from_reader-reader.ensures in
    let e = c.has_headers.ensures in
    let f = c.flexible.ensures in
    let start = c.into_iter-row-iterator.ensures.into_iter_gives ∙ refl in
    let rdr = c.into_byte_records-row-items.ensures.rdr in
    let left = c.into_byte_records-row-items.ensures.left in
    rw (start, rdr, c.new-lists.ensures) (
      rw (f, e) at fr.trim ∙ c.new.ensures.trim,
      inr (inr (rw (f, e) at fr.has_headers, fr.headers)),
      left,
      rw (f, e) at fr.config ∙ c.new.ensures.config,
      strip_bom c.args.bytes.now,
      fr.source,
      [],
      (sym fr.state, refl),
      tt,
      refl,
      All-nil (λ (r : CodeRecord). IsXmlText r.code),
    )

pub loop-row-preserved : goal.loop-row-preserved
loop-row-preserved c =
    let inv = c.loop-row.invariant in
    let s = rw (c.in-Some.is, c.in-Ok.is) at ((c.next.ensures.steps inv.2 inv.0).0 inv.1) in
    let fields = fields_of c.in-Ok.row in
    let m = rows-more (λ (s : Bor (List ℕ)). Some s.now) c.loop-row.row-iterator.rdr c.next.new.self.rdr fields default_config st.StartRecord (strip_bom c.args.bytes.now) inv.4 inv.6 inv.3 inv.5 inv.7 s.0 in
    let ok = c.in-Ok-judged.ensures.ok in
    let pushed : c.push.new.self ≡ c.loop-row.lists ++ c.in-Ok-kept.record ∷ [] = search rules in (
      s.0.3 ∙ inv.0,
      inl s.1,
      s.2,
      s.0.2 ∙ inv.3,
      m.0,
      m.1,
      inv.6 ++ fields ∷ [],
      m.2,
      sound_more inv.6 fields inv.8 ok.1,
      pushed ∙ lists_more inv.6 fields c.in-Ok-judged.set.now c.in-Ok-judged.code.now c.loop-row.lists c.in-Ok-kept.record c.len.result inv.9 inv.8 ok.0 c.len.ensures c.in-Ok-kept.ensures,
      subst AreCodes (sym pushed) (All-push (λ (r : CodeRecord). IsXmlText r.code) c.loop-row.lists c.in-Ok-kept.record inv.10 (subst IsXmlText (sym (ap (λ (r : CodeRecord). r.code) c.in-Ok-kept.ensures)) c.in-Ok-judged.ensures.code)),
    )

pub returns-in-Err-clause-err : goal.returns-in-Err-clause-err
returns-in-Err-clause-err c =
    let inv = c.loop-row.invariant in
    let s = rw (c.in-Some.is, c.in-Ok.is) at ((c.next.ensures.steps inv.2 inv.0).0 inv.1) in
    let fields = fields_of c.in-Ok.row in
    let m = rows-more (λ (s : Bor (List ℕ)). Some s.now) c.loop-row.row-iterator.rdr c.next.new.self.rdr fields default_config st.StartRecord (strip_bom c.args.bytes.now) inv.4 inv.6 inv.3 inv.5 inv.7 s.0 in
    record {
      before = inv.6;
      fields = fields;
      front = (c.next.new.self.rdr.state, m.0, m.2);
      sound = inv.8;
      broken = c.in-Err.ensures.err;
      number_is = number_of_next inv.6 c.loop-row.lists c.len.result inv.9 inv.8 c.len.ensures;
    }
