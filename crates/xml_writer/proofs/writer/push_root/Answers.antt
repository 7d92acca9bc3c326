use Rattle.std.proofs.Common.{◌≡◌, ℕ, List, [], ◌++◌, codes, flat_map, sym, ap, subst, ◌∙◌, append_assoc, append-nil}
use Rattle.outside.specs.Pushes.{Pushes}
use Rattle.outside.specs.Parts.{part_text}
use Rattle.xml_writer.proofs.writer.push_root.Goals as goal

joined : (front id end : List ℕ) → front ++ (id ++ (codes "\"" ++ (end ++ []))) ≡ ((front ++ id) ++ codes "\"") ++ end
joined front id end =
    let own : end ++ [] ≡ end = append-nil end in
    ap (λ t. front ++ (id ++ (codes "\"" ++ t))) own ∙ sym (append_assoc (front ++ id) (codes "\"") end ∙ append_assoc front id (codes "\"" ++ end))

pub returns : goal.returns
returns g c =
    subst (λ t. Pushes g.O.Sink.held g.O.Sink.faults g.O.Sink.room c.args.sink.now c.render_all.new.sink c.render_all.result t)
    (ap (λ t. codes "<?xml version=\"1.0\" encoding=\"UTF-8\"?>\n<Document xmlns=\"" ++ t) (joined c.args.front.now c.args.id.now c.args.end.now))
    (subst (λ parts. Pushes g.O.Sink.held g.O.Sink.faults g.O.Sink.room c.args.sink.now c.render_all.new.sink c.render_all.result (flat_map part_text parts)) c.as_slice.ensures c.render_all.ensures)
