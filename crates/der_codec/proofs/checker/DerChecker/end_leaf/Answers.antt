use Rattle.std.proofs.Common.{sym, subst, refl}
use Rattle.der_model.specs.DerMessage.{der_message}
use Rattle.der_codec.specs.Decoding.{HasReadParts, IsFresh}
use Rattle.der_codec.specs.OpenLeaves.{HoldsNothing}
use Rattle.der_codec.specs.KeptPieces.{KeepsShown}
use Rattle.der_codec.specs.declared.decoder.Decoder.{Decoder}
use Rattle.der_codec.proofs.Fed.{at_memory}
use Rattle.der_codec.proofs.Keeping.{enough_then, not_ok}
use Rattle.der_codec.proofs.RoomSteps.{leaf_end_enough}
use Rattle.der_codec.proofs.checker.DerChecker.end_leaf.Goals as goal

pub end_component-requires : goal.end_component-requires
end_component-requires c = (let g = c.requires.given in (g.0, g.1.read, g.1.around g.1.read))

pub end_here-requires-clause-fresh : goal.end_here-requires-clause-fresh
end_here-requires-clause-fresh c = subst (λ (z : Decoder). IsFresh z.due) (sym c.in-Ok.ensures.decoder) c.requires.fresh

pub end_here-requires-clause-kept : goal.end_here-requires-clause-kept
end_here-requires-clause-kept c = subst HoldsNothing (sym c.in-Ok.ensures.kept) c.requires.kept

pub end_here-requires-clause-given : goal.end_here-requires-clause-given
end_here-requires-clause-given c =
    let m = der_message c.args.model.now in
    let g = c.requires.given in
    let h = c.in-Ok.ensures in
    let new = c.end_component.new.self in (
      g.0,
      subst (λ (z : Decoder). HasReadParts m z g.0) (sym h.decoder) g.1.read,
      subst (λ (z : Decoder). KeepsShown m z new.pieces g.0) (sym h.decoder) (g.1.closes new.pieces (λ t. h.shown g.0 t (g.1.around t))),
    )

pub returns-in-Ok-clause-ok : goal.returns-in-Ok-clause-ok
returns-in-Ok-clause-ok c = λ bytes g.
    let m = der_message c.args.model.now in
    let h = c.in-Ok.ensures in
    let new = c.end_component.new.self in
    c.end_here.ensures.ok bytes (subst (λ (z : Decoder). HasReadParts m z bytes) (sym h.decoder) g.read) (subst (λ (z : Decoder). KeepsShown m z new.pieces bytes) (sym h.decoder) (g.closes new.pieces (λ t. h.shown bytes t (g.around t))))

pub returns-in-Ok-clause-err : goal.returns-in-Ok-clause-err
returns-in-Ok-clause-err c = λ bytes r. c.end_here.ensures.err bytes (subst (λ (z : Decoder). HasReadParts (der_message c.args.model.now) z bytes) (sym c.in-Ok.ensures.decoder) r)

pub returns-in-Err-clause-err : goal.returns-in-Err-clause-err
returns-in-Err-clause-err c = λ bytes r. at_memory c.args.model.now c.end_component.new.self.decoder bytes c.in-Err.stop c.in-Err.ensures.err

pub returns-in-Ok-clause-memory : goal.returns-in-Ok-clause-memory
returns-in-Ok-clause-memory c = λ bytes g e is.
    let m = der_message c.args.model.now in
    let h = c.in-Ok.ensures in
    let new = c.end_component.new.self in
    c.end_here.ensures.memory bytes (subst (λ (z : Decoder). HasReadParts m z bytes) (sym h.decoder) g.read) (subst (λ (z : Decoder). KeepsShown m z new.pieces bytes) (sym h.decoder) (g.closes new.pieces (λ t. h.shown bytes t (g.around t))))
    (enough_then c.args.model.now c.args.self.now new bytes bytes refl h.keeps h.same e) is

pub returns-in-Err-clause-memory : goal.returns-in-Err-clause-memory
returns-in-Err-clause-memory c = λ bytes g e is. not_ok (c.in-Err.ensures.within bytes g.read (leaf_end_enough c.args.model.now c.args.self.now bytes g e))
