use Rattle.std.proofs.Common.{refl, sym, subst}
use Rattle.inst_pool.specs.Pieces.{Region}
use Rattle.der_model.specs.DerMessage.{der_message}
use Rattle.der_codec.specs.KeptPieces.{KeepsShown}
use Rattle.der_codec.specs.ReadInstances.{IsSpelledDerAs}
use Rattle.der_codec.proofs.ShownFed.{whole_shown, whole_closed}
use Rattle.der_codec.proofs.checker.DerChecker.instance.Goals as goal

pub finish-requires : goal.finish-requires
finish-requires c =
    let m = der_message c.args.model.now in
    let d = c.args.self.decoder in
    let g = c.requires.given in
    whole_closed m d c.in-Some.builder g.0 (c.if-not-is_over.ensures.yes refl) g.1 (subst (λ z. KeepsShown m d z g.0) c.in-Some.is g.2)

pub returns-clause-ok : goal.returns-clause-ok
returns-clause-ok c = λ bytes r shows.
    let T = c.args.model.now in
    let d = c.args.self.decoder in
    subst (λ (z : Region). IsSpelledDerAs T bytes z.pieces) (sym c.finish.ensures.region)
    (whole_shown T d c.in-Some.builder bytes c.is_sound.ensures.sound (c.if-not-is_over.ensures.yes refl) r (subst (λ z. KeepsShown (der_message T) d z bytes) c.in-Some.is shows))
