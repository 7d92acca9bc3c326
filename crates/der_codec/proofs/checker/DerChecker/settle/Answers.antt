use Rattle.std.proofs.Common.{◌++◌, refl, sym, subst, arith}
use Rattle.message_model.specs.Tables.{types_of}
use Rattle.der_codec.specs.Checked.{CheckTypes}
use Rattle.der_codec.proofs.Fed.{none_more, within_more}
use Rattle.der_codec.proofs.Keeping.{enough_less, err_as}
use Rattle.der_codec.proofs.checker.DerChecker.settle.Goals as goal

pub returns-in-Ok : goal.returns-in-Ok
returns-in-Ok c = record {
  checks = subst (CheckTypes (types_of c.args.model.now)) (sym c.in-Ok.ensures.checks) c.requires.checks;
  sound = c.in-Ok.ensures.sound;
  within = omega arith;
  ok = λ bytes r shows. (let new = c.end_open.new.self in none_more c.args.model.now new.decoder new.kept new.pieces bytes c.args.behind.now (c.in-Ok.ensures.ok bytes r shows));
  err = λ bytes r. tt;
  keeps = c.in-Ok.ensures.keeps;
  same = c.in-Ok.ensures.same;
  alone = c.in-Ok.ensures.alone;
  memory = λ bytes r shows e is. absurd cc;
}

pub returns-in-Err : goal.returns-in-Err
returns-in-Err c = record {
  checks = subst (CheckTypes (types_of c.args.model.now)) (sym c.in-Err.ensures.checks) c.requires.checks;
  sound = c.in-Err.ensures.sound;
  within = tt;
  ok = λ bytes r shows. tt;
  err = λ bytes r. within_more c.args.model.now c.end_open.new.self.decoder bytes c.args.behind.now (bytes ++ c.args.behind.now) c.in-Err.stop refl (c.in-Err.ensures.err bytes r);
  keeps = c.in-Err.ensures.keeps;
  same = c.in-Err.ensures.same;
  alone = c.in-Err.ensures.alone;
  memory = λ bytes r shows e is. c.in-Err.ensures.memory bytes r shows (enough_less c.args.model.now c.args.self.now bytes c.args.behind.now (bytes ++ c.args.behind.now) refl e) (err_as _ _ is);
}
