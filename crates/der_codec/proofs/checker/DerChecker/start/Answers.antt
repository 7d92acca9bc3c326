use Rattle.std.proofs.Common.{[], refl, arith}
use Rattle.message_model.specs.Tables.{types_of}
use Rattle.der_model.specs.DerMessage.{der_message}
use Rattle.der_codec.proofs.Fed.{keeps_none}
use Rattle.der_codec.proofs.ShownFed.{first_shows}
use Rattle.der_codec.proofs.checker.DerChecker.start.Goals as goal

pub returns-clause-made : goal.returns-clause-made
returns-clause-made c = λ T. record {
  checks = c.new-3.ensures.made (types_of T);
  given = λ none. (
    [],
    record {
      reading = record {
        read = c.new.ensures.read (der_message T);
        waits = c.new.ensures.waits;
        keeps = keeps_none T c.new.result.due c.args.pieces c.new.result.start c.new-2.result c.new-2.ensures;
        shows = first_shows (der_message T) c.new.result c.args.pieces c.requires;
      };
      short = omega arith;
      sound = refl;
    },
  );
  freed = λ e failed. absurd cc;
}

pub returns-clause-fed : goal.returns-clause-fed
returns-clause-fed c = λ T. record {
  reading = record {
    read = c.new.ensures.read (der_message T);
    waits = c.new.ensures.waits;
    keeps = keeps_none T c.new.result.due c.args.pieces c.new.result.start c.new-2.result c.new-2.ensures;
    shows = first_shows (der_message T) c.new.result c.args.pieces c.requires;
  };
  short = omega arith;
  sound = refl;
}

pub returns-clause-keeping : goal.returns-clause-keeping
returns-clause-keeping c = λ T region is. record {
  region = region;
  is = is;
  reserved = record { depth = omega arith; octets = omega arith; nodes = omega arith; bytes = omega arith; checks = λ some. absurd (omega (arith, some)) };
}
