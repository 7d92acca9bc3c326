use Rattle.std.proofs.Common.{◌<◌, length, subst}
use Rattle.message_model.specs.Tables.{types_of}
use Rattle.der_model.specs.DerMessage.{der_message}
use Rattle.der_model.specs.OpenParts.{IsPrimitiveSpot}
use Rattle.der_codec.specs.Levels.{IsSpot}
use Rattle.der_codec.proofs.contents.judge.Goals as goal

pub returns-in-Value-clause-within : goal.returns-in-Value-clause-within
returns-in-Value-clause-within c = λ bytes h plain few prim is.
    let T = c.args.model.now in
    c.judge_value.ensures.within bytes h plain few (subst (IsPrimitiveSpot (λ n. n < length T.types) (der_message T)) (subst (λ z. IsSpot (types_of T) z prim.0) c.in-Value.is prim.1) prim.2) is

pub returns-in-Number-clause-within : goal.returns-in-Number-clause-within
returns-in-Number-clause-within c = λ bytes h plain few prim is.
    let T = c.args.model.now in
    c.judge_number.ensures.within bytes h plain few (subst (IsPrimitiveSpot (λ n. n < length T.types) (der_message T)) (subst (λ z. IsSpot (types_of T) z prim.0) c.in-Number.is prim.1) prim.2) is

pub returns-in-Instance-clause-within : goal.returns-in-Instance-clause-within
returns-in-Instance-clause-within c = λ bytes h plain few prim is.
    let T = c.args.model.now in
    subst (IsPrimitiveSpot (λ n. n < length T.types) (der_message T)) (subst (λ z. IsSpot (types_of T) z prim.0) c.in-Instance.is prim.1) prim.2

pub returns-in-List-clause-within : goal.returns-in-List-clause-within
returns-in-List-clause-within c = λ bytes h plain few prim is.
    let T = c.args.model.now in
    subst (IsPrimitiveSpot (λ n. n < length T.types) (der_message T)) (subst (λ z. IsSpot (types_of T) z prim.0) c.in-List.is prim.1).2 prim.2
