use Rattle.std.proofs.Common.{◌+◌, ◌∷◌, [], ℕ, append_assoc, map}
use Rattle.std.proofs.lemmas.Fmt.{decimal-digits_of}
use Rattle.std.specs.Int.Digits.{digits_of}
use Rattle.respell.proofs.spelling.push_prefix.Goals as goal

pub returns : goal.returns
returns c =
    let p = c.requires in let f = c.ranges.number.fits in
    rw (c.in_ok-extend-2.ensures.ok, c.in_ok-extend.ensures.ok, c.as_bytes.ensures.value, c.format.ensures.text, decimal-digits_of c.args.number p f)
    (append_assoc c.args.text.now (97 ∷ []) (map (λ (d : ℕ). 48 + d) (digits_of 10 c.args.number)))
