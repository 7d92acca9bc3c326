-- The text of a part.
use Rattle.std.specs.Prelude.{ℕ, List}
use Rattle.std.specs.Fmt.{decimal}
use Rattle.outside.specs.declared.render.Part.{Part}
use Rattle.outside.specs.declared.render.Part.TheVariants.{Bytes, Number}

abbrev pub part_text : Part → List ℕ
part_text (Bytes bytes) = bytes.now
part_text (Number number) = decimal number
