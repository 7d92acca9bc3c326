-- The text of why the bytes that a source has left are not given.
use Rattle.std.specs.Prelude.{ℕ, List, codes}
use Rattle.outside.specs.declared.reading.ReadError.{ReadError}
use Rattle.outside.specs.declared.reading.ReadError.TheVariants.{TooLong, ReadFault, Memory}

-- what is printed
abbrev pub read_error_text : ReadError → List ℕ
read_error_text TooLong = codes "more bytes than the limit"
read_error_text ReadFault = codes "the source failed"
read_error_text Memory = codes "out of memory"
