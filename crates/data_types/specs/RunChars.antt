-- The characters of a run of bytes.
use Rattle.std.specs.Prelude.{◌≡◌, ℕ, ◌<◌, List}
use Rattle.std.specs.List.{AllByRecursion}
use Rattle.std.specs.Str.{chars}
use Rattle.data_types.specs.declared.run.RunChars.{RunChars}
use Rattle.data_types.specs.declared.run.RunChars.TheVariants.{Codes, Text}

-- they are these characters
abbrev pub SpellsRun : RunChars → List ℕ → Type 0
SpellsRun (Codes codes) cs = (codes.now ≡ cs) × AllByRecursion (λ c. c < 128) cs
SpellsRun (Text text) cs = chars text.now ≡ cs

-- their bytes are these
abbrev pub HasBytes : RunChars → List ℕ → Type 0
HasBytes (Codes codes) bytes = codes.now ≡ bytes
HasBytes (Text text) bytes = text.now ≡ bytes
