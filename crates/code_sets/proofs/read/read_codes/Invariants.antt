-- The records so far are those at the front of the bytes; they break no rule, and are kept.
use Rattle.std.proofs.Common.{◌≡◌, ◌<◌, ℕ, List, Some}
use Rattle.csv.specs.Reading.{Reached, Ready, default_config, source_of, strip_bom}
use Rattle.csv.specs.declared.parser.State.TheVariants as st
use Rattle.csv.specs.declared.reader.Trim.TheVariants as trim
use Rattle.code_sets.specs.Codes.{Fields, AreSoundRecords, numbered_records}
use Rattle.code_sets.specs.CodesErrors.{AreCodes}
use Rattle.code_sets.proofs.read.read_codes.Given as goal

abbrev pub invariant-loop-row : goal.invariant-loop-row
invariant-loop-row l = (l.row-iterator.rdr.trim ≡ trim.None) × Ready l.row-iterator.rdr × (0 < l.row-iterator.left) × (l.row-iterator.rdr.config ≡ default_config)
    × (y : List ℕ) × (source_of (λ s. Some s.now) l.row-iterator.rdr ≡ Some y)
    × (rows : List Fields) × Reached default_config st.StartRecord (strip_bom l.fn.bytes) rows l.row-iterator.rdr.state y
    × AreSoundRecords rows × (l.lists ≡ numbered_records 1 rows) × AreCodes l.lists
