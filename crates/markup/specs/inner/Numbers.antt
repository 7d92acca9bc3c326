-- What stands in a reference by number before its digits (XML 1.0 §4.1, CharRef).
use Rattle.std.specs.Prelude.{ℕ, ◌==◌, ◌++◌, List, [], codes, if◌then◌else◌}

-- `&#x` before hexadecimal digits, and else `&#`
abbrev pub number_mark : ℕ → List ℕ
number_mark radix = codes "&#" ++ (if radix == 16 then codes "x" else [])
