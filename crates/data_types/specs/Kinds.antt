-- The forms of dates and times by their kinds.
use Rattle.std.specs.Prelude.{List, [], codes}
use Rattle.std.specs.Prelude.{ℕ, Bool, true, false}
use Rattle.data_types.specs.declared.kind.Kind.{Kind}
use Rattle.data_types.specs.declared.kind.Kind.TheVariants.{Text, Decimal, Boolean, Binary, Date, DateTime, Time, Year, YearMonth, MonthDay, Month, Day, Envelope}

-- the form of the part with a fixed length: `d` stands for a digit, and every other byte for itself
abbrev pub form_of : Kind → List ℕ
form_of Date = codes "dddd-dd-dd"
form_of DateTime = codes "dddd-dd-ddTdd:dd:dd"
form_of Time = codes "dd:dd:dd"
form_of Year = codes "dddd"
form_of YearMonth = codes "dddd-dd"
form_of MonthDay = codes "--dd-dd"
form_of Month = codes "--dd"
form_of Day = codes "---dd"
form_of Text = []
form_of Decimal = []
form_of Boolean = []
form_of Binary = []
form_of Envelope = []

-- whether the kind has seconds, which may have digits after a point
abbrev pub has_seconds : Kind → Bool
has_seconds DateTime = true
has_seconds Time = true
has_seconds Date = false
has_seconds Year = false
has_seconds YearMonth = false
has_seconds MonthDay = false
has_seconds Month = false
has_seconds Day = false
has_seconds Text = false
has_seconds Decimal = false
has_seconds Boolean = false
has_seconds Binary = false
has_seconds Envelope = false
