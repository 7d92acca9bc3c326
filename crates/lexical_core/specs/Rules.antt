-- The rules of instance faults: what each is called, and which of several at one place is told.
use Rattle.std.specs.Prelude.{ℕ, List, codes}
use Rattle.lexical_core.specs.declared.rule.Rule.{Rule}
use Rattle.lexical_core.specs.declared.rule.Rule.TheVariants.{BadUtf8, BadMarkup, Doctype, BadReference, BadChar, DuplicateAttribute, BadPrefix, TagMismatch, TextOutside, Truncated, AfterRoot, WrongRoot, UnknownElement, OutOfOrder, TooMany, Missing, SecondAlternative, TextInComplex, ElementInSimple, UnknownAttribute, MissingAttribute, BadText, BadLength, PatternFails, NotACode, Digits, OutOfRange, InputTooLong, BadTagOctets, BadLengthOctets, Overrun, UnexpectedTag, DerMissing, DerTooMany, TooFew, BadContents, Trailing, DerTruncated}

-- the name that a refusal prints
abbrev pub name_of : Rule → List ℕ
name_of BadUtf8 = codes "BadUtf8"
name_of BadMarkup = codes "BadMarkup"
name_of Doctype = codes "Doctype"
name_of BadReference = codes "BadReference"
name_of BadChar = codes "BadChar"
name_of DuplicateAttribute = codes "DuplicateAttribute"
name_of BadPrefix = codes "BadPrefix"
name_of TagMismatch = codes "TagMismatch"
name_of TextOutside = codes "TextOutside"
name_of Truncated = codes "Truncated"
name_of AfterRoot = codes "AfterRoot"
name_of WrongRoot = codes "WrongRoot"
name_of UnknownElement = codes "UnknownElement"
name_of OutOfOrder = codes "OutOfOrder"
name_of TooMany = codes "TooMany"
name_of Missing = codes "Missing"
name_of SecondAlternative = codes "SecondAlternative"
name_of TextInComplex = codes "TextInComplex"
name_of ElementInSimple = codes "ElementInSimple"
name_of UnknownAttribute = codes "UnknownAttribute"
name_of MissingAttribute = codes "MissingAttribute"
name_of BadText = codes "BadText"
name_of BadLength = codes "BadLength"
name_of PatternFails = codes "PatternFails"
name_of NotACode = codes "NotACode"
name_of Digits = codes "Digits"
name_of OutOfRange = codes "OutOfRange"
name_of InputTooLong = codes "InputTooLong"
name_of BadTagOctets = codes "BadTagOctets"
name_of BadLengthOctets = codes "BadLengthOctets"
name_of Overrun = codes "Overrun"
name_of UnexpectedTag = codes "UnexpectedTag"
name_of DerMissing = codes "Missing"
name_of DerTooMany = codes "TooMany"
name_of TooFew = codes "TooFew"
name_of BadContents = codes "BadContents"
name_of Trailing = codes "Trailing"
name_of DerTruncated = codes "Truncated"

-- the number by which the least of the rules broken at one place is told
abbrev pub number_of : Rule → ℕ
number_of BadUtf8 = 1
number_of BadMarkup = 2
number_of Doctype = 3
number_of BadReference = 4
number_of BadChar = 5
number_of DuplicateAttribute = 6
number_of BadPrefix = 7
number_of TagMismatch = 8
number_of TextOutside = 9
number_of Truncated = 10
number_of AfterRoot = 11
number_of WrongRoot = 12
number_of UnknownElement = 13
number_of OutOfOrder = 14
number_of TooMany = 15
number_of Missing = 16
number_of SecondAlternative = 17
number_of TextInComplex = 18
number_of ElementInSimple = 19
number_of UnknownAttribute = 20
number_of MissingAttribute = 21
number_of BadText = 22
number_of BadLength = 23
number_of PatternFails = 24
number_of NotACode = 25
number_of Digits = 26
number_of OutOfRange = 27
number_of InputTooLong = 28
number_of BadTagOctets = 30
number_of BadLengthOctets = 31
number_of Overrun = 32
number_of UnexpectedTag = 33
number_of DerMissing = 34
number_of DerTooMany = 35
number_of TooFew = 36
number_of BadContents = 37
number_of Trailing = 38
number_of DerTruncated = 39
