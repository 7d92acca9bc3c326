-- What private functions alone cite, with what the relation between a reader and its bytes (Reading) is made of, in reading order.
-- a token that is begun, a character at a time
pub mod Words
pub mod ReferenceScans
pub mod Scans
pub mod Drafts
pub mod ScanRuns
-- tokens, a byte at a time
pub mod TokenRules
pub mod Tokenizers
pub mod Inside
-- the names and declarations of the open elements
pub mod OpenNames
pub mod Ranks
pub mod Bindings
pub mod Origins
pub mod TagParts
-- the parts of a reader together
pub mod Contexts
pub mod Inputs
pub mod ReaderSteps
-- what is taken at once
pub mod WholeStarts
pub mod StartTags
pub mod Numbers
pub mod ClosedBrackets
pub mod AsideTexts
