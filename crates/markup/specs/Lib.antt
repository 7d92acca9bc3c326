-- characters, by the classes of XML
pub mod Ascii
pub mod Chars
-- what a token is made of
pub mod Name
pub mod Reference
pub mod Attribute
pub mod Declaration
-- the tokens, and where they stand in bytes
pub mod Token
pub mod Marks
pub mod Longest
-- what they tell, and the rule that is broken first
pub mod Events
pub mod Faults
-- tags that may be taken whole
pub mod PlainTags
pub mod PlainStarts
pub mod TagAttributes
-- what a reader was given and has told
pub mod EventItems
pub mod Scopes
pub mod Reading
pub mod ErrorTexts
-- what else it may take whole, and runs of characters
pub mod Literals
pub mod References
pub mod Asides
-- that what stands at the front of an input stands there whatever follows
pub mod Standing
-- the machine: what the parts of a reader keep
pub mod inner
