pub mod Blocks
pub mod Lines
pub mod NestedSteps
pub mod NumberedTexts
pub mod Occurrences
pub mod Spaces
pub mod TypeTexts
