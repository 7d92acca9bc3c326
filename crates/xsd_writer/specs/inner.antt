-- What private functions alone cite, in reading order.
pub mod NumberedTexts
pub mod Segments
pub mod FacetLines
pub mod StepLines
pub mod TypeContents
