-- What private functions alone cite, in reading order.
pub mod Commands
pub mod Arms
pub mod StepLaws
