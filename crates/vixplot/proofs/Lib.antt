-- figures of ticks
pub mod FigureLemmas
-- the first step that passes
pub mod StepLemmas
-- lines and their numbers
pub mod LineLemmas
