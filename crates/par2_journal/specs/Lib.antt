pub mod StepViews
pub mod SessionRefusals
pub mod Commands
pub mod Sessions
pub mod Opening
