pub mod TokensSay
pub mod PrintedPositions
pub mod ViewLines
pub mod WideViews
pub mod Given
