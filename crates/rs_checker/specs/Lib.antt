pub mod CheckedView
pub mod Numbers
pub mod Checks
pub mod Inner
pub mod NodeView
pub mod Sizes
pub mod Steps
pub mod Nodes
