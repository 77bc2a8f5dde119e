mod Putting
mod Texts
mod Cuts
mod Serving
mod Pieces
mod Answering
mod Ending
mod Asking
