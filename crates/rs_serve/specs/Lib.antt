pub mod ReplyView
pub mod Said
