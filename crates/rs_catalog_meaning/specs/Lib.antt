pub mod Fitting
pub mod Meaning
pub mod Places
pub mod Stating
