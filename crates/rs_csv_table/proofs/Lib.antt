mod Readers
mod Portions
mod Greatest
