pub mod Among
pub mod Commuting
pub mod Indexed
pub mod Next
pub mod Placing
pub mod Readied
pub mod ReferentWholes
pub mod Replaced
pub mod Tabled
pub mod Wholes
mod ClearedOnly
mod Completion
mod EndedReferents
mod Redefined
mod TakenRows
mod TablesPlaced
