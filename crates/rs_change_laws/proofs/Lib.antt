pub mod NamedEntries
pub mod OtherReferents
pub mod ReferentLists
pub mod ReferentSteps
mod ReferentTurns
mod Completed
mod DroppedRoutes
mod Fewer
mod MoreRoutes
mod NewDefinitions
mod NewRoutes
mod OffRoute
mod OnRoutes
mod OtherDefinitions
mod OtherIndexes
mod OtherTables
mod TableEvents
mod TableRows
mod Turned
