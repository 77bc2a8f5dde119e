mod States
mod QueryRuns
mod Counting
mod CanPlan
mod RouteEnds
mod PlannedRows
pub mod LineTexts
pub mod NamedRoutes
mod ShownLines
pub mod Starts
mod PresentLines
mod QueryAnswers
mod VisitedRoutes
mod TotalsVisited
mod TotalRows
mod Leavings
mod ResumedRuns
mod Marking
mod WindowRows
mod PlansWithin
mod Narrowing
