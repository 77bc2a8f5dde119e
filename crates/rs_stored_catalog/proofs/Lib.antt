mod CheckedViews
mod EnteredViews
mod Entering
mod Found
mod ListedBack
mod ListedChanges
mod ListedForth
mod ListedMaps
pub mod MeantReferents
mod MeantViews
mod OneRoute
mod PositionsThere
mod PutReferents
mod QueryTrees
mod Seen
mod ViewTexts
mod WindowsKept
