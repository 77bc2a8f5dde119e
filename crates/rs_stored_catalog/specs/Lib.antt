pub mod EnteringViews
pub mod Listing
pub mod Made
pub mod Referents
pub mod Relisting
pub mod RouteReferents
pub mod Views
pub mod Windows
