pub mod ReferentList
pub mod Nearest
pub mod RouteReferents
pub mod Place
pub mod Found
pub mod SaidPosition
pub mod OfRoute
pub mod SaidExpression
