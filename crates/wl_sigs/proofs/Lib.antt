pub mod Lookups
mod MessagesNamed
mod Got
mod KeptRules
mod JoinedLookup
mod PlacedKinds
pub mod JoinedValid
mod KindsKept
pub mod ValidKeeps
mod LineRules
mod FirstLine
mod TestedRules
pub mod FirstWords
mod Grown
mod LikeInterface
mod LeastRule
mod Clashes
mod AddedLines
mod ExtensionLines
mod FirstLineWords
mod Gathering
mod Unsaid
mod Bodies
mod GrownStays
mod GrownValid
mod ExtendedValid
mod ReadTables
mod TestsDecide
mod Distinct
mod ByPlace
mod ServerObjects
pub mod ServerObjectsTold
mod RulesDecide
mod CoreValid
mod TextOutcome
